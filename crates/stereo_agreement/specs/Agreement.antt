-- 'A set accepted here is accepted by both readings, with closure 0, 1.' That it is so stands in proofs/Agreement.antt, `set_in_both`.
-- Assumes nothing.
use Rattle.std.specs.Prelude.{ℕ, ◌≡◌, List, Ok}
use Rattle.vocabulary.specs.declared.stream_types.Reading.{Reading}
use Rattle.es_loop.specs.Reading.{loop_read}
use Rattle.loop_layers.specs.Closures.{loop_closure}

-- a set of layer indices is a number whose bit i is 1 where i is a member: 1 has 0 alone, and 3 has 0 and 1
pub record BothReadings (bytes : List ℕ) : Type 0 where
  pub accepts : (reading : Reading) → (loop_read reading bytes).outcome ≡ Ok tt
  pub closure_0 : (reading : Reading) → loop_closure reading bytes 0 ≡ Ok 1
  pub closure_1 : (reading : Reading) → loop_closure reading bytes 1 ≡ Ok 3
