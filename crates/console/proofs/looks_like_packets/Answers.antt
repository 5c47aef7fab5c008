-- `console::looks_like_packets` meets its contract. The loop's invariant: every packet passed starts with the sync byte.
-- Assumes nothing.
use Prim.Native.Nat.{ℕ, ◌<◌}
use mathlib.Core.Bool.{Bool, true, false}
use mathlib.Core.List.{List}
use mathlib.Core.Path.{◌≡◌, refl}
use native.Mathlib.Omega.{arith}
use native.Mathlib.Numerals.{add-one}
use borrow.Author.Tests.{eq-eqb, ne_eqb, lt-ltb, le-ltb}
use Rattle.combinators.specs.Below.{every, every_at}
use Rattle.combinators.specs.Bools.{both_ways}
use Rattle.console.specs.Inputs.{starts_packet, packets_in}
use Rattle.console.proofs.looks_like_packets.Goals as goal

-- one packet without the sync byte is enough
not_every : (bytes : List ℕ) (k n : ℕ) → starts_packet bytes k ≡ false → k < n → every (starts_packet bytes) n ≡ false
not_every bytes k n e h = go (every (starts_packet bytes) n) (λ t. every_at (starts_packet bytes) n t k h)
  where
    go : (b : Bool) → (b ≡ true → starts_packet bytes k ≡ true) → b ≡ false
    go true f = both_ways (f refl) e
    go false f = refl

pub returns-then-bytes-lt188 : goal.returns-then-bytes-lt188
returns-then-bytes-lt188 c = rw (lt-ltb _ _ c.if-bytes-lt188.true)

pub loop-k-init : goal.loop-k-init
loop-k-init c = (omega arith, refl)

pub returns-then-bytes-k-ne-SYNC_BYTE : goal.returns-then-bytes-k-ne-SYNC_BYTE
returns-then-bytes-k-ne-SYNC_BYTE c =
    let bytes = c.args.bytes.now in
    let k = c.loop-k.k in
    rw (le-ltb _ _ c.if-bytes-lt188.false, not_every bytes k (packets_in bytes) (ne_eqb _ _ c.if-bytes-k-ne-SYNC_BYTE.true) (omega arith))

pub loop-k-preserved : goal.loop-k-preserved
loop-k-preserved c =
    let k = c.loop-k.k in
    (omega arith, rw (add-one k, c.loop-k.invariant.1, eq-eqb _ _ c.if-bytes-k-ne-SYNC_BYTE.false))

pub returns : goal.returns
returns c =
    let bytes = c.args.bytes.now in
    let all : c.loop-k.k ≡ packets_in bytes = omega arith in
    rw (le-ltb _ _ c.if-bytes-lt188.false, ← all, c.loop-k.invariant.1)
