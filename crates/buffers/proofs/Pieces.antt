-- Pieces laid into a buffer one after another, each made of an element of a list.
-- Assumes nothing.
use Prim.Native.Nat.{ℕ, ◌+◌, ◌<◌}
use mathlib.Core.Path.{◌≡◌, sym, ap}
use mathlib.Core.List.{List, []}
use lib.ListN.{length, get_or, take}
use Rattle.combinators.specs.Lists.{gather, gather_next}
use Rattle.buffers.specs.Buffers.{Laid}
use Rattle.buffers.proofs.Laws.{laid_then, laid_as, laid_nothing, laid_within}

module _ {A : Type 0} (l : List A) (piece : A → List ℕ) where
  -- none yet: after an empty text
  pub pieces_start : {old : List ℕ} {at next : ℕ} {new : List ℕ} → Laid old at [] next new → Laid new next (gather piece (take 0 l)) next new
  pieces_start {next = next} {new = new} p = laid_nothing new next next (laid_within p)

  -- one more
  pub pieces_next : (i : ℕ) (d : A) {old : List ℕ} {at between : ℕ} {mid : List ℕ} {next : ℕ} {new : List ℕ} → i < length l
      → Laid old at (gather piece (take i l)) between mid → Laid mid between (piece (get_or l i d)) next new
      → Laid old at (gather piece (take (i + 1) l)) next new
  pieces_next i d h p q = laid_as (sym (gather_next l d piece i h)) (laid_then p q)

  -- all of them
  pub pieces_end : (i n : ℕ) {old : List ℕ} {at between : ℕ} {mid : List ℕ} {next : ℕ} {new : List ℕ} → i ≡ n
      → Laid old at [] between mid → Laid mid between (gather piece (take i l)) next new → Laid old at (gather piece (take n l)) next new
  pieces_end i n e p q = laid_as (ap (λ (k : ℕ). gather piece (take k l)) e) (laid_then p q)
