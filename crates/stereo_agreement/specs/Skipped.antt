-- ELSEWHERE TAG 49 IS SKIPPED: what it is that two loops differ in nothing but their descriptors of tag 49, and in the lengths that count them. That they are
-- read alike stands in proofs/Skipped.antt.
-- Assumes nothing.
use Rattle.std.specs.Prelude.{ℕ, ◌≡◌, List, [], ◌∷◌, eqb}
use mathlib.Core.Bool.{cond}
use Rattle.combinators.specs.Lists.{gather}
use Rattle.framing.specs.Pieces.{Item, whole, broken, cut}
use Rattle.descriptor_heads.specs.Head.{descriptor_tag, descriptor_length}
use Rattle.loop_entries.specs.Entries.{stream_type, elementary_pid}

-- the descriptors but those of tag 49
abbrev pub unless_extension : Item → List Item
unless_extension (whole head payload) = cond (eqb (descriptor_tag head) 49) [] (whole head payload ∷ [])
unless_extension broken = broken ∷ []

abbrev pub others : List ℕ → List Item
others info = gather unless_extension (cut 2 descriptor_length info)

-- two loops that differ in nothing else: entry by entry the same type, the same PID and the same other descriptors
pub data AlikeEntry : Item → Item → Type 0 where
  both_broken : AlikeEntry broken broken
  same_others : {head head' info info' : List ℕ} → stream_type head ≡ stream_type head' → elementary_pid head ≡ elementary_pid head' → others info ≡ others info'
      → AlikeEntry (whole head info) (whole head' info')

pub data Alike : List Item → List Item → Type 0 where
  no_entries : Alike [] []
  entry_then : {x y : Item} {xs ys : List Item} → AlikeEntry x y → Alike xs ys → Alike (x ∷ xs) (y ∷ ys)
