-- The search for a member that names what is none, as the code does it: from the lowest member on.
-- Assumes nothing.
use Prim.Native.Nat.{ℕ, ◌^◌, ◌≤◌, ◌<◌}
use mathlib.Core.Bool.{Bool, true, false, not, ◌||◌}
use mathlib.Core.List.{◌∷◌}
use mathlib.Core.Path.{◌≡◌, refl, sym, ap, ◌∙◌}
use native.Mathlib.Omega.{arith}
use lib.Dec.{eqb}
use lib.ListN.{length, get_or}
use Rattle.combinators.specs.Lists.{any}
use Rattle.sets.specs.Sets.{has, without, lowest, rest, members_of}
use Rattle.sets.proofs.Laws.{has_none, has_without, same_members}
use Rattle.closure.specs.declared.Layers.{Layers}
use Rattle.closure.specs.Closures.{named_by}
use Rattle.closure.proofs.Scan.{above_63}
use Rattle.stream_lists.specs.Lists.{escapes, is_closed}
use Rattle.sets.proofs.Members.{members_next, members_none, rest_within}
use Rattle.stream_lists.proofs.Building.{named_small}

without_none : (set : ℕ) → without 0 set ≡ 0
without_none set =
    same_members (without 0 set) 0 (λ j. has_without 0 set j ∙ ap (λ (b : Bool). mathlib.Core.Bool.◌&&◌ b (not (has set j))) (has_none j) ∙ sym (has_none j))

module _ (layers : Layers) (set : ℕ) where
  -- one layer
  pub above_names_nothing : (index : ℕ) → 64 ≤ index → false ≡ escapes layers set index
  above_names_nothing index h =
      sym (ap (λ (b : Bool). not (eqb (without (named_by b (get_or layers.embedded index 0) index) set) 0)) (above_63 layers index h)
      ∙ ap (λ (n : ℕ). not (eqb n 0)) (without_none set))

  pub escaping : (index named' outside : ℕ) → index < 64 → named' ≡ named_by (has layers.present index) (get_or layers.embedded index 0) index
      → outside ≡ without named' set → not (eqb outside 0) ≡ escapes layers set index
  escaping index named' outside h e f =
      ap (λ (n : ℕ). not (eqb n 0)) (f ∙ ap (λ (n : ℕ). without n set) (e ∙ named_small layers index h))

  -- all members
  pub record Looking (left : ℕ) : Type 0 where
    pub within : left < 2 ^ 64
    pub same : any (escapes layers set) (members_of left) ≡ any (escapes layers set) (members_of set)

  pub looking_start : set < 2 ^ 64 → Looking set
  looking_start w = record { within = w; same = refl }

  module _ (left : ℕ) (known : Looking left) where
    pub looking_end : left ≡ 0 → true ≡ is_closed layers set
    looking_end e = ap not (sym (ap (any (escapes layers set)) (ap members_of e ∙ members_none)) ∙ known.same)

    module _ (more : left ≡ 0 → ⊥) (index : ℕ) (e : index ≡ lowest left) where
      next : members_of left ≡ index ∷ members_of (rest left)
      next =
          members_next left known.within more
          ∙ ap (λ (k : ℕ). k ∷ members_of (rest left)) (sym e)

      pub looking_less : length (members_of (rest left)) < length (members_of left)
      looking_less = omega (arith, ap length next)

      pub looking_escaped : escapes layers set index ≡ true → false ≡ is_closed layers set
      looking_escaped f =
          ap not
          (sym (ap (λ (b : Bool). b || any (escapes layers set) (members_of (rest left))) f)
          ∙ sym (ap (any (escapes layers set)) next)
          ∙ known.same)

      pub looking_more : escapes layers set index ≡ false → Looking (rest left)
      looking_more f =
          record {
            within = rest_within left known.within;
            same = sym (ap (λ (b : Bool). b || any (escapes layers set) (members_of (rest left))) f)
                ∙ sym (ap (any (escapes layers set)) next)
                ∙ known.same;
          }
