-- The head of a descriptor at unknown bytes: what the code takes from them and writes is what the syntax table says, and what is found at the front
-- of some bytes, for a walk through all of them.
-- Assumes nothing.
use Prim.Native.Nat.{ℕ, ◌+◌, ◌≤◌, ◌<◌}
use mathlib.Core.Path.{◌≡◌, refl, sym, ◌∙◌, ap}
use mathlib.Core.Bool.{Bool, true, false, cond}
use mathlib.Core.List.{List, [], ◌∷◌, ◌++◌}
use native.Mathlib.Omega.{arith}
use native.Mathlib.Decide.{dec_le}
use borrow.Author.Tests.{lt-ltb, le-ltb}
use lib.ListN.{length, get_or, take}
use Rattle.std.specs.Prelude.{Option, None, Some}
use Rattle.combinators.specs.Bools.{apart}
use Rattle.syntax.specs.Table.{AreBytes}
use Rattle.syntax.specs.Filled.{bytes_in}
use Rattle.syntax.proofs.Laws.{read_before, read_take}
use Rattle.syntax.proofs.Equations.{each}
use Rattle.descriptor_heads.specs.declared.Framed.{Framed}
use Rattle.descriptor_heads.specs.Head.{descriptor_head, descriptor_tag, descriptor_length, framed_of, head_table}

-- THE HEAD ALONE says the tag and the length.
pub tag_alone : (l : List ℕ) → descriptor_tag (take 2 l) ≡ descriptor_tag l
tag_alone l = ap (λ (vs : List ℕ). get_or vs 0 0) (read_take descriptor_head l)

pub by_tag : (head rest : List ℕ) → length head ≡ 2 → descriptor_length (head ++ rest) ≡ descriptor_length head
by_tag head rest h = ap (λ (vs : List ℕ). get_or vs 1 0) (read_before descriptor_head head rest (omega arith))

-- AT BYTES the two values are the two bytes.
pub framed_short : (l : List ℕ) → length l < 2 → None ≡ framed_of l
framed_short l h = sym (rw (lt-ltb (length l) (2 + descriptor_length l) (omega arith)))

module _ (l : List ℕ) (b : AreBytes l) where
  length_byte : descriptor_length l ≡ get_or l 1 0
  length_byte = omega (arith, b 0, b 1)

  tag_byte : descriptor_tag l ≡ get_or l 0 0
  tag_byte = omega (arith, b 0, b 1)

  pub framed_none : length l < 2 + get_or l 1 0 → None ≡ framed_of l
  framed_none h = sym (rw (lt-ltb (length l) (2 + descriptor_length l) (rw length_byte h)))

  pub framed_some : 2 + get_or l 1 0 ≤ length l → Some (record { tag = get_or l 0 0; end = 2 + get_or l 1 0 }) ≡ framed_of l
  framed_some h = sym (rw (le-ltb (length l) (2 + descriptor_length l) (rw length_byte h), length_byte, tag_byte))

pub head_written : (tag length : ℕ) → tag < 256 → length < 256 → tag ∷ length ∷ [] ≡ bytes_in (head_table tag length)
head_written tag length a b = each (omega arith)

-- THE DESCRIPTOR AT THE FRONT, as it is found: it does not fit, or it is so long and has this tag.
abbrev fits : Option Framed → Bool
fits None = false
fits (Some first) = true

abbrev tag_in : Option Framed → ℕ
tag_in None = 0
tag_in (Some first) = first.tag

abbrev end_in : Option Framed → ℕ
end_in None = 0
end_in (Some first) = first.end

framed_by : (left : List ℕ) → Dec (2 + descriptor_length left ≤ length left) → (f : Option Framed) → f ≡ framed_of left
    → (f ≡ None → length left < 2 + descriptor_length left)
    × ((first : Framed) → f ≡ Some first → (2 + descriptor_length left ≤ length left) × (first.tag ≡ descriptor_tag left) × (first.end ≡ 2 + descriptor_length left))
framed_by left (yes h) f e =
    let found : Option Framed = Some (record { tag = descriptor_tag left; end = 2 + descriptor_length left }) in
    let is : f ≡ found = e ∙ ap (λ (b : Bool). cond b None found) (le-ltb (length left) (2 + descriptor_length left) h) in
    (λ n. apart (ap fits (sym n ∙ is)), λ first t. (h, ap tag_in (sym t ∙ is), ap end_in (sym t ∙ is)))
framed_by left (no h) f e =
    let short : length left < 2 + descriptor_length left = omega arith in
    let found : Option Framed = Some (record { tag = descriptor_tag left; end = 2 + descriptor_length left }) in
    let is : f ≡ None = e ∙ ap (λ (b : Bool). cond b None found) (lt-ltb (length left) (2 + descriptor_length left) short) in
    (λ n. short, λ first t. apart (ap fits (sym is ∙ t)))

module _ (left : List ℕ) (f : Option Framed) (e : f ≡ framed_of left) where
  pub framed_not : f ≡ None → length left < 2 + descriptor_length left
  framed_not = (framed_by left (dec_le (2 + descriptor_length left) (length left)) f e).0

  pub framed_fits : (first : Framed) → f ≡ Some first → (2 + descriptor_length left ≤ length left) × (first.tag ≡ descriptor_tag left) × (first.end ≡ 2 + descriptor_length left)
  framed_fits = (framed_by left (dec_le (2 + descriptor_length left) (length left)) f e).1

-- The same where all that is known is that none is found, as behind `let Some(first) = .. else`.
module _ (left : List ℕ) (f : Option Framed) (e : f ≡ framed_of left) where
  pub framed_other : ((first : Framed) → f ≡ Some first → ⊥) → length left < 2 + descriptor_length left
  framed_other none = go f (λ first t. none first t) (framed_not left f e)
    where
      go : (g : Option Framed) → ((first : Framed) → g ≡ Some first → ⊥) → (g ≡ None → length left < 2 + descriptor_length left) → length left < 2 + descriptor_length left
      go None none short = short refl
      go (Some first) none short = absurd (none first refl)
