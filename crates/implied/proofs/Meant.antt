-- The law that joins the rule's meaning to what is computed, both ways.
-- Assumes nothing.
use Prim.Native.Nat.{ℕ, suc}
use mathlib.Core.Path.{◌≡◌, refl, ◌∙◌, ap}
use mathlib.Core.Bool.{Bool, true, false, not, ◌&&◌}
use mathlib.Core.Logic.{⊎_elim}
use mathlib.Core.List.{List, [], ◌∷◌}
use native.Mathlib.Omega.{arith}
use borrow.Author.Tests.{eq-eqb, eqb-true, eqb-false, ne_eqb, not-true}
use lib.Dec.{eqb}
use Rattle.combinators.specs.Bools.{both_left, both_right, both_ways, either_which, false_unless}
use Rattle.combinators.specs.Lists.{Nth, here, there, nth_one, any, any_false, any_which}
use Rattle.implied.specs.Rule.{Shown, is_view, of_type, is_described_view, implied_pair}
use Rattle.implied.specs.Meaning.{OnlyOne, ImpliedPair}

-- a type that no entry has is counted as none, and back
none_counted : (t : ℕ) (shown : List Shown) → ((j : ℕ) (other : Shown) → Nth shown j other → other.type ≡ t → ⊥) → of_type t shown ≡ 0
none_counted t [] none = refl
none_counted t (s ∷ ss) none =
    rw (ne_eqb s.type t (none 0 s here)) (none_counted t ss (λ j other n. none (suc j) other (there n)))

counted_none : (t : ℕ) {shown : List Shown} {j : ℕ} {other : Shown} → Nth shown j other → of_type t shown ≡ 0 → other.type ≡ t → ⊥
counted_none t (here {x} {xs}) e p = let z : suc (of_type t xs) ≡ 0 = rw (eq-eqb x.type t p) at e in omega arith
counted_none t (there {x} {y} {xs} n) e p = go (eqb y.type t) refl (λ f. counted_none t n f p)
  where
    go : (b : Bool) → eqb y.type t ≡ b → (of_type t xs ≡ 0 → ⊥) → ⊥
    go true q rest = let z : suc (of_type t xs) ≡ 0 = rw q at e in omega arith
    go false q rest = rest (rw q at e)

-- the place of the only one
pub record Single (t : ℕ) (shown : List Shown) : Type 0 where
  pub place : ℕ
  pub entry : Shown
  pub stands : Nth shown place entry
  pub type : entry.type ≡ t
  pub alone : (j : ℕ) (other : Shown) → Nth shown j other → other.type ≡ t → j ≡ place

counted_one : (t : ℕ) (shown : List Shown) → of_type t shown ≡ 1 → Single t shown
counted_one t [] e = absurd (omega arith)
counted_one t (s ∷ ss) e = go (eqb s.type t) refl (counted_one t ss)
  where
    first : s.type ≡ t → of_type t ss ≡ 0 → (j : ℕ) (other : Shown) → Nth (s ∷ ss) j other → other.type ≡ t → j ≡ 0
    first p none j other here q = refl
    first p none j other (there n) q = absurd (counted_none t n none q)

    later : eqb s.type t ≡ false → (found : Single t ss) → (j : ℕ) (other : Shown) → Nth (s ∷ ss) j other → other.type ≡ t → j ≡ suc found.place
    later p found j other here q = absurd (eqb-false s.type t p q)
    later p found j other (there {k = i} n) q = ap suc (found.alone i other n q)

    go : (b : Bool) → eqb s.type t ≡ b → (of_type t ss ≡ 1 → Single t ss) → Single t (s ∷ ss)
    go true p rest =
        let one : suc (of_type t ss) ≡ 1 = rw p at e in
        let none : of_type t ss ≡ 0 = omega arith in
        let is : s.type ≡ t = eqb-true s.type t p in
        record { place = 0; entry = s; stands = here; type = is; alone = first is none }
    go false p rest =
        let found = rest (rw p at e) in
        record { place = suc found.place; entry = found.entry; stands = there found.stands; type = found.type; alone = later p found }

one_counted : (t : ℕ) {shown : List Shown} {k : ℕ} {entry : Shown} → Nth shown k entry → entry.type ≡ t
    → ((j : ℕ) (other : Shown) → Nth shown j other → other.type ≡ t → j ≡ k) → of_type t shown ≡ 1
one_counted t (here {x} {xs}) p alone =
    rw (eq-eqb x.type t p)
    (ap suc (none_counted t xs (λ j other n q. let z : suc j ≡ 0 = alone (suc j) other (there n) q in absurd (omega arith))))
one_counted t (there {x} {y} {xs} {k} n) p alone =
    rw (ne_eqb y.type t (λ q. let z : 0 ≡ suc k = alone 0 y here q in omega arith))
    (one_counted t n p (λ j other m q. let z : suc j ≡ suc k = alone (suc j) other (there m) q in omega arith))

-- WHAT IS COMPUTED HAS THE MEANING.
pub pair_meant : (shown : List Shown) → implied_pair shown ≡ true → ImpliedPair shown
pair_meant shown e = record { first = only 0x1B refl (eqb-true avcs 1 (both_left (eqb avcs 1) (eqb mvcs 1) counts)); second = only 0x20 refl (eqb-true mvcs 1 (both_right (eqb avcs 1) (eqb mvcs 1) counts)) }
  where
    avcs : ℕ
    avcs = of_type 0x1B shown

    mvcs : ℕ
    mvcs = of_type 0x20 shown

    counts : eqb avcs 1 && eqb mvcs 1 ≡ true
    counts = both_left (eqb avcs 1 && eqb mvcs 1) (not (any is_described_view shown)) e

    none : any is_described_view shown ≡ false
    none = not-true (any is_described_view shown) (both_right (eqb avcs 1 && eqb mvcs 1) (not (any is_described_view shown)) e)

    only : (t : ℕ) → is_view t ≡ true → of_type t shown ≡ 1 → OnlyOne t shown
    only t view one =
        let found = counted_one t shown one in
        record {
          place = found.place;
          entry = found.entry;
          stands = found.stands;
          type = found.type;
          alone = found.alone;
          plain = false_unless found.entry.described (λ d. both_ways {b = is_described_view found.entry} (rw (found.type, view) d) (any_false is_described_view none found.stands));
        }

-- AND NOTHING ELSE HAS IT.
pub pair_only : {shown : List Shown} → ImpliedPair shown → implied_pair shown ≡ true
pair_only {shown} pair =
    rw (
      one_counted 0x1B pair.first.stands pair.first.type pair.first.alone,
      one_counted 0x20 pair.second.stands pair.second.type pair.second.alone,
      false_unless (any is_described_view shown) (λ e. no_view (any_which is_described_view shown e)),
    )
  where
    not_plain : {t j : ℕ} {s : Shown} (only : OnlyOne t shown) → Nth shown j s → s.described ≡ true → s.type ≡ t → ⊥
    not_plain {t} {j} {s} only n d p =
        let same : j ≡ only.place = only.alone j s n p in
        let one : s ≡ only.entry = nth_one (rw same at n) only.stands in
        both_ways d (ap (λ (x : Shown). x.described) one ∙ only.plain)

    no_view : (j : ℕ) × (s : Shown) × Nth shown j s × (is_described_view s ≡ true) → ⊥
    no_view (j, s, n, d) =
        let described : s.described ≡ true = both_right (is_view s.type) s.described d in
        ⊎_elim (λ p. not_plain pair.first n described (eqb-true s.type 0x1B p)) (λ p. not_plain pair.second n described (eqb-true s.type 0x20 p))
        (either_which (eqb s.type 0x1B) (eqb s.type 0x20) (both_left (is_view s.type) s.described d))
