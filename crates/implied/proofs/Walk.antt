-- A walk through the entries comes to the rule over the list of them.
-- Assumes nothing.
use Prim.Native.Nat.{ℕ, suc}
use mathlib.Core.Path.{◌≡◌, refl, ◌∙◌}
use mathlib.Core.Bool.{Bool, true, false, cond, not, ◌&&◌, ◌||◌, and-false}
use mathlib.Core.List.{List, [], ◌∷◌}
use native.Mathlib.Omega.{arith}
use borrow.Author.Tests.{eqb-true, ne_eqb}
use lib.Dec.{eqb}
use Rattle.combinators.specs.Bools.{neither_left, neither_right}
use Rattle.combinators.specs.Lists.{any}
use Rattle.implied.specs.Rule.{Shown, is_view, of_type, is_described_view, implied_pair}
use Rattle.implied.specs.declared.Views.{Views}
use Rattle.implied.specs.Walking.{no_views, view_next, views_after, is_pair}

-- a number, and one more where one was seen before
abbrev with_one : Bool → ℕ → ℕ
with_one before n = cond before (suc n) n

-- the pair of entries of which some were met: by whether one of either type was met, whether they were spoiled, and what follows
abbrev pair_by : Bool → Bool → Bool → ℕ → ℕ → Bool → Bool
pair_by avc mvc spoiled avcs mvcs described = eqb (with_one avc avcs) 1 && eqb (with_one mvc mvcs) 1 && not (spoiled || described)

abbrev pair_from : Views → List Shown → Bool
pair_from v shown = pair_by v.avc v.mvc v.spoiled (of_type 0x1B shown) (of_type 0x20 shown) (any is_described_view shown)

two_not_one : (n : ℕ) → eqb (suc (suc n)) 1 ≡ false
two_not_one n = ne_eqb (suc (suc n)) 1 (λ e. omega arith)

ended : (avc mvc spoiled : Bool) → avc && mvc && not spoiled ≡ pair_by avc mvc spoiled 0 0 false
ended true true true = refl
ended true true false = refl
ended true false true = refl
ended true false false = refl
ended false true true = refl
ended false true false = refl
ended false false true = refl
ended false false false = refl

another_avc : (avc mvc spoiled described : Bool) (avcs mvcs : ℕ) (later : Bool)
    → pair_by true mvc ((spoiled || avc) || described) avcs mvcs later ≡ pair_by avc mvc spoiled (suc avcs) mvcs (described || later)
another_avc true mvc true described avcs mvcs later = rw (and-false (eqb (suc avcs) 1 && eqb (with_one mvc mvcs) 1), two_not_one avcs)
another_avc true mvc false described avcs mvcs later = rw (and-false (eqb (suc avcs) 1 && eqb (with_one mvc mvcs) 1), two_not_one avcs)
another_avc false mvc true described avcs mvcs later = refl
another_avc false mvc false true avcs mvcs later = refl
another_avc false mvc false false avcs mvcs later = refl

another_mvc : (avc mvc spoiled described : Bool) (avcs mvcs : ℕ) (later : Bool)
    → pair_by avc true ((spoiled || mvc) || described) avcs mvcs later ≡ pair_by avc mvc spoiled avcs (suc mvcs) (described || later)
another_mvc avc true true described avcs mvcs later =
    rw (and-false (eqb (with_one avc avcs) 1 && eqb (suc mvcs) 1), two_not_one mvcs, and-false (eqb (with_one avc avcs) 1))
another_mvc avc true false described avcs mvcs later =
    rw (and-false (eqb (with_one avc avcs) 1 && eqb (suc mvcs) 1), two_not_one mvcs, and-false (eqb (with_one avc avcs) 1))
another_mvc avc false true described avcs mvcs later = refl
another_mvc avc false false true avcs mvcs later = refl
another_mvc avc false false false avcs mvcs later = refl

walked : (v : Views) (shown : List Shown) → is_pair (views_after v shown) ≡ pair_from v shown
walked v [] = ended v.avc v.mvc v.spoiled
walked v (s ∷ ss) = walked (view_next v s) ss ∙ by_type (eqb s.type 0x1B) refl (eqb s.type 0x20) refl
  where
    by_type : (a : Bool) → eqb s.type 0x1B ≡ a → (m : Bool) → eqb s.type 0x20 ≡ m → pair_from (view_next v s) ss ≡ pair_from v (s ∷ ss)
    by_type true p m q =
        rw (eqb-true s.type 0x1B p)
        (another_avc v.avc v.mvc v.spoiled s.described (of_type 0x1B ss) (of_type 0x20 ss) (any is_described_view ss))
    by_type false p true q =
        rw (eqb-true s.type 0x20 q)
        (another_mvc v.avc v.mvc v.spoiled s.described (of_type 0x1B ss) (of_type 0x20 ss) (any is_described_view ss))
    by_type false p false q = rw (p, q)

-- over all entries
pub pair_walked : (shown : List Shown) → is_pair (views_after no_views shown) ≡ implied_pair shown
pair_walked shown = walked no_views shown

-- what is spoiled stays so, whatever follows
pub spoiled_stays : (v : Views) (shown : List Shown) → v.spoiled ≡ true → is_pair (views_after v shown) ≡ false
spoiled_stays v shown p =
    walked v shown ∙ rw (p, and-false (eqb (with_one v.avc (of_type 0x1B shown)) 1 && eqb (with_one v.mvc (of_type 0x20 shown)) 1))

-- of an entry that is no view nothing is kept
pub no_view : (v : Views) (s : Shown) → is_view s.type ≡ false → view_next v s ≡ v
no_view v s p =
    rw (neither_left (eqb s.type 0x1B) (eqb s.type 0x20) p, neither_right (eqb s.type 0x1B) (eqb s.type 0x20) p)
