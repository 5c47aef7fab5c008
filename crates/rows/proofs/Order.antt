-- The time order of the closure layers as the table is walked: what is known after some of its rows, and what another row adds.
-- Assumes nothing.
use Prim.Native.Nat.{ℕ, ◌+◌, ◌^◌, ◌≤◌, ◌<◌}
use mathlib.Core.Path.{◌≡◌, refl, sym, ◌∙◌, ap, ap₂}
use mathlib.Core.Bool.{Bool, true, false, ◌&&◌, ◌||◌, and-true, or-false}
use mathlib.Core.List.{List}
use native.Mathlib.Omega.{arith}
use native.Mathlib.Decide.{dec_lt, ℕ_discrete}
use native.Mathlib.Numerals.{add-one}
use borrow.Author.Tests.{lt-ltb, le-ltb, le-leb, lt-leb, eq-eqb, ne_eqb}
use borrow.Author.Count.{below_more}
use lib.Dec.{eqb, leb, ltb}
use lib.ListN.{length, get_or, set, replicate, length-set, length-replicate, get_or-replicate}
use lib.Seq.{get_or-set_same, get_or-set_other}
use Rattle.clock.specs.Clock.{half, distance_of}
use Rattle.combinators.specs.Below.{none_at}
use Rattle.combinators.proofs.Seeking.{seek_here, seek_end}
use Rattle.sets.specs.Sets.{has}
use Rattle.sets.proofs.Laws.{has_within}
use Rattle.rows.specs.Table.{Table, rows_in, layer_of, decoding_of, first_row, first_time, ahead, passed, breaks_order, first_broken}

-- What is known after k rows, none of which breaks the order: `least` of a closure layer is past every distance of its rows, and not
-- past more; and `firsts` has the decoding time of its first row, if it had one.
pub record Ordered (t : Table) (closure k : ℕ) (firsts least : List ℕ) : Type 0 where
  pub within : k ≤ rows_in t
  pub unbroken : (j : ℕ) → j < k → breaks_order t closure j ≡ false
  pub long_firsts : length firsts ≡ 64
  pub long_least : length least ≡ 64
  pub least_is : (layer : ℕ) → has closure layer ≡ true → (d : ℕ) → passed t layer d k ≡ ltb d (get_or least layer 0)
  pub first_is : (layer : ℕ) → has closure layer ≡ true → 0 < get_or least layer 0 → get_or firsts layer 0 ≡ decoding_of t (first_row t layer)

-- before the first row
pub ordered_start : (t : Table) (closure : ℕ) → closure < 2 ^ 64 → Ordered t closure 0 (replicate 64 0) (replicate 64 0)
ordered_start t closure small =
    record {
      within = omega arith;
      unbroken = λ j h. absurd (omega arith);
      long_firsts = length-replicate {A = ℕ} 64 0;
      long_least = length-replicate {A = ℕ} 64 0;
      least_is = λ layer m d. sym (ap (ltb d) (zero_at layer m) ∙ le-ltb d 0 (omega arith));
      first_is = λ layer m h. absurd (let z = zero_at layer m in omega arith);
    }
  where
    zero_at : (layer : ℕ) → has closure layer ≡ true → ◌≡◌ {A = ℕ} (get_or (replicate 64 0) layer 0) 0
    zero_at layer m = get_or-replicate 64 layer 0 0 (has_within 64 small m)

module _ (t : Table) (closure k : ℕ) (firsts least : List ℕ) (known : Ordered t closure k firsts least) (inside : k < rows_in t) where
  -- a row of another layer
  pub ordered_other : has closure (layer_of t k) ≡ false → Ordered t closure (k + 1) firsts least
  ordered_other m =
      record {
        within = omega arith;
        unbroken = below_more _ _ known.unbroken (ap (λ (b : Bool). b && (leb half (ahead t k) || passed t (layer_of t k) (ahead t k) k)) m);
        long_firsts = known.long_firsts;
        long_least = known.long_least;
        least_is = λ layer n d. same layer n d;
        first_is = known.first_is;
      }
    where
      same : (layer : ℕ) → has closure layer ≡ true → (d : ℕ) → passed t layer d (k + 1) ≡ ltb d (get_or least layer 0)
      same layer n d =
          rw (add-one k)
          (ap (λ (b : Bool). passed t layer d k || (b && leb d (ahead t k)))
          (ne_eqb (layer_of t k) layer (λ e. mathlib.Core.Bool.true≢false (sym n ∙ ap (has closure) (sym e) ∙ m)))
          ∙ or-false (passed t layer d k) ∙ known.least_is layer n d)

  -- A row of a closure layer. The first row of its layer is known by now,
  module _ (m : has closure (layer_of t k) ≡ true) (first far : ℕ)
      (is_first : first ≡ first_time (get_or least (layer_of t k) 0) (get_or firsts (layer_of t k) 0) (decoding_of t k))
      (is-far : far ≡ distance_of first (decoding_of t k)) where
    none_before : get_or least (layer_of t k) 0 ≡ 0 → (j : ℕ) → j < k → eqb (layer_of t j) (layer_of t k) ≡ false
    none_before z j h =
        sym (and-true (eqb (layer_of t j) (layer_of t k)))
        ∙ ap (λ (b : Bool). eqb (layer_of t j) (layer_of t k) && b) (sym (le-leb 0 (ahead t j) (omega arith)))
        ∙ none_at (λ j. eqb (layer_of t j) (layer_of t k) && leb 0 (ahead t j)) k
        (known.least_is (layer_of t k) m 0 ∙ ap (ltb 0) z) j h

    pub the_first : first ≡ decoding_of t (first_row t (layer_of t k))
    the_first = is_first ∙ go (ℕ_discrete (get_or least (layer_of t k) 0) 0)
      where
        go : Dec (get_or least (layer_of t k) 0 ≡ 0)
            → first_time (get_or least (layer_of t k) 0) (get_or firsts (layer_of t k) 0) (decoding_of t k) ≡ decoding_of t (first_row t (layer_of t k))
        go (yes z) =
            rw (eq-eqb (get_or least (layer_of t k) 0) 0 z)
            (ap (decoding_of t)
            (seek_here (λ j. eqb (layer_of t j) (layer_of t k)) (rows_in t) k inside (none_before z) (eq-eqb (layer_of t k) (layer_of t k) refl)))
        go (no z) = rw (ne_eqb (get_or least (layer_of t k) 0) 0 z) (known.first_is (layer_of t k) m (omega arith))

    -- and with it the distance.
    pub the_distance : far ≡ ahead t k
    the_distance = is-far ∙ ap (λ (x : ℕ). distance_of x (decoding_of t k)) the_first

    judged : (late past : Bool) → leb half far ≡ late → ltb far (get_or least (layer_of t k) 0) ≡ past → breaks_order t closure k ≡ late || past
    judged late past l p =
        ap (λ (b : Bool). b && (leb half (ahead t k) || passed t (layer_of t k) (ahead t k) k)) m
        ∙ ap₂ (λ (a b : Bool). a || b) (ap (leb half) (sym the_distance) ∙ l)
        (known.least_is (layer_of t k) m (ahead t k) ∙ ap (λ (d : ℕ). ltb d (get_or least (layer_of t k) 0)) (sym the_distance) ∙ p)

    -- It breaks the order,
    pub broken_no_farther : far < get_or least (layer_of t k) 0 → k ≡ first_broken t closure
    broken_no_farther h =
        seek_here (breaks_order t closure) (rows_in t) k inside known.unbroken
        (judged (leb half far) true refl (lt-ltb far (get_or least (layer_of t k) 0) h) ∙ mathlib.Core.Bool.or-true (leb half far))

    pub broken_too_far : half ≤ far → k ≡ first_broken t closure
    broken_too_far h =
        seek_here (breaks_order t closure) (rows_in t) k inside known.unbroken
        (judged true (ltb far (get_or least (layer_of t k) 0)) (le-leb half far h) refl)

    -- or is one more that does not.
    pub ordered_more : closure < 2 ^ 64 → get_or least (layer_of t k) 0 ≤ far → far < half
        → Ordered t closure (k + 1) (set firsts (layer_of t k) first) (set least (layer_of t k) (far + 1))
    ordered_more small farther near =
        record {
          within = omega arith;
          unbroken = below_more _ _ known.unbroken
              (judged false false (lt-leb half far near) (le-ltb far (get_or least (layer_of t k) 0) farther));
          long_firsts = length-set firsts (layer_of t k) first ∙ known.long_firsts;
          long_least = length-set least (layer_of t k) (far + 1) ∙ known.long_least;
          least_is = λ l n d. rw (add-one k) (least_at l n d (ℕ_discrete l (layer_of t k)));
          first_is = λ l n h. first_at l n h (ℕ_discrete l (layer_of t k));
        }
      where
        below : layer_of t k < 64
        below = has_within 64 small m

        stored : get_or (set least (layer_of t k) (far + 1)) (layer_of t k) 0 ≡ far + 1
        stored = get_or-set_same least (layer_of t k) (far + 1) 0 (omega (arith, known.long_least, below))

        either : (d : ℕ) → Dec (d < get_or least (layer_of t k) 0) → Dec (d < far + 1) → (ltb d (get_or least (layer_of t k) 0) || leb d far) ≡ ltb d (far + 1)
        either d (yes h) e = rw (lt-ltb d (get_or least (layer_of t k) 0) h) (sym (lt-ltb d (far + 1) (omega arith)))
        either d (no h) (yes e) = rw (le-ltb d (get_or least (layer_of t k) 0) (omega arith), le-leb d far (omega arith)) (sym (lt-ltb d (far + 1) e))
        either d (no h) (no e) = rw (le-ltb d (get_or least (layer_of t k) 0) (omega arith), lt-leb d far (omega arith)) (sym (le-ltb d (far + 1) (omega arith)))

        least_at : (l : ℕ) → has closure l ≡ true → (d : ℕ) → Dec (l ≡ layer_of t k)
            → (passed t l d k || (eqb (layer_of t k) l && leb d (ahead t k))) ≡ ltb d (get_or (set least (layer_of t k) (far + 1)) l 0)
        least_at l n d (yes e) =
            rw e
            (ap₂ (λ (a b : Bool). a || (b && leb d (ahead t k))) (known.least_is (layer_of t k) m d) (eq-eqb (layer_of t k) (layer_of t k) refl)
            ∙ ap (λ (x : ℕ). ltb d (get_or least (layer_of t k) 0) || leb d x) (sym the_distance)
            ∙ either d (dec_lt d (get_or least (layer_of t k) 0)) (dec_lt d (far + 1))
            ∙ ap (ltb d) (sym stored))
        least_at l n d (no e) =
            ap (λ (b : Bool). passed t l d k || (b && leb d (ahead t k))) (ne_eqb (layer_of t k) l (λ q. e (sym q)))
            ∙ or-false (passed t l d k) ∙ known.least_is l n d
            ∙ ap (ltb d) (sym (get_or-set_other least (layer_of t k) l (far + 1) 0 e))

        first_at : (l : ℕ) → has closure l ≡ true → 0 < get_or (set least (layer_of t k) (far + 1)) l 0 → Dec (l ≡ layer_of t k)
            → get_or (set firsts (layer_of t k) first) l 0 ≡ decoding_of t (first_row t l)
        first_at l n h (yes e) =
            rw e (get_or-set_same firsts (layer_of t k) first 0 (omega (arith, known.long_firsts, below)) ∙ the_first)
        first_at l n h (no e) =
            get_or-set_other firsts (layer_of t k) l first 0 e
            ∙ known.first_is l n (rw (get_or-set_other least (layer_of t k) l (far + 1) 0 e) at h)

-- after every row
pub ordered_end : (t : Table) (closure k : ℕ) (firsts least : List ℕ) → Ordered t closure k firsts least → rows_in t ≤ k
    → k ≡ first_broken t closure
ordered_end t closure k firsts least known h =
    seek_end (breaks_order t closure) (rows_in t) k (omega (arith, known.within)) known.unbroken
