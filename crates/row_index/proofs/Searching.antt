-- A row found by its decoding time: the places of a layer's rows climb, so that halving finds the one place where the row can be.
-- Assumes nothing.
use Prim.Native.Nat.{ℕ, ◌+◌, ◌-◌, ◌≤◌, ◌<◌}
use mathlib.Core.Path.{◌≡◌, refl, sym, ◌∙◌, ap, subst}
use mathlib.Core.Bool.{Bool, true, false, ◌&&◌}
use mathlib.Core.List.{List, []}
use native.Mathlib.Omega.{arith}
use native.Mathlib.Decide.{dec_lt, ℕ_discrete}
use borrow.Author.Tests.{eq-eqb, ne_eqb, eqb-true}
use lib.Dec.{eqb}
use lib.ListN.{length, get_or}
use Rattle.clock.specs.Clock.{distance_of}
use Rattle.combinators.proofs.Seeking.{seek_here, seek_end}
use Rattle.combinators.specs.Bools.{both_left, both_right}
use Rattle.combinators.specs.Those.{length_those, those_at, those_which, those_rise}
use Rattle.combinators.proofs.Seeking.{those_first}
use Rattle.rows.specs.Table.{table, first_row, ahead}
use Rattle.row_index.specs.Index.{is_of, rows_of, start_of, Sorted, Rising, Climbing, Reached}
use Rattle.row_index.specs.Index.{row_at}
use Rattle.row_index.proofs.Placing.{start_next}

-- ---- halving

module _ (decodings order : List ℕ) (origin far first end : ℕ) (climb : Climbing decodings order origin first end) where
  abbrev distance_at : ℕ → ℕ
  distance_at q = distance_of origin (get_or decodings (get_or order q 0) 0)

  -- the row in the middle lies less far ahead: so do all before it
  pub less_before : (middle : ℕ) → middle < end → distance_at middle < far → (q : ℕ) → first ≤ q → q < middle + 1 → distance_at q < far
  less_before middle h near q l k = go (ℕ_discrete q middle)
    where
      go : Dec (q ≡ middle) → distance_at q < far
      go (yes e) = rw e near
      go (no e) = let less = climb.climbs q middle l (omega arith) h in omega arith

  -- it lies as far ahead or farther: so do all after it
  pub more_after : (middle : ℕ) → first ≤ middle → far ≤ distance_at middle → (q : ℕ) → middle ≤ q → q < end → far ≤ distance_at q
  more_after middle h near q l k = go (ℕ_discrete q middle)
    where
      go : Dec (q ≡ middle) → far ≤ distance_at q
      go (yes e) = rw e near
      go (no e) = let less = climb.climbs middle q h (omega arith) k in omega arith

-- ---- the rows of one layer, at their places

module _ (indices decodings starts order : List ℕ) (sorted : Sorted indices decodings starts order) (layer : ℕ) (small : layer < 64) where
  pub first_is : get_or starts layer 0 ≡ start_of indices layer
  first_is = sorted.starting.starts_at layer (omega arith)

  pub end_is : get_or starts (layer + 1) 0 ≡ get_or starts layer 0 + length (rows_of indices layer)
  end_is =
      sorted.starting.starts_at (layer + 1) (omega arith) ∙ start_next indices layer
      ∙ (let e = first_is in let long = length_those (is_of indices layer) (length indices) in omega arith)

  at_place : (p : ℕ) → p < length (rows_of indices layer) → get_or order (get_or starts layer 0 + p) 0 ≡ get_or (rows_of indices layer) p 0
  at_place p h = ap (λ (s : ℕ). get_or order (s + p) 0) first_is ∙ sorted.ordered.holds layer p small h

  -- place q holds the row of this rank
  rank : (q : ℕ) → get_or starts layer 0 ≤ q → q < get_or starts (layer + 1) 0 → (p : ℕ) × (p < length (rows_of indices layer)) × (q ≡ get_or starts layer 0 + p)
  rank q h l = (q - get_or starts layer 0, (let e = end_is in omega arith), omega arith)

  pub record Holds (k : ℕ) : Type 0 where
    pub row : k < length indices
    pub of_layer : get_or indices k 0 ≡ layer

  pub place_holds : (q : ℕ) → get_or starts layer 0 ≤ q → q < get_or starts (layer + 1) 0 → Holds (get_or order q 0)
  place_holds q h l =
      let w = rank q h l in
      let s = those_at (is_of indices layer) (length indices) w.0 w.1 in
      rw (w.2, at_place w.0 w.1) (record { row = s.below; of_layer = eqb-true (get_or indices (get_or (rows_of indices layer) w.0 0) 0) layer s.passes })

  pub places_rise : (p q : ℕ) → get_or starts layer 0 ≤ p → p < q → q < get_or starts (layer + 1) 0 → get_or order p 0 < get_or order q 0
  places_rise p q h l k =
      let v = rank p h (omega arith) in
      let w = rank q (omega arith) k in
      go v.0 w.0 v.1 w.1 v.2 w.2
    where
      go : (i j : ℕ) → i < length (rows_of indices layer) → j < length (rows_of indices layer) → p ≡ get_or starts layer 0 + i
          → q ≡ get_or starts layer 0 + j → get_or order p 0 < get_or order q 0
      go i j x y a b =
          let low : get_or order p 0 ≡ get_or (rows_of indices layer) i 0 = ap (λ (n : ℕ). get_or order n 0) a ∙ at_place i x in
          let high : get_or order q 0 ≡ get_or (rows_of indices layer) j 0 = ap (λ (n : ℕ). get_or order n 0) b ∙ at_place j y in
          let rise = those_rise (is_of indices layer) (length indices) i j (omega arith) y in
          omega arith

  pub has_place : (k : ℕ) → k < length indices → get_or indices k 0 ≡ layer
      → (q : ℕ) × (get_or starts layer 0 ≤ q) × (q < get_or starts (layer + 1) 0) × (get_or order q 0 ≡ k)
  has_place k h e =
      let w = those_which (is_of indices layer) (length indices) k h (eq-eqb (get_or indices k 0) layer e) in
      (get_or starts layer 0 + w.0, omega arith, (let n = end_is in omega (arith, w.1)), at_place w.0 w.1 ∙ w.2)

  pub first_row_lem : get_or starts layer 0 < get_or starts (layer + 1) 0 → get_or order (get_or starts layer 0) 0 ≡ first_row (table indices decodings []) layer
  first_row_lem h =
      let some_rows : 0 < length (rows_of indices layer) = (let e = end_is in omega arith) in
      ap (λ (s : ℕ). get_or order s 0) (sym (native.Mathlib.Nat.add-zero (get_or starts layer 0))) ∙ at_place 0 some_rows
      ∙ those_first (is_of indices layer) (length indices) some_rows

  pub end_inside : get_or starts (layer + 1) 0 ≤ length indices
  end_inside =
      let s = sorted.starting.starts_at (layer + 1) (omega arith) in
      let c = Rattle.combinators.specs.Below.count_short (λ k. lib.Dec.ltb (get_or indices k 0) (layer + 1)) (length indices) in
      omega arith

  -- ---- and how far ahead of the first they lie

  module _ (rising : Rising (table indices decodings []) layer) (some_rows : get_or starts layer 0 < get_or starts (layer + 1) 0) (origin : ℕ)
      (is-origin : origin ≡ get_or decodings (get_or order (get_or starts layer 0) 0) 0) where
    distance_ahead : (k : ℕ) → get_or indices k 0 ≡ layer → distance_of origin (get_or decodings k 0) ≡ ahead (table indices decodings []) k
    distance_ahead k e =
        ap (λ (o : ℕ). distance_of o (get_or decodings k 0))
        (is-origin ∙ ap (λ (j : ℕ). get_or decodings j 0) (first_row_lem some_rows ∙ ap (first_row (table indices decodings [])) (sym e)))

    pub climbing : Climbing decodings order origin (get_or starts layer 0) (get_or starts (layer + 1) 0)
    climbing =
        record {
          nonempty = omega arith;
          inside = (let e = end_inside in omega (arith, sorted.ordered.long));
          rows = λ q h l. (let w = place_holds q h l in omega (arith, w.row, sorted.same_length));
          climbs = climbs_at;
        }
      where
        climbs_at : (p q : ℕ) → get_or starts layer 0 ≤ p → p < q → q < get_or starts (layer + 1) 0
            → distance_of origin (get_or decodings (get_or order p 0) 0) < distance_of origin (get_or decodings (get_or order q 0) 0)
        climbs_at p q h l k =
            let v = place_holds p h (omega arith) in
            let w = place_holds q (omega arith) k in
            rw (distance_ahead (get_or order p 0) v.of_layer, distance_ahead (get_or order q 0) w.of_layer)
            (rising (get_or order p 0) (get_or order q 0) (places_rise p q h l k) w.row v.of_layer w.of_layer)

    module _ (time far place : ℕ) (is-far : far ≡ distance_of origin time)
        (reached : Reached decodings order origin far (get_or starts layer 0) (get_or starts (layer + 1) 0) place) where
      abbrev sought : ℕ → Bool
      sought k = eqb (get_or indices k 0) layer && eqb (get_or decodings k 0) time

      -- a row that has the time stands at the place that was reached
      stands : (k : ℕ) → k < length indices → get_or indices k 0 ≡ layer → get_or decodings k 0 ≡ time
          → (place < get_or starts (layer + 1) 0) × (get_or order place 0 ≡ k)
      stands k h e d = go (has_place k h e)
        where
          go : (q : ℕ) × (get_or starts layer 0 ≤ q) × (q < get_or starts (layer + 1) 0) × (get_or order q 0 ≡ k)
              → (place < get_or starts (layer + 1) 0) × (get_or order place 0 ≡ k)
          go w = at (dec_lt w.0 place) (dec_lt place w.0)
            where
              as_far : distance_of origin (get_or decodings (get_or order w.0 0) 0) ≡ far
              as_far = ap (distance_of origin) (ap (λ (j : ℕ). get_or decodings j 0) w.3 ∙ d) ∙ sym is-far

              at : Dec (w.0 < place) → Dec (place < w.0) → (place < get_or starts (layer + 1) 0) × (get_or order place 0 ≡ k)
              at (yes l) x = absurd (omega (arith, reached.before w.0 w.1 l, as_far))
              at (no l) (yes m) =
                  absurd (omega (arith, reached.after place (omega arith) (omega (arith, w.2)), climbing.climbs place w.0 reached.from m w.2, as_far))
              at (no l) (no m) =
                  let same : place ≡ w.0 = omega arith in
                  (omega (arith, w.2), ap (λ (q : ℕ). get_or order q 0) same ∙ w.3)

      unsought : (k : ℕ) → (get_or indices k 0 ≡ layer → get_or decodings k 0 ≡ time → ⊥) → sought k ≡ false
      unsought k f = go (sought k) refl
        where
          go : (b : Bool) → sought k ≡ b → sought k ≡ false
          go true e =
              absurd (f (eqb-true (get_or indices k 0) layer (both_left (eqb (get_or indices k 0) layer) (eqb (get_or decodings k 0) time) e))
              (eqb-true (get_or decodings k 0) time (both_right (eqb (get_or indices k 0) layer) (eqb (get_or decodings k 0) time) e)))
          go false e = e

      -- THE THREE ANSWERS: past the layer's rows, at a row that has the time, at one that has another
      pub past_all : get_or starts (layer + 1) 0 ≤ place → length indices ≡ row_at (table indices decodings []) layer time
      past_all h =
          seek_end sought (length indices) (length indices) refl (λ k l. unsought k (λ e d. let w = stands k l e d in omega (arith, w.0)))

      pub the_row : place < get_or starts (layer + 1) 0 → get_or decodings (get_or order place 0) 0 ≡ time
          → get_or order place 0 ≡ row_at (table indices decodings []) layer time
      the_row h d =
          let w = place_holds place reached.from h in
          seek_here sought (length indices) (get_or order place 0) w.row
          (λ k l. unsought k (λ e c. let s = stands k (omega (arith, w.row)) e c in omega (arith, s.1)))
          (rw (w.of_layer, d) (found layer time))
        where
          found : (a b : ℕ) → eqb a a && eqb b b ≡ true
          found a b = rw (eq-eqb a a refl, eq-eqb b b refl)

      pub another : (get_or decodings (get_or order place 0) 0 ≡ time → ⊥) → length indices ≡ row_at (table indices decodings []) layer time
      another f =
          seek_end sought (length indices) (length indices) refl
          (λ k l. unsought k (λ e d. let w = stands k l e d in f (ap (λ (j : ℕ). get_or decodings j 0) w.1 ∙ d)))

    -- any place of the layer's is where its own row's time is reached, so that a row that has the time is the answer, however it was come by
    pub at_guess : (time place : ℕ) → get_or starts layer 0 ≤ place → place < get_or starts (layer + 1) 0 → get_or decodings (get_or order place 0) 0 ≡ time
        → get_or order place 0 ≡ row_at (table indices decodings []) layer time
    at_guess time place h l d =
        the_row time (distance_of origin time) place refl
        (record {
          from = h;
          to = omega arith;
          before = λ q a b. subst (λ (x : ℕ). distance_of origin (get_or decodings (get_or order q 0) 0) < distance_of origin x) d (climbing.climbs q place a b l);
          after = λ q a b. subst (λ (x : ℕ). distance_of origin x ≤ distance_of origin (get_or decodings (get_or order q 0) 0)) d (further q a b (ℕ_discrete q place));
        }) l d
      where
        further : (q : ℕ) → place ≤ q → q < get_or starts (layer + 1) 0 → Dec (q ≡ place)
            → distance_of origin (get_or decodings (get_or order place 0) 0) ≤ distance_of origin (get_or decodings (get_or order q 0) 0)
        further q a b (yes e) = rw e (omega arith)
        further q a b (no e) = let less = climbing.climbs place q h (omega arith) b in omega arith

  -- a layer with no rows
  pub no_rows : get_or starts (layer + 1) 0 ≤ get_or starts layer 0 → (time : ℕ) → length indices ≡ row_at (table indices decodings []) layer time
  no_rows h time =
      seek_end (λ k. eqb (get_or indices k 0) layer && eqb (get_or decodings k 0) time) (length indices) (length indices) refl
      (λ k l. ap (λ (b : Bool). b && eqb (get_or decodings k 0) time)
      (ne_eqb (get_or indices k 0) layer (λ e. let w = has_place k l e in omega (arith, w.1, w.2))))
