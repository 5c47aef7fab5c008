-- What Table computes is what Meaning says, both ways: 13 of the columns (`shape_meant`, `shape_only`) and of a row (`range_meant`, `range_only`), and 14
-- (`breaks_meant`, `breaks_only`): where the computed test finds the first broken row, the row breaks the order in document 01's words, 'from row to row', and
-- nowhere else. `in_order_meant` and `in_order_only` say it of a table that none of them refuses.
-- Assumes nothing.
use Prim.Native.Nat.{ℕ, zero, suc, ◌≤◌, ◌<◌}
use mathlib.Core.Bool.{Bool, true, false, not, ◌&&◌, ◌||◌, true≢false}
use mathlib.Core.Logic.{◌⊎◌, inl, inr}
use mathlib.Core.Path.{◌≡◌, refl, sym, ◌∙◌, ap, ap₂, subst}
use native.Mathlib.Nat.{eq-or-lt_of_le, le_of_suc-le-suc}
use native.Mathlib.Omega.{arith}
use borrow.Author.Tests.{eq-eqb, ne_eqb, eqb-true, eqb-false, lt-ltb, ltb-true, le-leb, leb-true, leb-false}
use lib.Dec.{eqb, leb, ltb}
use lib.ListN.{length}
use Rattle.clock.specs.Clock.{ticks, half, distance_of}
use Rattle.clock.proofs.Laws.{distance_is, distance_only}
use Rattle.closure.specs.declared.Layers.{Layers}
use Rattle.closure.specs.Meaning.{RestsOn, WholeClosure}
use Rattle.combinators.specs.Below.{some_at, some_which, none_at}
use Rattle.combinators.proofs.Seeking.{seek_first, seek_inside}
use Rattle.combinators.specs.Bools.{both_left, both_right, neither_left, neither_right, either_left, either_right, false_unless}
use Rattle.sets.specs.Sets.{has}
use Rattle.rows.specs.Table.{Table, rows_in, layer_of, decoding_of, match_of, wrong_shape, out_of_range, first_out_of_range, first_row, ahead, passed, breaks_order, first_broken}
use Rattle.rows.specs.Meaning.{FirstRow, NoRow, WrongShape, unequal_decodings, unequal_matches, too_many_rows, RowOutOfRange, index_above_63, decoding_time, match_time, Ahead, BreaksOrder, not_below, not_rising, InOrder}
use Rattle.rows.proofs.FirstRows.{found, none, is_first, is_none}
use Rattle.rows.proofs.Verdicts.{Sound}

-- ---- 13

module _ (most : ℕ) (t : Table) where
  pub shape_meant : wrong_shape most t ≡ true → WrongShape most t
  shape_meant e = go (eqb (length t.decodings) (rows_in t)) refl (eqb (length t.matches) (rows_in t)) refl e
    where
      go : (d : Bool) → eqb (length t.decodings) (rows_in t) ≡ d → (m : Bool) → eqb (length t.matches) (rows_in t) ≡ m
          → (not d || (not m || ltb most (rows_in t))) ≡ true → WrongShape most t
      go false p m q e = unequal_decodings (eqb-false (length t.decodings) (rows_in t) p)
      go true p false q e = unequal_matches (eqb-false (length t.matches) (rows_in t) q)
      go true p true q e = too_many_rows (ltb-true most (rows_in t) e)

  pub shape_only : WrongShape most t → wrong_shape most t ≡ true
  shape_only (unequal_decodings n) =
      ap (λ (b : Bool). not b || (not (eqb (length t.matches) (rows_in t)) || ltb most (rows_in t))) (ne_eqb (length t.decodings) (rows_in t) n)
  shape_only (unequal_matches n) =
      either_right (not (eqb (length t.decodings) (rows_in t))) (not (eqb (length t.matches) (rows_in t)) || ltb most (rows_in t))
      (ap (λ (b : Bool). not b || ltb most (rows_in t)) (ne_eqb (length t.matches) (rows_in t) n))
  shape_only (too_many_rows h) =
      either_right (not (eqb (length t.decodings) (rows_in t))) (not (eqb (length t.matches) (rows_in t)) || ltb most (rows_in t))
      (either_right (not (eqb (length t.matches) (rows_in t))) (ltb most (rows_in t)) (lt-ltb most (rows_in t) h))

  -- the right shape
  pub right_shape_meant : wrong_shape most t ≡ false → WrongShape most t → ⊥
  right_shape_meant e w = true≢false (sym (shape_only w) ∙ e)

  pub right_shape_only : (WrongShape most t → ⊥) → wrong_shape most t ≡ false
  right_shape_only n = false_unless (wrong_shape most t) (λ e. n (shape_meant e))

module _ (t : Table) where
  pub range_meant : (k : ℕ) → k < rows_in t → ((j : ℕ) → j < k → out_of_range t j ≡ false) → out_of_range t k ≡ true → RowOutOfRange t k
  range_meant k h b e = go (ltb 63 (layer_of t k)) refl (leb ticks (decoding_of t k)) refl e
    where
      go : (i : Bool) → ltb 63 (layer_of t k) ≡ i → (d : Bool) → leb ticks (decoding_of t k) ≡ d → (i || (d || leb ticks (match_of t k))) ≡ true
          → RowOutOfRange t k
      go true p d q e = index_above_63 (ltb-true 63 (layer_of t k) p)
      go false p true q e = decoding_time (leb-true ticks (decoding_of t k) q)
      go false p false q e = match_time (leb-true ticks (match_of t k) e)

  pub range_only : (k : ℕ) → k < rows_in t → RowOutOfRange t k → out_of_range t k ≡ true
  range_only k h (index_above_63 l) =
      either_left (ltb 63 (layer_of t k)) (leb ticks (decoding_of t k) || leb ticks (match_of t k)) (lt-ltb 63 (layer_of t k) l)
  range_only k h (decoding_time l) =
      either_right (ltb 63 (layer_of t k)) (leb ticks (decoding_of t k) || leb ticks (match_of t k))
      (either_left (leb ticks (decoding_of t k)) (leb ticks (match_of t k)) (le-leb ticks (decoding_of t k) l))
  range_only k h (match_time l) =
      either_right (ltb 63 (layer_of t k)) (leb ticks (decoding_of t k) || leb ticks (match_of t k))
      (either_right (leb ticks (decoding_of t k)) (leb ticks (match_of t k)) (le-leb ticks (match_of t k) l))

  -- the first row out of range, and that there is none
  pub outside_meant : first_out_of_range t < rows_in t → FirstRow t (RowOutOfRange t) (first_out_of_range t)
  outside_meant h = found t (RowOutOfRange t) (out_of_range t) range_meant range_only h

  pub outside_only : (k : ℕ) → FirstRow t (RowOutOfRange t) k → (first_out_of_range t < rows_in t) × (k ≡ first_out_of_range t)
  outside_only k f = is_first t (RowOutOfRange t) (out_of_range t) range_meant range_only k f

  pub none_outside_meant : rows_in t ≤ first_out_of_range t → NoRow t (RowOutOfRange t)
  none_outside_meant h = none t (RowOutOfRange t) (out_of_range t) range_meant range_only h

  pub none_outside_only : NoRow t (RowOutOfRange t) → rows_in t ≤ first_out_of_range t
  none_outside_only n = is_none t (RowOutOfRange t) (out_of_range t) range_meant range_only n

-- ---- 14

-- the last number below a bound that passes a test, where one does
pub record Last (test : ℕ → Bool) (bound some last : ℕ) : Type 0 where
  pub below : last < bound
  pub passes : test last ≡ true
  pub not_before : some ≤ last
  pub none_after : (m : ℕ) → last < m → m < bound → test m ≡ false

last_passing : (test : ℕ → Bool) (bound some : ℕ) → some < bound → test some ≡ true → (last : ℕ) × Last test bound some last
last_passing test zero some h e = absurd (omega arith)
last_passing test (suc bound) some h e = go (test bound) refl (eq-or-lt_of_le (le_of_suc-le-suc h)) (last_passing test bound some)
  where
    go : (b : Bool) → test bound ≡ b → (some ≡ bound) ⊎ (some < bound) → (some < bound → test some ≡ true → (last : ℕ) × Last test bound some last)
        → (last : ℕ) × Last test (suc bound) some last
    go true p w lower =
        (bound, record { below = omega arith; passes = p; not_before = omega arith; none_after = λ m l k. absurd (omega arith) })
    go false p (inl q) lower = absurd (true≢false (sym e ∙ ap test q ∙ p))
    go false p (inr l) lower =
        let w = lower l e in (
          w.0,
          record {
            below = (let b = w.1.below in omega arith);
            passes = w.1.passes;
            not_before = w.1.not_before;
            none_after = λ m a b. after m (w.1.none_after m a) (eq-or-lt_of_le (le_of_suc-le-suc b));
          },
        )
      where
        after : (m : ℕ) → (m < bound → test m ≡ false) → (m ≡ bound) ⊎ (m < bound) → test m ≡ false
        after m f (inl q) = ap test q ∙ p
        after m f (inr b) = f b

module _ (t : Table) where
  -- ---- the distance of a row from the first of its layer

  abbrev of_layer : ℕ → ℕ → Type 0
  of_layer layer j = layer_of t j ≡ layer

  first_of : (layer : ℕ) → first_row t layer < rows_in t → FirstRow t (of_layer layer) (first_row t layer)
  first_of layer h =
      found t (of_layer layer) (λ j. eqb (layer_of t j) layer) (λ j i b e. eqb-true (layer_of t j) layer e) (λ j i e. eq-eqb (layer_of t j) layer e) h

  only_first : (layer first : ℕ) → FirstRow t (of_layer layer) first → first ≡ first_row t layer
  only_first layer first f =
      (is_first t (of_layer layer) (λ j. eqb (layer_of t j) layer) (λ j i b e. eqb-true (layer_of t j) layer e) (λ j i e. eq-eqb (layer_of t j) layer e) first f).1

  first_inside : (k : ℕ) → k < rows_in t → first_row t (layer_of t k) < rows_in t
  first_inside k h =
      seek_inside (λ j. eqb (layer_of t j) (layer_of t k)) (rows_in t)
      (some_at (λ j. eqb (layer_of t j) (layer_of t k)) (rows_in t) k h (eq-eqb (layer_of t k) (layer_of t k) refl))

  pub ahead_is : (k : ℕ) → k < rows_in t → Ahead t k (ahead t k)
  ahead_is k h =
      record {
        first = first_row t (layer_of t k);
        first_of_layer = first_of (layer_of t k) (first_inside k h);
        forward = distance_is (decoding_of t (first_row t (layer_of t k))) (decoding_of t k);
      }

  pub ahead_only : (k distance : ℕ) → Ahead t k distance → distance ≡ ahead t k
  ahead_only k distance a =
      distance_only (decoding_of t a.first) (decoding_of t k) distance a.forward
      ∙ ap (λ (j : ℕ). distance_of (decoding_of t j) (decoding_of t k)) (only_first (layer_of t k) a.first a.first_of_layer)

  -- ---- a row that is in order lies farther ahead than every earlier row of its layer

  pub farther : (closure j k : ℕ) → has closure (layer_of t k) ≡ true → breaks_order t closure k ≡ false → j < k → layer_of t j ≡ layer_of t k
      → ahead t j < ahead t k
  farther closure j k m unbroken h same =
      leb-false (ahead t k) (ahead t j)
      (sym (ap (λ (b : Bool). b && leb (ahead t k) (ahead t j)) (eq-eqb (layer_of t j) (layer_of t k) same))
      ∙ none_at (λ i. eqb (layer_of t i) (layer_of t k) && leb (ahead t k) (ahead t i)) k
      (neither_right (leb half (ahead t k)) (passed t (layer_of t k) (ahead t k) k)
      (sym (ap (λ (b : Bool). b && (leb half (ahead t k) || passed t (layer_of t k) (ahead t k) k)) m) ∙ unbroken)) j h)

  -- and lies less than half the clock ahead
  pub near : (closure k : ℕ) → has closure (layer_of t k) ≡ true → breaks_order t closure k ≡ false → ahead t k < half
  near closure k m unbroken =
      leb-false half (ahead t k)
      (neither_left (leb half (ahead t k)) (passed t (layer_of t k) (ahead t k) k)
      (sym (ap (λ (b : Bool). b && (leb half (ahead t k) || passed t (layer_of t k) (ahead t k) k)) m) ∙ unbroken))

  -- ---- 14 at a row

  module _ (layers : Layers) (target closure : ℕ) (whole : WholeClosure layers target closure) (k : ℕ) (inside : k < rows_in t) where
    pub breaks_only : BreaksOrder layers target t k → breaks_order t closure k ≡ true
    breaks_only (not_below {distance = d} r a h) =
        ap₂ (λ (x y : Bool). x && y) ((whole.members (layer_of t k)).1 r)
        (either_left (leb half (ahead t k)) (passed t (layer_of t k) (ahead t k) k) (le-leb half (ahead t k) (let e = ahead_only k d a in omega arith)))
    breaks_only (not_rising {j = j} {earlier = c} {distance = d} r n b a h) =
        ap₂ (λ (x y : Bool). x && y) ((whole.members (layer_of t k)).1 r)
        (either_right (leb half (ahead t k)) (passed t (layer_of t k) (ahead t k) k)
        (some_at (λ i. eqb (layer_of t i) (layer_of t k) && leb (ahead t k) (ahead t i)) k j n.before
        (ap₂ (λ (x y : Bool). x && y) (eq-eqb (layer_of t j) (layer_of t k) n.same_layer)
        (le-leb (ahead t k) (ahead t j) (let e = ahead_only k d a in let f = ahead_only j c b in omega arith)))))

    pub breaks_meant : ((j : ℕ) → j < k → breaks_order t closure j ≡ false) → breaks_order t closure k ≡ true → BreaksOrder layers target t k
    breaks_meant unbroken e = go (leb half (ahead t k)) refl (passed t (layer_of t k) (ahead t k) k) refl
      where
        m : has closure (layer_of t k) ≡ true
        m = both_left (has closure (layer_of t k)) (leb half (ahead t k) || passed t (layer_of t k) (ahead t k) k) e

        either : (leb half (ahead t k) || passed t (layer_of t k) (ahead t k) k) ≡ true
        either = both_right (has closure (layer_of t k)) (leb half (ahead t k) || passed t (layer_of t k) (ahead t k) k) e

        rests : RestsOn layers target (layer_of t k)
        rests = (whole.members (layer_of t k)).0 m

        -- an earlier row of the layer that lies as far ahead: then the last before this one does
        from_row : (j : ℕ) × (j < k) × ((eqb (layer_of t j) (layer_of t k) && leb (ahead t k) (ahead t j)) ≡ true) → BreaksOrder layers target t k
        from_row (j, h, b) =
            let same = both_left (eqb (layer_of t j) (layer_of t k)) (leb (ahead t k) (ahead t j)) b in
            let far = leb-true (ahead t k) (ahead t j) (both_right (eqb (layer_of t j) (layer_of t k)) (leb (ahead t k) (ahead t j)) b) in
            let w = last_passing (λ i. eqb (layer_of t i) (layer_of t k)) k j h same in
            let before = w.1.below in
            let own = eqb-true (layer_of t w.0) (layer_of t k) w.1.passes in
            not_rising rests
            (record {
              before = before;
              same_layer = own;
              none_between = λ i a l q. eqb-false (layer_of t i) (layer_of t k) (w.1.none_after i a l) q;
            })
            (ahead_is w.0 (omega arith)) (ahead_is k inside)
            (as_far w.0 before own (eqb-true (layer_of t j) (layer_of t k) same) (eq-or-lt_of_le w.1.not_before) far)
          where
            as_far : (i : ℕ) → i < k → layer_of t i ≡ layer_of t k → layer_of t j ≡ layer_of t k → (j ≡ i) ⊎ (j < i) → ahead t k ≤ ahead t j
                → ahead t k ≤ ahead t i
            as_far i l own same (inl q) far = subst (λ (x : ℕ). ahead t k ≤ ahead t x) q far
            as_far i l own same (inr s) far =
                let rise = farther closure j i (ap (has closure) own ∙ m) (unbroken i l) s (same ∙ sym own) in omega arith

        go : (late : Bool) → leb half (ahead t k) ≡ late → (past : Bool) → passed t (layer_of t k) (ahead t k) k ≡ past → BreaksOrder layers target t k
        go true l past p = not_below rests (ahead_is k inside) (leb-true half (ahead t k) l)
        go false l true p = from_row (some_which (λ i. eqb (layer_of t i) (layer_of t k) && leb (ahead t k) (ahead t i)) k p)
        go false l false p = absurd (true≢false (sym either ∙ ap₂ (λ (x y : Bool). x || y) l p))

-- ---- the first row that breaks the order, that there is none, and a table in range and in order

module _ (layers : Layers) (target closure : ℕ) (whole : WholeClosure layers target closure) (t : Table) where
  pub broken_meant : first_broken t closure < rows_in t → FirstRow t (BreaksOrder layers target t) (first_broken t closure)
  broken_meant h =
      found t (BreaksOrder layers target t) (breaks_order t closure) (breaks_meant t layers target closure whole) (breaks_only t layers target closure whole) h

  pub broken_only : (k : ℕ) → FirstRow t (BreaksOrder layers target t) k → (first_broken t closure < rows_in t) × (k ≡ first_broken t closure)
  broken_only k f =
      is_first t (BreaksOrder layers target t) (breaks_order t closure) (breaks_meant t layers target closure whole)
      (breaks_only t layers target closure whole) k f

  pub none_broken_meant : rows_in t ≤ first_broken t closure → NoRow t (BreaksOrder layers target t)
  none_broken_meant h =
      none t (BreaksOrder layers target t) (breaks_order t closure) (breaks_meant t layers target closure whole) (breaks_only t layers target closure whole) h

  pub none_broken_only : NoRow t (BreaksOrder layers target t) → rows_in t ≤ first_broken t closure
  none_broken_only n =
      is_none t (BreaksOrder layers target t) (breaks_order t closure) (breaks_meant t layers target closure whole)
      (breaks_only t layers target closure whole) n

  pub unbroken : NoRow t (BreaksOrder layers target t) → (k : ℕ) → k < rows_in t → breaks_order t closure k ≡ false
  unbroken n k h = (seek_first (breaks_order t closure) (rows_in t)).before k (let all = none_broken_only n in omega arith)

  pub in_order_meant : (most : ℕ) → Sound most t closure → InOrder most layers target t
  in_order_meant most s =
      record {
        shape = right_shape_meant most t s.shape;
        range = none_outside_meant t s.range;
        order = none_broken_meant s.order;
      }

  pub in_order_only : (most : ℕ) → InOrder most layers target t → Sound most t closure
  in_order_only most o =
      record {
        shape = right_shape_only most t o.shape;
        range = none_outside_only t o.range;
        order = none_broken_only o.order;
      }
