-- The heads that are laid by an index of the rows are the heads of the table, layer after layer; each of them is one, and they come by layer and then by row. And
-- the index, the keys and the marks are what putting them in order asks.
-- Assumes nothing.
use Prim.Native.Nat.{ℕ, zero, suc, ◌+◌, ◌≤◌, ◌<◌}
use mathlib.Core.Bool.{Bool, true, false, not, cond, ◌&&◌}
use mathlib.Core.List.{List, [], ◌∷◌, ◌++◌, append-nil}
use mathlib.Core.Path.{◌≡◌, refl, sym, ◌∙◌, ap, ap₂, subst}
use native.Mathlib.Omega.{arith}
use borrow.Author.Tests.{eqb-true}
use lib.Dec.{eqb, leb}
use lib.ListN.{length, get_or}
use lib.Seq.{slice, slice_empty, length-slice, ext_get_or}
use Rattle.combinators.specs.Bools.{both_left, both_right, same_test, both_ways, false_unless}
use Rattle.combinators.specs.Lists.{gather, gather_append}
use Rattle.combinators.specs.Those.{those, those_alike, those_at, those_rise}
use Rattle.sets.specs.Sets.{has}
use Rattle.ordering.specs.Meaning.{Each, EachTwo}
use Rattle.ordering.specs.Meaning as meaning
use Rattle.ordering.specs.Ordering.{inserted_by, ordered_by}
use Rattle.ordering.specs.Runs.{key_in}
use Rattle.ordering.proofs.Meant.{each_in_order}
use Rattle.ordering.proofs.Stored.{row_of_part}
use Rattle.rows.specs.Table.{Table, rows_in, layer_of}
use Rattle.row_index.specs.Index.{is_of, rows_of, Within, Sorted}
use Rattle.row_index.proofs.Placing.{start_rises, place_among, start_past_all}
use Rattle.row_index.proofs.Searching.{end_is, end_inside, place_holds, places_rise}
use Rattle.spans.specs.Spans.{key_at}
use Rattle.unit_order.specs.Laying.{unmarked, heads_at, heads_first, Orderable}
use Rattle.unit_order.proofs.Each.{each_at, each_places, each_append, two_places}
use Rattle.heads.specs.Units.{Frame, is_head}
use Rattle.unit_lists.specs.Sequence.{heads_of_layer, heads_by_layer, heads_in_order}
use Rattle.unit_lists.specs.Writing.{KeysRise}

-- ---- rows that bear no mark

unmarked_append : (marks : List Bool) (rows more : List ℕ) → unmarked marks (rows ++ more) ≡ unmarked marks rows ++ unmarked marks more
unmarked_append marks [] more = refl
unmarked_append marks (row ∷ rows) more = go (get_or marks row false) (unmarked_append marks rows more)
  where
    go : (b : Bool) → unmarked marks (rows ++ more) ≡ unmarked marks rows ++ unmarked marks more
        → cond b (unmarked marks (rows ++ more)) (row ∷ unmarked marks (rows ++ more))
        ≡ cond b (unmarked marks rows) (row ∷ unmarked marks rows) ++ unmarked marks more
    go true e = e
    go false e = ap (λ (l : List ℕ). row ∷ l) e

unmarked_those : (marks : List Bool) (test : ℕ → Bool) (n : ℕ) → unmarked marks (those test n) ≡ those (λ k. not (get_or marks k false) && test k) n
unmarked_those marks test zero = refl
unmarked_those marks test (suc n) =
    unmarked_append marks (those test n) (cond (test n) (n ∷ []) [])
    ∙ ap₂ (λ (l m : List ℕ). l ++ m) (unmarked_those marks test n) (last (test n) (get_or marks n false) refl)
  where
    last : (b m : Bool) → get_or marks n false ≡ m → unmarked marks (cond b (n ∷ []) []) ≡ cond (not m && b) (n ∷ []) []
    last true true e = rw e
    last true false e = rw e
    last false true e = refl
    last false false e = refl

none_pass : (test : ℕ → Bool) (n : ℕ) → ((k : ℕ) → k < n → test k ≡ false) → those test n ≡ []
none_pass test zero f = refl
none_pass test (suc n) f = rw (none_pass test n (λ k h. f k (omega arith)), f n (omega arith))

-- ---- what is gathered from all numbers below a bound

gather_last : {A : Type 0} (g : ℕ → List A) (n : ℕ) → gather g (those (λ _. true) (suc n)) ≡ gather g (those (λ _. true) n) ++ g n
gather_last g n =
    gather_append g (those (λ _. true) n) (n ∷ []) ∙ ap (λ (l : List _). gather g (those (λ _. true) n) ++ l) (append-nil (g n))

gather_alike : {A : Type 0} (g h : ℕ → List A) (n : ℕ) → ((k : ℕ) → k < n → g k ≡ h k)
    → gather g (those (λ _. true) n) ≡ gather h (those (λ _. true) n)
gather_alike g h zero same = refl
gather_alike g h (suc n) same =
    gather_last g n
    ∙ ap₂ (λ (l m : List _). l ++ m) (gather_alike g h n (λ k l. same k (omega arith))) (same n (omega arith))
    ∙ sym (gather_last h n)

-- ---- keys that agree on rows put them in one order

module _ (key other : ℕ → ℕ) where
  inserted_alike : (row : ℕ) (rows : List ℕ) → key row ≡ other row → Each (λ k. key k ≡ other k) rows → inserted_by key row rows ≡ inserted_by other row rows
  inserted_alike row [] p meaning.Each.none = refl
  inserted_alike row (next ∷ rows) p (meaning.Each.and q each) =
      ap₂ (λ (m n : ℕ). cond (leb m n) (row ∷ next ∷ rows) (next ∷ inserted_by key row rows)) p q
      ∙ ap (λ (l : List ℕ). cond (leb (other row) (other next)) (row ∷ next ∷ rows) (next ∷ l)) (inserted_alike row rows p each)

  pub ordered_alike : (rows : List ℕ) → Each (λ k. key k ≡ other k) rows → ordered_by key rows ≡ ordered_by other rows
  ordered_alike [] meaning.Each.none = refl
  ordered_alike (row ∷ rows) (meaning.Each.and p each) =
      inserted_alike row (ordered_by key rows) p (each_in_order key (λ k. key k ≡ other k) rows each)
      ∙ ap (inserted_by other row) (ordered_alike rows each)

-- ---- the heads of a table by layer

-- what holds of each, holds still where more is known of each
each_more : {P Q : ℕ → Type 0} {rows : List ℕ} → ((k : ℕ) → P k → Q k) → Each P rows → Each Q rows
each_more f meaning.Each.none = meaning.Each.none
each_more f (meaning.Each.and p each) = meaning.Each.and (f _ p) (each_more f each)

-- a head of a layer below n
pub record Heads (t : Table) (f : Frame) (n k : ℕ) : Type 0 where
  pub row : k < rows_in t
  pub is_head : is_head t f k ≡ true
  pub low : layer_of t k < n

-- by lower layer, then by row
pub data LayerThenRow (t : Table) (j k : ℕ) : Type 0 where
  lower_layer : layer_of t j < layer_of t k → LayerThenRow t j k
  lower_row : layer_of t j ≡ layer_of t k → j < k → LayerThenRow t j k

two_append : {Before : ℕ → ℕ → Type 0} {P Q : ℕ → Type 0} {rows more : List ℕ} → ((j k : ℕ) → P j → Q k → Before j k)
    → EachTwo Before rows → Each P rows → EachTwo Before more → Each Q more → EachTwo Before (rows ++ more)
two_append f meaning.EachTwo.none meaning.Each.none two others = two
two_append {more = more} f (meaning.EachTwo.and {row} each two) (meaning.Each.and p ps) rest others =
    meaning.EachTwo.and (each_append each (each_more (λ k q. f row k p q) others)) (two_append f two ps rest others)

module _ (t : Table) (f : Frame) where
  abbrev of_layer : ℕ → ℕ → Bool
  of_layer layer k = is_head t f k && eqb (layer_of t k) layer

  layer_heads : (layer : ℕ) → Each (Heads t f (suc layer)) (heads_of_layer t f layer)
  layer_heads layer =
      each_places (heads_of_layer t f layer)
      (λ i h. (let w = those_at (of_layer layer) (rows_in t) i h in
      let k = get_or (heads_of_layer t f layer) i 0 in
      let own = eqb-true (layer_of t k) layer (both_right (is_head t f k) (eqb (layer_of t k) layer) w.passes) in
      record { row = w.below; is_head = both_left (is_head t f k) (eqb (layer_of t k) layer) w.passes; low = omega arith }))

  layer_own : (layer : ℕ) → Each (λ k. layer_of t k ≡ layer) (heads_of_layer t f layer)
  layer_own layer =
      each_places (heads_of_layer t f layer)
      (λ i h. (let w = those_at (of_layer layer) (rows_in t) i h in
      let k = get_or (heads_of_layer t f layer) i 0 in
      eqb-true (layer_of t k) layer (both_right (is_head t f k) (eqb (layer_of t k) layer) w.passes)))

  layer_rows : (layer : ℕ) → EachTwo (LayerThenRow t) (heads_of_layer t f layer)
  layer_rows layer =
      two_places (heads_of_layer t f layer)
      (λ i j h l. (let v = each_at (layer_own layer) i (omega arith) in
      let w = each_at (layer_own layer) j l in
      lower_row (v ∙ sym w) (those_rise (of_layer layer) (rows_in t) i j h l)))

  abbrev up_to : ℕ → List ℕ
  up_to n = gather (heads_of_layer t f) (those (λ _. true) n)

  first_heads : (n : ℕ) → Each (Heads t f n) (up_to n)
  first_heads zero = meaning.Each.none
  first_heads (suc n) =
      subst (Each (Heads t f (suc n))) (sym (gather_last (heads_of_layer t f) n))
      (each_append (each_more (λ k h. record { row = h.row; is_head = h.is_head; low = omega (arith, h.low) }) (first_heads n)) (layer_heads n))

  first_rows : (n : ℕ) → EachTwo (LayerThenRow t) (up_to n)
  first_rows zero = meaning.EachTwo.none
  first_rows (suc n) =
      subst (EachTwo (LayerThenRow t)) (sym (gather_last (heads_of_layer t f) n))
      (two_append (λ j k h e. lower_layer (omega (arith, h.low, e))) (first_rows n) (first_heads n) (layer_rows n) (layer_own n))

  -- each is a head, and they come by layer and then by row
  pub each_head : Each (Heads t f 64) (heads_by_layer t f)
  unfolding heads_by_layer
  each_head = first_heads 64

  pub by_layer : EachTwo (LayerThenRow t) (heads_by_layer t f)
  unfolding heads_by_layer
  by_layer = first_rows 64

  -- ---- the index

  module _ (starts order : List ℕ) (sorted : Sorted t.indices t.decodings starts order) where
    first_up : (layer upper : ℕ) → layer ≤ upper → upper ≤ 64 → get_or starts layer 0 ≤ get_or starts upper 0
    first_up layer upper h l =
        omega (
          arith,
          sorted.starting.starts_at layer (omega arith),
          sorted.starting.starts_at upper l,
          start_rises t.indices layer upper h,
        )

    rows_there : (layer : ℕ) → layer < 64 → slice (get_or starts layer 0) (get_or starts (layer + 1) 0) order ≡ rows_of t.indices layer
    rows_there layer below =
        ext_get_or 0 (slice first end order) (rows_of t.indices layer) long
        (λ i h. row_of_part order first end i (omega (arith, long, ends))
        ∙ ap (λ (n : ℕ). get_or order (n + i) 0) (sorted.starting.starts_at layer (omega arith))
        ∙ sorted.ordered.holds layer i below (omega (arith, long)))
      where
        first : ℕ
        first = get_or starts layer 0

        end : ℕ
        end = get_or starts (layer + 1) 0

        ends : end ≡ first + length (rows_of t.indices layer)
        ends = end_is t.indices t.decodings starts order sorted layer below

        long : length (slice first end order) ≡ length (rows_of t.indices layer)
        long =
            length-slice first end order
            (omega (arith, end_inside t.indices t.decodings starts order sorted layer below, sorted.ordered.long))
            ∙ omega (arith, ends)

    -- the heads of a layer, by the index
    layer_laid : (layer : ℕ) → layer < 64 → heads_at f.closure f.claimed starts order layer ≡ heads_of_layer t f layer
    layer_laid layer below = go (has f.closure layer) refl
      where
        go : (b : Bool) → has f.closure layer ≡ b
            → unmarked f.claimed (slice (get_or starts layer 0) (cond b (get_or starts (layer + 1) 0) (get_or starts layer 0)) order) ≡ heads_of_layer t f layer
        go true m =
            ap (unmarked f.claimed) (rows_there layer below)
            ∙ unmarked_those f.claimed (is_of t.indices layer) (rows_in t)
            ∙ those_alike (λ k. not (get_or f.claimed k false) && is_of t.indices layer k) (of_layer layer) (rows_in t) (λ k h. same k)
          where
            same : (k : ℕ) → not (get_or f.claimed k false) && eqb (layer_of t k) layer ≡ of_layer layer k
            same k =
                same_test (not (get_or f.claimed k false) && eqb (layer_of t k) layer) (of_layer layer k)
                (λ e. (let own = both_right (not (get_or f.claimed k false)) (eqb (layer_of t k) layer) e in
                let in_closure : has f.closure (layer_of t k) ≡ true = ap (has f.closure) (eqb-true (layer_of t k) layer own) ∙ m in
                ap₂ (λ (a b : Bool). a && b) (ap₂ (λ (a b : Bool). a && b) in_closure (both_left (not (get_or f.claimed k false)) (eqb (layer_of t k) layer) e)) own))
                (λ e. (let head = both_left (is_head t f k) (eqb (layer_of t k) layer) e in
                ap₂ (λ (a b : Bool). a && b) (both_right (has f.closure (layer_of t k)) (not (get_or f.claimed k false)) head)
                (both_right (is_head t f k) (eqb (layer_of t k) layer) e)))
        go false m =
            ap (unmarked f.claimed) (slice_empty (get_or starts layer 0) order)
            ∙ sym (none_pass (of_layer layer) (rows_in t) (λ k h. false_unless (of_layer layer k) (other k)))
          where
            other : (k : ℕ) → of_layer layer k ≡ true → ⊥
            other k e =
                let own = eqb-true (layer_of t k) layer (both_right (is_head t f k) (eqb (layer_of t k) layer) e) in
                let head = both_left (is_head t f k) (eqb (layer_of t k) layer) e in
                both_ways (both_left (has f.closure (layer_of t k)) (not (get_or f.claimed k false)) head) (ap (has f.closure) own ∙ m)

    -- THE HEADS THAT ARE LAID are those of the table
    pub laid_heads : heads_first f.closure f.claimed starts order 64 ≡ heads_by_layer t f
    unfolding heads_first heads_by_layer
    laid_heads = gather_alike (heads_at f.closure f.claimed starts order) (heads_of_layer t f) 64 layer_laid

    -- ---- what laying them and putting them in order asks

    row_there : (place : ℕ) → place < get_or starts 64 0 → get_or order place 0 < rows_in t
    row_there place h =
        let w = place_among t.indices 64 place (omega (arith, sorted.starting.starts_at 64 (omega arith))) in
        let s = sorted.starting.starts_at w.layer (omega (arith, w.layer_below)) in
        (place_holds t.indices t.decodings starts order sorted w.layer w.layer_below place (omega (arith, w.is))
        (omega (arith, w.is, w.rank_inside, end_is t.indices t.decodings starts order sorted w.layer w.layer_below))
        ).row

    pub orderable : (keys : List ℕ) (room : ℕ) → Within t.indices → rows_in t ≤ length f.claimed → rows_in t ≤ length keys
        → ((k : ℕ) → k < rows_in t → get_or keys k 0 ≡ key_at t f.closure k) → KeysRise t f.closure → rows_in t ≤ room
        → Orderable f.closure starts order keys (length f.claimed) room
    orderable keys room within marked long keyed rising fits =
        let last : get_or starts 64 0 ≡ rows_in t = sorted.starting.starts_at 64 (omega arith) ∙ start_past_all t.indices within in
        record {
          parts = record {
            rising = first_up;
            inside = omega (arith, last, sorted.ordered.long);
            marked = λ place h. omega (arith, row_there place h);
            fits = omega (arith, last);
          };
          keyed = λ place h. omega (arith, row_there place h);
          climbing = λ layer p q m below h l g.
              (let low = place_holds t.indices t.decodings starts order sorted layer below p h (omega arith) in
              let high = place_holds t.indices t.decodings starts order sorted layer below q (omega arith) g in
              let rise = rising (get_or order p 0) (get_or order q 0)
              (places_rise t.indices t.decodings starts order sorted layer below p q h l g) high.row (ap (has f.closure) high.of_layer ∙ m)
              (low.of_layer ∙ sym high.of_layer) in
              omega (arith, keyed (get_or order p 0) low.row, keyed (get_or order q 0) high.row));
        }

    -- put in order by a column of keys, they are the heads in order
    pub laid_in_order : (keys : List ℕ) → ((k : ℕ) → k < rows_in t → get_or keys k 0 ≡ key_at t f.closure k)
        → ordered_by (key_in keys) (heads_first f.closure f.claimed starts order 64) ≡ heads_in_order t f
    laid_in_order keys keyed =
        ap (ordered_by (key_in keys)) laid_heads
        ∙ ordered_alike (key_in keys) (key_at t f.closure) (heads_by_layer t f) (each_more (λ k h. keyed k h.row) each_head)

  -- and in order too each is a head
  pub each_head_in_order : Each (Heads t f 64) (heads_in_order t f)
  each_head_in_order = each_in_order (key_at t f.closure) (Heads t f 64) (heads_by_layer t f) each_head
