-- The walk that lays points into a buffer: what is known in a turn, and what a turn lays in.
-- Assumes nothing.
use Prim.Native.Nat.{ℕ, ◌+◌, ◌-◌, ◌*◌, ◌/◌, ◌≤◌, ◌<◌}
use mathlib.Core.Path.{◌≡◌, sym, ap, ap₂, ◌∙◌}
use mathlib.Core.Bool.{Bool, false}
use mathlib.Core.List.{List, [], ◌∷◌, ◌++◌, append_assoc, append-nil}
use native.Mathlib.Omega.{arith}
use lib.ListN.{length, get_or, take, drop, length-take, length-drop, take-append-drop}
use lib.Seq.{drop-drop, get_or-take, get_or-drop}
use Rattle.combinators.specs.Bools.{neither_left, neither_right}
use Rattle.combinators.specs.Lists.{any, any_append}
use Rattle.buffers.specs.Buffers.{Laid}
use Rattle.buffers.proofs.Laws.{laid_as, laid_then, laid_nothing, laid_within}
use Rattle.point_fields.specs.Fields.{row_too_wide, references_counted, layers_counted, point_bytes}
use Rattle.point_weights.specs.Rows.{twelves, rows_in, total}
use Rattle.point_weights.proofs.Weights.{rows_start, rows_next, rows_none}
use Rattle.point_writer.specs.Layout.{points_bytes}

-- ---- of a list in which nothing passes a test, no part has one that does

module _ {A : Type 0} (test : A → Bool) (l : List A) (none : any test l ≡ false) where
  pub any_behind : (k : ℕ) → any test (drop k l) ≡ false
  any_behind k =
      neither_right (any test (take k l)) (any test (drop k l))
      (sym (any_append test (take k l) (drop k l)) ∙ ap (any test) (take-append-drop k l) ∙ none)

  pub any_part : (n k : ℕ) → any test (take n (drop k l)) ≡ false
  any_part n k =
      neither_left (any test (take n (drop k l))) (any test (drop n (drop k l)))
      (sym (any_append test (take n (drop k l)) (drop n (drop k l))) ∙ ap (any test) (take-append-drop n (drop k l)) ∙ any_behind k)

module _ (points references layers : List ℕ) where
  -- the rows from a place on, and the one that stands there as the code has it
  abbrev left : ℕ → List (List ℕ)
  left i = twelves (length points / 12 - i) (drop (i * 12) points)

  abbrev row_at : ℕ → List ℕ
  row_at i = take (i * 12 + 12 - i * 12) (drop (i * 12) points)

  module _ (old : List ℕ) (start : ℕ) where
    pub record Walking (out : List ℕ) (place reference layer i : ℕ) : Type 0 where
      pub done : List ℕ
      pub laid : Laid old start done place out
      pub same : done ++ points_bytes (left i) (drop reference references) (drop layer layers) ≡ points_bytes (rows_in points) references layers
      pub within : i ≤ length points / 12
      pub fine : any row_too_wide (left i) ≡ false
      pub references_left : reference + total references_counted (left i) ≡ length references
      pub layers_left : layer + total layers_counted (left i) ≡ length layers

  pub walking_start : {older : List ℕ} {at : ℕ} {old : List ℕ} {start : ℕ} → Laid older at [] start old → any row_too_wide (rows_in points) ≡ false
      → total references_counted (rows_in points) ≡ length references → total layers_counted (rows_in points) ≡ length layers
      → Walking old start old start 0 0 0
  walking_start {old = old} {start = start} p fine r l =
      let all : left 0 ≡ rows_in points = rows_start points (length points / 12) in
      record {
        done = [];
        laid = laid_nothing old start start (laid_within p);
        same = ap (λ (rows : List (List ℕ)). points_bytes rows references layers) all;
        within = omega arith;
        fine = ap (any row_too_wide) all ∙ fine;
        references_left = ap (λ (rows : List (List ℕ)). 0 + total references_counted rows) all ∙ (omega (arith, r));
        layers_left = ap (λ (rows : List (List ℕ)). 0 + total layers_counted rows) all ∙ (omega (arith, l));
      }

  -- after the last turn
  pub walking_end : {older : List ℕ} {at : ℕ} {old : List ℕ} {start : ℕ} {out : List ℕ} {place reference layer i : ℕ} → Laid older at [] start old
      → Walking old start out place reference layer i → length points / 12 ≤ i → Laid older at (points_bytes (rows_in points) references layers) place out
  walking_end {reference = reference} {layer = layer} {i = i} p known h =
      let none : left i ≡ [] = rows_none points (length points / 12) i h in
      laid_as
      (sym (append-nil known.done)
      ∙ sym (ap (λ (rows : List (List ℕ)). known.done ++ points_bytes rows (drop reference references) (drop layer layers)) none)
      ∙ known.same)
      (laid_then p known.laid)

  module _ (old : List ℕ) (start : ℕ) (out : List ℕ) (place reference layer i : ℕ) (known : Walking old start out place reference layer i)
      (more : i < length points / 12) where
    next_rows : left i ≡ row_at i ∷ left (i + 1)
    next_rows = rows_next points (length points / 12) i more

    number_at : (k : ℕ) → k < 12 → get_or points (i * 12 + k) 0 ≡ get_or (row_at i) k 0
    number_at k h = sym (get_or-take (i * 12 + 12 - i * 12) (drop (i * 12) points) k 0 (omega arith) ∙ get_or-drop (i * 12) points k 0)

    none_wide : any row_too_wide (row_at i ∷ left (i + 1)) ≡ false
    none_wide = sym (ap (any row_too_wide) next_rows) ∙ known.fine

    references_here : reference + (references_counted (row_at i) + total references_counted (left (i + 1))) ≡ length references
    references_here = sym (ap (λ (rows : List (List ℕ)). reference + total references_counted rows) next_rows) ∙ known.references_left

    layers_here : layer + (layers_counted (row_at i) + total layers_counted (left (i + 1))) ≡ length layers
    layers_here = sym (ap (λ (rows : List (List ℕ)). layer + total layers_counted rows) next_rows) ∙ known.layers_left

    -- what the code asks in a turn, by the numbers that it reads
    pub record Turn : Type 0 where
      pub row_long : length (row_at i) ≡ 12
      pub row_fine : row_too_wide (row_at i) ≡ false
      pub references_count : get_or points (i * 12 + 1) 0 ≡ references_counted (row_at i)
      pub layers_count : get_or points (i * 12 + 2) 0 ≡ layers_counted (row_at i)
      pub references_within : reference + get_or points (i * 12 + 1) 0 ≤ length references
      pub layers_within : layer + get_or points (i * 12 + 2) 0 ≤ length layers

    pub turn : Turn
    turn =
        let r = number_at 1 (omega arith) in
        let l = number_at 2 (omega arith) in
        let rs = references_here in
        let ls = layers_here in
        record {
          row_long = simp (length-take, length-drop) (omega arith);
          row_fine = neither_left (row_too_wide (row_at i)) (any row_too_wide (left (i + 1))) none_wide;
          references_count = r;
          layers_count = l;
          references_within = omega arith;
          layers_within = omega arith;
        }

    -- the parts that the code lends, and what is left behind them
    part_taken : (l : List ℕ) (from count : ℕ) (counted : ℕ) → count ≡ counted → take (from + count - from) (drop from l) ≡ take counted (drop from l)
    part_taken l from count counted e = let same : from + count - from ≡ counted = omega arith in ap (λ (n : ℕ). take n (drop from l)) same

    part_behind : (l : List ℕ) (from count counted : ℕ) → count ≡ counted → drop (from + count) l ≡ drop counted (drop from l)
    part_behind l from count counted e = ap (λ (n : ℕ). drop (from + n) l) e ∙ sym (drop-drop counted from l)

    pub walking_next : {next : ℕ} {new : List ℕ}
        → Laid out place (point_bytes (row_at i) (take (reference + get_or points (i * 12 + 1) 0 - reference) (drop reference references))
        (take (layer + get_or points (i * 12 + 2) 0 - layer) (drop layer layers))) next new
        → Walking old start new next (reference + get_or points (i * 12 + 1) 0) (layer + get_or points (i * 12 + 2) 0) (i + 1)
    walking_next p =
        let t = turn in
        let es : ℕ = get_or points (i * 12 + 1) 0 in
        let n : ℕ = get_or points (i * 12 + 2) 0 in
        let piece : List ℕ = point_bytes (row_at i) (take (reference + es - reference) (drop reference references)) (take (layer + n - layer) (drop layer layers)) in
        let rs = references_here in
        let ls = layers_here in
        record {
          done = known.done ++ piece;
          laid = laid_then known.laid p;
          same = append_assoc known.done piece (points_bytes (left (i + 1)) (drop (reference + es) references) (drop (layer + n) layers))
              ∙ ap (λ (l : List ℕ). known.done ++ l)
              (ap₂ (λ (a b : List ℕ). a ++ b)
              (ap₂ (λ (a b : List ℕ). point_bytes (row_at i) a b) (part_taken references reference es (references_counted (row_at i)) t.references_count)
              (part_taken layers layer n (layers_counted (row_at i)) t.layers_count))
              (ap₂ (λ (a b : List ℕ). points_bytes (left (i + 1)) a b) (part_behind references reference es (references_counted (row_at i)) t.references_count)
              (part_behind layers layer n (layers_counted (row_at i)) t.layers_count)))
              ∙ sym (ap (λ (rows : List (List ℕ)). known.done ++ points_bytes rows (drop reference references) (drop layer layers)) next_rows)
              ∙ known.same;
          within = omega arith;
          fine = neither_right (row_too_wide (row_at i)) (any row_too_wide (left (i + 1))) none_wide;
          references_left = omega (arith, t.references_count);
          layers_left = omega (arith, t.layers_count);
        }
