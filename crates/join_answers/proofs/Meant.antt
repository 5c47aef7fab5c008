-- What Joining computes is what Meaning says, and nothing else is: `table_meant` and `table_only` of the table over a closure, `joined_meant` and
-- `joined_only` of joining; and number by number, `given_11` to `given_18`.
-- Assumes nothing.
use Rattle.std.specs.Prelude.{Err, Ok}
use Rattle.join_answers.specs.Answer.{joined_units, Joined}
use Prim.Native.Nat.{ℕ, ◌≤◌, ◌<◌}
use mathlib.Core.Bool.{Bool, true, false, true≢false}
use mathlib.Core.List.{List}
use mathlib.Core.Logic.{◌⊎◌, inl, inr, ◌↔◌}
use mathlib.Core.Path.{◌≡◌, refl, sym, ◌∙◌, ap, ap₂, subst}
use native.Mathlib.Decide.{dec_lt}
use native.Mathlib.Omega.{arith}
use lib.ListN.{length}
use Rattle.closure.specs.declared.Layers.{Layers}
use Rattle.closure.specs.Answer.{Closure}
use Rattle.closure.specs.Closures.{is_layer, closure_of}
use Rattle.closure.specs.Meaning.{RestsOn, LowestMissing, no_such_layer, absent, Answers as ClosureAnswers}
use Rattle.closure.proofs.Meant.{closure_meant, closure_only}
use Rattle.combinators.specs.Ascending.{Ascending}
use Rattle.combinators.specs.Bools.{false_unless}
use Rattle.combinators.specs.Those.{length_those}
use Rattle.vocabulary.specs.declared.LayerIndex.{LayerIndex}
use Rattle.vocabulary.specs.declared.refusal.Refusal.TheVariants.{LoopTooLong, DoesNotFit, RepeatedPid, WrongLength, SecondRecord, TypeNotAllowed, WrongFlags, RepeatedLayerIndex, WrongEmbeddedIndex, NotVideoHeader, NoPts, FieldsDoNotFit, WrongMarker, PtsBeforeDts, TooWide, LostSync, CounterGap, OutsidePacket, Scrambled, PointsDoNotFit, ReservedEsCount, UnknownReference, NotStereoSet, WrongMvcExtension, RangesMeet, NoSuchLayer, EmbeddedLayerAbsent, OutOfRange, TimeOrderBroken, Unpaired, UsedTwice, NoRoom, SpanTooWide}
use Rattle.rows.specs.Table.{Table, rows_in, layer_of, wrong_shape, first_out_of_range, first_broken}
use Rattle.rows.specs.Meaning.{FirstRow, NoRow, WrongShape, RowOutOfRange, BreaksOrder, InOrder}
use Rattle.rows.proofs.Meant.{shape_meant, shape_only, right_shape_meant, right_shape_only, outside_meant, outside_only, none_outside_meant, none_outside_only, broken_meant, broken_only, in_order_meant, in_order_only}
use Rattle.rows.proofs.Verdicts.{Sound}
use Rattle.claims.specs.Meaning.{Head}
use Rattle.spans.specs.Spans.{is_closure_row, wide_span}
use Rattle.spans.specs.Meaning.{ClosureRow, SpansTooFar}
use Rattle.spans.proofs.Meant.{span_meant, span_only}
use Rattle.heads.specs.Units.{Frame, first_unpaired, first_shared}
use Rattle.heads.specs.Orderly.{Closed, Orderly, Framed}
use Rattle.heads.specs.Meaning.{AssemblesOwn, NoAssembly, SharesRow}
use Rattle.heads.proofs.Orderly.{closed, orderly_by, orderly_of}
use Rattle.heads.proofs.Meant.{first_unpaired_meant, first_unpaired_only, none_unpaired_meant, none_unpaired_only, first_shared_meant, first_shared_only, none_shared_meant, none_shared_only, one_assembly}
use Rattle.unit_lists.proofs.Meant.{assembly_of_lem}
use Rattle.unit_lists.specs.Sequence.{Lists}
use Rattle.join_answers.specs.Joining.{frame_of, closure_rows, too_small, units_joined, table_joined, joined_in, joined_of, room_of, lists_after}
use Rattle.join_answers.specs.Meaning.{TooSmall, Accepted, AnswersOver, wrong_shape_lem, out_of_range_lem, order_broken, no_assembly, in_two_units, too_far_apart, no_room, joined, Answers, no_closure, over_closure}
use Rattle.join_answers.proofs.Framing.{framed}
use Rattle.join_answers.proofs.Cases.{room_meant, room_only, is_unpaired, is_shared, is_wide, is_no_room, are_units, bad_shape, is_outside, is_broken, after_order}
use Rattle.join_answers.proofs.Contents.{closure_rows_ascending, closure_rows_only, accepted, accepted_only}
use Rattle.join_answers.proofs.Rooms.{each_complete}

-- ---- THE TABLE OVER A CLOSURE

module _ (most : ℕ) (layers : Layers) (target closure : ℕ) (whole : Closed layers target closure) (t : Table) (before : Lists) where
  abbrev f : Frame
  f = frame_of layers closure t

  abbrev RightOver : Joined → Type 0
  RightOver answer = AnswersOver most layers target closure t before answer (lists_after layers t answer before)

  abbrev table_answer : Joined
  table_answer = table_joined most layers t closure (room_of before)

  abbrev units_answer : Joined
  units_answer = units_joined t f (room_of before)

  over_frame : Framed layers closure t f
  over_frame = framed layers target closure t whole

  -- 15 to 18, and the units
  units_meet : InOrder most layers target t → Orderly layers target closure t → RightOver units_answer
  units_meet o ordered = at_15 (dec_lt (first_unpaired t f) (rows_in t))
    where
      at_17 : rows_in t ≤ first_unpaired t f → rows_in t ≤ first_shared t f → wide_span t closure ≡ false
          → (b : Bool) → too_small (room_of before) (closure_rows t closure) ≡ b → RightOver units_answer
      at_17 paired apart narrow true e =
          subst RightOver (is_no_room t f (room_of before) paired apart narrow e)
          (no_room o (none_unpaired_meant layers target closure t ordered f over_frame paired)
          (none_shared_meant layers target closure t ordered f over_frame paired apart)
          (λ s. true≢false (sym (span_only layers target closure whole.whole t s) ∙ narrow))
          (closure_rows_ascending layers target closure t ordered)
          (subst (λ (n : ℕ). TooSmall n (room_of before)) (sym (length_those (is_closure_row t closure) (rows_in t)))
          (room_meant (room_of before) (closure_rows t closure) e)))
      at_17 paired apart narrow false e =
          subst RightOver (are_units t f (room_of before) paired apart narrow e)
          (joined o (none_shared_meant layers target closure t ordered f over_frame paired apart)
          (λ s. true≢false (sym (span_only layers target closure whole.whole t s) ∙ narrow))
          (accepted layers target closure t ordered f over_frame before
          (each_complete layers target closure t ordered f over_frame paired)
          (λ s. true≢false (sym (room_only (room_of before) (closure_rows t closure) s) ∙ e))))

      at_18 : rows_in t ≤ first_unpaired t f → rows_in t ≤ first_shared t f → (b : Bool) → wide_span t closure ≡ b → RightOver units_answer
      at_18 paired apart true e =
          subst RightOver (is_wide t f (room_of before) paired apart e)
          (too_far_apart o (none_unpaired_meant layers target closure t ordered f over_frame paired)
          (none_shared_meant layers target closure t ordered f over_frame paired apart) (span_meant layers target closure whole.whole t e))
      at_18 paired apart false e = at_17 paired apart e (too_small (room_of before) (closure_rows t closure)) refl

      at_16 : rows_in t ≤ first_unpaired t f → Dec (first_shared t f < rows_in t) → RightOver units_answer
      at_16 paired (yes h) =
          subst RightOver (is_shared t f (room_of before) paired (first_shared t f) refl h)
          (in_two_units o (none_unpaired_meant layers target closure t ordered f over_frame paired)
          (first_shared_meant layers target closure t ordered f over_frame paired h))
      at_16 paired (no n) = at_18 paired (omega arith) (wide_span t closure) refl

      at_15 : Dec (first_unpaired t f < rows_in t) → RightOver units_answer
      at_15 (yes h) =
          subst RightOver (is_unpaired t f (room_of before) (first_unpaired t f) refl h)
          (no_assembly o (first_unpaired_meant layers target closure t ordered f over_frame h))
      at_15 (no n) = at_16 (omega arith) (dec_lt (first_shared t f) (rows_in t))

  -- 13 and 14: what is computed is right,
  pub table_meant : AnswersOver most layers target closure t before (table_joined most layers t closure (room_of before))
      (lists_after layers t (table_joined most layers t closure (room_of before)) before)
  table_meant = at_shape (wrong_shape most t) refl
    where
      at_14 : wrong_shape most t ≡ false → rows_in t ≤ first_out_of_range t → Dec (first_broken t closure < rows_in t) → RightOver table_answer
      at_14 shape in_range (yes h) =
          subst RightOver (is_broken most layers t closure (room_of before) shape in_range (first_broken t closure) refl h)
          (order_broken (right_shape_meant most t shape) (none_outside_meant t in_range) (broken_meant layers target closure whole.whole t h))
      at_14 shape in_range (no n) =
          subst RightOver (after_order most layers t closure (room_of before) sound)
          (units_meet (in_order_meant layers target closure whole.whole t most sound) (orderly_by layers target closure whole most t sound))
        where
          sound : Sound most t closure
          sound = record { shape = shape; range = in_range; order = omega arith }

      at_13 : wrong_shape most t ≡ false → Dec (first_out_of_range t < rows_in t) → RightOver table_answer
      at_13 shape (yes h) =
          subst RightOver (is_outside most layers t closure (room_of before) shape (first_out_of_range t) refl h)
          (out_of_range_lem (right_shape_meant most t shape) (outside_meant t h))
      at_13 shape (no n) = at_14 shape (omega arith) (dec_lt (first_broken t closure) (rows_in t))

      at_shape : (b : Bool) → wrong_shape most t ≡ b → RightOver table_answer
      at_shape true e = subst RightOver (bad_shape most layers t closure (room_of before) e) (wrong_shape_lem (shape_meant most t e))
      at_shape false e = at_13 e (dec_lt (first_out_of_range t) (rows_in t))

  -- what the call over a closure promises: the two equalities of its contract
  pub record TableComputed (answer : Joined) (after : Lists) : Type 0 where
    pub is_answer : answer ≡ table_joined most layers t closure (room_of before)
    pub is_after : after ≡ lists_after layers t answer before

  units_are : InOrder most layers target t → units_answer ≡ table_answer
  units_are o = after_order most layers t closure (room_of before) (in_order_only layers target closure whole.whole t most o)

  narrow_span : (SpansTooFar layers target t → ⊥) → wide_span t closure ≡ false
  narrow_span n = false_unless (wide_span t closure) (λ e. n (span_meant layers target closure whole.whole t e))

  -- the units
  joined_is : {units rows : ℕ} {after : Lists} → InOrder most layers target t → NoRow t (SharesRow layers target t) → (SpansTooFar layers target t → ⊥)
      → Accepted layers target t before units rows after → TableComputed (joined_units closure units rows) after
  joined_is {units} {rows} {after} o s n a =
      let ordered = orderly_of layers target closure whole most t o in
      let paired = none_unpaired_only layers target closure t ordered f over_frame has_assembly in
      let apart = none_shared_only layers target closure t ordered f over_frame paired s in
      let one = accepted_only layers target closure t ordered f over_frame before a in
      record {
        is_answer = ap₂ (joined_units closure) one.0 one.1
            ∙ are_units t f (room_of before) paired apart (narrow_span n)
            (false_unless (too_small (room_of before) (closure_rows t closure))
            (λ e. a.enough_room (subst (λ (n : ℕ). TooSmall n (room_of before)) (sym one.1) (room_meant (room_of before) (closure_rows t closure) e))))
            ∙ units_are o;
        is_after = one.2;
      }
    where
      has_assembly : NoRow t (NoAssembly layers target t)
      has_assembly k h m =
          let at = a.in_order.all k m.is_head in
          let w = assembly_of_lem a.units_of_heads at.0 at.1 in
          m.none w.0 (subst (λ (head : ℕ). AssemblesOwn layers t head w.0) at.2 w.1)

  -- and nothing else is.
  pub table_only : {answer : Joined} {after : Lists} → AnswersOver most layers target closure t before answer after → TableComputed answer after
  table_only (wrong_shape_lem w) =
      record {
        is_answer = bad_shape most layers t closure (room_of before) (shape_only most t w);
        is_after = refl;
      }
  table_only (out_of_range_lem {row = row} s r) =
      record {
        is_answer = is_outside most layers t closure (room_of before) (right_shape_only most t s) row (outside_only t row r).1 r.inside;
        is_after = refl;
      }
  table_only (order_broken {row = row} s n r) =
      record {
        is_answer = is_broken most layers t closure (room_of before) (right_shape_only most t s) (none_outside_only t n) row
            (broken_only layers target closure whole.whole t row r).1 r.inside;
        is_after = refl;
      }
  table_only (no_assembly {row = row} o r) =
      let ordered = orderly_of layers target closure whole most t o in
      record {
        is_answer = is_unpaired t f (room_of before) row (first_unpaired_only layers target closure t ordered f over_frame row r).1 r.inside ∙ units_are o;
        is_after = refl;
      }
  table_only (in_two_units {row = row} o n r) =
      let ordered = orderly_of layers target closure whole most t o in
      let paired = none_unpaired_only layers target closure t ordered f over_frame n in
      record {
        is_answer = is_shared t f (room_of before) paired row (first_shared_only layers target closure t ordered f over_frame paired row r).1 r.inside
            ∙ units_are o;
        is_after = refl;
      }
  table_only (too_far_apart o n s w) =
      let ordered = orderly_of layers target closure whole most t o in
      let paired = none_unpaired_only layers target closure t ordered f over_frame n in
      record {
        is_answer = is_wide t f (room_of before) paired (none_shared_only layers target closure t ordered f over_frame paired s)
            (span_only layers target closure whole.whole t w)
            ∙ units_are o;
        is_after = refl;
      }
  table_only (no_room {rows = rows} o n s w a small) =
      let ordered = orderly_of layers target closure whole most t o in
      let paired = none_unpaired_only layers target closure t ordered f over_frame n in
      record {
        is_answer = is_no_room t f (room_of before) paired (none_shared_only layers target closure t ordered f over_frame paired s) (narrow_span w)
            (room_only (room_of before) (closure_rows t closure)
            (subst (λ (n : ℕ). TooSmall n (room_of before)) (closure_rows_only layers target closure t ordered rows a) small))
            ∙ units_are o;
        is_after = refl;
      }
  table_only (joined o s w a) = joined_is o s w a

-- ---- JOINING: the closure, then the table over it

module _ (most : ℕ) (layers : Layers) (target : ℕ) (t : Table) (before : Lists) where
  abbrev Right : Joined → Type 0
  Right answer = Answers most layers target t before answer (lists_after layers t answer before)

  abbrev answer_of : Joined
  answer_of = joined_of most layers target t (room_of before)

  -- THE ANSWER: what is computed is right,
  pub joined_meant : Answers most layers target t before (joined_of most layers target t (room_of before))
      (lists_after layers t (joined_of most layers target t (room_of before)) before)
  joined_meant = go (closure_of layers target) refl
    where
      go : (c : Closure) → closure_of layers target ≡ c → Right answer_of
      go (Ok closure) e =
          subst Right (sym (ap (joined_in most layers t (room_of before)) e))
          (over_closure (subst (ClosureAnswers layers target) e (closure_meant layers target))
          (table_meant most layers target closure (closed layers target closure e) t before))
      go (Err refusal) e =
          subst Right (sym (ap (joined_in most layers t (room_of before)) e))
          (no_closure (subst (ClosureAnswers layers target) e (closure_meant layers target)))

  -- and nothing else is.
  pub record Computed (answer : Joined) (after : Lists) : Type 0 where
    pub is_answer : answer ≡ joined_of most layers target t (room_of before)
    pub is_after : after ≡ lists_after layers t answer before

  pub joined_only : {answer : Joined} {after : Lists} → Answers most layers target t before answer after → Computed answer after
  joined_only (no_closure c) =
      record {
        is_answer = ap (joined_in most layers t (room_of before)) (closure_only layers target c);
        is_after = refl;
      }
  joined_only (over_closure {closure = closure} c a) =
      let found = closure_only layers target c in
      let only = table_only most layers target closure (closed layers target closure (sym found)) t before a in
      record {
        is_answer = only.is_answer ∙ ap (joined_in most layers t (room_of before)) found;
        is_after = only.is_after;
      }

  -- One answer only, and one content of the lists.
  pub one_answer : {answer other : Joined} {after then : Lists} → Answers most layers target t before answer after
      → Answers most layers target t before other then → (answer ≡ other) × (after ≡ then)
  one_answer {answer} {other} p q =
      let a = joined_only p in
      let b = joined_only q in
      let same : answer ≡ other = a.is_answer ∙ sym b.is_answer in (
        same,
        a.is_after ∙ ap (λ (r : Joined). lists_after layers t r before) same ∙ sym b.is_after,
      )

  -- What a call promises by its equalities is right.
  pub computed_meant : {answer : Joined} {after : Lists} → Computed answer after → Answers most layers target t before answer after
  computed_meant {answer} c =
      subst (Answers most layers target t before answer) (sym c.is_after) (subst Right (sym c.is_answer) joined_meant)

  -- ---- the same by number: each is given exactly when the documents say

  abbrev pub Given11 : Type 0
  Given11 = is_layer layers target ≡ false

  abbrev pub Given12 : ℕ → Type 0
  Given12 index = (is_layer layers target ≡ true) × LowestMissing layers target index

  abbrev pub Given13 : ℕ → Type 0
  Given13 row =
      (closure : ℕ) × ClosureAnswers layers target (Ok closure)
      × ((WrongShape most t × (row ≡ 0)) ⊎ ((WrongShape most t → ⊥) × FirstRow t (RowOutOfRange t) row))

  abbrev pub Given14 : ℕ → Type 0
  Given14 row =
      (closure : ℕ) × ClosureAnswers layers target (Ok closure) × (WrongShape most t → ⊥) × NoRow t (RowOutOfRange t)
      × FirstRow t (BreaksOrder layers target t) row

  abbrev pub Given15 : ℕ → Type 0
  Given15 row =
      (closure : ℕ) × ClosureAnswers layers target (Ok closure) × InOrder most layers target t × FirstRow t (NoAssembly layers target t) row

  abbrev pub Given16 : ℕ → Type 0
  Given16 row =
      (closure : ℕ) × ClosureAnswers layers target (Ok closure) × InOrder most layers target t × NoRow t (NoAssembly layers target t)
      × FirstRow t (SharesRow layers target t) row

  abbrev pub Given18 : Type 0
  Given18 =
      (closure : ℕ) × ClosureAnswers layers target (Ok closure) × InOrder most layers target t × NoRow t (NoAssembly layers target t)
      × NoRow t (SharesRow layers target t) × SpansTooFar layers target t

  abbrev pub Given17 : Type 0
  Given17 =
      (closure : ℕ) × (rows : List ℕ) × ClosureAnswers layers target (Ok closure) × InOrder most layers target t
      × NoRow t (NoAssembly layers target t) × NoRow t (SharesRow layers target t) × (SpansTooFar layers target t → ⊥)
      × Ascending (ClosureRow layers target t) rows × TooSmall (length rows) (room_of before)

  abbrev pub GivenUnits : ℕ → ℕ → ℕ → Type 0
  GivenUnits closure units rows =
      (after : Lists) × ClosureAnswers layers target (Ok closure) × InOrder most layers target t × NoRow t (SharesRow layers target t)
      × (SpansTooFar layers target t → ⊥) × Accepted layers target t before units rows after

  -- what each answer tells: and that no other number is given
  abbrev Given : Joined → Type 0
  Given (Ok answered) = GivenUnits answered.closure answered.units answered.rows
  Given (Err NoSuchLayer) = Given11
  Given (Err (EmbeddedLayerAbsent index)) = Given12 index.0
  Given (Err (OutOfRange row)) = Given13 row
  Given (Err (TimeOrderBroken row)) = Given14 row
  Given (Err (Unpaired row)) = Given15 row
  Given (Err (UsedTwice row)) = Given16 row
  Given (Err NoRoom) = Given17
  Given (Err SpanTooWide) = Given18
  Given (Err LoopTooLong) = ⊥
  Given (Err (DoesNotFit entry)) = ⊥
  Given (Err (RepeatedPid entry)) = ⊥
  Given (Err (WrongLength entry)) = ⊥
  Given (Err (SecondRecord entry)) = ⊥
  Given (Err (TypeNotAllowed entry)) = ⊥
  Given (Err (WrongFlags entry)) = ⊥
  Given (Err (RepeatedLayerIndex entry)) = ⊥
  Given (Err (WrongEmbeddedIndex entry)) = ⊥
  Given (Err NotVideoHeader) = ⊥
  Given (Err NoPts) = ⊥
  Given (Err FieldsDoNotFit) = ⊥
  Given (Err WrongMarker) = ⊥
  Given (Err PtsBeforeDts) = ⊥
  Given (Err TooWide) = ⊥
  Given (Err (LostSync packet)) = ⊥
  Given (Err (CounterGap packet)) = ⊥
  Given (Err (OutsidePacket packet)) = ⊥
  Given (Err (Scrambled packet)) = ⊥
  Given (Err PointsDoNotFit) = ⊥
  Given (Err ReservedEsCount) = ⊥
  Given (Err UnknownReference) = ⊥
  Given (Err NotStereoSet) = ⊥
  Given (Err WrongMvcExtension) = ⊥
  Given (Err RangesMeet) = ⊥

  given : {answer : Joined} {after : Lists} → Answers most layers target t before answer after → Given answer
  given (no_closure (no_such_layer h)) = h
  given (no_closure (absent here m)) = (here, m)
  given (over_closure {closure = closure} c (wrong_shape_lem w)) = (closure, c, inl (w, refl))
  given (over_closure {closure = closure} c (out_of_range_lem s r)) = (closure, c, inr (s, r))
  given (over_closure {closure = closure} c (order_broken s n r)) = (closure, c, s, n, r)
  given (over_closure {closure = closure} c (no_assembly o r)) = (closure, c, o, r)
  given (over_closure {closure = closure} c (in_two_units o n r)) = (closure, c, o, n, r)
  given (over_closure {closure = closure} c (too_far_apart o n s w)) = (closure, c, o, n, s, w)
  given (over_closure {closure = closure} c (no_room {rows = rows} o n s w a small)) = (closure, rows, c, o, n, s, w, a, small)
  given (over_closure c (joined {after = after} o s w a)) = (after, c, o, s, w, a)

  tells : {answer : Joined} → joined_of most layers target t (room_of before) ≡ answer → Given answer
  tells e = subst Given e (given joined_meant)

  follows : {answer : Joined} {after : Lists} → Answers most layers target t before answer after
      → joined_of most layers target t (room_of before) ≡ answer
  follows a = sym (joined_only a).is_answer

  pub given_11 : (joined_of most layers target t (room_of before) ≡ Err NoSuchLayer) ↔ Given11
  given_11 = (λ e. tells e, λ h. follows (no_closure (no_such_layer h)))

  pub given_12 : (index : LayerIndex)
      → (joined_of most layers target t (room_of before) ≡ Err (EmbeddedLayerAbsent index)) ↔ Given12 index.0
  given_12 index = (λ e. tells e, λ w. follows (no_closure (absent w.0 w.1)))

  pub given_13 : (row : ℕ) → (joined_of most layers target t (room_of before) ≡ Err (OutOfRange row)) ↔ Given13 row
  given_13 row = (λ e. tells e, λ w. back w.0 w.1 w.2)
    where
      back : (closure : ℕ) → ClosureAnswers layers target (Ok closure)
          → (WrongShape most t × (row ≡ 0)) ⊎ ((WrongShape most t → ⊥) × FirstRow t (RowOutOfRange t) row)
          → joined_of most layers target t (room_of before) ≡ Err (OutOfRange row)
      back closure c (inl w) = follows (over_closure c (wrong_shape_lem w.0)) ∙ ap (λ (k : ℕ). Err (OutOfRange k)) (sym w.1)
      back closure c (inr w) = follows (over_closure c (out_of_range_lem w.0 w.1))

  pub given_14 : (row : ℕ) → (joined_of most layers target t (room_of before) ≡ Err (TimeOrderBroken row)) ↔ Given14 row
  given_14 row = (λ e. tells e, λ w. follows (over_closure w.1 (order_broken w.2 w.3 w.4)))

  pub given_15 : (row : ℕ) → (joined_of most layers target t (room_of before) ≡ Err (Unpaired row)) ↔ Given15 row
  given_15 row = (λ e. tells e, λ w. follows (over_closure w.1 (no_assembly w.2 w.3)))

  pub given_16 : (row : ℕ) → (joined_of most layers target t (room_of before) ≡ Err (UsedTwice row)) ↔ Given16 row
  given_16 row = (λ e. tells e, λ w. follows (over_closure w.1 (in_two_units w.2 w.3 w.4)))

  pub given_18 : (joined_of most layers target t (room_of before) ≡ Err SpanTooWide) ↔ Given18
  given_18 = (λ e. tells e, λ w. follows (over_closure w.1 (too_far_apart w.2 w.3 w.4 w.5)))

  pub given_17 : (joined_of most layers target t (room_of before) ≡ Err NoRoom) ↔ Given17
  given_17 = (λ e. tells e, λ w. follows (over_closure w.2 (no_room w.3 w.4 w.5 w.6 w.7 w.8)))

  pub given_units : (closure units rows : ℕ)
      → (joined_of most layers target t (room_of before) ≡ joined_units closure units rows) ↔ GivenUnits closure units rows
  given_units closure units rows = (λ e. tells e, λ w. follows (over_closure w.1 (joined w.2 w.3 w.4 w.5)))

  -- At most one assembly of a head, where 11 to 14 are not given.
  pub at_most_one_assembly : (closure : ℕ) → ClosureAnswers layers target (Ok closure) → InOrder most layers target t
      → (head : ℕ) → Head layers target t head → (choice other : ℕ → ℕ) → AssemblesOwn layers t head choice → AssemblesOwn layers t head other
      → (layer : ℕ) → RestsOn layers (layer_of t head) layer → choice layer ≡ other layer
  at_most_one_assembly closure c o =
      let whole = closed layers target closure (sym (closure_only layers target c)) in
      one_assembly layers target closure t (orderly_of layers target closure whole most t o) (frame_of layers closure t)
      (framed layers target closure t whole)
