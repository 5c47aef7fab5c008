-- The computed answer, case by case: which tests lead to each refusal, and which to the units.
-- Assumes nothing.
use Rattle.std.specs.Prelude.{Ok, Err}
use Rattle.join_answers.specs.Answer.{joined_units, Joined}
use Prim.Native.Nat.{ℕ, ◌≤◌, ◌<◌}
use mathlib.Core.Bool.{Bool, true, false, cond, ◌||◌}
use mathlib.Core.Path.{◌≡◌, refl, sym, ◌∙◌, ap, subst}
use borrow.Author.Tests.{lt-ltb, le-ltb, ltb-true}
use lib.Dec.{ltb}
use Rattle.closure.specs.declared.Layers.{Layers}
use Rattle.combinators.specs.Bools.{either_left, either_right, either_way}
use Rattle.rows.proofs.Verdicts as verdict
use Rattle.rows.proofs.Verdicts.{Sound}
use Rattle.rows.specs.Verdicts.{Verdict, verdict_of}
use Rattle.rows.specs.Table.{Table, rows_in, wrong_shape, first_out_of_range, first_broken}
use Rattle.vocabulary.specs.declared.refusal.Refusal.{Refusal}
use Rattle.vocabulary.specs.declared.refusal.Refusal.TheVariants.{OutOfRange, TimeOrderBroken, Unpaired, UsedTwice, SpanTooWide, NoRoom}
use Rattle.spans.specs.Spans.{wide_span}
use Rattle.heads.specs.Units.{Frame, first_unpaired, first_shared, units_in}
use Rattle.join_answers.specs.Joining.{frame_of, closure_rows, Room, too_small, units_joined, joined_by, table_joined}
use Rattle.join_answers.specs.Meaning.{TooSmall, for_numbers, for_lags, for_sizes}

taken : {A : Type 0} (x y : A) (b : Bool) → b ≡ true → x ≡ cond b x y
taken x y b e = sym (ap (λ (b : Bool). cond b x y) e)

passed : {A : Type 0} (x y : A) (b : Bool) → b ≡ false → y ≡ cond b x y
passed x y b e = sym (ap (λ (b : Bool). cond b x y) e)

-- ---- 17, of each list

module _ (room : Room) (rows : ℕ) where
  pub room_meant : too_small room rows ≡ true → TooSmall rows room
  room_meant e = go (ltb room.numbers rows) refl (ltb room.lags rows) refl e
    where
      go : (n : Bool) → ltb room.numbers rows ≡ n → (l : Bool) → ltb room.lags rows ≡ l → (n || (l || ltb room.sizes rows)) ≡ true → TooSmall rows room
      go true p l q e = for_numbers (ltb-true room.numbers rows p)
      go false p true q e = for_lags (ltb-true room.lags rows q)
      go false p false q e = for_sizes (ltb-true room.sizes rows e)

  pub room_only : TooSmall rows room → too_small room rows ≡ true
  room_only (for_numbers h) = either_left (ltb room.numbers rows) (ltb room.lags rows || ltb room.sizes rows) (lt-ltb room.numbers rows h)
  room_only (for_lags h) =
      either_right (ltb room.numbers rows) (ltb room.lags rows || ltb room.sizes rows)
      (either_left (ltb room.lags rows) (ltb room.sizes rows) (lt-ltb room.lags rows h))
  room_only (for_sizes h) =
      either_right (ltb room.numbers rows) (ltb room.lags rows || ltb room.sizes rows)
      (either_right (ltb room.lags rows) (ltb room.sizes rows) (lt-ltb room.sizes rows h))

-- ---- 15, 16, 18, 17 and the units

module _ (t : Table) (f : Frame) (room : Room) where
  pub is_unpaired : (k : ℕ) → k ≡ first_unpaired t f → k < rows_in t → Err (Unpaired k) ≡ units_joined t f room
  is_unpaired k e h =
      ap (λ (k : ℕ). Err (Unpaired k)) e
      ∙ taken (Err (Unpaired (first_unpaired t f))) _ (ltb (first_unpaired t f) (rows_in t))
      (lt-ltb (first_unpaired t f) (rows_in t) (subst (λ (k : ℕ). k < rows_in t) e h))

  module _ (paired : rows_in t ≤ first_unpaired t f) where
    -- past 15
    past_unpaired : (x y : Joined) → y ≡ cond (ltb (first_unpaired t f) (rows_in t)) x y
    past_unpaired x y = passed x y (ltb (first_unpaired t f) (rows_in t)) (le-ltb (first_unpaired t f) (rows_in t) paired)

    pub is_shared : (k : ℕ) → k ≡ first_shared t f → k < rows_in t → Err (UsedTwice k) ≡ units_joined t f room
    is_shared k e h =
        ap (λ (k : ℕ). Err (UsedTwice k)) e
        ∙ taken (Err (UsedTwice (first_shared t f))) _ (ltb (first_shared t f) (rows_in t))
        (lt-ltb (first_shared t f) (rows_in t) (subst (λ (k : ℕ). k < rows_in t) e h))
        ∙ past_unpaired _ _

    module _ (apart : rows_in t ≤ first_shared t f) where
      -- past 16
      past_shared : (x y : Joined) → y ≡ cond (ltb (first_shared t f) (rows_in t)) x y
      past_shared x y = passed x y (ltb (first_shared t f) (rows_in t)) (le-ltb (first_shared t f) (rows_in t) apart)

      pub is_wide : wide_span t f.closure ≡ true → Err SpanTooWide ≡ units_joined t f room
      is_wide e = taken (Err SpanTooWide) _ (wide_span t f.closure) e ∙ past_shared _ _ ∙ past_unpaired _ _

      module _ (narrow : wide_span t f.closure ≡ false) where
        -- past 18
        past_span : (x y : Joined) → y ≡ cond (wide_span t f.closure) x y
        past_span x y = passed x y (wide_span t f.closure) narrow

        pub is_no_room : too_small room (closure_rows t f.closure) ≡ true → Err NoRoom ≡ units_joined t f room
        is_no_room e =
            taken (Err NoRoom) _ (too_small room (closure_rows t f.closure)) e ∙ past_span _ _ ∙ past_shared _ _ ∙ past_unpaired _ _

        pub are_units : too_small room (closure_rows t f.closure) ≡ false
            → joined_units f.closure (units_in t f) (closure_rows t f.closure) ≡ units_joined t f room
        are_units e =
            passed _ (joined_units f.closure (units_in t f) (closure_rows t f.closure)) (too_small room (closure_rows t f.closure)) e
            ∙ past_span _ _
            ∙ past_shared _ _
            ∙ past_unpaired _ _

-- ---- 13 and 14

module _ (most : ℕ) (layers : Layers) (t : Table) (closure : ℕ) (room : Room) where
  abbrev units_answer : Joined
  units_answer = units_joined t (frame_of layers closure t) room

  pub bad_shape : wrong_shape most t ≡ true → Err (OutOfRange 0) ≡ table_joined most layers t closure room
  bad_shape e = ap (joined_by units_answer) (verdict.is_misshapen most t closure e)

  module _ (shape : wrong_shape most t ≡ false) where
    pub is_outside : (k : ℕ) → k ≡ first_out_of_range t → k < rows_in t → Err (OutOfRange k) ≡ table_joined most layers t closure room
    is_outside k e h = ap (joined_by units_answer) (verdict.is_outside most t closure shape k e h)

    module _ (in_range : rows_in t ≤ first_out_of_range t) where
      pub is_broken : (k : ℕ) → k ≡ first_broken t closure → k < rows_in t → Err (TimeOrderBroken k) ≡ table_joined most layers t closure room
      is_broken k e h = ap (joined_by units_answer) (verdict.is_broken most t closure shape in_range k e h)

  pub after_order : Sound most t closure → units_joined t (frame_of layers closure t) room ≡ table_joined most layers t closure room
  after_order s = ap (joined_by units_answer) (verdict.is_in_order most t closure s.shape s.range s.order)

-- ---- an answer with units is over the closure that was found

pub data IsOver (closure : ℕ) : Joined → Type 0 where
  units_over : {units rows : ℕ} → IsOver closure (joined_units closure units rows)
  refused : {refusal : Refusal} → IsOver closure (Err refusal)

pub is_over : (most : ℕ) (layers : Layers) (t : Table) (closure : ℕ) (room : Room) → IsOver closure (table_joined most layers t closure room)
is_over most layers t closure room = by_verdict (verdict_of most t closure)
  where
    by_verdict : (v : Verdict) → IsOver closure (joined_by (units_joined t (frame_of layers closure t) room) v)
    by_verdict (Ok in_order) =
        either_way (IsOver closure) (ltb (first_unpaired t (frame_of layers closure t)) (rows_in t)) _ _ refused
        (either_way (IsOver closure) (ltb (first_shared t (frame_of layers closure t)) (rows_in t)) _ _ refused
        (either_way (IsOver closure) (wide_span t closure) _ _ refused
        (either_way (IsOver closure) (too_small room (closure_rows t closure)) _ _ refused units_over)))
    by_verdict (Err refusal) = refused
