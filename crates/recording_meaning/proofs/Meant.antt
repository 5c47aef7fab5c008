-- The laws that join the meaning of the whole import to what is computed, both ways.
-- Assumes nothing.
use Rattle.std.specs.Prelude.{Err, Ok}
use Prim.Native.Nat.{ℕ}
use mathlib.Core.List.{List, map}
use mathlib.Core.Path.{◌≡◌, refl, sym, ◌∙◌, ap, ap₂, subst}
use native.Mathlib.Omega.{arith}
use Rattle.vocabulary.specs.declared.stream_types.Reading.{Reading}
use Rattle.vocabulary.specs.declared.stream_types.Reading.TheVariants.{Edition2015}
use Rattle.vocabulary.specs.declared.refusal.Refusal.{Refusal}
use Rattle.vocabulary.specs.declared.refusal.Refusal.TheVariants.{LoopTooLong}
use Rattle.loop_entries.specs.declared.Entry.{Entry}
use Rattle.loop_entries.specs.Entries.{entry_of}
use Rattle.es_loop.specs.Answer.{Outcome}
use Rattle.es_loop.specs.declared.reader.LoopRead.{LoopRead}
use Rattle.es_loop.specs.Reading.{refused_with, loop_read}
use Rattle.es_loop.specs.Meaning as Loop
use Rattle.es_loop.proofs.Meant.{answer_meant, answer_only}
use Rattle.closure.specs.declared.Layers.{Layers}
use Rattle.closure.specs.Answer.{Closure}
use Rattle.closure.specs.Closures.{closure_of}
use Rattle.closure.specs.Meaning as Target
use Rattle.closure.proofs.Meant.{closure_meant, closure_only}
use Rattle.heads.proofs.Orderly.{closed}
use Rattle.loop_layers.specs.Layers.{layers_of}
use Rattle.loop_layers.specs.Closures.{entries_read}
use Rattle.loop_layers.specs.Meaning.{LayersOf}
use Rattle.loop_layers.proofs.Meant.{layers_only, entries_read_lem}
use Rattle.agreement.proofs.Agreement.{accepts}
use Rattle.agreement.specs.Entries.{IsAccepted}
use Rattle.scanning.specs.declared.events.Row.{Row}
use Rattle.recordings.specs.Answer.{Recording}
use Rattle.recordings.specs.Meaning.{RowsFrom}
use Rattle.recordings.specs.Meaning as Recordings
use Rattle.recordings.proofs.AnswerMeant as recordings
use Rattle.rows.specs.Table.{Table}
use Rattle.unit_lists.specs.Sequence.{Lists}
use Rattle.join_answers.specs.Answer.{Joined}
use Rattle.join_answers.specs.Joining.{room_of, joined_in, joined_of, lists_after}
use Rattle.join_answers.specs.Meaning as Joining
use Rattle.join_answers.proofs.Meant as joining
use Rattle.recording_layers.proofs.Meant.{layer_pids}
use Rattle.recording_imports.specs.Answer.{Imported}
use Rattle.recording_imports.specs.Rows.{pid_table, rows_of, rows_told, rows_for}
use Rattle.recording_imports.specs.Imports.{layers_of_loop, outcome_of, outcome_for, outcome_asked, imported_of, imported_by, table_of, recording_with, import_of, lists_with, import_lists}
use Rattle.recording_meaning.specs.Meaning.{Asked, Answers, loop_refused, no_closure, faulty, not_read, too_many, joined}

pub lists_same : (layers : Layers) (t : Table) (j : Joined) (before : Lists) → lists_with layers t (imported_of j) before ≡ lists_after layers t j before
lists_same layers t (Ok found) before = refl
lists_same layers t (Err refusal) before = refl

-- what the calls promise: the two equalities of their contracts
pub record Computed (places : ℕ) (bytes : List ℕ) (target : ℕ) (packets : List ℕ) (before : Lists) (answer : Imported) (after : Lists) : Type 0 where
  pub is_answer : answer ≡ import_of places bytes target packets (room_of before)
  pub is_after : after ≡ import_lists bytes packets answer before

-- ---- a loop that is refused, and one of which a target was asked, as they are computed

pub refused_read : {reading : Reading} {bytes : List ℕ} {read : LoopRead} {refusal : Refusal} → Loop.Answers reading bytes read → read.outcome ≡ Err refusal
    → Loop.Answers reading bytes (refused_with refusal)
refused_read {reading} {bytes} {refusal = refusal} (Loop.too_long_lem h) e =
    let same : LoopTooLong ≡ refusal = cc in
    subst (λ (r : Refusal). Loop.Answers reading bytes (refused_with r)) same (Loop.too_long_lem h)
refused_read {reading} {bytes} {refusal = refusal} (Loop.refuses {refusal = other} short cuts c lower earlier) e =
    let same : other ≡ refusal = cc in
    subst (λ (r : Refusal). Loop.Answers reading bytes (refused_with r)) same (Loop.refuses {refusal = other} short cuts c lower earlier)
refused_read (Loop.accepts short cuts none) e = let z : ◌≡◌ {A = ℕ} 0 1 = cc in absurd (omega arith)

module _ (bytes : List ℕ) (target : ℕ) where
  pub asked_meant : IsAccepted Edition2015 bytes → Asked bytes target (layers_of_loop bytes) (pid_table bytes) (closure_of (layers_of_loop bytes) target)
  asked_meant is_accepted =
      let a = accepts Edition2015 bytes is_accepted in
      record {
        streams = a.streams;
        loop_accepted = a.answer;
        layers_of_loop = subst (λ (es : List Entry). LayersOf es (layers_of_loop bytes)) (sym a.entries_are) a.layers_are;
        by_pid = (layer_pids bytes a.streams a.answer).holds.by_pid;
        target_answered = closure_meant (layers_of_loop bytes) target;
      }

  pub record AskedOnly (layers : Layers) (table : List ℕ) (closure : Closure) : Type 0 where
    pub same_layers : layers ≡ layers_of_loop bytes
    pub same_table : table ≡ pid_table bytes
    pub same_outcome : outcome_asked bytes target ≡ outcome_of closure

  pub asked_only : {layers : Layers} {table : List ℕ} {closure : Closure} → Asked bytes target layers table closure → AskedOnly layers table closure
  asked_only {layers} {table} {closure} a =
      let read = answer_only Edition2015 bytes a.loop_accepted in
      let same : layers ≡ layers_of_loop bytes =
      layers_only (map entry_of a.streams) a.layers_of_loop ∙ ap (λ (l : List Entry). layers_of l) (sym (entries_read_lem a.streams) ∙ ap entries_read read) in
      record {
        same_layers = same;
        same_table = (layer_pids bytes a.streams a.loop_accepted).alone table a.by_pid;
        same_outcome = ap (λ (o : Outcome). outcome_for o (layers_of_loop bytes) target) (sym (ap (λ (r : LoopRead). r.outcome) read))
            ∙ ap (λ (l : Layers). outcome_of (closure_of l target)) (sym same)
            ∙ ap outcome_of (sym (closure_only layers target a.target_answered));
      }

-- THE ANSWER COMPUTED IS RIGHT,
module _ (places : ℕ) (bytes : List ℕ) (target : ℕ) (packets : List ℕ) (before : Lists) where
  abbrev layers : Layers
  layers = layers_of_loop bytes

  abbrev rows : Table
  rows = table_of (rows_of bytes packets)

  abbrev joined_rows : Closure → Joined
  joined_rows closure = joined_in places layers rows (room_of before) closure

  -- an answer, with what the lists then hold
  abbrev Right : Imported → Type 0
  Right answer = Answers places bytes target packets before answer (import_lists bytes packets answer before)

  by_recording : {closure : ℕ} → Asked bytes target layers (pid_table bytes) (Ok closure) → {recording : Recording}
      → Recordings.Answers (pid_table bytes) packets places recording → Right (imported_by (rows_told recording) (joined_rows (Ok closure)))
  by_recording a (Recordings.faulty c g lower earlier) = faulty a (Recordings.faulty c g lower earlier)
  by_recording a (Recordings.not_read c l g lower earlier) = not_read a (Recordings.not_read c l g lower earlier)
  by_recording a (Recordings.too_many c l d r h) = too_many a (Recordings.too_many c l d r h)
  by_recording {closure} a (Recordings.all_rows c l d r h) =
      subst (Answers places bytes target packets before (imported_of (joined_rows (Ok closure)))) (sym (lists_same layers rows (joined_rows (Ok closure)) before))
      (joined a (Recordings.all_rows c l d r h) c r
      (subst (λ (rs : List Row). Joining.AnswersOver places layers target closure (table_of rs) before (joined_rows (Ok closure)) (lists_after layers rows (joined_rows (Ok closure)) before))
      (sym (recordings.all_rows_only (pid_table bytes) packets places c r))
      (over a.target_answered)))
    where
      over : Target.Answers layers target (Ok closure)
          → Joining.AnswersOver places layers target closure rows before (joined_rows (Ok closure)) (lists_after layers rows (joined_rows (Ok closure)) before)
      over a = joining.table_meant places layers target closure (closed layers target closure (sym (closure_only layers target a))) rows before

  pub import_meant : {answer : Imported} {after : Lists} → Computed places bytes target packets before answer after → Answers places bytes target packets before answer after
  import_meant {answer} {after} i =
      subst (λ (l : Lists). Answers places bytes target packets before answer l) (sym i.is_after)
      (subst Right (sym i.is_answer) (by_loop (loop_read Edition2015 bytes).outcome refl))
    where
      by_closure : (closure : Closure) → Asked bytes target layers (pid_table bytes) closure
          → Right (imported_by (rows_for (outcome_of closure) (recording_with places bytes packets)) (joined_rows closure))
      by_closure (Ok closure) a = by_recording a (recordings.answer_meant (pid_table bytes) packets places)
      by_closure (Err refusal) a = no_closure a

      by_loop : (outcome : Outcome) → (loop_read Edition2015 bytes).outcome ≡ outcome
          → Right (imported_by (rows_for (outcome_for outcome layers target) (recording_with places bytes packets)) (joined_rows (closure_of layers target)))
      by_loop (Ok tt) e = by_closure (closure_of layers target) (asked_meant bytes target e)
      by_loop (Err refusal) e = loop_refused (refused_read (answer_meant Edition2015 bytes) e)

-- AND NOTHING ELSE IS.
module _ (places : ℕ) (bytes : List ℕ) (target : ℕ) (packets : List ℕ) (before : Lists) where
  -- what is computed, after what was found of the loop and of the packets
  after_steps : {layers : Layers} {table : List ℕ} {closure : Closure} {recording : Recording} → AskedOnly bytes target layers table closure
      → Recordings.Answers table packets places recording
      → imported_by (rows_for (outcome_of closure) recording) (joined_rows places bytes target packets before (closure_of (layers_of_loop bytes) target))
      ≡ import_of places bytes target packets (room_of before)
  after_steps {table = table} {closure} {recording} a r =
      let read : recording ≡ recording_with places bytes packets =
      recordings.answer_only (pid_table bytes) packets places (subst (λ (t : List ℕ). Recordings.Answers t packets places recording) a.same_table r) in
      ap₂ (λ (o : Outcome) (x : Recording). imported_by (rows_for o x) (joined_rows places bytes target packets before (closure_of (layers_of_loop bytes) target)))
      (sym a.same_outcome) read

  pub import_only : {answer : Imported} {after : Lists} → Answers places bytes target packets before answer after → Computed places bytes target packets before answer after
  import_only (loop_refused {refusal} a) =
      record {
        is_answer = ap (λ (o : Outcome). imported_by (rows_for (outcome_for o (layers_of_loop bytes) target) (recording_with places bytes packets)) (joined_rows places bytes target packets before (closure_of (layers_of_loop bytes) target)))
            (ap (λ (r : LoopRead). r.outcome) (answer_only Edition2015 bytes a));
        is_after = refl;
      }
  import_only (no_closure a) =
      record {
        is_answer = after_steps (asked_only bytes target a)
            (subst (λ (t : List ℕ). Recordings.Answers t packets places (recording_with places bytes packets)) (sym (asked_only bytes target a).same_table)
            (recordings.answer_meant (pid_table bytes) packets places));
        is_after = refl;
      }
  import_only (faulty a r) = record { is_answer = after_steps (asked_only bytes target a) r; is_after = refl }
  import_only (not_read a r) = record { is_answer = after_steps (asked_only bytes target a) r; is_after = refl }
  import_only (too_many a r) = record { is_answer = after_steps (asked_only bytes target a) r; is_after = refl }
  import_only (joined {layers} {table} {closure} {items} {rows} {answer} {after} a r cut from over) =
      let only = asked_only bytes target a in
      let same_rows : rows ≡ rows_of bytes packets =
      recordings.all_rows_only (pid_table bytes) packets places cut (subst (λ (t : List ℕ). RowsFrom t items 0 rows) only.same_table from) in
      let c = joining.joined_only places layers target (table_of rows) before (Joining.over_closure a.target_answered over) in
      let same : answer ≡ joined_rows places bytes target packets before (closure_of (layers_of_loop bytes) target) =
      c.is_answer ∙ ap₂ (λ (l : Layers) (rs : List Row). joined_of places l target (table_of rs) (room_of before)) only.same_layers same_rows in
      record {
        is_answer = ap imported_of same ∙ after_steps only r;
        is_after = c.is_after
            ∙ ap₂ (λ (l : Layers) (rs : List Row). lists_after l (table_of rs) answer before) only.same_layers same_rows
            ∙ sym (lists_same (layers_of_loop bytes) (table_of (rows_of bytes packets)) answer before);
      }
