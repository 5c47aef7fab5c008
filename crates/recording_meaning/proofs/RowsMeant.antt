-- The laws that join the meaning of rows and columns to what is computed, both ways.
-- Assumes nothing.
use Rattle.recordings.specs.declared.RecordingFault.{RecordingFault}
use Rattle.std.specs.Prelude.{Err, Ok}
use Prim.Native.Nat.{ℕ}
use mathlib.Core.List.{List}
use mathlib.Core.Path.{◌≡◌, refl, sym, ◌∙◌, ap, ap₂, subst}
use native.Mathlib.Omega.{arith}
use lib.ListN.{length}
use Rattle.vocabulary.specs.declared.stream_types.Reading.TheVariants.{Edition2015}
use Rattle.vocabulary.specs.declared.refusal.Refusal.{Refusal}
use Rattle.es_loop.specs.Answer.{Outcome}
use Rattle.es_loop.specs.declared.reader.LoopRead.{LoopRead}
use Rattle.es_loop.specs.Reading.{loop_read}
use Rattle.es_loop.proofs.Meant.{answer_meant, answer_only}
use Rattle.closure.specs.declared.Layers.{Layers}
use Rattle.closure.specs.Answer.{Closure}
use Rattle.closure.specs.Closures.{closure_of}
use Rattle.agreement.proofs.Agreement.{accepts}
use Rattle.agreement.specs.Entries.{IsAccepted}
use Rattle.unit_starts.specs.Finding.{found_in, rows_in}
use Rattle.recording_rows.specs.Columns.{Columns, over_all}
use Rattle.scanning.specs.declared.events.Row.{Row}
use Rattle.recordings.specs.Answer.{Recording}
use Rattle.recordings.specs.Reading.{answer_of}
use Rattle.recordings.specs.Meaning as Recordings
use Rattle.recordings.proofs.AnswerMeant as recordings
use Rattle.recording_layers.proofs.Meant.{layer_pids}
use Rattle.recording_imports.specs.Answer.{RowsRead}
use Rattle.recording_imports.specs.Rows.{loop_layers, pid_table, rows_of, rows_told, rows_for, columns_with}
use Rattle.recording_imports.specs.Imports.{layers_of_loop, outcome_of, outcome_for, recording_with, import_columns}
use Rattle.recording_meaning.specs.Meaning.{Asked}
use Rattle.recording_meaning.specs.Rows.{UnderLoop, Gives, ReadsRows, loop_refused, faulty, not_read, too_many, all_rows, Leaves, rows_laid, untouched}
use Rattle.recording_meaning.proofs.Meant.{refused_read, asked_meant, asked_only}

-- ---- the rows that packets give

module _ (table packets : List ℕ) (room : ℕ) where
  -- where rows are answered, they are those
  gives_meant : {count : ℕ} → Recordings.Answers table packets room (Ok count) → (count ≡ length (rows_in table packets)) × Gives table packets room (rows_in table packets)
  gives_meant {count} r = go r refl
    where
      same : {n m : ℕ} → ◌≡◌ {A = Recording} (Ok n) (Ok m) → n ≡ m
      same e = cc

      go : {recording : Recording} → Recordings.Answers table packets room recording → recording ≡ Ok count
          → (count ≡ length (rows_in table packets)) × Gives table packets room (rows_in table packets)
      go (Recordings.faulty c g lower earlier) e = let z : ◌≡◌ {A = ℕ} 0 1 = cc in absurd (omega arith)
      go (Recordings.not_read c l g lower earlier) e = let z : ◌≡◌ {A = ℕ} 0 1 = cc in absurd (omega arith)
      go (Recordings.too_many c l d f h) e = let z : ◌≡◌ {A = ℕ} 0 1 = cc in absurd (omega arith)
      go (Recordings.all_rows {rows = rows} c l d f h) e =
          let are = recordings.all_rows_only table packets room c f in (
            sym (same e) ∙ ap length are,
            subst (Gives table packets room) are (record { accepted = Recordings.all_rows c l d f h; items = _; cut = c; rows_from = f }),
          )

  gives_only : {rows : List Row} → Gives table packets room rows → rows ≡ rows_in table packets
  gives_only g = recordings.all_rows_only table packets room g.cut g.rows_from

-- ---- THE ROWS UNDER A LOOP

under_meant : (bytes : List ℕ) → IsAccepted Edition2015 bytes → UnderLoop bytes (pid_table bytes)
under_meant bytes is_accepted =
    let a = accepts Edition2015 bytes is_accepted in
    record { streams = a.streams; loop_accepted = a.answer; by_pid = (layer_pids bytes a.streams a.answer).holds.by_pid }

under_table : {bytes table : List ℕ} → UnderLoop bytes table → table ≡ pid_table bytes
under_table {bytes} {table} u = (layer_pids bytes u.streams u.loop_accepted).alone table u.by_pid

under_accepted : {bytes table : List ℕ} → UnderLoop bytes table → IsAccepted Edition2015 bytes
under_accepted {bytes} u = sym (ap (λ (r : LoopRead). r.outcome) (answer_only Edition2015 bytes u.loop_accepted))

module _ (bytes packets : List ℕ) (room : ℕ) (before : Columns) where
  abbrev answered : Recording
  answered = answer_of (found_in (pid_table bytes) packets) room

  -- what the call promises
  pub record RowsComputed (answer : RowsRead) (after : Columns) : Type 0 where
    pub is_answer : answer ≡ rows_for (loop_layers bytes).outcome answered
    pub is_after : after ≡ columns_with (rows_of bytes packets) answer before

  abbrev Right : RowsRead → Type 0
  Right answer = ReadsRows bytes packets room before answer (columns_with (rows_of bytes packets) answer before)

  by_recording : UnderLoop bytes (pid_table bytes) → (recording : Recording) → Recordings.Answers (pid_table bytes) packets room recording → Right (rows_told recording)
  by_recording u (Ok count) r =
      let g = gives_meant (pid_table bytes) packets room r in
      subst (λ (n : ℕ). ReadsRows bytes packets room before (Ok n) (over_all (rows_of bytes packets) before)) (sym g.0) (all_rows u g.1)
  by_recording u (Err (RecordingFault.Faulty fault)) r = faulty u r
  by_recording u (Err (RecordingFault.NotRead refusal packet)) r = not_read u r
  by_recording u (Err RecordingFault.TooManyRows) r = too_many u r

  pub rows_meant : {answer : RowsRead} {after : Columns} → RowsComputed answer after → ReadsRows bytes packets room before answer after
  rows_meant {answer} {after} c =
      subst (ReadsRows bytes packets room before answer) (sym c.is_after) (subst Right (sym c.is_answer) (by_loop (loop_read Edition2015 bytes).outcome refl))
    where
      by_loop : (outcome : Outcome) → (loop_read Edition2015 bytes).outcome ≡ outcome → Right (rows_for outcome answered)
      by_loop (Ok tt) e = by_recording (under_meant bytes e) answered (recordings.answer_meant (pid_table bytes) packets room)
      by_loop (Err refusal) e = loop_refused (refused_read (answer_meant Edition2015 bytes) e)

  told : {table : List ℕ} {recording : Recording} → UnderLoop bytes table → Recordings.Answers table packets room recording
      → rows_told recording ≡ rows_for (loop_layers bytes).outcome answered
  told {recording = recording} u r =
      ap₂ (λ (o : Outcome) (x : Recording). rows_for o x) (sym (under_accepted u))
      (recordings.answer_only (pid_table bytes) packets room (subst (λ (t : List ℕ). Recordings.Answers t packets room recording) (under_table u) r))

  pub rows_only : {answer : RowsRead} {after : Columns} → ReadsRows bytes packets room before answer after → RowsComputed answer after
  rows_only (loop_refused a) =
      record { is_answer = ap (λ (o : Outcome). rows_for o answered) (ap (λ (r : LoopRead). r.outcome) (answer_only Edition2015 bytes a)); is_after = refl }
  rows_only (faulty u r) = record { is_answer = told u r; is_after = refl }
  rows_only (not_read u r) = record { is_answer = told u r; is_after = refl }
  rows_only (too_many u r) = record { is_answer = told u r; is_after = refl }
  rows_only (all_rows {table} {rows} u g) =
      record {
        is_answer = told u g.accepted;
        is_after = ap (λ (rs : List Row). over_all rs before) (gives_only table packets room g ∙ ap (λ (t : List ℕ). rows_in t packets) (under_table u));
      }

-- ---- THE COLUMNS OF A WHOLE IMPORT

module _ (places : ℕ) (bytes : List ℕ) (target : ℕ) (packets : List ℕ) (before : Columns) where
  abbrev Left : RowsRead → Type 0
  Left rows = Leaves places bytes target packets before (columns_with (rows_of bytes packets) rows before)

  -- rows are given where the loop and the target are accepted, and the packets
  asked : {layers : Layers} {table : List ℕ} {closure : ℕ} {rows : List Row} → Asked bytes target layers table (Ok closure) → Gives table packets places rows
      → (outcome_for (loop_read Edition2015 bytes).outcome (layers_of_loop bytes) target ≡ Ok tt) × (recording_with places bytes packets ≡ Ok (length rows))
  asked {rows = rows} a g =
      let only = asked_only bytes target a in (
        only.same_outcome,
        sym (recordings.answer_only (pid_table bytes) packets places (subst (λ (t : List ℕ). Recordings.Answers t packets places (Ok (length rows))) only.same_table g.accepted)),
      )

  no_rows : {recording : Recording} → recording_with places bytes packets ≡ recording → ((count : ℕ) → recording ≡ Ok count → ⊥)
      → Leaves places bytes target packets before before
  no_rows e f = untouched (λ layers table closure rows a g. f (length rows) (sym e ∙ (asked a g).1))

  by_packets : {closure : ℕ} → Asked bytes target (layers_of_loop bytes) (pid_table bytes) (Ok closure) → (recording : Recording)
      → recording_with places bytes packets ≡ recording → Left (rows_told recording)
  by_packets a (Ok count) e =
      rows_laid a (gives_meant (pid_table bytes) packets places (subst (Recordings.Answers (pid_table bytes) packets places) e (recordings.answer_meant (pid_table bytes) packets places))).1
  by_packets a (Err (RecordingFault.Faulty fault)) e = no_rows e (λ count f. let z : ◌≡◌ {A = ℕ} 0 1 = cc in omega arith)
  by_packets a (Err (RecordingFault.NotRead refusal packet)) e = no_rows e (λ count f. let z : ◌≡◌ {A = ℕ} 0 1 = cc in omega arith)
  by_packets a (Err RecordingFault.TooManyRows) e = no_rows e (λ count f. let z : ◌≡◌ {A = ℕ} 0 1 = cc in omega arith)

  refused_before : {refusal : Refusal} → outcome_for (loop_read Edition2015 bytes).outcome (layers_of_loop bytes) target ≡ Err refusal
      → Leaves places bytes target packets before before
  refused_before {refusal} e =
      untouched (λ layers table closure rows a g.
      let other : ◌≡◌ {A = Outcome} (Err refusal) (Ok tt) = sym e ∙ (asked a g).0 in
      let z : ◌≡◌ {A = ℕ} 0 1 = cc in omega arith)

  by_target : (closure : Closure) → Asked bytes target (layers_of_loop bytes) (pid_table bytes) closure
      → outcome_for (loop_read Edition2015 bytes).outcome (layers_of_loop bytes) target ≡ outcome_of closure
      → Left (rows_for (outcome_of closure) (recording_with places bytes packets))
  by_target (Ok closure) a e = by_packets a (recording_with places bytes packets) refl
  by_target (Err refusal) a e = refused_before e

  pub columns_meant : Leaves places bytes target packets before (import_columns places bytes target packets before)
  columns_meant = by_loop (loop_read Edition2015 bytes).outcome refl
    where
      by_loop : (outcome : Outcome) → (loop_read Edition2015 bytes).outcome ≡ outcome → Left (rows_for (outcome_for outcome (layers_of_loop bytes) target) (recording_with places bytes packets))
      by_loop (Ok tt) e =
          by_target (closure_of (layers_of_loop bytes) target) (asked_meant bytes target e) (ap (λ (o : Outcome). outcome_for o (layers_of_loop bytes) target) e)
      by_loop (Err refusal) e = refused_before (ap (λ (o : Outcome). outcome_for o (layers_of_loop bytes) target) e)

  one_content : {some other : Columns} → Leaves places bytes target packets before some → Leaves places bytes target packets before other → some ≡ other
  one_content (rows_laid {table = t} a g) (rows_laid {table = u} b h) =
      ap (λ (rs : List Row). over_all rs before)
      (gives_only t packets places g ∙ ap (λ (x : List ℕ). rows_in x packets) ((asked_only bytes target a).same_table ∙ sym (asked_only bytes target b).same_table) ∙ sym (gives_only u packets places h))
  one_content (rows_laid {layers} {table} {closure} {rows} a g) (untouched f) = absurd (f layers table closure rows a g)
  one_content (untouched f) (rows_laid {layers} {table} {closure} {rows} a g) = absurd (f layers table closure rows a g)
  one_content (untouched f) (untouched g) = refl

  pub columns_only : {after : Columns} → Leaves places bytes target packets before after → after ≡ import_columns places bytes target packets before
  columns_only l = one_content l columns_meant
