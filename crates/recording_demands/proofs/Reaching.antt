-- An answer of joining is given where nothing that comes before it is refused: `reached`.
-- Assumes nothing.
use Rattle.recordings.specs.declared.RecordingFault.{RecordingFault}
use Rattle.std.specs.Prelude.{Err, Ok}
use Prim.Native.Nat.{ℕ, ◌≤◌, ◌<◌}
use mathlib.Core.List.{List, map}
use mathlib.Core.Path.{◌≡◌, refl, sym, ◌∙◌, ap, subst}
use mathlib.Core.Bool.{cond}
use native.Mathlib.Omega.{arith}
use lib.Dec.{eqb, ltb}
use Rattle.combinators.specs.Bools.{either_way}
use Rattle.framing.specs.Pieces.{Item}
use Rattle.vocabulary.specs.declared.stream_types.Reading.{Reading}
use Rattle.vocabulary.specs.declared.stream_types.Reading.TheVariants.{Edition2015}
use Rattle.vocabulary.specs.declared.refusal.Refusal.{Refusal}
use Rattle.vocabulary.specs.declared.refusal.Refusal.TheVariants.{LostSync, CounterGap, OutsidePacket, Scrambled}
use Rattle.vocabulary.specs.Refusals.{number_of}
use Rattle.loop_entries.specs.declared.Entry.{Entry}
use Rattle.loop_entries.specs.Entries.{entry_of}
use Rattle.es_loop.specs.Answer.{Outcome}
use Rattle.es_loop.specs.declared.reader.LoopRead.{LoopRead}
use Rattle.es_loop.specs.Reading.{loop_read}
use Rattle.es_loop.specs.Meaning as Loop
use Rattle.es_loop.proofs.Meant.{answer_meant, answer_only}
use Rattle.closure.specs.declared.Layers.{Layers}
use Rattle.closure.specs.Answer.{Closure}
use Rattle.closure.specs.Closures.{closure_of}
use Rattle.closure.specs.Meaning as Target
use Rattle.closure.proofs.Meant.{closure_meant}
use Rattle.loop_layers.specs.Layers.{layers_of}
use Rattle.loop_layers.specs.Closures.{entries_read}
use Rattle.loop_layers.specs.Meaning.{LayersOf}
use Rattle.loop_layers.proofs.Meant.{layers_only, entries_read_lem}
use Rattle.rows.specs.Table.{Table}
use Rattle.unit_lists.specs.Sequence.{Lists}
use Rattle.join_answers.specs.Answer.{Joined}
use Rattle.join_answers.specs.Joining.{room_of, joined_of, lists_after}
use Rattle.join_answers.specs.Meaning as Joining
use Rattle.join_answers.proofs.Meant as joining
use Rattle.agreement.proofs.Agreement.{accepts}
use Rattle.agreement.specs.Entries.{IsAccepted}
use Rattle.unit_starts.specs.declared.Found.{Found}
use Rattle.unit_starts.specs.Finding.{found_in}
use Rattle.recordings.specs.Answer.{Recording}
use Rattle.recordings.specs.Reading.{fault_of, header_refusal, answer_of}
use Rattle.recordings.specs.Meaning as Recordings
use Rattle.recordings.proofs.AnswerMeant as recordings
use Rattle.recording_imports.specs.Answer.{Imported}
use Rattle.recording_imports.specs.Rows.{pid_table, rows_told, rows_for}
use Rattle.recording_imports.specs.Imports.{layers_of_loop, outcome_of, outcome_for, imported_by, recording_with, imported_of}
use Rattle.recording_meaning.proofs.Meant.{import_only}
use Rattle.recording_demands.specs.Agreement.{filled, Imports}
use Rattle.recording_demands.specs.Reaching.{ToJoining, OfJoining, Reached}
use Rattle.recording_demands.proofs.Agreement.{to_recording, of_recording}

-- ---- the numbers of what comes before

condition_number : {reading : Reading} {entries : List Item} {n k : ℕ} → Loop.Condition reading entries n k → n < 13
condition_number (Loop.entry_unfit a) = omega arith
condition_number (Loop.descriptor_unfit a b c) = omega arith
condition_number (Loop.pid_seen a b c d) = omega arith
condition_number (Loop.length_wrong a b c) = omega arith
condition_number (Loop.two_records a b c) = omega arith
condition_number (Loop.type_wrong a b) = omega arith
condition_number (Loop.flags_wrong a b) = omega arith
condition_number (Loop.index_held a b c d) = omega arith
condition_number (Loop.embedded_wrong a b) = omega arith

abbrev LoopNumber : Outcome → Type 0
LoopNumber (Ok tt) = Unit {0}
LoopNumber (Err refusal) = number_of refusal < 13

loop_number : {reading : Reading} {bytes : List ℕ} {read : LoopRead} → Loop.Answers reading bytes read → LoopNumber read.outcome
loop_number (Loop.too_long_lem h) = omega arith
loop_number (Loop.refuses short cuts c lower earlier) = condition_number c
loop_number (Loop.accepts short cuts none) = tt

abbrev TargetNumber : Closure → Type 0
TargetNumber (Ok closure) = Unit {0}
TargetNumber (Err refusal) = number_of refusal < 13

target_number : {layers : Layers} {target : ℕ} {closure : Closure} → Target.Answers layers target closure → TargetNumber closure
target_number (Target.no_such_layer h) = omega arith
target_number (Target.absent here lowest) = omega arith
target_number (Target.complete here closure) = tt

abbrev FaultNumber : Recording → Type 0
FaultNumber (Ok count) = Unit {0}
FaultNumber (Err (RecordingFault.Faulty fault)) = 30 ≤ number_of fault
FaultNumber (Err (RecordingFault.NotRead refusal packet)) = Unit {0}
FaultNumber (Err RecordingFault.TooManyRows) = Unit {0}

fault_number : (f : Found) (room : ℕ) → FaultNumber (answer_of f room)
fault_number f room =
    either_way FaultNumber (ltb f.fault.number 34) (Err (RecordingFault.Faulty (fault_of f.fault.number f.fault.packet))) unless named
    (either_way FaultNumber (ltb f.refusal.number 25) (Err (RecordingFault.NotRead (header_refusal f.refusal.number) f.refusal.packet)) (cond (ltb room f.rows) (Err RecordingFault.TooManyRows) (Ok f.rows)) tt
    (either_way FaultNumber (ltb room f.rows) (Err RecordingFault.TooManyRows) (Ok f.rows) tt tt))
  where
    unless : Recording
    unless =
        cond (ltb f.refusal.number 25) (Err (RecordingFault.NotRead (header_refusal f.refusal.number) f.refusal.packet))
        (cond (ltb room f.rows) (Err RecordingFault.TooManyRows) (Ok f.rows))

    High : Refusal → Type 0
    High refusal = 30 ≤ number_of refusal

    named : High (fault_of f.fault.number f.fault.packet)
    named =
        either_way High (eqb f.fault.number 30) (LostSync f.fault.packet) _ (omega arith)
        (either_way High (eqb f.fault.number 31) (CounterGap f.fault.packet) _ (omega arith)
        (either_way High (eqb f.fault.number 32) (OutsidePacket f.fault.packet) (Scrambled f.fault.packet) (omega arith) (omega arith)))

-- ---- what an answer of joining says of what comes before it

module _ (places : ℕ) (bytes : List ℕ) (target : ℕ) (packets : List ℕ) where
  under : IsAccepted Edition2015 bytes → (count : ℕ) → recording_with places bytes packets ≡ Ok count → ToJoining places bytes target packets
  under is_accepted count e =
      let a = accepts Edition2015 bytes is_accepted in
      record {
        streams = a.streams;
        layers = layers_of_loop bytes;
        loop_accepted = a.answer;
        layers_of_loop = subst (λ (es : List Entry). LayersOf es (layers_of_loop bytes)) (sym a.entries_are) a.layers_are;
        gives_rows = record { count = count; rows = subst (Recordings.Answers (pid_table bytes) packets places) e (recordings.answer_meant (pid_table bytes) packets places) };
      }

  by_recording : IsAccepted Edition2015 bytes → (joined : Joined) (recording : Recording) → recording_with places bytes packets ≡ recording → FaultNumber recording
      → OfJoining (imported_by (rows_told recording) joined) → ToJoining places bytes target packets
  by_recording a joined (Ok count) e f o = under a count e
  by_recording a joined (Err (RecordingFault.Faulty fault)) e f o = let high = o.1 in absurd (omega arith)
  by_recording a joined (Err (RecordingFault.NotRead refusal packet)) e f o = absurd o
  by_recording a joined (Err RecordingFault.TooManyRows) e f o = let low = o.0 in absurd (omega arith)

  by_closure : IsAccepted Edition2015 bytes → (joined : Joined) (closure : Closure) → TargetNumber closure
      → OfJoining (imported_by (rows_for (outcome_of closure) (recording_with places bytes packets)) joined) → ToJoining places bytes target packets
  by_closure a joined (Ok closure) n o =
      by_recording a joined (recording_with places bytes packets) refl (fault_number (found_in (pid_table bytes) packets) places) o
  by_closure a joined (Err refusal) n o = let low = o.0 in absurd (omega arith)

  by_loop : (joined : Joined) (outcome : Outcome) → (loop_read Edition2015 bytes).outcome ≡ outcome → LoopNumber outcome
      → OfJoining (imported_by (rows_for (outcome_for outcome (layers_of_loop bytes) target) (recording_with places bytes packets)) joined)
      → ToJoining places bytes target packets
  by_loop joined (Ok tt) e n o = by_closure e joined (closure_of (layers_of_loop bytes) target) (target_number (closure_meant (layers_of_loop bytes) target)) o
  by_loop joined (Err refusal) e n o = let low = o.0 in absurd (omega arith)

  reaches : (before : Lists) (answer : Imported) (after : Lists) → Imports places bytes target packets before answer after → OfJoining answer
      → ToJoining places bytes target packets
  reaches before answer after i o =
      by_loop (joined_of places (layers_of_loop bytes) target (filled places bytes target packets) (room_of before)) (loop_read Edition2015 bytes).outcome refl
      (loop_number (answer_meant Edition2015 bytes)) (subst OfJoining (import_only places bytes target packets before i).is_answer o)

  -- ---- and the other way: joining over the rows, in the layers of the loop

  module _ (r : ToJoining places bytes target packets) where
    is_accepted : IsAccepted Edition2015 bytes
    is_accepted = sym (ap (λ (x : LoopRead). x.outcome) (answer_only Edition2015 bytes r.loop_accepted))

    same_layers : r.layers ≡ layers_of_loop bytes
    same_layers =
        layers_only (map entry_of r.streams) r.layers_of_loop
        ∙ ap (λ (l : List Entry). layers_of l) (sym (entries_read_lem r.streams) ∙ ap entries_read (answer_only Edition2015 bytes r.loop_accepted))

    abbrev rows : Table
    rows = filled places bytes target packets

    abbrev joined_in : Layers → Lists → Joined
    joined_in layers before = joined_of places layers target rows (room_of before)

    from_joining : (before : Lists) (answer : Joined) (after : Lists) → Joining.Answers places r.layers target rows before answer after
        → Imports places bytes target packets before (imported_of answer) after
    from_joining before answer after j =
        let only = joining.joined_only places r.layers target rows before j in
        let e : answer ≡ joined_in (layers_of_loop bytes) before = only.is_answer ∙ ap (λ (l : Layers). joined_in l before) same_layers in
        to_recording places bytes is_accepted target packets r.gives_rows before e
        (only.is_after ∙ ap (λ (l : Layers). lists_after l rows answer before) same_layers ∙ ap (λ (x : Joined). lists_after (layers_of_loop bytes) rows x before) e)

    to_joining : (before : Lists) (answer : Joined) (after : Lists) → Imports places bytes target packets before (imported_of answer) after
        → Joining.Answers places r.layers target rows before answer after
    to_joining before answer after i =
        let c = of_recording places bytes is_accepted target packets r.gives_rows before i in
        subst (λ (l : Layers). Joining.Answers places l target rows before answer after) (sym same_layers)
        (subst (λ (x : Joined). Joining.Answers places (layers_of_loop bytes) target rows before x after) (sym c.0)
        (subst (λ (l : Lists). Joining.Answers places (layers_of_loop bytes) target rows before (joined_in (layers_of_loop bytes) before) l) (sym c.1)
        (joining.joined_meant places (layers_of_loop bytes) target rows before)))

  pub reached : Reached places bytes target packets
  reached = record { only_then = reaches; as_joining = λ r before answer after. (from_joining r before answer after, to_joining r before answer after) }
