-- Demand 3 over a recording: `recording_agreement`; and the import of rows is that of `importing` where there may be 512, `of_512_rows`.
-- Assumes nothing.
use Rattle.std.specs.Prelude.{Err, Ok}
use Rattle.join_answers.specs.Answer.{joined_units, Joined}
use Prim.Native.Nat.{ℕ}
use mathlib.Core.List.{List, map}
use mathlib.Core.Path.{◌≡◌, refl, sym, ◌∙◌, ap, subst}
use native.Mathlib.Omega.{arith}
use Rattle.vocabulary.specs.declared.stream_types.Reading.{Reading}
use Rattle.vocabulary.specs.declared.stream_types.Reading.TheVariants.{Edition2009, Edition2015}
use Rattle.vocabulary.specs.declared.refusal.Refusal.{Refusal}
use Rattle.loop_entries.specs.declared.Entry.{Entry}
use Rattle.loop_entries.specs.declared.Stream.{Stream}
use Rattle.loop_entries.specs.Entries.{entry_of}
use Rattle.es_loop.specs.Answer.{Outcome}
use Rattle.es_loop.specs.declared.reader.LoopRead.{LoopRead}
use Rattle.es_loop.specs.Reading.{refused_with, accepted}
use Rattle.es_loop.specs.Meaning as Loop
use Rattle.es_loop.proofs.Meant.{answer_only}
use Rattle.closure.specs.declared.Layers.{Layers}
use Rattle.closure.specs.Answer.{Closure}
use Rattle.closure.specs.Closures.{closure_of}
use Rattle.loop_layers.specs.Closures.{entries_read, closure_for}
use Rattle.loop_layers.specs.Layers.{layers_of}
use Rattle.loop_layers.specs.Meaning.{LayersOf}
use Rattle.loop_layers.proofs.Meant.{layers_only, entries_read_lem}
use Rattle.rows.specs.Table.{Table, most_rows}
use Rattle.unit_lists.specs.Sequence.{Lists}
use Rattle.join_answers.specs.Joining.{Room, room_of, joined_in, joined_of, lists_after}
use Rattle.join_answers.proofs.Meant as joining
use Rattle.importing.specs.Meaning as Import
use Rattle.agreement.specs.Entries.{IsAccepted, entries_in}
use Rattle.agreement.proofs.Entries.{accepted_in_2009}
use Rattle.agreement.specs.Computed.{layers_in}
use Rattle.agreement.proofs.Computed.{same_joined, same_lists, no_closure}
use Rattle.agreement.proofs.Agreement.{accepts, outcome_is, same_entries, same_layers}
use Rattle.recordings.specs.Answer.{Recording}
use Rattle.recordings.proofs.AnswerMeant as recordings
use Rattle.recording_imports.specs.Answer.{Imported, RowsRead}
use Rattle.recording_imports.specs.declared.Unread.TheVariants.{Refused, NotRead}
use Rattle.recording_imports.specs.Rows.{pid_table, rows_told, rows_for}
use Rattle.recording_imports.specs.Imports.{layers_of_loop, outcome_of, imported_of, imported_by, recording_with, import_of}
use Rattle.recording_meaning.proofs.Meant.{lists_same, import_meant, import_only}
use Rattle.recording_demands.specs.Agreement.{ImportsRows, loop_refused, loop_accepted, Of512Rows, filled, GivesRows, Imports, Agrees, OfEveryRecording}

pub of_512_rows : Of512Rows
of_512_rows reading bytes target t before answer after = (to, from)
  where
    to : {answer : Joined} {after : Lists} → ImportsRows most_rows reading bytes target t before answer after → Import.Answers reading bytes target t before answer after
    to (loop_refused a) = Import.loop_refused a
    to (loop_accepted streams a m j) = Import.loop_accepted streams a m j

    from : {answer : Joined} {after : Lists} → Import.Answers reading bytes target t before answer after → ImportsRows most_rows reading bytes target t before answer after
    from (Import.loop_refused a) = loop_refused a
    from (Import.loop_accepted streams a m j) = loop_accepted streams a m j

-- ---- the import of rows under a loop that a reading accepts: joining in its layers

never_refused : {reading : Reading} {bytes : List ℕ} {refusal : Refusal} → IsAccepted reading bytes → Loop.Answers reading bytes (refused_with refusal) → ⊥
never_refused {reading} {bytes} {refusal} e r =
    let other : ◌≡◌ {A = Outcome} (Err refusal) (Ok tt) = ap (λ (x : LoopRead). x.outcome) (answer_only reading bytes r) ∙ e in
    let z : ◌≡◌ {A = ℕ} 0 1 = cc in omega arith

module _ (most : ℕ) (reading : Reading) (bytes : List ℕ) (is_accepted : IsAccepted reading bytes) (target : ℕ) (t : Table) (before : Lists) where
  abbrev layers : Layers
  layers = layers_in reading bytes

  abbrev joined : Joined
  joined = joined_of most layers target t (room_of before)

  rows_meant : ImportsRows most reading bytes target t before joined (lists_after layers t joined before)
  rows_meant =
      let a = accepts reading bytes is_accepted in
      loop_accepted a.streams a.answer (subst (λ (es : List Entry). LayersOf es layers) (sym a.entries_are) a.layers_are)
      (joining.joined_meant most layers target t before)

  -- the layers of the loop are one value
  one_layers : (streams : List Stream) {other : Layers} → Loop.Answers reading bytes (accepted streams) → LayersOf (map entry_of streams) other → other ≡ layers
  one_layers streams a m =
      layers_only (map entry_of streams) m
      ∙ ap (λ (l : List Entry). layers_of l) (sym (entries_read_lem streams) ∙ ap entries_read (answer_only reading bytes a))

  rows_only : {answer : Joined} {after : Lists} → ImportsRows most reading bytes target t before answer after
      → (answer ≡ joined) × (after ≡ lists_after layers t joined before)
  rows_only (loop_refused a) = absurd (never_refused is_accepted a)
  rows_only {answer} (loop_accepted streams {layers = other} a m j) =
      let only = joining.joined_only most other target t before j in
      let same = one_layers streams a m in
      let is_answer : answer ≡ joined = only.is_answer ∙ ap (λ (l : Layers). joined_of most l target t (room_of before)) same in (
        is_answer,
        only.is_after ∙ ap (λ (l : Layers). lists_after l t answer before) same ∙ ap (λ (x : Joined). lists_after layers t x before) is_answer,
      )

  rows_are : {answer : Joined} {after : Lists} → answer ≡ joined → after ≡ lists_after layers t joined before → ImportsRows most reading bytes target t before answer after
  rows_are {after = after} e f =
      subst (λ (x : Joined). ImportsRows most reading bytes target t before x after) (sym e)
      (subst (λ (l : Lists). ImportsRows most reading bytes target t before joined l) (sym f) rows_meant)

-- ---- the import of a recording whose packets give rows: joining over these

same_imported : {a b : Joined} → imported_of a ≡ imported_of b → a ≡ b
same_imported {a} {b} e = sym (back a) ∙ ap joined_from e ∙ back b
  where
    joined_from : Imported → Joined
    joined_from (Ok joined) = joined_units joined.closure joined.units joined.rows
    joined_from (Err (Refused refusal)) = Err refusal
    joined_from (Err (NotRead refusal packet)) = Err refusal

    back : (j : Joined) → joined_from (imported_of j) ≡ j
    back (Ok joined) = refl
    back (Err refusal) = refl

-- a target that is refused is refused by joining too
after_target : (most : ℕ) (layers : Layers) (target : ℕ) (t : Table) (room : Room) (rows : RowsRead) (recording : Recording) → rows_told recording ≡ rows
    → ((j : Joined) → imported_by rows j ≡ imported_of j)
    → imported_by (rows_for (outcome_of (closure_of layers target)) recording) (joined_of most layers target t room) ≡ imported_of (joined_of most layers target t room)
after_target most layers target t room rows recording e is = go (closure_of layers target)
  where
    go : (c : Closure) → imported_by (rows_for (outcome_of c) recording) (joined_in most layers t room c) ≡ imported_of (joined_in most layers t room c)
    go (Ok closure) = ap (λ (r : RowsRead). imported_by r (joined_in most layers t room (Ok closure))) e ∙ is (joined_in most layers t room (Ok closure))
    go (Err refusal) = refl

module _ (places : ℕ) (bytes : List ℕ) (is_accepted : IsAccepted Edition2015 bytes) (target : ℕ) (packets : List ℕ) (r : GivesRows places bytes target packets) where
  is_rows : recording_with places bytes packets ≡ Ok r.count
  is_rows = sym (recordings.answer_only (pid_table bytes) packets places r.rows)

  pub imported : (room : Room) → import_of places bytes target packets room ≡ imported_of (joined_of places (layers_of_loop bytes) target (filled places bytes target packets) room)
  imported room =
      ap (λ (o : Outcome). imported_by (rows_for (outcome_of (closure_for o (layers_of_loop bytes) target)) (recording_with places bytes packets)) (joined_of places (layers_of_loop bytes) target (filled places bytes target packets) room)) is_accepted
      ∙ after_target places (layers_of_loop bytes) target (filled places bytes target packets) room _ (recording_with places bytes packets) (ap rows_told is_rows) (λ j. refl)

-- ---- THE STATEMENT

module _ (places : ℕ) (bytes : List ℕ) (is_accepted : IsAccepted Edition2015 bytes) (target : ℕ) (packets : List ℕ) where
  abbrev few : Layers
  few = layers_in Edition2009 bytes

  abbrev all : Layers
  all = layers_in Edition2015 bytes

  abbrev rows : Table
  rows = filled places bytes target packets

  abbrev joined_both : Layers → Lists → Joined
  joined_both layers before = joined_of places layers target rows (room_of before)

  -- the import of the recording, where its packets give rows
  module _ (r : GivesRows places bytes target packets) (before : Lists) where
    pub to_recording : {answer : Joined} {after : Lists} → answer ≡ joined_both all before → after ≡ lists_after all rows (joined_both all before) before
        → Imports places bytes target packets before (imported_of answer) after
    to_recording {answer} e f =
        import_meant places bytes target packets before
        (record {
          is_answer = ap imported_of e ∙ sym (imported places bytes is_accepted target packets r (room_of before));
          is_after = f ∙ ap (λ (j : Joined). lists_after all rows j before) (sym e) ∙ sym (lists_same all rows answer before);
        })

    pub of_recording : {answer : Joined} {after : Lists} → Imports places bytes target packets before (imported_of answer) after
        → (answer ≡ joined_both all before) × (after ≡ lists_after all rows (joined_both all before) before)
    of_recording {answer} i =
        let c = import_only places bytes target packets before i in
        let e : answer ≡ joined_both all before = same_imported (c.is_answer ∙ imported places bytes is_accepted target packets r (room_of before)) in
        (e, c.is_after ∙ lists_same all rows answer before ∙ ap (λ (j : Joined). lists_after all rows j before) e)

  computed : Agrees places bytes target packets (entries_in Edition2015 bytes) all
  computed =
      record {
        in_2015 = λ r before answer after. (
          λ i. (let c = rows_only places Edition2015 bytes is_accepted target rows before i in to_recording r before c.0 c.1),
          λ i. (let c = of_recording r before i in rows_are places Edition2015 bytes is_accepted target rows before c.0 c.1),
        );
        identical = λ every r before answer after. (
          λ i. (let c = rows_only places Edition2009 bytes earlier target rows before i in
              to_recording r before (c.0 ∙ same_joined bytes is_accepted target every places rows (room_of before)) (c.1 ∙ same_lists bytes is_accepted target every places rows before)),
          λ i. (let c = of_recording r before i in
              rows_are places Edition2009 bytes earlier target rows before (c.0 ∙ sym (same_joined bytes is_accepted target every places rows (room_of before)))
              (c.1 ∙ sym (same_lists bytes is_accepted target every places rows before))),
        );
        otherwise = λ other. (let n = no_closure bytes is_accepted target other in
            record {
              refusal = n.0;
              is_11_or_12 = n.1;
              always = λ before. (let e : ◌≡◌ {A = Joined} (Err n.0) (joined_both few before) = sym (ap (joined_in places few rows (room_of before)) n.2) in
                  rows_are places Edition2009 bytes earlier target rows before e (ap (λ (j : Joined). lists_after few rows j before) e));
            });
      }
    where
      earlier : IsAccepted Edition2009 bytes
      earlier = accepted_in_2009 bytes is_accepted

pub recording_agreement : OfEveryRecording
recording_agreement places bytes entries layers a target packets =
    subst (λ (l : Layers). Agrees places bytes target packets entries l) (sym (same_layers a))
    (subst (λ (es : List Entry). Agrees places bytes target packets es (layers_in Edition2015 bytes)) (sym (same_entries a))
    (computed places bytes (outcome_is a) target packets))
