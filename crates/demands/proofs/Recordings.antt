-- W-202, the demands over recordings are kept, as specs/Recordings.antt states them.
-- Assumes nothing.
use Rattle.join_answers.specs.Answer.{joined_units, Joined}
use Rattle.std.specs.Prelude.{ℕ, ◌≡◌, refl, Err, Ok}
use Rattle.std.proofs.Common.{◌∙◌, ap, subst, arith}
use Rattle.vocabulary.specs.declared.refusal.Refusal.{Refusal}
use Rattle.vocabulary.specs.declared.refusal.Refusal.TheVariants.{Unpaired, UsedTwice}
use Rattle.closure.specs.declared.Layers.{Layers}
use Rattle.closure.specs.Meaning.{WholeClosure, Answers as ClosureAnswers, complete}
use Rattle.unit_lists.specs.Sequence.{Lists}
use Rattle.join_answers.specs.Joining.{room_of, joined_of, lists_after}
use Rattle.join_answers.specs.Meaning as Joining
use Rattle.join_answers.proofs.Meant as joining
use Rattle.join_answers.proofs.EveryRow as every
use Rattle.recording_layers.proofs.Meant.{layer_pids}
use Rattle.recording_layers.proofs.Predecessors.{by_pid_or_by_layer}
use Rattle.recording_imports.specs.Answer.{Imported}
use Rattle.recording_imports.specs.declared.Unread.TheVariants.{Refused}
use Rattle.recording_imports.specs.Imports.{imported_of}
use Rattle.recording_demands.specs.Agreement.{filled}
use Rattle.recording_demands.specs.Reaching.{OfJoining}
use Rattle.recording_demands.proofs.Filled.{rows_fill}
use Rattle.recording_demands.proofs.Agreement.{of_512_rows, recording_agreement}
use Rattle.recording_demands.proofs.Reaching.{reached}
use Rattle.promised.specs.Joiners.{RowsGiven}
use Rattle.recording_promises.specs.Imports.{ImportGiven, RightImport, import_packets, import_long, columns_left}
use Rattle.recording_promises.proofs.Imports.{packets_imported, long_imported}
use Rattle.demands.specs.Demand2.{Says}
use Rattle.demands.proofs.Demand2.{says}
use Rattle.demands.specs.Recordings.{EachRowOnce, OverRecordings, Reaches, SaysOfRecording, rows_over}

-- whatever is right says so
module _ (given : ImportGiven) {answer : Imported} {left : Lists} (means : RightImport given answer left) where
  abbrev joined_over : Reaches given → Joined → Lists → Type 0
  joined_over r joined after =
      Joining.Answers given.places r.layers given.target (filled given.places given.bytes given.target given.packets) given.before joined after

  -- an answer of joining, as joining gives it
  joins : (joined : Joined) → OfJoining (imported_of joined) → answer ≡ imported_of joined → (r : Reaches given) × joined_over r joined left
  joins joined of-joining e =
      let m : RightImport given (imported_of joined) left = subst (λ (a : Imported). RightImport given a left) e means in
      let it = reached given.places given.bytes given.target given.packets in
      let r = it.only_then given.before (imported_of joined) left m of-joining in
      (r, (it.as_joining r given.before joined left).1 m)

  -- and back: what joining answers is the answer
  answers : (r : Reaches given) (joined : Joined) (after : Lists) → joined_over r joined after → (answer ≡ imported_of joined) × (left ≡ after)
  answers r joined after j =
      packets_imported.no_other given {beside = after} means
      (((reached given.places given.bytes given.target given.packets).as_joining r given.before joined after).0 j)

  -- what joining computes over the rows
  module _ (r : Reaches given) where
    abbrev over : RowsGiven
    over = rows_over given r.layers

    abbrev computed : Joined
    computed = joined_of over.most over.layers over.target over.rows (room_of over.before)

    said : Says over computed (lists_after over.layers over.rows computed over.before)
    said = says over (joining.joined_meant over.most over.layers over.target over.rows over.before)

    refused : (refusal : Refusal) → computed ≡ Err refusal → answer ≡ Err (Refused refusal)
    refused refusal e =
        (answers r computed (lists_after over.layers over.rows computed over.before) (joining.joined_meant over.most over.layers over.target over.rows over.before)).0
        ∙ ap imported_of e

  pub says_of_recording : SaysOfRecording given answer left
  says_of_recording =
      record {
        units = λ closure units rows after. (
          λ e. (let w = joins (joined_units closure units rows) tt e.0 in
              record { nothing_before = w.0; holds = ((says (rows_over given w.0.layers) w.1).units closure units rows after).0 (refl, e.1) }),
          λ u. (let each = u.holds in
              answers u.nothing_before (joined_units closure units rows) after
              (Joining.over_closure each.closed (Joining.joined each.in_order each.in_one_unit each.near each.accepted))),
        );
        unpaired = λ row. (
          λ e. (let w = joins (Err (Unpaired row)) (omega arith, omega arith) e in
              record { nothing_before = w.0; holds = ((says (rows_over given w.0.layers) w.1).unpaired row).0 refl }),
          λ u. refused u.nothing_before (Unpaired row) (((said u.nothing_before).unpaired row).1 u.holds),
        );
        used_twice = λ row. (
          λ e. (let w = joins (Err (UsedTwice row)) (omega arith, omega arith) e in
              record { nothing_before = w.0; holds = ((says (rows_over given w.0.layers) w.1).used_twice row).0 refl }),
          λ u. refused u.nothing_before (UsedTwice row) (((said u.nothing_before).used_twice row).1 u.holds),
        );
      }

whole_closure : {layers : Layers} {target closure : ℕ} → ClosureAnswers layers target (Ok closure) → WholeClosure layers target closure
whole_closure (complete here whole) = whole

pub each_once : EachRowOnce
each_once given closure units rows after u =
    let each = u.holds in
    every.each_row given.places u.nothing_before.layers given.target closure (whole_closure each.closed)
    (filled given.places given.bytes given.target given.packets) each.in_order each.in_one_unit given.before each.accepted

pub over_recordings : OverRecordings
over_recordings =
    record {
      columns_hold = columns_left;
      of_512_rows = λ run ensured. says_of_recording (import_packets.given run) (packets_imported.right run ensured);
      of_any_length = λ run ensured. says_of_recording (import_long.given run) (long_imported.right run ensured);
      each_row_once = each_once;
      rows_fill_the_table = rows_fill;
      readings_agree = recording_agreement;
      as_imported = of_512_rows;
      pids_of_layers = layer_pids;
      predecessors = by_pid_or_by_layer;
    }
