-- DEMAND 2 is kept, as specs/Demand2.antt states it: of every run of a call, by what its function's contract ensures.
-- Assumes nothing.
use Rattle.join_answers.specs.Answer.{joined_units, Joined}
use Rattle.std.specs.Prelude.{ℕ, List, [], ◌≡◌, length, take, Ok}
use Rattle.std.proofs.Common.{sym, ◌∙◌, ap, ap₂}
use Rattle.vocabulary.specs.declared.stream_types.Reading.{Reading}
use Rattle.vocabulary.specs.declared.stream_types.Reading.TheVariants.{Edition2015}
use Rattle.loop_entries.specs.declared.Entry.{Entry}
use Rattle.es_loop.specs.Reading.{loop_read, accepted}
use Rattle.es_loop.specs.declared.reader.LoopRead.{LoopRead}
use Rattle.loop_writer.specs.Answer.{Written}
use Rattle.loop_writer.specs.Layout.{loop_bytes}
use Rattle.loop_writer.specs.Writing.{answer, content_after}
use Rattle.loop_round_trip.proofs.RoundTrip as loops
use Rattle.loop_round_trip.proofs.Rewriting as loops-again
use Rattle.pes.proofs.RoundTrips as times
use Rattle.unit_lists.specs.Sequence.{Lists, lists}
use Rattle.join_answers.specs.Meaning as Joining
use Rattle.join_answers.proofs.Meant as joining
use Rattle.importing.specs.Meaning as Import
use Rattle.promised.specs.Readers.{LoopGiven, read_loop, loop_read_computed}
use Rattle.promised.proofs.Readers.{loop_read_lem, times_read}
use Rattle.promised.specs.Writers.{write_loop, loop_written_computed}
use Rattle.promised.proofs.Writers.{loop_written, times_written}
use Rattle.promised.specs.Joiners.{RowsGiven, join_rows, join_long, ImportGiven, import_loop}
use Rattle.promised.proofs.Joiners.{rows_joined, long_joined, loop_imported}
use Rattle.demands.specs.Demand2.{Demand2, LoopReadBack, LoopRewritten, OneUnitEach, OneUnitEachOfLoop, Says, over_layers}

-- the round trips of loops, from what the two functions ensure
pub read_back : LoopReadBack
read_back wrote written n is-bytes typed read ensured same =
    let g = write_loop.given wrote in
    let w = loop_written_computed.ensured wrote written in
    let accepted : answer (length g.out) g.count g.array ≡ Ok n = sym w.0 ∙ is-bytes in
    (loop_read_computed.ensured read ensured).0
    ∙ ap (λ (l : LoopGiven). loop_read l.reading l.bytes) same
    ∙ ap (loop_read Edition2015) (ap (take n) w.1 ∙ loops.buffer_holds g.count g.array g.out accepted)
    ∙ loops.read_back (length g.out) g.count g.array typed accepted

pub rewritten : LoopRewritten
rewritten read ensured in_2015 bytes own is_accepted wrote written same_count same-array large =
    let loop = (read_loop.given read).bytes in
    let out = (write_loop.given wrote).out in
    let as_read : read_loop.answer read ≡ loop_read Edition2015 loop =
    (loop_read_computed.ensured read ensured).0 ∙ ap (λ (r : Reading). loop_read r loop) in_2015 in
    let count = same_count ∙ ap (λ (a : LoopRead). a.count) as_read in
    let array = same-array ∙ ap (λ (a : LoopRead). a.entries) as_read in
    let w = loop_written_computed.ensured wrote written in
    let both = loops-again.rewrite loop bytes own (sym (ap (λ (a : LoopRead). a.outcome) as_read) ∙ is_accepted) (length out) large in
    let answered = ap₂ (λ (c : ℕ) (a : List Entry). answer (length out) c a) count array ∙ both.0 in (
      w.0 ∙ answered,
      w.1 ∙ ap₂ (λ (a : Written) (b : List ℕ). content_after a b out) answered (ap₂ (λ (c : ℕ) (a : List Entry). loop_bytes (take c a)) count array ∙ both.1),
    )

-- what the meaning says of units
one_unit_each : {given : RowsGiven} {after : Lists} {closure units rows : ℕ} → join_rows.Means given (joined_units closure units rows) after
    → OneUnitEach given closure units rows after
one_unit_each (Joining.over_closure c (Joining.joined o s n a)) = record { closed = c; in_order = o; in_one_unit = s; near = n; accepted = a }

units_meant : {given : RowsGiven} {answer : Joined} {left after : Lists} {closure units rows : ℕ} → join_rows.Means given answer left
    → answer ≡ joined_units closure units rows → left ≡ after → OneUnitEach given closure units rows after
units_meant {given} means is_answer is_after = one_unit_each {given = given} (rw (is_answer, is_after) at means)

imported_meant : {given : ImportGiven} {answer : Joined} {left after : Lists} {closure units rows : ℕ} → import_loop.Means given answer left
    → answer ≡ joined_units closure units rows → left ≡ after → OneUnitEachOfLoop given closure units rows after
imported_meant {given} means is_answer is_after = go (rw (is_answer, is_after) at means)
  where
    go : {closure units rows : ℕ} {after : Lists}
        → Import.Answers given.reading given.bytes given.target given.rows given.before (joined_units closure units rows) after
        → OneUnitEachOfLoop given closure units rows after
    go (Import.loop_accepted streams {layers} a m j) =
        record { streams = streams; layers = layers; loop_accepted = a; layers_of_loop = m; one_unit_each = one_unit_each {given = over_layers given layers} j }

-- whatever is right says so
pub says : (given : RowsGiven) {answer : Joined} {left : Lists} → join_rows.Means given answer left → Says given answer left
says given {answer} {left} means =
    let computed = (joining.joined_only given.most given.layers given.target given.rows given.before means).is_answer in
    record {
      units = λ closure units rows after. (
        λ e. units_meant {given = given} means e.0 e.1,
        λ u. rows_joined.no_other given {beside = after} means (Joining.over_closure u.closed (Joining.joined u.in_order u.in_one_unit u.near u.accepted)),
      );
      unpaired = λ row. (let law = joining.given_15 given.most given.layers given.target given.rows given.before row in (
        λ e. (let w = law.0 (sym computed ∙ e) in record { closure = w.0; closed = w.1; in_order = w.2; first = w.3 }),
        λ u. computed ∙ law.1 (u.closure, u.closed, u.in_order, u.first),
      ));
      used_twice = λ row. (let law = joining.given_16 given.most given.layers given.target given.rows given.before row in (
        λ e. (let w = law.0 (sym computed ∙ e) in record { closure = w.0; closed = w.1; in_order = w.2; all_paired = w.3; first = w.4 }),
        λ u. computed ∙ law.1 (u.closure, u.closed, u.in_order, u.all_paired, u.first),
      ));
    }

pub demand_2 : Demand2
demand_2 =
    record {
      read_and_written = record {
        loops_read = loop_read_lem;
        loops_written = loop_written;
        times_are_read = times_read;
        times_are_written = times_written;
        loop_read_back = read_back;
        loop_rewritten = rewritten;
        times_read_back = times.reading_what_was_written;
        times_rewritten = λ own header read out room. times.rewritten own header read out room;
      };
      joins = record {
        of_512_rows = λ run ensured. says (join_rows.given run) (rows_joined.right run ensured);
        of_any_length = λ run ensured. says (join_long.given run) (long_joined.right run ensured);
        units_of_loop = λ run ensured closure units rows after. (
          λ e. imported_meant {given = import_loop.given run} (loop_imported.right run ensured) e.0 e.1,
          λ u. (let each = u.one_unit_each in
              loop_imported.no_other (import_loop.given run) {beside = after} (loop_imported.right run ensured)
              (Import.loop_accepted u.streams u.loop_accepted u.layers_of_loop
              (Joining.over_closure each.closed (Joining.joined each.in_order each.in_one_unit each.near each.accepted)))),
        );
        one_choice = λ most layers target closure rows closed ordered head is_head choice other a b layer rests.
            joining.at_most_one_assembly most layers target rows (lists [] [] []) closure closed ordered head is_head choice other a b layer rests;
      };
    }
