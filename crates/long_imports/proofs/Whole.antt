-- A recording in one piece: the rows that were laid into the columns are there to be joined, and they are those of the recording.
-- Assumes nothing.
use Rattle.std.specs.Prelude.{Err, Ok}
use Prim.Native.Nat.{ℕ, ◌≤◌, min}
use mathlib.Core.Path.{◌≡◌, refl, sym, ap, ◌∙◌}
use mathlib.Core.Bool.{Bool, false, not, cond, ◌||◌}
use mathlib.Core.List.{List, map}
use native.Mathlib.Omega.{arith}
use borrow.Author.Tests.{le-ltb}
use lib.Dec.{ltb, eqb}
use lib.ListN.{length, take, replicate, length-map, length-replicate}
use lib.Seq.{take_at}
use Rattle.buffers.specs.Buffers.{over}
use Rattle.buffers.proofs.Laws.{over_length}
use Rattle.closure.specs.Answer.{Closure}
use Rattle.closure.specs.declared.Layers.{Layers}
use Rattle.closure.specs.Closures.{closure_of}
use Rattle.es_loop.specs.Answer.{Outcome}
use Rattle.rows.specs.Table.{Table, table, most_rows, rows_in as rowsOfTable, first_out_of_range, first_broken}
use Rattle.vocabulary.specs.declared.refusal.Refusal.TheVariants.{OutOfRange, TimeOrderBroken}
use Rattle.unit_lists.specs.Sequence.{Lists}
use Rattle.join_answers.specs.Answer.{Joined}
use Rattle.join_answers.specs.Joining.{Room, frame_of, units_joined, joined_by, joined_in, joined_of, most_long}
use Rattle.join_answers.specs.Steps.{spaces}
use Rattle.scanning.specs.declared.events.Row.{Row}
use Rattle.unit_starts.specs.Finding.{found_in, rows_in}
use Rattle.recording_rows.specs.Columns.{Columns, columns, index_in, decoding_in, match_in, room_in, over_all}
use Rattle.recordings.specs.Answer.{Recording}
use Rattle.recordings.specs.declared.RecordingFault.TheVariants.{Faulty, NotRead as HeaderNotRead, TooManyRows}
use Rattle.recordings.specs.Reading.{answer_of, recording_of}
use Rattle.recordings.proofs.Preparing.{prepared}
use Rattle.recording_imports.specs.Answer.{RowsRead, Imported}
use Rattle.recording_imports.specs.declared.Unread.TheVariants.{Refused, NotRead}
use Rattle.recording_imports.specs.declared.LoopAsked.{LoopAsked}
use Rattle.recording_imports.specs.Rows.{pid_table_of, pid_table, rows_told, rows_for, rows_of, columns_with}
use Rattle.recording_imports.specs.Imports.{layers_of_loop, asked_of, imported_of, imported_by, table_of, import_rows, import_of, places_for, import_columns, lists_with, import_lists, columns_hold, first_rows, rows_held, join_held, lists_held, rows_asked, import_told, lists_told}

-- ---- how many rows a table may have makes no difference to one that has no more

module _ (layers : Layers) (t : Table) (room : Room) (m n : ℕ) (less : rowsOfTable t ≤ m) (fewer : rowsOfTable t ≤ n) where
  alike_in : (c : Closure) → joined_in m layers t room c ≡ joined_in n layers t room c
  alike_in (Ok closure) =
      ap
      (λ (b : Bool). joined_by (units_joined t (frame_of layers closure t) room)
      (cond (not (eqb (length t.decodings) (rowsOfTable t)) || (not (eqb (length t.matches) (rowsOfTable t)) || b)) (Err (OutOfRange 0))
      (cond (ltb (first_out_of_range t) (rowsOfTable t)) (Err (OutOfRange (first_out_of_range t)))
      (cond (ltb (first_broken t closure) (rowsOfTable t)) (Err (TimeOrderBroken (first_broken t closure))) (Ok tt)))))
      (le-ltb m (rowsOfTable t) less ∙ sym (le-ltb n (rowsOfTable t) fewer))
  alike_in (Err refusal) = refl

  pub most_alike : (target : ℕ) → joined_of m layers target t room ≡ joined_of n layers target t room
  most_alike target = alike_in (closure_of layers target)

-- the three columns that are joined
abbrev pub table_in : Columns → Table
table_in c = table c.indices c.decodings c.matches

-- ---- the rows that were read, and laid into columns

module _ (pids packets : List ℕ) (most : ℕ) (before : Columns) where
  abbrev there : List Row
  there = rows_in pids packets

  -- rows that are answered are all of the recording's, and there is room for them
  abbrev pub Sound : RowsRead → Type 0
  Sound (Ok count) = (count ≡ length there) × ((count ≤ most) × (count ≤ room_in before))
  Sound (Err (Refused refusal)) = Unit {0}
  Sound (Err (NotRead refusal packet)) = Unit {0}

  told_sound : (recording : Recording) → recording ≡ answer_of (found_in pids packets) (places_for most before) → Sound (rows_told recording)
  told_sound (Ok count) e =
      let room = places_for most before in
      let zeros : List ℕ = replicate room 0 in
      let long : room ≤ length zeros = simp length-replicate (omega arith) in
      let p = prepared pids packets {room = room} {count = count} zeros {answer = Ok count} long refl e refl in
      let short : count ≤ min most (room_in before) = p.short in
      (sym p.many, (omega arith, omega arith))
  told_sound (Err (Faulty fault)) e = tt
  told_sound (Err (HeaderNotRead refusal packet)) e = tt
  told_sound (Err TooManyRows) e = tt

  pub rows_sound : (outcome : Outcome) → Sound (rows_for outcome (recording_of pids packets most before))
  rows_sound (Ok tt) = told_sound (recording_of pids packets most before) refl
  rows_sound (Err refusal) = tt

  module _ (count : ℕ) (sound : Sound (Ok count)) where
    abbrev laid : Table
    laid = table_in (over_all there before)

    column_shown : (f : Row → ℕ) (column : List ℕ) → take count (over (map f there) column) ≡ map f there
    column_shown f column = take_at (map f there) _ count (length-map there f ∙ sym sound.0)

    table_shown : first_rows count laid ≡ table_of there
    table_shown i = table (column_shown index_in before.indices i) (column_shown decoding_in before.decodings i) (column_shown match_in before.matches i)

    column_long : (f : Row → ℕ) (column : List ℕ) → count ≤ length column → count ≤ length (over (map f there) column)
    column_long f column h =
        let fits : length (map f there) ≤ length column = rw (length-map there f) (omega (arith, sound.0)) in
        rw (over_length (map f there) column fits) h

    all_there : rows_held most laid (Ok count) ≡ Ok count
    all_there =
        let one = column_long index_in before.indices (omega (arith, sound.1.1)) in
        let two = column_long decoding_in before.decodings (omega (arith, sound.1.1)) in
        let three = column_long match_in before.matches (omega (arith, sound.1.1)) in
        let short : count ≤ min most (columns_hold laid) = omega (arith, one, two, three, sound.1.0) in
        ap (λ (b : Bool). cond b (Err (Refused (OutOfRange 0))) (Ok count)) (le-ltb (min most (columns_hold laid)) count short)

  module _ (layers : Layers) (target : ℕ) (room : Room) where
    abbrev joined_here : Joined
    joined_here = joined_of (places_for most before) layers target (table_of there) room

    same_import : (rows : RowsRead) → Sound rows
        → join_held most layers target (table_in (columns_with there rows before)) room (rows_held most (table_in (columns_with there rows before)) rows) ≡ imported_by rows joined_here
    same_import (Ok count) sound =
        let long : length (map index_in there) ≡ count = length-map there index_in ∙ sym sound.0 in
        ap (join_held most layers target (laid count sound) room) (all_there count sound)
        ∙ ap (λ (t : Table). imported_of (joined_of most layers target t room)) (table_shown count sound)
        ∙ ap imported_of (most_alike layers (table_of there) room most (places_for most before) (omega (arith, sound.1.0)) (omega (arith, sound.1.0, sound.1.1)) target)
    same_import (Err (Refused refusal)) sound = refl
    same_import (Err (NotRead refusal packet)) sound = refl

    same_lists : (rows : RowsRead) → Sound rows → (joined : Joined) (old : Lists)
        → lists_held layers (table_in (columns_with there rows before)) (rows_held most (table_in (columns_with there rows before)) rows) (imported_by rows joined) old
        ≡ lists_with layers (table_of there) (imported_by rows joined) old
    same_lists (Ok count) sound joined old =
        ap (λ (h : RowsRead). lists_held layers (laid count sound) h (imported_of joined) old) (all_there count sound)
        ∙ ap (λ (t : Table). lists_with layers t (imported_of joined) old) (table_shown count sound)
    same_lists (Err (Refused refusal)) sound joined old = refl
    same_lists (Err (NotRead refusal packet)) sound joined old = refl

-- ---- the whole call, step after step

module _ (bytes : List ℕ) (target : ℕ) (packets : List ℕ) (most : ℕ) (before : Columns) (room : Room) (old : Lists) where
  abbrev pub Imports : Imported → Columns → Lists → Type 0
  Imports answer after new =
      (answer ≡ import_of (places_for most before) bytes target packets room)
      × ((after ≡ import_columns (places_for most before) bytes target packets before) × (new ≡ import_lists bytes packets answer old))

  pub imported : {asked : LoopAsked} {pids : List ℕ} {rows : RowsRead} {after : Columns} {answer : Imported} {new : Lists} → asked ≡ asked_of bytes target
      → pids ≡ pid_table_of asked.table → rows ≡ rows_for asked.outcome (recording_of pids packets most before) → after ≡ columns_with (rows_in pids packets) rows before
      → answer ≡ join_held most asked.table.layers target (table_in after) room (rows_held most (table_in after) rows)
      → new ≡ lists_held asked.table.layers (table_in after) (rows_held most (table_in after) rows) answer old → Imports answer after new
  imported {asked} {pids} {rows} {after} {answer} {new} loop table read laid joins lists =
      let all : List Row = rows_of bytes packets in
      let right : RowsRead = import_rows (places_for most before) bytes target packets in
      let held : Columns = columns_with all right before in
      let layers : Layers = layers_of_loop bytes in
      let same_pids : pids ≡ pid_table bytes = table ∙ ap (λ (a : LoopAsked). pid_table_of a.table) loop in
      let same_layers : asked.table.layers ≡ layers = ap (λ (a : LoopAsked). a.table.layers) loop in
      let same_rows : rows ≡ right =
      read
      ∙ ap (λ (t : List ℕ). rows_for asked.outcome (recording_of t packets most before)) same_pids
      ∙ ap (λ (a : LoopAsked). rows_for a.outcome (recording_of (pid_table bytes) packets most before)) loop in
      let same_columns : after ≡ held =
      laid ∙ ap (λ (t : List ℕ). columns_with (rows_in t packets) rows before) same_pids ∙ ap (λ (r : RowsRead). columns_with all r before) same_rows in
      let sound = rows_sound (pid_table bytes) packets most before (asked_of bytes target).outcome in
      let same : answer ≡ import_of (places_for most before) bytes target packets room =
      joins
      ∙ ap (λ (l : Layers). join_held most l target (table_in after) room (rows_held most (table_in after) rows)) same_layers
      ∙ ap (λ (c : Columns). join_held most layers target (table_in c) room (rows_held most (table_in c) rows)) same_columns
      ∙ ap (λ (r : RowsRead). join_held most layers target (table_in held) room (rows_held most (table_in held) r)) same_rows
      ∙ same_import (pid_table bytes) packets most before layers target room right sound in
      let joined : Joined = joined_of (places_for most before) layers target (table_of all) room in (
        same,
        (
          same_columns,
          lists
              ∙ ap (λ (l : Layers). lists_held l (table_in after) (rows_held most (table_in after) rows) answer old) same_layers
              ∙ ap (λ (c : Columns). lists_held layers (table_in c) (rows_held most (table_in c) rows) answer old) same_columns
              ∙ ap (λ (r : RowsRead). lists_held layers (table_in held) (rows_held most (table_in held) r) answer old) same_rows
              ∙ ap (λ (a : Imported). lists_held layers (table_in held) (rows_held most (table_in held) right) a old) same
              ∙ same_lists (pid_table bytes) packets most before layers target room right sound joined old
              ∙ ap (λ (a : Imported). lists_with layers (table_of all) a old) (sym same),
        ),
      )

  -- the same where the number of places is written otherwise
  pub imported_at : {asked : LoopAsked} {pids : List ℕ} {n m : ℕ} {rows : RowsRead} {after : Columns} {answer : Imported} {new : Lists} → n ≡ most → m ≡ most
      → asked ≡ asked_of bytes target → pids ≡ pid_table_of asked.table → rows ≡ rows_for asked.outcome (recording_of pids packets n before)
      → after ≡ columns_with (rows_in pids packets) rows before → answer ≡ join_held m asked.table.layers target (table_in after) room (rows_held m (table_in after) rows)
      → new ≡ lists_held asked.table.layers (table_in after) (rows_held m (table_in after) rows) answer old → Imports answer after new
  imported_at {asked} {pids} {n} {m} {rows} {after} {answer} {new} lent held loop table read laid joins lists =
      imported loop table (read ∙ ap (λ (k : ℕ). rows_for asked.outcome (recording_of pids packets k before)) lent) laid
      (joins ∙ ap (λ (k : ℕ). join_held k asked.table.layers target (table_in after) room (rows_held k (table_in after) rows)) held)
      (lists ∙ ap (λ (k : ℕ). lists_held asked.table.layers (table_in after) (rows_held k (table_in after) rows) answer old) held)

-- a recording that was read already
pub told : (bytes : List ℕ) (target : ℕ) (recording : Recording) (t : Table) (most : ℕ) (room : Room) (old : Lists) {asked : LoopAsked} {rows : RowsRead} {answer : Imported}
    {new : Lists} → asked ≡ asked_of bytes target → rows ≡ rows_for asked.outcome recording
    → answer ≡ join_held most asked.table.layers target t room (rows_held most t rows)
    → new ≡ lists_held asked.table.layers t (rows_held most t rows) answer old
    → (answer ≡ import_told most bytes target recording t room) × (new ≡ lists_told most bytes target recording t answer old)
told bytes target recording t most room old {asked} {rows} {answer} loop read joins lists =
    let same_layers : asked.table.layers ≡ layers_of_loop bytes = ap (λ (a : LoopAsked). a.table.layers) loop in
    let same_rows : rows ≡ rows_asked bytes target recording = read ∙ ap (λ (a : LoopAsked). rows_for a.outcome recording) loop in (
      joins
          ∙ ap (λ (l : Layers). join_held most l target t room (rows_held most t rows)) same_layers
          ∙ ap (λ (r : RowsRead). join_held most (layers_of_loop bytes) target t room (rows_held most t r)) same_rows,
      lists
          ∙ ap (λ (l : Layers). lists_held l t (rows_held most t rows) answer old) same_layers
          ∙ ap (λ (r : RowsRead). lists_held (layers_of_loop bytes) t (rows_held most t r) answer old) same_rows,
    )

-- the same answer, where the number of places is written otherwise
pub places_are : (bytes : List ℕ) (target : ℕ) (packets : List ℕ) (room : Room) {n m : ℕ} {answer : Imported} → answer ≡ import_of n bytes target packets room → n ≡ m
    → answer ≡ import_of m bytes target packets room
places_are bytes target packets room a e = a ∙ ap (λ (k : ℕ). import_of k bytes target packets room) e

-- columns and a work space of 512 places each
abbrev pub own_numbers : List ℕ
own_numbers = replicate most_rows 0

abbrev pub own_marks : List Bool
own_marks = replicate most_rows false

pub own_places : places_for (most_long (spaces (length own_numbers) (length own_numbers) (length own_numbers) (length own_numbers) (length own_numbers) (length own_marks) (length own_marks)))
    (columns own_numbers own_numbers own_numbers own_numbers own_numbers) ≡ most_rows
own_places = refl
