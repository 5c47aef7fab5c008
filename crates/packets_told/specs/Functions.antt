-- THE FUNCTIONS FOR C that are given a recording whole, thq_packets_rows, thq_packets_import and thq_packets_import_long: whatever the contract of each ensures tells what is right, the answer, the columns,
-- the lists and the summary (`TellsRows`, `TellsImport` and `Leaves`, in the header's words). None asks anything of its caller.
-- Assumes nothing.
use Rattle.std.specs.Prelude.{ℕ, min, List, ◌≡◌, length}
use Rattle.std.proofs.Common.{sym, subst, subst₂}
use Rattle.rows.specs.Table.{most_rows}
use Rattle.unit_lists.specs.Sequence.{lists}
use Rattle.join_answers.specs.Joining.{most_long}
use Rattle.join_answers.specs.Steps.{spaces}
use Rattle.recording_rows.specs.Columns.{Columns, columns, room_in}
use Rattle.recording_imports.specs.Imports.{places_for}
use Rattle.recording_meaning.specs.Rows.{Leaves}
use Rattle.recording_meaning.proofs.RowsMeant.{columns_meant}
use Rattle.recording_promises.specs.ForC.{TellsRows, Left, TellsImport, rows_told_lem, import_told}
use Rattle.thoquenry_packets.proofs.thq_packets_rows.Kinds as rows_kinds
use Rattle.thoquenry_packets.proofs.thq_packets_rows.Reads as rows
use Rattle.thoquenry_packet_imports.proofs.thq_packets_import.Kinds as import-kinds
use Rattle.thoquenry_packet_imports.proofs.thq_packets_import.Reads as imports
use Rattle.thoquenry_packet_imports.proofs.thq_packets_import_long.Kinds as long-kinds
use Rattle.thoquenry_packet_imports.proofs.thq_packets_import_long.Reads as long
use Rattle.promised.specs.Calls.{Run}

-- ---- thq_packets_rows: 1 to 9, 30 to 33, 20 to 24, 13

abbrev RowsRun : Type 0
RowsRun = Run 8 rows_kinds.ps rows_kinds.r

abbrev pub columns_given : RowsRun → Columns
columns_given run = columns run.handed.1.1.1.0.now run.handed.1.1.1.1.0.now run.handed.1.1.1.1.1.0.now run.handed.1.1.1.1.1.1.0.now run.handed.1.1.1.1.1.1.1.0.now

abbrev pub columns_left : RowsRun → Columns
columns_left run = columns run.left.1.1.1.0.now run.left.1.1.1.1.0.now run.left.1.1.1.1.1.0.now run.left.1.1.1.1.1.1.0.now run.left.1.1.1.1.1.1.1.0.now

-- as many rows as the columns and the work space hold
abbrev pub RowsRight : RowsRun → Type 0
RowsRight run =
    TellsRows run.handed.0.now run.handed.1.0.now (min (length run.handed.1.1.0.now) (room_in (columns_given run))) (columns_given run) run.answer (columns_left run)

-- ---- thq_packets_import: 1 to 9, 11, 12, 30 to 33, 20 to 24, 13 to 18, of at most 512 rows

abbrev ImportRun : Type 0
ImportRun = Run 6 import-kinds.ps import-kinds.r

abbrev pub import_given : ImportRun → Left
import_given run = record { lists = lists run.handed.1.1.1.0.now run.handed.1.1.1.1.0.now run.handed.1.1.1.1.1.0.now; summary = run.handed.1.1.1.1.1.1.0.now }

abbrev pub import_left : ImportRun → Left
import_left run = record { lists = lists run.left.1.1.1.0.now run.left.1.1.1.1.0.now run.left.1.1.1.1.1.0.now; summary = run.left.1.1.1.1.1.1.0.now }

abbrev pub ImportRight : ImportRun → Type 0
ImportRight run = TellsImport most_rows run.handed.0.now run.handed.1.0 run.handed.1.1.0.now (import_given run) run.answer (import_left run)

-- ---- thq_packets_import_long: the same numbers, of as many rows as the columns and the work space hold

abbrev LongRun : Type 0
LongRun = Run 18 long-kinds.ps long-kinds.r

abbrev pub long_columns : LongRun → Columns
long_columns run = columns run.handed.1.1.1.0.now run.handed.1.1.1.1.0.now run.handed.1.1.1.1.1.0.now run.handed.1.1.1.1.1.1.0.now run.handed.1.1.1.1.1.1.1.0.now

abbrev pub long_columns_left : LongRun → Columns
long_columns_left run = columns run.left.1.1.1.0.now run.left.1.1.1.1.0.now run.left.1.1.1.1.1.0.now run.left.1.1.1.1.1.1.0.now run.left.1.1.1.1.1.1.1.0.now

abbrev pub long_places : LongRun → ℕ
long_places run =
    places_for (most_long (spaces (length run.handed.1.1.1.1.1.1.1.1.0.now) (length run.handed.1.1.1.1.1.1.1.1.1.0.now) (length run.handed.1.1.1.1.1.1.1.1.1.1.0.now) (length run.handed.1.1.1.1.1.1.1.1.1.1.1.0.now) (length run.handed.1.1.1.1.1.1.1.1.1.1.1.1.0.now) (length run.handed.1.1.1.1.1.1.1.1.1.1.1.1.1.0.now) (length run.handed.1.1.1.1.1.1.1.1.1.1.1.1.1.1.0.now)))
    (long_columns run)

abbrev pub long_given : LongRun → Left
long_given run = record { lists = lists run.handed.1.1.1.1.1.1.1.1.1.1.1.1.1.1.1.0.now run.handed.1.1.1.1.1.1.1.1.1.1.1.1.1.1.1.1.0.now run.handed.1.1.1.1.1.1.1.1.1.1.1.1.1.1.1.1.1.0.now; summary = run.handed.1.1.1.1.1.1.1.1.1.1.1.1.1.1.1.1.1.1.0.now }

abbrev pub long_left : LongRun → Left
long_left run = record { lists = lists run.left.1.1.1.1.1.1.1.1.1.1.1.1.1.1.1.0.now run.left.1.1.1.1.1.1.1.1.1.1.1.1.1.1.1.1.0.now run.left.1.1.1.1.1.1.1.1.1.1.1.1.1.1.1.1.1.0.now; summary = run.left.1.1.1.1.1.1.1.1.1.1.1.1.1.1.1.1.1.1.0.now }

abbrev pub LongRight : LongRun → Type 0
LongRight run =
    TellsImport (long_places run) run.handed.0.now run.handed.1.0 run.handed.1.1.0.now (long_given run) run.answer (long_left run)
    × Leaves (long_places run) run.handed.0.now run.handed.1.0 run.handed.1.1.0.now (long_columns run) (long_columns_left run)

-- THE STATEMENT: each asks nothing, and what it ensures is right.
pub record ToldOfPackets : Type 0 where
  pub rows_ask_nothing : (run : RowsRun) → rows.Pre run.lifetimes run.handed
  pub rows_are_told : (run : RowsRun) → rows.Post run.lifetimes run.handed run.answer run.left → RowsRight run
  pub import_asks_nothing : (run : ImportRun) → imports.Pre run.lifetimes run.handed
  pub import_is_told : (run : ImportRun) → imports.Post run.lifetimes run.handed run.answer run.left → ImportRight run
  pub long_asks_nothing : (run : LongRun) → long.Pre run.lifetimes run.handed
  pub long_is_told : (run : LongRun) → long.Post run.lifetimes run.handed run.answer run.left → LongRight run

pub told_of_packets : ToldOfPackets
told_of_packets =
    record {
      rows_ask_nothing = λ run. tt;
      rows_are_told = λ run e.
          subst₂ (λ (a : ℕ) (c : Columns). TellsRows run.handed.0.now run.handed.1.0.now (min (length run.handed.1.1.0.now) (room_in (columns_given run))) (columns_given run) a c) (sym e.0) (sym e.1)
          (rows_told_lem run.handed.0.now run.handed.1.0.now (length run.handed.1.1.0.now) (columns_given run));
      import_asks_nothing = λ run. tt;
      import_is_told = λ run e.
          subst₂ (λ (a : ℕ) (c : Left). TellsImport most_rows run.handed.0.now run.handed.1.0 run.handed.1.1.0.now (import_given run) a c) (sym e.0)
          (sym (λ i. record { lists = e.1.0 i; summary = e.1.1 i }))
          (import_told most_rows run.handed.0.now run.handed.1.0 run.handed.1.1.0.now (import_given run));
      long_asks_nothing = λ run. tt;
      long_is_told = λ run e. (
        subst₂ (λ (a : ℕ) (c : Left). TellsImport (long_places run) run.handed.0.now run.handed.1.0 run.handed.1.1.0.now (long_given run) a c) (sym e.0)
            (sym (λ i. record { lists = e.1.1.0 i; summary = e.1.1.1 i }))
            (import_told (long_places run) run.handed.0.now run.handed.1.0 run.handed.1.1.0.now (long_given run)),
        subst (Leaves (long_places run) run.handed.0.now run.handed.1.0 run.handed.1.1.0.now (long_columns run)) (sym e.1.0)
            (columns_meant (long_places run) run.handed.0.now run.handed.1.0 run.handed.1.1.0.now (long_columns run)),
      );
    }
