-- THE UNITS OF A RECORDING, HOWEVER IT IS CUT.
-- Assumes nothing.
use Rattle.std.specs.Prelude.{ℕ, ◌≡◌, List}
use Rattle.rows.specs.Table.{Table, table}
use Rattle.unit_lists.specs.Sequence.{Lists}
use Rattle.recording_rows.specs.Columns.{Columns}
use Rattle.recording_imports.specs.Imports.{places_for}
use Rattle.fed_packets.specs.Feeding.{joined_up}
use Rattle.import_summaries.specs.Summaries.{ImportReply}
use Rattle.summed_joins.specs.Replies.{import_placed}
use Rattle.thoquenry_units.specs.Units.{units_call}

-- the three columns that are joined
abbrev pub joined_columns : Columns → Table
joined_columns c = table c.indices c.decodings c.matches

-- what thq_packets_import_long leaves of all bytes, with work space for `most` rows and columns that held this before it
abbrev pub whole_reply : ℕ → List ℕ → ℕ → List ℕ → Columns → Lists → List ℕ → ImportReply
whole_reply most bytes target packets before lists summary = import_placed (places_for most before) bytes target packets lists summary

-- AS THE WHOLE: for every target, work space, lists and summary, over the columns that were fed
abbrev pub UnitsAsTheWhole : List ℕ → Columns → List (List ℕ) → List ℕ → List ℕ → Columns → Type 0
UnitsAsTheWhole bytes before pieces state counts after =
    (most target : ℕ) (lists : Lists) (summary : List ℕ)
    → units_call most bytes target state counts (joined_columns after) lists summary ≡ whole_reply most bytes target (joined_up pieces) before lists summary
