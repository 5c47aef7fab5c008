-- A LAYER SET IN TWO BUFFERS, as include/thoquenry.h lays it out: rows of 80 numbers, one for each layer index, and three columns of stored numbers; and whether buffers
-- hold a set.
-- Assumes nothing.
use Rattle.std.specs.Prelude.{ℕ, ◌+◌, ◌-◌, ◌*◌, Bool, true, false, not, cond, ◌&&◌, ◌||◌, List, eqb, ltb, length, get_or}
use Rattle.combinators.specs.Below.{some, every}
use Rattle.syntax.specs.Filled.{bit_of}
use Rattle.records.specs.Records.{is_layer}
use Rattle.implied.specs.Rule.{given}
use Rattle.judging.specs.Judging.{type_not_allowed, wrong_flags, wrong_embedded}
use Rattle.loop_entries.specs.declared.Entry.{Entry}
use Rattle.loop_faults.specs.Conditions.{slot_of}
use Rattle.combinators.specs.Each.{each_below}
use Rattle.kept_closures.specs.declared.Columns.{Columns}
use Rattle.entry_rows.specs.Rows.{row_at, some_too_wide, row_of, entry_in, entries_below}
use Rattle.layer_set.specs.declared.«set».LayerSet.{LayerSet}
use Rattle.layer_set.specs.declared.«set».Placed.{Placed}
use Rattle.layer_set.specs.Sets.{stored_in, placed_of, worked_set}

-- ---- the stored numbers

-- 'stored[i] the closure of layer i', 'stored[64 + i] the number of indices in it', 'stored[128 + i] 1 where one of them is absent, and else 0'
abbrev pub number_of : Columns → ℕ → ℕ
number_of kept place =
    cond (ltb place 64) (get_or kept.closures place 0)
    (cond (ltb place 128) (get_or kept.sizes (place - 64) 0) (bit_of (get_or kept.absents (place - 128) false)))

unfoldable pub stored_numbers : Columns → List ℕ
stored_numbers kept = each_below (number_of kept) 192

-- ---- the set of the rows

unfoldable pub placed_in : List ℕ → Placed
placed_in rows = placed_of (entries_below rows 64)

abbrev pub set_in : List ℕ → LayerSet
set_in rows = worked_set (placed_in rows)

-- ---- whether buffers hold a set

-- a layer that may not stand at an index: one of another index, or one to which 6, 7 or 9 applies; 'THQ_IMPLIED is right on 0x1B and on 0x20, whatever else is in the
-- set'
abbrev pub wrong_at : ℕ → Entry → Bool
wrong_at i e =
    not (eqb (slot_of e.stream_type e.«record») i)
    || (type_not_allowed (given true e.stream_type) e.stream_type e.«record»
    || (wrong_flags e.«record»
    || wrong_embedded e.stream_type e.«record» e.embedded))

-- 'each entry is 80 zeros, or else a layer of its place's index': of what is no layer, type and PID are 0, and the shape of its row says the rest
abbrev pub right_at : ℕ → Entry → Bool
right_at i e = cond (is_layer e.«record») (not (wrong_at i e)) (eqb e.stream_type 0 && eqb e.pid 0)

-- 'laid out as thq_read_loop lays it'
unfoldable pub same_numbers : List ℕ → List ℕ → Bool
same_numbers row other = every (λ k. eqb (get_or row k 0) (get_or other k 0)) 80

unfoldable pub row_right : ℕ → List ℕ → Bool
row_right i row = right_at i (entry_in row) && same_numbers row (row_of (entry_in row))

-- 'no two layers have the same PID': a lower row that is a layer has the PID of this one
abbrev pub layer_with : ℕ → ℕ → ℕ → Bool
layer_with kind pid other = not (eqb kind 0) && eqb pid other

unfoldable pub pid_again : List ℕ → ℕ → Bool
pid_again rows i = some (λ j. layer_with (get_or rows (j * 80 + 2) 0) (get_or rows (j * 80 + 1) 0) (get_or rows (i * 80 + 1) 0)) i

-- a row that is nothing has no PID
abbrev pub row_fine : List ℕ → ℕ → Bool
row_fine rows i = row_right i (row_at rows i) && not (not (eqb (get_or rows (i * 80 + 2) 0) 0) && pid_again rows i)

unfoldable pub rows_right : List ℕ → Bool
rows_right rows = every (row_fine rows) 64

unfoldable pub rows_hold : List ℕ → Bool
rows_hold rows = cond (eqb (length rows) 5120) (cond (some_too_wide rows) false (rows_right rows)) false

-- 'the stored numbers are what would be worked out afresh'
unfoldable pub stored_holds : Columns → List ℕ → Bool
stored_holds kept stored = eqb (length stored) 192 && every (λ k. eqb (get_or stored k 0) (number_of kept k)) 192

-- BUFFERS THAT HOLD A SET
abbrev pub holds_set : List ℕ → List ℕ → Bool
holds_set rows stored = rows_hold rows && stored_holds (stored_in (set_in rows)) stored
