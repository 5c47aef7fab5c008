-- Every place and every count that these functions tell fits in the 56 bits that an answer has for it: a table has at most 2^48 rows.
-- Assumes nothing.
use Rattle.std.specs.Prelude.{Err, Ok}
use Rattle.join_answers.specs.Answer.{joined_units, Joined}
use Prim.Native.Nat.{ℕ, ◌≤◌, ◌<◌, ◌^◌}
use mathlib.Core.List.{List, [], ◌∷◌}
use native.Mathlib.Omega.{arith}
use lib.Dec.{ltb}
use Rattle.combinators.specs.Below.{count_short}
use Rattle.combinators.proofs.Seeking.{seek_first}
use Rattle.vocabulary.specs.declared.stream_types.Reading.{Reading}
use Rattle.vocabulary.specs.declared.refusal.Refusal.TheVariants.{OutOfRange, TimeOrderBroken, Unpaired, UsedTwice, SpanTooWide, NoRoom}
use Rattle.vocabulary.specs.Refusals.{place_of}
use Rattle.closure.specs.declared.Layers.{Layers}
use Rattle.closure.specs.Answer.{Closure}
use Rattle.closure.specs.Closures.{closure_of}
use Rattle.es_loop.specs.Answer.{Outcome}
use Rattle.es_loop.specs.Reading.{loop_read}
use Rattle.rows.specs.Verdicts.{Verdict}
use Rattle.rows.specs.Table.{Table, rows_in, most_rows, wrong_shape, out_of_range, first_out_of_range, breaks_order, first_broken}
use Rattle.rows.proofs.Verdicts.{shape_short}
use Rattle.spans.specs.Spans.{is_closure_row, wide_span}
use Rattle.heads.specs.Units.{Frame, unpaired, shares, first_unpaired, first_shared, units_in}
use Rattle.join_answers.specs.Joining.{frame_of, closure_rows, Room, too_small, units_joined, joined_by, table_joined, joined_in, joined_of, longest_table, most_long}
use Rattle.importing.specs.Importing.{layers_read, import_for, import_of}
use Rattle.combinators.specs.Bools.{either_way, or_else}
use Rattle.thoquenry.specs.Bounds.{SmallOutcome, SmallClosure, small_closure_of, small_loop}

-- a table that is joined in lent work space has no more rows than can be told
pub most_short : (places : List ℕ) → most_long places ≤ longest_table
most_short [] = omega arith
most_short (first ∷ places) = let h = most_short places in omega arith

abbrev pub Few : Joined → Type 0
Few (Ok joined) = joined.rows < 2 ^ 56
Few (Err refusal) = place_of refusal < 2 ^ 56

few_units : (t : Table) (f : Frame) (room : Room) → rows_in t ≤ 2 ^ 48 → Few (units_joined t f room)
few_units t f room h =
    let first = (seek_first (unpaired t f) (rows_in t)).within in
    let second = (seek_first (shares t f) (rows_in t)).within in
    either_way Few (ltb (first_unpaired t f) (rows_in t)) (Err (Unpaired (first_unpaired t f))) _ (omega arith)
    (either_way Few (ltb (first_shared t f) (rows_in t)) (Err (UsedTwice (first_shared t f))) _ (omega arith)
    (either_way Few (wide_span t f.closure) (Err SpanTooWide) _ (omega arith)
    (either_way Few (too_small room (closure_rows t f.closure)) (Err NoRoom) (joined_units f.closure (units_in t f) (closure_rows t f.closure)) (omega arith)
    (omega (arith, count_short (is_closure_row t f.closure) (rows_in t))))))

module _ (most : ℕ) (few_rows : most ≤ 2 ^ 48) where
  few_table : (layers : Layers) (t : Table) (closure : ℕ) (room : Room) → Few (table_joined most layers t closure room)
  few_table layers t closure room =
      or_else OfTable (wrong_shape most t) (Err (OutOfRange 0)) _ (omega arith) (λ shape.
      let first = (seek_first (out_of_range t) (rows_in t)).within in
      let second = (seek_first (breaks_order t closure) (rows_in t)).within in
      let short = shape_short most t shape in
      either_way OfTable (ltb (first_out_of_range t) (rows_in t)) (Err (OutOfRange (first_out_of_range t))) _ (omega arith)
      (either_way OfTable (ltb (first_broken t closure) (rows_in t)) (Err (TimeOrderBroken (first_broken t closure))) (Ok tt) (omega arith)
      (few_units t (frame_of layers closure t) room (omega arith))))
    where
      OfTable : Verdict → Type 0
      OfTable v = Few (joined_by (units_joined t (frame_of layers closure t) room) v)

  few_closure : (layers : Layers) (t : Table) (room : Room) (c : Closure) → SmallClosure c → Few (joined_in most layers t room c)
  few_closure layers t room (Ok closure) h = few_table layers t closure room
  few_closure layers t room (Err refusal) h = omega arith

  pub few_joined : (layers : Layers) (target : ℕ) (t : Table) (room : Room) → Few (joined_of most layers target t room)
  few_joined layers target t room = few_closure layers t room (closure_of layers target) (small_closure_of layers target)

few_import : (o : Outcome) (layers : Layers) (target : ℕ) (t : Table) (room : Room) → SmallOutcome o → Few (import_for o layers target t room)
few_import (Ok tt) layers target t room h = few_joined most_rows (omega arith) layers target t room
few_import (Err refusal) layers target t room h = omega arith

pub few_imported : (reading : Reading) (bytes : List ℕ) (target : ℕ) (t : Table) (room : Room) → Few (import_of reading bytes target t room)
few_imported reading bytes target t room =
    few_import (loop_read reading bytes).outcome (layers_read (loop_read reading bytes)) target t room (small_loop reading bytes).0
