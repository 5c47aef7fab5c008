-- `recording_rows::lay_all` meets its contract: the numbers, and the columns beside them. Assumes nothing.
use Prim.Native.Nat.{ℕ}
use mathlib.Core.Path.{ap₂}
use mathlib.Core.List.{List}
use lib.ListN.{length}
use Rattle.recording_rows.specs.Columns.{columns, Beside}
use Rattle.recording_rows.proofs.Laying.{room_beside_lem}
use Rattle.recording_rows.proofs.lay_all.Goals as goal

pub lay-requires : goal.lay-requires
lay-requires c =
    let a = c.args in
    (room_beside_lem (length a.starts.now) a.indices.now a.decodings.now a.matches.now a.trefs.now a.numbers.now c.requires.0, c.requires.1)

pub returns : goal.returns
returns c =
    ap₂ (λ (b : Beside) (l : List ℕ). columns b.indices b.decodings b.matches b.trefs l) c.lay.ensures c.put_numbers.ensures
