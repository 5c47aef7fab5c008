-- `loop_entries::read_layer` meets its contract: the stream type is the first byte, and the mark comes with its names.
-- Assumes nothing.
use Prim.Native.Nat.{ℕ}
use mathlib.Core.Path.{◌∙◌, ap}
use mathlib.Core.List.{List}
use native.Mathlib.Omega.{arith}
use lib.ListN.{get_or, drop}
use Rattle.combinators.specs.Lists.{part_to_end}
use Rattle.descriptors.specs.Finding.{named_by}
use Rattle.implied.specs.Marking.{marked_named}
use Rattle.implied.proofs.Marks.{named_marked}
use Rattle.loop_entries.specs.declared.Stream.{Stream}
use Rattle.loop_entries.specs.Entries.{seen_in, marked_stream, named_of}
use Rattle.loop_entries.proofs.Heads.{stream_bytes}
use Rattle.loop_entries.proofs.read_layer.Goals as goal

pub returns : goal.returns
returns c =
    let a = c.args in
    let entry = a.entry.now in
    let t : ℕ = get_or entry 0 0 in
    c.mark_named.ensures
    ∙ ap (marked_named a.pair t) (c.name_in.ensures ∙ ap (λ (l : List ℕ). named_by t (seen_in a.reading t l)) (part_to_end entry 5))
    ∙ named_marked a.pair t (seen_in a.reading t (drop 5 entry))
    ∙ ap (λ (s : Stream). named_of (marked_stream a.pair s)) (stream_bytes a.reading entry (λ i. omega (arith, c.shared_slice_known-2-1.given i)))
