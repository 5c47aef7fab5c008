-- `loop_outlines::read_outline` meets its contract: at bytes, the head's values are those that the code takes, and what is found is what is seen.
-- Assumes nothing.
use Prim.Native.Nat.{ℕ, ◌-◌}
use mathlib.Core.Path.{sym, ◌∙◌, ap, ap₂}
use mathlib.Core.Bool.{Bool, cond}
use mathlib.Core.List.{List}
use native.Mathlib.Omega.{arith}
use lib.ListN.{length, get_or, take, drop}
use Rattle.combinators.specs.Lists.{part_to_end}
use Rattle.descriptors.specs.Looking.{seen_of, nothing_seen}
use Rattle.loop_entries.specs.declared.Stream.{Stream}
use Rattle.loop_entries.specs.Entries.{seen_in, marked_stream}
use Rattle.loop_entries.proofs.Heads.{stream_bytes}
use Rattle.loop_outlines.specs.Outlines.{outline_of}
use Rattle.loop_outlines.proofs.Outlined.{outline_with, outlined}
use Rattle.loop_outlines.proofs.read_outline.Goals as goal

pub wrong_found-wrong_embedded-requires : goal.wrong_found-wrong_embedded-requires
wrong_found-wrong_embedded-requires c = c.find_records-found.ensures.1

pub returns : goal.returns
returns c =
    let a = c.args in
    let entry : List ℕ = a.entry.now in
    let part : List ℕ = take (length entry - 5) (drop 5 entry) in
    let type : ℕ = get_or entry 0 0 in
    let found = c.find_records-found in
    let wrong = c.wrong_found-wrong_embedded in
    let pid = c.elementary_pid-pid in
    let knows = c.requires.1 in
    let seen = found.ensures.0 ∙ sym (ap (λ (b : Bool). cond b (seen_of a.reading part) nothing_seen) knows) in
    outlined a.pair type pid.result part found.result (seen_in a.reading type part) seen c.mark.result c.mark.ensures wrong.result
    wrong.ensures
    ∙ ap₂ (λ (info : List ℕ) (n : ℕ). outline_with a.pair type n (seen_in a.reading type info)) (part_to_end entry 5) pid.ensures
    ∙ ap (λ (s : Stream). outline_of (marked_stream a.pair s))
    (stream_bytes a.reading entry (λ i. omega (arith, c.shared_slice_known-4-1.given i)))
