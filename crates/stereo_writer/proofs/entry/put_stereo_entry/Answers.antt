-- `entry::put_stereo_entry` meets its contract: the head, with the size of both descriptors in it, and the two.
-- Assumes nothing.
use Prim.Native.Nat.{ℕ, ◌+◌, ◌≤◌}
use mathlib.Core.Path.{◌≡◌, ◌∙◌, ap, ap₂, sym}
use mathlib.Core.Bool.{Bool, true, false, cond}
use mathlib.Core.List.{[], ◌∷◌}
use native.Mathlib.Omega.{arith}
use lib.ListN.{length, length-append}
use Rattle.combinators.specs.Lists.{gather}
use Rattle.syntax.specs.Table.{write_table}
use Rattle.syntax.specs.Filled.{bytes_in}
use Rattle.records.specs.Records.{record_tables}
use Rattle.loop_entries.specs.declared.Entry.{Entry}
use Rattle.loop_entries.specs.Entries.{entry_head}
use Rattle.loop_writer.proofs.Entries.{record_fit, pid_small}
use Rattle.buffers.proofs.Laws.{laid_then, laid_as}
use Rattle.stereo_writer.specs.Layout.{is_part, extra_size, extra_tables, stereo_info}
use Rattle.stereo_writer.proofs.Sizes.{extra_size_lem}
use Rattle.stereo_writer.proofs.entry.put_stereo_entry.Goals as goal

extra-small : (e : Entry) → extra_size e ≤ 10
extra-small e = go (is_part e)
  where
    go : (b : Bool) → cond b 10 0 ≤ 10
    go true = omega arith
    go false = omega arith

pub record_size-requires : goal.record_size-requires
record_size-requires c = record_fit c.args.entry c.requires.2

pub overflow_add-info_length : goal.overflow_add-info_length
overflow_add-info_length c =
    let small = c.record_size.ensures.1 in
    let extra = extra-small c.args.entry in
    let same = c.extra_size.ensures in
    omega arith

pub overflow_cast-info_length : goal.overflow_cast-info_length
overflow_cast-info_length c =
    let small = c.record_size.ensures.1 in
    let extra = extra-small c.args.entry in
    let same = c.extra_size.ensures in
    omega arith

pub entry_head-head-requires : goal.entry_head-head-requires
entry_head-head-requires c =
    let small = c.record_size.ensures.1 in
    let extra = extra-small c.args.entry in
    let same = c.extra_size.ensures in
    (pid_small c.args.entry c.requires.2, omega arith)

pub put_record-behind-requires : goal.put_record-behind-requires
put_record-behind-requires c = record_fit c.args.entry c.requires.2

pub put_extra-requires : goal.put_extra-requires
put_extra-requires c = (c.requires.0, c.requires.1)

pub returns : goal.returns
returns c =
    let a = c.args in
    let e = a.entry in
    let long : c.record_size.result + c.extra_size.result ≡ length (stereo_info a.base a.second e) =
    ap₂ ◌+◌ c.record_size.ensures.0 (c.extra_size.ensures ∙ sym (extra_size_lem a.base a.second e))
    ∙ sym (length-append (gather bytes_in (record_tables e.«record» e.embedded)) (gather bytes_in (extra_tables a.base a.second e))) in
    laid_then
    (laid_as (c.entry_head-head.ensures ∙ ap (λ (n : ℕ). write_table entry_head (e.stream_type ∷ e.pid ∷ n ∷ [])) long) c.put-next.ensures)
    (laid_then c.put_record-behind.ensures c.put_extra.ensures)
