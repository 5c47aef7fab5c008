-- `loops::lay_accepted` meets its contract: the rows where there is room for them.
-- Assumes nothing.
use Rattle.es_loop.specs.Answer.{entries_judged}
use Prim.Native.Nat.{ℕ, ◌*◌, ◌≤◌}
use mathlib.Core.Path.{◌≡◌, sym, ◌∙◌, ap}
use mathlib.Core.List.{List, map}
use lib.ListN.{length, length-map}
use Rattle.loop_entries.specs.declared.Entry.{Entry}
use Rattle.loop_entries.specs.Entries.{streams_of, entry_of}
use Rattle.thoquenry.proofs.Replies.{answers, buffers, counted, few_counted, no_room_for_rows, room_for_rows}
use native.Mathlib.Omega.{arith}
use Rattle.thoquenry.proofs.loops.lay_accepted.Goals as goal

pub overflow_mul-count : goal.overflow_mul-count
overflow_mul-count c =
    let a = c.args in
    omega (arith, few_counted a.reading a.bytes.now a.count a.pair c.requires)

pub returns-then-entries-count : goal.returns-then-entries-count
returns-then-entries-count c =
    let a = c.args in
    let given : List Entry = map entry_of (streams_of a.reading a.bytes.now) in
    let as_many : length given ≡ a.count = length-map (streams_of a.reading a.bytes.now) entry_of ∙ sym (counted a.reading a.bytes.now a.count a.pair c.requires) in
    let same = no_room_for_rows a.count given as_many a.entries.now c.if-entries-count.true in record {
      answer = c.refused.ensures ∙ answers same;
      content = buffers same;
    }

pub put_rows-requires : goal.put_rows-requires
put_rows-requires c =
    let a = c.args in
    let is-count = counted a.reading a.bytes.now a.count a.pair c.requires in
    let enough : a.count * 80 ≤ length a.entries.now = omega arith in record {
      bytes_value = c.requires ∙ ap (λ (n : ℕ). entries_judged n a.pair) is-count;
      bytes_in_bounds = rw (← is-count) enough;
    }

pub returns : goal.returns
returns c =
    let a = c.args in
    let given : List Entry = map entry_of (streams_of a.reading a.bytes.now) in
    let as_many : length given ≡ a.count = length-map (streams_of a.reading a.bytes.now) entry_of ∙ sym (counted a.reading a.bytes.now a.count a.pair c.requires) in
    let enough : a.count * 80 ≤ length a.entries.now = omega arith in
    let same = room_for_rows a.count given as_many a.entries.now enough in record {
      answer = c.accepted.ensures ∙ answers same;
      content = c.put_rows.ensures ∙ buffers same;
    }
