-- `writer::write_set` meets its contract: the outcome of the set, then the room.
-- Assumes nothing.
use mathlib.Core.Path.{◌≡◌, ◌∙◌, ap, sym}
use mathlib.Core.List.{List, map}
use Rattle.std.proofs.lemmas.Result.{err_from_is_err_and}
use Rattle.loop_entries.specs.declared.Entry.{Entry}
use Rattle.entry_rows.specs.Rows.{row_count, entries_below}
use Rattle.stereo_set.specs.declared.set.StereoRead.{StereoRead}
use Rattle.stereo_set.specs.Set.{set_by}
use Rattle.stereo_set.proofs.Kept.{kept_set}
use Rattle.stereo_writer.specs.Layout.{view_for}
use Rattle.stereo_writer.specs.Writing.{set_for}
use Rattle.stereo_writer.proofs.Decided.{set_refused, no_room, all_written}
use Rattle.stereo_writer.proofs.writer.write_set.Goals as goal

pub returns-then-out-size : goal.returns-then-out-size
returns-then-out-size c =
    let a = c.args in
    let entries : List Entry = entries_below a.numbers.now (row_count a.numbers.now) in
    let is_set : set_for a.base a.second entries ≡ c.set_of-set.result =
    sym (c.set_of-set.ensures ∙ ap set_by c.layers_in.ensures ∙ kept_set (map (view_for a.base a.second) entries)) in
    let is-outcome = ap (λ (r : StereoRead). r.outcome) is_set ∙ c.in_ok-set.was in
    no_room a.base a.second entries a.out.now is-outcome a.size (c.requires.as_long is-outcome) c.if-out-size.true

pub returns-in_err-set : goal.returns-in_err-set
returns-in_err-set c =
    let a = c.args in
    let entries : List Entry = entries_below a.numbers.now (row_count a.numbers.now) in
    let is_set : set_for a.base a.second entries ≡ c.set_of-set.result =
    sym (c.set_of-set.ensures ∙ ap set_by c.layers_in.ensures ∙ kept_set (map (view_for a.base a.second) entries)) in
    let is-outcome = ap (λ (r : StereoRead). r.outcome) is_set ∙ c.in_err-set.was in
    let p = err_from_is_err_and c.from_residual.result c.from_residual.ensures.1 in
    rw (p.1, p.2) (set_refused a.base a.second entries a.out.now _ is-outcome)

pub returns : goal.returns
returns c =
    let a = c.args in
    let entries : List Entry = entries_below a.numbers.now (row_count a.numbers.now) in
    let is_set : set_for a.base a.second entries ≡ c.set_of-set.result =
    sym (c.set_of-set.ensures ∙ ap set_by c.layers_in.ensures ∙ kept_set (map (view_for a.base a.second) entries)) in
    let is-outcome = ap (λ (r : StereoRead). r.outcome) is_set ∙ c.in_ok-set.was in
    all_written a.base a.second entries a.out.now is-outcome a.size (c.requires.as_long is-outcome) c.if-out-size.false c.put_stereo_entries.ensures
