-- `recordings::room_for` meets its contract: the least of six. Assumes nothing.
use Prim.Native.Nat.{min}
use mathlib.Core.Path.{ap, ◌∙◌}
use Rattle.recordings.proofs.room_for.Goals as goal

pub returns : goal.returns
returns c =
    let a = c.args in
    c.min-5.ensures
    ∙ ap (min a.starts)
    (c.min-4.ensures
    ∙ ap (min a.indices)
    (c.min-3.ensures
    ∙ ap (min a.decodings) (c.min-2.ensures ∙ ap (min a.matches) c.min.ensures)))
