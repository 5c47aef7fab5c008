-- `stamps::unprefixed` meets its contract: the markers and the time, read off the lent bytes, are those that the table reads off
-- their number. Assumes nothing.
use mathlib.Core.Path.{ap₂, ◌∙◌}
use Rattle.stamps.proofs.StampLaws.{stamp, markers_of_bytes, time_of_bytes}
use Rattle.stamps.proofs.unprefixed.Goals as goal

pub returns : goal.returns
returns c =
    let l = c.args.field.now in
    ap₂ stamp (markers_of_bytes l (λ i. (c.shared_slice_known-9-1.given i).fits)) (c.joined.ensures ∙ time_of_bytes l (λ i. (c.shared_slice_known-9-1.given i).fits))
