-- `stamps::prefixed_by` meets its contract: the prefix is the upper half of the first byte, and the rest is an unprefixed time.
-- Assumes nothing.
use Prim.Native.Nat.{◌/◌}
use mathlib.Core.Path.{ap, ap₂, ◌∙◌}
use mathlib.Core.Bool.{◌&&◌}
use lib.Dec.{eqb}
use lib.ListN.{get_or}
use Rattle.stamps.proofs.StampLaws.{stamp, prefix_of_bytes}
use Rattle.stamps.specs.declared.Stamp.{Stamp}
use Rattle.stamps.proofs.prefixed_by.Goals as goal

pub returns : goal.returns
returns c =
    let a = c.args in
    let e = c.unprefixed-stamp.ensures in
    let l = a.field.now in
    ap₂ stamp
    (ap (λ (s : Stamp). eqb (get_or l 0 0 / 16) a.prefix && s.marked) e
    ∙ prefix_of_bytes l (λ i. (c.shared_slice_known-2-1.given i).fits) a.prefix)
    (ap (λ (s : Stamp). s.time) e)
