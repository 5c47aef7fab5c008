-- `clock::lag` meets its contract: the test of the distance picks the case of the definition, and both cases fit an i64.
-- Assumes nothing.
use Rattle.std.proofs.Common.{◌≡◌, ℕ, ◌<◌, Bool, ltb, pos, ◌-ℤ◌, sym, ap, ◌∙◌, arith, w64, SFits, le-ltb, lt-ltb}
use mir.ValLaws.{to_z_pos, to_z-of_z}
use Rattle.clock.specs.Clock.{ticks, half, signed}
use Rattle.clock.proofs.Laws.{one_turn_less}
use Rattle.clock.proofs.lag.Goals as goal

-- the case of the definition, by the test of a number d that is the distance
case-of : {d distance : ℕ} (t : Bool) → ltb d half ≡ t → d ≡ distance → signed t d ≡ signed (ltb distance half) distance
case-of {d} t test e = ap (λ (t : Bool). signed t d) (sym test) ∙ ap (λ (d : ℕ). signed (ltb d half) d) e

-- a distance less one turn fits
fits : (d : ℕ) → d < ticks → SFits w64 (pos d -ℤ pos ticks)
fits d h = rw (one_turn_less d h) record { sfits = omega arith }

pub returns-then-ahead-lt-HALF : goal.returns-then-ahead-lt-HALF
returns-then-ahead-lt-HALF c =
    let d = c.distance-ahead.result in
    to_z_pos w64 d (omega arith) ∙ case-of _ (lt-ltb d half c.if-ahead-lt-HALF.true) c.distance-ahead.ensures

pub overflow_sub-result : goal.overflow_sub-result
overflow_sub-result c =
    let d = c.distance-ahead.result in
    rw (to_z_pos w64 d (omega arith)) (fits d (omega arith))

pub returns : goal.returns
returns c =
    let d = c.distance-ahead.result in
    rw (to_z_pos w64 d (omega arith))
    (to_z-of_z w64 (pos d -ℤ pos ticks) (fits d (omega arith)) ∙ case-of _ (le-ltb d half c.if-ahead-lt-HALF.false) c.distance-ahead.ensures)
