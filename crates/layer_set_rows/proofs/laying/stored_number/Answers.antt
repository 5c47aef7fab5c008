-- `stored_number` meets its contract: by the column of the place.
-- Assumes nothing.
use Prim.Native.Nat.{◌≤◌, ◌<◌, ◌-◌}
use mathlib.Core.Bool.{Bool, true, false}
use mathlib.Core.Path.{◌≡◌, refl}
use mir.Val.{bool_byte}
use lib.ListN.{get_or}
use Rattle.syntax.specs.Filled.{bit_of}
use native.Mathlib.Omega.{arith}
use borrow.Author.Tests.{lt-ltb, le-ltb}
use Rattle.layer_set_rows.proofs.laying.stored_number.Goals as goal

-- a flag is its bit
bit_made : (b : Bool) → bool_byte b ≡ bit_of b
bit_made false = refl
bit_made true = refl

pub returns-then-place-lt64 : goal.returns-then-place-lt64
returns-then-place-lt64 c =
    let a = c.args in
    rw (lt-ltb a.place 64 c.if-place-lt64.true) refl

pub returns-then-place-lt128 : goal.returns-then-place-lt128
returns-then-place-lt128 c =
    let a = c.args in
    let past : 64 ≤ a.place = omega arith in
    let inside : a.place < 128 = omega arith in
    rw (le-ltb a.place 64 past, lt-ltb a.place 128 inside, c.from.ensures) refl

pub returns : goal.returns
returns c =
    let a = c.args in
    let past : 64 ≤ a.place = omega arith in
    let beyond : 128 ≤ a.place = omega arith in
    rw (le-ltb a.place 64 past, le-ltb a.place 128 beyond, c.from-2.ensures) (bit_made (get_or a.kept.now.absents (a.place - 128) false))
