-- The parts of a line, by what the code tests.
-- Assumes nothing.
use Prim.Native.Nat.{ℕ}
use mathlib.Core.Bool.{Bool, true, false}
use mathlib.Core.List.{List, ◌++◌}
use mathlib.Core.Path.{◌≡◌, sym, ap, ◌∙◌}
use native.Mathlib.Omega.{arith}
use borrow.Author.Tests.{eq-eqb, ne_eqb, lt-ltb, le-ltb}
use lib.ListN.{length}
use Rattle.text.specs.Text.{ascii}
use Rattle.listing.specs.Lines.{labelled}
use Rattle.operation_points.specs.Values.{constant, frame_rate_of, bit_rate_of}
use Rattle.point_lines.specs.Lines.{frame_text, rate_text, closed_text, members_text, streams_text}

module _ (idc indicator : ℕ) where
  pub no_frame_rate : idc ≡ 0 → ascii " frame_rate none" ≡ frame_text (frame_rate_of idc indicator)
  no_frame_rate nothing = sym (rw (le-ltb 0 idc (omega arith)))

  there : (idc ≡ 0 → ⊥) → constant idc indicator ≡ frame_rate_of idc indicator
  there some = sym (rw (lt-ltb 0 idc (omega arith)))

  pub ticks : (idc ≡ 0 → ⊥) → idc ≡ 1 → labelled (ascii " frame_ticks ") indicator ≡ frame_text (frame_rate_of idc indicator)
  ticks some one = sym (rw (eq-eqb idc 1 one)) ∙ ap frame_text (there some)

  pub a_second : (idc ≡ 0 → ⊥) → (idc ≡ 1 → ⊥) → idc ≡ 2 → labelled (ascii " frame_rate ") indicator ≡ frame_text (frame_rate_of idc indicator)
  a_second some not-one two = sym (rw (ne_eqb idc 1 not-one, eq-eqb idc 2 two)) ∙ ap frame_text (there some)

  pub a_longer_second : (idc ≡ 0 → ⊥) → (idc ≡ 1 → ⊥) → (idc ≡ 2 → ⊥)
      → labelled (ascii " frame_rate ") indicator ++ ascii "/1.001" ≡ frame_text (frame_rate_of idc indicator)
  a_longer_second some not-one not-two = sym (rw (ne_eqb idc 1 not-one, ne_eqb idc 2 not-two)) ∙ ap frame_text (there some)

module _ (label : List ℕ) (number : ℕ) (flag : Bool) where
  pub a_rate : flag ≡ true → labelled label number ≡ rate_text label (bit_rate_of flag number)
  a_rate some = sym (rw some)

  pub no_rate : flag ≡ false → label ++ ascii "none" ≡ rate_text label (bit_rate_of flag number)
  no_rate nothing = sym (rw nothing)

pub told_closed : (flag : Bool) → flag ≡ true → ascii " closed yes" ≡ closed_text flag
told_closed flag is = sym (ap closed_text is)

pub told_open : (flag : Bool) → flag ≡ false → ascii " closed no" ≡ closed_text flag
told_open flag is = sym (ap closed_text is)

module _ (streams : List ℕ) where
  pub no_streams : length streams ≡ 0 → ascii " streams none" ≡ streams_text streams
  no_streams empty = sym (rw (eq-eqb (length streams) 0 empty))

  pub some_streams : (length streams ≡ 0 → ⊥) → ascii " streams" ++ members_text streams ≡ streams_text streams
  some_streams some = sym (rw (ne_eqb (length streams) 0 some))
