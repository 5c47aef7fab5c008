-- `times::thq_read_times` meets its contract: 17 first, and then the reader's answer.
-- Assumes nothing.
use Prim.Native.Nat.{ℕ}
use mathlib.Core.Path.{◌≡◌, refl, sym, ◌∙◌, ap}
use mathlib.Core.Bool.{Bool, true, false}
use mathlib.Core.List.{[], ◌∷◌}
use lib.ListN.{length-set}
use mir.Val.{bool_byte}
use Rattle.pes_reader.specs.Answer.{Answer}
use Rattle.pes_reader.specs.Reading.{read_of}
use Rattle.buffers.specs.Buffers.{over}
use Rattle.buffers.proofs.Laws.{sets_over}
use Rattle.thoquenry.specs.Times.{bit_of, times_read}
use Rattle.thoquenry.proofs.Replies.{answers, buffers, no_room, has_room}
use native.Mathlib.Omega.{arith}
use Rattle.thoquenry.proofs.times.thq_read_times.Goals as goal

-- what `u64::from` makes of a flag is its bit
bit_made : (b : Bool) → bool_byte b ≡ bit_of b
bit_made true = refl
bit_made false = refl

pub returns-then-times-lt5 : goal.returns-then-times-lt5
returns-then-times-lt5 c =
    let a = c.args in
    let same = no_room 5 a.times.now (times_read (read_of a.bytes.now) a.times.now) c.if-times-lt5.true in record {
      answer = c.refused.ensures ∙ answers same;
      content = buffers same;
    }

pub bounds-times-1 : goal.bounds-times-1
bounds-times-1 c = simp length-set (omega arith)

pub bounds-times-2 : goal.bounds-times-2
bounds-times-2 c = simp length-set (omega arith)

pub bounds-times-3 : goal.bounds-times-3
bounds-times-3 c = simp length-set (omega arith)

pub returns-in-Ok : goal.returns-in-Ok
returns-in-Ok c =
    let a = c.args in
    let room = c.if-times-lt5.false in
    let same =
    ap (λ (r : Answer). times_read r a.times.now) (sym c.in-Ok.is ∙ c.read-read.ensures)
    ∙ has_room 5 a.times.now (times_read (read_of a.bytes.now) a.times.now) room in
    let header = c.in-Ok.header in record {
      answer = c.accepted.ensures ∙ answers same;
      content = sets_over (header.times.pts ∷ header.times.decoding ∷ header.times.matching ∷ c.from.result ∷ header.end ∷ []) a.times.now room
          ∙ ap (λ (sent : ℕ). over (header.times.pts ∷ header.times.decoding ∷ header.times.matching ∷ sent ∷ header.end ∷ []) a.times.now) (c.from.ensures ∙ bit_made header.tref_sent)
          ∙ buffers same;
    }

pub returns-in-Err : goal.returns-in-Err
returns-in-Err c =
    let a = c.args in
    let same =
    ap (λ (r : Answer). times_read r a.times.now) (sym c.in-Err.is ∙ c.read-read.ensures)
    ∙ has_room 5 a.times.now (times_read (read_of a.bytes.now) a.times.now) c.if-times-lt5.false in record {
      answer = c.refused-in-Err.ensures ∙ answers same;
      content = buffers same;
    }
