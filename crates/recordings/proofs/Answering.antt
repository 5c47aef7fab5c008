-- The answer for a recording by its tests.
-- Assumes nothing.
use Rattle.std.specs.Prelude.{Err, Ok}
use Prim.Native.Nat.{ℕ}
use mathlib.Core.Path.{◌≡◌}
use mathlib.Core.Bool.{Bool, cond}
use lib.Dec.{ltb}
use Rattle.unit_starts.specs.declared.Found.{Found}
use Rattle.recordings.specs.Reading.{fault_of, header_refusal, answer_of}
use Rattle.recordings.specs.Answer.{Recording}
use Rattle.recordings.specs.declared.RecordingFault.TheVariants.{Faulty, NotRead, TooManyRows}

abbrev answer_by : Found → Bool → Bool → Bool → Recording
answer_by f faulty refused many =
    cond faulty (Err (Faulty (fault_of f.fault.number f.fault.packet)))
    (cond refused (Err (NotRead (header_refusal f.refusal.number) f.refusal.packet)) (cond many (Err TooManyRows) (Ok f.rows)))

pub answer_by_lem : (f : Found) (room : ℕ) {faulty refused many : Bool} → ltb f.fault.number 34 ≡ faulty → ltb f.refusal.number 25 ≡ refused
    → ltb room f.rows ≡ many → answer_of f room ≡ answer_by f faulty refused many
answer_by_lem f room a b c = λ i. answer_by f (a i) (b i) (c i)
