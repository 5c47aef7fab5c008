-- The step by its tests, for fields that are read once: what the tests of the code say is what the definition has.
-- Assumes nothing.
use Prim.Native.Nat.{ℕ}
use mathlib.Core.Path.{◌≡◌, sym, ap₂, ◌∙◌}
use mathlib.Core.Bool.{Bool, cond}
use mathlib.Core.List.{List}
use Rattle.packets.specs.declared.Packet.{Packet}
use Rattle.packets.specs.Reading.{packet_of}
use Rattle.packets.specs.Judging.{is_skipped, payload_at, starts_clear, is_outside, is_scrambled}
use Rattle.continuity.specs.Following.{is_copy, is_gap, alone_of, is_there, step_of}
use Rattle.continuity.specs.declared.Step.{Step}
use Rattle.continuity.specs.declared.Step.TheVariants.{Skipped, Copy, Faulty, Starts, Continues}

abbrev alone_by : ℕ → Bool → Bool → Bool → Step
alone_by at outside scrambled starts = cond outside (Faulty 32) (cond scrambled (Faulty 33) (cond starts (Starts at) Continues))

pub alone_by_lem : (p : Packet) (packet : List ℕ) {outside scrambled starts : Bool}
    → is_outside p packet ≡ outside → is_scrambled p ≡ scrambled → starts_clear p ≡ starts
    → alone_of p packet ≡ alone_by (payload_at p) outside scrambled starts
alone_by_lem p packet o s t = λ i. alone_by (payload_at p) (o i) (s i) (t i)

abbrev step_by : Step → Bool → Bool → Bool → Bool → Step
step_by alone skipped there copy gap = cond skipped Skipped (cond there (cond copy Copy (cond gap (Faulty 31) alone)) alone)

-- the fields of the packet, and of the one before it, once they are known to be those
pub step_by_lem : (p q : Packet) (packet before : List ℕ) → p ≡ packet_of packet → q ≡ packet_of before
    → {skipped there copy gap : Bool} → is_skipped p ≡ skipped → is_there before ≡ there → is_copy p packet q before ≡ copy → is_gap p q ≡ gap
    → step_of before packet ≡ step_by (alone_of p packet) skipped there copy gap
step_by_lem p q packet before is-p is-q s t c g =
    sym (ap₂ (λ (x y : Packet). step_by (alone_of x packet) (is_skipped x) (is_there before) (is_copy x packet y before) (is_gap x y)) is-p is-q)
    ∙ (λ i. step_by (alone_of p packet) (s i) (t i) (c i) (g i))
