-- A packet on a layer's PID after the one before it on that PID: whether it is a copy of that one, whether its counter is the one that follows, and what
-- it is then judged for by itself. Bytes that are not as many as a packet has stand for no packet before it.
-- Assumes nothing.
use Rattle.std.specs.Prelude.{ℕ, ◌+◌, ◌%◌, Bool, cond, not, ◌&&◌, List, eqb, ltb, length, get_or, take, drop}
use Rattle.combinators.specs.Below.{count}
use Rattle.packets.specs.declared.Packet.{Packet}
use Rattle.packets.specs.Reading.{packet_bytes, pcr_at, pcr_end, packet_of}
use Rattle.packets.specs.Judging.{is_skipped, with_payload, payload_at, starts_clear, is_outside, is_scrambled}
use Rattle.continuity.specs.declared.Step.{Step}
use Rattle.continuity.specs.declared.Step.TheVariants.{Skipped, Copy, Faulty, Starts, Continues}

-- at how many places two lists differ, and whether at none
abbrev pub differs : List ℕ → List ℕ → ℕ → Bool
differs a b i = not (eqb (get_or a i 0) (get_or b i 0))

abbrev pub difference_of : ℕ → ℕ → ℕ
difference_of one other = cond (eqb one other) 0 1

abbrev pub same_bytes : List ℕ → List ℕ → Bool
same_bytes a b = eqb (count (differs a b) (length a)) 0

-- the same bytes, those of the PCR aside where both have one
abbrev pub repeats : Bool → List ℕ → List ℕ → Bool
repeats pcrs packet before =
    cond pcrs (same_bytes (take pcr_at packet) (take pcr_at before) && same_bytes (drop pcr_end packet) (drop pcr_end before)) (same_bytes packet before)

-- 'A packet with payload that repeats the counter and all other bytes of its predecessor on that PID'
abbrev pub is_copy : Packet → List ℕ → Packet → List ℕ → Bool
is_copy p packet q before =
    with_payload p
    && eqb p.continuity_counter q.continuity_counter
    && repeats (p.adaptation.has_pcr && q.adaptation.has_pcr) packet before

-- 'the counter moves by one, modulo 16, on packets with payload and stays on packets without'
abbrev pub next_counter : Packet → ℕ → ℕ
next_counter p counter = cond (with_payload p) ((counter + 1) % 16) counter

-- 31: 'counter gap without a discontinuity indicator'
abbrev pub is_gap : Packet → Packet → Bool
is_gap p q = not (eqb p.continuity_counter (next_counter p q.continuity_counter)) && not p.adaptation.discontinuity_indicator

-- what a packet that is neither skipped nor a copy nor after a gap is judged for: 32, then 33; else whether a unit starts in it
abbrev pub alone_of : Packet → List ℕ → Step
alone_of p packet =
    cond (is_outside p packet) (Faulty 32)
    (cond (is_scrambled p) (Faulty 33)
    (cond (starts_clear p) (Starts (payload_at p)) Continues))

-- the same after a packet before it
abbrev pub after_of : Packet → List ℕ → Packet → List ℕ → Step
after_of p packet q before = cond (is_copy p packet q before) Copy (cond (is_gap p q) (Faulty 31) (alone_of p packet))

-- whether there is a packet before it
abbrev pub is_there : List ℕ → Bool
is_there before = eqb (length before) packet_bytes

-- THE STEP, whatever stands before the packet.
abbrev pub step_of : List ℕ → List ℕ → Step
step_of before packet =
    cond (is_skipped (packet_of packet)) Skipped
    (cond (is_there before) (after_of (packet_of packet) packet (packet_of before) before) (alone_of (packet_of packet) packet))

-- The fourth byte of an ordinary packet after one with a fourth byte: not scrambled, a payload and no adaptation field, and the next counter.
abbrev pub ordinary_fourth : ℕ → ℕ
ordinary_fourth before = 16 + (before % 16 + 1) % 16

-- An ordinary packet after another, by its second and fourth byte and the fourth byte of the one before it: it has no error bit and no unit start either. Its step is
-- that it continues (proofs/Ordinary.antt).
abbrev pub ordinary_after : ℕ → ℕ → ℕ → Bool
ordinary_after second fourth before = ltb second 64 && eqb fourth (ordinary_fourth before)
