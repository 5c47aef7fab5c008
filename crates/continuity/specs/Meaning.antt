-- WHAT A PACKET ON A LAYER'S PID IS after the one before it on that PID, in the request's words. The laws that join this to the step are in
-- proofs/Meant.antt, both ways.
-- Assumes nothing.
use Rattle.std.specs.Prelude.{ℕ, ◌+◌, ◌%◌, ◌≤◌, ◌<◌, ◌≡◌, List, length, get_or}
use Rattle.packets.specs.Reading.{packet_bytes, in_header, pcr_at, pcr_end}
use Rattle.packets.specs.Meaning.{Skipped as IsSkipped, Payload, Discontinuity, HasPcr, Outside, Scrambled}
use Rattle.continuity.specs.declared.Step.{Step}
use Rattle.continuity.specs.declared.Step.TheVariants.{Skipped, Copy, Faulty, Starts, Continues}

-- 'The first packet on a PID has no predecessor': there are no 188 bytes of one.
abbrev pub There : List ℕ → Type 0
There before = length before ≡ packet_bytes

module _ (before packet : List ℕ) where
  -- a byte of the PCR, where both packets have one
  pub record OfPcr (i : ℕ) : Type 0 where
    pub here : HasPcr packet
    pub there : HasPcr before
    pub from : pcr_at ≤ i
    pub until : i < pcr_end

  -- 'A packet with payload that repeats the counter and all other bytes of its predecessor on that PID, the 6 bytes of the PCR aside where both have
  -- one, is a copy.'
  pub record IsCopy : Type 0 where
    pub there : There before
    pub at : ℕ
    pub payload : Payload packet at
    pub counter : in_header "continuity_counter" packet ≡ in_header "continuity_counter" before
    pub others : (i : ℕ) → i < packet_bytes → (OfPcr i → ⊥) → get_or packet i 0 ≡ get_or before i 0

  -- 'the counter moves by one, modulo 16, on packets with payload and stays on packets without'
  pub data Next : ℕ → Type 0 where
    moves : {at : ℕ} → Payload packet at → Next ((in_header "continuity_counter" before + 1) % 16)
    stays : ((at : ℕ) → Payload packet at → ⊥) → Next (in_header "continuity_counter" before)

  -- 31: 'anything else is 31 unless the packet's own adaptation field .. sets the discontinuity indicator'
  pub record Gap : Type 0 where
    pub there : There before
    pub other : Next (in_header "continuity_counter" packet) → ⊥
    pub unsaid : Discontinuity packet → ⊥

  -- A packet that is judged: it is neither skipped whole nor a copy, which is counted once and judged no further.
  pub record Judged : Type 0 where
    pub read : IsSkipped packet → ⊥
    pub first : IsCopy → ⊥

  -- 'A unit start': in a payload.
  pub record UnitStart (at : ℕ) : Type 0 where
    pub payload : Payload packet at
    pub starts : in_header "payload_unit_start_indicator" packet ≡ 1

  -- What the packet is: the lowest of 31 to 33 that applies, or else whether a unit starts in it.
  pub data Steps : Step → Type 0 where
    skipped : IsSkipped packet → Steps Skipped
    copy : (IsSkipped packet → ⊥) → IsCopy → Steps Copy
    gap : Judged → Gap → Steps (Faulty 31)
    outside : Judged → (Gap → ⊥) → Outside packet → Steps (Faulty 32)
    scrambled : Judged → (Gap → ⊥) → (Outside packet → ⊥) → Scrambled packet → Steps (Faulty 33)
    starts : {at : ℕ} → Judged → (Gap → ⊥) → (Outside packet → ⊥) → (Scrambled packet → ⊥) → UnitStart at → Steps (Starts at)
    continues : Judged → (Gap → ⊥) → (Outside packet → ⊥) → (Scrambled packet → ⊥) → ((at : ℕ) → UnitStart at → ⊥) → Steps Continues
