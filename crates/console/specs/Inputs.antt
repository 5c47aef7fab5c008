-- What an input came to, and what looks like a recording.
-- Assumes nothing.
use Rattle.std.specs.Prelude.{ℕ, ◌+◌, ◌-◌, ◌*◌, ◌/◌, Bool, ◌&&◌, not, List, eqb, ltb, get_or, length, Result, IfOk}
use Rattle.combinators.specs.Below.{every}
use Rattle.io.specs.Counts.{IsPrefixLen}

-- the bytes that were read stand at the start of the buffer; of a read that failed nothing is said
abbrev pub Counted : {E : Type 0} → Result ℕ E → List ℕ → Type 0
Counted read buffer = IfOk read (λ count. IsPrefixLen count buffer)

-- A packet of a transport stream has 188 bytes, of which the first is sync_byte, 0x47.
abbrev pub starts_packet : List ℕ → ℕ → Bool
starts_packet bytes k = eqb (get_or bytes (k * 188) 0) 0x47

-- the packets in these bytes, the last of them perhaps cut short
abbrev pub packets_in : List ℕ → ℕ
packets_in bytes = (length bytes - 1) / 188 + 1

abbrev pub looks_like_packets : List ℕ → Bool
looks_like_packets bytes = not (ltb (length bytes) 188) && every (starts_packet bytes) (packets_in bytes)
