-- What each packet of a recording gives, given for each layer the last packet before it on that layer's PID.
-- Assumes nothing.
use Rattle.std.specs.Prelude.{ℕ, suc, ◌+◌, ◌-◌, ◌*◌, ◌≤◌, ◌<◌, ◌≡◌, Bool, true, cond, ◌&&◌, List, [], ◌∷◌, eqb, ltb, length, get_or, set, take, drop, replicate, Err, Ok}
use Rattle.framing.specs.Pieces.{Item, whole, broken, cut}
use Rattle.pes_reader.specs.Answer.{Answer}
use Rattle.pes_reader.specs.Reading.{read_of}
use Rattle.packets.specs.Reading.{packet_bytes, in_header, packet_of}
use Rattle.packets.specs.Judging.{lost_sync}
use Rattle.continuity.specs.declared.Step.{Step}
use Rattle.continuity.specs.declared.Step.TheVariants.{Skipped, Copy, Faulty, Starts, Continues}
use Rattle.continuity.specs.Following.{step_of, ordinary_fourth}
use Rattle.scanning.specs.declared.events.Event.{Event}
use Rattle.scanning.specs.declared.events.Event.TheVariants.{Nothing, Fault, NotRead, Unit}

-- 'steps stay at 188': a recording cut into packets, and into a last part of one where bytes are left over
abbrev pub packets_in : List ℕ → List Item
packets_in bytes = cut packet_bytes (λ head. 0) bytes

-- the layer indices, and the layer of a PID as the lent table has it, one byte for each PID; what is no index stands for none
abbrev pub layers : ℕ
layers = 64

abbrev pub layer_of : List ℕ → List ℕ → ℕ
layer_of table packet = get_or table (in_header "PID" packet) 0

abbrev pub on_layer : List ℕ → List ℕ → Bool
on_layer table packet = ltb (layer_of table packet) layers

-- for each layer the last packet on its PID, none yet
abbrev pub none_yet : List (List ℕ)
none_yet = replicate layers []

-- 'skipped whole: no counter, no predecessor'; every other packet is the predecessor of the next
abbrev pub last_by : {A : Type 0} → Step → A → A → A
last_by Skipped last packet = last
last_by Copy last packet = packet
last_by (Faulty number) last packet = packet
last_by (Starts at) last packet = packet
last_by Continues last packet = packet

-- a row: layer index, decoding time, match time, whether a TREF was sent, the packet's number; or why the PES header is refused
abbrev pub header_event : ℕ → ℕ → Answer → Event
header_event layer packet (Ok header) =
    Unit
    (record {
      layer = layer;
      decoding = header.times.decoding;
      matching = header.times.matching;
      tref_sent = header.tref_sent;
      packet = packet;
    })
header_event layer packet (Err refusal) = NotRead refusal

abbrev pub step_event : ℕ → ℕ → List ℕ → Step → Event
step_event layer k packet Skipped = Nothing
step_event layer k packet Copy = Nothing
step_event layer k packet (Faulty number) = Fault number
step_event layer k packet (Starts at) = header_event layer k (read_of (drop at packet))
step_event layer k packet Continues = Nothing

-- where a PES header starts, if one does
abbrev pub start_in : Step → ℕ
start_in Skipped = 0
start_in Copy = 0
start_in (Faulty number) = 0
start_in (Starts at) = at
start_in Continues = 0

module _ (table : List ℕ) where
  -- the step of a packet on its layer's PID
  abbrev pub step_in : List (List ℕ) → List ℕ → Step
  step_in lasts packet = step_of (get_or lasts (layer_of table packet) []) packet

  -- WHAT A PACKET GIVES. 30 is judged on each; on a layer's PID all else. A last part of a packet gives 30.
  abbrev pub packet_event : ℕ → List ℕ → List (List ℕ) → Event
  packet_event k packet lasts =
      cond (lost_sync (packet_of packet)) (Fault 30)
      (cond (on_layer table packet) (step_event (layer_of table packet) k packet (step_in lasts packet)) Nothing)

  abbrev pub event_of : ℕ → Item → List (List ℕ) → Event
  event_of k (whole packet rest) lasts = packet_event k packet lasts
  event_of k broken lasts = Fault 30

  -- the last packets after it
  abbrev pub packet_lasts : List ℕ → List (List ℕ) → List (List ℕ)
  packet_lasts packet lasts =
      cond (lost_sync (packet_of packet)) lasts
      (cond (on_layer table packet)
      (set lasts (layer_of table packet) (last_by (step_in lasts packet) (get_or lasts (layer_of table packet) []) packet))
      lasts)

  abbrev pub lasts_after : Item → List (List ℕ) → List (List ℕ)
  lasts_after (whole packet rest) lasts = packet_lasts packet lasts
  lasts_after broken lasts = lasts

-- a packet of a recording by its number
abbrev pub packet_at : List ℕ → ℕ → List ℕ
packet_at bytes k = take packet_bytes (drop (packet_bytes * k) bytes)

-- the packet that ends at a place, and none at 0
abbrev pub ending_at : List ℕ → ℕ → List ℕ
ending_at bytes end = take (end - (end - packet_bytes)) (drop (end - packet_bytes) bytes)

-- the packet that was kept for a layer
abbrev pub kept_at : List ℕ → ℕ → List ℕ
kept_at kept slot = take packet_bytes (drop (packet_bytes * slot) kept)

-- the last packet of a layer by its place: 1 stands for the one that was kept
abbrev pub last_at : List ℕ → List ℕ → ℕ → ℕ → List ℕ
last_at kept bytes slot end = cond (eqb end 1) (kept_at kept slot) (ending_at bytes end)

abbrev pub lasts_from : List ℕ → List ℕ → ℕ → List ℕ → List (List ℕ)
lasts_from kept bytes slot [] = []
lasts_from kept bytes slot (end ∷ ends) = last_at kept bytes slot end ∷ lasts_from kept bytes (suc slot) ends

abbrev pub lasts_of : List ℕ → List ℕ → List ℕ → List (List ℕ)
lasts_of kept bytes ends = lasts_from kept bytes 0 ends

-- a place at which a whole packet stands, or none
pub record LastWithin (kept bytes : List ℕ) (slot end : ℕ) : Type 0 where
  pub of_kept : end ≡ 1 → packet_bytes * slot + packet_bytes ≤ length kept
  pub whole_one : 1 < end → packet_bytes ≤ end
  pub inside : 1 < end → end ≤ length bytes

abbrev pub EndsWithin : List ℕ → List ℕ → List ℕ → Type 0
EndsWithin kept bytes ends = (i : ℕ) → LastWithin kept bytes i (get_or ends i 0)

-- packets passed over, from one on, where the last packets are known: each gives nothing, whatever its number, and leaves the last packets as they are after it
pub data PassedOver (table bytes : List ℕ) (from : ℕ) (lasts : List (List ℕ)) : ℕ → List (List ℕ) → Type 0 where
  none_yet_lem : PassedOver table bytes from lasts from lasts
  one_more : {k : ℕ} {before after : List (List ℕ)} → PassedOver table bytes from lasts k before
      → ((number : ℕ) → packet_event table number (packet_at bytes k) before ≡ Nothing)
      → after ≡ packet_lasts table (packet_at bytes k) before
      → PassedOver table bytes from lasts (k + 1) after

-- the same with the last packets as places
pub record Passes (table kept bytes ends : List ℕ) (from packets next : ℕ) (new-ends : List ℕ) : Type 0 where
  pub onward : from ≤ next
  pub inside : next ≤ packets
  pub within : EndsWithin kept bytes new-ends
  pub passed : PassedOver table bytes from (lasts_of kept bytes ends) next (lasts_of kept bytes new-ends)

-- the first four bytes of a packet: the sync byte, and three that are looked for
abbrev pub begins_with : ℕ → ℕ → ℕ → ℕ → ℕ → ℕ → ℕ → Bool
begins_with first second third fourth other-second other-third other-fourth =
    eqb first 0x47 && (eqb second other-second && (eqb third other-third && eqb fourth other-fourth))

-- packets one right after another, from one on, that begin with the same three bytes, each with the fourth byte of an ordinary packet after the one before it
pub data Run (bytes : List ℕ) (second third from : ℕ) : ℕ → Type 0 where
  one : Run bytes second third from from
  longer : {k : ℕ} → Run bytes second third from k
      → begins_with (get_or bytes (packet_bytes * (k + 1)) 0) (get_or bytes (packet_bytes * (k + 1) + 1) 0) (get_or bytes (packet_bytes * (k + 1) + 2) 0) (get_or bytes (packet_bytes * (k + 1) + 3) 0)
      second third (ordinary_fourth (get_or bytes (packet_bytes * k + 3) 0)) ≡ true
      → Run bytes second third from (k + 1)

-- the last packet of such a run
pub record Runs (bytes : List ℕ) (second third from packets last : ℕ) : Type 0 where
  pub inside : last < packets
  pub run : Run bytes second third from last
