-- One packet of a recording: where its header starts, its first bytes, and the last packets as places.
-- Assumes nothing.
use Prim.Native.Nat.{ℕ, zero, suc, ◌+◌, ◌-◌, ◌*◌, ◌%◌, ◌≤◌, ◌<◌}
use mathlib.Core.Path.{◌≡◌, refl, sym, ap, ap₂, subst, ◌∙◌}
use mathlib.Core.Bool.{Bool, true, false, cond, not, ◌&&◌}
use mathlib.Core.List.{List, [], ◌∷◌}
use native.Mathlib.Decide.{dec_lt}
use native.Mathlib.Nat.{add-zero, zero-add, add-suc, suc-add}
use native.Mathlib.Omega.{arith}
use borrow.Author.Tests.{eqb-true, lt-ltb, le-ltb, eq-eqb, ne_eqb}
use lib.Dec.{eqb}
use lib.ListN.{length, get_or, set, take, drop, replicate, length-take, length-drop, get_or-eq_default}
use lib.Seq.{get_or-take, get_or-drop, get_or-set_same, set-get_or, set-set, length-take-le}
use Rattle.combinators.specs.Bools.{either_way, or_else, neither_left, both_left, both_right}
use Rattle.syntax.specs.Table.{AreBytes}
use Rattle.syntax.proofs.Number.{drop_bytes}
use Rattle.packets.specs.declared.Packet.{Packet}
use Rattle.packets.specs.Reading.{packet_bytes, in_header, packet_of}
use Rattle.packets.specs.Judging.{lost_sync, payload_at, starts_clear, is_skipped, adaptation_outside, header_outside, is_outside, is_scrambled}
use Rattle.packets.proofs.FieldLaws.{packet_of_bytes}
use Rattle.packets.proofs.JudgingLaws.{payload_within}
use Rattle.continuity.specs.declared.Step.{Step}
use Rattle.continuity.specs.declared.Step.TheVariants.{Skipped, Copy, Faulty, Starts, Continues}
use Rattle.continuity.specs.Following.{is_copy, is_gap, alone_of, after_of, is_there, step_of, ordinary_fourth, ordinary_after}
use Rattle.continuity.proofs.Ordinary.{ordinary_continues}
use Rattle.scanning.specs.declared.events.Event.TheVariants.{Nothing, Fault}
use Rattle.scanning.specs.Events.{last_by, start_in, step_event, step_in, packet_event, packet_lasts, layer_of, on_layer, packet_at, ending_at, kept_at, last_at, lasts_from, lasts_of, LastWithin, EndsWithin, PassedOver, none_yet_lem, one_more, Passes, begins_with, Run, one, longer, Runs}

-- ---- a header starts within its packet

abbrev StartsWithin : Step → Type 0
StartsWithin step = start_in step ≤ packet_bytes

alone_within : (p : Packet) (packet : List ℕ) → StartsWithin (alone_of p packet)
alone_within p packet =
    or_else StartsWithin (is_outside p packet) (Faulty 32) (cond (is_scrambled p) (Faulty 33) (cond (starts_clear p) (Starts (payload_at p)) Continues))
    (omega arith)
    (λ e. either_way StartsWithin (is_scrambled p) (Faulty 33) (cond (starts_clear p) (Starts (payload_at p)) Continues)
    (omega arith)
    (either_way StartsWithin (starts_clear p) (Starts (payload_at p)) Continues
    (payload_within p (neither_left (adaptation_outside p) (header_outside p packet) e))
    (omega arith)))

pub start_within : (before packet : List ℕ) → start_in (step_of before packet) ≤ packet_bytes
start_within before packet =
    either_way StartsWithin (is_skipped p) Skipped (cond (is_there before) (after_of p packet q before) (alone_of p packet))
    (omega arith)
    (either_way StartsWithin (is_there before) (after_of p packet q before) (alone_of p packet)
    (either_way StartsWithin (is_copy p packet q before) Copy (cond (is_gap p q) (Faulty 31) (alone_of p packet))
    (omega arith)
    (either_way StartsWithin (is_gap p q) (Faulty 31) (alone_of p packet) (omega arith) (alone_within p packet)))
    (alone_within p packet))
  where
    p : Packet
    p = packet_of packet

    q : Packet
    q = packet_of before

-- ---- the first bytes of a packet

take_bytes : (n : ℕ) (l : List ℕ) → AreBytes l → AreBytes (take n l)
take_bytes n l bytes i = go (dec_lt i n)
  where
    go : Dec (i < n) → get_or (take n l) i 0 < 256
    go (yes h) = rw (get_or-take n l i 0 h) (bytes i)
    go (no h) = rw (get_or-eq_default (take n l) 0 {n = i} (omega (arith, length-take n l))) (omega arith)

pub packet_bytes_lem : (bytes : List ℕ) (k : ℕ) → AreBytes bytes → AreBytes (packet_at bytes k)
packet_bytes_lem bytes k are = take_bytes packet_bytes (drop (packet_bytes * k) bytes) (drop_bytes (packet_bytes * k) bytes are)

pub byte_at : (bytes : List ℕ) (k i : ℕ) → i < packet_bytes → get_or (packet_at bytes k) i 0 ≡ get_or bytes (packet_bytes * k + i) 0
byte_at bytes k i h = get_or-take packet_bytes (drop (packet_bytes * k) bytes) i 0 h ∙ get_or-drop (packet_bytes * k) bytes i 0

module _ (table packet : List ℕ) (bytes : AreBytes packet) where
  sync_of_bytes : in_header "sync_byte" packet ≡ get_or packet 0 0
  sync_of_bytes = ap (λ (p : Packet). p.sync_byte) (packet_of_bytes packet bytes)

  pid_of_bytes : in_header "PID" packet ≡ get_or packet 1 0 % 32 * 256 + get_or packet 2 0
  pid_of_bytes = ap (λ (p : Packet). p.pid) (packet_of_bytes packet bytes)

  pub lost_of_bytes : lost_sync (packet_of packet) ≡ not (eqb (get_or packet 0 0) 0x47)
  lost_of_bytes = ap (λ (n : ℕ). not (eqb n 0x47)) sync_of_bytes

  pub layer_of_bytes : layer_of table packet ≡ get_or table (get_or packet 1 0 % 32 * 256 + get_or packet 2 0) 0
  layer_of_bytes = ap (λ (n : ℕ). get_or table n 0) pid_of_bytes

-- ---- the last packets as the places at which they end

lasts_set_from : (kept bytes : List ℕ) (from : ℕ) (ends : List ℕ) (slot end : ℕ)
    → lasts_from kept bytes from (set ends slot end) ≡ set (lasts_from kept bytes from ends) slot (last_at kept bytes (from + slot) end)
lasts_set_from kept bytes from [] slot end = refl
lasts_set_from kept bytes from (e ∷ ends) zero end =
    ap (λ (n : ℕ). last_at kept bytes n end ∷ lasts_from kept bytes (suc from) ends) (sym (add-zero from))
lasts_set_from kept bytes from (e ∷ ends) (suc slot) end =
    ap (λ (l : List (List ℕ)). last_at kept bytes from e ∷ l)
    (lasts_set_from kept bytes (suc from) ends slot end
    ∙ ap (λ (n : ℕ). set (lasts_from kept bytes (suc from) ends) slot (last_at kept bytes n end)) (suc-add from slot ∙ sym (add-suc from slot)))

pub lasts_set : (kept bytes ends : List ℕ) (slot end : ℕ)
    → lasts_of kept bytes (set ends slot end) ≡ set (lasts_of kept bytes ends) slot (last_at kept bytes slot end)
lasts_set kept bytes ends slot end =
    lasts_set_from kept bytes 0 ends slot end ∙ ap (λ (n : ℕ). set (lasts_of kept bytes ends) slot (last_at kept bytes n end)) (zero-add slot)

last_at_from : (kept bytes : List ℕ) (from : ℕ) (ends : List ℕ) (slot : ℕ)
    → get_or (lasts_from kept bytes from ends) slot [] ≡ last_at kept bytes (from + slot) (get_or ends slot 0)
last_at_from kept bytes from [] slot = refl
last_at_from kept bytes from (e ∷ ends) zero = ap (λ (n : ℕ). last_at kept bytes n e) (sym (add-zero from))
last_at_from kept bytes from (e ∷ ends) (suc slot) =
    last_at_from kept bytes (suc from) ends slot ∙ ap (λ (n : ℕ). last_at kept bytes n (get_or ends slot 0)) (suc-add from slot ∙ sym (add-suc from slot))

pub last_at_lem : (kept bytes ends : List ℕ) (slot : ℕ) → get_or (lasts_of kept bytes ends) slot [] ≡ last_at kept bytes slot (get_or ends slot 0)
last_at_lem kept bytes ends slot = last_at_from kept bytes 0 ends slot ∙ ap (λ (n : ℕ). last_at kept bytes n (get_or ends slot 0)) (zero-add slot)

-- a packet of these bytes
ending_at_next : (bytes : List ℕ) (k : ℕ) → ending_at bytes (packet_bytes * k + packet_bytes) ≡ packet_at bytes k
ending_at_next bytes k =
    let start : packet_bytes * k + packet_bytes - packet_bytes ≡ packet_bytes * k = omega arith in
    let size : packet_bytes * k + packet_bytes - (packet_bytes * k) ≡ packet_bytes = omega arith in
    ap (λ (n : ℕ). take (packet_bytes * k + packet_bytes - n) (drop n bytes)) start ∙ ap (λ (n : ℕ). take n (drop (packet_bytes * k) bytes)) size

pub last_here : (kept bytes : List ℕ) (slot k : ℕ) → last_at kept bytes slot (packet_bytes * k + packet_bytes) ≡ packet_at bytes k
last_here kept bytes slot k =
    ap (λ (t : Bool). cond t (kept_at kept slot) (ending_at bytes (packet_bytes * k + packet_bytes))) (ne_eqb (packet_bytes * k + packet_bytes) 1 (λ e. omega arith))
    ∙ ending_at_next bytes k

-- whichever of two places it is
pub last_by_end : (kept bytes : List ℕ) (slot : ℕ) (step : Step) (end next : ℕ)
    → last_at kept bytes slot (last_by step end next) ≡ last_by step (last_at kept bytes slot end) (last_at kept bytes slot next)
last_by_end kept bytes slot Skipped end next = refl
last_by_end kept bytes slot Copy end next = refl
last_by_end kept bytes slot (Faulty n) end next = refl
last_by_end kept bytes slot (Starts n) end next = refl
last_by_end kept bytes slot Continues end next = refl

pub last_by_within : {kept bytes : List ℕ} {slot : ℕ} (step : Step) {end next : ℕ} → LastWithin kept bytes slot end → LastWithin kept bytes slot next
    → LastWithin kept bytes slot (last_by step end next)
last_by_within Skipped h k = h
last_by_within Copy h k = k
last_by_within (Faulty n) h k = k
last_by_within (Starts n) h k = k
last_by_within Continues h k = k

pub next_within : (kept bytes : List ℕ) (slot k : ℕ) → packet_bytes * k + packet_bytes ≤ length bytes → LastWithin kept bytes slot (packet_bytes * k + packet_bytes)
next_within kept bytes slot k h = record { of_kept = λ e. absurd (omega arith); whole_one = λ l. omega arith; inside = λ l. h }

-- a place that is none of the kept ones is in these bytes
pub place_inside : {kept bytes : List ℕ} {slot end : ℕ} → LastWithin kept bytes slot end → (end ≡ 1 → ⊥) → end ≤ length bytes
place_inside {kept} {bytes} {slot} {end} w f = go (dec_lt 1 end)
  where
    go : Dec (1 < end) → end ≤ length bytes
    go (yes h) = w.inside h
    go (no h) = omega arith

none_within : (kept bytes : List ℕ) (slot : ℕ) → LastWithin kept bytes slot 0
none_within kept bytes slot = record { of_kept = λ e. absurd (omega arith); whole_one = λ l. absurd (omega arith); inside = λ l. absurd (omega arith) }

set_each : (P : ℕ → ℕ → Type 0) (ends : List ℕ) (slot end : ℕ) → P slot end → ((i : ℕ) → P i (get_or ends i 0)) → (i : ℕ) → P i (get_or (set ends slot end) i 0)
set_each P [] slot end h all i = all i
set_each P (e ∷ ends) zero end h all zero = h
set_each P (e ∷ ends) zero end h all (suc i) = all (suc i)
set_each P (e ∷ ends) (suc slot) end h all zero = all zero
set_each P (e ∷ ends) (suc slot) end h all (suc i) = set_each (λ j. P (suc j)) ends slot end h (λ j. all (suc j)) i

pub ends_set : (kept bytes ends : List ℕ) (slot end : ℕ) → LastWithin kept bytes slot end → EndsWithin kept bytes ends
    → EndsWithin kept bytes (set ends slot end)
ends_set kept bytes ends slot end h all = set_each (LastWithin kept bytes) ends slot end h all

pub ends_none : (kept bytes : List ℕ) (n : ℕ) → EndsWithin kept bytes (replicate n 0)
ends_none kept bytes n i = subst (LastWithin kept bytes i) (sym (zero_at n i)) (none_within kept bytes i)
  where
    zero_at : (n i : ℕ) → ◌≡◌ {A = ℕ} (get_or (replicate n 0) i 0) 0
    zero_at zero i = refl
    zero_at (suc n) zero = refl
    zero_at (suc n) (suc i) = zero_at n i

-- ---- a packet as a part of the recording's bytes

pub part_is_packet : (bytes : List ℕ) (k : ℕ) → take (packet_bytes * k + packet_bytes - packet_bytes * k) (drop (packet_bytes * k) bytes) ≡ packet_at bytes k
part_is_packet bytes k =
    let size : packet_bytes * k + packet_bytes - packet_bytes * k ≡ packet_bytes = omega arith in
    ap (λ (n : ℕ). take n (drop (packet_bytes * k) bytes)) size

pub packet_long : (bytes : List ℕ) (k : ℕ) → packet_bytes * k + packet_bytes ≤ length bytes → length (packet_at bytes k) ≡ packet_bytes
packet_long bytes k h = length-take-le packet_bytes (drop (packet_bytes * k) bytes) (omega (arith, length-drop (packet_bytes * k) bytes))

-- ---- what a packet gives, by its first three bytes

module _ (table kept bytes ends : List ℕ) (k number : ℕ) (packet : List ℕ) (is-packet : packet ≡ packet_at bytes k) (are : AreBytes packet) where
  abbrev lasts : List (List ℕ)
  lasts = lasts_of kept bytes ends

  -- no sync byte
  pub looked_lost : (get_or packet 0 0 ≡ 0x47 → ⊥)
      → (Fault 30 ≡ packet_event table number (packet_at bytes k) lasts) × (lasts ≡ packet_lasts table (packet_at bytes k) lasts)
  looked_lost f =
      let lost : lost_sync (packet_of packet) ≡ true = lost_of_bytes table packet are ∙ ap not (ne_eqb (get_or packet 0 0) 0x47 f) in (
        sym (ap (λ (t : Bool). cond t (Fault 30) (cond (on_layer table packet) (step_event (layer_of table packet) number packet (step_in table lasts packet)) Nothing)) lost)
            ∙ ap (λ (p : List ℕ). packet_event table number p lasts) is-packet,
        sym (ap (λ (t : Bool). cond t lasts (cond (on_layer table packet) (set lasts (layer_of table packet) (last_by (step_in table lasts packet) (get_or lasts (layer_of table packet) []) packet)) lasts)) lost)
            ∙ ap (λ (p : List ℕ). packet_lasts table p lasts) is-packet,
      )

  -- in sync, by the layer of its PID
  by_layer : get_or packet 0 0 ≡ 0x47 → (t : Bool) → on_layer table packet ≡ t
      → (packet_event table number packet lasts ≡ cond t (step_event (layer_of table packet) number packet (step_in table lasts packet)) Nothing)
      × (packet_lasts table packet lasts ≡ cond t (set lasts (layer_of table packet) (last_by (step_in table lasts packet) (get_or lasts (layer_of table packet) []) packet)) lasts)
  by_layer e t on =
      let found : lost_sync (packet_of packet) ≡ false = lost_of_bytes table packet are ∙ ap not (eq-eqb (get_or packet 0 0) 0x47 e) in (
        ap₂ (λ (s l : Bool). cond s (Fault 30) (cond l (step_event (layer_of table packet) number packet (step_in table lasts packet)) Nothing)) found on,
        ap₂ (λ (s l : Bool). cond s lasts (cond l (set lasts (layer_of table packet) (last_by (step_in table lasts packet) (get_or lasts (layer_of table packet) []) packet)) lasts)) found on,
      )

  module _ (sync : get_or packet 0 0 ≡ 0x47) (layer : ℕ) (is_layer_lem : layer ≡ get_or table (get_or packet 1 0 % 32 * 256 + get_or packet 2 0) 0) where
    same_layer : layer_of table packet ≡ layer
    same_layer = layer_of_bytes table packet are ∙ sym is_layer_lem

    pub looked_other : 63 < layer
        → (Nothing ≡ packet_event table number (packet_at bytes k) lasts) × (lasts ≡ packet_lasts table (packet_at bytes k) lasts)
    looked_other h =
        let both = by_layer sync false (le-ltb (layer_of table packet) 64 (omega (arith, same_layer))) in
        (sym both.0 ∙ ap (λ (p : List ℕ). packet_event table number p lasts) is-packet, sym both.1 ∙ ap (λ (p : List ℕ). packet_lasts table p lasts) is-packet)

    -- on a layer's PID, after the packet that ends where the last one does
    abbrev step_here : Step
    step_here = step_of (last_at kept bytes layer (get_or ends layer 0)) packet

    pub looked_on : layer ≤ 63
        → (step_event layer number packet step_here ≡ packet_event table number (packet_at bytes k) lasts)
        × (lasts_of kept bytes (set ends layer (last_by step_here (get_or ends layer 0) (packet_bytes * k + packet_bytes))) ≡ packet_lasts table (packet_at bytes k) lasts)
    looked_on h =
        let both = by_layer sync true (lt-ltb (layer_of table packet) 64 (omega (arith, same_layer))) in
        let last : get_or lasts layer [] ≡ last_at kept bytes layer (get_or ends layer 0) = last_at_lem kept bytes ends layer in (
          ap (λ (b : List ℕ). step_event layer number packet (step_of b packet)) (sym last)
              ∙ ap (λ (l : ℕ). step_event l number packet (step_of (get_or lasts l []) packet)) (sym same_layer)
              ∙ sym both.0
              ∙ ap (λ (p : List ℕ). packet_event table number p lasts) is-packet,
          lasts_set kept bytes ends layer (last_by step_here (get_or ends layer 0) (packet_bytes * k + packet_bytes))
              ∙ ap (set lasts layer)
              (last_by_end kept bytes layer step_here (get_or ends layer 0) (packet_bytes * k + packet_bytes)
              ∙ ap (last_by step_here (last_at kept bytes layer (get_or ends layer 0))) (last_here kept bytes layer k ∙ sym is-packet))
              ∙ ap (λ (b : List ℕ). set lasts layer (last_by (step_of b packet) b packet)) (sym last)
              ∙ ap (λ (l : ℕ). set lasts l (last_by (step_of (get_or lasts l []) packet) (get_or lasts l []) packet)) (sym same_layer)
              ∙ sym both.1
              ∙ ap (λ (p : List ℕ). packet_lasts table p lasts) is-packet,
        )

    -- an ordinary packet gives nothing, and is the last one now
    looked_ordinary : layer ≤ 63 → step_here ≡ Continues
        → (Nothing ≡ packet_event table number (packet_at bytes k) lasts)
        × (lasts_of kept bytes (set ends layer (packet_bytes * k + packet_bytes)) ≡ packet_lasts table (packet_at bytes k) lasts)
    looked_ordinary h e =
        let both = looked_on h in (
          ap (step_event layer number packet) (sym e) ∙ both.0,
          ap (λ (s : Step). lasts_of kept bytes (set ends layer (last_by s (get_or ends layer 0) (packet_bytes * k + packet_bytes)))) (sym e) ∙ both.1,
        )

-- ---- the packet that ends at a place of the bytes

module _ (kept bytes : List ℕ) (slot end : ℕ) (whole : packet_bytes ≤ end) (inside : end ≤ length bytes) where
  last_ends : last_at kept bytes slot end ≡ take packet_bytes (drop (end - packet_bytes) bytes)
  last_ends =
      let size : end - (end - packet_bytes) ≡ packet_bytes = omega arith in
      ap (λ (t : Bool). cond t (kept_at kept slot) (ending_at bytes end)) (ne_eqb end 1 (λ e. omega arith))
      ∙ ap (λ (n : ℕ). take n (drop (end - packet_bytes) bytes)) size

  last_long : length (last_at kept bytes slot end) ≡ packet_bytes
  last_long =
      ap length last_ends ∙ length-take-le packet_bytes (drop (end - packet_bytes) bytes) (omega (arith, length-drop (end - packet_bytes) bytes))

  last_bytes : AreBytes bytes → AreBytes (last_at kept bytes slot end)
  last_bytes are = subst AreBytes (sym last_ends) (take_bytes packet_bytes (drop (end - packet_bytes) bytes) (drop_bytes (end - packet_bytes) bytes are))

  last_fourth : get_or (last_at kept bytes slot end) 3 0 ≡ get_or bytes (end - 185) 0
  last_fourth =
      let place : end - packet_bytes + 3 ≡ end - 185 = omega arith in
      ap (λ (l : List ℕ). get_or l 3 0) last_ends
      ∙ get_or-take packet_bytes (drop (end - packet_bytes) bytes) 3 0 (omega arith)
      ∙ get_or-drop (end - packet_bytes) bytes 3 0
      ∙ ap (λ (n : ℕ). get_or bytes n 0) place

  -- an ordinary packet after it continues
  ordinary_here : AreBytes bytes → (packet : List ℕ) → AreBytes packet → ordinary_after (get_or packet 1 0) (get_or packet 3 0) (get_or bytes (end - 185) 0) ≡ true
      → step_of (last_at kept bytes slot end) packet ≡ Continues
  ordinary_here all packet are ordinary =
      ordinary_continues (last_at kept bytes slot end) packet (last_bytes all) are last_long
      (ap (ordinary_after (get_or packet 1 0) (get_or packet 3 0)) last_fourth ∙ ordinary)

-- ---- packets passed over

passed_then : {table bytes : List ℕ} {from k : ℕ} {lasts before : List (List ℕ)} {next : ℕ} {after : List (List ℕ)} → PassedOver table bytes from lasts k before → PassedOver table bytes k before next after
    → PassedOver table bytes from lasts next after
passed_then p none_yet_lem = p
passed_then p (one_more q nothing later) = one_more (passed_then p q) nothing later

module _ (table kept bytes ends : List ℕ) (from packets : ℕ) where
  pub passes_none : EndsWithin kept bytes ends → from ≤ packets → Passes table kept bytes ends from packets from ends
  passes_none within h = record { onward = omega arith; inside = h; within = within; passed = none_yet_lem }

  -- after some packets, others
  pub passes_then : {k next limit : ℕ} {middle later : List ℕ} → Passes table kept bytes ends from packets k middle → Passes table kept bytes middle k limit next later
      → limit ≤ packets → Passes table kept bytes ends from packets next later
  passes_then {k} {next} p q h =
      record { onward = omega (arith, p.onward, q.onward); inside = omega (arith, q.inside); within = q.within; passed = passed_then p.passed q.passed }

  -- one more or none
  pub passes_by : {k : ℕ} {middle later : List ℕ} {one : Bool} → Passes table kept bytes ends from packets k middle → k < packets → (t : Bool) → one ≡ t
      → Passes table kept bytes middle k (k + 1) (cond one (k + 1) k) later → Passes table kept bytes ends from packets (cond t (k + 1) k) later
  passes_by {k} {middle} {later} p h t e q = passes_then p (subst (λ (b : Bool). Passes table kept bytes middle k (k + 1) (cond b (k + 1) k) later) e q) (omega arith)

passes_one : {table kept bytes ends new-ends : List ℕ} {k packets : ℕ} → k < packets → ((number : ℕ) → Nothing ≡ packet_event table number (packet_at bytes k) (lasts_of kept bytes ends))
    → lasts_of kept bytes new-ends ≡ packet_lasts table (packet_at bytes k) (lasts_of kept bytes ends) → EndsWithin kept bytes new-ends
    → Passes table kept bytes ends k packets (k + 1) new-ends
passes_one {table} {kept} {bytes} {ends} {new-ends} {k} {packets} h nothing later within =
    record { onward = omega arith; inside = omega arith; within = within; passed = one_more none_yet_lem (λ number. sym (nothing number)) later }

module _ (table kept bytes ends : List ℕ) (within : EndsWithin kept bytes ends) (k packets : ℕ) (more : k < packets) (packet : List ℕ) (is-packet : packet ≡ packet_at bytes k)
    (are : AreBytes packet) (sync : get_or packet 0 0 ≡ 0x47) (layer : ℕ) (is_layer_lem : layer ≡ get_or table (get_or packet 1 0 % 32 * 256 + get_or packet 2 0) 0) where
  -- one on no layer's PID
  pub passes_other : 63 < layer → Passes table kept bytes ends k packets (k + 1) ends
  passes_other h =
      passes_one more (λ number. (looked_other table kept bytes ends k number packet is-packet are sync layer is_layer_lem h).0)
      (looked_other table kept bytes ends k 0 packet is-packet are sync layer is_layer_lem h).1 within

  -- an ordinary one of a layer
  pub passes_ordinary : layer ≤ 63 → packet_bytes * packets ≤ length bytes → AreBytes bytes → packet_bytes ≤ get_or ends layer 0
      → ordinary_after (get_or packet 1 0) (get_or packet 3 0) (get_or bytes (get_or ends layer 0 - 185) 0) ≡ true
      → Passes table kept bytes ends k packets (k + 1) (set ends layer (packet_bytes * k + packet_bytes))
  passes_ordinary h room all whole ordinary =
      passes_one more (λ number. (looked_ordinary table kept bytes ends k number packet is-packet are sync layer is_layer_lem h step).0)
      (looked_ordinary table kept bytes ends k 0 packet is-packet are sync layer is_layer_lem h step).1
      (ends_set kept bytes ends layer (packet_bytes * k + packet_bytes) (next_within kept bytes layer k (omega arith)) within)
    where
      step : step_of (last_at kept bytes layer (get_or ends layer 0)) packet ≡ Continues
      step = ordinary_here kept bytes layer (get_or ends layer 0) whole (place_inside (within layer) (λ e. omega arith)) all packet are ordinary

-- ---- a run of ordinary packets

-- a place that is not 0 is one of the list
place_there : (ends : List ℕ) (slot : ℕ) → packet_bytes ≤ get_or ends slot 0 → slot < length ends
place_there ends slot h = go (dec_lt slot (length ends))
  where
    go : Dec (slot < length ends) → slot < length ends
    go (yes l) = l
    go (no l) = absurd (omega (arith, get_or-eq_default ends 0 {n = slot} (omega arith)))

pub begins_by : (first second third fourth other-second other-third other-fourth : ℕ) {a b c d : Bool} → eqb first 0x47 ≡ a → eqb second other-second ≡ b → eqb third other-third ≡ c
    → eqb fourth other-fourth ≡ d → a && (b && (c && d)) ≡ begins_with first second third fourth other-second other-third other-fourth
begins_by first second third fourth other-second other-third other-fourth p q r t = sym (λ i. p i && (q i && (r i && t i)))

module _ (first second third fourth other-second other-third other-fourth : ℕ)
    (begins : begins_with first second third fourth other-second other-third other-fourth ≡ true) where
  abbrev later : Bool
  later = eqb second other-second && (eqb third other-third && eqb fourth other-fourth)

  begins_later : later ≡ true
  begins_later = both_right (eqb first 0x47) later begins

  begins_last : eqb third other-third && eqb fourth other-fourth ≡ true
  begins_last = both_right (eqb second other-second) (eqb third other-third && eqb fourth other-fourth) begins_later

  begins_sync : first ≡ 0x47
  begins_sync = eqb-true first 0x47 (both_left (eqb first 0x47) later begins)

  begins_second : second ≡ other-second
  begins_second = eqb-true second other-second (both_left (eqb second other-second) (eqb third other-third && eqb fourth other-fourth) begins_later)

  begins_third : third ≡ other-third
  begins_third = eqb-true third other-third (both_left (eqb third other-third) (eqb fourth other-fourth) begins_last)

  begins_fourth : fourth ≡ other-fourth
  begins_fourth = eqb-true fourth other-fourth (both_right (eqb third other-third) (eqb fourth other-fourth) begins_last)

-- after a packet that is the last one on its layer's PID, and has no error bit and no unit start
module _ (table kept bytes ends : List ℕ) (within : EndsWithin kept bytes ends) (before packets second third layer : ℕ) (low : second < 64)
    (is_layer_lem : layer ≡ get_or table (second % 32 * 256 + third) 0) (on : layer ≤ 63) (room : packet_bytes * packets ≤ length bytes) (all : AreBytes bytes)
    (last_one : get_or ends layer 0 ≡ packet_bytes * before + packet_bytes) where
  -- the last places, after a packet of the run
  abbrev ends_after : ℕ → List ℕ
  ends_after k = set ends layer (packet_bytes * k + packet_bytes)

  -- one packet more
  passes_longer : (k : ℕ) → k + 1 < packets
      → begins_with (get_or bytes (packet_bytes * (k + 1)) 0) (get_or bytes (packet_bytes * (k + 1) + 1) 0) (get_or bytes (packet_bytes * (k + 1) + 2) 0) (get_or bytes (packet_bytes * (k + 1) + 3) 0)
      second third (ordinary_fourth (get_or bytes (packet_bytes * k + 3) 0)) ≡ true
      → Passes table kept bytes ends (before + 1) packets (k + 1) (ends_after k) → Passes table kept bytes ends (before + 1) packets (k + 1 + 1) (ends_after (k + 1))
  passes_longer k h begins earlier =
      passes_then table kept bytes ends (before + 1) packets earlier (subst (Passes table kept bytes (ends_after k) (k + 1) packets (k + 1 + 1)) again next) (omega arith)
    where
      -- its bytes
      first_byte : get_or (packet_at bytes (k + 1)) 0 0 ≡ 0x47
      first_byte =
          byte_at bytes (k + 1) 0 (omega arith) ∙ ap (λ (n : ℕ). get_or bytes n 0) (add-zero (packet_bytes * (k + 1)))
          ∙ begins_sync (get_or bytes (packet_bytes * (k + 1)) 0) (get_or bytes (packet_bytes * (k + 1) + 1) 0) (get_or bytes (packet_bytes * (k + 1) + 2) 0)
          (get_or bytes (packet_bytes * (k + 1) + 3) 0) second third (ordinary_fourth (get_or bytes (packet_bytes * k + 3) 0)) begins

      second_byte : get_or (packet_at bytes (k + 1)) 1 0 ≡ second
      second_byte =
          byte_at bytes (k + 1) 1 (omega arith)
          ∙ begins_second (get_or bytes (packet_bytes * (k + 1)) 0) (get_or bytes (packet_bytes * (k + 1) + 1) 0) (get_or bytes (packet_bytes * (k + 1) + 2) 0)
          (get_or bytes (packet_bytes * (k + 1) + 3) 0) second third (ordinary_fourth (get_or bytes (packet_bytes * k + 3) 0)) begins

      third_byte : get_or (packet_at bytes (k + 1)) 2 0 ≡ third
      third_byte =
          byte_at bytes (k + 1) 2 (omega arith)
          ∙ begins_third (get_or bytes (packet_bytes * (k + 1)) 0) (get_or bytes (packet_bytes * (k + 1) + 1) 0) (get_or bytes (packet_bytes * (k + 1) + 2) 0)
          (get_or bytes (packet_bytes * (k + 1) + 3) 0) second third (ordinary_fourth (get_or bytes (packet_bytes * k + 3) 0)) begins

      fourth_byte : get_or (packet_at bytes (k + 1)) 3 0 ≡ ordinary_fourth (get_or bytes (packet_bytes * k + 3) 0)
      fourth_byte =
          byte_at bytes (k + 1) 3 (omega arith)
          ∙ begins_fourth (get_or bytes (packet_bytes * (k + 1)) 0) (get_or bytes (packet_bytes * (k + 1) + 1) 0) (get_or bytes (packet_bytes * (k + 1) + 2) 0)
          (get_or bytes (packet_bytes * (k + 1) + 3) 0) second third (ordinary_fourth (get_or bytes (packet_bytes * k + 3) 0)) begins

      end : get_or (ends_after k) layer 0 ≡ packet_bytes * k + packet_bytes
      end = get_or-set_same ends layer (packet_bytes * k + packet_bytes) 0 (place_there ends layer (omega (arith, last_one)))

      again : set (ends_after k) layer (packet_bytes * (k + 1) + packet_bytes) ≡ ends_after (k + 1)
      again = set-set ends layer (packet_bytes * k + packet_bytes) (packet_bytes * (k + 1) + packet_bytes)

      fourth_place : packet_bytes * k + 3 ≡ packet_bytes * k + packet_bytes - 185
      fourth_place = omega arith

      next : Passes table kept bytes (ends_after k) (k + 1) packets (k + 1 + 1) (set (ends_after k) layer (packet_bytes * (k + 1) + packet_bytes))
      next =
          passes_ordinary table kept bytes (ends_after k) earlier.within (k + 1) packets h (packet_at bytes (k + 1)) refl (packet_bytes_lem bytes (k + 1) all) first_byte layer
          (is_layer_lem ∙ ap₂ (λ (s t : ℕ). get_or table (s % 32 * 256 + t) 0) (sym second_byte) (sym third_byte))
          on room all (omega (arith, end))
          (ap₂ (λ (s n : ℕ). ordinary_after s (get_or (packet_at bytes (k + 1)) 3 0) (get_or bytes (n - 185) 0)) second_byte end
          ∙ ap₂ (λ (t : Bool) (n : ℕ). t && eqb n (ordinary_fourth (get_or bytes (packet_bytes * k + packet_bytes - 185) 0))) (lt-ltb second 64 low) fourth_byte
          ∙ eq-eqb (ordinary_fourth (get_or bytes (packet_bytes * k + 3) 0)) (ordinary_fourth (get_or bytes (packet_bytes * k + packet_bytes - 185) 0))
          (ap (λ (n : ℕ). ordinary_fourth (get_or bytes n 0)) fourth_place))

  pub passes_run : {last : ℕ} → Run bytes second third before last → last < packets → Passes table kept bytes ends (before + 1) packets (last + 1) (ends_after last)
  passes_run one h =
      subst (Passes table kept bytes ends (before + 1) packets (before + 1)) (sym (ap (set ends layer) (sym last_one) ∙ set-get_or ends layer 0))
      (passes_none table kept bytes ends (before + 1) packets within (omega arith))
  passes_run (longer {k} run begins) h = passes_longer k h begins (passes_run run (omega arith))

-- the run as the code finds it
module _ (bytes : List ℕ) (second third from packets : ℕ) where
  pub record Running (last fourth : ℕ) : Type 0 where
    pub runs : Runs bytes second third from packets last
    pub byte : fourth ≡ get_or bytes (packet_bytes * last + 3) 0

  pub running_start : {fourth : ℕ} → from < packets → fourth ≡ get_or bytes (packet_bytes * from + 3) 0 → Running from fourth
  running_start h e = record { runs = record { inside = h; run = one }; byte = e }

  pub running_turn : {last fourth next : ℕ} → Running last fourth → last + 1 < packets → next ≡ ordinary_fourth fourth
      → begins_with (get_or bytes (packet_bytes * (last + 1)) 0) (get_or bytes (packet_bytes * (last + 1) + 1) 0) (get_or bytes (packet_bytes * (last + 1) + 2) 0)
      (get_or bytes (packet_bytes * (last + 1) + 3) 0) second third next ≡ true
      → Running (last + 1) next
  running_turn {last} {fourth} {next} w h is begins =
      record {
        runs = record {
          inside = h;
          run = longer w.runs.run
              (subst (λ (n : ℕ). begins_with (get_or bytes (packet_bytes * (last + 1)) 0) (get_or bytes (packet_bytes * (last + 1) + 1) 0) (get_or bytes (packet_bytes * (last + 1) + 2) 0)
              (get_or bytes (packet_bytes * (last + 1) + 3) 0) second third n ≡ true) (is ∙ ap ordinary_fourth w.byte) begins);
        };
        byte = sym
            (begins_fourth (get_or bytes (packet_bytes * (last + 1)) 0) (get_or bytes (packet_bytes * (last + 1) + 1) 0) (get_or bytes (packet_bytes * (last + 1) + 2) 0)
            (get_or bytes (packet_bytes * (last + 1) + 3) 0) second third next begins);
      }
