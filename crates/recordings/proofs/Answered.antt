-- The answer for a recording has its meaning: the marks that the walk keeps are the lowest numbers at their earliest packets.
-- Assumes nothing.
use Rattle.std.specs.Prelude.{Err, Ok}
use Prim.Native.Nat.{ℕ, zero, suc, ◌+◌, ◌≤◌, ◌<◌}
use mathlib.Core.Path.{◌≡◌, refl, sym, ap, ◌∙◌, subst}
use mathlib.Core.Bool.{Bool, true, false, cond, ◌&&◌}
use mathlib.Core.List.{List, [], ◌∷◌}
use native.Mathlib.Nat.{not-suc-le-zero}
use native.Mathlib.Numerals.{add-one}
use native.Mathlib.Omega.{arith}
use borrow.Author.Tests.{ltb-true, ltb-false, eq-eqb, ne_eqb}
use lib.Dec.{eqb, leb, ltb}
use lib.ListN.{length, get_or, drop, length-drop}
use Rattle.combinators.specs.Below.{First}
use Rattle.combinators.specs.Bools.{both_right, either_way}
use Rattle.combinators.specs.Lists.{Nth, here, there, nth_inside, get_d_nth, next}
use Rattle.combinators.specs.Lowest.{Lowest, lowest_start, lowest_replace, lowest_keep}
use Rattle.framing.specs.Pieces.{Item, whole, broken, Cuts, nothing_left, does_not_fit, piece}
use Rattle.vocabulary.specs.declared.refusal.Refusal.TheVariants.{NotVideoHeader, NoPts, WrongMarker, PtsBeforeDts}
use Rattle.vocabulary.specs.Refusals.{number_of}
use Rattle.clock.specs.Clock.{is_before}
use Rattle.syntax.specs.Table.{number}
use Rattle.syntax.specs.Named.{named}
use Rattle.stamps.specs.Stamps.{stamps_of}
use Rattle.stamps.specs.declared.Stamps.{Stamps}
use Rattle.pes_fields.specs.Tables.{head}
use Rattle.pes_fields.specs.HeaderData.{flags_of, header_data_of}
use Rattle.pes_fields.specs.declared.Extension.{Extension}
use Rattle.pes_fields.specs.declared.Extension.TheVariants.{DoesNotFit, WithoutTref, WithTref}
use Rattle.pes_reader.specs.Answer.{Answer}
use Rattle.pes_reader.specs.declared.Header.{Header}
use Rattle.pes_reader.specs.Reading.{is_video_header, data_of, end_of, judged, header_of, said_by, fields_of, video_header_of, read_of}
use Rattle.packets.specs.declared.Packet.{Packet}
use Rattle.packets.specs.Judging.{lost_sync, is_skipped, payload_at, starts_clear, is_outside, is_scrambled}
use Rattle.continuity.specs.declared.Step.{Step}
use Rattle.continuity.specs.declared.Step.TheVariants.{Skipped, Copy, Faulty, Starts, Continues}
use Rattle.continuity.specs.Following.{is_copy, is_gap, alone_of, after_of, is_there, step_of}
use Rattle.packets.specs.Reading.{packet_bytes, packet_of}
use Rattle.scanning.specs.declared.events.Event.{Event}
use Rattle.scanning.specs.declared.events.Event.TheVariants.{Nothing, Fault, NotRead, Unit}
use Rattle.unit_starts.specs.declared.Mark.{Mark}
use Rattle.unit_starts.specs.declared.Found.{Found}
use Rattle.scanning.specs.Events.{packets_in, none_yet, layer_of, on_layer, header_event, step_event, step_in, event_of}
use Rattle.unit_starts.specs.Finding.{lower_of, nothing_found, noted, found_from, found_in}
use Rattle.recordings.proofs.Meant.{lasts_at, lasts_next}

-- every packet of a recording that is cut has 188 bytes
pub sized : {bytes : List ℕ} {packets : List Item} → Cuts packet_bytes (λ head. 0) bytes packets → (k : ℕ) (packet rest : List ℕ) → Nth packets k (whole packet rest)
    → length packet ≡ packet_bytes
sized nothing_left k packet rest n = absurd (not-suc-le-zero (nth_inside n))
sized (does_not_fit h f) k packet rest (there n) = absurd (not-suc-le-zero (nth_inside n))
sized (piece p q c) zero packet rest here = p
sized (piece p q c) (suc k) packet rest (there n) = sized c k packet rest n

-- ---- which number a packet gives

abbrev pub fault_is : ℕ → Event → Bool
fault_is number Nothing = false
fault_is number (Fault given) = eqb given number
fault_is number (NotRead refusal) = false
fault_is number (Unit row) = false

abbrev pub refusal_is : ℕ → Event → Bool
refusal_is number Nothing = false
refusal_is number (Fault given) = false
refusal_is number (NotRead refusal) = eqb (number_of refusal) number
refusal_is number (Unit row) = false

-- one number at the most, below a bound
one_number : (numbers given : ℕ) → given < numbers → First (λ n. eqb given n) numbers given
one_number numbers given h =
    record { within = omega arith; before = λ j l. ne_eqb given j (λ e. omega arith); found = λ l. eq-eqb given given refl }

no_number : (numbers : ℕ) → First (λ n. false) numbers numbers
no_number numbers = record { within = omega arith; before = λ j l. refl; found = λ l. absurd (omega arith) }

-- a mark after a packet that gives a number, or none
module _ (applies : ℕ → ℕ → Bool) (numbers k : ℕ) (mark : Mark) (low : Lowest applies numbers k mark.number mark.packet) where
  pub mark_lower : (given : ℕ) → First (λ n. applies n k) numbers given
      → Lowest applies numbers (k + 1) (lower_of mark given k).number (lower_of mark given k).packet
  mark_lower given f = go (ltb given mark.number) refl
    where
      go : (t : Bool) → ltb given mark.number ≡ t
          → Lowest applies numbers (k + 1) (cond t (record { number = given; packet = k }) mark).number (cond t (record { number = given; packet = k }) mark).packet
      go true e = lowest_replace applies numbers k mark.number mark.packet given low f (ltb-true given mark.number e)
      go false e = lowest_keep applies numbers k mark.number mark.packet given low f (ltb-false given mark.number e)

  pub mark_kept : First (λ n. applies n k) numbers numbers → Lowest applies numbers (k + 1) mark.number mark.packet
  mark_kept f = lowest_keep applies numbers k mark.number mark.packet numbers low f low.within

-- ---- the numbers that there are: 30 to 33 of packets, 20 to 24 of PES headers

abbrev pub in_range : Event → Bool
in_range Nothing = true
in_range (Fault number) = leb 30 number && ltb number 34
in_range (NotRead refusal) = leb 20 (number_of refusal) && ltb (number_of refusal) 25
in_range (Unit row) = true

abbrev HeaderInRange : ℕ → ℕ → Answer → Type 0
HeaderInRange layer k answer = in_range (header_event layer k answer) ≡ true

judged_in_range : (layer k : ℕ) (marked : Bool) (header : Header) → HeaderInRange layer k (judged marked header)
judged_in_range layer k marked header =
    either_way (HeaderInRange layer k) marked (cond (is_before header.times.pts header.times.decoding) (Err PtsBeforeDts) (Ok header)) (Err WrongMarker)
    (either_way (HeaderInRange layer k) (is_before header.times.pts header.times.decoding) (Err PtsBeforeDts) (Ok header) refl refl)
    refl

said_in_range : (layer k end : ℕ) (stamps : Stamps) (given : Extension) → HeaderInRange layer k (said_by end stamps given)
said_in_range layer k end stamps DoesNotFit = refl
said_in_range layer k end stamps (WithoutTref marked) = judged_in_range layer k (stamps.marked && marked) (header_of stamps stamps.decoding false end)
said_in_range layer k end stamps (WithTref tref) = judged_in_range layer k (stamps.marked && tref.marked) (header_of stamps tref.time true end)

header_in_range : (layer k : ℕ) (bytes : List ℕ) → HeaderInRange layer k (read_of bytes)
header_in_range layer k bytes =
    either_way (HeaderInRange layer k) (is_video_header bytes) (video_header_of bytes) (Err NotVideoHeader)
    (either_way (HeaderInRange layer k) (leb 0b10 (named "PTS_DTS_flags" head (number 9 bytes)))
    (fields_of (end_of bytes) (flags_of head (number 9 bytes)) (data_of bytes)) (Err NoPts)
    (said_in_range layer k (end_of bytes) (stamps_of (flags_of head (number 9 bytes)).pts_dts (data_of bytes)) (header_data_of (flags_of head (number 9 bytes)) (data_of bytes)))
    refl)
    refl

module _ (layer k : ℕ) (packet : List ℕ) where
  abbrev StepInRange : Step → Type 0
  StepInRange step = in_range (step_event layer k packet step) ≡ true

  alone_in_range : (p : Packet) → StepInRange (alone_of p packet)
  alone_in_range p =
      either_way StepInRange (is_outside p packet) (Faulty 32) (cond (is_scrambled p) (Faulty 33) (cond (starts_clear p) (Starts (payload_at p)) Continues))
      refl
      (either_way StepInRange (is_scrambled p) (Faulty 33) (cond (starts_clear p) (Starts (payload_at p)) Continues)
      refl
      (either_way StepInRange (starts_clear p) (Starts (payload_at p)) Continues (header_in_range layer k (drop (payload_at p) packet)) refl))

  step_in_range : (before : List ℕ) → StepInRange (step_of before packet)
  step_in_range before =
      either_way StepInRange (is_skipped p) Skipped (cond (is_there before) (after_of p packet q before) (alone_of p packet))
      refl
      (either_way StepInRange (is_there before) (after_of p packet q before) (alone_of p packet)
      (either_way StepInRange (is_copy p packet q before) Copy (cond (is_gap p q) (Faulty 31) (alone_of p packet))
      refl
      (either_way StepInRange (is_gap p q) (Faulty 31) (alone_of p packet) refl (alone_in_range p)))
      (alone_in_range p))
    where
      p : Packet
      p = packet_of packet

      q : Packet
      q = packet_of before

pub event_in_range : (table : List ℕ) (k : ℕ) (item : Item) (lasts : List (List ℕ)) → in_range (event_of table k item lasts) ≡ true
event_in_range table k broken lasts = refl
event_in_range table k (whole packet rest) lasts =
    either_way (λ (e : Event). in_range e ≡ true) (lost_sync (packet_of packet)) (Fault 30)
    (cond (on_layer table packet) (step_event (layer_of table packet) k packet (step_in table lasts packet)) Nothing)
    refl
    (either_way (λ (e : Event). in_range e ≡ true) (on_layer table packet) (step_event (layer_of table packet) k packet (step_in table lasts packet)) Nothing
    (step_in_range (layer_of table packet) k packet (get_or lasts (layer_of table packet) []))
    refl)

-- ---- the walk keeps the lowest numbers

module _ (table : List ℕ) (packets : List Item) where
  abbrev pub event_here : ℕ → Event
  event_here k = event_of table k (get_or packets k broken) (lasts_at table packets k)

  abbrev pub faults : ℕ → ℕ → Bool
  faults n k = fault_is n (event_here k)

  abbrev pub refusals : ℕ → ℕ → Bool
  refusals n k = refusal_is n (event_here k)

  -- what is known of what was found before a packet
  pub record Low (k : ℕ) (f : Found) : Type 0 where
    pub fault : Lowest faults 34 k f.fault.number f.fault.packet
    pub refusal : Lowest refusals 25 k f.refusal.number f.refusal.packet

  low_next : (k : ℕ) (f : Found) (event : Event) → event ≡ event_here k → in_range event ≡ true → Low k f → Low (k + 1) (noted k event f)
  low_next k f Nothing e r low =
      record {
        fault = mark_kept faults 34 k f.fault low.fault (subst (λ (x : Event). First (λ n. fault_is n x) 34 34) e (no_number 34));
        refusal = mark_kept refusals 25 k f.refusal low.refusal (subst (λ (x : Event). First (λ n. refusal_is n x) 25 25) e (no_number 25));
      }
  low_next k f (Fault given) e r low =
      record {
        fault = mark_lower faults 34 k f.fault low.fault given
            (subst (λ (x : Event). First (λ n. fault_is n x) 34 given) e (one_number 34 given (ltb-true given 34 (both_right (leb 30 given) (ltb given 34) r))));
        refusal = mark_kept refusals 25 k f.refusal low.refusal (subst (λ (x : Event). First (λ n. refusal_is n x) 25 25) e (no_number 25));
      }
  low_next k f (NotRead refusal) e r low =
      record {
        fault = mark_kept faults 34 k f.fault low.fault (subst (λ (x : Event). First (λ n. fault_is n x) 34 34) e (no_number 34));
        refusal = mark_lower refusals 25 k f.refusal low.refusal (number_of refusal)
            (subst (λ (x : Event). First (λ n. refusal_is n x) 25 (number_of refusal)) e (one_number 25 (number_of refusal) (ltb-true (number_of refusal) 25 (both_right (leb 20 (number_of refusal)) (ltb (number_of refusal) 25) r))));
      }
  low_next k f (Unit row) e r low =
      record {
        fault = mark_kept faults 34 k f.fault low.fault (subst (λ (x : Event). First (λ n. fault_is n x) 34 34) e (no_number 34));
        refusal = mark_kept refusals 25 k f.refusal low.refusal (subst (λ (x : Event). First (λ n. refusal_is n x) 25 25) e (no_number 25));
      }

  low_all : (is : List Item) (k : ℕ) → k ≤ length packets → drop k packets ≡ is → (f : Found) → Low k f
      → Low (length packets) (found_from table k is (lasts_at table packets k) f)
  low_all [] k h e f low =
      let left = length-drop k packets in
      let none = ap length e in
      let all : k ≡ length packets = omega arith in
      subst (λ (n : ℕ). Low n f) all low
  low_all (i ∷ is) k h e f low =
      let n = next packets k i is e in
      let at : Nth packets k i = subst (Nth packets k) (n.here broken) (get_d_nth packets k broken n.inside) in
      let event : Event = event_of table k i (lasts_at table packets k) in
      let is_here : event ≡ event_here k = ap (λ (x : Item). event_of table k x (lasts_at table packets k)) (sym (n.here broken)) in
      subst (λ (l : List (List ℕ)). Low (length packets) (found_from table (suc k) is l (noted k event f))) (lasts_next table at none_yet)
      (low_all is (suc k) n.inside (ap (λ (m : ℕ). drop m packets) (sym (add-one k)) ∙ n.after) (noted k event f)
      (subst (λ (m : ℕ). Low m (noted k event f)) (add-one k)
      (low_next k f event is_here (event_in_range table k i (lasts_at table packets k)) low)))

pub low_found : (table bytes : List ℕ) → Low table (packets_in bytes) (length (packets_in bytes)) (found_in table bytes)
low_found table bytes =
    low_all table (packets_in bytes) (packets_in bytes) 0 (omega arith) refl nothing_found
    (record {
      fault = lowest_start (faults table (packets_in bytes)) 34 0;
      refusal = lowest_start (refusals table (packets_in bytes)) 25 0;
    })
