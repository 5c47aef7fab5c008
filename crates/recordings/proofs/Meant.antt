-- The laws that join what each packet gives to what that means, both ways.
-- Assumes nothing.
use Prim.Native.Nat.{ℕ, zero, suc, ◌≤◌, ◌<◌}
use mathlib.Core.Path.{◌≡◌, refl, sym, ap, ◌∙◌, subst}
use mathlib.Core.Bool.{Bool, true, false, cond}
use mathlib.Core.List.{List, [], ◌∷◌}
use mathlib.Core.Logic.{⊎_elim}
use native.Mathlib.Decide.{dec_lt}
use native.Mathlib.Nat.{not-suc-le-zero, eq-or-lt_of_le}
use native.Mathlib.Omega.{arith}
use borrow.Author.Tests.{ltb-true, ltb-false, lt-ltb, le-ltb, eqb-true, eqb-false}
use lib.Dec.{eqb}
use lib.ListN.{length, get_or, set, take, length-set, length-replicate, get_or-replicate}
use lib.Seq.{get_or-set_same, get_or-set_other}
use Rattle.combinators.specs.Bools.{either_way, both_ways, false_unless}
use Rattle.combinators.specs.Lists.{Nth, here, there, nth_inside, get_d_nth, nth_one}
use Rattle.framing.specs.Pieces.{Item, whole, broken}
use Rattle.packets.specs.declared.Packet.{Packet}
use Rattle.packets.specs.Reading.{packet_bytes, packet_of}
use Rattle.packets.specs.Judging.{lost_sync, is_skipped, payload_at, starts_clear, is_outside, is_scrambled}
use Rattle.packets.specs.Meaning.{LostSync, Skipped as IsSkipped}
use Rattle.packets.proofs.Meant.{sync_meant, sync_only, skipped_meant, skipped_only}
use Rattle.continuity.specs.declared.Step.{Step}
use Rattle.continuity.specs.declared.Step.TheVariants.{Skipped, Copy, Faulty, Starts, Continues}
use Rattle.continuity.specs.Following.{is_copy, is_gap, alone_of, after_of, is_there, step_of}
use Rattle.continuity.proofs.Meant.{step_meant, step_only}
use Rattle.scanning.specs.declared.events.Event.{Event}
use Rattle.scanning.specs.declared.events.Event.TheVariants.{Nothing, Fault}
use Rattle.scanning.specs.Events.{last_by, layers, layer_of, on_layer, none_yet, step_event, step_in, packet_event, event_of, packet_lasts, lasts_after}
use Rattle.recordings.specs.Meaning.{Counts, Predecessor, none, last, Gives, last_part, lost_sync_lem, other_pid, on_layer_lem}

-- ---- a packet is the predecessor of the next unless it is skipped whole

last_alone : (p : Packet) (packet old : List ℕ) → last_by (alone_of p packet) old packet ≡ packet
last_alone p packet old =
    either_way (λ (s : Step). last_by s old packet ≡ packet) (is_outside p packet) (Faulty 32) (cond (is_scrambled p) (Faulty 33) (cond (starts_clear p) (Starts (payload_at p)) Continues))
    refl
    (either_way (λ (s : Step). last_by s old packet ≡ packet) (is_scrambled p) (Faulty 33) (cond (starts_clear p) (Starts (payload_at p)) Continues)
    refl
    (either_way (λ (s : Step). last_by s old packet ≡ packet) (starts_clear p) (Starts (payload_at p)) Continues refl refl))

last_by_step : (before packet old : List ℕ) (t : Bool) → is_skipped (packet_of packet) ≡ t → last_by (step_of before packet) old packet ≡ cond t old packet
last_by_step before packet old true e =
    ap (λ (t : Bool). last_by (cond t Skipped (cond (is_there before) (after_of (packet_of packet) packet (packet_of before) before) (alone_of (packet_of packet) packet))) old packet) e
last_by_step before packet old false e =
    ap (λ (t : Bool). last_by (cond t Skipped (cond (is_there before) (after_of (packet_of packet) packet (packet_of before) before) (alone_of (packet_of packet) packet))) old packet) e
    ∙ either_way (λ (s : Step). last_by s old packet ≡ packet) (is_there before) (after_of (packet_of packet) packet (packet_of before) before) (alone_of (packet_of packet) packet)
    (either_way (λ (s : Step). last_by s old packet ≡ packet) (is_copy (packet_of packet) packet (packet_of before) before) Copy
    (cond (is_gap (packet_of packet) (packet_of before)) (Faulty 31) (alone_of (packet_of packet) packet))
    refl
    (either_way (λ (s : Step). last_by s old packet ≡ packet) (is_gap (packet_of packet) (packet_of before)) (Faulty 31) (alone_of (packet_of packet) packet) refl (last_alone (packet_of packet) packet old)))
    (last_alone (packet_of packet) packet old)

same_whole : {packet other rest rest' : List ℕ} → whole packet rest ≡ whole other rest' → packet ≡ other
same_whole e = cc

not_broken : {packet rest : List ℕ} → broken ≡ whole packet rest → ⊥
not_broken e = let z : ◌≡◌ {A = ℕ} 0 1 = cc in omega arith

-- the last packets after some of a list's packets
abbrev pub lasts_to : List ℕ → List Item → List (List ℕ) → List (List ℕ)
lasts_to table [] lasts = lasts
lasts_to table (i ∷ is) lasts = lasts_to table is (lasts_after table i lasts)

module _ (table : List ℕ) where
  pub lasts_next : {packets : List Item} {k : ℕ} {item : Item} → Nth packets k item → (lasts : List (List ℕ))
      → lasts_to table (take (suc k) packets) lasts ≡ lasts_after table item (lasts_to table (take k packets) lasts)
  lasts_next here lasts = refl
  lasts_next (there {y = y} n) lasts = lasts_next n (lasts_after table y lasts)

  lasts_length : (packet : List ℕ) (lasts : List (List ℕ)) → length (packet_lasts table packet lasts) ≡ length lasts
  lasts_length packet lasts =
      either_way (λ (l : List (List ℕ)). length l ≡ length lasts) (lost_sync (packet_of packet)) lasts
      (cond (on_layer table packet) (set lasts (layer_of table packet) (last_by (step_in table lasts packet) (get_or lasts (layer_of table packet) []) packet)) lasts)
      refl
      (either_way (λ (l : List (List ℕ)). length l ≡ length lasts) (on_layer table packet)
      (set lasts (layer_of table packet) (last_by (step_in table lasts packet) (get_or lasts (layer_of table packet) []) packet)) lasts
      (length-set lasts (layer_of table packet) (last_by (step_in table lasts packet) (get_or lasts (layer_of table packet) []) packet))
      refl)

  all_lasts : (packets : List Item) (k : ℕ) (lasts : List (List ℕ)) → length (lasts_to table (take k packets) lasts) ≡ length lasts
  all_lasts packets zero lasts = refl
  all_lasts [] (suc k) lasts = refl
  all_lasts (broken ∷ is) (suc k) lasts = all_lasts is k lasts
  all_lasts (whole p r ∷ is) (suc k) lasts = all_lasts is k (packet_lasts table p lasts) ∙ lasts_length p lasts

  module _ (packets : List Item) where
    -- one packet further, where it does not count on the layer
    extend : {k layer : ℕ} {before : List ℕ} → ((q : List ℕ) → Counts table packets k layer q → ⊥) → Predecessor table packets k layer before
        → Predecessor table packets (suc k) layer before
    extend {k} {layer} f (none g) =
        none (λ j q h c. ⊎_elim (λ (e : j ≡ k). f q (subst (λ (n : ℕ). Counts table packets n layer q) e c)) (λ (l : j < k). g j q l c) (eq-or-lt_of_le (omega arith)))
    extend {k} {layer} f (last {j} {q} h c g) =
        last {j = j} {q = q} (omega arith) c
        (λ i p l m d. ⊎_elim (λ (e : i ≡ k). f p (subst (λ (n : ℕ). Counts table packets n layer p) e d)) (λ (s : i < k). g i p l s d) (eq-or-lt_of_le (omega arith)))

    module _ {k : ℕ} {packet rest : List ℕ} (n : Nth packets k (whole packet rest)) (lasts : List (List ℕ)) (long : length lasts ≡ layers)
        (layer : ℕ) (h : layer < layers) (p : Predecessor table packets k layer (get_or lasts layer [])) where
      its_own : {q : List ℕ} → Counts table packets k layer q → q ≡ packet
      its_own c = same_whole (nth_one c.stands n)

      abbrev value : List ℕ
      value = last_by (step_in table lasts packet) (get_or lasts (layer_of table packet) []) packet

      stored : layer ≡ layer_of table packet → get_or (set lasts (layer_of table packet) value) layer [] ≡ value
      stored same =
          ap (λ (m : ℕ). get_or (set lasts (layer_of table packet) value) m []) same
          ∙ get_or-set_same lasts (layer_of table packet) value [] (omega (arith, same, h, long))

      on_it : lost_sync (packet_of packet) ≡ false → (same : Bool) → eqb layer (layer_of table packet) ≡ same → (skips : Bool) → is_skipped (packet_of packet) ≡ skips
          → Predecessor table packets (suc k) layer (get_or (set lasts (layer_of table packet) value) layer [])
      on_it sync false e skips s =
          let other : layer ≡ layer_of table packet → ⊥ = eqb-false layer (layer_of table packet) e in
          subst (Predecessor table packets (suc k) layer) (sym (get_or-set_other lasts (layer_of table packet) layer value [] other))
          (extend (λ q c. other (sym c.on ∙ ap (layer_of table) (its_own c))) p)
      on_it sync true e true s =
          let same : layer ≡ layer_of table packet = eqb-true layer (layer_of table packet) e in
          subst (Predecessor table packets (suc k) layer)
          (sym
          (stored same
          ∙ last_by_step (get_or lasts (layer_of table packet) []) packet (get_or lasts (layer_of table packet) []) true s
          ∙ ap (λ (m : ℕ). get_or lasts m []) (sym same)))
          (extend (λ q c. c.read (subst IsSkipped (sym (its_own c)) (skipped_meant packet s))) p)
      on_it sync true e false s =
          let same : layer ≡ layer_of table packet = eqb-true layer (layer_of table packet) e in
          subst (Predecessor table packets (suc k) layer)
          (sym (stored same ∙ last_by_step (get_or lasts (layer_of table packet) []) packet (get_or lasts (layer_of table packet) []) false s))
          (last {j = k} {q = packet} (omega arith)
          (record {
            rest = rest;
            stands = n;
            in_sync = λ l. both_ways (sync_only packet l) sync;
            on = sym same;
            read = λ l. both_ways (skipped_only packet l) s;
          })
          (λ i q l m c. absurd (omega arith)))

      by_tests : (lost on : Bool) → lost_sync (packet_of packet) ≡ lost → on_layer table packet ≡ on
          → Predecessor table packets (suc k) layer (get_or (cond lost lasts (cond on (set lasts (layer_of table packet) value) lasts)) layer [])
      by_tests true on e o = extend (λ q c. c.in_sync (subst LostSync (sym (its_own c)) (sync_meant packet e))) p
      by_tests false true e o = on_it e (eqb layer (layer_of table packet)) refl (is_skipped (packet_of packet)) refl
      by_tests false false e o =
          extend (λ q c. absurd (omega (arith, ltb-false (layer_of table packet) layers o, sym (ap (layer_of table) (its_own c)) ∙ c.on, h))) p

      after_packet : Predecessor table packets (suc k) layer (get_or (packet_lasts table packet lasts) layer [])
      after_packet = by_tests (lost_sync (packet_of packet)) (on_layer table packet) refl refl

    -- the last packets that are kept are the predecessors
    abbrev pub lasts_at : ℕ → List (List ℕ)
    lasts_at k = lasts_to table (take k packets) none_yet

    lasts_long : (k : ℕ) → length (lasts_at k) ≡ layers
    lasts_long k = all_lasts packets k none_yet ∙ length-replicate {A = List ℕ} layers []

    preceded : (k : ℕ) → k ≤ length packets → (layer : ℕ) → layer < layers → Predecessor table packets k layer (get_or (lasts_at k) layer [])
    preceded zero m layer h =
        subst (Predecessor table packets 0 layer) (sym (get_or-replicate layers layer [] [] h)) (none (λ j q l c. absurd (not-suc-le-zero l)))
    preceded (suc k) m layer h = go (get_or packets k broken) (get_d_nth packets k broken (omega arith)) (preceded k (omega arith) layer h)
      where
        go : (item : Item) → Nth packets k item → Predecessor table packets k layer (get_or (lasts_at k) layer [])
            → Predecessor table packets (suc k) layer (get_or (lasts_at (suc k)) layer [])
        go broken n p =
            subst (λ (l : List (List ℕ)). Predecessor table packets (suc k) layer (get_or l layer [])) (sym (lasts_next n none_yet))
            (extend (λ q c. not_broken (nth_one n c.stands)) p)
        go (whole packet rest) n p =
            subst (λ (l : List (List ℕ)). Predecessor table packets (suc k) layer (get_or l layer [])) (sym (lasts_next n none_yet))
            (after_packet n (lasts_at k) (lasts_long k) layer h p)

    -- there is one predecessor
    predecessor_one : {k layer : ℕ} {a b : List ℕ} → Predecessor table packets k layer a → Predecessor table packets k layer b → a ≡ b
    predecessor_one (none f) (none g) = refl
    predecessor_one (none f) (last {j} {q} h c g) = absurd (f j q h c)
    predecessor_one (last {j} {q} h c g) (none f) = absurd (f j q h c)
    predecessor_one {k} {layer} (last {j} {q} h c f) (last {j = i} {q = p} l d g) = go (dec_lt j i) (dec_lt i j)
      where
        go : Dec (j < i) → Dec (i < j) → q ≡ p
        go (yes m) t = absurd (f i p m l d)
        go (no m) (yes t) = absurd (g j q t h c)
        go (no m) (no t) =
            let same : i ≡ j = omega arith in
            same_whole (nth_one c.stands (subst (λ (x : ℕ). Nth packets x (whole p d.rest)) same d.stands))

    -- WHAT A PACKET GIVES, where each whole packet has 188 bytes
    module _ (sized : (k : ℕ) (packet rest : List ℕ) → Nth packets k (whole packet rest) → length packet ≡ packet_bytes) where
      abbrev pub event_at : ℕ → Item → Event
      event_at k item = event_of table k item (lasts_at k)

      abbrev event_by : ℕ → List ℕ → Bool → Bool → Event
      event_by k packet lost on = cond lost (Fault 30) (cond on (step_event (layer_of table packet) k packet (step_in table (lasts_at k) packet)) Nothing)

      pub gives_meant : (k : ℕ) (item : Item) → Nth packets k item → Gives table packets k (event_at k item)
      gives_meant k broken n = last_part n
      gives_meant k (whole packet rest) n = by (lost_sync (packet_of packet)) (on_layer table packet) refl refl
        where
          by : (lost on : Bool) → lost_sync (packet_of packet) ≡ lost → on_layer table packet ≡ on → Gives table packets k (event_by k packet lost on)
          by true on e o = lost_sync_lem n (sync_meant packet e)
          by false true e o =
              on_layer_lem n (λ l. both_ways (sync_only packet l) e) (ltb-true (layer_of table packet) layers o)
              (preceded k (let i = nth_inside n in omega arith) (layer_of table packet) (ltb-true (layer_of table packet) layers o))
              (step_meant (get_or (lasts_at k) (layer_of table packet) []) packet (sized k packet rest n))
          by false false e o = other_pid n (λ l. both_ways (sync_only packet l) e) (ltb-false (layer_of table packet) layers o)

      by_tests_only : (k : ℕ) (packet : List ℕ) {lost on : Bool} → lost_sync (packet_of packet) ≡ lost → on_layer table packet ≡ on
          → packet_event table k packet (lasts_at k) ≡ event_by k packet lost on
      by_tests_only k packet e o = λ i. event_by k packet (e i) (o i)

      in_sync_test : (packet : List ℕ) → (LostSync packet → ⊥) → lost_sync (packet_of packet) ≡ false
      in_sync_test packet f = false_unless (lost_sync (packet_of packet)) (λ e. f (sync_meant packet e))

      pub gives_only : {k : ℕ} {event : Event} {item : Item} → Gives table packets k event → Nth packets k item → event ≡ event_at k item
      gives_only {k} {event} {item} (last_part n) m = ap (λ (x : Item). event_at k x) (nth_one n m)
      gives_only {k} {event} {item} (lost_sync_lem {packet = packet} n l) m =
          sym (by_tests_only k packet (sync_only packet l) refl) ∙ ap (λ (x : Item). event_at k x) (nth_one n m)
      gives_only {k} {event} {item} (other_pid {packet = packet} n f h) m =
          sym (by_tests_only k packet (in_sync_test packet f) (le-ltb (layer_of table packet) layers h)) ∙ ap (λ (x : Item). event_at k x) (nth_one n m)
      gives_only {k} {event} {item} (on_layer_lem {packet = packet} {rest = rest} {before = before} {step = step} n f h p s) m =
          ap (step_event (layer_of table packet) k packet)
          (step_only before packet (sized k packet rest n) s
          ∙ ap (λ (b : List ℕ). step_of b packet) (predecessor_one p (preceded k (let i = nth_inside n in omega arith) (layer_of table packet) h)))
          ∙ sym (by_tests_only k packet (in_sync_test packet f) (lt-ltb (layer_of table packet) layers h))
          ∙ ap (λ (x : Item). event_at k x) (nth_one n m)
