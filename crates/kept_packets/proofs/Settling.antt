-- The last packets of the layers, settled one after another.
-- Assumes nothing.
use Prim.Native.Nat.{ℕ, zero, suc, ◌+◌, ◌-◌, ◌*◌, ◌≤◌, ◌<◌}
use mathlib.Core.Path.{◌≡◌, refl, sym, ap, ap₂, subst, ◌∙◌}
use mathlib.Core.Bool.{Bool, true, false, cond}
use mathlib.Core.List.{List, [], ◌∷◌, ◌++◌, append_assoc}
use native.Mathlib.Decide.{dec_lt}
use native.Mathlib.Nat.{zero-add, suc-add}
use native.Mathlib.Omega.{arith}
use borrow.Author.Tests.{leb-true, leb-false, ne_eqb}
use lib.Dec.{eqb, leb}
use lib.ListN.{length, get_or, set, take, drop, length-set, length-drop, get_or-eq_default}
use lib.Seq.{take-nil, drop-nil, sets, sets-eq, length-sets, take_at, drop_at, take-set-le, drop-set-lt, get_or-set_same, get_or-set_other, length-take-le, ext_get_or}
use Rattle.packets.specs.Reading.{packet_bytes}
use Rattle.scanning.specs.Events.{layers, ending_at, kept_at, last_at, lasts_from, lasts_of, LastWithin, EndsWithin}
use Rattle.scanning.proofs.Looking.{last_at_lem}
use Rattle.kept_packets.specs.Keeping.{kept_after, end_after, Kept}

-- ---- a packet stored at a layer's place, and the places of the others

pub take_sets : (n : ℕ) (l : List ℕ) (at : ℕ) (vs : List ℕ) → n ≤ at → take n (sets l at vs) ≡ take n l
take_sets n l at [] h = refl
take_sets n l at (v ∷ vs) h = take_sets n (set l at v) (suc at) vs (omega arith) ∙ take-set-le n l at v h

drop_sets : (n : ℕ) (l : List ℕ) (at : ℕ) (vs : List ℕ) → at + length vs ≤ n → drop n (sets l at vs) ≡ drop n l
drop_sets n l at [] h = refl
drop_sets n l at (v ∷ vs) h = drop_sets n (set l at v) (suc at) vs (omega (arith, suc-add at (length vs))) ∙ drop-set-lt n l at v (omega arith)

pub part_of : (m n : ℕ) (l : List ℕ) → take n (drop m l) ≡ drop m (take (m + n) l)
part_of zero n l = ap (λ (k : ℕ). take k l) (sym (zero-add n))
part_of (suc m) n [] = take-nil n ∙ sym (ap (drop (suc m)) (take-nil (suc m + n)) ∙ drop-nil (suc m))
part_of (suc m) n (b ∷ l) = part_of m n l ∙ ap (λ (k : ℕ). drop (suc m) (take k (b ∷ l))) (sym (suc-add m n))

kept_here : (kept : List ℕ) (slot : ℕ) (packet : List ℕ) → length packet ≡ packet_bytes → packet_bytes * slot + packet_bytes ≤ length kept
    → kept_at (sets kept (packet_bytes * slot) packet) slot ≡ packet
kept_here kept slot packet e h =
    ap (λ (l : List ℕ). take packet_bytes (drop (packet_bytes * slot) l)) (sets-eq packet kept (packet_bytes * slot) (omega arith))
    ∙ ap (take packet_bytes) (ap (drop (packet_bytes * slot)) (append_assoc (take (packet_bytes * slot) kept) packet rest) ∙ drop_at (take (packet_bytes * slot) kept) (packet ++ rest) (packet_bytes * slot) (length-take-le (packet_bytes * slot) kept (omega arith)))
    ∙ take_at packet rest packet_bytes e
  where
    rest : List ℕ
    rest = drop (packet_bytes * slot + length packet) kept

kept_other : (kept : List ℕ) (slot : ℕ) (packet : List ℕ) → length packet ≡ packet_bytes → (i : ℕ) → (i ≡ slot → ⊥)
    → kept_at (sets kept (packet_bytes * slot) packet) i ≡ kept_at kept i
kept_other kept slot packet e i f = go (dec_lt i slot)
  where
    go : Dec (i < slot) → kept_at (sets kept (packet_bytes * slot) packet) i ≡ kept_at kept i
    go (yes h) =
        part_of (packet_bytes * i) packet_bytes (sets kept (packet_bytes * slot) packet)
        ∙ ap (drop (packet_bytes * i)) (take_sets (packet_bytes * i + packet_bytes) kept (packet_bytes * slot) packet (omega arith))
        ∙ sym (part_of (packet_bytes * i) packet_bytes kept)
    go (no h) = ap (take packet_bytes) (drop_sets (packet_bytes * i) kept (packet_bytes * slot) packet (omega arith))

-- a packet that ends at a place has all its bytes
pub ending_long : (bytes : List ℕ) (end : ℕ) → packet_bytes ≤ end → end ≤ length bytes → length (ending_at bytes end) ≡ packet_bytes
ending_long bytes end h l =
    let left = length-drop (end - packet_bytes) bytes in
    length-take-le (end - (end - packet_bytes)) (drop (end - packet_bytes) bytes) (omega arith) ∙ omega arith

-- ---- one layer

-- what was kept, or is none, needs no bytes
pub low_same : (kept old bytes : List ℕ) (slot end : ℕ) → end ≤ 1 → kept_at kept slot ≡ kept_at old slot → last_at kept [] slot end ≡ last_at old bytes slot end
low_same kept old bytes slot zero h e = refl
low_same kept old bytes slot (suc zero) h e = e
low_same kept old bytes slot (suc (suc n)) h e = absurd (omega arith)

record One (kept old bytes : List ℕ) (slot end : ℕ) (new-kept : List ℕ) (new-end : ℕ) : Type 0 where
  others : (i : ℕ) → (i ≡ slot → ⊥) → kept_at new-kept i ≡ kept_at kept i
  here : last_at new-kept [] slot new-end ≡ last_at old bytes slot end
  low : new-end ≤ 1
  long : length new-kept ≡ length kept

one : (kept old bytes : List ℕ) (slot end : ℕ) → packet_bytes * slot + packet_bytes ≤ length kept → kept_at kept slot ≡ kept_at old slot
    → (1 < end → packet_bytes ≤ end) → (1 < end → end ≤ length bytes) → One kept old bytes slot end (kept_after kept bytes slot end) (end_after end)
one kept old bytes slot end room e whole_one inside = go (leb end 1) refl
  where
    go : (t : Bool) → leb end 1 ≡ t → One kept old bytes slot end (cond t kept (sets kept (packet_bytes * slot) (ending_at bytes end))) (cond t end 1)
    go true t =
        let small = leb-true end 1 t in
        record { others = λ i f. refl; here = low_same kept old bytes slot end small e; low = small; long = refl }
    go false t =
        let large : 1 < end = leb-false end 1 t in
        let long = ending_long bytes end (whole_one large) (inside large) in
        record {
          others = kept_other kept slot (ending_at bytes end) long;
          here = kept_here kept slot (ending_at bytes end) long room
              ∙ sym (ap (λ (u : Bool). cond u (kept_at old slot) (ending_at bytes end)) (ne_eqb end 1 (λ f. omega arith)));
          low = omega arith;
          long = length-sets kept (packet_bytes * slot) (ending_at bytes end);
        }

-- ---- all layers

pub lasts_long : (kept bytes : List ℕ) (from : ℕ) (ends : List ℕ) → length (lasts_from kept bytes from ends) ≡ length ends
lasts_long kept bytes from [] = refl
lasts_long kept bytes from (e ∷ ends) = ap suc (lasts_long kept bytes (suc from) ends)

module _ (old bytes ends₀ : List ℕ) where
  pub record Settling (kept ends : List ℕ) (slot : ℕ) : Type 0 where
    pub inside : slot ≤ layers
    pub long : length kept ≡ length old
    pub as_many : length ends ≡ length ends₀
    pub done : (i : ℕ) → i < slot → last_at kept [] i (get_or ends i 0) ≡ last_at old bytes i (get_or ends₀ i 0)
    pub few : (i : ℕ) → i < slot → get_or ends i 0 ≤ 1
    pub left_ends : (i : ℕ) → slot ≤ i → get_or ends i 0 ≡ get_or ends₀ i 0
    pub left_kept : (i : ℕ) → slot ≤ i → kept_at kept i ≡ kept_at old i

-- what is asked of the buffer and of the places
module _ (old bytes ends₀ : List ℕ) (asked : (packet_bytes * layers ≤ length old) × (length ends₀ ≡ layers) × EndsWithin old bytes ends₀) where
  room : packet_bytes * layers ≤ length old
  room = asked.0

  many : length ends₀ ≡ layers
  many = asked.1

  within : EndsWithin old bytes ends₀
  within = asked.2

  pub settling_start : Settling old bytes ends₀ old ends₀ 0
  settling_start =
      record {
        inside = omega arith;
        long = refl;
        as_many = refl;
        done = λ i l. absurd (omega arith);
        few = λ i l. absurd (omega arith);
        left_ends = λ i l. refl;
        left_kept = λ i l. refl;
      }

  -- what one layer asks
  pub settling_room : {kept ends : List ℕ} {slot : ℕ} → Settling old bytes ends₀ kept ends slot → slot < layers → packet_bytes * slot + packet_bytes ≤ length kept
  settling_room {kept} {ends} {slot} w h = omega (arith, w.long, room)

  pub settling_within : {kept ends : List ℕ} {slot : ℕ} → Settling old bytes ends₀ kept ends slot → slot < layers → LastWithin kept bytes slot (get_or ends slot 0)
  settling_within {kept} {ends} {slot} w h =
      let e : get_or ends slot 0 ≡ get_or ends₀ slot 0 = w.left_ends slot (omega arith) in
      record {
        of_kept = λ f. settling_room w h;
        whole_one = λ l. subst (λ (n : ℕ). packet_bytes ≤ n) (sym e) ((within slot).whole_one (subst (λ (n : ℕ). 1 < n) e l));
        inside = λ l. subst (λ (n : ℕ). n ≤ length bytes) (sym e) ((within slot).inside (subst (λ (n : ℕ). 1 < n) e l));
      }

  pub settling_turn : {kept ends new-kept new-ends : List ℕ} {slot new-end : ℕ} → Settling old bytes ends₀ kept ends slot → slot < layers
      → new-end ≡ end_after (get_or ends slot 0) → new-kept ≡ kept_after kept bytes slot (get_or ends slot 0) → new-ends ≡ set ends slot new-end
      → Settling old bytes ends₀ new-kept new-ends (slot + 1)
  settling_turn {kept} {ends} {new-kept} {new-ends} {slot} {new-end} w h e k s =
      record {
        inside = omega arith;
        long = o.long ∙ w.long;
        as_many = ap length s ∙ length-set ends slot new-end ∙ w.as_many;
        done = λ i l. at i l (dec_lt i slot);
        few = λ i l. small i l (dec_lt i slot);
        left_ends = λ i l. other_end i (λ f. omega arith) ∙ w.left_ends i (omega arith);
        left_kept = λ i l. o.others i (λ f. omega arith) ∙ w.left_kept i (omega arith);
      }
    where
      q : LastWithin kept bytes slot (get_or ends slot 0)
      q = settling_within w h

      o : One kept old bytes slot (get_or ends slot 0) new-kept new-end
      o =
          subst (λ (n : ℕ). One kept old bytes slot (get_or ends slot 0) new-kept n) (sym e)
          (subst (λ (l : List ℕ). One kept old bytes slot (get_or ends slot 0) l (end_after (get_or ends slot 0))) (sym k)
          (one kept old bytes slot (get_or ends slot 0) (settling_room w h) (w.left_kept slot (omega arith)) q.whole_one q.inside))

      other_end : (i : ℕ) → (i ≡ slot → ⊥) → get_or new-ends i 0 ≡ get_or ends i 0
      other_end i f = ap (λ (l : List ℕ). get_or l i 0) s ∙ get_or-set_other ends slot i new-end 0 f

      this_end : get_or new-ends slot 0 ≡ new-end
      this_end = ap (λ (l : List ℕ). get_or l slot 0) s ∙ get_or-set_same ends slot new-end 0 (omega (arith, w.as_many, many))

      at : (i : ℕ) → i < slot + 1 → Dec (i < slot) → last_at new-kept [] i (get_or new-ends i 0) ≡ last_at old bytes i (get_or ends₀ i 0)
      at i l (yes m) =
          ap₂ (λ (n : ℕ) (c : List ℕ). cond (eqb n 1) c (ending_at [] n)) (other_end i (λ f. omega arith)) (o.others i (λ f. omega arith)) ∙ w.done i m
      at i l (no m) =
          let this : i ≡ slot = omega arith in
          subst (λ (j : ℕ). last_at new-kept [] j (get_or new-ends j 0) ≡ last_at old bytes j (get_or ends₀ j 0)) (sym this)
          (ap (last_at new-kept [] slot) this_end ∙ o.here ∙ ap (last_at old bytes slot) (w.left_ends slot (omega arith)))

      small : (i : ℕ) → i < slot + 1 → Dec (i < slot) → get_or new-ends i 0 ≤ 1
      small i l (yes m) = subst (λ (n : ℕ). n ≤ 1) (sym (other_end i (λ f. omega arith))) (w.few i m)
      small i l (no m) =
          let this : i ≡ slot = omega arith in
          subst (λ (j : ℕ). get_or new-ends j 0 ≤ 1) (sym this) (subst (λ (n : ℕ). n ≤ 1) (sym this_end) o.low)

  pub settling_end : {kept ends : List ℕ} {slot : ℕ} → Settling old bytes ends₀ kept ends slot → layers ≤ slot → Kept old bytes ends₀ kept ends
  settling_end {kept} {ends} {slot} w h =
      record {
        same = ext_get_or [] (lasts_of kept [] ends) (lasts_of old bytes ends₀) (lasts_long kept [] 0 ends ∙ w.as_many ∙ sym (lasts_long old bytes 0 ends₀))
            (λ i l. last_at_lem kept [] ends i ∙ w.done i (below i (subst (λ (n : ℕ). i < n) (lasts_long kept [] 0 ends) l)) ∙ sym (last_at_lem old bytes ends₀ i));
        few = few;
        within = λ i. record { of_kept = λ e. room_at i e; whole_one = λ l. absurd (omega (arith, few i)); inside = λ l. absurd (omega (arith, few i)) };
        long = w.long;
        as_many = w.as_many;
      }
    where
      below : (i : ℕ) → i < length ends → i < slot
      below i l = omega (arith, w.as_many, many)

      past : (i : ℕ) → length ends ≤ i → ◌≡◌ {A = ℕ} (get_or ends i 0) 0
      past i l = get_or-eq_default ends 0 {n = i} l

      few : (i : ℕ) → get_or ends i 0 ≤ 1
      few i = go (dec_lt i (length ends))
        where
          go : Dec (i < length ends) → get_or ends i 0 ≤ 1
          go (yes l) = w.few i (below i l)
          go (no l) = subst (λ (n : ℕ). n ≤ 1) (sym (past i (omega arith))) (omega arith)

      room_at : (i : ℕ) → get_or ends i 0 ≡ 1 → packet_bytes * i + packet_bytes ≤ length kept
      room_at i e = go (dec_lt i (length ends))
        where
          go : Dec (i < length ends) → packet_bytes * i + packet_bytes ≤ length kept
          go (yes l) = omega (arith, w.as_many, many, w.long, room)
          go (no l) = absurd (omega (arith, e, past i (omega arith)))
