-- What stands at the places that were found is what the payloads have: the values of the points, the profile structures and the counts.
-- Assumes nothing.
use Rattle.std.specs.Prelude.{Err, None, Ok, Some}
use Prim.Native.Nat.{ℕ, zero, suc, ◌+◌, ◌-◌, ◌*◌, ◌/◌, ◌≤◌, ◌<◌}
use mathlib.Core.Bool.{Bool, true, false, cond, ◌&&◌}
use mathlib.Core.List.{List, [], ◌∷◌, ◌++◌, map, map-append, append_assoc}
use mathlib.Core.Path.{◌≡◌, refl, sym, ap, ap₂, ◌∙◌, subst}
use mathlib.Core.Logic.{◌⊎◌, inl, inr}
use native.Mathlib.Nat.{add_assoc, not-suc-le-zero, sub-zero}
use native.Mathlib.Omega.{arith}
use borrow.Author.Tests.{le-leb, leb-true}
use lib.Dec.{eqb, leb}
use lib.ListN.{length, get_or, take, drop, length-append, length-drop, take-append-drop}
use lib.Seq.{drop-drop, drop_at, length-take-le, get_or-drop}
use Rattle.combinators.specs.Lists.{gather}
use Rattle.framing.specs.Pieces.{Item, Cuts, nothing_left, does_not_fit, piece}
use Rattle.framing.proofs.Pieces.{cut_cuts}
use Rattle.syntax.specs.Table.{AreBytes}
use Rattle.syntax.specs.Named.{given_to, by_names, read_by}
use Rattle.syntax.proofs.Laws.{read_before}
use Rattle.descriptor_heads.specs.Head.{descriptor_tag, descriptor_length}
use Rattle.descriptor_heads.proofs.Heads.{by_tag}
use Rattle.operation_points.specs.Parts.{Part, Walked, walked}
use Rattle.operation_points.specs.Tables.{head_syntax, point_syntax, point_head}
use Rattle.operation_points.specs.declared.Head.{Head}
use Rattle.operation_points.specs.Answer.{HeadRead, FirstPoint, Filling}
use Rattle.operation_points.specs.declared.Point.{Point}
use Rattle.operation_points.specs.declared.PointFault.TheVariants.{DoesNotFit, ReservedCount}
use Rattle.operation_points.specs.Points.{head_from, head_of, is_reserved, point_from, first_point, filling_by, points_filling, filling_after, filling_of}
use Rattle.operation_points.specs.Values.{PointValue, point_value, points_by, each_point, profiles_in, value_after, value_of, counts_of, reference_in, flags_in, frame_rate_of, bit_rate_of}
use Rattle.operation_points.proofs.Parsed.{walk_grows, walk_parses, parses_walk}
use Rattle.operation_points.proofs.Judging.{read_within, head_within, lists_within, profiles_between}
use Rattle.point_descriptors.specs.Descriptors.{descriptors_of, each, is_points, payload_if, filling_if, filling_in, worst, payload_place, places_by, point_places, point_places_after, point_places_in, point_places_if}
use Rattle.point_descriptors.proofs.Adding.{has_body}
use Rattle.program_points.specs.Places.{point_or, head_or, value_at, profiles_at, counts_at, IsPoint, IsPayload}

-- ---- more bytes behind

front_more : (k : ℕ) (left rest : List ℕ) → k ≤ length left → take k (left ++ rest) ≡ take k left
front_more zero left rest h = refl
front_more (suc k) [] rest h = absurd (not-suc-le-zero h)
front_more (suc k) (x ∷ left) rest h = ap (λ (l : List ℕ). x ∷ l) (front_more k left rest (omega arith))

part_more : (n k : ℕ) (left rest : List ℕ) → n + k ≤ length left → take k (drop n (left ++ rest)) ≡ take k (drop n left)
part_more zero k left rest h = front_more k left rest (omega arith)
part_more (suc n) k [] rest h = let z : suc n + k ≤ 0 = h in absurd (omega arith)
part_more (suc n) k (x ∷ left) rest h = part_more n k left rest (omega arith)

drop_more : (n : ℕ) (left rest : List ℕ) → n ≤ length left → drop n (left ++ rest) ≡ drop n left ++ rest
drop_more zero left rest h = refl
drop_more (suc n) [] rest h = absurd (not-suc-le-zero h)
drop_more (suc n) (x ∷ left) rest h = drop_more n left rest (omega arith)

module _ (left rest : List ℕ) where
  longer : length (left ++ rest) ≡ length left + length rest
  longer = length-append left rest

  walk_more : (parts : List Part) → (walked parts [] 0 left).end ≤ length left → walked parts [] 0 (left ++ rest) ≡ walked parts [] 0 left
  walk_more parts h =
      let end : ℕ = (walked parts [] 0 left).end in
      let whole_part : take (end - 0) left ≡ take end left = ap (λ (n : ℕ). take n left) (sub-zero end) in
      let split : left ++ rest ≡ take (end - 0) left ++ (drop end left ++ rest) =
      ap (λ (l : List ℕ). l ++ rest) (sym (take-append-drop end left)) ∙ append_assoc (take end left) (drop end left) rest
      ∙ ap (λ (l : List ℕ). l ++ (drop end left ++ rest)) (sym whole_part) in
      parses_walk (drop end left ++ rest) (left ++ rest) split (walk_parses left parts [] 0 h)
      ∙ ap (λ (n : ℕ). record { end = n; given = (walked parts [] 0 left).given }) (ap length whole_part ∙ length-take-le end left h)

  reserved_more : 2 ≤ length left → is_reserved (left ++ rest) ≡ is_reserved left
  reserved_more h =
      ap₂ (λ (a : Bool) (n : ℕ). a && eqb n 0xFF) (le-leb 2 (length (left ++ rest)) (omega (arith, longer)) ∙ sym (le-leb 2 (length left) h))
      (ap (λ (vs : List ℕ). given_to "ES_count" (by_names point_head vs)) (read_before point_head left rest h))

  pub read_more : (point : Point) → first_point left ≡ Ok point → first_point (left ++ rest) ≡ Ok point
  unfolding first_point
  read_more point = go (is_reserved left) refl (leb (walked point_syntax [] 0 left).end (length left)) refl
    where
      go : (r : Bool) → is_reserved left ≡ r → (f : Bool) → leb (walked point_syntax [] 0 left).end (length left) ≡ f
          → cond r (Err ReservedCount) (cond f (Ok (point_from (walked point_syntax [] 0 left))) (Err DoesNotFit)) ≡ Ok point → first_point (left ++ rest) ≡ Ok point
      go true p f q e = let z : ◌≡◌ {A = ℕ} 0 1 = cc in absurd (omega arith)
      go false p false q e = let z : ◌≡◌ {A = ℕ} 0 1 = cc in absurd (omega arith)
      go false p true q e =
          let h = leb-true (walked point_syntax [] 0 left).end (length left) q in
          let two : 2 ≤ (walked point_syntax [] 0 left).end = head_first in
          let same = walk_more point_syntax h in
          let still : leb (walked point_syntax [] 0 left).end (length (left ++ rest)) ≡ true = le-leb (walked point_syntax [] 0 left).end (length (left ++ rest)) (omega (arith, longer)) in
          ap₂ (λ (b : Bool) (w : Walked). cond b (Err ReservedCount) (cond (leb w.end (length (left ++ rest))) (Ok (point_from w)) (Err DoesNotFit)))
          (reserved_more (omega arith) ∙ p) same
          ∙ ap (λ (b : Bool). cond b (Ok (point_from (walked point_syntax [] 0 left))) (Err DoesNotFit)) still
          ∙ e
        where
          head_first : 2 ≤ (walked point_syntax [] 0 left).end
          head_first = grows point_syntax refl
            where
              grows : (parts : List Part) → parts ≡ point_syntax → 2 ≤ (walked parts [] 0 left).end
              grows parts e =
                  subst (λ (ps : List Part). 2 ≤ (walked ps [] 0 left).end) (sym e)
                  (walk_grows (tail point_syntax) ([] ++ read_by point_head (drop 0 left)) (0 + 2) left)
                where
                  tail : List Part → List Part
                  tail [] = []
                  tail (p ∷ ps) = ps

  pub head_more : (head : Head) → head_of left ≡ Some head → head_of (left ++ rest) ≡ Some head
  unfolding head_of
  head_more head = go (leb (walked head_syntax [] 0 left).end (length left)) refl
    where
      go : (f : Bool) → leb (walked head_syntax [] 0 left).end (length left) ≡ f
          → cond f (Some (head_from (walked head_syntax [] 0 left))) None ≡ Some head → head_of (left ++ rest) ≡ Some head
      go false q e = let z : ◌≡◌ {A = ℕ} 0 1 = cc in absurd (omega arith)
      go true q e =
          let h = leb-true (walked head_syntax [] 0 left).end (length left) q in
          let still : leb (walked head_syntax [] 0 left).end (length (left ++ rest)) ≡ true = le-leb (walked head_syntax [] 0 left).end (length (left ++ rest)) (omega (arith, longer)) in
          ap (λ (w : Walked). cond (leb w.end (length (left ++ rest))) (Some (head_from w)) None) (walk_more head_syntax h)
          ∙ ap (λ (b : Bool). cond b (Some (head_from (walked head_syntax [] 0 left))) None) still
          ∙ e

-- ---- a point's value is its own bytes'

value_more : (left rest : List ℕ) → AreBytes left → (point : Point) → first_point left ≡ Ok point → point_value point (left ++ rest) ≡ point_value point left
value_more left rest b point e =
    let w = lists_within left b point e in
    let inside = read_within left point e in
    ap₂ (λ (r f : List ℕ). record {
      target_ols = point.target_ols;
      references = map reference_in r;
      layers = map flags_in f;
      temporal_id = point.applicable_temporal_id;
      frame_rate = frame_rate_of point.constant_frame_rate_info_idc point.frame_rate_indicator;
      average = bit_rate_of point.avg_bit_rate_info_flag point.avg_bit_rate;
      maximum = bit_rate_of point.max_bit_rate_info_flag point.max_bit_rate;
    })
    (part_more 2 point.es_count left rest (omega (arith, w.references, w.layer_flags)))
    (part_more point.flags_at point.num_es_in_op left rest (omega (arith, w.layer_flags)))

-- ---- every one of a list

abbrev pub Every : (ℕ → Type 0) → List ℕ → Type 0
Every P [] = Unit {0}
Every P (x ∷ l) = P x × Every P l

every_append : (P : ℕ → Type 0) (a b : List ℕ) → Every P a → Every P b → Every P (a ++ b)
every_append P [] b p q = q
every_append P (x ∷ a) b p q = (p.0, every_append P a b p.1 q)

pub every_at : (P : ℕ → Type 0) (l : List ℕ) → Every P l → (k : ℕ) → k < length l → P (get_or l k 0)
every_at P [] e k h = absurd (not-suc-le-zero h)
every_at P (x ∷ l) e zero h = e.0
every_at P (x ∷ l) e (suc k) h = every_at P l e.1 k (omega arith)

bytes_behind : (l : List ℕ) (at : ℕ) → AreBytes l → AreBytes (drop at l)
bytes_behind l at b i = subst (λ (n : ℕ). n < 256) (sym (get_or-drop at l i 0)) (b (at + i))

-- ---- the points of a payload

module _ (program : List ℕ) where
  -- what is told of a list of places, and that a point stands at each
  pub record Told (places : List ℕ) (values : List PointValue) : Type 0 where
    pub stand : Every (IsPoint program) places
    pub values_are : map (value_at program) places ≡ values

  points_stand : (count at : ℕ) (left rest : List ℕ) → AreBytes left → drop at program ≡ left ++ rest → Told (point_places count at left) (each_point point_value count left)
  points_stand zero at left rest b e = record { stand = tt; values_are = refl }
  points_stand (suc count) at left rest b e =
      go (first_point left) refl (λ size h. points_stand count (at + size) (drop size left) rest (bytes_behind left size b) (sym (drop-drop size at program) ∙ ap (drop size) e ∙ drop_more size left rest h))
    where
      go : (a : FirstPoint) → first_point left ≡ a
          → ((size : ℕ) → size ≤ length left → Told (point_places count (at + size) (drop size left)) (each_point point_value count (drop size left)))
          → Told (places_by a at (λ size. point_places count (at + size) (drop size left))) (points_by a (λ point. point_value point left) (λ size. each_point point_value count (drop size left)))
      go (Ok point) p later =
          let here : first_point (drop at program) ≡ Ok point = ap first_point e ∙ read_more left rest point p in
          let others = later point.size (read_within left point p) in
          record {
            stand = (record { point = point; reads = here }, others.stand);
            values_are = ap₂ (λ (v : PointValue) (vs : List PointValue). v ∷ vs)
                (ap₂ (λ (a : FirstPoint) (l : List ℕ). point_value (point_or a) l) here e ∙ value_more left rest b point p)
                others.values_are;
          }
      go (Err DoesNotFit) p later = record { stand = tt; values_are = refl }
      go (Err ReservedCount) p later = record { stand = tt; values_are = refl }

  -- as many as the head counts, where they fill it
  points_many : (count : ℕ) (left : List ℕ) → points_filling count left ≡ Ok tt → length (each_point point_value count left) ≡ count
  points_many zero left e = refl
  points_many (suc count) left e = go (first_point left) (λ size f. points_many count (drop size left) f) e
    where
      go : (a : FirstPoint) → ((size : ℕ) → points_filling count (drop size left) ≡ Ok tt → length (each_point point_value count (drop size left)) ≡ count)
          → filling_by a (λ size. points_filling count (drop size left)) ≡ Ok tt
          → length (points_by a (λ point. point_value point left) (λ size. each_point point_value count (drop size left))) ≡ suc count
      go (Ok point) later e = ap suc (later point.size e)
      go (Err DoesNotFit) later e = let z : ◌≡◌ {A = ℕ} 0 1 = cc in absurd (omega arith)
      go (Err ReservedCount) later e = let z : ◌≡◌ {A = ℕ} 0 1 = cc in absurd (omega arith)

  -- ---- one payload

  pub record OnePayload (at : ℕ) (payload : List ℕ) : Type 0 where
    pub is_payload : IsPayload program at
    pub profiles_are : profiles_at program at ≡ (value_of payload).profiles
    pub counts_are : counts_at program at ≡ counts_of (value_of payload)
    pub points_are : Told (point_places_in at payload) (value_of payload).points

  payload_stands : (at : ℕ) (payload rest : List ℕ) → AreBytes payload → drop at program ≡ payload ++ rest → filling_of payload ≡ Ok tt → OnePayload at payload
  payload_stands at payload rest b e = go (head_of payload) refl
    where
      go : (a : HeadRead) → head_of payload ≡ a → filling_after a payload ≡ Ok tt → OnePayload at payload
      go None p f = let z : ◌≡◌ {A = ℕ} 0 1 = cc in absurd (omega arith)
      go (Some head) p f =
          let here : head_of (drop at program) ≡ Some head = ap head_of e ∙ head_more payload rest head p in
          let inside = head_within payload head p in
          let between = profiles_between payload b head p in
          let room : 1 + head.num_ptl * 12 ≤ length payload = omega (arith, inside, between) in
          let long : length (profiles_in head payload) ≡ head.num_ptl * 12 =
          length-take-le (head.num_ptl * 12) (drop 1 payload) (omega (arith, length-drop 1 payload, room)) in
          let by_twelve : head.num_ptl * 12 / 12 ≡ head.num_ptl = omega arith in
          let told = points_stand head.operation_points_count (at + head.points_at) (drop head.points_at payload) rest (bytes_behind payload head.points_at b)
          (sym (drop-drop head.points_at at program) ∙ ap (drop head.points_at) e ∙ drop_more head.points_at payload rest inside) in
          record {
            is_payload = record { head = head; reads = here };
            profiles_are = ap₂ (λ (a : HeadRead) (l : List ℕ). profiles_in (head_or a) l) here e
                ∙ part_more 1 (head.num_ptl * 12) payload rest room
                ∙ sym (ap (λ (a : HeadRead). (value_after a payload).profiles) p);
            counts_are = ap (λ (a : HeadRead). (head_or a).num_ptl ∷ (head_or a).operation_points_count ∷ []) here
                ∙ ap₂ (λ (m n : ℕ). m ∷ n ∷ []) (sym (ap (λ (n : ℕ). n / 12) long ∙ by_twelve))
                (sym (points_many head.operation_points_count (drop head.points_at payload) f))
                ∙ sym (ap (λ (a : HeadRead). counts_of (value_after a payload)) p);
            points_are = subst (λ (a : HeadRead). Told (point_places_after a at payload) (value_after a payload).points) (sym p) told;
          }

  -- ---- all of them

  pub record AllStand (places : List ℕ) (payloads : List (List ℕ)) (points : List ℕ) : Type 0 where
    pub payloads_stand : Every (IsPayload program) places
    pub points_stand_there : Every (IsPoint program) points
    pub profiles_same : gather (profiles_at program) places ≡ gather (λ value. value.profiles) (map value_of payloads)
    pub counts_same : gather (counts_at program) places ≡ gather counts_of (map value_of payloads)
    pub values_same : map (value_at program) points ≡ gather (λ value. value.points) (map value_of payloads)

  none_stand : AllStand [] [] []
  none_stand = record { payloads_stand = tt; points_stand_there = tt; profiles_same = refl; counts_same = refl; values_same = refl }

  one_more : {at : ℕ} {payload : List ℕ} {places : List ℕ} {payloads : List (List ℕ)} {points : List ℕ} → OnePayload at payload → AllStand places payloads points
      → AllStand (at ∷ places) (payload ∷ payloads) (point_places_in at payload ++ points)
  one_more {at} {payload} {places} {payloads} {points} one all =
      record {
        payloads_stand = (one.is_payload, all.payloads_stand);
        points_stand_there = every_append (IsPoint program) (point_places_in at payload) points one.points_are.stand all.points_stand_there;
        profiles_same = ap₂ (λ (a b : List ℕ). a ++ b) one.profiles_are all.profiles_same;
        counts_same = ap₂ (λ (a b : List ℕ). a ++ b) one.counts_are all.counts_same;
        values_same = map-append (value_at program) (point_places_in at payload) points
            ∙ ap₂ (λ (a b : List PointValue). a ++ b) one.points_are.values_are all.values_same;
      }

  -- neither 40 nor 41 applies to the first, nor to any behind it
  after_inexact : (others : List Filling) → worst (Err DoesNotFit) others ≡ Err DoesNotFit
  after_inexact [] = refl
  after_inexact (x ∷ others) = after_inexact others

  after_reserved : (others : List Filling) → (worst (Err ReservedCount) others ≡ Err ReservedCount) ⊎ (worst (Err ReservedCount) others ≡ Err DoesNotFit)
  after_reserved [] = inl refl
  after_reserved (Err DoesNotFit ∷ others) = inr (after_inexact others)
  after_reserved (Ok tt ∷ others) = after_reserved others
  after_reserved (Err ReservedCount ∷ others) = after_reserved others

  stays : (f : Filling) (others : List Filling) → worst f others ≡ Ok tt → (f ≡ Ok tt) × (worst (Ok tt) others ≡ Ok tt)
  stays (Ok _) others e = (refl, e)
  stays (Err DoesNotFit) others e = let p = after_inexact others in let z : ◌≡◌ {A = ℕ} 0 1 = cc in absurd (omega arith)
  stays (Err ReservedCount) others e = go (after_reserved others)
    where
      go : (worst (Err ReservedCount) others ≡ Err ReservedCount) ⊎ (worst (Err ReservedCount) others ≡ Err DoesNotFit) → (◌≡◌ {A = Filling} (Err ReservedCount) (Ok tt)) × (worst (Ok tt) others ≡ Ok tt)
      go (inl p) = let z : ◌≡◌ {A = ℕ} 0 1 = cc in absurd (omega arith)
      go (inr p) = let z : ◌≡◌ {A = ℕ} 0 1 = cc in absurd (omega arith)

  all_stand_from : {l : List ℕ} {items : List Item} → Cuts 2 descriptor_length l items → (at : ℕ) → drop at program ≡ l → AreBytes l
      → worst (Ok tt) (map filling_in items) ≡ Ok tt → AllStand (each payload_place at items) (each payload_if at items) (each point_places_if at items)
  all_stand_from nothing_left at e b w = none_stand
  all_stand_from (does_not_fit h f) at e b w = none_stand
  all_stand_from (piece {head} {body} {rest} {items} eh eb c) at e b w =
      let two = stays (filling_if (descriptor_tag head) body) (map filling_in items) w in
      let behind_head : drop 2 (head ++ (body ++ rest)) ≡ body ++ rest = drop_at head (body ++ rest) 2 eh in
      let at_body : drop (at + 2) program ≡ body ++ rest = sym (drop-drop 2 at program) ∙ ap (drop 2) e ∙ behind_head in
      let later : drop (at + (2 + length body)) program ≡ rest =
      ap (λ (n : ℕ). drop n program) (sym (add_assoc at 2 (length body))) ∙ sym (drop-drop (length body) (at + 2) program) ∙ ap (drop (length body)) at_body ∙ drop_at body rest (length body) refl in
      let bytes_body : AreBytes (body ++ rest) = subst AreBytes behind_head (bytes_behind (head ++ (body ++ rest)) 2 b) in
      let bytes_rest : AreBytes rest = subst AreBytes (drop_at body rest (length body) refl) (bytes_behind (body ++ rest) (length body) bytes_body) in
      go (is_points (descriptor_tag head) body) refl two at_body bytes_body (all_stand_from c (at + (2 + length body)) later bytes_rest two.1)
    where
      go : (p : Bool) → is_points (descriptor_tag head) body ≡ p → (filling_if (descriptor_tag head) body ≡ Ok tt) × (worst (Ok tt) (map filling_in items) ≡ Ok tt)
          → drop (at + 2) program ≡ body ++ rest → AreBytes (body ++ rest)
          → AllStand (each payload_place (at + (2 + length body)) items) (each payload_if (at + (2 + length body)) items) (each point_places_if (at + (2 + length body)) items)
          → AllStand (cond p ((at + 3) ∷ []) [] ++ each payload_place (at + (2 + length body)) items)
          (cond p (drop 1 body ∷ []) [] ++ each payload_if (at + (2 + length body)) items)
          (cond p (point_places_in (at + 3) (drop 1 body)) [] ++ each point_places_if (at + (2 + length body)) items)
      go true p two at_body bytes_body others =
          let some = has_body (descriptor_tag head) body p in
          let exact : filling_of (drop 1 body) ≡ Ok tt = sym (ap (λ (x : Bool). cond x (filling_of (drop 1 body)) (Ok tt)) p) ∙ two.0 in
          let at_payload : drop (at + 3) program ≡ drop 1 body ++ rest =
          sym (ap (λ (n : ℕ). drop n program) (add_assoc at 2 1)) ∙ sym (drop-drop 1 (at + 2) program) ∙ ap (drop 1) at_body ∙ drop_more 1 body rest some in
          one_more (payload_stands (at + 3) (drop 1 body) rest (bytes_front (drop 1 body) rest (subst AreBytes (drop_more 1 body rest some) (bytes_behind (body ++ rest) 1 bytes_body))) at_payload exact) others
        where
          bytes_front : (a c : List ℕ) → AreBytes (a ++ c) → AreBytes a
          bytes_front [] c h i = omega arith
          bytes_front (x ∷ a) c h zero = h zero
          bytes_front (x ∷ a) c h (suc i) = bytes_front a c (λ j. h (suc j)) i
      go false p two at_body bytes_body others = others

  -- ALL OF A LOOP that is neither 40 nor 41
  pub all_stand : AreBytes program → worst (Ok tt) (map filling_in (descriptors_of program)) ≡ Ok tt
      → AllStand (each payload_place 0 (descriptors_of program)) (each payload_if 0 (descriptors_of program)) (each point_places_if 0 (descriptors_of program))
  all_stand b w = all_stand_from (cut_cuts 2 descriptor_length (omega arith) by_tag program) 0 refl b w
