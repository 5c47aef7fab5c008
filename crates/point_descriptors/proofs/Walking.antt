-- The pass through a program's loop: what is left of the bytes, and what was kept of the descriptors before them.
-- Assumes nothing.
use Rattle.std.specs.Prelude.{Err, None, Ok, Some}
use Prim.Native.Nat.{ℕ, zero, suc, ◌+◌, ◌-◌, ◌*◌, ◌≤◌, ◌<◌}
use mathlib.Core.Bool.{Bool, true, false, cond}
use mathlib.Core.List.{List, [], ◌∷◌, ◌++◌, map, append_assoc, append-nil}
use mathlib.Core.Path.{◌≡◌, refl, sym, ap, ap₂, ◌∙◌, subst}
use native.Mathlib.Nat.{add-sub_cancel_left}
use native.Mathlib.Numerals.{add-one}
use native.Mathlib.Omega.{arith}
use borrow.Author.Tests.{lt-ltb, le-ltb}
use lib.ListN.{length, take, drop, length-append, length-drop, drop_of_length-le}
use lib.Seq.{sets, drop-drop, length-take-le, get_or-drop}
use Rattle.combinators.specs.Padding.{pad_to, store_pad_to, length_pad_to}
use Rattle.framing.specs.Pieces.{Item, whole, broken, cut_broken, cut_piece}
use Rattle.syntax.specs.Table.{AreBytes}
use Rattle.descriptor_heads.specs.Head.{descriptor_tag, descriptor_length}
use Rattle.descriptor_heads.proofs.Heads.{tag_alone}
use Rattle.operation_points.specs.declared.Head.{Head}
use Rattle.operation_points.specs.Answer.{HeadRead, FirstPoint, Filling}
use Rattle.operation_points.specs.declared.PointFault.TheVariants.{DoesNotFit, ReservedCount}
use Rattle.operation_points.specs.Points.{head_of, first_point, filling_of}
use Rattle.operation_points.proofs.Judging.{read_within, head_within}
use Rattle.point_descriptors.specs.declared.Found.{Found}
use Rattle.point_descriptors.specs.Held.{Held}
use Rattle.point_descriptors.specs.Descriptors.{descriptors_of, each, is_points, filling_if, filling_in, worse, worst, too_long, payload_place, places_by, point_places, point_places_after, point_places_in, point_places_if, payloads_at, points_at, no_places, found_with, found_in}
use Rattle.point_descriptors.proofs.Adding.{has_body, point_long}

-- ---- an array filled from the front, and more put behind

sets_pad_to : (n : ℕ) (l more : List ℕ) → length l + length more ≤ n → sets (pad_to n 0 l) (length l) more ≡ pad_to n 0 (l ++ more)
sets_pad_to n l [] h = ap (pad_to n 0) (sym (append-nil l))
sets_pad_to n l (x ∷ more) h =
    let longer : length (l ++ (x ∷ [])) ≡ suc (length l) = length-append l (x ∷ []) ∙ add-one (length l) in
    ap (λ (k : List ℕ). sets k (suc (length l)) more) (store_pad_to n 0 x l (length l) refl (omega arith))
    ∙ ap (λ (k : ℕ). sets (pad_to n 0 (l ++ (x ∷ []))) k more) (sym longer)
    ∙ sets_pad_to n (l ++ (x ∷ [])) more (omega (arith, longer))
    ∙ ap (pad_to n 0) (append_assoc l (x ∷ []) more)

-- ---- what is found takes room in the bytes

bytes_behind : (l : List ℕ) (at : ℕ) → AreBytes l → AreBytes (drop at l)
bytes_behind l at b i = subst (λ (n : ℕ). n < 256) (sym (get_or-drop at l i 0)) (b (at + i))

points_short : (count at : ℕ) (left : List ℕ) → AreBytes left → 3 * length (point_places count at left) ≤ length left
points_short zero at left b = omega arith
points_short (suc count) at left b =
    go (first_point left) refl (λ size. points_short count (at + size) (drop size left) (bytes_behind left size b))
  where
    go : (a : FirstPoint) → first_point left ≡ a → ((size : ℕ) → 3 * length (point_places count (at + size) (drop size left)) ≤ length (drop size left))
        → 3 * length (places_by a at (λ size. point_places count (at + size) (drop size left))) ≤ length left
    go (Ok point) e later =
        omega (arith, later point.size, point_long left b point e, read_within left point e, length-drop point.size left)
    go (Err DoesNotFit) e later = omega arith
    go (Err ReservedCount) e later = omega arith

payload_short : (base : ℕ) (payload : List ℕ) → AreBytes payload → 3 * length (point_places_in base payload) ≤ length payload
payload_short base payload b = go (head_of payload) refl
  where
    go : (a : HeadRead) → head_of payload ≡ a → 3 * length (point_places_after a base payload) ≤ length payload
    go None e = omega arith
    go (Some head) e =
        omega (
          arith,
          points_short head.operation_points_count (base + head.points_at) (drop head.points_at payload) (bytes_behind payload head.points_at b),
          length-drop head.points_at payload,
          head_within payload head e,
        )

pub points_take : (at tag : ℕ) (body : List ℕ) → AreBytes body → 3 * length (point_places_if at tag body) ≤ 2 + length body
points_take at tag body b = go (is_points tag body)
  where
    go : (c : Bool) → 3 * length (cond c (point_places_in (at + 3) (drop 1 body)) []) ≤ 2 + length body
    go true = omega (arith, payload_short (at + 3) (drop 1 body) (bytes_behind body 1 b), length-drop 1 body)
    go false = omega arith

pub payload_takes : (at tag : ℕ) (body : List ℕ) → 3 * length (payload_place at tag body) ≤ 2 + length body
payload_takes at tag body = go (is_points tag body) (has_body tag body)
  where
    go : (c : Bool) → (c ≡ true → 0 < length body) → 3 * length (cond c ((at + 3) ∷ []) []) ≤ 2 + length body
    go true f = omega (arith, f refl)
    go false f = omega arith

-- ---- one descriptor off the front

module _ (program left : List ℕ) (at : ℕ) (rest : left ≡ drop at program) where
  pub left_length : length left ≡ length program - at
  left_length = ap length rest ∙ length-drop at program

  items_stop : 0 < length left → length left < 2 + descriptor_length left → descriptors_of (drop at program) ≡ broken ∷ []
  items_stop h short = ap descriptors_of (sym rest) ∙ cut_broken 2 descriptor_length (omega arith) left h short

  module _ (f : 2 + descriptor_length left ≤ length left) where
    abbrev body : List ℕ
    body = take (descriptor_length left) (drop 2 left)

    pub body_long : length (take (descriptor_length left) (drop 2 left)) ≡ descriptor_length left
    body_long = length-take-le (descriptor_length left) (drop 2 left) (omega (arith, length-drop 2 left))

    items_next : descriptors_of (drop at program) ≡ whole (take 2 left) body ∷ descriptors_of (drop (at + (2 + descriptor_length left)) program)
    items_next =
        let n : ℕ = descriptor_length left in
        let later : drop (2 + n) left ≡ drop (at + (2 + n)) program = ap (drop (2 + n)) rest ∙ drop-drop (2 + n) at program in
        ap descriptors_of (sym rest)
        ∙ cut_piece 2 descriptor_length (omega arith) left f
        ∙ ap (λ (l : List ℕ). whole (take 2 left) (take n (drop 2 left)) ∷ descriptors_of l) later

    each_next : (found : ℕ → ℕ → List ℕ → List ℕ) → each found at (descriptors_of (drop at program))
        ≡ found at (descriptor_tag left) body ++ each found (at + (2 + descriptor_length left)) (descriptors_of (drop (at + (2 + descriptor_length left)) program))
    each_next found =
        ap (each found at) items_next
        ∙ ap₂ (λ (t n : ℕ). found at t body ++ each found (at + (2 + n)) (descriptors_of (drop (at + (2 + descriptor_length left)) program)))
        (tag_alone left) body_long

    worst_next : (filling : Filling) → worst filling (map filling_in (descriptors_of (drop at program)))
        ≡ worst (worse filling (filling_if (descriptor_tag left) body)) (map filling_in (descriptors_of (drop (at + (2 + descriptor_length left)) program)))
    worst_next filling =
        ap (λ (items : List Item). worst filling (map filling_in items)) items_next
        ∙ ap (λ (t : ℕ). worst (worse filling (filling_if t body)) (map filling_in (descriptors_of (drop (at + (2 + descriptor_length left)) program))))
        (tag_alone left)

-- ---- what was kept

module _ (program : List ℕ) where
  pub record Kept (found : ℕ → ℕ → List ℕ → List ℕ) (array : List ℕ) (count at : ℕ) : Type 0 where
    pub list : List ℕ
    pub all : list ++ each found at (descriptors_of (drop at program)) ≡ each found 0 (descriptors_of program)
    pub held : array ≡ pad_to 336 0 list
    pub many : count ≡ length list
    pub room : 3 * count ≤ at

  kept_start : (found : ℕ → ℕ → List ℕ → List ℕ) → Kept found no_places 0 0
  unfolding no_places
  kept_start found = record { list = []; all = refl; held = refl; many = refl; room = omega arith }

  kept_all : {found : ℕ → ℕ → List ℕ → List ℕ} {array : List ℕ} {count at : ℕ} → (k : Kept found array count at)
      → each found at (descriptors_of (drop at program)) ≡ [] → k.list ≡ each found 0 (descriptors_of program)
  kept_all k e = sym (append-nil k.list) ∙ ap (λ (l : List ℕ). k.list ++ l) (sym e) ∙ k.all

  pub record Walking (filling : Filling) (payloads : List ℕ) (descriptors : ℕ) (points : List ℕ) (count at : ℕ) : Type 0 where
    pub within : at ≤ length program
    pub verdict : worst filling (map filling_in (descriptors_of (drop at program))) ≡ worst (Ok tt) (map filling_in (descriptors_of program))
    pub payloads_kept : Kept payload_place payloads descriptors at
    pub points_kept : Kept point_places_if points count at

  pub walking_start : {payloads points : List ℕ} → payloads ≡ no_places → points ≡ no_places → Walking (Ok tt) payloads 0 points 0 0
  walking_start p q =
      record {
        within = omega arith;
        verdict = refl;
        payloads_kept = subst (λ (l : List ℕ). Kept payload_place l 0 0) (sym p) (kept_start payload_place);
        points_kept = subst (λ (l : List ℕ). Kept point_places_if l 0 0) (sym q) (kept_start point_places_if);
      }

  short_enough : length program ≤ 1008 → too_long program ≡ false
  short_enough h = le-ltb 1008 (length program) h

  pub found_long : {payloads points : List ℕ} → payloads ≡ no_places → points ≡ no_places → 1008 < length program
      → record { filling = (Err DoesNotFit); descriptors = 0; payloads = payloads; count = 0; points = points } ≡ found_in program
  unfolding no_places
  found_long p q h =
      (λ i. record { filling = (Err DoesNotFit); descriptors = 0; payloads = p i; count = 0; points = q i })
      ∙ sym (ap (λ (b : Bool). cond b (found_with (Err DoesNotFit) [] []) (found_with (worst (Ok tt) (map filling_in (descriptors_of program))) (payloads_at program) (points_at program)))
      (lt-ltb 1008 (length program) h))

  same_found : {filling : Filling} {payloads points : List ℕ} → length program ≤ 1008 → filling ≡ worst (Ok tt) (map filling_in (descriptors_of program))
      → payloads ≡ payloads_at program → points ≡ points_at program → found_with filling payloads points ≡ found_in program
  same_found h e p q =
      (λ i. found_with (e i) (p i) (q i))
      ∙ sym (ap (λ (b : Bool). cond b (found_with (Err DoesNotFit) [] []) (found_with (worst (Ok tt) (map filling_in (descriptors_of program))) (payloads_at program) (points_at program)))
      (short_enough h))

  module _ (filling : Filling) (payloads : List ℕ) (descriptors : ℕ) (points : List ℕ) (count at : ℕ)
      (known : Walking filling payloads descriptors points count at) where
    abbrev built : Filling → Found
    built verdict = record { filling = verdict; descriptors = descriptors; payloads = payloads; count = count; points = points }

    as_kept : (verdict : Filling) → built verdict ≡ found_with verdict known.payloads_kept.list known.points_kept.list
    as_kept verdict =
        λ i. record {
          filling = verdict;
          descriptors = known.payloads_kept.many i;
          payloads = known.payloads_kept.held i;
          count = known.points_kept.many i;
          points = known.points_kept.held i;
        }

    pub walking_end : length program ≤ 1008 → length program ≤ at → built filling ≡ found_in program
    walking_end h e =
        as_kept filling
        ∙ same_found h (ap (λ (l : List ℕ). worst filling (map filling_in (descriptors_of l))) (sym none) ∙ known.verdict)
        (kept_all known.payloads_kept (ap (λ (l : List ℕ). each payload_place at (descriptors_of l)) none))
        (kept_all known.points_kept (ap (λ (l : List ℕ). each point_places_if at (descriptors_of l)) none))
      where
        none : drop at program ≡ []
        none = drop_of_length-le program {i = at} e

    module _ (left : List ℕ) (rest : left ≡ drop at program) where
      pub walking_stop : length program ≤ 1008 → 0 < length left → length left < 2 + descriptor_length left → built (Err DoesNotFit) ≡ found_in program
      walking_stop h some short =
          let stop = items_stop program left at rest some short in
          as_kept (Err DoesNotFit)
          ∙ same_found h (sym (last filling) ∙ ap (λ (items : List Item). worst filling (map filling_in items)) (sym stop) ∙ known.verdict)
          (kept_all known.payloads_kept (ap (each payload_place at) stop))
          (kept_all known.points_kept (ap (each point_places_if at) stop))
        where
          last : (f : Filling) → worst f (Err DoesNotFit ∷ []) ≡ Err DoesNotFit
          last (Ok _) = refl
          last (Err DoesNotFit) = refl
          last (Err ReservedCount) = refl

      module _ (f : 2 + descriptor_length left ≤ length left) (h : length program ≤ 1008) (b : AreBytes left) where
        abbrev here : List ℕ
        here = take (descriptor_length left) (drop 2 left)

        pub end_within : at + (2 + descriptor_length left) ≤ length program
        end_within = omega (arith, left_length program left at rest, known.within)

        pub here_bytes : AreBytes here
        here_bytes = bytes_taken (descriptor_length left) (drop 2 left) (bytes_behind left 2 b)
          where
            bytes_taken : (n : ℕ) (l : List ℕ) → AreBytes l → AreBytes (take n l)
            bytes_taken zero l b i = omega arith
            bytes_taken (suc n) [] b i = omega arith
            bytes_taken (suc n) (x ∷ l) b zero = b zero
            bytes_taken (suc n) (x ∷ l) b (suc i) = bytes_taken n l (λ j. b (suc j)) i

        kept_on : (found : ℕ → ℕ → List ℕ → List ℕ) {array array' : List ℕ} {n r : ℕ} → Kept found array n at
            → Held array n (found at (descriptor_tag left) here) r array' → 3 * length (found at (descriptor_tag left) here) ≤ 2 + length here
            → Kept found array' r (at + (2 + descriptor_length left))
        kept_on found {array} {array'} {n} {r} k put takes =
            let new : List ℕ = found at (descriptor_tag left) here in
            record {
              list = k.list ++ new;
              all = append_assoc k.list new (each found (at + (2 + descriptor_length left)) (descriptors_of (drop (at + (2 + descriptor_length left)) program)))
                  ∙ ap (λ (l : List ℕ). k.list ++ l) (sym (each_next program left at rest f found))
                  ∙ k.all;
              held = put.stored
                  ∙ ap₂ (λ (l : List ℕ) (m : ℕ). sets l m new) k.held k.many
                  ∙ sets_pad_to 336 k.list new
                  (omega (arith, k.room, k.many, takes, body_long program left at rest f, end_within));
              many = omega (arith, put.many, k.many, length-append k.list new);
              room = omega (arith, put.many, k.room, takes, body_long program left at rest f);
            }

        pub walking_on : {verdict : Filling} {payloads' points' : List ℕ} {descriptors' count' : ℕ}
            → verdict ≡ worse filling (filling_if (descriptor_tag left) here)
            → Held payloads descriptors (payload_place at (descriptor_tag left) here) descriptors' payloads'
            → Held points count (point_places_if at (descriptor_tag left) here) count' points'
            → Walking verdict payloads' descriptors' points' count' (at + (2 + descriptor_length left))
        walking_on e p q =
            record {
              within = end_within;
              verdict = ap (λ (x : Filling). worst x (map filling_in (descriptors_of (drop (at + (2 + descriptor_length left)) program)))) e
                  ∙ sym (worst_next program left at rest f filling)
                  ∙ known.verdict;
              payloads_kept = kept_on payload_place known.payloads_kept p (payload_takes at (descriptor_tag left) here);
              points_kept = kept_on point_places_if known.points_kept q (points_take at (descriptor_tag left) here here_bytes);
            }

-- ---- a turn, in the words of the code: the part of the bytes that is left, and of it what stands between the head and the end

module _ (program : List ℕ) (filling : Filling) (payloads : List ℕ) (descriptors : ℕ) (points : List ℕ) (count at : ℕ)
    (known : Walking program filling payloads descriptors points count at) where
  pub array_long : {found : ℕ → ℕ → List ℕ → List ℕ} {array : List ℕ} {n : ℕ} → length program ≤ 1008 → Kept program found array n at → length array ≡ 336
  array_long h k = ap length k.held ∙ length_pad_to 336 0 k.list (omega (arith, k.many, k.room, known.within))

  module _ (left : List ℕ) (rest : left ≡ drop at program) (tag end : ℕ) (is_tag : tag ≡ descriptor_tag left) (is_end : end ≡ 2 + descriptor_length left)
      (f : 2 + descriptor_length left ≤ length left) (h : length program ≤ 1008) (b : AreBytes program) where
    bytes_left : AreBytes left
    bytes_left = subst AreBytes (sym rest) (bytes_behind program at b)

    same_body : take (end - 2) (drop 2 left) ≡ take (descriptor_length left) (drop 2 left)
    same_body = ap (λ (n : ℕ). take (n - 2) (drop 2 left)) is_end ∙ ap (λ (n : ℕ). take n (drop 2 left)) (add-sub_cancel_left 2 (descriptor_length left))

    pub turn_within : at + end ≤ length program
    turn_within =
        omega (arith, is_end, end_within program filling payloads descriptors points count at known left rest f h bytes_left)

    pub turn_room : at + (2 + length (take (end - 2) (drop 2 left))) ≤ 1008
    turn_room =
        omega (arith, ap length same_body, body_long program left at rest f, end_within program filling payloads descriptors points count at known left rest f h bytes_left)

    pub turn_on : {verdict : Filling} {payloads' points' : List ℕ} {descriptors' count' : ℕ}
        → verdict ≡ worse filling (filling_if tag (take (end - 2) (drop 2 left)))
        → Held payloads descriptors (payload_place at tag (take (end - 2) (drop 2 left))) descriptors' payloads'
        → Held points count (point_places_if at tag (take (end - 2) (drop 2 left))) count' points'
        → Walking program verdict payloads' descriptors' points' count' (at + end)
    turn_on {verdict} {payloads'} {points'} {descriptors'} {count'} e p q =
        subst (λ (n : ℕ). Walking program verdict payloads' descriptors' points' count' (at + n)) (sym is_end)
        (walking_on program filling payloads descriptors points count at known left rest f h bytes_left
        (e ∙ ap₂ (λ (t : ℕ) (l : List ℕ). worse filling (filling_if t l)) is_tag same_body)
        (subst (λ (l : List ℕ). Held payloads descriptors l descriptors' payloads') (ap₂ (payload_place at) is_tag same_body) p)
        (subst (λ (l : List ℕ). Held points count l count' points') (ap₂ (point_places_if at) is_tag same_body) q))

-- ---- the functions beside it

pub fills_if : (tag : ℕ) (body : List ℕ) (r : Filling) → is_points tag body ≡ true → r ≡ filling_of (take (length body - 1) (drop 1 body)) → r ≡ filling_if tag body
fills_if tag body r e p =
    p ∙ ap filling_of (Rattle.combinators.specs.Lists.part_to_end body 1) ∙ sym (ap (λ (b : Bool). cond b (filling_of (drop 1 body)) (Ok tt)) e)

pub fills_else : (tag : ℕ) (body : List ℕ) → is_points tag body ≡ false → Ok tt ≡ filling_if tag body
fills_else tag body e = sym (ap (λ (b : Bool). cond b (filling_of (drop 1 body)) (Ok tt)) e)

module _ (entry exit : List ℕ) (count r : ℕ) where
  pub points_if : (at tag : ℕ) (body : List ℕ) → is_points tag body ≡ true
      → Held entry count (point_places_in (at + 3) (take (length body - 1) (drop 1 body))) r exit → Held entry count (point_places_if at tag body) r exit
  points_if at tag body e =
      subst (λ (l : List ℕ). Held entry count l r exit)
      (ap (point_places_in (at + 3)) (Rattle.combinators.specs.Lists.part_to_end body 1)
      ∙ sym (ap (λ (b : Bool). cond b (point_places_in (at + 3) (drop 1 body)) []) e))

  pub points_by : (base : ℕ) (payload : List ℕ) (head : Head) → Some head ≡ head_of payload
      → Held entry count (point_places head.operation_points_count (base + head.points_at) (drop head.points_at payload)) r exit
      → Held entry count (point_places_in base payload) r exit
  points_by base payload head e =
      subst (λ (a : HeadRead). Held entry count (point_places_after a base payload) r exit) e

pub nothing_held : (entry : List ℕ) (count : ℕ) (list : List ℕ) → list ≡ [] → Held entry count list count entry
nothing_held entry count list e =
    subst (λ (l : List ℕ). Held entry count l count entry) (sym e) (record { many = omega arith; stored = refl })

pub points_else : (at tag : ℕ) (body : List ℕ) → is_points tag body ≡ false → point_places_if at tag body ≡ []
points_else at tag body e = ap (λ (b : Bool). cond b (point_places_in (at + 3) (drop 1 body)) []) e

pub no_head : (base : ℕ) (payload : List ℕ) → None ≡ head_of payload → point_places_in base payload ≡ []
no_head base payload e = ap (λ (a : HeadRead). point_places_after a base payload) (sym e)
