-- READING WHAT WAS WRITTEN gives back the value that was given: of a payload, whose fields fill it exactly, and of a program's loop that is this descriptor alone.
-- Assumes nothing.
use Prim.Native.Nat.{ℕ, ◌+◌, ◌*◌, ◌/◌, ◌≤◌, ◌<◌}
use Rattle.std.specs.Prelude.{◌≡◌, Bool, true, false, ◌&&◌, ltb, length, take, drop, Err, None, Ok, Some}
use Rattle.std.proofs.Math.Path.{refl, ap}
use Rattle.std.proofs.Common.{sym, ap₂, ◌∙◌, subst, arith, le-leb, le-ltb, lt-ltb, take_at, drop_at}
use Rattle.std.proofs.Math.Bool.{cond}
use mathlib.Core.List.{List, [], ◌∷◌, ◌++◌, map, append_assoc, append-nil}
use Rattle.std.proofs.Math.ListN.{length-append}
use Rattle.std.proofs.lemmas.List.{length-map}
use Rattle.combinators.specs.Lists.{here, there, gather}
use Rattle.combinators.specs.Bools.{both_ways}
use Rattle.framing.specs.Pieces.{Item, whole, Cuts, nothing_left, piece}
use Rattle.framing.proofs.Pieces.{cuts_unique}
use Rattle.syntax.specs.Table.{AreBytes, Fit}
use Rattle.syntax.specs.Named.{given_to, by_names, read_by, write_by}
use Rattle.syntax.proofs.Laws.{read_fits, written_unique}
use Rattle.syntax.proofs.Equations.{bounds}
use Rattle.vocabulary.specs.declared.refusal.Refusal.TheVariants.{NoRoom}
use Rattle.descriptor_heads.specs.Head.{descriptor_head, descriptor_tag, descriptor_length}
use Rattle.descriptor_heads.proofs.Heads.{by_tag}
use Rattle.operation_points.specs.Tables.{profile, points_count, head_syntax}
use Rattle.operation_points.specs.Points.{head_in, head_of, filling_by, points_filling, filling_after, filling_of}
use Rattle.operation_points.specs.Values.{PointValue, DescriptorValue, point_value, points_by, points_in, value_after, value_of}
use Rattle.operation_points.specs.declared.Head.{Head}
use Rattle.operation_points.specs.Answer.{HeadRead, FirstPoint}
use Rattle.operation_points.specs.declared.PointFault.TheVariants.{DoesNotFit}
use Rattle.operation_points.proofs.Parsed.{parses_walk}
use Rattle.point_descriptors.specs.Descriptors.{descriptors_of, each, is_points, payload_if, filling_in, worst}
use Rattle.point_fields.specs.WrittenParts.{parts_bytes}
use Rattle.point_weights.specs.Rows.{twelves, judged}
use Rattle.point_weights.specs.Answer.{Written}
use Rattle.point_writer.specs.Layout.{head_given, head_lists, descriptor_bytes}
use Rattle.point_writer.specs.Writing.{in_room, answer, content_after, content}
use Rattle.point_writer.specs.Meaning.{EachFits, ValueFits, Gives, SomeReserved, reserved_at, WritesPayload, head_then, WritesDescriptor, descriptor}
use Rattle.point_writer.proofs.Heads.{profiles_again}
use Rattle.point_writer.proofs.PartLaws.{parts_only}
use Rattle.point_writer.proofs.Values.{values_bytes}
use Rattle.point_writer.proofs.Judged.{accepted, counted, descriptor_long}
use Rattle.point_writer.proofs.Meant.{head_sounds, points_only, some_reserved, known, descriptor_written}
use Rattle.points_round_trip.specs.Parsed.{written_parses}
use Rattle.points_round_trip.specs.ReadPoint.{bytes_of}
use Rattle.points_round_trip.proofs.ReadPoint.{read_first, value_read}
use Rattle.points_round_trip.specs.ReadBack.{ReadBack}

-- ---- the points

module _ {v : PointValue} {vs : List PointValue} (none : SomeReserved (v ∷ vs) → ⊥) where
  first_allowed : length v.references ≡ 255 → ⊥
  first_allowed e = none (reserved_at here e)

  others_allowed : SomeReserved vs → ⊥
  others_allowed (reserved_at n e) = none (reserved_at (there n) e)

pub points_fill : {vs : List PointValue} → EachFits vs → (SomeReserved vs → ⊥) → points_filling (length vs) (values_bytes vs) ≡ Ok tt
points_fill EachFits.none a = refl
points_fill (EachFits.point_then {v} {vs} fits others) a =
    ap (λ (p : FirstPoint). filling_by p (λ size. points_filling (length vs) (drop size (bytes_of v fits ++ values_bytes vs)))) (read_first v fits (first_allowed a) (values_bytes vs))
    ∙ ap (points_filling (length vs)) (drop_at (bytes_of v fits) (values_bytes vs) (length (bytes_of v fits)) refl)
    ∙ points_fill others (others_allowed a)

pub points_again : {vs : List PointValue} → EachFits vs → (SomeReserved vs → ⊥) → points_in (length vs) (values_bytes vs) ≡ vs
points_again EachFits.none a = refl
points_again (EachFits.point_then {v} {vs} fits others) a =
    ap (λ (p : FirstPoint). points_by p (λ point. point_value point (bytes_of v fits ++ values_bytes vs))
    (λ size. points_in (length vs) (drop size (bytes_of v fits ++ values_bytes vs)))) (read_first v fits (first_allowed a) (values_bytes vs))
    ∙ ap₂ (λ (x : PointValue) (xs : List PointValue). x ∷ xs) (value_read v fits (values_bytes vs))
    (ap (points_in (length vs)) (drop_at (bytes_of v fits) (values_bytes vs) (length (bytes_of v fits)) refl) ∙ points_again others (others_allowed a))

-- ---- a payload

module _ (v : DescriptorValue) (fits : ValueFits v) (in_bytes : AreBytes v.profiles) where
  abbrev head_written : List ℕ
  head_written = parts_bytes (head_given (length v.profiles) (length v.points)) (head_lists v.profiles) head_syntax

  abbrev payload_for : List ℕ
  payload_for = head_written ++ values_bytes v.points

  abbrev structures : ℕ
  structures = length v.profiles / 12

  length_pieces : (n : ℕ) (l : List ℕ) → length (twelves n l) ≡ n
  length_pieces Prim.Native.Nat.zero l = refl
  length_pieces (Prim.Native.Nat.suc n) l = ap Prim.Native.Nat.suc (length_pieces n (drop 12 l))

  abbrev head_read : Head
  head_read = record { num_ptl = structures; operation_points_count = length v.points; points_at = length head_written }

  read_head : head_of payload_for ≡ Some head_read
  unfolding head_of
  read_head =
      ap (head_in payload_for)
      (parses_walk (values_bytes v.points) payload_for refl
      (written_parses (head_given (length v.profiles) (length v.points)) (head_lists v.profiles) [] head_sounds fits.counts
      (sym (length-map (twelves structures v.profiles) (read_by profile) ∙ length_pieces structures v.profiles), tt)))
      ∙ ap (λ (b : Bool). cond b (Some head_read) None)
      (le-leb (length head_written) (length payload_for) (omega (arith, length-append head_written (values_bytes v.points))))

  past_head : drop (length head_written) payload_for ≡ values_bytes v.points
  past_head = drop_at head_written (values_bytes v.points) (length head_written) refl

  profiles_there : take (structures * 12) (drop 1 payload_for) ≡ v.profiles
  profiles_there =
      let again : gather (write_by profile) (head_lists v.profiles "num_ptl") ≡ v.profiles = profiles_again structures v.profiles in_bytes (omega (arith, fits.whole)) in
      let behind : List ℕ = write_by points_count (head_given (length v.profiles) (length v.points)) ++ [] in
      ap (λ (l : List ℕ). take (structures * 12) ((l ++ behind) ++ values_bytes v.points)) again
      ∙ ap (take (structures * 12)) (append_assoc v.profiles behind (values_bytes v.points))
      ∙ take_at v.profiles (behind ++ values_bytes v.points) (structures * 12) (omega (arith, fits.whole))

  module _ (none : SomeReserved v.points → ⊥) where
    -- its fields fill it exactly
    pub payload_fills : filling_of payload_for ≡ Ok tt
    payload_fills =
        ap (λ (h : HeadRead). filling_after h payload_for) read_head ∙ ap (points_filling (length v.points)) past_head ∙ points_fill fits.points none

    -- and its value is the one that was given
    pub payload_again : value_of payload_for ≡ v
    payload_again =
        ap (λ (h : HeadRead). value_after h payload_for) read_head
        ∙ (λ i. record { profiles = profiles_there i; points = (ap (points_in (length v.points)) past_head ∙ points_again fits.points none) i })

    pub payload_is : {payload : List ℕ} → WritesPayload v payload → payload ≡ payload_for
    payload_is (head_then w ws) =
        ap₂ (λ (a b : List ℕ). a ++ b) (parts_only (head_given (length v.profiles) (length v.points)) (head_lists v.profiles) head_sounds w) (points_only ws)

    pub read_back : {bytes : List ℕ} → WritesDescriptor v bytes → ReadBack v bytes
    read_back (descriptor {head} {tag} {payload} h t p) =
        let is_tag : tag ≡ 5 ∷ [] = written_unique (record { whole = refl; fixed_fit = refl }) t in
        let is_payload : payload ≡ payload_for = payload_is p in
        let body : List ℕ = tag ++ payload in
        let is_body : body ≡ 5 ∷ payload = ap (λ (l : List ℕ). l ++ payload) is_tag in
        let values = h.written.carries.values in
        let head_tag : descriptor_tag head ≡ 63 = ap (λ (vs : List ℕ). given_to "descriptor_tag" (by_names descriptor_head vs)) values in
        let head_length : descriptor_length head ≡ length body = ap (λ (vs : List ℕ). given_to "descriptor_length" (by_names descriptor_head vs)) values in
        let small : length body < 256 = (bounds (subst (Fit descriptor_head) values (read_fits descriptor_head head))).1.0 in
        let cuts : Cuts 2 descriptor_length (head ++ (body ++ [])) (whole head body ∷ []) = piece h.written.as_long (sym head_length) nothing_left in
        let items : descriptors_of (head ++ body) ≡ whole head body ∷ [] =
        ap (λ (l : List ℕ). descriptors_of (head ++ l)) (sym (append-nil body)) ∙ sym (cuts_unique 2 descriptor_length (omega arith) by_tag cuts) in
        let found : is_points (descriptor_tag head) body ≡ true =
        ap₂ (λ (n : ℕ) (l : List ℕ). is_points n l) head_tag is_body ∙ ap (λ (b : Bool). b && true) (lt-ltb 0 (length (5 ∷ payload)) (omega arith)) in
        let behind : drop 1 body ≡ payload = ap (drop 1) is_body in
        let exact : filling_of payload ≡ Ok tt = ap filling_of is_payload ∙ payload_fills in
        let short : length (head ++ body) ≤ 1008 = omega (arith, length-append head body, h.written.as_long) in
        record {
          payload = payload;
          alone = ap (each payload_if 0) items ∙ ap (λ (b : Bool). cond b (drop 1 body ∷ []) [] ++ []) found ∙ ap (λ (l : List ℕ). l ∷ []) behind;
          accepted = ap (λ (b : Bool). cond b (Err DoesNotFit) (worst (Ok tt) (map filling_in (descriptors_of (head ++ body))))) (le-ltb 1008 (length (head ++ body)) short)
              ∙ ap (λ (l : List Item). worst (Ok tt) (map filling_in l)) items
              ∙ ap (λ (b : Bool). cond b (filling_of (drop 1 body)) (Ok tt)) found
              ∙ ap filling_of behind
              ∙ exact;
          fills = exact;
          value = ap value_of is_payload ∙ payload_again;
        }

-- THE CALL: where it counts bytes, those in the buffer are read as the value of which it was given the rows.
module _ (profiles points references layers old : List ℕ) (v : DescriptorValue) (g : Gives profiles points references layers v) (in_bytes : AreBytes v.profiles) where
  pub written_read : (n : ℕ) → answer (length old) profiles points references layers ≡ Ok n → ReadBack v (take n (content profiles points references layers old))
  written_read n e =
      let judged-bytes = in_room_lem (judged (length profiles) points references (length layers)) e in
      let known-accepted = accepted profiles points references layers n judged-bytes in
      let none_reserved : SomeReserved v.points → ⊥ =
      λ s. both_ways (some_reserved s) (sym (known profiles points references layers g).reserved_alike ∙ known-accepted.none_reserved) in
      let c = counted profiles points references layers known-accepted.sound in
      let long : length (descriptor_bytes profiles points references layers) ≡ n =
      descriptor_long profiles points references layers known-accepted.sound ∙ sym known-accepted.sized in
      let whole-descriptor = descriptor_written profiles points references layers g (omega (arith, known-accepted.short)) in
      let holds : take n (content profiles points references layers old) ≡ descriptor_bytes profiles points references layers =
      ap (λ (w : Written). take n (content_after w (descriptor_bytes profiles points references layers) old)) e
      ∙ take_at (descriptor_bytes profiles points references layers) (drop (length (descriptor_bytes profiles points references layers)) old) n long in
      subst (ReadBack v) (sym holds) (read_back v g.fits in_bytes none_reserved whole-descriptor)
    where
      in_room_lem : (w : Written) → in_room (length old) w ≡ Ok n → w ≡ Ok n
      in_room_lem (Ok size) e = go (ltb (length old) size) e
        where
          go : (b : Bool) → ◌≡◌ {A = Written} (cond b (Err NoRoom) (Ok size)) (Ok n) → ◌≡◌ {A = Written} (Ok size) (Ok n)
          go true e = let z : ◌≡◌ {A = ℕ} 0 1 = cc in absurd (omega arith)
          go false e = e
      in_room_lem (Err refusal) e = let z : ◌≡◌ {A = ℕ} 0 1 = cc in absurd (omega arith)
