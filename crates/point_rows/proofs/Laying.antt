-- A list filled by a walk over places: what was laid after some of them, and that the next piece has room. And what stands in the program's loop as bytes is what
-- the values have.
-- Assumes nothing.
use Prim.Native.Nat.{ℕ, zero, suc, ◌+◌, ◌-◌, ◌*◌, ◌/◌, ◌%◌, ◌≤◌, ◌<◌, min}
use mathlib.Core.Bool.{Bool, true, false, cond}
use mathlib.Core.List.{List, [], ◌∷◌, ◌++◌, map, append-nil}
use mathlib.Core.Path.{◌≡◌, refl, sym, ap, ap₂, ◌∙◌, subst}
use native.Mathlib.Numerals.{add-one}
use native.Mathlib.Omega.{arith}
use borrow.Author.Tests.{le-ltb, lt-ltb}
use lib.Dec.{eqb, ltb}
use lib.ListN.{length, get_or, set, take, drop, replicate, length-append, take-append-drop, length-map}
use lib.Seq.{sets, length-take-le, take_all, take-suc, drop-drop, get_or-drop}
use Rattle.combinators.specs.Lists.{gather, gather_append, gather_next}
use Rattle.syntax.specs.Table.{AreBytes}
use Rattle.buffers.specs.Buffers.{Laid}
use Rattle.buffers.proofs.Laws.{laid_nothing, laid_then, laid_as, laid_length, one_more, laid_whole}
use Rattle.closure.specs.declared.Layers.{Layers}
use Rattle.stream_lists.specs.declared.StreamList.{StreamList}
use Rattle.stream_lists.specs.declared.ListBuilt.{ListBuilt}
use Rattle.stream_lists.specs.Lists.{is_closed}
use Rattle.operation_points.specs.declared.Head.{Head}
use Rattle.operation_points.specs.declared.Point.{Point}
use Rattle.operation_points.specs.declared.Reference.{Reference}
use Rattle.operation_points.specs.declared.LayerFlags.{LayerFlags}
use Rattle.operation_points.specs.Values.{PointValue, no_frame_rate, constant, frame_rate_of, bit_rate_of, idc_of, indicator_of, flag_of, number_of, reference_in, reference_byte, references_in, layers_in, flags_in, flags_byte, reference_bytes, layer_bytes}
use Rattle.operation_points.proofs.Bytes.{reference_at, flags_at}
use Rattle.program_points.specs.Places.{point_at, value_at, head_at, profiles_at, IsPoint}
use Rattle.program_points.specs.Told.{list_of, closed_of, row_in}
use Rattle.program_points.proofs.Tallying.{references_many, flags_many, built_of}

-- ---- the walk

module _ {A : Type 0} (f : ℕ → List A) (places : List ℕ) (old : List A) where
  pub record Laying (new : List A) (next i : ℕ) : Type 0 where
    pub within : i ≤ length places
    pub laid : Laid old 0 (gather f (take i places)) next new

  pub laying_start : Laying old 0 0
  laying_start = record { within = omega arith; laid = laid_nothing old 0 0 (omega arith) }

  module _ (new : List A) (next i : ℕ) (known : Laying new next i) where
    pub laying_on : i < length places → {piece after : List A} {r : ℕ} → piece ≡ f (get_or places i 0) → Laid new next piece r after → Laying after r (i + 1)
    laying_on inside e p =
        record {
          within = omega arith;
          laid = laid_as (sym (gather_next places 0 f i inside)) (laid_then known.laid (laid_as e p));
        }

    pub laying_end : length places ≤ i → Laid old 0 (gather f places) next new
    laying_end h = laid_as (ap (gather f) (take_all i places h)) known.laid

    pub laying_length : length new ≡ length old
    laying_length = laid_length known.laid

    -- there is room for the next piece where there is room for all
    pub laying_room : i < length places → length (gather f places) ≤ length old → next + length (f (get_or places i 0)) ≤ length new
    laying_room inside room =
        let all : length (gather f places) ≡ length (gather f (take (i + 1) places)) + length (gather f (drop (i + 1) places)) =
        ap (λ (l : List ℕ). length (gather f l)) (sym (take-append-drop (i + 1) places))
        ∙ ap length (gather_append f (take (i + 1) places) (drop (i + 1) places))
        ∙ length-append (gather f (take (i + 1) places)) (gather f (drop (i + 1) places)) in
        let more : length (gather f (take (i + 1) places)) ≡ length (gather f (take i places)) + length (f (get_or places i 0)) =
        ap length (gather_next places 0 f i inside) ∙ length-append (gather f (take i places)) (f (get_or places i 0)) in
        let place : next ≡ min (length old) (0 + length (gather f (take i places))) = known.laid.place in
        let same = laying_length in
        omega arith

-- ---- references, without their reserved bits

pub masked_more : (out : List ℕ) (at : ℕ) (bytes : List ℕ) (i : ℕ) → i < length bytes
    → set (sets out at (map (λ (byte : ℕ). byte % 128) (take i bytes))) (at + i) (get_or bytes i 0 % 128) ≡ sets out at (map (λ (byte : ℕ). byte % 128) (take (i + 1) bytes))
masked_more out at bytes i h =
    let long : length (map (λ (byte : ℕ). byte % 128) (take i bytes)) ≡ i = length-map (take i bytes) (λ (byte : ℕ). byte % 128) ∙ length-take-le i bytes (omega arith) in
    ap (λ (n : ℕ). set (sets out at (map (λ (byte : ℕ). byte % 128) (take i bytes))) (at + n) (get_or bytes i 0 % 128)) (sym long)
    ∙ Rattle.buffers.proofs.Laws.sets_append out at (map (λ (byte : ℕ). byte % 128) (take i bytes)) ((get_or bytes i 0 % 128) ∷ [])
    ∙ ap (sets out at)
    (sym (mathlib.Core.List.map-append (λ (byte : ℕ). byte % 128) (take i bytes) (get_or bytes i 0 ∷ []))
    ∙ ap (map (λ (byte : ℕ). byte % 128)) (sym (take-suc bytes i 0 h) ∙ ap (λ (n : ℕ). take n bytes) (sym (add-one i))))

pub masked_whole : (out : List ℕ) (at : ℕ) (bytes new : List ℕ) (i : ℕ) → at + length bytes ≤ length out → length bytes ≤ i
    → new ≡ sets out at (map (λ (byte : ℕ). byte % 128) (take i bytes)) → Laid out at (map (λ (byte : ℕ). byte % 128) bytes) (at + length bytes) new
masked_whole out at bytes new i room all e =
    record {
      place = omega (arith, length-map bytes (λ (byte : ℕ). byte % 128));
      content = e ∙ ap (λ (l : List ℕ). sets out at (map (λ (byte : ℕ). byte % 128) l)) (take_all i bytes all);
    }

masks : (bytes : List ℕ) → AreBytes bytes → map (λ (byte : ℕ). byte % 128) bytes ≡ map reference_byte (map reference_in bytes)
masks [] b = refl
masks (x ∷ bytes) b = ap₂ (λ (y : ℕ) (l : List ℕ). y ∷ l) (one x (b 0)) (masks bytes (λ j. b (suc j)))
  where
    one : (byte : ℕ) → byte < 256 → byte % 128 ≡ reference_byte (reference_in byte)
    one byte h = subst (λ (r : Reference). byte % 128 ≡ reference_byte r) (reference_at byte h) (go (eqb (byte / 64 % 2) 1) refl)
      where
        go : (c : Bool) → eqb (byte / 64 % 2) 1 ≡ c → byte % 128 ≡ cond c 64 0 + byte % 64
        go true e = let z = borrow.Author.Tests.eqb-true (byte / 64 % 2) 1 e in omega arith
        go false e = let z = borrow.Author.Tests.eqb-false (byte / 64 % 2) 1 e in omega arith

flags_kept : (bytes : List ℕ) → AreBytes bytes → bytes ≡ map flags_byte (map flags_in bytes)
flags_kept [] b = refl
flags_kept (x ∷ bytes) b = ap₂ (λ (y : ℕ) (l : List ℕ). y ∷ l) (one x (b 0)) (flags_kept bytes (λ j. b (suc j)))
  where
    one : (byte : ℕ) → byte < 256 → byte ≡ flags_byte (flags_in byte)
    one byte h = subst (λ (r : LayerFlags). byte ≡ flags_byte r) (flags_at byte h) (go (eqb (byte / 128) 1) refl (eqb (byte / 64 % 2) 1) refl)
      where
        go : (c : Bool) → eqb (byte / 128) 1 ≡ c → (d : Bool) → eqb (byte / 64 % 2) 1 ≡ d → byte ≡ cond c 128 0 + cond d 64 0 + byte % 64
        go true e true f = let z = borrow.Author.Tests.eqb-true (byte / 128) 1 e in let y = borrow.Author.Tests.eqb-true (byte / 64 % 2) 1 f in omega arith
        go true e false f = let z = borrow.Author.Tests.eqb-true (byte / 128) 1 e in let y = borrow.Author.Tests.eqb-false (byte / 64 % 2) 1 f in omega arith
        go false e true f = let z = borrow.Author.Tests.eqb-false (byte / 128) 1 e in let y = borrow.Author.Tests.eqb-true (byte / 64 % 2) 1 f in omega arith
        go false e false f = let z = borrow.Author.Tests.eqb-false (byte / 128) 1 e in let y = borrow.Author.Tests.eqb-false (byte / 64 % 2) 1 f in omega arith

bytes_part : (l : List ℕ) → AreBytes l → (at n : ℕ) → AreBytes (take n (drop at l))
bytes_part l b at n = taken n (drop at l) (λ i. subst (λ (m : ℕ). m < 256) (sym (get_or-drop at l i 0)) (b (at + i)))
  where
    taken : (n : ℕ) (l : List ℕ) → AreBytes l → AreBytes (take n l)
    taken zero l b i = omega arith
    taken (suc n) [] b i = omega arith
    taken (suc n) (x ∷ l) b zero = b zero
    taken (suc n) (x ∷ l) b (suc i) = taken n l (λ j. b (suc j)) i

-- ---- the parts of a point and of a head, as the code cuts them

module _ (program : List ℕ) (at : ℕ) where
  cut_part : (from n m : ℕ) → n ≡ m → take (at + from + n - (at + from)) (drop (at + from) program) ≡ take m (drop from (drop at program))
  cut_part from n m e =
      let many : at + from + n - (at + from) ≡ m = omega (arith, e) in
      ap₂ (λ (k : ℕ) (l : List ℕ). take k l) many (sym (drop-drop from at program))

  pub profiles_part : (head : Head) → head ≡ head_at program at
      → take (at + 1 + head.num_ptl * 12 - (at + 1)) (drop (at + 1) program) ≡ profiles_at program at
  profiles_part head e = cut_part 1 (head.num_ptl * 12) ((head_at program at).num_ptl * 12) (ap (λ (h : Head). h.num_ptl * 12) e)

  module _ (b : AreBytes program) (point : Point) (e : point ≡ point_at program at) where
    pub references_part : map (λ (byte : ℕ). byte % 128) (take (at + 2 + point.es_count - (at + 2)) (drop (at + 2) program)) ≡ reference_bytes (value_at program at)
    references_part =
        ap (map (λ (byte : ℕ). byte % 128)) (cut_part 2 point.es_count (point_at program at).es_count (ap (λ (p : Point). p.es_count) e))
        ∙ masks (references_in (point_at program at) (drop at program))
        (subst AreBytes (ap (take (point_at program at).es_count) (sym (drop-drop 2 at program))) (bytes_part program b (at + 2) (point_at program at).es_count))

    pub flags_part : take (at + point.flags_at + point.num_es_in_op - (at + point.flags_at)) (drop (at + point.flags_at) program) ≡ layer_bytes (value_at program at)
    flags_part =
        cut_part point.flags_at point.num_es_in_op point.num_es_in_op refl
        ∙ ap (λ (p : Point). take p.num_es_in_op (drop p.flags_at (drop at program))) e
        ∙ flags_kept (layers_in (point_at program at) (drop at program))
        (subst AreBytes (ap (take (point_at program at).num_es_in_op) (sym (drop-drop (point_at program at).flags_at at program)))
        (bytes_part program b (at + (point_at program at).flags_at) (point_at program at).num_es_in_op))

-- ---- a row

pub indicator_there : (idc number : ℕ) → 0 < idc → number ≡ indicator_of (frame_rate_of idc number)
indicator_there idc number h = sym (ap (λ (b : Bool). indicator_of (cond b (constant idc number) no_frame_rate)) (lt-ltb 0 idc h))

pub indicator_none : (idc number : ℕ) → idc ≤ 0 → 0 ≡ indicator_of (frame_rate_of idc number)
indicator_none idc number h = sym (ap (λ (b : Bool). indicator_of (cond b (constant idc number) no_frame_rate)) (le-ltb 0 idc h))

idc_kept : (idc number : ℕ) → idc ≡ idc_of (frame_rate_of idc number)
idc_kept idc number = go (ltb 0 idc) refl
  where
    go : (b : Bool) → ltb 0 idc ≡ b → idc ≡ idc_of (cond b (constant idc number) no_frame_rate)
    go true e = refl
    go false e = let z = borrow.Author.Tests.ltb-false 0 idc e in omega arith

flag_kept : (there : Bool) (number : ℕ) → cond there 1 0 ≡ flag_of (bit_rate_of there number)
flag_kept true number = refl
flag_kept false number = refl

number_kept : (there : Bool) (number : ℕ) → cond there number 0 ≡ number_of (bit_rate_of there number)
number_kept true number = refl
number_kept false number = refl

module _ (layers : Layers) (program : List ℕ) (b : AreBytes program) (at : ℕ) (p : IsPoint program at) where
  abbrev numbers_by : Point → ListBuilt → Bool → ℕ → List ℕ
  numbers_by point built closed frame =
      point.target_ols
      ∷ point.es_count
      ∷ point.num_es_in_op
      ∷ cond point.avg_bit_rate_info_flag 1 0
      ∷ cond point.max_bit_rate_info_flag 1 0
      ∷ point.constant_frame_rate_info_idc
      ∷ point.applicable_temporal_id
      ∷ frame
      ∷ cond point.avg_bit_rate_info_flag point.avg_bit_rate 0
      ∷ cond point.max_bit_rate_info_flag point.max_bit_rate 0
      ∷ built.list.count
      ∷ cond closed 1 0
      ∷ []

  by_value : numbers_by (point_at program at) (list_of layers (value_at program at)) (closed_of layers (value_at program at))
      (indicator_of (frame_rate_of (point_at program at).constant_frame_rate_info_idc (point_at program at).frame_rate_indicator)) ≡ row_in layers (value_at program at)
  by_value =
      let point = point_at program at in
      let value = value_at program at in
      let references : point.es_count ≡ length value.references = sym (sym (length-map value.references reference_byte) ∙ references_many program b at p) in
      let flags : point.num_es_in_op ≡ length value.layers = sym (sym (length-map value.layers flags_byte) ∙ flags_many program b at p) in
      λ i.
      point.target_ols
      ∷ references i
      ∷ flags i
      ∷ flag_kept point.avg_bit_rate_info_flag point.avg_bit_rate i
      ∷ flag_kept point.max_bit_rate_info_flag point.max_bit_rate i
      ∷ idc_kept point.constant_frame_rate_info_idc point.frame_rate_indicator i
      ∷ point.applicable_temporal_id
      ∷ indicator_of (frame_rate_of point.constant_frame_rate_info_idc point.frame_rate_indicator)
      ∷ number_kept point.avg_bit_rate_info_flag point.avg_bit_rate i
      ∷ number_kept point.max_bit_rate_info_flag point.max_bit_rate i
      ∷ (list_of layers value).list.count
      ∷ cond (closed_of layers value) 1 0
      ∷ []

  module _ (point : Point) (e : point ≡ point_at program at) (built : ListBuilt) (f : built ≡ list_of layers (value_at program at)) (closed : Bool)
      (g : closed ≡ is_closed layers built.list.present) where
    pub row_is : {n₀ n₁ n₂ n₃ n₄ n₅ n₆ n₇ n₈ n₉ n₁₀ n₁₁ : ℕ} → n₀ ≡ point.target_ols → n₁ ≡ point.es_count → n₂ ≡ point.num_es_in_op
        → n₃ ≡ cond point.avg_bit_rate_info_flag 1 0 → n₄ ≡ cond point.max_bit_rate_info_flag 1 0 → n₅ ≡ point.constant_frame_rate_info_idc
        → n₆ ≡ point.applicable_temporal_id → n₇ ≡ indicator_of (frame_rate_of point.constant_frame_rate_info_idc point.frame_rate_indicator)
        → n₈ ≡ cond point.avg_bit_rate_info_flag point.avg_bit_rate 0 → n₉ ≡ cond point.max_bit_rate_info_flag point.max_bit_rate 0
        → n₁₀ ≡ built.list.count → n₁₁ ≡ cond closed 1 0
        → n₀ ∷ n₁ ∷ n₂ ∷ n₃ ∷ n₄ ∷ n₅ ∷ n₆ ∷ n₇ ∷ n₈ ∷ n₉ ∷ n₁₀ ∷ n₁₁ ∷ [] ≡ row_in layers (value_at program at)
    row_is e₀ e₁ e₂ e₃ e₄ e₅ e₆ e₇ e₈ e₉ e₁₀ e₁₁ =
        (λ i. e₀ i ∷ e₁ i ∷ e₂ i ∷ e₃ i ∷ e₄ i ∷ e₅ i ∷ e₆ i ∷ e₇ i ∷ e₈ i ∷ e₉ i ∷ e₁₀ i ∷ e₁₁ i ∷ [])
        ∙ ap (λ (c : Bool). numbers_by point built c (indicator_of (frame_rate_of point.constant_frame_rate_info_idc point.frame_rate_indicator))) g
        ∙ ap₂ (λ (x : Point) (y : ListBuilt). numbers_by x y (is_closed layers y.list.present) (indicator_of (frame_rate_of x.constant_frame_rate_info_idc x.frame_rate_indicator))) e f
        ∙ by_value

-- the members of a stream list are in its array
pub members_held : (layers : Layers) (value : PointValue) → (list_of layers value).list.count ≤ length (list_of layers value).list.members
members_held layers value =
    let w = built_of layers (reference_bytes value) in
    subst (λ (s : StreamList). s.count ≤ length s.members) (sym w.held)
    (omega (arith, length-append w.list (replicate (64 - length w.list) 0)))
