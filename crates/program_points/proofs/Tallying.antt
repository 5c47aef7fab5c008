-- The parts of a point in the program's loop, its stream list by the bytes as they stand there, and counting over all points.
-- Assumes nothing.
use Prim.Native.Nat.{ℕ, zero, suc, ◌+◌, ◌-◌, ◌*◌, ◌/◌, ◌%◌, ◌≤◌, ◌<◌}
use mathlib.Core.Bool.{Bool, true, false, not, cond, ◌||◌}
use mathlib.Core.List.{List, [], ◌∷◌, ◌++◌, map, map-append, append-nil}
use mathlib.Core.Path.{◌≡◌, refl, sym, ap, ap₂, ◌∙◌, subst}
use native.Mathlib.Numerals.{add-one}
use native.Mathlib.Omega.{arith}
use lib.Dec.{eqb}
use lib.ListN.{length, get_or, take, drop, replicate, length-append, length-drop, length-map}
use lib.Seq.{length-take-le, take_at, take-suc, take_all, get_or-drop}
use Rattle.combinators.specs.Lists.{any, any_append, gather, gather_append, gather_next}
use Rattle.combinators.specs.Once.{Once, Small, once_short}
use Rattle.sets.specs.Sets.{without}
use Rattle.syntax.specs.Table.{AreBytes}
use Rattle.closure.specs.declared.Layers.{Layers}
use Rattle.closure.specs.Closures.{is_layer, named}
use Rattle.stream_lists.specs.declared.StreamList.{StreamList}
use Rattle.stream_lists.specs.declared.ListBuilt.{ListBuilt}
use Rattle.stream_lists.specs.Insertion.{placed}
use Rattle.stream_lists.specs.Lists.{referred, prepends, set_of, referring, no_layer, stream_list, built_from, list_built}
use Rattle.stream_lists.proofs.Building.{referring_once, referring_small}
use Rattle.operation_points.specs.declared.Head.{Head}
use Rattle.operation_points.specs.declared.Point.{Point}
use Rattle.operation_points.specs.declared.Reference.{Reference}
use Rattle.operation_points.specs.Values.{PointValue, reference_in, reference_byte, references_in, layers_in, flags_in, flags_byte, reference_bytes, layer_bytes}
use Rattle.operation_points.proofs.Bytes.{reference_at}
use Rattle.operation_points.proofs.Judging.{read_within, head_within, lists_within, profiles_between}
use Rattle.program_points.specs.declared.Tally.{Tally}
use Rattle.program_points.specs.Places.{point_or, point_at, value_at, head_or, head_at, profiles_at, IsPoint, IsPayload, AllPayloads}
use Rattle.program_points.specs.Told.{list_of, is_absent, streams_of, tally_of, tally_with, Grows}
use Rattle.program_points.specs.Told as told

bytes_behind : (l : List ℕ) (at : ℕ) → AreBytes l → AreBytes (drop at l)
bytes_behind l at b i = subst (λ (n : ℕ). n < 256) (sym (get_or-drop at l i 0)) (b (at + i))

bytes_taken : (n : ℕ) (l : List ℕ) → AreBytes l → AreBytes (take n l)
bytes_taken zero l b i = omega arith
bytes_taken (suc n) [] b i = omega arith
bytes_taken (suc n) (x ∷ l) b zero = b zero
bytes_taken (suc n) (x ∷ l) b (suc i) = bytes_taken n l (λ j. b (suc j)) i

-- ---- where the parts of a point stand

pub record Parts (program : List ℕ) (at : ℕ) (point : Point) : Type 0 where
  pub at_within : at ≤ length program
  pub references : at + 2 + point.es_count ≤ length program
  pub flags : at + point.flags_at + point.num_es_in_op ≤ length program

module _ (program : List ℕ) (b : AreBytes program) (at : ℕ) where
  pub parts_of : IsPoint program at → Parts program at (point_at program at)
  parts_of p =
      let w = lists_within (drop at program) (bytes_behind program at b) p.point p.reads in
      let inside = read_within (drop at program) p.point p.reads in
      let long = length-drop at program in
      subst (Parts program at) (sym (ap point_or p.reads))
      (record {
        at_within = omega (arith, w.references, w.layer_flags, inside, long);
        references = omega (arith, w.references, w.layer_flags, inside, long);
        flags = omega (arith, w.references, w.layer_flags, inside, long);
      })

  module _ (p : IsPoint program at) where
    pub references_many : length (reference_bytes (value_at program at)) ≡ (point_at program at).es_count
    references_many =
        let q = parts_of p in
        length-map (map reference_in (references_in (point_at program at) (drop at program))) reference_byte
        ∙ length-map (references_in (point_at program at) (drop at program)) reference_in
        ∙ length-take-le (point_at program at).es_count (drop 2 (drop at program))
        (omega (arith, q.references, length-drop 2 (drop at program), length-drop at program))

    pub flags_many : length (layer_bytes (value_at program at)) ≡ (point_at program at).num_es_in_op
    flags_many =
        let q = parts_of p in
        length-map (map flags_in (layers_in (point_at program at) (drop at program))) flags_byte
        ∙ length-map (layers_in (point_at program at) (drop at program)) flags_in
        ∙ length-take-le (point_at program at).num_es_in_op (drop (point_at program at).flags_at (drop at program))
        (omega (arith, q.flags, length-drop (point_at program at).flags_at (drop at program), length-drop at program))

-- ---- a payload's head

module _ (program : List ℕ) (b : AreBytes program) (at : ℕ) (p : IsPayload program at) where
  pub record HeadParts (head : Head) : Type 0 where
    pub at_within : at ≤ length program
    pub profiles : at + 1 + head.num_ptl * 12 ≤ length program

  pub head_parts : HeadParts (head_at program at)
  head_parts =
      let inside = head_within (drop at program) p.head p.reads in
      let between = profiles_between (drop at program) (bytes_behind program at b) p.head p.reads in
      let long = length-drop at program in
      subst HeadParts (sym (ap head_or p.reads))
      (record { at_within = omega (arith, inside, between, long); profiles = omega (arith, inside, between, long) })

  pub profiles_many : length (profiles_at program at) ≡ (head_at program at).num_ptl * 12
  profiles_many =
      let q = head_parts in
      length-take-le ((head_at program at).num_ptl * 12) (drop 1 (drop at program)) (omega (arith, q.profiles, length-drop 1 (drop at program), length-drop at program))

-- ---- the reserved bit of a reference makes no difference

module _ (layers : Layers) where
  pub same_reference : (r s : ℕ) → referred r ≡ referred s → prepends r ≡ prepends s → (list others : List ℕ)
      → built_from layers list (r ∷ others) ≡ built_from layers list (s ∷ others)
  same_reference r s e f list others =
      ap₂ (λ (q : ℕ) (p : Bool). cond (not (is_layer layers q) || not (eqb (without (cond p (named layers q) 0) layers.present) 0))
      (record { absent = true; list = stream_list [] })
      (built_from layers (placed q (Rattle.sets.specs.Sets.members_of (without (cond p (named layers q) 0) (set_of list))) list) others)) e f

  kept_bits : (byte : ℕ) → byte < 256 → (referred byte ≡ referred (reference_byte (reference_in byte))) × (prepends byte ≡ prepends (reference_byte (reference_in byte)))
  kept_bits byte h =
      subst (λ (r : Reference). (referred byte ≡ referred (reference_byte r)) × (prepends byte ≡ prepends (reference_byte r))) (reference_at byte h) (go (eqb (byte / 64 % 2) 1) refl)
    where
      go : (b : Bool) → eqb (byte / 64 % 2) 1 ≡ b
          → (byte % 64 ≡ (cond b 64 0 + byte % 64) % 64) × (eqb (byte / 64 % 2) 1 ≡ eqb ((cond b 64 0 + byte % 64) / 64 % 2) 1)
      go true e = (omega arith, e ∙ sym (ap (λ (n : ℕ). eqb n 1) (let z : (64 + byte % 64) / 64 % 2 ≡ 1 = omega arith in z)))
      go false e = (omega arith, e ∙ sym (ap (λ (n : ℕ). eqb n 1) (let z : (0 + byte % 64) / 64 % 2 ≡ 0 = omega arith in z)))

  pub list_by_bytes : (bytes : List ℕ) → AreBytes bytes → (list : List ℕ)
      → built_from layers list bytes ≡ built_from layers list (map reference_byte (map reference_in bytes))
  list_by_bytes [] b list = refl
  list_by_bytes (x ∷ bytes) b list =
      let same = kept_bits x (b 0) in
      same_reference x (reference_byte (reference_in x)) same.0 same.1 list bytes
      ∙ go (no_layer layers (reference_byte (reference_in x))) (list_by_bytes bytes (λ j. b (suc j)) (referring layers list (reference_byte (reference_in x))))
    where
      go : (c : Bool) {a d : ListBuilt} → a ≡ d → cond c (record { absent = true; list = stream_list [] }) a ≡ cond c (record { absent = true; list = stream_list [] }) d
      go true e = refl
      go false e = e

  -- what is built is a list in its array, which has room for it
  pub record Built (built : ListBuilt) : Type 0 where
    pub list : List ℕ
    pub held : built.list ≡ stream_list list
    pub short : length list ≤ 64

  built_from_lem : (references list : List ℕ) → Once list → Small 64 list → Built (built_from layers list references)
  built_from_lem [] list once small = record { list = list; held = refl; short = once_short list 64 once small }
  built_from_lem (r ∷ references) list once small =
      go (no_layer layers r) (built_from_lem references (referring layers list r) (referring_once layers r list once small) (referring_small layers r list once small))
    where
      go : (c : Bool) → Built (built_from layers (referring layers list r) references)
          → Built (cond c (record { absent = true; list = stream_list [] }) (built_from layers (referring layers list r) references))
      go true later = record { list = []; held = refl; short = omega arith }
      go false later = later

  pub built_of : (references : List ℕ) → Built (list_built layers references)
  built_of references = built_from_lem references [] tt (λ i h. absurd (native.Mathlib.Nat.not-suc-le-zero h))

  pub streams_are : (value : PointValue) → streams_of layers value ≡ (built_of (reference_bytes value)).list
  streams_are value =
      let w = built_of (reference_bytes value) in
      ap (λ (s : StreamList). take s.count s.members) w.held
      ∙ take_at w.list (replicate (64 - length w.list) 0) (length w.list) refl

  pub count_small : (value : PointValue) → (list_of layers value).list.count ≤ 64
  count_small value =
      let w = built_of (reference_bytes value) in
      subst (λ (s : StreamList). s.count ≤ 64) (sym w.held) w.short

  pub streams_many : (value : PointValue) → length (streams_of layers value) ≡ (list_of layers value).list.count
  streams_many value =
      let w = built_of (reference_bytes value) in
      ap length (streams_are value) ∙ sym (ap (λ (s : StreamList). s.count) w.held)

  pub list_there : (program : List ℕ) → AreBytes program → (at : ℕ) → IsPoint program at → (es : ℕ) → es ≡ (point_at program at).es_count
      → list_built layers (take (at + 2 + es - (at + 2)) (drop (at + 2) program)) ≡ list_of layers (value_at program at)
  list_there program b at p es e =
      let many : at + 2 + es - (at + 2) ≡ (point_at program at).es_count = omega (arith, e) in
      ap₂ (λ (n : ℕ) (l : List ℕ). list_built layers (take n l)) many (sym (lib.Seq.drop-drop 2 at program))
      ∙ list_by_bytes (references_in (point_at program at) (drop at program))
      (bytes_taken (point_at program at).es_count (drop 2 (drop at program)) (bytes_behind (drop at program) 2 (bytes_behind program at b))) []

  -- ---- one point more

  pub tally_point : (tally : Tally) (program : List ℕ) → AreBytes program → (at : ℕ) → IsPoint program at → (point : Point) (built : ListBuilt)
      → point ≡ point_at program at → built ≡ list_of layers (value_at program at)
      → record {
        absent = tally.absent || built.absent;
        references = tally.references + point.es_count;
        flags = tally.flags + point.num_es_in_op;
        streams = tally.streams + built.list.count;
      } ≡ tally_with layers tally (value_at program at)
  tally_point tally program b at p point built e f =
      ap₂ (λ (x : Point) (y : ListBuilt). record {
        absent = tally.absent || y.absent;
        references = tally.references + x.es_count;
        flags = tally.flags + x.num_es_in_op;
        streams = tally.streams + y.list.count;
      }) e f
      ∙ (λ i. record {
        absent = tally.absent || is_absent layers (value_at program at);
        references = tally.references + sym (references_many program b at p) i;
        flags = tally.flags + sym (flags_many program b at p) i;
        streams = tally.streams + sym (streams_many (value_at program at)) i;
      })

  one_of : {A B : Type 0} (f : A → List B) (xs : List A) (x : A) → length (gather f xs) + length (f x) ≡ length (gather f (xs ++ (x ∷ [])))
  one_of f xs x =
      sym (ap length (gather_append f xs (x ∷ []) ∙ ap (λ (l : List _). gather f xs ++ l) (append-nil (f x))) ∙ length-append (gather f xs) (f x))

  one_any : {A : Type 0} (f : A → Bool) (xs : List A) (x : A) → any f xs || f x ≡ any f (xs ++ (x ∷ []))
  one_any f xs x = sym (any_append f xs (x ∷ []) ∙ ap (λ (b : Bool). any f xs || b) (last (f x)))
    where
      last : (b : Bool) → b || false ≡ b
      last true = refl
      last false = refl

  tally_more : (values : List PointValue) (value : PointValue) → tally_with layers (tally_of layers values) value ≡ tally_of layers (values ++ (value ∷ []))
  tally_more values value =
      λ i. record {
        absent = one_any (is_absent layers) values value i;
        references = one_of reference_bytes values value i;
        flags = one_of layer_bytes values value i;
        streams = one_of (streams_of layers) values value i;
      }

  module _ (program places : List ℕ) where
    pub record Tallying (tally : Tally) (i : ℕ) : Type 0 where
      pub within : i ≤ length places
      pub so_far : tally ≡ tally_of layers (map (value_at program) (take i places))
      pub references : tally.references ≤ 255 * i
      pub flags : tally.flags ≤ 255 * i
      pub streams : tally.streams ≤ 255 * i

    pub tallying_start : Tallying (record { absent = false; references = 0; flags = 0; streams = 0 }) 0
    tallying_start = record { within = omega arith; so_far = refl; references = omega arith; flags = omega arith; streams = omega arith }

    module _ (tally : Tally) (i : ℕ) (known : Tallying tally i) where
      pub tallying_small : length places ≤ 336 → told.Small tally
      tallying_small h =
          record {
            references = omega (arith, known.references, known.within);
            flags = omega (arith, known.flags, known.within);
            streams = omega (arith, known.streams, known.within);
          }

      pub tallying_on : {next : Tally} → i < length places → next ≡ tally_with layers tally (value_at program (get_or places i 0)) → Grows tally next → Tallying next (i + 1)
      tallying_on {next} inside e grows =
          record {
            within = omega arith;
            so_far = e
                ∙ ap (λ (t : Tally). tally_with layers t (value_at program (get_or places i 0))) known.so_far
                ∙ tally_more (map (value_at program) (take i places)) (value_at program (get_or places i 0))
                ∙ ap (tally_of layers)
                (sym (map-append (value_at program) (take i places) (get_or places i 0 ∷ []))
                ∙ ap (map (value_at program)) (sym (take-suc places i 0 inside) ∙ ap (λ (n : ℕ). take n places) (sym (add-one i))));
            references = omega (arith, known.references, grows.references);
            flags = omega (arith, known.flags, grows.flags);
            streams = omega (arith, known.streams, grows.streams);
          }

      pub tallying_end : length places ≤ i → tally ≡ tally_of layers (map (value_at program) places)
      tallying_end h = known.so_far ∙ ap (λ (l : List ℕ). tally_of layers (map (value_at program) l)) (take_all i places h)

-- ---- the bytes of the profile structures

module _ (program places : List ℕ) where
  pub record Summing (bytes i : ℕ) : Type 0 where
    pub within : i ≤ length places
    pub so_far : bytes ≡ length (gather (profiles_at program) (take i places))
    pub small : bytes ≤ 3060 * i

  pub summing_start : Summing 0 0
  summing_start = record { within = omega arith; so_far = refl; small = omega arith }

  module _ (bytes i : ℕ) (known : Summing bytes i) where
    pub summing_on : AreBytes program → (inside : i < length places) → AllPayloads program places → (head : Head) → head ≡ head_at program (get_or places i 0) → head.num_ptl < 256
        → Summing (bytes + head.num_ptl * 12) (i + 1)
    summing_on b inside all head e small =
        let many = profiles_many program b (get_or places i 0) (all i inside) in
        let same : head.num_ptl ≡ (head_at program (get_or places i 0)).num_ptl = ap (λ (h : Head). h.num_ptl) e in
        record {
          within = omega arith;
          so_far = ap₂ (λ (m n : ℕ). m + n) known.so_far (ap (λ (n : ℕ). n * 12) same ∙ sym many)
              ∙ sym (length-append (gather (profiles_at program) (take i places)) (profiles_at program (get_or places i 0)))
              ∙ ap length (sym (gather_next places 0 (profiles_at program) i inside));
          small = omega (arith, known.small);
        }

    pub summing_end : length places ≤ i → bytes ≡ length (gather (profiles_at program) places)
    summing_end h = known.so_far ∙ ap (λ (l : List ℕ). length (gather (profiles_at program) l)) (take_all i places h)
