-- What is found after one descriptor more, as it is seen; where the list of an extension lies; and the first record with the layers that it names.
-- Assumes nothing.
use Prim.Native.Nat.{ℕ, ◌+◌, ◌-◌, ◌≤◌}
use mathlib.Core.Path.{◌≡◌, refl, sym, ◌∙◌, ap}
use mathlib.Core.Bool.{Bool, true, false, cond, ◌&&◌}
use mathlib.Core.List.{List, [], ◌++◌, map}
use native.Mathlib.Omega.{arith}
use borrow.Author.Tests.{eqb-true}
use lib.Dec.{eqb, ltb}
use lib.ListN.{length, get_or, take, drop, length-drop, length-map}
use lib.Seq.{drop-drop, take-add, drop_at, length-take-le}
use Rattle.combinators.specs.Bools.{apart, either_way}
use Rattle.combinators.specs.Padding.{pad_to}
use Rattle.vocabulary.specs.declared.LayerIndex.{LayerIndex}
use Rattle.vocabulary.specs.declared.stream_types.Reading.{Reading}
use Rattle.vocabulary.specs.declared.stream_types.Reading.TheVariants.{Edition2009, Edition2015}
use Rattle.records.specs.declared.Record.{Record}
use Rattle.records.specs.declared.Record.TheVariants.{NoRecord, Hierarchy, Extension, Implied}
use Rattle.descriptors.specs.declared.looking.Look.{Look}
use Rattle.descriptors.specs.declared.looking.Look.TheVariants.{Skipped, WrongLength, Hierarchy as LookHierarchy, Extension as LookExtension}
use Rattle.descriptors.specs.declared.looking.Found.{Found}
use Rattle.descriptors.specs.declared.looking.Named.{Named}
use Rattle.extension.specs.Extension.{no_layer, extension_of, layer_index_of, layers_of, embedded_of}
use Rattle.records.specs.Records.{is_layer, plain, hierarchy_list, with_indices}
use Rattle.descriptors.specs.Looking.{Kind, does_not_fit, skipped, wrong_length, hierarchy, extension, Held, held_in, payload_kind, tag63_kind}
use Rattle.descriptors.specs.Finding.{look_of, layers_in, look_found, list_before, Within, seen_by, named_in}
use Rattle.descriptors.proofs.Cases.{count_small}
use Rattle.records.proofs.Naming.{padded_list}
use Rattle.descriptors.proofs.Steps.{with_look}

module _ (info : List ℕ) (end : ℕ) where
  -- a kind whose list, if it has one, are the bytes before `end`
  abbrev pub Stands : Kind → Type 0
  Stands does_not_fit = Unit {0}
  Stands skipped = Unit {0}
  Stands wrong_length = Unit {0}
  Stands (hierarchy h) = Unit {0}
  Stands (extension x layers) = (layers ≡ list_before info (Extension x) end) × Within info (Extension x) end

  -- one more, as it is seen
  seen_look : (fits wrong second : Bool) (r : Record) (at : ℕ) (k : Kind) → Stands k
      → let f : Found = record { fits = fits; wrong_length = wrong; second_record = second; «record» = r; end = at } in
      seen_by info (look_found f (look_of k) end) ≡ with_look (seen_by info f) (look_of k) (pad_to 63 no_layer (layers_in k))
  seen_look fits wrong second r at does_not_fit s = refl
  seen_look fits wrong second r at skipped s = refl
  seen_look fits wrong second r at wrong_length s = refl
  seen_look fits wrong second NoRecord at (hierarchy h) s = refl
  seen_look fits wrong second (Hierarchy g) at (hierarchy h) s = refl
  seen_look fits wrong second (Extension g) at (hierarchy h) s = refl
  seen_look fits wrong second Implied at (hierarchy h) s = refl
  seen_look fits wrong second NoRecord at (extension x layers) s =
      ap
      (λ (l : List LayerIndex). record { fits = fits; wrong_length = wrong; second_record = second; «record» = Extension x; embedded = pad_to 63 no_layer l })
      (sym s.0)
  seen_look fits wrong second (Hierarchy g) at (extension x layers) s = refl
  seen_look fits wrong second (Extension g) at (extension x layers) s = refl
  seen_look fits wrong second Implied at (extension x layers) s = refl

  within_look : (fits wrong second : Bool) (r : Record) (at : ℕ) (k : Kind) → Stands k → Within info r at
      → let after : Found = look_found (record { fits = fits; wrong_length = wrong; second_record = second; «record» = r; end = at }) (look_of k) end in
      Within info after.«record» after.end
  within_look fits wrong second r at does_not_fit s w = w
  within_look fits wrong second r at skipped s w = w
  within_look fits wrong second r at wrong_length s w = w
  within_look fits wrong second NoRecord at (hierarchy h) s w = tt
  within_look fits wrong second (Hierarchy g) at (hierarchy h) s w = tt
  within_look fits wrong second (Extension g) at (hierarchy h) s w = w
  within_look fits wrong second Implied at (hierarchy h) s w = tt
  within_look fits wrong second NoRecord at (extension x layers) s w = s.1
  within_look fits wrong second (Hierarchy g) at (extension x layers) s w = tt
  within_look fits wrong second (Extension g) at (extension x layers) s w = w
  within_look fits wrong second Implied at (extension x layers) s w = tt

  module _ (f : Found) (k : Kind) (s : Stands k) where
    pub found_seen : seen_by info (look_found f (look_of k) end) ≡ with_look (seen_by info f) (look_of k) (pad_to 63 no_layer (layers_in k))
    found_seen = seen_look f.fits f.wrong_length f.second_record f.«record» f.end k s

    pub found_within : Within info f.«record» f.end → Within info (look_found f (look_of k) end).«record» (look_found f (look_of k) end).end
    found_within w = within_look f.fits f.wrong_length f.second_record f.«record» f.end k s w

-- An extension among the kinds of a payload lists the bytes behind its fields, as many as it counts.
abbrev pub Shaped : List ℕ → Kind → Type 0
Shaped p does_not_fit = Unit {0}
Shaped p skipped = Unit {0}
Shaped p wrong_length = Unit {0}
Shaped p (hierarchy h) = Unit {0}
Shaped p (extension x layers) =
    (length p ≡ 7 + x.num_embedded_layers) × (x.num_embedded_layers ≤ 63) × (layers ≡ layers_of (drop 7 p))

module _ (p : List ℕ) where
  counted : (b : Bool) → eqb (length p) (7 + (extension_of p).num_embedded_layers) ≡ b
      → Shaped p (cond b (extension (extension_of p) (embedded_of p)) wrong_length)
  counted false e = tt
  counted true e =
      let small = count_small p in
      (eqb-true (length p) (7 + (extension_of p).num_embedded_layers) e, omega arith, refl)

  by_reading : (reading : Reading) → Shaped p (tag63_kind reading p)
  by_reading Edition2009 = tt
  by_reading Edition2015 =
      either_way (Shaped p) (ltb 0 (length p) && eqb (get_or p 0 0) 0x06) _ _ (counted (eqb (length p) (7 + (extension_of p).num_embedded_layers)) refl) tt

  pub payload_shaped : (reading : Reading) (tag : ℕ) → Shaped p (payload_kind reading tag p)
  payload_shaped reading tag =
      either_way (Shaped p) (eqb tag 4) _ _ (either_way (Shaped p) (eqb (length p) 4) _ _ tt tt)
      (either_way (Shaped p) (eqb tag 63) _ _ (by_reading reading) tt)

-- Its list are the last bytes of the descriptor that stands at `at`: the payload has n bytes, behind a head of two.
module _ (info : List ℕ) (at n : ℕ) (room : at + (2 + n) ≤ length info) where
  abbrev payload : List ℕ
  payload = take n (drop 2 (drop at info))

  long : length payload ≡ n
  long =
      length-take-le n (drop 2 (drop at info))
      (omega (arith, length-drop 2 (drop at info), length-drop at info))

  last_bytes : (m : ℕ) → length payload ≡ 7 + m → drop 7 payload ≡ take m (drop (at + (2 + n) - m) info)
  last_bytes m e =
      let rest : List ℕ = drop 2 (drop at info) in
      let is_n : n ≡ 7 + m = sym long ∙ e in
      let rest_long : length rest ≡ length info - at - 2 = length-drop 2 (drop at info) ∙ ap (λ (l : ℕ). l - 2) (length-drop at info) in
      let cut : drop 7 (take (7 + m) rest) ≡ take m (drop 7 rest) =
      ap (drop 7) (take-add 7 m rest) ∙ drop_at (take 7 rest) (take m (drop 7 rest)) 7 (length-take-le 7 rest (omega arith)) in
      let place : at + 2 + 7 ≡ at + (2 + n) - m = omega arith in
      let behind : drop 7 rest ≡ drop (at + (2 + n) - m) info =
      ap (drop 7) (drop-drop 2 at info) ∙ drop-drop 7 (at + 2) info ∙ ap (λ (i : ℕ). drop i info) place in
      ap (λ (i : ℕ). drop 7 (take i rest)) is_n ∙ cut ∙ ap (take m) behind

  stands : (k : Kind) → Shaped payload k → Stands info (at + (2 + n)) k
  stands does_not_fit s = tt
  stands skipped s = tt
  stands wrong_length s = tt
  stands (hierarchy h) s = tt
  stands (extension x layers) s =
      let m : ℕ = x.num_embedded_layers in
      let is_n : n ≡ 7 + m = sym long ∙ s.0 in
      (s.2 ∙ ap layers_of (last_bytes m s.0), (omega arith, room, s.1))

  pub payload_stands : (reading : Reading) (tag : ℕ) → Stands info (at + (2 + n)) (payload_kind reading tag payload)
  payload_stands reading tag = stands (payload_kind reading tag payload) (payload_shaped payload reading tag)

-- ---- the first record, and the layers that it names

-- what a look at a payload says of them
abbrev pub Names : List ℕ → Look → Named → Type 0
Names p Skipped named = named ≡ named_in 0 []
Names p WrongLength named = named ≡ named_in 0 []
Names p (LookHierarchy h) named = named ≡ record { «record» = Hierarchy h; names = with_indices 0 (map plain (hierarchy_list h)) }
Names p (LookExtension x) named =
    (7 ≤ length p) × (named ≡ record { «record» = Extension x; names = with_indices 0 (map plain (layers_of (drop 7 p))) })

pub look_names : (stream_type : ℕ) (p : List ℕ) (k : Kind) → Shaped p k → Names p (look_of k) (named_in stream_type (held_in k))
look_names stream_type p does_not_fit s = refl
look_names stream_type p skipped s = refl
look_names stream_type p wrong_length s = refl
look_names stream_type p (hierarchy h) s = refl
look_names stream_type p (extension x layers) s =
    let m : ℕ = x.num_embedded_layers in
    let enough = s.0 in
    let behind : length (drop 7 p) ≡ m = length-drop 7 p ∙ omega arith in
    let counted_layers : length layers ≡ m = ap length s.2 ∙ length-map (drop 7 p) layer_index_of ∙ behind in (
      omega arith,
      ap (λ (l : List LayerIndex). record { «record» = Extension x; names = with_indices 0 (map plain l) }) (padded_list layers m counted_layers ∙ s.2),
    )

-- a kind that holds a record is the first, and one that holds none adds nothing
pub first_named : (stream_type : ℕ) (k : Kind) (others : List Held) → is_layer (named_in stream_type (held_in k)).«record» ≡ true
    → named_in stream_type (held_in k) ≡ named_in stream_type (held_in k ++ others)
first_named stream_type does_not_fit others e = apart e
first_named stream_type skipped others e = apart e
first_named stream_type wrong_length others e = apart e
first_named stream_type (hierarchy h) others e = refl
first_named stream_type (extension x layers) others e = refl

pub none_named : (stream_type : ℕ) (k : Kind) (others : List Held) → is_layer (named_in stream_type (held_in k)).«record» ≡ false
    → named_in stream_type others ≡ named_in stream_type (held_in k ++ others)
none_named stream_type does_not_fit others e = refl
none_named stream_type skipped others e = refl
none_named stream_type wrong_length others e = refl
none_named stream_type (hierarchy h) others e = apart (sym e)
none_named stream_type (extension x layers) others e = apart (sym e)
