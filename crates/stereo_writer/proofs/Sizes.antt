-- How many bytes a set takes: those of the loop, and 20 more.
-- Assumes nothing.
use Rattle.std.specs.Prelude.{Err, Ok}
use Prim.Native.Nat.{ℕ, ◌+◌}
use mathlib.Core.Path.{◌≡◌, refl, ◌∙◌, ap}
use mathlib.Core.Bool.{Bool, true, false, cond, ◌&&◌, ◌||◌}
use mathlib.Core.List.{List, [], ◌∷◌, ◌++◌, map}
use native.Mathlib.Nat.{zero-add}
use native.Mathlib.Omega.{arith}
use lib.ListN.{length, length-append}
use Rattle.combinators.specs.Bools.{both_left, both_right, either_left, either_right}
use Rattle.combinators.specs.Lists.{gather}
use Rattle.syntax.specs.Table.{fits}
use Rattle.syntax.specs.Filled.{bytes_in}
use Rattle.vocabulary.specs.declared.refusal.Refusal.{Refusal}
use Rattle.records.specs.Records.{is_layer, record_tables}
use Rattle.loop_entries.specs.declared.Entry.{Entry}
use Rattle.es_loop.specs.Answer.{Outcome}
use Rattle.loop_writer.specs.Layout.{entry_bytes, loop_bytes}
use Rattle.mvc_extension.specs.declared.MvcExtension.{MvcExtension}
use Rattle.mvc_extension.specs.MvcExtension.{mvc_extension_descriptor, mvc_extension_fields}
use Rattle.mvc_descriptors.specs.Tables.{mvc_extension_tables}
use Rattle.stereo_set.specs.declared.views.View.{View}
use Rattle.stereo_set.specs.Views.{is_base_layer, is_second_layer, if_layer, layers_among}
use Rattle.stereo_set.specs.Set.{arranged, set_of}
use Rattle.stereo_writer.specs.Layout.{extension_for, view_for, is_part, extra_size, extra_tables, stereo_info, stereo_entry, stereo_bytes}
use Rattle.stereo_writer.specs.Writing.{set_for}

module _ (x y : MvcExtension) where
  -- the descriptor that an entry is given takes 10 bytes
  pub extra_size_lem : (e : Entry) → length (gather bytes_in (extra_tables x y e)) ≡ extra_size e
  extra_size_lem e = go (is_part e)
    where
      go : (b : Bool) → length (gather bytes_in (cond b (mvc_extension_tables (extension_for x y e.stream_type)) [])) ≡ cond b 10 0
      go true = refl
      go false = refl

  -- whichever it is, it fits where both do
  pub extension_fits : fits mvc_extension_descriptor (mvc_extension_fields x) ≡ true → fits mvc_extension_descriptor (mvc_extension_fields y) ≡ true → (b : Bool)
      → fits mvc_extension_descriptor (mvc_extension_fields (cond b y x)) ≡ true
  extension_fits p q true = q
  extension_fits p q false = p

  entry_size : (e : Entry) → length (stereo_entry x y e) ≡ length (entry_bytes e) + extra_size e
  entry_size e =
      let info : List ℕ = gather bytes_in (record_tables e.«record» e.embedded) in
      let extra : List ℕ = gather bytes_in (extra_tables x y e) in
      let both : length (stereo_info x y e) ≡ length info + length extra = length-append info extra in
      omega (arith, both, extra_size_lem e)

  -- what all of them are given
  abbrev extra_sizes : List Entry → ℕ
  extra_sizes [] = 0
  extra_sizes (e ∷ es) = extra_size e + extra_sizes es

  all_sizes : (es : List Entry) → length (stereo_bytes x y es) ≡ length (loop_bytes es) + extra_sizes es
  all_sizes [] = refl
  all_sizes (e ∷ es) =
      let rest = all_sizes es in
      omega (arith, entry_size e, length-append (stereo_entry x y e) (stereo_bytes x y es), length-append (entry_bytes e) (loop_bytes es))

  -- the layers alone are given anything
  abbrev given : View → ℕ
  given v = cond (is_base_layer v.entry || is_second_layer v.entry) 10 0

  abbrev all_given : List View → ℕ
  all_given [] = 0
  all_given (v ∷ vs) = given v + all_given vs

  layers_given : (es : List Entry) → extra_sizes es ≡ all_given (layers_among (map (view_for x y) es))
  layers_given [] = refl
  layers_given (e ∷ es) = go (is_layer e.«record») refl (layers_given es)
    where
      go : (b : Bool) → is_layer e.«record» ≡ b → extra_sizes es ≡ all_given (layers_among (map (view_for x y) es))
          → extra_sizes (e ∷ es) ≡ all_given (if_layer (view_for x y e) ++ layers_among (map (view_for x y) es))
      go true p ih = rw p (ap (λ (n : ℕ). given (view_for x y e) + n) ih)
      go false p ih = rw p (zero-add (extra_sizes es) ∙ ih)

  -- the two layers of a set each are
  never : {A : Type 0} {r : Refusal} → ◌≡◌ {A = Outcome} (Err r) (Ok tt) → A
  never {A} {r} e = let z : ◌≡◌ {A = ℕ} 0 1 = cc in absurd (omega arith)

  both_given : (a b : View) → (is_base_layer a.entry && is_second_layer b.entry) ≡ true → given a + (given b + 0) ≡ 20
  both_given a b e =
      let first : (is_base_layer a.entry || is_second_layer a.entry) ≡ true =
      either_left (is_base_layer a.entry) (is_second_layer a.entry) (both_left (is_base_layer a.entry) (is_second_layer b.entry) e) in
      let second : (is_base_layer b.entry || is_second_layer b.entry) ≡ true =
      either_right (is_base_layer b.entry) (is_second_layer b.entry) (both_right (is_base_layer a.entry) (is_second_layer b.entry) e) in
      rw (first, second)

  two_given : (a b : View) → (arranged a b).outcome ≡ Ok tt → given a + (given b + 0) ≡ 20
  two_given a b o = go (is_base_layer a.entry && is_second_layer b.entry) (is_base_layer b.entry && is_second_layer a.entry) refl refl
    where
      go : (p q : Bool) → (is_base_layer a.entry && is_second_layer b.entry) ≡ p → (is_base_layer b.entry && is_second_layer a.entry) ≡ q
          → given a + (given b + 0) ≡ 20
      go true q e f = both_given a b e
      go false true e f = let swapped = both_given b a f in omega arith
      go false false e f = never (rw (e, f) at o)

  set_given : (ls : List View) → (set_of ls).outcome ≡ Ok tt → all_given ls ≡ 20
  set_given [] o = never o
  set_given (a ∷ []) o = never o
  set_given (a ∷ b ∷ []) o = two_given a b o
  set_given (a ∷ b ∷ c ∷ others) o = never o

  -- A SET TAKES 20 BYTES MORE.
  pub set_size : (es : List Entry) → (set_for x y es).outcome ≡ Ok tt → length (stereo_bytes x y es) ≡ length (loop_bytes es) + 20
  set_size es o =
      let twenty : extra_sizes es ≡ 20 = layers_given es ∙ set_given (layers_among (map (view_for x y) es)) o in
      all_sizes es ∙ ap (λ (n : ℕ). length (loop_bytes es) + n) twenty
