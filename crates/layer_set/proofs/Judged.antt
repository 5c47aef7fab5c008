-- What is known of an entry that may be added: nothing is too wide, and none of 3 and 6 to 9 applies. Then it is a layer by a descriptor, of an index of six bits that
-- the set has not, and its PID is new.
-- Assumes nothing.
use Prim.Native.Nat.{ℕ, ◌≤◌, ◌<◌}
use mathlib.Core.Bool.{Bool, true, false, not}
use mathlib.Core.List.{List}
use mathlib.Core.Path.{◌≡◌, refl, ap, ◌∙◌}
use native.Mathlib.Omega.{arith}
use lib.ListN.{get_or}
use Rattle.combinators.specs.Bools.{both_ways}
use Rattle.combinators.specs.Lists.{any, first_true, first_true_lem}
use Rattle.syntax.specs.Filled.{too_wide_in}
use Rattle.syntax.proofs.Equations.{bounds}
use Rattle.vocabulary.specs.declared.LayerIndex.{LayerIndex}
use Rattle.hierarchy.proofs.Widths.{hierarchy_fit}
use Rattle.extension.proofs.Widths.{extension_fit}
use Rattle.records.specs.declared.Record.{Record}
use Rattle.records.specs.declared.Record.TheVariants.{NoRecord, Hierarchy, Extension, Implied}
use Rattle.records.specs.Records.{is_layer, record_tables}
use Rattle.judging.specs.Judging.{type_not_allowed, wrong_flags, wrong_embedded}
use Rattle.judging.specs.Meaning.{has_descriptor}
use Rattle.sets.specs.Sets.{has}
use Rattle.loop_entries.specs.declared.Entry.{Entry}
use Rattle.loop_outlines.specs.declared.Outline.{Outline}
use Rattle.loop_outlines.specs.Outlines.{outline_of}
use Rattle.loop_faults.specs.Conditions.{conditions, slot_of}
use Rattle.loop_faults.specs.Outlined.{tests as outlineTests}
use Rattle.loop_writer.specs.Layout.{too_wide}
use Rattle.loop_writer.specs.Verdict.{stream_for}
use Rattle.loop_writer.proofs.Entries.{record_fit}
use Rattle.loop_layers.specs.Layers.{place_of}
use Rattle.layer_set.specs.Sets.{pid_held, fault_of}

-- the number that the code finds
pub fault_parts : (present : ℕ) (entries : List Entry) (e : Entry) (layer held there : Bool) (index : ℕ) (outline : Outline) (number : ℕ)
    → layer ≡ is_layer e.«record» → held ≡ pid_held present entries e.pid → index ≡ place_of e → there ≡ has present index → outline ≡ outline_of (stream_for e)
    → number ≡ first_true (outlineTests (not layer) held there outline) → number ≡ fault_of present entries e
fault_parts present entries e layer held there index outline number is_layer_lem is_held_lem is_index is_there is-outline is_number =
    is_number
    ∙ ap (λ (o : Outline). first_true (outlineTests (not layer) held there o)) is-outline
    ∙ ap (λ (b : Bool). first_true (conditions (not b) held there (stream_for e))) is_layer_lem
    ∙ ap (λ (b : Bool). first_true (conditions (not (is_layer e.«record»)) b there (stream_for e))) is_held_lem
    ∙ ap (λ (b : Bool). first_true (conditions (not (is_layer e.«record»)) (pid_held present entries e.pid) b (stream_for e))) (is_there ∙ ap (has present) is_index)

-- a record that 6 does not apply to
descriptor_only : (t : ℕ) (r : Record) → type_not_allowed (not (is_layer r)) t r ≡ false → has_descriptor r ≡ true
descriptor_only t NoRecord e = both_ways refl e
descriptor_only t (Hierarchy h) e = refl
descriptor_only t (Extension x) e = refl
descriptor_only t Implied e = both_ways refl e

-- its index has six bits where nothing is too wide
pub small_index : (t : ℕ) (r : Record) (layers : List LayerIndex) → any too_wide_in (record_tables r layers) ≡ false → has_descriptor r ≡ true → slot_of t r < 64
small_index t NoRecord layers e d = both_ways d refl
small_index t (Hierarchy h) layers e d = (bounds (hierarchy_fit h e)).1.1.1.1.1.0
small_index t (Extension x) layers e d = (bounds (extension_fit x layers e)).1.0
small_index t Implied layers e d = both_ways d refl

module _ (present : ℕ) (entries : List Entry) (e : Entry) where
  abbrev pub tests : List Bool
  tests = conditions (not (is_layer e.«record»)) (pid_held present entries e.pid) (has present (place_of e)) (stream_for e)

  -- no number applies
  module _ (none : 10 ≤ fault_of present entries e) where
    clear : (n : ℕ) → n < 10 → get_or tests n false ≡ false
    clear n h = (first_true_lem tests).before n (let l : n < fault_of present entries e = omega arith in l)

    pub pid_new : pid_held present entries e.pid ≡ false
    pid_new = clear 3 (omega arith)

    pub allowed : type_not_allowed (not (is_layer e.«record»)) e.stream_type e.«record» ≡ false
    allowed = clear 6 (omega arith)

    pub right_flags : wrong_flags e.«record» ≡ false
    right_flags = clear 7 (omega arith)

    pub index_new : has present (place_of e) ≡ false
    index_new = clear 8 (omega arith)

    pub right_list : wrong_embedded e.stream_type e.«record» e.embedded ≡ false
    right_list = clear 9 (omega arith)

    pub described : has_descriptor e.«record» ≡ true
    described = descriptor_only e.stream_type e.«record» allowed

    pub place_small : too_wide e ≡ false → place_of e < 64
    place_small narrow = small_index e.stream_type e.«record» e.embedded (record_fit e narrow) described
