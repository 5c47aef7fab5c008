-- WHAT EACH LAYER RESTS ON, kept by its index while layers come and go: 'Each layer record of a layer set stores its closure as a set of 64 indices, the
-- number of layers in it, and whether one is absent.' An absent index is in the closure as it is named; what lies below it is unknown and adds nothing
-- until that layer is there.
-- Assumes nothing.
use Rattle.std.specs.Prelude.{ℕ, zero, suc, ◌+◌, ◌-◌, ◌<◌, Bool, false, not, cond, ◌&&◌, List, ◌≡◌, eqb, ltb, length, get_or, set, replicate, Err, Ok}
use Rattle.combinators.specs.Each.{each_below}
use Rattle.sets.specs.Sets.{has, joined, only, added, without, size, lowest}
use Rattle.closure.specs.declared.Layers.{Layers}
use Rattle.kept_closures.specs.declared.Columns.{Columns}
use Rattle.vocabulary.specs.declared.refusal.Refusal.TheVariants.{NoSuchLayer, EmbeddedLayerAbsent}
use Rattle.closure.specs.Answer.{Closure}
use Rattle.closure.specs.Closures.{is_layer, rested_on}

-- layers by their two parts
abbrev pub layers_by : ℕ → List ℕ → Layers
layers_by present embedded = record { present = present; embedded = embedded }

-- the closure of a layer, worked out afresh; and of an index that no layer has nothing
abbrev pub fresh_of : Layers → ℕ → ℕ
fresh_of layers i = cond (is_layer layers i) (rested_on layers i) 0

-- whether a closure lacks a layer, among those that are present
abbrev pub lacks_one : ℕ → ℕ → Bool
lacks_one present closure = not (eqb (without closure present) 0)

-- WHAT IS KEPT, by index, by its three columns: the closures; of each how many layers are in it; and whether one is absent
abbrev pub columns : List ℕ → List ℕ → List Bool → Columns
columns closures sizes absents = record { closures = closures; sizes = sizes; absents = absents }

-- the three values of a closure put at an index
abbrev pub stored_at : ℕ → ℕ → ℕ → Columns → Columns
stored_at present closure i kept =
    columns (set kept.closures i closure) (set kept.sizes i (size closure)) (set kept.absents i (lacks_one present closure))

-- What is kept of an index is what would be worked out afresh,
pub record FreshAt (layers : Layers) (kept : Columns) (i : ℕ) : Type 0 where
  pub closure : get_or kept.closures i 0 ≡ fresh_of layers i
  pub layers_in_it : get_or kept.sizes i 0 ≡ size (get_or kept.closures i 0)
  pub one_absent : get_or kept.absents i false ≡ lacks_one layers.present (get_or kept.closures i 0)

pub record Places (kept : Columns) : Type 0 where
  pub of_closures : length kept.closures ≡ 64
  pub of_sizes : length kept.sizes ≡ 64
  pub of_absents : length kept.absents ≡ 64

-- THE INVARIANT: and so of each index.
pub record Kept (layers : Layers) (kept : Columns) : Type 0 where
  pub places : Places kept
  pub fresh : (i : ℕ) → i < 64 → FreshAt layers kept i

-- a layer more, which names these; and a layer less
abbrev pub with_layer : Layers → ℕ → ℕ → Layers
with_layer layers i names = record { present = added layers.present i; embedded = set layers.embedded i names }

abbrev pub without_layer : Layers → ℕ → Layers
without_layer layers i = record { present = without layers.present (only i); embedded = set layers.embedded i 0 }

-- HOW A CLOSURE IS PUT TOGETHER from what is kept: a closure with an index, if it is named, and with what that rests on
abbrev pub with_named : ℕ → ℕ → ℕ → ℕ → ℕ
with_named closure names j resting = cond (has names j) (joined closure (joined resting (only j))) closure

-- the members of a set below n, each with what it rests on
abbrev pub united : List ℕ → ℕ → ℕ → ℕ
united closures names zero = 0
united closures names (suc j) = with_named (united closures names j) names j (get_or closures j 0)

-- the closure of a layer that names these
abbrev pub closure_over : List ℕ → ℕ → ℕ → ℕ
closure_over closures i names = joined (only i) (united closures names i)

-- what comes to a layer that rests on an index, once that has a layer
abbrev pub grown_at : ℕ → ℕ → ℕ → ℕ → Columns → Columns
grown_at present own i k kept =
    cond (has (get_or kept.closures k 0) i) (stored_at present (joined (get_or kept.closures k 0) own) k kept) kept

-- the closure of a layer that rested on an index which has no layer any more, put together again from what it names
abbrev pub shrunk_at : ℕ → ℕ → ℕ → ℕ → Columns → Columns
shrunk_at present i k names kept =
    cond (has (get_or kept.closures k 0) i) (stored_at present (closure_over kept.closures k names) k kept) kept

-- A CHANGE, INDEX BY INDEX: what a step makes of what is kept, for the n indices from k on, the lower first, since a higher layer rests on it
abbrev pub steps_from : (ℕ → Columns → Columns) → ℕ → ℕ → Columns → Columns
steps_from step k zero kept = kept
steps_from step k (suc n) kept = steps_from step (suc k) n (step k kept)

-- what comes to every layer above an index that has a layer now,
abbrev pub grown_above : ℕ → ℕ → ℕ → Columns → Columns
grown_above present own i kept = steps_from (grown_at present own i) (i + 1) (63 - i) kept

-- and what goes from every layer above one that has none any more
abbrev pub shrunk_by : ℕ → ℕ → List ℕ → ℕ → Columns → Columns
shrunk_by present i embedded k kept = shrunk_at present i k (get_or embedded k 0) kept

abbrev pub shrunk_above : ℕ → ℕ → List ℕ → Columns → Columns
shrunk_above present i embedded kept = steps_from (shrunk_by present i embedded) (i + 1) (63 - i) kept

-- A LAYER MORE: its own closure is put together, and comes to those that rest on it.
unfoldable pub columns_added : ℕ → ℕ → ℕ → Columns → Columns
columns_added present i names kept =
    let own : ℕ = closure_over kept.closures i names in
    grown_above (added present i) own i (stored_at (added present i) own i kept)

-- A LAYER LESS: nothing is kept of it, and the closures of those that rested on it are put together again.
unfoldable pub columns_removed : ℕ → List ℕ → ℕ → Columns → Columns
columns_removed present embedded i kept =
    let left : ℕ = without present (only i) in
    shrunk_above left i (set embedded i 0) (stored_at left 0 i kept)

-- ALL OF IT, WORKED OUT AFRESH: by index what each layer rests on, how many that are, and whether one is absent; and nothing where there is no layer
unfoldable pub fresh_columns : Layers → Columns
fresh_columns layers =
    columns
    (each_below (fresh_of layers) 64)
    (each_below (λ i. size (fresh_of layers i)) 64)
    (each_below (λ i. lacks_one layers.present (fresh_of layers i)) 64)

-- the closure of a layer put together where nothing is kept of it yet
abbrev pub worked_at : ℕ → ℕ → ℕ → Columns → Columns
worked_at present k names kept =
    cond (has present k) (stored_at present (closure_over kept.closures k names) k kept) kept

abbrev pub worked_by : ℕ → List ℕ → ℕ → Columns → Columns
worked_by present embedded k kept = worked_at present k (get_or embedded k 0) kept

-- nothing kept of any index
abbrev pub no_columns : Columns
no_columns = columns (replicate 64 0) (replicate 64 0) (replicate 64 false)

-- THE ANSWER TO A TARGET from what is kept: 11 where there is no layer with the target index; 12, at the lowest missing index, where a layer in the closure is absent;
-- else the closure.
abbrev pub answer_kept : ℕ → List ℕ → List Bool → ℕ → Closure
answer_kept present closures absents target =
    cond (ltb target 64 && has present target)
    (cond (get_or absents target false) (Err (EmbeddedLayerAbsent (record { 0 = lowest (without (get_or closures target 0) present) })))
    (Ok (get_or closures target 0)))
    (Err NoSuchLayer)
