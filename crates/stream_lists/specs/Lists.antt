-- The list of the elementary streams of an operation point, OperationPointESList, as 2.6.101 of source 000 builds it and as docs/DECISIONS.md settles
-- it: 'references in order; each is added at the end when not present yet; with prepend_dependencies 1 its direct embedded layers that are not present
-- yet go immediately before its place, in ascending order, also when the reference itself was present'.
-- Assumes nothing.
use Rattle.std.specs.Prelude.{ℕ, ◌/◌, ◌%◌, Bool, true, false, not, cond, ◌||◌, List, [], ◌∷◌, eqb, length}
use Rattle.combinators.specs.Lists.{any}
use Rattle.combinators.specs.Padding.{pad_to}
use Rattle.sets.specs.Sets.{joined, only, without, members_of}
use Rattle.closure.specs.declared.Layers.{Layers}
use Rattle.closure.specs.Closures.{is_layer, named}
use Rattle.stream_lists.specs.declared.StreamList.{StreamList}
use Rattle.stream_lists.specs.declared.ListBuilt.{ListBuilt}
use Rattle.stream_lists.specs.Insertion.{placed}

-- ---- one reference, a byte of Table 2-111bis: reserved 1, prepend_dependencies 1, ES_reference 6

abbrev pub referred : ℕ → ℕ
referred reference = reference % 64

abbrev pub prepends : ℕ → Bool
prepends reference = eqb (reference / 64 % 2) 1

-- the set of the dependencies that it asks to be prepended: what the layer itself names, and none of what that rests on
abbrev pub asked : Layers → ℕ → ℕ
asked layers reference = cond (prepends reference) (named layers (referred reference)) 0

-- ---- a list as a set

abbrev pub set_of : List ℕ → ℕ
set_of [] = 0
set_of (x ∷ list) = joined (only x) (set_of list)

-- ---- the list

-- one reference more: what it asks for and is not present yet, in ascending order, immediately before its place
abbrev pub referring : Layers → List ℕ → ℕ → List ℕ
referring layers list reference = placed (referred reference) (members_of (without (asked layers reference) (set_of list))) list

-- 42: the reference, or a dependency to be prepended, is no layer of the loop
abbrev pub no_layer : Layers → ℕ → Bool
no_layer layers reference =
    not (is_layer layers (referred reference)) || not (eqb (without (asked layers reference) layers.present) 0)

-- a list as the answer has it: as a set, its length, and the members from the front of an array
abbrev pub stream_list : List ℕ → StreamList
stream_list list = record { present = set_of list; count = length list; members = pad_to 64 0 list }

-- THE LIST after these references, from what was listed before them; or 42, and no list
abbrev pub built_from : Layers → List ℕ → List ℕ → ListBuilt
built_from layers list [] = record { absent = false; list = stream_list list }
built_from layers list (reference ∷ references) =
    cond (no_layer layers reference) (record { absent = true; list = stream_list [] }) (built_from layers (referring layers list reference) references)

abbrev pub list_built : Layers → List ℕ → ListBuilt
list_built layers references = built_from layers [] references

-- ---- whether a list is closed under embedding: no member names what is none

abbrev pub escapes : Layers → ℕ → ℕ → Bool
escapes layers set i = not (eqb (without (named layers i) set) 0)

abbrev pub is_closed : Layers → ℕ → Bool
is_closed layers set = not (any (escapes layers set) (members_of set))
