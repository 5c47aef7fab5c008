-- What is right, in the words of W-205 and of docs/DECISIONS.md, which settle 2.6.101, with no word of how it is found.
-- proofs/Meant.antt has the laws that join this to what is computed, and proofs/Union.antt what a closed list gives.
-- Assumes nothing.
use Rattle.std.specs.Prelude.{ℕ, true, false, List, [], ◌∷◌, ◌++◌, ◌≡◌}
use Rattle.combinators.specs.Ascending.{Ascending}
use Rattle.combinators.specs.Lists.{Nth}
use Rattle.combinators.specs.Members.{member}
use Rattle.sets.specs.Sets.{has}
use Rattle.closure.specs.declared.Layers.{Layers}
use Rattle.closure.specs.Closures.{is_layer}
use Rattle.closure.specs.Meaning.{Names, RestsOn, WholeClosure}
use Rattle.stream_lists.specs.declared.ListBuilt.{ListBuilt}
use Rattle.stream_lists.specs.Lists.{referred, prepends, stream_list}

-- 'with prepend_dependencies 1 its direct embedded layers that are not present yet'
pub record ToPrepend (layers : Layers) (reference : ℕ) (list : List ℕ) (j : ℕ) : Type 0 where
  pub flagged : prepends reference ≡ true
  pub embedded : Names layers (referred reference) j
  pub not_yet : member j list ≡ false

-- One reference turns a list into another: it 'is added at the end when not present yet', and what it has to be prepended goes 'immediately before its
-- place, in ascending order, also when the reference itself was present'.
pub data Adds (layers : Layers) (reference : ℕ) (list : List ℕ) : List ℕ → Type 0 where
  at_the_end : (new : List ℕ) → member (referred reference) list ≡ false → Ascending (ToPrepend layers reference list) new
      → Adds layers reference list (list ++ (new ++ (referred reference ∷ [])))
  where_it_stands : (front new back : List ℕ) → list ≡ front ++ (referred reference ∷ back) → member (referred reference) front ≡ false
      → Ascending (ToPrepend layers reference list) new → Adds layers reference list (front ++ (new ++ (referred reference ∷ back)))

-- 'references in order'
pub data Lists (layers : Layers) : List ℕ → List ℕ → List ℕ → Type 0 where
  none : {list : List ℕ} → Lists layers list [] list
  next : {before after list : List ℕ} {reference : ℕ} {references : List ℕ} → Adds layers reference before after
      → Lists layers after references list → Lists layers before (reference ∷ references) list

-- 42: 'a reference, or a dependency to be prepended, that is no layer of the loop'
pub data NoLayer (layers : Layers) (reference : ℕ) : Type 0 where
  itself : is_layer layers (referred reference) ≡ false → NoLayer layers reference
  dependency : {j : ℕ} → prepends reference ≡ true → Names layers (referred reference) j → is_layer layers j ≡ false → NoLayer layers reference

-- THE ANSWER to a point's references: 42 where one of them is such, else the list that they give, from none.
pub data Answers (layers : Layers) (references : List ℕ) : ListBuilt → Type 0 where
  refused : {k reference : ℕ} → Nth references k reference → NoLayer layers reference
      → Answers layers references (record { absent = true; list = stream_list [] })
  built : {list : List ℕ} → ((k reference : ℕ) → Nth references k reference → NoLayer layers reference → ⊥) → Lists layers [] references list
      → Answers layers references (record { absent = false; list = stream_list list })

-- A set of layers is closed under embedding: what a member names is a member.
pub record Closed (layers : Layers) (set : ℕ) : Type 0 where
  pub inside : (i j : ℕ) → has set i ≡ true → Names layers i j → has set j ≡ true

-- j is in the closure of one of the list's members
pub record OfAMember (layers : Layers) (list : List ℕ) (j : ℕ) : Type 0 where
  pub index : ℕ
  pub listed : member index list ≡ true
  pub rested_on : RestsOn layers index j

-- 'gives the same layers as the closures of its members joined': the indices of `ordered` are, in rising order, exactly those that some member of the
-- list rests on, and each member's closure is complete.
pub record ClosuresJoined (layers : Layers) (list ordered : List ℕ) : Type 0 where
  pub union : Ascending (OfAMember layers list) ordered
  pub complete : (i : ℕ) → member i list ≡ true → (set : ℕ) × WholeClosure layers i set

-- a list, ordered by index
abbrev pub Ordered : List ℕ → List ℕ → Type 0
Ordered list ordered = Ascending (λ j. member j list ≡ true) ordered
