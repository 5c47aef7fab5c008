-- CLOSURES IN A PART OF THE LAYERS. `few` has some of the layers that `all` has, each with the same embedded layers. Where it has every
-- layer that a target rests on, the answer to the target is the same; and where it has a complete closure, it has all of them.
-- Assumes nothing.
use Rattle.std.specs.Prelude.{ℕ, ◌≡◌, refl, true, false, get_or, Err, Ok}
use Rattle.std.proofs.Common.{sym, ◌∙◌, ap, true≢false}
use Rattle.std.proofs.Math.Bool.{not-eq-not}
use Rattle.sets.specs.Sets.{has}
use Rattle.vocabulary.specs.declared.refusal.Refusal.{Refusal}
use Rattle.vocabulary.specs.declared.refusal.Refusal.TheVariants.{NoSuchLayer, EmbeddedLayerAbsent}
use Rattle.closure.specs.declared.Layers.{Layers}
use Rattle.closure.specs.Answer.{Closure}
use Rattle.closure.specs.Closures.{is_layer, rested_on, closure_of}
use Rattle.closure.specs.Meaning.{Names, RestsOn, itself, by, Missing, WholeClosure, Answers, no_such_layer, absent, complete}
use Rattle.agreement.specs.Meaning.{NoSet, no_such_layer as eleven, embedded_layer_absent as twelve}
use Rattle.closure.proofs.Meant.{closure_meant, closure_only, given_complete}
use Rattle.closure.proofs.Reached.{member_rests_on, rests_on_member}
use Rattle.assembling.proofs.Own.{rests_further}

pub record PartOf (few all : Layers) : Type 0 where
  pub in_all : (i : ℕ) → is_layer few i ≡ true → is_layer all i ≡ true
  pub same_embedded : (i : ℕ) → is_layer few i ≡ true → get_or few.embedded i 0 ≡ get_or all.embedded i 0

module _ (few all : Layers) (part : PartOf few all) (target : ℕ) where
  names_all : {i j : ℕ} → Names few i j → Names all i j
  names_all {i} {j} n =
      record {
        in_loop = part.in_all i n.in_loop;
        embedded = ap (λ (set : ℕ). has set j) (sym (part.same_embedded i n.in_loop)) ∙ n.embedded;
        lower = n.lower;
      }

  names_few : {i j : ℕ} → is_layer few i ≡ true → Names all i j → Names few i j
  names_few {i} {j} h n =
      record { in_loop = h; embedded = ap (λ (set : ℕ). has set j) (part.same_embedded i h) ∙ n.embedded; lower = n.lower }

  rests_all : {j : ℕ} → RestsOn few target j → RestsOn all target j
  rests_all itself = itself
  rests_all (by r n) = by (rests_all r) (names_all n)

  -- what is in no loop of all is in none of few
  not_in_few : (j : ℕ) → is_layer all j ≡ false → is_layer few j ≡ false
  not_in_few j h = (not-eq-not {a = is_layer few j} {b = false}).0 (λ p. true≢false (sym (part.in_all j p) ∙ h))

  -- WHERE NONE THAT THE TARGET RESTS ON IS LEFT OUT, the answer is the same.
  module _ (kept : (j : ℕ) → RestsOn all target j → is_layer all j ≡ true → is_layer few j ≡ true) where
    rests_few : {j : ℕ} → RestsOn all target j → RestsOn few target j
    rests_few itself = itself
    rests_few (by {i = i} r n) = by (rests_few r) (names_few (kept i r n.in_loop) n)

    missing_all : {j : ℕ} → Missing few target j → Missing all target j
    missing_all {j} m =
        record {
          rested_on = rests_all m.rested_on;
          not_in_loop = (not-eq-not {a = is_layer all j} {b = false}).0 (λ p. true≢false (sym (kept j (rests_all m.rested_on) p) ∙ m.not_in_loop));
        }

    missing_few : {j : ℕ} → Missing all target j → Missing few target j
    missing_few {j} m = record { rested_on = rests_few m.rested_on; not_in_loop = not_in_few j m.not_in_loop }

    answers_few : {answer : Closure} → Answers all target answer → Answers few target answer
    answers_few (no_such_layer h) = no_such_layer (not_in_few target h)
    answers_few (absent here m) =
        absent (kept target itself here) (record { missing = missing_few m.missing; lowest = λ j n. m.lowest j (missing_all n) })
    answers_few (complete here w) =
        complete (kept target itself here)
        (record {
          members = λ j. (λ m. rests_few ((w.members j).0 m), λ r. (w.members j).1 (rests_all r));
          in_loop = λ j r. kept j (rests_all r) (w.in_loop j (rests_all r));
        })

    pub same_closure : closure_of few target ≡ closure_of all target
    same_closure = sym (closure_only few target (answers_few (closure_meant all target)))

  -- WHERE FEW HAS A COMPLETE CLOSURE, it has every layer that the target rests on among all.
  module _ (set : ℕ) (is-complete : closure_of few target ≡ Ok set) where
    whole : WholeClosure few target set
    whole = ((given_complete few target set).0 is-complete).1

    rests_in_few : {j : ℕ} → RestsOn all target j → RestsOn few target j
    rests_in_few itself = itself
    rests_in_few (by {i = i} r n) = by (rests_in_few r) (names_few (whole.in_loop i (rests_in_few r)) n)

    pub every_kept : (j : ℕ) → RestsOn all target j → is_layer few j ≡ true
    every_kept j r = whole.in_loop j (rests_in_few r)

-- WHAT A LAYER OF A COMPLETE CLOSURE RESTS ON is complete too.
pub own_complete : (layers : Layers) (target closure : ℕ) → closure_of layers target ≡ Ok closure → (i : ℕ) → has closure i ≡ true
    → closure_of layers i ≡ Ok (rested_on layers i)
own_complete layers target closure e i h =
    let w = ((given_complete layers target closure).0 e).1 in
    let r = (w.members i).0 h in
    sym (closure_only layers i
    (complete (w.in_loop i r)
    (record {
      members = λ j. (member_rests_on layers i j, rests_on_member layers i j);
      in_loop = λ j s. w.in_loop j (rests_further layers target i j r s);
    })))

-- ---- an answer is a complete closure, or 11 or 12

pub data Found (layers : Layers) (target : ℕ) : Type 0 where
  found : (set : ℕ) → closure_of layers target ≡ Ok set → Found layers target
  not_found : (refusal : Refusal) → NoSet refusal → closure_of layers target ≡ Err refusal → Found layers target

pub find : (layers : Layers) (target : ℕ) → Found layers target
find layers target = go (closure_meant layers target) refl
  where
    go : {answer : Closure} → Answers layers target answer → closure_of layers target ≡ answer → Found layers target
    go (no_such_layer h) e = not_found NoSuchLayer eleven e
    go (absent {index} here m) e = not_found (EmbeddedLayerAbsent index) (twelve index) e
    go (complete {set} here w) e = found set e
