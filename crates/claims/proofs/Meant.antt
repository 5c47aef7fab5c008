-- What Claims computes is what Meaning says, both ways: `claimed_meant` and `claimed_only`, `head_meant` and `head_only`, and of the heads in table order
-- `heads_meant` and `heads_only`; and of the marks that a call leaves `mark_meant`. No row of the target is claimed.
-- Assumes nothing.
use Prim.Native.Nat.{ℕ, ◌<◌}
use mathlib.Core.Bool.{Bool, true, false, not, ◌&&◌, true≢false}
use mathlib.Core.List.{List}
use mathlib.Core.Logic.{◌↔◌}
use mathlib.Core.Path.{◌≡◌, refl, sym, ◌∙◌, ap, ap₂, subst}
use native.Mathlib.Omega.{arith}
use borrow.Author.Tests.{lt-ltb, ltb-true, eq-eqb, eqb-true, not-true}
use lib.Dec.{eqb, ltb}
use lib.ListN.{get_or}
use Rattle.closure.specs.declared.Layers.{Layers}
use Rattle.closure.specs.Closures.{named_by}
use Rattle.closure.specs.Meaning.{Names, RestsOn, itself, by, WholeClosure}
use Rattle.closure.proofs.Reached.{rests_on_at_most}
use Rattle.combinators.specs.Ascending.{those_ascending, ascending_one}
use Rattle.combinators.specs.Below.{some_at, some_which}
use Rattle.combinators.specs.Bools.{both_left, both_right, false_unless}
use Rattle.sets.specs.Sets.{has}
use Rattle.sets.proofs.Laws.{has_none, has_below}
use Rattle.rows.specs.Table.{Table, rows_in, layer_of, decoding_of, match_of}
use Rattle.row_index.specs.Index.{Rising}
use Rattle.claims.specs.Claims.{embeds, claimed_by, claimed, is_head, heads_of}
use Rattle.claims.specs.Marks.{Stands}
use Rattle.claims.specs.Meaning.{Claims, Claimed, Head, Heads}

module _ (layers : Layers) (target closure : ℕ) (whole : WholeClosure layers target closure) where
  -- ---- a closure layer embeds another

  pub embeds_meant : (upper lower : ℕ) → embeds layers closure upper lower ≡ true → RestsOn layers target upper × Names layers upper lower
  embeds_meant upper lower = go (has closure upper) refl
    where
      go : (b : Bool) → has closure upper ≡ b → has (named_by b (get_or layers.embedded upper 0) upper) lower ≡ true
          → RestsOn layers target upper × Names layers upper lower
      go true m e =
          let rests = (whole.members upper).0 m in
          let both = sym (has_below (get_or layers.embedded upper 0) upper lower) ∙ e in (
            rests,
            record {
              in_loop = whole.in_loop upper rests;
              embedded = both_right (ltb lower upper) (has (get_or layers.embedded upper 0) lower) both;
              lower = ltb-true lower upper (both_left (ltb lower upper) (has (get_or layers.embedded upper 0) lower) both);
            },
          )
      go false m e = absurd (true≢false (sym e ∙ has_none lower))

  pub embeds_only : (upper lower : ℕ) → RestsOn layers target upper → Names layers upper lower → embeds layers closure upper lower ≡ true
  embeds_only upper lower rests names =
      ap (λ (b : Bool). has (named_by b (get_or layers.embedded upper 0) upper) lower) ((whole.members upper).1 rests)
      ∙ has_below (get_or layers.embedded upper 0) upper lower
      ∙ ap₂ (λ (a b : Bool). a && b) (lt-ltb lower upper names.lower) names.embedded

  module _ (t : Table) where
    -- ---- claimed rows

    pub claims_meant : (j k : ℕ) → j < rows_in t → claimed_by layers closure t k j ≡ true → Claims layers target t j k
    claims_meant j k h e =
        let of = embeds_meant (layer_of t j) (layer_of t k)
        (both_left (embeds layers closure (layer_of t j) (layer_of t k)) (eqb (decoding_of t k) (match_of t j)) e) in
        record {
          inside = h;
          closure_layer = of.0;
          embeds = of.1;
          match_time = sym (eqb-true (decoding_of t k) (match_of t j)
              (both_right (embeds layers closure (layer_of t j) (layer_of t k)) (eqb (decoding_of t k) (match_of t j)) e));
        }

    pub claims_only : (j k : ℕ) → Claims layers target t j k → claimed_by layers closure t k j ≡ true
    claims_only j k c =
        ap₂ (λ (a b : Bool). a && b) (embeds_only (layer_of t j) (layer_of t k) c.closure_layer c.embeds)
        (eq-eqb (decoding_of t k) (match_of t j) (sym c.match_time))

    pub claimed_meant : (k : ℕ) → claimed layers closure t k ≡ true → Claimed layers target t k
    claimed_meant k e =
        let w = some_which (claimed_by layers closure t k) (rows_in t) e in
        record { claimer = w.0; claims = claims_meant w.0 k w.1 w.2 }

    pub claimed_only : (k : ℕ) → Claimed layers target t k → claimed layers closure t k ≡ true
    claimed_only k c =
        some_at (claimed_by layers closure t k) (rows_in t) c.claimer c.claims.inside (claims_only c.claimer k c.claims)

    -- nothing in the closure embeds the target: 'target rows are never claimed'
    pub target_unclaimed : (k : ℕ) → layer_of t k ≡ target → Claimed layers target t k → ⊥
    target_unclaimed k e c =
        let high = c.claims.embeds.lower in
        omega (arith, rests_on_at_most layers target (layer_of t c.claimer) c.claims.closure_layer, e)

    -- ---- heads

    pub head_meant : (k : ℕ) → k < rows_in t → is_head layers closure t k ≡ true → Head layers target t k
    head_meant k h e =
        record {
          inside = h;
          closure_row = (whole.members (layer_of t k)).0 (both_left (has closure (layer_of t k)) (not (claimed layers closure t k)) e);
          unclaimed = λ c.
              true≢false (sym (claimed_only k c)
              ∙ not-true (claimed layers closure t k) (both_right (has closure (layer_of t k)) (not (claimed layers closure t k)) e));
        }

    pub head_only : (k : ℕ) → Head layers target t k → is_head layers closure t k ≡ true
    head_only k head =
        ap₂ (λ (a b : Bool). a && not b) ((whole.members (layer_of t k)).1 head.closure_row)
        (false_unless (claimed layers closure t k) (λ e. head.unclaimed (claimed_meant k e)))

    -- every row of the target is one
    pub target_heads : (k : ℕ) → k < rows_in t → layer_of t k ≡ target → Head layers target t k
    target_heads k h e =
        record {
          inside = h;
          closure_row = subst (RestsOn layers target) (sym e) itself;
          unclaimed = target_unclaimed k e;
        }

    pub heads_meant : Heads layers target t (heads_of layers closure t)
    heads_meant =
        those_ascending (Head layers target t) (is_head layers closure t) (rows_in t) (λ k h e. head_meant k h e)
        (λ k head. (head.inside, head_only k head))

    pub heads_only : (heads : List ℕ) → Heads layers target t heads → heads ≡ heads_of layers closure t
    heads_only heads a = ascending_one (Head layers target t) heads (heads_of layers closure t) a heads_meant

    -- ---- the marks: they stand at the claimed rows, and the closure rows without one are the heads

    module _ (before marks : List Bool) (stands : Stands (rows_in t) (claimed layers closure t) before marks) (k : ℕ) (inside : k < rows_in t) where
      pub mark_meant : (get_or marks k false ≡ true) ↔ Claimed layers target t k
      mark_meant = (λ e. claimed_meant k (sym (stands.at k inside) ∙ e), λ c. stands.at k inside ∙ claimed_only k c)

      pub no_mark_meant : (has closure (layer_of t k) && not (get_or marks k false) ≡ true) ↔ Head layers target t k
      no_mark_meant = (
        λ e. head_meant k inside (sym same ∙ e),
        λ head. same ∙ head_only k head,
      )
        where
          same : has closure (layer_of t k) && not (get_or marks k false) ≡ is_head layers closure t k
          same = ap (λ (b : Bool). has closure (layer_of t k) && not b) (stands.at k inside)

    -- ---- where the times of every closure layer rise, they rise in every layer that one of them embeds

    pub rising_embedded : ((layer : ℕ) → has closure layer ≡ true → Rising t layer) → (upper lower : ℕ) → embeds layers closure upper lower ≡ true
        → Rising t lower
    rising_embedded rising upper lower e =
        let of = embeds_meant upper lower e in
        rising lower ((whole.members lower).1 (by of.0 of.1))
