-- The assembly of a head of any closure layer: over the edges of the whole closure it is found exactly where there is one over the closure of the head's own
-- layer, and there is no other.
-- Assumes nothing.
use Prim.Native.Nat.{ℕ, ◌<◌}
use mathlib.Core.Bool.{Bool, true, false, ◌&&◌, ◌||◌}
use mathlib.Core.Path.{◌≡◌, refl, sym, ◌∙◌, ap, subst}
use lib.Dec.{leb}
use lib.ListN.{get_or}
use Rattle.clock.specs.Clock.{half}
use Rattle.closure.specs.declared.Layers.{Layers}
use Rattle.closure.specs.Closures.{rested_on}
use Rattle.closure.specs.Meaning.{RestsOn, itself, by, WholeClosure}
use Rattle.closure.proofs.Reached.{member_rests_on, rests_on_member}
use Rattle.sets.specs.Sets.{has}
use Rattle.rows.specs.Table.{Table, rows_in, layer_of, ahead, passed, breaks_order}
use Rattle.assembling.specs.Assemblies.{Assembly, edges_of, assembled}
use Rattle.assembling.proofs.Assembled.{untouched, begin_other}
use Rattle.assembling.proofs.Own.{rests_further, own_closure}
use Rattle.heads.specs.Orderly.{Orderly}
use Rattle.heads.specs.Meaning.{Assembles}
use Rattle.heads.proofs.Frames.{edge_names, target_below}
use Rattle.heads.proofs.Chosen.{found, only}

module _ (layers : Layers) (target closure : ℕ) (t : Table) (orderly : Orderly layers target closure t) (top : ℕ) (rests : RestsOn layers target top) where
  -- ---- the closure of a closure layer is whole, and the table is in order over it

  further : (layer : ℕ) → RestsOn layers top layer → RestsOn layers target layer
  further layer r = rests_further layers target top layer rests r

  own_whole : WholeClosure layers top (rested_on layers top)
  own_whole =
      record {
        members = λ layer. (member_rests_on layers top layer, rests_on_member layers top layer);
        in_loop = λ layer r. orderly.closed_over.whole.in_loop layer (further layer r);
      }

  within_closure : (layer : ℕ) → has (rested_on layers top) layer ≡ true → has closure layer ≡ true
  within_closure layer m = (orderly.closed_over.whole.members layer).1 (further layer (member_rests_on layers top layer m))

  pub own_orderly : Orderly layers top (rested_on layers top) t
  own_orderly =
      record {
        closed_over = record { here = orderly.closed_over.whole.in_loop top rests; whole = own_whole };
        decoded = orderly.decoded;
        matched = orderly.matched;
        within = orderly.within;
        unbroken = λ k h. go k (has (rested_on layers top) (layer_of t k)) refl (orderly.unbroken k h);
      }
    where
      go : (k : ℕ) (b : Bool) → has (rested_on layers top) (layer_of t k) ≡ b → breaks_order t closure k ≡ false
          → (b && (leb half (ahead t k) || passed t (layer_of t k) (ahead t k) k)) ≡ false
      go k true m e = sym (ap (λ (b : Bool). b && (leb half (ahead t k) || passed t (layer_of t k) (ahead t k) k)) (within_closure (layer_of t k) m)) ∙ e
      go k false m e = refl

  -- ---- THE ASSEMBLY of a head of this layer

  module _ (head : ℕ) (inside : head < rows_in t) (own : layer_of t head ≡ top) where
    same : assembled t (edges_of layers closure) top head ≡ assembled t (edges_of layers (rested_on layers top)) top head
    same = own_closure layers target closure orderly.closed_over.whole top (rested_on layers top) own_whole rests t head

    -- what is found is an assembly,
    pub head_found : (assembled t (edges_of layers closure) top head).complete ≡ true
        → Assembles layers top t head (λ layer. get_or (assembled t (edges_of layers closure) top head).rows layer 0)
    head_found e =
        subst (λ (a : Assembly). Assembles layers top t head (λ layer. get_or a.rows layer 0)) (sym same)
        (found layers top (rested_on layers top) t own_orderly head inside own (sym (ap (λ (a : Assembly). a.complete) same) ∙ e))

    -- and where there is an assembly, it is found, and there is no other.
    pub head_only : (choice : ℕ → ℕ) → Assembles layers top t head choice
        → ((assembled t (edges_of layers closure) top head).complete ≡ true)
        × ((layer : ℕ) → RestsOn layers top layer → get_or (assembled t (edges_of layers closure) top head).rows layer 0 ≡ choice layer)
    head_only choice a =
        let w = only layers top (rested_on layers top) t own_orderly head inside own choice a in (
          ap (λ (a : Assembly). a.complete) same ∙ w.0,
          λ layer r. ap (λ (a : Assembly). get_or a.rows layer 0) same ∙ w.1 layer r,
        )

    -- No layer but those that this one rests on has a row.
    pub head_no_other : (layer : ℕ) → layer < 64 → (RestsOn layers top layer → ⊥)
        → get_or (assembled t (edges_of layers closure) top head).rows layer 0 ≡ rows_in t
    head_no_other layer h outside =
        ap (λ (a : Assembly). get_or a.rows layer 0) same
        ∙ untouched t (edges_of layers (rested_on layers top)) _ layer
        (λ i l e.
        (let w = edge_names layers top (rested_on layers top) own_orderly.closed_over.here own_whole i l in
        outside (subst (RestsOn layers top) (sym e) (by w.0 w.1))))
        ∙ begin_other t top head (target_below layers top (rested_on layers top) own_orderly.closed_over.here own_whole) layer h
        (λ e. outside (subst (RestsOn layers top) (sym e) itself))
