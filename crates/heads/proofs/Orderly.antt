-- What is known of a whole closure, and of a table in range and in time order: its layers rise, so that an index of it is ready to be searched.
-- Assumes nothing.
use Rattle.std.specs.Prelude.{Ok}
use Prim.Native.Nat.{ℕ}
use mathlib.Core.Bool.{true, ◌||◌}
use mathlib.Core.List.{List}
use mathlib.Core.Path.{◌≡◌, sym, ◌∙◌, ap, subst}
use native.Mathlib.Omega.{arith}
use borrow.Author.Tests.{ltb-false}
use lib.Dec.{leb, ltb}
use lib.ListN.{get_or}
use Rattle.closure.specs.declared.Layers.{Layers}
use Rattle.closure.specs.Answer.{Closure}
use Rattle.closure.specs.Closures.{closure_of}
use Rattle.closure.specs.Meaning.{by, WholeClosure, Answers, no_such_layer, absent, complete}
use Rattle.closure.proofs.Meant.{closure_meant}
use Rattle.combinators.proofs.Seeking.{seek_first}
use Rattle.combinators.specs.Bools.{neither_left}
use Rattle.sets.specs.Sets.{has}
use Rattle.clock.specs.Clock.{ticks}
use Rattle.rows.specs.Table.{Table, rows_in, layer_of, decoding_of, match_of, out_of_range, breaks_order}
use Rattle.rows.specs.Meaning.{InOrder}
use Rattle.row_index.specs.Index.{Starts, Order, Rising}
use Rattle.assembling.specs.Ready.{Ready}
use Rattle.assembling.specs.Assemblies.{lower_of, edges_of}
use Rattle.heads.specs.Orderly.{Closed, Orderly}
use Rattle.heads.proofs.Frames.{edge_names}
use Rattle.rows.proofs.Meant.{farther, in_order_only}
use Rattle.rows.proofs.Verdicts.{Sound, shape_decoded, shape_matched}
use Rattle.claims.specs.Marks.{Claimable}
use Rattle.claims.proofs.Meant.{rising_embedded}

pub closed : (layers : Layers) (target closure : ℕ) → closure_of layers target ≡ Ok closure → Closed layers target closure
closed layers target closure e = go (closure_meant layers target) e
  where
    go : {answer : Closure} → Answers layers target answer → answer ≡ Ok closure → Closed layers target closure
    go (no_such_layer h) p = let z : ◌≡◌ {A = ℕ} 0 1 = cc in absurd (omega arith)
    go (absent h m) p = let z : ◌≡◌ {A = ℕ} 0 1 = cc in absurd (omega arith)
    go (complete {set = set} h w) p = let q : set ≡ closure = cc in record { here = h; whole = subst (WholeClosure layers target) q w }

-- a table of which the verdict is that it is in order
module _ (layers : Layers) (target closure : ℕ) (closed_over : Closed layers target closure) (most : ℕ) (t : Table) where
  pub orderly_by : Sound most t closure → Orderly layers target closure t
  orderly_by s =
      record {
        closed_over = closed_over;
        decoded = shape_decoded most t s.shape;
        matched = shape_matched most t s.shape;
        within = λ k h.
            (let low = ltb-false 63 (layer_of t k)
            (neither_left (ltb 63 (layer_of t k)) (leb ticks (decoding_of t k) || leb ticks (match_of t k))
            ((seek_first (out_of_range t) (rows_in t)).before k (let all = s.range in omega arith))) in
            omega arith);
        unbroken = λ k h. (seek_first (breaks_order t closure) (rows_in t)).before k (let all = s.order in omega arith);
      }

  -- one that 13 and 14 leave, in document 01's words
  pub orderly_of : InOrder most layers target t → Orderly layers target closure t
  orderly_of o = orderly_by (in_order_only layers target closure closed_over.whole t most o)

module _ (layers : Layers) (target closure : ℕ) (t : Table) (orderly : Orderly layers target closure t) where
  -- the rows of a closure layer lie farther and farther ahead of its first
  pub rises : (layer : ℕ) → has closure layer ≡ true → Rising t layer
  rises layer m j k h l p q = farther t closure j k (ap (has closure) q ∙ m) (orderly.unbroken k l) h (p ∙ sym q)

  pub ready : (starts order : List ℕ) → Starts t.indices starts → Order t.indices order → Ready t starts order (edges_of layers closure)
  ready starts order s o =
      record {
        sorted = record { same_length = orderly.decoded; starting = s; ordered = o };
        matched = orderly.matched;
        rising = λ i h.
            (let w = edge_names layers target closure orderly.closed_over.here orderly.closed_over.whole i h in
            rises (lower_of (get_or (edges_of layers closure) i 0))
            ((orderly.closed_over.whole.members (lower_of (get_or (edges_of layers closure) i 0))).1 (by w.0 w.1)));
      }

  pub claimable : (starts order : List ℕ) → Starts t.indices starts → Order t.indices order → Claimable layers closure t starts order
  claimable starts order s o =
      record {
        sorted = record { same_length = orderly.decoded; starting = s; ordered = o };
        matched = orderly.matched;
        within = orderly.within;
        rising = rising_embedded layers target closure orderly.closed_over.whole t rises;
      }
