-- The edges of a closure serve the heads of all its layers: an assembly over them is the one over the closure of the head's own layer, since no layer outside
-- that one ever has a row.
-- Assumes nothing.
use Prim.Native.Nat.{ℕ, zero, suc, ◌<◌}
use mathlib.Core.Bool.{Bool, true, false, cond, ◌&&◌, true≢false}
use mathlib.Core.List.{List, [], ◌∷◌, ◌++◌}
use mathlib.Core.Path.{◌≡◌, refl, sym, ◌∙◌, ap, subst}
use native.Mathlib.Omega.{arith}
use native.Mathlib.Decide.{dec_lt, ℕ_discrete}
use borrow.Author.Tests.{lt-ltb, le-ltb, ltb-true}
use lib.Dec.{ltb}
use lib.ListN.{length, get_or, set, replicate}
use lib.Seq.{get_or-set_other}
use Rattle.closure.specs.declared.Layers.{Layers}
use Rattle.closure.specs.Meaning.{RestsOn, itself, by, WholeClosure}
use Rattle.closure.proofs.Reached.{layer_below_64}
use Rattle.combinators.specs.Bools.{both_left, both_right}
use Rattle.combinators.specs.Those.{those, those_alike, those_at}
use Rattle.sets.specs.Sets.{has}
use Rattle.rows.specs.Table.{Table, rows_in}
use Rattle.assembling.specs.Assemblies.{Assembly, upper_of, lower_of, is_edge, edges_of, partner, assembled_from, assembled}
use Rattle.assembling.proofs.Assembled.{begin_other}

-- ---- the members of a list that pass a test, in the list's order

abbrev kept : (ℕ → Bool) → List ℕ → List ℕ
kept test [] = []
kept test (x ∷ xs) = cond (test x) (x ∷ kept test xs) (kept test xs)

kept_append : (test : ℕ → Bool) (xs ys : List ℕ) → kept test (xs ++ ys) ≡ kept test xs ++ kept test ys
kept_append test [] ys = refl
kept_append test (x ∷ xs) ys = go (test x) (kept_append test xs ys)
  where
    go : (b : Bool) → kept test (xs ++ ys) ≡ kept test xs ++ kept test ys
        → cond b (x ∷ kept test (xs ++ ys)) (kept test (xs ++ ys)) ≡ cond b (x ∷ kept test xs) (kept test xs) ++ kept test ys
    go true ih = ap (λ (l : List ℕ). x ∷ l) ih
    go false ih = ih

those_kept : (first second : ℕ → Bool) (n : ℕ) → those (λ k. first k && second k) n ≡ kept second (those first n)
those_kept first second zero = refl
those_kept first second (suc n) =
    ap (λ (l : List ℕ). l ++ cond (first n && second n) (n ∷ []) []) (those_kept first second n)
    ∙ ap (λ (l : List ℕ). kept second (those first n) ++ l) (last (first n))
    ∙ sym (kept_append second (those first n) (cond (first n) (n ∷ []) []))
  where
    last : (b : Bool) → cond (b && second n) (n ∷ []) [] ≡ kept second (cond b (n ∷ []) [])
    last true = refl
    last false = refl

-- ---- what a layer that another rests on rests on, that one rests on too

pub rests_further : (layers : Layers) (target top layer : ℕ) → RestsOn layers target top → RestsOn layers top layer → RestsOn layers target layer
rests_further layers target top layer r itself = r
rests_further layers target top layer r (by {i = upper} s n) = by (rests_further layers target top upper r s) n

module _ (layers : Layers) (target closure : ℕ) (whole : WholeClosure layers target closure) (top own : ℕ) (part : WholeClosure layers top own)
    (rests : RestsOn layers target top) where
  -- ---- the edges of the head's own closure are those of the larger one whose upper layer is in it

  own_edge : (edge : ℕ) → is_edge layers own edge ≡ is_edge layers closure edge && has own (upper_of edge)
  own_edge edge =
      swap (has own (upper_of edge)) (has closure (upper_of edge)) (ltb (lower_of edge) (upper_of edge) && has (get_or layers.embedded (upper_of edge) 0) (lower_of edge))
      (λ m. (whole.members (upper_of edge)).1 (rests_further layers target top (upper_of edge) rests ((part.members (upper_of edge)).0 m)))
    where
      swap : (a b c : Bool) → (a ≡ true → b ≡ true) → a && c ≡ (b && c) && a
      swap true b true f = rw (f refl)
      swap true b false f = rw (f refl)
      swap false true true f = refl
      swap false true false f = refl
      swap false false c f = refl

  own_edges : edges_of layers own ≡ kept (λ edge. has own (upper_of edge)) (edges_of layers closure)
  unfolding edges_of
  own_edges =
      those_alike (is_edge layers own) (λ edge. is_edge layers closure edge && has own (upper_of edge)) 4096 (λ edge h. own_edge edge)
      ∙ those_kept (is_edge layers closure) (λ edge. has own (upper_of edge)) 4096

  -- such an edge leads to a layer that is in it too
  lower_own : (edge : ℕ) → is_edge layers closure edge ≡ true → has own (upper_of edge) ≡ true → has own (lower_of edge) ≡ true
  lower_own edge e m =
      let r = (part.members (upper_of edge)).0 m in
      let named = both_right (has closure (upper_of edge)) (ltb (lower_of edge) (upper_of edge) && has (get_or layers.embedded (upper_of edge) 0) (lower_of edge)) e in
      (part.members (lower_of edge)).1
      (by r
      (record {
        in_loop = part.in_loop (upper_of edge) r;
        embedded = both_right (ltb (lower_of edge) (upper_of edge)) (has (get_or layers.embedded (upper_of edge) 0) (lower_of edge)) named;
        lower = ltb-true (lower_of edge) (upper_of edge) (both_left (ltb (lower_of edge) (upper_of edge)) (has (get_or layers.embedded (upper_of edge) 0) (lower_of edge)) named);
      }))

  module _ (t : Table) where
    -- ---- along the edges only layers of the head's own closure have a row

    abbrev Inside : List ℕ → Type 0
    Inside rows = (layer : ℕ) → layer < 64 → get_or rows layer 0 < rows_in t → has own layer ≡ true

    inside_more : (rows : List ℕ) (edge row : ℕ) → Inside rows → is_edge layers closure edge ≡ true → get_or rows (upper_of edge) 0 < rows_in t
        → Inside (set rows (lower_of edge) row)
    inside_more rows edge row known e above layer small h = go (ℕ_discrete layer (lower_of edge))
      where
        go : Dec (layer ≡ lower_of edge) → has own layer ≡ true
        go (yes q) = ap (has own) q ∙ lower_own edge e (known (upper_of edge) (omega arith) above)
        go (no q) = known layer small (subst (λ (x : ℕ). x < rows_in t) (get_or-set_other rows (lower_of edge) layer row 0 q) h)

    -- so that the other edges are passed over
    others_passed : (edges rows : List ℕ) → ((i : ℕ) → i < length edges → is_edge layers closure (get_or edges i 0) ≡ true) → Inside rows
        → assembled_from t edges rows ≡ assembled_from t (kept (λ edge. has own (upper_of edge)) edges) rows
    others_passed [] rows all known = refl
    others_passed (edge ∷ edges) rows all known =
        go (has own (upper_of edge)) refl (dec_lt (get_or rows (upper_of edge) 0) (rows_in t))
        (λ later inside. others_passed edges later (λ i h. all (suc i) (omega arith)) inside)
      where
        go : (b : Bool) → has own (upper_of edge) ≡ b → Dec (get_or rows (upper_of edge) 0 < rows_in t)
            → ((later : List ℕ) → Inside later
            → assembled_from t edges later ≡ assembled_from t (kept (λ edge. has own (upper_of edge)) edges) later)
            → assembled_from t (edge ∷ edges) rows
            ≡ assembled_from t (cond b (edge ∷ kept (λ edge. has own (upper_of edge)) edges) (kept (λ edge. has own (upper_of edge)) edges)) rows
        go true m (yes a) on =
            rw (lt-ltb (get_or rows (upper_of edge) 0) (rows_in t) a)
            (ap (λ (x : Assembly). cond (ltb (partner t rows edge) (rows_in t)) x (record { complete = false; rows = rows }))
            (on (set rows (lower_of edge) (partner t rows edge)) (inside_more rows edge (partner t rows edge) known (all 0 (omega arith)) a)))
        go true m (no a) on = rw (le-ltb (get_or rows (upper_of edge) 0) (rows_in t) (omega arith)) (on rows known)
        go false m (yes a) on = absurd (true≢false (sym (known (upper_of edge) (omega arith) a) ∙ m))
        go false m (no a) on = rw (le-ltb (get_or rows (upper_of edge) 0) (rows_in t) (omega arith)) (on rows known)

    -- THE ASSEMBLY over the edges of the closure is that over the closure of the head's own layer
    pub own_closure : (head : ℕ) → assembled t (edges_of layers closure) top head ≡ assembled t (edges_of layers own) top head
    unfolding edges_of
    own_closure head =
        others_passed (edges_of layers closure) (set (replicate 64 (rows_in t)) top head)
        (λ i h. (those_at (is_edge layers closure) 4096 i h).passes) (λ layer small h. at_start layer small h (ℕ_discrete layer top))
        ∙ ap (λ (edges : List ℕ). assembled t edges top head) (sym own_edges)
      where
        at_start : (layer : ℕ) → layer < 64 → get_or (set (replicate 64 (rows_in t)) top head) layer 0 < rows_in t → Dec (layer ≡ top) → has own layer ≡ true
        at_start layer small h (yes e) = ap (has own) e ∙ (part.members top).1 itself
        at_start layer small h (no e) =
            absurd (omega (arith, begin_other t top head (layer_below_64 layers top (part.in_loop top itself)) layer small e))
