-- The edges of a closure are 'each layer and each of its embedded layers', in an order in which every layer but the target has been led to before it leads
-- on; and a complete assembly has a row for each of the closure's layers.
-- Assumes nothing.
use Prim.Native.Nat.{ℕ, ◌+◌, ◌-◌, ◌*◌, ◌<◌}
use mathlib.Core.Path.{◌≡◌, refl, sym, ◌∙◌, ap, subst}
use mathlib.Core.Bool.{Bool, true, ◌&&◌}
use mathlib.Core.Logic.{◌⊎◌, inl, inr}
use native.Mathlib.Omega.{arith}
use borrow.Author.Tests.{lt-ltb, ltb-true}
use lib.Dec.{ltb}
use lib.ListN.{length, get_or, set}
use Rattle.closure.specs.declared.Layers.{Layers}
use Rattle.closure.specs.Closures.{is_layer}
use Rattle.closure.specs.Meaning.{Names, RestsOn, itself, by, WholeClosure}
use Rattle.closure.proofs.Meant.{below_64}
use Rattle.closure.proofs.Reached.{layer_below_64}
use Rattle.combinators.specs.Bools.{both_left, both_right}
use Rattle.combinators.specs.Those.{those_at, those_which, those_earlier}
use Rattle.sets.specs.Sets.{has}
use Rattle.rows.specs.Table.{Table, rows_in}
use Rattle.assembling.specs.Assemblies.{upper_of, lower_of, joins, is_edge, edges_of, no_rows, assembled}
use Rattle.assembling.proofs.Assembled.{Led, all_met, heads, begin_long, begin_target}

-- the number that holds an edge
abbrev pub edge : ℕ → ℕ → ℕ
edge upper lower = (63 - upper) * 64 + lower

upper_of_edge : (upper lower : ℕ) → upper < 64 → lower < 64 → upper_of (edge upper lower) ≡ upper
upper_of_edge upper lower h l = omega arith

lower_of_edge : (upper lower : ℕ) → upper < 64 → lower < 64 → lower_of (edge upper lower) ≡ lower
lower_of_edge upper lower h l = omega arith

as_below : {a b c d : ℕ} → a ≡ c → b ≡ d → c < d → a < b
as_below p q h = omega arith

-- a higher upper layer has the lower number
higher_first : (e d : ℕ) → e < 4096 → d < 4096 → upper_of e < upper_of d → d < e
higher_first e d h l k = omega arith

module _ (layers : Layers) (target closure : ℕ) (here : is_layer layers target ≡ true) (whole : WholeClosure layers target closure) where
  pub target_below : target < 64
  target_below = layer_below_64 layers target here

  pub rests_below : (layer : ℕ) → RestsOn layers target layer → layer < 64
  rests_below layer r = below_64 layers target here layer r

  -- ---- the edges that are listed

  pub record Listed (i upper lower : ℕ) : Type 0 where
    pub inside : i < length (edges_of layers closure)
    pub upper_is : upper_of (get_or (edges_of layers closure) i 0) ≡ upper
    pub lower_is : lower_of (get_or (edges_of layers closure) i 0) ≡ lower

  -- every one of them is an edge of the closure,
  pub edge_names : (i : ℕ) → i < length (edges_of layers closure)
      → RestsOn layers target (upper_of (get_or (edges_of layers closure) i 0))
      × Names layers (upper_of (get_or (edges_of layers closure) i 0)) (lower_of (get_or (edges_of layers closure) i 0))
  unfolding edges_of
  edge_names i h = go (get_or (edges_of layers closure) i 0) (those_at (is_edge layers closure) 4096 i h).passes
    where
      go : (e : ℕ) → is_edge layers closure e ≡ true → RestsOn layers target (upper_of e) × Names layers (upper_of e) (lower_of e)
      go e p =
          let member = both_left (has closure (upper_of e)) (ltb (lower_of e) (upper_of e) && has (get_or layers.embedded (upper_of e) 0) (lower_of e)) p in
          let rest = both_right (has closure (upper_of e)) (ltb (lower_of e) (upper_of e) && has (get_or layers.embedded (upper_of e) 0) (lower_of e)) p in
          let rests = (whole.members (upper_of e)).0 member in (
            rests,
            record {
              in_loop = whole.in_loop (upper_of e) rests;
              embedded = both_right (ltb (lower_of e) (upper_of e)) (has (get_or layers.embedded (upper_of e) 0) (lower_of e)) rest;
              lower = ltb-true (lower_of e) (upper_of e) (both_left (ltb (lower_of e) (upper_of e)) (has (get_or layers.embedded (upper_of e) 0) (lower_of e)) rest);
            },
          )

  -- and every edge of the closure is one of them.
  pub edge_listed : (upper lower : ℕ) → RestsOn layers target upper → Names layers upper lower → (i : ℕ) × Listed i upper lower × (get_or (edges_of layers closure) i 0 ≡ edge upper lower)
  unfolding edges_of
  edge_listed upper lower r n =
      let high = rests_below upper r in
      let low : lower < 64 = (let l = n.lower in omega arith) in
      let w = those_which (is_edge layers closure) 4096 (edge upper lower) (omega arith)
      (passes (upper_of (edge upper lower)) (lower_of (edge upper lower)) (upper_of_edge upper lower high low) (lower_of_edge upper lower high low)) in (
        w.0,
        record {
          inside = w.1;
          upper_is = ap upper_of w.2 ∙ upper_of_edge upper lower high low;
          lower_is = ap lower_of w.2 ∙ lower_of_edge upper lower high low;
        },
        w.2,
      )
    where
      passes : (u l : ℕ) → u ≡ upper → l ≡ lower → joins closure (get_or layers.embedded u 0) u l ≡ true
      passes u l p q = rw (p, q) (all (has closure upper) (ltb lower upper) (has (get_or layers.embedded upper 0) lower) ((whole.members upper).1 r) (lt-ltb lower upper n.lower) n.embedded)
        where
          all : (a b c : Bool) → a ≡ true → b ≡ true → c ≡ true → (a && (b && c)) ≡ true
          all a b c x y z = rw (x, y, z)

  -- the edges of a higher layer come first
  earlier : (i j upper lower other below : ℕ) → Listed i upper lower → Listed j other below → upper < other → j < i
  unfolding edges_of
  earlier i j upper lower other below p q h =
      those_earlier (is_edge layers closure) 4096 i j p.inside q.inside
      (higher_first (get_or (edges_of layers closure) i 0) (get_or (edges_of layers closure) j 0)
      (those_at (is_edge layers closure) 4096 i p.inside).below (those_at (is_edge layers closure) 4096 j q.inside).below
      (as_below p.upper_is q.upper_is h))

  -- a layer of the closure is the target, or an edge leads to it
  pub led_to : (layer : ℕ) → RestsOn layers target layer → (layer ≡ target) ⊎ ((i : ℕ) × (upper : ℕ) × (layer < upper) × Listed i upper layer)
  led_to layer itself = inl refl
  led_to layer (by {i = upper} r n) = let w = edge_listed upper layer r n in inr (w.0, upper, n.lower, w.1)

  -- so before an edge leads on from a layer, another has led to it
  pub led_before : (i upper lower : ℕ) → Listed i upper lower
      → (upper ≡ target) ⊎ ((j : ℕ) × (j < i) × (lower_of (get_or (edges_of layers closure) j 0) ≡ upper))
  led_before i upper lower p = go (led_to upper (subst (RestsOn layers target) p.upper_is (edge_names i p.inside).0))
    where
      go : (upper ≡ target) ⊎ ((j : ℕ) × (above : ℕ) × (upper < above) × Listed j above upper)
          → (upper ≡ target) ⊎ ((j : ℕ) × (j < i) × (lower_of (get_or (edges_of layers closure) j 0) ≡ upper))
      go (inl e) = inl e
      go (inr w) = inr (w.0, earlier i w.0 upper lower w.1 upper p w.3 w.2, w.3.lower_is)

  pub led_edges : (t : Table) (head : ℕ) → head < rows_in t → Led t (edges_of layers closure) (set (no_rows (rows_in t)) target head)
  led_edges t head h i l =
      go (led_before i (upper_of (get_or (edges_of layers closure) i 0)) (lower_of (get_or (edges_of layers closure) i 0))
      (record { inside = l; upper_is = refl; lower_is = refl }))
    where
      go : (upper_of (get_or (edges_of layers closure) i 0) ≡ target)
          ⊎ ((j : ℕ) × (j < i) × (lower_of (get_or (edges_of layers closure) j 0) ≡ upper_of (get_or (edges_of layers closure) i 0)))
          → (get_or (set (no_rows (rows_in t)) target head) (upper_of (get_or (edges_of layers closure) i 0)) 0 < rows_in t)
          ⊎ ((j : ℕ) × (j < i) × (lower_of (get_or (edges_of layers closure) j 0) ≡ upper_of (get_or (edges_of layers closure) i 0)))
      go (inl e) =
          inl (subst (λ (u : ℕ). get_or (set (no_rows (rows_in t)) target head) u 0 < rows_in t) (sym e)
          (subst (λ (x : ℕ). x < rows_in t) (sym (begin_target t target head target_below)) h))
      go (inr w) = inr w

  -- ---- a complete assembly has a row for each layer of the closure

  pub row_for_each : (t : Table) (head : ℕ) → head < rows_in t → (assembled t (edges_of layers closure) target head).complete ≡ true
      → (layer : ℕ) → RestsOn layers target layer → get_or (assembled t (edges_of layers closure) target head).rows layer 0 < rows_in t
  row_for_each t head h e layer r = go (led_to layer r)
    where
      go : (layer ≡ target) ⊎ ((i : ℕ) × (upper : ℕ) × (layer < upper) × Listed i upper layer)
          → get_or (assembled t (edges_of layers closure) target head).rows layer 0 < rows_in t
      go (inl q) =
          subst (λ (l : ℕ). get_or (assembled t (edges_of layers closure) target head).rows l 0 < rows_in t) (sym q)
          (subst (λ (x : ℕ). x < rows_in t) (sym (heads t target head target_below (edges_of layers closure) h e)) h)
      go (inr w) =
          subst (λ (l : ℕ). get_or (assembled t (edges_of layers closure) target head).rows l 0 < rows_in t) w.3.lower_is
          (all_met t (edges_of layers closure) _ (begin_long t target head target_below) e (led_edges t head h) w.0 w.3.inside).lower_row
