-- What Units computes over the frame of a closure is what Meaning says, both ways: heads (`head_meant`, `head_only`), the assembly of each (`assembly_meant`,
-- `assembly_only`), 15 (`unpaired_meant`, `unpaired_only`), the unit of each with its lags (`unit_meant`, `unit_only`), and 16 (`shares_meant`, `shares_only`);
-- and the first row of each number.
-- Assumes nothing.
use Prim.Native.Nat.{ℕ, suc, ◌≤◌, ◌<◌}
use mathlib.Core.Bool.{Bool, true, false, not, ◌&&◌, true≢false}
use mathlib.Core.List.{List, [], ◌∷◌, map}
use mathlib.Core.Path.{◌≡◌, refl, sym, ◌∙◌, ap, ap₂, subst}
use native.Mathlib.Omega.{arith}
use borrow.Author.Tests.{not-true, not-false}
use lib.IntN.{ℤ}
use lib.ListN.{length, get_or, length-map}
use Rattle.clock.proofs.Laws.{lag_is, lag_only}
use Rattle.closure.specs.declared.Layers.{Layers}
use Rattle.closure.specs.Closures.{rested_on}
use Rattle.closure.specs.Meaning.{RestsOn, WholeClosure}
use Rattle.closure.proofs.Meant.{below_64}
use Rattle.closure.proofs.Reached.{member_rests_on, rests_on_member}
use Rattle.combinators.specs.Ascending.{Ascending, those_ascending, ascending_one}
use Rattle.combinators.proofs.Seeking.{seek_first}
use Rattle.combinators.specs.Bools.{both_left, both_right}
use Rattle.combinators.specs.Lists.{any, Nth, any_true, any_which, nth_get_d, get_d_nth, nth_inside, get_d_map}
use Rattle.combinators.specs.Members.{member, member_at, member_which}
use Rattle.combinators.specs.Those.{those_at, those_which}
use Rattle.sets.specs.Sets.{has, members_of}
use Rattle.rows.specs.Table.{Table, rows_in, layer_of, decoding_of}
use Rattle.rows.specs.Meaning.{FirstRow, NoRow}
use Rattle.rows.proofs.FirstRows.{found, none, is_first, is_none}
use Rattle.assembling.specs.Assemblies.{Assembly, edges_of, assembled}
use Rattle.claims.specs.Meaning.{Head}
use Rattle.claims.specs.Claims as claims
use Rattle.claims.proofs.Meant as claims_meant
use Rattle.heads.specs.Units.{Frame, is_head, own_of, assembly_of, unit_of, lags_from, lags_of, heads_below, rows_below, unpaired, shares, first_unpaired, first_shared}
use Rattle.heads.specs.Orderly.{Orderly, Framed}
use Rattle.heads.specs.Meaning.{Assembles, AssemblesOwn, NoAssembly, InUnitOf, SharesRow, LagsBeside, no_row, beside, UnitOf}
use Rattle.heads.proofs.Assemblies.{head_found, head_only as only-found, head_no_other}
use Rattle.heads.proofs.Gathers.{gathered_from, gathered_in}

-- ---- a lag beside each row, as it is computed, and no other

pub lags_beside : (t : Table) (head : ℕ) (rows : List ℕ) → LagsBeside t head rows (lags_from t (decoding_of t head) rows)
lags_beside t head [] = no_row
lags_beside t head (row ∷ rows) = beside (lag_is (decoding_of t row) (decoding_of t head)) (lags_beside t head rows)

pub lags_one : (t : Table) (head : ℕ) {rows : List ℕ} {lags other : List ℤ} → LagsBeside t head rows lags → LagsBeside t head rows other → lags ≡ other
lags_one t head no_row no_row = refl
lags_one t head (beside {row} {lag} a more) (beside {lag = lag₂} b others) =
    ap₂ (λ (z : ℤ) (l : List ℤ). z ∷ l) (lag_only (decoding_of t row) (decoding_of t head) lag lag₂ a b) (lags_one t head more others)

-- two choices that agree on the elements of a list choose the same
map_alike : (f g : ℕ → ℕ) (l : List ℕ) → ((i : ℕ) → i < length l → f (get_or l i 0) ≡ g (get_or l i 0)) → map f l ≡ map g l
map_alike f g [] same = refl
map_alike f g (x ∷ l) same =
    ap₂ (λ (y : ℕ) (ys : List ℕ). y ∷ ys) (same 0 (omega arith)) (map_alike f g l (λ i h. same (suc i) (omega arith)))

module _ (layers : Layers) (target closure : ℕ) (t : Table) (orderly : Orderly layers target closure t) (f : Frame) (framed : Framed layers closure t f) where
  -- ---- heads

  whole : WholeClosure layers target closure
  whole = orderly.closed_over.whole

  same_head : (k : ℕ) → k < rows_in t → is_head t f k ≡ claims.is_head layers closure t k
  same_head k h = ap₂ (λ (set : ℕ) (b : Bool). has set (layer_of t k) && not b) framed.over_closure (framed.marks k h)

  pub head_meant : (k : ℕ) → k < rows_in t → is_head t f k ≡ true → Head layers target t k
  head_meant k h e = claims_meant.head_meant layers target closure whole t k h (sym (same_head k h) ∙ e)

  pub head_only : (k : ℕ) → Head layers target t k → is_head t f k ≡ true
  head_only k head = same_head k head.inside ∙ claims_meant.head_only layers target closure whole t k head

  -- ---- the set that a head's own layer rests on

  pub own_is : (k : ℕ) → Head layers target t k → own_of t f k ≡ rested_on layers (layer_of t k)
  own_is k head = framed.sets (layer_of t k) ((whole.members (layer_of t k)).1 head.closure_row)

  pub own_meant : (k : ℕ) → Head layers target t k → (layer : ℕ) → has (own_of t f k) layer ≡ true → RestsOn layers (layer_of t k) layer
  own_meant k head layer e = member_rests_on layers (layer_of t k) layer (sym (ap (λ (s : ℕ). has s layer) (own_is k head)) ∙ e)

  pub own_only : (k : ℕ) → Head layers target t k → (layer : ℕ) → RestsOn layers (layer_of t k) layer → has (own_of t f k) layer ≡ true
  own_only k head layer r = ap (λ (s : ℕ). has s layer) (own_is k head) ∙ rests_on_member layers (layer_of t k) layer r

  pub own_below : (k : ℕ) → Head layers target t k → (layer : ℕ) → RestsOn layers (layer_of t k) layer → layer < 64
  own_below k head layer r = below_64 layers (layer_of t k) (whole.in_loop (layer_of t k) head.closure_row) layer r

  pub own_members : (k : ℕ) → Head layers target t k → Ascending (RestsOn layers (layer_of t k)) (members_of (own_of t f k))
  unfolding members_of
  own_members k head =
      those_ascending (RestsOn layers (layer_of t k)) (has (own_of t f k)) 64 (λ layer h e. own_meant k head layer e)
      (λ layer r. (own_below k head layer r, own_only k head layer r))

  -- ---- the assembly of a head: what is found is one, and there is no other

  assembly_is : (k : ℕ) → assembly_of t f k ≡ assembled t (edges_of layers closure) (layer_of t k) k
  assembly_is k = ap (λ (edges : List ℕ). assembled t edges (layer_of t k) k) framed.edges_listed

  abbrev chosen : ℕ → ℕ → ℕ
  chosen k layer = get_or (assembly_of t f k).rows layer 0

  pub assembly_meant : (k : ℕ) → Head layers target t k → (assembly_of t f k).complete ≡ true → AssemblesOwn layers t k (λ layer. get_or (assembly_of t f k).rows layer 0)
  assembly_meant k head e =
      subst (λ (a : Assembly). Assembles layers (layer_of t k) t k (λ layer. get_or a.rows layer 0)) (sym (assembly_is k))
      (head_found layers target closure t orderly (layer_of t k) head.closure_row k head.inside refl
      (sym (ap (λ (a : Assembly). a.complete) (assembly_is k)) ∙ e))

  pub assembly_only : (k : ℕ) → Head layers target t k → (choice : ℕ → ℕ) → AssemblesOwn layers t k choice
      → ((assembly_of t f k).complete ≡ true)
      × ((layer : ℕ) → RestsOn layers (layer_of t k) layer → get_or (assembly_of t f k).rows layer 0 ≡ choice layer)
  assembly_only k head choice a =
      let w = only-found layers target closure t orderly (layer_of t k) head.closure_row k head.inside refl choice a in (
        ap (λ (a : Assembly). a.complete) (assembly_is k) ∙ w.0,
        λ layer r. ap (λ (a : Assembly). get_or a.rows layer 0) (assembly_is k) ∙ w.1 layer r,
      )

  pub assembly_no_other : (k : ℕ) → Head layers target t k → (layer : ℕ) → layer < 64 → has (own_of t f k) layer ≡ false
      → get_or (assembly_of t f k).rows layer 0 ≡ rows_in t
  assembly_no_other k head layer h e =
      ap (λ (a : Assembly). get_or a.rows layer 0) (assembly_is k)
      ∙ head_no_other layers target closure t orderly (layer_of t k) head.closure_row k head.inside refl layer h
      (λ r. true≢false (sym (own_only k head layer r) ∙ e))

  -- ---- 15 exactly at the heads with no assembly

  pub unpaired_meant : (k : ℕ) → k < rows_in t → unpaired t f k ≡ true → NoAssembly layers target t k
  unpaired_meant k h e =
      let head = head_meant k h (both_left (is_head t f k) (not (assembly_of t f k).complete) e) in
      record {
        is_head = head;
        none = λ choice a.
            true≢false (sym (assembly_only k head choice a).0
            ∙ not-true (assembly_of t f k).complete (both_right (is_head t f k) (not (assembly_of t f k).complete) e));
      }

  pub unpaired_only : (k : ℕ) → NoAssembly layers target t k → unpaired t f k ≡ true
  unpaired_only k n = go (assembly_of t f k).complete refl
    where
      go : (b : Bool) → (assembly_of t f k).complete ≡ b → unpaired t f k ≡ true
      go true e = absurd (n.none (chosen k) (assembly_meant k n.is_head e))
      go false e = ap₂ (λ (a b : Bool). a && not b) (head_only k n.is_head) e

  -- a head that is paired has an assembly
  pub complete_at : (k : ℕ) → is_head t f k ≡ true → unpaired t f k ≡ false → (assembly_of t f k).complete ≡ true
  complete_at k m u = not-false (assembly_of t f k).complete (sym (ap (λ (b : Bool). b && not (assembly_of t f k).complete) m) ∙ u)

  -- the first head with no assembly, and that there is none
  unpaired_sound : (k : ℕ) → k < rows_in t → ((j : ℕ) → j < k → unpaired t f j ≡ false) → unpaired t f k ≡ true → NoAssembly layers target t k
  unpaired_sound k h b e = unpaired_meant k h e

  unpaired_complete : (k : ℕ) → k < rows_in t → NoAssembly layers target t k → unpaired t f k ≡ true
  unpaired_complete k h n = unpaired_only k n

  pub first_unpaired_meant : first_unpaired t f < rows_in t → FirstRow t (NoAssembly layers target t) (first_unpaired t f)
  first_unpaired_meant h = found t (NoAssembly layers target t) (unpaired t f) unpaired_sound unpaired_complete h

  pub first_unpaired_only : (k : ℕ) → FirstRow t (NoAssembly layers target t) k → (first_unpaired t f < rows_in t) × (k ≡ first_unpaired t f)
  first_unpaired_only k r = is_first t (NoAssembly layers target t) (unpaired t f) unpaired_sound unpaired_complete k r

  pub none_unpaired_meant : rows_in t ≤ first_unpaired t f → NoRow t (NoAssembly layers target t)
  none_unpaired_meant h = none t (NoAssembly layers target t) (unpaired t f) unpaired_sound unpaired_complete h

  pub none_unpaired_only : NoRow t (NoAssembly layers target t) → rows_in t ≤ first_unpaired t f
  none_unpaired_only n = is_none t (NoAssembly layers target t) (unpaired t f) unpaired_sound unpaired_complete n

  -- ---- the unit of a head: it is one, and the only one

  pub unit_meant : (k : ℕ) → Head layers target t k → (assembly_of t f k).complete ≡ true → UnitOf layers (layer_of t k) t k (unit_of t f k) (lags_of t f k)
  unit_meant k head e =
      record {
        choice = chosen k;
        assembles = assembly_meant k head e;
        members = members_of (own_of t f k);
        closure_layers = own_members k head;
        row_numbers = refl;
        lags_beside = lags_beside t k (unit_of t f k);
      }

  pub unit_only : (k : ℕ) → Head layers target t k → {rows : List ℕ} {lags : List ℤ} → UnitOf layers (layer_of t k) t k rows lags
      → (rows ≡ unit_of t f k) × (lags ≡ lags_of t f k)
  unit_only k head {rows} {lags} u =
      (same_rows, lags_one t k (subst (λ (r : List ℕ). LagsBeside t k r lags) same_rows u.lags_beside) (lags_beside t k (unit_of t f k)))
    where
      same_rows : rows ≡ unit_of t f k
      same_rows =
          u.row_numbers
          ∙ map_alike u.choice (chosen k) u.members
          (λ i h. sym ((assembly_only k head u.choice u.assembles).1 (get_or u.members i 0) (u.closure_layers.each i h)))
          ∙ ap (map (chosen k)) (ascending_one (RestsOn layers (layer_of t k)) u.members (members_of (own_of t f k)) u.closure_layers (own_members k head))

  -- ---- its rows are those that stand in it

  pub unit_long : (k : ℕ) → length (unit_of t f k) ≡ length (members_of (own_of t f k))
  unit_long k = length-map (members_of (own_of t f k)) (chosen k)

  pub unit_at : (k p : ℕ) → p < length (members_of (own_of t f k)) → get_or (unit_of t f k) p 0 ≡ chosen k (get_or (members_of (own_of t f k)) p 0)
  unit_at k p h = get_d_map (chosen k) 0 (get_d_nth (members_of (own_of t f k)) p 0 h)

  pub unit_row : (k row : ℕ) → Head layers target t k → member row (unit_of t f k) ≡ true
      → (layer : ℕ) × RestsOn layers (layer_of t k) layer × (get_or (assembly_of t f k).rows layer 0 ≡ row)
  unit_row k row head e =
      let w = member_which row (unit_of t f k) e in
      let inside : w.0 < length (members_of (own_of t f k)) = subst (λ (n : ℕ). w.0 < n) (unit_long k) w.1 in (
        get_or (members_of (own_of t f k)) w.0 0,
        (own_members k head).each w.0 inside,
        sym (unit_at k w.0 inside) ∙ w.2,
      )

  pub row_place : (k layer : ℕ) → Head layers target t k → RestsOn layers (layer_of t k) layer
      → (p : ℕ) × (p < length (unit_of t f k)) × (get_or (unit_of t f k) p 0 ≡ get_or (assembly_of t f k).rows layer 0)
  row_place k layer head r =
      let w = (own_members k head).all layer r in (
        w.0,
        subst (λ (n : ℕ). w.0 < n) (sym (unit_long k)) w.1,
        unit_at k w.0 w.1 ∙ ap (chosen k) w.2,
      )

  pub stands_meant : (k row : ℕ) → Head layers target t k → (assembly_of t f k).complete ≡ true → member row (unit_of t f k) ≡ true → InUnitOf layers t k row
  stands_meant k row head e m =
      let w = unit_row k row head m in
      record { choice = chosen k; assembles = assembly_meant k head e; layer = w.0; in_closure = w.1; chosen = w.2 }

  pub stands_only : (k row : ℕ) → Head layers target t k → InUnitOf layers t k row → member row (unit_of t f k) ≡ true
  stands_only k row head u =
      let place = row_place k u.layer head u.in_closure in
      subst (λ (r : ℕ). member r (unit_of t f k) ≡ true)
      (place.2 ∙ (assembly_only k head u.choice u.assembles).1 u.layer u.in_closure ∙ u.chosen)
      (member_at (unit_of t f k) place.0 place.1)

  -- ---- 16 exactly at the heads that share a row with a head before them, where every head up to there has an assembly, as 15 has been judged before

  pub shares_meant : (k : ℕ) → k < rows_in t → ((j : ℕ) → j ≤ k → unpaired t f j ≡ false) → shares t f k ≡ true → SharesRow layers target t k
  shares_meant k h paired e =
      let m = both_left (is_head t f k) (any (λ row. member row (rows_below t f k)) (unit_of t f k)) e in
      let some-row = any_which (λ row. member row (rows_below t f k)) (unit_of t f k)
      (both_right (is_head t f k) (any (λ row. member row (rows_below t f k)) (unit_of t f k)) e) in
      let row : ℕ = some-row.1 in
      let from = gathered_from (unit_of t f) row (heads_below t f k) some-row.3 in
      let j : ℕ = get_or (heads_below t f k) from.0 0 in
      let passing = those_at (is_head t f) k from.0 from.1 in
      let before : j < k = passing.below in
      let head = head_meant k h m in
      let earlier = head_meant j (omega arith) passing.passes in
      record {
        is_head = head;
        earlier = j;
        before = before;
        earlier_head = earlier;
        row = row;
        in_unit = stands_meant k row head (complete_at k m (paired k (omega arith))) (listed some-row.0 row some-row.2);
        in_earlier_unit = stands_meant j row earlier (complete_at j passing.passes (paired j (omega arith))) from.2;
      }
    where
      listed : (p row : ℕ) → Nth (unit_of t f k) p row → member row (unit_of t f k) ≡ true
      listed p row n = subst (λ (r : ℕ). member r (unit_of t f k) ≡ true) (nth_get_d 0 n) (member_at (unit_of t f k) p (nth_inside n))

  pub shares_only : (k : ℕ) → SharesRow layers target t k → shares t f k ≡ true
  shares_only k s =
      let mine = stands_only k s.row s.is_head s.in_unit in
      let theirs = stands_only s.earlier s.row s.earlier_head s.in_earlier_unit in
      let listed = those_which (is_head t f) k s.earlier s.before (head_only s.earlier s.earlier_head) in
      let used : member s.row (rows_below t f k) ≡ true =
      gathered_in (unit_of t f) s.row (heads_below t f k) listed.0 listed.1
      (subst (λ (j : ℕ). member s.row (unit_of t f j) ≡ true) (sym listed.2) theirs) in
      let place = member_which s.row (unit_of t f k) mine in
      ap₂ (λ (a b : Bool). a && b) (head_only k s.is_head)
      (any_true (λ row. member row (rows_below t f k)) (get_d_nth (unit_of t f k) place.0 0 place.1)
      (subst (λ (r : ℕ). member r (rows_below t f k) ≡ true) (sym place.2) used))

  -- the first of them, and that there is none
  module _ (paired : rows_in t ≤ first_unpaired t f) where
    pub all_paired : (k : ℕ) → k < rows_in t → unpaired t f k ≡ false
    all_paired k h = (seek_first (unpaired t f) (rows_in t)).before k (omega arith)

    shares_sound : (k : ℕ) → k < rows_in t → ((j : ℕ) → j < k → shares t f j ≡ false) → shares t f k ≡ true → SharesRow layers target t k
    shares_sound k h b e = shares_meant k h (λ j l. all_paired j (omega arith)) e

    shares_complete : (k : ℕ) → k < rows_in t → SharesRow layers target t k → shares t f k ≡ true
    shares_complete k h s = shares_only k s

    pub first_shared_meant : first_shared t f < rows_in t → FirstRow t (SharesRow layers target t) (first_shared t f)
    first_shared_meant h = found t (SharesRow layers target t) (shares t f) shares_sound shares_complete h

    pub first_shared_only : (k : ℕ) → FirstRow t (SharesRow layers target t) k → (first_shared t f < rows_in t) × (k ≡ first_shared t f)
    first_shared_only k r = is_first t (SharesRow layers target t) (shares t f) shares_sound shares_complete k r

    pub none_shared_meant : rows_in t ≤ first_shared t f → NoRow t (SharesRow layers target t)
    none_shared_meant h = none t (SharesRow layers target t) (shares t f) shares_sound shares_complete h

    pub none_shared_only : NoRow t (SharesRow layers target t) → rows_in t ≤ first_shared t f
    none_shared_only n = is_none t (SharesRow layers target t) (shares t f) shares_sound shares_complete n

  -- AT MOST ONE ASSEMBLY of a head
  pub one_assembly : (head : ℕ) → Head layers target t head → (choice other : ℕ → ℕ) → AssemblesOwn layers t head choice
      → AssemblesOwn layers t head other → (layer : ℕ) → RestsOn layers (layer_of t head) layer → choice layer ≡ other layer
  one_assembly head here choice other a b layer r =
      sym ((assembly_only head here choice a).1 layer r) ∙ (assembly_only head here other b).1 layer r
