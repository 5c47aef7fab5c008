-- THE SIZES OF THE UNITS SUM TO THE NUMBER OF CLOSURE ROWS: `sizes_sum`. No row number stands twice among the units' rows, since a unit has one row
-- of a layer, and no two have a row in common; and each closure row stands there (`each_once`).
-- Assumes nothing.
use Prim.Native.Nat.{ℕ, zero, suc, ◌+◌, ◌<◌}
use mathlib.Core.Bool.{Bool, true, false, true≢false}
use mathlib.Core.List.{List, ◌∷◌}
use mathlib.Core.Logic.{◌⊎◌, inl, inr}
use mathlib.Core.Path.{◌≡◌, refl, sym, ◌∙◌, ap, subst}
use native.Mathlib.Omega.{arith}
use lib.IntN.{ℤ}
use lib.ListN.{length, get_or, length-append, length-map}
use Rattle.closure.specs.declared.Layers.{Layers}
use Rattle.closure.specs.Meaning.{RestsOn, WholeClosure}
use Rattle.combinators.specs.Ascending.{Ascending, ascending_one}
use Rattle.combinators.specs.Below.{count_alike}
use Rattle.combinators.specs.Bools.{same_test, either_left, either_right, either_which}
use Rattle.combinators.specs.Lists.{any, any_which, nth_get_d, nth_inside, get_d_map, get_d_nth}
use Rattle.combinators.specs.Members.{member, member_at, member_which, member_append}
use Rattle.combinators.specs.Once.{Once, once_places, once_append, once_count}
use Rattle.rows.specs.Table.{Table, rows_in, layer_of}
use Rattle.rows.specs.Meaning.{NoRow, BreaksOrder}
use Rattle.claims.specs.Meaning.{Head}
use Rattle.spans.specs.Meaning.{ClosureRow}
use Rattle.heads.specs.Meaning.{AssemblesOwn, InUnitOf, SharesRow, UnitOf}
use Rattle.unit_lists.specs.Meaning.{ComesBefore, HeadsInOrder, UnitsOf, no_unit, next_unit}
use Rattle.unit_lists.proofs.Meant.{assembly_of_lem}
use Rattle.every_row.specs.Statements.{Judged, total, EachOnce}
use Rattle.every_row.proofs.Standing.{unit_rows, in_some_unit, one_head}
use Rattle.every_row.proofs.Claims.{head_row, one_assembly}
use Rattle.every_row.proofs.Order.{total_order}

-- ---- one unit

module _ (layers : Layers) (t : Table) (head : ℕ) (unit : List ℕ) (beside : List ℤ) (u : UnitOf layers (layer_of t head) t head unit beside) where
  unit_long : length unit ≡ length u.members
  unit_long = ap length u.row_numbers ∙ length-map u.members u.choice

  unit_at : (i : ℕ) → i < length unit → get_or unit i 0 ≡ u.choice (get_or u.members i 0)
  unit_at i h =
      ap (λ (rows : List ℕ). get_or rows i 0) u.row_numbers
      ∙ get_d_map u.choice 0 (get_d_nth u.members i 0 (subst (λ (n : ℕ). i < n) unit_long h))

  -- its rows are those that stand in it,
  pub listed_stands : (row : ℕ) → member row unit ≡ true → InUnitOf layers t head row
  listed_stands row e =
      let w = member_which row unit e in
      record {
        choice = u.choice;
        assembles = u.assembles;
        layer = get_or u.members w.0 0;
        in_closure = u.closure_layers.each w.0 (subst (λ (n : ℕ). w.0 < n) unit_long w.1);
        chosen = sym (unit_at w.0 w.1) ∙ w.2;
      }

  -- each once: one of a layer.
  unit_once : Once unit
  unit_once = once_places unit differ
    where
      layer_at : (i : ℕ) → i < length unit → layer_of t (get_or unit i 0) ≡ get_or u.members i 0
      layer_at i h =
          ap (layer_of t) (unit_at i h)
          ∙ u.assembles.of_layer (get_or u.members i 0) (u.closure_layers.each i (subst (λ (n : ℕ). i < n) unit_long h))

      differ : (i j : ℕ) → i < j → j < length unit → get_or unit i 0 ≡ get_or unit j 0 → ⊥
      differ i j h l e =
          let rise = u.closure_layers.rising i j h (subst (λ (n : ℕ). j < n) unit_long l) in
          let same = sym (layer_at i (omega arith)) ∙ ap (layer_of t) e ∙ layer_at j l in
          omega arith

-- ---- the units of some heads

abbrev Stands : Layers → Table → List ℕ → ℕ → Type 0
Stands layers t heads row = (i : ℕ) × (i < length heads) × InUnitOf layers t (get_or heads i 0) row

-- a row that is listed stands in the unit of one of them
rows_from_lem : (layers : Layers) (t : Table) {heads sizes rows : List ℕ} {lags : List ℤ} → UnitsOf layers t heads sizes rows lags → (row : ℕ)
    → member row rows ≡ true → Stands layers t heads row
rows_from_lem layers t no_unit row e = absurd (true≢false (sym e))
rows_from_lem layers t (next_unit {head} {unit} {beside} {heads} {sizes} {rows} u units) row e =
    go (either_which (member row unit) (member row rows) (sym (member_append row unit rows) ∙ e)) (λ l. rows_from_lem layers t units row l)
  where
    go : (member row unit ≡ true) ⊎ (member row rows ≡ true) → (member row rows ≡ true → Stands layers t heads row) → Stands layers t (head ∷ heads) row
    go (inl l) later = (0, omega arith, listed_stands layers t head unit beside u row l)
    go (inr l) later = let w = later l in (suc w.0, omega (arith, w.1), w.2)

-- units that have no row in common list none twice
rows_once : (layers : Layers) (t : Table) {heads sizes rows : List ℕ} {lags : List ℤ} → UnitsOf layers t heads sizes rows lags
    → ((i j row : ℕ) → i < j → j < length heads → InUnitOf layers t (get_or heads i 0) row → InUnitOf layers t (get_or heads j 0) row → ⊥) → Once rows
rows_once layers t no_unit apart = tt
rows_once layers t (next_unit {head} {unit} {beside} {heads} {sizes} {rows} u units) apart =
    once_append unit rows (unit_once layers t head unit beside u)
    (rows_once layers t units (λ i j row h l. apart (suc i) (suc j) row (omega arith) (omega arith)))
    (none (any (λ row. member row unit) rows) refl)
  where
    none : (b : Bool) → any (λ row. member row unit) rows ≡ b → any (λ row. member row unit) rows ≡ false
    none true e =
        let w = any_which (λ row. member row unit) rows e in
        let row : ℕ = w.1 in
        let listed : member row rows ≡ true =
        subst (λ (r : ℕ). member r rows ≡ true) (nth_get_d 0 w.2) (member_at rows w.0 (nth_inside w.2)) in
        let later = rows_from_lem layers t units row listed in
        absurd (apart 0 (suc later.0) row (omega arith) (omega (arith, later.1)) (listed_stands layers t head unit beside u row w.3) later.2)
    none false e = e

-- the sizes sum to the number of rows that are listed
sizes_long : (layers : Layers) (t : Table) {heads sizes rows : List ℕ} {lags : List ℤ} → UnitsOf layers t heads sizes rows lags → total sizes ≡ length rows
sizes_long layers t no_unit = refl
sizes_long layers t (next_unit {unit = unit} {sizes = sizes} {rows = rows} u units) =
    ap (λ (n : ℕ). length unit + n) (sizes_long layers t units) ∙ sym (length-append unit rows)

-- ---- in an accepted answer

module _ (layers : Layers) (target closure : ℕ) (whole : WholeClosure layers target closure) (t : Table)
    (ordered : NoRow t (BreaksOrder layers target t)) (apart : NoRow t (SharesRow layers target t)) (heads sizes rows : List ℕ)
    (lags : List ℤ) (all-heads : HeadsInOrder layers target t heads) (units : UnitsOf layers t heads sizes rows lags) where
  pub judged : Judged layers target t
  judged =
      record {
        in_order = ordered;
        assembled = λ k h. (let w = all-heads.all k h in
            subst (λ (head : ℕ). (choice : ℕ → ℕ) × AssemblesOwn layers t head choice) w.2 (assembly_of_lem units w.0 w.1));
        apart = apart;
      }

  -- a row that stands in the unit of one of the heads is listed
  rows_in_lem : {heads sizes rows : List ℕ} {lags : List ℤ} → UnitsOf layers t heads sizes rows lags
      → ((i : ℕ) → i < length heads → Head layers target t (get_or heads i 0)) → (row i : ℕ) → i < length heads → InUnitOf layers t (get_or heads i 0) row
      → member row rows ≡ true
  rows_in_lem no_unit each row i h s = absurd (omega arith)
  rows_in_lem (next_unit {head} {unit} {beside} {heads} {sizes} {rows} u later) each row zero h s =
      member_append row unit rows ∙ either_left (member row unit) (member row rows) here
    where
      here : member row unit ≡ true
      here =
          let w = u.closure_layers.all s.layer s.in_closure in
          let place : w.0 < length unit = subst (λ (n : ℕ). w.0 < n) (sym (unit_long layers t head unit beside u)) w.1 in
          let same = one_assembly layers target closure whole t ordered head (head_row (each 0 (omega arith))) u.choice s.choice u.assembles
          s.assembles s.layer s.in_closure in
          subst (λ (r : ℕ). member r unit ≡ true)
          (unit_at layers t head unit beside u w.0 place ∙ ap u.choice w.2 ∙ same ∙ s.chosen) (member_at unit w.0 place)
  rows_in_lem (next_unit {head} {unit} {beside} {heads} {sizes} {rows} u later) each row (suc i) h s =
      member_append row unit rows
      ∙ either_right (member row unit) (member row rows) (rows_in_lem later (λ j l. each (suc j) (omega arith)) row i (omega arith) s)

  -- EACH CLOSURE ROW STANDS IN EXACTLY ONE UNIT, in the lists too
  pub each_once : EachOnce layers target t rows
  each_once =
      record {
        once = rows_once layers t units
            (λ i j row h l u v.
            (let first = all-heads.each i (omega arith) in
            let same = one_head layers target closure whole t judged (get_or heads i 0) (get_or heads j 0) row first (all-heads.each j l) u v in
            (total_order layers target closure whole t).never_itself (get_or heads i 0)
            (subst (ComesBefore layers target t (get_or heads i 0)) same (all-heads.in_order i j h l))));
        exactly = λ row. (listed row, standing row);
      }
    where
      listed : (row : ℕ) → member row rows ≡ true → ClosureRow layers target t row
      listed row e =
          let w = rows_from_lem layers t units row e in
          unit_rows layers target t (get_or heads w.0 0) row (all-heads.each w.0 w.1) w.2

      standing : (row : ℕ) → ClosureRow layers target t row → member row rows ≡ true
      standing row c =
          let s = in_some_unit layers target closure whole t judged row c in
          let w = all-heads.all s.head s.is_head in
          rows_in_lem units all-heads.each row w.0 w.1 (subst (λ (head : ℕ). InUnitOf layers t head row) (sym w.2) s.in_unit)

  -- SO THE SIZES SUM TO THE NUMBER OF CLOSURE ROWS
  pub sizes_sum : (closure_rows : List ℕ) → Ascending (ClosureRow layers target t) closure_rows → total sizes ≡ length closure_rows
  sizes_sum closure_rows a =
      sizes_long layers t units
      ∙ sym (once_count rows (rows_in t) each_once.once (λ i h. ((each_once.exactly (get_or rows i 0)).0 (member_at rows i h)).inside))
      ∙ count_alike (λ k. member k rows) (λ k. member k closure_rows) (rows_in t) (λ k h. same_test (member k rows) (member k closure_rows) (there k) (back k))
      ∙ once_count closure_rows (rows_in t) (once_places closure_rows (λ i j h l e. (let r = a.rising i j h l in omega arith))) (λ i h. (a.each i h).inside)
    where
      there : (k : ℕ) → member k rows ≡ true → member k closure_rows ≡ true
      there k e =
          let w = a.all k ((each_once.exactly k).0 e) in
          subst (λ (r : ℕ). member r closure_rows ≡ true) w.2 (member_at closure_rows w.0 w.1)

      back : (k : ℕ) → member k closure_rows ≡ true → member k rows ≡ true
      back k e =
          let w = member_which k closure_rows e in
          (each_once.exactly k).1 (subst (ClosureRow layers target t) w.2 (a.each w.0 w.1))

-- ---- the unit of a target row is of the closure's size

pub target_size : (layers : Layers) (target : ℕ) (t : Table) (head : ℕ) (unit members : List ℕ) (beside : List ℤ) → layer_of t head ≡ target
    → UnitOf layers (layer_of t head) t head unit beside → Ascending (RestsOn layers target) members → length unit ≡ length members
target_size layers target t head unit members beside own u a =
    unit_long layers t head unit beside u
    ∙ ap length (ascending_one (RestsOn layers target) u.members members
    (subst (λ (top : ℕ). Ascending (RestsOn layers top) u.members) own u.closure_layers) a)
