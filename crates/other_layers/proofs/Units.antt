-- Assemblies, units, their order and the lists that hold them: what is said of one table holds of the other.
-- Assumes nothing.
use Prim.Native.Nat.{ℕ, zero, suc, ◌<◌}
use mathlib.Core.List.{List, [], ◌∷◌, map}
use mathlib.Core.Path.{◌≡◌, refl, sym, ◌∙◌, ap, subst, subst₂}
use native.Mathlib.Omega.{arith}
use lib.IntN.{ℤ}
use lib.ListN.{length, get_or, length-map}
use Rattle.clock.specs.Clock.{Lag}
use Rattle.closure.specs.declared.Layers.{Layers}
use Rattle.closure.specs.Meaning.{RestsOn, by}
use Rattle.combinators.specs.Ascending.{Ascending}
use Rattle.rows.specs.Table.{Table, layer_of}
use Rattle.rows.specs.Meaning.{FirstRow, NoRow}
use Rattle.assembling.proofs.Own.{rests_further}
use Rattle.spans.specs.Meaning.{ClosureRow}
use Rattle.heads.specs.Meaning.{Assembles, AssemblesOwn, NoAssembly, InUnitOf, SharesRow, LagsBeside, no_row, beside, UnitOf}
use Rattle.unit_lists.specs.Meaning.{ComesBefore, lower_distance, lower_layer, lower_row, HeadsInOrder, UnitsOf, no_unit, next_unit}
use Rattle.other_layers.proofs.Rows.{Same, flip, inside, distance, head_row, head, first_row_lem}
use Rattle.other_layers.proofs.Rows as rows

map_at : (f : ℕ → ℕ) (l : List ℕ) (i : ℕ) → i < length l → get_or (map f l) i 0 ≡ f (get_or l i 0)
map_at f [] i h = absurd (omega arith)
map_at f (x ∷ l) zero h = refl
map_at f (x ∷ l) (suc i) h = map_at f l i (omega arith)

module _ {layers : Layers} {target : ℕ} {t u : Table} (s : Same layers target t u) where
  -- ---- assemblies

  -- the row that an assembly chooses for a layer is a closure row
  chosen : {top head : ℕ} {choice : ℕ → ℕ} → RestsOn layers target top → Assembles layers top t head choice → (layer : ℕ) → RestsOn layers top layer
      → ClosureRow layers target t (choice layer)
  chosen {top} r a layer l =
      record {
        inside = a.row layer l;
        in_closure = subst (RestsOn layers target) (sym (a.of_layer layer l)) (rests_further layers target top layer r l);
      }

  assembles : {top head : ℕ} {choice : ℕ → ℕ} → RestsOn layers target top → Assembles layers top t head choice → Assembles layers top u head choice
  assembles {top} {head} {choice} r a =
      record {
        of_target = a.of_target;
        row = λ layer l. inside s (a.row layer l);
        of_layer = λ layer l. sym (s.row (choice layer) (chosen r a layer l)).layer ∙ a.of_layer layer l;
        paired = λ upper lower l n. sym (s.row (choice lower) (chosen r a lower (by l n))).decoding
            ∙ a.paired upper lower l n
            ∙ (s.row (choice upper) (chosen r a upper l)).matching;
      }

  -- over the closure of the head's own layer, which is the same in both
  assembles_own : {k : ℕ} {choice : ℕ → ℕ} → ClosureRow layers target t k → AssemblesOwn layers t k choice → AssemblesOwn layers u k choice
  assembles_own {k} {choice} c a =
      subst (λ (top : ℕ). Assembles layers top u k choice) (s.row k c).layer (assembles c.in_closure a)

  in_unit : {k row : ℕ} → ClosureRow layers target t k → InUnitOf layers t k row → InUnitOf layers u k row
  in_unit {k} {row} c w =
      record {
        choice = w.choice;
        assembles = assembles_own c w.assembles;
        layer = w.layer;
        in_closure = subst (λ (top : ℕ). RestsOn layers top w.layer) (s.row k c).layer w.in_closure;
        chosen = w.chosen;
      }

module _ {layers : Layers} {target : ℕ} {t u : Table} (s : Same layers target t u) where
  no_assembly : {k : ℕ} → NoAssembly layers target t k → NoAssembly layers target u k
  no_assembly {k} w =
      let c = head_row s w.is_head in
      record { is_head = head s w.is_head; none = λ choice a. w.none choice (assembles_own (flip s) (s.there k c) a) }

  shares : {k : ℕ} → SharesRow layers target t k → SharesRow layers target u k
  shares {k} w =
      record {
        is_head = head s w.is_head;
        earlier = w.earlier;
        before = w.before;
        earlier_head = head s w.earlier_head;
        row = w.row;
        in_unit = in_unit s (head_row s w.is_head) w.in_unit;
        in_earlier_unit = in_unit s (head_row s w.earlier_head) w.in_earlier_unit;
      }

module _ {layers : Layers} {target : ℕ} {t u : Table} (s : Same layers target t u) where
  pub unpaired_first : {k : ℕ} → FirstRow t (NoAssembly layers target t) k → FirstRow u (NoAssembly layers target u) k
  unpaired_first f = first_row_lem s (λ j h w. no_assembly s w) (λ j h w. no_assembly (flip s) w) f

  pub none_unpaired : NoRow t (NoAssembly layers target t) → NoRow u (NoAssembly layers target u)
  none_unpaired none = rows.no_row s (λ j h w. no_assembly (flip s) w) none

  pub shared_first : {k : ℕ} → FirstRow t (SharesRow layers target t) k → FirstRow u (SharesRow layers target u) k
  shared_first f = first_row_lem s (λ j h w. shares s w) (λ j h w. shares (flip s) w) f

  pub none_shared : NoRow t (SharesRow layers target t) → NoRow u (SharesRow layers target u)
  none_shared none = rows.no_row s (λ j h w. shares (flip s) w) none

  -- ---- the closure rows

  pub closure_rows_lem : {list : List ℕ} → Ascending (ClosureRow layers target t) list → Ascending (ClosureRow layers target u) list
  closure_rows_lem {list} a =
      record { each = λ i h. s.there (get_or list i 0) (a.each i h); all = λ n c. a.all n (s.back n c); rising = a.rising }

  -- ---- the order of units

  comes_before : {j k : ℕ} → ClosureRow layers target t j → ClosureRow layers target t k → ComesBefore layers target t j k → ComesBefore layers target u j k
  comes_before c d (lower_distance x y l) = lower_distance (distance s c x) (distance s d y) l
  comes_before {j} {k} c d (lower_layer x y l) = lower_layer (distance s c x) (distance s d y) (subst₂ ◌<◌ (s.row j c).layer (s.row k d).layer l)
  comes_before {j} {k} c d (lower_row x y e l) =
      lower_row (distance s c x) (distance s d y) (sym (s.row j c).layer ∙ e ∙ (s.row k d).layer) l

  pub heads_in_order_lem : {heads : List ℕ} → HeadsInOrder layers target t heads → HeadsInOrder layers target u heads
  heads_in_order_lem {heads} o =
      record {
        each = λ i h. head s (o.each i h);
        all = λ n h. o.all n (head (flip s) h);
        in_order = λ i j h l. comes_before (head_row s (o.each i (earlier i j h l))) (head_row s (o.each j l)) (o.in_order i j h l);
      }
    where
      earlier : (i j : ℕ) → i < j → j < length heads → i < length heads
      earlier i j h l = omega arith

  -- ---- the lists

  lags_beside : {k : ℕ} (list : List ℕ) {lags : List ℤ} → ClosureRow layers target t k
      → ((i : ℕ) → i < length list → ClosureRow layers target t (get_or list i 0)) → LagsBeside t k list lags → LagsBeside u k list lags
  lags_beside [] c each no_row = no_row
  lags_beside {k} (row ∷ list) c each (beside {lag = lag} l more) =
      beside (subst₂ (λ (a b : ℕ). Lag a b lag) (s.row row (each 0 (omega arith))).decoding (s.row k c).decoding l)
      (lags_beside list c (λ i h. each (suc i) (omega arith)) more)

  unit : {k : ℕ} {list : List ℕ} {lags : List ℤ} → ClosureRow layers target t k → UnitOf layers (layer_of t k) t k list lags
      → UnitOf layers (layer_of u k) u k list lags
  unit {k} {list} {lags} c w =
      subst (λ (top : ℕ). UnitOf layers top u k list lags) (s.row k c).layer
      (record {
        choice = w.choice;
        assembles = assembles s c.in_closure w.assembles;
        members = w.members;
        closure_layers = w.closure_layers;
        row_numbers = w.row_numbers;
        lags_beside = lags_beside list c each w.lags_beside;
      })
    where
      each : (i : ℕ) → i < length list → ClosureRow layers target t (get_or list i 0)
      each i h =
          let numbers : length list ≡ length (map w.choice w.members) = ap length w.row_numbers in
          let l : i < length w.members = omega (arith, simp length-map at numbers) in
          subst (ClosureRow layers target t)
          (sym (map_at w.choice w.members i l) ∙ sym (ap (λ (x : List ℕ). get_or x i 0) w.row_numbers))
          (chosen s c.in_closure w.assembles (get_or w.members i 0) (w.closure_layers.each i l))

  pub units : (heads : List ℕ) {sizes list : List ℕ} {lags : List ℤ} → ((i : ℕ) → i < length heads → ClosureRow layers target t (get_or heads i 0))
      → UnitsOf layers t heads sizes list lags → UnitsOf layers u heads sizes list lags
  units [] each no_unit = no_unit
  units (k ∷ heads) each (next_unit w more) =
      next_unit (unit (each 0 (omega arith)) w)
      (units heads (λ i h. each (suc i) (omega arith)) more)
