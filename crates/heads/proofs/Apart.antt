-- The rows of the units of some heads: a unit has one row of a layer, and units that share none have each row once; each is a row of the closure. So there are
-- no more of them than the table has closure rows (`rows_few`), and no more heads either (`heads_few`).
-- Assumes nothing.
use Prim.Native.Nat.{ℕ, zero, suc, ◌≤◌, ◌<◌}
use mathlib.Core.Bool.{Bool, true, false, cond, true≢false}
use mathlib.Core.List.{List, [], ◌∷◌}
use mathlib.Core.Path.{◌≡◌, refl, sym, ◌∙◌, ap, subst}
use native.Mathlib.Decide.{dec_lt}
use native.Mathlib.Omega.{arith}
use lib.ListN.{length, get_or}
use Rattle.closure.specs.declared.Layers.{Layers}
use Rattle.closure.specs.Meaning.{RestsOn}
use Rattle.combinators.specs.Below.{count}
use Rattle.combinators.specs.Bools.{false_unless}
use Rattle.combinators.specs.Lists.{any, gather, any_which, nth_get_d, nth_inside}
use Rattle.combinators.specs.Members.{member, member_at, member_which}
use Rattle.combinators.specs.Once.{Once, once_places, once_append, once_count}
use Rattle.sets.specs.Sets.{has, members_of}
use Rattle.rows.specs.Table.{Table, rows_in, layer_of}
use Rattle.rows.specs.Meaning.{NoRow}
use Rattle.assembling.proofs.Own.{rests_further}
use Rattle.claims.specs.Meaning.{Head}
use Rattle.heads.specs.Units.{Frame, own_of, assembly_of, unit_of}
use Rattle.heads.specs.Orderly.{Orderly, Framed}
use Rattle.heads.specs.Meaning.{SharesRow}
use Rattle.heads.proofs.Gathers.{gathered_from}
use Rattle.heads.proofs.Meant.{assembly_meant, own_members, stands_meant, unit_row, unit_long, unit_at}

-- what passes one test passes another: no more do
count_fewer : (test other : ℕ → Bool) (n : ℕ) → ((k : ℕ) → k < n → test k ≡ true → other k ≡ true) → count test n ≤ count other n
count_fewer test other zero f = omega arith
count_fewer test other (suc n) f = go (test n) refl (other n) refl (count_fewer test other n (λ k h. f k (omega arith)))
  where
    go : (b : Bool) → test n ≡ b → (c : Bool) → other n ≡ c → count test n ≤ count other n
        → cond (test n) (suc (count test n)) (count test n) ≤ cond (other n) (suc (count other n)) (count other n)
    go true p true q ih = rw (p, q) (omega arith)
    go true p false q ih = absurd (true≢false (sym (f n (omega arith) p) ∙ q))
    go false p true q ih = rw (p, q) (omega arith)
    go false p false q ih = rw (p, q) ih

-- no more numbers of which each passes a test than pass it
pub once_few : (test : ℕ → Bool) (n : ℕ) (l : List ℕ) → Once l → ((i : ℕ) → i < length l → (get_or l i 0 < n) × (test (get_or l i 0) ≡ true))
    → length l ≤ count test n
once_few test n l once each =
    let fewer = count_fewer (λ k. member k l) test n (λ k h e. (let w = member_which k l e in subst (λ (x : ℕ). test x ≡ true) w.2 (each w.0 w.1).1)) in
    omega (arith, once_count l n once (λ i h. (each i h).0))

-- heads of which none stands at two places
abbrev pub Differ : List ℕ → Type 0
Differ heads = (i j : ℕ) → i < j → j < length heads → get_or heads i 0 ≡ get_or heads j 0 → ⊥

module _ (layers : Layers) (target closure : ℕ) (t : Table) (orderly : Orderly layers target closure t) (f : Frame) (framed : Framed layers closure t f) where
  -- ---- one unit

  pub unit_once : (k : ℕ) → Head layers target t k → (assembly_of t f k).complete ≡ true → Once (unit_of t f k)
  unit_once k head e =
      once_places (unit_of t f k)
      (λ i j l m same. differ i j l (subst (λ (n : ℕ). j < n) (unit_long layers target closure t orderly f framed k) m) same)
    where
      layer_at : (p : ℕ) → p < length (members_of (own_of t f k)) → layer_of t (get_or (unit_of t f k) p 0) ≡ get_or (members_of (own_of t f k)) p 0
      layer_at p l =
          ap (layer_of t) (unit_at layers target closure t orderly f framed k p l)
          ∙ (assembly_meant layers target closure t orderly f framed k head e).of_layer (get_or (members_of (own_of t f k)) p 0)
          ((own_members layers target closure t orderly f framed k head).each p l)

      differ : (i j : ℕ) → i < j → j < length (members_of (own_of t f k)) → get_or (unit_of t f k) i 0 ≡ get_or (unit_of t f k) j 0 → ⊥
      differ i j l m same =
          let first = layer_at i (omega arith) in
          let second = layer_at j m in
          let rise = (own_members layers target closure t orderly f framed k head).rising i j l m in
          let equal : get_or (members_of (own_of t f k)) i 0 ≡ get_or (members_of (own_of t f k)) j 0 = sym first ∙ ap (layer_of t) same ∙ second in
          omega arith

  -- each of its rows is a row of the closure
  pub unit_closure_row : (k row : ℕ) → Head layers target t k → (assembly_of t f k).complete ≡ true → member row (unit_of t f k) ≡ true
      → (row < rows_in t) × (has closure (layer_of t row) ≡ true)
  unit_closure_row k row head e m =
      let w = unit_row layers target closure t orderly f framed k row head m in
      let a = assembly_meant layers target closure t orderly f framed k head e in (
        subst (λ (r : ℕ). r < rows_in t) w.2 (a.row w.0 w.1),
        (orderly.closed_over.whole.members (layer_of t row)).1
            (subst (RestsOn layers target) (sym (a.of_layer w.0 w.1) ∙ ap (layer_of t) w.2)
            (rests_further layers target (layer_of t k) w.0 head.closure_row w.1)),
      )

  -- ---- the units of heads that have an assembly each

  module _ (complete : (k : ℕ) → Head layers target t k → (assembly_of t f k).complete ≡ true) (apart : NoRow t (SharesRow layers target t)) where
    -- two heads with a row in common are one
    pub one_head : (head other row : ℕ) → Head layers target t head → Head layers target t other → member row (unit_of t f head) ≡ true
        → member row (unit_of t f other) ≡ true → head ≡ other
    one_head head other row h o m n = go (dec_lt head other) (dec_lt other head)
      where
        go : Dec (head < other) → Dec (other < head) → head ≡ other
        go (yes l) d =
            absurd (apart other o.inside
            record {
              is_head = o;
              earlier = head;
              before = l;
              earlier_head = h;
              row = row;
              in_unit = stands_meant layers target closure t orderly f framed other row o (complete other o) n;
              in_earlier_unit = stands_meant layers target closure t orderly f framed head row h (complete head h) m;
            })
        go (no a) (yes l) =
            absurd (apart head h.inside
            record {
              is_head = h;
              earlier = other;
              before = l;
              earlier_head = o;
              row = row;
              in_unit = stands_meant layers target closure t orderly f framed head row h (complete head h) m;
              in_earlier_unit = stands_meant layers target closure t orderly f framed other row o (complete other o) n;
            })
        go (no a) (no b) = omega arith

    pub rows_once : (heads : List ℕ) → ((i : ℕ) → i < length heads → Head layers target t (get_or heads i 0)) → Differ heads
        → Once (gather (unit_of t f) heads)
    rows_once [] each differ = tt
    rows_once (head ∷ heads) each differ =
        once_append (unit_of t f head) (gather (unit_of t f) heads) (unit_once head (each 0 (omega arith)) (complete head (each 0 (omega arith))))
        (rows_once heads (λ i h. each (suc i) (omega arith)) (λ i j h l. differ (suc i) (suc j) (omega arith) (omega arith)))
        (false_unless (any (λ row. member row (unit_of t f head)) (gather (unit_of t f) heads)) shared)
      where
        shared : any (λ row. member row (unit_of t f head)) (gather (unit_of t f) heads) ≡ true → ⊥
        shared e =
            let w = any_which (λ row. member row (unit_of t f head)) (gather (unit_of t f) heads) e in
            let row : ℕ = w.1 in
            let listed : member row (gather (unit_of t f) heads) ≡ true =
            subst (λ (r : ℕ). member r (gather (unit_of t f) heads) ≡ true) (nth_get_d 0 w.2)
            (member_at (gather (unit_of t f) heads) w.0 (nth_inside w.2)) in
            let from = gathered_from (unit_of t f) row heads listed in
            differ 0 (suc from.0) (omega arith) (omega (arith, from.1))
            (one_head head (get_or heads from.0 0) row (each 0 (omega arith)) (each (suc from.0) (omega (arith, from.1))) w.3 from.2)

    -- NO MORE ROWS THAN CLOSURE ROWS
    module _ (heads : List ℕ) (each : (i : ℕ) → i < length heads → Head layers target t (get_or heads i 0)) (differ : Differ heads) where
      pub rows_few : length (gather (unit_of t f) heads) ≤ count (λ k. has closure (layer_of t k)) (rows_in t)
      rows_few =
          once_few (λ k. has closure (layer_of t k)) (rows_in t) (gather (unit_of t f) heads) (rows_once heads each differ)
          (λ i h.
          (let from = gathered_from (unit_of t f) (get_or (gather (unit_of t f) heads) i 0) heads (member_at (gather (unit_of t f) heads) i h) in
          unit_closure_row (get_or heads from.0 0) (get_or (gather (unit_of t f) heads) i 0) (each from.0 from.1)
          (complete (get_or heads from.0 0) (each from.0 from.1)) from.2))

  -- no more heads than closure rows
  pub heads_few : (heads : List ℕ) → ((i : ℕ) → i < length heads → Head layers target t (get_or heads i 0)) → Differ heads
      → length heads ≤ count (λ k. has closure (layer_of t k)) (rows_in t)
  heads_few heads each differ =
      once_few (λ k. has closure (layer_of t k)) (rows_in t) heads (once_places heads differ)
      (λ i h. (let head = each i h in (head.inside, (orderly.closed_over.whole.members (layer_of t (get_or heads i 0))).1 head.closure_row)))
