-- The points of a program in the layers of a loop: 42, their stream lists, and whether these are closed.
-- Assumes nothing.
use Prim.Native.Nat.{ℕ, ◌^◌, ◌<◌}
use mathlib.Core.Bool.{true, false}
use mathlib.Core.List.{List, [], ◌∷◌, map}
use mathlib.Core.Logic.{◌↔◌}
use mathlib.Core.Path.{◌≡◌, refl, sym, ap, ap₂, ◌∙◌, subst}
use native.Mathlib.Omega.{arith}
use lib.ListN.{length, take, replicate}
use lib.Seq.{take_at}
use Rattle.combinators.specs.Bools.{apart, same_test, neither_left, neither_right}
use Rattle.combinators.specs.Lists.{Nth, any, any_which, any_true}
use Rattle.combinators.specs.Padding.{pad_to}
use Rattle.sets.specs.Sets.{without, joined, members_of}
use Rattle.sets.proofs.Laws.{joined_within, added_within, without_within}
use Rattle.sets.proofs.Members.{members_ascending}
use Rattle.closure.specs.declared.Layers.{Layers}
use Rattle.stream_lists.specs.declared.ListBuilt.{ListBuilt}
use Rattle.stream_lists.specs.Lists.{referred, asked, set_of, referring, is_closed}
use Rattle.stream_lists.specs.Meaning.{Lists, NoLayer, Closed, Ordered}
use Rattle.stream_lists.specs.Meaning as Built
use Rattle.stream_lists.proofs.Building.{has_set, set_placed, referred_small, asked_within}
use Rattle.stream_lists.proofs.Meant.{adds_only, list_meant, list_only, closed_meant, closed_only}
use Rattle.operation_points.specs.Values.{PointValue, reference_bytes}
use Rattle.program_points.specs.Told.{is_absent}
use Rattle.points_meaning.specs.Telling.{PointTold, point_told}
use Rattle.points_meaning.specs.Meaning.{InOrder, nothing, next, NotInLoop, not_in_loop, Listed}

module _ (layers : Layers) where
  -- ---- a list that is built is one, and a set of six bits

  lists_one : {before references a b : List ℕ} → Lists layers before references a → Lists layers before references b → a ≡ b
  lists_one Built.none Built.none = refl
  lists_one {b = b} (Built.next {before} {after} {list} {reference} {references} p l) (Built.next {after = other} q m) =
      lists_one l
      (subst (λ (x : List ℕ). Lists layers x references b) (adds_only layers reference before q ∙ sym (adds_only layers reference before p)) m)

  lists_small : {before references list : List ℕ} → Lists layers before references list → set_of before < 2 ^ 64 → set_of list < 2 ^ 64
  lists_small Built.none h = h
  lists_small (Built.next {before} {after} {list} {reference} {references} a l) h =
      let new : without (asked layers reference) (set_of before) < 2 ^ 64 = without_within 64 (asked layers reference) (set_of before) (asked_within layers reference) in
      let small : set_of (referring layers before reference) < 2 ^ 64 =
      subst (λ (s : ℕ). s < 2 ^ 64)
      (sym (set_placed (referred reference) (without (asked layers reference) (set_of before)) before (referred_small layers reference) new))
      (added_within 64 (joined (set_of before) (without (asked layers reference) (set_of before))) (referred reference)
      (joined_within 64 (set_of before) (without (asked layers reference) (set_of before)) h new) (λ k. k)) in
      lists_small l (subst (λ (x : List ℕ). set_of x < 2 ^ 64) (sym (adds_only layers reference before a)) small)

  pub list_small : {references list : List ℕ} → Lists layers [] references list → set_of list < 2 ^ 64
  list_small l = lists_small l (omega arith)

  -- its set in ascending order is the list ordered by index
  pub list_ordered : {references list : List ℕ} → Lists layers [] references list → Ordered list (members_of (set_of list))
  list_ordered {list = list} l =
      let a = members_ascending (set_of list) (list_small l) in
      record {
        each = λ i h. sym (has_set (lib.ListN.get_or (members_of (set_of list)) i 0) list) ∙ a.each i h;
        all = λ n m. a.all n (has_set n list ∙ m);
        rising = a.rising;
      }

  -- ---- the list of a point, where 42 does not apply to it

  record Fine (references : List ℕ) (a : ListBuilt) : Type 0 where
    pub clear : (k reference : ℕ) → Nth references k reference → NoLayer layers reference → ⊥
    pub list : Lists layers [] references (take a.list.count a.list.members)
    pub closed : (is_closed layers a.list.present ≡ true) ↔ Closed layers (set_of (take a.list.count a.list.members))

  fine : {references : List ℕ} {a : ListBuilt} → Built.Answers layers references a → a.absent ≡ false → Fine references a
  fine (Built.refused n p) e = apart (sym e)
  fine {references} (Built.built {list} f l) e =
      let front : list ≡ take (length list) (pad_to 64 0 list) = sym (take_at list _ (length list) refl) in
      let small = list_small l in
      record {
        clear = f;
        list = subst (Lists layers [] references) front l;
        closed = subst (λ (x : List ℕ). (is_closed layers (set_of list) ≡ true) ↔ Closed layers (set_of x)) front
            (closed_meant layers (set_of list) small, closed_only layers (set_of list) small);
      }

  absent_which : {references : List ℕ} {a : ListBuilt} → Built.Answers layers references a → a.absent ≡ true
      → (k : ℕ) × (reference : ℕ) × Nth references k reference × NoLayer layers reference
  absent_which (Built.refused {k} {reference} n p) e = (k, reference, n, p)
  absent_which (Built.built f l) e = apart e

  -- 42
  pub absent_meant : (points : List PointValue) → any (is_absent layers) points ≡ true → NotInLoop layers points
  absent_meant points e =
      let w = any_which (is_absent layers) points e in
      let r = absent_which (list_meant layers (reference_bytes w.1)) w.3 in
      not_in_loop w.2 r.2 r.3

  pub absent_only : (points : List PointValue) → NotInLoop layers points → any (is_absent layers) points ≡ true
  absent_only points (not_in_loop {point = point} n m p) =
      any_true (is_absent layers) n (sym (ap (λ (b : ListBuilt). b.absent) (list_only layers (reference_bytes point) (Built.refused m p))))

  -- else what is told of each
  listed_meant : (point : PointValue) → is_absent layers point ≡ false → Listed layers point (point_told layers point)
  listed_meant point e =
      let f = fine (list_meant layers (reference_bytes point)) e in
      record { fields = refl; list = f.list; closed = f.closed }

  listed_one : (point : PointValue) (a b : PointTold) → Listed layers point a → Listed layers point b → a ≡ b
  listed_one point a b p q =
      let same : a.streams ≡ b.streams = lists_one p.list q.list in
      let closed : a.closed ≡ b.closed =
      same_test a.closed b.closed
      (λ e. q.closed.1 (subst (λ (l : List ℕ). Closed layers (set_of l)) same (p.closed.0 e)))
      (λ e. p.closed.1 (subst (λ (l : List ℕ). Closed layers (set_of l)) (sym same) (q.closed.0 e))) in
      λ i. record { fields = (p.fields ∙ sym q.fields) i; streams = same i; closed = closed i }

  pub all_listed : (points : List PointValue) → any (is_absent layers) points ≡ false → InOrder (Listed layers) points (map (point_told layers) points)
  all_listed [] e = nothing
  all_listed (x ∷ points) e =
      next (listed_meant x (neither_left (is_absent layers x) (any (is_absent layers) points) e))
      (all_listed points (neither_right (is_absent layers x) (any (is_absent layers) points) e))

  pub listed_all_one : {points : List PointValue} {a b : List PointTold} → InOrder (Listed layers) points a → InOrder (Listed layers) points b → a ≡ b
  listed_all_one nothing nothing = refl
  listed_all_one (next {x} {y} p ps) (next {y = z} q qs) =
      ap₂ (λ (t : PointTold) (ts : List PointTold). t ∷ ts) (listed_one x y z p q) (listed_all_one ps qs)
