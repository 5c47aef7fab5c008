-- The rows of the units, one unit after another. As long as no two units share a row, no row stands among them twice, so that they fill no more
-- places than there are rows (`rows_fit`); each unit is found again at its place (`kept_unit`); and an assembly leaves no row behind once its
-- members are cleared (`cleared_again`).
-- Assumes nothing.
use Prim.Native.Nat.{ℕ, zero, suc, ◌+◌, ◌-◌, ◌≤◌, ◌<◌}
use mathlib.Core.Path.{◌≡◌, refl, sym, ◌∙◌, ap, subst}
use mathlib.Core.Bool.{Bool, true, false, not, cond, ◌&&◌}
use mathlib.Core.List.{List, ◌++◌}
use native.Mathlib.Omega.{arith}
use native.Mathlib.Numerals.{add-one}
use borrow.Author.Tests.{not-false}
use lib.ListN.{length, get_or, set, take, drop, length-append, length-replicate, get_or-replicate}
use lib.Seq.{slice, take-take, take_at, drop_at, ext_get_or}
use Rattle.combinators.specs.Lists.{any}
use Rattle.combinators.specs.Members.{member}
use Rattle.combinators.specs.Once.{Once, Small, small_append, once_append, once_short}
use Rattle.sets.specs.Sets.{has, size, members_of}
use Rattle.rows.specs.Table.{Table, rows_in, layer_of}
use Rattle.assembling.specs.Assemblies.{no_rows}
use Rattle.assembling.proofs.Assembled.{as_long, begin_long}
use Rattle.heads.specs.Units.{Frame, is_head, own_of, assembly_of, unit_of, rows_below, unpaired, shares}
use Rattle.heads.specs.Judging.{Whole, cleared}
use Rattle.heads.proofs.Gathers.{gathered_more, gathered_same, gathered_rest}
use Rattle.sets.proofs.Members.{members_ascending, member_members, members_size}
use Rattle.heads.proofs.Marking.{unit_at, unit_long, cleared_at, length_cleared}

module _ (t : Table) (f : Frame) where
  -- ---- how many they are

  pub unit_length : (k : ℕ) → length (unit_of t f k) ≡ length (members_of (own_of t f k))
  unit_length k = unit_long (members_of (own_of t f k)) (assembly_of t f k).rows

  pub unit_size : (k : ℕ) → length (unit_of t f k) ≡ size (own_of t f k)
  unit_size k = unit_length k ∙ members_size (own_of t f k)

  -- ---- each in its place: where the rows of the units of some heads stand one after another from the front

  module _ (n k : ℕ) (kept : List ℕ) (rows : take (length (rows_below t f n)) kept ≡ rows_below t f n) (inside : k < n) (m : is_head t f k ≡ true) where
    more : rows_below t f (k + 1) ≡ rows_below t f k ++ unit_of t f k
    more = gathered_more (unit_of t f) (is_head t f) k m

    abbrev end : ℕ
    end = length (rows_below t f k) + length (unit_of t f k)

    end_is : length (rows_below t f (k + 1)) ≡ end
    end_is = ap length more ∙ length-append (rows_below t f k) (unit_of t f k)

    rest : (rest : List ℕ) × (rows_below t f (k + 1 + (n - (k + 1))) ≡ rows_below t f (k + 1) ++ rest)
    rest = gathered_rest (unit_of t f) (is_head t f) (k + 1) (n - (k + 1))

    all : rows_below t f n ≡ rows_below t f (k + 1) ++ rest.0
    all = let same : n ≡ k + 1 + (n - (k + 1)) = omega arith in ap (rows_below t f) same ∙ rest.1

    among : end ≤ length (rows_below t f n)
    among = omega (arith, end_is, ap length all ∙ length-append (rows_below t f (k + 1)) rest.0)

    pub kept_unit : slice (length (rows_below t f k)) (length (rows_below t f k) + length (unit_of t f k)) kept ≡ unit_of t f k
    kept_unit =
        ap (drop (length (rows_below t f k))) (front ∙ more) ∙ drop_at (rows_below t f k) (unit_of t f k) (length (rows_below t f k)) refl
      where
        front : take end kept ≡ rows_below t f (k + 1)
        front =
            sym (take-take end (length (rows_below t f n)) kept among)
            ∙ ap (take end) (rows ∙ all)
            ∙ take_at (rows_below t f (k + 1)) rest.0 end end_is

    pub kept_inside : length (rows_below t f n) ≤ length kept → length (rows_below t f k) + length (unit_of t f k) ≤ length kept
    kept_inside room = omega (arith, among)

  -- ---- no row twice

  module _ (whole : Whole t f) where
    pub unit_small : (k : ℕ) → k < rows_in t → is_head t f k ≡ true → (assembly_of t f k).complete ≡ true → Small (rows_in t) (unit_of t f k)
    unit_small k inside m e p h =
        let l : p < length (members_of (own_of t f k)) = subst (λ (n : ℕ). p < n) (unit_length k) h in
        subst (λ (x : ℕ). x < rows_in t) (sym (unit_at (members_of (own_of t f k)) (assembly_of t f k).rows p l))
        (whole.row k (get_or (members_of (own_of t f k)) p 0) inside m e
        ((members_ascending (own_of t f k) (whole.small k inside m)).each p l))

    -- once its members are cleared, no layer has a row
    pub cleared_again : (k : ℕ) → k < rows_in t → is_head t f k ≡ true → (assembly_of t f k).complete ≡ true → layer_of t k < 64
        → cleared (rows_in t) (members_of (own_of t f k)) (assembly_of t f k).rows ≡ no_rows (rows_in t)
    cleared_again k inside m e top =
        ext_get_or 0 (cleared (rows_in t) (members_of (own_of t f k)) (assembly_of t f k).rows) (no_rows (rows_in t))
        (length_cleared (rows_in t) (members_of (own_of t f k)) (assembly_of t f k).rows ∙ long ∙ sym (length-replicate 64 (rows_in t)))
        (λ i h. at i (omega (arith, length_cleared (rows_in t) (members_of (own_of t f k)) (assembly_of t f k).rows, long)))
      where
        long : length (assembly_of t f k).rows ≡ 64
        long = as_long t f.edges (set (no_rows (rows_in t)) (layer_of t k) k) ∙ begin_long t (layer_of t k) k top

        at : (i : ℕ) → i < 64
            → get_or (cleared (rows_in t) (members_of (own_of t f k)) (assembly_of t f k).rows) i 0 ≡ get_or (no_rows (rows_in t)) i 0
        at i h =
            cleared_at (rows_in t) (members_of (own_of t f k)) (assembly_of t f k).rows i (omega (arith, long))
            ∙ ap (λ (b : Bool). cond b (rows_in t) (get_or (assembly_of t f k).rows i 0)) (member_members (own_of t f k) (whole.small k inside m) i)
            ∙ go (has (own_of t f k) i) refl
            ∙ sym (get_or-replicate 64 i (rows_in t) 0 h)
          where
            go : (b : Bool) → has (own_of t f k) i ≡ b → cond b (rows_in t) (get_or (assembly_of t f k).rows i 0) ≡ rows_in t
            go true o = refl
            go false o = whole.no_other k i inside m e h o

    module _ (n : ℕ) (within : n ≤ rows_in t) (paired : (j : ℕ) → j < n → unpaired t f j ≡ false) where
      pub complete_at : (k : ℕ) → k < n → is_head t f k ≡ true → (assembly_of t f k).complete ≡ true
      complete_at k h m =
          not-false (assembly_of t f k).complete (sym (ap (λ (b : Bool). b && not (assembly_of t f k).complete) m) ∙ paired k h)

      at_next : (P : List ℕ → Type 0) (k : ℕ) → P (rows_below t f (k + 1)) → P (rows_below t f (suc k))
      at_next P k p = subst (λ (m : ℕ). P (rows_below t f m)) (add-one k) p

      -- each is the number of a row
      pub rows_small : (k : ℕ) → k ≤ n → Small (rows_in t) (rows_below t f k)
      rows_small zero l = λ i h. absurd (omega arith)
      rows_small (suc k) l = at_next (Small (rows_in t)) k (go (is_head t f k) refl (rows_small k (omega arith)))
        where
          go : (b : Bool) → is_head t f k ≡ b → Small (rows_in t) (rows_below t f k) → Small (rows_in t) (rows_below t f (k + 1))
          go true m before =
              subst (Small (rows_in t)) (sym (gathered_more (unit_of t f) (is_head t f) k m))
              (small_append (rows_in t) (rows_below t f k) (unit_of t f k) before (unit_small k (omega arith) m (complete_at k (omega arith) m)))
          go false m before = subst (Small (rows_in t)) (sym (gathered_same (unit_of t f) (is_head t f) k m)) before

      module _ (apart : (j : ℕ) → j < n → shares t f j ≡ false) where
        pub rows_once : (k : ℕ) → k ≤ n → Once (rows_below t f k)
        rows_once zero l = tt
        rows_once (suc k) l = at_next Once k (go (is_head t f k) refl (rows_once k (omega arith)))
          where
            go : (b : Bool) → is_head t f k ≡ b → Once (rows_below t f k) → Once (rows_below t f (k + 1))
            go true m before =
                subst Once (sym (gathered_more (unit_of t f) (is_head t f) k m))
                (once_append (rows_below t f k) (unit_of t f k) before (whole.once k (omega arith) m (complete_at k (omega arith) m))
                (sym (ap (λ (b : Bool). b && any (λ row. member row (rows_below t f k)) (unit_of t f k)) m) ∙ apart k (omega arith)))
            go false m before = subst Once (sym (gathered_same (unit_of t f) (is_head t f) k m)) before

        -- DISJOINT UNITS FILL NO MORE PLACES THAN THERE ARE ROWS.
        pub rows_fit : length (rows_below t f n) ≤ rows_in t
        rows_fit = once_short (rows_below t f n) (rows_in t) (rows_once n (omega arith)) (rows_small n (omega arith))
