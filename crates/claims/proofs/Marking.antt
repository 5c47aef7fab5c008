-- The marks as they are set: one row of a layer at the most has a decoding time, and layer after layer, row after row, the marks are those that were asked for.
-- Assumes nothing.
use Prim.Native.Nat.{ℕ, ◌+◌, ◌^◌, ◌≤◌, ◌<◌}
use mathlib.Core.Bool.{Bool, true, false, cond, ◌&&◌, ◌||◌, or-true, or-false}
use mathlib.Core.List.{List}
use mathlib.Core.Path.{◌≡◌, refl, sym, ◌∙◌, ap, ap₂}
use native.Mathlib.Omega.{arith}
use native.Mathlib.Decide.{dec_lt, ℕ_discrete}
use native.Mathlib.Numerals.{add-one}
use borrow.Author.Tests.{lt-ltb, le-ltb, eq-eqb, ne_eqb, eqb-true}
use lib.Dec.{eqb, ltb}
use lib.ListN.{length, get_or, set, length-set}
use lib.Seq.{get_or-set_same, get_or-set_other, ext_get_or}
use Rattle.closure.specs.declared.Layers.{Layers}
use Rattle.closure.specs.Closures.{named_by}
use Rattle.combinators.specs.Below.{some}
use Rattle.combinators.proofs.Seeking.{seek_first}
use Rattle.combinators.specs.Bools.{both_left, both_right, same_test}
use Rattle.sets.specs.Sets.{has, lowest, rest}
use Rattle.sets.proofs.Laws.{has_none, lowest_member}
use Rattle.sets.proofs.Members.{has_next, lowest_small, rest_member, rest_within}
use Rattle.rows.specs.Table.{Table, rows_in, layer_of, decoding_of, match_of}
use Rattle.row_index.specs.Index.{Rising, row_at}
use Rattle.assembling.proofs.Assembled.{row_only}
use Rattle.claims.specs.Claims.{claimed_by, claimed}
use Rattle.claims.specs.Marks.{Stands, marked_at, timed_in}

-- ---- marks that are promised leave no place open

pub stands_one : (count : ℕ) (value : ℕ → Bool) (before marks other : List Bool) → Stands count value before marks → Stands count value before other → marks ≡ other
stands_one count value before marks other a b =
    ext_get_or false marks other (a.as_long ∙ sym b.as_long) (λ k h. go k (dec_lt k count))
  where
    go : (k : ℕ) → Dec (k < count) → get_or marks k false ≡ get_or other k false
    go k (yes l) = a.at k l ∙ sym (b.at k l)
    go k (no l) = a.beyond k (omega arith) ∙ sym (b.beyond k (omega arith))

-- ---- the row of a layer that has a decoding time

module _ (t : Table) (layer : ℕ) (rising : Rising t layer) where
  abbrev sought : ℕ → ℕ → Bool
  sought time k = eqb (layer_of t k) layer && eqb (decoding_of t k) time

  -- it is the one that the search answers, and no other has it
  pub sought_is : (time k : ℕ) → k < rows_in t → sought time k ≡ eqb k (row_at t layer time)
  sought_is time k h = same_test (sought time k) (eqb k (row_at t layer time)) (λ e. eq-eqb k (row_at t layer time) (only e)) found
    where
      only : sought time k ≡ true → k ≡ row_at t layer time
      only e =
          sym (row_only t layer time k rising h (eqb-true (layer_of t k) layer (both_left (eqb (layer_of t k) layer) (eqb (decoding_of t k) time) e))
          (eqb-true (decoding_of t k) time (both_right (eqb (layer_of t k) layer) (eqb (decoding_of t k) time) e)))

      found : eqb k (row_at t layer time) ≡ true → sought time k ≡ true
      found e =
          let same = eqb-true k (row_at t layer time) e in
          rw same ((seek_first (sought time) (rows_in t)).found (omega (arith, h)))

-- ---- one mark

module _ (count row : ℕ) (marks : List Bool) where
  mark_long : length (marked_at count row marks) ≡ length marks
  mark_long = go (ltb row count)
    where
      go : (b : Bool) → length (cond b (set marks row true) marks) ≡ length marks
      go true = length-set marks row true
      go false = refl

  mark_at : count ≤ length marks → (k : ℕ) → k < count → get_or (marked_at count row marks) k false ≡ (get_or marks k false || eqb k row)
  mark_at fits k h = go (dec_lt row count) (ℕ_discrete k row)
    where
      go : Dec (row < count) → Dec (k ≡ row) → get_or (marked_at count row marks) k false ≡ (get_or marks k false || eqb k row)
      go (yes l) (yes e) =
          rw (lt-ltb row count l, e, eq-eqb row row refl, or-true (get_or marks row false)) (get_or-set_same marks row true false (omega arith))
      go (yes l) (no e) =
          rw (lt-ltb row count l, ne_eqb k row e, or-false (get_or marks k false)) (get_or-set_other marks row k true false e)
      go (no l) (yes e) = absurd (omega arith)
      go (no l) (no e) = rw (le-ltb row count (omega arith), ne_eqb k row e) (sym (or-false (get_or marks k false)))

  mark_beyond : (k : ℕ) → count ≤ k → get_or (marked_at count row marks) k false ≡ get_or marks k false
  mark_beyond k h = go (dec_lt row count)
    where
      go : Dec (row < count) → get_or (marked_at count row marks) k false ≡ get_or marks k false
      go (yes l) = rw (lt-ltb row count l) (get_or-set_other marks row k true false (omega arith))
      go (no l) = rw (le-ltb row count (omega arith))

-- ---- layer after layer: what is marked, and what is asked for of the layers that are left

pub record Walked (t : Table) (layers time : ℕ) (before : List Bool) (left : ℕ) (marks : List Bool) : Type 0 where
  pub within : left < 2 ^ 64
  pub part : (layer : ℕ) → has left layer ≡ true → has layers layer ≡ true
  pub as_long : length marks ≡ length before
  pub at : (k : ℕ) → k < rows_in t → (get_or marks k false || timed_in t left time k) ≡ (get_or before k false || timed_in t layers time k)
  pub beyond : (k : ℕ) → rows_in t ≤ k → get_or marks k false ≡ get_or before k false

module _ (t : Table) (layers time : ℕ) (before : List Bool) where
  pub walk_start : layers < 2 ^ 64 → Walked t layers time before layers before
  walk_start h = record { within = h; part = λ layer e. e; as_long = refl; at = λ k h. refl; beyond = λ k h. refl }

  module _ (left : ℕ) (marks : List Bool) (known : Walked t layers time before left marks) where
    pub walk_end : left ≡ 0 → Stands (rows_in t) (λ k. get_or before k false || timed_in t layers time k) before marks
    walk_end e =
        record {
          as_long = known.as_long;
          at = λ k h.
              sym (or-false (get_or marks k false))
              ∙ sym (ap (λ (b : Bool). get_or marks k false || (b && eqb (decoding_of t k) time)) (ap (λ (s : ℕ). has s (layer_of t k)) e ∙ has_none (layer_of t k)))
              ∙ known.at k h;
          beyond = known.beyond;
        }

    module _ (some : left ≡ 0 → ⊥) (layer : ℕ) (is_lowest : layer ≡ lowest left) where
      pub walk_layer : layer < 64
      walk_layer = let h = lowest_small left known.within some in omega arith

      pub walk_member : has layers layer ≡ true
      walk_member = known.part layer (ap (has left) is_lowest ∙ lowest_member left known.within some)

      -- its row is marked, and the rest is left
      pub walk_next : rows_in t ≤ length before → Rising t layer → (row : ℕ) → row ≡ row_at t layer time
          → Walked t layers time before (rest left) (marked_at (rows_in t) row marks)
      walk_next fits rising row is_row =
          record {
            within = rest_within left known.within;
            part = λ l m. known.part l (rest_member left l m);
            as_long = mark_long (rows_in t) row marks ∙ known.as_long;
            at = λ k h.
                ap (λ (b : Bool). b || timed_in t (rest left) time k)
                (mark_at (rows_in t) row marks (omega (arith, known.as_long)) k h
                ∙ ap (λ (b : Bool). get_or marks k false || b) (ap (eqb k) is_row ∙ sym (sought_is t layer rising time k h)))
                ∙ regrouped (get_or marks k false) (eqb (layer_of t k) layer) (has (rest left) (layer_of t k)) (eqb (decoding_of t k) time)
                ∙ ap (λ (b : Bool). get_or marks k false || (b && eqb (decoding_of t k) time))
                (ap (λ (l : ℕ). eqb (layer_of t k) l || has (rest left) (layer_of t k)) is_lowest
                ∙ sym (has_next left known.within some (layer_of t k)))
                ∙ known.at k h;
            beyond = λ k h. mark_beyond (rows_in t) row marks k h ∙ known.beyond k h;
          }
        where
          regrouped : (marked here later timed : Bool) → ((marked || (here && timed)) || (later && timed)) ≡ (marked || ((here || later) && timed))
          regrouped true here later timed = refl
          regrouped false true later true = refl
          regrouped false true true false = refl
          regrouped false true false false = refl
          regrouped false false later timed = refl

-- ---- row after row, from marks that were cleared: those that a row before row j claims are marked

module _ (layers : Layers) (closure : ℕ) (t : Table) (before : List Bool) where
  abbrev pub claimed_below : ℕ → ℕ → Bool
  claimed_below j k = some (claimed_by layers closure t k) j

  pub claims_start : (entry : List Bool) → Stands (rows_in t) (λ _. false) entry before → Stands (rows_in t) (claimed_below 0) before before
  claims_start entry cleared = record { as_long = refl; at = cleared.at; beyond = λ k h. refl }

  pub claims_more : (j embedded : ℕ) (marks after : List Bool) → Stands (rows_in t) (claimed_below j) before marks
      → embedded ≡ named_by (has closure (layer_of t j)) (get_or layers.embedded (layer_of t j) 0) (layer_of t j)
      → Stands (rows_in t) (λ k. get_or marks k false || timed_in t embedded (match_of t j) k) marks after
      → Stands (rows_in t) (claimed_below (j + 1)) before after
  claims_more j embedded marks after known e more =
      record {
        as_long = more.as_long ∙ known.as_long;
        at = λ k h.
            more.at k h
            ∙ ap₂ (λ (a b : Bool). a || b) (known.at k h) (ap (λ (set : ℕ). timed_in t set (match_of t j) k) e)
            ∙ sym (ap (λ (n : ℕ). claimed_below n k) (add-one j));
        beyond = λ k h. more.beyond k h ∙ known.beyond k h;
      }

  pub claims_end : (entry : List Bool) → Stands (rows_in t) (λ _. false) entry before → (j : ℕ) (marks : List Bool)
      → Stands (rows_in t) (claimed_below j) before marks → j ≡ rows_in t → Stands (rows_in t) (claimed layers closure t) entry marks
  claims_end entry cleared j marks known e =
      record {
        as_long = known.as_long ∙ cleared.as_long;
        at = λ k h. known.at k h ∙ ap (λ (n : ℕ). claimed_below n k) e;
        beyond = λ k h. known.beyond k h ∙ cleared.beyond k h;
      }
