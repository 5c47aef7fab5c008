-- Pairs that are passed over: where the pairs up to a later one are no edges, as many are gathered there as here; and the next member of a
-- set, which tells how many.
-- Assumes nothing.
use Prim.Native.Nat.{ℕ, zero, suc, ◌+◌, ◌-◌, ◌*◌, ◌/◌, ◌≤◌, ◌<◌}
use mathlib.Core.Bool.{Bool, true, false, not, ◌&&◌, true≢false}
use mathlib.Core.List.{List}
use mathlib.Core.Path.{◌≡◌, refl, sym, ◌∙◌, ap, subst}
use native.Mathlib.Omega.{arith}
use native.Mathlib.Decide.{dec_lt}
use borrow.Author.Tests.{lt-ltb, le-ltb}
use lib.Dec.{ltb}
use lib.ListN.{get_or}
use Rattle.closure.specs.declared.Layers.{Layers}
use Rattle.combinators.specs.Gathering.{Gathered, gathered_same}
use Rattle.combinators.specs.Below.{count, count_fewer}
use Rattle.combinators.proofs.Seeking.{seek_first}
use Rattle.combinators.specs.Bools.{both_left, both_right}
use Rattle.sets.specs.Sets.{has, without, below, lowest}
use Rattle.sets.proofs.Laws.{has_without, has_below, lowest_least}
use Rattle.assembling.specs.Assemblies.{upper_of, lower_of, joins, is_edge, Next, most_edges}

skip : (test : ℕ → Bool) (bound size d n count : ℕ) (array : List ℕ) → Gathered test bound size n count array → n + d ≤ bound
    → ((k : ℕ) → n ≤ k → k < n + d → test k ≡ false) → Gathered test bound size (n + d) count array
skip test bound size zero n count array known h none = subst (λ (m : ℕ). Gathered test bound size m count array) (omega arith) known
skip test bound size (suc d) n count array known h none =
    let sum : n + 1 + d ≡ n + suc d = omega arith in
    subst (λ (m : ℕ). Gathered test bound size m count array) sum
    (skip test bound size d (n + 1) count array (gathered_same test bound size n count array known (omega arith) (none n (omega arith) (omega arith))) (omega arith)
    (λ k l m. none k (omega arith) (omega arith)))

-- there are no more edges than pairs of a layer and a lower one, and these are counted
is_pair : ℕ → Bool
is_pair k = ltb (lower_of k) (upper_of k)

pairs_counted : count is_pair 4096 ≡ most_edges
unfolding is_pair
pairs_counted = refl

pub few_edges : (layers : Layers) (closure : ℕ) → count (is_edge layers closure) 4096 ≤ most_edges
unfolding is_pair
few_edges layers closure =
    subst (λ (n : ℕ). count (is_edge layers closure) 4096 ≤ n) pairs_counted
    (count_fewer (is_edge layers closure) is_pair 4096
    (λ k h e. both_left (ltb (lower_of k) (upper_of k)) (has (get_or layers.embedded (upper_of k) 0) (lower_of k)) (both_right (has closure (upper_of k)) _ e)))

-- from one pair past the pair at hand to the next that is looked at
pub gathered_next : (layers : Layers) (closure edge upper next count : ℕ) (array : List ℕ) → Gathered (is_edge layers closure) 4096 most_edges (edge + 1) count array
    → upper ≡ upper_of edge → Next closure (get_or layers.embedded upper 0) edge next → Gathered (is_edge layers closure) 4096 most_edges next count array
gathered_next layers closure edge upper next count array known is-upper given =
    let n = subst (λ (u : ℕ). Next closure (get_or layers.embedded u 0) edge next) is-upper given in
    let after = n.after in
    let within = n.within in
    let sum : edge + 1 + (next - (edge + 1)) ≡ next = omega arith in
    subst (λ (m : ℕ). Gathered (is_edge layers closure) 4096 most_edges m count array) sum
    (skip (is_edge layers closure) 4096 most_edges (next - (edge + 1)) (edge + 1) count array known (omega arith)
    (λ k l m. ap (λ (u : ℕ). joins closure (get_or layers.embedded u 0) u (lower_of k)) (n.same_upper k (omega arith) (omega arith))
    ∙ n.no_edge k (omega arith) (omega arith)))

-- ---- the members of a set after a number, and the lowest of them

module _ (set number : ℕ) where
  abbrev pub later : ℕ
  later = without set (below set (number + 1))

  pub has_later : (i : ℕ) → has later i ≡ has set i && not (ltb i (number + 1) && has set i)
  has_later i = has_without set (below set (number + 1)) i ∙ ap (λ (b : Bool). has set i && not b) (has_below set (number + 1) i)

  -- what it passes over is no member
  pub passed : (i : ℕ) → number < i → i < lowest later → has set i ≡ false
  passed i h l = go (has set i) refl
    where
      go : (b : Bool) → has set i ≡ b → has set i ≡ false
      go true e =
          let inside : has later i ≡ true = has_later i ∙ rw (le-ltb i (number + 1) (omega arith), e) in
          absurd (omega (arith, lowest_least later i inside))
      go false e = e

  -- it lies after the number
  pub beyond : lowest later < 64 → number < lowest later
  unfolding lowest
  beyond h = go (dec_lt number (lowest later))
    where
      neither : (b : Bool) → b && not b ≡ false
      neither true = refl
      neither false = refl

      go : Dec (number < lowest later) → number < lowest later
      go (yes l) = l
      go (no n) =
          let outside : has later (lowest later) ≡ false =
          has_later (lowest later)
          ∙ ap (λ (b : Bool). has set (lowest later) && not (b && has set (lowest later))) (lt-ltb (lowest later) (number + 1) (omega arith))
          ∙ neither (has set (lowest later)) in
          absurd (true≢false (sym ((seek_first (has later) 64).found h) ∙ outside))

-- ---- the pair to be looked at after one: past the upper layer's pairs where it is outside the closure or embeds nothing more below it, or
-- the pair with the next layer that it embeds

no_member : (a b c : Bool) → c ≡ false → a && (b && c) ≡ false
no_member true true c e = e
no_member true false c e = refl
no_member false b c e = refl

not_lower : (a b c : Bool) → b ≡ false → a && (b && c) ≡ false
not_lower true b c e = ap (λ (x : Bool). x && c) e
not_lower false b c e = refl

module _ (closure embedded edge upper : ℕ) (small : edge < 4096) (is-upper : upper ≡ upper_of edge) where
  pub next_outside : has closure upper ≡ false → Next closure embedded edge (edge / 64 * 64 + 64)
  next_outside e =
      record {
        after = omega arith;
        within = omega arith;
        same_upper = λ k h l. omega arith;
        no_edge = λ k h l. ap (λ (b : Bool). b && (ltb (lower_of k) (upper_of edge) && has embedded (lower_of k))) (ap (has closure) (sym is-upper) ∙ e);
      }

  module _ (next : ℕ) (is-next : next ≡ lowest (later embedded (lower_of edge))) where
    unnamed : (k : ℕ) → lower_of edge < lower_of k → lower_of k < next → joins closure embedded (upper_of edge) (lower_of k) ≡ false
    unnamed k h l =
        no_member (has closure (upper_of edge)) (ltb (lower_of k) (upper_of edge)) (has embedded (lower_of k)) (passed embedded (lower_of edge) (lower_of k) h (omega arith))

    pub next_upper : upper ≤ next → Next closure embedded edge (edge / 64 * 64 + 64)
    next_upper far =
        record {
          after = omega arith;
          within = omega arith;
          same_upper = λ k h l. omega arith;
          no_edge = λ k h l. go k h l (dec_lt (lower_of k) upper);
        }
      where
        go : (k : ℕ) → edge < k → k < edge / 64 * 64 + 64 → Dec (lower_of k < upper) → joins closure embedded (upper_of edge) (lower_of k) ≡ false
        go k h l (yes d) = unnamed k (omega arith) (omega arith)
        go k h l (no d) =
            not_lower (has closure (upper_of edge)) (ltb (lower_of k) (upper_of edge)) (has embedded (lower_of k)) (le-ltb (lower_of k) (upper_of edge) (omega arith))

    pub next_lower : next < upper → Next closure embedded edge (edge / 64 * 64 + next)
    next_lower near =
        let past : lower_of edge < next = (let b = beyond embedded (lower_of edge) (omega arith) in omega arith) in
        record {
          after = omega arith;
          within = omega arith;
          same_upper = λ k h l. omega arith;
          no_edge = λ k h l. unnamed k (omega arith) (omega arith);
        }
