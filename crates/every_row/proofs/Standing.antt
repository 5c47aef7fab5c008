-- EACH CLOSURE ROW STANDS IN EXACTLY ONE UNIT: `in_one_unit`. By 15 and 14 it stands in one: it heads it, or is paired with the row that claims it, in
-- the unit where that row stands. By 16 it stands in no other.
-- Assumes nothing.
use Prim.Native.Nat.{ℕ, zero, suc, ◌+◌, ◌≤◌, ◌<◌}
use mathlib.Core.Logic.{◌⊎◌, inl, inr}
use mathlib.Core.Path.{◌≡◌, sym, ◌∙◌, ap, subst}
use native.Mathlib.Decide.{dec_lt}
use native.Mathlib.Omega.{arith}
use Rattle.closure.specs.declared.Layers.{Layers}
use Rattle.closure.specs.Meaning.{RestsOn, itself, by, WholeClosure}
use Rattle.closure.proofs.Reached.{rests_on_at_most}
use Rattle.rows.specs.Table.{Table, rows_in, layer_of, decoding_of, match_of}
use Rattle.spans.specs.Meaning.{ClosureRow}
use Rattle.claims.specs.Meaning.{Claimed, Head}
use Rattle.heads.specs.Meaning.{InUnitOf}
use Rattle.every_row.specs.Statements.{Judged, InOneUnit}
use Rattle.every_row.proofs.Claims.{rests_through, one_row, claimed_or_head}

-- the rows of a head's unit are closure rows
pub unit_rows : (layers : Layers) (target : ℕ) (t : Table) (head row : ℕ) → Head layers target t head → InUnitOf layers t head row
    → ClosureRow layers target t row
unit_rows layers target t head row h u =
    record {
      inside = subst (λ (r : ℕ). r < rows_in t) u.chosen (u.assembles.row u.layer u.in_closure);
      in_closure = subst (RestsOn layers target)
          (sym (u.assembles.of_layer u.layer u.in_closure) ∙ ap (layer_of t) u.chosen)
          (rests_through h.closure_row u.in_closure);
    }

module _ (layers : Layers) (target closure : ℕ) (whole : WholeClosure layers target closure) (t : Table) (judged : Judged layers target t) where
  pub record InSomeUnit (row : ℕ) : Type 0 where
    pub head : ℕ
    pub is_head : Head layers target t head
    pub in_unit : InUnitOf layers t head row

  -- a head stands in its own unit
  heads_its_own : (k : ℕ) → Head layers target t k → InSomeUnit k
  heads_its_own k h =
      let a = judged.assembled k h in
      record {
        head = k;
        is_head = h;
        in_unit = record { choice = a.0; assembles = a.1; layer = layer_of t k; in_closure = itself; chosen = a.1.of_target };
      }

  -- a claimed row stands in the unit of the row that claims it
  with_its_claimer : (k : ℕ) → ClosureRow layers target t k → (c : Claimed layers target t k) → InSomeUnit c.claimer → InSomeUnit k
  with_its_claimer k row c s =
      let u = s.in_unit in
      let upper : u.layer ≡ layer_of t c.claimer = sym (u.assembles.of_layer u.layer u.in_closure) ∙ ap (layer_of t) u.chosen in
      let claimer_layer : RestsOn layers (layer_of t s.head) (layer_of t c.claimer) = subst (RestsOn layers (layer_of t s.head)) upper u.in_closure in
      let chosen_claimer : u.choice (layer_of t c.claimer) ≡ c.claimer = ap u.choice (sym upper) ∙ u.chosen in
      let own_layer : RestsOn layers (layer_of t s.head) (layer_of t k) = by claimer_layer c.claims.embeds in
      let own : layer_of t (u.choice (layer_of t k)) ≡ layer_of t k = u.assembles.of_layer (layer_of t k) own_layer in
      let partner : ClosureRow layers target t (u.choice (layer_of t k)) =
      record { inside = u.assembles.row (layer_of t k) own_layer; in_closure = subst (RestsOn layers target) (sym own) row.in_closure } in
      let timed : decoding_of t (u.choice (layer_of t k)) ≡ decoding_of t k =
      u.assembles.paired (layer_of t c.claimer) (layer_of t k) claimer_layer c.claims.embeds
      ∙ ap (match_of t) chosen_claimer
      ∙ c.claims.match_time in
      record {
        head = s.head;
        is_head = s.is_head;
        in_unit = record {
          choice = u.choice;
          assembles = u.assembles;
          layer = layer_of t k;
          in_closure = own_layer;
          chosen = one_row layers target closure whole t judged.in_order (u.choice (layer_of t k)) k partner row own timed;
        };
      }

  -- from the top layer down
  from_the_top : (depth k : ℕ) → ClosureRow layers target t k → target ≤ layer_of t k + depth → InSomeUnit k
  from_the_top zero k row h = go (claimed_or_head layers target closure whole t k row)
    where
      go : Claimed layers target t k ⊎ Head layers target t k → InSomeUnit k
      go (inl c) =
          absurd (let low = c.claims.embeds.lower in
          let high = rests_on_at_most layers target (layer_of t c.claimer) c.claims.closure_layer in omega arith)
      go (inr head) = heads_its_own k head
  from_the_top (suc depth) k row h = go (from_the_top depth) (claimed_or_head layers target closure whole t k row)
    where
      go : ((j : ℕ) → ClosureRow layers target t j → target ≤ layer_of t j + depth → InSomeUnit j)
          → Claimed layers target t k ⊎ Head layers target t k → InSomeUnit k
      go above (inl c) =
          with_its_claimer k row c (above c.claimer (record { inside = c.claims.inside; in_closure = c.claims.closure_layer }) (let low = c.claims.embeds.lower in omega arith))
      go above (inr head) = heads_its_own k head

  pub in_some_unit : (k : ℕ) → ClosureRow layers target t k → InSomeUnit k
  in_some_unit k row = from_the_top target k row (omega arith)

  -- two heads with a row in common are one
  pub one_head : (head other row : ℕ) → Head layers target t head → Head layers target t other → InUnitOf layers t head row
      → InUnitOf layers t other row → other ≡ head
  one_head head other row h o u v = go (dec_lt head other) (dec_lt other head)
    where
      go : Dec (head < other) → Dec (other < head) → other ≡ head
      go (yes l) d =
          absurd (judged.apart other o.inside
          record { is_head = o; earlier = head; before = l; earlier_head = h; row = row; in_unit = v; in_earlier_unit = u })
      go (no n) (yes l) =
          absurd (judged.apart head h.inside
          record { is_head = h; earlier = other; before = l; earlier_head = o; row = row; in_unit = u; in_earlier_unit = v })
      go (no n) (no m) = omega arith

  -- THE LAW
  pub in_one_unit : (k : ℕ) → ClosureRow layers target t k → InOneUnit layers target t k
  in_one_unit k row =
      let s = in_some_unit k row in
      record {
        head = s.head;
        is_head = s.is_head;
        in_unit = s.in_unit;
        in_no_other = λ other o u. one_head s.head other k s.is_head o s.in_unit u;
      }
