-- What is said of a row of a closure layer in one table holds of it in the other: the order of its layer (14), claims and heads, its distance from the first (18).
-- Assumes nothing.
use Prim.Native.Nat.{ℕ, ◌<◌}
use mathlib.Core.Bool.{Bool, true, false, true≢false}
use mathlib.Core.Path.{◌≡◌, refl, sym, ◌∙◌, subst, subst₂}
use native.Mathlib.Omega.{arith}
use lib.IntN.{ℤ}
use Rattle.clock.specs.Clock.{ForwardDistance, Lag}
use Rattle.closure.specs.declared.Layers.{Layers}
use Rattle.closure.specs.Closures.{rested_on}
use Rattle.closure.specs.Meaning.{Names, RestsOn}
use Rattle.closure.proofs.Reached.{member_rests_on, rests_on_member}
use Rattle.sets.specs.Sets.{has}
use Rattle.rows.specs.Table.{Table, rows_in, layer_of}
use Rattle.rows.specs.Meaning.{FirstRow, NoRow, WrongShape, unequal_decodings, unequal_matches, too_many_rows, Ahead, FromRowToRow, BreaksOrder, not_below, not_rising}
use Rattle.claims.specs.Meaning.{Claims, Claimed, Head}
use Rattle.spans.specs.Meaning.{ClosureRow, FirstClosureRow, Distance, SpansTooFar}
use Rattle.other_layers.specs.Meaning.{SameNumber, SameRow, DifferOutside}

-- Closure rows of either are closure rows of the other, and the same rows: what the two tables share, the same both ways round.
pub record Same (layers : Layers) (target : ℕ) (t u : Table) : Type 0 where
  pub as_many : SameNumber t u
  pub there : (k : ℕ) → ClosureRow layers target t k → ClosureRow layers target u k
  pub back : (k : ℕ) → ClosureRow layers target u k → ClosureRow layers target t k
  pub row : (k : ℕ) → ClosureRow layers target t k → SameRow t u k

same_back : {t u : Table} {k : ℕ} → SameRow t u k → SameRow u t k
same_back r = record { layer = sym r.layer; decoding = sym r.decoding; matching = sym r.matching }

pub number_back : {t u : Table} → SameNumber t u → SameNumber u t
number_back n = record { rows = sym n.rows; decodings = sym n.decodings; matches = sym n.matches }

pub flip : {layers : Layers} {target : ℕ} {t u : Table} → Same layers target t u → Same layers target u t
flip s =
    record {
      as_many = number_back s.as_many;
      there = s.back;
      back = s.there;
      row = λ k c. same_back (s.row k (s.back k c));
    }

-- whether a layer is of the closure is decided by a set, so that a row which is not outside is inside
pub same : (layers : Layers) (target : ℕ) (t u : Table) → DifferOutside layers target t u → Same layers target t u
same layers target t u d =
    record {
      as_many = d.as_many;
      there = λ k c. there_by k c;
      back = λ k c. go k c (has (rested_on layers target) (layer_of t k)) refl;
      row = d.agree;
    }
  where
    there_by : (k : ℕ) → ClosureRow layers target t k → ClosureRow layers target u k
    there_by k c =
        record {
          inside = subst (λ (n : ℕ). k < n) d.as_many.rows c.inside;
          in_closure = subst (RestsOn layers target) (d.agree k c).layer c.in_closure;
        }

    go : (k : ℕ) → ClosureRow layers target u k → (b : Bool) → has (rested_on layers target) (layer_of t k) ≡ b → ClosureRow layers target t k
    go k c true e =
        record {
          inside = subst (λ (n : ℕ). k < n) (sym d.as_many.rows) c.inside;
          in_closure = member_rests_on layers target (layer_of t k) e;
        }
    go k c false e =
        absurd (d.stays_outside k (subst (λ (n : ℕ). k < n) (sym d.as_many.rows) c.inside)
        (λ in-t. true≢false (sym (rests_on_member layers target (layer_of t k) in-t.in_closure) ∙ e)) c)

module _ {layers : Layers} {target : ℕ} {t u : Table} (s : Same layers target t u) where
  pub inside : {k : ℕ} → k < rows_in t → k < rows_in u
  inside {k} h = subst (λ (n : ℕ). k < n) s.as_many.rows h

  -- ---- 13 and 14

  pub shape : {most : ℕ} → WrongShape most t → WrongShape most u
  shape (unequal_decodings h) = unequal_decodings (λ e. h (s.as_many.decodings ∙ e ∙ sym s.as_many.rows))
  shape (unequal_matches h) = unequal_matches (λ e. h (s.as_many.matches ∙ e ∙ sym s.as_many.rows))
  shape {most} (too_many_rows h) = too_many_rows (subst (λ (n : ℕ). most < n) s.as_many.rows h)

  -- a row of the layer of a closure row is a closure row
  of_layer_lem : {j k : ℕ} → ClosureRow layers target t k → j < rows_in t → layer_of t j ≡ layer_of t k → ClosureRow layers target t j
  of_layer_lem c h e = record { inside = h; in_closure = subst (RestsOn layers target) (sym e) c.in_closure }

  same_layer : {j k : ℕ} → ClosureRow layers target t k → j < rows_in t → layer_of t j ≡ layer_of t k → layer_of u j ≡ layer_of u k
  same_layer {j} {k} c h e = sym (s.row j (of_layer_lem c h e)).layer ∙ e ∙ (s.row k c).layer

module _ {layers : Layers} {target : ℕ} {t u : Table} (s : Same layers target t u) where
  -- from the other table back
  layer_back : {j k : ℕ} → ClosureRow layers target t k → j < rows_in t → layer_of u j ≡ layer_of u k → layer_of t j ≡ layer_of t k
  layer_back {j} {k} c h e = same_layer (flip s) (s.there k c) (inside s h) e

  ahead : {k distance : ℕ} → ClosureRow layers target t k → Ahead t k distance → Ahead u k distance
  ahead {k} {distance} c a =
      let f = a.first_of_layer in
      record {
        first = a.first;
        first_of_layer = record {
          inside = inside s f.inside;
          holds = same_layer s c f.inside f.holds;
          earliest = λ j h e. f.earliest j h (layer_back c (omega (arith, f.inside)) e);
        };
        forward = subst₂ (λ (a b : ℕ). ForwardDistance a b distance) (s.row a.first (of_layer_lem s c f.inside f.holds)).decoding (s.row k c).decoding
            a.forward;
      }

  from_row_to_row : {j k : ℕ} → ClosureRow layers target t k → FromRowToRow t j k → FromRowToRow u j k
  from_row_to_row {j} {k} c r =
      record {
        before = r.before;
        same_layer = same_layer s c (omega (arith, r.before, c.inside)) r.same_layer;
        none_between = λ i h l e. r.none_between i h l (layer_back c (omega (arith, l, c.inside)) e);
      }

  breaks : {k : ℕ} → k < rows_in t → BreaksOrder layers target t k → BreaksOrder layers target u k
  breaks {k} h (not_below r a far) =
      let c : ClosureRow layers target t k = record { inside = h; in_closure = r } in not_below (s.there k c).in_closure (ahead c a) far
  breaks {k} h (not_rising r from earlier later far) =
      let c : ClosureRow layers target t k = record { inside = h; in_closure = r } in
      let d = of_layer_lem s c (omega (arith, from.before, h)) from.same_layer in
      not_rising (s.there k c).in_closure (from_row_to_row c from) (ahead d earlier) (ahead c later) far

  -- ---- heads

  claims : {j k : ℕ} → ClosureRow layers target t k → Claims layers target t j k → Claims layers target u j k
  claims {j} {k} c w =
      let d : ClosureRow layers target t j = record { inside = w.inside; in_closure = w.closure_layer } in
      record {
        inside = inside s w.inside;
        closure_layer = (s.there j d).in_closure;
        embeds = subst₂ (Names layers) (s.row j d).layer (s.row k c).layer w.embeds;
        match_time = sym (s.row j d).matching ∙ w.match_time ∙ (s.row k c).decoding;
      }

  claimed : {k : ℕ} → ClosureRow layers target t k → Claimed layers target t k → Claimed layers target u k
  claimed c w = record { claimer = w.claimer; claims = claims c w.claims }

  -- ---- distances

  first_closure_row_lem : {k : ℕ} → FirstClosureRow layers target t k → FirstClosureRow layers target u k
  first_closure_row_lem {k} f =
      record { closure_row = s.there k f.closure_row; earliest = λ j h c. f.earliest j h (s.back j c) }

  pub distance : {k : ℕ} {x : ℤ} → ClosureRow layers target t k → Distance layers target t k x → Distance layers target u k x
  distance {k} {x} c d =
      record {
        first = d.first;
        first_closure_row = first_closure_row_lem d.first_closure_row;
        signed = subst₂ (λ (a b : ℕ). Lag a b x) (s.row k c).decoding (s.row d.first d.first_closure_row.closure_row).decoding d.signed;
      }

  pub spans : SpansTooFar layers target t → SpansTooFar layers target u
  spans w =
      record {
        later = w.later;
        later_row = s.there w.later w.later_row;
        greatest = w.greatest;
        later_distance = distance w.later_row w.later_distance;
        earlier = w.earlier;
        earlier_row = s.there w.earlier w.earlier_row;
        least = w.least;
        earlier_distance = distance w.earlier_row w.earlier_distance;
        span = w.span;
      }

module _ {layers : Layers} {target : ℕ} {t u : Table} (s : Same layers target t u) where
  pub head_row : {k : ℕ} → Head layers target t k → ClosureRow layers target t k
  head_row h = record { inside = h.inside; in_closure = h.closure_row }

  pub head : {k : ℕ} → Head layers target t k → Head layers target u k
  head {k} h =
      let c = head_row h in
      let d = s.there k c in
      record { inside = d.inside; closure_row = d.in_closure; unclaimed = λ w. h.unclaimed (claimed (flip s) d w) }

  pub first_row_lem : {P Q : ℕ → Type 0} {k : ℕ} → ((j : ℕ) → j < rows_in t → P j → Q j) → ((j : ℕ) → j < rows_in u → Q j → P j) → FirstRow t P k → FirstRow u Q k
  first_row_lem there back f =
      record {
        inside = inside s f.inside;
        holds = there _ f.inside f.holds;
        earliest = λ j h q. f.earliest j h (back j (inside s (omega (arith, h, f.inside))) q);
      }

  pub no_row : {P Q : ℕ → Type 0} → ((j : ℕ) → j < rows_in u → Q j → P j) → NoRow t P → NoRow u Q
  no_row back none k h q = none k (inside (flip s) h) (back k h q)

  pub breaks_first : {k : ℕ} → FirstRow t (BreaksOrder layers target t) k → FirstRow u (BreaksOrder layers target u) k
  breaks_first f = first_row_lem (λ j h b. breaks s h b) (λ j h b. breaks (flip s) h b) f

  pub none_breaks : NoRow t (BreaksOrder layers target t) → NoRow u (BreaksOrder layers target u)
  none_breaks none = no_row (λ j h b. breaks (flip s) h b) none
