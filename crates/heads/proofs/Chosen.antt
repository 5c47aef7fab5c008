-- The assembly that is found is one, and there is no other: `found` and `only`.
-- Assumes nothing.
use Prim.Native.Nat.{ℕ, zero, suc, ◌<◌}
use mathlib.Core.Path.{◌≡◌, refl, sym, ◌∙◌, ap, subst}
use mathlib.Core.Bool.{Bool, true, false, cond}
use mathlib.Core.List.{List, [], ◌∷◌}
use mathlib.Core.Logic.{◌⊎◌, inl, inr}
use native.Mathlib.Omega.{arith}
use native.Mathlib.Decide.{dec_lt, ℕ_discrete}
use borrow.Author.Tests.{lt-ltb, le-ltb, eq-eqb}
use lib.Dec.{eqb, ltb}
use lib.ListN.{length, get_or, set, replicate, length-set}
use lib.Seq.{get_or-set_same, get_or-set_other}
use Rattle.closure.specs.declared.Layers.{Layers}
use Rattle.closure.specs.Meaning.{RestsOn, by}
use Rattle.row_index.specs.Index.{row_at}
use Rattle.assembling.specs.Assemblies.{Assembly, upper_of, lower_of, paired_row, partner, edges_of, assembled_from, assembled}
use Rattle.rows.specs.Table.{Table, rows_in, layer_of, decoding_of, match_of}
use Rattle.row_index.specs.Index.{Rising}
use Rattle.assembling.proofs.Assembled.{row_only, Led, all_met, all_own, heads, begin_long, begin_target, begin_other, begin_own, lower_below}
use Rattle.heads.proofs.Frames.{edge_names, edge_listed, led_edges, row_for_each, rests_below, target_below}
use Rattle.heads.specs.Orderly.{Orderly}
use Rattle.heads.proofs.Orderly.{rises}
use Rattle.heads.specs.Meaning.{Assembles}

-- ---- along the edges, given a choice that meets them

module _ (t : Table) (choice : ℕ → ℕ) where
  -- what a choice has at an edge
  pub record Fits (edge : ℕ) : Type 0 where
    pub rising : Rising t (lower_of edge)
    pub row : choice (lower_of edge) < rows_in t
    pub own : layer_of t (choice (lower_of edge)) ≡ lower_of edge
    pub timed : decoding_of t (choice (lower_of edge)) ≡ match_of t (choice (upper_of edge))

  -- rows so far that are the choice's
  pub record Agrees (rows : List ℕ) : Type 0 where
    pub long : length rows ≡ 64
    pub same : (layer : ℕ) → layer < 64 → get_or rows layer 0 < rows_in t → get_or rows layer 0 ≡ choice layer

  partner_chosen : (rows : List ℕ) (edge : ℕ) → Agrees rows → Fits edge → upper_of edge < 64 → get_or rows (upper_of edge) 0 < rows_in t
      → partner t rows edge ≡ choice (lower_of edge)
  partner_chosen rows edge agrees fits small above = go (dec_lt (get_or rows (lower_of edge) 0) (rows_in t))
    where
      time_is : match_of t (get_or rows (upper_of edge) 0) ≡ match_of t (choice (upper_of edge))
      time_is = ap (match_of t) (agrees.same (upper_of edge) small above)

      go : Dec (get_or rows (lower_of edge) 0 < rows_in t)
          → paired_row t (get_or rows (lower_of edge) 0) (lower_of edge) (match_of t (get_or rows (upper_of edge) 0)) ≡ choice (lower_of edge)
      go (yes l) =
          let same = agrees.same (lower_of edge) (lower_below edge) l in
          ap (λ (b : Bool). cond b (cond (eqb (decoding_of t (get_or rows (lower_of edge) 0)) (match_of t (get_or rows (upper_of edge) 0))) (get_or rows (lower_of edge) 0) (rows_in t))
          (row_at t (lower_of edge) (match_of t (get_or rows (upper_of edge) 0)))) (lt-ltb (get_or rows (lower_of edge) 0) (rows_in t) l)
          ∙ ap (λ (b : Bool). cond b (get_or rows (lower_of edge) 0) (rows_in t))
          (eq-eqb (decoding_of t (get_or rows (lower_of edge) 0)) (match_of t (get_or rows (upper_of edge) 0)) (ap (decoding_of t) same ∙ fits.timed ∙ sym time_is))
          ∙ same
      go (no l) =
          ap (λ (b : Bool). cond b (cond (eqb (decoding_of t (get_or rows (lower_of edge) 0)) (match_of t (get_or rows (upper_of edge) 0))) (get_or rows (lower_of edge) 0) (rows_in t))
          (row_at t (lower_of edge) (match_of t (get_or rows (upper_of edge) 0)))) (le-ltb (get_or rows (lower_of edge) 0) (rows_in t) (omega arith))
          ∙ row_only t (lower_of edge) (match_of t (get_or rows (upper_of edge) 0)) (choice (lower_of edge)) fits.rising fits.row fits.own (fits.timed ∙ sym time_is)

  upper_below : (edge : ℕ) → upper_of edge < 64
  upper_below edge = omega arith

  -- the rows after an edge
  agrees_more : (rows : List ℕ) (edge : ℕ) → Agrees rows → Agrees (set rows (lower_of edge) (choice (lower_of edge)))
  agrees_more rows edge known =
      record {
        long = length-set rows (lower_of edge) (choice (lower_of edge)) ∙ known.long;
        same = λ layer h l. go layer h l (ℕ_discrete layer (lower_of edge));
      }
    where
      go : (layer : ℕ) → layer < 64 → get_or (set rows (lower_of edge) (choice (lower_of edge))) layer 0 < rows_in t → Dec (layer ≡ lower_of edge)
          → get_or (set rows (lower_of edge) (choice (lower_of edge))) layer 0 ≡ choice layer
      go layer h l (yes e) =
          get_d_set_at e
        where
          get_d_set_at : layer ≡ lower_of edge → get_or (set rows (lower_of edge) (choice (lower_of edge))) layer 0 ≡ choice layer
          get_d_set_at e = rw e (get_or-set_same rows (lower_of edge) (choice (lower_of edge)) 0 (omega (arith, known.long, lower_below edge)))
      go layer h l (no e) =
          let other = get_or-set_other rows (lower_of edge) layer (choice (lower_of edge)) 0 e in
          other ∙ known.same layer h (subst (λ (x : ℕ). x < rows_in t) other l)

  pub followed : (edges rows : List ℕ) → Agrees rows → ((i : ℕ) → i < length edges → Fits (get_or edges i 0)) → Led t edges rows
      → ((assembled_from t edges rows).complete ≡ true) × Agrees (assembled_from t edges rows).rows
  followed [] rows agrees fits led = (refl, agrees)
  followed (edge ∷ edges) rows agrees fits led =
      go (led 0 (omega arith))
      (followed edges (set rows (lower_of edge) (choice (lower_of edge))) (agrees_more rows edge agrees) (λ i h. fits (suc i) (omega arith)) led_next)
    where
      set_here : get_or (set rows (lower_of edge) (choice (lower_of edge))) (lower_of edge) 0 ≡ choice (lower_of edge)
      set_here = get_or-set_same rows (lower_of edge) (choice (lower_of edge)) 0 (omega (arith, agrees.long, lower_below edge))

      still : (layer : ℕ) → get_or rows layer 0 < rows_in t → get_or (set rows (lower_of edge) (choice (lower_of edge))) layer 0 < rows_in t
      still layer h = at (ℕ_discrete layer (lower_of edge))
        where
          at : Dec (layer ≡ lower_of edge) → get_or (set rows (lower_of edge) (choice (lower_of edge))) layer 0 < rows_in t
          at (yes e) =
              subst (λ (l : ℕ). get_or (set rows (lower_of edge) (choice (lower_of edge))) l 0 < rows_in t) (sym e)
              (subst (λ (x : ℕ). x < rows_in t) (sym set_here) (fits 0 (omega arith)).row)
          at (no e) = subst (λ (x : ℕ). x < rows_in t) (sym (get_or-set_other rows (lower_of edge) layer (choice (lower_of edge)) 0 e)) h

      led_next : Led t edges (set rows (lower_of edge) (choice (lower_of edge)))
      led_next i h = from (led (suc i) (omega arith))
        where
          from : (get_or rows (upper_of (get_or edges i 0)) 0 < rows_in t) ⊎ ((j : ℕ) × (j < suc i) × (lower_of (get_or (edge ∷ edges) j 0) ≡ upper_of (get_or edges i 0)))
              → (get_or (set rows (lower_of edge) (choice (lower_of edge))) (upper_of (get_or edges i 0)) 0 < rows_in t)
              ⊎ ((j : ℕ) × (j < i) × (lower_of (get_or edges j 0) ≡ upper_of (get_or edges i 0)))
          from (inl l) = inl (still (upper_of (get_or edges i 0)) l)
          from (inr (zero, l, e)) =
              inl (subst (λ (u : ℕ). get_or (set rows (lower_of edge) (choice (lower_of edge))) u 0 < rows_in t) e
              (subst (λ (x : ℕ). x < rows_in t) (sym set_here) (fits 0 (omega arith)).row))
          from (inr (suc j, l, e)) = inr (j, omega arith, e)

      go : (get_or rows (upper_of edge) 0 < rows_in t) ⊎ ((j : ℕ) × (j < 0) × (lower_of (get_or (edge ∷ edges) j 0) ≡ upper_of edge))
          → ((assembled_from t edges (set rows (lower_of edge) (choice (lower_of edge)))).complete ≡ true)
          × Agrees (assembled_from t edges (set rows (lower_of edge) (choice (lower_of edge)))).rows
          → ((assembled_from t (edge ∷ edges) rows).complete ≡ true) × Agrees (assembled_from t (edge ∷ edges) rows).rows
      go (inr w) later = absurd (omega (arith, w.1))
      go (inl above) later =
          let is = partner_chosen rows edge agrees (fits 0 (omega arith)) (upper_below edge) above in
          let inside : partner t rows edge < rows_in t = subst (λ (x : ℕ). x < rows_in t) (sym is) (fits 0 (omega arith)).row in
          let step : assembled_from t (edge ∷ edges) rows ≡ assembled_from t edges (set rows (lower_of edge) (choice (lower_of edge))) =
          ap (λ (b : Bool). cond b
          (cond (ltb (partner t rows edge) (rows_in t)) (assembled_from t edges (set rows (lower_of edge) (partner t rows edge))) (record { complete = false; rows = rows }))
          (assembled_from t edges rows)) (lt-ltb (get_or rows (upper_of edge) 0) (rows_in t) above)
          ∙ ap (λ (b : Bool). cond b (assembled_from t edges (set rows (lower_of edge) (partner t rows edge))) (record { complete = false; rows = rows }))
          (lt-ltb (partner t rows edge) (rows_in t) inside)
          ∙ ap (λ (p : ℕ). assembled_from t edges (set rows (lower_of edge) p)) is in
          (ap (λ (a : Assembly). a.complete) step ∙ later.0, subst (λ (a : Assembly). Agrees a.rows) (sym step) later.1)

-- ---- THE ASSEMBLY of a row of the target

module _ (layers : Layers) (target closure : ℕ) (t : Table) (orderly : Orderly layers target closure t) (head : ℕ) (inside : head < rows_in t)
    (own : layer_of t head ≡ target) where
  abbrev es : List ℕ
  es = edges_of layers closure

  -- what is found is an assembly,
  pub found : (assembled t es target head).complete ≡ true → Assembles layers target t head (λ layer. get_or (assembled t es target head).rows layer 0)
  found e =
      let here = orderly.closed_over.here in
      let whole = orderly.closed_over.whole in
      let small = target_below layers target closure here whole in
      record {
        of_target = heads t target head small es inside e;
        row = row_for_each layers target closure here whole t head inside e;
        of_layer = λ layer r.
            (all_own t es _ (begin_own t target head small own) e).own layer (rests_below layers target closure here whole layer r)
            (row_for_each layers target closure here whole t head inside e layer r);
        paired = λ upper lower r n.
            (let w = edge_listed layers target closure here whole upper lower r n in
            let m = all_met t es _ (begin_long t target head small) e (led_edges layers target closure here whole t head inside) w.0 w.1.inside in
            ap (λ (l : ℕ). decoding_of t (get_or (assembled t es target head).rows l 0)) (sym w.1.lower_is)
            ∙ m.paired
            ∙ ap (λ (u : ℕ). match_of t (get_or (assembled t es target head).rows u 0)) w.1.upper_is);
      }

  -- and where there is an assembly, it is found, and there is no other.
  pub only : (choice : ℕ → ℕ) → Assembles layers target t head choice
      → ((assembled t es target head).complete ≡ true)
      × ((layer : ℕ) → RestsOn layers target layer → get_or (assembled t es target head).rows layer 0 ≡ choice layer)
  only choice a =
      let here = orderly.closed_over.here in
      let whole = orderly.closed_over.whole in
      let small = target_below layers target closure here whole in
      let w = followed t choice es _ agrees fits (led_edges layers target closure here whole t head inside) in (
        w.0,
        λ layer r. w.1.same layer (rests_below layers target closure here whole layer r)
            (row_for_each layers target closure here whole t head inside w.0 layer r),
      )
    where
      small : target < 64
      small = target_below layers target closure orderly.closed_over.here orderly.closed_over.whole

      agrees : Agrees t choice (set (replicate 64 (rows_in t)) target head)
      agrees = record { long = begin_long t target head small; same = λ layer h l. at layer h l (ℕ_discrete layer target) }
        where
          at : (layer : ℕ) → layer < 64 → get_or (set (replicate 64 (rows_in t)) target head) layer 0 < rows_in t → Dec (layer ≡ target)
              → get_or (set (replicate 64 (rows_in t)) target head) layer 0 ≡ choice layer
          at layer h l (yes e) = rw e (begin_target t target head small ∙ sym a.of_target)
          at layer h l (no e) = absurd (let other = begin_other t target head small layer h e in omega arith)

      fits : (i : ℕ) → i < length es → Fits t choice (get_or es i 0)
      fits i h =
          let w = edge_names layers target closure orderly.closed_over.here orderly.closed_over.whole i h in
          let lower = by w.0 w.1 in
          record {
            rising = rises layers target closure t orderly (lower_of (get_or es i 0))
                ((orderly.closed_over.whole.members (lower_of (get_or es i 0))).1 lower);
            row = a.row (lower_of (get_or es i 0)) lower;
            own = a.of_layer (lower_of (get_or es i 0)) lower;
            timed = a.paired (upper_of (get_or es i 0)) (lower_of (get_or es i 0)) w.0 w.1;
          }
