-- What an assembly that was found is: rows once chosen stay, each is a row of its own layer, and every edge is met that starts from a layer with a row.
-- Assumes nothing.
use Prim.Native.Nat.{ℕ, zero, suc, ◌≤◌, ◌<◌}
use mathlib.Core.Path.{◌≡◌, refl, sym, ◌∙◌, ap, ap₂, subst}
use mathlib.Core.Bool.{Bool, true, false, cond, ◌&&◌, true≢false}
use mathlib.Core.List.{List, [], ◌∷◌}
use mathlib.Core.Logic.{◌⊎◌, inl, inr}
use native.Mathlib.Omega.{arith}
use native.Mathlib.Decide.{dec_lt, ℕ_discrete}
use native.Mathlib.Nat.{mod-lt}
use borrow.Author.Tests.{lt-ltb, le-ltb, eq-eqb, eqb-true}
use lib.Dec.{eqb, ltb}
use lib.ListN.{length, get_or, set, replicate, length-set, length-replicate, get_or-replicate}
use lib.Seq.{get_or-set_same, get_or-set_other}
use Rattle.clock.specs.Clock.{distance_of}
use Rattle.combinators.proofs.Seeking.{seek_first, seek_here}
use Rattle.combinators.specs.Bools.{both_left, both_right}
use Rattle.rows.specs.Table.{Table, rows_in, layer_of, decoding_of, match_of, first_row, ahead}
use Rattle.row_index.specs.Index.{Rising}
use Rattle.row_index.specs.Index.{row_at}
use Rattle.assembling.specs.Assemblies.{Assembly, upper_of, lower_of, partner, assembled_from, assembled}

-- an edge is met: both its layers have a row, and 'the decoding time of the lower row equals the match time of the upper row'
pub record Met (t : Table) (rows : List ℕ) (edge : ℕ) : Type 0 where
  pub upper_row : get_or rows (upper_of edge) 0 < rows_in t
  pub lower_row : get_or rows (lower_of edge) 0 < rows_in t
  pub paired : decoding_of t (get_or rows (lower_of edge) 0) ≡ match_of t (get_or rows (upper_of edge) 0)

-- each row chosen is one of its layer's
pub record OfLayers (t : Table) (rows : List ℕ) : Type 0 where
  pub long : length rows ≡ 64
  pub own : (layer : ℕ) → layer < 64 → get_or rows layer 0 < rows_in t → layer_of t (get_or rows layer 0) ≡ layer

pub lower_below : (edge : ℕ) → lower_of edge < 64
lower_below edge = mod-lt edge (omega arith)

module _ (t : Table) where
  -- ---- the row found by its time has that time, and is one of the layer's

  pub row_found : (layer time : ℕ) → row_at t layer time < rows_in t → (layer_of t (row_at t layer time) ≡ layer) × (decoding_of t (row_at t layer time) ≡ time)
  row_found layer time h =
      let both = (seek_first (λ k. eqb (layer_of t k) layer && eqb (decoding_of t k) time) (rows_in t)).found h in
      let k : ℕ = row_at t layer time in (
        eqb-true (layer_of t k) layer (both_left (eqb (layer_of t k) layer) (eqb (decoding_of t k) time) both),
        eqb-true (decoding_of t k) time (both_right (eqb (layer_of t k) layer) (eqb (decoding_of t k) time) both),
      )

  -- and in a layer whose times rise no other row has it
  pub row_only : (layer time k : ℕ) → Rising t layer → k < rows_in t → layer_of t k ≡ layer → decoding_of t k ≡ time → row_at t layer time ≡ k
  row_only layer time k rising h own timed =
      sym (seek_here (λ j. eqb (layer_of t j) layer && eqb (decoding_of t j) time) (rows_in t) k h
      (λ j l. none j l (eqb (layer_of t j) layer && eqb (decoding_of t j) time) refl)
      (ap₂ (λ (a b : Bool). a && b) (eq-eqb (layer_of t k) layer own) (eq-eqb (decoding_of t k) time timed)))
    where
      none : (j : ℕ) → j < k → (b : Bool) → (eqb (layer_of t j) layer && eqb (decoding_of t j) time) ≡ b
          → (eqb (layer_of t j) layer && eqb (decoding_of t j) time) ≡ false
      none j l true e =
          let own-j = eqb-true (layer_of t j) layer (both_left (eqb (layer_of t j) layer) (eqb (decoding_of t j) time) e) in
          let timed-j = eqb-true (decoding_of t j) time (both_right (eqb (layer_of t j) layer) (eqb (decoding_of t j) time) e) in
          let same : ahead t j ≡ ahead t k =
          ap₂ (λ (own time : ℕ). distance_of (decoding_of t (first_row t own)) time) (own-j ∙ sym own) (timed-j ∙ sym timed) in
          absurd (let rise = rising j k l h own-j own in omega arith)
      none j l false e = e

  -- ---- one edge

  -- how a lower layer came to its row: it had it before, and it has the time asked for; or it was found by that time
  pub record Partner (rows : List ℕ) (edge row : ℕ) : Type 0 where
    pub above : get_or rows (upper_of edge) 0 < rows_in t
    pub timed : decoding_of t row ≡ match_of t (get_or rows (upper_of edge) 0)
    pub origin : ((get_or rows (lower_of edge) 0 < rows_in t) × (row ≡ get_or rows (lower_of edge) 0))
        ⊎ ((rows_in t ≤ get_or rows (lower_of edge) 0) × (layer_of t row ≡ lower_of edge))

  pub partner_is : (rows : List ℕ) (edge : ℕ) → get_or rows (upper_of edge) 0 < rows_in t → partner t rows edge < rows_in t
      → Partner rows edge (partner t rows edge)
  partner_is rows edge above h = go (dec_lt (get_or rows (lower_of edge) 0) (rows_in t)) h
    where
      old : (b : Bool) → eqb (decoding_of t (get_or rows (lower_of edge) 0)) (match_of t (get_or rows (upper_of edge) 0)) ≡ b → get_or rows (lower_of edge) 0 < rows_in t
          → cond b (get_or rows (lower_of edge) 0) (rows_in t) < rows_in t → Partner rows edge (cond b (get_or rows (lower_of edge) 0) (rows_in t))
      old true e l x =
          record {
            above = above;
            timed = eqb-true (decoding_of t (get_or rows (lower_of edge) 0)) (match_of t (get_or rows (upper_of edge) 0)) e;
            origin = inl (l, refl);
          }
      old false e l x = absurd (omega arith)

      go : Dec (get_or rows (lower_of edge) 0 < rows_in t) → partner t rows edge < rows_in t → Partner rows edge (partner t rows edge)
      go (yes l) =
          rw (lt-ltb (get_or rows (lower_of edge) 0) (rows_in t) l)
          (λ x. old (eqb (decoding_of t (get_or rows (lower_of edge) 0)) (match_of t (get_or rows (upper_of edge) 0))) refl l x)
      go (no l) =
          rw (le-ltb (get_or rows (lower_of edge) 0) (rows_in t) (omega arith))
          (λ x. (let w = row_found (lower_of edge) (match_of t (get_or rows (upper_of edge) 0)) x in
          record { above = above; timed = w.1; origin = inr (omega arith, w.0) }))

  -- the rows after it: as before where there was one
  module _ (rows : List ℕ) (edge row : ℕ) (long : length rows ≡ 64) (p : Partner rows edge row) where
    pub stays : (layer : ℕ) → get_or rows layer 0 < rows_in t → get_or (set rows (lower_of edge) row) layer 0 ≡ get_or rows layer 0
    stays layer h = go (ℕ_discrete layer (lower_of edge)) p.origin
      where
        go : Dec (layer ≡ lower_of edge)
            → ((get_or rows (lower_of edge) 0 < rows_in t) × (row ≡ get_or rows (lower_of edge) 0))
            ⊎ ((rows_in t ≤ get_or rows (lower_of edge) 0) × (layer_of t row ≡ lower_of edge))
            → get_or (set rows (lower_of edge) row) layer 0 ≡ get_or rows layer 0
        go (no e) o = get_or-set_other rows (lower_of edge) layer row 0 e
        go (yes e) (inl w) = rw e (get_or-set_same rows (lower_of edge) row 0 (omega (arith, long, lower_below edge)) ∙ w.1)
        go (yes e) (inr w) = absurd (let same = ap (λ (l : ℕ). get_or rows l 0) e in omega (arith, w.0))

    pub stored : get_or (set rows (lower_of edge) row) (lower_of edge) 0 ≡ row
    stored = get_or-set_same rows (lower_of edge) row 0 (omega (arith, long, lower_below edge))

    pub own_more : OfLayers t rows → OfLayers t (set rows (lower_of edge) row)
    own_more known =
        record {
          long = length-set rows (lower_of edge) row ∙ long;
          own = λ layer h l. go layer h l (ℕ_discrete layer (lower_of edge)) p.origin;
        }
      where
        go : (layer : ℕ) → layer < 64 → get_or (set rows (lower_of edge) row) layer 0 < rows_in t → Dec (layer ≡ lower_of edge)
            → ((get_or rows (lower_of edge) 0 < rows_in t) × (row ≡ get_or rows (lower_of edge) 0))
            ⊎ ((rows_in t ≤ get_or rows (lower_of edge) 0) × (layer_of t row ≡ lower_of edge))
            → layer_of t (get_or (set rows (lower_of edge) row) layer 0) ≡ layer
        go layer h l (no e) o =
            let same = get_or-set_other rows (lower_of edge) layer row 0 e in
            ap (layer_of t) same ∙ known.own layer h (subst (λ (x : ℕ). x < rows_in t) same l)
        go layer h l (yes e) (inl w) =
            rw e (ap (layer_of t) (stored ∙ w.1) ∙ known.own (lower_of edge) (lower_below edge) w.0)
        go layer h l (yes e) (inr w) = rw e (ap (layer_of t) stored ∙ w.1)

  -- ---- all edges

  -- The first edge of a complete assembly: its upper layer has no row, and it is passed over; or it finds a row for its lower layer.
  pub record PassedOver (edge : ℕ) (edges rows : List ℕ) : Type 0 where
    pub no_row : rows_in t ≤ get_or rows (upper_of edge) 0
    pub rest : assembled_from t (edge ∷ edges) rows ≡ assembled_from t edges rows

  pub record Taken (edge : ℕ) (edges rows : List ℕ) : Type 0 where
    pub row : partner t rows edge < rows_in t
    pub partnered : Partner rows edge (partner t rows edge)
    pub rest : assembled_from t (edge ∷ edges) rows ≡ assembled_from t edges (set rows (lower_of edge) (partner t rows edge))

  first : (edge : ℕ) (edges rows : List ℕ) → (assembled_from t (edge ∷ edges) rows).complete ≡ true → PassedOver edge edges rows ⊎ Taken edge edges rows
  first edge edges rows e = go (dec_lt (get_or rows (upper_of edge) 0) (rows_in t)) (dec_lt (partner t rows edge) (rows_in t)) e
    where
      go : Dec (get_or rows (upper_of edge) 0 < rows_in t) → Dec (partner t rows edge < rows_in t) → (assembled_from t (edge ∷ edges) rows).complete ≡ true
          → PassedOver edge edges rows ⊎ Taken edge edges rows
      go (no a) d e =
          inl (record { no_row = omega arith; rest = rw (le-ltb (get_or rows (upper_of edge) 0) (rows_in t) (omega arith)) })
      go (yes a) (yes h) e =
          inr (record {
            row = h;
            partnered = partner_is rows edge a h;
            rest = rw (lt-ltb (get_or rows (upper_of edge) 0) (rows_in t) a, lt-ltb (partner t rows edge) (rows_in t) h);
          })
      go (yes a) (no h) e =
          absurd (true≢false (sym (rw (lt-ltb (get_or rows (upper_of edge) 0) (rows_in t) a, le-ltb (partner t rows edge) (rows_in t) (omega arith)) at e)))

  -- what is complete is so without its first edge
  still_complete : {a b : Assembly} → a ≡ b → a.complete ≡ true → b.complete ≡ true
  still_complete same e = sym (ap (λ (a : Assembly). a.complete) same) ∙ e

  -- rows once chosen stay
  pub keeps : (edges rows : List ℕ) → length rows ≡ 64 → (assembled_from t edges rows).complete ≡ true
      → (layer : ℕ) → get_or rows layer 0 < rows_in t → get_or (assembled_from t edges rows).rows layer 0 ≡ get_or rows layer 0
  keeps [] rows long e layer h = refl
  keeps (edge ∷ edges) rows long e layer h = go (first edge edges rows e) (keeps edges)
    where
      go : PassedOver edge edges rows ⊎ Taken edge edges rows
          → ((later : List ℕ) → length later ≡ 64 → (assembled_from t edges later).complete ≡ true → (layer : ℕ) → get_or later layer 0 < rows_in t
          → get_or (assembled_from t edges later).rows layer 0 ≡ get_or later layer 0)
          → get_or (assembled_from t (edge ∷ edges) rows).rows layer 0 ≡ get_or rows layer 0
      go (inl w) on =
          ap (λ (a : Assembly). get_or a.rows layer 0) w.rest ∙ on rows long (still_complete w.rest e) layer h
      go (inr w) on =
          let s = stays rows edge (partner t rows edge) long w.partnered layer h in
          ap (λ (a : Assembly). get_or a.rows layer 0) w.rest
          ∙ on (set rows (lower_of edge) (partner t rows edge)) (length-set rows (lower_of edge) (partner t rows edge) ∙ long)
          (still_complete w.rest e) layer (subst (λ (x : ℕ). x < rows_in t) (sym s) h)
          ∙ s

  -- each edge's upper layer has its row, or an earlier edge leads to it
  abbrev pub Led : List ℕ → List ℕ → Type 0
  Led edges rows = (i : ℕ) → i < length edges
      → (get_or rows (upper_of (get_or edges i 0)) 0 < rows_in t) ⊎ ((j : ℕ) × (j < i) × (lower_of (get_or edges j 0) ≡ upper_of (get_or edges i 0)))

  pub led_more : (edge : ℕ) (edges rows : List ℕ) (row : ℕ) → length rows ≡ 64 → Partner rows edge row → row < rows_in t → Led (edge ∷ edges) rows
      → Led edges (set rows (lower_of edge) row)
  led_more edge edges rows row long p inside led i h = go (led (suc i) (omega arith))
    where
      here : get_or (set rows (lower_of edge) row) (lower_of edge) 0 < rows_in t
      here = subst (λ (x : ℕ). x < rows_in t) (sym (stored rows edge row long p)) inside

      go : (get_or rows (upper_of (get_or edges i 0)) 0 < rows_in t) ⊎ ((j : ℕ) × (j < suc i) × (lower_of (get_or (edge ∷ edges) j 0) ≡ upper_of (get_or edges i 0)))
          → (get_or (set rows (lower_of edge) row) (upper_of (get_or edges i 0)) 0 < rows_in t)
          ⊎ ((j : ℕ) × (j < i) × (lower_of (get_or edges j 0) ≡ upper_of (get_or edges i 0)))
      go (inl l) = inl (subst (λ (x : ℕ). x < rows_in t) (sym (stays rows edge row long p (upper_of (get_or edges i 0)) l)) l)
      go (inr (zero, l, e)) = inl (subst (λ (u : ℕ). get_or (set rows (lower_of edge) row) u 0 < rows_in t) e here)
      go (inr (suc j, l, e)) = inr (j, omega arith, e)

  -- then EVERY EDGE IS MET,
  pub all_met : (edges rows : List ℕ) → length rows ≡ 64 → (assembled_from t edges rows).complete ≡ true → Led edges rows
      → (i : ℕ) → i < length edges → Met t (assembled_from t edges rows).rows (get_or edges i 0)
  all_met [] rows long e led i h = absurd (omega arith)
  all_met (edge ∷ edges) rows long e led i h = go (first edge edges rows e) (led 0 (omega arith)) (all_met edges) i h
    where
      go : PassedOver edge edges rows ⊎ Taken edge edges rows
          → (get_or rows (upper_of edge) 0 < rows_in t) ⊎ ((j : ℕ) × (j < 0) × (lower_of (get_or (edge ∷ edges) j 0) ≡ upper_of edge))
          → ((later : List ℕ) → length later ≡ 64 → (assembled_from t edges later).complete ≡ true → Led edges later
          → (i : ℕ) → i < length edges → Met t (assembled_from t edges later).rows (get_or edges i 0))
          → (i : ℕ) → i < suc (length edges) → Met t (assembled_from t (edge ∷ edges) rows).rows (get_or (edge ∷ edges) i 0)
      go (inl w) (inl l) on i h = absurd (omega (arith, w.no_row))
      go (inl w) (inr l) on i h = absurd (omega (arith, l.1))
      go (inr w) l on zero h =
          let p = w.partnered in
          let later = set rows (lower_of edge) (partner t rows edge) in
          let long-later = length-set rows (lower_of edge) (partner t rows edge) ∙ long in
          let done = still_complete w.rest e in
          let s = stays rows edge (partner t rows edge) long p (upper_of edge) p.above in
          let here = stored rows edge (partner t rows edge) long p in
          let up : get_or (assembled_from t (edge ∷ edges) rows).rows (upper_of edge) 0 ≡ get_or rows (upper_of edge) 0 =
          ap (λ (a : Assembly). get_or a.rows (upper_of edge) 0) w.rest
          ∙ keeps edges later long-later done (upper_of edge) (subst (λ (x : ℕ). x < rows_in t) (sym s) p.above) ∙ s in
          let low : get_or (assembled_from t (edge ∷ edges) rows).rows (lower_of edge) 0 ≡ partner t rows edge =
          ap (λ (a : Assembly). get_or a.rows (lower_of edge) 0) w.rest
          ∙ keeps edges later long-later done (lower_of edge) (subst (λ (x : ℕ). x < rows_in t) (sym here) w.row) ∙ here in
          record {
            upper_row = subst (λ (x : ℕ). x < rows_in t) (sym up) p.above;
            lower_row = subst (λ (x : ℕ). x < rows_in t) (sym low) w.row;
            paired = ap (decoding_of t) low ∙ p.timed ∙ ap (match_of t) (sym up);
          }
      go (inr w) l on (suc i) h =
          subst (λ (a : Assembly). Met t a.rows (get_or edges i 0)) (sym w.rest)
          (on (set rows (lower_of edge) (partner t rows edge)) (length-set rows (lower_of edge) (partner t rows edge) ∙ long) (still_complete w.rest e)
          (led_more edge edges rows (partner t rows edge) long w.partnered w.row led) i (omega arith))

  -- and every row chosen is one of its layer's.
  pub all_own : (edges rows : List ℕ) → OfLayers t rows → (assembled_from t edges rows).complete ≡ true → OfLayers t (assembled_from t edges rows).rows
  all_own [] rows known e = known
  all_own (edge ∷ edges) rows known e = go (first edge edges rows e) (all_own edges)
    where
      go : PassedOver edge edges rows ⊎ Taken edge edges rows
          → ((later : List ℕ) → OfLayers t later → (assembled_from t edges later).complete ≡ true → OfLayers t (assembled_from t edges later).rows)
          → OfLayers t (assembled_from t (edge ∷ edges) rows).rows
      go (inl w) on = subst (λ (a : Assembly). OfLayers t a.rows) (sym w.rest) (on rows known (still_complete w.rest e))
      go (inr w) on =
          subst (λ (a : Assembly). OfLayers t a.rows) (sym w.rest)
          (on (set rows (lower_of edge) (partner t rows edge)) (own_more rows edge (partner t rows edge) known.long w.partnered known)
          (still_complete w.rest e))

  -- ---- what no edge leads to stays as it was

  pub untouched : (edges rows : List ℕ) (layer : ℕ) → ((i : ℕ) → i < length edges → layer ≡ lower_of (get_or edges i 0) → ⊥)
      → get_or (assembled_from t edges rows).rows layer 0 ≡ get_or rows layer 0
  untouched [] rows layer apart = refl
  untouched (edge ∷ edges) rows layer apart =
      go (ltb (get_or rows (upper_of edge) 0) (rows_in t)) (ltb (partner t rows edge) (rows_in t))
      (untouched edges (set rows (lower_of edge) (partner t rows edge)) layer (λ i h. apart (suc i) (omega arith))
      ∙ get_or-set_other rows (lower_of edge) layer (partner t rows edge) 0 (apart 0 (omega arith)))
      (untouched edges rows layer (λ i h. apart (suc i) (omega arith)))
    where
      go : (a b : Bool) → get_or (assembled_from t edges (set rows (lower_of edge) (partner t rows edge))).rows layer 0 ≡ get_or rows layer 0
          → get_or (assembled_from t edges rows).rows layer 0 ≡ get_or rows layer 0
          → get_or (cond a (cond b (assembled_from t edges (set rows (lower_of edge) (partner t rows edge))) (record { complete = false; rows = rows }))
          (assembled_from t edges rows)).rows layer 0
          ≡ get_or rows layer 0
      go true true e f = e
      go true false e f = refl
      go false b e f = f

  pub as_long : (edges rows : List ℕ) → length (assembled_from t edges rows).rows ≡ length rows
  as_long [] rows = refl
  as_long (edge ∷ edges) rows =
      go (ltb (get_or rows (upper_of edge) 0) (rows_in t)) (ltb (partner t rows edge) (rows_in t))
      (as_long edges (set rows (lower_of edge) (partner t rows edge)) ∙ length-set rows (lower_of edge) (partner t rows edge)) (as_long edges rows)
    where
      go : (a b : Bool) → length (assembled_from t edges (set rows (lower_of edge) (partner t rows edge))).rows ≡ length rows
          → length (assembled_from t edges rows).rows ≡ length rows
          → length (cond a (cond b (assembled_from t edges (set rows (lower_of edge) (partner t rows edge))) (record { complete = false; rows = rows }))
          (assembled_from t edges rows)).rows
          ≡ length rows
      go true true e f = e
      go true false e f = refl
      go false b e f = f

  -- ---- from the start: the row of the head's layer, and no other

  module _ (target head : ℕ) (small : target < 64) where
    abbrev begin : List ℕ
    begin = set (replicate 64 (rows_in t)) target head

    pub begin_long : length begin ≡ 64
    begin_long = length-set (replicate 64 (rows_in t)) target head ∙ length-replicate 64 (rows_in t)

    pub begin_target : get_or begin target 0 ≡ head
    begin_target = get_or-set_same (replicate 64 (rows_in t)) target head 0 (omega (arith, length-replicate 64 (rows_in t)))

    pub begin_other : (layer : ℕ) → layer < 64 → (layer ≡ target → ⊥) → get_or begin layer 0 ≡ rows_in t
    begin_other layer h e =
        get_or-set_other (replicate 64 (rows_in t)) target layer head 0 e ∙ get_or-replicate 64 layer (rows_in t) 0 h

    pub begin_own : layer_of t head ≡ target → OfLayers t begin
    begin_own e = record { long = begin_long; own = λ layer h l. go layer h l (ℕ_discrete layer target) }
      where
        go : (layer : ℕ) → layer < 64 → get_or begin layer 0 < rows_in t → Dec (layer ≡ target) → layer_of t (get_or begin layer 0) ≡ layer
        go layer h l (yes q) = rw q (ap (layer_of t) begin_target ∙ e)
        go layer h l (no q) = absurd (let other = begin_other layer h q in omega arith)

    -- a complete assembly has the head for its target
    pub heads : (edges : List ℕ) → head < rows_in t → (assembled t edges target head).complete ≡ true
        → get_or (assembled t edges target head).rows target 0 ≡ head
    heads edges h e =
        keeps edges begin begin_long e target (subst (λ (x : ℕ). x < rows_in t) (sym begin_target) h) ∙ begin_target
