-- `heads::judge` meets its contract. The invariant, what is known after some rows, and each turn are in Claiming. Assumes nothing.
use Prim.Native.Nat.{ℕ, ◌+◌, ◌≤◌, ◌<◌}
use mathlib.Core.Bool.{true, false}
use mathlib.Core.List.{List}
use mathlib.Core.Path.{◌≡◌, refl, sym, ◌∙◌, ap, subst}
use native.Mathlib.Omega.{arith}
use lib.ListN.{length, get_or, length-set}
use lib.Seq.{sets, length-sets}
use Rattle.combinators.specs.Below.{count_short}
use Rattle.combinators.specs.Lists.{any}
use Rattle.rows.specs.Table.{Table, table, layer_of}
use Rattle.sets.specs.Sets.{members_of}
use Rattle.heads.specs.Units.{Frame, frame, is_head, own_of, assembly_of, unit_from, unit_of}
use Rattle.heads.specs.Judging.{Placed, cleared, marked}
use Rattle.heads.proofs.Tested.{head_tested, head_layer}
use Rattle.heads.proofs.Kept.{unit_size, cleared_again}
use Rattle.heads.proofs.Claiming.{walked_start, walked_other, no_assembly, chosen, paired_alone, is_shared, unit_fits, members_room, length_marked, walked_head, stopped, stopped_sharing, walked_end}
use Rattle.heads.proofs.judge.Goals as goal
use Rattle.heads.proofs.judge.Goals.{then-member-claimed+else-not-complete+else-any_used, else-member-claimed, After-any_used, Else-any_used, Else-not-complete, Then-member-claimed}

-- ---- what is known of the row at hand where it is a head

-- ---- the needs

abbrev table_at : Then-member-claimed → Table
table_at c = let a = c.args in table a.indices.now a.decodings.now a.matches.now

abbrev frame_at : Then-member-claimed → Frame
frame_at c = let a = c.args in frame a.closure a.claimed.now a.own.now a.edges.now

head : (c : Then-member-claimed) → is_head (table_at c) (frame_at c) c.loop-row.row ≡ true
head c = head_tested (table_at c) (frame_at c) c.loop-row.row _ true (rw c.from-layer.ensures at c.member.ensures) c.if-member-claimed.true

layer_below : (c : Then-member-claimed) → layer_of (table_at c) c.loop-row.row < 64
layer_below c = head_layer (table_at c) (frame_at c) c.loop-row.row c.ranges.closure.fits (head c)

-- no more units than rows so far
few : (c : Then-member-claimed) → c.loop-row.units ≤ c.loop-row.row
few c = omega (arith, c.loop-row.invariant.0.counted, count_short (is_head (table_at c) (frame_at c)) c.loop-row.row)

-- where it has an assembly
complete : (c : Else-not-complete) → (assembly_of (table c.args.indices.now c.args.decodings.now c.args.matches.now) (frame c.args.closure c.args.claimed.now c.args.own.now c.args.edges.now) c.loop-row.row).complete ≡ true
complete c = sym (rw c.from-layer.ensures at c.assemble-complete.ensures.complete) ∙ c.if-not-complete.false

placed : (c : Else-not-complete)
    → Placed (own_of (table c.args.indices.now c.args.decodings.now c.args.matches.now) (frame c.args.closure c.args.claimed.now c.args.own.now c.args.edges.now) c.loop-row.row) (assembly_of (table c.args.indices.now c.args.decodings.now c.args.matches.now) (frame c.args.closure c.args.claimed.now c.args.own.now c.args.edges.now) c.loop-row.row).rows (length c.loop-row.used)
placed c = chosen _ _ _ _ _ _ _ _ c.loop-row.invariant.0 c.loop-row-test.true (head_tested (table c.args.indices.now c.args.decodings.now c.args.matches.now) (frame c.args.closure c.args.claimed.now c.args.own.now c.args.edges.now) c.loop-row.row _ true (rw c.from-layer.ensures at c.member.ensures) c.if-member-claimed.true) c.requires.1 (complete c)

-- and what was asked of its rows
asked : (c : After-any_used)
    → c.any_used.result ≡ any (λ row. get_or c.loop-row.used row false) (unit_of (table c.args.indices.now c.args.decodings.now c.args.matches.now) (frame c.args.closure c.args.claimed.now c.args.own.now c.args.edges.now) c.loop-row.row)
asked c =
    (rw c.from-layer.ensures at c.any_used.ensures)
    ∙ ap (λ (rows : List ℕ). any (λ row. get_or c.loop-row.used row false) (unit_from (members_of (own_of (table c.args.indices.now c.args.decodings.now c.args.matches.now) (frame c.args.closure c.args.claimed.now c.args.own.now c.args.edges.now) c.loop-row.row)) rows))
    (rw c.from-layer.ensures at c.assemble-complete.ensures.content)

pub clear-requires : goal.clear-requires
clear-requires c = omega (arith, c.requires.3)

pub loop-row-init : goal.loop-row-init
loop-row-init c =
    (walked_start _ _ _ _ _ _ c.clear.ensures c.requires.3 c.requires.4 c.requires.5, refl, refl, refl, refl)

pub bounds-claimed-row : goal.bounds-claimed-row
bounds-claimed-row c = omega (arith, c.loop-row-test.true, c.requires.2)

pub assemble-complete-requires : goal.assemble-complete-requires
assemble-complete-requires c = (c.requires.0, rw c.from-layer.ensures (layer_below (goal.at.assemble-complete-requires c).Then-member-claimed), c.loop-row.invariant.4)

pub shape_of-used-then-not-complete : goal.shape_of-used-then-not-complete
shape_of-used-then-not-complete c = c.loop-row.invariant.1 ∙ c.clear.ensures.as_long

pub shape_of-kept-then-not-complete : goal.shape_of-kept-then-not-complete
shape_of-kept-then-not-complete c = c.loop-row.invariant.2

pub shape_of-places-then-not-complete : goal.shape_of-places-then-not-complete
shape_of-places-then-not-complete c = c.loop-row.invariant.3

pub returns-then-not-complete : goal.returns-then-not-complete
returns-then-not-complete c =
    stopped _ _ _ _ _ c.loop-row-test.true
    (no_assembly _ _ _ _ _ _ _ _ c.loop-row.invariant.0 c.loop-row-test.true (head (goal.at.returns-then-not-complete c).Then-member-claimed) (sym (rw c.from-layer.ensures at c.assemble-complete.ensures.complete) ∙ c.if-not-complete.true))

pub offset_bounds-own-layer : goal.offset_bounds-own-layer
offset_bounds-own-layer c = omega (arith, layer_below (goal.at.offset_bounds-own-layer c).Then-member-claimed)

pub bounds-own-layer : goal.bounds-own-layer
bounds-own-layer c = omega (arith, layer_below (goal.at.bounds-own-layer c).Then-member-claimed)

pub any_used-requires : goal.any_used-requires
any_used-requires c =
    rw c.from-layer.ensures (subst (λ (rows : List ℕ). Placed (own_of (table_at (goal.at.any_used-requires c).Then-member-claimed) (frame_at (goal.at.any_used-requires c).Then-member-claimed) c.loop-row.row) rows (length c.loop-row.used)) (sym (rw c.from-layer.ensures at c.assemble-complete.ensures.content)) (placed (goal.at.any_used-requires c).Else-not-complete))

pub first_unpaired-unpaired-requires : goal.first_unpaired-unpaired-requires
first_unpaired-unpaired-requires c = (
  c.requires.0,
  c.requires.2,
  paired_alone _ _ _ _ _ _ _ _ c.loop-row.invariant.0 c.loop-row-test.true (head (goal.at.first_unpaired-unpaired-requires c).Then-member-claimed) c.requires.1 (complete (goal.at.first_unpaired-unpaired-requires c).Else-not-complete),
)

pub shape_of-used-then-any_used : goal.shape_of-used-then-any_used
shape_of-used-then-any_used c = c.loop-row.invariant.1 ∙ c.clear.ensures.as_long

pub shape_of-kept-then-any_used : goal.shape_of-kept-then-any_used
shape_of-kept-then-any_used c = c.loop-row.invariant.2

pub shape_of-places-then-any_used : goal.shape_of-places-then-any_used
shape_of-places-then-any_used c = c.loop-row.invariant.3

pub returns-then-any_used : goal.returns-then-any_used
returns-then-any_used c =
    let inside = c.loop-row-test.true in
    stopped_sharing _ _ _ _ _ c.first_unpaired-unpaired.ensures inside
    (is_shared _ _ _ _ _ _ _ _ c.loop-row.invariant.0 inside (head (goal.at.returns-then-any_used c).Then-member-claimed) c.requires.1 (complete (goal.at.returns-then-any_used c).Else-not-complete) (sym c.if-any_used.true ∙ asked (goal.at.returns-then-any_used c).After-any_used))

-- there is room for a unit that shares no row
fits : (c : Else-any_used)
    → c.loop-row.place + length (unit_of (table c.args.indices.now c.args.decodings.now c.args.matches.now) (frame c.args.closure c.args.claimed.now c.args.own.now c.args.edges.now) c.loop-row.row) ≤ length c.args.indices.now
fits c =
    unit_fits _ _ _ _ _ _ _ _ c.loop-row.invariant.0 c.loop-row-test.true (head_tested (table c.args.indices.now c.args.decodings.now c.args.matches.now) (frame c.args.closure c.args.claimed.now c.args.own.now c.args.edges.now) c.loop-row.row _ true (rw c.from-layer.ensures at c.member.ensures) c.if-member-claimed.true) c.requires.1 (sym (rw c.from-layer.ensures at c.assemble-complete.ensures.complete) ∙ c.if-not-complete.false) (sym c.if-any_used.false ∙ ((rw c.from-layer.ensures at c.any_used.ensures)
    ∙ ap (λ (rows : List ℕ). any (λ row. get_or c.loop-row.used row false) (unit_from (members_of (own_of (table c.args.indices.now c.args.decodings.now c.args.matches.now) (frame c.args.closure c.args.claimed.now c.args.own.now c.args.edges.now) c.loop-row.row)) rows))
    (rw c.from-layer.ensures at c.assemble-complete.ensures.content)))

pub keep-requires : goal.keep-requires
keep-requires c = (
  rw c.from-layer.ensures (subst (λ (rows : List ℕ). Placed (own_of (table_at (goal.at.keep-requires c).Then-member-claimed) (frame_at (goal.at.keep-requires c).Then-member-claimed) c.loop-row.row) rows (length c.loop-row.used)) (sym (rw c.from-layer.ensures at c.assemble-complete.ensures.content)) (placed (goal.at.keep-requires c).Else-not-complete)),
  rw c.from-layer.ensures (members_room _ _ _ _ _ _ _ _ c.loop-row.invariant.0 c.loop-row-test.true (head (goal.at.keep-requires c).Then-member-claimed) c.requires.1 (complete (goal.at.keep-requires c).Else-not-complete) (sym c.if-any_used.false ∙ asked (goal.at.keep-requires c).After-any_used)),
)

pub offset_bounds-places-row : goal.offset_bounds-places-row
offset_bounds-places-row c = omega (arith, c.loop-row-test.true, few (goal.at.offset_bounds-places-row c).Then-member-claimed, c.well_formed)

pub bounds-places-row : goal.bounds-places-row
bounds-places-row c = omega (arith, c.loop-row-test.true, few (goal.at.bounds-places-row c).Then-member-claimed, c.loop-row.invariant.0.room_places)

pub overflow_add-place : goal.overflow_add-place
overflow_add-place c = omega (arith, fits (goal.at.overflow_add-place c).Else-any_used, unit_size (table_at (goal.at.overflow_add-place c).Then-member-claimed) (frame_at (goal.at.overflow_add-place c).Then-member-claimed) c.loop-row.row, (rw c.from-layer.ensures at c.size-place.ensures), c.well_formed)

pub overflow_add-units : goal.overflow_add-units
overflow_add-units c =
    omega (arith, few (goal.at.overflow_add-units c).Then-member-claimed, c.loop-row-test.true, c.well_formed)

pub loop-row-preserved : goal.loop-row-preserved
loop-row-preserved c =
    let loop = c.loop-row in
    let inside = c.loop-row-test.true in
    let a = c.args in
    let t = table a.indices.now a.decodings.now a.matches.now in
    let f = frame a.closure a.claimed.now a.own.now a.edges.now in
    elim c.if-member-claimed.branch [
      | then-member-claimed+else-not-complete+else-any_used w ↦
          (let is_head = head_tested t f loop.row _ true (rw c.from-layer.ensures at c.member.ensures) w.if-member-claimed.true in
          let whole = sym (rw c.from-layer.ensures at w.assemble-complete.ensures.complete) ∙ w.if-not-complete.false in
          let content = (rw c.from-layer.ensures at w.assemble-complete.ensures.content) in
          let is_marked = (rw c.from-layer.ensures at w.keep.ensures.marks) ∙ ap (λ (rows : List ℕ). marked (unit_from (members_of (own_of t f loop.row)) rows) loop.used) content in
          let is-kept = (rw c.from-layer.ensures at w.keep.ensures.content) ∙ ap (λ (rows : List ℕ). sets loop.kept loop.place (unit_from (members_of (own_of t f loop.row)) rows)) content in
          rw (w.used-is, w.kept-is, w.places-is, w.rows-is, w.units-is, w.place-is) (
            walked_head _ _ _ _ _ _ _ _ loop.invariant.0 inside is_head c.requires.1 whole
                (sym w.if-any_used.false ∙ (rw c.from-layer.ensures at w.any_used.ensures)
                ∙ ap (λ (rows : List ℕ). any (λ row. get_or loop.used row false) (unit_from (members_of (own_of t f loop.row)) rows)) content)
                _ _ _ is_marked is-kept ((rw c.from-layer.ensures at w.size-place.ensures) ∙ sym (unit_size t f loop.row)),
            ap length is_marked ∙ length_marked (unit_of t f loop.row) loop.used ∙ loop.invariant.1,
            ap length is-kept ∙ length-sets loop.kept loop.place (unit_of t f loop.row) ∙ loop.invariant.2,
            length-set loop.places loop.row loop.place ∙ loop.invariant.3,
            (rw c.from-layer.ensures at w.keep.ensures.blank)
                ∙ ap (cleared (length a.indices.now) (members_of (own_of t f loop.row))) content
                ∙ cleared_again t f c.requires.1 loop.row inside is_head whole (head_layer t f loop.row c.ranges.closure.fits is_head),
          ))
      | else-member-claimed w ↦
          rw (w.used-is, w.kept-is, w.places-is, w.rows-is, w.units-is, w.place-is) (
            walked_other _ _ _ _ _ _ _ _ loop.invariant.0 inside (head_tested t f loop.row _ false (rw c.from-layer.ensures at c.member.ensures) w.if-member-claimed.false),
            loop.invariant.1,
            loop.invariant.2,
            loop.invariant.3,
            loop.invariant.4,
          )
    ]

pub shape_of-used : goal.shape_of-used
shape_of-used c = c.loop-row.invariant.1 ∙ c.clear.ensures.as_long

pub shape_of-kept : goal.shape_of-kept
shape_of-kept c = c.loop-row.invariant.2

pub shape_of-places : goal.shape_of-places
shape_of-places c = c.loop-row.invariant.3

pub returns : goal.returns
returns c = walked_end _ _ _ _ _ c.requires.1 _ _ _ c.loop-row.invariant.0 c.loop-row-test.false refl refl
