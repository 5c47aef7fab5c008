-- The answer, way by way: each return of the code is a case of the definition, given what its calls answer; and the lists that are lent are those of the frame.
-- Assumes nothing.
use Rattle.std.specs.Prelude.{Err}
use Rattle.join_answers.specs.Answer.{joined_units, Joined}
use Prim.Native.Nat.{ℕ, ◌-◌, ◌≤◌, ◌<◌}
use mathlib.Core.Bool.{Bool, true, false, ◌||◌}
use mathlib.Core.List.{List}
use mathlib.Core.Path.{◌≡◌, refl, sym, ◌∙◌, ap, ap₂, subst}
use native.Mathlib.Omega.{arith}
use borrow.Author.Tests.{ltb-false}
use lib.Dec.{ltb}
use lib.ListN.{length, take, replicate, length-append}
use lib.Seq.{get_or-take, take-append_seam, ext_get_or, length-take-le}
use Rattle.closure.specs.declared.Layers.{Layers}
use Rattle.combinators.proofs.Seeking.{seek_first}
use Rattle.combinators.specs.Each.{each_below, length_each, each_at}
use Rattle.combinators.specs.Bools.{neither_left, neither_right}
use Rattle.combinators.specs.Padding.{pad_to}
use Rattle.rows.specs.Table.{Table, rows_in}
use Rattle.vocabulary.specs.declared.refusal.Refusal.TheVariants.{Unpaired, UsedTwice, SpanTooWide, NoRoom}
use Rattle.assembling.specs.Assemblies.{edges_of}
use Rattle.row_index.specs.Index.{Starts, Order}
use Rattle.assembling.specs.Ready.{Ready}
use Rattle.claims.specs.Claims.{claimed}
use Rattle.claims.specs.Marks.{Stands}
use Rattle.spans.specs.Spans.{wide_span}
use Rattle.heads.specs.declared.Judged.{Judged}
use Rattle.heads.specs.Units.{Frame, frame, unpaired, shares, first_unpaired, first_shared}
use Rattle.heads.specs.Judging.{Whole, Kept, Judges}
use Rattle.heads.specs.Orderly.{Orderly, Framed}
use Rattle.heads.proofs.Orderly.{ready}
use Rattle.heads.proofs.Wholeness.{frame_whole}
use Rattle.unit_lists.specs.Sequence.{Lists}
use Rattle.join_answers.specs.Joining.{own_set, frame_of, closure_rows, Room, too_small, units_joined, table_joined, lists_after}
use Rattle.join_answers.specs.Steps.{Joinable, framed_lists}
use Rattle.join_answers.proofs.Framing.{framed}
use Rattle.join_answers.proofs.Cases.{is_unpaired, is_shared, is_wide, is_no_room, are_units, IsOver, units_over, refused, is_over}

-- ---- what a joinable frame has

module _ (closure : ℕ) (t : Table) (f : Frame) (known : Joinable closure t f) where
  pub index_ready : (starts order : List ℕ) → Starts t.indices starts → Order t.indices order → Ready t starts order f.edges
  index_ready starts order s o =
      subst (Ready t starts order) (sym known.framed.edges_listed) (ready known.layers known.target closure t known.orderly starts order s o)

  pub whole_frame : Whole t f
  whole_frame = frame_whole known.layers known.target closure t known.orderly f known.framed

-- ---- 15, 16, 18, 17 and the units

module _ (t : Table) (f : Frame) (room : Room) (judged : Judged) (kept places : List ℕ) (found : Judges t f judged kept places) where
  pub unpaired_answer : judged.unpaired < rows_in t → Err (Unpaired judged.unpaired) ≡ units_joined t f room
  unpaired_answer h = is_unpaired t f room judged.unpaired found.no_assembly h

  module _ (paired : rows_in t ≤ judged.unpaired) where
    none_unpaired : judged.unpaired ≡ rows_in t
    none_unpaired = omega (arith, found.no_assembly, (seek_first (unpaired t f) (rows_in t)).within)

    pub paired_first : rows_in t ≤ first_unpaired t f
    paired_first = subst (λ (k : ℕ). rows_in t ≤ k) found.no_assembly paired

    pub shared_answer : judged.shared < rows_in t → Err (UsedTwice judged.shared) ≡ units_joined t f room
    shared_answer h = is_shared t f room paired_first judged.shared (found.two_units none_unpaired) h

    module _ (apart : rows_in t ≤ judged.shared) where
      none_shared : judged.shared ≡ rows_in t
      none_shared = omega (arith, found.two_units none_unpaired, (seek_first (shares t f) (rows_in t)).within)

      pub apart_first : rows_in t ≤ first_shared t f
      apart_first = subst (λ (k : ℕ). rows_in t ≤ k) (found.two_units none_unpaired) apart

      pub held : Kept t f kept places
      held = found.units_kept none_unpaired none_shared

      pub wide_answer : (wide : Bool) → wide ≡ wide_span t f.closure → wide ≡ true → Err SpanTooWide ≡ units_joined t f room
      wide_answer wide e h = is_wide t f room paired_first apart_first (sym e ∙ h)

      module _ (narrow : wide_span t f.closure ≡ false) (rows : ℕ) (is_rows : rows ≡ closure_rows t f.closure) (small : Bool) (is-small : small ≡ too_small room rows) where
        tested : small ≡ too_small room (closure_rows t f.closure)
        tested = is-small ∙ ap (too_small room) is_rows

        pub room_answer : small ≡ true → Err NoRoom ≡ units_joined t f room
        room_answer h = is_no_room t f room paired_first apart_first narrow (sym tested ∙ h)

        pub units_answer : small ≡ false → joined_units f.closure judged.units rows ≡ units_joined t f room
        units_answer h =
            ap₂ (joined_units f.closure) (found.counted none_unpaired none_shared) is_rows ∙ are_units t f room paired_first apart_first narrow (sym tested ∙ h)

-- the room that a list has where none is too small
pub record Enough (room : Room) (rows : ℕ) : Type 0 where
  pub for_numbers : rows ≤ room.numbers
  pub for_lags : rows ≤ room.lags
  pub for_sizes : rows ≤ room.sizes

pub enough : (room : Room) (rows : ℕ) → too_small room rows ≡ false → Enough room rows
enough room rows e =
    let others = neither_right (ltb room.numbers rows) (ltb room.lags rows || ltb room.sizes rows) e in
    record {
      for_numbers = ltb-false room.numbers rows (neither_left (ltb room.numbers rows) (ltb room.lags rows || ltb room.sizes rows) e);
      for_lags = ltb-false room.lags rows (neither_left (ltb room.lags rows) (ltb room.sizes rows) others);
      for_sizes = ltb-false room.sizes rows (neither_right (ltb room.lags rows) (ltb room.sizes rows) others);
    }

-- ---- what is lent

-- a list lent out of the array that it fills from the front
pub part_is : (size count : ℕ) (l array : List ℕ) → count ≡ length l → array ≡ pad_to size 0 l → take count array ≡ l
part_is size count l array e a = ap₂ (λ (n : ℕ) (x : List ℕ). take n x) e a ∙ take-append_seam l (replicate (size - length l) 0)

pub part_fits : (size count : ℕ) (l array : List ℕ) → count ≡ length l → array ≡ pad_to size 0 l → count ≤ length array
part_fits size count l array e a =
    omega (arith, e, ap length a ∙ length-append l (replicate (size - length l) 0))

pub part_held : (rows : ℕ) (marks : List Bool) → rows ≤ length marks → rows ≤ length (take rows marks)
part_held rows marks fits = omega (arith, length-take-le rows marks fits)

-- the marks of the rows alone
pub marks_are : (layers : Layers) (closure : ℕ) (t : Table) (before marks : List Bool) → Stands (rows_in t) (claimed layers closure t) before marks
    → rows_in t ≤ length marks → take (rows_in t) marks ≡ each_below (claimed layers closure t) (rows_in t)
marks_are layers closure t before marks stands fits =
    ext_get_or false (take (rows_in t) marks) (each_below (claimed layers closure t) (rows_in t))
    (length-take-le (rows_in t) marks fits ∙ sym (length_each (claimed layers closure t) (rows_in t)))
    (λ k h. (let l : k < rows_in t = omega (arith, length-take-le (rows_in t) marks fits) in
    get_or-take (rows_in t) marks k false l ∙ stands.at k l ∙ sym (each_at (claimed layers closure t) (rows_in t) k false l)))

-- and all of it together is the frame of the closure over the table
pub frame_is : (layers : Layers) (closure : ℕ) (t : Table) (marks : List Bool) (own edges : List ℕ) → marks ≡ each_below (claimed layers closure t) (rows_in t)
    → own ≡ each_below (own_set layers closure) 64 → edges ≡ edges_of layers closure → frame closure marks own edges ≡ frame_of layers closure t
frame_is layers closure t marks own edges p q r = rw (p, q, r)

pub joinable : (layers : Layers) (target closure : ℕ) (t : Table) → Orderly layers target closure t → (f : Frame) → f ≡ frame_of layers closure t → Joinable closure t f
joinable layers target closure t orderly f same =
    record {
      layers = layers;
      target = target;
      orderly = orderly;
      framed = subst (Framed layers closure t) (sym same) (framed layers target closure t orderly.closed_over);
    }

-- ---- units over the frame of a closure are answered with that closure, so that the lists are the frame's

pub same_lists : (most : ℕ) (layers : Layers) (t : Table) (closure : ℕ) (room : Room) (r : Joined) → r ≡ table_joined most layers t closure room → (before : Lists)
    → framed_lists t (frame_of layers closure t) r before ≡ lists_after layers t r before
same_lists most layers t closure room r e before =
    subst (λ (x : Joined). framed_lists t (frame_of layers closure t) x before ≡ lists_after layers t x before) (sym e)
    (go (is_over most layers t closure room))
  where
    go : {answer : Joined} → IsOver closure answer → framed_lists t (frame_of layers closure t) answer before ≡ lists_after layers t answer before
    go (units_over {units} {rows}) = refl
    go (refused {refusal}) = refl
