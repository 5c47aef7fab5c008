-- THE PROOF of W-209: what is right for one table is right for the other, of joining and of the whole import.
-- Assumes nothing.
use Prim.Native.Nat.{ℕ}
use mathlib.Core.List.{List, map}
use Rattle.vocabulary.specs.declared.stream_types.Reading.{Reading}
use Rattle.loop_entries.specs.declared.Stream.{Stream}
use Rattle.loop_entries.specs.Entries.{entry_of}
use Rattle.es_loop.specs.Reading.{accepted}
use Rattle.es_loop.specs.Meaning as Loop
use Rattle.closure.specs.declared.Layers.{Layers}
use Rattle.loop_layers.specs.Meaning.{LayersOf}
use Rattle.rows.specs.Table.{Table}
use Rattle.rows.specs.Meaning.{InOrder}
use Rattle.join_answers.specs.Answer.{Joined}
use Rattle.unit_lists.specs.Sequence.{Lists}
use Rattle.join_answers.specs.Meaning as Joining
use Rattle.importing.specs.Meaning as Import
use Rattle.other_layers.specs.Meaning.{DifferOutside, SameJoining, SameImport}
use Rattle.other_layers.proofs.Rows.{Same, number_back, flip, same, shape, breaks_first, none_breaks, spans, head_row}
use Rattle.other_layers.proofs.Units.{unpaired_first, none_unpaired, shared_first, none_shared, closure_rows_lem, heads_in_order_lem, units}

-- the other way round
turned : {layers : Layers} {target : ℕ} {t u : Table} → DifferOutside layers target t u → DifferOutside layers target u t
turned {layers} {target} {t} {u} d =
    record {
      as_many = number_back d.as_many;
      agree = (flip (same layers target t u d)).row;
      in_range = d.other_in_range;
      other_in_range = d.in_range;
      stays_outside = d.other_stays_outside;
      other_stays_outside = d.stays_outside;
    }

module _ {layers : Layers} {target : ℕ} {t u : Table} (d : DifferOutside layers target t u) where
  s : Same layers target t u
  s = same layers target t u d

  in_order : {most : ℕ} → InOrder most layers target t → InOrder most layers target u
  in_order o = record { shape = λ w. o.shape (shape (flip s) w); range = d.other_in_range; order = none_breaks s o.order }

  accepted_too : {before after : Lists} {number rows : ℕ} → Joining.Accepted layers target t before number rows after
      → Joining.Accepted layers target u before number rows after
  accepted_too a =
      record {
        heads = a.heads;
        in_order = heads_in_order_lem s a.in_order;
        number_of_units = a.number_of_units;
        closure_rows = a.closure_rows;
        all_closure_rows = closure_rows_lem s a.all_closure_rows;
        number_of_rows = a.number_of_rows;
        enough_room = a.enough_room;
        numbers = a.numbers;
        lags = a.lags;
        sizes = a.sizes;
        units_of_heads = units s a.heads (λ i h. head_row s (a.in_order.each i h)) a.units_of_heads;
        lists_hold = a.lists_hold;
      }

  over : {most closure : ℕ} {before after : Lists} {answer : Joined} → Joining.AnswersOver most layers target closure t before answer after
      → Joining.AnswersOver most layers target closure u before answer after
  over (Joining.wrong_shape_lem w) = Joining.wrong_shape_lem (shape s w)
  over (Joining.out_of_range_lem w f) = absurd (d.in_range _ f.inside f.holds)
  over (Joining.order_broken w r f) = Joining.order_broken (λ x. w (shape (flip s) x)) d.other_in_range (breaks_first s f)
  over (Joining.no_assembly o f) = Joining.no_assembly (in_order o) (unpaired_first s f)
  over (Joining.in_two_units o n f) = Joining.in_two_units (in_order o) (none_unpaired s n) (shared_first s f)
  over (Joining.too_far_apart o n m w) = Joining.too_far_apart (in_order o) (none_unpaired s n) (none_shared s m) (spans s w)
  over (Joining.no_room o n m w r x) =
      Joining.no_room (in_order o) (none_unpaired s n) (none_shared s m) (λ y. w (spans (flip s) y)) (closure_rows_lem s r) x
  over (Joining.joined o m w a) = Joining.joined (in_order o) (none_shared s m) (λ y. w (spans (flip s) y)) (accepted_too a)

  whole : {most : ℕ} {before after : Lists} {answer : Joined} → Joining.Answers most layers target t before answer after
      → Joining.Answers most layers target u before answer after
  whole (Joining.no_closure c) = Joining.no_closure c
  whole (Joining.over_closure c a) = Joining.over_closure c (over a)

pub same_joining : SameJoining
same_joining most layers target t u d before answer after = (λ a. whole d a, λ a. whole (turned d) a)

-- ---- the whole import

abbrev Differ : Reading → List ℕ → ℕ → Table → Table → Type 0
Differ reading bytes target t u = (streams : List Stream) (layers : Layers) → Loop.Answers reading bytes (accepted streams)
    → LayersOf (map entry_of streams) layers → DifferOutside layers target t u

imported : {reading : Reading} {bytes : List ℕ} {target : ℕ} {t u : Table} → Differ reading bytes target t u → {before after : Lists} {answer : Joined}
    → Import.Answers reading bytes target t before answer after → Import.Answers reading bytes target u before answer after
imported d (Import.loop_refused a) = Import.loop_refused a
imported d (Import.loop_accepted streams {layers = layers} a l j) = Import.loop_accepted streams a l (whole (d streams layers a l) j)

pub same_import : SameImport
same_import reading bytes target t u d before answer after =
    (λ a. imported d a, λ a. imported (λ streams layers l m. turned (d streams layers l m)) a)
