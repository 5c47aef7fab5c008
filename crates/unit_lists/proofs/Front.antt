-- The heads in order stand at the front of the list that was lent for them, and their units can be written.
-- Assumes nothing.
use Prim.Native.Nat.{ℕ, ◌≤◌, ◌<◌}
use mathlib.Core.List.{List, []}
use mathlib.Core.Path.{◌≡◌, sym, ◌∙◌, ap, ap₂, subst}
use native.Mathlib.Omega.{arith}
use lib.ListN.{length, get_or, take, drop}
use lib.Seq.{length-take-le, take-append_seam}
use Rattle.buffers.specs.Buffers.{over}
use Rattle.buffers.proofs.Laws.{over_length}
use Rattle.ordering.specs.Ordering.{ordered_by}
use Rattle.ordering.specs.Runs.{key_in}
use Rattle.ordering.proofs.Stored.{length_ordered}
use Rattle.rows.specs.Table.{Table}
use Rattle.unit_order.specs.Laying.{heads_first, Orderable}
use Rattle.unit_order.proofs.Bounds.{first_short}
use Rattle.unit_order.proofs.Each.{each_at}
use Rattle.heads.specs.Units.{Frame, frame}
use Rattle.unit_lists.specs.Sequence.{heads_in_order, Lists}
use Rattle.unit_lists.specs.Writing.{lists_kept, Fillable, Writable}
use Rattle.unit_lists.proofs.ByLayer.{Heads, each_head_in_order, orderable, laid_in_order}

module _ (t : Table) (f : Frame) (starts order keys kept places heads₀ : List ℕ) (numbers lags sizes : ℕ)
    (ready : Writable t f starts order keys kept places (length heads₀) numbers lags sizes) where
  pub to_order : Orderable f.closure starts order keys (length f.claimed) (length heads₀)
  to_order =
      orderable t f starts order ready.sorted keys (length heads₀) ready.within ready.marked ready.keys_long ready.keyed ready.rising
      ready.room_heads

  abbrev laid : List ℕ
  laid = heads_first f.closure f.claimed starts order 64

  module _ (count : ℕ) (after : List ℕ) (is-count : count ≡ length laid) (is_after : after ≡ over (ordered_by (key_in keys) laid) heads₀) where
    many : length (ordered_by (key_in keys) laid) ≡ count
    many = length_ordered (key_in keys) laid ∙ sym is-count

    fits : count ≤ length heads₀
    fits =
        omega (
          arith,
          is-count,
          first_short f.closure f.claimed starts order heads₀ to_order.parts 64 (omega arith),
          to_order.parts.fits,
        )

    pub front_short : count ≤ length after
    front_short = omega (arith, ap length is_after, over_length (ordered_by (key_in keys) laid) heads₀ (omega (arith, many, fits)), fits)

    pub front_long : count ≡ length (take count after)
    front_long = sym (length-take-le count after front_short)

    -- THE HEADS IN ORDER are what stands there
    pub front : take count after ≡ heads_in_order t f
    front =
        ap₂ (λ (n : ℕ) (l : List ℕ). take n l) (sym many) is_after
        ∙ take-append_seam (ordered_by (key_in keys) laid) (drop (length (ordered_by (key_in keys) laid)) heads₀)
        ∙ laid_in_order t f starts order ready.sorted keys ready.keyed

    pub fillable : Fillable t (frame 0 [] f.own []) kept places (take count after) numbers lags sizes
    fillable =
        subst (λ (heads : List ℕ). Fillable t (frame 0 [] f.own []) kept places heads numbers lags sizes) (sym front)
        record {
          decoded = ready.sorted.same_length;
          noted = ready.noted;
          row = λ i h. (at i h).row;
          layer = λ i h. (at i h).low;
          inside = λ i h. ready.inside (get_or (heads_in_order t f) i 0) (at i h).row (at i h).is_head;
          rows = λ i h. ready.rows (get_or (heads_in_order t f) i 0) (at i h).row (at i h).is_head;
          room_numbers = ready.room_numbers;
          room_lags = ready.room_lags;
          room_sizes = ready.room_sizes;
        }
      where
        at : (i : ℕ) → i < length (heads_in_order t f) → Heads t f 64 (get_or (heads_in_order t f) i 0)
        at i h = each_at (each_head_in_order t f) i h

    -- and so the lists then hold the units of the heads in order
    pub all_written : (before lists-after : Lists) → lists-after ≡ lists_kept t (frame 0 [] f.own []) kept places (take count after) before
        → lists-after ≡ lists_kept t f kept places (heads_in_order t f) before
    all_written before lists-after e = e ∙ ap (λ (heads : List ℕ). lists_kept t f kept places heads before) front
