-- The content of an accepted answer both ways: the computed units, their order, their sizes, rows and lags are those that `Accepted` asks for (`accepted`), and no
-- others are (`accepted_only`).
-- Assumes nothing.
use Prim.Native.Nat.{ℕ, ◌<◌}
use mathlib.Core.Bool.{true}
use mathlib.Core.List.{List, map}
use mathlib.Core.Path.{◌≡◌, refl, sym, ◌∙◌, ap, subst}
use lib.IntN.{ℤ}
use lib.ListN.{length, get_or}
use Rattle.buffers.specs.Buffers.{over}
use Rattle.closure.specs.declared.Layers.{Layers}
use Rattle.combinators.specs.Ascending.{Ascending, those_ascending, ascending_one}
use Rattle.combinators.specs.Below.{count_alike}
use Rattle.combinators.specs.Bools.{same_test}
use Rattle.combinators.specs.Lists.{gather}
use Rattle.combinators.specs.Members.{member, member_at, member_which}
use Rattle.combinators.specs.Once.{once_places, once_count}
use Rattle.combinators.specs.Those.{those, length_those}
use Rattle.rows.specs.Table.{Table, rows_in}
use Rattle.claims.specs.Meaning.{Head}
use Rattle.spans.specs.Spans.{is_closure_row}
use Rattle.spans.specs.Meaning.{ClosureRow}
use Rattle.spans.proofs.Meant.{row_counts, counts_row}
use Rattle.heads.specs.Units.{Frame, is_head, assembly_of, unit_of, lags_of, units_in}
use Rattle.heads.specs.Orderly.{Orderly, Framed}
use Rattle.heads.proofs.Meant.{head_meant, head_only}
use Rattle.heads.proofs.Apart.{Differ}
use Rattle.unit_lists.specs.Sequence.{heads_in_order, unit_rows, unit_lags, unit_sizes, Lists, lists, lists_over}
use Rattle.unit_lists.specs.Meaning.{ComesBefore, HeadsInOrder}
use Rattle.unit_lists.proofs.Order.{never_itself}
use Rattle.unit_lists.proofs.Meant.{heads_in_order_lem, heads_only, units_meant, units_only}
use Rattle.join_answers.specs.Joining.{closure_rows, room_of}
use Rattle.join_answers.specs.Meaning.{TooSmall, Accepted}

module _ (layers : Layers) (target closure : ℕ) (t : Table) (orderly : Orderly layers target closure t) where
  -- ---- the closure rows of the table

  pub closure_rows_ascending : Ascending (ClosureRow layers target t) (those (is_closure_row t closure) (rows_in t))
  closure_rows_ascending =
      those_ascending (ClosureRow layers target t) (is_closure_row t closure) (rows_in t)
      (λ k h e. counts_row layers target closure orderly.closed_over.whole t k h e)
      (λ k c. (c.inside, row_counts layers target closure orderly.closed_over.whole t k c))

  pub closure_rows_only : (rows : List ℕ) → Ascending (ClosureRow layers target t) rows → length rows ≡ closure_rows t closure
  closure_rows_only rows a =
      ap length (ascending_one (ClosureRow layers target t) rows (those (is_closure_row t closure) (rows_in t)) a closure_rows_ascending)
      ∙ length_those (is_closure_row t closure) (rows_in t)

  -- ---- no head comes before itself, so that none stands twice in a list of heads in order

  pub heads_differ : (heads : List ℕ) → HeadsInOrder layers target t heads → Differ heads
  heads_differ heads o i j h l e =
      never_itself layers target closure orderly.closed_over.whole t (get_or heads i 0)
      (subst (ComesBefore layers target t (get_or heads i 0)) (sym e) (o.in_order i j h l))

  module _ (f : Frame) (framed : Framed layers closure t f) where
    -- as many units as heads
    pub units_counted : (heads : List ℕ) → HeadsInOrder layers target t heads → units_in t f ≡ length heads
    units_counted heads o =
        count_alike (is_head t f) (λ k. member k heads) (rows_in t) (λ k h. same_test (is_head t f k) (member k heads) (there k h) (back k))
        ∙ once_count heads (rows_in t) (once_places heads (heads_differ heads o)) (λ i h. (o.each i h).inside)
      where
        there : (k : ℕ) → k < rows_in t → is_head t f k ≡ true → member k heads ≡ true
        there k h e =
            let w = o.all k (head_meant layers target closure t orderly f framed k h e) in
            subst (λ (j : ℕ). member j heads ≡ true) w.2 (member_at heads w.0 w.1)

        back : (k : ℕ) → member k heads ≡ true → is_head t f k ≡ true
        back k e =
            let w = member_which k heads e in
            head_only layers target closure t orderly f framed k (subst (Head layers target t) w.2 (o.each w.0 w.1))

    -- ---- THE CONTENT

    module _ (before : Lists) where
      pub accepted : ((k : ℕ) → Head layers target t k → (assembly_of t f k).complete ≡ true)
          → (TooSmall (closure_rows t closure) (room_of before) → ⊥)
          → Accepted layers target t before (units_in t f) (closure_rows t closure) (lists_over t f before)
      accepted complete enough =
          let o = heads_in_order_lem layers target closure t orderly f framed in
          record {
            heads = heads_in_order t f;
            in_order = o;
            number_of_units = units_counted (heads_in_order t f) o;
            closure_rows = those (is_closure_row t closure) (rows_in t);
            all_closure_rows = closure_rows_ascending;
            number_of_rows = sym (length_those (is_closure_row t closure) (rows_in t));
            enough_room = enough;
            numbers = unit_rows t f;
            lags = unit_lags t f;
            sizes = unit_sizes t f;
            units_of_heads = units_meant layers target closure t orderly f framed complete (heads_in_order t f) o.each;
            lists_hold = refl;
          }

      pub content_only : {units rows : ℕ} {after : Lists} → (a : Accepted layers target t before units rows after)
          → (a.sizes ≡ unit_sizes t f) × (a.numbers ≡ unit_rows t f) × (a.lags ≡ unit_lags t f)
      content_only a =
          let same = heads_only layers target closure t orderly f framed a.heads a.in_order in
          let content = units_only layers target closure t orderly f framed a.in_order.each a.units_of_heads in (
            content.0 ∙ ap (map (λ head. length (unit_of t f head))) same,
            content.1 ∙ ap (gather (unit_of t f)) same,
            content.2 ∙ ap (gather (lags_of t f)) same,
          )

      pub accepted_only : {units rows : ℕ} {after : Lists} → Accepted layers target t before units rows after
          → (units ≡ units_in t f) × (rows ≡ closure_rows t closure) × (after ≡ lists_over t f before)
      accepted_only a =
          let content = content_only a in (
            a.number_of_units ∙ sym (units_counted a.heads a.in_order),
            a.number_of_rows ∙ closure_rows_only a.closure_rows a.all_closure_rows,
            a.lists_hold
                ∙ ap (λ (numbers : List ℕ). lists (over numbers before.numbers) (over a.lags before.lags) (over a.sizes before.sizes))
                content.1
                ∙ ap (λ (lags : List ℤ). lists (over (unit_rows t f) before.numbers) (over lags before.lags) (over a.sizes before.sizes))
                content.2
                ∙ ap (λ (sizes : List ℕ). lists (over (unit_rows t f) before.numbers) (over (unit_lags t f) before.lags) (over sizes before.sizes))
                content.0,
          )
