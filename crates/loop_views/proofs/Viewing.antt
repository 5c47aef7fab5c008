-- The walk that looks for the two views: what it kept of the entries so far, continued over those that are left, comes to the rule over all of them.
-- Assumes nothing.
use Prim.Native.Nat.{ℕ, ◌+◌, ◌≤◌, ◌<◌}
use mathlib.Core.Path.{◌≡◌, sym, ◌∙◌, ap}
use mathlib.Core.Bool.{Bool, true, false}
use mathlib.Core.List.{List, [], ◌∷◌, map}
use native.Mathlib.Omega.{arith}
use lib.ListN.{length, take, drop, drop_of_length-le}
use Rattle.combinators.specs.Lists.{part_to_end}
use Rattle.framing.specs.Pieces.{whole}
use Rattle.vocabulary.specs.declared.stream_types.Reading.{Reading}
use Rattle.implied.specs.declared.Views.{Views}
use Rattle.implied.specs.Walking.{no_views, view_next, views_after, is_pair}
use Rattle.implied.proofs.Walk.{pair_walked, spoiled_stays}
use Rattle.loop_entries.specs.declared.Stream.{Stream}
use Rattle.loop_entries.specs.Entries.{no_stream, size_of, stream_of, shown_of, pair_of, streams_alone}
use Rattle.loop_entries.proofs.Front.{left_at, left_long, front_broken, front_of}

module _ (reading : Reading) (bytes : List ℕ) where
  abbrev pair_from : Views → List Stream → Bool
  pair_from views streams = is_pair (views_after views (map shown_of streams))

  -- where the walk stands, and what it kept
  pub record Viewed (views : Views) (at : ℕ) : Type 0 where
    pub within : at ≤ length bytes
    pub leads : pair_from views (streams_alone reading (drop at bytes)) ≡ pair_of (streams_alone reading bytes)

  pub viewed_start : Viewed no_views 0
  viewed_start = record { within = omega arith; leads = pair_walked (map shown_of (streams_alone reading bytes)) }

  module _ (views : Views) (at : ℕ) (known : Viewed views at) where
    -- after the last entry
    pub viewed_all : length bytes ≤ at → is_pair views ≡ pair_of (streams_alone reading bytes)
    viewed_all done = sym (ap (λ (l : List ℕ). pair_from views (streams_alone reading l)) (drop_of_length-le bytes done)) ∙ known.leads

    -- whatever follows
    pub viewed_spoiled : views.spoiled ≡ true → false ≡ pair_of (streams_alone reading bytes)
    viewed_spoiled p = sym (spoiled_stays views (map shown_of (streams_alone reading (drop at bytes))) p) ∙ known.leads

    module _ (more : at < length bytes) (size : ℕ) (is-size : size ≡ size_of (left_at reading bytes at)) where
      abbrev left : List ℕ
      left = left_at reading bytes at

      continued : (streams : List Stream) → streams_alone reading left ≡ streams → pair_from views streams ≡ pair_of (streams_alone reading bytes)
      continued streams e =
          ap (pair_from views) (sym e) ∙ ap (λ (l : List ℕ). pair_from views (streams_alone reading l)) (part_to_end bytes at) ∙ known.leads

      -- an entry that does not fit is the last, and no view
      pub viewed_broken : length left < size → is_pair views ≡ pair_of (streams_alone reading bytes)
      viewed_broken short =
          continued (no_stream ∷ []) (front_broken reading bytes left at (part_to_end bytes at) (omega (arith, left_long reading bytes at)) (rw (← is-size) short))

      -- another entry
      pub viewed_next : size ≤ length left → (after : Views)
          → after ≡ view_next views (shown_of (stream_of reading (whole (take 5 (take size left)) (drop 5 (take size left))))) → Viewed after (at + size)
      viewed_next room after is_after =
          record {
            within = omega (arith, left_long reading bytes at);
            leads = rw is_after
                (continued _ (front_of reading bytes left at (part_to_end bytes at) (omega (arith, left_long reading bytes at)) size is-size room));
          }
