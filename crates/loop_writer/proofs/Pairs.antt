-- The pass that looks for the two views, wherever the entries come from: what it kept of those so far, continued over those that are left, comes to the rule over
-- all of them.
-- Assumes nothing.
use Prim.Native.Nat.{ℕ, ◌+◌, ◌≤◌, ◌<◌}
use mathlib.Core.Path.{◌≡◌, sym, ◌∙◌, ap}
use mathlib.Core.Bool.{Bool}
use mathlib.Core.List.{List, map}
use native.Mathlib.Omega.{arith}
use native.Mathlib.Numerals.{add-one}
use lib.ListN.{length, drop, get_or, drop_of_length-le}
use lib.Seq.{drop-cons}
use Rattle.implied.specs.declared.Views.{Views}
use Rattle.implied.specs.Walking.{no_views, view_next, views_after, is_pair}
use Rattle.implied.proofs.Walk.{pair_walked}
use Rattle.loop_entries.specs.declared.Entry.{Entry}
use Rattle.loop_entries.specs.Entries.{shown_of}
use Rattle.loop_writer.specs.Verdict.{stream_for, pair_for}

module _ (entries : List Entry) where
  abbrev pair_from : Views → List Entry → Bool
  pair_from views left = is_pair (views_after views (map shown_of (map stream_for left)))

  pub record Viewed (views : Views) (i : ℕ) : Type 0 where
    pub within : i ≤ length entries
    pub leads : pair_from views (drop i entries) ≡ pair_for entries

  pub viewed_start : Viewed no_views 0
  viewed_start = record { within = omega arith; leads = pair_walked (map shown_of (map stream_for entries)) }

  module _ (views : Views) (i : ℕ) (known : Viewed views i) where
    -- another entry, with the values that the code holds
    pub viewed_next : i < length entries → (d e : Entry) → get_or entries i d ≡ e → (after : Views) → after ≡ view_next views (shown_of (stream_for e))
        → Viewed after (i + 1)
    viewed_next inside d e here after is_after =
        record {
          within = omega arith;
          leads = rw (is_after, add-one i, ← here) (sym (ap (pair_from views) (drop-cons entries i d inside)) ∙ known.leads);
        }

    -- all of them
    pub viewed_end : length entries ≤ i → is_pair views ≡ pair_for entries
    viewed_end done = sym (ap (pair_from views) (drop_of_length-le entries done)) ∙ known.leads
