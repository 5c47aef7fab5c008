-- What was placed so far, continued over the entries that are left, is the answer.
-- Assumes nothing.
use mathlib.Core.Path.{◌≡◌, ap}
use mathlib.Core.List.{List, ◌∷◌}
use Rattle.loop_entries.specs.declared.Entry.{Entry}
use Rattle.loop_entries.specs.Entries.{blank_entry}
use Rattle.loop_layers.specs.Layers.{column_with, embedded_in}
use Rattle.loop_layers.proofs.Walked.{layers_with, column_put}
use Rattle.layer_set.specs.declared.«set».Placed.{Placed}
use Rattle.layer_set.specs.Sets.{placed_of, placed_next}

abbrev pub placed_with : Placed → List Entry → Placed
placed_with placed es = record { layers = layers_with placed.layers es; entries = column_with (λ e. e) placed.entries es }

pub placed_next_lem : (placed after : Placed) (e : Entry) (es all : List Entry) → placed_with placed (e ∷ es) ≡ placed_of all → after ≡ placed_next placed e
    → placed_with after es ≡ placed_of all
placed_next_lem placed after e es all inv is_after =
    rw (
      is_after,
      column_put embedded_in placed.layers.embedded e es all 0 (ap (λ (p : Placed). p.layers.embedded) inv),
      column_put (λ e. e) placed.entries e es all blank_entry (ap (λ (p : Placed). p.entries) inv),
    )
    inv
