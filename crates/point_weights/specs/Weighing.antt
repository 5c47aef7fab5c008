-- The one pass over the rows: what they come to, row after row.
-- Assumes nothing.
use Rattle.std.specs.Prelude.{ℕ, ◌+◌, false, cond, not, ◌||◌, List, [], ◌∷◌, eqb, ltb, Err, Ok, Result}
use Rattle.vocabulary.specs.declared.refusal.Refusal.{Refusal}
use Rattle.vocabulary.specs.declared.refusal.Refusal.TheVariants.{TooWide, ReservedEsCount}
use Rattle.point_fields.specs.Fields.{row_too_wide, references_counted, layers_counted, fields_size}
use Rattle.point_weights.specs.Rows.{is_reserved}
use Rattle.point_weights.specs.declared.Weighed.{Weighed}
use Rattle.point_weights.specs.Answer.{Written}

abbrev pub nothing_weighed : Weighed
nothing_weighed = record { reserved = false; references = 0; layers = 0; size = 0 }

abbrev pub weigh_next : Weighed → List ℕ → Weighed
weigh_next seen row =
    record {
      reserved = seen.reserved || is_reserved row;
      references = seen.references + references_counted row;
      layers = seen.layers + layers_counted row;
      size = seen.size + fields_size row;
    }

-- A row that is too wide ends it.
abbrev pub weighed_after : Weighed → List (List ℕ) → Result Weighed Refusal
weighed_after seen [] = Ok seen
weighed_after seen (row ∷ rows) = cond (row_too_wide row) (Err TooWide) (weighed_after (weigh_next seen row) rows)

-- the verdict by it, in the order of `judged_points`
abbrev pub decided : Weighed → ℕ → ℕ → ℕ → Written
decided w profiles references layers =
    cond (not (eqb w.references references) || not (eqb w.layers layers)) (Err TooWide)
    (cond w.reserved (Err ReservedEsCount)
    (cond (ltb 255 (3 + profiles + w.references + w.layers + w.size)) (Err TooWide) (Ok (2 + (3 + profiles + w.references + w.layers + w.size)))))

abbrev pub decided_by : Result Weighed Refusal → ℕ → ℕ → ℕ → Written
decided_by (Err refusal) profiles references layers = Err refusal
decided_by (Ok w) profiles references layers = decided w profiles references layers
