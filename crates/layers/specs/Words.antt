-- The words that the program takes.
-- Assumes nothing.
use Rattle.std.specs.Prelude.{ℕ, List, ◌≡◌, Option, Some, None}
use Rattle.text.specs.Text.{ascii}
use Rattle.vocabulary.specs.declared.stream_types.Reading.{Reading}
use Rattle.vocabulary.specs.declared.stream_types.Reading.TheVariants.{Edition2009, Edition2015}

-- a reading is asked for by its year, and by nothing else
abbrev pub Asks : Option Reading → List ℕ → Type 0
Asks (Some Edition2009) word = word ≡ ascii "2009"
Asks (Some Edition2015) word = word ≡ ascii "2015"
Asks None word = (word ≡ ascii "2009" → ⊥) × (word ≡ ascii "2015" → ⊥)
