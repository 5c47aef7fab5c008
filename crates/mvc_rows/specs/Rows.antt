-- An MVC extension descriptor as a row of 8 numbers, one for each field of its table, in the table's order: the row that is laid is `mvc_extension_fields`, the values of
-- the table. Here is the row that stands in a caller's numbers, and the descriptor out of it.
-- Assumes nothing.
use Rattle.std.specs.Prelude.{ℕ, ◌+◌, List, [], ◌∷◌, get_or}
use Rattle.syntax.specs.Named.{by_names}
use Rattle.mvc_extension.specs.declared.MvcExtension.{MvcExtension}
use Rattle.mvc_extension.specs.MvcExtension.{mvc_extension_descriptor, mvc_extension_from}

-- 'a number that is not there is 0'
abbrev pub fields_at : List ℕ → ℕ → List ℕ
fields_at numbers start =
    get_or numbers start 0
    ∷ get_or numbers (start + 1) 0
    ∷ get_or numbers (start + 2) 0
    ∷ get_or numbers (start + 3) 0
    ∷ get_or numbers (start + 4) 0
    ∷ get_or numbers (start + 5) 0
    ∷ get_or numbers (start + 6) 0
    ∷ get_or numbers (start + 7) 0
    ∷ []

abbrev pub extension_at : List ℕ → ℕ → MvcExtension
extension_at numbers start = mvc_extension_from (by_names mvc_extension_descriptor (fields_at numbers start))
