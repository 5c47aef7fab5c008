-- The head of every descriptor.
-- Assumes nothing.
use Rattle.std.specs.Prelude.{ℕ, ◌+◌, cond, List, [], ◌∷◌, Option, None, Some, ltb, length}
use Rattle.syntax.specs.Table.{Table, value}
use Rattle.syntax.specs.Named.{given_to, read_by}
use Rattle.syntax.specs.Filled.{Filled, filled}
use Rattle.descriptor_heads.specs.declared.Framed.{Framed}

abbrev pub descriptor_head : Table
descriptor_head = value 8 "descriptor_tag" ∷ value 8 "descriptor_length" ∷ []

-- the two values of a head that is read
abbrev pub descriptor_tag : List ℕ → ℕ
descriptor_tag head = given_to "descriptor_tag" (read_by descriptor_head head)

abbrev pub descriptor_length : List ℕ → ℕ
descriptor_length head = given_to "descriptor_length" (read_by descriptor_head head)

-- The descriptor at the front of some bytes: it fits when they hold its head and as many bytes after it as the head says.
abbrev pub framed_of : List ℕ → Option Framed
framed_of left =
    cond (ltb (length left) (2 + descriptor_length left)) None (Some (record { tag = descriptor_tag left; end = 2 + descriptor_length left }))

-- the head that is written before a payload of so many bytes
abbrev pub head_table : ℕ → ℕ → Filled
head_table tag length = filled descriptor_head (("descriptor_tag", tag) ∷ ("descriptor_length", length) ∷ [])
