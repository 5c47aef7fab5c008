-- Tables with the heads that W-204 gives them, each computed from the definition.
-- Assumes nothing.
use mathlib.Core.List.{[], ◌∷◌}
use mathlib.Core.Path.{◌≡◌, refl}
use lib.ListN.{replicate}
use Rattle.closure.specs.declared.Layers.{Layers}
use Rattle.rows.specs.Table.{Table, table}
use Rattle.claims.specs.Claims.{heads_of}

-- layer 1 embeds layer 0
abbrev two : Layers
two = record { present = 0b11; embedded = 0 ∷ 0b1 ∷ replicate 62 0 }

-- 'A 25-frame base with an enhancement at every second picture': the pictures that the base alone has head units of their own
abbrev half_rate : Table
half_rate = table (0 ∷ 1 ∷ 0 ∷ 0 ∷ 1 ∷ 0 ∷ []) (0 ∷ 0 ∷ 3600 ∷ 7200 ∷ 7200 ∷ 10800 ∷ []) (0 ∷ 0 ∷ 3600 ∷ 7200 ∷ 7200 ∷ 10800 ∷ [])

half_rate_lem : heads_of two 0b11 half_rate ≡ 1 ∷ 2 ∷ 4 ∷ 5 ∷ []
half_rate_lem = refl

-- over the closure of the base alone every row of the base heads a unit, and no row of the enhancement does
base_alone : heads_of two 0b1 half_rate ≡ 0 ∷ 2 ∷ 3 ∷ 5 ∷ []
base_alone = refl

-- it is the match time of the upper row that claims, and not its decoding time
abbrev delayed : Table
delayed = table (0 ∷ 0 ∷ 1 ∷ []) (3600 ∷ 7200 ∷ 3600 ∷ []) (3600 ∷ 7200 ∷ 7200 ∷ [])

by_match_time : heads_of two 0b11 delayed ≡ 0 ∷ 2 ∷ []
by_match_time = refl

-- layer 3 embeds 1 and 2, each of which embeds 0: both arms claim the one row of layer 0
abbrev diamond : Layers
diamond = record { present = 0b1111; embedded = 0 ∷ 0b1 ∷ 0b1 ∷ 0b110 ∷ replicate 60 0 }

two_arms : heads_of diamond 0b1111 (table (0 ∷ 1 ∷ 2 ∷ 3 ∷ []) (0 ∷ 0 ∷ 0 ∷ 0 ∷ []) (0 ∷ 0 ∷ 0 ∷ 0 ∷ [])) ≡ 3 ∷ []
two_arms = refl

-- any such row, whether or not it has an assembly itself: that of layer 3 claims the row of layer 1, although no row of layer 2 is there for its assembly
whether_or_not_assembled : heads_of diamond 0b1111 (table (0 ∷ 1 ∷ 3 ∷ []) (0 ∷ 0 ∷ 0 ∷ []) (0 ∷ 0 ∷ 0 ∷ [])) ≡ 2 ∷ []
whether_or_not_assembled = refl

-- rows of three layers at one time with nothing to claim them: three heads
abbrev apart : Layers
apart = record { present = 0b1111; embedded = 0 ∷ 0 ∷ 0 ∷ 0b111 ∷ replicate 60 0 }

three_heads : heads_of apart 0b1111 (table (2 ∷ 0 ∷ 1 ∷ []) (9 ∷ 9 ∷ 9 ∷ []) (9 ∷ 9 ∷ 9 ∷ [])) ≡ 0 ∷ 1 ∷ 2 ∷ []
three_heads = refl

-- a row of a layer outside the closure claims nothing, and heads nothing
outside : heads_of diamond 0b11 (table (0 ∷ 2 ∷ []) (0 ∷ 0 ∷ []) (0 ∷ 0 ∷ [])) ≡ 0 ∷ []
outside = refl

-- no closure row, no head
no_row : heads_of two 0b11 (table [] [] []) ≡ []
no_row = refl
