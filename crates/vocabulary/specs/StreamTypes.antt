-- The stream types of document 01: which each reading knows, and which each hierarchy type may stand on.
-- Assumes nothing.
use Rattle.std.specs.Prelude.{ℕ, Bool, List, [], ◌∷◌, get_or}
use Rattle.combinators.specs.Members.{member}
use Rattle.vocabulary.specs.declared.stream_types.Reading.{Reading}
use Rattle.vocabulary.specs.declared.stream_types.Reading.TheVariants.{Edition2009, Edition2015}

-- 'Streams read for layers': AVC, SVC and MVC in 2009; in 2015 those, and the HEVC types 0x24, 0x25 and 0x28 to 0x2B
abbrev pub known_types : Reading → List ℕ
known_types Edition2009 = 0x1B ∷ 0x1F ∷ 0x20 ∷ []
known_types Edition2015 = 0x1B ∷ 0x1F ∷ 0x20 ∷ 0x24 ∷ 0x25 ∷ 0x28 ∷ 0x29 ∷ 0x2A ∷ 0x2B ∷ []

abbrev pub known : Reading → ℕ → Bool
known reading t = member t (known_types reading)

-- 'Hierarchy types by stream', all 16 values: 0 and 10 to 14 on none; 1 to 8 on every known type but 0x20; 9 on 0x20 only; 15 on
-- 0x1B and 0x24 only
abbrev pub known_but_mvc : List ℕ
known_but_mvc = 0x1B ∷ 0x1F ∷ 0x24 ∷ 0x25 ∷ 0x28 ∷ 0x29 ∷ 0x2A ∷ 0x2B ∷ []

abbrev pub stream_types : List (List ℕ)
stream_types =
    []
    ∷ known_but_mvc
    ∷ known_but_mvc
    ∷ known_but_mvc
    ∷ known_but_mvc
    ∷ known_but_mvc
    ∷ known_but_mvc
    ∷ known_but_mvc
    ∷ known_but_mvc
    ∷ (0x20 ∷ [])
    ∷ []
    ∷ []
    ∷ []
    ∷ []
    ∷ []
    ∷ (0x1B ∷ 0x24 ∷ [])
    ∷ []

abbrev pub may_stand_on : ℕ → ℕ → Bool
may_stand_on hierarchyType t = member t (get_or stream_types hierarchyType [])
