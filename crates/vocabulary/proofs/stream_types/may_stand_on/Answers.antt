-- `vocabulary::may_stand_on` meets its contract: one test, computed over all 16 hierarchy types and 64 stream types, says that the
-- bit of the constant table is what document 01's list has; past either bound the list has nothing.
-- Assumes nothing.
use Prim.Native.Nat.{ℕ, ◌/◌, ◌%◌, ◌^◌}
use native.Mathlib.Omega.{arith}
use mathlib.Core.Path.{◌≡◌, ap, sym, refl}
use mathlib.Core.Bool.{Bool, true, beq}
use mathlib.Core.List.{List, [], ◌∷◌}
use lib.Dec.{eqb}
use lib.ListN.{get_or, get_or-eq_default}
use Rattle.combinators.specs.Bools.{agree, true_T}
use Rattle.combinators.specs.Below.{every, every_at}
use Rattle.combinators.specs.Members.{member, all_below, past_member}
use Rattle.vocabulary.specs.StreamTypes.{stream_types, may_stand_on}
use Rattle.vocabulary.proofs.stream_types.may_stand_on.Goals as goal

-- the constant table of the source
sets : List ℕ
sets =
    0
    ∷ 0xF3088000000
    ∷ 0xF3088000000
    ∷ 0xF3088000000
    ∷ 0xF3088000000
    ∷ 0xF3088000000
    ∷ 0xF3088000000
    ∷ 0xF3088000000
    ∷ 0xF3088000000
    ∷ 0x100000000
    ∷ 0
    ∷ 0
    ∷ 0
    ∷ 0
    ∷ 0
    ∷ 0x1008000000
    ∷ []

bit : ℕ → ℕ → Bool
bit h t = eqb (get_or sets h 0 / 2 ^ t % 2) 1

right : ℕ → ℕ → Bool
right h t = beq (bit h t) (may_stand_on h t)

all_right : every (λ h. every (right h) 64) 16 ≡ true
unfolding sets bit right
all_right = refl

all_small : every (λ h. all_below 64 (get_or stream_types h [])) 16 ≡ true
all_small = refl

pub returns-then-hierarchy_type-ge16 : goal.returns-then-hierarchy_type-ge16
returns-then-hierarchy_type-ge16 c =
    let a = c.args in
    sym (ap (member a.stream_type) (get_or-eq_default stream_types [] {n = a.hierarchy_type} (omega arith)))

pub returns-then-stream_type-ge64 : goal.returns-then-stream_type-ge64
returns-then-stream_type-ge64 c =
    let a = c.args in
    sym (past_member 64 (get_or stream_types a.hierarchy_type []) (every_at (λ h. all_below 64 (get_or stream_types h [])) 16 all_small a.hierarchy_type (omega arith))
    a.stream_type (omega arith))

-- LEFT: no goal of today has the name array-read-result
-- array-read-result : tie.Need-array-read-result
-- array-read-result c = search rules

pub returns : goal.returns
unfolding sets bit right
returns c =
    let a = c.args in
    agree (bit a.hierarchy_type a.stream_type) (may_stand_on a.hierarchy_type a.stream_type)
    (true_T (right a.hierarchy_type a.stream_type)
    (every_at (right a.hierarchy_type) 64 (every_at (λ h. every (right h) 64) 16 all_right a.hierarchy_type (omega arith))
    a.stream_type (omega arith)))
