-- `row_weighing::hierarchy_number` meets its contract: the tests on the way to each return say which condition holds first.
-- Assumes nothing.
use Prim.Native.Nat.{ℕ}
use mathlib.Core.Path.{◌≡◌, sym, ◌∙◌}
use mathlib.Core.List.{List}
use Rattle.combinators.specs.Lists.{first_true}
use Rattle.loop_faults.specs.Outlined.{tests}
use Rattle.entry_rows.proofs.Judged.{type_bound, hierarchy_fine}
use Rattle.row_weighing.proofs.Numbers.{outline_with, hierarchy_tests}
use Rattle.row_weighing.proofs.hierarchy_number.Goals as goal

pub returns-then-pid_seen : goal.returns-then-pid_seen
returns-then-pid_seen c = rw c.if-pid_seen.true

pub hierarchy_in-hierarchy-requires : goal.hierarchy_in-hierarchy-requires
hierarchy_in-hierarchy-requires c = let start = c.before.before in (start.requires.0, hierarchy_fine _ start.requires.1 start.requires.2)

pub overflow_cast-row : goal.overflow_cast-row
overflow_cast-row c = record { fits = type_bound _ c.requires.1 }

pub returns-then-type_not_allowed : goal.returns-then-type_not_allowed
returns-then-type_not_allowed c =
    let a = c.args in
    let row : List ℕ = a.row.now in
    let made = c.hierarchy_in-hierarchy in
    let first : 6 ≡ first_true (tests a.given a.pid_seen a.index_held (outline_with row made.result)) = rw (c.if-pid_seen.false, sym c.type_not_allowed.ensures ∙ c.if-type_not_allowed.true) in
    first ∙ hierarchy_tests row c.requires.2 a.given a.pid_seen a.index_held made.result made.ensures

pub returns-then-wrong_flags : goal.returns-then-wrong_flags
returns-then-wrong_flags c =
    let a = c.args in
    let row : List ℕ = a.row.now in
    let made = c.hierarchy_in-hierarchy in
    let first : 7 ≡ first_true (tests a.given a.pid_seen a.index_held (outline_with row made.result)) = rw (c.if-pid_seen.false, sym c.type_not_allowed.ensures ∙ c.if-type_not_allowed.false, sym c.wrong_flags.ensures ∙ c.if-wrong_flags.true) in
    first ∙ hierarchy_tests row c.requires.2 a.given a.pid_seen a.index_held made.result made.ensures

pub returns-then-index_held : goal.returns-then-index_held
returns-then-index_held c =
    let a = c.args in
    let row : List ℕ = a.row.now in
    let made = c.hierarchy_in-hierarchy in
    let first : 8 ≡ first_true (tests a.given a.pid_seen a.index_held (outline_with row made.result)) = rw (c.if-pid_seen.false, sym c.type_not_allowed.ensures ∙ c.if-type_not_allowed.false, sym c.wrong_flags.ensures ∙ c.if-wrong_flags.false, c.if-index_held.true) in
    first ∙ hierarchy_tests row c.requires.2 a.given a.pid_seen a.index_held made.result made.ensures

pub returns-then-wrong_hierarchy_index : goal.returns-then-wrong_hierarchy_index
returns-then-wrong_hierarchy_index c =
    let a = c.args in
    let row : List ℕ = a.row.now in
    let made = c.hierarchy_in-hierarchy in
    let first : 9 ≡ first_true (tests a.given a.pid_seen a.index_held (outline_with row made.result)) = rw (c.if-pid_seen.false, sym c.type_not_allowed.ensures ∙ c.if-type_not_allowed.false, sym c.wrong_flags.ensures ∙ c.if-wrong_flags.false, c.if-index_held.false, sym c.wrong_hierarchy_index.ensures ∙ c.if-wrong_hierarchy_index.true) in
    first ∙ hierarchy_tests row c.requires.2 a.given a.pid_seen a.index_held made.result made.ensures

pub returns : goal.returns
returns c =
    let a = c.args in
    let row : List ℕ = a.row.now in
    let made = c.hierarchy_in-hierarchy in
    let first : 10 ≡ first_true (tests a.given a.pid_seen a.index_held (outline_with row made.result)) = rw (c.if-pid_seen.false, sym c.type_not_allowed.ensures ∙ c.if-type_not_allowed.false, sym c.wrong_flags.ensures ∙ c.if-wrong_flags.false, c.if-index_held.false, sym c.wrong_hierarchy_index.ensures ∙ c.if-wrong_hierarchy_index.false) in
    first ∙ hierarchy_tests row c.requires.2 a.given a.pid_seen a.index_held made.result made.ensures
