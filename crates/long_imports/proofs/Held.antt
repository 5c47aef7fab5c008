-- The first rows of the columns joined, as many as were read.
-- Assumes nothing.
use Rattle.std.specs.Prelude.{Err, Ok}
use Prim.Native.Nat.{ℕ, ◌≤◌, min}
use mathlib.Core.Path.{◌≡◌, refl, sym, ap, ◌∙◌}
use mathlib.Core.Bool.{Bool, true, false, cond}
use native.Mathlib.Omega.{arith}
use borrow.Author.Tests.{ltb-false}
use lib.Dec.{ltb}
use Rattle.vocabulary.specs.declared.refusal.Refusal.TheVariants.{OutOfRange}
use Rattle.closure.specs.declared.Layers.{Layers}
use Rattle.rows.specs.Table.{Table}
use Rattle.unit_lists.specs.Sequence.{Lists}
use Rattle.join_answers.specs.Answer.{Joined}
use Rattle.join_answers.specs.Joining.{Room, joined_of, lists_after}
use Rattle.recording_imports.specs.Answer.{RowsRead, Imported}
use Rattle.recording_imports.specs.declared.Unread.TheVariants.{Refused, NotRead}
use Rattle.recording_imports.specs.Imports.{held_rows, first_rows, imported_of, rows_held, join_held, lists_held, lists_with}

-- rows that are there are no more than there is room for
by_test : (room n count : ℕ) (test : Bool) → ltb room n ≡ test → cond test (Err (Refused (OutOfRange 0))) (Ok n) ≡ Ok count → count ≤ room
by_test room n count true t e = let z : ◌≡◌ {A = ℕ} 0 1 = cc in absurd (omega arith)
by_test room n count false t e = let same : n ≡ count = cc in let short = ltb-false room n t in omega arith

pub within : (room : ℕ) (rows : RowsRead) (count : ℕ) → held_rows room rows ≡ Ok count → count ≤ room
within room (Ok n) count e = by_test room n count (ltb room n) refl e
within room (Err (Refused refusal)) count e = let z : ◌≡◌ {A = ℕ} 0 1 = cc in absurd (omega arith)
within room (Err (NotRead refusal packet)) count e = let z : ◌≡◌ {A = ℕ} 0 1 = cc in absurd (omega arith)

pub in_columns : (most indices decodings matches : ℕ) (rows : RowsRead) {held : RowsRead} (count : ℕ) → held ≡ held_rows (min most (min indices (min decodings matches))) rows
    → held ≡ Ok count → (count ≤ indices) × ((count ≤ decodings) × (count ≤ matches))
in_columns most indices decodings matches rows count is there =
    let short = within (min most (min indices (min decodings matches))) rows count (sym is ∙ there) in (omega arith, (omega arith, omega arith))

-- the lists go by the answer of joining
same_after : (layers : Layers) (t : Table) (joined : Joined) (before : Lists) → lists_after layers t joined before ≡ lists_with layers t (imported_of joined) before
same_after layers t (Ok joined) before = refl
same_after layers t (Err refusal) before = refl

module _ (most : ℕ) (layers : Layers) (target : ℕ) (t : Table) (room : Room) (before : Lists) (rows : RowsRead) where
  abbrev pub Joins : Imported → Lists → Type 0
  Joins answer after = (answer ≡ join_held most layers target t room (rows_held most t rows)) × (after ≡ lists_held layers t (rows_held most t rows) answer before)

  -- what is answered, given what rows are there
  pub by_held : (held : RowsRead) {answer : Imported} {after : Lists} → held ≡ rows_held most t rows → answer ≡ join_held most layers target t room held
      → after ≡ lists_held layers t held answer before → Joins answer after
  by_held held {answer} is a l =
      (a ∙ ap (join_held most layers target t room) is, l ∙ ap (λ (h : RowsRead). lists_held layers t h answer before) is)

  pub rows_joined : {held : RowsRead} (count : ℕ) {joined : Joined} {answer : Imported} {after : Lists} → held ≡ rows_held most t rows → held ≡ Ok count
      → joined ≡ joined_of most layers target (first_rows count t) room → answer ≡ imported_of joined → after ≡ lists_after layers (first_rows count t) joined before
      → Joins answer after
  rows_joined count {joined} {answer} is there j a l =
      by_held (Ok count) (sym there ∙ is) (a ∙ ap imported_of j)
      (l ∙ same_after layers (first_rows count t) joined before ∙ ap (λ (r : Imported). lists_with layers (first_rows count t) r before) (sym a))
