-- The reading before W-206 gave one answer: the lowest number that applied, at its earliest place, or every entry.
-- Assumes nothing.
use Prim.Native.Nat.{ℕ, ◌≤◌, ◌<◌}
use mathlib.Core.Path.{◌≡◌, refl, sym, ◌∙◌, subst}
use mathlib.Core.List.{List, map}
use native.Mathlib.Omega.{arith}
use native.Mathlib.Decide.{dec_lt}
use lib.ListN.{length}
use Rattle.framing.specs.Pieces.{Item, cut}
use Rattle.framing.proofs.Pieces.{cuts_unique}
use Rattle.vocabulary.specs.declared.stream_types.Reading.{Reading}
use Rattle.loop_entries.specs.declared.Stream.{Stream}
use Rattle.loop_entries.specs.Entries.{es_info_length, stream_of, marked_streams}
use Rattle.es_loop.proofs.Meant.{by_head}
use Rattle.embedding.specs.Before.{Told, refused, accepted}
use Rattle.embedding.specs.ReadingBefore.{Condition, Answers, too_long_lem, refuses, accepts}

module _ (reading : Reading) where
  -- an answer that is no 1, over the entries that the bytes are cut into
  data Over (entries : List Item) : Told (List Stream) → Type 0 where
    lowest : {number place : ℕ} → Condition reading entries number place → ((m j : ℕ) → m < number → Condition reading entries m j → ⊥)
        → ((j : ℕ) → j < place → Condition reading entries number j → ⊥) → Over entries (refused number place)
    none : ((n k : ℕ) → Condition reading entries n k → ⊥) → Over entries (accepted (marked_streams (map (stream_of reading) entries)))

  one_over : {entries : List Item} {a b : Told (List Stream)} → Over entries a → Over entries b → a ≡ b
  one_over (none n) (none m) = refl
  one_over (none n) (lowest {number} {place} c lower earlier) = absurd (n number place c)
  one_over (lowest {number} {place} c lower earlier) (none n) = absurd (n number place c)
  one_over {entries} (lowest {number = n} {place = k} c lower earlier) (lowest {number = m} {place = j} d below before) = by_number (dec_lt n m) (dec_lt m n)
    where
      by_place : n ≡ m → Dec (k < j) → Dec (j < k) → ◌≡◌ {A = Told (List Stream)} (refused n k) (refused m j)
      by_place e (yes h) q = absurd (before k h (subst (λ (i : ℕ). Condition reading entries i k) e c))
      by_place e (no h) (yes l) = absurd (earlier j l (subst (λ (i : ℕ). Condition reading entries i j) (sym e) d))
      by_place e (no h) (no l) =
          let same : k ≡ j = omega arith in
          rw (e, same)

      by_number : Dec (n < m) → Dec (m < n) → ◌≡◌ {A = Told (List Stream)} (refused n k) (refused m j)
      by_number (yes h) q = absurd (below n k h c)
      by_number (no h) (yes l) = absurd (lower m j l d)
      by_number (no h) (no l) = by_place (omega arith) (dec_lt k j) (dec_lt j k)

  module _ (bytes : List ℕ) where
    data Case (answer : Told (List Stream)) : Type 0 where
      long : 1008 < length bytes → answer ≡ refused 1 0 → Case answer
      short : length bytes ≤ 1008 → Over (cut 5 es_info_length bytes) answer → Case answer

    case : {answer : Told (List Stream)} → Answers reading bytes answer → Case answer
    case (too_long_lem h) = long h refl
    case {answer} (refuses h cuts c lower earlier) =
        short h (subst (λ (entries : List Item). Over entries answer) (cuts_unique 5 es_info_length (omega arith) by_head cuts) (lowest c lower earlier))
    case {answer} (accepts h cuts n) =
        short h (subst (λ (entries : List Item). Over entries answer) (cuts_unique 5 es_info_length (omega arith) by_head cuts) (none n))

    one_case : {a b : Told (List Stream)} → Case a → Case b → a ≡ b
    one_case (long h e) (long l f) = e ∙ sym f
    one_case (long h e) (short l o) = absurd (omega arith)
    one_case (short h o) (long l f) = absurd (omega arith)
    one_case (short h o) (short l p) = one_over o p

    pub one_answer : {a b : Told (List Stream)} → Answers reading bytes a → Answers reading bytes b → a ≡ b
    one_answer a b = one_case (case a) (case b)
