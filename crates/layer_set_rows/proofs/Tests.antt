-- Tests of every index, from what a loop finds; the parts of rows; and what is placed, one entry more.
-- Assumes nothing.
use Prim.Native.Nat.{ℕ, ◌+◌, ◌-◌, ◌*◌, ◌≤◌, ◌<◌}
use mathlib.Core.Bool.{Bool, true, false, not, cond, ◌&&◌}
use mathlib.Core.List.{List, [], ◌∷◌, ◌++◌, map, append_assoc}
use mathlib.Core.Path.{◌≡◌, refl, sym, ap, ap₂, ◌∙◌}
use native.Mathlib.Decide.{dec_lt, ℕ_discrete}
use native.Mathlib.Omega.{arith}
use borrow.Author.Tests.{lt-ltb, le-ltb, eq-eqb, ne_eqb}
use lib.Dec.{eqb}
use lib.ListN.{length, get_or, take, drop, set, replicate, length-append, length-take, length-drop, length-replicate}
use lib.Seq.{take_at, take_all, set_out, length-take-le, get_or-set_same, get_or-set_other}
use Rattle.combinators.specs.Below.{every, every_at}
use Rattle.combinators.specs.Bools.{both_ways, false_unless}
use Rattle.combinators.specs.Lists.{gather_next}
use Rattle.sets.specs.Sets.{added}
use Rattle.records.specs.Records.{with_indices}
use Rattle.loop_entries.specs.declared.Entry.{Entry}
use Rattle.loop_entries.specs.Entries.{blank_entry}
use Rattle.implied.specs.Rule.{given}
use Rattle.judging.specs.Judging.{type_not_allowed, wrong_flags, wrong_embedded}
use Rattle.loop_faults.specs.Conditions.{slot_of}
use Rattle.entry_rows.specs.Rows.{row_at, some_too_wide, row_of, rows_of, entry_in}
use Rattle.entry_rows.proofs.Laws.{row_length}
use Rattle.loop_layers.specs.Layers.{place_of, column_with, column_of, embedded_in, put_at}
use Rattle.loop_layers.proofs.Columns.{column_length}
use Rattle.layer_set.specs.Sets.{entries_by, placed_of, placed_next, no_entry}
use Rattle.layer_set_rows.specs.Buffers.{wrong_at, right_at, same_numbers, row_right, pid_again, row_fine, rows_right, rows_hold}

pub not_every : (test : ℕ → Bool) (n k : ℕ) → k < n → test k ≡ false → every test n ≡ false
not_every test n k h e = false_unless (every test n) (λ t. both_ways (every_at test n t k h) e)

-- ---- one entry more

module _ {A : Type 0} (value : Entry → A) where
  column_more : (column : List A) (es : List Entry) (e : Entry) → column_with value column (es ++ e ∷ []) ≡ set (column_with value column es) (place_of e) (value e)
  column_more column [] e = refl
  column_more column (x ∷ es) e = column_more (set column (place_of x) (value x)) es e

  put_more : (blank : A) (es : List Entry) (e : Entry) → column_of blank value (es ++ e ∷ []) ≡ put_at (column_of blank value es) (place_of e) (value e)
  put_more blank es e = column_more (replicate 64 blank) es e ∙ go (dec_lt (place_of e) 64)
    where
      long : length (column_of blank value es) ≡ 64
      long = column_length value (replicate 64 blank) es ∙ length-replicate 64 blank

      go : Dec (place_of e < 64) → set (column_of blank value es) (place_of e) (value e) ≡ put_at (column_of blank value es) (place_of e) (value e)
      go (yes h) = sym (ap (λ (b : Bool). cond b (set (column_of blank value es) (place_of e) (value e)) (column_of blank value es)) (lt-ltb (place_of e) 64 h))
      go (no h) =
          let past : 64 ≤ place_of e = omega arith in
          set_out (column_of blank value es) (place_of e) (value e) (omega (arith, long))
          ∙ sym (ap (λ (b : Bool). cond b (set (column_of blank value es) (place_of e) (value e)) (column_of blank value es)) (le-ltb (place_of e) 64 past))

indices_more : (set : ℕ) (is : List ℕ) (i : ℕ) → with_indices set (is ++ i ∷ []) ≡ added (with_indices set is) i
indices_more set [] i = refl
indices_more set (x ∷ is) i = indices_more (added set x) is i

map_more : (es : List Entry) (e : Entry) → map place_of (es ++ e ∷ []) ≡ map place_of es ++ place_of e ∷ []
map_more [] e = refl
map_more (x ∷ es) e = ap (λ (l : List ℕ). place_of x ∷ l) (map_more es e)

pub placed_more : (es : List Entry) (e : Entry) → placed_of (es ++ e ∷ []) ≡ placed_next (placed_of es) e
placed_more es e =
    ap₂ (λ (p : ℕ) (m : List ℕ). record { layers = record { present = p; embedded = m }; entries = entries_by (es ++ e ∷ []) })
    (ap (with_indices 0) (map_more es e) ∙ indices_more 0 (map place_of es) (place_of e)) (put_more embedded_in 0 es e)
    ∙ ap (λ (l : List Entry). record { layers = (placed_next (placed_of es) e).layers; entries = l }) (put_more (λ e. e) blank_entry es e)

-- ---- rows laid one after another: so far they stand at the front

pub rows_more : (entries : List Entry) (i : ℕ) (rows row : List ℕ) → length entries ≡ 64 → i < 64 → length rows ≡ 5120
    → take (i * 80) rows ≡ rows_of (take i entries) → row ≡ row_of (get_or entries i no_entry)
    → take ((i + 1) * 80) (take (i * 80) rows ++ (row ++ drop (i * 80 + 80 - i * 80) (drop (i * 80) rows))) ≡ rows_of (take (i + 1) entries)
rows_more entries i rows row many inside long done is_row =
    ap (take ((i + 1) * 80)) (sym (append_assoc (take (i * 80) rows) row (drop (i * 80 + 80 - i * 80) (drop (i * 80) rows))))
    ∙ take_at (take (i * 80) rows ++ row) (drop (i * 80 + 80 - i * 80) (drop (i * 80) rows)) ((i + 1) * 80)
    (length-append (take (i * 80) rows) row ∙ omega (arith, length-take-le (i * 80) rows (omega arith), ap length is_row ∙ row_length (get_or entries i no_entry)))
    ∙ ap₂ ◌++◌ done is_row
    ∙ sym (gather_next entries no_entry row_of i (omega arith))

-- ---- the tests of a layer at an index, one after another

module _ (i : ℕ) (e : Entry) where
  abbrev here : Bool
  here = eqb (slot_of e.stream_type e.«record») i

  abbrev refused6 : Bool
  refused6 = type_not_allowed (given true e.stream_type) e.stream_type e.«record»

  pub other_index : here ≡ false → true ≡ wrong_at i e
  other_index p = sym (rw p)

  pub not_allowed : here ≡ true → refused6 ≡ true → true ≡ wrong_at i e
  not_allowed p q = sym (rw (p, q))

  pub flags_wrong : here ≡ true → refused6 ≡ false → wrong_flags e.«record» ≡ true → true ≡ wrong_at i e
  flags_wrong p q r = sym (rw (p, q, r))

  pub list_decides : here ≡ true → refused6 ≡ false → wrong_flags e.«record» ≡ false
      → wrong_embedded e.stream_type e.«record» e.embedded ≡ wrong_at i e
  list_decides p q r = sym (rw (p, q, r))

-- ---- a row, by its entry and then by its numbers

module _ (i : ℕ) (row : List ℕ) (e : Entry) (right : Bool) (is_entry : e ≡ entry_in row) (is_right : right ≡ right_at i e) where
  pub row_decides : right ≡ true → (own : List ℕ) (same : Bool) → own ≡ row_of e → same ≡ same_numbers row own → same ≡ row_right i row
  unfolding row_right
  row_decides fine own same is-own is_same =
      is_same
      ∙ ap (same_numbers row) (is-own ∙ ap row_of is_entry)
      ∙ ap (λ (b : Bool). b && same_numbers row (row_of (entry_in row))) (sym (ap (right_at i) (sym is_entry) ∙ sym is_right ∙ fine))

  pub entry_wrong : right ≡ false → false ≡ row_right i row
  unfolding row_right
  entry_wrong wrong = ap (λ (b : Bool). b && same_numbers row (row_of (entry_in row))) (sym (ap (right_at i) (sym is_entry) ∙ sym is_right ∙ wrong))

-- ---- one number more in place

pub put_next : (f : ℕ → ℕ) (l : List ℕ) (i v : ℕ) → i < length l → v ≡ f i → ((k : ℕ) → k < i → get_or l k 0 ≡ f k) → (k : ℕ) → k < i + 1 → get_or (set l i v) k 0 ≡ f k
put_next f l i v inside is-v done k h = go (ℕ_discrete k i)
  where
    go : Dec (k ≡ i) → get_or (set l i v) k 0 ≡ f k
    go (yes q) = ap (λ (n : ℕ). get_or (set l i v) n 0) q ∙ get_or-set_same l i v 0 inside ∙ is-v ∙ ap f (sym q)
    go (no q) = get_or-set_other l i k v 0 q ∙ done k (omega arith)

-- ---- rows that were laid

pub rows_still : (i : ℕ) (rows row : List ℕ) → i < 64 → length rows ≡ 5120 → length row ≡ 80
    → length (take (i * 80) rows ++ (row ++ drop (i * 80 + 80 - i * 80) (drop (i * 80) rows))) ≡ 5120
rows_still i rows row inside long size = simp (length-append, length-take, length-drop) (omega arith)

pub rows_end : (entries : List Entry) (i : ℕ) (rows : List ℕ) → length entries ≡ 64 → i ≡ 64 → length rows ≡ 5120
    → take (i * 80) rows ≡ rows_of (take i entries) → rows ≡ rows_of entries
rows_end entries i rows many end long done =
    let all : i * 80 ≡ 5120 = omega arith in
    sym (ap (λ (n : ℕ). take n rows) all ∙ take_all 5120 rows (omega arith)) ∙ done ∙ ap rows_of (take_all i entries (omega arith))

-- ---- a row and its PID

module _ (rows : List ℕ) (i : ℕ) where
  pub nothing_there : row_right i (row_at rows i) ≡ true → get_or rows (i * 80 + 2) 0 ≡ 0 → true ≡ row_fine rows i
  nothing_there p q = sym (rw (p, eq-eqb (get_or rows (i * 80 + 2) 0) 0 q))

  pub pid_decides : row_right i (row_at rows i) ≡ true → (get_or rows (i * 80 + 2) 0 ≡ 0 → ⊥) → (twice : Bool) → twice ≡ pid_again rows i → not twice ≡ row_fine rows i
  pid_decides p q twice is-twice = ap not is-twice ∙ sym (rw (p, ne_eqb (get_or rows (i * 80 + 2) 0) 0 q))

  pub row_wrong : row_right i (row_at rows i) ≡ false → false ≡ row_fine rows i
  row_wrong p = sym (rw p)

-- ---- all rows

module _ (rows : List ℕ) where
  pub wrong_length : (length rows ≡ 5120 → ⊥) → false ≡ rows_hold rows
  unfolding rows_hold
  wrong_length d = sym (rw (ne_eqb (length rows) 5120 d))

  module _ (long : length rows ≡ 5120) where
    pub some_wide : some_too_wide rows ≡ true → false ≡ rows_hold rows
    unfolding rows_hold
    some_wide p = sym (rw (eq-eqb (length rows) 5120 long, p))

    pub rows_decide : some_too_wide rows ≡ false → (right : Bool) → right ≡ rows_right rows → right ≡ rows_hold rows
    unfolding rows_hold
    rows_decide p right is_right = is_right ∙ sym (rw (eq-eqb (length rows) 5120 long, p))
