-- Two views without a hierarchy descriptor (document 02, W-201), as rows and out of them, computed: 'the writer writes no descriptor for these implied layers', and
-- 'the loop writer gives 6 at the first entry whose implied mark isn't what this rule gives'.
-- Assumes nothing.
use Rattle.std.specs.Prelude.{ℕ, List, [], ◌∷◌, ◌++◌, ◌≡◌, refl, replicate, Err, Ok}
use Rattle.combinators.specs.Padding.{pad_to}
use Rattle.vocabulary.specs.declared.refusal.Refusal.TheVariants.{TypeNotAllowed}
use Rattle.records.specs.declared.Record.{Record}
use Rattle.records.specs.declared.Record.TheVariants.{Implied}
use Rattle.extension.specs.Extension.{no_layer}
use Rattle.loop_entries.specs.declared.Entry.{Entry}
use Rattle.loop_writer.specs.Layout.{loop_bytes}
use Rattle.loop_writer.specs.Writing.{answer}
use Rattle.entry_rows.specs.Rows.{head_of, tail_of, entry_in, rows_of, row_count, entries_below, entries_in}

-- a stream without a descriptor, and the row that has these three numbers and 0 after them
abbrev plain : ℕ → ℕ → Record → Entry
plain stream_type pid «record» = record { stream_type = stream_type; pid = pid; «record» = «record»; embedded = pad_to 63 no_layer [] }

abbrev row : ℕ → ℕ → ℕ → List ℕ
row stream_type pid kind = stream_type ∷ pid ∷ kind ∷ replicate 77 0

abbrev two_views : List ℕ
two_views = row 0x1B 256 3 ++ row 0x20 257 3

laid_out : rows_of (plain 0x1B 256 Implied ∷ plain 0x20 257 Implied ∷ []) ≡ two_views
unfolding head_of tail_of
laid_out = refl

taken : entries_below two_views (row_count two_views) ≡ plain 0x1B 256 Implied ∷ plain 0x20 257 Implied ∷ []
unfolding entry_in
taken = refl

-- five bytes each
written : answer 10 (row_count two_views) (entries_in two_views) ≡ Ok 10
unfolding entry_in
written = refl

bytes : loop_bytes (entries_below two_views (row_count two_views)) ≡ 0x1B ∷ 0xE1 ∷ 0x00 ∷ 0xF0 ∷ 0x00 ∷ 0x20 ∷ 0xE1 ∷ 0x01 ∷ 0xF0 ∷ 0x00 ∷ []
unfolding entry_in
bytes = refl

-- the second without its mark, and a mark on a stream that has no other view beside it
mark_missing : (let rows : List ℕ = row 0x1B 256 3 ++ row 0x20 257 0 in answer 10 (row_count rows) (entries_in rows)) ≡ Err (TypeNotAllowed 1)
unfolding entry_in
mark_missing = refl

mark_not_given : (let rows : List ℕ = row 0x1B 256 3 in answer 10 (row_count rows) (entries_in rows)) ≡ Err (TypeNotAllowed 0)
unfolding entry_in
mark_not_given = refl
