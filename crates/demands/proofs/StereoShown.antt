-- The promises of the two functions for C of the stereo set.
-- Assumes nothing.
use Rattle.std.specs.Prelude.{ℕ, zero, suc, ◌+◌, ◌≤◌, ◌<◌, Bool, true, false, cond, not, ◌||◌, List, [], ◌∷◌, ◌++◌, ◌↔◌, ◌≡◌, refl, ltb, length, Err, Ok}
use Rattle.std.proofs.Math.Bool.{or-false}
use Rattle.std.proofs.Math.Option.{some}
use Rattle.std.proofs.Common.{sym, ◌∙◌, ap, ap₂, subst, arith, ltb-false}
use Rattle.std.proofs.lemmas.Bool.{not-false}
use Rattle.combinators.specs.Bools.{either_way, or_else, neither_left, neither_right}
use Rattle.combinators.specs.Lists.{any, any_append}
use Rattle.syntax.specs.Table.{fits}
use Rattle.vocabulary.specs.declared.refusal.Refusal.{Refusal}
use Rattle.vocabulary.specs.declared.refusal.Refusal.TheVariants.{LoopTooLong, NoRoom, TooWide}
use Rattle.vocabulary.specs.declared.stream_types.Reading.TheVariants.{Edition2015}
use Rattle.vocabulary.specs.Refusals.{number_of, place_of}
use Rattle.loop_entries.specs.declared.Entry.{Entry}
use Rattle.es_loop.specs.Answer.{Outcome}
use Rattle.es_loop.specs.declared.reader.LoopRead.{LoopRead}
use Rattle.es_loop.specs.Reading.{loop_read}
use Rattle.es_loop.proofs.Meant as loop
use Rattle.loop_writer.specs.Answer.{Written}
use Rattle.loop_writer.specs.Layout.{loop_bytes, too_wide}
use Rattle.loop_writer.specs.Writing.{in_room, judged_in, content_after}
use Rattle.entry_rows.specs.Rows.{some_too_wide, row_count, row_at, entry_in, entries_below}
use Rattle.entry_rows.proofs.Given.{entry_fine}
use Rattle.mvc_extension.specs.declared.MvcExtension.{MvcExtension}
use Rattle.mvc_extension.specs.MvcExtension.{mvc_extension_descriptor, mvc_extension_fields}
use Rattle.mvc_rows.specs.Rows.{fields_at}
use Rattle.mvc_rows.proofs.Fields.{extension_fits}
use Rattle.stereo_set.specs.declared.set.StereoRead.{StereoRead}
use Rattle.stereo_set.specs.Reading.{stereo_read}
use Rattle.stereo_set.specs.Meaning as Set
use Rattle.stereo_set.proofs.Meant as set
use Rattle.stereo_writer.specs.Layout.{stereo_bytes}
use Rattle.stereo_writer.specs.Writing.{set_for, after_set, set_answer, after_loop, stereo_answer, stereo_content}
use Rattle.stereo_writer.specs.Meaning as SetWriting
use Rattle.stereo_writer.proofs.Sizes.{set_size}
use Rattle.stereo_writer.proofs.Judging.{LoopCase, refused_there, sound_there, loop_case, judged_alike, SetOutcome, forty_four, forty_six, a_set, set_outcome}
use Rattle.stereo_writer.proofs.Meant as writing
use Rattle.c_answers.specs.Answers.{Reply, reply, unchanged}
use Rattle.thoquenry.specs.Bounds.{SmallOutcome, small_loop, SmallWritten, small_written}
use Rattle.thoquenry_stereo.specs.Reading.{Left, set_read, read_stereo}
use Rattle.thoquenry_stereo.specs.Writing.{entries_given, base_given, second_given, row_too_wide, given_too_wide, set_written, write_stereo}
use Rattle.promised.specs.Calls.{is_listed, Promised}
use Rattle.promised.specs.Shown.{listed_first}
use Rattle.promised.specs.Readers.{outcome_number, read_loop, read_listed}
use Rattle.promised.specs.Writers.{written_number, write_loop, loop_written_computed}
use Rattle.demands.specs.Told.{Told, counts, refuses, Says, If, for_c}
use Rattle.demands.proofs.ToldShown.{code, leaves, number_told, Fits, told_promised}
use Rattle.demands.specs.ForC.{written_told}
use Rattle.demands.specs.Stereo.{BothLists, ReadStereoGiven, stereo_told, TellsSet, thq_read_stereo, WriteStereoGiven, TellsWriting, thq_write_stereo}
use Rattle.demands.proofs.ForCShown.{written_fits}

-- ---- thq_read_stereo

abbrev told_read_stereo : ReadStereoGiven → Told BothLists
told_read_stereo given = stereo_told (stereo_read given.bytes).outcome (stereo_read given.bytes) given.lists

-- what the contract names tells this
abbrev TellsBoth : Told BothLists → BothLists → Left → Type 0
TellsBoth t before left = (left.answer ≡ code t) × (left.entries ≡ (leaves t before).entries) × (left.extensions ≡ (leaves t before).extensions)

set_tells : (outcome : Outcome) (read : StereoRead) (room : BothLists)
    → TellsBoth (stereo_told outcome read room) room (set_read outcome read room.entries room.extensions)
set_tells (Err refusal) read room = (refl, refl, refl)
set_tells (Ok tt) read room = by (ltb (length room.entries) 160) (ltb (length room.extensions) 16)
  where
    by : (a b : Bool) → TellsBoth
        (cond a (refuses NoRoom) (cond b (refuses NoRoom) (counts 2 (record {
          entries = Rattle.buffers.specs.Buffers.over (Rattle.entry_rows.specs.Rows.row_of read.base ++ Rattle.entry_rows.specs.Rows.row_of read.second) room.entries;
          extensions = Rattle.buffers.specs.Buffers.over (mvc_extension_fields read.base_extension ++ mvc_extension_fields read.second_extension) room.extensions;
        })))) room
        (cond a (Rattle.thoquenry_stereo.specs.Reading.unchanged_both NoRoom room.entries room.extensions)
        (cond b (Rattle.thoquenry_stereo.specs.Reading.unchanged_both NoRoom room.entries room.extensions)
        (Rattle.thoquenry_stereo.specs.Reading.laid_both read room.entries room.extensions)))
    by true b = (refl, refl, refl)
    by false true = (refl, refl, refl)
    by false false = (refl, refl, refl)

both_by : (t : Told BothLists) (before : BothLists) (left : Left) (answer : ℕ) (after : BothLists) → TellsBoth t before left
    → (answer ≡ left.answer) × (after.entries ≡ left.entries) × (after.extensions ≡ left.extensions) → (answer ≡ code t) × (after ≡ leaves t before)
both_by t before left answer after p e = (e.0 ∙ p.0, λ i. record { entries = (e.1 ∙ p.1) i; extensions = (e.2 ∙ p.2) i })

-- the refusals of reading a set: those of the loop, and three at place 0
abbrev Listed : Outcome → Type 0
Listed outcome = (is_listed thq_read_stereo.numbers (outcome_number outcome) ≡ true) × SmallOutcome outcome

set_listed : {bytes : List ℕ} {read : StereoRead} → Set.Answers bytes read → Listed read.outcome
set_listed {bytes} (Set.loop_refused {refusal} l) =
    let same : ◌≡◌ {A = Outcome} (Err refusal) ((loop_read Edition2015 bytes).outcome) = ap (λ (r : LoopRead). r.outcome) (loop.answer_only Edition2015 bytes l) in (
      listed_first read_loop.numbers (17 ∷ 44 ∷ 45 ∷ 46 ∷ []) (some (number_of refusal)) (read_listed l),
      subst SmallOutcome (sym same) (small_loop Edition2015 bytes).0,
    )
set_listed (Set.not_the_two a none) = (refl, omega arith)
set_listed (Set.wrong_extension a two w) = (refl, omega arith)
set_listed (Set.wrong_ranges_lem a two h g w) = (refl, omega arith)
set_listed (Set.a_set a two h g w) = (refl, tt)

abbrev ToldListed : Told BothLists → Type 0
ToldListed t = (is_listed thq_read_stereo.numbers (number_told t) ≡ true) × Fits t

told_listed : (outcome : Outcome) (read : StereoRead) (room : BothLists) → Listed outcome
    → (is_listed thq_read_stereo.numbers (number_told (stereo_told outcome read room)) ≡ true) × Fits (stereo_told outcome read room)
told_listed (Err refusal) read room l = (l.0, (let few : place_of refusal ≤ 1008 = l.1 in omega arith))
told_listed (Ok tt) read room l =
    either_way ToldListed (ltb (length room.entries) 160) (refuses NoRoom) _ (refl, omega arith)
    (either_way ToldListed (ltb (length room.extensions) 16) (refuses NoRoom) _ (refl, omega arith) (refl, omega arith))

pub thq_stereo_read : Promised (for_c thq_read_stereo)
thq_stereo_read =
    told_promised thq_read_stereo told_read_stereo (record {
      asks_nothing = λ run. tt;
      ensured = λ run e. (let given = thq_read_stereo.given run in let read = stereo_read given.bytes in
          both_by (told_read_stereo given) given.lists (read_stereo given.bytes given.lists.entries given.lists.extensions) (thq_read_stereo.answer run) (thq_read_stereo.after run)
          (set_tells read.outcome read given.lists) (e.0, e.1.0, e.1.1));
      exactly = λ given answer after. (
        λ s. record { read = stereo_read given.bytes; right = set.stereo_meant given.bytes; said = s },
        λ t. subst (λ (r : StereoRead). Says (stereo_told r.outcome r given.lists) given.lists answer after) (set.stereo_only given.bytes t.right) t.said,
      );
      fits = λ given. (let read = stereo_read given.bytes in (told_listed read.outcome read given.lists (set_listed (set.stereo_meant given.bytes))).1);
      listed = λ given. (let read = stereo_read given.bytes in (told_listed read.outcome read given.lists (set_listed (set.stereo_meant given.bytes))).0);
      without_0 = refl;
    })

-- ---- thq_write_stereo

all_fine : (numbers : List ℕ) (n : ℕ) → ((i : ℕ) → i < n → too_wide (entry_in (row_at numbers i)) ≡ false) → any too_wide (entries_below numbers n) ≡ false
all_fine numbers zero f = refl
all_fine numbers (suc n) f =
    any_append too_wide (entries_below numbers n) (entry_in (row_at numbers n) ∷ [])
    ∙ ap₂ ◌||◌ (all_fine numbers n (λ i h. f i (omega arith))) (or-false (too_wide (entry_in (row_at numbers n))) ∙ f n (omega arith))

module _ (given : WriteStereoGiven) where
  abbrev x : MvcExtension
  x = base_given given.extensions

  abbrev y : MvcExtension
  y = second_given given.extensions

  abbrev es : List Entry
  es = entries_given given.entries

  abbrev written : Written
  written = stereo_answer (length given.out) x y es

  abbrev left : List ℕ
  left = stereo_content x y es given.out

  abbrev told_write_stereo : Told (List ℕ)
  told_write_stereo = cond (given_too_wide given.entries given.extensions) (refuses TooWide) (written_told written left)

  writing_tells : (w : Written) (bytes : List ℕ)
      → (set_written w ≡ code (written_told w (content_after w bytes given.out))) × (content_after w bytes given.out ≡ leaves (written_told w (content_after w bytes given.out)) given.out)
  writing_tells (Ok count) bytes = (refl, refl)
  writing_tells (Err refusal) bytes = (refl, refl)

  replied : let r : Reply = write_stereo given.entries given.extensions given.out in (r.answer ≡ code told_write_stereo) × (r.buffer ≡ leaves told_write_stereo given.out)
  replied = by (given_too_wide given.entries given.extensions)
    where
      by : (b : Bool) → let r : Reply = cond b (unchanged TooWide given.out) (reply (set_written written) left) in
          let t : Told (List ℕ) = cond b (refuses TooWide) (written_told written left) in (r.answer ≡ code t) × (r.buffer ≡ leaves t given.out)
      by true = (refl, refl)
      by false = writing_tells written (stereo_bytes x y es)

  module _ (fine : given_too_wide given.entries given.extensions ≡ false) where
    entries_fine : some_too_wide given.entries ≡ false
    entries_fine = neither_left (some_too_wide given.entries) _ fine

    rows_fine : row_too_wide given.extensions 0 || row_too_wide given.extensions 8 ≡ false
    rows_fine = neither_right (some_too_wide given.entries) _ fine

    row_fits : (start : ℕ) → row_too_wide given.extensions start ≡ false → fits mvc_extension_descriptor (fields_at given.extensions start) ≡ true
    row_fits start e = not-false (fits mvc_extension_descriptor (fields_at given.extensions start)) e

    fit_x : fits mvc_extension_descriptor (mvc_extension_fields x) ≡ true
    fit_x = extension_fits given.extensions 0 (row_fits 0 (neither_left (row_too_wide given.extensions 0) (row_too_wide given.extensions 8) rows_fine))

    fit_y : fits mvc_extension_descriptor (mvc_extension_fields y) ≡ true
    fit_y = extension_fits given.extensions 8 (row_fits 8 (neither_right (row_too_wide given.extensions 0) (row_too_wide given.extensions 8) rows_fine))

    none_wide : any too_wide es ≡ false
    none_wide = all_fine given.entries (row_count given.entries) (entry_fine given.entries entries_fine)

    writing_exactly : (answer : ℕ) (after : List ℕ) → Says (written_told written left) given.out answer after ↔ TellsWriting given answer after
    writing_exactly answer after = (
      λ s. record { written = written; left = left; right = writing.stereo_meant x y fit_x fit_y es none_wide given.out; said = s },
      λ t. by t (writing.stereo_only x y fit_x fit_y es none_wide given.out t.right),
    )
      where
        by : (t : TellsWriting given answer after) → (t.written ≡ written) × (t.left ≡ left) → Says (written_told written left) given.out answer after
        by t e =
            subst (λ (l : List ℕ). Says (written_told written l) given.out answer after) e.1
            (subst (λ (w : Written). Says (written_told w t.left) given.out answer after) e.0 t.said)

    -- each refusal is listed and has a small place, and no more than 1,008 bytes are counted
    abbrev Good : Written → Type 0
    Good w = (is_listed thq_write_stereo.numbers (written_number w) ≡ true) × SmallWritten w

    writing_good : Good written
    writing_good =
        or_else Good (ltb 201 (length es) || ltb 1008 (length (loop_bytes es) + 20)) (Err LoopTooLong) _ (refl, omega arith) (λ e.
        (let few = ltb-false 201 (length es) (neither_left (ltb 201 (length es)) (ltb 1008 (length (loop_bytes es) + 20)) e) in
        let short = ltb-false 1008 (length (loop_bytes es) + 20) (neither_right (ltb 201 (length es)) (ltb 1008 (length (loop_bytes es) + 20)) e) in
        by_loop few short (loop_case x y es none_wide few short) (judged_good few short)))
      where
        judged_good : length es ≤ 201 → length (loop_bytes es) + 20 ≤ 1008 → (is_listed write_loop.numbers (written_number (judged_in 1008 es)) ≡ true) × SmallWritten (judged_in 1008 es)
        judged_good few short = (
          ap (λ (w : Written). is_listed write_loop.numbers (written_number w)) (sym (judged_alike x y es none_wide few short))
              ∙ loop_written_computed.listed (record { count = length es; array = es; out = loop_bytes es }),
          subst SmallWritten (judged_alike x y es none_wide few short) (small_written (length (loop_bytes es)) (length es) es),
        )

        in_room_lem : length (loop_bytes es) + 20 ≤ 1008 → (set_for x y es).outcome ≡ Ok tt → Good (in_room (length given.out) (length (stereo_bytes x y es)))
        in_room_lem short is_set =
            let long = set_size x y es is_set in
            either_way Good (ltb (length given.out) (length (stereo_bytes x y es))) (Err NoRoom) (Ok (length (stereo_bytes x y es))) (refl, omega arith) (refl, omega arith)

        by_set : length (loop_bytes es) + 20 ≤ 1008 → {o : Outcome} → (set_for x y es).outcome ≡ o → SetOutcome x y es o
            → Good (after_set o (in_room (length given.out) (length (stereo_bytes x y es))))
        by_set short is (forty_four f) = (refl, omega arith)
        by_set short is (forty_six two w) = (refl, omega arith)
        by_set short is (a_set two w) = in_room_lem short is

        by_loop : (few : length es ≤ 201) (short : length (loop_bytes es) + 20 ≤ 1008) {w : Written} → LoopCase x y es none_wide few short w
            → (is_listed write_loop.numbers (written_number w) ≡ true) × SmallWritten w → Good (after_loop w (set_answer (length given.out) x y es))
        by_loop few short (refused_there {refusal} at-k lower earlier) good =
            (listed_first write_loop.numbers (44 ∷ 46 ∷ []) (some (number_of refusal)) good.0, good.1)
        by_loop few short (sound_there s) good = by_set short refl (set_outcome x y es s.none)

  writing_told : (w : Written) (l : List ℕ) → (is_listed thq_write_stereo.numbers (written_number w) ≡ true) × SmallWritten w
      → (is_listed thq_write_stereo.numbers (number_told (written_told w l)) ≡ true) × Fits (written_told w l)
  writing_told (Ok count) l good = (good.0, written_fits (Ok count) l good.1)
  writing_told (Err refusal) l good = (good.0, written_fits (Err refusal) l good.1)

  abbrev WritingListed : Told (List ℕ) → Type 0
  WritingListed t = (is_listed thq_write_stereo.numbers (number_told t) ≡ true) × Fits t

  told_good : (is_listed thq_write_stereo.numbers (number_told told_write_stereo) ≡ true) × Fits told_write_stereo
  told_good =
      or_else WritingListed (given_too_wide given.entries given.extensions) (refuses TooWide) (written_told written left) (refl, omega arith)
      (λ fine. writing_told written left (writing_good fine))

  told_exactly : (answer : ℕ) (after : List ℕ) → Says told_write_stereo given.out answer after ↔ thq_write_stereo.Means given answer after
  told_exactly answer after = by (given_too_wide given.entries given.extensions) refl
    where
      by : (b : Bool) → given_too_wide given.entries given.extensions ≡ b
          → Says (cond b (refuses TooWide) (written_told written left)) given.out answer after ↔ If b (Says (refuses TooWide) given.out answer after) (TellsWriting given answer after)
      by true p = (λ s. s, λ s. s)
      by false p = writing_exactly p answer after

pub thq_stereo_written : Promised (for_c thq_write_stereo)
thq_stereo_written =
    told_promised thq_write_stereo told_write_stereo (record {
      asks_nothing = λ run. tt;
      ensured = λ run e. (let r = replied (thq_write_stereo.given run) in (e.0 ∙ r.0, e.1 ∙ r.1));
      exactly = told_exactly;
      fits = λ given. (told_good given).1;
      listed = λ given. (told_good given).0;
      without_0 = refl;
    })
