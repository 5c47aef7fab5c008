-- What is laid after the answer: the rows of the recording, or none after a refusal; and the packets that were noted are theirs.
-- Assumes nothing.
use Rattle.std.specs.Prelude.{Err, Ok}
use Prim.Native.Nat.{ℕ, ◌≤◌, min}
use mathlib.Core.Path.{◌≡◌, refl, sym, ap, ap₂, subst, ◌∙◌}
use mathlib.Core.Bool.{cond}
use mathlib.Core.List.{List, [], map}
use native.Mathlib.Nat.{not-suc-le-zero, le_trans}
use native.Mathlib.Omega.{arith}
use borrow.Author.Tests.{ltb-false}
use lib.Dec.{ltb}
use lib.ListN.{length, take, length-map}
use lib.Seq.{sets, take_at, length-sets, length-take-le}
use Rattle.buffers.specs.Buffers.{over}
use Rattle.buffers.proofs.Laws.{sets_over}
use Rattle.combinators.specs.Bools.{either_way, or_else}
use Rattle.scanning.specs.declared.events.Row.{Row}
use Rattle.scanning.specs.Events.{none_yet}
use Rattle.unit_starts.specs.declared.Found.{Found}
use Rattle.unit_starts.specs.Finding.{packet_in, found_in, rows_in}
use Rattle.unit_starts.proofs.Running.{rows_counted}
use Rattle.recording_rows.specs.Columns.{Columns, columns, index_in, decoding_in, match_in, tref_in, stored_all, room_in, over_all}
use Rattle.recording_rows.specs.Again.{row_from, Starts}
use Rattle.recording_rows.proofs.Again.{rows_again, rows_inside}
use Rattle.recordings.specs.Reading.{fault_of, header_refusal, answer_of, recording_of, rows_count, columns_after}
use Rattle.recordings.specs.Answer.{Recording}
use Rattle.recordings.specs.declared.RecordingFault.TheVariants.{Faulty, NotRead, TooManyRows}

-- rows are answered as many as were found, and there is room for them
abbrev Fits : Found → ℕ → Recording → Type 0
Fits f room (Ok count) = (count ≡ f.rows) × (count ≤ room)
Fits f room (Err (Faulty fault)) = Unit {0}
Fits f room (Err (NotRead refusal packet)) = Unit {0}
Fits f room (Err TooManyRows) = Unit {0}

answer_fits : (f : Found) (room : ℕ) → Fits f room (answer_of f room)
answer_fits f room =
    either_way (Fits f room) (ltb f.fault.number 34) (Err (Faulty (fault_of f.fault.number f.fault.packet)))
    (cond (ltb f.refusal.number 25) (Err (NotRead (header_refusal f.refusal.number) f.refusal.packet)) (cond (ltb room f.rows) (Err TooManyRows) (Ok f.rows)))
    tt
    (either_way (Fits f room) (ltb f.refusal.number 25) (Err (NotRead (header_refusal f.refusal.number) f.refusal.packet)) (cond (ltb room f.rows) (Err TooManyRows) (Ok f.rows))
    tt
    (or_else (Fits f room) (ltb room f.rows) (Err TooManyRows) (Ok f.rows) tt (λ e. (refl, ltb-false room f.rows e))))

module _ (table bytes : List ℕ) where
  -- the rows that are laid
  abbrev pub laid : Recording → List Row
  laid (Ok count) = rows_in table bytes
  laid (Err (Faulty fault)) = []
  laid (Err (NotRead refusal packet)) = []
  laid (Err TooManyRows) = []

  laid_after : (answer : Recording) (before : Columns) → columns_after table bytes answer before ≡ over_all (laid answer) before
  laid_after (Ok count) before = refl
  laid_after (Err (Faulty fault)) before = refl
  laid_after (Err (NotRead refusal packet)) before = refl
  laid_after (Err TooManyRows) before = refl

  pub record Prepared (room count : ℕ) (starts : List ℕ) (answer : Recording) : Type 0 where
    pub noted : take count starts ≡ map packet_in (laid answer)
    pub many : length (laid answer) ≡ count
    pub short : count ≤ room
    pub again : map (row_from table bytes 0) (take count starts) ≡ laid answer
    pub inside : Starts bytes 0 (take count starts)

  none_laid : (room : ℕ) (starts : List ℕ) {answer : Recording} → laid answer ≡ [] → Prepared room 0 starts answer
  none_laid room starts e =
      record { noted = ap (map packet_in) (sym e); many = ap length e; short = omega arith; again = sym e; inside = λ i l. absurd (not-suc-le-zero l) }

  prepared_by : (room : ℕ) (starts new-starts : List ℕ) → room ≤ length starts → new-starts ≡ sets starts 0 (map packet_in (rows_in table bytes))
      → (answer : Recording) → Fits (found_in table bytes) room answer → Prepared room (rows_count answer) new-starts answer
  prepared_by room starts new-starts h e (Ok count) fits =
      let many : length (rows_in table bytes) ≡ count = sym (fits.0 ∙ rows_counted table bytes) in
      let size : length (map packet_in (rows_in table bytes)) ≡ count = length-map (rows_in table bytes) packet_in ∙ many in
      let noted : take count new-starts ≡ map packet_in (rows_in table bytes) =
      ap (take count) (e ∙ sets_over (map packet_in (rows_in table bytes)) starts (omega (arith, fits.1))) ∙ take_at (map packet_in (rows_in table bytes)) _ count size in
      record {
        noted = noted;
        many = many;
        short = fits.1;
        again = ap (map (row_from table bytes 0)) noted ∙ rows_again bytes 0 table none_yet;
        inside = subst (Starts bytes 0) (sym noted) (rows_inside bytes 0 table none_yet);
      }
  prepared_by room starts new-starts h e (Err (Faulty fault)) fits = none_laid room new-starts refl
  prepared_by room starts new-starts h e (Err (NotRead refusal packet)) fits = none_laid room new-starts refl
  prepared_by room starts new-starts h e (Err TooManyRows) fits = none_laid room new-starts refl

  pub prepared : {room count : ℕ} (starts : List ℕ) {new-starts : List ℕ} {answer : Recording} → room ≤ length starts
      → new-starts ≡ sets starts 0 (map packet_in (rows_in table bytes)) → answer ≡ answer_of (found_in table bytes) room → count ≡ rows_count answer
      → Prepared room count new-starts answer
  prepared {room} {count} starts {new-starts} {answer} h e is n =
      subst (λ (c : ℕ). Prepared room c new-starts answer) (sym n)
      (prepared_by room starts new-starts h e answer (subst (Fits (found_in table bytes) room) (sym is) (answer_fits (found_in table bytes) room)))

  -- ---- what the columns then hold

  module _ (old : Columns) {room count : ℕ} {starts : List ℕ} {answer : Recording} (p : Prepared room count starts answer) (enough : room ≤ room_in old) where
    abbrev rows : List Row
    rows = laid answer

    column_over : (f : Row → ℕ) (column : List ℕ) → room ≤ length column → sets column 0 (map f rows) ≡ over (map f rows) column
    column_over f column h = sets_over (map f rows) column (omega (arith, length-map rows f, p.many, p.short))

    pub columns_laid : {new : Columns} → new ≡ stored_all (map (row_from table bytes 0) (take count starts)) (take count starts) old → new ≡ columns_after table bytes answer old
    columns_laid e =
        e
        ∙ ap₂ (λ (l : List Row) (n : List ℕ). stored_all l n old) p.again p.noted
        ∙ (λ i. columns (column_over index_in old.indices (omega (arith, enough)) i) (column_over decoding_in old.decodings (omega (arith, enough)) i)
        (column_over match_in old.matches (omega (arith, enough)) i) (column_over tref_in old.trefs (omega (arith, enough)) i)
        (column_over packet_in old.packets (omega (arith, enough)) i))
        ∙ sym (laid_after answer old)

  -- ---- the call: what is known once the answer is

  both_short : (r m k : ℕ) → r ≡ min m k → (r ≤ m) × (r ≤ k)
  both_short r m k e = (omega arith, omega arith)

  pub record Called (starts new-starts : List ℕ) (old : Columns) (count : ℕ) (answer : Recording) : Type 0 where
    pub room : ℕ
    pub is : answer ≡ recording_of table bytes (length starts) old
    pub ready : Prepared room count new-starts answer
    pub prefix : count ≤ length new-starts
    pub long : count ≡ length (take count new-starts)
    pub enough : room ≤ room_in old
    pub fits : length (take count new-starts) ≤ room_in old

  pub called : {found : Found} {room count : ℕ} {answer : Recording} (starts : List ℕ) {new-starts : List ℕ} (old : Columns)
      → found ≡ found_in table bytes → new-starts ≡ sets starts 0 (map packet_in (rows_in table bytes))
      → room ≡ min (length new-starts) (room_in old) → answer ≡ answer_of found room → count ≡ rows_count answer
      → Called starts new-starts old count answer
  called {found} {room} {count} {answer} starts {new-starts} old f e r a n =
      let size : length new-starts ≡ length starts = ap length e ∙ length-sets starts 0 (map packet_in (rows_in table bytes)) in
      let short = both_short room (length new-starts) (room_in old) r in
      let found_there : answer ≡ answer_of (found_in table bytes) room = a ∙ ap (λ (x : Found). answer_of x room) f in
      let ready = prepared {room = room} {count = count} starts (subst (λ (m : ℕ). room ≤ m) size short.0) e found_there n in
      let inside : count ≤ length new-starts = le_trans ready.short short.0 in
      let long : length (take count new-starts) ≡ count = length-take-le count new-starts inside in
      record {
        room = room;
        is = found_there ∙ ap (answer_of (found_in table bytes)) (r ∙ ap (λ (m : ℕ). min m (room_in old)) size);
        ready = ready;
        prefix = inside;
        long = sym long;
        enough = short.1;
        fits = subst (λ (m : ℕ). m ≤ room_in old) (sym long) (le_trans ready.short short.1);
      }
