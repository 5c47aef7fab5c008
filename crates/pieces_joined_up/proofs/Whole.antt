-- THE THEOREM, by induction on the pieces: a state that was fed stands for what is known after them, and the columns hold their rows.
-- Assumes nothing.
use Rattle.std.specs.Prelude.{Err, Ok}
use Prim.Native.Nat.{ℕ, ◌+◌, ◌-◌, ◌*◌, ◌/◌, ◌≤◌, min}
use mathlib.Core.Path.{◌≡◌, refl, sym, ap, ap₂, subst, ◌∙◌}
use mathlib.Core.Bool.{Bool, true, false, cond, ◌&&◌, ◌||◌}
use mathlib.Core.List.{List, [], ◌∷◌, ◌++◌, map, append_assoc, append-nil}
use native.Mathlib.Nat.{le_trans, add-zero}
use native.Mathlib.Omega.{arith}
use borrow.Author.Tests.{eq-eqb, le-leb, lt-ltb, le-ltb, ltb-true, ltb-false}
use lib.Dec.{eqb, ltb}
use lib.ListN.{length, get_or, drop, length-append, length-drop, length-map}
use lib.Seq.{sets, length-sets, take_at, take-nil, take_all}
use Rattle.buffers.specs.Buffers.{over}
use Rattle.buffers.proofs.Laws.{sets_over}
use Rattle.combinators.specs.Bools.{either_way, or_else}
use Rattle.packets.specs.Reading.{packet_bytes}
use Rattle.scanning.specs.declared.events.Row.{Row}
use Rattle.scanning.specs.declared.events.Event.TheVariants.{Fault}
use Rattle.scanning.specs.Events.{packets_in}
use Rattle.unit_starts.specs.declared.Found.{Found}
use Rattle.unit_starts.specs.Finding.{packet_in, noted, found_in}
use Rattle.unit_starts.proofs.Running.{rows_counted_from, rows_counted}
use Rattle.es_loop.specs.Answer.{Outcome}
use Rattle.recording_rows.specs.Columns.{Columns, columns, room_in, over_all, index_in, decoding_in, match_in, tref_in}
use Rattle.recordings.specs.Answer.{Recording}
use Rattle.recordings.specs.declared.RecordingFault.TheVariants.{TooManyRows, Faulty, NotRead as HeaderNotRead}
use Rattle.recordings.specs.Reading.{fault_of, header_refusal, answer_of}
use Rattle.recording_imports.specs.Answer.{RowsRead}
use Rattle.recording_imports.specs.declared.Unread.TheVariants.{Refused, NotRead}
use Rattle.recording_imports.specs.Rows.{loop_layers, pid_table, rows_of, rows_told, rows_for, rows_under, columns_under}
use Rattle.passing.specs.Passing.{stored_from, with_room}
use Rattle.fed_packets.specs.Feeding.{Progress as Known, at_first, packets_whole, whole_of, fed, rows_fed, fed_all, rows_fed_all, joined_up}
use Rattle.fed_packets.proofs.Cut.{however_cut}
use Rattle.feeding.specs.declared.Progress.{Progress}
use Rattle.piece_feeding.specs.Told.{starts_with, no_ends, found_at_end}
use Rattle.piece_feeding.proofs.Both.{fitting_then}
use Rattle.piece_feeding.proofs.Meant.{fed_nothing_yet, fed_last, end_is_whole}
use Rattle.packet_states.specs.States.{state_bytes, state_numbers, most_packets, is_state, part_in, kept_in, progress_in, no_room_in, counts_of, Standing, standing, standing_fed, may_feed}
use Rattle.packet_states.proofs.Judged.{stated}
use Rattle.packet_states.proofs.Fed.{ready}
use Rattle.c_answers.specs.Answers.{not_a_call}
use Rattle.packet_answers.specs.Answers.{rows_answer}
use Rattle.thoquenry_pieces.specs.Calls.{StateReply, state_reply, begun, begun_by, start_call, rows_laid, Becomes, FeedCall, room_told, told_of, told_by, told_call}
use Rattle.thoquenry_pieces.proofs.Starting.{table_long}
use Rattle.pieces_joined_up.specs.JoinedUp.{Recorded, started, fed_on, AsTheWhole}

-- ---- pieces one after another

joined_last : (pieces : List (List ℕ)) (piece : List ℕ) → joined_up (pieces ++ piece ∷ []) ≡ joined_up pieces ++ piece
joined_last [] piece = append-nil piece
joined_last (first ∷ pieces) piece = ap (λ (l : List ℕ). first ++ l) (joined_last pieces piece) ∙ sym (append_assoc first (joined_up pieces) piece)

module _ (table : List ℕ) where
  rows_last : (p : Known) (pieces : List (List ℕ)) (piece : List ℕ)
      → rows_fed_all table p (pieces ++ piece ∷ []) ≡ rows_fed_all table p pieces ++ rows_fed table (fed_all table p pieces) piece
  rows_last p [] piece = append-nil (rows_fed table p piece)
  rows_last p (first ∷ pieces) piece =
      ap (λ (l : List Row). rows_fed table p first ++ l) (rows_last (fed table p first) pieces piece)
      ∙ sym (append_assoc (rows_fed table p first) (rows_fed_all table (fed table p first) pieces) (rows_fed table (fed_all table (fed table p first) pieces) piece))

  -- as many rows are counted as there are
  rows_one : (p : Known) (piece : List ℕ) → (fed table p piece).found.rows ≡ p.found.rows + length (rows_fed table p piece)
  rows_one p piece = rows_counted_from table p.number (packets_in (whole_of (p.part ++ piece))) p.lasts p.found

  rows_all : (p : Known) (pieces : List (List ℕ)) → (fed_all table p pieces).found.rows ≡ p.found.rows + length (rows_fed_all table p pieces)
  rows_all p [] = sym (add-zero p.found.rows)
  rows_all p (piece ∷ pieces) =
      rows_all (fed table p piece) pieces
      ∙ sums p.found.rows (length (rows_fed table p piece)) (length (rows_fed_all table (fed table p piece) pieces)) (rows_one p piece)
      ∙ ap (λ (n : ℕ). p.found.rows + n) (sym (length-append (rows_fed table p piece) (rows_fed_all table (fed table p piece) pieces)))
    where
      sums : (a b n : ℕ) {c : ℕ} → c ≡ a + b → c + n ≡ a + (b + n)
      sums a b n e = omega arith

  -- no more packets than bytes
  bytes_one : (p : Known) (piece : List ℕ)
      → packet_bytes * (fed table p piece).number + length (fed table p piece).part ≡ packet_bytes * p.number + length p.part + length piece
  bytes_one p piece =
      sums p.number (length p.part) (length piece) (length-append p.part piece)
      (length-drop (packet_bytes * packets_whole (p.part ++ piece)) (p.part ++ piece))
    where
      sums : (number part size : ℕ) {all left : ℕ} → all ≡ part + size → left ≡ all - packet_bytes * (all / packet_bytes)
          → packet_bytes * (number + all / packet_bytes) + left ≡ packet_bytes * number + part + size
      sums number part size e f = omega arith

  bytes_all : (p : Known) (pieces : List (List ℕ))
      → packet_bytes * (fed_all table p pieces).number + length (fed_all table p pieces).part ≡ packet_bytes * p.number + length p.part + length (joined_up pieces)
  bytes_all p [] = sym (add-zero (packet_bytes * p.number + length p.part))
  bytes_all p (piece ∷ pieces) =
      bytes_all (fed table p piece) pieces
      ∙ ap (λ (n : ℕ). n + length (joined_up pieces)) (bytes_one p piece)
      ∙ sums (packet_bytes * p.number + length p.part) (length piece) (length (joined_up pieces))
      ∙ ap (λ (n : ℕ). packet_bytes * p.number + length p.part + n) (sym (length-append piece (joined_up pieces)))
    where
      sums : (a b c : ℕ) → a + b + c ≡ a + (b + c)
      sums a b c = omega arith

  packets_few : (pieces : List (List ℕ)) → (fed_all table at_first pieces).number ≤ length (joined_up pieces)
  packets_few pieces = less (fed_all table at_first pieces).number (length (fed_all table at_first pieces).part) (length (joined_up pieces)) (bytes_all at_first pieces)
    where
      less : (n m k : ℕ) → packet_bytes * n + m ≡ packet_bytes * 0 + 0 + k → n ≤ k
      less n m k e = omega arith

-- ---- what the lists and the columns are after some pieces

abbrev pub standing_of : List ℕ → ℕ → List (List ℕ) → Standing
standing_of table room pieces =
    record { table = table; known = fed_all table at_first pieces; overflown = ltb room (fed_all table at_first pieces).found.rows }

pub record Reached (bytes : List ℕ) (before : Columns) (pieces : List (List ℕ)) (state counts : List ℕ) (after : Columns) : Type 0 where
  pub accepts : (loop_layers bytes).outcome ≡ Ok tt
  pub is_one : is_state state counts ≡ true
  pub stands : standing state counts ≡ standing_of (pid_table bytes) (room_in before) pieces
  pub laid : after ≡ stored_from 0 (with_room (room_in before) 0 (rows_fed_all (pid_table bytes) at_first pieces)) before

-- the columns are as long as they were
pub room_kept : (at : ℕ) (rows : List Row) (c : Columns) → room_in (stored_from at rows c) ≡ room_in c
room_kept at rows c =
    λ i. min (length-sets c.indices at (map index_in rows) i) (min (length-sets c.decodings at (map decoding_in rows) i)
    (min (length-sets c.matches at (map match_in rows) i) (min (length-sets c.trefs at (map tref_in rows) i) (length-sets c.packets at (map packet_in rows) i))))

-- ---- the start

over_long : (table state : List ℕ) → length table ≡ 8192 → length state ≡ state_bytes → length (over table state) ≡ state_bytes
over_long table state t e =
    sums (length table) (length state) (length-append table (drop (length table) state)) (length-drop (length table) state) t e
  where
    sums : (a b : ℕ) {c d : ℕ} → c ≡ a + d → d ≡ b - a → a ≡ 8192 → b ≡ state_bytes → c ≡ state_bytes
    sums a b r s p q = omega arith

module _ (bytes state counts : List ℕ) (before : Columns) (accepts : (loop_layers bytes).outcome ≡ Ok tt) (e : length state ≡ state_bytes)
    (f : length counts ≡ state_numbers) where
  answered : start_call bytes state counts ≡ begun (loop_layers bytes).table state
  answered =
      ap₂ (λ (t u : Bool). cond (t && u) (begun_by (loop_layers bytes).outcome (loop_layers bytes).table state counts) (state_reply not_a_call state counts))
      (eq-eqb (length state) state_bytes e) (eq-eqb (length counts) state_numbers f)
      ∙ ap (λ (o : Outcome). begun_by o (loop_layers bytes).table state counts) accepts

  abbrev new_state : List ℕ
  new_state = over (pid_table bytes) state

  abbrev new_counts : List ℕ
  new_counts = counts_of starts_with 0 no_ends

  long : length new_state ≡ state_bytes
  long = over_long (pid_table bytes) state (table_long (loop_layers bytes).table) e

  begun_state : is_state new_state new_counts ≡ true
  begun_state = ap (λ (t : Bool). t && true) (eq-eqb (length new_state) state_bytes long)

  begun_standing : standing new_state new_counts ≡ standing_of (pid_table bytes) (room_in before) []
  begun_standing =
      λ i. record {
        table = take_at (pid_table bytes) (drop (length (pid_table bytes)) state) 8192 (table_long (loop_layers bytes).table) i;
        known = fed_nothing_yet (pid_table bytes) (part_in new_state) (kept_in new_state) i;
        overflown = sym (le-ltb (room_in before) 0 (omega arith)) i;
      }

  begun_reached : {answer : ℕ} {first-state first-counts : List ℕ} → state_reply answer first-state first-counts ≡ start_call bytes state counts
      → Reached bytes before [] first-state first-counts before
  begun_reached call =
      record {
        accepts = accepts;
        is_one = ap (λ (r : StateReply). is_state r.state r.counts) (call ∙ answered) ∙ begun_state;
        stands = ap (λ (r : StateReply). standing r.state r.counts) (call ∙ answered) ∙ begun_standing;
        laid = sym (ap (λ (rows : List Row). stored_from 0 rows before) (take-nil (room_in before - 0)));
      }

-- ---- one piece more

le_sum : (a n : ℕ) {b : ℕ} → b ≡ a + n → a ≤ b
le_sum a n e = omega arith

more_room : (room a b : ℕ) → a ≤ b → ltb room a || ltb room b ≡ ltb room b
more_room room a b h = go (ltb room a) refl
  where
    go : (t : Bool) → ltb room a ≡ t → t || ltb room b ≡ ltb room b
    go true e = sym (lt-ltb room b (omega (arith, ltb-true room a e)))
    go false e = refl

module _ (bytes : List ℕ) (before : Columns) (pieces : List (List ℕ)) (piece : List ℕ) (few : length (joined_up (pieces ++ piece ∷ [])) ≤ most_packets)
    {state counts new_state new_counts : List ℕ} {answer : ℕ} {between after : Columns} (r : Reached bytes before pieces state counts between)
    (call : FeedCall piece state counts between answer new_state new_counts after) where
  abbrev table : List ℕ
  table = pid_table bytes

  abbrev known : Known
  known = fed_all table at_first pieces

  sizes : length (joined_up (pieces ++ piece ∷ [])) ≡ length (joined_up pieces) + length piece
  sizes = ap length (joined_last pieces piece) ∙ length-append (joined_up pieces) piece

  counted : get_or counts 65 0 ≡ known.number
  counted = ap (λ (s : Standing). s.known.number) r.stands

  fits : length piece ≤ most_packets - get_or counts 65 0
  fits = less (length piece) (length (joined_up pieces)) known.number (get_or counts 65 0) most_packets counted (packets_few table pieces) (subst (λ (n : ℕ). n ≤ most_packets) sizes few)
    where
      less : (size whole number count most : ℕ) → count ≡ number → number ≤ whole → whole + size ≤ most → size ≤ most - count
      less size whole number count most e h k = omega arith

  may : may_feed (length piece) state counts ≡ true
  may = ap₂ ◌&&◌ r.is_one (le-leb (length piece) (most_packets - get_or counts 65 0) fits)

  becomes : Becomes true (room_in between) piece state counts new_state new_counts
  becomes = subst (λ (t : Bool). Becomes t (room_in between) piece state counts new_state new_counts) may call.becomes

  same_room : room_in between ≡ room_in before
  same_room = ap room_in r.laid ∙ room_kept 0 (with_room (room_in before) 0 (rows_fed_all table at_first pieces)) before

  grown : known.found.rows ≤ (fed table known piece).found.rows
  grown = le_sum known.found.rows (length (rows_fed table known piece)) (rows_one table known piece)

  stands_on : standing new_state new_counts ≡ standing_of table (room_in before) (pieces ++ piece ∷ [])
  stands_on =
      becomes.1
      ∙ ap₂ (λ (room : ℕ) (s : Standing). standing_fed room piece s) same_room r.stands
      ∙ ap (λ (t : Bool). record { table = table; known = fed table known piece; overflown = t })
      (more_room (room_in before) known.found.rows (fed table known piece).found.rows grown)
      ∙ ap (λ (k : Known). record { table = table; known = k; overflown = ltb (room_in before) k.found.rows }) (sym (fed_last table at_first pieces piece))

  laid_on : after ≡ stored_from 0 (with_room (room_in before) 0 (rows_fed_all table at_first (pieces ++ piece ∷ []))) before
  laid_on =
      call.lays
      ∙ ap (λ (t : Bool). cond t (rows_laid piece (standing state counts) between) between) may
      ∙ ap₂ (λ (s : Standing) (room : ℕ). stored_from s.known.found.rows (with_room room s.known.found.rows (rows_fed s.table s.known piece)) between) r.stands same_room
      ∙ ap (stored_from known.found.rows (with_room (room_in before) known.found.rows (rows_fed table known piece))) r.laid
      ∙ fitting_then before (room_in before) 0 (rows_fed_all table at_first pieces) (rows_fed table known piece) (rows_all table at_first pieces)
      ∙ ap (λ (rows : List Row). stored_from 0 (with_room (room_in before) 0 rows) before) (sym (rows_last table at_first pieces piece))

  fed_reached : Reached bytes before (pieces ++ piece ∷ []) new_state new_counts after
  fed_reached = record { accepts = r.accepts; is_one = becomes.0; stands = stands_on; laid = laid_on }

fewer : (pieces : List (List ℕ)) (piece : List ℕ) → length (joined_up (pieces ++ piece ∷ [])) ≤ most_packets → length (joined_up pieces) ≤ most_packets
fewer pieces piece h =
    le_trans (le_sum (length (joined_up pieces)) (length piece) (ap length (joined_last pieces piece) ∙ length-append (joined_up pieces) piece)) h

pub reached : (bytes : List ℕ) (before : Columns) {pieces : List (List ℕ)} {state counts : List ℕ} {after : Columns} → Recorded bytes before pieces state counts after
    → length (joined_up pieces) ≤ most_packets → Reached bytes before pieces state counts after
reached bytes before (started state counts e f accepts call) few = begun_reached bytes state counts before accepts e f call
reached bytes before (fed_on {pieces = pieces} {piece = piece} earlier call) few =
    fed_reached bytes before pieces piece few (reached bytes before earlier (fewer pieces piece few)) call

-- ---- at the end

-- an answer looks at the room only to see whether the rows are more
by_room : (f : Found) (a b : ℕ) → ltb a f.rows ≡ ltb b f.rows → answer_of f a ≡ answer_of f b
by_room f a b e =
    ap (λ (t : Bool). cond (ltb f.fault.number 34) (Err (Faulty (fault_of f.fault.number f.fault.packet)))
    (cond (ltb f.refusal.number 25) (Err (HeaderNotRead (header_refusal f.refusal.number) f.refusal.packet))
    (cond t (Err TooManyRows) (Ok f.rows)))) e

told_room : (no_room room rows : ℕ) → eqb no_room 1 ≡ ltb room rows → ltb (room_told no_room rows) rows ≡ ltb room rows
told_room no_room room rows e = go (ltb room rows) refl (ap (λ (t : Bool). ltb (cond t 0 rows) rows) e)
  where
    go : (t : Bool) → ltb room rows ≡ t → ltb (room_told no_room rows) rows ≡ ltb (cond (ltb room rows) 0 rows) rows → ltb (room_told no_room rows) rows ≡ ltb room rows
    go true p q = q ∙ ap (λ (t : Bool). ltb (cond t 0 rows) rows) p ∙ lt-ltb 0 rows (omega (arith, ltb-true room rows p)) ∙ sym p
    go false p q = q ∙ ap (λ (t : Bool). ltb (cond t 0 rows) rows) p ∙ le-ltb rows rows (omega arith) ∙ sym p

end_rows : (p : Progress) → (found_at_end p).rows ≡ p.found.rows
end_rows p = go (eqb p.part 0)
  where
    go : (t : Bool) → (cond t p.found (noted p.number (Fault 30) p.found)).rows ≡ p.found.rows
    go true = refl
    go false = refl

-- rows that are answered are no more than the room
abbrev Within : Found → ℕ → RowsRead → Type 0
Within f room (Ok count) = f.rows ≤ room
Within f room (Err (Refused refusal)) = Unit {0}
Within f room (Err (NotRead refusal packet)) = Unit {0}

within : (f : Found) (room : ℕ) → Within f room (rows_told (answer_of f room))
within f room =
    either_way told (ltb f.fault.number 34) (Err (Faulty (fault_of f.fault.number f.fault.packet)))
    (cond (ltb f.refusal.number 25) (Err (HeaderNotRead (header_refusal f.refusal.number) f.refusal.packet)) (cond (ltb room f.rows) (Err TooManyRows) (Ok f.rows)))
    tt
    (either_way told (ltb f.refusal.number 25) (Err (HeaderNotRead (header_refusal f.refusal.number) f.refusal.packet)) (cond (ltb room f.rows) (Err TooManyRows) (Ok f.rows))
    tt
    (or_else told (ltb room f.rows) (Err TooManyRows) (Ok f.rows) tt (λ e. ltb-false room f.rows e)))
  where
    told : Recording → Type 0
    told x = Within f room (rows_told x)

-- rows that all columns have room for
one_over : (f : Row → ℕ) (rows : List Row) (column : List ℕ) → length rows ≤ length column → sets column 0 (map f rows) ≡ over (map f rows) column
one_over f rows column h = sets_over (map f rows) column (subst (λ (n : ℕ). n ≤ length column) (sym (length-map rows f)) h)

module _ (n a b c d e : ℕ) (h : n ≤ min a (min b (min c (min d e)))) where
  first_holds : n ≤ a
  first_holds = omega arith

  second_holds : n ≤ b
  second_holds = omega arith

  third_holds : n ≤ c
  third_holds = omega arith

  fourth_holds : n ≤ d
  fourth_holds = omega arith

  fifth_holds : n ≤ e
  fifth_holds = omega arith

pub all_over : (rows : List Row) (c : Columns) → length rows ≤ room_in c → stored_from 0 (with_room (room_in c) 0 rows) c ≡ over_all rows c
all_over rows c h =
    ap (λ (l : List Row). stored_from 0 l c) (take_all (room_in c - 0) rows (subst (λ (n : ℕ). length rows ≤ n) (sym (sub_zero (room_in c))) h))
    ∙ (λ i. columns (one_over index_in rows c.indices (first_holds (length rows) _ _ _ _ _ h) i) (one_over decoding_in rows c.decodings (second_holds (length rows) (length c.indices) _ _ _ _ h) i)
    (one_over match_in rows c.matches (third_holds (length rows) (length c.indices) (length c.decodings) _ _ _ h) i)
    (one_over tref_in rows c.trefs (fourth_holds (length rows) (length c.indices) (length c.decodings) (length c.matches) _ _ h) i)
    (one_over packet_in rows c.packets (fifth_holds (length rows) (length c.indices) (length c.decodings) (length c.matches) (length c.trefs) _ h) i))
  where
    sub_zero : (n : ℕ) → n - 0 ≡ n
    sub_zero n = omega arith

module _ (bytes : List ℕ) (before : Columns) (pieces : List (List ℕ)) {state counts : List ℕ} {after : Columns} (r : Reached bytes before pieces state counts after) where
  abbrev whole_found : Found
  whole_found = found_in (pid_table bytes) (joined_up pieces)

  found_whole : found_at_end (progress_in counts) ≡ whole_found
  found_whole = end_is_whole (pid_table bytes) pieces (ap (λ (s : Standing). s.known) r.stands) (ready (stated state counts r.is_one))

  rows_told_lem : (progress_in counts).found.rows ≡ whole_found.rows
  rows_told_lem = sym (end_rows (progress_in counts)) ∙ ap (λ (f : Found). f.rows) found_whole

  flag_told : eqb (no_room_in counts) 1 ≡ ltb (room_in before) whole_found.rows
  flag_told =
      ap (λ (s : Standing). s.overflown) r.stands
      ∙ ap (λ (s : Standing). ltb (room_in before) s.known.found.rows) (sym r.stands)
      ∙ ap (ltb (room_in before)) rows_told_lem

  -- WHAT IS TOLD is what the whole recording is, with the room that the columns have
  pub told_whole : told_by counts ≡ answer_of whole_found (room_in before)
  told_whole =
      ap (λ (f : Found). told_of f (no_room_in counts)) found_whole
      ∙ by_room whole_found (room_told (no_room_in counts) whole_found.rows) (room_in before)
      (told_room (no_room_in counts) (room_in before) whole_found.rows flag_told)

  least : (places : ℕ) → room_in before ≤ places → min places (room_in before) ≡ room_in before
  least places h = omega arith

  rows_call : (places : ℕ) → room_in before ≤ places → rows_under bytes (joined_up pieces) places before ≡ rows_told (answer_of whole_found (room_in before))
  rows_call places h =
      ap₂ (λ (o : Outcome) (room : ℕ). rows_for o (answer_of whole_found room)) r.accepts (least places h)

  tells_whole : (places : ℕ) → room_in before ≤ places → told_call state counts ≡ rows_answer (rows_under bytes (joined_up pieces) places before)
  tells_whole places h =
      ap (λ (t : Bool). cond t (rows_answer (rows_told (told_by counts))) not_a_call) r.is_one
      ∙ ap (λ (x : Recording). rows_answer (rows_told x)) told_whole
      ∙ ap rows_answer (sym (rows_call places h))

  pub holds_whole : after ≡ stored_from 0 (with_room (room_in before) 0 (rows_of bytes (joined_up pieces))) before
  holds_whole = r.laid ∙ ap (λ (rows : List Row). stored_from 0 (with_room (room_in before) 0 rows) before) (however_cut (pid_table bytes) pieces).gives

  -- where the rows are accepted, there is room for them
  fit : (places count : ℕ) → room_in before ≤ places → rows_under bytes (joined_up pieces) places before ≡ Ok count → length (rows_of bytes (joined_up pieces)) ≤ room_in before
  fit places count h e =
      subst (λ (n : ℕ). n ≤ room_in before) (rows_counted (pid_table bytes) (joined_up pieces))
      (subst (Within whole_found (room_in before)) (sym (rows_call places h) ∙ e) (within whole_found (room_in before)))

  lays_whole : (places count : ℕ) → room_in before ≤ places → rows_under bytes (joined_up pieces) places before ≡ Ok count
      → after ≡ columns_under bytes (joined_up pieces) (Ok count) before
  lays_whole places count h e = holds_whole ∙ all_over (rows_of bytes (joined_up pieces)) before (fit places count h e)

  pub as_the_whole : AsTheWhole bytes before pieces state counts after
  as_the_whole = record { still_a_state = r.is_one; tells = tells_whole; holds = holds_whole; lays = lays_whole }

-- HOWEVER A RECORDING IS CUT, THE ANSWER IS THAT OF THE WHOLE, for pieces that together have no more bytes than packets are told apart.
pub pieces_joined_up : (bytes : List ℕ) (before : Columns) {pieces : List (List ℕ)} {state counts : List ℕ} {after : Columns} → Recorded bytes before pieces state counts after
    → length (joined_up pieces) ≤ most_packets → AsTheWhole bytes before pieces state counts after
pieces_joined_up bytes before {pieces} recorded few = as_the_whole bytes before pieces (reached bytes before recorded few)
