-- The walk through the bytes of a loop: where it stands after some of the entries, and the ways out of the pass that judges.
-- Assumes nothing.
use Rattle.std.specs.Prelude.{Err}
use Rattle.es_loop.specs.Answer.{entries_judged}
use Prim.Native.Nat.{ℕ, zero, suc, ◌+◌, ◌-◌, ◌*◌, ◌≤◌, ◌<◌}
use mathlib.Core.Path.{◌≡◌, refl, sym, ◌∙◌, ap, subst}
use mathlib.Core.Bool.{Bool, false, not}
use mathlib.Core.List.{List, [], ◌∷◌, map}
use native.Mathlib.Omega.{arith}
use native.Mathlib.Decide.{dec_le}
use lib.ListN.{length, take, drop, length-drop, drop_of_length-le}
use Rattle.combinators.specs.Bools.{apart}
use Rattle.combinators.specs.Lists.{Next, next, part_to_end}
use Rattle.combinators.specs.Lowest.{Lowest}
use Rattle.framing.specs.Pieces.{whole}
use Rattle.implied.specs.Rule.{given}
use Rattle.vocabulary.specs.declared.stream_types.Reading.{Reading}
use Rattle.vocabulary.specs.declared.refusal.Refusal.TheVariants.{DoesNotFit}
use Rattle.loop_entries.specs.declared.Stream.{Stream}
use Rattle.loop_faults.specs.declared.Fault.{Fault}
use Rattle.loop_entries.specs.Entries.{no_stream, size_of, stream_of, pair_of, marked_stream, streams_alone, streams_of}
use Rattle.loop_faults.specs.Conditions.{stream_at, given_at, applies, refusal_of}
use Rattle.loop_entries.proofs.Front.{size_large, pid_below, front_broken, front_of, left_at, left_long}
use Rattle.es_loop.specs.Reading.{judged}
use Rattle.es_loop.proofs.Pairs.{pair_marked}
use Rattle.es_loop.proofs.Verdicts.{judged_refused, judged_accepted, Sound}

-- The first entry that does not fit, where all before it have only higher numbers.
pub does_not_fit : (streams : List Stream) (number place count : ℕ) → count < length streams → (stream_at streams count).fits ≡ false
    → 3 ≤ number → Lowest (applies streams) 10 count number place → Err (DoesNotFit count) ≡ judged streams
does_not_fit streams number place count inside unfit above b = judged_refused streams 2 count two (omega arith)
  where
    none : (n k : ℕ) → n < 2 → applies streams n k ≡ false
    none zero k h = refl
    none (suc zero) k h = refl
    none (suc (suc n)) k h = absurd (omega arith)

    two : Lowest (applies streams) 10 (length streams) 2 count
    two =
        record {
          within = omega arith;
          lower = λ n k h l. none n k h;
          inside = λ h. inside;
          holds = λ h. ap not unfit;
          earlier = λ h k l. b.lower 2 k (omega arith) l;
        }

module _ (reading : Reading) (bytes : List ℕ) where
  abbrev all : List Stream
  all = streams_of reading bytes

  abbrev pair : Bool
  pair = pair_of (streams_alone reading bytes)

  -- the entries that stand in some bytes at the loop's end, with their marks
  abbrev pub rest_of : List ℕ → List Stream
  rest_of left = map (marked_stream pair) (streams_alone reading left)

  -- Where the walk stands after `count` entries, which end before the byte `at`.
  pub record Cursor (count at : ℕ) : Type 0 where
    pub within : at ≤ length bytes
    pub spaced : 5 * count ≤ at
    pub counted : count ≤ length all
    pub rest : drop count all ≡ rest_of (drop at bytes)

  pub cursor_start : Cursor 0 0
  cursor_start = record { within = omega arith; spaced = omega arith; counted = omega arith; rest = refl }

  -- Another entry.
  module _ (count at : ℕ) (cursor : Cursor count at) (s : Stream) (size : ℕ)
      (front : drop count all ≡ s ∷ rest_of (drop (at + size) bytes)) where
    entry : Next all count s (rest_of (drop (at + size) bytes))
    entry = next all count s (rest_of (drop (at + size) bytes)) front

    pub is_here : stream_at all count ≡ s
    is_here = entry.here no_stream

    pub is_inside : count < length all
    is_inside = entry.inside

    pub cursor_next : 5 ≤ size → at + size ≤ length bytes → Cursor (count + 1) (at + size)
    cursor_next large room =
        record {
          within = room;
          spaced = omega (arith, cursor.spaced);
          counted = (let i = entry.inside in omega arith);
          rest = entry.after;
        }

  -- After the last entry the walk has met them all.
  pub counted_all : (count at : ℕ) → Cursor count at → length bytes ≤ at → count ≡ length all
  counted_all count at cursor done =
      let nothing_left : drop count all ≡ [] = cursor.rest ∙ ap rest_of (drop_of_length-le bytes done) in
      let left : length all - count ≡ 0 = sym (length-drop count all) ∙ ap length nothing_left in
      omega (arith, cursor.counted)

  module _ (fault : Fault) (count at : ℕ) (cursor : Cursor count at) (known : Lowest (applies all) 10 count fault.number fault.place)
      (done : length bytes ≤ at) where
    over_all : Lowest (applies all) 10 (length all) fault.number fault.place
    over_all = subst (λ (n : ℕ). Lowest (applies all) 10 n fault.number fault.place) (counted_all count at cursor done) known

    pub end_refused : fault.number < 10 → Err (refusal_of fault.number fault.place) ≡ judged all
    end_refused h = judged_refused all fault.number fault.place over_all h

    pub end_accepted : (held : Bool) → held ≡ pair → 10 ≤ fault.number → entries_judged count held ≡ judged all
    end_accepted held is-pair h =
        let ten : fault.number ≡ 10 = omega (arith, known.within) in
        ap (entries_judged count) (is-pair ∙ sym (pair_marked (streams_alone reading bytes)))
        ∙ ap (λ (n : ℕ). entries_judged n (pair_of all)) (counted_all count at cursor done)
        ∙ judged_accepted all fault.place (subst (λ (m : ℕ). Lowest (applies all) 10 (length all) m fault.place) ten over_all)

  -- What stands at the front of the bytes that are left, with its mark, where the entries before it were met.
  module _ (left : List ℕ) (at : ℕ) (is_left : left ≡ drop at bytes) (some_left : 0 < length left) where
    pub marked_front : (count : ℕ) → drop count all ≡ rest_of (drop at bytes) → (size : ℕ) → size ≡ size_of left → size ≤ length left
        → (held : Bool) → held ≡ pair → (s : Stream) → s ≡ marked_stream held (stream_of reading (whole (take 5 (take size left)) (drop 5 (take size left))))
        → drop count all ≡ s ∷ rest_of (drop (at + size) bytes)
    marked_front count rest size is-size h held is-pair s is-s =
        rest ∙ ap rest_of (sym is_left) ∙ ap (map (marked_stream pair)) (front_of reading bytes left at is_left some_left size is-size h) ∙ rw (is-s, is-pair)

  -- ONE TURN, with the values that the code holds: the bytes that are left, and the size of the entry at their front.
  module _ (count at : ℕ) (cursor : Cursor count at) (more : at < length bytes) (size : ℕ) (is-size : size ≡ size_of (left_at reading bytes at)) where
    pub size_5 : 5 ≤ size
    size_5 = rw is-size (size_large (left_at reading bytes at))

    -- an entry that does not fit is the last
    pub no_entry : length (left_at reading bytes at) < size → (count < length all) × ((stream_at all count).fits ≡ false)
    no_entry short =
        let broken-left = front_broken reading bytes (left_at reading bytes at) at (part_to_end bytes at) (omega (arith, left_long reading bytes at)) (rw (← is-size) short) in
        let front : drop count all ≡ no_stream ∷ [] =
        cursor.rest ∙ ap rest_of (sym (part_to_end bytes at)) ∙ ap (map (marked_stream pair)) broken-left in
        let entry = next all count no_stream [] front in
        (entry.inside, ap (λ (s : Stream). s.fits) (entry.here no_stream))

    -- one that does
    module _ (room : size ≤ length (left_at reading bytes at)) (held : Bool) (is-pair : held ≡ pair) (s : Stream)
        (is-s : s ≡ marked_stream held (stream_of reading (whole (take 5 (take size (left_at reading bytes at))) (drop 5 (take size (left_at reading bytes at)))))) where
      front_here : drop count all ≡ s ∷ rest_of (drop (at + size) bytes)
      front_here =
          marked_front (left_at reading bytes at) at (part_to_end bytes at) (omega (arith, left_long reading bytes at)) count cursor.rest size is-size room held is-pair s is-s

      pub stands_here : stream_at all count ≡ s
      stands_here = is_here count at cursor s size front_here

      -- what the rule gives an entry of this type
      pub given_here : given held s.stream_type ≡ given_at all count
      given_here =
          ap (λ (b : Bool). given b s.stream_type) (is-pair ∙ sym (pair_marked (streams_alone reading bytes)))
          ∙ ap (λ (t : Stream). given (pair_of all) t.stream_type) (sym stands_here)

      pub inside_here : count < length all
      inside_here = is_inside count at cursor s size front_here

      pub pid_here : s.pid < 8192
      pid_here = rw is-s (pid_below reading (take 5 (take size (left_at reading bytes at))) (drop 5 (take size (left_at reading bytes at))))

      pub next_here : Cursor (count + 1) (at + size)
      next_here = cursor_next count at cursor s size front_here size_5 (omega (arith, left_long reading bytes at))

  -- In a loop that was accepted every entry fits: a second walk meets no other.
  module _ (total : ℕ) (held : Bool) (accepted : Sound reading bytes total held) (count at : ℕ) (cursor : Cursor count at) (more : at < length bytes)
      (size : ℕ) (is-size : size ≡ size_of (left_at reading bytes at)) where
    pub size_fits : size ≤ length (left_at reading bytes at)
    size_fits = go (dec_le size (length (left_at reading bytes at)))
      where
        go : Dec (size ≤ length (left_at reading bytes at)) → size ≤ length (left_at reading bytes at)
        go (yes h) = h
        go (no h) =
            let unfit = no_entry count at cursor more size is-size (omega arith) in
            apart (sym (accepted.none 2 count (omega arith) unfit.0) ∙ ap not unfit.1)
