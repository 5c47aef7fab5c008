-- What is said of an entry before it, read off two arrays of marks: one mark for each PID, and one for each layer index. The reader and the
-- writer of a loop both keep them.
-- Assumes nothing.
use Prim.Native.Nat.{ℕ, ◌<◌}
use mathlib.Core.Path.{◌≡◌, refl, sym, ◌∙◌, ap}
use mathlib.Core.Bool.{Bool, true, false, ◌&&◌, and-false}
use mathlib.Core.List.{List}
use native.Mathlib.Omega.{arith}
use borrow.Author.Tests.{ne_eqb}
use lib.Dec.{eqb}
use lib.ListN.{get_or}
use Rattle.combinators.specs.Below.{some, some_same, at_none}
use Rattle.combinators.specs.Marks.{Marks}
use Rattle.records.specs.declared.Record.{Record}
use Rattle.records.specs.Records.{is_layer, index_of}
use Rattle.judging.specs.Judging.{same_index}
use Rattle.loop_entries.specs.declared.Stream.{Stream}
use Rattle.loop_faults.specs.Conditions.{stream_at, pid_at, type_at, record_at, repeated_pid, repeated_index, given_at, conditions, slot_of}

pub slot_below : (t : ℕ) (r : Record) → index_of t r < 256 → slot_of t r < 257
slot_below t r h = go (is_layer r) refl
  where
    go : (b : Bool) → is_layer r ≡ b → slot_of t r < 257
    go true p = rw p (omega arith)
    go false p = rw p (omega arith)

-- A mark for each slot says whether an earlier layer holds the index; a stream that is no layer asks none.
held_before : (streams : List Stream) (n t : ℕ) (r : Record) (held : List Bool) → index_of t r < 256
    → Marks 257 (λ j. slot_of (type_at streams j) (record_at streams j)) n held
    → (is_layer r && get_or held (slot_of t r) false) ≡ some (λ j. same_index (type_at streams j) (record_at streams j) t r) n
held_before streams n t r held small m = go (is_layer r) refl
  where
    layer : (u : ℕ) (s : Record) (i : ℕ) → i < 256 → (b : Bool) → is_layer s ≡ b → eqb (slot_of u s) i ≡ ((is_layer s && true) && eqb (index_of u s) i)
    layer u s i h true p = rw p
    layer u s i h false p = rw (p, ne_eqb 256 i (omega arith))

    go : (b : Bool) → is_layer r ≡ b → (is_layer r && get_or held (slot_of t r) false) ≡ some (λ j. same_index (type_at streams j) (record_at streams j) t r) n
    go true p =
        rw p
        (m.marked (index_of t r) (omega arith)
        ∙ some_same (λ j. eqb (slot_of (type_at streams j) (record_at streams j)) (index_of t r)) _ n
        (λ k h. layer (type_at streams k) (record_at streams k) (index_of t r) small (is_layer (record_at streams k)) refl))
    go false p =
        rw p
        (sym
        (at_none (λ j. (is_layer (record_at streams j) && false) && eqb (index_of (type_at streams j) (record_at streams j)) (index_of t r)) n
        (λ k h. rw (and-false (is_layer (record_at streams k))))))

-- The conditions at an entry, with both marks for what is said before it.
module _ (all : List Stream) (is_given : Bool) (count : ℕ) (marks held : List Bool) (pids : Marks 8192 (pid_at all) count marks)
    (indices : Marks 257 (λ j. slot_of (type_at all j) (record_at all j)) count held) (s : Stream) (here : stream_at all count ≡ s) (given_here : is_given ≡ given_at all count)
    (pid_small : s.pid < 8192) (index_small : index_of s.stream_type s.seen.«record» < 256) where
  abbrev held_by : Stream → ℕ → Bool
  held_by t j = same_index (type_at all j) (record_at all j) t.stream_type t.seen.«record»

  pub marked_tests : conditions (given_at all count) (repeated_pid all count) (repeated_index all count) (stream_at all count)
      ≡ conditions is_given (get_or marks s.pid false) (is_layer s.seen.«record» && get_or held (slot_of s.stream_type s.seen.«record») false) s
  marked_tests =
      ap (λ (b : Bool). conditions b (repeated_pid all count) (repeated_index all count) (stream_at all count)) (sym given_here)
      ∙ ap (λ (t : Stream). conditions is_given (some (λ j. eqb (pid_at all j) t.pid) count) (some (held_by t) count) t) here
      ∙ ap (λ (b : Bool). conditions is_given b (some (held_by s) count) s) (sym (pids.marked s.pid pid_small))
      ∙ ap (λ (b : Bool). conditions is_given (get_or marks s.pid false) b s)
      (sym (held_before all count s.stream_type s.seen.«record» held index_small indices))
