-- THE FUNCTIONS FOR C ON LAYER SETS: thq_set_read, thq_set_add, thq_set_remove and thq_set_closure, each one definition of its answer and of what its buffers then hold.
-- Assumes nothing.
use Rattle.std.specs.Prelude.{ℕ, cond, List, [], ◌∷◌, eqb, ltb, length, Err, None, Ok, Some}
use Rattle.buffers.specs.Buffers.{over}
use Rattle.sets.specs.Sets.{size}
use Rattle.vocabulary.specs.declared.refusal.Refusal.TheVariants.{NoRoom, TooWide}
use Rattle.es_loop.specs.Answer.{Outcome}
use Rattle.closure.specs.Answer.{Closure}
use Rattle.entry_rows.specs.Rows.{some_too_wide, rows_of, entry_in}
use Rattle.layer_set.specs.declared.«set».LayerSet.{LayerSet}
use Rattle.layer_set.specs.declared.changing.Changed.{Changed}
use Rattle.layer_set.specs.Sets.{stored_in, loop_set, added_to, removed_from, closure_in}
use Rattle.layer_set_rows.specs.Buffers.{stored_numbers, set_in, holds_set}
use Rattle.c_answers.specs.Answer.{Asked}
use Rattle.c_answers.specs.Answers.{accepted, refused, not_a_call, asked_for, Reply, reply, unchanged}

-- What a call leaves: its answer, and the final content of the two buffers of the set.
pub record SetReply : Type 0 where
  pub answer : ℕ
  pub layers : List ℕ
  pub stored : List ℕ

abbrev pub set_reply : ℕ → List ℕ → List ℕ → SetReply
set_reply answer layers stored = record { answer = answer; layers = layers; stored = stored }

-- a set in its buffers: 'counts the layers of the set'
unfoldable pub set_laid : LayerSet → SetReply
set_laid s = set_reply (accepted (size s.layers.present)) (rows_of s.entries) (stored_numbers (stored_in s))

-- what a change, or reading a loop, answered
abbrev pub changed_laid : Outcome → LayerSet → List ℕ → List ℕ → SetReply
changed_laid (Ok tt) s layers stored = set_laid s
changed_laid (Err refusal) s layers stored = set_reply (refused refusal) layers stored

abbrev pub after_change : Changed → List ℕ → List ℕ → SetReply
after_change c layers stored = changed_laid c.outcome c.«set» layers stored

-- ---- thq_set_read: '1 to 9, at an entry', after 'THQ_NOT_A_CALL also where a length is not exactly that of a set'

abbrev pub read_into : Asked → List ℕ → List ℕ → List ℕ → SetReply
read_into (Some reading) bytes layers stored = changed_laid (loop_set reading bytes).outcome (loop_set reading bytes).«set» layers stored
read_into None bytes layers stored = set_reply not_a_call layers stored

unfoldable pub read_set : ℕ → List ℕ → List ℕ → List ℕ → SetReply
read_set reading bytes layers stored =
    cond (eqb (length layers) 5120) (cond (eqb (length stored) 192) (read_into (asked_for reading) bytes layers stored) (set_reply not_a_call layers stored))
    (set_reply not_a_call layers stored)

-- ---- thq_set_add: 'THQ_NOT_A_CALL where the buffers hold no set, and where `entry_length` is not 80; then 25; then 3 ..; then 6 to 9'

unfoldable pub add_set : List ℕ → List ℕ → List ℕ → SetReply
add_set layers stored entry =
    cond (holds_set layers stored)
    (cond (eqb (length entry) 80)
    (cond (some_too_wide entry) (set_reply (refused TooWide) layers stored) (after_change (added_to (set_in layers) (entry_in entry)) layers stored))
    (set_reply not_a_call layers stored))
    (set_reply not_a_call layers stored)

-- ---- thq_set_remove: 'THQ_NOT_A_CALL where the buffers hold no set; then 11'

unfoldable pub remove_set : List ℕ → List ℕ → ℕ → SetReply
remove_set layers stored index =
    cond (holds_set layers stored) (after_change (removed_from (set_in layers) index) layers stored) (set_reply not_a_call layers stored)

-- ---- thq_set_closure: 'THQ_NOT_A_CALL where the buffers hold no set; then 11, 12; then 17 where `closure_length` is 0'

abbrev pub closure_laid : Closure → List ℕ → Reply
closure_laid (Ok members) closure =
    cond (ltb (length closure) 1) (unchanged NoRoom closure) (reply (accepted (size members)) (over (members ∷ []) closure))
closure_laid (Err refusal) closure = unchanged refusal closure

unfoldable pub closure_set : List ℕ → List ℕ → ℕ → List ℕ → Reply
closure_set layers stored target closure =
    cond (holds_set layers stored) (closure_laid (closure_in (set_in layers) target) closure) (reply not_a_call closure)
