-- The laws that join the meaning of the whole import to what its call promises, both ways: what is promised is right, and nothing else is.
-- Assumes nothing.
use Prim.Native.Nat.{ℕ}
use mathlib.Core.List.{List, map}
use mathlib.Core.Path.{◌≡◌, refl, sym, ◌∙◌, ap, subst}
use Rattle.vocabulary.specs.declared.stream_types.Reading.{Reading}
use Rattle.loop_entries.specs.declared.Stream.{Stream}
use Rattle.loop_entries.specs.declared.Entry.{Entry}
use Rattle.es_loop.specs.declared.reader.LoopRead.{LoopRead}
use Rattle.loop_entries.specs.Entries.{stream_of, marked_streams, entry_of}
use Rattle.es_loop.specs.Reading.{accepted, loop_read}
use Rattle.es_loop.specs.Meaning.{too_long_lem, refuses, accepts}
use Rattle.es_loop.specs.Meaning as Loop
use Rattle.es_loop.proofs.Meant.{answer_meant, answer_only}
use Rattle.closure.specs.declared.Layers.{Layers}
use Rattle.loop_layers.specs.Layers.{layers_of}
use Rattle.loop_layers.specs.Meaning.{LayersOf}
use Rattle.loop_layers.proofs.Meant.{layers_meant, layers_only, entries_read_lem}
use Rattle.join_answers.specs.Answer.{Joined}
use Rattle.rows.specs.Table.{Table, most_rows}
use Rattle.unit_lists.specs.Sequence.{Lists}
use Rattle.join_answers.specs.Joining.{room_of, joined_of, lists_after}
use Rattle.join_answers.proofs.Meant.{joined_meant, joined_only}
use Rattle.importing.specs.Importing.{layers_read, import_in, import_of, imported_lists}
use Rattle.importing.specs.Meaning.{Answers, loop_refused, loop_accepted}

module _ (reading : Reading) (bytes : List ℕ) (target : ℕ) (t : Table) (before : Lists) where
  -- WHAT THE CALL PROMISES of its answer and of the three lists: the two equalities of its contract.
  pub record Computed (answer : Joined) (after : Lists) : Type 0 where
    pub is_answer : answer ≡ import_of reading bytes target t (room_of before)
    pub is_after : after ≡ imported_lists reading bytes t answer before

  -- the answer computed, given what reading the loop answered, with the lists that go with it
  abbrev Right : LoopRead → Type 0
  Right read =
      let answer : Joined = import_in read target t (room_of before) in
      Answers reading bytes target t before answer (lists_after (layers_read read) t answer before)

  -- the same in the layers of an accepted loop
  abbrev RightIn : Layers → Type 0
  RightIn layers =
      let answer : Joined = joined_of most_rows layers target t (room_of before) in
      Answers reading bytes target t before answer (lists_after layers t answer before)

  accepted_right : (streams : List Stream) → Loop.Answers reading bytes (accepted streams) → Right (accepted streams)
  accepted_right streams a =
      let layers : Layers = layers_of (map entry_of streams) in
      subst (λ (l : List Entry). RightIn (layers_of l)) (sym (entries_read_lem streams))
      (loop_accepted streams a (layers_meant (map entry_of streams)) (joined_meant most_rows layers target t before))

  read_right : {read : LoopRead} → Loop.Answers reading bytes read → Right read
  read_right (too_long_lem h) = loop_refused (too_long_lem h)
  read_right (refuses short c at-k lower earlier) = loop_refused (refuses short c at-k lower earlier)
  read_right (accepts {entries} short c none) = accepted_right (marked_streams (map (stream_of reading) entries)) (accepts short c none)

  computed_right : Right (loop_read reading bytes)
  computed_right = read_right (answer_meant reading bytes)

  -- WHAT IS PROMISED IS RIGHT,
  pub import_meant : {answer : Joined} {after : Lists} → Computed answer after → Answers reading bytes target t before answer after
  import_meant p = rw (p.is_after, p.is_answer) computed_right

  -- the layers of an accepted loop are those of the entries that were read
  same_layers : (streams : List Stream) {layers : Layers} → LayersOf (map entry_of streams) layers → layers ≡ layers_read (accepted streams)
  same_layers streams m = layers_only (map entry_of streams) m ∙ ap (λ (l : List Entry). layers_of l) (sym (entries_read_lem streams))

  -- and nothing else is.
  pub import_only : {answer : Joined} {after : Lists} → Answers reading bytes target t before answer after → Computed answer after
  import_only (loop_refused a) =
      record { is_answer = ap (λ (r : LoopRead). import_in r target t (room_of before)) (answer_only reading bytes a); is_after = refl }
  import_only {answer} (loop_accepted streams {layers} a m j) =
      let only = joined_only most_rows layers target t before j in
      let same = same_layers streams m in
      let read = answer_only reading bytes a in
      record {
        is_answer = only.is_answer
            ∙ ap (λ (l : Layers). joined_of most_rows l target t (room_of before)) same
            ∙ ap (λ (r : LoopRead). import_in r target t (room_of before)) read;
        is_after = only.is_after
            ∙ ap (λ (l : Layers). lists_after l t answer before) same
            ∙ ap (λ (r : LoopRead). lists_after (layers_read r) t answer before) read;
      }

  -- One answer with one content of the lists: two that have the meaning are the same.
  pub one_import : {a b : Joined} {m n : Lists} → Answers reading bytes target t before a m → Answers reading bytes target t before b n
      → (a ≡ b) × (m ≡ n)
  one_import p q =
      let x = import_only p in
      let y = import_only q in
      let same = x.is_answer ∙ sym y.is_answer in (
        same,
        x.is_after ∙ ap (λ (r : Joined). imported_lists reading bytes t r before) same ∙ sym y.is_after,
      )
