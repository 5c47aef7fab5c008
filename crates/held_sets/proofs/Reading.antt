-- The set that reading a loop answers has the meaning, and no other has it.
-- Assumes nothing.
use Rattle.std.specs.Prelude.{Ok}
use Prim.Native.Nat.{ℕ}
use mathlib.Core.List.{List, map}
use mathlib.Core.Logic.{◌↔◌}
use mathlib.Core.Path.{◌≡◌, refl, sym, ap, ◌∙◌, subst}
use Rattle.vocabulary.specs.declared.stream_types.Reading.{Reading}
use Rattle.vocabulary.specs.declared.refusal.Refusal.{Refusal}
use Rattle.loop_entries.specs.declared.Entry.{Entry}
use Rattle.loop_entries.specs.declared.Stream.{Stream}
use Rattle.es_loop.specs.Answer.{Outcome}
use Rattle.es_loop.specs.declared.reader.LoopRead.{LoopRead}
use Rattle.loop_entries.specs.Entries.{stream_of, marked_streams}
use Rattle.es_loop.specs.Reading.{refused_with, accepted, loop_read}
use Rattle.es_loop.specs.Meaning.{too_long_lem, refuses, accepts}
use Rattle.es_loop.specs.Meaning as Loop
use Rattle.es_loop.proofs.Meant.{answer_meant, answer_only}
use Rattle.loop_layers.specs.Closures.{entries_read}
use Rattle.loop_layers.specs.Meaning.{LayerOf}
use Rattle.loop_layers.proofs.Meant.{entries_read_lem}
use Rattle.layer_set.specs.declared.«set».LayerSet.{LayerSet}
use Rattle.layer_set.specs.Sets.{set_read, loop_set}
use Rattle.layer_set.specs.Meaning.{Layer}
use Rattle.layer_set.proofs.Read.{read_is_set, read_layers, as_read}
use Rattle.held_sets.specs.Meaning.{ReadsSet, loop_refused, loop_accepted}

data Cases (read : LoopRead) : Type 0 where
  is_refused : (refusal : Refusal) → read ≡ refused_with refusal → Cases read
  is_accepted : (streams : List Stream) → read ≡ accepted streams → Cases read

cases : {reading : Reading} {bytes : List ℕ} {read : LoopRead} → Loop.Answers reading bytes read → Cases read
cases (too_long_lem h) = is_refused _ refl
cases (refuses short c at-k lower earlier) = is_refused _ refl
cases {reading} (accepts {entries} short c none) = is_accepted (marked_streams (map (stream_of reading) entries)) refl

module _ (reading : Reading) (bytes : List ℕ) where
  abbrev read : LoopRead
  read = loop_read reading bytes

  pub read_meant : ReadsSet reading bytes (loop_set reading bytes).outcome (loop_set reading bytes).«set»
  unfolding loop_set
  read_meant = go (cases (answer_meant reading bytes))
    where
      go : Cases (loop_read reading bytes) → ReadsSet reading bytes (set_read (loop_read reading bytes)).outcome (set_read (loop_read reading bytes)).«set»
      go (is_refused refusal e) =
          subst (λ (r : LoopRead). ReadsSet reading bytes (set_read r).outcome (set_read r).«set») (sym e)
          (loop_refused (subst (Loop.Answers reading bytes) e (answer_meant reading bytes)))
      go (is_accepted streams e) =
          let ok : (loop_read reading bytes).outcome ≡ (Ok tt) = ap (λ (r : LoopRead). r.outcome) e in
          subst (λ (o : Outcome). ReadsSet reading bytes o (set_read (loop_read reading bytes)).«set») (sym ok)
          (loop_accepted streams (subst (Loop.Answers reading bytes) e (answer_meant reading bytes)) (read_is_set reading bytes ok)
          (λ i x. subst (λ (es : List Entry). Layer (loop_set reading bytes).«set» i x ↔ LayerOf es i x) (ap entries_read e ∙ entries_read_lem streams) (read_layers reading bytes ok i x)))

  pub read_only : {o : Outcome} {s : LayerSet} → ReadsSet reading bytes o s → (o ≡ (loop_set reading bytes).outcome) × (s ≡ (loop_set reading bytes).«set»)
  unfolding loop_set
  read_only (loop_refused {refusal} a) =
      let e = answer_only reading bytes a in
      (ap (λ (r : LoopRead). (set_read r).outcome) e, ap (λ (r : LoopRead). (set_read r).«set») e)
  read_only (loop_accepted streams {s} a is same) =
      let e = answer_only reading bytes a in
      let ok : (loop_read reading bytes).outcome ≡ (Ok tt) = ap (λ (r : LoopRead). r.outcome) (sym e) in (
        sym ok,
        as_read reading bytes ok s is
            (λ i x. subst (λ (es : List Entry). Layer s i x ↔ LayerOf es i x) (sym (entries_read_lem streams) ∙ ap entries_read e) (same i x)),
      )
