-- THE STATEMENT OF DEMAND 3, `agreement`: of every loop that the 2015 reading accepts and every target, what Meaning says. With it stand: the
-- 2009 reading accepts every such loop, `accepted_too`; every loop and target is of one of the two kinds that the demand tells apart,
-- `one_or_other`; and a reading gives one answer, `answer_given` and `one_answer`.
-- Assumes nothing.
use Rattle.std.specs.Prelude.{ℕ, ◌≡◌, refl, List, map, ◌⊎◌, Ok}
use Rattle.std.proofs.Common.{sym, ◌∙◌, ap, subst, inl, inr, arith}
use Rattle.vocabulary.specs.declared.stream_types.Reading.{Reading}
use Rattle.vocabulary.specs.declared.stream_types.Reading.TheVariants.{Edition2009, Edition2015}
use Rattle.vocabulary.specs.declared.refusal.Refusal.{Refusal}
use Rattle.vocabulary.specs.Refusals.{number_of}
use Rattle.loop_entries.specs.declared.Entry.{Entry}
use Rattle.loop_entries.specs.declared.Stream.{Stream}
use Rattle.es_loop.specs.declared.reader.LoopRead.{LoopRead}
use Rattle.loop_entries.specs.Entries.{stream_of, marked_streams}
use Rattle.es_loop.specs.Reading.{accepted, loop_read}
use Rattle.es_loop.specs.Meaning.{too_long_lem, refuses}
use Rattle.es_loop.specs.Meaning as Loop
use Rattle.es_loop.proofs.Meant.{answer_meant, answer_only}
use Rattle.closure.specs.declared.Layers.{Layers}
use Rattle.join_answers.specs.Answer.{Joined}
use Rattle.rows.specs.Table.{Table}
use Rattle.loop_layers.specs.Closures.{entries_read}
use Rattle.loop_layers.specs.Layers.{layers_of}
use Rattle.loop_layers.proofs.Meant.{layers_meant, layers_only, entries_read_lem, loop_answer_meant, loop_answer_only}
use Rattle.unit_lists.specs.Sequence.{Lists}
use Rattle.importing.specs.Importing.{imported_lists}
use Rattle.importing.proofs.Meant.{import_meant, import_only}
use Rattle.agreement.specs.Meaning.{Accepts, Every2009, Otherwise, Answer, Gives, NoSet, no_such_layer, embedded_layer_absent, Refuses2009, Agrees}
use Rattle.agreement.specs.Records.{entry_in2009}
use Rattle.agreement.specs.Entries.{IsAccepted, entries_in}
use Rattle.agreement.proofs.Entries.{accepted_in_2009, entries_in_2009}
use Rattle.agreement.specs.Computed.{layers_in, answer_in, AlwaysRefused}
use Rattle.agreement.proofs.Computed.{same_answer, identical_answer, always_refused, either_way}

-- 11 and 12
pub numbers_11_and_12 : {refusal : Refusal} → NoSet refusal → (number_of refusal ≡ 11) ⊎ (number_of refusal ≡ 12)
numbers_11_and_12 no_such_layer = inl refl
numbers_11_and_12 (embedded_layer_absent index) = inr refl

-- ---- a reading gives the answer that is computed, and no other

module _ (reading : Reading) (bytes : List ℕ) (target : ℕ) (t : Table) (before : Lists) where
  pub answer_given : Gives reading bytes target t before (answer_in reading bytes target t before)
  answer_given =
      record {
        right_closure = loop_answer_meant reading bytes target;
        right_import = import_meant reading bytes target t before (record { is_answer = refl; is_after = refl });
      }

  given_only : {a : Answer} → Gives reading bytes target t before a → a ≡ answer_in reading bytes target t before
  given_only g =
      let p = import_only reading bytes target t before g.right_import in
      same_answer (loop_answer_only reading bytes target g.right_closure) p.is_answer
      (p.is_after ∙ ap (λ (j : Joined). imported_lists reading bytes t j before) p.is_answer)

  pub one_answer : {a b : Answer} → Gives reading bytes target t before a → Gives reading bytes target t before b → a ≡ b
  one_answer g h = given_only g ∙ sym (given_only h)

-- ---- what is accepted, as it is computed

pub accepts : (reading : Reading) (bytes : List ℕ) → IsAccepted reading bytes → Accepts reading bytes (entries_in reading bytes) (layers_in reading bytes)
accepts reading bytes = go (answer_meant reading bytes) refl
  where
    go : {read : LoopRead} → Loop.Answers reading bytes read → read ≡ loop_read reading bytes → read.outcome ≡ Ok tt
        → Accepts reading bytes (entries_in reading bytes) (layers_in reading bytes)
    go (too_long_lem h) p e = let z : ◌≡◌ {A = ℕ} 0 1 = cc in absurd (omega arith)
    go (refuses short c at-k lower earlier) p e = let z : ◌≡◌ {A = ℕ} 0 1 = cc in absurd (omega arith)
    go (Loop.accepts {entries} short c none) p e =
        let streams : List Stream = marked_streams (map (stream_of reading) entries) in
        record {
          streams = streams;
          answer = Loop.accepts short c none;
          entries_are = sym (entries_read_lem streams) ∙ ap entries_read p;
          layers_are = layers_meant (entries_in reading bytes);
        }

module _ {reading : Reading} {bytes : List ℕ} {entries : List Entry} {layers : Layers} (a : Accepts reading bytes entries layers) where
  is_read : accepted a.streams ≡ loop_read reading bytes
  is_read = answer_only reading bytes a.answer

  pub outcome_is : IsAccepted reading bytes
  outcome_is = sym (ap (λ (r : LoopRead). r.outcome) is_read)

  pub same_entries : entries ≡ entries_in reading bytes
  same_entries = sym a.entries_are ∙ sym (entries_read_lem a.streams) ∙ ap entries_read is_read

  pub same_layers : layers ≡ layers_in reading bytes
  same_layers = layers_only entries a.layers_are ∙ ap (λ (l : List Entry). layers_of l) same_entries

-- ---- THE STATEMENT

module _ {bytes : List ℕ} {entries : List Entry} {layers : Layers} (a : Accepts Edition2015 bytes entries layers) where
  -- WHAT THE 2015 READING ACCEPTS, THE 2009 READING ACCEPTS, with the same entries but for what Records says.
  pub accepted_too : Accepts Edition2009 bytes (map entry_in2009 entries) (layers_of (map entry_in2009 entries))
  accepted_too =
      subst (λ (es : List Entry). Accepts Edition2009 bytes es (layers_of es))
      (entries_in_2009 bytes (outcome_is a) ∙ ap (map entry_in2009) (sym (same_entries a)))
      (accepts Edition2009 bytes (accepted_in_2009 bytes (outcome_is a)))

  module _ (target : ℕ) where
    -- what is said of the entries and the layers, as they are computed
    over_computed : (P : List Entry → Layers → Type 0) → P (entries_in Edition2015 bytes) (layers_in Edition2015 bytes) → P entries layers
    over_computed P p =
        subst (λ (l : Layers). P entries l) (sym (same_layers a)) (subst (λ (es : List Entry). P es (layers_in Edition2015 bytes)) (sym (same_entries a)) p)

    -- DEMAND 3.
    pub agreement : Agrees bytes entries layers target
    agreement =
        over_computed (λ es ls. Agrees bytes es ls target)
        (record {
          identical = λ every t before b. (
            λ g. as_computed Edition2015 t before (given_only Edition2009 bytes target t before g ∙ same every t before),
            λ g. as_computed Edition2009 t before (given_only Edition2015 bytes target t before g ∙ sym (same every t before)),
          );
          otherwise = λ other. refused (always_refused bytes (outcome_is a) target other);
        })
      where
        as_computed : (reading : Reading) (t : Table) (before : Lists) {b : Answer} → b ≡ answer_in reading bytes target t before
            → Gives reading bytes target t before b
        as_computed reading t before e =
            subst (Gives reading bytes target t before) (sym e) (answer_given reading bytes target t before)

        same : Every2009 (entries_in Edition2015 bytes) (layers_in Edition2015 bytes) target → (t : Table) (before : Lists)
            → answer_in Edition2009 bytes target t before ≡ answer_in Edition2015 bytes target t before
        same = identical_answer bytes (outcome_is a) target

        refused : AlwaysRefused bytes target → Refuses2009 bytes target
        refused r =
            record {
              refusal = r.refusal;
              is_11_or_12 = r.is_11_or_12;
              always = λ t before. as_computed Edition2009 t before (sym (r.always t before));
            }

    -- One or the other is so.
    pub one_or_other : Every2009 entries layers target ⊎ Otherwise entries layers target
    one_or_other = over_computed (λ es ls. Every2009 es ls target ⊎ Otherwise es ls target) (either_way bytes (outcome_is a) target)
