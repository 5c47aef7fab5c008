-- 'A set accepted here is accepted by both readings, with closure 0, 1.'
-- Assumes nothing.
use Rattle.std.specs.Prelude.{ℕ, ◌≡◌, ◌⊎◌, List, [], map, Ok}
use Rattle.std.proofs.Common.{sym, ◌∙◌, ap, subst, inl, inr, arith}
use Rattle.combinators.specs.Lists.{Nth, nth_one}
use Rattle.framing.specs.Pieces.{Item}
use Rattle.vocabulary.specs.declared.stream_types.Reading.{Reading}
use Rattle.vocabulary.specs.declared.stream_types.Reading.TheVariants.{Edition2009, Edition2015}
use Rattle.loop_entries.specs.declared.Entry.{Entry}
use Rattle.es_loop.specs.Answer.{Outcome}
use Rattle.es_loop.specs.declared.reader.LoopRead.{LoopRead}
use Rattle.loop_entries.specs.Entries.{stream_of, marked_streams}
use Rattle.es_loop.specs.Reading.{accepted, loop_read}
use Rattle.es_loop.specs.Meaning as Loop
use Rattle.es_loop.proofs.Meant.{answer_only}
use Rattle.closure.specs.Closures.{closure_of}
use Rattle.loop_layers.specs.Layers.{layers_of}
use Rattle.loop_layers.specs.Closures.{entries_read, closure_for, loop_closure}
use Rattle.loop_layers.proofs.Meant.{entries_read_lem}
use Rattle.rows.specs.Table.{table}
use Rattle.unit_lists.specs.Sequence.{lists}
use Rattle.agreement.specs.Meaning.{StreamType2009, avc, mvc, Every2009, Answer}
use Rattle.agreement.specs.Entries.{IsAccepted}
use Rattle.agreement.proofs.Entries.{accepted_in_2009}
use Rattle.agreement.proofs.Computed.{identical_answer}
use Rattle.stereo_set.specs.declared.set.StereoRead.{StereoRead}
use Rattle.stereo_set.specs.Reading.{stereo_read}
use Rattle.stereo_set.specs.Two.{TwoLayers}
use Rattle.stereo_set.specs.Meaning as Set
use Rattle.stereo_set.proofs.Meant.{stereo_meant}
use Rattle.stereo_agreement.specs.Closures.{closure_of_0, closure_of_1}
use Rattle.stereo_agreement.specs.Agreement.{BothReadings}

-- a loop that the 2015 reading accepts, with the two layers among its entries
module _ (bytes : List ℕ) {items : List Item} (a : Set.Accepts bytes items) {base second : Entry} (two : TwoLayers (Set.answered items) base second) where
  is_read : loop_read Edition2015 bytes ≡ accepted (marked_streams (map (stream_of Edition2015) items))
  is_read = sym (answer_only Edition2015 bytes (Loop.accepts a.short a.cuts a.sound))

  in_2015 : IsAccepted Edition2015 bytes
  in_2015 = ap (λ (r : LoopRead). r.outcome) is_read

  same_entries : entries_read (loop_read Edition2015 bytes) ≡ Set.answered items
  same_entries = ap entries_read is_read ∙ entries_read_lem (marked_streams (map (stream_of Edition2015) items))

  closure_in_2015 : (target : ℕ) → loop_closure Edition2015 bytes target ≡ closure_of (layers_of (Set.answered items)) target
  closure_in_2015 target =
      ap (λ (o : Outcome). closure_for o (layers_of (entries_read (loop_read Edition2015 bytes))) target) in_2015
      ∙ ap (λ (l : List Entry). closure_of (layers_of l) target) same_entries

  -- both stream types are known in 2009
  every : (target : ℕ) → Every2009 (entries_read (loop_read Edition2015 bytes)) (layers_of (entries_read (loop_read Edition2015 bytes))) target
  every target = record { has_type = λ k j e r l. typed k e (subst (λ (es : List Entry). Nth es k e) same_entries l.entry) l.layer }
    where
      typed : (k : ℕ) (e : Entry) → Nth (Set.answered items) k e → Rattle.records.specs.Records.is_layer e.«record» ≡ mathlib.Core.Bool.true → StreamType2009 e.stream_type
      typed k e n layer = go (two.no_other k e (record { entry = n; layer = layer }))
        where
          go : (k ≡ two.base_place) ⊎ (k ≡ two.second_place) → StreamType2009 e.stream_type
          go (inl p) =
              let same : base ≡ e = nth_one two.is_base.stands.entry (subst (λ (j : ℕ). Nth (Set.answered items) j e) p n) in
              subst StreamType2009 (sym two.is_base.type ∙ ap (λ (x : Entry). x.stream_type) same) avc
          go (inr p) =
              let same : second ≡ e = nth_one two.is_second.stands.entry (subst (λ (j : ℕ). Nth (Set.answered items) j e) p n) in
              subst StreamType2009 (sym two.is_second.type ∙ ap (λ (x : Entry). x.stream_type) same) mvc

  closure_in : (reading : Reading) (target : ℕ) → loop_closure reading bytes target ≡ closure_of (layers_of (Set.answered items)) target
  closure_in Edition2015 target = closure_in_2015 target
  closure_in Edition2009 target =
      ap (λ (x : Answer). x.closure) (identical_answer bytes in_2015 target (every target) (table [] [] []) (lists [] [] [])) ∙ closure_in_2015 target

  accepted_in : (reading : Reading) → (loop_read reading bytes).outcome ≡ Ok tt
  accepted_in Edition2015 = in_2015
  accepted_in Edition2009 = accepted_in_2009 bytes in_2015

  two_readings : BothReadings bytes
  two_readings =
      record {
        accepts = accepted_in;
        closure_0 = λ reading. closure_in reading 0 ∙ closure_of_0 (Set.answered items) two;
        closure_1 = λ reading. closure_in reading 1 ∙ closure_of_1 (Set.answered items) two;
      }

-- THE LAW, of what is meant and of what is computed
pub set_in_both : {bytes : List ℕ} {read : StereoRead} → Set.Answers bytes read → read.outcome ≡ Ok tt → BothReadings bytes
set_in_both (Set.loop_refused l) e = let z : ◌≡◌ {A = ℕ} 0 1 = cc in absurd (omega arith)
set_in_both (Set.not_the_two a none) e = let z : ◌≡◌ {A = ℕ} 0 1 = cc in absurd (omega arith)
set_in_both (Set.wrong_extension a s w) e = let z : ◌≡◌ {A = ℕ} 0 1 = cc in absurd (omega arith)
set_in_both (Set.wrong_ranges_lem a s h g w) e = let z : ◌≡◌ {A = ℕ} 0 1 = cc in absurd (omega arith)
set_in_both {bytes} (Set.a_set a s h g w) e = two_readings bytes a s.two

pub both_readings : (bytes : List ℕ) → (stereo_read bytes).outcome ≡ Ok tt → BothReadings bytes
both_readings bytes e = set_in_both (stereo_meant bytes) e
