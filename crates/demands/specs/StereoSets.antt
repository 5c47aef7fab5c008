-- WHAT IS SHOWN OF STEREO SETS (document 02, W-211), beside what each of the two calls promises (Demand1.antt): all of it of right answers, by their meaning.
-- Assumes nothing.
use Rattle.std.specs.Prelude.{ℕ, ◌≤◌, ◌≡◌, true, false, List, ◌++◌, map, length, take, drop, Ok}
use Rattle.std.proofs.Common.{sym, ◌∙◌, ap, subst, arith}
use Rattle.combinators.specs.Lists.{any}
use Rattle.combinators.specs.Padding.{pad_to}
use Rattle.framing.specs.Pieces.{Item, Cuts, cut}
use Rattle.framing.proofs.Pieces.{cuts_unique}
use Rattle.syntax.specs.Table.{AreBytes, fits}
use Rattle.vocabulary.specs.declared.stream_types.Reading.{Reading}
use Rattle.vocabulary.specs.declared.stream_types.Reading.TheVariants.{Edition2015}
use Rattle.loop_entries.specs.declared.Entry.{Entry}
use Rattle.es_loop.specs.declared.reader.LoopRead.{LoopRead}
use Rattle.loop_entries.specs.Entries.{es_info_length, blank_entry}
use Rattle.es_loop.specs.Reading.{loop_read}
use Rattle.es_loop.specs.Meaning as Loop
use Rattle.es_loop.proofs.Meant.{by_head, answer_meant, answer_only}
use Rattle.loop_layers.specs.Closures.{entries_read}
use Rattle.loop_writer.specs.Layout.{too_wide}
use Rattle.loop_round_trip.specs.ReadBack.{normal, Typed}
use Rattle.mvc_extension.specs.declared.MvcExtension.{MvcExtension}
use Rattle.mvc_extension.specs.MvcExtension.{mvc_extension_descriptor, mvc_extension_fields}
use Rattle.stereo_set.specs.declared.set.StereoRead.{StereoRead}
use Rattle.stereo_set.specs.Set.{accepted_set}
use Rattle.stereo_set.specs.Two.{TwoLayers}
use Rattle.stereo_set.specs.Meaning as Set
use Rattle.stereo_set.proofs.Meant.{stereo_meant, stereo_only}
use Rattle.stereo_writer.specs.Meaning as SetWriting
use Rattle.stereo_agreement.specs.Skipped.{Alike}
use Rattle.stereo_agreement.proofs.Skipped.{same_reading}
use Rattle.stereo_agreement.specs.Agreement.{BothReadings}
use Rattle.stereo_agreement.proofs.Agreement.{set_in_both}
use Rattle.stereo_round_trip.specs.OwnShape.{OwnSet}
use Rattle.stereo_round_trip.proofs.ReadBack.{read_back_set}
use Rattle.stereo_round_trip.proofs.Rewriting.{rewrite_set}

-- a loop that was written with a set in it, read again
pub record GivenBack (x y : MvcExtension) (entries : List Entry) (written : List ℕ) : Type 0 where
  pub base : Entry
  pub second : Entry
  pub two : TwoLayers entries base second
  -- every entry, with blanks in each array beyond its count
  pub every_entry : Loop.Answers Edition2015 written (record { outcome = Ok tt; count = length entries; entries = pad_to 201 blank_entry (map normal entries) })
  pub the_set : Set.Answers written (accepted_set (normal base) x (normal second) y)

pub record StereoSets : Type 0 where
  -- 'A set accepted here is accepted by both readings, with closure 0, 1', and of target 0 itself alone.
  pub in_both_readings : {bytes : List ℕ} {set : StereoRead} → Set.Answers bytes set → set.outcome ≡ Ok tt → BothReadings bytes
  -- 'elsewhere it is still skipped': loops that differ in descriptors of tag 49 alone are answered alike, and so is all that is made of a loop's answer
  pub skipped_elsewhere : (reading : Reading) {bytes bytes' : List ℕ} {items items' : List Item} → length bytes ≤ 1008 → length bytes' ≤ 1008 → Cuts 5 es_info_length bytes items
      → Cuts 5 es_info_length bytes' items' → Alike items items' → {answer : LoopRead} → Loop.Answers reading bytes answer → Loop.Answers reading bytes' answer
  -- what was written is read back
  pub read_back : (x y : MvcExtension) → fits mvc_extension_descriptor (mvc_extension_fields x) ≡ true → fits mvc_extension_descriptor (mvc_extension_fields y) ≡ true
      → (entries : List Entry) → any too_wide entries ≡ false → Typed entries → {old new : List ℕ} {n : ℕ} → SetWriting.Answers x y entries old (Ok n) new
      → GivenBack x y entries (take n new)
  -- and what was read from a loop in the writer's own shape is written as it was
  pub rewritten : {bytes : List ℕ} {set : StereoRead} {answer : LoopRead} → AreBytes bytes → OwnSet bytes → Set.Answers bytes set → set.outcome ≡ Ok tt
      → Loop.Answers Edition2015 bytes answer → (old : List ℕ) → length bytes ≤ length old
      → SetWriting.Answers set.base_extension set.second_extension (entries_read answer) old (Ok (length bytes)) (bytes ++ drop (length bytes) old)

pub stereo_sets : StereoSets
stereo_sets =
    record {
      in_both_readings = set_in_both;
      skipped_elsewhere = λ reading {bytes} {bytes'} {items} {items'} s s' c c' alike {answer} a.
          subst (Loop.Answers reading bytes')
          (sym (answer_only reading bytes a
          ∙ same_reading reading bytes bytes' s s'
          (subst (λ (l : List Item). Alike l (cut 5 es_info_length bytes')) (cuts_unique 5 es_info_length (omega arith) by_head c)
          (subst (λ (l : List Item). Alike items l) (cuts_unique 5 es_info_length (omega arith) by_head c') alike))))
          (answer_meant reading bytes');
      read_back = λ x y fit_x fit_y entries fine typed {old} {new} {n} a.
          let back = read_back_set x y fit_x fit_y entries fine typed a in
          record {
            base = back.base;
            second = back.second;
            two = back.two;
            every_entry = subst (Loop.Answers Edition2015 (take n new)) back.the_loop (answer_meant Edition2015 (take n new));
            the_set = subst (Set.Answers (take n new)) back.the_set (stereo_meant (take n new));
          };
      rewritten = λ {bytes} {set} {answer} b own s ok a old room.
          let same_set = stereo_only bytes s in
          let same-loop = answer_only Edition2015 bytes a in
          let again = rewrite_set bytes b own (sym (ap (λ (r : StereoRead). r.outcome) same_set) ∙ ok) old room in
          subst (λ (r : LoopRead). SetWriting.Answers set.base_extension set.second_extension (entries_read r) old (Ok (length bytes)) (bytes ++ drop (length bytes) old)) (sym same-loop)
          (subst (λ (r : StereoRead). SetWriting.Answers r.base_extension r.second_extension (entries_read (loop_read Edition2015 bytes)) old (Ok (length bytes)) (bytes ++ drop (length bytes) old)) (sym same_set)
          again.means);
    }
