-- READING WHAT WAS WRITTEN gives back what was given: of every call that is accepted, by the bytes that the buffer then holds.
-- Assumes nothing.
use Prim.Native.Nat.{ℕ, ◌+◌, ◌≤◌}
use Rattle.std.specs.Prelude.{◌≡◌, refl, Bool, true, false, cond, List, ◌++◌, length, take, drop, Ok}
use Rattle.std.proofs.Common.{sym, ◌∙◌, ap, subst, arith}
use Rattle.std.proofs.Math.Seq.{take-append_seam}
use Rattle.combinators.specs.Lists.{any}
use Rattle.syntax.specs.Table.{fits}
use Rattle.loop_entries.specs.declared.Entry.{Entry}
use Rattle.loop_writer.specs.Answer.{Written}
use Rattle.loop_writer.specs.Layout.{too_wide}
use Rattle.loop_round_trip.specs.ReadBack.{Typed}
use Rattle.mvc_extension.specs.declared.MvcExtension.{MvcExtension}
use Rattle.mvc_extension.specs.MvcExtension.{mvc_extension_descriptor, mvc_extension_fields}
use Rattle.mvc_extension.specs.Ranges.{WrongRanges}
use Rattle.mvc_extension.proofs.RangesMeant.{ranges_meant}
use Rattle.stereo_set.specs.declared.set.StereoRead.{StereoRead}
use Rattle.stereo_set.specs.Set.{accepted_set}
use Rattle.stereo_set.specs.Two.{TwoLayers}
use Rattle.stereo_writer.specs.Layout.{stereo_bytes}
use Rattle.stereo_writer.specs.Meaning as SetWriting
use Rattle.stereo_writer.proofs.Bytes.{set_bytes_only}
use Rattle.stereo_round_trip.specs.ReadBack.{ReadBack}
use Rattle.stereo_round_trip.proofs.SetBack.{loop_short, loop_back, set_back}

pub read_back_set : (x y : MvcExtension) → fits mvc_extension_descriptor (mvc_extension_fields x) ≡ true → fits mvc_extension_descriptor (mvc_extension_fields y) ≡ true
    → (entries : List Entry) → any too_wide entries ≡ false → Typed entries → {old new : List ℕ} {n : ℕ} → SetWriting.Answers x y entries old (Ok n) new
    → ReadBack x y entries (take n new)
read_back_set x y fit_x fit_y entries fine typed {old} {new} {n} a = go a refl
  where
    go : {w : Written} {left : List ℕ} → SetWriting.Answers x y entries old w left → w ≡ Ok n → ReadBack x y entries (take n left)
    go (SetWriting.too_many h) e = let z : ◌≡◌ {A = ℕ} 0 1 = cc in absurd (omega arith)
    go (SetWriting.too_long_lem w h) e = let z : ◌≡◌ {A = ℕ} 0 1 = cc in absurd (omega arith)
    go (SetWriting.refuses f w h at-k lower earlier) e = let z : ◌≡◌ {A = ℕ} 0 1 = cc in absurd (omega arith)
    go (SetWriting.not_the_two s none) e = let z : ◌≡◌ {A = ℕ} 0 1 = cc in absurd (omega arith)
    go (SetWriting.wrong_ranges_lem s two w) e = let z : ◌≡◌ {A = ℕ} 0 1 = cc in absurd (omega arith)
    go (SetWriting.no_room s two r w h) e = let z : ◌≡◌ {A = ℕ} 0 1 = cc in absurd (omega arith)
    go (SetWriting.accepts {base} {second} {bytes} s two right w h) e =
        let same : bytes ≡ stereo_bytes x y entries = set_bytes_only x y w in
        let size : length bytes ≡ n = cc in
        let shown : take n (bytes ++ drop (length bytes) old) ≡ stereo_bytes x y entries =
        ap (λ (m : ℕ). take m (bytes ++ drop (length bytes) old)) (sym size) ∙ take-append_seam bytes (drop (length bytes) old) ∙ same in
        let short : length (stereo_bytes x y entries) ≤ 1008 =
        (let long = Rattle.stereo_writer.proofs.Sizes.set_size x y entries (is_accepted s two right) in let loop_size_lem = loop_short x y fit_x fit_y entries fine typed s two in omega arith) in
        subst (ReadBack x y entries) (sym shown)
        (record {
          base = base;
          second = second;
          two = two;
          the_loop = loop_back x y fit_x fit_y entries fine typed s two short;
          the_set = set_back x y fit_x fit_y entries fine typed s two short right;
        })
      where
        is_accepted : SetWriting.Sound x y entries → TwoLayers entries base second → (WrongRanges x y → ⊥) → (Rattle.stereo_writer.specs.Writing.set_for x y entries).outcome ≡ Ok tt
        is_accepted s two right =
            ap (λ (r : StereoRead). r.outcome) (Rattle.stereo_writer.proofs.Judging.judged_by_two x y entries two)
            ∙ ap (λ (b : Bool). (cond b (Rattle.stereo_set.specs.Set.refused_set Rattle.vocabulary.specs.declared.refusal.Refusal.TheVariants.RangesMeet) (accepted_set base x second y)).outcome)
            (Rattle.combinators.specs.Bools.false_unless (Rattle.mvc_extension.specs.Ranges.wrong_ranges x y) (λ t. right (ranges_meant x y t)))
