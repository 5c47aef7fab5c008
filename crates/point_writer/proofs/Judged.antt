-- From the verdict to the answer: what an accepted descriptor is known to be, its bytes, and each way of the code.
-- Assumes nothing.
use Rattle.std.specs.Prelude.{Err, Ok}
use Prim.Native.Nat.{ℕ, ◌+◌, ◌-◌, ◌/◌, ◌≤◌, ◌<◌}
use mathlib.Core.Path.{◌≡◌, refl, sym, ap, ◌∙◌}
use mathlib.Core.Bool.{Bool, true, false, cond, ◌||◌}
use mathlib.Core.List.{List, [], ◌++◌, append_assoc}
use native.Mathlib.Omega.{arith}
use borrow.Author.Tests.{lt-ltb, le-ltb, ltb-false, eqb-true, not-false}
use lib.Dec.{eqb, ltb}
use lib.ListN.{length}
use Rattle.combinators.specs.Bools.{neither_left, neither_right}
use Rattle.combinators.specs.Lists.{any}
use Rattle.syntax.specs.Table.{write_table}
use Rattle.syntax.specs.Filled.{bytes_in}
use Rattle.buffers.specs.Buffers.{Laid}
use Rattle.buffers.proofs.Laws.{laid_as, laid_then, laid_over_lem}
use Rattle.descriptor_heads.specs.Head.{head_table}
use Rattle.vocabulary.specs.declared.refusal.Refusal.{Refusal}
use Rattle.vocabulary.specs.declared.refusal.Refusal.TheVariants.{NoRoom, TooWide, ReservedEsCount}
use Rattle.point_fields.specs.Fields.{row_too_wide, reference_too_wide, references_counted, layers_counted}
use Rattle.point_weights.specs.Answer.{Written}
use Rattle.point_weights.specs.Rows.{rows_in, total, counts_wrong, points_wrong, is_reserved, length_for, judged}
use Rattle.point_weights.proofs.Weights.{WholeRows, whole_rows}
use Rattle.point_writer.specs.Layout.{extension_tag, head_bytes, points_bytes, before_points, payload_bytes, descriptor_bytes}
use Rattle.point_writer.specs.Writing.{in_room, answer, content, content_after}
use Rattle.point_writer.proofs.Lengths.{length_payload}

-- ---- what is known of lists that are accepted

pub record Sound (profiles points references layers : List ℕ) : Type 0 where
  pub whole : WholeRows (length profiles) points references (length layers)
  pub references_fine : any reference_too_wide references ≡ false
  pub rows_fine : any row_too_wide (rows_in points) ≡ false
  pub references_counted : total references_counted (rows_in points) ≡ length references
  pub layers_counted : total layers_counted (rows_in points) ≡ length layers

module _ (profiles points references layers : List ℕ) where
  abbrev rows : List (List ℕ)
  rows = rows_in points

  pub sound : counts_wrong (length profiles) (length points) ≡ false → points_wrong rows references (length layers) ≡ false → Sound profiles points references layers
  sound e f =
      let a : Bool = any reference_too_wide references in
      let b : Bool = any row_too_wide rows in
      let c : Bool = mathlib.Core.Bool.not (eqb (total references_counted rows) (length references)) in
      let d : Bool = mathlib.Core.Bool.not (eqb (total layers_counted rows) (length layers)) in
      let others = neither_right a (b || c || d) f in
      let two = neither_left (b || c) d others in
      record {
        whole = whole_rows (length profiles) points references (length layers) e;
        references_fine = neither_left a (b || c || d) f;
        rows_fine = neither_left b c two;
        references_counted = eqb-true (total references_counted rows) (length references) (not-false (eqb (total references_counted rows) (length references)) (neither_right b c two));
        layers_counted = eqb-true (total layers_counted rows) (length layers) (not-false (eqb (total layers_counted rows) (length layers)) (neither_right (b || c) d others));
      }

  pub record Accepted (size : ℕ) : Type 0 where
    pub sound : Sound profiles points references layers
    pub none_reserved : any is_reserved rows ≡ false
    pub short : length_for rows (length profiles) ≤ 255
    pub sized : size ≡ 2 + length_for rows (length profiles)

  pub accepted : (size : ℕ) → judged (length profiles) points references (length layers) ≡ Ok size → Accepted size
  unfolding judged
  accepted size =
      go (counts_wrong (length profiles) (length points)) (points_wrong rows references (length layers)) (any is_reserved rows) (ltb 255 (length_for rows (length profiles)))
      refl refl refl refl
    where
      go : (a b c d : Bool) → counts_wrong (length profiles) (length points) ≡ a → points_wrong rows references (length layers) ≡ b → any is_reserved rows ≡ c
          → ltb 255 (length_for rows (length profiles)) ≡ d
          → cond a (Err TooWide) (cond b (Err TooWide) (cond c (Err ReservedEsCount) (cond d (Err TooWide) (Ok (2 + length_for rows (length profiles))))))
          ≡ Ok size
          → Accepted size
      go true b c d p q r s e = let z : ◌≡◌ {A = ℕ} 0 1 = cc in absurd (omega arith)
      go false true c d p q r s e = let z : ◌≡◌ {A = ℕ} 0 1 = cc in absurd (omega arith)
      go false false true d p q r s e = let z : ◌≡◌ {A = ℕ} 0 1 = cc in absurd (omega arith)
      go false false false true p q r s e = let z : ◌≡◌ {A = ℕ} 0 1 = cc in absurd (omega arith)
      go false false false false p q r s e =
          let same : size ≡ 2 + length_for rows (length profiles) = cc in
          record { sound = sound p q; none_reserved = r; short = ltb-false 255 (length_for rows (length profiles)) s; sized = same }

  -- ---- the bytes of lists that are accepted

  module _ (known : Sound profiles points references layers) where
    pub counted : 1 + length (payload_bytes profiles points references layers) ≡ length_for rows (length profiles)
    counted = length_payload profiles points references layers known.whole.profiles_whole known.references_counted known.layers_counted

    pub descriptor_in : (behind : ℕ) → behind ≡ length_for rows (length profiles)
        → before_points profiles (length points / 12) behind ++ points_bytes rows references layers ≡ descriptor_bytes profiles points references layers
    unfolding descriptor_bytes
    descriptor_in behind e =
        ap (λ (n : ℕ). before_points profiles (length points / 12) n ++ points_bytes rows references layers) (e ∙ sym counted)
        ∙ append_assoc (bytes_in (head_table 63 (1 + length (payload_bytes profiles points references layers))))
        (write_table extension_tag [] ++ head_bytes profiles (length points / 12)) (points_bytes rows references layers)

    pub descriptor_long : length (descriptor_bytes profiles points references layers) ≡ 2 + length_for rows (length profiles)
    unfolding descriptor_bytes
    descriptor_long = let e = counted in omega arith

  -- ---- the ways of the code

  module _ (old : List ℕ) where
    -- the answer with what the buffer then holds
    pub record Answered (written : Written) (new : List ℕ) : Type 0 where
      pub answers : written ≡ answer (length old) profiles points references layers
      pub holds : new ≡ content profiles points references layers old

    pub refused : (refusal : Refusal) → judged (length profiles) points references (length layers) ≡ Err refusal → Answered (Err refusal) old
    refused refusal e =
        record {
          answers = sym (ap (in_room (length old)) e);
          holds = sym (ap (λ (w : Written). content_after (in_room (length old) w) (descriptor_bytes profiles points references layers) old) e);
        }

    room : (size : ℕ) (b : Bool) → judged (length profiles) points references (length layers) ≡ Ok size → ltb (length old) size ≡ b
        → cond b (Err NoRoom) (Ok size) ≡ answer (length old) profiles points references layers
    room size b e f = sym (ap (in_room (length old)) e ∙ ap (λ (x : Bool). cond x (Err NoRoom) (Ok size)) f)

    pub no_room : (size : ℕ) → judged (length profiles) points references (length layers) ≡ Ok size → length old < size → Answered (Err NoRoom) old
    no_room size e h =
        let is = room size true e (lt-ltb (length old) size h) in
        record { answers = is; holds = ap (λ (w : Written). content_after w (descriptor_bytes profiles points references layers) old) is }

    pub written : (size : ℕ) (place next : ℕ) (mid new : List ℕ) → judged (length profiles) points references (length layers) ≡ Ok size → size ≤ length old
        → Laid old 0 (before_points profiles (length points / 12) (size - 2)) place mid → Laid mid place (points_bytes rows references layers) next new
        → Answered (Ok size) new
    written size place next mid new e h p q =
        let known = accepted size e in
        let is = room size false e (le-ltb (length old) size h) in
        let long = descriptor_long known.sound in
        record {
          answers = is;
          holds = laid_over_lem (laid_as (descriptor_in known.sound (size - 2) (omega (arith, known.sized))) (laid_then p q)) (omega (arith, known.sized))
              ∙ ap (λ (w : Written). content_after w (descriptor_bytes profiles points references layers) old) is;
        }
