-- The descriptors of the program's loop: which are operation point descriptors, the verdict on all of them, and the values of those.
-- Assumes nothing.
use Prim.Native.Nat.{ℕ, suc, ◌+◌}
use mathlib.Core.Bool.{Bool, true, false, cond, ◌&&◌}
use mathlib.Core.List.{List, [], ◌∷◌, ◌++◌, map}
use mathlib.Core.Path.{◌≡◌, refl, sym, ap, ap₂, ◌∙◌, subst}
use native.Mathlib.Nat.{not-suc-le-zero}
use native.Mathlib.Omega.{arith}
use borrow.Author.Tests.{eq-eqb, eqb-true, lt-ltb, ltb-true}
use lib.Dec.{eqb, ltb}
use lib.ListN.{length, drop}
use Rattle.combinators.specs.Bools.{both_left, both_right, both_ways}
use Rattle.combinators.specs.Lists.{Nth, here, there, nth_inside}
use Rattle.framing.specs.Pieces.{Item, whole, broken, Cuts, nothing_left, does_not_fit, piece}
use Rattle.framing.proofs.Pieces.{cut_cuts}
use Rattle.descriptor_heads.specs.Head.{descriptor_tag, descriptor_length}
use Rattle.descriptor_heads.proofs.Heads.{by_tag}
use Rattle.std.specs.Prelude.{Err, Ok}
use Rattle.operation_points.specs.Answer.{Filling}
use Rattle.operation_points.specs.declared.PointFault.TheVariants as PointFault
use Rattle.operation_points.specs.Points.{filling_of}
use Rattle.operation_points.specs.Values.{DescriptorValue, value_of}
use Rattle.operation_points.specs.Meaning.{Points, Descriptor, Fills, exact, reserved, inexact}
use Rattle.operation_points.proofs.Meant.{filling_meant, filling_only}
use Rattle.point_descriptors.specs.Descriptors.{descriptors_of, each, is_points, payload_if, payloads_in, filling_in, worse, worst, too_long, program_filling}
use Rattle.points_meaning.specs.Fields.{PayloadHas}
use Rattle.points_meaning.specs.Meaning.{InOrder, nothing, next, HoldsPoints, tag_63_and_5, Payloads, no_more, skips, holds, DoesNotFit, too_long_lem, runs_past, not_filled, ReservedCount, reserved_count}
use Rattle.points_meaning.proofs.Fields.{payload_meant, payload_only}

-- ---- which descriptors

abbrev Shown : Item → List ℕ → Type 0
Shown (whole head body) payload = (is_points (descriptor_tag head) body ≡ true) × (payload ≡ drop 1 body)
Shown broken payload = ⊥

holds_only : {item : Item} {payload : List ℕ} → HoldsPoints item payload → Shown item payload
holds_only (tag_63_and_5 {head} {payload} e) = (
  ap (λ (b : Bool). b && (ltb 0 (length (5 ∷ payload)) && eqb 5 5)) (eq-eqb (descriptor_tag head) 63 e)
      ∙ ap (λ (b : Bool). b && eqb 5 5) (lt-ltb 0 (length (5 ∷ payload)) (omega arith)),
  refl,
)

holds_meant : (head body : List ℕ) → is_points (descriptor_tag head) body ≡ true → HoldsPoints (whole head body) (drop 1 body)
holds_meant head [] e =
    let h = ltb-true 0 0 (both_left (ltb 0 0) (eqb 0 5) (both_right (eqb (descriptor_tag head) 63) (ltb 0 0 && eqb 0 5) e)) in absurd (not-suc-le-zero h)
holds_meant head (x ∷ body) e =
    let five : x ≡ 5 =
    eqb-true x 5
    (both_right (ltb 0 (length (x ∷ body))) (eqb x 5) (both_right (eqb (descriptor_tag head) 63) (ltb 0 (length (x ∷ body)) && eqb x 5) e)) in
    subst (λ (n : ℕ). HoldsPoints (whole head (n ∷ body)) body) (sym five)
    (tag_63_and_5 (eqb-true (descriptor_tag head) 63 (both_left (eqb (descriptor_tag head) 63) (ltb 0 (length (x ∷ body)) && eqb x 5) e)))

holds_one : (item : Item) (a b : List ℕ) → HoldsPoints item a → HoldsPoints item b → a ≡ b
holds_one (whole head body) a b p q = (holds_only p).1 ∙ sym (holds_only q).1
holds_one broken a b p q = absurd (holds_only p)

-- the verdict on such a descriptor is that on its payload
holds_filling : (item : Item) (payload : List ℕ) → HoldsPoints item payload → filling_in item ≡ filling_of payload
holds_filling (whole head body) payload p =
    let w = holds_only p in
    ap (λ (b : Bool). cond b (filling_of (drop 1 body)) (Ok tt)) w.0 ∙ ap filling_of (sym w.1)
holds_filling broken payload p = absurd (holds_only p)

-- ---- their payloads

pub payloads_meant : {l : List ℕ} {items : List Item} → Cuts 2 descriptor_length l items → (at : ℕ) → Payloads items (each payload_if at items)
payloads_meant nothing_left at = no_more
payloads_meant (does_not_fit h f) at = skips (λ payload p. holds_only p) no_more
payloads_meant (piece {head} {body} {rest} {items} eh eb c) at =
    go (is_points (descriptor_tag head) body) refl (payloads_meant c (at + (2 + length body)))
  where
    go : (b : Bool) → is_points (descriptor_tag head) body ≡ b → Payloads items (each payload_if (at + (2 + length body)) items)
        → Payloads (whole head body ∷ items) (cond b (drop 1 body ∷ []) [] ++ each payload_if (at + (2 + length body)) items)
    go true e others = holds (holds_meant head body e) others
    go false e others = skips {item = whole head body} (λ payload p. both_ways (holds_only p).0 e) others

pub payloads_one : {items : List Item} {a b : List (List ℕ)} → Payloads items a → Payloads items b → a ≡ b
payloads_one no_more no_more = refl
payloads_one (skips f p) (skips g q) = payloads_one p q
payloads_one (skips f p) (holds h q) = absurd (f _ h)
payloads_one (holds h p) (skips f q) = absurd (f _ h)
payloads_one (holds {item} {payload = x} h p) (holds {payload = y} k q) =
    ap₂ (λ (z : List ℕ) (zs : List (List ℕ)). z ∷ zs) (holds_one item x y h k) (payloads_one p q)

-- ---- the verdict

worst_from : (f : Filling) (fs : List Filling) → worst f fs ≡ worse f (worst (Ok tt) fs)
worst_from f [] = last f
  where
    last : (g : Filling) → g ≡ worse g (Ok tt)
    last (Ok _) = refl
    last (Err PointFault.DoesNotFit) = refl
    last (Err PointFault.ReservedCount) = refl
worst_from f (g ∷ fs) = worst_from (worse f g) fs ∙ grouped f g (worst (Ok tt) fs) ∙ ap (worse f) (sym (worst_from g fs))
  where
    grouped : (a b c : Filling) → worse (worse a b) c ≡ worse a (worse b c)
    grouped (Err PointFault.DoesNotFit) b c = refl
    grouped (Ok _) b c = refl
    grouped (Err PointFault.ReservedCount) (Err PointFault.DoesNotFit) c = refl
    grouped (Err PointFault.ReservedCount) (Ok _) c = refl
    grouped (Err PointFault.ReservedCount) (Err PointFault.ReservedCount) (Err PointFault.DoesNotFit) = refl
    grouped (Err PointFault.ReservedCount) (Err PointFault.ReservedCount) (Ok _) = refl
    grouped (Err PointFault.ReservedCount) (Err PointFault.ReservedCount) (Err PointFault.ReservedCount) = refl

abbrev Each : List Item → (Filling → Type 0) → Type 0
Each items P = (k : ℕ) (item : Item) → Nth items k item → P (filling_in item)

each_first : (P : Filling → Type 0) (x : Item) (items : List Item) → P (filling_in x) → Each items P → Each (x ∷ items) P
each_first P x items p f k item here = p
each_first P x items p f k item (there {k = j} n) = f j item n

data Verdict (items : List Item) : Filling → Type 0 where
  all_exact : Each items (λ f. f ≡ Ok tt) → Verdict items (Ok tt)
  some_inexact : {k : ℕ} {item : Item} → Nth items k item → filling_in item ≡ Err PointFault.DoesNotFit → Verdict items (Err PointFault.DoesNotFit)
  some_reserved : {k : ℕ} {item : Item} → Each items (λ f. f ≡ Err PointFault.DoesNotFit → ⊥) → Nth items k item → filling_in item ≡ Err PointFault.ReservedCount → Verdict items (Err PointFault.ReservedCount)

not_inexact : {f : Filling} → f ≡ Ok tt → f ≡ Err PointFault.DoesNotFit → ⊥
not_inexact e p = let z : ◌≡◌ {A = ℕ} 0 1 = cc in omega arith

not_reserved : {f : Filling} → f ≡ Ok tt → f ≡ Err PointFault.ReservedCount → ⊥
not_reserved e p = let z : ◌≡◌ {A = ℕ} 0 1 = cc in omega arith

inexact_reserved : {f : Filling} → f ≡ Err PointFault.ReservedCount → f ≡ Err PointFault.DoesNotFit → ⊥
inexact_reserved e p = let z : ◌≡◌ {A = ℕ} 0 1 = cc in omega arith

verdict : (items : List Item) → Verdict items (worst (Ok tt) (map filling_in items))
verdict [] = all_exact (λ k item n. absurd (not-suc-le-zero (nth_inside n)))
verdict (x ∷ items) =
    subst (Verdict (x ∷ items)) (sym (worst_from (filling_in x) (map filling_in items))) (go (filling_in x) refl (verdict items))
  where
    later : {g : Filling} → filling_in x ≡ Ok tt → Verdict items g → Verdict (x ∷ items) g
    later e (all_exact f) = all_exact (each_first (λ g. g ≡ Ok tt) x items e f)
    later e (some_inexact n p) = some_inexact (there n) p
    later e (some_reserved f n p) = some_reserved (each_first (λ g. g ≡ Err PointFault.DoesNotFit → ⊥) x items (not_inexact e) f) (there n) p

    first : {g : Filling} → filling_in x ≡ Err PointFault.ReservedCount → Verdict items g → Verdict (x ∷ items) (worse (Err PointFault.ReservedCount) g)
    first e (all_exact f) = some_reserved (each_first (λ g. g ≡ Err PointFault.DoesNotFit → ⊥) x items (inexact_reserved e) (λ k item n. not_inexact (f k item n))) here e
    first e (some_inexact n p) = some_inexact (there n) p
    first e (some_reserved f n p) = some_reserved (each_first (λ g. g ≡ Err PointFault.DoesNotFit → ⊥) x items (inexact_reserved e) f) here e

    go : (f : Filling) → filling_in x ≡ f → {g : Filling} → Verdict items g → Verdict (x ∷ items) (worse f g)
    go (Err PointFault.DoesNotFit) e v = some_inexact here e
    go (Ok _) e v = later e v
    go (Err PointFault.ReservedCount) e v = first e v

-- what stands behind a verdict of a descriptor
module _ (program : List ℕ) (items : List Item) where
  inexact_means : {k : ℕ} (item : Item) → Nth items k item → filling_in item ≡ Err PointFault.DoesNotFit → DoesNotFit program items
  inexact_means broken n e = runs_past n
  inexact_means (whole head body) n e = go (is_points (descriptor_tag head) body) refl e
    where
      go : (b : Bool) → is_points (descriptor_tag head) body ≡ b → cond b (filling_of (drop 1 body)) (Ok tt) ≡ Err PointFault.DoesNotFit → DoesNotFit program items
      go true p e = not_filled n (holds_meant head body p) (subst (Fills (drop 1 body)) e (filling_meant (drop 1 body)))
      go false p e = absurd (not_inexact refl e)

  reserved_means : {k : ℕ} (item : Item) → Nth items k item → filling_in item ≡ Err PointFault.ReservedCount → ReservedCount items
  reserved_means broken n e = absurd (inexact_reserved e refl)
  reserved_means (whole head body) n e = go (is_points (descriptor_tag head) body) refl e
    where
      go : (b : Bool) → is_points (descriptor_tag head) body ≡ b → cond b (filling_of (drop 1 body)) (Ok tt) ≡ Err PointFault.ReservedCount → ReservedCount items
      go true p e = reserved_count n (holds_meant head body p) (subst (Fills (drop 1 body)) e (filling_meant (drop 1 body)))
      go false p e = absurd (not_reserved refl e)

  fits : too_long program ≡ false → Each items (λ f. f ≡ Err PointFault.DoesNotFit → ⊥) → DoesNotFit program items → ⊥
  fits short f (too_long_lem h) = both_ways (lt-ltb 1008 (length program) h) short
  fits short f (runs_past {k} n) = f k broken n refl
  fits short f (not_filled {k} {item} {payload} n h x) = f k item n (holds_filling item payload h ∙ sym (filling_only payload x))

  none_reserved : Each items (λ f. f ≡ Err PointFault.ReservedCount → ⊥) → ReservedCount items → ⊥
  none_reserved f (reserved_count {k} {item} {payload} n h x) = f k item n (holds_filling item payload h ∙ sym (filling_only payload x))

-- THE VERDICT, as it is meant
pub data Judged (program : List ℕ) (items : List Item) : Filling → Type 0 where
  judged_40 : DoesNotFit program items → Judged program items (Err PointFault.DoesNotFit)
  judged_41 : (DoesNotFit program items → ⊥) → ReservedCount items → Judged program items (Err PointFault.ReservedCount)
  judged_fine : (DoesNotFit program items → ⊥) → (ReservedCount items → ⊥) → Each items (λ f. f ≡ Ok tt) → Judged program items (Ok tt)

pub judged : (program : List ℕ) → Judged program (descriptors_of program) (program_filling program)
judged program = go (too_long program) refl (verdict (descriptors_of program))
  where
    go : (t : Bool) → too_long program ≡ t → {f : Filling} → Verdict (descriptors_of program) f → Judged program (descriptors_of program) (cond t (Err PointFault.DoesNotFit) f)
    go true e v = judged_40 (too_long_lem (ltb-true 1008 (length program) e))
    go false e (some_inexact {item = item} n p) = judged_40 (inexact_means program (descriptors_of program) item n p)
    go false e (some_reserved {item = item} f n p) =
        judged_41 (fits program (descriptors_of program) e f) (reserved_means program (descriptors_of program) item n p)
    go false e (all_exact f) =
        judged_fine (fits program (descriptors_of program) e (λ k item n. not_inexact (f k item n)))
        (none_reserved program (descriptors_of program) (λ k item n. not_reserved (f k item n))) f

-- ---- the values

filled : (payload : List ℕ) → filling_of payload ≡ Ok tt → Descriptor Points payload
filled payload e = go (filling_meant payload) e
  where
    go : {f : Filling} → Fills payload f → f ≡ Ok tt → Descriptor Points payload
    go (exact d) e = d
    go (reserved d) e = absurd (not_reserved e refl)
    go (inexact p q) e = absurd (not_inexact e refl)

pub values_meant : {items : List Item} {payloads : List (List ℕ)} → Payloads items payloads → Each items (λ f. f ≡ Ok tt)
    → InOrder PayloadHas payloads (map value_of payloads)
values_meant no_more f = nothing
values_meant (skips g p) f = values_meant p (λ k item n. f (suc k) item (there n))
values_meant (holds {item} {items} {payload} {payloads} h p) f =
    next (payload_meant payload (filled payload (sym (holds_filling item payload h) ∙ f 0 item here))) (values_meant p (λ k i n. f (suc k) i (there n)))

pub values_one : {payloads : List (List ℕ)} {a b : List DescriptorValue} → InOrder PayloadHas payloads a → InOrder PayloadHas payloads b → a ≡ b
values_one nothing nothing = refl
values_one (next {x} {y} {xs} {ys} p ps) (next {y = z} {ys = zs} q qs) =
    ap₂ (λ (v : DescriptorValue) (vs : List DescriptorValue). v ∷ vs) (payload_only x p ∙ sym (payload_only x q)) (values_one ps qs)

-- the payloads of a loop
pub loop_payloads : (program : List ℕ) → Payloads (descriptors_of program) (payloads_in program)
loop_payloads program = payloads_meant (cut_cuts 2 descriptor_length (omega arith) by_tag program) 0
