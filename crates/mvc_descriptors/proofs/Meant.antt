-- The law that joins what is found to what is meant, both ways.
-- Assumes nothing.
use Prim.Native.Nat.{ℕ, zero, suc, ◌<◌}
use mathlib.Core.Path.{◌≡◌, refl, sym, ◌∙◌, ap, subst}
use mathlib.Core.Logic.{◌≢◌}
use mathlib.Core.Bool.{Bool, true, false, cond}
use mathlib.Core.List.{List, [], ◌∷◌, ◌++◌, nil≢cons, head-eq_of_cons-eq, tail-eq_of_cons-eq}
use native.Mathlib.Omega.{arith}
use native.Mathlib.Nat.{not-suc-le-zero}
use native.Mathlib.Decide.{dec_lt}
use borrow.Author.Tests.{eqb-true, eqb-false}
use lib.Dec.{eqb}
use lib.ListN.{length}
use Rattle.combinators.specs.Lists.{Nth, here, there, nth_inside, nth_one, gather}
use Rattle.framing.specs.Pieces.{Item, whole, broken, Cuts, cut}
use Rattle.framing.proofs.Pieces.{cut_cuts, cuts_unique}
use Rattle.descriptor_heads.specs.Head.{descriptor_tag, descriptor_length}
use Rattle.descriptor_heads.proofs.Heads.{by_tag}
use Rattle.mvc_extension.specs.declared.MvcExtension.{MvcExtension}
use Rattle.mvc_extension.specs.MvcExtension.{mvc_extension_of}
use Rattle.mvc_descriptors.specs.declared.Found.{Found}
use Rattle.mvc_descriptors.specs.declared.Found.TheVariants.{Missing, One, Wrong}
use Rattle.mvc_descriptors.specs.Finding.{payloads_of, extension_payloads, found_in, extension_in}
use Rattle.mvc_descriptors.specs.Meaning.{ExtensionAt, WrongExtension, missing, doubled, other_length, HasExtension}

-- one place more before the others
later : {item : Item} {items : List Item} {k : ℕ} {payload : List ℕ} → ExtensionAt items k payload → ExtensionAt (item ∷ items) (suc k) payload
later e = record { head = e.head; stands = there e.stands; tag = e.tag }

-- what stands behind the first
earlier : {item : Item} {items : List Item} {k : ℕ} {payload : List ℕ} → ExtensionAt (item ∷ items) (suc k) payload → ExtensionAt items k payload
earlier {item} {items} {k} {payload} e = go e.stands
  where
    go : Nth (item ∷ items) (suc k) (whole e.head payload) → ExtensionAt items k payload
    go (there n) = record { head = e.head; stands = n; tag = e.tag }

-- WHERE THE PAYLOADS COME FROM: the first descriptor is of tag 49, or nothing of it is taken
data FirstOf (item : Item) (items : List Item) : Type 0 where
  of_tag : {payload : List ℕ} → ExtensionAt (item ∷ items) 0 payload → gather payloads_of (item ∷ items) ≡ payload ∷ gather payloads_of items → FirstOf item items
  of_none : ((payload : List ℕ) → ExtensionAt (item ∷ items) 0 payload → ⊥) → gather payloads_of (item ∷ items) ≡ gather payloads_of items → FirstOf item items

first_of : (item : Item) (items : List Item) → FirstOf item items
first_of broken items = of_none (λ payload e. apart (nth_one e.stands here)) refl
  where
    apart : {head payload : List ℕ} → whole head payload ≡ broken → ⊥
    apart e = let z : ◌≡◌ {A = ℕ} 0 1 = cc in omega arith
first_of (whole head payload) items = go (eqb (descriptor_tag head) 49) refl
  where
    other : (p : List ℕ) → descriptor_tag head ≢ 49 → ExtensionAt (whole head payload ∷ items) 0 p → ⊥
    other p not-49 e = not-49 (ap descriptor_tag (heads (nth_one here e.stands)) ∙ e.tag)
      where
        heads : whole head payload ≡ whole e.head p → head ≡ e.head
        heads q = cc

    go : (b : Bool) → eqb (descriptor_tag head) 49 ≡ b → FirstOf (whole head payload) items
    go true p =
        of_tag (record { head = head; stands = here; tag = eqb-true (descriptor_tag head) 49 p })
        (ap (λ (b : Bool). cond b (payload ∷ []) [] ++ gather payloads_of items) p)
    go false p =
        of_none (λ q e. other q (eqb-false (descriptor_tag head) 49 p) e) (ap (λ (b : Bool). cond b (payload ∷ []) [] ++ gather payloads_of items) p)

-- none among the payloads, and none at any place
pub none_stands : (items : List Item) → gather payloads_of items ≡ [] → (k : ℕ) (payload : List ℕ) → ExtensionAt items k payload → ⊥
none_stands [] e k payload x = not-suc-le-zero (nth_inside x.stands)
none_stands (item ∷ items) e k payload x = go (first_of item items) k x (λ q j y. none_stands items q j payload y)
  where
    go : FirstOf item items → (k : ℕ) → ExtensionAt (item ∷ items) k payload
        → (gather payloads_of items ≡ [] → (j : ℕ) → ExtensionAt items j payload → ⊥) → ⊥
    go (of_tag f q) k x rest = nil≢cons (sym e ∙ q)
    go (of_none f q) zero x rest = f payload x
    go (of_none f q) (suc k) x rest = rest (sym q ∙ e) k (earlier x)

-- the first of the payloads stands somewhere, and the others behind it
pub record FirstStands (items : List Item) (payload : List ℕ) (others : List (List ℕ)) : Type 0 where
  pub place : ℕ
  pub stands : ExtensionAt items place payload
  pub before : (j : ℕ) (other : List ℕ) → j < place → ExtensionAt items j other → ⊥
  pub behind : others ≡ [] → (j : ℕ) (other : List ℕ) → place < j → ExtensionAt items j other → ⊥
  pub another : (second : List ℕ) (rest : List (List ℕ)) → others ≡ second ∷ rest → (j : ℕ) × (place < j) × ExtensionAt items j second

first_stands : (items : List Item) (payload : List ℕ) (others : List (List ℕ)) → gather payloads_of items ≡ payload ∷ others → FirstStands items payload others
first_stands [] payload others e = absurd (nil≢cons e)
first_stands (item ∷ items) payload others e = go (first_of item items) (λ q. first_stands items payload others q) (λ p r q. first_stands items p r q)
  where
    go : FirstOf item items → (gather payloads_of items ≡ payload ∷ others → FirstStands items payload others)
        → ((p : List ℕ) (r : List (List ℕ)) → gather payloads_of items ≡ p ∷ r → FirstStands items p r) → FirstStands (item ∷ items) payload others
    go (of_tag {payload = p} f q) rest any-rest =
        let same : p ≡ payload = head-eq_of_cons-eq (sym q ∙ e) in
        let left : gather payloads_of items ≡ others = tail-eq_of_cons-eq (sym q ∙ e) in
        record {
          place = 0;
          stands = subst (λ (l : List ℕ). ExtensionAt (item ∷ items) 0 l) same f;
          before = λ j other l x. not-suc-le-zero l;
          behind = λ n j other l x. nothing_behind (left ∙ n) j other l x;
          another = λ second r is.
              let w = any-rest second r (left ∙ is) in
              (suc w.place, omega arith, later w.stands);
        }
      where
        nothing_behind : gather payloads_of items ≡ [] → (j : ℕ) (other : List ℕ) → 0 < j → ExtensionAt (item ∷ items) j other → ⊥
        nothing_behind n zero other l x = not-suc-le-zero l
        nothing_behind n (suc j) other l x = none_stands items n j other (earlier x)
    go (of_none f q) rest any-rest =
        let w = rest (sym q ∙ e) in
        record {
          place = suc w.place;
          stands = later w.stands;
          before = λ j other l x. before_it w j other l x;
          behind = λ n j other l x. behind_it w n j other l x;
          another = λ second r is. (let v = w.another second r is in (suc v.0, (let h = v.1 in omega arith), later v.2));
        }
      where
        before_it : (w : FirstStands items payload others) (j : ℕ) (other : List ℕ) → j < suc w.place → ExtensionAt (item ∷ items) j other → ⊥
        before_it w zero other l x = f other x
        before_it w (suc j) other l x = w.before j other (omega arith) (earlier x)

        behind_it : (w : FirstStands items payload others) → others ≡ [] → (j : ℕ) (other : List ℕ) → suc w.place < j → ExtensionAt (item ∷ items) j other → ⊥
        behind_it w n zero other l x = not-suc-le-zero l
        behind_it w n (suc j) other l x = w.behind n j other (omega arith) (earlier x)

-- WHAT IS FOUND IS MEANT.
pub data FoundCase (info : List ℕ) : Found → Type 0 where
  none_found : WrongExtension info → FoundCase info Missing
  one_found : {x : MvcExtension} → HasExtension info x → FoundCase info (One x)
  wrong_found : WrongExtension info → FoundCase info Wrong

pub found_meant : (info : List ℕ) → FoundCase info (extension_in info)
found_meant info = go (extension_payloads info) refl
  where
    items : List Item
    items = cut 2 descriptor_length info

    cuts : Cuts 2 descriptor_length info items
    cuts = cut_cuts 2 descriptor_length (omega arith) by_tag info

    only_one : (payload : List ℕ) → FirstStands items payload [] → (b : Bool) → eqb (length payload) 8 ≡ b
        → FoundCase info (cond b (One (mvc_extension_of payload)) Wrong)
    only_one payload first true p =
        one_found
        (record {
          descriptors = items;
          cuts = cuts;
          place = first.place;
          payload = payload;
          stands = first.stands;
          alone = λ j other x. by_order j other x (dec_lt j first.place) (dec_lt first.place j);
          as_long = eqb-true (length payload) 8 p;
          says = refl;
        })
      where
        by_order : (j : ℕ) (other : List ℕ) → ExtensionAt items j other → Dec (j < first.place) → Dec (first.place < j) → j ≡ first.place
        by_order j other x (yes h) d = absurd (first.before j other h x)
        by_order j other x (no h) (yes l) = absurd (first.behind refl j other l x)
        by_order j other x (no h) (no l) = omega arith
    only_one payload first false p = wrong_found (other_length cuts first.stands (eqb-false (length payload) 8 p))

    go : (ps : List (List ℕ)) → extension_payloads info ≡ ps → FoundCase info (found_in ps)
    go [] e = none_found (missing cuts (none_stands items e))
    go (payload ∷ []) e = only_one payload (first_stands items payload [] e) (eqb (length payload) 8) refl
    go (payload ∷ second ∷ others) e =
        let first = first_stands items payload (second ∷ others) e in
        let next = first.another second others refl in
        wrong_found (doubled cuts next.1 first.stands next.2)

-- AND NOTHING ELSE IS.
same_cut : {info : List ℕ} {a b : List Item} → Cuts 2 descriptor_length info a → Cuts 2 descriptor_length info b → a ≡ b
same_cut a b = cuts_unique 2 descriptor_length (omega arith) by_tag a ∙ sym (cuts_unique 2 descriptor_length (omega arith) by_tag b)

move : {a b : List Item} {k : ℕ} {payload : List ℕ} → a ≡ b → ExtensionAt a k payload → ExtensionAt b k payload
move {k = k} {payload = payload} same x = subst (λ (l : List Item). ExtensionAt l k payload) same x

-- one payload stands at a place
one_payload : {items : List Item} {j k : ℕ} {p q : List ℕ} → ExtensionAt items j p → ExtensionAt items k q → j ≡ k → p ≡ q
one_payload {items} {j} {k} {p} {q} x y same =
    bodies (nth_one (subst (λ (n : ℕ). Nth items n (whole x.head p)) same x.stands) y.stands)
  where
    bodies : whole x.head p ≡ whole y.head q → p ≡ q
    bodies e = cc

pub never_both : {info : List ℕ} {x : MvcExtension} → WrongExtension info → HasExtension info x → ⊥
never_both (missing cuts none) h = none h.place h.payload (move (same_cut h.cuts cuts) h.stands)
never_both (doubled {j = j} {k = k} {first = first} {second = second} cuts l x y) h =
    let same = same_cut cuts h.cuts in
    let at_first : j ≡ h.place = h.alone j first (move same x) in
    let at_second : k ≡ h.place = h.alone k second (move same y) in
    omega arith
never_both (other_length {k = k} {payload = payload} cuts x other) h =
    let there = move (same_cut cuts h.cuts) x in
    other (ap length (one_payload there h.stands (h.alone k payload there)) ∙ h.as_long)

same_extension : {info : List ℕ} {x y : MvcExtension} → HasExtension info x → HasExtension info y → x ≡ y
same_extension a b =
    let there = move (same_cut a.cuts b.cuts) a.stands in
    sym a.says ∙ ap mvc_extension_of (one_payload there b.stands (b.alone a.place a.payload there)) ∙ b.says

pub has_only : {info : List ℕ} {x : MvcExtension} → HasExtension info x → extension_in info ≡ One x
has_only {info} {x} h = go (extension_in info) (found_meant info)
  where
    go : (f : Found) → FoundCase info f → f ≡ One x
    go Missing (none_found w) = absurd (never_both w h)
    go (One y) (one_found a) = ap (λ (z : MvcExtension). One z) (same_extension a h)
    go Wrong (wrong_found w) = absurd (never_both w h)
