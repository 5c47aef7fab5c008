-- Refusals 6, 7, 9 and 10: the computed test is true exactly when document 01's row holds.
-- Assumes nothing.
use Prim.Native.Nat.{ℕ, zero, suc, ◌<◌}
use mathlib.Core.Path.{◌≡◌, refl, sym, ◌∙◌, ap, ap₂}
use mathlib.Core.Logic.{◌≢◌, ◌↔◌, ⊎_elim}
use mathlib.Core.Bool.{Bool, true, false, cond, not, ◌&&◌, ◌||◌}
use mathlib.Core.List.{List, [], ◌∷◌, map}
use native.Mathlib.Omega.{arith}
use borrow.Author.Tests.{ltb-true, lt-ltb, leb-true, le-leb, eqb-true, eqb-false, ne_eqb, not-true}
use lib.Dec.{eqb, leb, ltb}
use lib.ListN.{length, get_or, take}
use lib.Seq.{length-take-le, get_or-take}
use Rattle.combinators.specs.Bools.{both_ways, neither_left, neither_right, both_left, both_right, either_left, either_right, apart, either_which}
use Rattle.combinators.specs.Below.{some_at, some_which}
use Rattle.combinators.specs.Members.{member, member_at, member_which}
use Rattle.vocabulary.specs.StreamTypes.{known, known_but_mvc, stream_types, may_stand_on}
use Rattle.vocabulary.specs.declared.stream_types.Reading.TheVariants.{Edition2015}
use Rattle.vocabulary.specs.declared.LayerIndex.{LayerIndex}
use Rattle.hierarchy.specs.declared.HierarchyRecord.{HierarchyRecord}
use Rattle.records.specs.declared.Record.{Record}
use Rattle.records.specs.declared.Record.TheVariants.{NoRecord, Hierarchy, Extension, Implied}
use Rattle.records.specs.Records.{is_second_view, index_of, plain, named}
use Rattle.judging.specs.Judging.{extension_on, type_not_allowed, flags_at0, wrong_flags, wrong_at, wrong_list, wrong_embedded}
use Rattle.judging.specs.Meaning.{has_descriptor, TypeNotAllowed, hierarchy_type, extension_on_avc, extension_on_svc, extension_on_mvc, unknown_type, mark_not_given, mark_missing, Flag, view, temporal, spatial, quality, flag, WrongFlags, type_9, more_than_one, WrongEmbedded, not_below, listed_twice}

-- one of two tests holds
which : {A : Type 0} (a b : Bool) → a || b ≡ true → (a ≡ true → A) → (b ≡ true → A) → A
which a b e f g = ⊎_elim f g (either_which a b e)

-- THE LAWS.
type_means : (given : Bool) (t : ℕ) (r : Record) → type_not_allowed given t r ≡ true → TypeNotAllowed given t r
type_means given t NoRecord e = mark_missing e
type_means given t Implied e = mark_not_given (not-true given e)
type_means given t (Hierarchy h) e = hierarchy_type (not-true (may_stand_on h.hierarchy_type t) e)
type_means given t (Extension x) e = by_known (known Edition2015 t) refl
  where
    other : Bool
    other = member t extension_on

    by_known : (b : Bool) → known Edition2015 t ≡ b → TypeNotAllowed given t (Extension x)
    by_known false p = unknown_type refl p
    by_known true p =
        which (eqb t 0x1B) (eqb t 0x1F || (eqb t 0x20 || other)) p (λ q. extension_on_avc (eqb-true t 0x1B q))
        (λ q. which (eqb t 0x1F) (eqb t 0x20 || other) q (λ s. extension_on_svc (eqb-true t 0x1F s))
        (λ s. which (eqb t 0x20) other s (λ u. extension_on_mvc (eqb-true t 0x20 u)) (λ u. both_ways u (not-true other e))))

-- no record may stand on a type that the 2015 reading does not know
module _ (t : ℕ) (u : known Edition2015 t ≡ false) where
  abbrev after_avc : List ℕ
  after_avc = 0x1F ∷ 0x20 ∷ extension_on

  not_avc : eqb t 0x1B ≡ false
  not_avc = neither_left (eqb t 0x1B) (member t after_avc) u

  after_avc_lem : member t after_avc ≡ false
  after_avc_lem = neither_right (eqb t 0x1B) (member t after_avc) u

  not_svc : eqb t 0x1F ≡ false
  not_svc = neither_left (eqb t 0x1F) (member t (0x20 ∷ extension_on)) after_avc_lem

  after_svc : member t (0x20 ∷ extension_on) ≡ false
  after_svc = neither_right (eqb t 0x1F) (member t (0x20 ∷ extension_on)) after_avc_lem

  not_mvc : eqb t 0x20 ≡ false
  not_mvc = neither_left (eqb t 0x20) (member t extension_on) after_svc

  no_extension : member t extension_on ≡ false
  no_extension = neither_right (eqb t 0x20) (member t extension_on) after_svc

  abbrev InNone : List (List ℕ) → Type 0
  InNone [] = Unit {0}
  InNone (l ∷ ls) = (member t l ≡ false) × InNone ls

  none_at_all : (ls : List (List ℕ)) → InNone ls → (k : ℕ) → member t (get_or ls k []) ≡ false
  none_at_all [] n k = refl
  none_at_all (l ∷ ls) n zero = n.0
  none_at_all (l ∷ ls) n (suc k) = none_at_all ls n.1 k

  no_hierarchy : (hierarchyType : ℕ) → may_stand_on hierarchyType t ≡ false
  no_hierarchy =
      let some : member t known_but_mvc ≡ false = ap₂ ◌||◌ not_avc (ap₂ ◌||◌ not_svc no_extension) in
      let base : member t (0x1B ∷ 0x24 ∷ []) ≡ false =
      ap₂ ◌||◌ not_avc (ap (λ (b : Bool). b || false) (neither_left (eqb t 0x24) (member t (0x25 ∷ 0x28 ∷ 0x29 ∷ 0x2A ∷ 0x2B ∷ [])) no_extension)) in
      none_at_all stream_types
      (refl, (some, (some, (some, (some, (some, (some, (some, (some, (ap (λ (b : Bool). b || false) not_mvc, (refl, (refl, (refl, (refl, (refl, (base, tt))))))))))))))))

type_test : {given : Bool} {t : ℕ} {r : Record} → TypeNotAllowed given t r → type_not_allowed given t r ≡ true
type_test (hierarchy_type p) = rw p
type_test (extension_on_avc p) = rw p
type_test (extension_on_svc p) = rw p
type_test (extension_on_mvc p) = rw p
type_test {given} {t} (unknown_type {r} l u) = none_stands r l
  where
    none_stands : (r : Record) → has_descriptor r ≡ true → type_not_allowed given t r ≡ true
    none_stands NoRecord l = apart l
    none_stands (Hierarchy h) l = ap not (no_hierarchy t u h.hierarchy_type)
    none_stands (Extension x) l = ap not (no_extension t u)
    none_stands Implied l = apart l
type_test (mark_not_given p) = ap not p
type_test (mark_missing p) = p

pub refusal_6 : (given : Bool) (stream_type : ℕ) (r : Record) → type_not_allowed given stream_type r ≡ true ↔ TypeNotAllowed given stream_type r
refusal_6 given t r = (type_means given t r, type_test)

-- 7: the flags that are counted
abbrev place : Flag → ℕ
place view = 0
place temporal = 1
place spatial = 2
place quality = 3

unlike : (f g : Flag) → eqb (place f) (place g) ≡ false → f ≢ g
unlike f g e p = eqb-false (place f) (place g) e (ap place p)

module _ (h : HierarchyRecord) where
  one_flag : 0 < flags_at0 h → (f : Flag) × (flag h f ≡ false)
  one_flag n = go h.no_view h.no_temporal h.no_spatial h.no_quality refl refl refl refl
    where
      go : (a b c d : Bool) → h.no_view ≡ a → h.no_temporal ≡ b → h.no_spatial ≡ c → h.no_quality ≡ d
          → (f : Flag) × (flag h f ≡ false)
      go false b c d p q r s = (view, p)
      go true false c d p q r s = (temporal, q)
      go true true false d p q r s = (spatial, r)
      go true true true false p q r s = (quality, s)
      go true true true true p q r s = absurd (omega (arith, rw (p, q, r, s) at n))

  two_flags : 1 < flags_at0 h → (f : Flag) × (g : Flag) × (f ≢ g) × (flag h f ≡ false) × (flag h g ≡ false)
  two_flags n = go h.no_view h.no_temporal h.no_spatial h.no_quality refl refl refl refl
    where
      go : (a b c d : Bool) → h.no_view ≡ a → h.no_temporal ≡ b → h.no_spatial ≡ c → h.no_quality ≡ d
          → (f : Flag) × (g : Flag) × (f ≢ g) × (flag h f ≡ false) × (flag h g ≡ false)
      go false false c d p q r s = (view, temporal, unlike view temporal refl, p, q)
      go false true false d p q r s = (view, spatial, unlike view spatial refl, p, r)
      go false true true false p q r s = (view, quality, unlike view quality refl, p, s)
      go true false false d p q r s = (temporal, spatial, unlike temporal spatial refl, q, r)
      go true false true false p q r s = (temporal, quality, unlike temporal quality refl, q, s)
      go true true false false p q r s = (spatial, quality, unlike spatial quality refl, r, s)
      go false true true true p q r s = absurd (omega (arith, rw (p, q, r, s) at n))
      go true false true true p q r s = absurd (omega (arith, rw (p, q, r, s) at n))
      go true true false true p q r s = absurd (omega (arith, rw (p, q, r, s) at n))
      go true true true false p q r s = absurd (omega (arith, rw (p, q, r, s) at n))
      go true true true true p q r s = absurd (omega (arith, rw (p, q, r, s) at n))

  one_counted : (f : Flag) → flag h f ≡ false → 0 < flags_at0 h
  one_counted view p = rw p (omega arith)
  one_counted temporal p = rw p (omega arith)
  one_counted spatial p = rw p (omega arith)
  one_counted quality p = rw p (omega arith)

  two_counted : (f g : Flag) → f ≢ g → flag h f ≡ false → flag h g ≡ false → 1 < flags_at0 h
  two_counted view view n p q = absurd (n refl)
  two_counted view temporal n p q = rw (p, q) (omega arith)
  two_counted view spatial n p q = rw (p, q) (omega arith)
  two_counted view quality n p q = rw (p, q) (omega arith)
  two_counted temporal view n p q = rw (p, q) (omega arith)
  two_counted temporal temporal n p q = absurd (n refl)
  two_counted temporal spatial n p q = rw (p, q) (omega arith)
  two_counted temporal quality n p q = rw (p, q) (omega arith)
  two_counted spatial view n p q = rw (p, q) (omega arith)
  two_counted spatial temporal n p q = rw (p, q) (omega arith)
  two_counted spatial spatial n p q = absurd (n refl)
  two_counted spatial quality n p q = rw (p, q) (omega arith)
  two_counted quality view n p q = rw (p, q) (omega arith)
  two_counted quality temporal n p q = rw (p, q) (omega arith)
  two_counted quality spatial n p q = rw (p, q) (omega arith)
  two_counted quality quality n p q = absurd (n refl)

flags_mean : (r : Record) → wrong_flags r ≡ true → WrongFlags r
flags_mean NoRecord e = apart e
flags_mean (Extension x) e = apart e
flags_mean Implied e = apart e
flags_mean (Hierarchy h) e =
    let t : ℕ = h.hierarchy_type in
    let n : ℕ = flags_at0 h in
    which (eqb t 9 && ltb 0 n) (ltb 1 n && not (eqb t 8)) e
    (λ p. let w = one_flag h (ltb-true 0 n (both_right (eqb t 9) (ltb 0 n) p)) in type_9 w.0 (eqb-true t 9 (both_left (eqb t 9) (ltb 0 n) p)) w.1)
    (λ p.
    let w = two_flags h (ltb-true 1 n (both_left (ltb 1 n) (not (eqb t 8)) p)) in
    let other = eqb-false t 8 (not-true (eqb t 8) (both_right (ltb 1 n) (not (eqb t 8)) p)) in
    more_than_one w.0 w.1 w.2 w.3 w.4 other)

flags_test : {r : Record} → WrongFlags r → wrong_flags r ≡ true
flags_test (type_9 {h} f t p) = rw (t, lt-ltb 0 (flags_at0 h) (one_counted h f p))
flags_test (more_than_one {h} f g n p q t) =
    let k : ℕ = h.hierarchy_type in
    either_right (eqb k 9 && ltb 0 (flags_at0 h)) (ltb 1 (flags_at0 h) && not (eqb k 8))
    (rw (lt-ltb 1 (flags_at0 h) (two_counted h f g n p q), ne_eqb k 8 t))

pub refusal_7 : (r : Record) → wrong_flags r ≡ true ↔ WrongFlags r
refusal_7 r = (flags_mean r, flags_test)

module _ (stream_type : ℕ) (r : Record) (layers : List LayerIndex) where
  embedded_means : wrong_embedded stream_type r layers ≡ true → WrongEmbedded stream_type r layers
  embedded_means e =
      let indices : List ℕ = named stream_type r layers in
      let w = some_which (wrong_at (index_of stream_type r) indices) (length indices) e in
      let x : ℕ = get_or indices w.0 0 in
      which (leb (index_of stream_type r) x) (member x (take w.0 indices)) w.2 (λ p. not_below w.0 w.1 (leb-true (index_of stream_type r) x p))
      (λ p.
      let v = member_which x (take w.0 indices) p in
      let before : v.0 < w.0 = rw (length-take-le w.0 indices (omega (arith, w.1))) at v.1 in
      listed_twice v.0 w.0 before w.1 (sym (get_or-take w.0 indices v.0 0 before) ∙ v.2))

  embedded_test : WrongEmbedded stream_type r layers → wrong_embedded stream_type r layers ≡ true
  embedded_test (not_below i h l) =
      let indices : List ℕ = named stream_type r layers in
      let x : ℕ = get_or indices i 0 in
      some_at (wrong_at (index_of stream_type r) indices) (length indices) i h (either_left (leb (index_of stream_type r) x) (member x (take i indices)) (le-leb (index_of stream_type r) x l))
  embedded_test (listed_twice i j l h e) =
      let indices : List ℕ = named stream_type r layers in
      let x : ℕ = get_or indices j 0 in
      let there = member_at (take j indices) i (rw (length-take-le j indices (omega arith)) l) in
      some_at (wrong_at (index_of stream_type r) indices) (length indices) j h
      (either_right (leb (index_of stream_type r) x) (member x (take j indices)) (rw (get_or-take j indices i 0 l ∙ e) at there))

  pub refusal_9 : wrong_embedded stream_type r layers ≡ true ↔ WrongEmbedded stream_type r layers
  refusal_9 = (embedded_means, embedded_test)

-- An implied layer rests on a lower one alone.
pub implied_sound : (stream_type : ℕ) (layers : List LayerIndex) → wrong_embedded stream_type Implied layers ≡ false
implied_sound stream_type layers = either_view (is_second_view stream_type)
  where
    either_view : (second : Bool) → wrong_list (cond second 1 0) (map plain (cond second (record { 0 = 0 } ∷ []) [])) ≡ false
    either_view true = refl
    either_view false = refl
