-- What a mark leaves as it was, and where there is one.
-- Assumes nothing.
use Prim.Native.Nat.{ℕ}
use mathlib.Core.Path.{◌≡◌, refl}
use mathlib.Core.Bool.{Bool, true, false, cond}
use mathlib.Core.Logic.{⊎_elim}
use borrow.Author.Tests.{eqb-true}
use lib.Dec.{eqb}
use Rattle.combinators.specs.Bools.{apart, either_which}
use Rattle.vocabulary.specs.declared.stream_types.Reading.{Reading}
use Rattle.vocabulary.specs.declared.stream_types.Reading.TheVariants.{Edition2009, Edition2015}
use Rattle.vocabulary.specs.StreamTypes.{known}
use Rattle.records.specs.declared.Record.{Record}
use Rattle.records.specs.declared.Record.TheVariants.{NoRecord, Hierarchy, Extension, Implied}
use Rattle.descriptors.specs.declared.looking.Seen.{Seen}
use Rattle.records.specs.Records.{is_layer, names_of}
use Rattle.descriptors.specs.Finding.{named_by}
use Rattle.implied.specs.Rule.{is_view, given}
use Rattle.implied.specs.Marking.{is_described, with_mark, marked_record, marked_seen, with_names, marked_named}

-- a view is of one of two types, and each reading knows both
pub view_which : {A : Type 0} (t : ℕ) → is_view t ≡ true → (t ≡ 0x1B → A) → (t ≡ 0x20 → A) → A
view_which t view avc mvc =
    ⊎_elim (λ p. avc (eqb-true t 0x1B p)) (λ p. mvc (eqb-true t 0x20 p)) (either_which (eqb t 0x1B) (eqb t 0x20) view)

pub view_known : (reading : Reading) (t : ℕ) → is_view t ≡ true → known reading t ≡ true
view_known reading t view = view_which t view (λ p. rw p (avc reading)) (λ p. rw p (mvc reading))
  where
    avc : (r : Reading) → known r 0x1B ≡ true
    avc Edition2009 = refl
    avc Edition2015 = refl

    mvc : (r : Reading) → known r 0x20 ≡ true
    mvc Edition2009 = refl
    mvc Edition2015 = refl

-- the mark is no hierarchy descriptor
pub described_kept : (pair : Bool) (t : ℕ) (r : Record) → is_described (marked_record pair t r) ≡ is_described r
described_kept pair t r = go (given pair t) r
  where
    go : (b : Bool) (r : Record) → is_described (cond b (with_mark r) r) ≡ is_described r
    go true NoRecord = refl
    go true (Hierarchy h) = refl
    go true (Extension x) = refl
    go true Implied = refl
    go false r = refl

-- a layer stays what it was
pub layer_kept : (pair : Bool) (t : ℕ) (r : Record) → is_layer r ≡ true → marked_record pair t r ≡ r
layer_kept pair t r = go (given pair t) r
  where
    go : (b : Bool) (r : Record) → is_layer r ≡ true → cond b (with_mark r) r ≡ r
    go true NoRecord l = apart l
    go true (Hierarchy h) l = refl
    go true (Extension x) l = refl
    go true Implied l = refl
    go false r l = refl

-- the mark and the names that come with it
pub named_marked : (pair : Bool) (t : ℕ) (s : Seen) → marked_named pair t (named_by t s) ≡ named_by t (marked_seen pair t s)
named_marked pair t s = go (given pair t) s.«record» refl
  where
    go : (b : Bool) (r : Record) → s.«record» ≡ r
        → cond b (with_names t s.«record» (named_by t s)) (named_by t s)
        ≡ record { «record» = cond b (with_mark s.«record») s.«record»; names = names_of t (cond b (with_mark s.«record») s.«record») s.embedded }
    go true NoRecord p = rw p
    go true (Hierarchy h) p = rw p
    go true (Extension x) p = rw p
    go true Implied p = rw p
    go false r p = refl
