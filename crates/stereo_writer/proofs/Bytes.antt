-- The bytes computed for a set are those that are meant, and no others are.
-- Assumes nothing.
use Prim.Native.Nat.{ℕ, ◌+◌}
use mathlib.Core.Path.{◌≡◌, refl, sym, ◌∙◌, ap, ap₂, subst}
use mathlib.Core.Logic.{◌⊎◌, inl, inr}
use mathlib.Core.Bool.{Bool, true, false, cond, not}
use mathlib.Core.List.{List, [], ◌∷◌, ◌++◌, append-nil}
use lib.Dec.{eqb}
use lib.ListN.{length}
use lib.Seq.{drop_at}
use native.Mathlib.Omega.{arith}
use borrow.Author.Tests.{eq-eqb, lt-ltb}
use Rattle.combinators.specs.Bools.{both_ways, neither_left, neither_right, false_unless, either_left}
use Rattle.combinators.specs.Lists.{Nth, here, there, any, gather}
use Rattle.syntax.specs.Table.{Fit, fits}
use Rattle.syntax.specs.Filled.{Filled, filled, values_in, bytes_in, too_wide_in, Writes}
use Rattle.syntax.proofs.Laws.{fits_fit}
use Rattle.syntax.proofs.NamedLaws.{written_by_meant, written_by_only}
use Rattle.syntax.proofs.FilledLaws.{AllProper, none, one_then, NoneTooWide, none as all_fit, one_then as fit_then, writes_meant, writes_only}
use Rattle.records.specs.Records.{is_layer, index_of}
use Rattle.records.proofs.Sizes.{info_short}
use Rattle.loop_entries.specs.declared.Entry.{Entry}
use Rattle.loop_entries.specs.Entries.{entry_head}
use Rattle.loop_writer.specs.Layout.{entry_head_table, info_bytes, entry_bytes, too_wide}
use Rattle.loop_writer.specs.Meaning as Loop
use Rattle.loop_writer.proofs.Entries.{head_fit, record_fit}
use Rattle.loop_writer.proofs.Writes.{bytes_meant, bytes_only}
use Rattle.syntax.proofs.Equations.{bounds}
use Rattle.mvc_extension.specs.declared.MvcExtension.{MvcExtension}
use Rattle.mvc_extension.specs.MvcExtension.{mvc_extension_descriptor, mvc_extension_fields}
use Rattle.mvc_descriptors.specs.Tables.{mvc_extension_tables}
use Rattle.stereo_set.specs.Two.{LayerOf, TwoLayers}
use Rattle.stereo_writer.specs.Layout.{extension_for, is_part, extra_tables, stereo_entry, stereo_bytes}
use Rattle.stereo_writer.specs.Meaning.{WritesWith, with_more, WritesEntry, the_base, the_second, no_layer_lem, WritesSet, nothing, entry_then}

-- ---- one entry as the loop writer writes it

loop_entry : (e : Entry) → too_wide e ≡ false → Loop.WritesEntry e (entry_bytes e)
loop_entry e fine = go (bytes_meant (e ∷ []) (rw fine))
  where
    go : {l : List ℕ} → Loop.WritesEntries (e ∷ []) l → Loop.WritesEntry e (entry_bytes e)
    go (Loop.entry_then {bytes = bytes} {rest = rest} w Loop.nothing) =
        let same : bytes ≡ entry_bytes e = sym (append-nil bytes) ∙ bytes_only (Loop.entry_then w Loop.nothing) ∙ append-nil (entry_bytes e) in
        subst (Loop.WritesEntry e) same w

loop_entry_only : (e : Entry) {l : List ℕ} → Loop.WritesEntry e l → l ≡ entry_bytes e
loop_entry_only e {l} w = sym (append-nil l) ∙ bytes_only (Loop.entry_then w Loop.nothing) ∙ append-nil (entry_bytes e)

-- ---- with the tables behind

extension_proper : (x : MvcExtension) → AllProper (mvc_extension_tables x)
extension_proper x =
    one_then (record { sound = record { whole = refl; fixed_fit = refl }; lines = refl })
    (one_then (record { sound = record { whole = refl; fixed_fit = refl }; lines = refl }) none)

extension_fit : (x : MvcExtension) → fits mvc_extension_descriptor (mvc_extension_fields x) ≡ true → NoneTooWide (mvc_extension_tables x)
extension_fit x e = fit_then refl (fit_then (ap not e) all_fit)

extension_written : (x : MvcExtension) → fits mvc_extension_descriptor (mvc_extension_fields x) ≡ true → Writes (mvc_extension_tables x) (gather bytes_in (mvc_extension_tables x))
extension_written x e = writes_meant (extension_proper x) (extension_fit x e)

module _ (e : Entry) where
  -- the head that counts so many bytes more
  pub head_more : too_wide e ≡ false → (extra : List ℕ) → length (info_bytes e ++ extra) ≡ length (info_bytes e) + length extra → length extra ≡ 0 ⊎ (length extra ≡ 10)
      → Fit entry_head (values_in (entry_head_table e.stream_type e.pid (length (info_bytes e ++ extra))))
  head_more fine extra long few =
      let head = bounds (head_fit e fine) in
      let small = info_short e.«record» e.embedded (record_fit e fine) in
      let short = fewer few in
      fits_fit entry_head (values_in (entry_head_table e.stream_type e.pid (length (info_bytes e ++ extra))))
      (rw (lt-ltb e.stream_type 256 (omega arith), lt-ltb e.pid 8192 (omega arith), lt-ltb (length (info_bytes e ++ extra)) 4096 (omega arith)))
    where
      fewer : length extra ≡ 0 ⊎ (length extra ≡ 10) → Prim.Native.Nat.◌≤◌ (length extra) 10
      fewer (inl p) = omega arith
      fewer (inr p) = omega arith

  abbrev bytes_with : List ℕ → List ℕ
  bytes_with more = bytes_in (entry_head_table e.stream_type e.pid (length (info_bytes e ++ more))) ++ (info_bytes e ++ more)

  with_meant : (extra : List Filled) → too_wide e ≡ false → Writes extra (gather bytes_in extra) → length (gather bytes_in extra) ≡ 0 ⊎ (length (gather bytes_in extra) ≡ 10)
      → WritesWith e extra (bytes_with (gather bytes_in extra))
  with_meant extra fine written few =
      with_more (bytes_in (entry_head_table e.stream_type e.pid (length (info_bytes e)))) (info_bytes e) (loop_entry e fine) refl written
      (written_by_meant (record { whole = refl; fixed_fit = refl }) refl (head_more fine (gather bytes_in extra) (lib.ListN.length-append (info_bytes e) (gather bytes_in extra)) few))

  with_only : (extra : List Filled) (bytes : List ℕ) → ((more : List ℕ) → Writes extra more → more ≡ bytes) → {l : List ℕ} → WritesWith e extra l → l ≡ bytes_with bytes
  with_only extra bytes only (with_more plain info {head} {more} w five written h) =
      let same : plain ++ info ≡ entry_bytes e = loop_entry_only e w in
      let is_info : info ≡ info_bytes e = sym (drop_at plain info 5 five) ∙ ap (lib.ListN.drop 5) same in
      let is_more : more ≡ bytes = only more written in
      let both : info ++ more ≡ info_bytes e ++ bytes = ap₂ (λ (a b : List ℕ). a ++ b) is_info is_more in
      ap₂ (λ (a b : List ℕ). a ++ b)
      (written_by_only (record { whole = refl; fixed_fit = refl }) h ∙ ap (λ (l : List ℕ). bytes_in (entry_head_table e.stream_type e.pid (length l))) both)
      both

-- ---- which of them an entry is

pub data EntryCase (e : Entry) : Type 0 where
  is_base_entry : LayerOf (e ∷ []) 0 0x1B 0 [] e → EntryCase e
  is_second_entry : LayerOf (e ∷ []) 0 0x20 1 (0 ∷ []) e → EntryCase e
  is_no_layer : is_layer e.«record» ≡ false → EntryCase e

alone : {entries : List Entry} {k t index : ℕ} {names : List ℕ} {e : Entry} → LayerOf entries k t index names e → LayerOf (e ∷ []) 0 t index names e
alone l = record { stands = record { entry = here; layer = l.stands.layer }; type = l.type; indexed = l.indexed; rests_on = l.rests_on }

pub each_case : {entries : List Entry} {base second : Entry} → TwoLayers entries base second → (k : ℕ) (e : Entry) → Nth entries k e → EntryCase e
each_case {entries} {base} {second} two k e n = go (is_layer e.«record») refl
  where
    at_place : is_layer e.«record» ≡ true → (k ≡ two.base_place) ⊎ (k ≡ two.second_place) → EntryCase e
    at_place p (inl q) =
        let same : base ≡ e = Rattle.combinators.specs.Lists.nth_one two.is_base.stands.entry (subst (λ (j : ℕ). Nth entries j e) q n) in
        is_base_entry (subst (λ (z : Entry). LayerOf (z ∷ []) 0 0x1B 0 [] z) same (alone two.is_base))
    at_place p (inr q) =
        let same : second ≡ e = Rattle.combinators.specs.Lists.nth_one two.is_second.stands.entry (subst (λ (j : ℕ). Nth entries j e) q n) in
        is_second_entry (subst (λ (z : Entry). LayerOf (z ∷ []) 0 0x20 1 (0 ∷ []) z) same (alone two.is_second))

    go : (b : Bool) → is_layer e.«record» ≡ b → EntryCase e
    go true p = at_place p (two.no_other k e (record { entry = n; layer = p }))
    go false p = is_no_layer p

-- what each is given
module _ (x y : MvcExtension) (e : Entry) where
  pub base_tables : LayerOf (e ∷ []) 0 0x1B 0 [] e → extra_tables x y e ≡ mvc_extension_tables x
  base_tables l =
      let part : is_part e ≡ true =
      rw (l.stands.layer, l.type) (either_left (eqb (index_of 0x1B e.«record») 0) false (eq-eqb (index_of 0x1B e.«record») 0 (sym (ap (λ (t : ℕ). index_of t e.«record») l.type) ∙ l.indexed))) in
      ap (λ (b : Bool). cond b (mvc_extension_tables (extension_for x y e.stream_type)) []) part ∙ ap (λ (t : ℕ). mvc_extension_tables (extension_for x y t)) l.type

  pub second_tables : LayerOf (e ∷ []) 0 0x20 1 (0 ∷ []) e → extra_tables x y e ≡ mvc_extension_tables y
  second_tables l =
      let part : is_part e ≡ true =
      rw (l.stands.layer, l.type) (eq-eqb (index_of 0x20 e.«record») 1 (sym (ap (λ (t : ℕ). index_of t e.«record») l.type) ∙ l.indexed)) in
      ap (λ (b : Bool). cond b (mvc_extension_tables (extension_for x y e.stream_type)) []) part ∙ ap (λ (t : ℕ). mvc_extension_tables (extension_for x y t)) l.type

  pub no_tables : is_layer e.«record» ≡ false → extra_tables x y e ≡ []
  no_tables p = rw p

  -- THE BYTES of an entry
  module _ (fit_x : fits mvc_extension_descriptor (mvc_extension_fields x) ≡ true) (fit_y : fits mvc_extension_descriptor (mvc_extension_fields y) ≡ true)
      (fine : too_wide e ≡ false) where
    pub entry_meant : EntryCase e → WritesEntry x y e (stereo_entry x y e)
    entry_meant (is_base_entry l) =
        the_base l (subst (λ (t : List Filled). WritesWith e (mvc_extension_tables x) (bytes_with e (gather bytes_in t))) (sym (base_tables l)) (with_meant e (mvc_extension_tables x) fine (extension_written x fit_x) (inr refl)))
    entry_meant (is_second_entry l) =
        the_second l (subst (λ (t : List Filled). WritesWith e (mvc_extension_tables y) (bytes_with e (gather bytes_in t))) (sym (second_tables l)) (with_meant e (mvc_extension_tables y) fine (extension_written y fit_y) (inr refl)))
    entry_meant (is_no_layer p) =
        no_layer_lem (λ l. both_ways l.layer p)
        (subst (λ (t : List Filled). WritesWith e [] (bytes_with e (gather bytes_in t))) (sym (no_tables p)) (with_meant e [] fine Rattle.syntax.specs.Filled.nothing (inl refl)))

  pub entry_only : {l : List ℕ} → WritesEntry x y e l → l ≡ stereo_entry x y e
  entry_only (the_base l w) =
      with_only e (mvc_extension_tables x) (gather bytes_in (mvc_extension_tables x)) (λ m v. writes_only (extension_proper x) v) w
      ∙ ap (λ (t : List Filled). bytes_with e (gather bytes_in t)) (sym (base_tables l))
  entry_only (the_second l w) =
      with_only e (mvc_extension_tables y) (gather bytes_in (mvc_extension_tables y)) (λ m v. writes_only (extension_proper y) v) w
      ∙ ap (λ (t : List Filled). bytes_with e (gather bytes_in t)) (sym (second_tables l))
  entry_only (no_layer_lem f w) =
      with_only e [] [] (λ m v. writes_only none v) w
      ∙ ap (λ (t : List Filled). bytes_with e (gather bytes_in t)) (sym (no_tables (false_unless (is_layer e.«record») (λ t. f (record { entry = here; layer = t })))))

-- THE BYTES OF A SET.
module _ (x y : MvcExtension) where
  pub set_bytes_meant : fits mvc_extension_descriptor (mvc_extension_fields x) ≡ true → fits mvc_extension_descriptor (mvc_extension_fields y) ≡ true
      → (entries : List Entry) → any too_wide entries ≡ false → ((k : ℕ) (e : Entry) → Nth entries k e → EntryCase e) → WritesSet x y entries (stereo_bytes x y entries)
  set_bytes_meant fit_x fit_y [] fine each = nothing
  set_bytes_meant fit_x fit_y (e ∷ es) fine each =
      entry_then (entry_meant x y e fit_x fit_y (neither_left (too_wide e) (any too_wide es) fine) (each 0 e here))
      (set_bytes_meant fit_x fit_y es (neither_right (too_wide e) (any too_wide es) fine) (λ k z n. each (Prim.Native.Nat.suc k) z (there n)))

  pub set_bytes_only : {entries : List Entry} {l : List ℕ} → WritesSet x y entries l → l ≡ stereo_bytes x y entries
  set_bytes_only nothing = refl
  set_bytes_only (entry_then {e} w ws) = ap₂ (λ (a b : List ℕ). a ++ b) (entry_only x y e w) (set_bytes_only ws)
