-- THE TEST IS THE MEANING: buffers pass it exactly where they hold a set, and then that of their rows.
-- Assumes nothing.
use Prim.Native.Nat.{ℕ, zero, suc, ◌+◌, ◌*◌, ◌≤◌, ◌<◌}
use mathlib.Core.Bool.{Bool, true, false, not, cond, ◌&&◌, ◌||◌}
use mathlib.Core.List.{List, [], ◌∷◌, ◌++◌, append-nil}
use mathlib.Core.Path.{◌≡◌, refl, sym, ap, ap₂, ◌∙◌, subst}
use native.Mathlib.Decide.{dec_lt}
use native.Mathlib.Omega.{arith}
use borrow.Author.Tests.{eqb-true, eqb-false, eq-eqb, ne_eqb, not-true, not-false}
use lib.Dec.{eqb}
use lib.ListN.{length, get_or, take, drop, length-take, length-drop}
use lib.Seq.{ext_get_or, take_all, take_at, take-add, drop-append-add, get_or-take, get_or-drop}
use Rattle.combinators.specs.Below.{some, every_at, at_every, none_at, at_none}
use Rattle.combinators.specs.Bools.{both_left, both_right, both_ways, neither_left, neither_right, false_unless}
use Rattle.combinators.specs.Lists.{Nth, nth_get_d, get_d_nth, nth_inside, gather_append}
use Rattle.sets.specs.Sets.{has}
use Rattle.records.specs.declared.Record.{Record}
use Rattle.records.specs.declared.Record.TheVariants.{NoRecord}
use Rattle.records.specs.Records.{is_layer, index_of}
use Rattle.implied.specs.Rule.{is_view, given}
use Rattle.judging.specs.Judging.{type_not_allowed, wrong_flags, wrong_embedded}
use Rattle.loop_entries.specs.declared.Entry.{Entry}
use Rattle.loop_entries.specs.Entries.{blank_entry}
use Rattle.loop_faults.specs.Conditions.{slot_of}
use Rattle.entry_rows.specs.Rows.{row_count, row_at, row_too_wide, some_too_wide, row_of, rows_of, entry_in, entries_below}
use Rattle.entry_rows.proofs.Laws.{row_length, rows_length, no_record_entry, hierarchy_entry, extension_entry, implied_entry}
use Rattle.entry_rows.proofs.Given.{entry_at_lem, row_fine_lem}
use Rattle.entry_rows.proofs.Judged.{length_entries, kind_fine}
use Rattle.combinators.specs.Each.{each_only, each_at, length_each}
use Rattle.loop_layers.specs.Meaning.{LayerAt, LayerOf}
use Rattle.layer_set.specs.declared.«set».LayerSet.{LayerSet}
use Rattle.layer_set.specs.Sets.{stored_in, no_entry, entry_at, set_of}
use Rattle.layer_set.specs.Meaning.{Stands, At, a_layer, nothing, IsSet}
use Rattle.layer_set.proofs.Meant.{in_set, same_set}
use Rattle.layer_set.proofs.Read.{Apart, listed_set, listed_layers}
use Rattle.layer_set_rows.specs.Buffers.{number_of, stored_numbers, placed_in, set_in, wrong_at, right_at, same_numbers, row_right, layer_with, pid_again, row_fine, rows_right, rows_hold, stored_holds, holds_set}
use Rattle.thoquenry_sets.proofs.Replies.{held_long, held_narrow}
use Rattle.held_sets.specs.Meaning.{Laid, LaidOut, Holds}

any_blank : {A : Type 0} (l : List A) (k : ℕ) (a b : A) → k < length l → get_or l k a ≡ get_or l k b
any_blank l k a b h = nth_get_d a (get_d_nth l k b h)

-- ---- what a row says of its entry: whether it is a layer, and its PID

data Kinds (row : List ℕ) : Type 0 where
  no_record : get_or row 2 0 ≡ 0 → Kinds row
  a_record : (get_or row 2 0 ≡ 0 → ⊥) → is_layer (entry_in row).«record» ≡ true → Kinds row

kinds : (row : List ℕ) → row_too_wide row ≡ false → Kinds row
kinds row fine = go (get_or row 2 0) refl (kind_fine row fine)
  where
    go : (kind : ℕ) → get_or row 2 0 ≡ kind → kind ≤ 3 → Kinds row
    go zero e h = no_record e
    go (suc zero) e h = a_record (λ z. omega arith) (ap (λ (x : Entry). is_layer x.«record») (sym (hierarchy_entry row e)))
    go (suc (suc zero)) e h = a_record (λ z. omega arith) (ap (λ (x : Entry). is_layer x.«record») (sym (extension_entry row e)))
    go (suc (suc (suc zero))) e h = a_record (λ z. omega arith) (ap (λ (x : Entry). is_layer x.«record») (sym (implied_entry row e)))
    go (suc (suc (suc (suc k)))) e h = absurd (omega arith)

no_record_there : (row : List ℕ) → get_or row 2 0 ≡ 0 → is_layer (entry_in row).«record» ≡ false
no_record_there row e = ap (λ (x : Entry). is_layer x.«record») (sym (no_record_entry row e))

layer_kind : (row : List ℕ) → is_layer (entry_in row).«record» ≡ true → get_or row 2 0 ≡ 0 → ⊥
layer_kind row l e = both_ways l (no_record_there row e)

row_pid : (row : List ℕ) → (entry_in row).pid ≡ get_or row 1 0
unfolding entry_in
row_pid row = refl

row_type : (row : List ℕ) → (entry_in row).stream_type ≡ get_or row 0 0
unfolding entry_in
row_type row = refl

-- a number of a row, among all
row_number : (rows : List ℕ) (i k : ℕ) → k < 80 → get_or rows (i * 80 + k) 0 ≡ get_or (row_at rows i) k 0
row_number rows i k h = sym (get_or-take 80 (drop (i * 80) rows) k 0 h ∙ get_or-drop (i * 80) rows k 0)

-- the mark is right on either view
either_view : (t : ℕ) → given true t ≡ is_view t
either_view t = plain (is_view t)
  where
    plain : (b : Bool) → b && true ≡ b
    plain true = refl
    plain false = refl

-- ---- rows that pass the test

module _ (rows : List ℕ) (held : rows_hold rows ≡ true) where
  long : length rows ≡ 5120
  long = held_long rows held

  all_right : rows_right rows ≡ true
  unfolding rows_hold
  all_right = go (eqb (length rows) 5120) (some_too_wide rows) held
    where
      go : (a b : Bool) → cond a (cond b false (rows_right rows)) false ≡ true → rows_right rows ≡ true
      go true true e = both_ways e refl
      go true false e = e
      go false b e = both_ways e refl

  abbrev entry : ℕ → Entry
  entry i = entry_in (row_at rows i)

  module _ (i : ℕ) (h : i < 64) where
    row_narrow : row_too_wide (row_at rows i) ≡ false
    row_narrow = row_fine_lem rows (held_narrow rows held) i (let inside : i < row_count rows = omega (arith, long) in inside)

    fine : row_fine rows i ≡ true
    unfolding rows_right
    fine = every_at (row_fine rows) 64 all_right i h

    row_is_right : row_right i (row_at rows i) ≡ true
    row_is_right = both_left (row_right i (row_at rows i)) _ fine

    entry_right : right_at i (entry i) ≡ true
    unfolding row_right
    entry_right = both_left (right_at i (entry i)) (same_numbers (row_at rows i) (row_of (entry i))) row_is_right

    row_long : length (row_at rows i) ≡ 80
    row_long = length-take 80 (drop (i * 80) rows) ∙ omega (arith, length-drop (i * 80) rows, long)

    -- the row is that of its entry
    own_row : row_at rows i ≡ row_of (entry i)
    unfolding row_right same_numbers
    own_row =
        ext_get_or 0 (row_at rows i) (row_of (entry i)) (row_long ∙ sym (row_length (entry i)))
        (λ k l. eqb-true (get_or (row_at rows i) k 0) (get_or (row_of (entry i)) k 0)
        (every_at (λ k. eqb (get_or (row_at rows i) k 0) (get_or (row_of (entry i)) k 0)) 80
        (both_right (right_at i (entry i)) (same_numbers (row_at rows i) (row_of (entry i))) row_is_right) k (rw row_long at l)))

    module _ (l : is_layer (entry i).«record» ≡ true) where
      not_wrong : wrong_at i (entry i) ≡ false
      not_wrong =
          not-true (wrong_at i (entry i))
          (sym (ap (λ (b : Bool). cond b (not (wrong_at i (entry i))) (eqb (entry i).stream_type 0 && eqb (entry i).pid 0)) l) ∙ entry_right)

      abbrev t : ℕ
      t = (entry i).stream_type

      abbrev r : Record
      r = (entry i).«record»

      slot_is : slot_of t r ≡ i
      slot_is = eqb-true (slot_of t r) i (not-false (eqb (slot_of t r) i) (neither_left (not (eqb (slot_of t r) i)) _ not_wrong))

      after_slot : type_not_allowed (given true t) t r || (wrong_flags r || wrong_embedded t r (entry i).embedded) ≡ false
      after_slot = neither_right (not (eqb (slot_of t r) i)) _ not_wrong

      after_type : wrong_flags r || wrong_embedded t r (entry i).embedded ≡ false
      after_type = neither_right (type_not_allowed (given true t) t r) _ after_slot

      stands_at : Stands i (entry i)
      stands_at =
          record {
            layer = l;
            index = sym (ap (λ (b : Bool). cond b (index_of t r) 256) l) ∙ slot_is;
            allowed = ap (λ (b : Bool). type_not_allowed b t r) (sym (either_view t)) ∙ neither_left (type_not_allowed (given true t) t r) _ after_slot;
            flags = neither_left (wrong_flags r) _ after_type;
            list = neither_right (wrong_flags r) (wrong_embedded t r (entry i).embedded) after_type;
          }

      -- no lower layer has its PID
      pid_alone : pid_again rows i ≡ false
      pid_alone =
          let kind : eqb (get_or rows (i * 80 + 2) 0) 0 ≡ false =
          ne_eqb (get_or rows (i * 80 + 2) 0) 0 (λ z. layer_kind (row_at rows i) l (sym (row_number rows i 2 (omega arith)) ∙ z)) in
          let not-both = not-true (not (eqb (get_or rows (i * 80 + 2) 0) 0) && pid_again rows i) (both_right (row_right i (row_at rows i)) _ fine) in
          sym (ap (λ (b : Bool). not b && pid_again rows i) kind) ∙ not-both

    -- and where it is none, nothing stands there
    blank_there : is_layer (entry i).«record» ≡ false → entry i ≡ blank_entry
    blank_there l = go (kinds (row_at rows i) row_narrow)
      where
        both : eqb (entry i).stream_type 0 && eqb (entry i).pid 0 ≡ true
        both = sym (ap (λ (b : Bool). cond b (not (wrong_at i (entry i))) (eqb (entry i).stream_type 0 && eqb (entry i).pid 0)) l) ∙ entry_right

        go : Kinds (row_at rows i) → entry i ≡ blank_entry
        go (no_record e) =
            sym (no_record_entry (row_at rows i) e)
            ∙ ap₂ (λ (a b : ℕ). record { stream_type = a; pid = b; «record» = NoRecord; embedded = blank_entry.embedded })
            (sym (row_type (row_at rows i)) ∙ eqb-true (entry i).stream_type 0 (both_left (eqb (entry i).stream_type 0) (eqb (entry i).pid 0) both))
            (sym (row_pid (row_at rows i)) ∙ eqb-true (entry i).pid 0 (both_right (eqb (entry i).stream_type 0) (eqb (entry i).pid 0) both))
        go (a_record k p) = both_ways p l

  -- ---- the entries of the rows, as a list

  abbrev es : List Entry
  es = entries_below rows 64

  record Found (k : ℕ) (x : Entry) : Type 0 where
    below : k < 64
    same : entry k ≡ x

  found : {k : ℕ} {x : Entry} → Nth es k x → Found k x
  found {k} {x} n =
      let h : k < 64 = rw (length_entries rows 64) at (nth_inside n) in
      record { below = h; same = sym (entry_at_lem rows 64 k h) ∙ nth_get_d blank_entry n }

  there : (i : ℕ) → i < 64 → Nth es i (entry i)
  there i h = subst (Nth es i) (entry_at_lem rows 64 i h) (get_d_nth es i blank_entry (rw (length_entries rows 64) h))

  found_stands : {k i : ℕ} {x : Entry} → LayerAt es k i x → (k ≡ i) × Stands k x
  found_stands {k} {i} {x} l =
      let w = found l.entry in
      let st = stands_at k w.below (ap (λ (y : Entry). is_layer y.«record») w.same ∙ l.layer) in
      (sym st.index ∙ ap (λ (y : Entry). index_of y.stream_type y.«record») w.same ∙ l.index, subst (Stands k) w.same st)

  twice_never : (j k : ℕ) → j < k → k < 64 → is_layer (entry j).«record» ≡ true → is_layer (entry k).«record» ≡ true → (entry j).pid ≡ (entry k).pid → ⊥
  unfolding pid_again
  twice_never j k less h lj lk same =
      both_ways
      (ap₂ ◌&&◌
      (ap not (ne_eqb (get_or rows (j * 80 + 2) 0) 0 (λ z. layer_kind (row_at rows j) lj (sym (row_number rows j 2 (omega arith)) ∙ z))))
      (eq-eqb (get_or rows (j * 80 + 1) 0) (get_or rows (k * 80 + 1) 0)
      (row_number rows j 1 (omega arith) ∙ sym (row_pid (row_at rows j)) ∙ same ∙ row_pid (row_at rows k) ∙ sym (row_number rows k 1 (omega arith)))))
      (none_at (λ m. layer_with (get_or rows (m * 80 + 2) 0) (get_or rows (m * 80 + 1) 0) (get_or rows (k * 80 + 1) 0)) k (pid_alone k h lk) j less)

  found_here : {k i : ℕ} {x : Entry} → LayerAt es k i x → Stands i x
  found_here {k} {i} {x} l = let w = found_stands l in subst (λ (m : ℕ). Stands m x) w.0 w.1

  found_alone : {k i : ℕ} {x : Entry} → LayerAt es k i x → LayerOf es i x
  found_alone {k} {i} {x} l =
      let w = found_stands l in
      record {
        six_bits = subst (λ (m : ℕ). m < 64) w.0 (found l.entry).below;
        place = k;
        at_place = l;
        last = λ j y h m. let v = found_stands m in omega (arith, v.0, w.0);
      }

  apart_es : Apart es
  apart_es = record { stands = found_here; alone = found_alone; pid_alone = one }
    where
      one : {j k : ℕ} {a b : Entry} → Nth es j a → Nth es k b → is_layer a.«record» ≡ true → is_layer b.«record» ≡ true → a.pid ≡ b.pid → j ≡ k
      one {j} {k} {a} {b} n m la lb same =
          let x = found n in
          let y = found m in
          let lj = ap (λ (e : Entry). is_layer e.«record») x.same ∙ la in
          let lk = ap (λ (e : Entry). is_layer e.«record») y.same ∙ lb in
          let alike = ap (λ (e : Entry). e.pid) x.same ∙ same ∙ sym (ap (λ (e : Entry). e.pid) y.same) in
          go x.below y.below lj lk alike (dec_lt j k) (dec_lt k j)
        where
          go : j < 64 → k < 64 → is_layer (entry j).«record» ≡ true → is_layer (entry k).«record» ≡ true → (entry j).pid ≡ (entry k).pid → Dec (j < k) → Dec (k < j) → j ≡ k
          go hj hk lj lk alike (yes h) d = absurd (twice_never j k h hk lj lk alike)
          go hj hk lj lk alike (no h) (yes g) = absurd (twice_never k j g hj lk lj (sym alike))
          go hj hk lj lk alike (no h) (no g) = omega arith

  -- ---- the set of the rows

  pub rows_set : IsSet (set_in rows)
  unfolding placed_in
  rows_set = listed_set es apart_es

  pub rows_entries : (i : ℕ) → i < 64 → entry_at (set_in rows).entries i ≡ entry i
  unfolding placed_in
  rows_entries i h = go (is_layer (entry i).«record») refl (rows_set.at i h)
    where
      layer_there : is_layer (entry i).«record» ≡ true → LayerAt es i i (entry i)
      layer_there l = record { entry = there i h; layer = l; index = (stands_at i h l).index }

      go : (b : Bool) → is_layer (entry i).«record» ≡ b → At (set_of es) i → entry_at (set_of es).entries i ≡ entry i
      go true l a = ((listed_layers es apart_es i (entry i)).1 (apart_es.alone (layer_there l))).entry
      go false l (nothing p q n) = q ∙ sym (blank_there i h l)
      go false l (a_layer p st n) =
          let w = (listed_layers es apart_es i (entry_at (set_of es).entries i)).0 (record { in_set = in_set (set_of es) (listed_set es apart_es) i h p; entry = refl }) in
          let v = found_stands w.at_place in
          let same = (found w.at_place.entry).same in
          both_ways (ap (λ (m : ℕ). is_layer (entry m).«record») (sym v.0) ∙ ap (λ (x : Entry). is_layer x.«record») same ∙ st.layer) l

  entries_are : (set_in rows).entries ≡ es
  entries_are =
      ext_get_or no_entry (set_in rows).entries es (rows_set.places.of_entries ∙ sym (length_entries rows 64))
      (λ i h.
      let inside : i < 64 = rw rows_set.places.of_entries at h in
      rows_entries i inside ∙ sym (entry_at_lem rows 64 i inside) ∙ any_blank es i blank_entry no_entry (rw (length_entries rows 64) inside))

  rows_below : (n : ℕ) → n ≤ 64 → rows_of (entries_below rows n) ≡ take (n * 80) rows
  rows_below zero h = refl
  rows_below (suc n) h =
      gather_append row_of (entries_below rows n) (entry n ∷ [])
      ∙ ap₂ ◌++◌ (rows_below n (omega arith)) (append-nil (row_of (entry n)) ∙ sym (own_row n (omega arith)))
      ∙ sym (take-add (n * 80) 80 rows)
      ∙ ap (λ (m : ℕ). take m rows) (let more : n * 80 + 80 ≡ suc n * 80 = omega arith in more)

  pub own_rows : rows ≡ rows_of (set_in rows).entries
  own_rows = sym (ap rows_of entries_are ∙ rows_below 64 (omega arith) ∙ take_all 5120 rows (omega (arith, long)))

  pub rows_laid : LaidOut (set_in rows)
  rows_laid =
      record {
        each = λ i h. subst Laid (sym (rows_entries i h))
            (record { narrow = ap row_too_wide (sym (own_row i h)) ∙ row_narrow i h; told = ap entry_in (sym (own_row i h)) });
      }

-- BUFFERS THAT PASS THE TEST HOLD THE SET OF THEIR ROWS,
pub held_meant : (layers stored : List ℕ) → holds_set layers stored ≡ true → Holds layers stored (set_in layers)
unfolding stored_holds stored_numbers
held_meant layers stored held =
    let rows = both_left (rows_hold layers) (stored_holds (stored_in (set_in layers)) stored) held in
    let numbers = both_right (rows_hold layers) (stored_holds (stored_in (set_in layers)) stored) held in
    record {
      is_set = rows_set layers rows;
      laid_out = rows_laid layers rows;
      rows = own_rows layers rows;
      numbers = each_only (number_of (stored_in (set_in layers))) stored 192 0 (eqb-true (length stored) 192 (both_left (eqb (length stored) 192) _ numbers))
          (λ k h. eqb-true (get_or stored k 0) (number_of (stored_in (set_in layers)) k)
          (every_at (λ k. eqb (get_or stored k 0) (number_of (stored_in (set_in layers)) k)) 192 (both_right (eqb (length stored) 192) _ numbers) k h));
    }

-- ---- and buffers that hold a set pass it

rows_at : (entries : List Entry) (i : ℕ) → i < length entries → row_at (rows_of entries) i ≡ row_of (get_or entries i no_entry)
rows_at [] i h = absurd (omega arith)
rows_at (e ∷ entries) zero h = take_at (row_of e) (rows_of entries) 80 (row_length e)
rows_at (e ∷ entries) (suc i) h =
    ap (λ (n : ℕ). take 80 (drop n (row_of e ++ rows_of entries))) (let more : suc i * 80 ≡ length (row_of e) + i * 80 = omega (arith, row_length e) in more)
    ∙ ap (take 80) (drop-append-add (row_of e) (rows_of entries) (i * 80))
    ∙ rows_at entries i (omega arith)

stands_right : (i : ℕ) (e : Entry) → Stands i e → right_at i e ≡ true
stands_right i e st =
    ap (λ (b : Bool). cond b (not (wrong_at i e)) (eqb e.stream_type 0 && eqb e.pid 0)) st.layer
    ∙ ap not
    (ap₂ ◌||◌
    (ap not (eq-eqb (slot_of e.stream_type e.«record») i (ap (λ (b : Bool). cond b (index_of e.stream_type e.«record») 256) st.layer ∙ st.index)))
    (ap₂ ◌||◌ (ap (λ (b : Bool). type_not_allowed b e.stream_type e.«record») (either_view e.stream_type) ∙ st.allowed) (ap₂ ◌||◌ st.flags st.list)))

module _ (layers stored : List ℕ) (s : LayerSet) (holds : Holds layers stored s) where
  abbrev is : IsSet s
  is = holds.is_set

  row_of_lem : (i : ℕ) → i < 64 → row_at layers i ≡ row_of (entry_at s.entries i)
  row_of_lem i h = ap (λ (l : List ℕ). row_at l i) holds.rows ∙ rows_at s.entries i (rw is.places.of_entries h)

  entry_of_lem : (i : ℕ) → i < 64 → entry_in (row_at layers i) ≡ entry_at s.entries i
  entry_of_lem i h = ap entry_in (row_of_lem i h) ∙ (holds.laid_out.each i h).told

  layers_long : length layers ≡ 5120
  layers_long = ap length holds.rows ∙ rows_length s.entries ∙ ap (λ (n : ℕ). n * 80) is.places.of_entries

  none_wide : some_too_wide layers ≡ false
  none_wide =
      at_none (λ k. row_too_wide (row_at layers k)) (row_count layers)
      (λ k h. let inside : k < 64 = omega (arith, layers_long) in ap row_too_wide (row_of_lem k inside) ∙ (holds.laid_out.each k inside).narrow)

  right_there : (i : ℕ) → i < 64 → right_at i (entry_in (row_at layers i)) ≡ true
  right_there i h = ap (right_at i) (entry_of_lem i h) ∙ go (is.at i h)
    where
      go : At s i → right_at i (entry_at s.entries i) ≡ true
      go (a_layer p st n) = stands_right i (entry_at s.entries i) st
      go (nothing p q n) = ap (right_at i) q

  same_there : (i : ℕ) → i < 64 → same_numbers (row_at layers i) (row_of (entry_in (row_at layers i))) ≡ true
  unfolding same_numbers
  same_there i h =
      at_every (λ k. eqb (get_or (row_at layers i) k 0) (get_or (row_of (entry_in (row_at layers i))) k 0)) 80
      (λ k l. eq-eqb _ _ (ap (λ (r : List ℕ). get_or r k 0) (row_of_lem i h ∙ ap row_of (sym (entry_of_lem i h)))))

  -- a row with a record is a layer of the set
  layer_of : (i : ℕ) → i < 64 → (get_or layers (i * 80 + 2) 0 ≡ 0 → ⊥) → has s.layers.present i ≡ true
  layer_of i h some-kind = go (is.at i h) (kinds (row_at layers i) (ap row_too_wide (row_of_lem i h) ∙ (holds.laid_out.each i h).narrow))
    where
      go : At s i → Kinds (row_at layers i) → has s.layers.present i ≡ true
      go (a_layer p st n) k = p
      go (nothing p q n) (no_record e) = absurd (some-kind (row_number layers i 2 (omega arith) ∙ e))
      go (nothing p q n) (a_record k l) =
          both_ways l (ap (λ (x : Entry). is_layer x.«record») (entry_of_lem i h ∙ q))

  pid_of : (i : ℕ) → i < 64 → get_or layers (i * 80 + 1) 0 ≡ (entry_at s.entries i).pid
  pid_of i h = row_number layers i 1 (omega arith) ∙ sym (row_pid (row_at layers i)) ∙ ap (λ (x : Entry). x.pid) (entry_of_lem i h)

  alone_there : (i : ℕ) → i < 64 → not (not (eqb (get_or layers (i * 80 + 2) 0) 0) && pid_again layers i) ≡ true
  unfolding pid_again
  alone_there i h = go (eqb (get_or layers (i * 80 + 2) 0) 0) refl
    where
      again : (get_or layers (i * 80 + 2) 0 ≡ 0 → ⊥) → some (λ j. layer_with (get_or layers (j * 80 + 2) 0) (get_or layers (j * 80 + 1) 0) (get_or layers (i * 80 + 1) 0)) i ≡ false
      again some-kind =
          at_none (λ j. layer_with (get_or layers (j * 80 + 2) 0) (get_or layers (j * 80 + 1) 0) (get_or layers (i * 80 + 1) 0)) i
          (λ j l. false_unless _ (λ t.
          let hj : j < 64 = omega arith in
          let kind-j = both_left (not (eqb (get_or layers (j * 80 + 2) 0) 0)) (eqb (get_or layers (j * 80 + 1) 0) (get_or layers (i * 80 + 1) 0)) t in
          let pid-j = both_right (not (eqb (get_or layers (j * 80 + 2) 0) 0)) (eqb (get_or layers (j * 80 + 1) 0) (get_or layers (i * 80 + 1) 0)) t in
          let same : j ≡ i =
          is.pids j i hj h (layer_of j hj (eqb-false (get_or layers (j * 80 + 2) 0) 0 (not-true (eqb (get_or layers (j * 80 + 2) 0) 0) kind-j))) (layer_of i h some-kind)
          (sym (pid_of j hj) ∙ eqb-true (get_or layers (j * 80 + 1) 0) (get_or layers (i * 80 + 1) 0) pid-j ∙ pid_of i h) in
          omega arith))

      go : (b : Bool) → eqb (get_or layers (i * 80 + 2) 0) 0 ≡ b
          → not (not b && some (λ j. layer_with (get_or layers (j * 80 + 2) 0) (get_or layers (j * 80 + 1) 0) (get_or layers (i * 80 + 1) 0)) i) ≡ true
      go true e = refl
      go false e = ap not (again (eqb-false (get_or layers (i * 80 + 2) 0) 0 e))

  fine_there : (i : ℕ) → i < 64 → row_fine layers i ≡ true
  unfolding row_right
  fine_there i h = ap₂ ◌&&◌ (ap₂ ◌&&◌ (right_there i h) (same_there i h)) (alone_there i h)

  pub rows_pass : rows_hold layers ≡ true
  unfolding rows_hold rows_right
  rows_pass = rw (eq-eqb (length layers) 5120 layers_long, none_wide) (at_every (row_fine layers) 64 fine_there)

  -- AND WHAT THEY HOLD is the set of their rows.
  pub held_one : s ≡ set_in layers
  held_one = same_set s (set_in layers) is (rows_set layers rows_pass) (λ i h. sym (rows_entries layers rows_pass i h ∙ entry_of_lem i h))

  stored_pass : stored_holds (stored_in s) stored ≡ true
  unfolding stored_holds stored_numbers
  stored_pass =
      ap₂ ◌&&◌ (eq-eqb (length stored) 192 (ap length holds.numbers ∙ length_each (number_of (stored_in s)) 192))
      (at_every (λ k. eqb (get_or stored k 0) (number_of (stored_in s) k)) 192
      (λ k h. eq-eqb _ _ (ap (λ (l : List ℕ). get_or l k 0) holds.numbers ∙ each_at (number_of (stored_in s)) 192 k 0 h)))

  pub held_only : holds_set layers stored ≡ true
  held_only = ap₂ ◌&&◌ rows_pass (ap (λ (x : LayerSet). stored_holds (stored_in x) stored) (sym held_one) ∙ stored_pass)
