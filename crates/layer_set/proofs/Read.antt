-- A SET FROM ENTRIES: of those of an accepted loop, in either reading, and of none; and what a fresh reading gives is the set with those layers.
-- Assumes nothing.
use Rattle.std.specs.Prelude.{Ok}
use Prim.Native.Nat.{ℕ, ◌<◌}
use mathlib.Core.Bool.{Bool, true, false, not}
use mathlib.Core.List.{List, [], map}
use mathlib.Core.Logic.{◌↔◌}
use mathlib.Core.Path.{◌≡◌, refl, sym, ap, ◌∙◌, subst}
use native.Mathlib.Decide.{dec_lt}
use native.Mathlib.Nat.{not-suc-le-zero}
use native.Mathlib.Omega.{arith}
use borrow.Author.Tests.{eq-eqb, not-false}
use lib.Dec.{eqb, ltb}
use lib.ListN.{length, get_or}
use lib.Pow.{pow_pos}
use Rattle.combinators.specs.Below.{none_at}
use Rattle.combinators.specs.Bools.{both_left, both_right, both_ways, false_unless}
use Rattle.combinators.specs.Lists.{Nth, nth_inside, nth_get_d, get_d_nth, nth_one, nth_of_map}
use Rattle.sets.specs.Sets.{has}
use Rattle.vocabulary.specs.declared.stream_types.Reading.{Reading}
use Rattle.records.specs.declared.Record.{Record}
use Rattle.records.specs.declared.Record.TheVariants.{NoRecord, Hierarchy, Extension, Implied}
use Rattle.records.specs.Records.{is_layer, index_of}
use Rattle.implied.specs.Rule.{is_view, given}
use Rattle.judging.specs.Judging.{type_not_allowed, wrong_flags, wrong_embedded}
use Rattle.judging.proofs.Sets.{indices_within}
use Rattle.loop_entries.specs.declared.Entry.{Entry}
use Rattle.loop_entries.specs.declared.Stream.{Stream}
use Rattle.loop_entries.specs.Entries.{blank_entry, no_stream, streams_of, entry_of, pair_of}
use Rattle.loop_faults.specs.Conditions.{stream_at, pid_at}
use Rattle.es_loop.specs.Reading.{loop_read}
use Rattle.es_loop.proofs.Verdicts.{Taken, taken}
use Rattle.closure.proofs.Reached.{layer_below_64}
use Rattle.kept_closures.proofs.Worked.{fresh_kept}
use Rattle.loop_layers.specs.Layers.{place_of, embedded_in}
use Rattle.loop_layers.specs.Closures.{entries_read}
use Rattle.loop_layers.specs.Meaning.{LayerAt, LayerOf}
use Rattle.loop_layers.proofs.Columns.{LayerOrNone, a_layer as is_layer_lem, no_layer_lem, layer_or_none, column_meant}
use Rattle.loop_layers.proofs.Meant.{layers_meant, entries_read_lem}
use Rattle.loop_layers.proofs.Accepted.{every_layer}
use Rattle.layer_set.specs.declared.«set».LayerSet.{LayerSet}
use Rattle.layer_set.specs.Sets.{set_of, loop_set, entry_at, no_entry}
use Rattle.layer_set.specs.Meaning.{Stands, At, a_layer, nothing, IsSet, Layer}
use Rattle.layer_set.proofs.Stored.{kept_stored}
use Rattle.layer_set.proofs.Meant.{in_set, same_layers}

-- what stands past the end of a list says nothing inside it
any_blank : {A : Type 0} (l : List A) (k : ℕ) (a b : A) → k < length l → get_or l k a ≡ get_or l k b
any_blank l k a b h = nth_get_d a (get_d_nth l k b h)

-- ---- a list of entries each of whose layers may stand at its index, which no two have, nor a PID

pub record Apart (es : List Entry) : Type 0 where
  pub stands : {k i : ℕ} {e : Entry} → LayerAt es k i e → Stands i e
  pub alone : {k i : ℕ} {e : Entry} → LayerAt es k i e → LayerOf es i e
  pub pid_alone : {j k : ℕ} {a b : Entry} → Nth es j a → Nth es k b → is_layer a.«record» ≡ true → is_layer b.«record» ≡ true → a.pid ≡ b.pid → j ≡ k

module _ (es : List Entry) (sound : Apart es) where
  abbrev s : LayerSet
  s = set_of es

  entries_long : length s.entries ≡ 64
  entries_long = (column_meant blank_entry (λ e. e) es).places

  entry_is : (i : ℕ) → i < 64 → entry_at s.entries i ≡ get_or s.entries i blank_entry
  entry_is i h = any_blank s.entries i no_entry blank_entry (rw entries_long h)

  layer_entry : (i : ℕ) (e : Entry) → LayerOf es i e → entry_at s.entries i ≡ e
  layer_entry i e l = entry_is i l.six_bits ∙ (column_meant blank_entry (λ e. e) es).layer i e l

  there : (i : ℕ) (e : Entry) → LayerOf es i e → has s.layers.present i ≡ true
  there i e l = ((layers_meant es).present i).1 (record { entry = e; layer = l })

  at : (i : ℕ) → i < 64 → At s i
  at i h = go (layer_or_none es i h)
    where
      go : LayerOrNone es i → At s i
      go (is_layer_lem e l) =
          a_layer (there i e l) (subst (Stands i) (sym (layer_entry i e l)) (sound.stands l.at_place))
          ((column_meant 0 embedded_in es).layer i e l ∙ ap embedded_in (sym (layer_entry i e l)))
      go (no_layer_lem f g) =
          nothing (false_unless (has s.layers.present i) (λ t. f (((layers_meant es).present i).0 t)))
          (entry_is i h ∙ (column_meant blank_entry (λ e. e) es).no_layer i h f)
          ((column_meant 0 embedded_in es).no_layer i h f)

  pids : (i j : ℕ) → i < 64 → j < 64 → has s.layers.present i ≡ true → has s.layers.present j ≡ true
      → (entry_at s.entries i).pid ≡ (entry_at s.entries j).pid → i ≡ j
  pids i j hi hj pi pj same =
      let a = ((layers_meant es).present i).0 pi in
      let b = ((layers_meant es).present j).0 pj in
      let at_a = a.layer.at_place in
      let at_b = b.layer.at_place in
      let pid_same : a.entry.pid ≡ b.entry.pid =
      sym (ap (λ (e : Entry). e.pid) (layer_entry i a.entry a.layer)) ∙ same ∙ ap (λ (e : Entry). e.pid) (layer_entry j b.entry b.layer) in
      let place_same : a.layer.place ≡ b.layer.place = sound.pid_alone at_a.entry at_b.entry at_a.layer at_b.layer pid_same in
      let entry_same : a.entry ≡ b.entry = nth_one (subst (λ (k : ℕ). Nth es k a.entry) place_same at_a.entry) at_b.entry in
      sym at_a.index ∙ ap (λ (e : Entry). index_of e.stream_type e.«record») entry_same ∙ at_b.index

  pub listed_set : IsSet s
  listed_set =
      let kept = fresh_kept s.layers in
      record {
        places = record {
          of_entries = entries_long;
          of_embedded = (layers_meant es).places;
          of_closures = kept.places.of_closures;
          of_sizes = kept.places.of_sizes;
          of_absents = kept.places.of_absents;
        };
        six_bits = indices_within 0 (map place_of es) (pow_pos 64);
        at = at;
        pids = pids;
        stored = kept_stored s kept;
      }

  -- its layers are those of the list
  pub listed_layers : (i : ℕ) (e : Entry) → Layer s i e ↔ LayerOf es i e
  listed_layers i e = (to, from)
    where
      to : Layer s i e → LayerOf es i e
      to l =
          let h : i < 64 = layer_below_64 s.layers i l.in_set in
          let w = ((layers_meant es).present i).0 (both_right (ltb i 64) (has s.layers.present i) l.in_set) in
          subst (LayerOf es i) (sym (layer_entry i w.entry w.layer) ∙ l.entry) w.layer

      from : LayerOf es i e → Layer s i e
      from l = record { in_set = in_set s listed_set i l.six_bits (there i e l); entry = layer_entry i e l }

-- ---- no entry

no_nth : {A : Type 0} {k : ℕ} {x : A} → Nth {A = A} [] k x → ⊥
no_nth n = not-suc-le-zero (nth_inside n)

-- THE EMPTY SET is one.
pub empty_set : IsSet (set_of [])
empty_set =
    listed_set [] (record { stands = λ l. absurd (no_nth l.entry); alone = λ l. absurd (no_nth l.entry); pid_alone = λ n m p q r. absurd (no_nth n) })

-- ---- the entries of an accepted loop

module _ (reading : Reading) (bytes : List ℕ) (is_accepted : (loop_read reading bytes).outcome ≡ Ok tt) where
  abbrev entries : List Entry
  entries = entries_read (loop_read reading bytes)

  abbrev streams : List Stream
  streams = streams_of reading bytes

  fine : Taken reading bytes
  fine = taken reading bytes is_accepted

  are_entries : entries ≡ map entry_of streams
  are_entries = ap entries_read fine.is_read ∙ entries_read_lem streams

  record StreamOf (k : ℕ) (e : Entry) : Type 0 where
    inside : k < length streams
    is_entry : entry_of (stream_at streams k) ≡ e

  stream_of_lem : {k : ℕ} {e : Entry} → Nth entries k e → StreamOf k e
  stream_of_lem {k} {e} n =
      let w = nth_of_map entry_of streams (subst (λ (l : List Entry). Nth l k e) are_entries n) in
      record { inside = nth_inside w.1; is_entry = ap entry_of (nth_get_d no_stream w.1) ∙ w.2 }

  -- 6 was not given: a mark stands on a view
  right_mark : (pair : Bool) (t : ℕ) (r : Record) → is_layer r ≡ true → type_not_allowed (given pair t) t r ≡ false → type_not_allowed (is_view t) t r ≡ false
  right_mark pair t NoRecord l e = both_ways l refl
  right_mark pair t (Hierarchy h) l e = e
  right_mark pair t (Extension x) l e = e
  right_mark pair t Implied l e = ap not (both_left (is_view t) pair (not-false (given pair t) e))

  loop_stands : {k i : ℕ} {e : Entry} → LayerAt entries k i e → Stands i e
  loop_stands {k} {i} {e} l =
      let w = stream_of_lem l.entry in
      record {
        layer = l.layer;
        index = l.index;
        allowed =
            right_mark (pair_of streams) e.stream_type e.«record» l.layer
            (sym (ap (λ (x : Entry). type_not_allowed (given (pair_of streams) x.stream_type) x.stream_type x.«record») w.is_entry) ∙ fine.none 6 k (omega arith) w.inside);
        flags = sym (ap (λ (x : Entry). wrong_flags x.«record») w.is_entry) ∙ fine.none 7 k (omega arith) w.inside;
        list = sym (ap (λ (x : Entry). wrong_embedded x.stream_type x.«record» x.embedded) w.is_entry) ∙ fine.none 9 k (omega arith) w.inside;
      }

  -- 3 was not given
  never_again : (j k : ℕ) → j < k → k < length streams → pid_at streams j ≡ pid_at streams k → ⊥
  never_again j k h l same =
      both_ways (eq-eqb (pid_at streams j) (pid_at streams k) same) (none_at (λ m. eqb (pid_at streams m) (pid_at streams k)) k (fine.none 3 k (omega arith) l) j h)

  loop_pids : {j k : ℕ} {a b : Entry} → Nth entries j a → Nth entries k b → is_layer a.«record» ≡ true → is_layer b.«record» ≡ true → a.pid ≡ b.pid → j ≡ k
  loop_pids {j} {k} {a} {b} n m p q same = go (dec_lt j k) (dec_lt k j)
    where
      alike : pid_at streams j ≡ pid_at streams k
      alike = ap (λ (x : Entry). x.pid) (stream_of_lem n).is_entry ∙ same ∙ sym (ap (λ (x : Entry). x.pid) (stream_of_lem m).is_entry)

      go : Dec (j < k) → Dec (k < j) → j ≡ k
      go (yes h) d = absurd (never_again j k h (stream_of_lem m).inside alike)
      go (no h) (yes g) = absurd (never_again k j g (stream_of_lem n).inside (sym alike))
      go (no h) (no g) = omega arith

  loop_apart : Apart entries
  loop_apart = record { stands = loop_stands; alone = every_layer reading bytes is_accepted; pid_alone = loop_pids }

  -- THE SET OF AN ACCEPTED LOOP is one, and its layers are those of the loop's entries.
  pub read_is_set : IsSet (loop_set reading bytes).«set»
  unfolding loop_set
  read_is_set = listed_set entries loop_apart

  pub read_layers : (i : ℕ) (e : Entry) → Layer (loop_set reading bytes).«set» i e ↔ LayerOf entries i e
  unfolding loop_set
  read_layers = listed_layers entries loop_apart

  -- AS A FRESH READING WOULD: a set that was changed in any way, and has the layers of a loop, is the set of that loop.
  pub as_read : (s : LayerSet) → IsSet s → ((i : ℕ) (e : Entry) → Layer s i e ↔ LayerOf entries i e) → s ≡ (loop_set reading bytes).«set»
  as_read s is same =
      same_layers s (loop_set reading bytes).«set» is read_is_set
      (λ i e. ((λ l. (read_layers i e).1 ((same i e).0 l)), (λ l. (same i e).1 ((read_layers i e).0 l))))
