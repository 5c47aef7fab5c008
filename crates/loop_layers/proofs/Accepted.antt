-- What holds of the layers of an accepted loop, because the refusals were not given: an index has one layer (8), and a layer lists lower
-- indices alone (9). So nothing that its entries say is lost on the way to its closures.
-- Assumes nothing.
use Rattle.std.specs.Prelude.{Ok}
use Prim.Native.Nat.{ℕ, ◌<◌}
use mathlib.Core.Path.{◌≡◌, sym, ◌∙◌, ap, ap₂, subst}
use mathlib.Core.Bool.{Bool, true, false, cond, ◌&&◌, true≢false}
use mathlib.Core.List.{List, [], ◌∷◌, ◌++◌, map}
use mathlib.Core.Logic.{◌↔◌}
use native.Mathlib.Omega.{arith}
use borrow.Author.Tests.{eq-eqb, leb-false, lt-ltb}
use lib.Dec.{eqb, leb, ltb}
use lib.ListN.{length, get_or, take}
use Rattle.combinators.specs.Below.{none_at}
use Rattle.combinators.specs.Bools.{neither_left, either_way}
use Rattle.combinators.specs.Lists.{Nth, nth_inside, nth_get_d, nth_of_map, gather}
use Rattle.combinators.specs.Members.{member, member_which}
use Rattle.framing.specs.Pieces.{Item, whole, broken, cut}
use Rattle.vocabulary.specs.declared.stream_types.Reading.{Reading}
use Rattle.vocabulary.specs.declared.stream_types.Reading.TheVariants.{Edition2009, Edition2015}
use Rattle.vocabulary.specs.StreamTypes.{known}
use Rattle.hierarchy.specs.Hierarchy.{hierarchy_of}
use Rattle.extension.specs.Extension.{extension_of, embedded_of}
use Rattle.descriptors.specs.Looking.{Kind, does_not_fit, skipped, wrong_length, hierarchy, extension, tag4_kind, tag63_kind, kind_of, Held, held_in, first_record, seen_of, nothing_seen}
use Rattle.descriptor_heads.specs.Head.{descriptor_tag, descriptor_length}
use Rattle.records.specs.declared.Record.{Record}
use Rattle.records.specs.declared.Record.TheVariants.{NoRecord, Hierarchy, Extension, Implied}
use Rattle.records.specs.Records.{is_second_view, index_of, named}
use Rattle.implied.specs.Rule.{given}
use Rattle.implied.specs.Marking.{with_mark, marked_record}
use Rattle.judging.specs.Judging.{same_index, wrong_at, wrong_embedded}
use Rattle.loop_entries.specs.declared.Entry.{Entry}
use Rattle.loop_entries.specs.declared.Stream.{Stream}
use Rattle.loop_entries.specs.Entries.{stream_type, es_info_length, no_stream, stream_of, pair_of, marked_stream, streams_alone, streams_of, entry_of}
use Rattle.loop_faults.specs.Conditions.{stream_at}
use Rattle.es_loop.specs.Reading.{loop_read}
use Rattle.es_loop.proofs.Verdicts.{Taken, taken}
use Rattle.closure.specs.Meaning.{Names}
use Rattle.loop_layers.specs.Layers.{layers_of}
use Rattle.loop_layers.specs.Closures.{entries_read}
use Rattle.loop_layers.specs.Meaning.{LayerAt, LayerOf}
use Rattle.loop_layers.proofs.Meant.{layers_meant, entries_read_lem}

-- ---- a layer index that was read has six bits

-- the index in a descriptor, if it has one
abbrev SixBits : Kind → Type 0
SixBits does_not_fit = Unit {0}
SixBits skipped = Unit {0}
SixBits wrong_length = Unit {0}
SixBits (hierarchy h) = h.layer_index.0 < 64
SixBits (extension x layers) = x.layer_index.0 < 64

hierarchy_index : (reading : Reading) (payload : List ℕ) → (hierarchy_of reading payload).layer_index.0 < 64
hierarchy_index Edition2009 payload = omega arith
hierarchy_index Edition2015 payload = omega arith

extension_index : (payload : List ℕ) → (extension_of payload).layer_index.0 < 64
extension_index payload = omega arith

kind_index : (reading : Reading) (x : Item) → SixBits (kind_of reading x)
kind_index reading broken = tt
kind_index reading (whole head payload) =
    either_way SixBits (eqb (descriptor_tag head) 4) (tag4_kind reading payload) (cond (eqb (descriptor_tag head) 63) (tag63_kind reading payload) skipped)
    (either_way SixBits (eqb (length payload) 4) (hierarchy (hierarchy_of reading payload)) wrong_length (hierarchy_index reading payload) tt)
    (either_way SixBits (eqb (descriptor_tag head) 63) (tag63_kind reading payload) skipped (tag63 reading) tt)
  where
    tag63 : (r : Reading) → SixBits (tag63_kind r payload)
    tag63 Edition2009 = tt
    tag63 Edition2015 =
        either_way SixBits (ltb 0 (length payload) && eqb (get_or payload 0 0) 0x06) _ skipped
        (either_way SixBits (eqb (length payload) _) (extension (extension_of payload) (embedded_of payload)) wrong_length (extension_index payload) tt)
        tt

first_index : (t : ℕ) (reading : Reading) (items : List Item) → index_of t (first_record (gather held_in (map (kind_of reading) items))) < 64
first_index t reading [] = omega arith
first_index t reading (x ∷ xs) = go (kind_of reading x) (kind_index reading x) (first_index t reading xs)
  where
    later : List Held
    later = gather held_in (map (kind_of reading) xs)

    go : (k : Kind) → SixBits k → index_of t (first_record later) < 64 → index_of t (first_record (held_in k ++ later)) < 64
    go does_not_fit s l = l
    go skipped s l = l
    go wrong_length s l = l
    go (hierarchy h) s l = s
    go (extension e layers) s l = s

stream_index : (t : ℕ) (reading : Reading) (x : Item) → index_of t (stream_of reading x).seen.«record» < 64
stream_index t reading broken = omega arith
stream_index t reading (whole head info) = go (known reading (stream_type head))
  where
    go : (b : Bool) → index_of t (cond b (seen_of reading info) nothing_seen).«record» < 64
    go true = first_index t reading (cut 2 descriptor_length info)
    go false = omega arith

-- and so has an implied one
marked_index : (pair : Bool) (t : ℕ) (r : Record) → index_of t r < 64 → index_of t (marked_record pair t r) < 64
marked_index pair t r small = by_mark (given pair t)
  where
    implied_small : (second : Bool) → cond second 1 0 < 64
    implied_small true = omega arith
    implied_small false = omega arith

    with_mark_lem : (r : Record) → index_of t r < 64 → index_of t (with_mark r) < 64
    with_mark_lem NoRecord s = implied_small (is_second_view t)
    with_mark_lem (Hierarchy h) s = s
    with_mark_lem (Extension x) s = s
    with_mark_lem Implied s = s

    by_mark : (b : Bool) → index_of t (cond b (with_mark r) r) < 64
    by_mark true = with_mark_lem r small
    by_mark false = small

-- ---- an accepted loop: no number applies at any entry

module _ (reading : Reading) (bytes : List ℕ) (is_accepted : (loop_read reading bytes).outcome ≡ Ok tt) where
  abbrev pub entries : List Entry
  entries = entries_read (loop_read reading bytes)

  abbrev streams : List Stream
  streams = streams_of reading bytes

  fine : Taken reading bytes
  fine = taken reading bytes is_accepted

  are_entries : entries ≡ map entry_of streams
  are_entries = ap entries_read fine.is_read ∙ entries_read_lem streams

  abbrev pair : Bool
  pair = pair_of (streams_alone reading bytes)

  -- the stream of an entry
  record StreamOf (k : ℕ) (e : Entry) : Type 0 where
    item : Item
    inside : k < length streams
    at_place : stream_at streams k ≡ marked_stream pair (stream_of reading item)
    is_entry : entry_of (marked_stream pair (stream_of reading item)) ≡ e

  stream_of_lem : {k : ℕ} {e : Entry} → Nth entries k e → StreamOf k e
  stream_of_lem {k} {e} n =
      let w = nth_of_map entry_of streams (subst (λ (l : List Entry). Nth l k e) are_entries n) in
      let v = nth_of_map (marked_stream pair) (streams_alone reading bytes) w.1 in
      let u = nth_of_map (stream_of reading) (cut 5 es_info_length bytes) v.1 in
      let is_marked : marked_stream pair (stream_of reading u.0) ≡ w.0 = ap (marked_stream pair) u.2 ∙ v.2 in
      record {
        item = u.0;
        inside = nth_inside w.1;
        at_place = nth_get_d no_stream w.1 ∙ sym is_marked;
        is_entry = ap entry_of is_marked ∙ w.2;
      }

  entry_at_lem : {k : ℕ} {e : Entry} → StreamOf k e → entry_of (stream_at streams k) ≡ e
  entry_at_lem s = ap entry_of s.at_place ∙ s.is_entry

  -- an index is one of six bits
  pub index_small : {k i : ℕ} {e : Entry} → LayerAt entries k i e → i < 64
  index_small l =
      let s = stream_of_lem l.entry in
      let alone : Stream = stream_of reading s.item in
      let same = ap (λ (x : Entry). index_of x.stream_type x.«record») s.is_entry ∙ l.index in
      subst (λ (n : ℕ). n < 64) same
      (marked_index pair alone.stream_type alone.seen.«record» (stream_index alone.stream_type reading s.item))

  abbrev same_entries : Entry → Entry → Bool
  same_entries a b = same_index a.stream_type a.«record» b.stream_type b.«record»

  -- 8 was not given: no later layer has the index
  not_again : {j k i : ℕ} {a b : Entry} → j < k → LayerAt entries j i a → LayerAt entries k i b → ⊥
  not_again {j} {k} {i} {a} {b} h l m =
      let s = stream_of_lem l.entry in
      let t = stream_of_lem m.entry in
      let unlike : same_entries (entry_of (stream_at streams j)) (entry_of (stream_at streams k)) ≡ false =
      none_at (λ n. same_entries (entry_of (stream_at streams n)) (entry_of (stream_at streams k))) k (fine.none 8 k (omega arith) t.inside) j h in
      let like : same_entries a b ≡ true =
      ap₂ (λ (x y : Bool). x && y && eqb (index_of a.stream_type a.«record») (index_of b.stream_type b.«record»)) l.layer m.layer
      ∙ eq-eqb (index_of a.stream_type a.«record») (index_of b.stream_type b.«record») (l.index ∙ sym m.index) in
      true≢false (sym like ∙ sym (ap₂ same_entries (entry_at_lem s) (entry_at_lem t)) ∙ unlike)

  -- ONE LAYER of an index: each entry that is a layer is the layer of its index.
  pub every_layer : {k i : ℕ} {e : Entry} → LayerAt entries k i e → LayerOf entries i e
  every_layer {k} l = record { six_bits = index_small l; place = k; at_place = l; last = λ j x h m. not_again h l m }

  -- 9 was not given: A LAYER LISTS LOWER INDICES ALONE.
  pub listed_lower : {k i : ℕ} {e : Entry} (j : ℕ) → LayerAt entries k i e → member j (named e.stream_type e.«record» e.embedded) ≡ true → j < i
  listed_lower {k} {i} {e} j l m =
      let s = stream_of_lem l.entry in
      let right : wrong_embedded e.stream_type e.«record» e.embedded ≡ false =
      sym (ap (λ (x : Entry). wrong_embedded x.stream_type x.«record» x.embedded) (entry_at_lem s)) ∙ fine.none 9 k (omega arith) s.inside in
      let indices : List ℕ = named e.stream_type e.«record» e.embedded in
      let own : ℕ = index_of e.stream_type e.«record» in
      let w = member_which j indices m in
      let fine_there = none_at (wrong_at own indices) (length indices) right w.0 w.1 in
      let below : get_or indices w.0 0 < own =
      leb-false own (get_or indices w.0 0) (neither_left (leb own (get_or indices w.0 0)) (member (get_or indices w.0 0) (take w.0 indices)) fine_there) in
      omega (arith, l.index, w.2)

  -- Layer i lists j, as the entries of the loop say it.
  pub record Lists (i j : ℕ) : Type 0 where
    pub place : ℕ
    pub entry : Entry
    pub layer : LayerAt entries place i entry
    pub listed : member j (named entry.stream_type entry.«record» entry.embedded) ≡ true

  -- NOTHING IS LOST: the step by which a target rests on more, `Names`, asks that j is below i, and that is so of all that is listed.
  pub names_lists : (i j : ℕ) → Names (layers_of entries) i j ↔ Lists i j
  names_lists i j = (to, from)
    where
      to : Names (layers_of entries) i j → Lists i j
      to n =
          let b = ((layers_meant entries).embedded i j).0 n.embedded in
          record { place = b.layer.place; entry = b.entry; layer = b.layer.at_place; listed = b.listed }

      from : Lists i j → Names (layers_of entries) i j
      from l =
          let lower : j < i = listed_lower j l.layer l.listed in
          let small : i < 64 = index_small l.layer in
          let whole = every_layer l.layer in
          record {
            in_loop = ap₂ ◌&&◌ (lt-ltb i 64 small) (((layers_meant entries).present i).1 (record { entry = l.entry; layer = whole }));
            embedded = ((layers_meant entries).embedded i j).1 (record { entry = l.entry; layer = whole; listed = l.listed; six_bits = omega arith });
            lower = lower;
          }
