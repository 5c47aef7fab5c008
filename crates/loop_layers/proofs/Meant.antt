-- The laws that join the meaning to what is computed, both ways: of the layers, of their table, and of the answer to a target.
-- Assumes nothing.
use Prim.Native.Nat.{ℕ, ◌<◌}
use mathlib.Core.Path.{◌≡◌, refl, sym, ◌∙◌, ap, ap₂, subst}
use mathlib.Core.Bool.{Bool, true, ◌||◌}
use mathlib.Core.List.{List, map}
use native.Mathlib.Decide.{dec_lt}
use native.Mathlib.Omega.{arith}
use lib.ListN.{length, get_or, length-map, get_or-eq_default}
use lib.Pow.{pow_pos}
use lib.Seq.{ext_get_or, take_at}
use Rattle.combinators.specs.Bools.{either_right, same_test, both_ways}
use Rattle.combinators.specs.Members.{member, nth_member, member_nth}
use Rattle.sets.specs.Sets.{has}
use Rattle.sets.proofs.Laws.{has_none, has_within, same_members}
use Rattle.vocabulary.specs.declared.stream_types.Reading.{Reading}
use Rattle.vocabulary.specs.declared.refusal.Refusal.{Refusal}
use Rattle.records.specs.Records.{named, channel_of}
use Rattle.judging.proofs.Sets.{indices_in, indices_within, names_in}
use Rattle.loop_entries.specs.declared.Entry.{Entry}
use Rattle.loop_entries.specs.declared.Stream.{Stream}
use Rattle.es_loop.specs.declared.reader.LoopRead.{LoopRead}
use Rattle.loop_entries.specs.Entries.{stream_of, marked_streams, entry_of}
use Rattle.es_loop.specs.Reading.{refused_with, accepted, loop_read}
use Rattle.es_loop.specs.Meaning.{too_long_lem, refuses, accepts}
use Rattle.es_loop.specs.Meaning as Loop
use Rattle.es_loop.proofs.Meant.{answer_meant, answer_only}
use Rattle.closure.specs.declared.Layers.{Layers}
use Rattle.closure.specs.Answer.{Closure}
use Rattle.closure.specs.Closures.{closure_of}
use Rattle.closure.proofs.Meant.{closure_meant, closure_only}
use Rattle.loop_layers.specs.declared.table.LayerTable.{LayerTable}
use Rattle.loop_layers.specs.Layers.{place_of, present_in, column_of, embedded_in, layers_of, table_of}
use Rattle.loop_layers.specs.Closures.{entries_read, closure_in, loop_closure}
use Rattle.loop_layers.specs.Meaning.{HasLayer, Embeds, LayersOf, TableOf, Answers, loop_refused, loop_accepted}
use Rattle.loop_layers.proofs.Columns.{layer_stands, LayerOrNone, a_layer, no_layer_lem, layer_or_none, has_layer, column_meant, column_only}

-- THE LAYERS computed have the meaning.
module _ (entries : List Entry) where
  present_means : (i : ℕ) → has (present_in entries) i ≡ true → HasLayer entries i
  present_means i e =
      let h : i < 64 = has_within 64 (indices_within 0 (map place_of entries) (pow_pos 64)) e in
      let w = member_nth place_of i entries (sym (ap (λ (b : Bool). b || member i (map place_of entries)) (has_none i)) ∙ sym (indices_in 0 (map place_of entries) i h) ∙ e) in
      has_layer entries h w.2 w.3

  layer_present : (i : ℕ) → HasLayer entries i → has (present_in entries) i ≡ true
  layer_present i l =
      let at_place = l.layer.at_place in
      indices_in 0 (map place_of entries) i l.layer.six_bits
      ∙ either_right (has 0 i) (member i (map place_of entries))
      (subst (λ (n : ℕ). member n (map place_of entries) ≡ true) (layer_stands entries at_place) (nth_member place_of at_place.entry))

  abbrev embedded : List ℕ
  embedded = column_of 0 embedded_in entries

  embedded_means : (i j : ℕ) → has (get_or embedded i 0) j ≡ true → Embeds entries i j
  embedded_means i j e = inside (dec_lt i 64)
    where
      nothing : {set : ℕ} → has set j ≡ true → set ≡ 0 → Embeds entries i j
      nothing m z = both_ways m (ap (λ (s : ℕ). has s j) z ∙ has_none j)

      go : i < 64 → LayerOrNone entries i → Embeds entries i j
      go h (a_layer x l) =
          let names : has (embedded_in x) j ≡ true = sym (ap (λ (s : ℕ). has s j) ((column_meant 0 embedded_in entries).layer i x l)) ∙ e in
          let small : j < 64 = has_within 64 (indices_within 0 (named x.stream_type x.«record» x.embedded) (pow_pos 64)) names in
          record { entry = x; layer = l; listed = sym (names_in x.stream_type x.«record» x.embedded j small) ∙ names; six_bits = small }
      go h (no_layer_lem f g) = nothing e ((column_meant 0 embedded_in entries).no_layer i h f)

      inside : Dec (i < 64) → Embeds entries i j
      inside (yes h) = go h (layer_or_none entries i h)
      inside (no h) =
          let room : length embedded ≡ 64 = (column_meant 0 embedded_in entries).places in
          nothing e (get_or-eq_default embedded 0 (omega arith))

  embeds_embedded : (i j : ℕ) → Embeds entries i j → has (get_or embedded i 0) j ≡ true
  embeds_embedded i j b =
      ap (λ (s : ℕ). has s j) ((column_meant 0 embedded_in entries).layer i b.entry b.layer)
      ∙ names_in b.entry.stream_type b.entry.«record» b.entry.embedded j b.six_bits
      ∙ b.listed

  pub layers_meant : LayersOf entries (layers_of entries)
  layers_meant =
      record {
        present = λ i. (present_means i, layer_present i);
        embedded = λ i j. (embedded_means i j, embeds_embedded i j);
        places = (column_meant 0 embedded_in entries).places;
      }

  -- No other layers have it.
  pub layers_only : {layers : Layers} → LayersOf entries layers → layers ≡ layers_of entries
  layers_only {layers} m =
      ap₂ (λ (p : ℕ) (e : List ℕ). record { present = p; embedded = e })
      (same_members layers.present (present_in entries)
      (λ i. same_test (has layers.present i) (has (present_in entries) i) (λ t. layer_present i ((m.present i).0 t)) (λ t. (m.present i).1 (present_means i t))))
      (ext_get_or 0 layers.embedded embedded (m.places ∙ sym layers_meant.places)
      (λ i h. same_members (get_or layers.embedded i 0) (get_or embedded i 0)
      (λ j. same_test (has (get_or layers.embedded i 0) j) (has (get_or embedded i 0) j) (λ t. embeds_embedded i j ((m.embedded i j).0 t))
      (λ t. (m.embedded i j).1 (embedded_means i j t)))))

  -- THE TABLE, both ways.
  pub table_meant : TableOf entries (table_of entries)
  table_meant =
      record {
        layers = layers_meant;
        pids = column_meant 0 (λ e. e.pid) entries;
        stream_types = column_meant 0 (λ e. e.stream_type) entries;
        channels = column_meant (record { 0 = 0 }) (λ e. channel_of e.«record») entries;
      }

  pub table_only : {table : LayerTable} → TableOf entries table → table ≡ table_of entries
  table_only {table} m =
      rw (
        ← layers_only m.layers,
        ← column_only 0 (λ e. e.pid) entries m.pids,
        ← column_only 0 (λ e. e.stream_type) entries m.stream_types,
        ← column_only (record { 0 = 0 }) (λ e. channel_of e.«record») entries m.channels,
      )

-- ---- the entries of an accepted loop, out of their array

pub entries_read_lem : (streams : List Stream) → entries_read (accepted streams) ≡ map entry_of streams
entries_read_lem streams = take_at (map entry_of streams) _ (length streams) (length-map streams entry_of)

-- an answer of reading a loop is a refusal or every entry
data Cases (read : LoopRead) : Type 0 where
  is_refused : (refusal : Refusal) → read ≡ refused_with refusal → Cases read
  is_accepted : (streams : List Stream) → read ≡ accepted streams → Cases read

cases : {reading : Reading} {bytes : List ℕ} {read : LoopRead} → Loop.Answers reading bytes read → Cases read
cases (too_long_lem h) = is_refused _ refl
cases (refuses short c at-k lower earlier) = is_refused _ refl
cases {reading} (accepts {entries} short c none) = is_accepted (marked_streams (map (stream_of reading) entries)) refl

-- THE ANSWER TO A TARGET: what is computed is right,
module _ (reading : Reading) (bytes : List ℕ) (target : ℕ) where
  pub loop_answer_meant : Answers reading bytes target (loop_closure reading bytes target)
  loop_answer_meant = go (loop_read reading bytes) (answer_meant reading bytes) (cases (answer_meant reading bytes))
    where
      go : (read : LoopRead) → Loop.Answers reading bytes read → Cases read → Answers reading bytes target (closure_in read target)
      go read a (is_refused refusal e) =
          subst (λ (r : LoopRead). Answers reading bytes target (closure_in r target)) (sym e) (loop_refused (subst (Loop.Answers reading bytes) e a))
      go read a (is_accepted streams e) =
          subst (λ (r : LoopRead). Answers reading bytes target (closure_in r target)) (sym e)
          (subst (λ (l : List Entry). Answers reading bytes target (closure_of (layers_of l) target)) (sym (entries_read_lem streams))
          (loop_accepted streams (subst (Loop.Answers reading bytes) e a) (layers_meant (map entry_of streams)) (closure_meant (layers_of (map entry_of streams)) target)))

  -- and nothing else is.
  pub loop_answer_only : {answer : Closure} → Answers reading bytes target answer → answer ≡ loop_closure reading bytes target
  loop_answer_only (loop_refused a) = ap (λ (r : LoopRead). closure_in r target) (answer_only reading bytes a)
  loop_answer_only (loop_accepted streams {layers} a m t) =
      closure_only layers target t
      ∙ ap (λ (l : Layers). closure_of l target) (layers_only (map entry_of streams) m)
      ∙ ap (λ (l : List Entry). closure_of (layers_of l) target) (sym (entries_read_lem streams))
      ∙ ap (λ (r : LoopRead). closure_in r target) (answer_only reading bytes a)
