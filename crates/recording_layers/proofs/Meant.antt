-- The table of a loop that is accepted tells the layer of each PID, and no other table does.
-- Assumes nothing.
use Rattle.std.specs.Prelude.{Ok}
use Prim.Native.Nat.{ℕ, ◌<◌}
use mathlib.Core.Path.{◌≡◌, refl, sym, ◌∙◌, ap, subst}
use mathlib.Core.Bool.{false, not, true≢false}
use mathlib.Core.List.{List, map}
use mathlib.Core.Logic.{◌↔◌}
use native.Mathlib.Decide.{dec_lt}
use native.Mathlib.Omega.{arith}
use borrow.Author.Tests.{eq-eqb}
use lib.Dec.{eqb}
use lib.ListN.{length, get_or, replicate, length-replicate, get_or-replicate}
use lib.Seq.{ext_get_or}
use Rattle.combinators.specs.Below.{none_at}
use Rattle.combinators.specs.Lists.{Nth, nth_inside, nth_get_d, nth_of_map, nth_one}
use Rattle.framing.specs.Pieces.{Item, whole, broken, cut}
use Rattle.vocabulary.specs.declared.stream_types.Reading.{Reading}
use Rattle.vocabulary.specs.declared.stream_types.Reading.TheVariants.{Edition2015}
use Rattle.loop_entries.specs.declared.Entry.{Entry}
use Rattle.loop_entries.specs.declared.Stream.{Stream}
use Rattle.loop_entries.specs.Entries.{es_info_length, no_stream, stream_of, pair_of, marked_stream, streams_alone, streams_of, entry_of}
use Rattle.loop_faults.specs.Conditions.{pid_at, stream_at}
use Rattle.es_loop.specs.declared.reader.LoopRead.{LoopRead}
use Rattle.es_loop.specs.Reading.{accepted, loop_read}
use Rattle.es_loop.proofs.Verdicts.{Taken, taken}
use Rattle.es_loop.proofs.Meant.{answer_only}
use Rattle.records.specs.Records.{index_of}
use Rattle.loop_layers.specs.Layers.{table_of, present_in, column_of}
use Rattle.loop_layers.specs.Closures.{entries_read}
use Rattle.loop_layers.specs.Meaning.{LayerOf, HasLayer}
use Rattle.loop_layers.proofs.Columns.{column_meant}
use Rattle.loop_layers.proofs.Meant.{layers_meant, entries_read_lem}
use Rattle.loop_layers.proofs.Accepted.{index_small, every_layer}
use Rattle.pid_layers.specs.PidLayers.{pids, tabled, Has, Stands, no_layer_lem, of_layer_lem}
use Rattle.pid_layers.proofs.Meant.{blank_long, tabled_long, table_meant}
use Rattle.packets.specs.Reading.{in_header}
use Rattle.scanning.specs.Events.{layers, layer_of}
use Rattle.recording_layers.specs.Meaning.{by_pid, loop_pids, no_layer, LayerOfPid, ByPid, PidsOfLayers, OfEveryLoop}

module _ (reading : Reading) (bytes : List ℕ) (is_accepted : (loop_read reading bytes).outcome ≡ Ok tt) where
  abbrev entries : List Entry
  entries = entries_read (loop_read reading bytes)

  abbrev streams : List Stream
  streams = streams_of reading bytes

  fine : Taken reading bytes
  fine = taken reading bytes is_accepted

  are_entries : entries ≡ map entry_of streams
  are_entries = ap entries_read fine.is_read ∙ entries_read_lem streams

  -- the PID of an entry, as it was judged
  record Read (k : ℕ) (e : Entry) : Type 0 where
    inside : k < length streams
    same_pid : pid_at streams k ≡ e.pid
    small : e.pid < pids

  read : {k : ℕ} {e : Entry} → Nth entries k e → Read k e
  read {k} {e} n =
      let w = nth_of_map entry_of streams (subst (λ (l : List Entry). Nth l k e) are_entries n) in
      let v = nth_of_map (marked_stream (pair_of (streams_alone reading bytes))) (streams_alone reading bytes) w.1 in
      let u = nth_of_map (stream_of reading) (cut 5 es_info_length bytes) v.1 in
      let there : stream_at streams k ≡ w.0 = nth_get_d no_stream w.1 in
      record {
        inside = nth_inside w.1;
        same_pid = ap (λ (s : Stream). s.pid) there ∙ ap (λ (x : Entry). x.pid) w.2;
        small = subst (λ (p : ℕ). p < pids) (ap (λ (x : Entry). x.pid) w.2)
            (subst (λ (s : Stream). s.pid < pids) v.2
            (subst (λ (s : Stream). s.pid < pids) u.2
            (13-bits u.0 (λ b. true≢false (sym (ap (λ (s : Stream). not s.fits) (there ∙ sym v.2 ∙ ap (marked_stream (pair_of (streams_alone reading bytes))) (sym u.2 ∙ ap (stream_of reading) b))) ∙ fine.none 2 k (omega arith) (nth_inside w.1))))));
      }
    where
      13-bits : (x : Item) → (x ≡ broken → ⊥) → (stream_of reading x).pid < pids
      13-bits broken f = absurd (f refl)
      13-bits (whole head info) f = omega arith

  -- 3 was not given: no later entry has the PID
  not_again : {j k : ℕ} {a b : Entry} → j < k → Nth entries j a → Nth entries k b → a.pid ≡ b.pid → ⊥
  not_again {j} {k} h n m e =
      let s = read n in
      let t = read m in
      let unlike : eqb (pid_at streams j) (pid_at streams k) ≡ false =
      none_at (λ i. eqb (pid_at streams i) (pid_at streams k)) k (fine.none 3 k (omega arith) t.inside) j h in
      true≢false (sym (eq-eqb (pid_at streams j) (pid_at streams k) (s.same_pid ∙ e ∙ sym t.same_pid)) ∙ unlike)

  -- one entry of a PID
  one_place : {j k : ℕ} {a b : Entry} → Nth entries j a → Nth entries k b → a.pid ≡ b.pid → a ≡ b
  one_place {j} {k} {a} {b} n m e = go (dec_lt j k) (dec_lt k j)
    where
      go : Dec (j < k) → Dec (k < j) → a ≡ b
      go (yes h) d = absurd (not_again h n m e)
      go (no h) (yes g) = absurd (not_again g m n (sym e))
      go (no h) (no g) = nth_one n (subst (λ (i : ℕ). Nth entries i b) (omega arith) m)

  one_layer : (pid i j : ℕ) → LayerOfPid entries pid i → LayerOfPid entries pid j → i ≡ j
  one_layer pid i j l m =
      let same : l.entry ≡ m.entry = one_place l.layer.entry m.layer.entry (l.its_pid ∙ sym m.its_pid) in
      sym l.layer.index ∙ ap (λ (e : Entry). index_of e.stream_type e.«record») same ∙ m.layer.index

  in_bits : (pid index : ℕ) → LayerOfPid entries pid index → (pid < pids) × (index < layers)
  in_bits pid index l = (subst (λ (p : ℕ). p < pids) l.its_pid (read l.layer.entry).small, index_small reading bytes is_accepted l.layer)

  -- ---- the table

  abbrev present : ℕ
  present = present_in entries

  abbrev column : List ℕ
  column = column_of 0 (λ e. e.pid) entries

  has_layer : (pid index : ℕ) → LayerOfPid entries pid index → Has present column pid index
  has_layer pid index l =
      let whole : LayerOf entries index l.entry = every_layer reading bytes is_accepted l.layer in
      record {
        there = ((layers_meant entries).present index).1 (record { entry = l.entry; layer = whole });
        its_pid = (column_meant 0 (λ e. e.pid) entries).layer index l.entry whole ∙ l.its_pid;
      }

  -- 8 was not given: an index has one place in the column
  one_pid : (index pid other : ℕ) → LayerOfPid entries pid index → LayerOfPid entries other index → pid ≡ other
  one_pid index pid other l m = sym (has_layer pid index l).its_pid ∙ (has_layer other index m).its_pid

  layer_had : (pid index : ℕ) → Has present column pid index → LayerOfPid entries pid index
  layer_had pid index h =
      let l : HasLayer entries index = ((layers_meant entries).present index).0 h.there in
      record {
        place = l.layer.place;
        entry = l.entry;
        layer = l.layer.at_place;
        its_pid = sym ((column_meant 0 (λ e. e.pid) entries).layer index l.entry l.layer) ∙ h.its_pid;
      }

  -- what stands at a PID
  data At (pid value : ℕ) : Type 0 where
    a_layer : LayerOfPid entries pid value → At pid value
    no_layer_there : ((index : ℕ) → LayerOfPid entries pid index → ⊥) → value ≡ no_layer → At pid value

  -- in a table of any number of PIDs
  at_any : (many pid : ℕ) → pid < many → At pid (get_or (tabled (replicate many no_layer) present column 64) pid 0)
  at_any many pid h = go (table_meant (replicate many no_layer) present column pid (subst (λ (n : ℕ). pid < n) (sym (length-replicate many no_layer)) h) 64)
    where
      go : {value : ℕ} → Stands (replicate many no_layer) present column pid 64 value → At pid value
      go (no_layer_lem f) =
          no_layer_there (λ index l. f index (in_bits pid index l).1 (has_layer pid index l)) (get_or-replicate many pid no_layer 0 h)
      go (of_layer_lem {index = index} l had last) = a_layer (layer_had pid index had)

  abbrev table : List ℕ
  table = by_pid (table_of entries)

  at : (pid : ℕ) → pid < pids → At pid (get_or table pid 0)
  at pid h = at_any pids pid h

  pub by_pid_meant : ByPid entries table
  by_pid_meant =
      record {
        each_pid = tabled_long (replicate pids no_layer) present column 64 ∙ blank_long;
        of_layer = λ pid index l. found l (at pid (in_bits pid index l).0);
        of_none = λ pid h f. nothing f (at pid h);
      }
    where
      found : {pid index value : ℕ} → LayerOfPid entries pid index → At pid value → value ≡ index
      found {pid} {index} {value} l (a_layer m) = one_layer pid value index m l
      found {pid} {index} l (no_layer_there f e) = absurd (f index l)

      nothing : {pid value : ℕ} → ((index : ℕ) → LayerOfPid entries pid index → ⊥) → At pid value → value ≡ no_layer
      nothing {pid} {value} f (a_layer m) = absurd (f value m)
      nothing f (no_layer_there g e) = e

  -- AND NO OTHER TABLE
  pub by_pid_only : {other : List ℕ} → ByPid entries other → other ≡ table
  by_pid_only {other} m =
      ext_get_or 0 other table (m.each_pid ∙ sym by_pid_meant.each_pid) (λ pid h. let small = subst (λ (n : ℕ). pid < n) m.each_pid h in same pid small (at pid small))
    where
      same : (pid : ℕ) {value : ℕ} → pid < pids → At pid value → get_or other pid 0 ≡ value
      same pid {value} h (a_layer l) = m.of_layer pid value l
      same pid h (no_layer_there f e) = m.of_none pid h f ∙ sym e

  -- WHAT HOLDS of it
  exactly : (pid index : ℕ) → ((pid < pids) × (get_or table pid 0 ≡ index) × (index < layers)) ↔ LayerOfPid entries pid index
  exactly pid index = (λ p. to p.0 p.1 p.2, λ l. ((in_bits pid index l).0, by_pid_meant.of_layer pid index l, (in_bits pid index l).1))
    where
      by : {value : ℕ} → value ≡ index → index < layers → At pid value → LayerOfPid entries pid index
      by e h (a_layer l) = subst (LayerOfPid entries pid) e l
      by e h (no_layer_there f n) = absurd (omega arith)

      to : pid < pids → get_or table pid 0 ≡ index → index < layers → LayerOfPid entries pid index
      to small e h = by e h (at pid small)

  -- a packet's PID has 13 bits
  pid_small : (packet : List ℕ) → in_header "PID" packet < pids
  pid_small packet = omega arith

  of_packet : (packet : List ℕ) (index : ℕ) → ((layer_of table packet ≡ index) × (index < layers)) ↔ LayerOfPid entries (in_header "PID" packet) index
  of_packet packet index = (
    λ p. (exactly (in_header "PID" packet) index).0 (pid_small packet, p.0, p.1),
    λ l. let p = (exactly (in_header "PID" packet) index).1 l in (p.1, p.2),
  )

  pub pids_of_layers : PidsOfLayers entries table
  pids_of_layers =
      record {
        by_pid = by_pid_meant;
        one_layer = one_layer;
        one_pid = one_pid;
        in_bits = in_bits;
        exactly = exactly;
        of_packet = of_packet;
        same_layer = λ packet other h. (
          λ e. one_pid (layer_of table packet) (in_header "PID" other) (in_header "PID" packet) ((of_packet other (layer_of table packet)).0 (e, h)) ((of_packet packet (layer_of table packet)).0 (refl, h)),
          λ e. ap (λ (p : ℕ). get_or table p 0) e,
        );
      }

-- ---- THE STATEMENT

pub layer_pids : OfEveryLoop
layer_pids bytes streams a =
    let is_read : accepted streams ≡ loop_read Edition2015 bytes = answer_only Edition2015 bytes a in
    let is_accepted : (loop_read Edition2015 bytes).outcome ≡ (Ok tt) = sym (ap (λ (r : LoopRead). r.outcome) is_read) in
    let same : entries_read (loop_read Edition2015 bytes) ≡ map entry_of streams = sym (ap entries_read is_read) ∙ entries_read_lem streams in
    record {
      holds = subst (λ (es : List Entry). PidsOfLayers es (loop_pids bytes)) same (pids_of_layers Edition2015 bytes is_accepted);
      alone = λ table m. by_pid_only Edition2015 bytes is_accepted (subst (λ (es : List Entry). ByPid es table) (sym same) m);
    }
