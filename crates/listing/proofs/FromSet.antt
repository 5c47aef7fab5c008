-- THE TEXT FROM THE LAYER SET of a loop is the text from its table: each layer has in both the same PID, stream type and channel, and what is stored of it is its closure.
-- Assumes nothing.
use Rattle.std.specs.Prelude.{Err, Ok}
use Prim.Native.Nat.{ℕ, zero, suc, ◌<◌}
use mathlib.Core.Bool.{Bool, true, false, cond}
use mathlib.Core.List.{List, [], ◌++◌}
use mathlib.Core.Path.{◌≡◌, refl, sym, ap, ap₂, ◌∙◌}
use native.Mathlib.Omega.{arith}
use lib.ListN.{get_or}
use Rattle.sets.specs.Sets.{has, size}
use Rattle.vocabulary.specs.declared.HierarchyChannel.{HierarchyChannel}
use Rattle.vocabulary.specs.declared.refusal.Refusal.{Refusal}
use Rattle.vocabulary.specs.declared.stream_types.Reading.{Reading}
use Rattle.records.specs.Records.{channel_of}
use Rattle.loop_entries.specs.declared.Entry.{Entry}
use Rattle.es_loop.specs.Answer.{Outcome}
use Rattle.es_loop.specs.Reading.{loop_read}
use Rattle.closure.specs.Answer.{Closure}
use Rattle.closure.specs.Closures.{closure_of}
use Rattle.loop_layers.specs.declared.table.LayerTable.{LayerTable}
use Rattle.loop_layers.specs.Layers.{table_of}
use Rattle.loop_layers.specs.Closures.{entries_read}
use Rattle.loop_layers.proofs.Columns.{column_meant}
use Rattle.loop_layers.proofs.Meant.{layers_meant}
use Rattle.layer_set.specs.declared.«set».LayerSet.{LayerSet}
use Rattle.layer_set.specs.declared.reading.SetRead.{SetRead}
use Rattle.layer_set.specs.Sets.{entry_at, loop_set, closure_in}
use Rattle.layer_set.proofs.Meant.{target_answer}
use Rattle.layer_set.proofs.Read.{read_is_set, read_layers}
use Rattle.text.specs.Text.{ascii, texts}
use Rattle.listing.specs.Lines.{labelled, layer_line, line_at, layers_text, accepted_text, set_line, set_lines, set_text, refused_text, read_text, loop_text}

-- texts of the same pieces
same_texts : (piece other : ℕ → List ℕ) (n : ℕ) → ((i : ℕ) → i < n → piece i ≡ other i) → texts piece n ≡ texts other n
unfolding texts
same_texts piece other zero same = refl
same_texts piece other (suc n) same = ap₂ ◌++◌ (same_texts piece other n (λ i h. same i (omega arith))) (same n (omega arith))

-- ---- the two ways of the code

pub set_line_lem : (s : LayerSet) (i : ℕ) (channel : HierarchyChannel) (found : Closure) → has s.layers.present i ≡ true
    → channel ≡ channel_of (entry_at s.entries i).«record» → found ≡ closure_in s i
    → layer_line (record { 0 = i }) (entry_at s.entries i).pid (entry_at s.entries i).stream_type channel found ≡ set_line s i
unfolding set_line
set_line_lem s i channel found there is-channel is_found =
    ap₂ (λ (c : HierarchyChannel) (f : Closure). layer_line (record { 0 = i }) (entry_at s.entries i).pid (entry_at s.entries i).stream_type c f) is-channel is_found
    ∙ sym (rw there)

pub no_set_line : (s : LayerSet) (i : ℕ) → has s.layers.present i ≡ false → [] ≡ set_line s i
unfolding set_line
no_set_line s i gone = sym (rw gone)

-- ---- the set of an accepted loop

module _ (reading : Reading) (bytes : List ℕ) (is_accepted : (loop_read reading bytes).outcome ≡ Ok tt) where
  abbrev es : List Entry
  es = entries_read (loop_read reading bytes)

  abbrev table : LayerTable
  table = table_of es

  line_same : (i : ℕ) → i < 64 → set_line (loop_set reading bytes).«set» i ≡ line_at table i
  unfolding set_line line_at loop_set
  line_same i h = go (has table.layers.present i) refl
    where
      go : (b : Bool) → has table.layers.present i ≡ b
          → cond b
          (layer_line (record { 0 = i }) (entry_at (loop_set reading bytes).«set».entries i).pid (entry_at (loop_set reading bytes).«set».entries i).stream_type
          (channel_of (entry_at (loop_set reading bytes).«set».entries i).«record») (closure_in (loop_set reading bytes).«set» i))
          []
          ≡ cond b
          (layer_line (record { 0 = i }) (get_or table.pids i 0) (get_or table.stream_types i 0) (get_or table.channels i (record { 0 = 0 })) (closure_of table.layers i)) []
      go false e = refl
      go true e =
          let w = ((layers_meant es).present i).0 e in
          let same : entry_at (loop_set reading bytes).«set».entries i ≡ w.entry = ((read_layers reading bytes is_accepted i w.entry).1 w.layer).entry in
          ap₂ (λ (x : Entry) (f : Closure). layer_line (record { 0 = i }) x.pid x.stream_type (channel_of x.«record») f) same
          (target_answer (loop_set reading bytes).«set» (read_is_set reading bytes is_accepted) i)
          ∙ sym (ap₂ (λ (p t : ℕ). layer_line (record { 0 = i }) p t (get_or table.channels i (record { 0 = 0 })) (closure_of table.layers i))
          ((column_meant 0 (λ e. e.pid) es).layer i w.entry w.layer) ((column_meant 0 (λ e. e.stream_type) es).layer i w.entry w.layer)
          ∙ ap (λ (c : HierarchyChannel). layer_line (record { 0 = i }) w.entry.pid w.entry.stream_type c (closure_of table.layers i))
          ((column_meant (record { 0 = 0 }) (λ e. channel_of e.«record») es).layer i w.entry w.layer))

  pub text_same : set_text (loop_set reading bytes).«set» ≡ accepted_text table
  unfolding set_text set_lines accepted_text layers_text loop_set
  text_same =
      ap (λ (lines : List ℕ). labelled (ascii "accepted ") (size table.layers.present) ++ ascii "\n" ++ lines)
      (same_texts (set_line (loop_set reading bytes).«set») (line_at table) 64 line_same)

-- ---- the text of a loop, from what reading its set answered

module _ (reading : Reading) (bytes : List ℕ) (read : SetRead) (is_read : read ≡ loop_set reading bytes) where
  outcome_read : read.outcome ≡ (loop_read reading bytes).outcome
  unfolding loop_set
  outcome_read = ap (λ (r : SetRead). r.outcome) is_read

  pub accepted_text_lem : read.outcome ≡ Ok tt → set_text read.«set» ≡ loop_text reading bytes
  unfolding loop_text
  accepted_text_lem ok =
      let is_accepted : (loop_read reading bytes).outcome ≡ (Ok tt) = sym outcome_read ∙ ok in
      ap (λ (r : SetRead). set_text r.«set») is_read
      ∙ text_same reading bytes is_accepted
      ∙ ap (λ (o : Outcome). read_text o (table_of (entries_read (loop_read reading bytes)))) (sym is_accepted)

  pub refused_text_lem : (refusal : Refusal) → read.outcome ≡ Err refusal → refused_text refusal ≡ loop_text reading bytes
  unfolding loop_text
  refused_text_lem refusal is_refused = ap (λ (o : Outcome). read_text o (table_of (entries_read (loop_read reading bytes)))) (sym is_refused ∙ outcome_read)
