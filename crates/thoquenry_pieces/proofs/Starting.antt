-- The call that begins a state: its lists are those of the layers of the loop, or as they were.
-- Assumes nothing.
use Rattle.std.specs.Prelude.{Err, Ok}
use Prim.Native.Nat.{ℕ, ◌≤◌}
use mathlib.Core.Path.{◌≡◌, sym, ap, ap₂, ◌∙◌}
use mathlib.Core.Bool.{Bool, cond, ◌&&◌}
use mathlib.Core.List.{List}
use native.Mathlib.Omega.{arith}
use borrow.Author.Tests.{eq-eqb, ne_eqb}
use lib.Dec.{eqb}
use lib.ListN.{length, replicate}
use lib.Seq.{sets}
use Rattle.buffers.proofs.Laws.{sets_over}
use Rattle.sets.specs.Sets.{size}
use Rattle.vocabulary.specs.declared.refusal.Refusal.{Refusal}
use Rattle.es_loop.specs.Answer.{Outcome}
use Rattle.loop_layers.specs.declared.table.LayerTable.{LayerTable}
use Rattle.loop_layers.specs.declared.table.TableRead.{TableRead}
use Rattle.pid_layers.specs.PidLayers.{pids}
use Rattle.pid_layers.proofs.Meant.{blank_long, tabled_long}
use Rattle.recording_imports.specs.Rows.{loop_layers, pid_table_of}
use Rattle.feeding.specs.declared.Progress.{Progress}
use Rattle.piece_feeding.specs.Told.{starts_with, no_ends}
use Rattle.packet_states.specs.States.{state_bytes, state_numbers, counts_of}
use Rattle.c_answers.specs.Answers.{accepted, refused, not_a_call}
use Rattle.thoquenry_pieces.specs.Calls.{StateReply, state_reply, begun, begun_by, start_call}

-- the table of a loop has a byte for each PID
pub table_long : (table : LayerTable) → length (pid_table_of table) ≡ pids
table_long table = tabled_long (replicate pids 255) table.layers.present table.pids 64 ∙ blank_long

table_fits : {a b : ℕ} → a ≡ pids → b ≡ state_bytes → a ≤ b
table_fits p q = omega arith

pub begun_with : (table : LayerTable) (state : List ℕ) → length state ≡ state_bytes → {by_pid_lem new_state new_counts : List ℕ} {p : Progress} {answer : ℕ}
    → by_pid_lem ≡ pid_table_of table → new_state ≡ sets state 0 by_pid_lem → p ≡ starts_with → new_counts ≡ counts_of p 0 no_ends → answer ≡ accepted (size table.layers.present)
    → state_reply answer new_state new_counts ≡ begun table state
begun_with table state long b s p c a =
    let fits : length (pid_table_of table) ≤ length state = table_fits (table_long table) long in
    λ i. state_reply (a i) ((s ∙ ap (sets state 0) b ∙ sets_over (pid_table_of table) state fits) i) ((c ∙ ap (λ (x : Progress). counts_of x 0 no_ends) p) i)

module _ (bytes state counts : List ℕ) where
  abbrev answered : Bool → StateReply
  answered t = cond t (begun_by (loop_layers bytes).outcome (loop_layers bytes).table state counts) (state_reply not_a_call state counts)

  abbrev no_call : {answer : ℕ} → answer ≡ not_a_call → state_reply answer state counts ≡ state_reply not_a_call state counts
  no_call a = ap (λ (n : ℕ). state_reply n state counts) a

  pub state_wrong : (length state ≡ state_bytes → ⊥) → {answer : ℕ} → answer ≡ not_a_call → state_reply answer state counts ≡ start_call bytes state counts
  state_wrong f a = no_call a ∙ sym (ap (λ (t : Bool). answered (t && eqb (length counts) state_numbers)) (ne_eqb (length state) state_bytes f))

  pub counts_wrong : length state ≡ state_bytes → (length counts ≡ state_numbers → ⊥) → {answer : ℕ} → answer ≡ not_a_call
      → state_reply answer state counts ≡ start_call bytes state counts
  counts_wrong e f a =
      no_call a ∙ sym (ap₂ (λ (t u : Bool). answered (t && u)) (eq-eqb (length state) state_bytes e) (ne_eqb (length counts) state_numbers f))

  module _ (e : length state ≡ state_bytes) (f : length counts ≡ state_numbers) {read : TableRead} (r : read ≡ loop_layers bytes) where
    on : begun_by read.outcome read.table state counts ≡ start_call bytes state counts
    on =
        ap (λ (x : TableRead). begun_by x.outcome x.table state counts) r
        ∙ sym (ap₂ (λ (t u : Bool). answered (t && u)) (eq-eqb (length state) state_bytes e) (eq-eqb (length counts) state_numbers f))

    pub loop_begins : read.outcome ≡ Ok tt → {reply : StateReply} → reply ≡ begun read.table state → reply ≡ start_call bytes state counts
    loop_begins o b = b ∙ sym (ap (λ (x : Outcome). begun_by x read.table state counts) o) ∙ on

    pub loop_refuses : {refusal : Refusal} → read.outcome ≡ Err refusal → {answer : ℕ} → answer ≡ refused refusal
        → state_reply answer state counts ≡ start_call bytes state counts
    loop_refuses o a = ap (λ (n : ℕ). state_reply n state counts) a ∙ sym (ap (λ (x : Outcome). begun_by x read.table state counts) o) ∙ on
