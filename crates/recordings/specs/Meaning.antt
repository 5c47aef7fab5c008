-- WHAT A RECORDING'S PACKETS GIVE, in the request's words: which packet stands before another on its PID, and what each packet gives after that one. The
-- laws that join this to what is computed are in proofs/Meant.antt, both ways.
-- Assumes nothing.
use Rattle.std.specs.Prelude.{ℕ, suc, ◌≤◌, ◌<◌, ◌≡◌, List, [], ◌∷◌, length, Err, Ok}
use Rattle.combinators.specs.Lists.{Nth}
use Rattle.framing.specs.Pieces.{Item, whole, broken, Cuts}
use Rattle.vocabulary.specs.declared.refusal.Refusal.{Refusal}
use Rattle.vocabulary.specs.Refusals.{number_of, place_of}
use Rattle.packets.specs.Reading.{packet_bytes}
use Rattle.packets.specs.Meaning.{LostSync, Skipped}
use Rattle.continuity.specs.declared.Step.{Step}
use Rattle.continuity.specs.Meaning.{Steps}
use Rattle.scanning.specs.declared.events.Event.{Event}
use Rattle.scanning.specs.declared.events.Event.TheVariants.{Nothing, Fault, NotRead, Unit}
use Rattle.scanning.specs.declared.events.Row.{Row}
use Rattle.scanning.specs.Events.{layers, layer_of, step_event}
use Rattle.unit_starts.specs.Finding.{row_in}
use Rattle.recordings.specs.Answer.{Recording}
use Rattle.recordings.specs.declared.RecordingFault.TheVariants.{Faulty, NotRead as Unread, TooManyRows}

module _ (table : List ℕ) (packets : List Item) where
  -- A packet that counts on a layer's PID: in sync, and not skipped whole.
  pub record Counts (k layer : ℕ) (packet : List ℕ) : Type 0 where
    pub rest : List ℕ
    pub stands : Nth packets k (whole packet rest)
    pub in_sync : LostSync packet → ⊥
    pub on : layer_of table packet ≡ layer
    pub read : Skipped packet → ⊥

  -- 'its predecessor on that PID': the last packet before it that counts. 'The first packet on a PID has no predecessor.'
  pub data Predecessor (k layer : ℕ) : List ℕ → Type 0 where
    none : ((j : ℕ) (q : List ℕ) → j < k → Counts j layer q → ⊥) → Predecessor k layer []
    last : {j : ℕ} {q : List ℕ} → j < k → Counts j layer q → ((i : ℕ) (p : List ℕ) → j < i → i < k → Counts i layer p → ⊥) → Predecessor k layer q

  -- What each packet gives.
  pub data Gives : ℕ → Event → Type 0 where
    -- 30: 'a last part of a packet', and 'lost sync', which is judged on every packet
    last_part : {k : ℕ} → Nth packets k broken → Gives k (Fault 30)
    lost_sync_lem : {k : ℕ} {packet rest : List ℕ} → Nth packets k (whole packet rest) → LostSync packet → Gives k (Fault 30)
    -- 'Packets of other PIDs: nothing but sync.'
    other_pid : {k : ℕ} {packet rest : List ℕ} → Nth packets k (whole packet rest) → (LostSync packet → ⊥) → layers ≤ layer_of table packet
        → Gives k Nothing
    -- on a layer's PID what its step after its predecessor says
    on_layer_lem : {k : ℕ} {packet rest before : List ℕ} {step : Step} → Nth packets k (whole packet rest) → (LostSync packet → ⊥)
        → layer_of table packet < layers → Predecessor k (layer_of table packet) before → Steps before packet step
        → Gives k (step_event (layer_of table packet) k packet step)

  -- 'A unit start yields a row': the rows of the packets from one on, in their order.
  pub data RowsFrom : ℕ → List Row → Type 0 where
    ended : {k : ℕ} → k ≡ length packets → RowsFrom k []
    without : {k : ℕ} {event : Event} {rows : List Row} → Gives k event → row_in event ≡ [] → RowsFrom (suc k) rows → RowsFrom k rows
    with_row : {k : ℕ} {row : Row} {rows : List Row} → Gives k (Unit row) → RowsFrom (suc k) rows → RowsFrom k (row ∷ rows)

  -- no packet is refused, and no PES header
  pub record Clear : Type 0 where
    pub no_fault : (number k : ℕ) → Gives k (Fault number) → ⊥

  pub record Readable : Type 0 where
    pub no_refusal : (refusal : Refusal) (k : ℕ) → Gives k (NotRead refusal) → ⊥

-- THE ANSWER for a recording that is cut into packets of 188 bytes, where there is room for so many rows: 'the lowest of 30 to 33 at its earliest packet,
-- then the PES numbers in the same way, then 13'.
pub data Answers (table bytes : List ℕ) (room : ℕ) : Recording → Type 0 where
  faulty : {packets : List Item} {fault : Refusal} → Cuts packet_bytes (λ head. 0) bytes packets
      → Gives table packets (place_of fault) (Fault (number_of fault))
      → ((number k : ℕ) → number < number_of fault → Gives table packets k (Fault number) → ⊥)
      → ((k : ℕ) → k < place_of fault → Gives table packets k (Fault (number_of fault)) → ⊥)
      → Answers table bytes room (Err (Faulty fault))
  not_read : {packets : List Item} {refusal : Refusal} {k : ℕ} → Cuts packet_bytes (λ head. 0) bytes packets → Clear table packets
      → Gives table packets k (NotRead refusal)
      → ((other : Refusal) (j : ℕ) → number_of other < number_of refusal → Gives table packets j (NotRead other) → ⊥)
      → ((j : ℕ) → j < k → Gives table packets j (NotRead refusal) → ⊥)
      → Answers table bytes room (Err (Unread refusal k))
  too_many : {packets : List Item} {rows : List Row} → Cuts packet_bytes (λ head. 0) bytes packets → Clear table packets → Readable table packets
      → RowsFrom table packets 0 rows → room < length rows → Answers table bytes room (Err TooManyRows)
  all_rows : {packets : List Item} {rows : List Row} → Cuts packet_bytes (λ head. 0) bytes packets → Clear table packets → Readable table packets
      → RowsFrom table packets 0 rows → length rows ≤ room → Answers table bytes room (Ok (length rows))
