-- THE LAYER OF EACH PID, from the indices that are present and the PID of each: layer after layer is put at its PID.
-- Assumes nothing.
use Rattle.std.specs.Prelude.{ℕ, zero, suc, ◌<◌, ◌≡◌, true, cond, List, get_or, set, replicate}
use Rattle.sets.specs.Sets.{has}

-- the PIDs that there are: 13 bits
abbrev pub pids : ℕ
pids = 8192

-- the layers below an index, put over a table
abbrev pub tabled : List ℕ → ℕ → List ℕ → ℕ → List ℕ
tabled table present column zero = table
tabled table present column (suc n) =
    cond (has present n) (set (tabled table present column n) (get_or column n 0) n) (tabled table present column n)

abbrev pub layers_by_pid : ℕ → List ℕ → List ℕ
layers_by_pid present column = tabled (replicate pids 255) present column 64

-- WHAT STANDS AT A PID: the index of the layer with that PID, the highest where there are several, which a loop that is accepted has not; and what stood there
-- before where there is none.
pub record Has (present : ℕ) (column : List ℕ) (pid index : ℕ) : Type 0 where
  pub there : has present index ≡ true
  pub its_pid : get_or column index 0 ≡ pid

pub data Stands (table : List ℕ) (present : ℕ) (column : List ℕ) (pid below : ℕ) : ℕ → Type 0 where
  no_layer_lem : ((i : ℕ) → i < below → Has present column pid i → ⊥) → Stands table present column pid below (get_or table pid 0)
  of_layer_lem : {index : ℕ} → index < below → Has present column pid index → ((i : ℕ) → index < i → i < below → Has present column pid i → ⊥)
      → Stands table present column pid below index
