-- However a recording is cut, what is found at the end of its pieces is what is found in the whole.
-- Assumes nothing.
use Prim.Native.Nat.{ℕ, zero, suc, ◌<◌}
use mathlib.Core.Path.{◌≡◌, refl, sym, ap, ◌∙◌}
use mathlib.Core.List.{List, [], ◌∷◌, ◌++◌}
use native.Mathlib.Omega.{arith}
use borrow.Author.Tests.{ne_eqb}
use lib.Dec.{eqb}
use lib.ListN.{length, take}
use mathlib.Core.Bool.{Bool, cond}
use Rattle.scanning.specs.declared.events.Event.TheVariants.{Fault}
use Rattle.unit_starts.specs.declared.Found.{Found}
use Rattle.unit_starts.specs.Finding.{noted, found_in}
use Rattle.recording_rows.specs.Columns.{Columns}
use Rattle.fed_packets.specs.Feeding.{Progress as Known, at_first, fed, fed_all, ended_by, ended, joined_up}
use Rattle.fed_packets.proofs.Cut.{however_cut}
use Rattle.feeding.specs.declared.Progress.{Progress}
use Rattle.feeding.specs.Pieces.{Ready, Feeds}
use Rattle.piece_feeding.specs.Told.{starts_with, no_ends, HasBeenFed, found_at_end}

-- before the first piece
abbrev pub from_found : Found → Progress
from_found found = record { part = 0; number = 0; found = found }

pub fed_nothing_yet : (table part kept : List ℕ) → HasBeenFed table [] starts_with part kept no_ends
fed_nothing_yet table part kept = refl

-- one piece more
pub fed_last : (table : List ℕ) (known : Known) (pieces : List (List ℕ)) (piece : List ℕ) → fed_all table known (pieces ++ piece ∷ []) ≡ fed table (fed_all table known pieces) piece
fed_last table known [] piece = refl
fed_last table known (first ∷ pieces) piece = fed_last table (fed table known first) pieces piece

pub fed_more : {table bytes : List ℕ} {room : ℕ} {p q : Progress} {part part' kept kept' ends ends' : List ℕ} {old new : Columns} (pieces : List (List ℕ))
    → HasBeenFed table pieces p part kept ends → Feeds table bytes room p part kept ends old q part' kept' ends' new
    → HasBeenFed table (pieces ++ bytes ∷ []) q part' kept' ends'
fed_more {table} {bytes} pieces before feeds =
    feeds.goes_on ∙ ap (λ (k : Known). fed table k bytes) before ∙ sym (fed_last table at_first pieces bytes)

-- a part is left over where its length is not 0
by_part : (p : Progress) (n : ℕ) (part : List ℕ) → n < length part → cond (eqb n 0) p.found (noted p.number (Fault 30) p.found) ≡ ended_by p.found p.number (take n part)
by_part p zero part h = refl
by_part p (suc n) [] h = absurd (omega arith)
by_part p (suc n) (b ∷ part) h = ap (λ (t : Bool). cond t p.found (noted p.number (Fault 30) p.found)) (ne_eqb (suc n) 0 (λ e. omega arith))

-- AT THE END
pub end_is_whole : (table : List ℕ) {p : Progress} {part kept ends : List ℕ} (pieces : List (List ℕ)) → HasBeenFed table pieces p part kept ends → Ready p part kept ends
    → found_at_end p ≡ found_in table (joined_up pieces)
end_is_whole table {p} {part} {kept} {ends} pieces been ready =
    by_part p p.part part (omega (arith, ready.long, ready.short)) ∙ ap ended been ∙ (however_cut table pieces).finds
