-- That there is room for each entry where there is room for all, and that bytes are the answer only where there is.
-- Assumes nothing.
use Rattle.std.specs.Prelude.{Err, Ok}
use Prim.Native.Nat.{ℕ, ◌+◌, ◌≤◌, ◌<◌}
use mathlib.Core.Path.{◌≡◌, refl, sym, ◌∙◌, ap, subst}
use mathlib.Core.Bool.{Bool, true, false, cond}
use mathlib.Core.List.{List}
use native.Mathlib.Omega.{arith}
use borrow.Author.Tests.{ltb-false}
use lib.Dec.{ltb}
use lib.ListN.{length, get_or, take, drop, length-append, take-append-drop}
use Rattle.combinators.specs.Lists.{gather_append, gather_next}
use Rattle.vocabulary.specs.declared.refusal.Refusal.TheVariants.{LoopTooLong, NoRoom}
use Rattle.loop_entries.specs.declared.Entry.{Entry}
use Rattle.loop_faults.specs.Conditions.{refusal_of}
use Rattle.loop_writer.specs.declared.weighing.Weighed.{Weighed}
use Rattle.loop_writer.specs.Answer.{Written}
use Rattle.loop_writer.specs.Layout.{entry_bytes, loop_bytes}
use Rattle.loop_writer.specs.Weighing.{decided_by}

pub piece_room : (entries : List Entry) (d : Entry) (i : ℕ) → i < length entries
    → length (loop_bytes (take i entries)) + length (entry_bytes (get_or entries i d)) ≤ length (loop_bytes entries)
piece_room entries d i inside =
    let before : List ℕ = loop_bytes (take i entries) in
    let here : List ℕ = entry_bytes (get_or entries i d) in
    let after : List ℕ = loop_bytes (drop (i + 1) entries) in
    let next = ap length (gather_next entries d entry_bytes i inside) in
    let all = ap length (sym (gather_append entry_bytes (take (i + 1) entries) (drop (i + 1) entries)) ∙ ap loop_bytes (take-append-drop (i + 1) entries)) in
    omega (arith, next, length-append before here, all, length-append (loop_bytes (take (i + 1) entries)) after)

-- what an answer says of the room
abbrev Roomy : Weighed → ℕ → Written → Type 0
Roomy weighed room (Ok n) = weighed.size ≤ room
Roomy weighed room (Err r) = Unit {0}

roomy : (weighed : Weighed) (room : ℕ) → Roomy weighed room (decided_by weighed room)
roomy weighed room = go (ltb 1008 weighed.size) (ltb weighed.fault.number 10) (ltb room weighed.size) refl
  where
    go : (long faulty short : Bool) → ltb room weighed.size ≡ short
        → Roomy weighed room
        (cond long (Err LoopTooLong) (cond faulty (Err (refusal_of weighed.fault.number weighed.fault.place)) (cond short (Err NoRoom) (Ok weighed.size))))
    go true faulty short e = tt
    go false true short e = tt
    go false false true e = tt
    go false false false e = ltb-false room weighed.size e

pub decided_room : (weighed : Weighed) (room n : ℕ) → decided_by weighed room ≡ Ok n → weighed.size ≤ room
decided_room weighed room n e = subst (Roomy weighed room) e (roomy weighed room)
