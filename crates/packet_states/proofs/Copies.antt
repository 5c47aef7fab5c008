-- Lists copied, place after place: what an array and a list of numbers then hold.
-- Assumes nothing.
use Prim.Native.Nat.{ℕ, ◌+◌, ◌-◌, ◌≤◌, ◌<◌}
use mathlib.Core.Path.{◌≡◌, sym, ap, ◌∙◌}
use mathlib.Core.List.{List, ◌++◌, append-nil}
use native.Mathlib.Omega.{arith}
use native.Mathlib.Nat.{zero-add}
use native.Mathlib.Numerals.{add-one}
use lib.ListN.{length, get_or, set, take, replicate, length-append, drop_of_length-le}
use lib.Seq.{sets, take_all, take-suc, length-take-le}
use Rattle.combinators.specs.Padding.{pad_to, store_pad_to}
use Rattle.buffers.proofs.Laws.{one_more, sets_append, sets_over}

-- an array filled from the front, one number more
pub filled_next : (size : ℕ) (list : List ℕ) (i : ℕ) → i < length list → i < size
    → set (pad_to size 0 (take i list)) i (get_or list i 0) ≡ pad_to size 0 (take (i + 1) list)
filled_next size list i h k =
    store_pad_to size 0 (get_or list i 0) (take i list) i (length-take-le i list (omega arith)) k ∙ rw (add-one i, take-suc list i 0 h)

-- and full
pub filled : (size : ℕ) (list : List ℕ) → size ≤ length list → pad_to size 0 (take size list) ≡ take size list
filled size list h =
    let none : size - length (take size list) ≡ 0 = omega (arith, length-take-le size list h) in
    ap (λ (n : ℕ). take size list ++ replicate n 0) none ∙ append-nil (take size list)

-- a list stored from the front on, one number more
pub front_next : (old list : List ℕ) (i : ℕ) → i < length list → set (sets old 0 (take i list)) i (get_or list i 0) ≡ sets old 0 (take (i + 1) list)
front_next old list i h = ap (λ (n : ℕ). set (sets old 0 (take i list)) n (get_or list i 0)) (sym (zero-add i)) ∙ one_more old 0 list i 0 h

-- all of it
pub front_all : (old list : List ℕ) (i : ℕ) → length list ≤ i → sets old 0 (take i list) ≡ sets old 0 list
front_all old list i h = ap (sets old 0) (take_all i list h)

-- a list that was stored over another of its length
pub stored_over : (list old : List ℕ) → length list ≡ length old → sets old 0 list ≡ list
stored_over list old e =
    sets_over list old (omega arith) ∙ ap (λ (l : List ℕ). list ++ l) (drop_of_length-le old {i = length list} (omega arith)) ∙ append-nil list

-- two lists, one stored behind the other, that fill what they are stored into
pub both_stored : (first second old : List ℕ) {between new : List ℕ} → length first ≡ 64 → length old ≡ 64 + length second → between ≡ sets old 0 first
    → new ≡ sets between 64 second → new ≡ first ++ second
both_stored first second old a b p q =
    q
    ∙ ap (λ (l : List ℕ). sets l 64 second) p
    ∙ ap (λ (n : ℕ). sets (sets old 0 first) n second) (sym (zero-add (length first) ∙ a))
    ∙ sets_append old 0 first second
    ∙ stored_over (first ++ second) old (length-append first second ∙ omega arith)
