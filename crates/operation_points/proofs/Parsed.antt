-- Reading by parts, and bytes that are these parts, are one: `walk_parses` and `parses_walk`, for every list of parts.
-- Assumes nothing.
use Prim.Native.Nat.{ℕ, ◌+◌, ◌-◌, ◌*◌, ◌≤◌}
use mathlib.Core.Bool.{Bool, true, false, cond}
use mathlib.Core.List.{List, [], ◌∷◌, ◌++◌, append_assoc, append-nil}
use mathlib.Core.Path.{◌≡◌, refl, sym, ap, ap₂, ◌∙◌, subst}
use native.Mathlib.Nat.{add-zero, add_assoc}
use native.Mathlib.Omega.{arith}
use lib.ListN.{length, take, drop, length-append, length-drop}
use lib.Seq.{take-add, drop-drop, drop_at, length-take-le}
use Rattle.syntax.specs.Table.{Table, bytes}
use Rattle.syntax.specs.Named.{Given, given_to, by_names, read_by}
use Rattle.syntax.proofs.Laws.{read_take, read_before}
use Rattle.operation_points.specs.Parts.{Part, lines, repeated, when, Walked, walked, Parses, nothing, lines_then, repeated_then, when_there, when_not}

-- ---- a walk goes forward

pub walk_grows : (parts : List Part) (given : Given) (at : ℕ) (l : List ℕ) → at ≤ (walked parts given at l).end
walk_grows [] given at l = omega arith
walk_grows (lines t ∷ parts) given at l = omega (arith, walk_grows parts (given ++ read_by t (drop at l)) (at + bytes t) l)
walk_grows (repeated name t ∷ parts) given at l =
    let more : at ≤ at + given_to name given * bytes t = omega arith in
    native.Mathlib.Nat.le_trans more (walk_grows parts given (at + given_to name given * bytes t) l)
walk_grows (when test t ∷ parts) given at l =
    let more : at ≤ at + cond (test given) (bytes t) 0 = omega arith in
    native.Mathlib.Nat.le_trans more
    (walk_grows parts (given ++ cond (test given) (read_by t (drop at l)) []) (at + cond (test given) (bytes t) 0) l)

-- ---- what a walk within the bytes has passed is the parts

module _ (l : List ℕ) where
  -- the bytes from a place to another, in two
  passed : (at size end : ℕ) → at + size ≤ end → take (end - at) (drop at l) ≡ take size (drop at l) ++ take (end - (at + size)) (drop (at + size) l)
  passed at size end h =
      let e : end - at ≡ size + (end - (at + size)) = omega arith in
      ap (λ (n : ℕ). take n (drop at l)) e
      ∙ take-add size (end - (at + size)) (drop at l)
      ∙ ap (λ (m : List ℕ). take size (drop at l) ++ take (end - (at + size)) m) (drop-drop size at l)

  long : (at size end : ℕ) → at + size ≤ end → end ≤ length l → length (take size (drop at l)) ≡ size
  long at size end h k = length-take-le size (drop at l) (omega (arith, length-drop at l))

  read_there : (t : Table) (at : ℕ) → read_by t (take (bytes t) (drop at l)) ≡ read_by t (drop at l)
  read_there t at = ap (by_names t) (read_take t (drop at l))

  pub walk_parses : (parts : List Part) (given : Given) (at : ℕ) → (walked parts given at l).end ≤ length l
      → Parses parts given (take ((walked parts given at l).end - at) (drop at l)) (walked parts given at l).given
  walk_parses [] given at h =
      let none : at - at ≡ 0 = omega arith in
      subst (λ (n : ℕ). Parses [] given (take n (drop at l)) given) (sym none) nothing
  walk_parses (lines t ∷ parts) given at h =
      let grows = walk_grows parts (given ++ read_by t (drop at l)) (at + bytes t) l in
      subst (λ (m : List ℕ). Parses (lines t ∷ parts) given m (walked parts (given ++ read_by t (drop at l)) (at + bytes t) l).given)
      (sym (passed at (bytes t) (walked parts (given ++ read_by t (drop at l)) (at + bytes t) l).end grows))
      (lines_then (take (bytes t) (drop at l)) (take ((walked parts (given ++ read_by t (drop at l)) (at + bytes t) l).end - (at + bytes t)) (drop (at + bytes t) l))
      (long at (bytes t) (walked parts (given ++ read_by t (drop at l)) (at + bytes t) l).end grows h)
      (subst (λ (g : Given). Parses parts (given ++ g)
      (take ((walked parts (given ++ read_by t (drop at l)) (at + bytes t) l).end - (at + bytes t)) (drop (at + bytes t) l))
      (walked parts (given ++ read_by t (drop at l)) (at + bytes t) l).given)
      (sym (read_there t at)) (walk_parses parts (given ++ read_by t (drop at l)) (at + bytes t) h)))
  walk_parses (repeated name t ∷ parts) given at h =
      let grows = walk_grows parts given (at + given_to name given * bytes t) l in
      subst (λ (m : List ℕ). Parses (repeated name t ∷ parts) given m (walked parts given (at + given_to name given * bytes t) l).given)
      (sym (passed at (given_to name given * bytes t) (walked parts given (at + given_to name given * bytes t) l).end grows))
      (repeated_then (take (given_to name given * bytes t) (drop at l))
      (take ((walked parts given (at + given_to name given * bytes t) l).end - (at + given_to name given * bytes t)) (drop (at + given_to name given * bytes t) l))
      (long at (given_to name given * bytes t) (walked parts given (at + given_to name given * bytes t) l).end grows h)
      (walk_parses parts given (at + given_to name given * bytes t) h))
  walk_parses (when test t ∷ parts) given at h =
      go (test given) refl (walk_parses parts (given ++ read_by t (drop at l)) (at + bytes t)) (walk_parses parts given at) h
    where
      same_walk : walked parts (given ++ []) (at + 0) l ≡ walked parts given at l
      same_walk = ap₂ (λ (g : Given) (n : ℕ). walked parts g n l) (append-nil given) (add-zero at)

      go : (b : Bool) → test given ≡ b
          → ((walked parts (given ++ read_by t (drop at l)) (at + bytes t) l).end ≤ length l
          → Parses parts (given ++ read_by t (drop at l))
          (take ((walked parts (given ++ read_by t (drop at l)) (at + bytes t) l).end - (at + bytes t)) (drop (at + bytes t) l))
          (walked parts (given ++ read_by t (drop at l)) (at + bytes t) l).given)
          → ((walked parts given at l).end ≤ length l
          → Parses parts given (take ((walked parts given at l).end - at) (drop at l)) (walked parts given at l).given)
          → (walked parts (given ++ cond b (read_by t (drop at l)) []) (at + cond b (bytes t) 0) l).end ≤ length l
          → Parses (when test t ∷ parts) given
          (take ((walked parts (given ++ cond b (read_by t (drop at l)) []) (at + cond b (bytes t) 0) l).end - at) (drop at l))
          (walked parts (given ++ cond b (read_by t (drop at l)) []) (at + cond b (bytes t) 0) l).given
      go true e there absent k =
          let grows = walk_grows parts (given ++ read_by t (drop at l)) (at + bytes t) l in
          subst (λ (m : List ℕ). Parses (when test t ∷ parts) given m (walked parts (given ++ read_by t (drop at l)) (at + bytes t) l).given)
          (sym (passed at (bytes t) (walked parts (given ++ read_by t (drop at l)) (at + bytes t) l).end grows))
          (when_there (take (bytes t) (drop at l)) (take ((walked parts (given ++ read_by t (drop at l)) (at + bytes t) l).end - (at + bytes t)) (drop (at + bytes t) l)) e
          (long at (bytes t) (walked parts (given ++ read_by t (drop at l)) (at + bytes t) l).end grows k)
          (subst (λ (g : Given). Parses parts (given ++ g)
          (take ((walked parts (given ++ read_by t (drop at l)) (at + bytes t) l).end - (at + bytes t)) (drop (at + bytes t) l))
          (walked parts (given ++ read_by t (drop at l)) (at + bytes t) l).given)
          (sym (read_there t at)) (there k)))
      go false e there absent k =
          when_not e
          (subst (λ (w : Walked). Parses parts given (take (w.end - at) (drop at l)) w.given) (sym same_walk)
          (absent (subst (λ (w : Walked). w.end ≤ length l) same_walk k)))

-- ---- bytes that are the parts are what a walk passes, whatever stands before and behind

placed_walk : {parts : List Part} {given all : Given} {part : List ℕ} → Parses parts given part all
    → (front rest l : List ℕ) (at : ℕ) → l ≡ front ++ (part ++ rest) → length front ≡ at
    → walked parts given at l ≡ record { end = at + length part; given = all }
placed_walk {given = given} nothing front rest l at e long-front = ap (λ (n : ℕ). record { end = n; given = given }) (sym (add-zero at))
placed_walk {given = given} {all = all} (lines_then {t} {parts} m more long_m p) front rest l at e long-front =
    let next = e ∙ ap (λ (k : List ℕ). front ++ k) (append_assoc m more rest) in
    let read : read_by t (drop at l) ≡ read_by t m =
    ap (λ (k : List ℕ). read_by t (drop at k)) next ∙ ap (read_by t) (drop_at front (m ++ (more ++ rest)) at long-front)
    ∙ ap (by_names t) (read_before t m (more ++ rest) (omega (arith, long_m))) in
    let inner = placed_walk p (front ++ m) rest l (at + bytes t) (next ∙ sym (append_assoc front m (more ++ rest)))
    (length-append front m ∙ ap₂ (λ (x y : ℕ). x + y) long-front long_m) in
    ap (λ (g : Given). walked parts (given ++ g) (at + bytes t) l) read
    ∙ inner
    ∙ ap (λ (n : ℕ). record { end = n; given = all })
    (let s : at + bytes t + length more ≡ at + length (m ++ more) = omega (arith, length-append m more, long_m) in s)
placed_walk {given = given} {all = all} (repeated_then {name} {t} {parts} m more long_m p) front rest l at e long-front =
    let next = e ∙ ap (λ (k : List ℕ). front ++ k) (append_assoc m more rest) in
    placed_walk p (front ++ m) rest l (at + given_to name given * bytes t) (next ∙ sym (append_assoc front m (more ++ rest)))
    (length-append front m ∙ ap₂ (λ (x y : ℕ). x + y) long-front long_m)
    ∙ ap (λ (n : ℕ). record { end = n; given = all })
    (ap (λ (x : ℕ). at + x + length more) (sym long_m) ∙ add_assoc at (length m) (length more) ∙ ap (λ (x : ℕ). at + x) (sym (length-append m more)))
placed_walk {given = given} {all = all} (when_there {test} {t} {parts} m more holds long_m p) front rest l at e long-front =
    let next = e ∙ ap (λ (k : List ℕ). front ++ k) (append_assoc m more rest) in
    let read : read_by t (drop at l) ≡ read_by t m =
    ap (λ (k : List ℕ). read_by t (drop at k)) next ∙ ap (read_by t) (drop_at front (m ++ (more ++ rest)) at long-front)
    ∙ ap (by_names t) (read_before t m (more ++ rest) (omega (arith, long_m))) in
    let inner = placed_walk p (front ++ m) rest l (at + bytes t) (next ∙ sym (append_assoc front m (more ++ rest)))
    (length-append front m ∙ ap₂ (λ (x y : ℕ). x + y) long-front long_m) in
    ap (λ (b : Bool). walked parts (given ++ cond b (read_by t (drop at l)) []) (at + cond b (bytes t) 0) l) holds
    ∙ ap (λ (g : Given). walked parts (given ++ g) (at + bytes t) l) read
    ∙ inner
    ∙ ap (λ (n : ℕ). record { end = n; given = all })
    (let s : at + bytes t + length more ≡ at + length (m ++ more) = omega (arith, length-append m more, long_m) in s)
placed_walk {given = given} (when_not {test} {t} {parts} not p) front rest l at e long-front =
    ap (λ (b : Bool). walked parts (given ++ cond b (read_by t (drop at l)) []) (at + cond b (bytes t) 0) l) not
    ∙ ap₂ (λ (g : Given) (n : ℕ). walked parts g n l) (append-nil given) (add-zero at)
    ∙ placed_walk p front rest l at e long-front

pub parses_walk : {parts : List Part} {all : Given} {part : List ℕ} (rest l : List ℕ) → l ≡ part ++ rest → Parses parts [] part all
    → walked parts [] 0 l ≡ record { end = length part; given = all }
parses_walk {all = all} {part = part} rest l e p =
    placed_walk p [] rest l 0 e refl ∙ ap (λ (n : ℕ). record { end = n; given = all }) (native.Mathlib.Nat.zero-add (length part))
