-- What the two loops over an extension's list know after each turn.
-- Assumes nothing.
use Prim.Native.Nat.{ℕ, ◌+◌, ◌%◌, ◌≤◌, ◌<◌}
use mathlib.Core.Path.{◌≡◌, refl, sym, ◌∙◌, ap}
use mathlib.Core.Bool.{Bool, true, false, ◌||◌, or-true, or-false}
use mathlib.Core.List.{List, map}
use native.Mathlib.Decide.{ℕ_discrete}
use native.Mathlib.Numerals.{add-one}
use native.Mathlib.Omega.{arith}
use borrow.Author.Tests.{lt-leb, le-leb, eq-eqb, ne_eqb}
use lib.Dec.{eqb, leb}
use lib.ListN.{length, get_or, set, take, replicate, length-set, length-replicate, get_or-replicate, length-map, get_or-map}
use lib.Seq.{take-suc, length-take-le, get_or-take, get_or-set_same, get_or-set_other}
use Rattle.combinators.specs.Bools.{either_left, either_right}
use Rattle.combinators.specs.Below.{some, some_at}
use Rattle.combinators.specs.Members.{member, member_last}
use Rattle.vocabulary.specs.declared.LayerIndex.{LayerIndex}
use Rattle.extension.specs.Extension.{no_layer, layer_index_of, layers_of}
use Rattle.extension.proofs.Bytes.{layer_byte}
use Rattle.records.specs.Records.{plain}
use Rattle.judging.specs.Judging.{wrong_at, wrong_list}

-- THE LIST. The layers of its bytes as numbers: how many, and what stands at each place.
pub bytes_length : (list : List ℕ) → length (map plain (layers_of list)) ≡ length list
bytes_length list = length-map (layers_of list) plain ∙ length-map list layer_index_of

pub bytes_at : (list : List ℕ) (i : ℕ) → get_or (map plain (layers_of list)) i 0 ≡ get_or list i 0 % 64
bytes_at list i =
    get_or-map plain (layers_of list) i no_layer
    ∙ ap plain (get_or-map layer_index_of list i 0 ∙ sym (layer_byte (get_or list i 0)))

-- THE JUDGING. Of the indices passed none is wrong, and the marks are those of the indices passed.
pub record Passed (own : ℕ) (indices : List ℕ) (marks : List Bool) (i : ℕ) : Type 0 where
  pub within : i ≤ length indices
  pub none : some (wrong_at own indices) i ≡ false
  pub marks_room : length marks ≡ 256
  pub marked : (k : ℕ) → k < 256 → get_or marks k false ≡ member k (take i indices)

module _ (own : ℕ) (indices : List ℕ) where
  pub passed_start : Passed own indices (replicate 256 false) 0
  passed_start =
      record {
        within = omega arith;
        none = refl;
        marks_room = length-replicate 256 false;
        marked = λ k h. get_or-replicate 256 k false false h;
      }

  pub passed_end : (marks : List Bool) (i : ℕ) → Passed own indices marks i → length indices ≤ i → false ≡ wrong_list own indices
  passed_end marks i p h = let e : i ≡ length indices = omega (arith, p.within) in sym (rw e at p.none)

  -- the next index
  module _ (marks : List Bool) (i : ℕ) (p : Passed own indices marks i) (h : i < length indices) (next : ℕ) (e : get_or indices i 0 ≡ next) where
    found : leb own next || member next (take i indices) ≡ true → true ≡ wrong_list own indices
    found t = sym (some_at (wrong_at own indices) (length indices) i h (rw e t))

    -- not below the layer's own, or its mark set: it is wrong
    pub passed_high : own ≤ next → true ≡ wrong_list own indices
    passed_high l = found (either_left (leb own next) (member next (take i indices)) (le-leb own next l))

    pub passed_marked : next < 256 → get_or marks next false ≡ true → true ≡ wrong_list own indices
    passed_marked s m = found (either_right (leb own next) (member next (take i indices)) (sym (p.marked next s) ∙ m))

    -- any other is passed, and marked
    pub passed_step : next < own → next < 256 → get_or marks next false ≡ false → Passed own indices (set marks next true) (i + 1)
    passed_step l s m =
        record {
          within = omega arith;
          none = rw (add-one i, p.none, e, lt-leb own next l) (sym (p.marked next s) ∙ m);
          marks_room = length-set marks next true ∙ p.marks_room;
          marked = λ k t. rw (add-one i, take-suc indices i 0 h, e, member_last k next (take i indices)) (go k t (ℕ_discrete k next));
        }
      where
        go : (k : ℕ) → k < 256 → Dec (k ≡ next) → get_or (set marks next true) k false ≡ member k (take i indices) || eqb k next
        go k t (yes q) =
            rw (eq-eqb k next q, or-true (member k (take i indices)), q) (get_or-set_same marks next true false (rw p.marks_room s))
        go k t (no n) =
            rw (ne_eqb k next n, or-false (member k (take i indices))) (get_or-set_other marks next k true false n ∙ p.marked k t)
