-- `records::names_in_list` meets its contract. The loop's invariant: the set so far, with the layers of the bytes left, is the set of all.
-- Assumes nothing.
use Prim.Native.Nat.{ℕ, ◌+◌}
use mathlib.Core.Path.{◌≡◌, refl, sym, ◌∙◌, ap}
use mathlib.Core.List.{List, ◌∷◌, map}
use native.Mathlib.Numerals.{add-one}
use native.Mathlib.Omega.{arith}
use lib.ListN.{get_or, drop, drop_of_length-le}
use lib.Seq.{drop-cons}
use Rattle.sets.specs.Sets.{added}
use Rattle.vocabulary.specs.declared.LayerIndex.{LayerIndex}
use Rattle.extension.specs.Extension.{layers_of}
use Rattle.records.specs.Records.{plain, with_indices}
use Rattle.extension.proofs.Bytes.{layer_byte}
use Rattle.records.proofs.names_in_list.Goals as goal

pub loop-byte-init : goal.loop-byte-init
loop-byte-init c = (omega arith, refl)

pub loop-byte-preserved : goal.loop-byte-preserved
loop-byte-preserved c =
    let list = c.args.list.now in
    let loop = c.loop-byte in
    let byte : ℕ = get_or list loop.byte-index 0 in
    let here : drop loop.byte-index list ≡ byte ∷ drop (loop.byte-index + 1) list =
    drop-cons list loop.byte-index 0 (omega arith) ∙ ap (λ (n : ℕ). byte ∷ drop n list) (sym (add-one loop.byte-index)) in (
      omega arith,
      ap (λ (set : ℕ). with_indices set (map plain (layers_of (drop (loop.byte-index + 1) list))))
          (c.with_index-set.ensures ∙ ap (λ (x : LayerIndex). added loop.set (plain x)) (layer_byte byte))
          ∙ sym (ap (λ (l : List ℕ). with_indices loop.set (map plain (layers_of l))) here)
          ∙ loop.invariant.1,
    )

pub returns : goal.returns
returns c =
    let list = c.args.list.now in
    let loop = c.loop-byte in
    sym (ap (λ (l : List ℕ). with_indices loop.set (map plain (layers_of l))) (drop_of_length-le list {i = loop.byte-index} (omega arith))) ∙ loop.invariant.1
