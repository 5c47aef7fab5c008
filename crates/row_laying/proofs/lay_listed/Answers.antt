-- `row_laying::lay_listed` meets its contract. The invariant: the layers passed stand after the head, and 0 after them.
-- Assumes nothing.
use Prim.Native.Nat.{ℕ, ◌%◌}
use mathlib.Core.List.{List, ◌++◌, map}
use mathlib.Core.Path.{◌≡◌, sym, ap, ◌∙◌}
use native.Mathlib.Omega.{arith}
use lib.ListN.{length, get_or, take, replicate, length-set, length-map, get_or-map}
use lib.Seq.{length-take-le, take_all}
use Rattle.combinators.specs.Padding.{pad_to}
use Rattle.combinators.proofs.Padding.{store_map}
use Rattle.buffers.proofs.Laws.{set_after, front_kept}
use Rattle.vocabulary.specs.declared.LayerIndex.{LayerIndex}
use Rattle.extension.specs.Extension.{layer_index_of, layers_of}
use Rattle.extension.proofs.Bytes.{layer_byte}
use Rattle.entry_rows.specs.Rows.{layer_number}
use Rattle.row_laying.proofs.lay_listed.Goals as goal

-- the number of the layer that a byte is
byte-number : (list : List ℕ) (i : ℕ) → get_or list i 0 % 64 ≡ layer_number (get_or (layers_of list) i (layer_index_of 0))
byte-number list i = ap layer_number (layer_byte (get_or list i 0) ∙ sym (get_or-map layer_index_of list i 0))

pub loop-i-init : goal.loop-i-init
loop-i-init c =
    let row = c.args.row.now in
    let cleared = c.clear_tail in
    let kept = front_kept row (replicate 64 0) cleared.new.row 16 (omega arith) cleared.ensures in
    (omega arith, omega arith, cleared.ensures ∙ ap (λ (l : List ℕ). l ++ replicate 64 0) (sym kept))

pub loop-i-preserved : goal.loop-i-preserved
loop-i-preserved c =
    let list = c.args.list.now in
    let layers : List LayerIndex = layers_of list in
    let long : length layers ≡ length list = length-map list layer_index_of in
    let row = c.clear_tail.new.row in
    let loop = c.loop-i in (
      omega arith,
      simp length-set (omega arith),
      rw (loop.invariant.2, c.from.ensures ∙ byte-number list loop.i)
          (set_after (take 16 row) (pad_to 64 0 (map layer_number (take loop.i layers))) 16 loop.i _ (length-take-le 16 row (omega arith))
          ∙ ap (λ (l : List ℕ). take 16 row ++ l) (store_map 64 0 layer_number layers loop.i (layer_index_of 0) (omega arith) (omega arith))),
    )

pub returns : goal.returns
returns c =
    let a = c.args in
    let layers : List LayerIndex = layers_of a.list.now in
    let long : length layers ≡ length a.list.now = length-map a.list.now layer_index_of in
    let cleared = c.clear_tail in
    let kept = front_kept a.row.now (replicate 64 0) cleared.new.row 16 (omega arith) cleared.ensures in
    let loop = c.loop-i in
    loop.invariant.2
    ∙ ap (λ (l : List ℕ). l ++ pad_to 64 0 (map layer_number (take loop.i layers))) kept
    ∙ ap (λ (l : List LayerIndex). take 16 a.row.now ++ pad_to 64 0 (map layer_number l)) (take_all loop.i layers (omega arith))
