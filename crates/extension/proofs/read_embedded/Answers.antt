-- `read_embedded` meets its contract. The loop's invariant: the array holds the layers of the bytes passed, and blanks.
-- Assumes nothing.
use Prim.Native.Nat.{ℕ}
use mathlib.Core.Path.{◌∙◌, ap}
use native.Mathlib.Omega.{arith}
use mathlib.Core.List.{List}
use lib.ListN.{get_or}
use lib.Seq.{take_all}
use Rattle.combinators.specs.Padding.{pad_to}
use Rattle.combinators.proofs.Padding.{store_map}
use Rattle.extension.specs.Extension.{no_layer, layers_of, layer_index_of}
use Rattle.extension.proofs.Bytes.{layer_byte}
use Rattle.extension.proofs.read_embedded.Goals as goal

pub loop-i-init : goal.loop-i-init
loop-i-init c = (omega arith, c.no_layers-layers.ensures)

pub loop-i-preserved : goal.loop-i-preserved
loop-i-preserved c =
    let i = c.loop-i.i in
    let list = c.args.list.now in (
      omega arith,
      rw (c.loop-i.invariant.1, layer_byte (get_or list i 0)) (store_map 63 no_layer layer_index_of list i 0 (omega arith) (omega arith)),
    )

pub returns : goal.returns
returns c =
    let list = c.args.list.now in
    c.loop-i.invariant.1 ∙ ap (λ (l : List ℕ). pad_to 63 no_layer (layers_of l)) (take_all c.loop-i.i list (omega arith))
