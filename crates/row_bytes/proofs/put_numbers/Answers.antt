-- `row_bytes::put_numbers` meets its contract: the first i layers are laid in.
-- Assumes nothing.
use Prim.Native.Nat.{ℕ, ◌+◌, ◌<◌}
use mathlib.Core.Path.{refl, sym, ◌∙◌, ap, subst}
use mathlib.Core.List.{List}
use native.Mathlib.Omega.{arith}
use lib.ListN.{length, take, set, get_or, length-set, length-map, get_or-map}
use lib.Seq.{sets, take_all}
use Rattle.combinators.specs.Lists.{any, any_none}
use Rattle.buffers.specs.Buffers.{Laid}
use Rattle.buffers.proofs.Laws.{one_more, laid_whole}
use Rattle.entry_rows.specs.Rows.{layer_too_wide}
use Rattle.entry_rows.proofs.Widths.{layer_bound}
use Rattle.row_bytes.proofs.put_numbers.Invariants.{bytes_of}
use Rattle.row_bytes.proofs.put_numbers.Goals as goal

pub loop-i-init : goal.loop-i-init
loop-i-init c = (omega arith, omega arith, refl)

pub overflow_add-out : goal.overflow_add-out
overflow_add-out c =
    let list : List ℕ = c.args.list.now in
    let i = c.loop-i.i in
    let index : ℕ = get_or list i 0 in
    let six_bits : index < 64 =
    layer_bound index (any_none list 0 layer_too_wide (length list) i (omega arith) (omega arith) (ap (any layer_too_wide) (take_all (length list) list (omega arith)) ∙ c.requires.1)) in
    omega arith

pub overflow_cast-out : goal.overflow_cast-out
overflow_cast-out c =
    let list : List ℕ = c.args.list.now in
    let i = c.loop-i.i in
    let index : ℕ = get_or list i 0 in
    let six_bits : index < 64 =
    layer_bound index (any_none list 0 layer_too_wide (length list) i (omega arith) (omega arith) (ap (any layer_too_wide) (take_all (length list) list (omega arith)) ∙ c.requires.1)) in
    let small : 192 + index < 256 = omega arith in
    record { fits = small }

pub loop-i-preserved : goal.loop-i-preserved
loop-i-preserved c =
    let a = c.args in
    let list : List ℕ = a.list.now in
    let here = c.loop-i in
    let long = length-map list (λ n. 192 + n) in
    let left : here.i < length (bytes_of list) = omega arith in (
      omega arith,
      simp length-set (omega arith),
      ap (λ (l : List ℕ). set l (a.at + here.i) (192 + get_or list here.i 0)) here.invariant.2
          ∙ ap (λ (n : ℕ). set (sets a.out.now a.at (take here.i (bytes_of list))) (a.at + here.i) n) (sym (get_or-map (λ n. 192 + n) list here.i 0))
          ∙ one_more a.out.now a.at (bytes_of list) here.i 192 left,
    )

pub returns : goal.returns
returns c =
    let a = c.args in
    let list : List ℕ = a.list.now in
    let here = c.loop-i in
    let long = length-map list (λ n. 192 + n) in
    subst (λ (n : ℕ). Laid a.out.now a.at (bytes_of list) (a.at + n) here.out) long
    (laid_whole a.out.now a.at (bytes_of list) here.out here.i (omega arith) (omega arith) (omega arith) here.invariant.2)
