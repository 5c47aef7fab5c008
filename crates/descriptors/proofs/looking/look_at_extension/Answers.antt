-- `descriptors::look_at_extension` meets its contract: the tests on the way to each return say which kind of descriptor it is.
-- Assumes nothing.
use Prim.Native.Nat.{ℕ, ◌+◌}
use native.Mathlib.Omega.{arith}
use mathlib.Core.Path.{◌≡◌, ◌∙◌, ap, sym, subst}
use mathlib.Core.Logic.{◌≢◌}
use lib.ListN.{length}
use Rattle.extension.specs.declared.ExtensionRecord.{ExtensionRecord}
use Rattle.descriptors.specs.declared.looking.Look.TheVariants.{Extension as LookExtension}
use Rattle.descriptors.specs.Finding.{look_of}
use Rattle.descriptors.proofs.Cases.{extension_empty, extension_other, extension_wrong, extension_right}
use Rattle.descriptors.proofs.looking.look_at_extension.Goals as goal

pub returns-then-payload-eq0 : goal.returns-then-payload-eq0
returns-then-payload-eq0 c =
    let p = c.args.payload.now in
    sym (ap look_of (extension_empty p (omega arith)))

pub returns-then-payload-ne6 : goal.returns-then-payload-ne6
returns-then-payload-ne6 c =
    let p = c.args.payload.now in
    sym (ap look_of (extension_other p (omega arith) c.if-payload-ne6.true))

pub returns-then-payload-lt7 : goal.returns-then-payload-lt7
returns-then-payload-lt7 c =
    let p = c.args.payload.now in
    sym (ap look_of (extension_wrong p (omega arith) c.if-payload-ne6.false (omega arith)))

pub returns-then-payload-from : goal.returns-then-payload-from
returns-then-payload-from c =
    let p = c.args.payload.now in
    sym (ap look_of (extension_wrong p (omega arith) c.if-payload-ne6.false (subst (λ (x : ExtensionRecord). length p ≢ 7 + x.num_embedded_layers) c.read_extension-extension.ensures (subst (λ (n : ℕ). length p ≢ 7 + n) c.from.ensures c.if-payload-from.true))))

pub returns : goal.returns
returns c =
    let p = c.args.payload.now in
    let e = c.read_extension-extension.ensures in
    ap (λ (x : ExtensionRecord). LookExtension x) e
    ∙ sym (ap look_of (extension_right p (omega arith) c.if-payload-ne6.false (subst (λ (x : ExtensionRecord). length p ≡ 7 + x.num_embedded_layers) e (subst (λ (n : ℕ). length p ≡ 7 + n) c.from.ensures c.if-payload-from.false))))
