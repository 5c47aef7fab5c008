-- `entry::view_for` meets its contract.
-- Assumes nothing.
use mathlib.Core.Path.{ap}
use Rattle.mvc_extension.specs.declared.MvcExtension.{MvcExtension}
use Rattle.mvc_descriptors.specs.declared.Found.TheVariants.{One}
use Rattle.stereo_writer.proofs.entry.view_for.Goals as goal

pub returns : goal.returns
returns c = ap (λ (x : MvcExtension). record { entry = c.args.entry; found = One x }) c.extension_for-extension.ensures
