-- The MVC extension descriptor as it is written, head and payload: tag 49 and length 8, the tables by which it is read.
-- Assumes nothing.
use Rattle.std.specs.Prelude.{List, [], ◌∷◌}
use Rattle.syntax.specs.Filled.{Filled, filled}
use Rattle.descriptor_heads.specs.Head.{head_table}
use Rattle.mvc_extension.specs.declared.MvcExtension.{MvcExtension}
use Rattle.mvc_extension.specs.MvcExtension.{mvc_extension_descriptor, mvc_extension_given}

abbrev pub mvc_extension_tables : MvcExtension → List Filled
mvc_extension_tables x = head_table 49 8 ∷ filled mvc_extension_descriptor (mvc_extension_given x) ∷ []
