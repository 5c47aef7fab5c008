-- W-209, beside the three demands: 'Other layers don't leak in.' Two tables that differ in rows of other layers alone, with no row out of range, get the same answer of joining and of
-- the whole import, and leave the same in every list. So a garbled row of an unwanted layer can move no frame.
-- Assumes nothing.
use Rattle.other_layers.specs.Meaning.{SameJoining, SameImport}
use Rattle.other_layers.proofs.Leaks.{same_joining, same_import}

pub record OtherLayers : Type 0 where
  pub joining : SameJoining
  pub importing : SameImport

pub other_layers : OtherLayers
other_layers = record { joining = same_joining; importing = same_import }
