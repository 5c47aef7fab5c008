-- The reading that a caller asks for by its number, if the number is one of a reading.
-- Assumes nothing.
use Rattle.std.specs.Prelude.{Option}
use Rattle.vocabulary.specs.declared.stream_types.Reading.{Reading}

abbrev pub Asked : Type 0
Asked = Option Reading
