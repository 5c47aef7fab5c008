-- AN ENTRY AS IT IS JUDGED, with whether 9 applies in place of its embedded layers: what the walk that judges keeps of a stream.
-- Assumes nothing.
use Rattle.loop_entries.specs.declared.Stream.{Stream}
use Rattle.judging.specs.Judging.{wrong_embedded}
use Rattle.loop_outlines.specs.declared.Outline.{Outline}

abbrev pub outline_of : Stream → Outline
outline_of s =
    record {
      fits = s.fits;
      stream_type = s.stream_type;
      pid = s.pid;
      wrong_length = s.seen.wrong_length;
      second_record = s.seen.second_record;
      «record» = s.seen.«record»;
      wrong_embedded = wrong_embedded s.stream_type s.seen.«record» s.seen.embedded;
    }
