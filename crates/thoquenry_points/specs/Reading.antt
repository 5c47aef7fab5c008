-- THE FUNCTION FOR C that reads a program's operation points: its answer, and what its seven lists hold afterwards.
-- Assumes nothing.
use Rattle.std.specs.Prelude.{ℕ, Bool, cond, ◌&&◌, List, ◌≡◌, leb, length, Err, Ok}
use Rattle.buffers.specs.Buffers.{over}
use Rattle.vocabulary.specs.declared.refusal.Refusal.TheVariants.{NoRoom}
use Rattle.closure.specs.declared.Layers.{Layers}
use Rattle.es_loop.specs.Answer.{Outcome}
use Rattle.program_points.specs.declared.PointsRead.{PointsRead}
use Rattle.program_points.specs.Told.{points_in, profiles_in, tally_of, Filled, points_read}
use Rattle.point_rows.specs.Rows.{descriptor_numbers, point_numbers, reference_list, layer_list, stream_list, summary_of}
use Rattle.c_answers.specs.Answers.{accepted, refused}

pub record Lists : Type 0 where
  pub descriptors : List ℕ
  pub profiles : List ℕ
  pub points : List ℕ
  pub references : List ℕ
  pub layers : List ℕ
  pub streams : List ℕ
  pub summary : List ℕ

abbrev pub lists : List ℕ → List ℕ → List ℕ → List ℕ → List ℕ → List ℕ → List ℕ → Lists
lists descriptors profiles points references layers streams summary =
    record {
      descriptors = descriptors;
      profiles = profiles;
      points = points;
      references = references;
      layers = layers;
      streams = streams;
      summary = summary;
    }

-- What the call leaves.
pub record PointsReply : Type 0 where
  pub answer : ℕ
  pub lent : Lists

abbrev pub points_reply : ℕ → Lists → PointsReply
points_reply answer lent = record { answer = answer; lent = lent }

-- '17 where a list is shorter than that'
unfoldable pub room_for : Layers → List ℕ → Lists → Bool
room_for layers program old =
    leb (length (descriptor_numbers program)) (length old.descriptors)
    && (leb (length (profiles_in program)) (length old.profiles)
    && (leb (length (point_numbers layers program)) (length old.points)
    && (leb (length (reference_list program)) (length old.references)
    && (leb (length (layer_list program)) (length old.layers)
    && (leb (length (stream_list layers program)) (length old.streams)
    && leb 6 (length old.summary))))))

-- each list over the front of its buffer: 'beyond the written places too' it keeps what it held
unfoldable pub laid_over : Layers → List ℕ → Lists → Lists
laid_over layers program old =
    lists (over (descriptor_numbers program) old.descriptors) (over (profiles_in program) old.profiles) (over (point_numbers layers program) old.points)
    (over (reference_list program) old.references) (over (layer_list program) old.layers) (over (stream_list layers program) old.streams)
    (over (summary_of layers program) old.summary)

-- 'counts the points'
abbrev pub told_points : Layers → List ℕ → Lists → PointsReply
told_points layers program old =
    cond (room_for layers program old) (points_reply (accepted (length (points_in program))) (laid_over layers program old)) (points_reply (refused NoRoom) old)

-- 'on any refusal every list keeps what it held'
abbrev pub reply_by : Outcome → Layers → List ℕ → Lists → PointsReply
reply_by (Ok tt) layers program old = told_points layers program old
reply_by (Err refusal) layers program old = points_reply (refused refusal) old

abbrev pub reply_to : PointsRead → List ℕ → Lists → PointsReply
reply_to read program old = reply_by read.outcome read.layers program old

unfoldable pub read_points : List ℕ → List ℕ → Lists → PointsReply
read_points program bytes old = reply_to (points_read program bytes) program old

-- what was read, where it was accepted
pub record Ready (program : List ℕ) (read : PointsRead) : Type 0 where
  pub filled : Filled program read.found
  pub bytes : read.profile_bytes ≡ length (profiles_in program)
  pub tally_is : read.tally ≡ tally_of read.layers (points_in program)
