-- THE CALLS THAT REFUSE NOTHING, and what each answers for whatever it is handed: one equation each, of the function's own contract.
-- Assumes nothing.
use Rattle.std.specs.Prelude.{ℕ, List, ◌≡◌, take}
use borrow.Fn.Kinds.{ParamKind, ResultKind, In, Out}
use Rattle.buffers.specs.Buffers.{Laid}
use Rattle.vocabulary.specs.Refusals.{number_of, place_of}
use Rattle.vocabulary.specs.StreamTypes.{known, may_stand_on}
use Rattle.vocabulary.proofs.number.Kinds as number-kinds
use Rattle.vocabulary.proofs.number.Reads as number
use Rattle.vocabulary.proofs.place.Kinds as place-kinds
use Rattle.vocabulary.proofs.place.Reads as place
use Rattle.vocabulary.proofs.knows.Kinds as knows-kinds
use Rattle.vocabulary.proofs.knows.Reads as knows
use Rattle.vocabulary.proofs.may_stand_on.Kinds as may-stand-on-kinds
use Rattle.vocabulary.proofs.may_stand_on.Reads as may-stand-on
use Rattle.clock.specs.Clock.{distance_of, is_before, lag_of}
use Rattle.clock.proofs.distance.Kinds as distance-kinds
use Rattle.clock.proofs.distance.Reads as distance
use Rattle.clock.proofs.before.Kinds as before-kinds
use Rattle.clock.proofs.before.Reads as before
use Rattle.clock.proofs.lag.Kinds as lag-kinds
use Rattle.clock.proofs.lag.Reads as lag
use Rattle.loop_layers.specs.Layers.{layers_of, table_of}
use Rattle.loop_layers.proofs.layers_of.Kinds as layers-of-kinds
use Rattle.loop_layers.proofs.layers_of.Reads as layers-of
use Rattle.loop_layers.proofs.table_of.Kinds as table-of-kinds
use Rattle.loop_layers.proofs.table_of.Reads as table-of
use Rattle.listing.specs.Lines.{loop_text}
use Rattle.listing.proofs.put_loop.Kinds as put-loop-kinds
use Rattle.listing.proofs.put_loop.Reads as put-loop
use Rattle.thoquenry.specs.Version.{version}
use Rattle.thoquenry.proofs.thq_version.Kinds as version-kinds
use Rattle.thoquenry.proofs.thq_version.Reads as thq-version
use Rattle.promised.specs.Calls.{Run}

-- A function asks nothing, and its contract ensures of every run what `Answers` says.
pub record Ensured (n : ℕ) (ps : List (ParamKind n)) (r : ResultKind n) (Pre : In n ps) (Post : Out n ps r) (Answers : Run n ps r → Type 0) : Type 0 where
  pub asks_nothing : (run : Run n ps r) → Pre run.lifetimes run.handed
  pub answers : (run : Run n ps r) → Post run.lifetimes run.handed run.answer run.left → Answers run

pub record RefuseNothing : Type 0 where
  -- `vocabulary`: number and place of a refusal, known types, types by stream
  pub number_of : Ensured 0 number-kinds.ps number-kinds.r number.Pre number.Post (λ run. run.answer ≡ number_of run.handed.0)
  pub place_of : Ensured 0 place-kinds.ps place-kinds.r place.Pre place.Post (λ run. run.answer ≡ place_of run.handed.0)
  pub is_known : Ensured 0 knows-kinds.ps knows-kinds.r knows.Pre knows.Post (λ run. run.answer ≡ known run.handed.0 run.handed.1.0)
  pub stands_on : Ensured 0 may-stand-on-kinds.ps may-stand-on-kinds.r may-stand-on.Pre may-stand-on.Post
      (λ run. run.answer ≡ may_stand_on run.handed.0 run.handed.1.0)
  -- `clock`: the forward distance, whether a time lies before another, and the lag
  pub forward_distance : Ensured 0 distance-kinds.ps distance-kinds.r distance.Pre distance.Post
      (λ run. run.answer ≡ distance_of run.handed.0 run.handed.1.0)
  pub lies_before : Ensured 0 before-kinds.ps before-kinds.r before.Pre before.Post (λ run. run.answer ≡ is_before run.handed.0 run.handed.1.0)
  pub lag_of : Ensured 0 lag-kinds.ps lag-kinds.r lag.Pre lag.Post (λ run. run.answer ≡ lag_of run.handed.0 run.handed.1.0)
  -- `loop_layers`: the layers of the first entries of an array, and the table of them
  pub layers : Ensured 0 layers-of-kinds.ps layers-of-kinds.r layers-of.Pre layers-of.Post
      (λ run. run.answer ≡ layers_of (take run.handed.0 run.handed.1.0))
  pub table : Ensured 0 table-of-kinds.ps table-of-kinds.r table-of.Pre table-of.Post
      (λ run. run.answer ≡ table_of (take run.handed.0 run.handed.1.0))
  -- `listing`: the text of a loop, laid into a buffer from a place on, and the place after it
  pub text : Ensured 2 put-loop-kinds.ps put-loop-kinds.r put-loop.Pre put-loop.Post
      (λ run. Laid run.handed.0.now run.handed.1.0 (loop_text run.handed.1.1.0 run.handed.1.1.1.0.now) run.answer run.left.0.now)
  -- the library for C
  pub version_is : Ensured 0 version-kinds.ps version-kinds.r thq-version.Pre thq-version.Post (λ run. run.answer ≡ version)

pub refuse_nothing : RefuseNothing
refuse_nothing =
    record {
      number_of = record { asks_nothing = λ run. tt; answers = λ run e. e };
      place_of = record { asks_nothing = λ run. tt; answers = λ run e. e };
      is_known = record { asks_nothing = λ run. tt; answers = λ run e. e };
      stands_on = record { asks_nothing = λ run. tt; answers = λ run e. e };
      forward_distance = record { asks_nothing = λ run. tt; answers = λ run e. e };
      lies_before = record { asks_nothing = λ run. tt; answers = λ run e. e };
      lag_of = record { asks_nothing = λ run. tt; answers = λ run e. e };
      layers = record { asks_nothing = λ run. tt; answers = λ run e. e };
      table = record { asks_nothing = λ run. tt; answers = λ run e. e };
      text = record { asks_nothing = λ run. tt; answers = λ run e. e };
      version_is = record { asks_nothing = λ run. tt; answers = λ run e. e };
    }
