-- THE FUNCTIONS FOR C THAT JOIN ROWS as calls, each in the words of include/thoquenry.h over the call of the library that it tells of: thq_join, thq_join_long, thq_import.
-- Assumes nothing.
use Rattle.std.specs.Prelude.{ℕ, ◌≤◌, cond, List, [], ◌∷◌, ◌++◌, ltb, length, Err, Ok}
use Rattle.std.proofs.Common.{arith}
use Rattle.buffers.specs.Buffers.{over}
use Rattle.vocabulary.specs.declared.refusal.Refusal.TheVariants.{NoRoom}
use Rattle.rows.specs.Table.{Table, table, most_rows}
use Rattle.unit_lists.specs.Sequence.{Lists, lists}
use Rattle.join_answers.specs.Answer.{Joined}
use Rattle.join_answers.specs.Joining.{most_long, longest_table}
use Rattle.join_answers.specs.Steps.{spaces}
use Rattle.thoquenry_joins.specs.Joins.{layers_given}
use Rattle.thoquenry_joins.proofs.Bounds.{most_short}
use Rattle.thoquenry_joins.proofs.thq_join.Kinds as join-kinds
use Rattle.thoquenry_joins.proofs.thq_join.Reads as join
use Rattle.thoquenry_joins.proofs.thq_join_long.Kinds as join-long-kinds
use Rattle.thoquenry_joins.proofs.thq_join_long.Reads as join-long
use Rattle.thoquenry_joins.proofs.thq_import.Kinds as import-kinds
use Rattle.thoquenry_joins.proofs.thq_import.Reads as imports
use Rattle.promised.specs.Calls.{Run}
use Rattle.promised.specs.Joiners.{RowsGiven, join_rows, join_long, import_loop}
use Rattle.demands.specs.Told.{ForC, Told, counts, refuses, not_a_call, Says, Retells, ByYear}

-- the three lists, and the summary
pub record Filled : Type 0 where
  pub after : Lists
  pub summary : List ℕ

abbrev pub filled : Lists → List ℕ → Filled
filled after summary = record { after = after; summary = summary }

-- '`summary` receives two numbers: the set of the layer indices that the target rests on, and the number of units. Counts the rows of such layers'. '17 where one of
-- `numbers`, `lags` and `sizes` has fewer places .., or `summary` fewer than two.'
abbrev pub joined_told : List ℕ → Joined → Lists → Told Filled
joined_told summary (Err refusal) after = refuses refusal
joined_told summary (Ok joined) after =
    cond (ltb (length summary) 2) (refuses NoRoom) (counts joined.rows (filled after (over (joined.closure ∷ joined.units ∷ []) summary)))

-- of a table of at most `most` rows, 2^48 at the most
pub record JoinGiven : Type 0 where
  pub most : ℕ
  pub told_in_56_bits : most ≤ longest_table
  pub present : ℕ
  pub embedded : List ℕ
  pub target : ℕ
  pub rows : Table
  pub before : Filled

-- 'over layers that the caller gives'
abbrev pub rows_given : JoinGiven → RowsGiven
rows_given given =
    record {
      most = given.most;
      layers = layers_given given.present given.embedded;
      target = given.target;
      rows = given.rows;
      before = given.before.after;
    }

-- 'Refusals: 11, 12; then 13, at place 0 for more than 512 rows; then 14 to 16, and 18; then 17'
abbrev pub thq_join : ForC
thq_join =
    record {
      Ran = Run 8 join-kinds.ps join-kinds.r;
      Asks = λ run. join.Pre run.lifetimes run.handed;
      Ensures = λ run. join.Post run.lifetimes run.handed run.answer run.left;
      Given = JoinGiven;
      Buffers = Filled;
      given = λ run. record {
        most = most_rows;
        told_in_56_bits = omega arith;
        present = run.handed.0;
        embedded = run.handed.1.0.now;
        target = run.handed.1.1.0;
        rows = table run.handed.1.1.1.0.now run.handed.1.1.1.1.0.now run.handed.1.1.1.1.1.0.now;
        before = filled (lists run.handed.1.1.1.1.1.1.0.now run.handed.1.1.1.1.1.1.1.0.now run.handed.1.1.1.1.1.1.1.1.0.now) run.handed.1.1.1.1.1.1.1.1.1.0.now;
      };
      answer = λ run. run.answer;
      before = λ given. given.before;
      after = λ run. filled (lists run.left.1.1.1.1.1.1.0.now run.left.1.1.1.1.1.1.1.0.now run.left.1.1.1.1.1.1.1.1.0.now) run.left.1.1.1.1.1.1.1.1.1.0.now;
      numbers = join_rows.numbers;
      Means = λ given. Retells join_rows (rows_given given) (joined_told given.before.summary) given.before;
    }

-- '13 is given at place 0 for more rows than the shortest of them has'
abbrev pub thq_join_long : ForC
thq_join_long =
    record {
      Ran = Run 15 join-long-kinds.ps join-long-kinds.r;
      Asks = λ run. join-long.Pre run.lifetimes run.handed;
      Ensures = λ run. join-long.Post run.lifetimes run.handed run.answer run.left;
      Given = JoinGiven;
      Buffers = Filled;
      given = λ run. record {
        most = most_long (spaces (length run.handed.1.1.1.1.1.1.0.now) (length run.handed.1.1.1.1.1.1.1.0.now) (length run.handed.1.1.1.1.1.1.1.1.0.now) (length run.handed.1.1.1.1.1.1.1.1.1.0.now) (length run.handed.1.1.1.1.1.1.1.1.1.1.0.now) (length run.handed.1.1.1.1.1.1.1.1.1.1.1.0.now) (length run.handed.1.1.1.1.1.1.1.1.1.1.1.1.0.now));
        told_in_56_bits = most_short (spaces (length run.handed.1.1.1.1.1.1.0.now) (length run.handed.1.1.1.1.1.1.1.0.now) (length run.handed.1.1.1.1.1.1.1.1.0.now) (length run.handed.1.1.1.1.1.1.1.1.1.0.now) (length run.handed.1.1.1.1.1.1.1.1.1.1.0.now) (length run.handed.1.1.1.1.1.1.1.1.1.1.1.0.now) (length run.handed.1.1.1.1.1.1.1.1.1.1.1.1.0.now));
        present = run.handed.0;
        embedded = run.handed.1.0.now;
        target = run.handed.1.1.0;
        rows = table run.handed.1.1.1.0.now run.handed.1.1.1.1.0.now run.handed.1.1.1.1.1.0.now;
        before = filled (lists run.handed.1.1.1.1.1.1.1.1.1.1.1.1.1.0.now run.handed.1.1.1.1.1.1.1.1.1.1.1.1.1.1.0.now run.handed.1.1.1.1.1.1.1.1.1.1.1.1.1.1.1.0.now) run.handed.1.1.1.1.1.1.1.1.1.1.1.1.1.1.1.1.0.now;
      };
      answer = λ run. run.answer;
      before = λ given. given.before;
      after = λ run. filled (lists run.left.1.1.1.1.1.1.1.1.1.1.1.1.1.0.now run.left.1.1.1.1.1.1.1.1.1.1.1.1.1.1.0.now run.left.1.1.1.1.1.1.1.1.1.1.1.1.1.1.1.0.now) run.left.1.1.1.1.1.1.1.1.1.1.1.1.1.1.1.1.0.now;
      numbers = join_long.numbers;
      Means = λ given. Retells join_long (rows_given given) (joined_told given.before.summary) given.before;
    }

pub record ImportGiven : Type 0 where
  pub reading : ℕ
  pub bytes : List ℕ
  pub target : ℕ
  pub rows : Table
  pub before : Filled

-- 'Refusals: 1 to 9; then as thq_join'
abbrev pub thq_import : ForC
thq_import =
    record {
      Ran = Run 8 import-kinds.ps import-kinds.r;
      Asks = λ run. imports.Pre run.lifetimes run.handed;
      Ensures = λ run. imports.Post run.lifetimes run.handed run.answer run.left;
      Given = ImportGiven;
      Buffers = Filled;
      given = λ run. record {
        reading = run.handed.0;
        bytes = run.handed.1.0.now;
        target = run.handed.1.1.0;
        rows = table run.handed.1.1.1.0.now run.handed.1.1.1.1.0.now run.handed.1.1.1.1.1.0.now;
        before = filled (lists run.handed.1.1.1.1.1.1.0.now run.handed.1.1.1.1.1.1.1.0.now run.handed.1.1.1.1.1.1.1.1.0.now) run.handed.1.1.1.1.1.1.1.1.1.0.now;
      };
      answer = λ run. run.answer;
      before = λ given. given.before;
      after = λ run. filled (lists run.left.1.1.1.1.1.1.0.now run.left.1.1.1.1.1.1.1.0.now run.left.1.1.1.1.1.1.1.1.0.now) run.left.1.1.1.1.1.1.1.1.1.0.now;
      numbers = import_loop.numbers ++ 255 ∷ [];
      Means = λ given answer after. ByYear given.reading
          (λ known. Retells import_loop
          (record { reading = known; bytes = given.bytes; target = given.target; rows = given.rows; before = given.before.after })
          (joined_told given.before.summary) given.before answer after)
          (Says not_a_call given.before answer after);
    }
