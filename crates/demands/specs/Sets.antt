-- LAYER SETS (document 02, W-207): reading one, adding a layer and removing one as calls of the library, and the four functions for C on sets.
-- Assumes nothing.
use Rattle.std.specs.Prelude.{ℕ, true, false, List, [], ◌∷◌, ◌++◌, ◌≡◌, length, Err, Ok}
use Rattle.sets.specs.Sets.{size}
use Rattle.vocabulary.specs.declared.stream_types.Reading.{Reading}
use Rattle.vocabulary.specs.declared.refusal.Refusal.TheVariants.{TooWide}
use Rattle.loop_entries.specs.declared.Entry.{Entry}
use Rattle.es_loop.specs.Answer.{Outcome}
use Rattle.closure.specs.Answer.{Closure}
use Rattle.closure.specs.Meaning as Target
use Rattle.entry_rows.specs.Rows.{some_too_wide, rows_of, entry_in}
use Rattle.layer_set.specs.declared.«set».LayerSet.{LayerSet}
use Rattle.layer_set.specs.Sets.{stored_in}
use Rattle.layer_set.specs.Meaning.{IsSet, Adds, Removes}
use Rattle.layer_set.proofs.read_set.Kinds as read-set-kinds
use Rattle.layer_set.proofs.read_set.Reads as read_set
use Rattle.layer_set.proofs.add.Kinds as add-kinds
use Rattle.layer_set.proofs.add.Reads as add
use Rattle.layer_set.proofs.remove.Kinds as remove-kinds
use Rattle.layer_set.proofs.remove.Reads as remove
use Rattle.layer_set_rows.specs.Buffers.{stored_numbers}
use Rattle.thoquenry_sets.proofs.thq_set_read.Kinds as set-read-kinds
use Rattle.thoquenry_sets.proofs.thq_set_read.Reads as set_read
use Rattle.thoquenry_sets.proofs.thq_set_add.Kinds as set-add-kinds
use Rattle.thoquenry_sets.proofs.thq_set_add.Reads as set-add
use Rattle.thoquenry_sets.proofs.thq_set_remove.Kinds as set-remove-kinds
use Rattle.thoquenry_sets.proofs.thq_set_remove.Reads as set-remove
use Rattle.thoquenry_sets.proofs.thq_set_closure.Kinds as set-closure-kinds
use Rattle.thoquenry_sets.proofs.thq_set_closure.Reads as set-closure
use Rattle.held_sets.specs.Meaning.{ReadsSet, Holds}
use Rattle.promised.specs.Calls.{Run, Call}
use Rattle.promised.specs.Readers.{read_loop, outcome_number}
use Rattle.demands.specs.Told.{ForC, Told, counts, refuses, not_a_call, Says, ByYear}
use Rattle.demands.specs.ForC.{closure_told}

-- ---- `layer_set::read_set`: 1 to 9

pub record SetLoopGiven : Type 0 where
  pub reading : Reading
  pub bytes : List ℕ

pub record SetAnswered : Type 0 where
  pub outcome : Outcome
  pub set : LayerSet

abbrev pub read_layer_set : Call
read_layer_set =
    record {
      Ran = Run 1 read-set-kinds.ps read-set-kinds.r;
      Asks = λ run. read_set.Pre run.lifetimes run.handed;
      Ensures = λ run. read_set.Post run.lifetimes run.handed run.answer run.left;
      Given = SetLoopGiven;
      Answer = SetAnswered;
      Buffers = Unit {0};
      given = λ run. record { reading = run.handed.0; bytes = run.handed.1.0.now };
      answer = λ run. record { outcome = run.answer.outcome; set = run.answer.«set» };
      before = λ given. tt;
      after = λ run. tt;
      number_in = λ answer. outcome_number answer.outcome;
      numbers = read_loop.numbers;
      Means = λ given answer nothing. ReadsSet given.reading given.bytes answer.outcome answer.set;
    }

-- ---- `layer_set::add`, of a layer set: '25 first, then 3 .., then 6 to 9'. The set is what the call changes: 'a refused operation leaves the set unchanged'.

pub record AddGiven : Type 0 where
  pub set : LayerSet
  pub is_set : IsSet set
  pub entry : Entry

pub record RunOfAdd : Type 0 where
  pub run : Run 0 add-kinds.ps add-kinds.r
  pub is_set : IsSet run.handed.0

abbrev pub add_layer : Call
add_layer =
    record {
      Ran = RunOfAdd;
      Asks = λ ran. add.Pre ran.run.lifetimes ran.run.handed;
      Ensures = λ ran. add.Post ran.run.lifetimes ran.run.handed ran.run.answer ran.run.left;
      Given = AddGiven;
      Answer = Outcome;
      Buffers = LayerSet;
      given = λ ran. record { set = ran.run.handed.0; is_set = ran.is_set; entry = ran.run.handed.1.0 };
      answer = λ ran. ran.run.answer.outcome;
      before = λ given. given.set;
      after = λ ran. ran.run.answer.«set»;
      number_in = outcome_number;
      numbers = 3 ∷ 6 ∷ 7 ∷ 8 ∷ 9 ∷ 25 ∷ [];
      Means = λ given outcome after. Adds given.set given.entry (record { outcome = outcome; «set» = after });
    }

-- ---- `layer_set::remove`, of a layer set: 11

pub record RemoveGiven : Type 0 where
  pub set : LayerSet
  pub is_set : IsSet set
  pub index : ℕ

pub record RunOfRemove : Type 0 where
  pub run : Run 0 remove-kinds.ps remove-kinds.r
  pub is_set : IsSet run.handed.0

abbrev pub remove_layer : Call
remove_layer =
    record {
      Ran = RunOfRemove;
      Asks = λ ran. remove.Pre ran.run.lifetimes ran.run.handed;
      Ensures = λ ran. remove.Post ran.run.lifetimes ran.run.handed ran.run.answer ran.run.left;
      Given = RemoveGiven;
      Answer = Outcome;
      Buffers = LayerSet;
      given = λ ran. record { set = ran.run.handed.0; is_set = ran.is_set; index = ran.run.handed.1.0 };
      answer = λ ran. ran.run.answer.outcome;
      before = λ given. given.set;
      after = λ ran. ran.run.answer.«set»;
      number_in = outcome_number;
      numbers = 11 ∷ [];
      Means = λ given outcome after. Removes given.set given.index (record { outcome = outcome; «set» = after });
    }

-- ---- the functions for C: the two buffers of a set

pub record SetBuffers : Type 0 where
  pub layers : List ℕ
  pub stored : List ℕ

-- a set in its buffers: 'Counts the layers of the set.'
abbrev pub buffers_of : LayerSet → SetBuffers
buffers_of s = record { layers = rows_of s.entries; stored = stored_numbers (stored_in s) }

abbrev pub set_told : Outcome → LayerSet → Told SetBuffers
set_told (Ok tt) s = counts (size s.layers.present) (buffers_of s)
set_told (Err refusal) s = refuses refusal

abbrev pub HoldsIn : SetBuffers → LayerSet → Type 0
HoldsIn b s = Holds b.layers b.stored s

-- ---- thq_set_read: 'THQ_NOT_A_CALL also where a length is not exactly that of a set; 1 to 9, at an entry'

pub record SetReadGiven : Type 0 where
  pub reading : ℕ
  pub bytes : List ℕ
  pub buffers : SetBuffers

pub data SetReadTells (given : SetReadGiven) (reading : Reading) (answer : ℕ) (after : SetBuffers) : Type 0 where
  told : {o : Outcome} {s : LayerSet} → length given.buffers.layers ≡ 5120 → length given.buffers.stored ≡ 192 → ReadsSet reading given.bytes o s
      → Says (set_told o s) given.buffers answer after → SetReadTells given reading answer after
  wrong_layers : (length given.buffers.layers ≡ 5120 → ⊥) → Says not_a_call given.buffers answer after → SetReadTells given reading answer after
  wrong_stored : (length given.buffers.stored ≡ 192 → ⊥) → Says not_a_call given.buffers answer after → SetReadTells given reading answer after

abbrev pub thq_set_read : ForC
thq_set_read =
    record {
      Ran = Run 3 set-read-kinds.ps set-read-kinds.r;
      Asks = λ run. set_read.Pre run.lifetimes run.handed;
      Ensures = λ run. set_read.Post run.lifetimes run.handed run.answer run.left;
      Given = SetReadGiven;
      Buffers = SetBuffers;
      given = λ run. record {
        reading = run.handed.0;
        bytes = run.handed.1.0.now;
        buffers = record { layers = run.handed.1.1.0.now; stored = run.handed.1.1.1.0.now };
      };
      answer = λ run. run.answer;
      before = λ given. given.buffers;
      after = λ run. record { layers = run.left.1.1.0.now; stored = run.left.1.1.1.0.now };
      numbers = read_loop.numbers ++ 255 ∷ [];
      Means = λ given answer after. ByYear given.reading (λ reading. SetReadTells given reading answer after) (Says not_a_call given.buffers answer after);
    }

-- ---- thq_set_add: 'THQ_NOT_A_CALL where the buffers hold no set, and where `entry_length` is not 80; then 25; then 3 ..; then 6 to 9'

pub record SetAddGiven : Type 0 where
  pub buffers : SetBuffers
  pub entry : List ℕ

pub data SetAddTells (given : SetAddGiven) (answer : ℕ) (after : SetBuffers) : Type 0 where
  no_set : ((s : LayerSet) → HoldsIn given.buffers s → ⊥) → Says not_a_call given.buffers answer after → SetAddTells given answer after
  no_entry : (length given.entry ≡ 80 → ⊥) → Says not_a_call given.buffers answer after → SetAddTells given answer after
  wide : {s : LayerSet} → HoldsIn given.buffers s → length given.entry ≡ 80 → some_too_wide given.entry ≡ true
      → Says (refuses TooWide) given.buffers answer after → SetAddTells given answer after
  told : {s t : LayerSet} {o : Outcome} → HoldsIn given.buffers s → length given.entry ≡ 80 → some_too_wide given.entry ≡ false
      → Adds s (entry_in given.entry) (record { outcome = o; «set» = t }) → Says (set_told o t) given.buffers answer after → SetAddTells given answer after

abbrev pub thq_set_add : ForC
thq_set_add =
    record {
      Ran = Run 3 set-add-kinds.ps set-add-kinds.r;
      Asks = λ run. set-add.Pre run.lifetimes run.handed;
      Ensures = λ run. set-add.Post run.lifetimes run.handed run.answer run.left;
      Given = SetAddGiven;
      Buffers = SetBuffers;
      given = λ run. record { buffers = record { layers = run.handed.0.now; stored = run.handed.1.0.now }; entry = run.handed.1.1.0.now };
      answer = λ run. run.answer;
      before = λ given. given.buffers;
      after = λ run. record { layers = run.left.0.now; stored = run.left.1.0.now };
      numbers = add_layer.numbers ++ 255 ∷ [];
      Means = SetAddTells;
    }

-- ---- thq_set_remove: 'THQ_NOT_A_CALL where the buffers hold no set; then 11'

pub record SetRemoveGiven : Type 0 where
  pub buffers : SetBuffers
  pub index : ℕ

pub data SetRemoveTells (given : SetRemoveGiven) (answer : ℕ) (after : SetBuffers) : Type 0 where
  no_set : ((s : LayerSet) → HoldsIn given.buffers s → ⊥) → Says not_a_call given.buffers answer after → SetRemoveTells given answer after
  told : {s t : LayerSet} {o : Outcome} → HoldsIn given.buffers s → Removes s given.index (record { outcome = o; «set» = t })
      → Says (set_told o t) given.buffers answer after → SetRemoveTells given answer after

abbrev pub thq_set_remove : ForC
thq_set_remove =
    record {
      Ran = Run 2 set-remove-kinds.ps set-remove-kinds.r;
      Asks = λ run. set-remove.Pre run.lifetimes run.handed;
      Ensures = λ run. set-remove.Post run.lifetimes run.handed run.answer run.left;
      Given = SetRemoveGiven;
      Buffers = SetBuffers;
      given = λ run. record { buffers = record { layers = run.handed.0.now; stored = run.handed.1.0.now }; index = run.handed.1.1.0 };
      answer = λ run. run.answer;
      before = λ given. given.buffers;
      after = λ run. record { layers = run.left.0.now; stored = run.left.1.0.now };
      numbers = 11 ∷ 255 ∷ [];
      Means = SetRemoveTells;
    }

-- ---- thq_set_closure: 'THQ_NOT_A_CALL where the buffers hold no set; then 11, 12; then 17 where `closure_length` is 0'

pub record SetClosureGiven : Type 0 where
  pub buffers : SetBuffers
  pub target : ℕ
  pub closure : List ℕ

pub data SetClosureTells (given : SetClosureGiven) (answer : ℕ) (after : List ℕ) : Type 0 where
  no_set : ((s : LayerSet) → HoldsIn given.buffers s → ⊥) → Says not_a_call given.closure answer after → SetClosureTells given answer after
  told : {s : LayerSet} {found : Closure} → HoldsIn given.buffers s → Target.Answers s.layers given.target found
      → Says (closure_told found given.closure) given.closure answer after → SetClosureTells given answer after

abbrev pub thq_set_closure : ForC
thq_set_closure =
    record {
      Ran = Run 3 set-closure-kinds.ps set-closure-kinds.r;
      Asks = λ run. set-closure.Pre run.lifetimes run.handed;
      Ensures = λ run. set-closure.Post run.lifetimes run.handed run.answer run.left;
      Given = SetClosureGiven;
      Buffers = List ℕ;
      given = λ run. record {
        buffers = record { layers = run.handed.0.now; stored = run.handed.1.0.now };
        target = run.handed.1.1.0;
        closure = run.handed.1.1.1.0.now;
      };
      answer = λ run. run.answer;
      before = λ given. given.closure;
      after = λ run. run.left.1.1.1.0.now;
      numbers = 11 ∷ 12 ∷ 17 ∷ 255 ∷ [];
      Means = SetClosureTells;
    }
