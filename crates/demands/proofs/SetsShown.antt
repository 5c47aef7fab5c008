-- The promises of the calls on layer sets, and of the four functions for C.
-- Assumes nothing.
use Rattle.std.specs.Prelude.{ℕ, ◌≤◌, ◌<◌, Bool, true, false, cond, ◌&&◌, List, [], ◌∷◌, ◌++◌, ◌↔◌, ◌≡◌, refl, eqb, ltb, length, Err, Ok}
use Rattle.std.proofs.Math.Option.{some}
use Rattle.std.proofs.Common.{sym, ap, ap₂, ◌∙◌, subst, arith, eqb-true, eq-eqb, ne_eqb}
use Rattle.std.proofs.lemmas.Bool.{eqb-false}
use Rattle.combinators.specs.Bools.{both_ways, either_way}
use Rattle.combinators.specs.Members.{member}
use Rattle.buffers.specs.Buffers.{over}
use Rattle.sets.specs.Sets.{size}
use Rattle.vocabulary.specs.declared.stream_types.Reading.{Reading}
use Rattle.vocabulary.specs.declared.refusal.Refusal.TheVariants.{NoRoom, TooWide}
use Rattle.vocabulary.specs.Refusals.{number_of, place_of}
use Rattle.loop_entries.specs.declared.Entry.{Entry}
use Rattle.es_loop.specs.Answer.{Outcome}
use Rattle.es_loop.specs.Reading.{loop_read}
use Rattle.closure.specs.Answer.{Closure}
use Rattle.closure.specs.declared.Layers.{Layers}
use Rattle.closure.proofs.Reached.{rests_on_at_most, layer_below_64}
use Rattle.closure.specs.Meaning as Target
use Rattle.entry_rows.specs.Rows.{some_too_wide, rows_of, entry_in}
use Rattle.layer_set.specs.declared.«set».LayerSet.{LayerSet}
use Rattle.layer_set.specs.declared.changing.Changed.{Changed}
use Rattle.layer_set.specs.Sets.{stored_in, loop_set, added_to, removed_from, closure_in}
use Rattle.layer_set.specs.Meaning.{IsSet, Condition, pid_held_lem, type_wrong, implied_mark, no_layer_lem, flags_wrong, index_held, embedded_wrong, Adds, too_wide_lem, refuses as add-refuses, adds, Removes, no_such_layer, removes}
use Rattle.layer_set.proofs.Meant.{add_meant, add_only, remove_meant, remove_only, target_meant, target_only}
use Rattle.layer_set_rows.specs.Buffers.{set_in, stored_numbers, holds_set}
use Rattle.c_answers.specs.Answer.{Asked}
use Rattle.c_answers.specs.Answers.{accepted, refused, not_a_call as not_a_call_code, asked_for, Reply, reply, unchanged}
use Rattle.thoquenry.specs.Bounds.{SmallOutcome, small_loop, SmallClosure, size_short}
use Rattle.thoquenry_sets.specs.Calls.{SetReply, set_reply, set_laid, changed_laid, after_change, read_into, read_set, add_set, remove_set, closure_laid, closure_set}
use Rattle.held_sets.specs.Meaning.{ReadsSet, loop_refused, loop_accepted, Holds}
use Rattle.held_sets.proofs.Held.{held_meant, held_one, held_only}
use Rattle.held_sets.proofs.Reading.{read_meant, read_only}
use Rattle.promised.specs.Calls.{is_listed, Promised}
use Rattle.promised.specs.Shown.{Computed, promised, listed_first, not_refused}
use Rattle.promised.specs.Readers.{outcome_number, read_loop, read_listed}
use Rattle.demands.specs.Told.{Told, counts, refuses, not_a_call, Says, for_c}
use Rattle.demands.proofs.ToldShown.{code, leaves, number_told, Fits, told_promised, told_by_year, each_year, by_year, asked}
use Rattle.demands.specs.ForC.{closure_told}
use Rattle.demands.specs.Sets.{SetLoopGiven, SetAnswered, read_layer_set, AddGiven, add_layer, RemoveGiven, remove_layer, SetBuffers, buffers_of, set_told, HoldsIn, SetReadGiven, SetReadTells, thq_set_read, SetAddGiven, SetAddTells, thq_set_add, SetRemoveGiven, SetRemoveTells, thq_set_remove, SetClosureGiven, SetClosureTells, thq_set_closure}
use Rattle.demands.specs.Sets as Sets
use Rattle.demands.proofs.ForCShown.{closure_fits}

-- ---- reading a set

set_listed : {reading : Reading} {bytes : List ℕ} {o : Outcome} {s : LayerSet} → ReadsSet reading bytes o s → is_listed read_loop.numbers (outcome_number o) ≡ true
set_listed (loop_refused a) = read_listed a
set_listed (loop_accepted streams a is same) = refl

pub set_read : Promised read_layer_set
set_read =
    promised {answerTo = λ given. record { outcome = (loop_set given.reading given.bytes).outcome; set = (loop_set given.reading given.bytes).«set» }} {left_by = λ given. tt}
    (record {
      asks_nothing = λ run. tt;
      ensured = λ run e. (ap (λ r. record { outcome = r.outcome; set = r.«set» }) e, refl);
      right = λ given. read_meant given.reading given.bytes;
      nothing_else = λ given means. (let same = read_only given.reading given.bytes means in
          (ap₂ (λ (o : Outcome) (s : LayerSet). record { outcome = o; set = s }) same.0 same.1, refl));
      listed = λ given. set_listed (read_meant given.reading given.bytes);
      untouched = λ given number e. refl;
    })

-- ---- adding and removing

condition_listed : {s : LayerSet} {e : Entry} {n : ℕ} → Condition s e n → member n add_layer.numbers ≡ true
condition_listed (pid_held_lem l p) = refl
condition_listed (type_wrong d w) = refl
condition_listed (implied_mark p) = refl
condition_listed (no_layer_lem p) = refl
condition_listed (flags_wrong w) = refl
condition_listed (index_held l x) = refl
condition_listed (embedded_wrong w) = refl

add_listed : {s : LayerSet} {e : Entry} {c : Changed} → Adds s e c → is_listed add_layer.numbers (outcome_number c.outcome) ≡ true
add_listed (too_wide_lem w) = refl
add_listed (add-refuses w c p l) = condition_listed c
add_listed (adds w free m) = refl

add_kept : {s : LayerSet} {e : Entry} {c : Changed} → Adds s e c → (number : ℕ) → outcome_number c.outcome ≡ some number → c.«set» ≡ s
add_kept (too_wide_lem w) number e = refl
add_kept (add-refuses w c p l) number e = refl
add_kept (adds w free m) number e = not_refused e

pub layer_added : Promised add_layer
layer_added =
    promised {answerTo = λ given. (added_to given.set given.entry).outcome} {left_by = λ given. (added_to given.set given.entry).«set»}
    (record {
      asks_nothing = λ run. tt;
      ensured = λ run e. (ap (λ (c : Changed). c.outcome) e, ap (λ (c : Changed). c.«set») e);
      right = λ given. add_meant given.set given.is_set given.entry;
      nothing_else = λ given means. (let same = add_only given.set given.is_set given.entry means in
          (ap (λ (c : Changed). c.outcome) same, ap (λ (c : Changed). c.«set») same));
      listed = λ given. add_listed (add_meant given.set given.is_set given.entry);
      untouched = λ given number e. add_kept (add_meant given.set given.is_set given.entry) number e;
    })

remove_listed : {s : LayerSet} {i : ℕ} {c : Changed} → Removes s i c → is_listed (11 ∷ []) (outcome_number c.outcome) ≡ true
remove_listed (no_such_layer n) = refl
remove_listed (removes l m) = refl

remove_kept : {s : LayerSet} {i : ℕ} {c : Changed} → Removes s i c → (number : ℕ) → outcome_number c.outcome ≡ some number → c.«set» ≡ s
remove_kept (no_such_layer n) number e = refl
remove_kept (removes l m) number e = not_refused e

pub layer_removed : Promised remove_layer
layer_removed =
    promised {answerTo = λ given. (removed_from given.set given.index).outcome} {left_by = λ given. (removed_from given.set given.index).«set»}
    (record {
      asks_nothing = λ run. tt;
      ensured = λ run e. (ap (λ (c : Changed). c.outcome) e, ap (λ (c : Changed). c.«set») e);
      right = λ given. remove_meant given.set given.is_set given.index;
      nothing_else = λ given means. (let same = remove_only given.set given.is_set given.index means in
          (ap (λ (c : Changed). c.outcome) same, ap (λ (c : Changed). c.«set») same));
      listed = λ given. remove_listed (remove_meant given.set given.is_set given.index);
      untouched = λ given number e. remove_kept (remove_meant given.set given.is_set given.index) number e;
    })

-- ---- the functions for C

-- the reply that a function's contract names tells this
record Tells (t : Told SetBuffers) (before : SetBuffers) (reply : SetReply) : Type 0 where
  answered : reply.answer ≡ code t
  layers_left : reply.layers ≡ (leaves t before).layers
  stored_left : reply.stored ≡ (leaves t before).stored

same_buffers : {a b : SetBuffers} → a.layers ≡ b.layers → a.stored ≡ b.stored → a ≡ b
same_buffers p q = ap₂ (λ (l s : List ℕ). record { layers = l; stored = s }) p q

-- from the whole reply to what is answered and what is left
told_so : (t : Told SetBuffers) (before : SetBuffers) (reply : SetReply) → Tells t before reply → (answer : ℕ) (layers stored : List ℕ)
    → set_reply answer layers stored ≡ reply → (answer ≡ code t) × (record { layers = layers; stored = stored } ≡ leaves t before)
told_so t before reply tells answer layers stored e = (
  ap (λ (r : SetReply). r.answer) e ∙ tells.answered,
  same_buffers (ap (λ (r : SetReply). r.layers) e ∙ tells.layers_left) (ap (λ (r : SetReply). r.stored) e ∙ tells.stored_left),
)

not_told : (b : SetBuffers) → Tells not_a_call b (set_reply not_a_call_code b.layers b.stored)
not_told b = record { answered = refl; layers_left = refl; stored_left = refl }

set_tells : (o : Outcome) (s : LayerSet) (b : SetBuffers) → Tells (set_told o s) b (changed_laid o s b.layers b.stored)
unfolding set_laid
set_tells (Ok tt) s b = record { answered = refl; layers_left = refl; stored_left = refl }
set_tells (Err refusal) s b = record { answered = refl; layers_left = refl; stored_left = refl }

set_fits : (o : Outcome) (s : LayerSet) → SmallOutcome o → Fits (set_told o s)
set_fits (Ok tt) s h = let small : size s.layers.present ≤ 64 = size_short s.layers.present in omega arith
set_fits (Err refusal) s h = omega arith

set_number : (numbers : List ℕ) (o : Outcome) (s : LayerSet) → is_listed numbers (outcome_number o) ≡ true → is_listed numbers (number_told (set_told o s)) ≡ true
set_number numbers (Ok tt) s e = refl
set_number numbers (Err refusal) s e = e

-- no set, from the test
no_set : (b : SetBuffers) → holds_set b.layers b.stored ≡ false → (s : LayerSet) → HoldsIn b s → ⊥
no_set b e s h = both_ways (held_only b.layers b.stored s h) e

-- ---- thq_set_read

abbrev read_under : SetReadGiven → Reading → Told SetBuffers
read_under given reading =
    cond (eqb (length given.buffers.layers) 5120)
    (cond (eqb (length given.buffers.stored) 192) (set_told (loop_set reading given.bytes).outcome (loop_set reading given.bytes).«set») not_a_call)
    not_a_call

abbrev told_set_read : SetReadGiven → Told SetBuffers
told_set_read given = told_by_year given.reading (read_under given)

read_replied : (given : SetReadGiven) → Tells (told_set_read given) given.buffers (read_set given.reading given.bytes given.buffers.layers given.buffers.stored)
unfolding read_set
read_replied given = go (eqb (length given.buffers.layers) 5120) (eqb (length given.buffers.stored) 192)
  where
    go : (p q : Bool) → Tells (told_by_year given.reading (λ reading. cond p (cond q (set_told (loop_set reading given.bytes).outcome (loop_set reading given.bytes).«set») not_a_call) not_a_call)) given.buffers
        (cond p (cond q (read_into (asked_for given.reading) given.bytes given.buffers.layers given.buffers.stored) (set_reply not_a_call_code given.buffers.layers given.buffers.stored))
        (set_reply not_a_call_code given.buffers.layers given.buffers.stored))
    go true true =
        asked (λ (a : Asked) (t : Told SetBuffers). Tells t given.buffers (read_into a given.bytes given.buffers.layers given.buffers.stored))
        (λ reading. set_told (loop_set reading given.bytes).outcome (loop_set reading given.bytes).«set») given.reading
        (λ reading. set_tells (loop_set reading given.bytes).outcome (loop_set reading given.bytes).«set» given.buffers) (not_told given.buffers)
    go true false =
        each_year (λ (t : Told SetBuffers). Tells t given.buffers (set_reply not_a_call_code given.buffers.layers given.buffers.stored)) given.reading (λ reading. not_a_call)
        (λ reading. not_told given.buffers) (not_told given.buffers)
    go false q =
        each_year (λ (t : Told SetBuffers). Tells t given.buffers (set_reply not_a_call_code given.buffers.layers given.buffers.stored)) given.reading (λ reading. not_a_call)
        (λ reading. not_told given.buffers) (not_told given.buffers)

read_exactly : (given : SetReadGiven) (reading : Reading) (answer : ℕ) (after : SetBuffers)
    → Says (read_under given reading) given.buffers answer after ↔ SetReadTells given reading answer after
read_exactly given reading answer after =
    go (eqb (length given.buffers.layers) 5120) refl (eqb (length given.buffers.stored) 192) refl
  where
    go : (p : Bool) → eqb (length given.buffers.layers) 5120 ≡ p → (q : Bool) → eqb (length given.buffers.stored) 192 ≡ q
        → Says (cond p (cond q (set_told (loop_set reading given.bytes).outcome (loop_set reading given.bytes).«set») not_a_call) not_a_call) given.buffers answer after
        ↔ SetReadTells given reading answer after
    go true e true f = (
      (λ s. Sets.told (eqb-true (length given.buffers.layers) 5120 e) (eqb-true (length given.buffers.stored) 192 f) (read_meant reading given.bytes) s),
      back,
    )
      where
        back : SetReadTells given reading answer after → Says (set_told (loop_set reading given.bytes).outcome (loop_set reading given.bytes).«set») given.buffers answer after
        back (Sets.told {o = o} {s = x} l m r s) =
            let same = read_only reading given.bytes r in
            subst (λ (y : LayerSet). Says (set_told (loop_set reading given.bytes).outcome y) given.buffers answer after) same.1
            (subst (λ (p : Outcome). Says (set_told p x) given.buffers answer after) same.0 s)
        back (Sets.wrong_layers d s) = absurd (d (eqb-true (length given.buffers.layers) 5120 e))
        back (Sets.wrong_stored d s) = absurd (d (eqb-true (length given.buffers.stored) 192 f))
    go true e false f = ((λ s. Sets.wrong_stored (eqb-false (length given.buffers.stored) 192 f) s), back)
      where
        back : SetReadTells given reading answer after → Says not_a_call given.buffers answer after
        back (Sets.told l m r s) = absurd (eqb-false (length given.buffers.stored) 192 f m)
        back (Sets.wrong_layers d s) = s
        back (Sets.wrong_stored d s) = s
    go false e q f = ((λ s. Sets.wrong_layers (eqb-false (length given.buffers.layers) 5120 e) s), back)
      where
        back : SetReadTells given reading answer after → Says not_a_call given.buffers answer after
        back (Sets.told l m r s) = absurd (eqb-false (length given.buffers.layers) 5120 e l)
        back (Sets.wrong_layers d s) = s
        back (Sets.wrong_stored d s) = s

small_set : (reading : Reading) (bytes : List ℕ) → SmallOutcome (loop_set reading bytes).outcome
unfolding loop_set
small_set reading bytes = (small_loop reading bytes).0

pub thq_set_read_lem : Promised (for_c thq_set_read)
thq_set_read_lem =
    told_promised thq_set_read told_set_read (record {
      asks_nothing = λ run. tt;
      ensured = λ run e. (let given = thq_set_read.given run in
          told_so (told_set_read given) given.buffers (read_set given.reading given.bytes given.buffers.layers given.buffers.stored) (read_replied given) _ _ _ e);
      exactly = λ given answer after. by_year given.reading (read_under given) given.buffers answer after (λ reading. read_exactly given reading answer after);
      fits = λ given. each_year Fits given.reading (read_under given)
          (λ reading. either_way Fits (eqb (length given.buffers.layers) 5120) (cond (eqb (length given.buffers.stored) 192) (set_told (loop_set reading given.bytes).outcome (loop_set reading given.bytes).«set») not_a_call) not_a_call
          (either_way Fits (eqb (length given.buffers.stored) 192) (set_told (loop_set reading given.bytes).outcome (loop_set reading given.bytes).«set») not_a_call
          (set_fits (loop_set reading given.bytes).outcome (loop_set reading given.bytes).«set» (small_set reading given.bytes)) tt) tt) tt;
      listed = λ given. each_year (λ (t : Told SetBuffers). is_listed thq_set_read.numbers (number_told t) ≡ true) given.reading (read_under given)
          (λ reading. either_way (λ (t : Told SetBuffers). is_listed thq_set_read.numbers (number_told t) ≡ true) (eqb (length given.buffers.layers) 5120) (cond (eqb (length given.buffers.stored) 192) (set_told (loop_set reading given.bytes).outcome (loop_set reading given.bytes).«set») not_a_call) not_a_call
          (either_way (λ (t : Told SetBuffers). is_listed thq_set_read.numbers (number_told t) ≡ true) (eqb (length given.buffers.stored) 192) (set_told (loop_set reading given.bytes).outcome (loop_set reading given.bytes).«set») not_a_call
          (set_number thq_set_read.numbers (loop_set reading given.bytes).outcome (loop_set reading given.bytes).«set»
          (listed_first read_loop.numbers (255 ∷ []) (outcome_number (loop_set reading given.bytes).outcome) (set_listed (read_meant reading given.bytes)))) refl) refl) refl;
      without_0 = refl;
    })

-- ---- thq_set_add

abbrev add_told : SetAddGiven → Changed
add_told given = added_to (set_in given.buffers.layers) (entry_in given.entry)

abbrev told_set_add : SetAddGiven → Told SetBuffers
told_set_add given =
    cond (holds_set given.buffers.layers given.buffers.stored)
    (cond (eqb (length given.entry) 80) (cond (some_too_wide given.entry) (refuses TooWide) (set_told (add_told given).outcome (add_told given).«set»)) not_a_call)
    not_a_call

add_replied : (given : SetAddGiven) → Tells (told_set_add given) given.buffers (add_set given.buffers.layers given.buffers.stored given.entry)
unfolding add_set
add_replied given = go (holds_set given.buffers.layers given.buffers.stored) (eqb (length given.entry) 80) (some_too_wide given.entry)
  where
    go : (p q r : Bool)
        → Tells (cond p (cond q (cond r (refuses TooWide) (set_told (add_told given).outcome (add_told given).«set»)) not_a_call) not_a_call) given.buffers
        (cond p
        (cond q (cond r (set_reply (refused TooWide) given.buffers.layers given.buffers.stored) (after_change (add_told given) given.buffers.layers given.buffers.stored))
        (set_reply not_a_call_code given.buffers.layers given.buffers.stored))
        (set_reply not_a_call_code given.buffers.layers given.buffers.stored))
    go true true true = record { answered = refl; layers_left = refl; stored_left = refl }
    go true true false = set_tells (add_told given).outcome (add_told given).«set» given.buffers
    go true false r = not_told given.buffers
    go false q r = not_told given.buffers

-- what is answered of a set that is held, whichever was named
held_add : (given : SetAddGiven) {s t : LayerSet} {o : Outcome} → HoldsIn given.buffers s → Adds s (entry_in given.entry) (record { outcome = o; «set» = t })
    → record { outcome = o; «set» = t } ≡ add_told given
held_add given {s} {t} {o} h a =
    add_only s h.is_set (entry_in given.entry) a ∙ ap (λ (x : LayerSet). added_to x (entry_in given.entry)) (held_one given.buffers.layers given.buffers.stored s h)

add_exactly : (given : SetAddGiven) (answer : ℕ) (after : SetBuffers) → Says (told_set_add given) given.buffers answer after ↔ SetAddTells given answer after
add_exactly given answer after =
    go (holds_set given.buffers.layers given.buffers.stored) refl (eqb (length given.entry) 80) refl (some_too_wide given.entry) refl
  where
    held : holds_set given.buffers.layers given.buffers.stored ≡ true → HoldsIn given.buffers (set_in given.buffers.layers)
    held e = held_meant given.buffers.layers given.buffers.stored e

    go : (p : Bool) → holds_set given.buffers.layers given.buffers.stored ≡ p → (q : Bool) → eqb (length given.entry) 80 ≡ q → (r : Bool) → some_too_wide given.entry ≡ r
        → Says (cond p (cond q (cond r (refuses TooWide) (set_told (add_told given).outcome (add_told given).«set»)) not_a_call) not_a_call) given.buffers answer after
        ↔ SetAddTells given answer after
    go true e true f true g = ((λ s. Sets.wide (held e) (eqb-true (length given.entry) 80 f) g s), back)
      where
        back : SetAddTells given answer after → Says (refuses TooWide) given.buffers answer after
        back (Sets.no_set n s) = absurd (n (set_in given.buffers.layers) (held e))
        back (Sets.no_entry d s) = absurd (d (eqb-true (length given.entry) 80 f))
        back (Sets.wide h l w s) = s
        back (Sets.told h l w a s) = both_ways g w
    go true e true f false g = (
      (λ s. Sets.told (held e) (eqb-true (length given.entry) 80 f) g (add_meant (set_in given.buffers.layers) (held e).is_set (entry_in given.entry)) s),
      back,
    )
      where
        back : SetAddTells given answer after → Says (set_told (add_told given).outcome (add_told given).«set») given.buffers answer after
        back (Sets.no_set n s) = absurd (n (set_in given.buffers.layers) (held e))
        back (Sets.no_entry d s) = absurd (d (eqb-true (length given.entry) 80 f))
        back (Sets.wide h l w s) = both_ways w g
        back (Sets.told {s = x} {t = y} {o = o} h l w a s) =
            subst (λ (c : Changed). Says (set_told c.outcome c.«set») given.buffers answer after) (held_add given {s = x} {t = y} {o = o} h a) s
    go true e false f r g = ((λ s. Sets.no_entry (eqb-false (length given.entry) 80 f) s), back)
      where
        back : SetAddTells given answer after → Says not_a_call given.buffers answer after
        back (Sets.no_set n s) = s
        back (Sets.no_entry d s) = s
        back (Sets.wide h l w s) = absurd (eqb-false (length given.entry) 80 f l)
        back (Sets.told h l w a s) = absurd (eqb-false (length given.entry) 80 f l)
    go false e q f r g = ((λ s. Sets.no_set (no_set given.buffers e) s), back)
      where
        back : SetAddTells given answer after → Says not_a_call given.buffers answer after
        back (Sets.no_set n s) = s
        back (Sets.no_entry d s) = s
        back (Sets.wide h l w s) = absurd (no_set given.buffers e _ h)
        back (Sets.told h l w a s) = absurd (no_set given.buffers e _ h)

-- what adding answers of a set that is held: its numbers, and that each place is 0
small_add : {s : LayerSet} {e : Entry} {c : Changed} → Adds s e c → SmallOutcome c.outcome
small_add (too_wide_lem w) = omega arith
small_add (add-refuses {refusal = r} w c p l) = let at-0 : place_of r ≡ 0 = p in omega arith
small_add (adds w free m) = tt

-- of the told answer, by cases of the test
add_each : (P : Told SetBuffers → Type 0) (given : SetAddGiven) → P not_a_call → P (refuses TooWide)
    → (holds_set given.buffers.layers given.buffers.stored ≡ true → P (set_told (add_told given).outcome (add_told given).«set»)) → P (told_set_add given)
add_each P given nothing wide added = go (holds_set given.buffers.layers given.buffers.stored) refl (eqb (length given.entry) 80) (some_too_wide given.entry)
  where
    go : (p : Bool) → holds_set given.buffers.layers given.buffers.stored ≡ p → (q r : Bool)
        → P (cond p (cond q (cond r (refuses TooWide) (set_told (add_told given).outcome (add_told given).«set»)) not_a_call) not_a_call)
    go true e true true = wide
    go true e true false = added e
    go true e false r = nothing
    go false e q r = nothing

pub thq_set_add_lem : Promised (for_c thq_set_add)
thq_set_add_lem =
    told_promised thq_set_add told_set_add (record {
      asks_nothing = λ run. tt;
      ensured = λ run e. (let given = thq_set_add.given run in
          told_so (told_set_add given) given.buffers (add_set given.buffers.layers given.buffers.stored given.entry) (add_replied given) _ _ _ e);
      exactly = add_exactly;
      fits = λ given. add_each Fits given tt (omega arith)
          (λ e. set_fits (add_told given).outcome (add_told given).«set»
          (small_add (add_meant (set_in given.buffers.layers) (held_meant given.buffers.layers given.buffers.stored e).is_set (entry_in given.entry))));
      listed = λ given. add_each (λ (t : Told SetBuffers). is_listed thq_set_add.numbers (number_told t) ≡ true) given refl refl
          (λ e. set_number thq_set_add.numbers (add_told given).outcome (add_told given).«set»
          (listed_first add_layer.numbers (255 ∷ []) (outcome_number (add_told given).outcome)
          (add_listed (add_meant (set_in given.buffers.layers) (held_meant given.buffers.layers given.buffers.stored e).is_set (entry_in given.entry)))));
      without_0 = refl;
    })

-- ---- thq_set_remove

abbrev remove_told : SetRemoveGiven → Changed
remove_told given = removed_from (set_in given.buffers.layers) given.index

abbrev told_set_remove : SetRemoveGiven → Told SetBuffers
told_set_remove given =
    cond (holds_set given.buffers.layers given.buffers.stored) (set_told (remove_told given).outcome (remove_told given).«set») not_a_call

remove_replied : (given : SetRemoveGiven) → Tells (told_set_remove given) given.buffers (remove_set given.buffers.layers given.buffers.stored given.index)
unfolding remove_set
remove_replied given = go (holds_set given.buffers.layers given.buffers.stored)
  where
    go : (p : Bool) → Tells (cond p (set_told (remove_told given).outcome (remove_told given).«set») not_a_call) given.buffers
        (cond p (after_change (remove_told given) given.buffers.layers given.buffers.stored) (set_reply not_a_call_code given.buffers.layers given.buffers.stored))
    go true = set_tells (remove_told given).outcome (remove_told given).«set» given.buffers
    go false = not_told given.buffers

remove_exactly : (given : SetRemoveGiven) (answer : ℕ) (after : SetBuffers) → Says (told_set_remove given) given.buffers answer after ↔ SetRemoveTells given answer after
remove_exactly given answer after = go (holds_set given.buffers.layers given.buffers.stored) refl
  where
    held : holds_set given.buffers.layers given.buffers.stored ≡ true → HoldsIn given.buffers (set_in given.buffers.layers)
    held e = held_meant given.buffers.layers given.buffers.stored e

    go : (p : Bool) → holds_set given.buffers.layers given.buffers.stored ≡ p
        → Says (cond p (set_told (remove_told given).outcome (remove_told given).«set») not_a_call) given.buffers answer after ↔ SetRemoveTells given answer after
    go true e = ((λ s. Sets.told (held e) (remove_meant (set_in given.buffers.layers) (held e).is_set given.index) s), back)
      where
        back : SetRemoveTells given answer after → Says (set_told (remove_told given).outcome (remove_told given).«set») given.buffers answer after
        back (Sets.no_set n s) = absurd (n (set_in given.buffers.layers) (held e))
        back (Sets.told {s = x} {t = y} {o = o} h a s) =
            subst (λ (c : Changed). Says (set_told c.outcome c.«set») given.buffers answer after)
            (remove_only x h.is_set given.index a ∙ ap (λ (z : LayerSet). removed_from z given.index) (held_one given.buffers.layers given.buffers.stored x h)) s
    go false e = ((λ s. Sets.no_set (no_set given.buffers e) s), back)
      where
        back : SetRemoveTells given answer after → Says not_a_call given.buffers answer after
        back (Sets.no_set n s) = s
        back (Sets.told h a s) = absurd (no_set given.buffers e _ h)

small_remove : {s : LayerSet} {i : ℕ} {c : Changed} → Removes s i c → SmallOutcome c.outcome
small_remove (no_such_layer n) = omega arith
small_remove (removes l m) = tt

remove_each : (P : Told SetBuffers → Type 0) (given : SetRemoveGiven) → P not_a_call
    → (holds_set given.buffers.layers given.buffers.stored ≡ true → P (set_told (remove_told given).outcome (remove_told given).«set»)) → P (told_set_remove given)
remove_each P given nothing removed = go (holds_set given.buffers.layers given.buffers.stored) refl
  where
    go : (p : Bool) → holds_set given.buffers.layers given.buffers.stored ≡ p → P (cond p (set_told (remove_told given).outcome (remove_told given).«set») not_a_call)
    go true e = removed e
    go false e = nothing

pub thq_set_remove_lem : Promised (for_c thq_set_remove)
thq_set_remove_lem =
    told_promised thq_set_remove told_set_remove (record {
      asks_nothing = λ run. tt;
      ensured = λ run e. (let given = thq_set_remove.given run in
          told_so (told_set_remove given) given.buffers (remove_set given.buffers.layers given.buffers.stored given.index) (remove_replied given) _ _ _ e);
      exactly = remove_exactly;
      fits = λ given. remove_each Fits given tt
          (λ e. set_fits (remove_told given).outcome (remove_told given).«set»
          (small_remove (remove_meant (set_in given.buffers.layers) (held_meant given.buffers.layers given.buffers.stored e).is_set given.index)));
      listed = λ given. remove_each (λ (t : Told SetBuffers). is_listed thq_set_remove.numbers (number_told t) ≡ true) given refl
          (λ e. set_number thq_set_remove.numbers (remove_told given).outcome (remove_told given).«set»
          (listed_first (11 ∷ []) (255 ∷ []) (outcome_number (remove_told given).outcome)
          (remove_listed (remove_meant (set_in given.buffers.layers) (held_meant given.buffers.layers given.buffers.stored e).is_set given.index))));
      without_0 = refl;
    })

-- ---- thq_set_closure

abbrev closure_found : SetClosureGiven → Closure
closure_found given = closure_in (set_in given.buffers.layers) given.target

abbrev told_set_closure : SetClosureGiven → Told (List ℕ)
told_set_closure given = cond (holds_set given.buffers.layers given.buffers.stored) (closure_told (closure_found given) given.closure) not_a_call

closure_laid_lem : (found : Closure) (room : List ℕ) → ((closure_laid found room).answer ≡ code (closure_told found room)) × ((closure_laid found room).buffer ≡ leaves (closure_told found room) room)
closure_laid_lem (Err refusal) room = (refl, refl)
closure_laid_lem (Ok members) room = go (ltb (length room) 1)
  where
    go : (b : Bool) → ((cond b (unchanged NoRoom room) (reply (accepted (size members)) (over (members ∷ []) room))).answer ≡ code (cond b (refuses NoRoom) (counts (size members) (over (members ∷ []) room))))
        × ((cond b (unchanged NoRoom room) (reply (accepted (size members)) (over (members ∷ []) room))).buffer ≡ leaves (cond b (refuses NoRoom) (counts (size members) (over (members ∷ []) room))) room)
    go true = (refl, refl)
    go false = (refl, refl)

closure_replied : (given : SetClosureGiven)
    → ((closure_set given.buffers.layers given.buffers.stored given.target given.closure).answer ≡ code (told_set_closure given))
    × ((closure_set given.buffers.layers given.buffers.stored given.target given.closure).buffer ≡ leaves (told_set_closure given) given.closure)
unfolding closure_set
closure_replied given = go (holds_set given.buffers.layers given.buffers.stored)
  where
    go : (p : Bool) → ((cond p (closure_laid (closure_found given) given.closure) (reply not_a_call_code given.closure)).answer ≡ code (cond p (closure_told (closure_found given) given.closure) not_a_call))
        × ((cond p (closure_laid (closure_found given) given.closure) (reply not_a_call_code given.closure)).buffer ≡ leaves (cond p (closure_told (closure_found given) given.closure) not_a_call) given.closure)
    go true = closure_laid_lem (closure_found given) given.closure
    go false = (refl, refl)

closure_exactly : (given : SetClosureGiven) (answer : ℕ) (after : List ℕ) → Says (told_set_closure given) given.closure answer after ↔ SetClosureTells given answer after
closure_exactly given answer after = go (holds_set given.buffers.layers given.buffers.stored) refl
  where
    held : holds_set given.buffers.layers given.buffers.stored ≡ true → HoldsIn given.buffers (set_in given.buffers.layers)
    held e = held_meant given.buffers.layers given.buffers.stored e

    go : (p : Bool) → holds_set given.buffers.layers given.buffers.stored ≡ p
        → Says (cond p (closure_told (closure_found given) given.closure) not_a_call) given.closure answer after ↔ SetClosureTells given answer after
    go true e = ((λ s. Sets.told (held e) (target_meant (set_in given.buffers.layers) (held e).is_set given.target) s), back)
      where
        back : SetClosureTells given answer after → Says (closure_told (closure_found given) given.closure) given.closure answer after
        back (Sets.no_set n s) = absurd (n (set_in given.buffers.layers) (held e))
        back (Sets.told {s = x} {found = found} h a s) =
            subst (λ (f : Closure). Says (closure_told f given.closure) given.closure answer after)
            (target_only x h.is_set given.target a ∙ ap (λ (z : LayerSet). closure_in z given.target) (held_one given.buffers.layers given.buffers.stored x h)) s
    go false e = ((λ s. Sets.no_set (no_set given.buffers e) s), back)
      where
        back : SetClosureTells given answer after → Says not_a_call given.closure answer after
        back (Sets.no_set n s) = s
        back (Sets.told h a s) = absurd (no_set given.buffers e _ h)

-- 11 and 12, and a place that is an index
target_small : {layers : Layers} {target : ℕ} {found : Closure} → Target.Answers layers target found → SmallClosure found
target_small (Target.no_such_layer n) = omega arith
target_small {layers} {target} (Target.absent {index} there lowest) =
    let at_most : index.0 ≤ target = rests_on_at_most layers target index.0 lowest.missing.rested_on in
    let inside : target < 64 = layer_below_64 layers target there in
    omega arith
target_small (Target.complete there whole) = tt

target_listed : {layers : Layers} {target : ℕ} {found : Closure} (room : List ℕ) → Target.Answers layers target found
    → is_listed thq_set_closure.numbers (number_told (closure_told found room)) ≡ true
target_listed room (Target.no_such_layer n) = refl
target_listed room (Target.absent there lowest) = refl
target_listed room (Target.complete {set} there whole) =
    either_way (λ (t : Told (List ℕ)). is_listed thq_set_closure.numbers (number_told t) ≡ true) (ltb (length room) 1) (refuses NoRoom)
    (counts (size set) (over (set ∷ []) room)) refl refl

closure_each : (P : Told (List ℕ) → Type 0) (given : SetClosureGiven) → P not_a_call
    → (holds_set given.buffers.layers given.buffers.stored ≡ true → P (closure_told (closure_found given) given.closure)) → P (told_set_closure given)
closure_each P given nothing found = go (holds_set given.buffers.layers given.buffers.stored) refl
  where
    go : (p : Bool) → holds_set given.buffers.layers given.buffers.stored ≡ p → P (cond p (closure_told (closure_found given) given.closure) not_a_call)
    go true e = found e
    go false e = nothing

found_meant : (given : SetClosureGiven) → holds_set given.buffers.layers given.buffers.stored ≡ true
    → Target.Answers (set_in given.buffers.layers).layers given.target (closure_found given)
found_meant given e = target_meant (set_in given.buffers.layers) (held_meant given.buffers.layers given.buffers.stored e).is_set given.target

pub thq_set_closure_lem : Promised (for_c thq_set_closure)
thq_set_closure_lem =
    told_promised thq_set_closure told_set_closure (record {
      asks_nothing = λ run. tt;
      ensured = λ run e. (let given = thq_set_closure.given run in let replied = closure_replied given in
          (ap (λ (r : Reply). r.answer) e ∙ replied.0, ap (λ (r : Reply). r.buffer) e ∙ replied.1));
      exactly = closure_exactly;
      fits = λ given. closure_each Fits given tt (λ e. closure_fits (closure_found given) given.closure (target_small (found_meant given e)));
      listed = λ given. closure_each (λ (t : Told (List ℕ)). is_listed thq_set_closure.numbers (number_told t) ≡ true) given refl
          (λ e. target_listed given.closure (found_meant given e));
      without_0 = refl;
    })
