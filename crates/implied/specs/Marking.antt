-- THE MARK, where the rule gives one. 'Reading answers the implied mark with these values and no other field of a record.'
-- Assumes nothing.
use Rattle.std.specs.Prelude.{ℕ, Bool, true, false, cond, []}
use Rattle.records.specs.declared.Record.{Record}
use Rattle.records.specs.declared.Record.TheVariants.{NoRecord, Hierarchy, Extension, Implied}
use Rattle.descriptors.specs.declared.looking.Named.{Named}
use Rattle.descriptors.specs.declared.looking.Seen.{Seen}
use Rattle.records.specs.Records.{names_of}
use Rattle.implied.specs.Rule.{given}

-- whether a record is a hierarchy descriptor (tag 4)
abbrev pub is_described : Record → Bool
is_described NoRecord = false
is_described (Hierarchy h) = true
is_described (Extension x) = false
is_described Implied = false

-- the mark in place of no record
abbrev pub with_mark : Record → Record
with_mark NoRecord = Implied
with_mark (Hierarchy h) = Hierarchy h
with_mark (Extension x) = Extension x
with_mark Implied = Implied

-- the record of a stream of this type, in a loop that has the pair or has not
abbrev pub marked_record : Bool → ℕ → Record → Record
marked_record pair t r = cond (given pair t) (with_mark r) r

-- what is seen of such a stream, with the mark
abbrev pub marked_seen : Bool → ℕ → Seen → Seen
marked_seen pair t s =
    record {
      fits = s.fits;
      wrong_length = s.wrong_length;
      second_record = s.second_record;
      «record» = marked_record pair t s.«record»;
      embedded = s.embedded;
    }

-- its record and the layers that this names, with the mark
abbrev pub with_names : ℕ → Record → Named → Named
with_names t NoRecord n = record { «record» = Implied; names = names_of t Implied [] }
with_names t (Hierarchy h) n = n
with_names t (Extension x) n = n
with_names t Implied n = n

abbrev pub marked_named : Bool → ℕ → Named → Named
marked_named pair t n = cond (given pair t) (with_names t n.«record» n) n
