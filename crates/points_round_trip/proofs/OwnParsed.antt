-- Bytes of the writer's own shape are parsed, and are written of whatever gives their lines and lists what they carry. For every list of parts.
-- Assumes nothing.
use Prim.Native.Nat.{ℕ, suc, ◌+◌, ◌*◌}
use Rattle.std.specs.Prelude.{◌≡◌, true, List, [], ◌∷◌, ◌++◌, length}
use Rattle.std.proofs.Common.{sym, ap₂, ◌∙◌, subst, arith, suc-mul, add_comm, length-append}
use Rattle.syntax.specs.Table.{Table, AreBytes, bytes, number, read_table, fixed_hold, Written}
use Rattle.syntax.specs.Named.{Given, values_by, read_by}
use Rattle.operation_points.specs.Parts.{Part, Parses}
use Rattle.point_fields.specs.WrittenParts.{Lists, WritesEach, WritesParts}
use Rattle.points_round_trip.specs.OwnShape.{Ones, OwnEach, OwnParts}
use Rattle.points_round_trip.specs.OwnParsed.{Carried, Plain, items_of}

-- ---- as parsed

pub each_long : {t : Table} {n : ℕ} {l : List ℕ} → OwnEach t n l → length l ≡ n * bytes t
each_long {t} OwnEach.none = (let z : 0 ≡ 0 * bytes t = omega arith in z)
each_long {t} (OwnEach.one_then {n} l rest long ones each) =
    length-append l rest ∙ ap₂ (λ (a b : ℕ). a + b) long (each_long each) ∙ add_comm (bytes t) (n * bytes t) ∙ sym (suc-mul n (bytes t))

pub own_parses : {parts : List Part} {before all : Given} {l : List ℕ} → OwnParts parts before l all → Parses parts before l all
own_parses OwnParts.nothing = Parses.nothing
own_parses (OwnParts.lines_then l rest long ones p) = Parses.lines_then l rest long (own_parses p)
own_parses (OwnParts.repeated_then l rest each p) = Parses.repeated_then l rest (each_long each) (own_parses p)
own_parses (OwnParts.when_there l rest e long ones p) = Parses.when_there l rest e long (own_parses p)
own_parses (OwnParts.when_not e p) = Parses.when_not e (own_parses p)

pub bytes_left : (l rest : List ℕ) → AreBytes (l ++ rest) → AreBytes l
bytes_left [] rest b i = omega arith
bytes_left (x ∷ l) rest b Prim.Native.Nat.zero = b 0
bytes_left (x ∷ l) rest b (suc i) = bytes_left l rest (λ j. b (suc j)) i

pub bytes_right : (l rest : List ℕ) → AreBytes (l ++ rest) → AreBytes rest
bytes_right [] rest b = b
bytes_right (x ∷ l) rest b = bytes_right l rest (λ j. b (suc j))

table_written : {t : Table} {l vs : List ℕ} → ((n : ℕ) → fixed_hold t n ≡ true) → length l ≡ bytes t → AreBytes l → Ones t l → read_table t l ≡ vs → Written t vs l
table_written {t} {l} plain long b ones e =
    record { as_long = long; in_bytes = b; carries = record { values = e; fixed_bits = plain (number (bytes t) l); reserved_bits = ones } }

each_writes : {t : Table} {n : ℕ} {l : List ℕ} → ((n : ℕ) → fixed_hold t n ≡ true) → ((l : List ℕ) → read_table t l ≡ values_by t (read_by t l)) → AreBytes l
    → (each : OwnEach t n l) → WritesEach t (items_of each) l
each_writes plain told b OwnEach.none = WritesEach.nothing
each_writes plain told b (OwnEach.one_then l rest long ones each) =
    WritesEach.one_then (table_written plain long (bytes_left l rest b) ones (told l)) (each_writes plain told (bytes_right l rest b) each)

module _ (given : Given) (lists : Lists) where
  pub own_writes : {parts : List Part} {before all : Given} {l : List ℕ} → Plain parts → AreBytes l → (p : OwnParts parts before l all) → Carried given lists p
      → WritesParts given lists parts l
  own_writes plain b OwnParts.nothing c = WritesParts.nothing
  own_writes plain b (OwnParts.lines_then l rest long ones p) c =
      WritesParts.lines_then (table_written plain.0 long (bytes_left l rest b) ones c.0) (own_writes plain.1 (bytes_right l rest b) p c.1)
  own_writes plain b (OwnParts.repeated_then {t = t} l rest each p) c =
      WritesParts.repeated_then (subst (λ (items : List Given). WritesEach t items l) c.0 (each_writes plain.0 plain.1 (bytes_left l rest b) each))
      (own_writes plain.2 (bytes_right l rest b) p c.1)
  own_writes plain b (OwnParts.when_there l rest e long ones p) c =
      WritesParts.when_there c.0 (table_written plain.0 long (bytes_left l rest b) ones c.1) (own_writes plain.1 (bytes_right l rest b) p c.2)
  own_writes plain b (OwnParts.when_not e p) c = WritesParts.when_not c.0 (own_writes plain.1 b p c.1)
