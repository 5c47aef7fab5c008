-- A syntax table with loops and conditions, as the standard prints it: its parts in order, each a table of fixed lines that is there once, as often as
-- a line before it says, or only where a test of the lines before it holds. What reading finds, and what it means that bytes are such a structure,
-- are both read off the one list; proofs/Parsed.antt joins the two.
-- Assumes nothing.
use Rattle.std.specs.Prelude.{ℕ, ◌+◌, ◌*◌, Bool, true, false, cond, List, [], ◌∷◌, ◌++◌, ◌≡◌, length, drop}
use Prim.Native.String.{String}
use Rattle.syntax.specs.Table.{Table, bytes}
use Rattle.syntax.specs.Named.{Given, given_to, read_by}

pub data Part : Type 0 where
  lines : Table → Part
  -- for (i = 0; i < NAME; i++) { .. }
  repeated : String → Table → Part
  -- if (..) { .. }
  when : (Given → Bool) → Table → Part

-- READING. Where the parts end, and what their lines are given, from a place of the bytes on and after the lines before them; past the end of the
-- bytes stand zeros. The lines of a repeated table are not kept: its place is enough.
pub record Walked : Type 0 where
  pub end : ℕ
  pub given : Given

abbrev pub walked : List Part → Given → ℕ → List ℕ → Walked
walked [] given at l = record { end = at; given = given }
walked (lines t ∷ parts) given at l = walked parts (given ++ read_by t (drop at l)) (at + bytes t) l
walked (repeated name t ∷ parts) given at l = walked parts given (at + given_to name given * bytes t) l
walked (when test t ∷ parts) given at l =
    walked parts (given ++ cond (test given) (read_by t (drop at l)) []) (at + cond (test given) (bytes t) 0) l

-- MEANING. Bytes are exactly the parts, one after another, and the lines are given so.
pub data Parses : List Part → Given → List ℕ → Given → Type 0 where
  nothing : {given : Given} → Parses [] given [] given
  lines_then : {t : Table} {parts : List Part} {given all : Given} (l rest : List ℕ) → length l ≡ bytes t → Parses parts (given ++ read_by t l) rest all
      → Parses (lines t ∷ parts) given (l ++ rest) all
  repeated_then : {name : String} {t : Table} {parts : List Part} {given all : Given} (l rest : List ℕ) → length l ≡ given_to name given * bytes t
      → Parses parts given rest all → Parses (repeated name t ∷ parts) given (l ++ rest) all
  when_there : {test : Given → Bool} {t : Table} {parts : List Part} {given all : Given} (l rest : List ℕ) → test given ≡ true → length l ≡ bytes t
      → Parses parts (given ++ read_by t l) rest all → Parses (when test t ∷ parts) given (l ++ rest) all
  when_not : {test : Given → Bool} {t : Table} {parts : List Part} {given all : Given} {l : List ℕ} → test given ≡ false → Parses parts given l all
      → Parses (when test t ∷ parts) given l all
