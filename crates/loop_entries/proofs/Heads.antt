-- The head of an entry at unknown bytes: the values of its table as the code takes them.
-- Assumes nothing.
use Prim.Native.Nat.{ℕ, ◌+◌, ◌*◌, ◌%◌}
use mathlib.Core.Path.{◌≡◌, ap, sym, ◌∙◌}
use mathlib.Core.List.{List, [], ◌∷◌}
use native.Mathlib.Omega.{arith}
use lib.ListN.{get_or, take, drop}
use Rattle.framing.specs.Pieces.{whole}
use Rattle.syntax.specs.Table.{AreBytes, read_table}
use Rattle.syntax.proofs.Laws.{read_take}
use Rattle.syntax.proofs.Equations.{each}
use Rattle.vocabulary.specs.declared.stream_types.Reading.{Reading}
use Rattle.loop_entries.specs.declared.Stream.{Stream}
use Rattle.loop_entries.specs.Entries.{entry_head, es_info_length, seen_in, stream_of}

abbrev head_values : List ℕ → List ℕ
head_values l = get_or l 0 0 ∷ (get_or l 1 0 % 32 * 256 + get_or l 2 0) ∷ (get_or l 3 0 % 16 * 256 + get_or l 4 0) ∷ []

head_bytes : (l : List ℕ) → AreBytes l → read_table entry_head l ≡ head_values l
head_bytes l b = each {xs = read_table entry_head l} {ys = head_values l} (omega (arith, b 0, b 1, b 2, b 3, b 4))

pub length_bytes : (l : List ℕ) → AreBytes l → es_info_length l ≡ get_or l 3 0 % 16 * 256 + get_or l 4 0
length_bytes l b = ap (λ (vs : List ℕ). get_or vs 2 0) (head_bytes l b)

abbrev stream_from : Reading → List ℕ → List ℕ → Stream
stream_from reading values info =
    record {
      fits = (seen_in reading (get_or values 0 0) info).fits;
      stream_type = get_or values 0 0;
      pid = get_or values 1 0;
      seen = seen_in reading (get_or values 0 0) info;
    }

-- a whole entry, its head and its descriptors together
pub stream_bytes : (reading : Reading) (l : List ℕ) → AreBytes l
    → stream_from reading (head_values l) (drop 5 l) ≡ stream_of reading (whole (take 5 l) (drop 5 l))
stream_bytes reading l b =
    ap (λ (vs : List ℕ). stream_from reading vs (drop 5 l)) (sym (read_take entry_head l ∙ head_bytes l b))
