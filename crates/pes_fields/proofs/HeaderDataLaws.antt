-- Fields one after the other: what `after` says of a field that is there, and of several as one.
-- Assumes nothing.
use Prim.Native.Nat.{ℕ, ◌+◌, ◌*◌, ◌/◌, ◌%◌, ◌^◌, ◌≤◌, ◌<◌}
use mathlib.Core.Path.{◌≡◌, refl, sym, ap, ap₂, ◌∙◌}
use mathlib.Core.Bool.{Bool, true, false, cond, ◌&&◌}
use mathlib.Core.List.{List, [], ◌∷◌}
use native.Mathlib.Omega.{arith}
use borrow.Author.Tests.{leb-true, leb-false, le-leb, lt-leb, eq-eqb, ne_eqb}
use lib.Dec.{leb, eqb}
use lib.ListN.{length, drop, length-drop}
use lib.Seq.{drop-drop}
use Rattle.syntax.specs.Table.{fixed_hold}
use Rattle.syntax.specs.Named.{named}
use Rattle.stamps.specs.Stamps.{dts_flag}
use Rattle.pes_fields.specs.Tables.{extension_flags, second_extension}
use Rattle.pes_fields.specs.HeaderData.{sum, Flags, after, after_all, tref_flagged, field_bytes, after_crc, header_data_of}
use Rattle.pes_fields.specs.declared.Extension.{Extension}
use Rattle.pes_fields.specs.declared.Extension.TheVariants.{DoesNotFit}

module _ (n : ℕ) (l : List ℕ) (next : List ℕ → Extension) where
  pub after_fits : n ≤ length l → after n l next ≡ next (drop n l)
  after_fits h = ap (λ (t : Bool). cond t (next (drop n l)) DoesNotFit) (le-leb n (length l) h)

  pub after_short : length l < n → after n l next ≡ DoesNotFit
  after_short h = ap (λ (t : Bool). cond t (next (drop n l)) DoesNotFit) (lt-leb n (length l) h)

-- two fields are one of both their bytes
pub after_after : (m n : ℕ) (l : List ℕ) (next : List ℕ → Extension) → after m l (λ rest. after n rest next) ≡ after (m + n) l next
after_after m n l next = first (leb m (length l)) refl
  where
    second : (t : Bool) → m ≤ length l → leb n (length (drop m l)) ≡ t → after n (drop m l) next ≡ after (m + n) l next
    second true h e =
        after_fits n (drop m l) next (leb-true n (length (drop m l)) e)
        ∙ ap next (drop-drop n m l)
        ∙ sym (after_fits (m + n) l next (omega (arith, leb-true n (length (drop m l)) e, length-drop m l)))
    second false h e =
        after_short n (drop m l) next (leb-false n (length (drop m l)) e)
        ∙ sym (after_short (m + n) l next (omega (arith, leb-false n (length (drop m l)) e, length-drop m l)))

    first : (t : Bool) → leb m (length l) ≡ t → after m l (λ rest. after n rest next) ≡ after (m + n) l next
    first true e =
        after_fits m l (λ rest. after n rest next) (leb-true m (length l) e)
        ∙ second (leb n (length (drop m l))) (leb-true m (length l) e) refl
    first false e =
        after_short m l (λ rest. after n rest next) (leb-false m (length l) e)
        ∙ sym (after_short (m + n) l next (omega (arith, leb-false m (length l) e)))

-- fields one after the other are one of all their bytes
pub all_as_one : (ns l : List ℕ) (next : List ℕ → Extension) → after_all ns l next ≡ after (sum ns) l next
all_as_one [] l next = sym (after_fits 0 l next (omega arith))
all_as_one (n ∷ ns) l next =
    ap (λ (x : Extension). cond (leb n (length l)) x DoesNotFit) (all_as_one ns (drop n l) next) ∙ after_after n (sum ns) l next

-- the two flags before TREF, as tests of their byte
pub tref_flagged_lem : (b : ℕ) → b < 256 → 128 ≤ b → (b % 2 ≡ 1 → ⊥) → tref_flagged b ≡ true
tref_flagged_lem b byte high even = ap₂ ◌&&◌ (eq-eqb (b / 2 ^ 7 % 2 ^ 1) 1 (omega arith)) (eq-eqb (b / 2 ^ 0 % 2 ^ 1) 0 (omega arith))

pub no_stream_id_extension : (b : ℕ) → b < 128 → tref_flagged b ≡ false
no_stream_id_extension b low = ap (λ (t : Bool). t && eqb (b / 2 ^ 0 % 2 ^ 1) 0) (ne_eqb (b / 2 ^ 7 % 2 ^ 1) 1 (omega arith))

pub no_tref : (b : ℕ) → b % 2 ≡ 1 → tref_flagged b ≡ false
no_tref b odd =
    ap (λ (t : Bool). eqb (b / 2 ^ 7 % 2 ^ 1) 1 && t) (ne_eqb (b / 2 ^ 0 % 2 ^ 1) 0 (omega arith))
    ∙ never (eqb (b / 2 ^ 7 % 2 ^ 1) 1)
  where
    never : (t : Bool) → t && false ≡ false
    never true = refl
    never false = refl

-- the byte before the second extension: its marker, and its length
pub length_of_second : (b : ℕ) → named "PES_extension_field_length" second_extension b ≡ b % 128
length_of_second b = omega arith

pub marker_of_second : (b : ℕ) → b < 256 → eqb (b / 128) 1 ≡ fixed_hold second_extension b
marker_of_second b byte = ap (λ (x : ℕ). eqb x 1) first ∙ alone (eqb (b / 2 ^ 7 % 2 ^ 1) 1)
  where
    first : b / 128 ≡ b / 2 ^ 7 % 2 ^ 1
    first = omega arith

    alone : (t : Bool) → t ≡ t && true
    alone true = refl
    alone false = refl

-- the flags of the extension, as parts of their byte
pub flag_of_private_data : (b : ℕ) → b < 256 → named "PES_private_data_flag" extension_flags b ≡ b / 128
flag_of_private_data b byte = omega arith

pub flag_of_pack_header : (b : ℕ) → named "pack_header_field_flag" extension_flags b ≡ b / 64 % 2
flag_of_pack_header b = omega arith

pub flag_of_counter : (b : ℕ) → named "program_packet_sequence_counter_flag" extension_flags b ≡ b / 32 % 2
flag_of_counter b = omega arith

pub flag_of_buffer : (b : ℕ) → named "P-STD_buffer_flag" extension_flags b ≡ b / 16 % 2
flag_of_buffer b = omega arith

pub flag_of_second : (b : ℕ) → named "PES_extension_flag_2" extension_flags b ≡ b % 2
flag_of_second b = omega arith

-- where the header data fit, PTS and DTS do
pub fields_within : (flags : Flags) (l : List ℕ) → (header_data_of flags l ≡ DoesNotFit → ⊥) → sum (field_bytes flags) ≤ length l
fields_within flags l fits = by_test (leb (sum (field_bytes flags)) (length l)) refl
  where
    by_test : (t : Bool) → leb (sum (field_bytes flags)) (length l) ≡ t → sum (field_bytes flags) ≤ length l
    by_test true e = leb-true (sum (field_bytes flags)) (length l) e
    by_test false e =
        absurd
        (fits
        (all_as_one (field_bytes flags) l (after_crc flags)
        ∙ after_short (sum (field_bytes flags)) l (after_crc flags) (leb-false (sum (field_bytes flags)) (length l) e)))

pub times_within : (flags : Flags) (l : List ℕ) → (header_data_of flags l ≡ DoesNotFit → ⊥) → 5 + 5 * dts_flag flags.pts_dts ≤ length l
times_within flags l fits = omega (arith, fields_within flags l fits)
