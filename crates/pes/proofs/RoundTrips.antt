-- The round trips of document 01, for all times and all headers, with a TREF or without: reading what the writer wrote gives back what was given and
-- the number of bytes written, and rewriting what was read from a header in the writer's own shape gives the same bytes.
-- Assumes nothing.
use Rattle.std.specs.Prelude.{Err, Ok}
use Prim.Native.Nat.{ℕ, ◌+◌, ◌*◌, ◌/◌, ◌%◌, ◌^◌, ◌≤◌, ◌<◌}
use Prim.Native.String.{String}
use mathlib.Core.Path.{◌≡◌, refl, sym, ap, ap₂, subst, ◌∙◌}
use mathlib.Core.Bool.{Bool, true, false, cond, true≢false}
use mathlib.Core.List.{List, [], ◌∷◌, ◌++◌, append_assoc, append-nil}
use native.Mathlib.Omega.{arith}
use lib.Dec.{leb}
use lib.ListN.{length, take, drop, length-append}
use lib.Seq.{take_at, drop_at}
use Rattle.combinators.specs.Bools.{both_left, both_right}
use Rattle.syntax.specs.Table as Table
use Rattle.syntax.specs.Table.{Table, number, fixed_hold}
use Rattle.syntax.proofs.Number.{number_append}
use Rattle.syntax.specs.Named.{named, given_to, has_line, have_lines, WrittenBy}
use Rattle.syntax.proofs.NamedLaws.{written_by_only, read_by_name}
use Rattle.clock.specs.Clock.{ticks, is_before}
use Rattle.vocabulary.specs.declared.refusal.Refusal.TheVariants.{NoRoom, PtsBeforeDts, TooWide}
use Rattle.stamps.specs.Tables as TimeTables
use Rattle.stamps.specs.Tables.{pts_alone, pts_before_dts, tref}
use Rattle.stamps.specs.Stamps.{dts_flag, stamp_of, with_dts, without_dts, stamps_of, parts_of}
use Rattle.stamps.proofs.StampLaws.{stamp, stamp_before}
use Rattle.stamps.specs.declared.Stamp.{Stamp}
use Rattle.stamps.specs.declared.Stamps.{Stamps}
use Rattle.stamps.specs.declared.Times.{Times}
use Rattle.pes_fields.specs.Tables as Tables
use Rattle.pes_fields.specs.Tables.{extension_flags, second_extension, tref_extension}
use Rattle.pes_fields.specs.HeaderData.{with_marker}
use Rattle.pes_fields.specs.Meaning.{in_order, Optional, with_tref as tref_added, SecondExtension, PackHeader, PesExtension}
use Rattle.pes_fields.specs.declared.Extension.{Extension}
use Rattle.pes_fields.specs.declared.Extension.TheVariants.{WithoutTref, WithTref}
use Rattle.pes_reader.specs.Reading.{data_of, end_of, judged, marks_of, match_of, sent_of, read_of}
use Rattle.pes_reader.specs.Meaning.{VideoHeader, LaidOut}
use Rattle.pes_reader.proofs.MeaningLaws.{laid_answer}
use Rattle.pes_reader.specs.declared.Header.{Header}
use Rattle.pes_writer.specs.Writing.{second_alone, six_bytes, tref_follows, head_given, header_of, too_wide, write_of, buffer_of}
use Rattle.pes_writer.proofs.WritingLaws.{narrow}
use Rattle.pes_writer.specs.OwnShape as own
use Rattle.pes_writer.specs.OwnShape.{OwnTimes, alone, both, OwnExtension, OwnShape, Narrow}
use Rattle.pes_writer.proofs.OwnShapeLaws.{own_is, own_only, by_tests, writes_only}

-- ---- a time in its field

joined_parts : (time : ℕ) {high middle low : ℕ} → high ≡ time / 2 ^ 30 → middle ≡ time / 2 ^ 15 % 2 ^ 15 → low ≡ time % 2 ^ 15
    → high * 2 ^ 30 + middle * 2 ^ 15 + low ≡ time
joined_parts time h m l = omega arith

-- for a table of five bytes with a line for each part of a time: PTS, DTS and TREF alike
module _ (t : Table) (five : Table.bytes t ≡ 5) where
  field_stamp : {time : ℕ} {field : List ℕ} → WrittenBy t (parts_of time) field → stamp_of t field ≡ stamp true time
  field_stamp {time} {field} w =
      let whole : number 5 field ≡ number (Table.bytes t) field = ap (λ (k : ℕ). number k field) (sym five) in
      let after_high : have_lines (("[29..15]", time / 2 ^ 15 % 2 ^ 15) ∷ ("[14..0]", time % 2 ^ 15) ∷ []) t ≡ true =
      both_right (has_line "[32..30]" t) (have_lines (("[29..15]", time / 2 ^ 15 % 2 ^ 15) ∷ ("[14..0]", time % 2 ^ 15) ∷ []) t) w.lines in
      let after_middle : have_lines (("[14..0]", time % 2 ^ 15) ∷ []) t ≡ true =
      both_right (has_line "[29..15]" t) (have_lines (("[14..0]", time % 2 ^ 15) ∷ []) t) after_high in
      let part : (name : String) → has_line name t ≡ true → named name t (number 5 field) ≡ given_to name (parts_of time) =
      λ name has. ap (named name t) whole ∙ read_by_name w name has in
      ap₂ stamp (ap (fixed_hold t) whole ∙ w.written.carries.fixed_bits)
      (joined_parts time
      (part "[32..30]" (both_left (has_line "[32..30]" t) (have_lines (("[29..15]", time / 2 ^ 15 % 2 ^ 15) ∷ ("[14..0]", time % 2 ^ 15) ∷ []) t) w.lines))
      (part "[29..15]" (both_left (has_line "[29..15]" t) (have_lines (("[14..0]", time % 2 ^ 15) ∷ []) t) after_high))
      (part "[14..0]" (both_left (has_line "[14..0]" t) true after_middle)))

abbrev stamps : ℕ → ℕ → Stamps
stamps pts decoding = record { marked = true; pts = pts; decoding = decoding }

-- ---- PTS and DTS

record TimesRead (flags : ℕ) (times : List ℕ) (pts decoding : ℕ) : Type 0 where
  pts_field : List ℕ
  dts_field : List ℕ
  are : times ≡ pts_field ++ dts_field
  flagged : 0b10 ≤ flags
  five : length pts_field ≡ 5
  optional : Optional 5 (dts_flag flags) dts_field
  reads : stamps_of flags (pts_field ++ dts_field) ≡ stamps pts decoding

times_read : {flags : ℕ} {times : List ℕ} {pts decoding : ℕ} → OwnTimes flags times pts decoding → TimesRead flags times pts decoding
times_read (alone {field} {time} w) =
    record {
      pts_field = field;
      dts_field = [];
      are = sym (append-nil field);
      flagged = omega arith;
      five = w.written.as_long;
      optional = Optional.absent;
      reads = ap (λ (l : List ℕ). without_dts (stamp_of pts_alone l)) (append-nil field) ∙ ap without_dts (field_stamp pts_alone refl w);
    }
times_read (both {pts_field} {dts_field} {pts} {decoding} v w differ) =
    record {
      pts_field = pts_field;
      dts_field = dts_field;
      are = refl;
      flagged = omega arith;
      five = v.written.as_long;
      optional = Optional.present w.written.as_long;
      reads =
          ap₂ with_dts
          (stamp_before pts_before_dts pts_field dts_field (omega (arith, v.written.as_long)) ∙ field_stamp pts_before_dts refl v)
          (ap (stamp_of TimeTables.dts) (drop_at pts_field dts_field 5 v.written.as_long) ∙ field_stamp TimeTables.dts refl w);
    }

-- ---- the extension

record ExtensionRead (flag : ℕ) (extension : List ℕ) (pts decoding matching : ℕ) (with_tref : Bool) : Type 0 where
  given : Extension
  is : PesExtension flag extension given
  marks : marks_of (stamps pts decoding) given ≡ true
  match : match_of (stamps pts decoding) given ≡ matching
  sent : sent_of given ≡ with_tref

tref_only : {flags second mark : List ℕ} (field : List ℕ) → WrittenBy extension_flags second_alone flags → WrittenBy second_extension six_bytes second
    → WrittenBy tref_extension tref_follows mark → length field ≡ 5
    → PesExtension 1 (in_order (flags ∷ second ∷ mark ∷ []) field) (WithTref (with_marker true (stamp_of tref field)))
tref_only {flags} {second} {mark} field a b c five =
    subst (λ (l : List ℕ). PesExtension 1 l (WithTref (with_marker true (stamp_of tref field)))) bytes
    (PesExtension.present {flags = 0x0F} {private_data = []} {packHeader = []} {sequenceCounter = []} {buffer = []} {second = 0x86 ∷ 0xFE ∷ field ++ []}
    Optional.absent
    PackHeader.absent
    Optional.absent
    Optional.absent
    (SecondExtension.present {first = 0x86} {field = 0xFE ∷ field ++ []} (omega (arith, five, length-append field []))
    (tref_added {flags = 0xFE} field [] refl five)))
  where
    bytes : 0x0F ∷ 0x86 ∷ 0xFE ∷ field ++ [] ≡ in_order (flags ∷ second ∷ mark ∷ []) field
    bytes =
        ap (λ (l : List ℕ). 0x0F ∷ 0x86 ∷ 0xFE ∷ l) (append-nil field)
        ∙ sym
        (ap₂ ◌++◌ (written_by_only (record { whole = refl; fixed_fit = refl }) a)
        (ap₂ ◌++◌ (written_by_only (record { whole = refl; fixed_fit = refl }) b)
        (ap (λ (l : List ℕ). l ++ field) (written_by_only (record { whole = refl; fixed_fit = refl }) c))))

extension_read : {flag : ℕ} {extension : List ℕ} (pts : ℕ) {decoding matching : ℕ} {with_tref : Bool} → OwnExtension flag extension decoding matching with_tref
    → ExtensionRead flag extension pts decoding matching with_tref
extension_read pts (OwnExtension.none {time}) = record { given = WithoutTref true; is = PesExtension.absent; marks = refl; match = refl; sent = refl }
extension_read pts (own.with_tref {field = field} {decoding = decoding} a b c d) =
    let read : stamp_of tref field ≡ stamp true _ = field_stamp tref refl d in
    record {
      given = WithTref (with_marker true (stamp_of tref field));
      is = tref_only field a b c d.written.as_long;
      marks = ap (λ (s : Stamp). s.marked) read;
      match = ap (λ (s : Stamp). s.time) read;
      sent = refl;
    }

-- ---- the header whole, with anything after it

-- what a header says that was written with these times, in so many bytes
abbrev pub read_back : Times → Bool → ℕ → Header
read_back times with_tref size = record { times = times; tref_sent = with_tref; end = size }

module _ {bytes : List ℕ} {times : Times} {with_tref : Bool} (o : OwnShape bytes times with_tref) (rest : List ℕ) where
  abbrev pts : ℕ
  pts = times.pts

  abbrev decoding : ℕ
  decoding = times.decoding

  abbrev l : List ℕ
  l = o.head ++ (o.times ++ (o.extension ++ rest))

  abbrev fields : List ℕ
  fields = o.times ++ o.extension

  abbrev n : ℕ
  n = number 9 l

  times_of : TimesRead o.pts_dts_flags o.times pts decoding
  times_of = times_read o.times_are

  extension_of_lem : ExtensionRead o.extension_flag o.extension pts decoding times.matching with_tref
  extension_of_lem = extension_read pts o.extension_is

  nine : length o.head ≡ 9
  nine = o.head_is.written.as_long

  of_head : n ≡ number 9 o.head
  of_head = number_append 9 o.head (o.times ++ (o.extension ++ rest)) (omega (arith, nine))

  -- what a line of the head says
  says : (name : String) → has_line name Tables.head ≡ true
      → named name Tables.head n ≡ given_to name (head_given o.pts_dts_flags o.extension_flag (length fields))
  says name has = ap (named name Tables.head) of_head ∙ read_by_name o.head_is name has

  -- what follows the head, as long as it says
  data_are : data_of l ≡ fields
  data_are =
      ap₂ take (says "PES_header_data_length" refl) (drop_at o.head (o.times ++ (o.extension ++ rest)) 9 nine ∙ sym (append_assoc o.times o.extension rest))
      ∙ take_at fields rest (length fields) refl

  video : VideoHeader l
  video =
      let id : named "stream_id" Tables.head n ≡ 0xE0 = says "stream_id" refl in
      let size : named "PES_header_data_length" Tables.head n ≡ length fields = says "PES_header_data_length" refl in
      let long : length l ≡ length o.head + length (o.times ++ (o.extension ++ rest)) = length-append o.head (o.times ++ (o.extension ++ rest)) in
      record {
        long = omega (arith, nine, long);
        fixed_bits = ap (fixed_hold Tables.head) of_head ∙ o.head_is.written.carries.fixed_bits;
        from_E0 = omega (arith, id);
        to_EF = omega (arith, id);
        within =
            omega (
              arith,
              size,
              nine,
              long,
              length-append o.times (o.extension ++ rest),
              length-append o.extension rest,
              length-append o.times o.extension,
            );
      }

  -- a field that the writer never writes
  left_out : (name : String) (size : ℕ) → named name Tables.head n ≡ 0 → Optional size (named name Tables.head n) []
  left_out name size e = subst (λ (flag : ℕ). Optional size flag []) (sym e) Optional.absent

  laid : LaidOut l (stamps pts decoding) extension_of_lem.given
  laid =
      record {
        video = video;
        flagged = subst (λ (f : ℕ). 0b10 ≤ f) (sym (says "PTS_DTS_flags" refl)) times_of.flagged;
        pts = times_of.pts_field;
        dts = times_of.dts_field;
        fields = record {
          escr = [];
          es_rate = [];
          trick_mode = [];
          copy_info = [];
          crc = [];
          extension = o.extension;
          skipped = [];
          order = data_are ∙ ap (λ (l : List ℕ). l ++ o.extension) times_of.are ∙ append_assoc times_of.pts_field times_of.dts_field o.extension
              ∙ ap (λ (l : List ℕ). times_of.pts_field ++ (times_of.dts_field ++ l)) (sym (append-nil o.extension));
          pts_is = times_of.five;
          dts_is = subst (λ (f : ℕ). Optional 5 (dts_flag f) times_of.dts_field) (sym (says "PTS_DTS_flags" refl)) times_of.optional;
          escr_is = left_out "ESCR_flag" 6 (says "ESCR_flag" refl);
          es_rate_is = left_out "ES_rate_flag" 3 (says "ES_rate_flag" refl);
          trick_mode_is = left_out "DSM_trick_mode_flag" 1 (says "DSM_trick_mode_flag" refl);
          copy_info_is = left_out "additional_copy_info_flag" 1 (says "additional_copy_info_flag" refl);
          crc_is = left_out "PES_CRC_flag" 2 (says "PES_CRC_flag" refl);
          extension_is = subst (λ (e : ℕ). PesExtension e o.extension extension_of_lem.given) (sym (says "PES_extension_flag" refl)) extension_of_lem.is;
        };
        stamps_are = sym times_of.reads ∙ ap (λ (f : ℕ). stamps_of f (times_of.pts_field ++ times_of.dts_field)) (sym (says "PTS_DTS_flags" refl));
      }

  -- where the header ends
  end_is : end_of l ≡ length bytes
  end_is =
      let size : named "PES_header_data_length" Tables.head n ≡ length fields = says "PES_header_data_length" refl in
      omega (arith, size, nine, ap length o.order, length-append o.head fields)

  own_reads : read_of (bytes ++ rest) ≡ judged true (read_back times with_tref (length bytes))
  own_reads =
      ap read_of whole
      ∙ laid_answer l laid
      ∙ ap₂
      (λ (m : Bool) (t : ℕ). judged m (read_back (record { pts = pts; decoding = decoding; matching = t }) (sent_of extension_of_lem.given) (end_of l)))
      extension_of_lem.marks
      extension_of_lem.match
      ∙ ap₂ (λ (sent : Bool) (end : ℕ). judged true (read_back times sent end)) extension_of_lem.sent end_is
    where
      whole : bytes ++ rest ≡ l
      whole = ap (λ (l : List ℕ). l ++ rest) o.order ∙ simp append_assoc

-- ---- the times of a header in its own shape are not too wide

times_narrow : {flags : ℕ} {times : List ℕ} {pts decoding : ℕ} → OwnTimes flags times pts decoding → (pts < ticks) × (decoding < ticks)
times_narrow (alone {field} {time} w) =
    let below : time < ticks = omega (arith, read_by_name w "[32..30]" refl) in (below, below)
times_narrow (both {pts_field} {dts_field} {pts} {decoding} v w differ) = (
  omega (arith, read_by_name v "[32..30]" refl),
  omega (arith, read_by_name w "[32..30]" refl),
)

match_narrow : {flag : ℕ} {extension : List ℕ} {decoding matching : ℕ} {with_tref : Bool} → decoding < ticks
    → OwnExtension flag extension decoding matching with_tref → matching < ticks
match_narrow below OwnExtension.none = below
match_narrow below (own.with_tref a b c d) = omega (arith, read_by_name d "[32..30]" refl)

without_tref : {flag : ℕ} {extension : List ℕ} {decoding matching : ℕ} {with_tref : Bool} → OwnExtension flag extension decoding matching with_tref
    → with_tref ≡ false → matching ≡ decoding
without_tref OwnExtension.none e = refl
without_tref (own.with_tref a b c d) e = absurd (true≢false e)

own_narrow : {bytes : List ℕ} {times : Times} {with_tref : Bool} → OwnShape bytes times with_tref → Narrow times with_tref
own_narrow {bytes} {times} o =
    let both_narrow : (times.pts < ticks) × (times.decoding < ticks) = times_narrow o.times_are in
    record {
      pts_below = both_narrow.0;
      decoding_below = both_narrow.1;
      matching_below = match_narrow both_narrow.1 o.extension_is;
      without_tref = without_tref o.extension_is;
    }

-- ---- THE ROUND TRIPS

-- what an accepted answer says of the times, and of the number of bytes
record Accepted (times : Times) (with_tref : Bool) (size : ℕ) : Type 0 where
  fit : Narrow times with_tref
  not_before : is_before times.pts times.decoding ≡ false
  as_long : length (header_of times with_tref) ≡ size

accepted : (times : Times) (with_tref : Bool) (out : List ℕ) {size : ℕ} → write_of times with_tref (length out) ≡ Ok size → Accepted times with_tref size
accepted times with_tref out {size} e =
    by (too_wide times with_tref) (leb (length (header_of times with_tref)) (length out)) (is_before times.pts times.decoding) refl refl refl
  where
    by : (w r b : Bool) → too_wide times with_tref ≡ w → leb (length (header_of times with_tref)) (length out) ≡ r → is_before times.pts times.decoding ≡ b
        → Accepted times with_tref size
    by true r b f g h =
        let z : Err TooWide ≡ Ok size = sym (by_tests times with_tref out true r b f g h) ∙ e in
        let one : ◌≡◌ {A = ℕ} 0 1 = cc in absurd (omega arith)
    by false false b f g h =
        let z : Err NoRoom ≡ Ok size = sym (by_tests times with_tref out false false b f g h) ∙ e in
        let one : ◌≡◌ {A = ℕ} 0 1 = cc in absurd (omega arith)
    by false true true f g h =
        let z : Err PtsBeforeDts ≡ Ok size = sym (by_tests times with_tref out false true true f g h) ∙ e in
        let one : ◌≡◌ {A = ℕ} 0 1 = cc in absurd (omega arith)
    by false true false f g h =
        let z : Ok (length (header_of times with_tref)) ≡ Ok size = sym (by_tests times with_tref out false true false f g h) ∙ e in
        record { fit = narrow times with_tref f; not_before = h; as_long = cc }

-- Reading what the writer wrote gives back the times, whether a TREF was asked for, and the number of bytes written, whatever stands in the room
-- beyond.
pub reading_what_was_written : (times : Times) (with_tref : Bool) (out : List ℕ) {size : ℕ} → write_of times with_tref (length out) ≡ Ok size
    → read_of (buffer_of (Ok size) (header_of times with_tref) out) ≡ Ok (read_back times with_tref size)
reading_what_was_written times with_tref out {size} e =
    let a : Accepted times with_tref size = accepted times with_tref out e in
    own_reads (own_is times with_tref a.fit) (drop (length (header_of times with_tref)) out)
    ∙ ap₂ (λ (b : Bool) (end : ℕ). cond b (Err PtsBeforeDts) (Ok (read_back times with_tref end))) a.not_before a.as_long

-- Rewriting what was read from a header in the writer's own shape gives the same bytes: with room for them the writer accepts, and
-- they stand at the front.
record SameHeader (written read : Header) : Type 0 where
  times_same : written.times ≡ read.times
  sent_same : written.tref_sent ≡ read.tref_sent
  end_same : written.end ≡ read.end
  not_before : is_before written.times.pts written.times.decoding ≡ false

same_header : (written read : Header) (before : Bool) → is_before written.times.pts written.times.decoding ≡ before
    → cond before (Err PtsBeforeDts) (Ok written) ≡ Ok read → SameHeader written read
same_header written read true f e = let one : ◌≡◌ {A = ℕ} 0 1 = cc in absurd (omega arith)
same_header written read false f e =
    let same : written ≡ read = cc in
    record {
      times_same = ap (λ (h : Header). h.times) same;
      sent_same = ap (λ (h : Header). h.tref_sent) same;
      end_same = ap (λ (h : Header). h.end) same;
      not_before = f;
    }

module _ {bytes : List ℕ} {times : Times} {with_tref : Bool} (o : OwnShape bytes times with_tref) (header : Header) (read : read_of bytes ≡ Ok header) where
  abbrev written : Header
  written = read_back times with_tref (length bytes)

  read_off : SameHeader written header
  read_off =
      same_header written header (is_before times.pts times.decoding) refl (sym (own_reads o []) ∙ ap read_of (append-nil bytes) ∙ read)

  own_again : OwnShape bytes header.times header.tref_sent
  own_again =
      subst (λ (t : Times). OwnShape bytes t header.tref_sent) read_off.times_same (subst (OwnShape bytes times) read_off.sent_same o)

  pub rewriting_what_was_read : header_of header.times header.tref_sent ≡ bytes
  rewriting_what_was_read = sym (own_only own_again)

  pub end_of_what_was_read : header.end ≡ length bytes
  end_of_what_was_read = sym read_off.end_same

  pub rewritten : (out : List ℕ) → length bytes ≤ length out
      → (write_of header.times header.tref_sent (length out) ≡ Ok (length bytes))
      × (buffer_of (Ok (length bytes)) (header_of header.times header.tref_sent) out ≡ bytes ++ drop (length bytes) out)
  rewritten out room =
      let after : is_before header.times.pts header.times.decoding ≡ false =
      ap (λ (t : Times). is_before t.pts t.decoding) (sym read_off.times_same) ∙ read_off.not_before in
      let done = writes_only header.times header.tref_sent out (own.written (own_narrow own_again) own_again room after) in
      (sym done.0, sym done.1)
