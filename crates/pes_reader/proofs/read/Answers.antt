-- `pes_reader::read` meets its contract: the tests of 20 and 21 are the definition's, the flags are those of the head's table, and
-- the header data are the bytes that its length says. Assumes nothing.
use Rattle.std.specs.Prelude.{Err}
use borrow.Author.Tests.{le-leb, lt-leb}
use native.Mathlib.Omega.{arith}
use Prim.Native.Nat.{ℕ, ◌+◌, ◌-◌, ◌<◌}
use mathlib.Core.Path.{◌≡◌, ap, ap₂, sym, ◌∙◌}
use mathlib.Core.Bool.{Bool, cond}
use mathlib.Core.List.{List}
use lib.ListN.{get_or, take, drop}
use Rattle.syntax.specs.Table.{number}
use Rattle.syntax.specs.Named.{named}
use Rattle.vocabulary.specs.declared.refusal.Refusal.TheVariants.{NotVideoHeader, NoPts}
use Rattle.pes_fields.specs.Tables.{head, packet_flags}
use Rattle.pes_fields.specs.HeaderData.{Flags, flags_of}
use Rattle.pes_reader.specs.Reading.{data_of, end_of, fields_of, video_header_of, read_of}
use Rattle.pes_reader.proofs.HeadLaws.{flags_of_head, data_length_of_head}
use Rattle.pes_reader.specs.Meaning.{VideoHeader}
use Rattle.pes_reader.proofs.VideoLaws.{video_is, video_only}
use Rattle.pes_reader.proofs.read.Goals as goal

-- past the tests of 20, the answer is that of the flags and the header data
a-video-header : (l : List ℕ) → VideoHeader l → video_header_of l ≡ read_of l
a-video-header l video = ap (λ (t : Bool). cond t (video_header_of l) (Err NotVideoHeader)) (sym (video_only l video))

pub returns-then-not-is_video_header : goal.returns-then-not-is_video_header
returns-then-not-is_video_header c =
    let l = c.args.bytes.now in
    ap (λ (t : Bool). cond t (video_header_of l) (Err NotVideoHeader))
    (sym (sym c.is_video_header.ensures ∙ c.if-not-is_video_header.true))

pub bounds-bytes-7 : goal.bounds-bytes-7
bounds-bytes-7 c =
    let l = c.args.bytes.now in
    let video : VideoHeader l = video_is l (sym c.is_video_header.ensures ∙ c.if-not-is_video_header.false) in
    omega (arith, video.long)

pub returns-then-flags-lt128 : goal.returns-then-flags-lt128
returns-then-flags-lt128 c =
    let l = c.args.bytes.now in
    let video : VideoHeader l = video_is l (sym c.is_video_header.ensures ∙ c.if-not-is_video_header.false) in
    let flags : named "PTS_DTS_flags" head (number 9 l) ≡ named "PTS_DTS_flags" packet_flags (get_or l 7 0) =
    ap (λ (f : Flags). f.pts_dts) (flags_of_head l (λ i. (c.shared_slice_known-1.given i).fits)) in
    ap
    (λ (t : Bool). cond t (fields_of (end_of l) (flags_of head (number 9 l)) (data_of l)) (Err NoPts))
    (sym (lt-leb 0b10 (named "PTS_DTS_flags" head (number 9 l)) (omega (arith, flags, c.if-flags-lt128.true))))
    ∙ a-video-header l video

pub bounds-bytes-8 : goal.bounds-bytes-8
bounds-bytes-8 c =
    let l = c.args.bytes.now in
    let video : VideoHeader l = video_is l (sym c.is_video_header.ensures ∙ c.if-not-is_video_header.false) in
    omega (arith, video.long)

pub overflow_add-end : goal.overflow_add-end
overflow_add-end c =
    let l = c.args.bytes.now in
    let video : VideoHeader l = video_is l (sym c.is_video_header.ensures ∙ c.if-not-is_video_header.false) in
    omega (arith, c.from-end.ensures, (c.shared_slice_known-1.given 8).fits)

pub slice_bounds-read_fields-end : goal.slice_bounds-read_fields-end
slice_bounds-read_fields-end c =
    let l = c.args.bytes.now in
    let video : VideoHeader l = video_is l (sym c.is_video_header.ensures ∙ c.if-not-is_video_header.false) in
    omega (arith, c.from-end.ensures, video.within, data_length_of_head l (λ i. (c.shared_slice_known-1.given i).fits))

pub returns : goal.returns
returns c =
    let l = c.args.bytes.now in
    let video : VideoHeader l = video_is l (sym c.is_video_header.ensures ∙ c.if-not-is_video_header.false) in
    let known : (i : ℕ) → get_or l i 0 < 256 = λ i. (c.shared_slice_known-1.given i).fits in
    let flags : named "PTS_DTS_flags" head (number 9 l) ≡ named "PTS_DTS_flags" packet_flags (get_or l 7 0) =
    ap (λ (f : Flags). f.pts_dts) (flags_of_head l known) in
    let size : 9 + c.from-end.result - 9 ≡ named "PES_header_data_length" head (number 9 l) = omega (arith, c.from-end.ensures, data_length_of_head l known) in
    let end : 9 + c.from-end.result ≡ end_of l = omega (arith, c.from-end.ensures, data_length_of_head l known) in
    c.read_fields.ensures
    ∙ ap (λ (n : ℕ). fields_of n (flags_of packet_flags (get_or l 7 0)) (take (9 + c.from-end.result - 9) (drop 9 l))) end
    ∙ ap₂ (fields_of (end_of l)) (sym (flags_of_head l known)) (ap (λ (n : ℕ). take n (drop 9 l)) size)
    ∙ ap
    (λ (t : Bool). cond t (fields_of (end_of l) (flags_of head (number 9 l)) (data_of l)) (Err NoPts))
    (sym (le-leb 0b10 (named "PTS_DTS_flags" head (number 9 l)) (omega (arith, flags, c.if-flags-lt128.false, known 7))))
    ∙ a-video-header l video
