-- `pes_reader::is_video_header` meets its contract: each test of a byte is the definition's test of the head's number, and the
-- first that fails settles the answer. Assumes nothing.
use borrow.Author.Tests.{le-leb, lt-leb, eq-eqb, ne_eqb}
use native.Mathlib.Omega.{arith}
use Prim.Native.Nat.{ℕ, ◌+◌, ◌/◌}
use mathlib.Core.Path.{ap, sym, ◌∙◌}
use lib.Dec.{leb}
use lib.ListN.{length, get_or}
use Rattle.pes_reader.proofs.HeadLaws.{video_header_of_bytes}
use Rattle.pes_reader.proofs.is_video_header.Goals as goal

pub returns-then-bytes-lt9 : goal.returns-then-bytes-lt9
returns-then-bytes-lt9 c =
    let l = c.args.bytes.now in
    sym
    (video_header_of_bytes l (λ i. (c.shared_slice_known-1.given i).fits)
    ∙ simp (lt-leb 9 (length l) c.if-bytes-lt9.true))

pub returns-then-not-starts : goal.returns-then-not-starts
returns-then-not-starts c =
    let l = c.args.bytes.now in
    sym
    (video_header_of_bytes l (λ i. (c.shared_slice_known-1.given i).fits)
    ∙ simp (le-leb 9 (length l) c.if-bytes-lt9.false, sym c.starts_a_packet-starts.ensures ∙ c.if-not-starts.true))

pub returns-then-bytes-ne2 : goal.returns-then-bytes-ne2
returns-then-bytes-ne2 c =
    let l = c.args.bytes.now in
    sym
    (video_header_of_bytes l (λ i. (c.shared_slice_known-1.given i).fits)
    ∙ simp (le-leb 9 (length l) c.if-bytes-lt9.false, sym c.starts_a_packet-starts.ensures ∙ c.if-not-starts.false, ne_eqb (get_or l 6 0 / 64) 0b10 c.if-bytes-ne2.true))

pub returns-then-bytes-lt224 : goal.returns-then-bytes-lt224
returns-then-bytes-lt224 c =
    let l = c.args.bytes.now in
    sym
    (video_header_of_bytes l (λ i. (c.shared_slice_known-1.given i).fits)
    ∙ simp (le-leb 9 (length l) c.if-bytes-lt9.false, sym c.starts_a_packet-starts.ensures ∙ c.if-not-starts.false, eq-eqb (get_or l 6 0 / 64) 0b10 c.if-bytes-ne2.false, lt-leb 0xE0 (get_or l 3 0) c.if-bytes-lt224.true))

pub returns-then-bytes-gt239 : goal.returns-then-bytes-gt239
returns-then-bytes-gt239 c =
    let l = c.args.bytes.now in
    sym
    (video_header_of_bytes l (λ i. (c.shared_slice_known-1.given i).fits)
    ∙ simp (le-leb 9 (length l) c.if-bytes-lt9.false, sym c.starts_a_packet-starts.ensures ∙ c.if-not-starts.false, eq-eqb (get_or l 6 0 / 64) 0b10 c.if-bytes-ne2.false, le-leb 0xE0 (get_or l 3 0) c.if-bytes-lt224.false, lt-leb (get_or l 3 0) 0xEF c.if-bytes-gt239.true))

pub overflow_add-result : goal.overflow_add-result
overflow_add-result c =
    omega (arith, c.from.ensures, (c.shared_slice_known-1.given 8).fits)

pub returns : goal.returns
returns c =
    let l = c.args.bytes.now in
    sym
    (video_header_of_bytes l (λ i. (c.shared_slice_known-1.given i).fits)
    ∙ simp (le-leb 9 (length l) c.if-bytes-lt9.false, sym c.starts_a_packet-starts.ensures ∙ c.if-not-starts.false, eq-eqb (get_or l 6 0 / 64) 0b10 c.if-bytes-ne2.false, le-leb 0xE0 (get_or l 3 0) c.if-bytes-lt224.false, le-leb (get_or l 3 0) 0xEF c.if-bytes-gt239.false) (ap (λ (n : ℕ). leb (9 + n) (length l)) (sym c.from.ensures)))
