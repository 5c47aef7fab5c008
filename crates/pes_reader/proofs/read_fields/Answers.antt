-- `pes_reader::read_fields` meets its contract: each case of the header data is a case of the definition, and where they fit PTS
-- and DTS do. Assumes nothing.
use native.Mathlib.Omega.{arith}
use Prim.Native.Nat.{ℕ, ◌/◌, ◌%◌, ◌^◌}
use mathlib.Core.Path.{◌≡◌, ap, sym, ◌∙◌}
use mathlib.Core.Bool.{Bool, ◌&&◌}
use Rattle.stamps.specs.Stamps.{dts_flag, stamps_of}
use Rattle.stamps.specs.declared.Stamp.{Stamp}
use Rattle.stamps.specs.declared.Stamps.{Stamps}
use Rattle.pes_fields.specs.Tables.{packet_flags}
use Rattle.pes_fields.specs.HeaderData.{flags_of}
use Rattle.pes_fields.proofs.HeaderDataLaws.{times_within}
use Rattle.pes_fields.specs.declared.Extension.TheVariants.{DoesNotFit, WithoutTref, WithTref}
use Rattle.pes_reader.specs.Reading.{judged, said_by}
use Rattle.pes_reader.proofs.read_fields.Goals as goal

without-fits : {marked : Bool} → WithoutTref marked ≡ DoesNotFit → ⊥
without-fits e = let z : ◌≡◌ {A = ℕ} 0 1 = cc in omega arith

with-fits : {tref : Stamp} → WithTref tref ≡ DoesNotFit → ⊥
with-fits e = let z : ◌≡◌ {A = ℕ} 0 1 = cc in omega arith

pub pts_and_dts-stamps-requires : goal.pts_and_dts-stamps-requires
pts_and_dts-stamps-requires c =
    let l = c.args.bytes.now in
    let flags = c.args.flags in
    let two_bits : flags / 64 ≡ flags / 2 ^ 6 % 2 ^ 2 = omega arith in
    omega (
      arith,
      ap dts_flag two_bits,
      times_within (flags_of packet_flags flags) l (λ e. without-fits (sym c.in-WithoutTref.is ∙ c.header_data-extension.ensures ∙ e)),
    )

pub pts_and_dts-stamps-requires-in-WithTref : goal.pts_and_dts-stamps-requires-in-WithTref
pts_and_dts-stamps-requires-in-WithTref c =
    let l = c.args.bytes.now in
    let flags = c.args.flags in
    let two_bits : flags / 64 ≡ flags / 2 ^ 6 % 2 ^ 2 = omega arith in
    omega (
      arith,
      ap dts_flag two_bits,
      times_within (flags_of packet_flags flags) l (λ e. with-fits (sym c.in-WithTref.is ∙ c.header_data-extension.ensures ∙ e)),
    )

pub returns-in-DoesNotFit : goal.returns-in-DoesNotFit
returns-in-DoesNotFit c =
    let a = c.args in
    ap (said_by a.end (stamps_of (a.flags / 2 ^ 6 % 2 ^ 2) a.bytes.now)) (sym c.in-DoesNotFit.is ∙ c.header_data-extension.ensures)

pub returns-in-WithoutTref : goal.returns-in-WithoutTref
returns-in-WithoutTref c =
    let a = c.args in
    let l = a.bytes.now in
    let stamps = c.pts_and_dts-stamps.result in
    let two_bits : a.flags / 64 ≡ a.flags / 2 ^ 6 % 2 ^ 2 = omega arith in
    c.judge.ensures
    ∙ ap (judged (stamps.marked && c.in-WithoutTref.marked)) c.header_of.ensures
    ∙ ap (λ (s : Stamps). said_by a.end s (WithoutTref c.in-WithoutTref.marked)) (c.pts_and_dts-stamps.ensures ∙ ap (λ (f : ℕ). stamps_of f l) two_bits)
    ∙ ap (said_by a.end (stamps_of (a.flags / 2 ^ 6 % 2 ^ 2) l)) (sym c.in-WithoutTref.is ∙ c.header_data-extension.ensures)

pub returns-in-WithTref : goal.returns-in-WithTref
returns-in-WithTref c =
    let a = c.args in
    let l = a.bytes.now in
    let stamps = c.pts_and_dts-stamps-in-WithTref.result in
    let two_bits : a.flags / 64 ≡ a.flags / 2 ^ 6 % 2 ^ 2 = omega arith in
    c.judge-in-WithTref.ensures
    ∙ ap (judged (stamps.marked && c.in-WithTref.tref.marked)) c.header_of-in-WithTref.ensures
    ∙ ap (λ (s : Stamps). said_by a.end s (WithTref c.in-WithTref.tref)) (c.pts_and_dts-stamps-in-WithTref.ensures ∙ ap (λ (f : ℕ). stamps_of f l) two_bits)
    ∙ ap (said_by a.end (stamps_of (a.flags / 2 ^ 6 % 2 ^ 2) l)) (sym c.in-WithTref.is ∙ c.header_data-extension.ensures)
