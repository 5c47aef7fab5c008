-- `packets::outside` meets its contract: the adaptation field is settled first, so that the payload starts within the packet. Assumes nothing.
use borrow.Author.Rules.{rules}
use Prim.Native.Nat.{ℕ, ◌≤◌}
use mathlib.Core.Path.{◌≡◌, sym, ap, ap₂, ◌∙◌}
use mathlib.Core.Bool.{Bool, true, false, not, ◌&&◌, ◌||◌}
use lib.ListN.{drop}
use Rattle.combinators.specs.Bools.{either_left}
use Rattle.combinators.specs.Lists.{part_to_end}
use Rattle.packets.specs.Judging.{payload_at, adaptation_outside, starts_clear, header_within, header_outside}
use Rattle.packets.proofs.JudgingLaws.{payload_within}
use Rattle.packets.proofs.outside.Goals as goal

pub returns-then-adaptation_outside : goal.returns-then-adaptation_outside
returns-then-adaptation_outside c =
    let p = c.args.fields in
    let l = c.args.packet.now in
    sym (either_left (adaptation_outside p) (header_outside p l) (sym c.adaptation_outside.ensures ∙ c.if-adaptation_outside.true))

pub returns-then-not-starts_clear : goal.returns-then-not-starts_clear
returns-then-not-starts_clear c =
    let p = c.args.fields in
    let l = c.args.packet.now in
    simp (sym c.adaptation_outside.ensures ∙ c.if-adaptation_outside.false, sym c.starts_clear.ensures ∙ c.if-not-starts_clear.true)

pub slice_bounds-header_within-count : goal.slice_bounds-header_within-count
slice_bounds-header_within-count c =
    let within : c.payload_at-at.result ≤ 188 = rw c.payload_at-at.ensures (payload_within c.args.fields (sym c.adaptation_outside.ensures ∙ c.if-adaptation_outside.false)) in
    search rules

pub slice_bounds-header_within-start : goal.slice_bounds-header_within-start
slice_bounds-header_within-start c =
    let within : c.payload_at-at.result ≤ 188 = rw c.payload_at-at.ensures (payload_within c.args.fields (sym c.adaptation_outside.ensures ∙ c.if-adaptation_outside.false)) in
    search rules

pub returns : goal.returns
returns c =
    let p = c.args.fields in
    let l = c.args.packet.now in
    let clear : adaptation_outside p ≡ false = sym c.adaptation_outside.ensures ∙ c.if-adaptation_outside.false in
    let starts : starts_clear p ≡ true = sym c.starts_clear.ensures ∙ c.if-not-starts_clear.false in
    ap not
    (c.header_within.ensures
    ∙ ap header_within (part_to_end l c.payload_at-at.result ∙ ap (λ (n : ℕ). drop n l) c.payload_at-at.ensures))
    ∙ sym (ap₂ (λ (a s : Bool). a || (s && not (header_within (drop (payload_at p) l)))) clear starts)
