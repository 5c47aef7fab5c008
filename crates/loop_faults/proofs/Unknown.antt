-- A stream of a type that the reading does not know: nothing is seen of it, and no rule gives it a mark, since both readings know both views.
-- Assumes nothing.
use Prim.Native.Nat.{ℕ, ◌+◌, ◌*◌, ◌%◌}
use mathlib.Core.Path.{◌≡◌, refl, sym, ◌∙◌, ap}
use mathlib.Core.Bool.{Bool, true, false, ◌||◌}
use mathlib.Core.List.{List}
use lib.Dec.{eqb}
use lib.ListN.{get_or, drop}
use Rattle.combinators.specs.Bools.{apart}
use Rattle.syntax.specs.Table.{AreBytes}
use Rattle.vocabulary.specs.declared.stream_types.Reading.{Reading}
use Rattle.vocabulary.specs.declared.stream_types.Reading.TheVariants.{Edition2009, Edition2015}
use Rattle.vocabulary.specs.StreamTypes.{known}
use Rattle.descriptors.specs.Looking.{nothing_seen}
use Rattle.implied.specs.Rule.{is_view, given}
use Rattle.loop_entries.specs.declared.Stream.{Stream}
use Rattle.loop_entries.specs.Entries.{seen_in, marked_stream}
use Rattle.loop_entries.proofs.Heads.{stream_bytes}
use Rattle.loop_faults.specs.Conditions.{stream_in}

no_view : (reading : Reading) (t : ℕ) → known reading t ≡ false → is_view t ≡ false
no_view Edition2009 t unknown = go (eqb t 0x1B) (eqb t 0x1F) (eqb t 0x20) unknown
  where
    go : (a b c : Bool) → (a || (b || (c || false))) ≡ false → (a || c) ≡ false
    go true b c h = h
    go false true c h = absurd (apart (sym h))
    go false false true h = h
    go false false false h = refl
no_view Edition2015 t unknown = go (eqb t 0x1B) (eqb t 0x1F) (eqb t 0x20) _ unknown
  where
    go : (a b c d : Bool) → (a || (b || (c || d))) ≡ false → (a || c) ≡ false
    go true b c d h = h
    go false true c d h = absurd (apart (sym h))
    go false false true d h = h
    go false false false d h = refl

pub not_given : (reading : Reading) (pair : Bool) (t : ℕ) → known reading t ≡ false → given pair t ≡ false
not_given reading pair t unknown = rw (no_view reading t unknown) refl

-- the stream without a record
abbrev pub recordless : ℕ → ℕ → Stream
recordless t pid = record { fits = true; stream_type = t; pid = pid; seen = nothing_seen }

unknown_stream : (reading : Reading) (pair : Bool) (t pid : ℕ) (info : List ℕ) → known reading t ≡ false
    → marked_stream pair (record { fits = (seen_in reading t info).fits; stream_type = t; pid = pid; seen = seen_in reading t info }) ≡ recordless t pid
unknown_stream reading pair t pid info unknown = rw (unknown, not_given reading pair t unknown) refl

-- at the bytes of a whole entry
pub unknown_entry : (reading : Reading) (pair : Bool) (entry : List ℕ) → AreBytes entry → known reading (get_or entry 0 0) ≡ false → (pid : ℕ)
    → pid ≡ get_or entry 1 0 % 32 * 256 + get_or entry 2 0 → recordless (get_or entry 0 0) pid ≡ stream_in reading pair entry
unknown_entry reading pair entry bytes unknown pid is-pid =
    ap (recordless (get_or entry 0 0)) is-pid
    ∙ sym (unknown_stream reading pair (get_or entry 0 0) (get_or entry 1 0 % 32 * 256 + get_or entry 2 0) (drop 5 entry) unknown)
    ∙ ap (marked_stream pair) (stream_bytes reading entry bytes)
