-- The marks of a loop's two views: what they leave as it was.
-- Assumes nothing.
use Prim.Native.Nat.{ℕ, zero, suc}
use mathlib.Core.Path.{◌≡◌, refl, ap, ap₂}
use mathlib.Core.Bool.{Bool}
use mathlib.Core.List.{List, [], ◌∷◌, map}
use lib.ListN.{length, length-map}
use Rattle.implied.specs.Rule.{Shown, implied_pair}
use Rattle.implied.proofs.Marks.{described_kept}
use Rattle.loop_entries.specs.declared.Stream.{Stream}
use Rattle.loop_entries.specs.Entries.{shown_of, pair_of, marked_stream, marked_streams}
use Rattle.loop_faults.specs.Conditions.{stream_at}

-- neither a type, nor whether a stream has a hierarchy descriptor
shown_marked : (pair : Bool) (s : Stream) → shown_of (marked_stream pair s) ≡ shown_of s
shown_marked pair s =
    ap (λ (b : Bool). record { type = s.stream_type; described = b }) (described_kept pair s.stream_type s.seen.«record»)

all_shown : (pair : Bool) (streams : List Stream) → map shown_of (map (marked_stream pair) streams) ≡ map shown_of streams
all_shown pair [] = refl
all_shown pair (s ∷ ss) = ap₂ (λ (x : Shown) (xs : List Shown). x ∷ xs) (shown_marked pair s) (all_shown pair ss)

-- so that with the marks there is the pair that there was without
pub pair_marked : (streams : List Stream) → pair_of (marked_streams streams) ≡ pair_of streams
pair_marked streams = ap implied_pair (all_shown (pair_of streams) streams)

-- the stream at a place, with its mark; past all of them there is none
pub marked_at : (pair : Bool) (streams : List Stream) (k : ℕ) → stream_at (map (marked_stream pair) streams) k ≡ marked_stream pair (stream_at streams k)
marked_at pair [] k = refl
marked_at pair (s ∷ ss) zero = refl
marked_at pair (s ∷ ss) (suc k) = marked_at pair ss k

pub marked_length : (streams : List Stream) → length (marked_streams streams) ≡ length streams
marked_length streams = length-map streams (marked_stream (pair_of streams))
