-- What was kept of the heads is what writing asks, and the lists that are then written are those of the units: `writable` and `written`. The code has no match times and no
-- edges at hand there, and the heads and their order do not depend on them.
-- Assumes nothing.
use Prim.Native.Nat.{ℕ, ◌+◌, ◌≤◌}
use mathlib.Core.Bool.{false}
use mathlib.Core.List.{List, [], ◌∷◌, ◌++◌, map}
use mathlib.Core.Path.{◌≡◌, refl, sym, ◌∙◌, ap, ap₂, subst}
use native.Mathlib.Omega.{arith}
use lib.IntN.{ℤ}
use lib.ListN.{length, get_or, length-map}
use lib.Seq.{slice}
use Rattle.buffers.specs.Buffers.{over}
use Rattle.buffers.proofs.Laws.{over_length}
use Rattle.closure.specs.declared.Layers.{Layers}
use Rattle.combinators.specs.Lists.{gather}
use Rattle.combinators.specs.Once.{Small}
use Rattle.sets.specs.Sets.{size}
use Rattle.ordering.specs.Meaning.{Each}
use Rattle.ordering.specs.Meaning as meaning
use Rattle.rows.specs.Table.{Table, table, rows_in, decoding_of}
use Rattle.row_index.specs.Index.{Starts, Order}
use Rattle.spans.specs.Spans.{start_of, key_of, keys_of, wide_span}
use Rattle.spans.proofs.Measuring.{key_laid}
use Rattle.heads.specs.Units.{Frame, frame, own_of, unit_of, lags_of, lags_from}
use Rattle.heads.specs.Judging.{Kept}
use Rattle.heads.specs.Orderly.{Orderly}
use Rattle.heads.proofs.Kept.{unit_size}
use Rattle.unit_lists.specs.Sequence.{heads_by_layer, heads_in_order, unit_rows, unit_sizes, Lists, lists, lists_over}
use Rattle.unit_lists.specs.Writing.{kept_unit, kept_lags, lists_kept, Writable}
use Rattle.unit_lists.proofs.ByLayer.{Heads, each_head_in_order}
use Rattle.unit_lists.proofs.Rising.{keys_climb}

-- pieces that agree on the numbers of a list
module _ {P : ℕ → Type 0} where
  pub gather_on : {A : Type 0} (g h : ℕ → List A) {l : List ℕ} → Each P l → ((k : ℕ) → P k → g k ≡ h k) → gather g l ≡ gather h l
  gather_on g h meaning.Each.none same = refl
  gather_on {A} g h (meaning.Each.and {row} p each) same = ap₂ (λ (a b : List A). a ++ b) (same row p) (gather_on g h each same)

  map_on : (g h : ℕ → ℕ) {l : List ℕ} → Each P l → ((k : ℕ) → P k → g k ≡ h k) → map g l ≡ map h l
  map_on g h meaning.Each.none same = refl
  map_on g h (meaning.Each.and {row} p each) same = ap₂ (λ (a : ℕ) (b : List ℕ). a ∷ b) (same row p) (map_on g h each same)

module _ (t : Table) (f : Frame) where
  -- the table and the frame as the code has them
  abbrev pub bare : Table
  bare = table t.indices t.decodings []

  abbrev pub bare_frame : Frame
  bare_frame = frame f.closure f.claimed f.own []

  same_heads : heads_in_order bare bare_frame ≡ heads_in_order t f
  unfolding heads_by_layer
  same_heads = refl

  module _ (kept places : List ℕ) (known : Kept t f kept places) where
    -- the rows that were kept are the unit's
    module _ (k : ℕ) (head : Heads t f 64 k) where
      same_unit : kept_unit bare bare_frame kept places k ≡ unit_of t f k
      same_unit =
          ap (λ (n : ℕ). slice (get_or places k 0) (get_or places k 0 + n) kept) (sym (unit_size t f k)) ∙ known.unit k head.row head.is_head

      same_lags : kept_lags bare bare_frame kept places k ≡ lags_of t f k
      same_lags = ap (lags_from t (decoding_of t k)) same_unit

    same_rows : gather (kept_unit bare bare_frame kept places) (heads_in_order t f) ≡ unit_rows t f
    same_rows = gather_on (kept_unit bare bare_frame kept places) (unit_of t f) (each_head_in_order t f) same_unit

    -- WHAT IS WRITTEN are the units of the heads, in their order
    pub written : (before : Lists) → lists_kept bare bare_frame kept places (heads_in_order bare bare_frame) before ≡ lists_over t f before
    written before =
        ap (λ (heads : List ℕ). lists_kept bare bare_frame kept places heads before) same_heads
        ∙ three same_rows (gather_on (kept_lags bare bare_frame kept places) (lags_of t f) (each_head_in_order t f) same_lags)
        (map_on (λ head. size (own_of t f head)) (λ head. length (unit_of t f head)) (each_head_in_order t f) (λ k head. sym (unit_size t f k)))
      where
        three : {a b : List ℕ} {c d : List ℤ} {e g : List ℕ} → a ≡ b → c ≡ d → e ≡ g
            → lists (over a before.numbers) (over c before.lags) (over e before.sizes)
            ≡ lists (over b before.numbers) (over d before.lags) (over g before.sizes)
        three p q r = rw (p, q, r)

    -- WHAT WRITING ASKS: an index of a table in order, whose closure rows do not lie too far apart, its keys, its marks, and room
    pub writable : (layers : Layers) (target : ℕ) → Orderly layers target f.closure t → wide_span t f.closure ≡ false
        → (starts order : List ℕ) → Starts t.indices starts → Order t.indices order
        → (keys old : List ℕ) → rows_in t ≤ length old → keys ≡ over (keys_of t f.closure) old
        → rows_in t ≤ length f.claimed → (heads numbers lags sizes : ℕ) → rows_in t ≤ heads → length (unit_rows t f) ≤ numbers
        → length (unit_rows t f) ≤ lags → length (unit_sizes t f) ≤ sizes
        → Writable bare bare_frame starts order keys kept places heads numbers lags sizes
    writable layers target orderly narrow starts order s o keys old long is-keys marked heads numbers lags sizes room_heads room_numbers room_lags room_sizes =
        record {
          sorted = record { same_length = orderly.decoded; starting = s; ordered = o };
          within = orderly.within;
          marked = marked;
          keys_long =
              omega (
                arith,
                ap length is-keys,
                over_length (keys_of t f.closure) old (omega (arith, length-map t.decodings (key_of (start_of t f.closure)), orderly.decoded)),
              );
          keyed = λ k h. ap (λ (l : List ℕ). get_or l k 0) is-keys ∙ key_laid t f.closure old k orderly.decoded h;
          rising = λ j k h l m same. keys_climb layers target f.closure t orderly narrow _ j k m h l same refl;
          room_heads = room_heads;
          noted = known.noted;
          inside = λ k h e. omega (arith, known.inside k h e, unit_size t f k);
          rows = λ k h e. subst (Small (rows_in t)) (sym (same_unit k (record { row = h; is_head = e; low = orderly.within k h }))) (known.rows k h e);
          room_numbers = omega (arith, ap length as_written, room_numbers);
          room_lags = omega (arith, ap length as_written, room_lags);
          room_sizes = omega (arith, ap length same_heads, length-map (heads_in_order t f) (λ head. length (unit_of t f head)), room_sizes);
        }
      where
        as_written : gather (kept_unit bare bare_frame kept places) (heads_in_order bare bare_frame) ≡ unit_rows t f
        as_written = ap (gather (kept_unit bare bare_frame kept places)) same_heads ∙ same_rows
