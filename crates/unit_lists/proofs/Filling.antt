-- All units written, head after head: what is known after some of them, and what another adds.
-- Assumes nothing.
use Prim.Native.Nat.{ℕ, zero, suc, ◌+◌, ◌-◌, ◌≤◌, ◌<◌}
use mathlib.Core.List.{List, [], ◌∷◌, ◌++◌, map, map-append}
use mathlib.Core.Path.{◌≡◌, refl, sym, ◌∙◌, ap, ap₂}
use native.Mathlib.Nat.{zero-add}
use native.Mathlib.Numerals.{add-one}
use native.Mathlib.Omega.{arith}
use lib.IntN.{ℤ}
use lib.ListN.{length, get_or, set, take, length-append, length-map}
use lib.Seq.{sets, slice, length-sets, length-slice, take_all, take-suc, length-take-le}
use Rattle.buffers.proofs.Laws.{sets_append, sets_over}
use Rattle.combinators.specs.Lists.{gather, gather_next}
use Rattle.ordering.proofs.Stored.{row_of_part}
use Rattle.sets.specs.Sets.{size}
use Rattle.rows.specs.Table.{Table, decoding_of}
use Rattle.heads.specs.Units.{Frame, own_of, lags_from}
use Rattle.unit_lists.specs.Sequence.{lists}
use Rattle.unit_lists.specs.Writing.{kept_unit, kept_lags, lists_kept, Between, Fillable}

-- ---- what is gathered from the first of a list

-- from a part of it no more than from all
short : {A : Type 0} (g : ℕ → List A) (l : List ℕ) (n : ℕ) → length (gather g (take n l)) ≤ length (gather g l)
short g [] zero = omega arith
short g [] (suc n) = omega arith
short g (x ∷ l) zero = omega arith
short g (x ∷ l) (suc n) = omega (arith, length-append (g x) (gather g (take n l)), length-append (g x) (gather g l), short g l n)

-- as many lags as rows
pub as_many : {A B : Type 0} (g : ℕ → List A) (h : ℕ → List B) → ((x : ℕ) → length (h x) ≡ length (g x)) → (l : List ℕ)
    → length (gather h l) ≡ length (gather g l)
as_many g h same [] = refl
as_many g h same (x ∷ l) =
    length-append (h x) (gather h l) ∙ ap₂ (λ (a b : ℕ). a + b) (same x) (as_many g h same l) ∙ sym (length-append (g x) (gather g l))

module _ (t : Table) (f : Frame) (kept places heads numbers₀ : List ℕ) (lags₀ : List ℤ) (sizes₀ : List ℕ) where
  abbrev unit : ℕ → List ℕ
  unit = kept_unit t f kept places

  abbrev beside_unit : ℕ → List ℤ
  beside_unit = kept_lags t f kept places

  abbrev size_of : ℕ → ℕ
  size_of head = size (own_of t f head)

  abbrev units : ℕ → List ℕ
  units n = gather unit (take n heads)

  lags_many : (l : List ℕ) → length (gather beside_unit l) ≡ length (gather unit l)
  lags_many l = as_many unit beside_unit (λ head. length-map (unit head) _) l

  -- the units so far are written one after another, and the next has its place after them
  pub record Filled (n at : ℕ) (numbers : List ℕ) (lags : List ℤ) (sizes : List ℕ) : Type 0 where
    pub within : n ≤ length heads
    pub place : at ≡ length (units n)
    pub content : numbers ≡ sets numbers₀ 0 (units n)
    pub beside : lags ≡ sets lags₀ 0 (gather beside_unit (take n heads))
    pub counted : sizes ≡ sets sizes₀ 0 (map size_of (take n heads))

  pub filled_start : Filled 0 0 numbers₀ lags₀ sizes₀
  filled_start = record { within = omega arith; place = refl; content = refl; beside = refl; counted = refl }

  module _ (n at : ℕ) (numbers : List ℕ) (lags : List ℤ) (sizes : List ℕ) (known : Filled n at numbers lags sizes) where
    pub long_numbers : length numbers ≡ length numbers₀
    long_numbers = ap length known.content ∙ length-sets numbers₀ 0 (units n)

    pub long_lags : length lags ≡ length lags₀
    long_lags = ap length known.beside ∙ length-sets lags₀ 0 (gather beside_unit (take n heads))

    pub long_sizes : length sizes ≡ length sizes₀
    long_sizes = ap length known.counted ∙ length-sets sizes₀ 0 (map size_of (take n heads))

    module _ (ready : Fillable t f kept places heads (length numbers₀) (length lags₀) (length sizes₀)) where
      -- ---- one unit more

      module _ (inside : n < length heads) where
        abbrev head : ℕ
        head = get_or heads n 0

        abbrev first : ℕ
        first = get_or places head 0

        unit_long : length (unit head) ≡ size_of head
        unit_long = length-slice first (first + size_of head) kept (ready.inside n inside) ∙ omega arith

        more : units (n + 1) ≡ units n ++ unit head
        more = gather_next heads 0 unit n inside

        more_beside : gather beside_unit (take (n + 1) heads) ≡ gather beside_unit (take n heads) ++ beside_unit head
        more_beside = gather_next heads 0 beside_unit n inside

        fits : at + size_of head ≤ length (gather unit heads)
        fits =
            omega (
              arith,
              known.place,
              unit_long,
              length-append (units n) (unit head),
              ap length more,
              short unit heads (n + 1),
            )

        module _ (width : ℕ) (is-width : width ≡ size_of head) where
          pub unit_rows : Between kept (length t.decodings) first (first + width)
          unit_rows =
              rw is-width
              record {
                from_to = omega arith;
                inside = ready.inside n inside;
                row = λ p h l.
                    (let there : first + (p - first) ≡ p = omega arith in
                    let small = ready.rows n inside (p - first) (omega (arith, unit_long)) in
                    let row = row_of_part kept first (first + size_of head) (p - first) (omega arith) ∙ ap (λ (k : ℕ). get_or kept k 0) there in
                    omega (arith, ready.decoded));
              }

          pub room_numbers : at + (first + width - first) ≤ length numbers
          room_numbers = omega (arith, fits, ready.room_numbers, long_numbers)

          pub room_lags : at + (first + width - first) ≤ length lags
          room_lags = omega (arith, fits, ready.room_lags, long_lags)

          pub room_sizes : n < length sizes
          room_sizes = omega (arith, ready.room_sizes, long_sizes)

          pub filled_more : (numbers' : List ℕ) (lags' : List ℤ) → numbers' ≡ sets numbers at (slice first (first + width) kept)
              → lags' ≡ sets lags at (lags_from t (decoding_of t head) (slice first (first + width) kept))
              → Filled (n + 1) (at + width) numbers' lags' (set sizes n width)
          filled_more numbers' lags' is-numbers is-lags =
              record {
                within = omega arith;
                place = omega (arith, known.place, unit_long, length-append (units n) (unit head), ap length more);
                content =
                    is-numbers
                    ∙ ap (λ (w : ℕ). sets numbers at (slice first (first + w) kept)) is-width
                    ∙ ap₂ (λ (l : List ℕ) (k : ℕ). sets l k (unit head)) known.content (known.place ∙ sym (zero-add (length (units n))))
                    ∙ sets_append numbers₀ 0 (units n) (unit head)
                    ∙ ap (sets numbers₀ 0) (sym more);
                beside =
                    is-lags
                    ∙ ap (λ (w : ℕ). sets lags at (lags_from t (decoding_of t head) (slice first (first + w) kept))) is-width
                    ∙ ap₂ (λ (l : List ℤ) (k : ℕ). sets l k (beside_unit head)) known.beside
                    (known.place ∙ sym (lags_many (take n heads)) ∙ sym (zero-add (length (gather beside_unit (take n heads)))))
                    ∙ sets_append lags₀ 0 (gather beside_unit (take n heads)) (beside_unit head)
                    ∙ ap (sets lags₀ 0) (sym more_beside);
                counted = one_size;
              }
            where
              sizes_many : length (map size_of (take n heads)) ≡ n
              sizes_many = length-map (take n heads) size_of ∙ length-take-le n heads (omega arith)

              map_more : map size_of (take (n + 1) heads) ≡ map size_of (take n heads) ++ size_of head ∷ []
              map_more =
                  ap (λ (k : ℕ). map size_of (take k heads)) (add-one n)
                  ∙ ap (map size_of) (take-suc heads n 0 inside)
                  ∙ map-append size_of (take n heads) (head ∷ [])

              one_size : set sizes n width ≡ sets sizes₀ 0 (map size_of (take (n + 1) heads))
              one_size =
                  ap₂ (λ (l : List ℕ) (w : ℕ). set l n w) known.counted is-width
                  ∙ ap (λ (k : ℕ). set (sets sizes₀ 0 (map size_of (take n heads))) k (size_of head)) (sym (zero-add n) ∙ ap (λ (k : ℕ). 0 + k) (sym sizes_many))
                  ∙ sets_append sizes₀ 0 (map size_of (take n heads)) (size_of head ∷ [])
                  ∙ ap (sets sizes₀ 0) (sym map_more)

      -- ---- after the last

      pub filled_end : length heads ≤ n → lists numbers lags sizes ≡ lists_kept t f kept places heads (lists numbers₀ lags₀ sizes₀)
      filled_end h =
          let all = take_all n heads h in
          three
          (known.content ∙ ap (λ (l : List ℕ). sets numbers₀ 0 (gather unit l)) all ∙ sets_over (gather unit heads) numbers₀ ready.room_numbers)
          (known.beside ∙ ap (λ (l : List ℕ). sets lags₀ 0 (gather beside_unit l)) all
          ∙ sets_over (gather beside_unit heads) lags₀ (omega (arith, lags_many heads, ready.room_lags)))
          (known.counted ∙ ap (λ (l : List ℕ). sets sizes₀ 0 (map size_of l)) all
          ∙ sets_over (map size_of heads) sizes₀ (omega (arith, length-map heads size_of, ready.room_sizes)))
        where
          three : {a b : List ℕ} {c d : List ℤ} {e g : List ℕ} → a ≡ b → c ≡ d → e ≡ g → lists a c e ≡ lists b d g
          three p q r = rw (p, q, r)
