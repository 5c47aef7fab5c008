-- What a column of 64 places holds after some entries: at each index what the last layer of that index has, and a blank where there is none.
-- One law for every column, of whatever it holds.
-- Assumes nothing.
use Prim.Native.Nat.{ℕ, suc, ◌<◌}
use mathlib.Core.Path.{◌≡◌, refl, sym, ◌∙◌, ap, subst}
use mathlib.Core.Bool.{Bool, true, false, cond}
use mathlib.Core.List.{List, [], ◌∷◌}
use native.Mathlib.Decide.{dec_lt, ℕ_discrete}
use native.Mathlib.Nat.{not-suc-le-zero}
use native.Mathlib.Omega.{arith}
use lib.ListN.{length, get_or, set, replicate, length-set, length-replicate, get_or-replicate}
use lib.Seq.{get_or-set_same, get_or-set_other, ext_get_or}
use Rattle.combinators.specs.Lists.{Nth, here, there, nth_inside, nth_one}
use Rattle.records.specs.declared.Record.{Record}
use Rattle.records.specs.Records.{is_layer, index_of}
use Rattle.loop_entries.specs.declared.Entry.{Entry}
use Rattle.loop_faults.specs.Conditions.{slot_of}
use Rattle.loop_layers.specs.Layers.{place_of, column_with, column_of}
use Rattle.loop_layers.specs.Meaning.{LayerAt, LayerOf, HasLayer, ColumnOf}

pub column_length : {A : Type 0} (value : Entry → A) (column : List A) (l : List Entry) → length (column_with value column l) ≡ length column
column_length value column [] = refl
column_length value column (x ∷ xs) = column_length value (set column (place_of x) (value x)) xs ∙ length-set column (place_of x) (value x)

-- ---- an entry's place in a column, and the layer that it is

-- a layer stands at its index
stands : (t : ℕ) (r : Record) (i : ℕ) → is_layer r ≡ true → index_of t r ≡ i → slot_of t r ≡ i
stands t r i l e = ap (λ (b : Bool). cond b (index_of t r) 256) l ∙ e

-- and what stands at an index of six bits is the layer of that index
standing : (t : ℕ) (r : Record) (i : ℕ) → i < 64 → slot_of t r ≡ i → (is_layer r ≡ true) × (index_of t r ≡ i)
standing t r i h e = go (is_layer r) refl
  where
    go : (b : Bool) → is_layer r ≡ b → (is_layer r ≡ true) × (index_of t r ≡ i)
    go true p = (p, sym (ap (λ (b : Bool). cond b (index_of t r) 256) p) ∙ e)
    go false p = let past : slot_of t r ≡ 256 = ap (λ (b : Bool). cond b (index_of t r) 256) p in absurd (omega arith)

module _ (entries : List Entry) where
  pub layer_stands : {k i : ℕ} {e : Entry} → LayerAt entries k i e → place_of e ≡ i
  layer_stands {i = i} {e = e} l = stands e.stream_type e.«record» i l.layer l.index

  pub stands_layer : {k i : ℕ} {e : Entry} → i < 64 → Nth entries k e → place_of e ≡ i → LayerAt entries k i e
  stands_layer {i = i} {e = e} h n p =
      let w = standing e.stream_type e.«record» i h p in
      record { entry = n; layer = w.0; index = w.1 }

-- ---- what a column holds at an index

-- the last entry that stands at i, with what the column then holds there; or none does, and it holds what it held
data Held {A : Type 0} (value : Entry → A) (entries : List Entry) (i : ℕ) (old new : A) : Type 0 where
  by_last : (k : ℕ) (e : Entry) → Nth entries k e → place_of e ≡ i
      → ((j : ℕ) (x : Entry) → k < j → Nth entries j x → place_of x ≡ i → ⊥) → new ≡ value e → Held value entries i old new
  by_none : ((j : ℕ) (x : Entry) → Nth entries j x → place_of x ≡ i → ⊥) → new ≡ old → Held value entries i old new

held : {A : Type 0} (value : Entry → A) (d : A) (column : List A) (entries : List Entry) (i : ℕ) → i < length column
    → Held value entries i (get_or column i d) (get_or (column_with value column entries) i d)
held value d column [] i h = by_none (λ j x n p. not-suc-le-zero (nth_inside n)) refl
held {A} value d column (e ∷ es) i h =
    go (held value d (set column (place_of e) (value e)) es i (rw (length-set column (place_of e) (value e)) h)) (ℕ_discrete (place_of e) i)
  where
    new : A
    new = get_or (column_with value (set column (place_of e) (value e)) es) i d

    later : (k : ℕ) → ((j : ℕ) (x : Entry) → k < j → Nth es j x → place_of x ≡ i → ⊥)
        → (j : ℕ) (x : Entry) → suc k < j → Nth (e ∷ es) j x → place_of x ≡ i → ⊥
    later k f j x l here p = omega arith
    later k f j x l (there {k = m} n) p = f m x (omega arith) n p

    after_first : ((j : ℕ) (x : Entry) → Nth es j x → place_of x ≡ i → ⊥) → (j : ℕ) (x : Entry) → 0 < j → Nth (e ∷ es) j x → place_of x ≡ i → ⊥
    after_first f j x l here p = omega arith
    after_first f j x l (there {k = m} n) p = f m x n p

    nowhere : ((j : ℕ) (x : Entry) → Nth es j x → place_of x ≡ i → ⊥) → (place_of e ≡ i → ⊥) → (j : ℕ) (x : Entry) → Nth (e ∷ es) j x → place_of x ≡ i → ⊥
    nowhere f q j x here p = q p
    nowhere f q j x (there {k = m} n) p = f m x n p

    go : Held value es i (get_or (set column (place_of e) (value e)) i d) new → Dec (place_of e ≡ i) → Held value (e ∷ es) i (get_or column i d) new
    go (by_last k x n p f v) q = by_last (suc k) x (there n) p (later k f) v
    go (by_none f v) (yes q) =
        by_last 0 e here q (after_first f)
        (v ∙ ap (λ (j : ℕ). get_or (set column (place_of e) (value e)) j d) (sym q) ∙ get_or-set_same column (place_of e) (value e) d (rw q h))
    go (by_none f v) (no q) = by_none (nowhere f q) (v ∙ get_or-set_other column (place_of e) i (value e) d (λ p. q (sym p)))

-- THE COLUMN has the meaning.
module _ {A : Type 0} (blank : A) (value : Entry → A) (entries : List Entry) where
  abbrev HeldAt : ℕ → Type 0
  HeldAt i = Held value entries i (get_or (replicate 64 blank) i blank) (get_or (column_of blank value entries) i blank)

  known : (i : ℕ) → i < 64 → HeldAt i
  known i h = held value blank (replicate 64 blank) entries i (rw (length-replicate 64 blank) h)

  -- the last entry that stands at an index is the layer of that index
  last_layer : (i k : ℕ) (x : Entry) → i < 64 → Nth entries k x → place_of x ≡ i
      → ((j : ℕ) (y : Entry) → k < j → Nth entries j y → place_of y ≡ i → ⊥) → HasLayer entries i
  last_layer i k x h n p f =
      record {
        entry = x;
        layer = record {
          six_bits = h;
          place = k;
          at_place = stands_layer entries h n p;
          last = λ j y l m. f j y l m.entry (layer_stands entries m);
        };
      }

  at_layer : (i : ℕ) (e : Entry) → LayerOf entries i e → get_or (column_of blank value entries) i blank ≡ value e
  at_layer i e l = go (known i l.six_bits)
    where
      same : (k : ℕ) (x : Entry) → Nth entries k x → place_of x ≡ i → ((j : ℕ) (y : Entry) → k < j → Nth entries j y → place_of y ≡ i → ⊥) → x ≡ e
      same k x n p f = by_order (dec_lt k l.place) (dec_lt l.place k)
        where
          by_order : Dec (k < l.place) → Dec (l.place < k) → x ≡ e
          by_order (yes h) d = absurd (f l.place e h l.at_place.entry (layer_stands entries l.at_place))
          by_order (no h) (yes g) = absurd (l.last k x g (stands_layer entries l.six_bits n p))
          by_order (no h) (no g) =
              let equal : k ≡ l.place = omega arith in
              nth_one (subst (λ (m : ℕ). Nth entries m x) equal n) l.at_place.entry

      go : HeldAt i → get_or (column_of blank value entries) i blank ≡ value e
      go (by_last k x n p f v) = v ∙ ap value (same k x n p f)
      go (by_none f v) = absurd (f l.place e l.at_place.entry (layer_stands entries l.at_place))

  at_no_layer : (i : ℕ) → i < 64 → (HasLayer entries i → ⊥) → get_or (column_of blank value entries) i blank ≡ blank
  at_no_layer i h none = go (known i h)
    where
      go : HeldAt i → get_or (column_of blank value entries) i blank ≡ blank
      go (by_last k x n p f v) = absurd (none (last_layer i k x h n p f))
      go (by_none f v) = v ∙ get_or-replicate 64 i blank blank h

  pub column_meant : ColumnOf entries blank value (column_of blank value entries)
  column_meant =
      record {
        places = column_length value (replicate 64 blank) entries ∙ length-replicate 64 blank;
        layer = at_layer;
        no_layer = at_no_layer;
      }

-- ---- whether the entries have a layer of an index

pub data LayerOrNone (entries : List Entry) (i : ℕ) : Type 0 where
  a_layer : (e : Entry) → LayerOf entries i e → LayerOrNone entries i
  no_layer_lem : (HasLayer entries i → ⊥) → ((k : ℕ) (e : Entry) → Nth entries k e → place_of e ≡ i → ⊥) → LayerOrNone entries i

pub layer_or_none : (entries : List Entry) (i : ℕ) → i < 64 → LayerOrNone entries i
layer_or_none entries i h = go (known 0 place_of entries i h)
  where
    go : HeldAt 0 place_of entries i → LayerOrNone entries i
    go (by_last k x n p f v) = let l = last_layer 0 place_of entries i k x h n p f in a_layer l.entry l.layer
    go (by_none f v) =
        no_layer_lem (λ l. f l.layer.place l.entry l.layer.at_place.entry (layer_stands entries l.layer.at_place)) f

pub has_layer : (entries : List Entry) {i k : ℕ} {e : Entry} → i < 64 → Nth entries k e → place_of e ≡ i → HasLayer entries i
has_layer entries {i} {k} {e} h n p = go (layer_or_none entries i h)
  where
    go : LayerOrNone entries i → HasLayer entries i
    go (a_layer x l) = record { entry = x; layer = l }
    go (no_layer_lem f g) = absurd (g k e n p)

-- AND NO OTHER COLUMN HAS IT.
pub column_only : {A : Type 0} (blank : A) (value : Entry → A) (entries : List Entry) {column : List A} → ColumnOf entries blank value column
    → column ≡ column_of blank value entries
column_only blank value entries {column} c =
    ext_get_or blank column (column_of blank value entries) (c.places ∙ sym computed.places)
    (λ i h. go i (rw c.places at h) (layer_or_none entries i (rw c.places at h)))
  where
    computed : ColumnOf entries blank value (column_of blank value entries)
    computed = column_meant blank value entries

    go : (i : ℕ) → i < 64 → LayerOrNone entries i → get_or column i blank ≡ get_or (column_of blank value entries) i blank
    go i h (a_layer e l) = c.layer i e l ∙ sym (computed.layer i e l)
    go i h (no_layer_lem f g) = c.no_layer i h f ∙ sym (computed.no_layer i h f)
