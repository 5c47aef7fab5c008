-- The laws that join the meaning of reading a stereo set to what is computed, both ways.
-- Assumes nothing.
use Rattle.std.specs.Prelude.{Err, Ok}
use Rattle.es_loop.specs.Answer.{Outcome, Verdict, entries_judged}
use Prim.Native.Nat.{ℕ, ◌<◌}
use mathlib.Core.Path.{◌≡◌, refl, sym, ◌∙◌, ap, subst}
use mathlib.Core.Logic.{◌⊎◌, inl, inr}
use mathlib.Core.Bool.{Bool, true, false, cond}
use mathlib.Core.List.{List, [], ◌∷◌, map}
use native.Mathlib.Omega.{arith}
use lib.ListN.{length}
use Rattle.combinators.specs.Bools.{apart, both_ways, false_unless}
use Rattle.combinators.specs.Lists.{Nth, nth_inside, nth_get_d, nth_one, nth_map, nth_of_map}
use Rattle.framing.specs.Pieces.{Item, whole, broken, cut}
use Rattle.framing.proofs.Pieces.{cuts_unique}
use Rattle.vocabulary.specs.declared.refusal.Refusal.{Refusal}
use Rattle.vocabulary.specs.declared.refusal.Refusal.TheVariants.{NotStereoSet, WrongMvcExtension, RangesMeet}
use Rattle.vocabulary.specs.declared.stream_types.Reading.TheVariants.{Edition2015}
use Rattle.records.specs.Records.{is_layer}
use Rattle.judging.specs.Judging.{type_not_allowed, wrong_embedded}
use Rattle.loop_entries.specs.declared.Entry.{Entry}
use Rattle.loop_entries.specs.declared.Stream.{Stream}
use Rattle.es_loop.specs.declared.reader.LoopRead.{LoopRead}
use Rattle.loop_entries.specs.Entries.{es_info_length, no_stream, stream_of, pair_of, marked_stream, marked_streams, streams_of, entry_of}
use Rattle.loop_faults.specs.Conditions.{stream_at, given_at, applies}
use Rattle.es_loop.specs.Reading.{refused_with, accepted, answer_by, verdict_of, loop_read}
use Rattle.es_loop.specs.Meaning as Loop
use Rattle.es_loop.proofs.Meant.{by_head, answer_meant, answer_only}
use Rattle.es_loop.proofs.Verdicts.{sound}
use Rattle.mvc_extension.specs.declared.MvcExtension.{MvcExtension}
use Rattle.mvc_extension.specs.Ranges.{wrong_ranges}
use Rattle.mvc_extension.proofs.RangesMeant.{ranges_meant, ranges_only}
use Rattle.mvc_descriptors.specs.declared.Found.{Found}
use Rattle.mvc_descriptors.specs.declared.Found.TheVariants.{Missing, One, Wrong}
use Rattle.mvc_descriptors.specs.Finding.{extension_in}
use Rattle.mvc_descriptors.specs.Meaning.{WrongExtension, HasExtension}
use Rattle.mvc_descriptors.proofs.Meant.{FoundCase, none_found, one_found, wrong_found, found_meant, never_both, has_only}
use Rattle.stereo_set.specs.declared.views.View.{View}
use Rattle.stereo_set.specs.declared.set.StereoRead.{StereoRead}
use Rattle.stereo_set.specs.Views.{layers_among}
use Rattle.stereo_set.specs.Set.{refused_set, accepted_set, found_judged, described_set, set_of}
use Rattle.stereo_set.specs.Reading.{view_of, views_of, stereo_by, stereo_read}
use Rattle.stereo_set.specs.Meaning.{Accepts, answered, InfoAt, StereoLayers, Answers, loop_refused, not_the_two, wrong_extension, wrong_ranges_lem, a_set}
use Rattle.stereo_set.specs.Two.{LayerAt, LayerOf, TwoLayers}
use Rattle.stereo_set.proofs.Judged.{Fine, entries_in, judged_by, SetCase, no_set, the_set, set_case}

-- ---- the layers of a loop's entries, as they are looked at and as they are answered

module _ (items : List Item) where
  abbrev streams : List Stream
  streams = marked_streams (map (stream_of Edition2015) items)

  abbrev pair : Bool
  pair = pair_of (map (stream_of Edition2015) items)

  -- the entries that are looked at are those that are answered
  same_entries : entries_in (views_of items) ≡ answered items
  same_entries = go items
    where
      go : (l : List Item) → map (λ (v : View). v.entry) (map (view_of pair) l) ≡ map entry_of (map (marked_stream pair) (map (stream_of Edition2015) l))
      go [] = refl
      go (x ∷ xs) = ap (λ (es : List Entry). entry_of (marked_stream pair (stream_of Edition2015 x)) ∷ es) (go xs)

  -- where no number applies, none is refused with 6 or 9
  fine_there : ((n k : ℕ) → n < 10 → k < length streams → applies streams n k ≡ false) → (k : ℕ) (e : Entry) → Nth (entries_in (views_of items)) k e → Fine e
  fine_there none k e n = go (nth_of_map entry_of streams (subst (λ (l : List Entry). Nth l k e) same_entries n))
    where
      go : (s : Stream) × Nth streams k s × (entry_of s ≡ e) → Fine e
      go (s, at, is) =
          let same : entry_of (stream_at streams k) ≡ e = ap entry_of (nth_get_d no_stream at) ∙ is in
          record {
            given = given_at streams k;
            six = sym (ap (λ (x : Entry). type_not_allowed (given_at streams k) x.stream_type x.«record») same) ∙ none 6 k (omega arith) (nth_inside at);
            nine = sym (ap (λ (x : Entry). wrong_embedded x.stream_type x.«record» x.embedded) same) ∙ none 9 k (omega arith) (nth_inside at);
          }

  -- a layer that is looked at, with its descriptor bytes
  record Looked (k : ℕ) (v : View) : Type 0 where
    pub info : List ℕ
    pub at_place : InfoAt items k info
    pub found : v.found ≡ extension_in info

  looked : {k : ℕ} {v : View} → Nth (views_of items) k v → is_layer v.entry.«record» ≡ true → Looked k v
  looked {k} {v} n layer = go (nth_of_map (view_of pair) items n)
    where
      by_item : (x : Item) → Nth items k x → view_of pair x ≡ v → Looked k v
      by_item broken at e = apart (ap (λ (w : View). is_layer w.entry.«record») e ∙ layer)
      by_item (whole head info) at e =
          record { info = info; at_place = record { head = head; item = at }; found = sym (ap (λ (w : View). w.found) e) }

      go : (x : Item) × Nth items k x × (view_of pair x ≡ v) → Looked k v
      go (x, at, e) = by_item x at e

  two_answered : {base second : Entry} → TwoLayers (entries_in (views_of items)) base second → TwoLayers (answered items) base second
  two_answered {base} {second} two = subst (λ (l : List Entry). TwoLayers l base second) same_entries two

  two_looked : {base second : Entry} → TwoLayers (answered items) base second → TwoLayers (entries_in (views_of items)) base second
  two_looked {base} {second} two = subst (λ (l : List Entry). TwoLayers l base second) (sym same_entries) two

  -- THE SET IS JUDGED by the two layers that are meant.
  pub judged_by_two : {base second : Entry} {baseInfo secondInfo : List ℕ} → StereoLayers items base second baseInfo secondInfo
      → set_of (layers_among (views_of items)) ≡ found_judged base (extension_in baseInfo) second (extension_in secondInfo)
  judged_by_two {base} {second} {baseInfo} {secondInfo} s =
      let two = s.two in
      let a : View = view_of pair (whole s.base_info.head baseInfo) in
      let b : View = view_of pair (whole s.second_info.head secondInfo) in
      let is_base : a.entry ≡ base = nth_one (there s.base_info.item) two.is_base.stands.entry in
      let is_second : b.entry ≡ second = nth_one (there s.second_info.item) two.is_second.stands.entry in
      by two (nth_map (view_of pair) s.base_info.item) (nth_map (view_of pair) s.second_info.item)
      ∙ ap (λ (e : Entry). found_judged e (extension_in baseInfo) b.entry (extension_in secondInfo)) is_base
      ∙ ap (λ (e : Entry). found_judged base (extension_in baseInfo) e (extension_in secondInfo)) is_second
    where
      there : {k : ℕ} {x : Item} → Nth items k x → Nth (answered items) k (entry_of (marked_stream pair (stream_of Edition2015 x)))
      there n = nth_map entry_of (nth_map (marked_stream pair) (nth_map (stream_of Edition2015) n))

      -- the same places in what is looked at
      by : (two : TwoLayers (answered items) base second) {a b : View} → Nth (views_of items) two.base_place a → Nth (views_of items) two.second_place b
          → set_of (layers_among (views_of items)) ≡ described_set a b
      by two {a} {b} n m = judged_by (views_of items) (moved two) n m
        where
          moved : TwoLayers (answered items) base second → TwoLayers (entries_in (views_of items)) base second
          moved t =
              record {
                base_place = t.base_place;
                second_place = t.second_place;
                is_base = subst (λ (l : List Entry). LayerOf l t.base_place 0x1B 0 [] base) (sym same_entries) t.is_base;
                is_second = subst (λ (l : List Entry). LayerOf l t.second_place 0x20 1 (0 ∷ []) second) (sym same_entries) t.is_second;
                no_other = λ k e l. t.no_other k e (subst (λ (es : List Entry). LayerAt es k e) same_entries l);
              }

  -- what the layers of a loop that is accepted come to
  pub data LoopCase : StereoRead → Type 0 where
    no_set_there : ((base second : Entry) → TwoLayers (answered items) base second → ⊥) → LoopCase (refused_set NotStereoSet)
    a_set_there : {base second : Entry} {baseInfo secondInfo : List ℕ} → StereoLayers items base second baseInfo secondInfo
        → LoopCase (found_judged base (extension_in baseInfo) second (extension_in secondInfo))

  pub loop_case : ((n k : ℕ) → n < 10 → k < length streams → applies streams n k ≡ false) → LoopCase (set_of (layers_among (views_of items)))
  loop_case none = go (set_case (views_of items) (fine_there none))
    where
      go : {r : StereoRead} → SetCase (views_of items) r → LoopCase r
      go (no_set f) = no_set_there (λ base second two. f base second (two_looked two))
      go (the_set {a} {b} two n m) =
          let p = looked n two.is_base.stands.layer in
          let q = looked m two.is_second.stands.layer in
          subst LoopCase
          (sym (ap (λ (f : Found). found_judged a.entry f b.entry b.found) p.found ∙ ap (found_judged a.entry (extension_in p.info) b.entry) q.found))
          (a_set_there
          (record {
            two = record {
              base_place = two.base_place;
              second_place = two.second_place;
              is_base = subst (λ (l : List Entry). LayerOf l two.base_place 0x1B 0 [] a.entry) same_entries two.is_base;
              is_second = subst (λ (l : List Entry). LayerOf l two.second_place 0x20 1 (0 ∷ []) b.entry) same_entries two.is_second;
              no_other = λ k e l. two.no_other k e (subst (λ (es : List Entry). LayerAt es k e) (sym same_entries) l);
            };
            base_info = p.at_place;
            second_info = q.at_place;
          }))

-- ---- the answer

module _ (bytes : List ℕ) where
  abbrev cut_items : List Item
  cut_items = cut 5 es_info_length bytes

  -- a loop that is accepted, in the meaning and in the verdict
  never_accepted : {A : Type 0} {r : Refusal} {read : LoopRead} → read ≡ refused_with r → read.outcome ≡ Ok tt → A
  never_accepted {A} {r} {read} e o = go (sym (ap (λ (x : LoopRead). x.outcome) e) ∙ o)
    where
      go : ◌≡◌ {A = Outcome} (Err r) (Ok tt) → A
      go q = let z : ◌≡◌ {A = ℕ} 0 1 = cc in absurd (omega arith)

  record AcceptsSome : Type 0 where
    pub items : List Item
    pub accepts : Accepts bytes items

  accepts_by : (read : LoopRead) → Loop.Answers Edition2015 bytes read → read.outcome ≡ Ok tt → AcceptsSome
  accepts_by read (Loop.too_long_lem h) o = never_accepted refl o
  accepts_by read (Loop.refuses short cuts at_entry_lem lower earlier) o = never_accepted refl o
  accepts_by read (Loop.accepts {entries} short cuts none) o = record { items = entries; accepts = record { short = short; cuts = cuts; sound = none } }

  same_items : {items : List Item} → Accepts bytes items → items ≡ cut_items
  same_items a = cuts_unique 5 es_info_length (omega arith) by_head a.cuts

  accepts_cut : (count : ℕ) (p : Bool) → verdict_of Edition2015 bytes ≡ entries_judged count p → Accepts bytes cut_items
  accepts_cut count p e =
      let some = accepts_by (loop_read Edition2015 bytes) (answer_meant Edition2015 bytes)
      (ap (λ (v : Verdict). (answer_by (streams_of Edition2015 bytes) v).outcome) e) in
      subst (Accepts bytes) (same_items some.accepts) some.accepts

  none_applies : (count : ℕ) (p : Bool) → verdict_of Edition2015 bytes ≡ entries_judged count p
      → (n k : ℕ) → n < 10 → k < length (streams cut_items) → applies (streams cut_items) n k ≡ false
  none_applies count p e = (sound Edition2015 bytes count p e).none

  -- the set judged by two layers, in the meaning
  described : {items : List Item} {base second : Entry} {baseInfo secondInfo : List ℕ} → Accepts bytes items
      → StereoLayers items base second baseInfo secondInfo → Answers bytes (found_judged base (extension_in baseInfo) second (extension_in secondInfo))
  described {items} {base} {second} {baseInfo} {secondInfo} a two =
      by (extension_in baseInfo) (extension_in secondInfo) (found_meant baseInfo) (found_meant secondInfo)
    where
      by_ranges : (x y : MvcExtension) → HasExtension baseInfo x → HasExtension secondInfo y → (w : Bool) → wrong_ranges x y ≡ w
          → Answers bytes (cond w (refused_set RangesMeet) (accepted_set base x second y))
      by_ranges x y has_x has_y true p = wrong_ranges_lem a two has_x has_y (ranges_meant x y p)
      by_ranges x y has_x has_y false p = a_set a two has_x has_y (λ w. both_ways (ranges_only x y w) p)

      by : (f g : Found) → FoundCase baseInfo f → FoundCase secondInfo g → Answers bytes (found_judged base f second g)
      by Missing g (none_found w) other = wrong_extension a two (inl w)
      by Wrong g (wrong_found w) other = wrong_extension a two (inl w)
      by (One x) Missing (one_found h) (none_found w) = wrong_extension a two (inr w)
      by (One x) Wrong (one_found h) (wrong_found w) = wrong_extension a two (inr w)
      by (One x) (One y) (one_found h) (one_found g) = by_ranges x y h g (wrong_ranges x y) refl

  -- THE ANSWER COMPUTED HAS THE MEANING.
  pub stereo_meant : Answers bytes (stereo_read bytes)
  stereo_meant = by_verdict (verdict_of Edition2015 bytes) refl
    where
      by_case : Accepts bytes cut_items → {r : StereoRead} → LoopCase cut_items r → Answers bytes r
      by_case a (no_set_there f) = not_the_two a f
      by_case a (a_set_there two) = described a two

      by_verdict : (v : Verdict) → verdict_of Edition2015 bytes ≡ v → Answers bytes (stereo_by bytes v)
      by_verdict (Err r) e =
          loop_refused (subst (Loop.Answers Edition2015 bytes) (ap (answer_by (streams_of Edition2015 bytes)) e) (answer_meant Edition2015 bytes))
      by_verdict (Ok judged) e = by_case (accepts_cut judged.count judged.pair e) (loop_case cut_items (none_applies judged.count judged.pair e))

  -- AND NO OTHER ANSWER HAS IT.
  same_refusal : {r q : Refusal} → refused_with r ≡ refused_with q → r ≡ q
  same_refusal {r} {q} e = go (ap (λ (x : LoopRead). x.outcome) e)
    where
      go : ◌≡◌ {A = Outcome} (Err r) (Err q) → r ≡ q
      go p = cc

  -- a loop that is accepted is judged as a set
  judged_set_of : {items : List Item} → Accepts bytes items
      → (stereo_read bytes ≡ set_of (layers_among (views_of items))) × LoopCase items (set_of (layers_among (views_of items)))
  judged_set_of {items} a = go (verdict_of Edition2015 bytes) refl
    where
      read : accepted (streams items) ≡ loop_read Edition2015 bytes
      read = answer_only Edition2015 bytes (Loop.accepts a.short a.cuts a.sound)

      go : (v : Verdict) → verdict_of Edition2015 bytes ≡ v
          → (stereo_read bytes ≡ set_of (layers_among (views_of items))) × LoopCase items (set_of (layers_among (views_of items)))
      go (Err r) e =
          never_accepted (ap (answer_by (streams_of Edition2015 bytes)) e) (sym (ap (λ (x : LoopRead). x.outcome) read))
      go (Ok judged) e = (
        ap (stereo_by bytes) e ∙ ap (λ (l : List Item). set_of (layers_among (views_of l))) (sym (same_items a)),
        subst (λ (l : List Item). LoopCase l (set_of (layers_among (views_of l)))) (sym (same_items a)) (loop_case cut_items (none_applies judged.count judged.pair e)),
      )

  -- what is judged by two layers, by what each has
  read_by : {items : List Item} {base second : Entry} {baseInfo secondInfo : List ℕ} → Accepts bytes items
      → StereoLayers items base second baseInfo secondInfo → stereo_read bytes ≡ found_judged base (extension_in baseInfo) second (extension_in secondInfo)
  read_by {items} a two = (judged_set_of a).0 ∙ judged_by_two items two

  pub stereo_only : {answer : StereoRead} → Answers bytes answer → answer ≡ stereo_read bytes
  stereo_only (loop_refused {refusal} l) = go (verdict_of Edition2015 bytes) refl
    where
      read : refused_with refusal ≡ loop_read Edition2015 bytes
      read = answer_only Edition2015 bytes l

      go : (v : Verdict) → verdict_of Edition2015 bytes ≡ v → refused_set refusal ≡ stereo_read bytes
      go (Err r) e = ap refused_set (same_refusal (read ∙ ap (answer_by (streams_of Edition2015 bytes)) e)) ∙ sym (ap (stereo_by bytes) e)
      go (Ok judged) e = never_accepted (sym read) (ap (λ (v : Verdict). (answer_by (streams_of Edition2015 bytes) v).outcome) e)
  stereo_only (not_the_two {items} a none) = sym ((judged_set_of a).0 ∙ go (judged_set_of a).1)
    where
      go : {r : StereoRead} → LoopCase items r → r ≡ refused_set NotStereoSet
      go (no_set_there f) = refl
      go (a_set_there {base} {second} {baseInfo} {secondInfo} s) = absurd (none base second s.two)
  stereo_only (wrong_extension {items} {base} {second} {baseInfo} {secondInfo} a two w) =
      sym (read_by a two ∙ go (extension_in baseInfo) (extension_in secondInfo) (found_meant baseInfo) (found_meant secondInfo) w)
    where
      go : (f g : Found) → FoundCase baseInfo f → FoundCase secondInfo g → WrongExtension baseInfo ⊎ WrongExtension secondInfo
          → found_judged base f second g ≡ refused_set WrongMvcExtension
      go Missing g p q v = refl
      go Wrong g p q v = refl
      go (One x) Missing p q v = refl
      go (One x) Wrong p q v = refl
      go (One x) (One y) (one_found h) q (inl v) = absurd (never_both v h)
      go (One x) (One y) p (one_found h) (inr v) = absurd (never_both v h)
  stereo_only (wrong_ranges_lem {items} {base} {second} {baseInfo} {secondInfo} {x} {y} a two h g w) =
      sym (read_by a two ∙ rw (has_only h, has_only g, ranges_only x y w))
  stereo_only (a_set {items} {base} {second} {baseInfo} {secondInfo} {x} {y} a two h g w) =
      sym (read_by a two ∙ rw (has_only h, has_only g, false_unless (wrong_ranges x y) (λ t. w (ranges_meant x y t))))
