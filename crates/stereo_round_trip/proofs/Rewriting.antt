-- REWRITING: for a loop in the writer's own shape that holds a stereo set, writing the entries and the two descriptors that reading answers gives the same bytes.
-- Assumes nothing.
use Rattle.std.specs.Prelude.{ℕ, zero, suc, ◌+◌, ◌≤◌, ◌≡◌, refl, ◌⊎◌, Bool, true, false, cond, List, [], ◌∷◌, ◌++◌, map, length, take, drop, Ok}
use Rattle.std.proofs.Common.{sym, ◌∙◌, ap, ap₂, subst, inl, inr, append-nil, append_assoc, arith, length-take}
use Rattle.combinators.specs.Bools.{false_unless}
use Rattle.combinators.specs.Lists.{Nth, here, there, nth_map, nth_one, nth_get_d, any, gather}
use Rattle.framing.specs.Pieces.{Item, whole, broken, cut, Cuts, nothing_left, does_not_fit, piece}
use Rattle.framing.proofs.Pieces.{cuts_unique}
use Rattle.syntax.specs.Table.{AreBytes, Sound, read_table, write_table, fits}
use Rattle.syntax.specs.Filled.{Filled, bytes_in}
use Rattle.vocabulary.specs.declared.stream_types.Reading.TheVariants.{Edition2015}
use Rattle.vocabulary.specs.declared.refusal.Refusal.TheVariants.{RangesMeet}
use Rattle.descriptor_heads.specs.Head.{descriptor_head, descriptor_tag, descriptor_length}
use Rattle.records.specs.Records.{is_layer}
use Rattle.loop_entries.specs.declared.Entry.{Entry}
use Rattle.es_loop.specs.declared.reader.LoopRead.{LoopRead}
use Rattle.loop_entries.specs.Entries.{entry_head, stream_type, elementary_pid, es_info_length, stream_of, pair_of, marked_stream, marked_streams, entry_of, blank_entry}
use Rattle.es_loop.specs.Reading.{loop_read}
use Rattle.es_loop.specs.Meaning as Read
use Rattle.es_loop.proofs.Meant.{by_head, answer_only}
use Rattle.loop_layers.specs.Closures.{entries_read}
use Rattle.loop_layers.proofs.Meant.{entries_read_lem}
use Rattle.loop_writer.specs.Answer.{Written}
use Rattle.loop_writer.specs.Layout.{entry_head_table, info_bytes, loop_bytes, too_wide}
use Rattle.loop_writer.specs.Writing.{answer}
use Rattle.loop_writer.specs.Meaning as Loop
use Rattle.loop_writer.proofs.Writes.{bytes_meant}
use Rattle.loop_writer.proofs.Meant as LoopWriter
use Rattle.loop_round_trip.specs.OwnShape.{Ones, OwnShape}
use Rattle.loop_round_trip.proofs.RoundTrip.{writes}
use Rattle.loop_round_trip.proofs.Rewriting.{rewrite}
use Rattle.mvc_extension.specs.declared.MvcExtension.{MvcExtension}
use Rattle.mvc_extension.specs.MvcExtension.{mvc_extension_descriptor, mvc_extension_of, mvc_extension_fields}
use Rattle.mvc_extension.specs.Ranges.{WrongRanges, wrong_ranges}
use Rattle.mvc_extension.proofs.RangesMeant.{ranges_meant}
use Rattle.mvc_descriptors.specs.declared.Found.{Found}
use Rattle.mvc_descriptors.specs.declared.Found.TheVariants.{One, Missing, Wrong}
use Rattle.mvc_descriptors.specs.Finding.{extension_in}
use Rattle.mvc_descriptors.specs.Meaning.{HasExtension}
use Rattle.mvc_descriptors.specs.Tables.{mvc_extension_tables}
use Rattle.mvc_descriptors.proofs.Meant.{has_only}
use Rattle.stereo_set.specs.declared.set.StereoRead.{StereoRead}
use Rattle.stereo_set.specs.Set.{refused_set, accepted_set}
use Rattle.stereo_set.specs.Reading.{stereo_read}
use Rattle.stereo_set.specs.Two.{LayerOf, TwoLayers}
use Rattle.stereo_set.specs.Meaning.{Accepts, answered, InfoAt, StereoLayers}
use Rattle.stereo_set.specs.Meaning as Set
use Rattle.stereo_set.proofs.Meant.{stereo_meant}
use Rattle.stereo_agreement.specs.Skipped.{Alike}
use Rattle.stereo_agreement.proofs.Skipped.{same_reading}
use Rattle.stereo_writer.specs.Layout.{extra_tables, stereo_entry, stereo_bytes}
use Rattle.stereo_writer.specs.Writing.{set_for}
use Rattle.stereo_writer.specs.Meaning as SetWriting
use Rattle.stereo_writer.proofs.Bytes.{each_case, base_tables, second_tables, no_tables, set_bytes_meant}
use Rattle.stereo_writer.proofs.Sizes.{set_size}
use Rattle.stereo_writer.proofs.Judging.{judged_by_two}
use Rattle.stereo_writer.proofs.Meant as Writer
use Rattle.stereo_round_trip.specs.Pieces.{head_with, item_with, loop_cut, nothing_more, plain_bytes}
use Rattle.stereo_round_trip.specs.OwnShape.{is_layer_there, OwnItems, OwnSet}
use Rattle.stereo_round_trip.proofs.Bare.{bytes_left, bytes_right, again, extension_again, extension_fit, found_there, BareOf, kept, shortened, Bare, bare}
use Rattle.stereo_round_trip.specs.Rewriting.{WrittenAgain}

-- the descriptor of tag 49 again, head and payload
extension_bytes : (tagged payload : List ℕ) → AreBytes tagged → AreBytes payload → length tagged ≡ 2 → descriptor_tag tagged ≡ 49 → descriptor_length tagged ≡ 8 → length payload ≡ 8
    → Ones mvc_extension_descriptor payload → gather bytes_in (mvc_extension_tables (mvc_extension_of payload)) ≡ tagged ++ payload
extension_bytes tagged payload bt bp two tag counted eight ones =
    ap₂ (λ (a b : List ℕ). a ++ b)
    (ap₂ (λ (t n : ℕ). write_table descriptor_head (t ∷ n ∷ [])) (sym tag) (sym counted) ∙ again {t = descriptor_head} (record { whole = refl; fixed_fit = refl }) tagged bt two refl refl)
    (ap (λ (vs : List ℕ). write_table mvc_extension_descriptor vs ++ []) (extension_again payload)
    ∙ append-nil (write_table mvc_extension_descriptor (read_table mvc_extension_descriptor payload))
    ∙ again {t = mvc_extension_descriptor} (record { whole = refl; fixed_fit = refl }) payload bp eight refl ones)

one_extension : {x z : MvcExtension} → One x ≡ One z → x ≡ z
one_extension {x} p = ap inside p
  where
    inside : Found → MvcExtension
    inside (One w) = w
    inside Missing = x
    inside Wrong = x

abbrev head_of : Item → List ℕ
head_of (whole head info) = head
head_of broken = []

abbrev body_of : Item → List ℕ
body_of (whole head info) = info
body_of broken = []

-- what an item is written as again
abbrev bytes_of : Item → List ℕ
bytes_of i = head_of i ++ body_of i

-- an item that is cut from bytes: its own are bytes, and its head counts its body
item_facts : {l : List ℕ} {items : List Item} → AreBytes l → Cuts 5 es_info_length l items → (k : ℕ) (head info : List ℕ) → Nth items k (whole head info)
    → AreBytes head × AreBytes info × (length head ≡ 5) × (length info ≡ es_info_length head)
item_facts b nothing_left k h i x7 = elim x7 [ ]
item_facts b (does_not_fit {l = l} f g) zero h i x9 = elim x9 [ ]
item_facts b (piece {head} {body} {rest} p q c) zero h i here = (bytes_left head (body ++ rest) b, bytes_left body rest (bytes_right head (body ++ rest) b), p, q)
item_facts b (piece {head} {body} {rest} p q c) (suc k) h i (there n) = item_facts (bytes_right body rest (bytes_right head (body ++ rest) b)) c k h i n
item_facts b (does_not_fit f g) (suc k) h i (there n) = absurd (native.Mathlib.Nat.not-suc-le-zero (Rattle.combinators.specs.Lists.nth_inside n))

-- bytes that are cut are those of their items
bytes_of_cut : (f : Item → List ℕ) {l : List ℕ} {items : List Item} → Cuts 5 es_info_length l items
    → ((k : ℕ) (i : Item) → Nth items k i → (h : List ℕ) × (b : List ℕ) × (i ≡ whole h b) × (f i ≡ h ++ b)) → gather f items ≡ l
bytes_of_cut f nothing_left each = refl
bytes_of_cut f (does_not_fit h g) each = let z : ◌≡◌ {A = ℕ} 0 1 = cc (each 0 broken here).2 in absurd (omega arith)
bytes_of_cut f (piece {head} {body} {rest} p q c) each =
    let first = each 0 (whole head body) here in
    ap₂ (λ (a b : List ℕ). a ++ b) (first.3 ∙ sym (ap bytes_of first.2)) (bytes_of_cut f c (λ k i n. each (suc k) i (there n))) ∙ append_assoc head body rest

module _ (bytes : List ℕ) (b : AreBytes bytes) (items : List Item) (own : OwnItems items) (accepts : Accepts bytes items) {base second : Entry} {baseInfo secondInfo : List ℕ}
    (layers : StereoLayers items base second baseInfo secondInfo) {x y : MvcExtension} (has_x : HasExtension baseInfo x) (has_y : HasExtension secondInfo y)
    (right : WrongRanges x y → ⊥) where
  abbrev two : TwoLayers (answered items) base second
  two = layers.two

  bared : Bare (is_layer_there items) bytes items
  bared = bare (is_layer_there items) b accepts.cuts own

  abbrev loop : List ℕ
  loop = bared.bare_loop

  -- the loop without the two descriptors is read as the loop with them
  cut_bare : cut 5 es_info_length loop ≡ bared.bares
  cut_bare = sym (cuts_unique 5 es_info_length (omega arith) by_head bared.cuts)

  cut_whole : cut 5 es_info_length bytes ≡ items
  cut_whole = sym (cuts_unique 5 es_info_length (omega arith) by_head accepts.cuts)

  short_loop : length loop ≤ 1008
  short_loop = let h = bared.no_longer in let s = accepts.short in omega arith

  same : loop_read Edition2015 loop ≡ loop_read Edition2015 bytes
  same = same_reading Edition2015 loop bytes short_loop accepts.short (subst (λ (l : List Item). Alike l (cut 5 es_info_length bytes)) (sym cut_bare) (subst (Alike bared.bares) (sym cut_whole) bared.alike))

  abbrev read : LoopRead
  read = loop_read Edition2015 loop

  abbrev entries : List Entry
  entries = entries_read (loop_read Edition2015 bytes)

  is_read : loop_read Edition2015 bytes ≡ Rattle.es_loop.specs.Reading.accepted (marked_streams (map (stream_of Edition2015) items))
  is_read = sym (answer_only Edition2015 bytes (Read.accepts accepts.short accepts.cuts accepts.sound))

  as_answered : entries ≡ answered items
  as_answered = ap entries_read is_read ∙ entries_read_lem (marked_streams (map (stream_of Edition2015) items))

  own_loop : OwnShape loop
  own_loop k i n = bared.own k i (subst (λ (l : List Item). Nth l k i) cut_bare n)

  accepted_there : read.outcome ≡ Ok tt
  accepted_there = ap (λ (r : LoopRead). r.outcome) (same ∙ is_read)

  plain_again : (answer (length loop) read.count read.entries ≡ Ok (length loop)) × (loop_bytes (take read.count read.entries) ≡ loop)
  plain_again = rewrite loop bared.in_bytes own_loop accepted_there (length loop) (omega arith)

  same_entries : take read.count read.entries ≡ entries
  same_entries = ap entries_read same

  fine : any too_wide entries ≡ false
  fine = sym (ap (any too_wide) same_entries) ∙ (writes (length loop) read.count read.entries plain_again.0).none_wide

  plain_loop : loop_bytes entries ≡ loop
  plain_loop = sym (ap loop_bytes same_entries) ∙ plain_again.1

  -- each entry of the loop writer is what was left of the entry
  plain_items : map (item_with nothing_more) entries ≡ bared.bares
  plain_items =
      sym (loop_cut nothing_more (λ e. inl refl) entries fine) ∙ ap (cut 5 es_info_length) (plain_bytes entries ∙ plain_loop) ∙ cut_bare

  abbrev entry : Item → Entry
  entry i = entry_of (marked_stream (pair_of (map (stream_of Edition2015) items)) (stream_of Edition2015 i))

  there_answered : {k : ℕ} {i : Item} → Nth items k i → Nth (answered items) k (entry i)
  there_answered n = nth_map entry_of (nth_map (marked_stream (pair_of (map (stream_of Edition2015) items))) (nth_map (stream_of Edition2015) n))

  bare_is : {k : ℕ} {i bare-item : Item} → Nth items k i → Nth bared.bares k bare-item → item_with nothing_more (entry i) ≡ bare-item
  bare_is {k} {i} n m =
      nth_one (subst (λ (l : List Item). Nth l k (item_with nothing_more (entry i))) plain_items
      (nth_map (item_with nothing_more) (subst (λ (l : List Entry). Nth l k (entry i)) (sym as_answered) (there_answered n)))) m

  is_layer_there_lem : {k : ℕ} {i : Item} → Nth items k i → is_layer_there items k ≡ is_layer (entry i).«record»
  is_layer_there_lem n = ap (λ (e : Entry). is_layer e.«record») (nth_get_d blank_entry (there_answered n))

  -- the entry with these descriptor bytes more
  abbrev with_more : Entry → List ℕ → List ℕ
  with_more e more = head_with e more ++ (info_bytes e ++ more)

  alone : {k t index : ℕ} {names : List ℕ} {e : Entry} → LayerOf (answered items) k t index names e → LayerOf (e ∷ []) 0 t index names e
  alone l = record { stands = record { entry = here; layer = l.stands.layer }; type = l.type; indexed = l.indexed; rests_on = l.rests_on }

  -- the tables of a layer are those of the descriptor that stands there
  tables_there : {k : ℕ} {head info : List ℕ} {z : MvcExtension} → Nth items k (whole head info) → is_layer (entry (whole head info)).«record» ≡ true → extension_in info ≡ One z
      → extra_tables x y (entry (whole head info)) ≡ mvc_extension_tables z
  tables_there {k} {head} {info} {z} n p found = go (two.no_other k (entry (whole head info)) (record { entry = there_answered n; layer = p }))
    where
      e : Entry
      e = entry (whole head info)

      at_info : {place : ℕ} {l : List ℕ} {w : MvcExtension} → InfoAt items place l → k ≡ place → HasExtension l w → w ≡ z
      at_info {place} {l} {w} at q has =
          let item : whole at.head l ≡ whole head info = nth_one at.item (subst (λ (j : ℕ). Nth items j (whole head info)) q n) in
          one_extension (sym (has_only has) ∙ ap (λ (i : Item). extension_in (body_of i)) item ∙ found)

      go : (k ≡ two.base_place) ⊎ (k ≡ two.second_place) → extra_tables x y (entry (whole head info)) ≡ mvc_extension_tables z
      go (inl q) =
          let is : base ≡ e = nth_one two.is_base.stands.entry (subst (λ (j : ℕ). Nth (answered items) j e) q (there_answered n)) in
          base_tables x y e (subst (λ (u : Entry). LayerOf (u ∷ []) 0 0x1B 0 [] u) is (alone two.is_base)) ∙ ap mvc_extension_tables (at_info layers.base_info q has_x)
      go (inr q) =
          let is : second ≡ e = nth_one two.is_second.stands.entry (subst (λ (j : ℕ). Nth (answered items) j e) q (there_answered n)) in
          second_tables x y e (subst (λ (u : Entry). LayerOf (u ∷ []) 0 0x20 1 (0 ∷ []) u) is (alone two.is_second)) ∙ ap mvc_extension_tables (at_info layers.second_info q has_y)

  -- ONE ENTRY is written as it was
  entry_again : (k : ℕ) (i : Item) → Nth items k i → (h : List ℕ) × (body : List ℕ) × (i ≡ whole h body) × (stereo_entry x y (entry i) ≡ h ++ body)
  entry_again k i n = let u = bared.each k i n in go u.2 (bare_is n u.1) n
    where
      go : {bare-item item : Item} → BareOf (is_layer_there items k) bare-item item → item_with nothing_more (entry item) ≡ bare-item → Nth items k item
          → (h : List ℕ) × (body : List ℕ) × (item ≡ whole h body) × (stereo_entry x y (entry item) ≡ h ++ body)
      go (kept {head} {info} p) is n =
          let e : Entry = entry (whole head info) in (
            head,
            info,
            refl,
            ap (λ (t : List Filled). with_more e (gather bytes_in t)) (no_tables x y e (sym (is_layer_there_lem n) ∙ p)) ∙ ap bytes_of is,
          )
      go (shortened {head} plain tagged payload p ones own-plain size tag counted eight ones') is n =
          let info : List ℕ = plain ++ (tagged ++ payload) in
          let e : Entry = entry (whole head info) in
          let facts = item_facts b accepts.cuts k head info n in
          let more_bytes : AreBytes (tagged ++ payload) = bytes_right plain (tagged ++ payload) facts.1 in
          let tables : extra_tables x y e ≡ mvc_extension_tables (mvc_extension_of payload) =
          tables_there n (sym (is_layer_there_lem n) ∙ p) (found_there tagged payload size tag counted eight plain own-plain) in
          let more : gather bytes_in (extra_tables x y e) ≡ tagged ++ payload =
          ap (gather bytes_in) tables ∙ extension_bytes tagged payload (bytes_left tagged payload more_bytes) (bytes_right tagged payload more_bytes) size tag counted eight ones' in
          let plain_info : info_bytes e ≡ plain = sym (append-nil (info_bytes e)) ∙ ap body_of is in
          let all : info_bytes e ++ gather bytes_in (extra_tables x y e) ≡ info = ap₂ (λ (a c : List ℕ). a ++ c) plain_info more in (
            head,
            info,
            refl,
            ap (λ (l : List ℕ). bytes_in (entry_head_table e.stream_type e.pid (length l)) ++ l) all
                ∙ ap (λ (h : List ℕ). h ++ info)
                (ap (λ (m : ℕ). write_table entry_head (stream_type head ∷ elementary_pid head ∷ m ∷ [])) facts.3 ∙ again {t = entry_head} (record { whole = refl; fixed_fit = refl }) head facts.0 facts.2 refl ones),
          )

  -- THE BYTES AGAIN
  set_again : stereo_bytes x y entries ≡ bytes
  set_again = ap (gather (stereo_entry x y)) as_answered ∙ over (map (stream_of Edition2015) items) items ∙ bytes_of_cut (λ (i : Item). stereo_entry x y (entry i)) accepts.cuts entry_again
    where
      over : (ss : List Rattle.loop_entries.specs.declared.Stream.Stream) (is : List Item)
          → gather (stereo_entry x y) (map entry_of (map (marked_stream (pair_of ss)) (map (stream_of Edition2015) is)))
          ≡ gather (λ (i : Item). stereo_entry x y (entry_of (marked_stream (pair_of ss) (stream_of Edition2015 i)))) is
      over ss [] = refl
      over ss (i ∷ is) = ap (λ (l : List ℕ). stereo_entry x y (entry_of (marked_stream (pair_of ss) (stream_of Edition2015 i))) ++ l) (over ss is)

  -- THE ANSWER
  given_two : TwoLayers entries base second
  given_two = subst (λ (l : List Entry). TwoLayers l base second) (sym as_answered) two

  is_set : (set_for x y entries).outcome ≡ Ok tt
  is_set =
      ap (λ (r : StereoRead). r.outcome) (judged_by_two x y entries given_two)
      ∙ ap (λ (w : Bool). (cond w (refused_set RangesMeet) (accepted_set base x second y)).outcome) (false_unless (wrong_ranges x y) (λ t. right (ranges_meant x y t)))

  none_applies : (n k : ℕ) → Loop.Condition entries n k → ⊥
  none_applies n k c = go (LoopWriter.answer_meant read.count read.entries loop) plain_again.0 (subst (λ (l : List Entry). Loop.Condition l n k) (sym same_entries) c)
    where
      go : {w : Written} {new : List ℕ} → Loop.Answers read.count read.entries loop w new → w ≡ Ok (length loop) → Loop.Condition (take read.count read.entries) n k → ⊥
      go (Loop.too_wide_lem h) e c = let z : ◌≡◌ {A = ℕ} 0 1 = cc in absurd (omega arith)
      go (Loop.too_many each h) e c = let z : ◌≡◌ {A = ℕ} 0 1 = cc in absurd (omega arith)
      go (Loop.too_long_lem each w h) e c = let z : ◌≡◌ {A = ℕ} 0 1 = cc in absurd (omega arith)
      go (Loop.refuses each f w s at-k lower earlier) e c = let z : ◌≡◌ {A = ℕ} 0 1 = cc in absurd (omega arith)
      go (Loop.no_room each f w s none h) e c = let z : ◌≡◌ {A = ℕ} 0 1 = cc in absurd (omega arith)
      go (Loop.accepts each f w s none h) e c = none n k c

  sound : SetWriting.Sound x y entries
  sound =
      record {
        few = (let f = (writes (length loop) read.count read.entries plain_again.0).few in let l = length-take read.count read.entries in let s = ap length same_entries in omega arith);
        loop = loop_bytes entries;
        written = bytes_meant entries fine;
        short = (let size = set_size x y entries is_set in let l = ap length set_again in let s = accepts.short in omega arith);
        none = none_applies;
      }

  fit_x : fits mvc_extension_descriptor (mvc_extension_fields x) ≡ true
  fit_x = sym (ap (λ (z : MvcExtension). fits mvc_extension_descriptor (mvc_extension_fields z)) has_x.says) ∙ extension_fit has_x.payload

  fit_y : fits mvc_extension_descriptor (mvc_extension_fields y) ≡ true
  fit_y = sym (ap (λ (z : MvcExtension). fits mvc_extension_descriptor (mvc_extension_fields z)) has_y.says) ∙ extension_fit has_y.payload

  pub written_again : (old : List ℕ) → length bytes ≤ length old → SetWriting.Answers x y entries old (Ok (length bytes)) (bytes ++ drop (length bytes) old)
  written_again old room =
      subst (λ (l : List ℕ). SetWriting.Answers x y entries old (Ok (length l)) (l ++ drop (length l) old)) set_again
      (SetWriting.accepts sound given_two right (set_bytes_meant x y fit_x fit_y entries fine (each_case given_two)) (let l = ap length set_again in omega arith))

pub rewrite_set : (bytes : List ℕ) → AreBytes bytes → OwnSet bytes → (stereo_read bytes).outcome ≡ Ok tt → (old : List ℕ) → length bytes ≤ length old
    → WrittenAgain bytes (stereo_read bytes) old
rewrite_set bytes b own ok old room = go (stereo_meant bytes) ok
  where
    go : {read : StereoRead} → Set.Answers bytes read → read.outcome ≡ Ok tt → WrittenAgain bytes read old
    go (Set.loop_refused a) e = let z : ◌≡◌ {A = ℕ} 0 1 = cc in absurd (omega arith)
    go (Set.not_the_two a none) e = let z : ◌≡◌ {A = ℕ} 0 1 = cc in absurd (omega arith)
    go (Set.wrong_extension a l w) e = let z : ◌≡◌ {A = ℕ} 0 1 = cc in absurd (omega arith)
    go (Set.wrong_ranges_lem a l hx hy w) e = let z : ◌≡◌ {A = ℕ} 0 1 = cc in absurd (omega arith)
    go (Set.a_set {items} {base} {second} {x = x} {y = y} a l hx hy right) e =
        let own_items : OwnItems items = subst OwnItems (sym (cuts_unique 5 es_info_length (omega arith) by_head a.cuts)) own in
        let m = written_again bytes b items own_items a l hx hy right old room in
        let only = Writer.stereo_only x y (fit_x bytes b items own_items a l hx hy right) (fit_y bytes b items own_items a l hx hy right) (entries_read (loop_read Edition2015 bytes)) (fine bytes b items own_items a l hx hy right) old m in
        record { means = m; the_answer = sym only.0; the_buffer = sym only.1 }
