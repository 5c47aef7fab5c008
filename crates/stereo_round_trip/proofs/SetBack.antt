-- What was written for a set is read as the loop without the two descriptors is: THE LOOP gives back every entry, and THE SET the two layers and the two
-- descriptors. ReadBack has the law of every call.
-- Assumes nothing.
use Prim.Native.Nat.{ℕ, ◌+◌, ◌≤◌}
use Rattle.std.specs.Prelude.{◌≡◌, refl, ◌⊎◌, Bool, true, false, cond, List, [], ◌∷◌, ◌++◌, map, length, take, Ok}
use Rattle.std.proofs.Common.{sym, ◌∙◌, ap, subst, inl, inr, ⊎_elim, arith, take_at, take_all}
use Rattle.std.proofs.lemmas.List.{length-map}
use Rattle.combinators.specs.Bools.{apart, neither_left, neither_right}
use Rattle.combinators.specs.Lists.{Nth, here, there, nth_map, nth_of_map, any, gather}
use Rattle.combinators.specs.Padding.{pad_to}
use Rattle.framing.specs.Pieces.{Item, Cuts, cut}
use Rattle.framing.proofs.Pieces.{cuts_unique}
use Rattle.syntax.specs.Table.{fits}
use Rattle.syntax.specs.Filled.{Filled, bytes_in}
use Rattle.vocabulary.specs.declared.stream_types.Reading.TheVariants.{Edition2015}
use Rattle.records.specs.declared.Record.{Record}
use Rattle.records.specs.declared.Record.TheVariants.{NoRecord, Hierarchy, Extension, Implied}
use Rattle.records.specs.Records.{is_layer, named}
use Rattle.judging.specs.Meaning.{extension_on_avc, extension_on_mvc}
use Rattle.loop_entries.specs.declared.Entry.{Entry}
use Rattle.es_loop.specs.declared.reader.LoopRead.{LoopRead}
use Rattle.loop_entries.specs.Entries.{es_info_length, blank_entry, stream_of, marked_streams}
use Rattle.es_loop.specs.Reading.{loop_read}
use Rattle.es_loop.specs.Meaning as Read
use Rattle.es_loop.proofs.Meant.{by_head, answer_meant, answer_only}
use Rattle.loop_layers.specs.Closures.{entries_read}
use Rattle.loop_layers.proofs.Meant.{entries_read_lem}
use Rattle.loop_writer.specs.Layout.{info_bytes, loop_bytes, too_wide}
use Rattle.loop_writer.specs.Writing.{answer}
use Rattle.loop_writer.specs.Meaning as Loop
use Rattle.loop_writer.proofs.Writes.{bytes_only}
use Rattle.loop_round_trip.specs.ReadBack.{normal, Typed}
use Rattle.loop_round_trip.proofs.RoundTrip.{read_back}
use Rattle.mvc_extension.specs.declared.MvcExtension.{MvcExtension}
use Rattle.mvc_extension.specs.MvcExtension.{mvc_extension_descriptor, mvc_extension_fields}
use Rattle.mvc_extension.specs.Ranges.{WrongRanges}
use Rattle.mvc_descriptors.specs.declared.Found.TheVariants.{One}
use Rattle.mvc_descriptors.specs.Finding.{extension_in}
use Rattle.mvc_descriptors.specs.Meaning.{HasExtension}
use Rattle.mvc_descriptors.proofs.Meant.{FoundCase, one_found, found_meant}
use Rattle.stereo_set.specs.Set.{accepted_set}
use Rattle.stereo_set.specs.Reading.{stereo_read}
use Rattle.stereo_set.specs.Two.{LayerAt, LayerOf, TwoLayers}
use Rattle.stereo_set.specs.Meaning.{Accepts, answered, StereoLayers, a_set}
use Rattle.stereo_set.proofs.Meant.{stereo_only}
use Rattle.stereo_agreement.specs.Skipped.{others, AlikeEntry, same_others, Alike, no_entries, entry_then}
use Rattle.stereo_agreement.proofs.Skipped.{same_reading}
use Rattle.stereo_writer.specs.Layout.{extra_tables, stereo_bytes}
use Rattle.stereo_writer.specs.Meaning as SetWriting
use Rattle.stereo_writer.proofs.Bytes.{EntryCase, is_base_entry, is_second_entry, is_no_layer, each_case, base_tables, second_tables, no_tables}
use Rattle.stereo_writer.proofs.Sizes.{extra_size_lem}
use Rattle.stereo_writer.proofs.Judging.{judged_alike, sound_only}
use Rattle.stereo_round_trip.specs.Pieces.{head_with, item_with, type_read, pid_read, loop_cut, loop_cuts, nothing_more, plain_bytes, PlainLayer, by_hierarchy, by_mark, finds, others_kept}
use Rattle.stereo_round_trip.specs.ReadBack.{whole_read}

-- ---- the two layers, with blanks beyond the count of each array

module _ (entries : List Entry) {base second : Entry} (two : TwoLayers entries base second) (none : (n k : ℕ) → Loop.Condition entries n k → ⊥) where
  -- neither has an extension, which refusal 6 rules out
  plain_layer : (z : MvcExtension) {k t index : ℕ} {names : List ℕ} {e : Entry} → LayerOf entries k t index names e → (t ≡ 0x1B) ⊎ (t ≡ 0x20) → PlainLayer z e
  plain_layer z {k} {t} {index} {names} {e} l types = go e.«record» refl
    where
      extended : {r : Record} → e.«record» ≡ r → Rattle.judging.specs.Meaning.has_descriptor r ≡ true → Rattle.judging.specs.Meaning.TypeNotAllowed false e.stream_type e.«record» → ⊥
      extended p d w = none 6 k (Loop.type_wrong l.stands.entry (ap Rattle.judging.specs.Meaning.has_descriptor p ∙ d) w)

      go : (r : Record) → e.«record» ≡ r → PlainLayer z e
      go NoRecord p = apart (sym (ap is_layer p) ∙ l.stands.layer)
      go (Hierarchy h) p = by_hierarchy h p
      go (Extension w) p =
          absurd (⊎_elim
          (λ q. extended {r = Extension w} p refl (subst (Rattle.judging.specs.Meaning.TypeNotAllowed false e.stream_type) (sym p) (extension_on_avc (l.type ∙ q))))
          (λ q. extended {r = Extension w} p refl (subst (Rattle.judging.specs.Meaning.TypeNotAllowed false e.stream_type) (sym p) (extension_on_mvc (l.type ∙ q)))) types)
      go Implied p = by_mark p

  names_kept : (z : MvcExtension) {e : Entry} → PlainLayer z e → named (normal e).stream_type (normal e).«record» (normal e).embedded ≡ named e.stream_type e.«record» e.embedded
  names_kept z {e} (by_hierarchy h p) =
      ap (λ (r : Record). named e.stream_type r (normal e).embedded) p ∙ sym (ap (λ (r : Record). named e.stream_type r e.embedded) p)
  names_kept z {e} (by_mark p) =
      ap (λ (r : Record). named e.stream_type r (normal e).embedded) p ∙ sym (ap (λ (r : Record). named e.stream_type r e.embedded) p)

  layer_normal : (z : MvcExtension) {k t index : ℕ} {names : List ℕ} {e : Entry} → LayerOf entries k t index names e → (t ≡ 0x1B) ⊎ (t ≡ 0x20)
      → LayerOf (map normal entries) k t index names (normal e)
  layer_normal z l types =
      record {
        stands = record { entry = nth_map normal l.stands.entry; layer = l.stands.layer };
        type = l.type;
        indexed = l.indexed;
        rests_on = names_kept z (plain_layer z l types) ∙ l.rests_on;
      }

  pub two_normal : (z : MvcExtension) → TwoLayers (map normal entries) (normal base) (normal second)
  two_normal z =
      record {
        base_place = two.base_place;
        second_place = two.second_place;
        is_base = layer_normal z two.is_base (inl refl);
        is_second = layer_normal z two.is_second (inr refl);
        no_other = every;
      }
    where
      every : (k : ℕ) (e : Entry) → LayerAt (map normal entries) k e → (k ≡ two.base_place) ⊎ (k ≡ two.second_place)
      every k e l =
          let u = nth_of_map normal entries l.entry in
          two.no_other k u.0 (record { entry = u.1; layer = ap (λ (x : Entry). is_layer x.«record») u.2 ∙ l.layer })

-- ---- THE ROUND TRIP

module _ (x y : MvcExtension) (fit_x : fits mvc_extension_descriptor (mvc_extension_fields x) ≡ true) (fit_y : fits mvc_extension_descriptor (mvc_extension_fields y) ≡ true)
    (entries : List Entry) (fine : any too_wide entries ≡ false) (typed : Typed entries) {base second : Entry} (sound : SetWriting.Sound x y entries)
    (two : TwoLayers entries base second) where
  abbrev extra : Entry → List ℕ
  extra e = gather bytes_in (extra_tables x y e)

  few : (e : Entry) → length (extra e) ≡ 0 ⊎ (length (extra e) ≡ 10)
  few e = go (Rattle.stereo_writer.specs.Layout.is_part e) (extra_size_lem x y e)
    where
      go : (b : Bool) → length (extra e) ≡ cond b 10 0 → length (extra e) ≡ 0 ⊎ (length (extra e) ≡ 10)
      go true p = inr p
      go false p = inl p

  none_more : (e : Entry) → length (nothing_more e) ≡ 0 ⊎ (length (nothing_more e) ≡ 10)
  none_more e = inl refl

  abbrev bytes : List ℕ
  bytes = stereo_bytes x y entries

  abbrev items : List Item
  items = map (item_with extra) entries

  cuts : Cuts 5 es_info_length bytes items
  cuts = loop_cuts extra few entries fine

  -- each entry differs from the loop writer's in a descriptor of tag 49 alone
  alike_entry : (e : Entry) → too_wide e ≡ false → others (info_bytes e ++ []) ≡ others (info_bytes e ++ extra e) → AlikeEntry (item_with nothing_more e) (item_with extra e)
  alike_entry e ok same =
      same_others (type_read nothing_more none_more e ok ∙ sym (type_read extra few e ok)) (pid_read nothing_more none_more e ok ∙ sym (pid_read extra few e ok)) same

  same_there : (e : Entry) → ((z : MvcExtension) → LayerOf (e ∷ []) 0 0x1B 0 [] e → PlainLayer z e) → ((z : MvcExtension) → LayerOf (e ∷ []) 0 0x20 1 (0 ∷ []) e → PlainLayer z e) → EntryCase e
      → others (info_bytes e ++ []) ≡ others (info_bytes e ++ extra e)
  same_there e plain-base plain_Second (is_base_entry l) =
      others_kept x e (plain-base x l) ∙ ap (λ (t : List Filled). others (info_bytes e ++ gather bytes_in t)) (sym (base_tables x y e l))
  same_there e plain-base plain_Second (is_second_entry l) =
      others_kept y e (plain_Second y l) ∙ ap (λ (t : List Filled). others (info_bytes e ++ gather bytes_in t)) (sym (second_tables x y e l))
  same_there e plain-base plain_Second (is_no_layer p) = ap (λ (t : List Filled). others (info_bytes e ++ gather bytes_in t)) (sym (no_tables x y e p))

  -- a layer by itself is one at its place
  placed : {k t index : ℕ} {names : List ℕ} {e : Entry} → Nth entries k e → LayerOf (e ∷ []) 0 t index names e → LayerOf entries k t index names e
  placed n l = record { stands = record { entry = n; layer = l.stands.layer }; type = l.type; indexed = l.indexed; rests_on = l.rests_on }

  all_alike : (es : List Entry) → any too_wide es ≡ false → ((k : ℕ) (e : Entry) → Nth es k e → others (info_bytes e ++ []) ≡ others (info_bytes e ++ extra e))
      → Alike (map (item_with nothing_more) es) (map (item_with extra) es)
  all_alike [] ok each = no_entries
  all_alike (e ∷ es) ok each =
      entry_then (alike_entry e (neither_left (too_wide e) (any too_wide es) ok) (each 0 e here))
      (all_alike es (neither_right (too_wide e) (any too_wide es) ok) (λ k z n. each (Prim.Native.Nat.suc k) z (there n)))

  each_same : (k : ℕ) (e : Entry) → Nth entries k e → others (info_bytes e ++ []) ≡ others (info_bytes e ++ extra e)
  each_same k e n =
      same_there e (λ z l. plain_layer entries two sound.none z (placed n l) (inl refl)) (λ z l. plain_layer entries two sound.none z (placed n l) (inr refl)) (each_case two k e n)

  pub loop_short : length (loop_bytes entries) + 20 ≤ 1008
  loop_short = let same = ap length (bytes_only sound.written) in let h = sound.short in omega arith

  module _ (set-short : length bytes ≤ 1008) where
    -- the loop that holds the set is read as the loop without the two descriptors is
    as_plain : loop_read Edition2015 (loop_bytes entries) ≡ loop_read Edition2015 bytes
    as_plain =
        same_reading Edition2015 (loop_bytes entries) bytes (omega (arith, loop_short)) set-short
        (subst (λ (l : List Item). Alike l (cut 5 es_info_length bytes)) (sym plain_cut) (subst (Alike (map (item_with nothing_more) entries)) (sym (loop_cut extra few entries fine)) (all_alike entries fine each_same)))
      where
        plain_cut : cut 5 es_info_length (loop_bytes entries) ≡ map (item_with nothing_more) entries
        plain_cut = ap (cut 5 es_info_length) (sym (plain_bytes entries)) ∙ loop_cut nothing_more none_more entries fine

    given_all : take (length entries) entries ≡ entries
    given_all = take_all (length entries) entries (omega arith)

    written_plain : answer (length (loop_bytes entries)) (length entries) entries ≡ Ok (length (loop_bytes entries))
    written_plain = judged_alike x y entries fine sound.few loop_short ∙ sound_only x y entries fine sound.few loop_short sound

    -- THE LOOP gives back every entry, with blanks in each array beyond its count,
    pub loop_back : loop_read Edition2015 bytes ≡ whole_read entries
    loop_back =
        sym as_plain
        ∙ subst (λ (l : List Entry). loop_read Edition2015 (loop_bytes l) ≡ record { outcome = Ok tt; count = length l; entries = pad_to 201 blank_entry (map normal l) }) given_all
        (read_back (length (loop_bytes entries)) (length entries) entries (subst Typed (sym given_all) typed) written_plain)

    accepts_there : Accepts bytes items
    accepts_there = go (answer_meant Edition2015 bytes) (ap (λ (r : LoopRead). r.outcome) loop_back)
      where
        go : {r : LoopRead} → Read.Answers Edition2015 bytes r → r.outcome ≡ Ok tt → Accepts bytes items
        go (Read.too_long_lem h) e = let z : ◌≡◌ {A = ℕ} 0 1 = cc in absurd (omega arith)
        go (Read.refuses s c at-k lower earlier) e = let z : ◌≡◌ {A = ℕ} 0 1 = cc in absurd (omega arith)
        go (Read.accepts {entries = l} s c none) e =
            let same : l ≡ items = cuts_unique 5 es_info_length (omega arith) by_head c ∙ sym (cuts_unique 5 es_info_length (omega arith) by_head cuts) in
            record { short = s; cuts = cuts; sound = λ n k w. none n k (subst (λ (q : List Item). Read.Condition Edition2015 q n k) (sym same) w) }

    same_answered : answered items ≡ map normal entries
    same_answered =
        sym (entries_read_lem (marked_streams (map (stream_of Edition2015) items)))
        ∙ ap entries_read (answer_only Edition2015 bytes (Read.accepts accepts_there.short accepts_there.cuts accepts_there.sound) ∙ loop_back)
        ∙ take_at (map normal entries) _ (length entries) (length-map entries normal)

    stereo_layers : StereoLayers items (normal base) (normal second) (info_bytes base ++ extra base) (info_bytes second ++ extra second)
    unfolding two_normal
    stereo_layers =
        record {
          two = moved;
          base_info = record { head = head_with base (extra base); item = nth_map (item_with extra) two.is_base.stands.entry };
          second_info = record { head = head_with second (extra second); item = nth_map (item_with extra) two.is_second.stands.entry };
        }
      where
        in_normal : TwoLayers (map normal entries) (normal base) (normal second)
        in_normal = two_normal entries two sound.none x

        moved : TwoLayers (answered items) (normal base) (normal second)
        moved =
            record {
              base_place = two.base_place;
              second_place = two.second_place;
              is_base = subst (λ (l : List Entry). LayerOf l two.base_place 0x1B 0 [] (normal base)) (sym same_answered) in_normal.is_base;
              is_second = subst (λ (l : List Entry). LayerOf l two.second_place 0x20 1 (0 ∷ []) (normal second)) (sym same_answered) in_normal.is_second;
              no_other = λ k e l. in_normal.no_other k e (subst (λ (es : List Entry). LayerAt es k e) same_answered l);
            }

    has_it : {info : List ℕ} {z : MvcExtension} → extension_in info ≡ One z → HasExtension info z
    has_it {info} {z} e = go (subst (FoundCase info) e (found_meant info))
      where
        go : FoundCase info (One z) → HasExtension info z
        go (one_found h) = h

    alone : {entries' : List Entry} {k t index : ℕ} {names : List ℕ} {e : Entry} → LayerOf entries' k t index names e → LayerOf (e ∷ []) 0 t index names e
    alone l = record { stands = record { entry = here; layer = l.stands.layer }; type = l.type; indexed = l.indexed; rests_on = l.rests_on }

    has_x : HasExtension (info_bytes base ++ extra base) x
    has_x =
        has_it (ap (λ (t : List Filled). extension_in (info_bytes base ++ gather bytes_in t)) (base_tables x y base (alone two.is_base))
        ∙ finds x base (plain_layer entries two sound.none x two.is_base (inl refl)) fit_x)

    has_y : HasExtension (info_bytes second ++ extra second) y
    has_y =
        has_it (ap (λ (t : List Filled). extension_in (info_bytes second ++ gather bytes_in t)) (second_tables x y second (alone two.is_second))
        ∙ finds y second (plain_layer entries two sound.none y two.is_second (inr refl)) fit_y)

    -- and THE SET gives back the two layers and the two descriptors.
    pub set_back : (WrongRanges x y → ⊥) → stereo_read bytes ≡ accepted_set (normal base) x (normal second) y
    set_back right = sym (stereo_only bytes (a_set accepts_there stereo_layers has_x has_y right))
