-- ELSEWHERE TAG 49 IS SKIPPED: two loops that differ in nothing but their descriptors of tag 49, and in the lengths that count them, are read alike, in both readings; and so every
-- answer that is made of a loop's reading is the same.
-- Assumes nothing.
use Rattle.std.specs.Prelude.{ℕ, ◌≤◌, ◌≡◌, refl, List, [], ◌∷◌, ◌++◌, map, eqb, ltb, length, Err}
use Rattle.std.proofs.Common.{sym, ◌∙◌, ap₂, eqb-true, le-ltb}
use Rattle.std.proofs.Math.Path.{ap}
use mathlib.Core.Bool.{Bool, true, false, cond, not}
use Rattle.combinators.specs.Lists.{any, gather}
use Rattle.combinators.specs.Padding.{pad_to}
use Rattle.framing.specs.Pieces.{Item, whole, broken, cut}
use Rattle.vocabulary.specs.declared.stream_types.Reading.{Reading}
use Rattle.vocabulary.specs.declared.refusal.Refusal.TheVariants.{LoopTooLong}
use Rattle.descriptor_heads.specs.Head.{descriptor_tag, descriptor_length}
use Rattle.descriptors.specs.declared.looking.Seen.{Seen}
use Rattle.extension.specs.Extension.{no_layer}
use Rattle.descriptors.specs.Looking.{Kind, skipped, payload_kind, kind_of, Held, held_in, is_unfit, is_wrong_length, first_record, first_layers, seen_of_kinds, seen_of}
use Rattle.loop_entries.specs.declared.Stream.{Stream}
use Rattle.es_loop.specs.declared.reader.LoopRead.{LoopRead}
use Rattle.loop_entries.specs.Entries.{stream_type, elementary_pid, es_info_length, seen_in, stream_of, marked_streams}
use Rattle.es_loop.specs.Reading.{judged, answer_by, loop_read}
use Rattle.loop_layers.specs.Closures.{table_in, closure_in, loop_closure}
use Rattle.listing.specs.Lines.{answer_text, loop_text}
use Rattle.rows.specs.Table.{Table}
use Rattle.join_answers.specs.Joining.{Room}
use Rattle.importing.specs.Importing.{import_in, import_of}
use Rattle.stereo_agreement.specs.Skipped.{Alike, AlikeEntry, both_broken, entry_then, no_entries, others, same_others, unless_extension}

-- ---- a descriptor of tag 49 is skipped, and what is skipped is not seen

module _ (reading : Reading) where
  is_skipped : (head payload : List ℕ) → eqb (descriptor_tag head) 49 ≡ true → kind_of reading (whole head payload) ≡ skipped
  is_skipped head payload e = ap (λ (t : ℕ). payload_kind reading t payload) (eqb-true (descriptor_tag head) 49 e)

  -- a test that passes nothing that is skipped, and what is gathered from nothing that is
  none_any : (test : Kind → Bool) → test skipped ≡ false → (items : List Item) → any test (map (kind_of reading) items) ≡ any test (map (kind_of reading) (gather unless_extension items))
  none_any test not_skipped [] = refl
  none_any test not_skipped (broken ∷ items) = ap (λ (b : Bool). mathlib.Core.Bool.◌||◌ (test (kind_of reading broken)) b) (none_any test not_skipped items)
  none_any test not_skipped (whole head payload ∷ items) = go (eqb (descriptor_tag head) 49) refl (none_any test not_skipped items)
    where
      go : (b : Bool) → eqb (descriptor_tag head) 49 ≡ b → any test (map (kind_of reading) items) ≡ any test (map (kind_of reading) (gather unless_extension items))
          → mathlib.Core.Bool.◌||◌ (test (kind_of reading (whole head payload))) (any test (map (kind_of reading) items))
          ≡ any test (map (kind_of reading) (cond b [] (whole head payload ∷ []) ++ gather unless_extension items))
      go true p ih = ap (λ (k : Kind). mathlib.Core.Bool.◌||◌ (test k) (any test (map (kind_of reading) items))) (is_skipped head payload p)
          ∙ ap (λ (b : Bool). mathlib.Core.Bool.◌||◌ b (any test (map (kind_of reading) items))) not_skipped ∙ ih
      go false p ih = ap (λ (b : Bool). mathlib.Core.Bool.◌||◌ (test (kind_of reading (whole head payload))) b) ih

  none_held : (items : List Item) → gather held_in (map (kind_of reading) items) ≡ gather held_in (map (kind_of reading) (gather unless_extension items))
  none_held [] = refl
  none_held (broken ∷ items) = none_held items
  none_held (whole head payload ∷ items) = go (eqb (descriptor_tag head) 49) refl (none_held items)
    where
      go : (b : Bool) → eqb (descriptor_tag head) 49 ≡ b → gather held_in (map (kind_of reading) items) ≡ gather held_in (map (kind_of reading) (gather unless_extension items))
          → held_in (kind_of reading (whole head payload)) ++ gather held_in (map (kind_of reading) items)
          ≡ gather held_in (map (kind_of reading) (cond b [] (whole head payload ∷ []) ++ gather unless_extension items))
      go true p ih = ap (λ (k : Kind). held_in k ++ gather held_in (map (kind_of reading) items)) (is_skipped head payload p) ∙ ih
      go false p ih = ap (λ (hs : List Held). held_in (kind_of reading (whole head payload)) ++ hs) ih

  -- WHAT IS SEEN OF A STREAM is what is seen of its other descriptors.
  pub seen_others : (info : List ℕ) → seen_of reading info ≡ seen_of_kinds (map (kind_of reading) (others info))
  seen_others info =
      let items : List Item = cut 2 descriptor_length info in
      seen_by (map (kind_of reading) items) (map (kind_of reading) (gather unless_extension items)) (none_any is_unfit refl items) (none_any is_wrong_length refl items) (none_held items)
    where
      seen_by : (ks ls : List Kind) → any is_unfit ks ≡ any is_unfit ls → any is_wrong_length ks ≡ any is_wrong_length ls → gather held_in ks ≡ gather held_in ls → seen_of_kinds ks ≡ seen_of_kinds ls
      seen_by ks ls a b c =
          ap₂ (λ (f w : Bool). with (not f) w (gather held_in ks)) a b ∙ ap (with (not (any is_unfit ls)) (any is_wrong_length ls)) c
        where
          with : Bool → Bool → List Held → Seen
          with f w hs =
              record { fits = f; wrong_length = w; second_record = ltb 1 (length hs); «record» = first_record hs; embedded = pad_to 63 no_layer (first_layers hs) }

  seen_alike : (t : ℕ) (info info' : List ℕ) → others info ≡ others info' → seen_in reading t info ≡ seen_in reading t info'
  seen_alike t info info' e =
      ap (λ (s : Seen). cond (Rattle.vocabulary.specs.StreamTypes.known reading t) s Rattle.descriptors.specs.Looking.nothing_seen)
      (seen_others info ∙ ap (λ (l : List Item). seen_of_kinds (map (kind_of reading) l)) e ∙ sym (seen_others info'))

  stream_alike : {x y : Item} → AlikeEntry x y → stream_of reading x ≡ stream_of reading y
  stream_alike both_broken = refl
  stream_alike (same_others {head} {head'} {info} {info'} t p e) =
      ap (stream (stream_type head) (elementary_pid head)) (seen_alike (stream_type head) info info' e)
      ∙ ap₂ (λ (u q : ℕ). stream u q (seen_in reading u info')) t p
    where
      stream : ℕ → ℕ → Seen → Stream
      stream u q s = record { fits = s.fits; stream_type = u; pid = q; seen = s }

  pub streams_alike : {xs ys : List Item} → Alike xs ys → map (stream_of reading) xs ≡ map (stream_of reading) ys
  streams_alike no_entries = refl
  streams_alike (entry_then first rest) = ap₂ (λ (s : Stream) (ss : List Stream). s ∷ ss) (stream_alike first) (streams_alike rest)

  -- THE LOOP'S READING IS THE SAME,
  pub same_reading : (bytes bytes' : List ℕ) → length bytes ≤ 1008 → length bytes' ≤ 1008 → Alike (cut 5 es_info_length bytes) (cut 5 es_info_length bytes')
      → loop_read reading bytes ≡ loop_read reading bytes'
  same_reading bytes bytes' short short' alike =
      by bytes short ∙ ap (λ (l : List Stream). answer_by (marked_streams l) (judged (marked_streams l))) (streams_alike alike) ∙ sym (by bytes' short')
    where
      by : (l : List ℕ) → length l ≤ 1008
          → loop_read reading l ≡ (let streams : List Stream = marked_streams (map (stream_of reading) (cut 5 es_info_length l)) in answer_by streams (judged streams))
      by l h =
          let streams : List Stream = marked_streams (map (stream_of reading) (cut 5 es_info_length l)) in
          ap (λ (b : Bool). answer_by streams (cond b (Err LoopTooLong) (judged streams))) (le-ltb 1008 (length l) h)

  -- and so is every answer that is made of it: the closure of a target,
  pub same_closure : (bytes bytes' : List ℕ) → length bytes ≤ 1008 → length bytes' ≤ 1008 → Alike (cut 5 es_info_length bytes) (cut 5 es_info_length bytes')
      → (target : ℕ) → loop_closure reading bytes target ≡ loop_closure reading bytes' target
  same_closure bytes bytes' short short' alike target = ap (λ (r : LoopRead). closure_in r target) (same_reading bytes bytes' short short' alike)

  -- an import, for every table and room,
  pub same_import : (bytes bytes' : List ℕ) → length bytes ≤ 1008 → length bytes' ≤ 1008 → Alike (cut 5 es_info_length bytes) (cut 5 es_info_length bytes')
      → (target : ℕ) (table : Table) (room : Room) → import_of reading bytes target table room ≡ import_of reading bytes' target table room
  same_import bytes bytes' short short' alike target table room =
      ap (λ (r : LoopRead). import_in r target table room) (same_reading bytes bytes' short short' alike)

  -- and the lines of the listing.
  pub same_lines : (bytes bytes' : List ℕ) → length bytes ≤ 1008 → length bytes' ≤ 1008 → Alike (cut 5 es_info_length bytes) (cut 5 es_info_length bytes')
      → loop_text reading bytes ≡ loop_text reading bytes'
  unfolding loop_text
  same_lines bytes bytes' short short' alike = ap (λ (r : LoopRead). answer_text (table_in r)) (same_reading bytes bytes' short short' alike)
