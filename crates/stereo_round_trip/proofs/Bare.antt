-- A loop in the writer's own shape WITHOUT ITS DESCRIPTORS OF TAG 49: a loop in the loop writer's own shape, and read as it was.
-- Assumes nothing.
use Rattle.std.specs.Prelude.{ℕ, zero, suc, ◌+◌, ◌≤◌, ◌<◌, ◌≡◌, refl, Bool, true, false, cond, not, List, [], ◌∷◌, ◌++◌, map, eqb, length, get_or, take}
use Rattle.std.proofs.Common.{sym, ◌∙◌, ap, ap₂, subst, append-nil, append_assoc, arith, not-suc-le-zero, length-append, take_all}
use borrow.Author.Tests.{eq-eqb}
use Rattle.descriptor_heads.proofs.Bits.{bit_there}
use Rattle.combinators.specs.Lists.{Nth, here, there, nth_inside, gather, gather_append}
use Rattle.framing.specs.Pieces.{Item, whole, broken, cut, Cuts, nothing_left, does_not_fit, piece}
use Rattle.framing.proofs.Pieces.{cut_cuts, cuts_unique}
use Rattle.syntax.specs.Table.{Table, AreBytes, Sound, Fit, number, bytes, read_table, write_table, fits, fixed_hold}
use Rattle.syntax.specs.Named.{by_names}
use Rattle.syntax.specs.Filled.{bytes_in}
use Rattle.syntax.proofs.Laws.{read_write, write_read, read_fits, fit_fits, written, written_bytes, length_written}
use Rattle.syntax.proofs.Equations.{bounds}
use Rattle.vocabulary.specs.declared.stream_types.Reading.TheVariants.{Edition2015}
use Rattle.vocabulary.specs.StreamTypes.{known}
use Rattle.descriptor_heads.specs.Head.{descriptor_head, descriptor_tag, descriptor_length}
use Rattle.descriptor_heads.proofs.Heads.{by_tag}
use Rattle.loop_entries.specs.Entries.{entry_head, stream_type, elementary_pid, es_info_length}
use Rattle.es_loop.proofs.Meant.{by_head}
use Rattle.loop_round_trip.specs.OwnShape.{Ones, OwnDescriptor, hierarchy_own, extension_own, OwnEntry, known_own, bare_own}
use Rattle.mvc_extension.specs.declared.MvcExtension.{MvcExtension}
use Rattle.mvc_extension.specs.MvcExtension.{mvc_extension_descriptor, mvc_extension_from, mvc_extension_of, mvc_extension_fields}
use Rattle.mvc_descriptors.specs.declared.Found.{Found}
use Rattle.mvc_descriptors.specs.declared.Found.TheVariants.{One}
use Rattle.mvc_descriptors.specs.Finding.{payloads_of, found_in, extension_in}
use Rattle.stereo_agreement.specs.Skipped.{unless_extension, others, AlikeEntry, both_broken, same_others, Alike, no_entries, entry_then}
use Rattle.stereo_round_trip.specs.OwnShape.{OwnInfo, then_extension, OwnEntryOf, a_layer, no_layer_lem}

-- ---- parts of a list of bytes

pub bytes_left : (a b : List ℕ) → AreBytes (a ++ b) → AreBytes a
bytes_left [] b f i = omega arith
bytes_left (x ∷ a) b f zero = f 0
bytes_left (x ∷ a) b f (suc i) = bytes_left a b (λ j. f (suc j)) i

pub bytes_right : (a b : List ℕ) → AreBytes (a ++ b) → AreBytes b
bytes_right [] b f = f
bytes_right (x ∷ a) b f = bytes_right a b (λ j. f (suc j))

both_bytes : (a b : List ℕ) → AreBytes a → AreBytes b → AreBytes (a ++ b)
both_bytes [] b f g i = g i
both_bytes (x ∷ a) b f g zero = f 0
both_bytes (x ∷ a) b f g (suc i) = both_bytes a b (λ j. f (suc j)) g i

-- ---- one table: what was read is written again

pub again : {t : Table} → Sound t → (l : List ℕ) → AreBytes l → length l ≡ bytes t → fixed_hold t (number (bytes t) l) ≡ true → Ones t l → write_table t (read_table t l) ≡ l
again {t} s l b long f ones = write_read s l b (omega arith) f ones ∙ take_all (bytes t) l (omega arith)

extension_values : (a m l g s e f h : ℕ) → f < 2 → h < 2
    → mvc_extension_fields (mvc_extension_from (by_names mvc_extension_descriptor (a ∷ m ∷ l ∷ g ∷ s ∷ e ∷ f ∷ h ∷ []))) ≡ a ∷ m ∷ l ∷ g ∷ s ∷ e ∷ f ∷ h ∷ []
extension_values a m l g s e f h hf hh = rw (bit_there f hf, bit_there h hh)

pub extension_again : (payload : List ℕ) → mvc_extension_fields (mvc_extension_of payload) ≡ read_table mvc_extension_descriptor payload
extension_again payload =
    let b = bounds (read_fits mvc_extension_descriptor payload) in
    extension_values _ _ _ _ _ _ _ _ b.1.1.1.1.1.1.0 b.1.1.1.1.1.1.1.0

pub extension_fit : (payload : List ℕ) → fits mvc_extension_descriptor (mvc_extension_fields (mvc_extension_of payload)) ≡ true
extension_fit payload = ap (fits mvc_extension_descriptor) (extension_again payload) ∙ fit_fits (read_fits mvc_extension_descriptor payload)

-- ---- the descriptors of a layer: those that the loop writer writes, and then one

own_tag : {head payload : List ℕ} → OwnDescriptor (whole head payload) → eqb (descriptor_tag head) 49 ≡ false
own_tag (hierarchy_own t l o) = ap (λ (n : ℕ). eqb n 49) t
own_tag (extension_own t l f o ls) = ap (λ (n : ℕ). eqb n 49) t

abbrev IsWhole : Item → Type 0
IsWhole (whole head body) = Unit {0}
IsWhole broken = ⊥

own_whole : {d : Item} → OwnDescriptor d → IsWhole d
own_whole (hierarchy_own t l o) = tt
own_whole (extension_own t l f o ls) = tt

module _ (tagged payload : List ℕ) (size : length tagged ≡ 2) (tag : descriptor_tag tagged ≡ 49) (counted : descriptor_length tagged ≡ 8) (long : length payload ≡ 8) where
  abbrev last : List Item
  last = whole tagged payload ∷ []

  cuts_then : {plain : List ℕ} {ds : List Item} → Cuts 2 descriptor_length plain ds → ((k : ℕ) (d : Item) → Nth ds k d → OwnDescriptor d)
      → Cuts 2 descriptor_length (plain ++ (tagged ++ payload)) (ds ++ last)
  cuts_then nothing_left own = subst (λ (l : List ℕ). Cuts 2 descriptor_length (tagged ++ l) last) (append-nil payload) (piece {head = tagged} {body = payload} size (long ∙ sym counted) nothing_left)
  cuts_then (does_not_fit h f) own = absurd (own_whole (own 0 broken here))
  cuts_then (piece {head} {body} {rest} {items} p q c) own =
      subst (λ (l : List ℕ). Cuts 2 descriptor_length l (whole head body ∷ (items ++ last))) (sym (append_assoc head (body ++ rest) (tagged ++ payload) ∙ ap (λ (l : List ℕ). head ++ l) (append_assoc body rest (tagged ++ payload))))
      (piece {head = head} {body = body} p q (cuts_then c (λ k d n. own (suc k) d (there n))))

  module _ (plain : List ℕ) (own : (k : ℕ) (d : Item) → Nth (cut 2 descriptor_length plain) k d → OwnDescriptor d) where
    abbrev ds : List Item
    ds = cut 2 descriptor_length plain

    cut_then : cut 2 descriptor_length (plain ++ (tagged ++ payload)) ≡ ds ++ last
    cut_then = sym (cuts_unique 2 descriptor_length (omega arith) by_tag (cuts_then (cut_cuts 2 descriptor_length (omega arith) by_tag plain) own))

    -- the descriptors but that one are the same as before,
    pub others_same : others plain ≡ others (plain ++ (tagged ++ payload))
    others_same =
        sym (append-nil (others plain)) ∙ ap (λ (b : Bool). others plain ++ (cond b [] (whole tagged payload ∷ []) ++ [])) (sym (eq-eqb (descriptor_tag tagged) 49 tag))
        ∙ sym (ap (gather unless_extension) cut_then ∙ gather_append unless_extension ds last)

    -- and it is the only one of tag 49
    no_payloads : (items : List Item) → ((k : ℕ) (d : Item) → Nth items k d → OwnDescriptor d) → gather payloads_of items ≡ []
    no_payloads [] f = refl
    no_payloads (broken ∷ items) f = absurd (own_whole (f 0 broken here))
    no_payloads (whole head body ∷ items) f =
        ap₂ (λ (b : Bool) (l : List (List ℕ)). cond b (body ∷ []) [] ++ l) (own_tag (f 0 (whole head body) here)) (no_payloads items (λ k d n. f (suc k) d (there n)))

    pub found_there : extension_in (plain ++ (tagged ++ payload)) ≡ One (mvc_extension_of payload)
    found_there =
        ap (λ (items : List Item). found_in (gather payloads_of items)) cut_then
        ∙ ap found_in (gather_append payloads_of ds last ∙ ap₂ (λ (l : List (List ℕ)) (b : Bool). l ++ (cond b (payload ∷ []) [] ++ [])) (no_payloads ds own) (eq-eqb (descriptor_tag tagged) 49 tag))
        ∙ ap (λ (b : Bool). cond b (One (mvc_extension_of payload)) Rattle.mvc_descriptors.specs.declared.Found.TheVariants.Wrong) (eq-eqb (length payload) 8 long)

-- ---- one entry

-- what is left of an entry, and what it was
pub data BareOf (layer : Bool) : Item → Item → Type 0 where
  kept : {head info : List ℕ} → layer ≡ false → BareOf layer (whole head info) (whole head info)
  shortened : {head bare : List ℕ} (plain tagged payload : List ℕ) → layer ≡ true → Ones entry_head head → ((k : ℕ) (d : Item) → Nth (cut 2 descriptor_length plain) k d → OwnDescriptor d)
      → length tagged ≡ 2 → descriptor_tag tagged ≡ 49 → descriptor_length tagged ≡ 8 → length payload ≡ 8 → Ones mvc_extension_descriptor payload
      → BareOf layer (whole bare plain) (whole head (plain ++ (tagged ++ payload)))

pub record BareEntry (layer : Bool) (head info : List ℕ) : Type 0 where
  pub bare_head : List ℕ
  pub bare_info : List ℕ
  pub head_size : length bare_head ≡ 5
  pub info_size : length bare_info ≡ es_info_length bare_head
  pub head_bytes : AreBytes bare_head
  pub info_bytes : AreBytes bare_info
  pub no_longer : length bare_info ≤ length info
  pub own_entry : OwnEntry (whole bare_head bare_info)
  pub alike_entry : AlikeEntry (whole bare_head bare_info) (whole head info)
  pub bare_of : BareOf layer (whole bare_head bare_info) (whole head info)

entry_sound : Sound entry_head
entry_sound = record { whole = refl; fixed_fit = refl }

module _ (layer : Bool) (head : List ℕ) (size : length head ≡ 5) (bh : AreBytes head) where
  -- the head that counts so many descriptor bytes instead
  module _ (n : ℕ) (fewer : n ≤ es_info_length head) where
    abbrev values : List ℕ
    values = stream_type head ∷ elementary_pid head ∷ n ∷ []

    abbrev counting : List ℕ
    counting = write_table entry_head values

    counting_fit : Fit entry_head values
    counting_fit =
        let b = bounds (read_fits entry_head head) in
        Rattle.syntax.proofs.Laws.fits_fit entry_head values (rw (borrow.Author.Tests.lt-ltb (stream_type head) 256 b.0, borrow.Author.Tests.lt-ltb (elementary_pid head) 8192 b.1.0, borrow.Author.Tests.lt-ltb n 4096 (omega (arith, b.1.1.0))))

    read_again : read_table entry_head counting ≡ values
    read_again = ap (read_table entry_head) (sym (append-nil counting)) ∙ read_write entry_sound counting_fit []

    counting_ones : Ones entry_head counting
    counting_ones = (written entry_sound counting_fit).carries.reserved_bits

  own_bare : {info : List ℕ} → length info ≡ es_info_length head → AreBytes info → OwnEntryOf layer (whole head info) → BareEntry layer head info
  own_bare {info} long bi (no_layer_lem p own) =
      record {
        bare_head = head;
        bare_info = info;
        head_size = size;
        info_size = long;
        head_bytes = bh;
        info_bytes = bi;
        no_longer = omega arith;
        own_entry = own;
        alike_entry = same_others refl refl refl;
        bare_of = kept p;
      }
  own_bare long bi (a_layer p ones kn (then_extension plain tagged payload own two tag counted eight ones')) =
      let fewer : length plain ≤ es_info_length head = omega (arith, length-append plain (tagged ++ payload)) in
      let type : stream_type (counting (length plain) fewer) ≡ stream_type head = ap (λ (vs : List ℕ). get_or vs 0 0) (read_again (length plain) fewer) in
      record {
        bare_head = counting (length plain) fewer;
        bare_info = plain;
        head_size = length_written entry_head (values (length plain) fewer);
        info_size = sym (ap (λ (vs : List ℕ). get_or vs 2 0) (read_again (length plain) fewer));
        head_bytes = written_bytes entry_head (values (length plain) fewer);
        info_bytes = bytes_left plain (tagged ++ payload) bi;
        no_longer = omega (arith, length-append plain (tagged ++ payload));
        own_entry = known_own (counting_ones (length plain) fewer) (ap (known Edition2015) type ∙ kn) own;
        alike_entry = same_others type (ap (λ (vs : List ℕ). get_or vs 1 0) (read_again (length plain) fewer)) (others_same tagged payload two tag counted eight plain own);
        bare_of = shortened plain tagged payload p ones own two tag counted eight ones';
      }

-- ---- the loop

pub record Bare (layer : ℕ → Bool) (loop : List ℕ) (items : List Item) : Type 0 where
  pub bare_loop : List ℕ
  pub bares : List Item
  pub cuts : Cuts 5 es_info_length bare_loop bares
  pub in_bytes : AreBytes bare_loop
  pub no_longer : length bare_loop ≤ length loop
  pub alike : Alike bares items
  pub own : (k : ℕ) (i : Item) → Nth bares k i → OwnEntry i
  pub each : (k : ℕ) (i : Item) → Nth items k i → (b : Item) × Nth bares k b × BareOf (layer k) b i

entry_whole : {item : Item} → OwnEntry item → IsWhole item
entry_whole (known_own o kn own) = tt
entry_whole (bare_own o) = tt

own_entry_whole : {layer : Bool} {item : Item} → OwnEntryOf layer item → IsWhole item
own_entry_whole (a_layer p o kn own) = tt
own_entry_whole (no_layer_lem p own) = entry_whole own

pub bare : (layer : ℕ → Bool) {loop : List ℕ} {items : List Item} → AreBytes loop → Cuts 5 es_info_length loop items
    → ((k : ℕ) (i : Item) → Nth items k i → OwnEntryOf (layer k) i) → Bare layer loop items
bare layer b nothing_left own =
    record {
      bare_loop = [];
      bares = [];
      cuts = nothing_left;
      in_bytes = b;
      no_longer = omega arith;
      alike = no_entries;
      own = λ k i n. absurd (not-suc-le-zero (nth_inside n));
      each = λ k i n. absurd (not-suc-le-zero (nth_inside n));
    }
bare layer b (does_not_fit h f) own = absurd (own_entry_whole (own 0 broken here))
bare layer b (piece {head} {body} {rest} {items} p q c) own =
    let bh : AreBytes head = bytes_left head (body ++ rest) b in
    let br : AreBytes (body ++ rest) = bytes_right head (body ++ rest) b in
    let first = own_bare (layer 0) head p bh q (bytes_left body rest br) (own 0 (whole head body) here) in
    let later = bare (λ k. layer (suc k)) (bytes_right body rest br) c (λ k i n. own (suc k) i (there n)) in
    record {
      bare_loop = first.bare_head ++ (first.bare_info ++ later.bare_loop);
      bares = whole first.bare_head first.bare_info ∷ later.bares;
      cuts = piece first.head_size first.info_size later.cuts;
      in_bytes = both_bytes first.bare_head _ first.head_bytes (both_bytes first.bare_info later.bare_loop first.info_bytes later.in_bytes);
      no_longer = omega (
        arith,
        length-append first.bare_head (first.bare_info ++ later.bare_loop),
        length-append first.bare_info later.bare_loop,
        length-append head (body ++ rest),
        length-append body rest,
        first.head_size,
        first.no_longer,
        later.no_longer,
      );
      alike = entry_then first.alike_entry later.alike;
      own = own_all first.own_entry later.own;
      each = each_all first.bare_of later.each;
    }
  where
    own_all : {b : Item} {bs : List Item} → OwnEntry b → ((k : ℕ) (i : Item) → Nth bs k i → OwnEntry i) → (k : ℕ) (i : Item) → Nth (b ∷ bs) k i → OwnEntry i
    own_all o f zero i here = o
    own_all o f (suc k) i (there n) = f k i n

    each_all : {x y : Item} {xs ys : List Item} → BareOf (layer 0) x y → ((k : ℕ) (i : Item) → Nth ys k i → (b : Item) × Nth xs k b × BareOf (layer (suc k)) b i)
        → (k : ℕ) (i : Item) → Nth (y ∷ ys) k i → (b : Item) × Nth (x ∷ xs) k b × BareOf (layer k) b i
    each_all {x} o f zero i here = (x, here, o)
    each_all o f (suc k) i (there n) = let u = f k i n in (u.0, there u.1, u.2)
