-- What was written for a set, cut into its entries, and each entry's bytes into their descriptors.
-- Assumes nothing.
use Rattle.std.specs.Prelude.{ℕ, ◌+◌, ◌≡◌, refl, ◌⊎◌, Bool, true, false, cond, List, [], ◌∷◌, ◌++◌, map, length, get_or}
use Rattle.std.proofs.Common.{sym, ◌∙◌, ap, ap₂, subst, inl, inr, append-nil, append_assoc, arith, length-append}
use Rattle.combinators.specs.Bools.{neither_left, neither_right}
use Rattle.combinators.specs.Lists.{Nth, here, there, any, gather}
use Rattle.framing.specs.Pieces.{Item, whole, Cuts, nothing_left, piece, cut}
use Rattle.framing.proofs.Pieces.{cuts_unique}
use Rattle.syntax.specs.Table.{Sound, Fit, read_table, write_table, fits}
use Rattle.syntax.specs.Named.{by_names}
use Rattle.syntax.specs.Filled.{bytes_in}
use Rattle.syntax.proofs.Laws.{read_write, length_written, fits_fit}
use Rattle.descriptor_heads.specs.Head.{descriptor_tag, descriptor_length, head_table}
use Rattle.descriptor_heads.proofs.Heads.{by_tag}
use Rattle.hierarchy.specs.declared.HierarchyRecord.{HierarchyRecord}
use Rattle.hierarchy.specs.Hierarchy.{hierarchy_descriptor, hierarchy_fields}
use Rattle.vocabulary.specs.declared.stream_types.Reading.TheVariants.{Edition2015}
use Rattle.records.specs.declared.Record.{Record}
use Rattle.records.specs.declared.Record.TheVariants.{Hierarchy, Implied}
use Rattle.loop_entries.specs.declared.Entry.{Entry}
use Rattle.loop_entries.specs.Entries.{entry_head, stream_type, elementary_pid, es_info_length}
use Rattle.es_loop.proofs.Meant.{by_head}
use Rattle.loop_writer.specs.Layout.{entry_head_table, info_bytes, entry_bytes, loop_bytes, too_wide}
use Rattle.mvc_extension.specs.declared.MvcExtension.{MvcExtension}
use Rattle.mvc_extension.specs.MvcExtension.{mvc_extension_descriptor, mvc_extension_from, mvc_extension_of, mvc_extension_fields}
use Rattle.mvc_extension.proofs.Bytes.{mvc_extension_fields_lem}
use Rattle.mvc_descriptors.specs.declared.Found.{Found}
use Rattle.mvc_descriptors.specs.declared.Found.TheVariants.{One}
use Rattle.mvc_descriptors.specs.Finding.{payloads_of, found_in, extension_in}
use Rattle.mvc_descriptors.specs.Tables.{mvc_extension_tables}
use Rattle.stereo_agreement.specs.Skipped.{unless_extension, others}
use Rattle.stereo_writer.proofs.Bytes.{head_more}

-- ---- an entry with so many bytes more behind its descriptor

abbrev pub head_with : Entry → List ℕ → List ℕ
head_with e more = bytes_in (entry_head_table e.stream_type e.pid (length (info_bytes e ++ more)))

abbrev pub bytes_with : (Entry → List ℕ) → Entry → List ℕ
bytes_with more e = head_with e (more e) ++ (info_bytes e ++ more e)

abbrev pub item_with : (Entry → List ℕ) → Entry → Item
item_with more e = whole (head_with e (more e)) (info_bytes e ++ more e)

entry_sound : Sound entry_head
entry_sound = record { whole = refl; fixed_fit = refl }

module _ (more : Entry → List ℕ) (few : (e : Entry) → length (more e) ≡ 0 ⊎ (length (more e) ≡ 10)) where
  module _ (e : Entry) (fine : too_wide e ≡ false) where
    values : read_table entry_head (head_with e (more e)) ≡ e.stream_type ∷ e.pid ∷ length (info_bytes e ++ more e) ∷ []
    values = read_write entry_sound (head_more e fine (more e) (length-append (info_bytes e) (more e)) (few e)) []

    pub type_read : stream_type (head_with e (more e)) ≡ e.stream_type
    type_read = ap (λ (vs : List ℕ). get_or vs 0 0) values

    pub pid_read : elementary_pid (head_with e (more e)) ≡ e.pid
    pid_read = ap (λ (vs : List ℕ). get_or vs 1 0) values

    length_read : es_info_length (head_with e (more e)) ≡ length (info_bytes e ++ more e)
    length_read = ap (λ (vs : List ℕ). get_or vs 2 0) values

  pub loop_cuts : (es : List Entry) → any too_wide es ≡ false → Cuts 5 es_info_length (gather (bytes_with more) es) (map (item_with more) es)
  loop_cuts [] fine = nothing_left
  loop_cuts (e ∷ es) fine =
      let here_fine : too_wide e ≡ false = neither_left (too_wide e) (any too_wide es) fine in
      subst (λ (l : List ℕ). Cuts 5 es_info_length l (item_with more e ∷ map (item_with more) es))
      (sym (append_assoc (head_with e (more e)) (info_bytes e ++ more e) (gather (bytes_with more) es)))
      (piece (length_written entry_head (e.stream_type ∷ e.pid ∷ length (info_bytes e ++ more e) ∷ [])) (sym (length_read e here_fine))
      (loop_cuts es (neither_right (too_wide e) (any too_wide es) fine)))

  pub loop_cut : (es : List Entry) → any too_wide es ≡ false → cut 5 es_info_length (gather (bytes_with more) es) ≡ map (item_with more) es
  loop_cut es fine = sym (cuts_unique 5 es_info_length (omega arith) by_head (loop_cuts es fine))

-- with nothing more it is the loop writer's
abbrev pub nothing_more : Entry → List ℕ
nothing_more e = []

pub plain_bytes : (es : List Entry) → gather (bytes_with nothing_more) es ≡ loop_bytes es
plain_bytes [] = refl
plain_bytes (e ∷ es) =
    ap₂ (λ (a b : List ℕ). a ++ b)
    (ap (λ (l : List ℕ). bytes_in (entry_head_table e.stream_type e.pid (length l)) ++ l) (append-nil (info_bytes e)))
    (plain_bytes es)

-- ---- the descriptor bytes of a layer

module _ (z : MvcExtension) where
  abbrev pub extension_bytes : List ℕ
  extension_bytes = gather bytes_in (mvc_extension_tables z)

  abbrev extension_payload : List ℕ
  extension_payload = write_table mvc_extension_descriptor (mvc_extension_fields z)

  abbrev extension_item : Item
  extension_item = whole (bytes_in (head_table 49 8)) extension_payload

  extension_cuts : Cuts 2 descriptor_length extension_bytes (extension_item ∷ [])
  extension_cuts = piece {head = bytes_in (head_table 49 8)} {body = extension_payload} {rest = []} refl refl nothing_left

  hierarchy_cuts : (h : HierarchyRecord) {rest : List ℕ} {items : List Item} → Cuts 2 descriptor_length rest items
      → Cuts 2 descriptor_length (bytes_in (head_table 4 4) ++ (write_table (hierarchy_descriptor Edition2015) (hierarchy_fields h) ++ rest))
      (whole (bytes_in (head_table 4 4)) (write_table (hierarchy_descriptor Edition2015) (hierarchy_fields h)) ∷ items)
  hierarchy_cuts h c = piece {head = bytes_in (head_table 4 4)} {body = write_table (hierarchy_descriptor Edition2015) (hierarchy_fields h)} refl refl c

  found_back : fits mvc_extension_descriptor (mvc_extension_fields z) ≡ true → mvc_extension_of extension_payload ≡ z
  found_back fit =
      ap (λ (vs : List ℕ). mvc_extension_from (by_names mvc_extension_descriptor vs))
      (read_write (record { whole = refl; fixed_fit = refl }) (fits_fit mvc_extension_descriptor (mvc_extension_fields z) fit) [])
      ∙ mvc_extension_fields_lem z

  -- A layer with a hierarchy descriptor, or implied: reading finds the descriptor, and sees nothing else than before.
  pub data PlainLayer (e : Entry) : Type 0 where
    by_hierarchy : (h : HierarchyRecord) → e.«record» ≡ Hierarchy h → PlainLayer e
    by_mark : e.«record» ≡ Implied → PlainLayer e

  module _ (e : Entry) where
    abbrev items_of : PlainLayer e → List Item
    items_of (by_hierarchy h p) = whole (bytes_in (head_table 4 4)) (write_table (hierarchy_descriptor Edition2015) (hierarchy_fields h)) ∷ []
    items_of (by_mark p) = []

    abbrev tables_of : Record → List ℕ
    tables_of r = gather bytes_in (Rattle.records.specs.Records.record_tables r e.embedded)

    cut_with : (l : PlainLayer e) → cut 2 descriptor_length (info_bytes e ++ extension_bytes) ≡ items_of l ++ extension_item ∷ []
    cut_with (by_hierarchy h p) =
        ap (λ (r : Record). cut 2 descriptor_length (tables_of r ++ extension_bytes)) p
        ∙ sym (cuts_unique 2 descriptor_length (omega arith) by_tag (hierarchy_cuts h extension_cuts))
    cut_with (by_mark p) =
        ap (λ (r : Record). cut 2 descriptor_length (tables_of r ++ extension_bytes)) p ∙ sym (cuts_unique 2 descriptor_length (omega arith) by_tag extension_cuts)

    cut_without : (l : PlainLayer e) → cut 2 descriptor_length (info_bytes e ++ []) ≡ items_of l
    cut_without (by_hierarchy h p) =
        ap (λ (r : Record). cut 2 descriptor_length (tables_of r ++ [])) p
        ∙ sym (cuts_unique 2 descriptor_length (omega arith) by_tag (hierarchy_cuts h nothing_left))
    cut_without (by_mark p) = ap (λ (r : Record). cut 2 descriptor_length (tables_of r ++ [])) p

    none_among : (l : PlainLayer e) → gather payloads_of (items_of l) ≡ []
    none_among (by_hierarchy h p) = refl
    none_among (by_mark p) = refl

    pub finds : PlainLayer e → fits mvc_extension_descriptor (mvc_extension_fields z) ≡ true → extension_in (info_bytes e ++ extension_bytes) ≡ One z
    finds l fit =
        ap (λ (items : List Item). found_in (gather payloads_of items)) (cut_with l) ∙ behind l ∙ ap (λ (w : MvcExtension). One w) (found_back fit)
      where
        behind : (l : PlainLayer e) → found_in (gather payloads_of (items_of l ++ extension_item ∷ [])) ≡ One (mvc_extension_of extension_payload)
        behind (by_hierarchy h p) = refl
        behind (by_mark p) = refl

    pub others_kept : PlainLayer e → others (info_bytes e ++ []) ≡ others (info_bytes e ++ extension_bytes)
    others_kept l = ap (gather unless_extension) (cut_without l) ∙ kept l ∙ sym (ap (gather unless_extension) (cut_with l))
      where
        kept : (l : PlainLayer e) → gather unless_extension (items_of l) ≡ gather unless_extension (items_of l ++ extension_item ∷ [])
        kept (by_hierarchy h p) = refl
        kept (by_mark p) = refl
