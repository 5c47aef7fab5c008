-- Of W-206: that in the new build refusal 10 never occurs, and the round trips with as many layers as six bits allow. The statements stand in specs/Embedding.antt.
-- Assumes nothing.
use Rattle.std.specs.Prelude.{ℕ, ◌-◌, Bool, false, ◌&&◌, List, ◌++◌, map, ◌≡◌, refl, eqb, length, get_or, take, replicate, Err, Ok}
use Rattle.std.proofs.Common.{append-nil, sym, ◌∙◌, ap, subst, arith, take_all, take_at}
use Rattle.std.proofs.lemmas.List.{length-map}
use Rattle.combinators.specs.Bools.{both_ways}
use Rattle.combinators.specs.Lists.{Nth, nth_map}
use Rattle.combinators.specs.Members.{member}
use Rattle.combinators.specs.Padding.{pad_to}
use Rattle.text.specs.Text.{ascii, decimal, decimal_width}
use Rattle.vocabulary.specs.declared.LayerIndex.{LayerIndex}
use Rattle.vocabulary.specs.declared.stream_types.Reading.{Reading}
use Rattle.vocabulary.specs.declared.refusal.Refusal.{Refusal}
use Rattle.vocabulary.specs.declared.refusal.Refusal.TheVariants.{LoopTooLong, DoesNotFit, RepeatedPid, WrongLength, SecondRecord, TypeNotAllowed, WrongFlags, RepeatedLayerIndex, WrongEmbeddedIndex, NoSuchLayer, EmbeddedLayerAbsent, OutOfRange, TimeOrderBroken, Unpaired, UsedTwice, NoRoom, SpanTooWide, NotVideoHeader, NoPts, FieldsDoNotFit, WrongMarker, PtsBeforeDts, TooWide, LostSync, CounterGap, OutsidePacket, Scrambled, PointsDoNotFit, ReservedEsCount, UnknownReference, NotStereoSet, WrongMvcExtension, RangesMeet}
use Rattle.records.specs.declared.Record.{Record}
use Rattle.vocabulary.proofs.Numbers.{not_listed}
use Rattle.extension.specs.Extension.{no_layer}
use Rattle.loop_entries.specs.declared.Entry.{Entry}
use Rattle.es_loop.specs.declared.reader.LoopRead.{LoopRead}
use Rattle.es_loop.specs.Answer.{Outcome}
use Rattle.loop_layers.specs.declared.table.LayerTable.{LayerTable}
use Rattle.loop_layers.specs.declared.table.TableRead.{TableRead}
use Rattle.loop_layers.specs.Closures.{entries_read, loop_table}
use Rattle.loop_round_trip.specs.ReadBack.{layers_kept, normal, Typed}
use Rattle.loop_round_trip.proofs.ReadBack.{typed_at}
use Rattle.listing.specs.Lines.{accepted_text, refused_text, read_text, loop_text}
use Rattle.promised.specs.Calls.{Call, is_listed, Promised}
use Rattle.promised.proofs.Readers.{loop_read_lem, closure_found, loop_closure_found, times_read}
use Rattle.promised.proofs.Writers.{loop_written, times_written}
use Rattle.promised.proofs.Joiners.{table_joined_lem, rows_joined, long_joined, loop_imported}
use Rattle.demands.specs.ForC.{thq_read_loop, thq_write_loop, thq_closure, thq_read_times, thq_write_times}
use Rattle.demands.specs.JoinsForC.{thq_join, thq_join_long, thq_import}
use Rattle.demands.proofs.ForCShown.{thq_loop_read, thq_loop_written, thq_closure_found, thq_times_read, thq_times_written}
use Rattle.demands.proofs.JoinsForCShown.{thq_rows_joined, thq_long_joined, thq_loop_imported}
use Rattle.demands.specs.Sets.{thq_set_read, thq_set_add, thq_set_remove, thq_set_closure}
use Rattle.demands.proofs.SetsShown.{set_read, layer_added, layer_removed}
use Rattle.demands.proofs.SetsShown as shown
use Rattle.demands.specs.Stereo.{thq_read_stereo, thq_write_stereo}
use Rattle.demands.proofs.StereoShown.{thq_stereo_read, thq_stereo_written}
use Rattle.demands.specs.PointsRead.{thq_read_points}
use Rattle.demands.proofs.PointsReadShown.{thq_points_read}
use Rattle.demands.specs.PointsWritten.{thq_write_points}
use Rattle.demands.proofs.PointsWrittenShown.{thq_points_written}
use Rattle.demands.specs.Demand2.{as_given}
use Rattle.demands.proofs.Demand2.{read_back, rewritten}
use Rattle.demands.specs.Embedding.{Lists63, Never10, RoundTrips63, TenNever}

-- 10 is not listed for the call, and a refusal of it has a listed number
never : {call : Call} → Promised call → member 10 call.numbers ≡ false → Never10 call
never {call} promised unlisted run ensured is-ten =
    both_ways (promised.listed run ensured) (ap (is_listed call.numbers) is-ten ∙ unlisted)

-- the three bytes after 'refused '
is_ten : List ℕ → Bool
is_ten text = eqb (get_or text 8 0) 49 && eqb (get_or text 9 0) 48 && eqb (get_or text 10 0) 32

no_ten : (refusal : Refusal) → is_ten (refused_text refusal) ≡ false
unfolding refused_text decimal decimal_width is_ten
no_ten LoopTooLong = refl
no_ten (DoesNotFit entry) = refl
no_ten (RepeatedPid entry) = refl
no_ten (WrongLength entry) = refl
no_ten (SecondRecord entry) = refl
no_ten (TypeNotAllowed entry) = refl
no_ten (WrongFlags entry) = refl
no_ten (RepeatedLayerIndex entry) = refl
no_ten (WrongEmbeddedIndex entry) = refl
no_ten NoSuchLayer = refl
no_ten (EmbeddedLayerAbsent index) = refl
no_ten (OutOfRange row) = refl
no_ten (TimeOrderBroken row) = refl
no_ten (Unpaired row) = refl
no_ten (UsedTwice row) = refl
no_ten NoRoom = refl
no_ten SpanTooWide = refl
no_ten NotVideoHeader = refl
no_ten NoPts = refl
no_ten FieldsDoNotFit = refl
no_ten WrongMarker = refl
no_ten PtsBeforeDts = refl
no_ten TooWide = refl
no_ten (LostSync packet) = refl
no_ten (CounterGap packet) = refl
no_ten (OutsidePacket packet) = refl
no_ten (Scrambled packet) = refl
no_ten PointsDoNotFit = refl
no_ten ReservedEsCount = refl
no_ten UnknownReference = refl
no_ten NotStereoSet = refl
no_ten WrongMvcExtension = refl
no_ten RangesMeet = refl

never_listed : (outcome : Outcome) (table : LayerTable) (rest : List ℕ) → read_text outcome table ≡ ascii "refused 10 " ++ rest → ⊥
unfolding accepted_text is_ten
never_listed (Ok tt) table rest e = let z : ◌≡◌ {A = ℕ} 97 114 = ap (λ (text : List ℕ). get_or text 0 0) e in absurd (omega arith)
never_listed (Err refusal) table rest e = both_ways (ap is_ten e) (no_ten refusal)

never_in_text : (reading : Reading) (bytes rest : List ℕ) → loop_text reading bytes ≡ ascii "refused 10 " ++ rest → ⊥
unfolding loop_text
never_in_text reading bytes rest e =
    let read : TableRead = loop_table reading bytes in
    never_listed read.outcome read.table rest e

pub ten_never : TenNever
ten_never =
    record {
      no_refusal = not_listed 10 refl;
      reading_a_loop = never loop_read_lem refl;
      writing_a_loop = never loop_written refl;
      closure_of_a_target = never closure_found refl;
      closure_from_a_loop = never loop_closure_found refl;
      reading_times = never times_read refl;
      writing_times = never times_written refl;
      joining_a_table = never table_joined_lem refl;
      joining_rows = never rows_joined refl;
      joining_long_tables = never long_joined refl;
      importing = never loop_imported refl;
      thq_read_loop = never thq_loop_read refl;
      thq_write_loop = never thq_loop_written refl;
      thq_closure = never thq_closure_found refl;
      thq_read_times = never thq_times_read refl;
      thq_write_times = never thq_times_written refl;
      thq_join = never thq_rows_joined refl;
      thq_join_long = never thq_long_joined refl;
      thq_import = never thq_loop_imported refl;
      reading_a_layer_set = never set_read refl;
      adding_a_layer = never layer_added refl;
      removing_a_layer = never layer_removed refl;
      thq_set_read = never shown.thq_set_read_lem refl;
      thq_set_add = never shown.thq_set_add_lem refl;
      thq_set_remove = never shown.thq_set_remove_lem refl;
      thq_set_closure = never shown.thq_set_closure_lem refl;
      thq_read_stereo = never thq_stereo_read refl;
      thq_write_stereo = never thq_stereo_written refl;
      thq_read_points = never thq_points_read refl;
      thq_write_points = never thq_points_written refl;
      listing = never_in_text;
    }

-- no place of such a list is beyond its count
as_given_lem : {e : Entry} → Lists63 e → length e.embedded ≡ 63 → normal e ≡ e
as_given_lem {e} l long =
    ap (λ (layers : List LayerIndex). record { stream_type = e.stream_type; pid = e.pid; «record» = e.«record»; embedded = layers })
    (ap (λ (r : Record). pad_to 63 no_layer (layers_kept r e.embedded)) l.is_extension
    ∙ ap (λ (n : ℕ). pad_to 63 no_layer (take n e.embedded)) l.all_63
    ∙ ap (pad_to 63 no_layer) (take_all 63 e.embedded (omega arith))
    ∙ ap (λ (n : ℕ). e.embedded ++ replicate (63 - n) no_layer) long
    ∙ append-nil e.embedded)

entries_given : (es : List Entry) → entries_read (as_given es) ≡ map normal es
entries_given es = take_at (map normal es) _ (length es) (length-map es normal)

read_63 : {es : List Entry} {answer : LoopRead} → answer ≡ as_given es → Typed es → {k : ℕ} {e : Entry} → Nth es k e → Lists63 e
    → Nth (entries_read answer) k e
read_63 {es} {answer} same typed {k} {e} n l =
    subst (λ (entries : List Entry). Nth entries k e) (sym (ap entries_read same ∙ entries_given es))
    (subst (λ (x : Entry). Nth (map normal es) k x) (as_given_lem l (typed_at typed n)) (nth_map normal n))

pub lists_of_63 : RoundTrips63
lists_of_63 =
    record {
      read_back = λ wrote written n is-bytes typed read ensured same. read_63 (read_back wrote written n is-bytes typed read ensured same) typed;
      rewritten = rewritten;
    }
