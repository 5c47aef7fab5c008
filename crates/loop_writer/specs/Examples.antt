-- Document 01's loop A, and two views with the implied mark, written.
-- Assumes nothing.
use Rattle.std.specs.Prelude.{ℕ, ◌≡◌, refl, true, false, [], ◌∷◌, Err, Ok}
use Rattle.combinators.specs.Padding.{pad_to}
use Rattle.vocabulary.specs.declared.refusal.Refusal.TheVariants.{RepeatedPid, TypeNotAllowed, NoRoom, TooWide}
use Rattle.records.specs.declared.Record.{Record}
use Rattle.records.specs.declared.Record.TheVariants.{NoRecord, Hierarchy, Extension, Implied}
use Rattle.extension.specs.Extension.{no_layer}
use Rattle.loop_entries.specs.declared.Entry.{Entry}
use Rattle.loop_entries.specs.Entries.{blank_entry}
use Rattle.es_loop.specs.Examples.{loop_a}
use Rattle.loop_writer.specs.Layout.{loop_bytes}
use Rattle.loop_writer.specs.Writing.{answer}

abbrev base : Entry
base =
    record {
      stream_type = 0x1B;
      pid = 256;
      «record» = Hierarchy
          (record {
            no_view = true;
            no_temporal = true;
            no_spatial = true;
            no_quality = true;
            hierarchy_type = 15;
            layer_index = record { 0 = 0 };
            tref_present_flag = true;
            embedded_layer_index = record { 0 = 63 };
            channel = record { 0 = 0 };
          });
      embedded = pad_to 63 no_layer [];
    }

abbrev spatial : Entry
spatial =
    record {
      stream_type = 0x1F;
      pid = 257;
      «record» = Hierarchy
          (record {
            no_view = true;
            no_temporal = true;
            no_spatial = false;
            no_quality = true;
            hierarchy_type = 1;
            layer_index = record { 0 = 1 };
            tref_present_flag = false;
            embedded_layer_index = record { 0 = 0 };
            channel = record { 0 = 1 };
          });
      embedded = pad_to 63 no_layer [];
    }

abbrev hevc : Entry
hevc =
    record {
      stream_type = 0x28;
      pid = 258;
      «record» = Extension
          (record {
            dimension_bits = 2;
            layer_index = record { 0 = 2 };
            temporal_id = record { 0 = 0 };
            nuh_layer_id = record { 0 = 1 };
            tref_present_flag = true;
            num_embedded_layers = 1;
            channel = record { 0 = 2 };
          });
      embedded = pad_to 63 no_layer (no_layer ∷ []);
    }

-- the bytes are those of document 01
loop_a_bytes : loop_bytes (base ∷ spatial ∷ hevc ∷ []) ≡ loop_a
loop_a_bytes = refl

-- 37 bytes, in a buffer of 37 bytes; one byte less gives 17
loop_a_written : answer 37 3 (pad_to 201 blank_entry (base ∷ spatial ∷ hevc ∷ [])) ≡ Ok 37
loop_a_written = refl

loop_a_no_room : answer 36 3 (pad_to 201 blank_entry (base ∷ spatial ∷ hevc ∷ [])) ≡ Err NoRoom
loop_a_no_room = refl

-- a PID twice: 3 at the later entry
pid_twice : answer 1008 3 (pad_to 201 blank_entry (base ∷ spatial ∷ base ∷ [])) ≡ Err (RepeatedPid 2)
pid_twice = refl

-- a record on a stream type that the 2015 reading does not know: 6
unknown_type : answer 1008 1 (pad_to 201 blank_entry (record { stream_type = 0x42; pid = 1; «record» = hevc.«record»; embedded = hevc.embedded } ∷ [])) ≡ Err (TypeNotAllowed 0)
unknown_type = refl

-- a PID of 14 bits: 25, whatever else is wrong
wide_pid : answer 0 2 (pad_to 201 blank_entry (base ∷ record { stream_type = 0x1B; pid = 8192; «record» = base.«record»; embedded = base.embedded } ∷ [])) ≡ Err TooWide
wide_pid = refl

-- W-201: two views with the implied mark are written without a descriptor; 6 at the first mark that the rule doesn't give, and at the first that is missing
abbrev view : ℕ → ℕ → Record → Entry
view t pid r = record { stream_type = t; pid = pid; «record» = r; embedded = pad_to 63 no_layer [] }

pair_bytes : loop_bytes (view 0x1B 256 Implied ∷ view 0x20 257 Implied ∷ [])
    ≡ 0x1B ∷ 0xE1 ∷ 0x00 ∷ 0xF0 ∷ 0x00 ∷ 0x20 ∷ 0xE1 ∷ 0x01 ∷ 0xF0 ∷ 0x00 ∷ []
pair_bytes = refl

pair_written : answer 10 2 (pad_to 201 blank_entry (view 0x1B 256 Implied ∷ view 0x20 257 Implied ∷ [])) ≡ Ok 10
pair_written = refl

mark_alone : answer 1008 1 (pad_to 201 blank_entry (view 0x1B 256 Implied ∷ [])) ≡ Err (TypeNotAllowed 0)
mark_alone = refl

mark_beside_a_descriptor : answer 1008 2 (pad_to 201 blank_entry (base ∷ view 0x20 257 Implied ∷ [])) ≡ Err (TypeNotAllowed 1)
mark_beside_a_descriptor = refl

mark_missing : answer 1008 2 (pad_to 201 blank_entry (view 0x1B 256 Implied ∷ view 0x20 257 NoRecord ∷ [])) ≡ Err (TypeNotAllowed 1)
mark_missing = refl

both_missing : answer 1008 2 (pad_to 201 blank_entry (view 0x20 257 NoRecord ∷ view 0x1B 256 NoRecord ∷ [])) ≡ Err (TypeNotAllowed 0)
both_missing = refl
