-- What document 01 says the program prints for loop A and for no layer, and some lines more, each computed from the definitions; and two views without a
-- hierarchy descriptor (document 02, W-201).
-- Assumes nothing.
use Rattle.std.specs.Prelude.{[], ◌∷◌, ◌≡◌, refl, replicate}
use Rattle.sets.specs.Sets.{size}
use Rattle.text.specs.Text.{ascii, decimal, decimal_width, texts}
use Rattle.vocabulary.specs.declared.refusal.Refusal.TheVariants.{LoopTooLong, WrongLength}
use Rattle.vocabulary.specs.declared.stream_types.Reading.TheVariants.{Edition2009, Edition2015}
use Rattle.es_loop.specs.Examples.{loop_a}
use Rattle.loop_layers.specs.Examples.{two_views}
use Rattle.loop_layers.specs.declared.table.LayerTable.{LayerTable}
use Rattle.listing.specs.Lines.{members, layer_line, line_at, layers_text, accepted_text, refused_text, loop_text}

-- loop A, from its bytes
loop_a_lem : loop_text Edition2015 loop_a
    ≡ ascii "accepted 3\nlayer 0 pid 256 type 27 channel 0 closure 0\nlayer 1 pid 257 type 31 channel 1 closure 0 1\nlayer 2 pid 258 type 40 channel 2 closure 0 2\n"
unfolding loop_text size accepted_text layers_text line_at layer_line members texts decimal decimal_width
loop_a_lem = refl

-- the 2009 reading does not know its third stream, so that this is no layer
loop_a_in_2009 : loop_text Edition2009 loop_a
    ≡ ascii "accepted 2\nlayer 0 pid 256 type 27 channel 0 closure 0\nlayer 1 pid 257 type 31 channel 1 closure 0 1\n"
unfolding loop_text size accepted_text layers_text line_at layer_line members texts decimal decimal_width
loop_a_in_2009 = refl

-- two views: implied layers are counted and listed, each on channel 0
two_views_lem : loop_text Edition2015 two_views
    ≡ ascii "accepted 2\nlayer 0 pid 256 type 27 channel 0 closure 0\nlayer 1 pid 257 type 32 channel 0 closure 0 1\n"
unfolding loop_text size accepted_text layers_text line_at layer_line members texts decimal decimal_width
two_views_lem = refl

two_views_in_2009 : loop_text Edition2009 two_views
    ≡ ascii "accepted 2\nlayer 0 pid 256 type 27 channel 0 closure 0\nlayer 1 pid 257 type 32 channel 0 closure 0 1\n"
unfolding loop_text size accepted_text layers_text line_at layer_line members texts decimal decimal_width
two_views_in_2009 = refl

-- the empty loop
no_layer_lem : loop_text Edition2015 [] ≡ ascii "accepted 0\n"
unfolding loop_text size accepted_text layers_text line_at texts decimal decimal_width
no_layer_lem = refl

-- layer 1 names layer 0, which is not in the loop
abbrev base_absent : LayerTable
base_absent =
    record {
      layers = record { present = 0b10; embedded = 0 ∷ 0b1 ∷ replicate 62 0 };
      pids = 0 ∷ 257 ∷ replicate 62 0;
      stream_types = 0 ∷ 31 ∷ replicate 62 0;
      channels = record { 0 = 0 } ∷ record { 0 = 1 } ∷ replicate 62 (record { 0 = 0 });
    }

closure_absent : accepted_text base_absent ≡ ascii "accepted 1\nlayer 1 pid 257 type 31 channel 1 closure absent\n"
unfolding size accepted_text layers_text line_at layer_line members texts decimal decimal_width
closure_absent = refl

loop_too_long : refused_text LoopTooLong ≡ ascii "refused 1 entry 0\n"
unfolding refused_text decimal decimal_width
loop_too_long = refl

wrong_length : refused_text (WrongLength 7) ≡ ascii "refused 4 entry 7\n"
unfolding refused_text decimal decimal_width
wrong_length = refl
