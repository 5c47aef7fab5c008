-- WHAT A STREAM HAS OF THE MVC EXTENSION DESCRIPTOR, in the words of W-211: 'the descriptor missing, doubled or of another length than its layout', or one of that
-- length. proofs/Meant.antt joins this to what is computed, both ways.
-- Assumes nothing.
use Rattle.std.specs.Prelude.{ℕ, ◌<◌, ◌≡◌, ◌≢◌, List, length}
use Rattle.combinators.specs.Lists.{Nth}
use Rattle.framing.specs.Pieces.{Item, whole, Cuts}
use Rattle.descriptor_heads.specs.Head.{descriptor_tag, descriptor_length}
use Rattle.mvc_extension.specs.declared.MvcExtension.{MvcExtension}
use Rattle.mvc_extension.specs.MvcExtension.{mvc_extension_of}

-- an MVC extension descriptor at a place among the descriptors of a stream: tag 49
pub record ExtensionAt (descriptors : List Item) (k : ℕ) (payload : List ℕ) : Type 0 where
  pub head : List ℕ
  pub stands : Nth descriptors k (whole head payload)
  pub tag : descriptor_tag head ≡ 49

-- 45 of one stream, by its descriptor bytes
pub data WrongExtension (info : List ℕ) : Type 0 where
  missing : {descriptors : List Item} → Cuts 2 descriptor_length info descriptors
      → ((k : ℕ) (payload : List ℕ) → ExtensionAt descriptors k payload → ⊥) → WrongExtension info
  -- whatever the lengths
  doubled : {descriptors : List Item} {j k : ℕ} {first second : List ℕ} → Cuts 2 descriptor_length info descriptors → j < k
      → ExtensionAt descriptors j first → ExtensionAt descriptors k second → WrongExtension info
  other_length : {descriptors : List Item} {k : ℕ} {payload : List ℕ} → Cuts 2 descriptor_length info descriptors
      → ExtensionAt descriptors k payload → length payload ≢ 8 → WrongExtension info

-- exactly one, of length 8, and what it says
pub record HasExtension (info : List ℕ) (x : MvcExtension) : Type 0 where
  pub descriptors : List Item
  pub cuts : Cuts 2 descriptor_length info descriptors
  pub place : ℕ
  pub payload : List ℕ
  pub stands : ExtensionAt descriptors place payload
  pub alone : (j : ℕ) (other : List ℕ) → ExtensionAt descriptors j other → j ≡ place
  pub as_long : length payload ≡ 8
  pub says : mvc_extension_of payload ≡ x
