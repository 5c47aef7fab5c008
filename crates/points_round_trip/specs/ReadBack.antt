-- READING WHAT WAS WRITTEN: what it is that bytes are read as a value. That the value which was given comes back stands in proofs/ReadBack.antt, `read_back`
-- and `written_read`.
-- Assumes nothing.
use Prim.Native.Nat.{ℕ}
use Rattle.std.specs.Prelude.{◌≡◌, Ok}
use mathlib.Core.List.{List, [], ◌∷◌}
use Rattle.operation_points.specs.Points.{filling_of}
use Rattle.operation_points.specs.Values.{DescriptorValue, value_of}
use Rattle.point_descriptors.specs.Descriptors.{payloads_in, program_filling}

-- ---- READING WHAT WAS WRITTEN

-- Bytes that are read as a value.
pub record ReadBack (v : DescriptorValue) (bytes : List ℕ) : Type 0 where
  pub payload : List ℕ
  -- the program's loop that is this descriptor alone has its payload and no other, and is not refused
  pub alone : payloads_in bytes ≡ payload ∷ []
  pub accepted : program_filling bytes ≡ Ok tt
  -- its fields fill it, and its value is this one
  pub fills : filling_of payload ≡ Ok tt
  pub value : value_of payload ≡ v
