-- The MVC extension descriptors among the descriptors of a stream: their payloads, in order, and what these come to: none, exactly one of length 8, or anything
-- else. And the same along a walk, one descriptor after another.
-- Assumes nothing.
use Rattle.std.specs.Prelude.{ℕ, cond, List, [], ◌∷◌, eqb, length}
use Rattle.combinators.specs.Lists.{gather}
use Rattle.framing.specs.Pieces.{Item, whole, broken, cut}
use Rattle.descriptor_heads.specs.Head.{descriptor_tag, descriptor_length}
use Rattle.mvc_extension.specs.MvcExtension.{mvc_extension_of}
use Rattle.mvc_descriptors.specs.declared.Found.{Found}
use Rattle.mvc_descriptors.specs.declared.Found.TheVariants.{Missing, One, Wrong}

-- the payload of a descriptor of tag 49, and nothing of any other; bytes that hold no whole descriptor are none
abbrev pub payload_if : ℕ → List ℕ → List (List ℕ)
payload_if tag payload = cond (eqb tag 49) (payload ∷ []) []

abbrev pub payloads_of : Item → List (List ℕ)
payloads_of (whole head payload) = payload_if (descriptor_tag head) payload
payloads_of broken = []

abbrev pub extension_payloads : List ℕ → List (List ℕ)
extension_payloads info = gather payloads_of (cut 2 descriptor_length info)

-- the only one: its length is 8
abbrev pub found_first : List ℕ → Found
found_first payload = cond (eqb (length payload) 8) (One (mvc_extension_of payload)) Wrong

abbrev pub found_in : List (List ℕ) → Found
found_in [] = Missing
found_in (payload ∷ []) = found_first payload
found_in (payload ∷ other ∷ others) = Wrong

abbrev pub extension_in : List ℕ → Found
extension_in info = found_in (extension_payloads info)

-- ALONG A WALK: one more
abbrev pub found_next : Found → List ℕ → Found
found_next Missing payload = found_first payload
found_next (One x) payload = Wrong
found_next Wrong payload = Wrong

abbrev pub found_by : Found → ℕ → List ℕ → Found
found_by found tag payload = cond (eqb tag 49) (found_next found payload) found

abbrev pub found_after : Found → List (List ℕ) → Found
found_after found [] = found
found_after found (payload ∷ payloads) = found_after (found_next found payload) payloads
