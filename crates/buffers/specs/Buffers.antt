-- Lists in a buffer that a caller lends: what it holds once a list stands at its front, or from a place on.
-- A call that refuses writes nothing, and `over [] old` is `old`: 'every output buffer is untouched'.
-- Assumes nothing.
use Rattle.std.specs.Prelude.{ℕ, ◌+◌, min, List, ◌++◌, ◌≡◌, length, drop}
use Rattle.std.proofs.lemmas.List.Edits.{sets}

-- A list over the front of a buffer that has room for it: 'the room beyond what was written is untouched too'.
abbrev pub over : {A : Type 0} → List A → List A → List A
over list old = list ++ drop (length list) old

-- What a function promises that lays a list into a buffer from a place on: the place after the list, or the end of the buffer where that
-- comes first; and the whole content of the buffer, in which each element was stored at its place, as far as there is room (`sets`).
pub record Laid {A : Type 0} (old : List A) (at : ℕ) (list : List A) (next : ℕ) (new : List A) : Type 0 where
  pub place : next ≡ min (length old) (at + length list)
  pub content : new ≡ sets old at list
