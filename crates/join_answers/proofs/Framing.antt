-- The frame that joining makes over a closure and a table is one: `framed`.
-- Assumes nothing.
use Prim.Native.Nat.{ℕ}
use mathlib.Core.Bool.{Bool, false, cond}
use mathlib.Core.Path.{refl, ◌∙◌, ap}
use Rattle.combinators.specs.Each.{length_each, each_at}
use Rattle.closure.specs.declared.Layers.{Layers}
use Rattle.closure.specs.Closures.{rested_on}
use Rattle.closure.proofs.Meant.{below_64}
use Rattle.rows.specs.Table.{Table, rows_in}
use Rattle.claims.specs.Claims.{claimed}
use Rattle.heads.specs.Orderly.{Closed, Framed}
use Rattle.join_answers.specs.Joining.{own_set, frame_of}

pub framed : (layers : Layers) (target closure : ℕ) (t : Table) → Closed layers target closure → Framed layers closure t (frame_of layers closure t)
framed layers target closure t closed_over =
    record {
      over_closure = refl;
      marks = λ k h. each_at (claimed layers closure t) (rows_in t) k false h;
      sets_long = length_each (own_set layers closure) 64;
      sets = λ layer m.
          each_at (own_set layers closure) 64 layer 0
          (below_64 layers target closed_over.here layer ((closed_over.whole.members layer).0 m))
          ∙ ap (λ (b : Bool). cond b (rested_on layers layer) 0) m;
      edges_listed = refl;
    }
