-- JOINING LOOKS AT THE LAYERS OF THE CLOSURE ALONE. Two sets of layers that give a target the same closure, in which each layer has the same
-- embedded layers and rests on the same, give it the same answer of joining and leave the same in the lists, for every row table, however long it may be, and every output room.
-- Assumes nothing.
use Rattle.join_answers.specs.Answer.{joined_units, Joined}
use Rattle.std.specs.Prelude.{ℕ, ◌≡◌, refl, Bool, true, false, cond, ◌&&◌, eqb, ltb, get_or, Err, Ok}
use Rattle.std.proofs.Common.{sym, ◌∙◌, ap, ap₂}
use Rattle.std.proofs.Math.Path.{fun_ext}
use Rattle.combinators.specs.Below.{some}
use Rattle.combinators.specs.Each.{each_below}
use Rattle.combinators.specs.Those.{those_alike}
use Rattle.sets.specs.Sets.{has}
use Rattle.vocabulary.specs.declared.refusal.Refusal.{Refusal}
use Rattle.closure.specs.declared.Layers.{Layers}
use Rattle.closure.specs.Answer.{Closure}
use Rattle.closure.specs.Closures.{named_by, rested_on, closure_of}
use Rattle.rows.specs.Table.{Table, rows_in, layer_of, decoding_of, match_of}
use Rattle.rows.specs.Verdicts.{verdict_of}
use Rattle.assembling.specs.Assemblies.{upper_of, lower_of, is_edge, edges_of}
use Rattle.claims.specs.Claims.{embeds, claimed}
use Rattle.heads.specs.Units.{Frame, frame}
use Rattle.unit_lists.specs.Sequence.{Lists, lists_over}
use Rattle.join_answers.specs.Joining.{own_set, frame_of, Room, units_joined, joined_by, joined_in, joined_of, lists_after}
use Rattle.join_answers.proofs.Cases.{IsOver, units_over, refused, is_over}

module _ (few all : Layers) (closure : ℕ)
    (same : (i : ℕ) → has closure i ≡ true → get_or few.embedded i 0 ≡ get_or all.embedded i 0)
    (own : (i : ℕ) → has closure i ≡ true → rested_on few i ≡ rested_on all i) where
  -- an edge leads down from a layer of the closure
  edge_alike : (edge : ℕ) → is_edge few closure edge ≡ is_edge all closure edge
  edge_alike edge = go (has closure (upper_of edge)) refl
    where
      lower : ℕ → Bool
      lower embedded = ltb (lower_of edge) (upper_of edge) && has embedded (lower_of edge)

      go : (b : Bool) → has closure (upper_of edge) ≡ b → is_edge few closure edge ≡ is_edge all closure edge
      go true p = ap (λ (embedded : ℕ). has closure (upper_of edge) && lower embedded) (same (upper_of edge) p)
      go false p =
          ap (λ (b : Bool). b && lower (get_or few.embedded (upper_of edge) 0)) p
          ∙ sym (ap (λ (b : Bool). b && lower (get_or all.embedded (upper_of edge) 0)) p)

  edges_alike : edges_of few closure ≡ edges_of all closure
  unfolding edges_of
  edges_alike = those_alike (is_edge few closure) (is_edge all closure) 4096 (λ k h. edge_alike k)

  -- and so does a claim
  embeds_alike : embeds few closure ≡ embeds all closure
  embeds_alike = fun_ext (λ upper. fun_ext (λ lower. go upper lower (has closure upper) refl))
    where
      named : ℕ → ℕ → ℕ → Bool → Bool
      named upper lower embedded b = has (named_by b embedded upper) lower

      go : (upper lower : ℕ) (b : Bool) → has closure upper ≡ b → embeds few closure upper lower ≡ embeds all closure upper lower
      go upper lower true p = ap (λ (embedded : ℕ). named upper lower embedded (has closure upper)) (same upper p)
      go upper lower false p =
          ap (named upper lower (get_or few.embedded upper 0)) p ∙ sym (ap (named upper lower (get_or all.embedded upper 0)) p)

  claims_alike : (t : Table) → claimed few closure t ≡ claimed all closure t
  claims_alike t = ap claimed_with embeds_alike
    where
      claimed_with : (ℕ → ℕ → Bool) → ℕ → Bool
      claimed_with names k = some (λ j. names (layer_of t j) (layer_of t k) && eqb (decoding_of t k) (match_of t j)) (rows_in t)

  owns_alike : own_set few closure ≡ own_set all closure
  owns_alike = fun_ext (λ layer. go layer (has closure layer) refl)
    where
      go : (layer : ℕ) (b : Bool) → has closure layer ≡ b → own_set few closure layer ≡ own_set all closure layer
      go layer true p = ap (λ (set : ℕ). cond (has closure layer) set 0) (own layer p)
      go layer false p = ap (λ (b : Bool). cond b (rested_on few layer) 0) p ∙ sym (ap (λ (b : Bool). cond b (rested_on all layer) 0) p)

  frames_alike : (t : Table) → frame_of few closure t ≡ frame_of all closure t
  frames_alike t =
      ap₂ (λ (c : ℕ → Bool) (o : ℕ → ℕ). frame closure (each_below c (rows_in t)) (each_below o 64) (edges_of few closure)) (claims_alike t) owns_alike
      ∙ ap (frame closure (each_below (claimed all closure t) (rows_in t)) (each_below (own_set all closure) 64)) edges_alike

module _ (few all : Layers) (target : ℕ) (same_closure : closure_of few target ≡ closure_of all target)
    (same : (closure : ℕ) → closure_of all target ≡ Ok closure
    → (i : ℕ) → has closure i ≡ true → get_or few.embedded i 0 ≡ get_or all.embedded i 0)
    (own : (closure : ℕ) → closure_of all target ≡ Ok closure → (i : ℕ) → has closure i ≡ true → rested_on few i ≡ rested_on all i)
    (most : ℕ) (t : Table) (room : Room) where
  in_closure : (c : Closure) → closure_of all target ≡ c → joined_in most few t room c ≡ joined_in most all t room c
  in_closure (Ok closure) e =
      ap (λ (f : Frame). joined_by (units_joined t f room) (verdict_of most t closure)) (frames_alike few all closure (same closure e) (own closure e) t)
  in_closure (Err refusal) e = refl

  -- THE SAME ANSWER,
  pub joined_alike : joined_of most few target t room ≡ joined_of most all target t room
  joined_alike = ap (joined_in most few t room) same_closure ∙ in_closure (closure_of all target) refl

  -- what holds of every refusal, and of units over the closure, holds of the answer
  of_answer : (P : Joined → Type 0) → ((closure units rows : ℕ) → closure_of all target ≡ Ok closure → P (joined_units closure units rows))
      → ((refusal : Refusal) → P (Err refusal)) → P (joined_of most all target t room)
  of_answer P with-units with-refusal = go (closure_of all target) refl
    where
      from_over : (closure : ℕ) → closure_of all target ≡ Ok closure → {j : Joined} → IsOver closure j → P j
      from_over closure e (units_over {units} {rows}) = with-units closure units rows e
      from_over closure e (refused {refusal}) = with-refusal refusal

      go : (c : Closure) → closure_of all target ≡ c → P (joined_in most all t room c)
      go (Ok closure) e = from_over closure e (is_over most all t closure room)
      go (Err refusal) e = with-refusal refusal

  -- and the same in the lists.
  pub lists_alike : (before : Lists) → lists_after few t (joined_of most few target t room) before
      ≡ lists_after all t (joined_of most all target t room) before
  lists_alike before =
      ap (λ (j : Joined). lists_after few t j before) joined_alike
      ∙ of_answer (λ j. lists_after few t j before ≡ lists_after all t j before)
      (λ closure units rows e. ap (λ (f : Frame). lists_over t f before) (frames_alike few all closure (same closure e) (own closure e) t))
      (λ refusal. refl)
