-- DEMAND 3 OF WHAT IS COMPUTED, as the call `import` promises it: where every stream that the target rests on has a 2009 stream type the
-- two readings' answers are equal, `identical_answer`; otherwise the 2009 reading's is a refusal with 11 or 12, `always_refused`.
-- Assumes nothing.
use Rattle.std.specs.Prelude.{ℕ, ◌≡◌, true, List, ◌⊎◌, get_or, Err, Ok}
use Rattle.std.proofs.Common.{sym, ◌∙◌, ap, ap₂, subst, inl, inr, arith}
use Rattle.sets.specs.Sets.{has}
use Rattle.vocabulary.specs.declared.stream_types.Reading.{Reading}
use Rattle.vocabulary.specs.declared.stream_types.Reading.TheVariants.{Edition2009, Edition2015}
use Rattle.vocabulary.specs.declared.refusal.Refusal.{Refusal}
use Rattle.es_loop.specs.Answer.{Outcome}
use Rattle.closure.specs.declared.Layers.{Layers}
use Rattle.closure.specs.Answer.{Closure}
use Rattle.closure.specs.Closures.{is_layer, rested_on, closure_of}
use Rattle.closure.specs.Meaning.{RestsOn}
use Rattle.closure.specs.Meaning as Target
use Rattle.closure.proofs.Meant.{closure_meant, closure_only, given_complete}
use Rattle.loop_layers.specs.Closures.{closure_for}
use Rattle.join_answers.specs.Answer.{Joined}
use Rattle.rows.specs.Table.{Table, most_rows}
use Rattle.unit_lists.specs.Sequence.{Lists}
use Rattle.join_answers.specs.Joining.{Room, room_of, joined_in, joined_of, lists_after}
use Rattle.importing.specs.Importing.{import_for}
use Rattle.agreement.specs.Meaning.{Every2009, Otherwise, another_type, no_complete_set, Answer, answer_of, NoSet}
use Rattle.agreement.specs.Entries.{IsAccepted, entries_in}
use Rattle.agreement.proofs.Entries.{accepted_in_2009}
use Rattle.agreement.proofs.Layers.{layers_in_2009, layers_in_2015, same_embedded, has_layer, one_type}
use Rattle.assembling.proofs.Own.{rests_further}
use Rattle.agreement.specs.Closures.{PartOf, own_complete, same_closure, every_kept, Found, found, not_found, find}
use Rattle.agreement.specs.Joined.{joined_alike, lists_alike}
use Rattle.agreement.specs.Computed.{AlwaysRefused, answer_in, layers_in}

-- the same in the layers of an accepted loop
abbrev in_layers : Layers → ℕ → Table → Lists → Answer
in_layers layers target t before =
    let joined : Joined = joined_of most_rows layers target t (room_of before) in
    answer_of (closure_of layers target) joined (lists_after layers t joined before)

in_layers_lem : (reading : Reading) (bytes : List ℕ) → IsAccepted reading bytes → (target : ℕ) (t : Table) (before : Lists)
    → answer_in reading bytes target t before ≡ in_layers (layers_in reading bytes) target t before
in_layers_lem reading bytes e target t before =
    ap
    (λ (o : Outcome).
    let layers : Layers = layers_in reading bytes in
    let joined : Joined = import_for o layers target t (room_of before) in
    answer_of (closure_for o layers target) joined (lists_after layers t joined before))
    e

pub same_answer : {c d : Closure} {j k : Joined} {m n : Lists} → c ≡ d → j ≡ k → m ≡ n → answer_of c j m ≡ answer_of d k n
same_answer {c} {d} {j} {k} {m} {n} p q r = ap₂ (λ (x : Closure) (y : Joined). answer_of x y m) p q ∙ ap (answer_of d k) r

module _ (bytes : List ℕ) (is_accepted : IsAccepted Edition2015 bytes) (target : ℕ) where
  abbrev few : Layers
  few = layers_in Edition2009 bytes

  abbrev all : Layers
  all = layers_in Edition2015 bytes

  part : PartOf few all
  part =
      record {
        in_all = λ i h. layers_in_2015 bytes is_accepted i ((layers_in_2009 bytes is_accepted i).0 h);
        same_embedded = same_embedded bytes is_accepted;
      }

  -- no layer that the target rests on is left out
  kept : Every2009 (entries_in Edition2015 bytes) all target → (j : ℕ) → RestsOn all target j → is_layer all j ≡ true → is_layer few j ≡ true
  kept every j r h =
      let l = has_layer bytes is_accepted h in
      let at_place = l.layer.at_place in
      (layers_in_2009 bytes is_accepted j).1
      (record { place = l.layer.place; entry = l.entry; layer = at_place; type = every.has_type l.layer.place j l.entry r at_place })

  -- joining in the one and in the other, where every layer that the target rests on is in both
  module _ (every : Every2009 (entries_in Edition2015 bytes) all target) where
    closures : closure_of few target ≡ closure_of all target
    closures = same_closure few all part target (kept every)

    same : (closure : ℕ) → closure_of all target ≡ Ok closure → (i : ℕ) → has closure i ≡ true → get_or few.embedded i 0 ≡ get_or all.embedded i 0
    same closure e i h =
        let w = ((given_complete all target closure).0 e).1 in
        let r = (w.members i).0 h in
        same_embedded bytes is_accepted i (kept every i r (w.in_loop i r))

    same_own : {a b : ℕ} → ◌≡◌ {A = Closure} (Ok a) (Ok b) → a ≡ b
    same_own e = cc

    own : (closure : ℕ) → closure_of all target ≡ Ok closure → (i : ℕ) → has closure i ≡ true → rested_on few i ≡ rested_on all i
    own closure e i h =
        let r = (((given_complete all target closure).0 e).1.members i).0 h in
        let same_set = same_closure few all part i (λ j s. kept every j (rests_further all target i j r s)) in
        same_own (sym (own_complete few target closure (closures ∙ e) i h) ∙ same_set ∙ own_complete all target closure e i h)

    -- for tables of any length
    pub same_joined : (most : ℕ) (t : Table) (room : Room) → joined_of most few target t room ≡ joined_of most all target t room
    same_joined most t room = joined_alike few all target closures same own most t room

    pub same_lists : (most : ℕ) (t : Table) (before : Lists) → lists_after few t (joined_of most few target t (room_of before)) before
        ≡ lists_after all t (joined_of most all target t (room_of before)) before
    same_lists most t before = lists_alike few all target closures same own most t (room_of before) before

    alike : (t : Table) (before : Lists) → in_layers few target t before ≡ in_layers all target t before
    alike t before = same_answer closures (same_joined most_rows t (room_of before)) (same_lists most_rows t before)

  -- where the 2009 reading finds no closure, it refuses, whatever the row table and the lists hold
  refused : (refusal : Refusal) → NoSet refusal → closure_of few target ≡ Err refusal → AlwaysRefused bytes target
  refused refusal is e =
      record {
        refusal = refusal;
        is_11_or_12 = is;
        always = λ t before. in_layers_lem Edition2009 bytes (accepted_in_2009 bytes is_accepted) target t before
            ∙ ap
            (λ (c : Closure).
            let joined : Joined = joined_in most_rows few t (room_of before) c in
            answer_of c joined (lists_after few t joined before))
            e;
      }

  -- where it finds one, every stream that the target rests on has a 2009 stream type, and the 2015 reading finds the same
  pub every_2009 : (set : ℕ) → closure_of few target ≡ Ok set → Every2009 (entries_in Edition2015 bytes) all target
  every_2009 set e =
      record { has_type = λ k j x r l. one_type bytes is_accepted ((layers_in_2009 bytes is_accepted j).0 (every_kept few all part target set e j r)) l }

  complete_too : (set : ℕ) → closure_of few target ≡ Ok set → Target.Answers all target (Ok set)
  complete_too set e =
      subst (Target.Answers all target) (sym (same_closure few all part target (kept (every_2009 set e))) ∙ e) (closure_meant all target)

  not_otherwise : (set : ℕ) → closure_of few target ≡ Ok set → Otherwise (entries_in Edition2015 bytes) all target → ⊥
  not_otherwise set e (another_type other) = other (every_2009 set e)
  not_otherwise set e (no_complete_set none) = none set (complete_too set e)

  -- THE IDENTICAL ANSWER,
  pub identical_answer : Every2009 (entries_in Edition2015 bytes) all target → (t : Table) (before : Lists)
      → answer_in Edition2009 bytes target t before ≡ answer_in Edition2015 bytes target t before
  identical_answer every t before =
      in_layers_lem Edition2009 bytes (accepted_in_2009 bytes is_accepted) target t before
      ∙ alike every t before
      ∙ sym (in_layers_lem Edition2015 bytes is_accepted target t before)

  -- or 11 or 12, since the 2009 reading finds no closure.
  pub no_closure : Otherwise (entries_in Edition2015 bytes) all target → (refusal : Refusal) × NoSet refusal × (closure_of few target ≡ Err refusal)
  no_closure = go (find few target)
    where
      go : Found few target → Otherwise (entries_in Edition2015 bytes) all target → (refusal : Refusal) × NoSet refusal × (closure_of few target ≡ Err refusal)
      go (found set e) other = absurd (not_otherwise set e other)
      go (not_found refusal is e) other = (refusal, is, e)

  pub always_refused : Otherwise (entries_in Edition2015 bytes) all target → AlwaysRefused bytes target
  always_refused other = let c = no_closure other in refused c.0 c.1 c.2

  -- One or the other is so.
  pub either_way : Every2009 (entries_in Edition2015 bytes) all target ⊎ Otherwise (entries_in Edition2015 bytes) all target
  either_way = go (find few target) (find all target)
    where
      unlike : {refusal : Refusal} {set : ℕ} → ◌≡◌ {A = Closure} (Err refusal) (Ok set) → ⊥
      unlike e = let z : ◌≡◌ {A = ℕ} 0 1 = cc in omega arith

      go : Found few target → Found all target → Every2009 (entries_in Edition2015 bytes) all target ⊎ Otherwise (entries_in Edition2015 bytes) all target
      go (found set e) f = inl (every_2009 set e)
      go (not_found refusal is e) (found set f) =
          inr (another_type (λ every. unlike (sym e ∙ same_closure few all part target (kept every) ∙ f)))
      go (not_found refusal is e) (not_found later was f) = inr (no_complete_set (λ set a. unlike (sym f ∙ sym (closure_only all target a))))
