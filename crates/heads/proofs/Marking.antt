-- The rows of one unit, from the lowest layer up: all of them looked at one after another, marked, kept and cleared: what is left of the
-- unit, from the marks and the places as they are.
-- Assumes nothing.
use Prim.Native.Nat.{ℕ, zero, suc, ◌+◌, ◌^◌, ◌<◌}
use mathlib.Core.Path.{◌≡◌, refl, sym, ◌∙◌, ap, subst}
use mathlib.Core.Bool.{Bool, true, false, cond, ◌||◌}
use mathlib.Core.List.{List, [], ◌∷◌}
use native.Mathlib.Decide.{ℕ_discrete}
use native.Mathlib.Numerals.{add-one}
use native.Mathlib.Omega.{arith}
use borrow.Author.Tests.{eq-eqb, ne_eqb}
use lib.Dec.{eqb}
use lib.ListN.{length, get_or, set, length-map, length-set}
use lib.Seq.{get_or-set_same, get_or-set_other, sets}
use Rattle.combinators.specs.Lists.{any}
use Rattle.combinators.specs.Members.{member}
use Rattle.sets.specs.Sets.{has, lowest, rest, members_of}
use Rattle.sets.proofs.Laws.{lowest_member}
use Rattle.sets.proofs.Members.{members_next, members_none, lowest_small, rest_member, rest_past, rest_within}
use Rattle.heads.specs.Units.{unit_from}
use Rattle.heads.specs.Judging.{marked, cleared}

pub unit_at : (members rows : List ℕ) (p : ℕ) → p < length members → get_or (unit_from members rows) p 0 ≡ get_or rows (get_or members p 0) 0
unit_at [] rows p h = absurd (omega arith)
unit_at (x ∷ members) rows zero h = refl
unit_at (x ∷ members) rows (suc p) h = unit_at members rows p (omega arith)

pub unit_long : (members rows : List ℕ) → length (unit_from members rows) ≡ length members
unit_long members rows = length-map members (λ layer. get_or rows layer 0)

-- ---- one after another: the members that are left, and the lowest of them

none_left : (rows : List ℕ) (left : ℕ) → left ≡ 0 → unit_from (members_of left) rows ≡ []
none_left rows left e = ap (λ (s : ℕ). unit_from (members_of s) rows) e ∙ ap (λ (l : List ℕ). unit_from l rows) members_none

module _ (left layer : ℕ) (is_lowest : layer ≡ lowest left) (within : left < 2 ^ 64) (some : left ≡ 0 → ⊥) where
  members_taken : members_of left ≡ layer ∷ members_of (rest left)
  members_taken = members_next left within some ∙ ap (λ (l : ℕ). l ∷ members_of (rest left)) (sym is_lowest)

  fewer_left : length (members_of left) ≡ suc (length (members_of (rest left)))
  fewer_left = ap length members_taken

  -- the measure of a walk
  pub less_left : (next : ℕ) → next ≡ rest left → length (members_of next) < length (members_of left)
  less_left next e = let same = ap (λ (s : ℕ). length (members_of s)) e in omega (arith, fewer_left)

  pub is_left : has left layer ≡ true
  is_left = ap (has left) is_lowest ∙ lowest_member left within some

  pub small_layer : layer < 64
  small_layer = omega (arith, lowest_small left within some)

  rows_taken : (rows : List ℕ) → unit_from (members_of left) rows ≡ get_or rows layer 0 ∷ unit_from (members_of (rest left)) rows
  rows_taken rows = ap (λ (l : List ℕ). unit_from l rows) members_taken

-- ---- whether one is marked

module _ (rows : List ℕ) (own : ℕ) (used : List Bool) where
  abbrev is_used : ℕ → Bool
  is_used row = get_or used row false

  pub record Looking (left : ℕ) : Type 0 where
    pub within : left < 2 ^ 64
    pub part : (layer : ℕ) → has left layer ≡ true → has own layer ≡ true
    pub same : any is_used (unit_from (members_of left) rows) ≡ any is_used (unit_from (members_of own) rows)

  pub looking_start : own < 2 ^ 64 → Looking own
  looking_start h = record { within = h; part = λ layer e. e; same = refl }

  module _ (left : ℕ) (known : Looking left) where
    pub looking_end : left ≡ 0 → false ≡ any is_used (unit_from (members_of own) rows)
    looking_end e = sym (ap (any is_used) (none_left rows left e)) ∙ known.same

    module _ (some : left ≡ 0 → ⊥) (layer : ℕ) (is_lowest : layer ≡ lowest left) where
      pub here_looked : has own layer ≡ true
      here_looked = known.part layer (is_left left layer is_lowest known.within some)

      tested : any is_used (unit_from (members_of own) rows) ≡ (get_or used (get_or rows layer 0) false || any is_used (unit_from (members_of (rest left)) rows))
      tested = sym known.same ∙ ap (any is_used) (rows_taken left layer is_lowest known.within some rows)

      pub used_here : get_or used (get_or rows layer 0) false ≡ true → true ≡ any is_used (unit_from (members_of own) rows)
      used_here e = sym (tested ∙ ap (λ (b : Bool). b || any is_used (unit_from (members_of (rest left)) rows)) e)

      pub unused_here : get_or used (get_or rows layer 0) false ≡ false → (next : ℕ) → next ≡ rest left → Looking next
      unused_here e next is-next =
          rw is-next
          (record {
            within = rest_within left known.within;
            part = λ l m. known.part l (rest_member left l m);
            same = sym (tested ∙ ap (λ (b : Bool). b || any is_used (unit_from (members_of (rest left)) rows)) e);
          })

-- ---- marked and kept, and taken out again

module _ (none : ℕ) (rows₀ : List ℕ) (own place : ℕ) (used₀ : List Bool) (kept₀ : List ℕ) where
  pub record Keeping (rows : List ℕ) (used : List Bool) (kept : List ℕ) (left at : ℕ) : Type 0 where
    pub within : left < 2 ^ 64
    pub part : (layer : ℕ) → has left layer ≡ true → has own layer ≡ true
    pub long_used : length used ≡ length used₀
    pub long_kept : length kept ≡ length kept₀
    pub end : at + length (members_of left) ≡ place + length (members_of own)
    pub as_before : (layer : ℕ) → has left layer ≡ true → get_or rows layer 0 ≡ get_or rows₀ layer 0
    pub blank : cleared none (members_of left) rows ≡ cleared none (members_of own) rows₀
    pub marks : marked (unit_from (members_of left) rows₀) used ≡ marked (unit_from (members_of own) rows₀) used₀
    pub content : sets kept at (unit_from (members_of left) rows₀) ≡ sets kept₀ place (unit_from (members_of own) rows₀)

  pub keeping_start : own < 2 ^ 64 → Keeping rows₀ used₀ kept₀ own place
  keeping_start h =
      record {
        within = h;
        part = λ layer e. e;
        long_used = refl;
        long_kept = refl;
        end = refl;
        as_before = λ layer e. refl;
        blank = refl;
        marks = refl;
        content = refl;
      }

  module _ (rows : List ℕ) (used : List Bool) (kept : List ℕ) (left at : ℕ) (known : Keeping rows used kept left at) where
    module _ (some : left ≡ 0 → ⊥) (layer : ℕ) (is_lowest : layer ≡ lowest left) where
      pub row_before : get_or rows layer 0 ≡ get_or rows₀ layer 0
      row_before = known.as_before layer (is_left left layer is_lowest known.within some)

      pub here_own : has own layer ≡ true
      here_own = known.part layer (is_left left layer is_lowest known.within some)

      pub place_inside : at < place + length (members_of own)
      place_inside = omega (arith, known.end, fewer_left left layer is_lowest known.within some)

      pub keeping_more : (next : ℕ) → next ≡ rest left
          → Keeping (set rows layer none) (set used (get_or rows layer 0) true) (set kept at (get_or rows layer 0)) next (at + 1)
      keeping_more next is-next =
          subst (λ (row : ℕ). Keeping (set rows layer none) (set used row true) (set kept at row) next (at + 1)) (sym row_before)
          (subst (λ (s : ℕ). Keeping (set rows layer none) (set used (get_or rows₀ layer 0) true) (set kept at (get_or rows₀ layer 0)) s (at + 1)) (sym is-next)
          kept_here)
        where
          taken : members_of left ≡ layer ∷ members_of (rest left)
          taken = members_taken left layer is_lowest known.within some

          rows_here : unit_from (members_of left) rows₀ ≡ get_or rows₀ layer 0 ∷ unit_from (members_of (rest left)) rows₀
          rows_here = rows_taken left layer is_lowest known.within some rows₀

          kept_here : Keeping (set rows layer none) (set used (get_or rows₀ layer 0) true) (set kept at (get_or rows₀ layer 0)) (rest left) (at + 1)
          kept_here =
              record {
                within = rest_within left known.within;
                part = λ l m. known.part l (rest_member left l m);
                long_used = length-set used (get_or rows₀ layer 0) true ∙ known.long_used;
                long_kept = length-set kept at (get_or rows₀ layer 0) ∙ known.long_kept;
                end = omega (arith, known.end, fewer_left left layer is_lowest known.within some);
                as_before = λ l m.
                    get_or-set_other rows layer l none 0 (λ e. (let rise = rest_past left l m in omega arith))
                    ∙ known.as_before l (rest_member left l m);
                blank = sym (ap (λ (l : List ℕ). cleared none l rows) taken) ∙ known.blank;
                marks = sym (ap (λ (l : List ℕ). marked l used) rows_here) ∙ known.marks;
                content =
                    ap (λ (n : ℕ). sets (set kept at (get_or rows₀ layer 0)) n (unit_from (members_of (rest left)) rows₀)) (add-one at)
                    ∙ sym (ap (sets kept at) rows_here)
                    ∙ known.content;
              }

    module _ (e : left ≡ 0) where
      no_member : members_of left ≡ []
      no_member = ap members_of e ∙ members_none

      pub all_cleared : rows ≡ cleared none (members_of own) rows₀
      all_cleared = sym (ap (λ (l : List ℕ). cleared none l rows) no_member) ∙ known.blank

      pub all_marked : used ≡ marked (unit_from (members_of own) rows₀) used₀
      all_marked = sym (ap (λ (l : List ℕ). marked (unit_from l rows₀) used) no_member) ∙ known.marks

      pub all_kept : kept ≡ sets kept₀ place (unit_from (members_of own) rows₀)
      all_kept = sym (ap (λ (l : List ℕ). sets kept at (unit_from l rows₀)) no_member) ∙ known.content

-- what stands at a place once some layers are cleared, and that there are as many
pub cleared_at : (none : ℕ) (members rows : List ℕ) (i : ℕ) → i < length rows
    → get_or (cleared none members rows) i 0 ≡ cond (member i members) none (get_or rows i 0)
cleared_at none [] rows i h = refl
cleared_at none (layer ∷ members) rows i h =
    cleared_at none members (set rows layer none) i (subst (λ (n : ℕ). i < n) (sym (length-set rows layer none)) h)
    ∙ go (ℕ_discrete i layer)
  where
    either : (b : Bool) → cond b none none ≡ none
    either true = refl
    either false = refl

    go : Dec (i ≡ layer)
        → cond (member i members) none (get_or (set rows layer none) i 0) ≡ cond (eqb i layer || member i members) none (get_or rows i 0)
    go (yes e) =
        rw (eq-eqb i layer e)
        (ap (λ (x : ℕ). cond (member i members) none x)
        (ap (λ (j : ℕ). get_or (set rows j none) i 0) (sym e) ∙ get_or-set_same rows i none 0 h) ∙ either (member i members))
    go (no e) =
        rw (ne_eqb i layer e) (ap (λ (x : ℕ). cond (member i members) none x) (get_or-set_other rows layer i none 0 e))

pub length_cleared : (none : ℕ) (members rows : List ℕ) → length (cleared none members rows) ≡ length rows
length_cleared none [] rows = refl
length_cleared none (layer ∷ members) rows = length_cleared none members (set rows layer none) ∙ length-set rows layer none
