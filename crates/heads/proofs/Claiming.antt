-- The walk over the heads: what is known after some rows of the table, and what another row adds.
-- Assumes nothing.
use Prim.Native.Nat.{ℕ, suc, ◌+◌, ◌≤◌, ◌<◌}
use mathlib.Core.Path.{◌≡◌, refl, sym, ◌∙◌, ap, subst}
use mathlib.Core.Bool.{Bool, true, false, ◌&&◌, ◌||◌, or-true, or-false, true≢false}
use mathlib.Core.List.{List, [], ◌∷◌, ◌++◌, append-nil}
use native.Mathlib.Omega.{arith}
use native.Mathlib.Decide.{ℕ_discrete}
use borrow.Author.Tests.{eq-eqb, ne_eqb}
use borrow.Author.Count.{below_more}
use lib.Dec.{eqb}
use lib.ListN.{length, get_or, set, take, drop, length-append, length-set}
use lib.Seq.{slice, sets, get_or-set_same, get_or-set_other, append_snoc, length-sets, length-take-le, sets-eq, take_at}
use Rattle.combinators.specs.Below.{count, count_more, count_same}
use Rattle.combinators.proofs.Seeking.{seek_here, seek_end}
use Rattle.combinators.specs.Lists.{any, any_same}
use Rattle.combinators.specs.Members.{member, member_last}
use Rattle.combinators.specs.Once.{Small}
use Rattle.rows.specs.Table.{Table, rows_in}
use Rattle.sets.specs.Sets.{members_of}
use Rattle.claims.specs.Marks.{Stands}
use Rattle.heads.specs.declared.Judged.{Judged}
use Rattle.heads.specs.Units.{Frame, frame, is_head, own_of, assembly_of, unit_of, rows_below, unpaired, shares, first_unpaired, first_shared}
use Rattle.heads.specs.Judging.{Placed, Whole, marked, Kept, Judges}
use Rattle.heads.proofs.Gathers.{gathered_more, gathered_same}
use Rattle.heads.proofs.Tested.{is_unpaired, no_head}
use Rattle.heads.proofs.Kept.{unit_length, unit_small, kept_unit, kept_inside, complete_at, rows_fit}

-- ---- the marks: below a limit they stand at the members of a list and nowhere else

pub record MarkedAt (limit : ℕ) (rows : List ℕ) (marks : List Bool) : Type 0 where
  pub long : limit ≤ length marks
  pub at : (k : ℕ) → k < limit → get_or marks k false ≡ member k rows

module _ (limit : ℕ) where
  mark_one : (rows : List ℕ) (marks : List Bool) (row : ℕ) → MarkedAt limit rows marks → row < limit → MarkedAt limit (rows ++ row ∷ []) (set marks row true)
  mark_one rows marks row known small =
      record {
        long = subst (λ (n : ℕ). limit ≤ n) (sym (length-set marks row true)) known.long;
        at = λ k h. go k h (ℕ_discrete k row) ∙ sym (member_last k row rows);
      }
    where
      go : (k : ℕ) → k < limit → Dec (k ≡ row) → get_or (set marks row true) k false ≡ member k rows || eqb k row
      go k h (yes e) =
          rw (e, eq-eqb row row refl)
          (get_or-set_same marks row true false (omega (arith, known.long)) ∙ sym (or-true (member row rows)))
      go k h (no e) =
          get_or-set_other marks row k true false e ∙ known.at k h
          ∙ sym (ap (λ (b : Bool). member k rows || b) (ne_eqb k row e) ∙ or-false (member k rows))

  mark_all : (unit rows : List ℕ) (marks : List Bool) → MarkedAt limit rows marks → Small limit unit → MarkedAt limit (rows ++ unit) (marked unit marks)
  mark_all [] rows marks known small = subst (λ (l : List ℕ). MarkedAt limit l marks) (sym (append-nil rows)) known
  mark_all (row ∷ unit) rows marks known small =
      subst (λ (l : List ℕ). MarkedAt limit l (marked unit (set marks row true))) (append_snoc rows row unit)
      (mark_all unit (rows ++ row ∷ []) (set marks row true) (mark_one rows marks row known (small 0 (omega arith)))
      (λ p h. small (suc p) (omega arith)))

pub length_marked : (unit : List ℕ) (marks : List Bool) → length (marked unit marks) ≡ length marks
length_marked [] marks = refl
length_marked (row ∷ unit) marks = length_marked unit (set marks row true) ∙ length-set marks row true

-- ---- the walk: the rows of the units of the heads so far stand one after another, each is marked, and for each head it is noted where its unit starts

pub record Walked (t : Table) (f : Frame) (k units place : ℕ) (used : List Bool) (kept places : List ℕ) : Type 0 where
  pub within : k ≤ rows_in t
  pub paired : (j : ℕ) → j < k → unpaired t f j ≡ false
  pub apart : (j : ℕ) → j < k → shares t f j ≡ false
  pub counted : units ≡ count (is_head t f) k
  pub next : place ≡ length (rows_below t f k)
  pub rows : take place kept ≡ rows_below t f k
  pub marks : MarkedAt (rows_in t) (rows_below t f k) used
  pub noted : (j : ℕ) → j < k → is_head t f j ≡ true → get_or places j 0 ≡ length (rows_below t f j)
  pub room : rows_in t ≤ length kept
  pub room_places : rows_in t ≤ length places

pub walked_start : (t : Table) (f : Frame) (before used : List Bool) (kept places : List ℕ) → Stands (rows_in t) (λ _. false) before used
    → rows_in t ≤ length before → rows_in t ≤ length kept → rows_in t ≤ length places → Walked t f 0 0 0 used kept places
walked_start t f before used kept places clear long room room_places =
    record {
      within = omega arith;
      paired = λ j h. absurd (omega arith);
      apart = λ j h. absurd (omega arith);
      counted = refl;
      next = refl;
      rows = refl;
      marks = record { long = omega (arith, clear.as_long); at = clear.at };
      noted = λ j h. absurd (omega arith);
      room = room;
      room_places = room_places;
    }

module _ (t : Table) (f : Frame) (k units place : ℕ) (used : List Bool) (kept places : List ℕ) (known : Walked t f k units place used kept places)
    (inside : k < rows_in t) where
  -- a row that is no head
  pub walked_other : is_head t f k ≡ false → Walked t f (k + 1) units place used kept places
  walked_other m =
      let same = sym (gathered_same (unit_of t f) (is_head t f) k m) in
      record {
        within = omega arith;
        paired = below_more _ _ known.paired (no_head t f k m);
        apart = below_more _ _ known.apart (ap (λ (b : Bool). b && any (λ row. member row (rows_below t f k)) (unit_of t f k)) m);
        counted = known.counted ∙ sym (count_same (is_head t f) k m);
        next = known.next ∙ ap length same;
        rows = known.rows ∙ same;
        marks = subst (λ (l : List ℕ). MarkedAt (rows_in t) l used) same known.marks;
        noted = below_more _ _ known.noted (λ head. absurd (true≢false (sym head ∙ m)));
        room = known.room;
        room_places = known.room_places;
      }

  module _ (m : is_head t f k ≡ true) where
    -- a head with no assembly
    pub no_assembly : (assembly_of t f k).complete ≡ false → k ≡ first_unpaired t f
    no_assembly e = seek_here (unpaired t f) (rows_in t) k inside known.paired (is_unpaired t f k m false e)

    -- a head with one
    module _ (whole : Whole t f) (e : (assembly_of t f k).complete ≡ true) where
      pub chosen : Placed (own_of t f k) (assembly_of t f k).rows (length used)
      chosen =
          record {
            small = whole.small k inside m;
            row = λ layer o. (let r = whole.row k layer inside m e o in omega (arith, known.marks.long));
          }

      paired_on : (j : ℕ) → j < k + 1 → unpaired t f j ≡ false
      paired_on = below_more _ _ known.paired (is_unpaired t f k m true e)

      -- which sets the layers rest on makes no difference to that
      pub paired_alone : (j : ℕ) → j < k + 1 → unpaired t (frame f.closure f.claimed [] f.edges) j ≡ false
      paired_alone = paired_on

      -- what the marks say is what the definition asks
      shares_is : any (λ row. get_or used row false) (unit_of t f k) ≡ shares t f k
      shares_is =
          any_same (λ row. get_or used row false) (λ row. member row (rows_below t f k)) 0 (unit_of t f k)
          (λ p h. known.marks.at (get_or (unit_of t f k) p 0) (unit_small t f whole k inside m e p h))
          ∙ sym (ap (λ (b : Bool). b && any (λ row. member row (rows_below t f k)) (unit_of t f k)) m)

      -- one that shares a row is the first that does
      pub is_shared : true ≡ any (λ row. get_or used row false) (unit_of t f k) → k ≡ first_shared t f
      is_shared s = seek_here (shares t f) (rows_in t) k inside known.apart (sym (s ∙ shares_is))

      -- one that shares none
      module _ (unshared : false ≡ any (λ row. get_or used row false) (unit_of t f k)) where
        apart_on : (j : ℕ) → j < k + 1 → shares t f j ≡ false
        apart_on = below_more _ _ known.apart (sym (unshared ∙ shares_is))

        rows_more : rows_below t f (k + 1) ≡ rows_below t f k ++ unit_of t f k
        rows_more = gathered_more (unit_of t f) (is_head t f) k m

        next_is : place + length (unit_of t f k) ≡ length (rows_below t f (k + 1))
        next_is =
            ap (λ (n : ℕ). n + length (unit_of t f k)) known.next
            ∙ sym (ap length rows_more ∙ length-append (rows_below t f k) (unit_of t f k))

        -- there is room for it
        pub unit_fits : place + length (unit_of t f k) ≤ rows_in t
        unit_fits = omega (arith, next_is, rows_fit t f whole (k + 1) (omega arith) paired_on apart_on)

        unit_room : place + length (unit_of t f k) ≤ length kept
        unit_room = omega (arith, unit_fits, known.room)

        pub members_room : place + length (members_of (own_of t f k)) ≤ length kept
        members_room = subst (λ (n : ℕ). place + n ≤ length kept) (unit_length t f k) unit_room

        laid : (after : List ℕ) → after ≡ sets kept place (unit_of t f k) → take (place + length (unit_of t f k)) after ≡ rows_below t f (k + 1)
        laid after is =
            ap (take (place + length (unit_of t f k))) (is ∙ sets-eq (unit_of t f k) kept place unit_room)
            ∙ take_at (take place kept ++ unit_of t f k) (drop (place + length (unit_of t f k)) kept) (place + length (unit_of t f k))
            (length-append (take place kept) (unit_of t f k)
            ∙ ap (λ (n : ℕ). n + length (unit_of t f k)) (length-take-le place kept (omega (arith, unit_room))))
            ∙ ap (λ (l : List ℕ). l ++ unit_of t f k) known.rows
            ∙ sym rows_more

        note : (j : ℕ) → j < k + 1 → Dec (j ≡ k) → is_head t f j ≡ true → get_or (set places k place) j 0 ≡ length (rows_below t f j)
        note j h (yes e) head = rw e (get_or-set_same places k place 0 (omega (arith, known.room_places)) ∙ known.next)
        note j h (no e) head = get_or-set_other places k j place 0 e ∙ known.noted j (omega arith) head

        pub walked_head : (used' : List Bool) (kept' : List ℕ) (size : ℕ) → used' ≡ marked (unit_of t f k) used → kept' ≡ sets kept place (unit_of t f k)
            → size ≡ length (unit_of t f k) → Walked t f (k + 1) (units + 1) (place + size) used' kept' (set places k place)
        walked_head used' kept' size is-used is-kept is-size =
            rw is-size
            (record {
              within = omega arith;
              paired = paired_on;
              apart = apart_on;
              counted = ap (λ (n : ℕ). n + 1) known.counted ∙ sym (count_more (is_head t f) k m);
              next = next_is;
              rows = laid kept' is-kept;
              marks = subst (λ (l : List ℕ). MarkedAt (rows_in t) l used') (sym rows_more)
                  (subst (MarkedAt (rows_in t) (rows_below t f k ++ unit_of t f k)) (sym is-used)
                  (mark_all (rows_in t) (unit_of t f k) (rows_below t f k) used known.marks (unit_small t f whole k inside m e)));
              noted = λ j h. note j h (ℕ_discrete j k);
              room = subst (λ (n : ℕ). rows_in t ≤ n) (sym (ap length is-kept ∙ length-sets kept place (unit_of t f k))) known.room;
              room_places = subst (λ (n : ℕ). rows_in t ≤ n) (sym (length-set places k place)) known.room_places;
            })

-- ---- the ends of the walk

module _ (t : Table) (f : Frame) (r : Judged) (kept places : List ℕ) where
  -- at a head with no assembly
  pub stopped : r.unpaired < rows_in t → r.unpaired ≡ first_unpaired t f → Judges t f r kept places
  stopped inside e =
      record {
        no_assembly = e;
        two_units = λ h. absurd (omega arith);
        counted = λ h s. absurd (omega arith);
        units_kept = λ h s. absurd (omega arith);
      }

  -- at one that shares a row
  pub stopped_sharing : r.unpaired ≡ first_unpaired t f → r.shared < rows_in t → r.shared ≡ first_shared t f → Judges t f r kept places
  stopped_sharing e inside s =
      record {
        no_assembly = e;
        two_units = λ h. s;
        counted = λ h q. absurd (omega arith);
        units_kept = λ h q. absurd (omega arith);
      }

  -- past the last row
  pub walked_end : Whole t f → (k place : ℕ) (used : List Bool) → Walked t f k r.units place used kept places → rows_in t ≤ k → r.unpaired ≡ rows_in t
      → r.shared ≡ rows_in t → Judges t f r kept places
  walked_end whole k place used known h e s =
      record {
        no_assembly = e ∙ seek_end (unpaired t f) (rows_in t) (rows_in t) refl (λ j l. known.paired j (omega arith));
        two_units = λ q. s ∙ seek_end (shares t f) (rows_in t) (rows_in t) refl (λ j l. known.apart j (omega arith));
        counted = λ q p. known.counted ∙ ap (count (is_head t f)) all;
        units_kept = λ q p. each;
      }
    where
      all : k ≡ rows_in t
      all = omega (arith, known.within)

      front : take (length (rows_below t f k)) kept ≡ rows_below t f k
      front = ap (λ (n : ℕ). take n kept) (sym known.next) ∙ known.rows

      fits : length (rows_below t f k) ≤ length kept
      fits = omega (arith, rows_fit t f whole k known.within known.paired known.apart, known.room)

      each : Kept t f kept places
      each =
          record {
            noted = known.room_places;
            inside = λ j l m.
                (let at = known.noted j (omega arith) m in omega (arith, kept_inside t f k j kept front (omega arith) m fits));
            unit = λ j l m.
                ap (λ (n : ℕ). slice n (n + length (unit_of t f j)) kept) (known.noted j (omega arith) m)
                ∙ kept_unit t f k j kept front (omega arith) m;
            rows = λ j l m. unit_small t f whole j l m (complete_at t f whole k known.within known.paired j (omega arith) m);
          }
