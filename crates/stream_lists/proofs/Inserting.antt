-- A list in the front of an array, as the code puts an index at its end and a set's members, one after another, before a place.
-- Assumes nothing.
use Prim.Native.Nat.{ℕ, ◌+◌, ◌-◌, ◌^◌, ◌≤◌, ◌<◌}
use mathlib.Core.Bool.{true, false}
use mathlib.Core.List.{List, [], ◌∷◌, ◌++◌, append_assoc, append-nil}
use mathlib.Core.Path.{◌≡◌, refl, sym, ap, ap₂, ◌∙◌}
use native.Mathlib.Nat.{add-zero}
use native.Mathlib.Omega.{arith}
use lib.ListN.{length, take, set, replicate, length-append, length-take}
use lib.Seq.{take_at}
use Rattle.combinators.specs.Members.{member}
use Rattle.combinators.specs.Padding.{pad_to, length_pad_to, store_pad_to}
use Rattle.sets.specs.Sets.{has, lowest, size, rest, members_of}
use Rattle.stream_lists.specs.Insertion.{placed, place_of, opened}
use Rattle.stream_lists.specs.Holding.{Ready}
use Rattle.sets.proofs.Members.{members_next, members_none, members_size, rest_within}
use Rattle.stream_lists.proofs.Opened.{opened_none, opened_length, opened_more, opened_list}
use Rattle.stream_lists.proofs.Placed.{placed_same, placed_absent, placed_there, placed_twice, placed_in, placed_length, place_inside}
use Rattle.stream_lists.proofs.Building.{has_set}

-- ---- an index at the end

module _ (members : List ℕ) (count present index : ℕ) where
  ready_long : (new : ℕ) → Ready members count present index new → length (take count members) ≡ count
  ready_long new r =
      let short : length (take count members) ≤ 64 = simp length-take (omega (arith, r.within)) in
      let all : length members ≡ 64 = ap length r.holds ∙ length_pad_to 64 0 (take count members) short in
      simp length-take (omega (arith, r.within, all))

  ready_member : (new : ℕ) → Ready members count present index new → has present index ≡ member index (take count members)
  ready_member new r = ap (λ (s : ℕ). has s index) r.set ∙ has_set index (take count members)

  module _ (r : Ready members count present index 0) where
    pub add_present : has present index ≡ true
        → (count ≡ length (placed index [] (take count members))) × (members ≡ pad_to 64 0 (placed index [] (take count members)))
    add_present e =
        let same = placed_same index (take count members) (sym (ready_member 0 r) ∙ e) in
        (sym (ready_long 0 r) ∙ ap length (sym same), r.holds ∙ ap (pad_to 64 0) (sym same))

    module _ (e : has present index ≡ false) where
      longer : placed index [] (take count members) ≡ take count members ++ (index ∷ [])
      longer = placed_absent index [] (take count members) (sym (ready_member 0 r) ∙ e)

      pub add_room : count < 64
      add_room =
          let long : length (placed index (members_of 0) (take count members)) ≡ count + 1 =
          ap (λ (l : List ℕ). length (placed index l (take count members))) members_none ∙ ap length longer
          ∙ length-append (take count members) (index ∷ []) ∙ ap (λ (n : ℕ). n + 1) (ready_long 0 r) in
          omega (arith, r.room)

      pub add_absent : (count + 1 ≡ length (placed index [] (take count members)))
          × (set members count index ≡ pad_to 64 0 (placed index [] (take count members)))
      add_absent = (
        sym (ap length longer ∙ length-append (take count members) (index ∷ []) ∙ ap (λ (n : ℕ). n + 1) (ready_long 0 r)),
        ap (λ (l : List ℕ). set l count index) r.holds
            ∙ store_pad_to 64 0 index (take count members) count (ready_long 0 r) add_room
            ∙ ap (pad_to 64 0) (sym longer),
      )

-- ---- the members of a set, before a place

pub record Inserting (a : List ℕ) (count place new : ℕ) (members : List ℕ) (end at left : ℕ) : Type 0 where
  pub done : List ℕ
  pub ends : end ≡ count + length done
  pub reached : at ≡ place + length done
  pub filled : members ≡ opened a count place done
  pub to_come : done ++ members_of left ≡ members_of new
  pub within : left < 2 ^ 64

module _ (a : List ℕ) (count place new : ℕ) (low : place ≤ count) where
  pub inserting_start : new < 2 ^ 64 → Inserting a count place new a count place new
  inserting_start w =
      record {
        done = [];
        ends = sym (add-zero count);
        reached = sym (add-zero place);
        filled = sym (opened_none a count place low);
        to_come = refl;
        within = w;
      }

  module _ (members : List ℕ) (end at left : ℕ) (known : Inserting a count place new members end at left) where
    pub inserting_end : left ≡ 0 → members ≡ opened a count place (members_of new)
    inserting_end e =
        known.filled
        ∙ ap (opened a count place) (sym (append-nil known.done) ∙ ap (λ (l : List ℕ). known.done ++ l) (sym (ap members_of e ∙ members_none)) ∙ known.to_come)

    module _ (more : left ≡ 0 → ⊥) where
      next : members_of left ≡ lowest left ∷ members_of (rest left)
      next = members_next left known.within more

      pub inserting_less : length (members_of (rest left)) < length (members_of left)
      inserting_less = omega (arith, ap length next)

      long : length known.done + length (members_of left) ≡ length (members_of new)
      long = sym (length-append known.done (members_of left)) ∙ ap length known.to_come

      pub inserting_room : count + length (members_of new) ≤ 64 → (at ≤ end) × (end < 64)
      inserting_room room = (
        omega (arith, known.ends, known.reached),
        omega (arith, known.ends, long, ap length next),
      )

      pub inserting_long : length a ≡ 64 → count + length (members_of new) ≤ 64 → length members ≡ 64
      inserting_long sized room =
          ap length known.filled ∙ opened_length a count place known.done low (omega (arith, long, ap length next)) ∙ sized

      pub inserting_more : (index : ℕ) (members' : List ℕ) → length a ≡ 64 → count + length (members_of new) ≤ 64 → index ≡ lowest left
          → members' ≡ opened members end at (index ∷ [])
          → Inserting a count place new members' (end + 1) (at + 1) (rest left)
      inserting_more index members' sized room e f =
          let one : length (known.done ++ (index ∷ [])) ≡ length known.done + 1 = length-append known.done (index ∷ []) in
          record {
            done = known.done ++ (index ∷ []);
            ends = omega (arith, known.ends);
            reached = omega (arith, known.reached);
            filled = f
                ∙ same known.filled known.ends known.reached
                ∙ opened_more a count place index known.done low (omega (arith, long, ap length next));
            to_come = append_assoc known.done (index ∷ []) (members_of (rest left))
                ∙ ap (λ (k : ℕ). known.done ++ (k ∷ members_of (rest left))) e
                ∙ ap (λ (l : List ℕ). known.done ++ l) (sym next)
                ∙ known.to_come;
            within = rest_within left known.within;
          }
        where
          same : members ≡ opened a count place known.done → end ≡ count + length known.done → at ≡ place + length known.done
              → opened members end at (index ∷ [])
              ≡ opened (opened a count place known.done) (count + length known.done) (place + length known.done) (index ∷ [])
          same p q s = rw (p, q, s)

-- ---- both

module _ (members : List ℕ) (count present index new : ℕ) (r : Ready members count present index new) where
  pub ready_first : Ready members count present index 0
  ready_first =
      record {
        within = r.within;
        holds = r.holds;
        set = r.set;
        small = r.small;
        room = omega (
          arith,
          r.room,
          placed_length index (members_of new) (take count members),
          placed_length index (members_of 0) (take count members),
          ap length members_none,
        );
      }

  -- nothing goes before the index
  pub before_nothing : (length' : ℕ) (members' : List ℕ) → new ≡ 0 → length' ≡ length (placed index [] (take count members))
      → members' ≡ pad_to 64 0 (placed index [] (take count members))
      → (length' ≡ length (placed index (members_of new) (take count members))) × (members' ≡ pad_to 64 0 (placed index (members_of new) (take count members)))
  before_nothing length' members' e p q =
      let none : [] ≡ members_of new = sym (ap members_of e ∙ members_none) in (
        p ∙ ap (λ (l : List ℕ). length (placed index l (take count members))) none,
        q ∙ ap (λ (l : List ℕ). pad_to 64 0 (placed index l (take count members))) none,
      )

  module _ (longer : ℕ) (added : List ℕ) (p : longer ≡ length (placed index [] (take count members)))
      (q : added ≡ pad_to 64 0 (placed index [] (take count members))) where
    whole : take longer added ≡ placed index [] (take count members)
    whole =
        ap₂ (λ (n : ℕ) (l : List ℕ). take n l) p q
        ∙ take_at (placed index [] (take count members)) (replicate (64 - length (placed index [] (take count members))) 0)
        (length (placed index [] (take count members))) refl

    pub before_short : (longer ≤ 64) × (length added ≡ 64)
    before_short =
        let short : length (placed index [] (take count members)) ≤ 64 = omega (arith, r.room, placed_length index (members_of new) (take count members)) in
        (omega arith, ap length q ∙ length_pad_to 64 0 (placed index [] (take count members)) short)

    pub before_room : longer + length (members_of new) ≤ 64
    before_room = omega (arith, r.room, placed_length index (members_of new) (take count members))

    module _ (place : ℕ) (e : place ≡ place_of index (take longer added)) where
      found : place ≡ place_of index (placed index [] (take count members))
      found = e ∙ ap (place_of index) whole

      pub before_inside : place ≤ longer
      before_inside = omega (arith, found, place_inside index (placed index [] (take count members)) (placed_in index (take count members)))

      pub before_all : (size' : ℕ) (members' : List ℕ) → size' ≡ size new → members' ≡ opened added longer place (members_of new)
          → (longer + size' ≡ length (placed index (members_of new) (take count members)))
          × (members' ≡ pad_to 64 0 (placed index (members_of new) (take count members)))
      before_all size' members' f g = (
        ap₂ (λ (m n : ℕ). m + n) p (f ∙ sym (members_size new)) ∙ sym (placed_length index (members_of new) (take count members)),
        g
            ∙ same p q found
            ∙ opened_list (placed index [] (take count members)) (members_of new) (place_of index (placed index [] (take count members)))
            (omega (arith, place_inside index (placed index [] (take count members)) (placed_in index (take count members))))
            (omega (arith, before_room))
            ∙ ap (pad_to 64 0) (sym (placed_there index (members_of new) (placed index [] (take count members)) (placed_in index (take count members)))
            ∙ placed_twice index (members_of new) (take count members)),
      )
        where
          same : longer ≡ length (placed index [] (take count members)) → added ≡ pad_to 64 0 (placed index [] (take count members))
              → place ≡ place_of index (placed index [] (take count members))
              → opened added longer place (members_of new)
              ≡ opened (pad_to 64 0 (placed index [] (take count members))) (length (placed index [] (take count members)))
              (place_of index (placed index [] (take count members))) (members_of new)
          same x y z = rw (x, y, z)
