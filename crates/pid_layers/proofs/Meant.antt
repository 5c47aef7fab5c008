-- The laws that join the table to what stands at a PID, both ways.
-- Assumes nothing.
use Prim.Native.Nat.{ℕ, zero, suc, ◌<◌}
use mathlib.Core.Path.{◌≡◌, refl, sym, ap, subst, ◌∙◌}
use mathlib.Core.Bool.{Bool, true, false, cond, true≢false}
use mathlib.Core.List.{List}
use mathlib.Core.Logic.{⊎_elim}
use native.Mathlib.Decide.{dec_lt}
use native.Mathlib.Nat.{not-suc-le-zero, eq-or-lt_of_le}
use native.Mathlib.Omega.{arith}
use lib.ListN.{length, get_or, set, replicate, length-set, length-replicate}
use lib.Seq.{get_or-set_same, get_or-set_other}
use Rattle.sets.specs.Sets.{has}
use Rattle.pid_layers.specs.PidLayers.{pids, tabled, Has, Stands, no_layer_lem, of_layer_lem}

pub either_same : {A : Type 0} {a b : A} (t : Bool) → a ≡ b → cond t a b ≡ b
either_same true e = e
either_same false e = refl

pub blank_long : length {A = ℕ} (replicate pids 255) ≡ pids
blank_long = length-replicate {A = ℕ} pids 255

module _ (table : List ℕ) (present : ℕ) (column : List ℕ) where
  pub tabled_long : (n : ℕ) → length (tabled table present column n) ≡ length table
  tabled_long zero = refl
  tabled_long (suc n) = go (tabled_long n) (has present n)
    where
      go : length (tabled table present column n) ≡ length table → (t : Bool)
          → length (cond t (set (tabled table present column n) (get_or column n 0) n) (tabled table present column n)) ≡ length table
      go e true = length-set (tabled table present column n) (get_or column n 0) n ∙ e
      go e false = e

  module _ (pid : ℕ) (inside : pid < length table) where
    -- one index more, which has not this PID
    one_more : {n v : ℕ} → (Has present column pid n → ⊥) → Stands table present column pid n v → Stands table present column pid (suc n) v
    one_more {n} f (no_layer_lem none) =
        no_layer_lem (λ i l h. ⊎_elim (λ (e : i ≡ n). f (subst (Has present column pid) e h)) (λ (s : i < n). none i s h) (eq-or-lt_of_le (omega arith)))
    one_more {n} f (of_layer_lem {index = index} l h last) =
        of_layer_lem {index = index} (omega arith) h
        (λ i above m g. ⊎_elim (λ (e : i ≡ n). f (subst (Has present column pid) e g)) (λ (s : i < n). last i above s g) (eq-or-lt_of_le (omega arith)))

    -- the table has what is meant
    pub table_meant : (n : ℕ) → Stands table present column pid n (get_or (tabled table present column n) pid 0)
    table_meant zero = no_layer_lem (λ i l h. absurd (not-suc-le-zero l))
    table_meant (suc n) = go (table_meant n) (has present n) refl
      where
        equal : Dec (get_or column n 0 < pid) → Dec (pid < get_or column n 0) → Dec (get_or column n 0 ≡ pid)
        equal (yes s) d = no (λ e. omega arith)
        equal (no s) (yes d) = no (λ e. omega arith)
        equal (no s) (no d) = yes (omega arith)

        at : Stands table present column pid n (get_or (tabled table present column n) pid 0) → has present n ≡ true → Dec (get_or column n 0 ≡ pid) → Stands table present column pid (suc n) (get_or (set (tabled table present column n) (get_or column n 0) n) pid 0)
        at s t (yes e) =
            let long = tabled_long n in
            let here : get_or (set (tabled table present column n) (get_or column n 0) n) pid 0 ≡ n =
            ap (λ (k : ℕ). get_or (set (tabled table present column n) k n) pid 0) e ∙ get_or-set_same (tabled table present column n) pid n 0 (omega arith) in
            subst (Stands table present column pid (suc n)) (sym here)
            (of_layer_lem {index = n} (omega arith) (record { there = t; its_pid = e }) (λ i above m g. absurd (omega arith)))
        at s t (no f) =
            subst (Stands table present column pid (suc n))
            (sym (get_or-set_other (tabled table present column n) (get_or column n 0) pid n 0 (λ e. f (sym e))))
            (one_more (λ h. f h.its_pid) s)

        go : Stands table present column pid n (get_or (tabled table present column n) pid 0) → (t : Bool) → has present n ≡ t
            → Stands table present column pid (suc n) (get_or (cond t (set (tabled table present column n) (get_or column n 0) n) (tabled table present column n)) pid 0)
        go s true t = at s t (equal (dec_lt (get_or column n 0) pid) (dec_lt pid (get_or column n 0)))
        go s false t = one_more (λ h. true≢false (sym h.there ∙ t)) s

    -- and nothing else
    same : {n v w : ℕ} → Stands table present column pid n v → Stands table present column pid n w → v ≡ w
    same (no_layer_lem none) (no_layer_lem other) = refl
    same (no_layer_lem none) (of_layer_lem l h last) = absurd (none _ l h)
    same (of_layer_lem l h last) (no_layer_lem none) = absurd (none _ l h)
    same (of_layer_lem {index = i} l h last) (of_layer_lem {index = j} m g end) = go (dec_lt i j) (dec_lt j i)
      where
        go : Dec (i < j) → Dec (j < i) → i ≡ j
        go (yes s) d = absurd (last j s m g)
        go (no s) (yes d) = absurd (end i d l h)
        go (no s) (no d) = omega arith

    pub table_only : {n v : ℕ} → Stands table present column pid n v → v ≡ get_or (tabled table present column n) pid 0
    table_only {n} s = same s (table_meant n)
