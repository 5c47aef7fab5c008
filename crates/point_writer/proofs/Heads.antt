-- What stands before the points: its bytes.
-- Assumes nothing.
use Prim.Native.Nat.{ℕ, zero, suc, ◌+◌, ◌*◌, ◌/◌, ◌%◌, ◌≤◌}
use mathlib.Core.Path.{◌≡◌, refl, sym, ap, ap₂, ◌∙◌}
use mathlib.Core.List.{List, [], ◌∷◌, ◌++◌, map, append-nil}
use native.Mathlib.Omega.{arith}
use lib.ListN.{length, take, drop, length-drop, take-append-drop}
use Rattle.combinators.specs.Lists.{gather}
use Rattle.syntax.specs.Table.{AreBytes, write_table}
use Rattle.syntax.specs.Named.{read_by, write_by}
use Rattle.syntax.proofs.Number.{drop_bytes}
use Rattle.syntax.proofs.Laws.{write_read, read_take}
use Rattle.syntax.proofs.Equations.{each}
use Rattle.descriptor_heads.proofs.Heads.{head_written}
use Rattle.operation_points.specs.Tables.{profiles_count, profile, points_count}
use Rattle.point_weights.specs.Rows.{twelves}
use Rattle.point_writer.specs.Layout.{extension_tag, head_bytes, before_points}

-- ---- the profiles, each by the bytes that it has

profile_again : (l : List ℕ) → AreBytes l → 12 ≤ length l → write_by profile (read_by profile (take 12 l)) ≡ take 12 l
profile_again l b long =
    ap (write_table profile) (read_take profile l) ∙ write_read {t = profile} (record { whole = refl; fixed_fit = refl }) l b long refl refl

pub profiles_again : (n : ℕ) (l : List ℕ) → AreBytes l → length l ≡ n * 12 → gather (write_by profile) (map (read_by profile) (twelves n l)) ≡ l
profiles_again zero [] b e = refl
profiles_again zero (x ∷ l) b e = absurd (omega arith)
profiles_again (suc n) l b e =
    ap₂ (λ (x y : List ℕ). x ++ y) (profile_again l b (omega arith))
    (profiles_again n (drop 12 l) (drop_bytes 12 l b) (length-drop 12 l ∙ omega arith))
    ∙ take-append-drop 12 l

-- ---- all of it

pub head_in : (profiles : List ℕ) (points : ℕ) → AreBytes profiles → length profiles % 12 ≡ 0
    → write_table profiles_count (length profiles / 12 ∷ []) ++ (profiles ++ write_table points_count (points ∷ [])) ≡ head_bytes profiles points
unfolding head_bytes
head_in profiles points b whole =
    ap₂ (λ (x y : List ℕ). write_table profiles_count (length profiles / 12 ∷ []) ++ (x ++ y)) (sym (profiles_again (length profiles / 12) profiles b (omega arith)))
    (sym (append-nil (write_table points_count (points ∷ []))))

count_written : (n : ℕ) → n ≤ 63 → (192 + n) ∷ [] ≡ write_table profiles_count (n ∷ [])
count_written n h = each (omega arith)

points_written : (n : ℕ) → n ≤ 255 → n ∷ [] ≡ write_table points_count (n ∷ [])
points_written n h = each (omega arith)

pub before_in : (profiles : List ℕ) (points behind : ℕ) → AreBytes profiles → length profiles % 12 ≡ 0 → length profiles / 12 ≤ 63 → points ≤ 255 → behind ≤ 255
    → (63 ∷ behind ∷ 5 ∷ (192 + length profiles / 12) ∷ []) ++ (profiles ++ points ∷ []) ≡ before_points profiles points behind
before_in profiles points behind b whole few less short =
    ap (λ (l : List ℕ). 63 ∷ behind ∷ 5 ∷ l)
    (ap₂ (λ (x y : List ℕ). x ++ (profiles ++ y)) (count_written (length profiles / 12) few) (points_written points less) ∙ head_in profiles points b whole)
    ∙ ap (λ (l : List ℕ). l ++ (write_table extension_tag [] ++ head_bytes profiles points)) (head_written 63 behind (omega arith) (omega arith))
