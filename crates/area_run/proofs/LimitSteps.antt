-- The limits, step by step.
use Rattle.std.proofs.Common.{◌≡◌, ◌∙◌, inl, inr, refl, sym, ap, subst, arith, ℕ, ◌+◌, ◌<◌, ◌≤◌}
use lib.IntN.{ℤ}
use Rattle.spot_terms.proofs.Sums.{sum_next, sum_none}
use Rattle.spot_terms.specs.BaseSets.{Rect}
use Rattle.spot_terms.specs.Courses.{Course, box_at, cells_of, cells_at}
use Rattle.spot_terms.specs.RowBoxes.{row_boxes_in, row_boxes, cells_up_to, IsTooWideAt, IsAreaTooWide, HasTooManyBoxes}
use Rattle.area_run.specs.Passed.{cells_before}
use Rattle.spot_terms.proofs.Orders.{below_or_here}

pub no_cells_yet : (course : Course) → 0 ≡ cells_before course 0
no_cells_yet course = sym (sum_none (cells_at course))

pub cells_next : (course : Course) (n total more : ℕ) → total ≡ cells_before course n → more ≡ total + cells_at course n → more ≡ cells_before course (n + 1)
cells_next course n total more e f = let s = sum_next (cells_at course) n (n + 1) refl in omega (arith, e, f, s)

module _ (course : Course) where
  not_wide : (n count : ℕ) → cells_at course n ≤ 65_536 → cells_up_to course n ≤ 524_288 → IsTooWideAt course n count → ⊥
  not_wide n count h k (inl w) = absurd (omega (arith, h, w.0))
  not_wide n count h k (inr w) = absurd (omega (arith, k, w.1))

  pub narrow_next : (n : ℕ) → ((j count : ℕ) → j < n → IsTooWideAt course j count → ⊥) → cells_at course n ≤ 65_536 → cells_before course (n + 1) ≤ 524_288
      → (j count : ℕ) → j < n + 1 → IsTooWideAt course j count → ⊥
  narrow_next n before h k j count l w = elim (below_or_here j n l) [
    | inl less ↦ before j count less w
    | inr same ↦ not_wide n count h k (subst (λ (i : ℕ). IsTooWideAt course i count) same w)
  ]

  -- its own number first
  pub own_wide : (n last count : ℕ) → n < last + 1 → ((j number : ℕ) → j < n → IsTooWideAt course j number → ⊥) → 65_536 < count → count ≡ cells_at course n → IsAreaTooWide course last n count
  own_wide n last count l before h e = record { within = omega (arith, l); wide = inl (omega (arith, h, e), e); least = before }

  -- then the sum
  pub sum_wide : (n last total here count : ℕ) → n < last + 1 → ((j number : ℕ) → j < n → IsTooWideAt course j number → ⊥) → here ≤ 65_536 → here ≡ cells_at course n
      → count ≡ cells_before course (n + 1) → 524_288 < count → IsAreaTooWide course last n count
  sum_wide n last total here count l before h e f k = record { within = omega (arith, l); wide = inr (omega (arith, h, e), omega (arith, k, f), f); least = before }

module _ (course : Course) (count : ℕ → ℕ) (range : ℕ → ℕ → ℤ × ℤ) where
  pub few_next : (n boxes : ℕ) → ((j : ℕ) → j < n → row_boxes course count range j ≤ 1_048_576) → boxes ≡ row_boxes course count range n → boxes ≤ 1_048_576
      → (j : ℕ) → j < n + 1 → row_boxes course count range j ≤ 1_048_576
  few_next n boxes before e h j l = elim (below_or_here j n l) [
    | inl less ↦ before j less
    | inr same ↦ subst (λ (i : ℕ). row_boxes course count range i ≤ 1_048_576) (sym same) (subst (λ (z : ℕ). z ≤ 1_048_576) e h)
  ]

  pub many : (n last boxes : ℕ) → n < last + 1 → ((j : ℕ) → j < n → row_boxes course count range j ≤ 1_048_576) → boxes ≡ row_boxes course count range n → 1_048_576 < boxes
      → HasTooManyBoxes course count range last n boxes
  many n last boxes l before e h = record { within = omega (arith, l); boxes_are = e; many = h; least = before }

-- ---- of the box of a step

pub cells_are : (course : Course) (i n : ℕ) (o : Rect) → n ≡ cells_of course.w course.g o → o ≡ box_at course i → n ≡ cells_at course i
cells_are course i n o e r = e ∙ ap (cells_of course.w course.g) r

pub boxes_are : (course : Course) (count : ℕ → ℕ) (range : ℕ → ℕ → ℤ × ℤ) (i n : ℕ) (o : Rect) → n ≡ row_boxes_in course.w course.g o (count i) (range i) → o ≡ box_at course i
    → n ≡ row_boxes course count range i
boxes_are course count range i n o e r = e ∙ ap (λ (z : Rect). row_boxes_in course.w course.g z (count i) (range i)) r
