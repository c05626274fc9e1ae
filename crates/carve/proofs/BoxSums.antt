-- The rows of a box that pieces meet, piece by piece.
use Rattle.std.proofs.Common.{◌≡◌, ◌∙◌, ap, arith, ℕ, ◌+◌, ℤ}
use Rattle.std.specs.Prelude.{Some, None, sum_by}
use Rattle.spot_terms.specs.Lists.{numbers_below}
use Rattle.spot_terms.specs.RowBoxes.{slots_shared}
use Rattle.spot_terms.proofs.Sums.{sum_next, sum_none}
use Rattle.carve.specs.Ranges.{IsRange}
use Rattle.carve.proofs.Shared.{not_shared}

-- the rows of height g that a range and the ranges of the first n pieces have in common
abbrev pub rows_of : ℤ → ℤ × ℤ → (ℕ → ℤ × ℤ) → ℕ → ℕ
rows_of g box range n = sum_by (λ p. slots_shared g (range p) box) (numbers_below n)

pub no_rows : (g : ℤ) (box : ℤ × ℤ) (range : ℕ → ℤ × ℤ) → 0 ≡ rows_of g box range 0
no_rows g box range = let z = sum_none (λ p. slots_shared g (range p) box) in omega (arith, z)

pub more_rows : (g : ℤ) (box : ℤ × ℤ) (range : ℕ → ℤ × ℤ) (n m rows more : ℕ) → m ≡ n + 1 → rows ≡ rows_of g box range n → more ≡ rows + slots_shared g (range n) box → more ≡ rows_of g box range m
more_rows g box range n m rows more next e f = let s = sum_next (λ p. slots_shared g (range p) box) n m next in omega (arith, e, f, s)

pub piece_met : (g : ℤ) (box : ℤ × ℤ) (range : ℕ → ℤ × ℤ) (n m : ℕ) (low high : ℤ) (rows here more : ℕ) → m ≡ n + 1 → rows ≡ rows_of g box range n → IsRange (range n) (Some (low, high))
    → here ≡ slots_shared g (low, high) box → more ≡ rows + here → more ≡ rows_of g box range m
piece_met g box range n m low high rows here more next e r f s =
    let same : here ≡ slots_shared g (range n) box = f ∙ ap (λ (z : ℤ × ℤ). slots_shared g z box) r.1 in
    more_rows g box range n m rows more next e (omega (arith, s, same))

pub piece_missed : (g : ℤ) (box : ℤ × ℤ) (range : ℕ → ℤ × ℤ) (n m rows more : ℕ) → m ≡ n + 1 → rows ≡ rows_of g box range n → IsRange (range n) None → more ≡ rows → more ≡ rows_of g box range m
piece_missed g box range n m rows more next e r s =
    let none : slots_shared g (range n) box ≡ 0 = not_shared g (range n) box r in
    more_rows g box range n m rows more next e (omega (arith, s, none))
