-- The rows of discs.
use Rattle.std.proofs.Common.{◌≡◌, ℕ, ◌+◌, ◌*◌, ◌<◌, ◌≤◌, ◌⊎◌, inl, inr, arith, ap, mul-le-mul, ℤ, pos, ◌+ℤ◌, ◌-ℤ◌, nat_abs}
use Rattle.std.specs.Prelude.{max, Some}
use Rattle.std.proofs.lemmas.Int.{ints}
use Rattle.spot_terms.specs.Frames.{at}
use Rattle.spot_terms.specs.Bodies.{InDisc}
use Rattle.spot_terms.specs.Whole.{Within, square}
use Rattle.spot_terms.specs.declared.plain.Pt.{Pt}
use Rattle.convex_poly.specs.Runs.{IsSpanOf}
use Rattle.replay_sets.specs.Halves.{IsHalf}
use Rattle.spot_terms.proofs.Orders.{below_or_at_least}

-- squares tell sizes
pub below_square : (m h rest all : ℕ) → m * m + rest ≤ all → all < (h + 1) * (h + 1) + rest → m ≤ h
below_square m h rest all a b = elim (below_or_at_least h m) [ inl less ↦ absurd (let k : (h + 1) * (h + 1) ≤ m * m = mul-le-mul (omega arith) (omega arith) in omega arith) | inr le ↦ le ]

greater_square : (a b : ℕ) → (max a b * max a b ≡ a * a) ⊎ (max a b * max a b ≡ b * b)
greater_square a b = elim (below_or_at_least a b) [
  | inl less ↦ inr (let e : max a b ≡ b = omega arith in ap (λ (n : ℕ). n * n) e)
  | inr le ↦ inl (let e : max a b ≡ a = omega arith in ap (λ (n : ℕ). n * n) e)
]

squares_max : (a b s all : ℕ) → s + a * a ≤ all → s + b * b ≤ all → s + max a b * max a b ≤ all
squares_max a b s all h k = elim (greater_square a b) [ inl e ↦ omega arith | inr e ↦ omega arith ]

pub disc_span : (p : Pt) (r half : ℕ) (y0 y1 : ℤ) → IsHalf r (max (nat_abs (y0 -ℤ p.y)) (nat_abs (y1 -ℤ p.y))) (Some half) → IsSpanOf (λ x. InDisc r p (at x y0) × InDisc r p (at x y1)) (p.x -ℤ pos half, p.x +ℤ pos half)
disc_span p r half y0 y1 h = record {
  ordered = omega (arith, ints);
  exact = λ x. (λ k. within x (below_square (nat_abs (x -ℤ p.x)) half (m * m) (r * r) (squares_max (nat_abs (y0 -ℤ p.y)) (nat_abs (y1 -ℤ p.y)) (square (x -ℤ p.x)) (r * r) k.0 k.1) h.1), λ w. (inside x y0 w (m_0 (nat_abs (y0 -ℤ p.y)) (nat_abs (y1 -ℤ p.y))), inside x y1 w (m_1 (nat_abs (y0 -ℤ p.y)) (nat_abs (y1 -ℤ p.y)))));
}
  where
    m : ℕ
    m = max (nat_abs (y0 -ℤ p.y)) (nat_abs (y1 -ℤ p.y))

    m_0 : (a b : ℕ) → a ≤ max a b
    m_0 a b = omega arith

    m_1 : (a b : ℕ) → b ≤ max a b
    m_1 a b = omega arith

    within : (x : ℤ) → nat_abs (x -ℤ p.x) ≤ half → Within (p.x -ℤ pos half) (p.x +ℤ pos half) x
    within x k = record { low = omega (arith, ints); high = omega (arith, ints) }

    inside : (x y : ℤ) → Within (p.x -ℤ pos half) (p.x +ℤ pos half) x → nat_abs (y -ℤ p.y) ≤ max (nat_abs (y0 -ℤ p.y)) (nat_abs (y1 -ℤ p.y)) → InDisc r p (at x y)
    inside x y w k =
        let n : nat_abs (x -ℤ p.x) ≤ half = (let a = w.low in let b = w.high in omega (arith, ints)) in
        let s : square (x -ℤ p.x) ≤ half * half = mul-le-mul n n in
        let t : square (y -ℤ p.y) ≤ max (nat_abs (y0 -ℤ p.y)) (nat_abs (y1 -ℤ p.y)) * max (nat_abs (y0 -ℤ p.y)) (nat_abs (y1 -ℤ p.y)) = mul-le-mul k k in
        let u = h.0 in omega arith

pub disc_none : (p : Pt) (r : ℕ) (y0 y1 x : ℤ) → r < max (nat_abs (y0 -ℤ p.y)) (nat_abs (y1 -ℤ p.y)) → InDisc r p (at x y0) × InDisc r p (at x y1) → ⊥
disc_none p r y0 y1 x far k =
    let a = squares_max (nat_abs (y0 -ℤ p.y)) (nat_abs (y1 -ℤ p.y)) (square (x -ℤ p.x)) (r * r) k.0 k.1 in
    let b : (r + 1) * (r + 1) ≤ max (nat_abs (y0 -ℤ p.y)) (nat_abs (y1 -ℤ p.y)) * max (nat_abs (y0 -ℤ p.y)) (nat_abs (y1 -ℤ p.y)) = mul-le-mul (omega arith) (omega arith) in
    omega arith
