-- Planar motions: lists of whole states, one for each tick.
use Rattle.std.specs.Prelude.{◌≡◌, ℕ, ◌+◌, ◌*◌, ◌≤◌, List, [], ◌∷◌, ℤ, pos, nat_abs, ◌+ℤ◌, ◌-ℤ◌, ◌*ℤ◌}
use Rattle.spot_terms.specs.Whole.{square, Within}
use Rattle.spot_terms.specs.Bodies.{IsLeast}
use Rattle.spot_terms.specs.declared.plain.Pt.{Pt}
use Rattle.spot_terms.specs.declared.plain.VBox.{VBox}

-- a position and a velocity
pub record State : Type 0 where
  pub p : Pt
  pub v : Pt

-- the tick rule of one coordinate, from (p, v) to (p', v'): |2(p' - p) - (v + v')| ≤ 1
abbrev pub Ticks : ℤ → ℤ → ℤ → ℤ → Type 0
Ticks p v p' v' = nat_abs (pos 2 *ℤ (p' -ℤ p) -ℤ (v +ℤ v')) ≤ 1

-- one tick of a planar motion with acceleration at most a in size
pub record PlanarTick (a : ℤ) (s t : State) : Type 0 where
  pub x : Ticks s.p.x s.v.x t.p.x t.v.x
  pub y : Ticks s.p.y s.v.y t.p.y t.v.y
  pub bounded : square (t.v.x -ℤ s.v.x) + square (t.v.y -ℤ s.v.y) ≤ square a

-- a speed at most v in size
abbrev pub SpeedAtMost : ℤ → State → Type 0
SpeedAtMost v s = square s.v.x + square s.v.y ≤ square v

pub record InBox (b : VBox) (v : Pt) : Type 0 where
  pub x : Within b.xlo b.xhi v.x
  pub y : Within b.ylo b.yhi v.y

-- s is the least whole number whose square is at least that of each velocity of the box
abbrev pub IsStartSpeed : VBox → ℕ → Type 0
IsStartSpeed b s = IsLeast (λ r. (v : Pt) → InBox b v → square v.x + square v.y ≤ r * r) s

-- each state is followed by the next, and each keeps its bound
abbrev pub Steps : {S : Type 0} → (S → S → Type 0) → (S → Type 0) → List S → Type 0
Steps step bound [] = Unit {0}
Steps step bound (s ∷ []) = bound s
Steps step bound (s ∷ t ∷ rest) = bound s × step s t × Steps step bound (t ∷ rest)

-- the first state
abbrev pub Starts : {S : Type 0} → (S → Type 0) → List S → Type 0
Starts first [] = ⊥
Starts first (s ∷ rest) = first s

-- the states of ticks 0, 1, 2 and so on
pub record IsPlanarMotion (p : Pt) (b : VBox) (a v : ℤ) (states : List State) : Type 0 where
  pub start : Starts (λ s. (s.p ≡ p) × InBox b s.v) states
  pub ticks : Steps (PlanarTick a) (SpeedAtMost v) states
