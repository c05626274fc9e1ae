-- What is kept of a start along one normal, and the places that it gives.
use Rattle.std.specs.Prelude.{◌≡◌, ℕ, zero, suc, ◌+◌, ◌-◌, ◌*◌, ◌/◌, ◌<◌, ℤ, pos, nat_abs, ◌+ℤ◌, ◌*ℤ◌, ◌≤ℤ◌, List}
use Rattle.std.specs.Int.{int_min, int_max}
use Rattle.std.specs.List.{AllByRecursion}
use Rattle.spot_terms.specs.Lists.{Pairwise}
use Rattle.spot_terms.specs.Whole.{Within, SizeAtMost, quotient_floor}
use Rattle.spot_terms.specs.Reach.{Normal, normals, along, disc_number, box_number, rounding}
use Rattle.spot_terms.specs.declared.plain.AccStart.{AccStart}
use Rattle.acc_occupancy.specs.declared.line.Line.{Line}

-- the line is that of a start along n
pub record IsLine (s : AccStart) (n : Normal) (l : Line) : Type 0 where
  pub place : l.place ≡ along n s.p
  pub speed : l.speed ≡ box_number n s.b
  pub rise : l.rise ≡ pos (disc_number n (nat_abs s.a))
  pub cap : l.cap ≡ pos (disc_number n (nat_abs s.v))
  pub spread : l.rounding ≡ pos (rounding n)
  pub body : l.body ≡ pos (disc_number n s.r)

-- the eight lines of a start
abbrev pub AreLines : AccStart → List Line → Type 0
AreLines s lines = Pairwise (IsLine s) normals lines

-- the sizes of a line's numbers
pub record IsLineInRange (l : Line) : Type 0 where
  pub place : SizeAtMost 40_000_000_000_000 l.place
  pub speed : SizeAtMost 1_800_000 l.speed
  pub rise : Within (pos 1) (pos 40) l.rise
  pub cap : Within (pos 0) (pos 1_800_000) l.cap
  pub rounding : Within (pos 1) (pos 2) l.rounding
  pub body : Within (pos 0) (pos 800_000_000) l.body

abbrev pub AreLinesInRange : List Line → Type 0
AreLinesInRange lines = AllByRecursion IsLineInRange lines

-- the greatest speed at tick k
unfoldable pub line_speed : Line → ℕ → ℤ
line_speed l zero = l.speed
line_speed l (suc k) = int_min (l.speed +ℤ pos (suc k) *ℤ l.rise) l.cap

-- the greatest place at tick k
unfoldable pub line_place : Line → ℕ → ℤ
line_place l zero = l.place
line_place l (suc k) = line_place l k +ℤ quotient_floor (line_speed l k +ℤ line_speed l (suc k) +ℤ l.rounding) (pos 2)

-- the greater of the places at the two ends of interval i, with the body
unfoldable pub line_number : ℕ → ℕ → Line → ℤ
line_number k i l = int_max (line_place l (i * k)) (line_place l (i * k + k)) +ℤ l.body

-- the speed rises freely for m ticks, and meets its cap in the next one
pub record IsRising (l : Line) (m : ℕ) : Type 0 where
  pub free : 0 < m → (l.speed +ℤ pos m *ℤ l.rise) ≤ℤ l.cap
  pub capped : l.cap ≤ℤ (l.speed +ℤ pos (suc m) *ℤ l.rise)

-- 0 + 1 + .. + (k - 1)
abbrev pub pairs : ℕ → ℕ
pairs k = k * (k - 1) / 2

-- half, rounded down
abbrev pub half : ℤ → ℤ
half z = quotient_floor z (pos 2)

-- the place after k ticks, where the speed rises freely
unfoldable pub risen_place : Line → ℕ → ℤ
risen_place l k = l.place +ℤ pos k *ℤ (l.speed +ℤ half (l.rise +ℤ l.rounding)) +ℤ pos (pairs k) *ℤ l.rise

-- the way of the tick in which the speed meets its cap, after m ticks in which it rises freely
unfoldable pub bend_way : Line → ℕ → ℤ
bend_way l m = half (l.speed +ℤ pos m *ℤ l.rise +ℤ l.cap +ℤ l.rounding)

-- the way of a tick at the cap
unfoldable pub capped_way : Line → ℤ
capped_way l = l.cap +ℤ half l.rounding
