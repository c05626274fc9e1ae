-- What is asked of the pieces of all steps, so that no motion is lost.
use Rattle.std.specs.Prelude.{ℕ, ◌<◌, ◌≤◌, ℤ, ◌≤ℤ◌}
use Rattle.spot_terms.specs.Frames.{at}
use Rattle.spot_terms.specs.declared.plain.Pt.{Pt}

-- Over the pieces of each step up to step n, how many there are, which whole points each of them holds, and at which positions
-- the ego is at it: the ego is at a piece at each whole point between two points of it that have one x.
abbrev pub AreUpright : ℕ → (ℕ → ℕ) → (ℕ → ℕ → Pt → Type 0) → (ℕ → ℕ → Pt → Type 0) → Type 0
AreUpright n count Hits Inside = (i p : ℕ) (x y0 y y1 : ℤ) → i ≤ n → p < count i → y0 ≤ℤ y → y ≤ℤ y1 → Hits i p (at x y0) → Hits i p (at x y1) → Inside i p (at x y)
