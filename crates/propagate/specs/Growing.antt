-- How far a step leads along the frame normals.
use Rattle.std.specs.Prelude.{◌≡◌, ℕ, ℤ, pos, ◌+◌, ◌*◌, ◌/◌, ◌≤◌, ◌≤ℤ◌, ◌+ℤ◌}
use Rattle.spot_terms.specs.ChildNumbers.{growths, sheared}
use Rattle.spot_terms.specs.Frames.{at, frame_normals}
use Rattle.spot_terms.specs.Lists.{Pairwise}
use Rattle.spot_terms.specs.Reach.{Normal, along}
use Rattle.base_sets.specs.Passes.{Passes}
use Rattle.propagate.specs.declared.numbers.Growths.{Growths}

-- from (p, v) to (q, w): along n at most the growth past where a step without acceleration leads
abbrev pub GrowsAtMost : ℕ → ℤ → ℤ → ℤ → ℤ → Normal → ℕ → Type 0
GrowsAtMost k p v q w n growth = along n (at q w) ≤ℤ (along (sheared k n) (at p v) +ℤ pos growth)

-- k ticks with accelerations at most a in size lead along each frame normal at most the growth further
abbrev pub GrowthsBoundSteps : Type 0
GrowthsBoundSteps = (a k : ℕ) (p v q w : ℤ) → Passes a k p v q w → Pairwise (GrowsAtMost k p v q w) (frame_normals (pos k)) (growths a k)

-- the growths as the code keeps them
pub record AreGrowths (a k : ℕ) (g : Growths) : Type 0 where
  pub speed : g.speed ≡ pos (k * a)
  pub place : g.place ≡ pos ((k * k * a + k) / 2)
  pub double : g.double ≡ pos (a * ((k * k) / 2) + k)
  pub small_speed : k * a ≤ 20_000_000
  pub small_place : (k * k * a + k) / 2 ≤ 20_000_000
  pub small_double : a * ((k * k) / 2) + k ≤ 20_000_000
