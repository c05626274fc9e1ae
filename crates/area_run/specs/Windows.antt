-- Stretches of rows.
use Rattle.std.specs.Prelude.{◌≡◌, ◌⊎◌, ℕ, ◌≤◌}

-- the stretch from `low` to below `high` holds the one from `at` to below `end`, and the one from `from` to below `to`, where
-- that has rows; it reaches no further than both
pub record IsWidened (from to at end low high : ℕ) : Type 0 where
  pub order : low ≤ high
  pub left : low ≤ at
  pub right : end ≤ high
  pub holds : (from ≡ to) ⊎ ((low ≤ from) × (to ≤ high))
  pub bound : (m : ℕ) → to ≤ m → end ≤ m → high ≤ m
