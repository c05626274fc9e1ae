-- Lists whose room is taken once, as contracts see them.
use Rattle.std.specs.Prelude.{ℕ, List, ℤ}
use Rattle.spot_terms.specs.BaseSets.{SetValue}

-- runs, and how many of them there is room for
pub record RunRoom : Type 0 where
  pub room : ℕ
  pub runs : List (ℤ × ℤ)

-- base sets, and how many of them there is room for
pub record SetRoom : Type 0 where
  pub room : ℕ
  pub sets : List SetValue
