-- What calls over pieces ask and answer.
use Rattle.std.specs.Prelude.{◌≡◌, ◌<◌, ◌≤◌, ℕ, ℤ, ◌≤ℤ◌, ◌<ℤ◌, List, Option, Some, None}
use Rattle.std.specs.List.{AllByRecursion}
use Rattle.spot_terms.specs.Grid.{slot_low, slot_high}
use Rattle.spot_terms.specs.Whole.{SizeAtMost, Within}
use Rattle.spot_terms.specs.declared.plain.Pt.{Pt}

-- the range, where it isn't empty: from its first number to its second
abbrev pub IsRange : ℤ × ℤ → Option (ℤ × ℤ) → Type 0
IsRange range None = range.1 <ℤ range.0
IsRange range (Some span) = (range.0 ≤ℤ range.1) × (span ≡ range)

-- the places of runs are at most 4·10^13 in size
abbrev pub AreRunPlaces : List (ℤ × ℤ) → Type 0
AreRunPlaces runs = AllByRecursion (λ run. SizeAtMost 40_000_000_000_000 run.0 × SizeAtMost 40_000_000_000_000 run.1) runs

-- both ends of a row of height g are places, and not farther than pieces may be asked for
pub record IsRowNear (far : ℕ) (g row : ℤ) : Type 0 where
  pub low : SizeAtMost 40_000_000_000_000 (slot_low g row)
  pub high : SizeAtMost 40_000_000_000_000 (slot_high g row)
  pub low_far : SizeAtMost far (slot_low g row)
  pub high_far : SizeAtMost far (slot_high g row)

-- ---- pieces beside places of x, over which points each of them holds

-- no piece from `from` on and before `to` has a point whose x is one of these
abbrev pub AreBeside : (ℕ → Pt → Type 0) → ℤ → ℤ → ℕ → ℕ → Type 0
AreBeside Hits left right from to = (p : ℕ) (q : Pt) → from ≤ p → p < to → Hits p q → Within left right q.x → ⊥

-- the point lies in the piece, and its x is one of these
abbrev pub HitsAmong : ℤ → ℤ → (ℕ → Pt → Type 0) → ℕ → Pt → Type 0
HitsAmong left right Hits p q = Hits p q × Within left right q.x

-- x lies in both spans
abbrev pub InBoth : ℤ × ℤ → ℤ × ℤ → ℤ → Type 0
InBoth a b x = Within a.0 a.1 x × Within b.0 b.1 x
