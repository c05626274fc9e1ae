-- How far a disc reaches in rows.
use Rattle.std.specs.Prelude.{ℕ, ◌+◌, ◌*◌, ◌≤◌, ◌<◌, Option, Some, None}

-- half is the greatest whole number whose square and that of the rise sum to at most r · r; none where the rise is above r
abbrev pub IsHalf : ℕ → ℕ → Option ℕ → Type 0
IsHalf r rise None = r < rise
IsHalf r rise (Some half) = (half * half + rise * rise ≤ r * r) × (r * r < (half + 1) * (half + 1) + rise * rise)
