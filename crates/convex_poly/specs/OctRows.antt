-- What the eight numbers of an octagon say of two rows, the lower one first.
use Rattle.std.specs.Prelude.{List, ℕ, ℤ, pos, ◌+ℤ◌, ◌-ℤ◌, ◌≤ℤ◌, slice_index_or}

abbrev pub number : List ℤ → ℕ → ℤ
number n k = slice_index_or n k (pos 0)

-- the numbers of (0, 1) and (0, -1)
abbrev pub HasRows : List ℤ → ℤ → ℤ → Type 0
HasRows n low high = (high ≤ℤ number n 2) × ((pos 0 -ℤ low) ≤ℤ number n 6)

-- the numbers of (-1, 0), (-1, 1) and (-1, -1)
abbrev pub IsEastwards : List ℤ → ℤ → ℤ → ℤ → Type 0
IsEastwards n low high x = ((pos 0 -ℤ number n 4) ≤ℤ x) × ((high -ℤ number n 3) ≤ℤ x) × (((pos 0 -ℤ number n 5) -ℤ low) ≤ℤ x)

-- the numbers of (1, 0), (1, 1) and (1, -1)
abbrev pub IsWestwards : List ℤ → ℤ → ℤ → ℤ → Type 0
IsWestwards n low high x = (x ≤ℤ number n 0) × (x ≤ℤ (number n 1 -ℤ high)) × (x ≤ℤ (number n 7 +ℤ low))
