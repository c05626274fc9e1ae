-- The texts of numbers that a sample has, read one by one.
use Rattle.std.proofs.Common.{◌≡◌, ◌∙◌, ◌⊎◌, inl, inr, ℕ, suc, zero, ◌+◌, ◌*◌, ◌<◌, ◌≤◌, ◌==◌, Bool, true, false, List, [], ◌∷◌, Option, Some, None, refl, ap, arith, decimal}
use Rattle.std.specs.List.{list_all}
use Rattle.std.specs.Fmt.{digits}
use Rattle.std.proofs.lemmas.Bool.{and_parts}
use Rattle.std.proofs.lemmas.Bool.Decides.{nat_tests}
use Rattle.spot_terms.specs.Lists.{Includes, numbers_from}
use Rattle.spot_terms.specs.Decimal.{fraction_of}
use Rattle.spot_claims.specs.Paths.{id_of}
use Rattle.spot_terms.specs.Samples.{leaf}
use Rattle.spot_terms.specs.Samples.{tenths, hundredths}
use Rattle.sample_roads.proofs.TreeLayer.{said}
use Rattle.sample_roads.proofs.Numbers.{reads_as}

-- ---- a list by its numbers

pub included : (n count k : ℕ) → n ≤ k → k < n + count → Includes (numbers_from n count) k
included n zero k low high = absurd (omega arith)
included n (suc count) k low high = elim (first_or n k low) [ inl e ↦ inl e | inr l ↦ inr (included (n + 1) count k l (omega arith)) ]
  where
    first_or : (n k : ℕ) → n ≤ k → (k ≡ n) ⊎ (n + 1 ≤ k)
    first_or n k low = grind arith

pub bounds : (n count k : ℕ) → Includes (numbers_from n count) k → (n ≤ k) × (k < n + count)
bounds n zero k h = absurd h
bounds n (suc count) k (inl e) = (omega (arith, e), omega (arith, e))
bounds n (suc count) k (inr h) = let r = bounds (n + 1) count k h in (omega (arith, r.0), omega (arith, r.1))

pub from_table : (p : ℕ → Bool) (xs : List ℕ) (k : ℕ) → list_all p xs ≡ true → Includes xs k → p k ≡ true
from_table p [] k h i = absurd i
from_table p (x ∷ xs) k h (inl e) = ap p e ∙ (and_parts (p x) (list_all p xs) h).0
from_table p (x ∷ xs) k h (inr i) = from_table p xs k ((and_parts (p x) (list_all p xs) h).1) i

-- ---- the tables

-- whole metres up to 400
table_of_metres : list_all (λ n. reads_as 6 (said (leaf [] (decimal n))) (1_000_000 * n)) (numbers_from 0 401) ≡ true
unfolding fraction_of digits
table_of_metres = refl

-- speeds up to 35 m/s
table_of_speeds : list_all (λ n. reads_as 3 (said (leaf [] (decimal n))) (1_000 * n)) (numbers_from 0 36) ≡ true
unfolding fraction_of digits
table_of_speeds = refl

-- the sides of lanes
table_of_sides : list_all (λ j. reads_as 6 (said (leaf [] (tenths (35 * j)))) (3_500_000 * j)) (numbers_from 0 9) ≡ true
unfolding fraction_of digits
table_of_sides = refl

-- the middles of lanes
table_of_middles : list_all (λ j. reads_as 6 (said (leaf [] (hundredths (350 * j + 175)))) (3_500_000 * j + 1_750_000)) (numbers_from 0 8) ≡ true
unfolding fraction_of digits
table_of_middles = refl

abbrev is_id : ℕ → Option ℕ → Bool
is_id n None = false
is_id n (Some k) = k == n

table_of_lanes : list_all (λ j. is_id j (id_of (decimal j))) (numbers_from 1 9) ≡ true
unfolding digits
table_of_lanes = refl

table_of_movers : list_all (λ m. is_id (1001 + m) (id_of (decimal (1001 + m)))) (numbers_from 0 1000) ≡ true
unfolding digits
table_of_movers = refl

-- ---- what they say

pub metres_read : (n : ℕ) → n ≤ 400 → reads_as 6 (said (leaf [] (decimal n))) (1_000_000 * n) ≡ true
metres_read n h = from_table (λ n. reads_as 6 (said (leaf [] (decimal n))) (1_000_000 * n)) (numbers_from 0 401) n table_of_metres (included 0 401 n (omega arith) (omega arith))

pub speed_reads : (n : ℕ) → n ≤ 35 → reads_as 3 (said (leaf [] (decimal n))) (1_000 * n) ≡ true
speed_reads n h = from_table (λ n. reads_as 3 (said (leaf [] (decimal n))) (1_000 * n)) (numbers_from 0 36) n table_of_speeds (included 0 36 n (omega arith) (omega arith))

pub side_reads : (j : ℕ) → j ≤ 8 → reads_as 6 (said (leaf [] (tenths (35 * j)))) (3_500_000 * j) ≡ true
side_reads j h = from_table (λ j. reads_as 6 (said (leaf [] (tenths (35 * j)))) (3_500_000 * j)) (numbers_from 0 9) j table_of_sides (included 0 9 j (omega arith) (omega arith))

pub middle_reads : (j : ℕ) → j ≤ 7 → reads_as 6 (said (leaf [] (hundredths (350 * j + 175)))) (3_500_000 * j + 1_750_000) ≡ true
middle_reads j h = from_table (λ j. reads_as 6 (said (leaf [] (hundredths (350 * j + 175)))) (3_500_000 * j + 1_750_000)) (numbers_from 0 8) j table_of_middles (included 0 8 j (omega arith) (omega arith))

id_from : (n : ℕ) (o : Option ℕ) → is_id n o ≡ true → o ≡ Some n
id_from n None h = cc
id_from n (Some k) h = ap Some (grind (arith, nat_tests))

pub lane_id : (j : ℕ) → 1 ≤ j → j ≤ 9 → id_of (decimal j) ≡ Some j
lane_id j l h = id_from j (id_of (decimal j)) (from_table (λ j. is_id j (id_of (decimal j))) (numbers_from 1 9) j table_of_lanes (included 1 9 j l (omega arith)))

pub mover_id : (m : ℕ) → m < 1000 → id_of (decimal (1001 + m)) ≡ Some (1001 + m)
mover_id m h = id_from (1001 + m) (id_of (decimal (1001 + m))) (from_table (λ m. is_id (1001 + m) (id_of (decimal (1001 + m)))) (numbers_from 0 1000) m table_of_movers (included 0 1000 m (omega arith) (omega arith)))
