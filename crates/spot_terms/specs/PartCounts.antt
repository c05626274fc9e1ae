-- Into how many parts a piece of a lanelet is cut.
use Rattle.std.specs.Prelude.{◌≡◌, ℕ, ◌*◌, ◌^◌, ◌<◌, ◌≤◌, pos, refl}
use Rattle.spot_terms.specs.Cells.{Pair, part_count, side_square}
use Rattle.spot_terms.specs.Whole.{root_ceiling, root_floor}

-- n parts of 2 m each are at least as long as the side from p to q
abbrev pub Spans : Pair → Pair → ℕ → Type 0
Spans p q n = side_square p q ≤ (n * 2_000_000) * (n * 2_000_000)

-- n is the least number, at least 1, of parts of 2 m each that are at least as long as both sides of the piece from (l, r)
-- to (l', r')
pub record IsPartCount (l l' r r' : Pair) (n : ℕ) : Type 0 where
  pub some : 1 ≤ n
  pub left : Spans l l' n
  pub right : Spans r r' n
  pub least : (m : ℕ) → 1 ≤ m → Spans l l' m → Spans r r' m → n ≤ m

-- the computed number is what its name says
abbrev pub PartCountsAre : Type 0
PartCountsAre = (l l' r r' : Pair) → side_square l l' < 2 ^ 128 → side_square r r' < 2 ^ 128 → IsPartCount l l' r r' (part_count l l' r r')

-- ---- examples: a side of no length, of 2 m, and of one µm more

abbrev along_x : ℕ → Pair
along_x n = (pos n, pos 0)

row_none : part_count (along_x 0) (along_x 0) (along_x 0) (along_x 0) ≡ 1
unfolding part_count root_ceiling root_floor
row_none = refl

row_one : part_count (along_x 0) (along_x 2_000_000) (along_x 0) (along_x 0) ≡ 1
unfolding part_count root_ceiling root_floor
row_one = refl

row_two : part_count (along_x 0) (along_x 0) (along_x 0) (along_x 2_000_001) ≡ 2
unfolding part_count root_ceiling root_floor
row_two = refl
