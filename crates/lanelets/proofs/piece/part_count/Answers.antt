use Rattle.std.proofs.Common.{◌≡◌, ◌∙◌, ℕ, ◌+◌, ◌/◌, max, arith}
use Rattle.spot_terms.specs.Cells.{Pair, part_count, side_square}
use Rattle.spot_terms.specs.Whole.{root_ceiling}
use Rattle.lanelets.proofs.piece.part_count.Goals as goal

max_swap : (n m : ℕ) → max n m ≡ max m n
max_swap n m = omega arith

is : (l l' r r' : Pair) (n root m a b : ℕ) → n ≡ max ((root + 1999999) / 2000000) 1 → root ≡ root_ceiling m → m ≡ max a b → a ≡ side_square l l' → b ≡ side_square r r' → n ≡ part_count l l' r r'
unfolding part_count
is l l' r r' n root m a b en er em ea eb =
    en ∙ rw (er, em, ea, eb) (max_swap ((root_ceiling (max (side_square l l') (side_square r r')) + 1999999) / 2000000) 1)

pub returns-clause-value : goal.returns-clause-value
returns-clause-value c =
    is c.args.piece.now.left c.args.piece.now.left_end c.args.piece.now.right c.args.piece.now.right_end c.max-2.result c.isqrt_ceil-longest.result c.max.result c.side_square-left.result c.side_square-right.result
    c.max-2.ensures c.isqrt_ceil-longest.ensures.value c.max.ensures c.side_square-left.ensures.value c.side_square-right.ensures.value
