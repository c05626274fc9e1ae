use Rattle.std.proofs.Common.{◌≡◌, ◌-◌, nat_lt, true, codes, arith, ◌<◌, ℕ}
use Rattle.std.proofs.lemmas.Bool.Decides.{nat_tests}
use Rattle.spot_terms.specs.Samples.{neighbour}
use Rattle.sample_roads.proofs.Appended.{chosen}
use Rattle.sample_roads.proofs.lanes.put_right.Goals as goal

test : (a b : ℕ) → a < b → nat_lt a b ≡ true
test a b h = grind (arith, nat_tests)

pub returns-in_ok-put_neighbour-clause-tokens : goal.returns-in_ok-put_neighbour-clause-tokens
returns-in_ok-put_neighbour-clause-tokens c =
    chosen (nat_lt 1 c.args.j) (neighbour (codes "adjacentRight") (c.args.j - 1)) c.args.out.now.tokens c.put_neighbour.new.out.tokens (test 1 c.args.j c.if-j-gt1.true) c.in_ok-put_neighbour.ensures.tokens
