use Rattle.std.proofs.Common.{◌≡◌, ◌+◌, nat_lt, true, codes, arith, ◌<◌, ℕ}
use Rattle.std.proofs.lemmas.Bool.Decides.{nat_tests}
use Rattle.spot_terms.specs.Samples.{neighbour}
use Rattle.sample_roads.proofs.Appended.{chosen}
use Rattle.sample_roads.proofs.lanes.put_left.Goals as goal

test : (a b : ℕ) → a < b → nat_lt a b ≡ true
test a b h = grind (arith, nat_tests)

pub returns-in_ok-put_neighbour-clause-tokens : goal.returns-in_ok-put_neighbour-clause-tokens
returns-in_ok-put_neighbour-clause-tokens c =
    chosen (nat_lt c.args.j c.args.lanes) (neighbour (codes "adjacentLeft") (c.args.j + 1)) c.args.out.now.tokens c.put_neighbour.new.out.tokens (test c.args.j c.args.lanes c.if-j-lanes.true) c.in_ok-put_neighbour.ensures.tokens
