use Rattle.std.proofs.Common.{subst}
use Rattle.spot_claims.specs.Tree.{IsTree}
use Rattle.spot_tree.proofs.tree.Tree.len.Goals as goal

pub returns-in-Plain-clause-tree : goal.returns-in-Plain-clause-tree
returns-in-Plain-clause-tree c = subst IsTree c.self.view_is c.self.invariant

pub returns-in-Any-clause-tree : goal.returns-in-Any-clause-tree
returns-in-Any-clause-tree c = subst IsTree c.self.view_is c.self.invariant
