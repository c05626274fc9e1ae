use Rattle.merge_sets.proofs.Collections.{tables_collect as law}
use Rattle.merge_sets.proofs.tables_collect.Goals as goal

pub returns : goal.returns
returns c = law
