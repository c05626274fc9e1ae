use Rattle.area_laws.proofs.Pairs.{tables_fill as law}
use Rattle.area_laws.proofs.tables_fill.Goals as goal

pub returns : goal.returns
returns c = law
