use Rattle.area_laws.proofs.GroupFills.{groups_fill as law}
use Rattle.area_laws.proofs.groups_fill.Goals as goal

pub returns : goal.returns
returns c = law
