use Rattle.area_laws.proofs.Laws.{cells_make_lists as law}
use Rattle.area_laws.proofs.cells_make_lists.Goals as goal

pub returns : goal.returns
returns g c = law _ _
