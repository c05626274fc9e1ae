use Rattle.area_laws.proofs.Laws.{sets_have_room as law}
use Rattle.area_laws.proofs.sets_have_room.Goals as goal

pub returns : goal.returns
returns g c = law _ _ _
