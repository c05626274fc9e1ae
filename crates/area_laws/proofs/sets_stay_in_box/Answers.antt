use Rattle.area_laws.proofs.Laws.{sets_stay_in_box as law}
use Rattle.area_laws.proofs.sets_stay_in_box.Goals as goal

pub returns : goal.returns
returns g c = law _ _
