use Rattle.area_laws.proofs.Laws.{motions_stay_held as law}
use Rattle.area_laws.proofs.motions_stay_held.Goals as goal

pub returns : goal.returns
returns g c = law _ _ (λ i p x y0 y y1 a b h k. g.met.O.Occupied.upright c.args.o.now i p x y0 y y1 a b h k)
