use Rattle.std.proofs.Common.{ap}
use Rattle.spot_terms.specs.BaseSets.{Rect}
use Rattle.spot_terms.specs.Drawings.{rectangle}
use Rattle.spot_run.proofs.Shapes.{made_is, made_near}
use Rattle.spot_run.proofs.draw.rectangle_of.Goals as goal

pub returns-clause-drawn : goal.returns-clause-drawn
returns-clause-drawn c = ap (λ (r : Rect). rectangle r) (made_is c.args.octagon.now.n c.requires)

pub returns-clause-near : goal.returns-clause-near
returns-clause-near c = made_near c.args.octagon.now.n c.requires
