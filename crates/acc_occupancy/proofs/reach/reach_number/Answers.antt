use Rattle.std.proofs.Common.{◌∙◌, to_z-of_z, FitsSigned, w64, rules}
use Rattle.spot_terms.specs.Reach.{normal_at}
use Rattle.spot_terms.proofs.Normals.{normal_at-included}
use Rattle.acc_occupancy.proofs.Motions.{motion_reach}
use Rattle.acc_occupancy.proofs.Ends.{line_place-is}
use Rattle.acc_occupancy.proofs.reach.reach_number.Goals as goal

pub returns-clause-value : goal.returns-clause-value
returns-clause-value c =
    let fits : FitsSigned w64 c.place_at.result = search rules in
    simp to_z-of_z (c.place_at.ensures.value ∙ line_place-is c.args.s.now (normal_at c.args.normal) c.of.result c.args.tick c.of.ensures.of_start)

pub returns-clause-motions : goal.returns-clause-motions
returns-clause-motions c = λ states st m e. rw (returns-clause-value c) (motion_reach c.args.s.now (normal_at c.args.normal) c.args.tick states st c.requires.start (normal_at-included c.args.normal c.requires.normal) m e)
