use Rattle.std.proofs.Common.{◌∷◌, [], neg_ℤ, subst, to_z, of_z, w64}
use Rattle.spot_terms.specs.Clips.{as_it_is, x_turned}
use Rattle.convex_poly.proofs.Wide.{back}
use Rattle.round_out.specs.Clips.{StaysOnSide}
use Rattle.round_out.specs.Parts.{IsPart, KeepsParts}
use Rattle.round_out.proofs.HeightCode.{turned_line}
use Rattle.round_out.proofs.TwoClips.{between}
use Rattle.round_out.proofs.parts.part_between.Goals as goal

pub returns-clause-part : goal.returns-clause-part
returns-clause-part c =
    subst (λ z. IsPart ((as_it_is, z) ∷ (x_turned, neg_ℤ c.args.lo) ∷ []) c.args.p.now c.clip_twice.result) (back c.args.hi c.ranges.hi.sfits)
    (subst (λ z. IsPart ((as_it_is, to_z w64 (of_z w64 c.args.hi)) ∷ (x_turned, z) ∷ []) c.args.p.now c.clip_twice.result) (turned_line c.args.lo c.requires.low) c.clip_twice.ensures.part)

pub returns-clause-keeps : goal.returns-clause-keeps
returns-clause-keeps c =
    subst (λ z. KeepsParts ((as_it_is, z) ∷ (x_turned, neg_ℤ c.args.lo) ∷ []) c.args.p.now c.clip_twice.result) (back c.args.hi c.ranges.hi.sfits)
    (subst (λ z. KeepsParts ((as_it_is, to_z w64 (of_z w64 c.args.hi)) ∷ (x_turned, z) ∷ []) c.args.p.now c.clip_twice.result) (turned_line c.args.lo c.requires.low) c.clip_twice.ensures.keeps)

pub returns-clause-side : goal.returns-clause-side
returns-clause-side c =
    between c.args.lo c.args.hi c.clip_twice.result
    (subst (λ z. StaysOnSide as_it_is z c.clip_twice.result) (back c.args.hi c.ranges.hi.sfits) c.clip_twice.ensures.on_first)
    (subst (λ z. StaysOnSide x_turned z c.clip_twice.result) (turned_line c.args.lo c.requires.low) c.clip_twice.ensures.on_second)
