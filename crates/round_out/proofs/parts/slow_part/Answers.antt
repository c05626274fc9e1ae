use Rattle.std.proofs.Common.{◌∷◌, [], subst}
use Rattle.spot_terms.specs.Clips.{swapped, turned_and_swapped}
use Rattle.convex_poly.proofs.Wide.{back}
use Rattle.round_out.specs.Clips.{StaysOnSide}
use Rattle.round_out.specs.Parts.{IsPart, KeepsParts}
use Rattle.round_out.proofs.TwoClips.{slow}
use Rattle.round_out.proofs.parts.slow_part.Goals as goal

pub returns-clause-part : goal.returns-clause-part
returns-clause-part c = subst (λ z. IsPart ((swapped, z) ∷ (turned_and_swapped, z) ∷ []) c.args.p.now c.clip_twice.result) (back c.args.v c.ranges.v.sfits) c.clip_twice.ensures.part

pub returns-clause-keeps : goal.returns-clause-keeps
returns-clause-keeps c = subst (λ z. KeepsParts ((swapped, z) ∷ (turned_and_swapped, z) ∷ []) c.args.p.now c.clip_twice.result) (back c.args.v c.ranges.v.sfits) c.clip_twice.ensures.keeps

pub returns-clause-side : goal.returns-clause-side
returns-clause-side c =
    slow c.args.v c.clip_twice.result
    (subst (λ z. StaysOnSide swapped z c.clip_twice.result) (back c.args.v c.ranges.v.sfits) c.clip_twice.ensures.on_first)
    (subst (λ z. StaysOnSide turned_and_swapped z c.clip_twice.result) (back c.args.v c.ranges.v.sfits) c.clip_twice.ensures.on_second)
