use Rattle.std.proofs.Common.{arith, subst, Some, None, inl}
use Rattle.spot_terms.specs.Clips.{IsClip}
use Rattle.convex_poly.proofs.Wide.{back}
use Rattle.round_out.specs.Clips.{reflection, KeepsSide, StaysOnSide}
use Rattle.round_out.proofs.ClipCases.{AreOnSide, told_side, whole_clip}
use Rattle.round_out.proofs.Reflections.{mirror}
use Rattle.round_out.proofs.TwoClips.{second_part, second_keeps, second_in_box, second_few, once_few, clip_corners, still_on_side}
use Rattle.round_out.proofs.parts.clip_twice.Goals as goal
use Rattle.round_out.proofs.parts.clip_twice.Goals.{After-clip, After-clip-in-Some, After-clip-2}

-- ---- the first clip would leave the polygon as it is

side : (c : After-clip) → AreOnSide (reflection c.args.first) c.args.a c.args.p.now
side c = let told = told_side (reflection c.args.first) c.are_on_side.result _ _ _ _ (back c.args.a c.ranges.a.sfits) c.corners.ensures.items c.are_on_side.ensures in told.0 c.if-are_on_side.true

whole : (c : After-clip) → IsClip (reflection c.args.first) c.args.a c.args.p.now (Some c.args.p.now)
whole c = whole_clip (reflection c.args.first) (mirror c.args.first) c.args.a c.args.p.now c.corners.ensures.polygon.convex (side c)

clip : (c : After-clip) → IsClip (reflection c.args.second) c.args.b c.args.p.now c.clip.result
clip c = subst (λ z. IsClip (reflection c.args.second) z c.args.p.now c.clip.result) (back c.args.b c.ranges.b.sfits) c.clip.ensures.clip

pub returns-then-are_on_side-clause-part : goal.returns-then-are_on_side-clause-part
returns-then-are_on_side-clause-part c = second_part (reflection c.args.first) (reflection c.args.second) c.args.a c.args.b c.args.p.now c.args.p.now c.clip.result (whole c) (clip c)

pub returns-then-are_on_side-clause-keeps : goal.returns-then-are_on_side-clause-keeps
returns-then-are_on_side-clause-keeps c q h on =
    let keeps : KeepsSide (reflection c.args.second) c.args.b c.args.p.now c.clip.result = subst (λ z. KeepsSide (reflection c.args.second) z c.args.p.now c.clip.result) (back c.args.b c.ranges.b.sfits) c.clip.ensures.keeps in
    keeps q h on.1.0

pub returns-then-are_on_side-clause-on_first : goal.returns-then-are_on_side-clause-on_first
returns-then-are_on_side-clause-on_first c =
    still_on_side c.args.first c.args.a c.args.p.now c.clip.result c.corners.ensures.polygon.convex (clip_corners (reflection c.args.second) c.args.b c.args.p.now c.clip.result (clip c)) c.clip.ensures.axes (side c)

pub returns-then-are_on_side-clause-on_second : goal.returns-then-are_on_side-clause-on_second
returns-then-are_on_side-clause-on_second c = subst (λ z. StaysOnSide (reflection c.args.second) z c.clip.result) (back c.args.b c.ranges.b.sfits) c.clip.ensures.side

pub returns-then-are_on_side-clause-few : goal.returns-then-are_on_side-clause-few
returns-then-are_on_side-clause-few c = once_few c.args.p.now c.clip.result c.clip.ensures.few

-- ---- both clips

pub clip-requires-in-Some-clause-corners : goal.clip-requires-in-Some-clause-corners
clip-requires-in-Some-clause-corners c = omega (arith, c.in-Some.ensures.few, c.requires.corners)

first : (c : After-clip-in-Some) → IsClip (reflection c.args.first) c.args.a c.args.p.now (Some c.in-Some.half)
first c = subst (λ z. IsClip (reflection c.args.first) z c.args.p.now (Some c.in-Some.half)) (back c.args.a c.ranges.a.sfits) c.in-Some.ensures.clip

second : (c : After-clip-in-Some) → IsClip (reflection c.args.second) c.args.b c.in-Some.half c.clip-in-Some.result
second c = subst (λ z. IsClip (reflection c.args.second) z c.in-Some.half c.clip-in-Some.result) (back c.args.b c.ranges.b.sfits) c.clip-in-Some.ensures.clip

pub returns-in-Some-clause-part : goal.returns-in-Some-clause-part
returns-in-Some-clause-part c = second_part (reflection c.args.first) (reflection c.args.second) c.args.a c.args.b c.args.p.now c.in-Some.half c.clip-in-Some.result (first c) (second c)

pub returns-in-Some-clause-keeps : goal.returns-in-Some-clause-keeps
returns-in-Some-clause-keeps c =
    second_keeps (reflection c.args.first) (reflection c.args.second) c.args.a c.args.b c.args.p.now c.in-Some.half c.clip-in-Some.result
    (subst (λ z. KeepsSide (reflection c.args.first) z c.args.p.now (Some c.in-Some.half)) (back c.args.a c.ranges.a.sfits) c.in-Some.ensures.keeps)
    (subst (λ z. KeepsSide (reflection c.args.second) z c.in-Some.half c.clip-in-Some.result) (back c.args.b c.ranges.b.sfits) c.clip-in-Some.ensures.keeps)

pub returns-in-Some-clause-on_first : goal.returns-in-Some-clause-on_first
returns-in-Some-clause-on_first c =
    still_on_side c.args.first c.args.a c.in-Some.half c.clip-in-Some.result (first c).1.ordered (clip_corners (reflection c.args.second) c.args.b c.in-Some.half c.clip-in-Some.result (second c)) c.clip-in-Some.ensures.axes
    (subst (λ z. StaysOnSide (reflection c.args.first) z (Some c.in-Some.half)) (back c.args.a c.ranges.a.sfits) c.in-Some.ensures.side)

pub returns-in-Some-clause-on_second : goal.returns-in-Some-clause-on_second
returns-in-Some-clause-on_second c = subst (λ z. StaysOnSide (reflection c.args.second) z c.clip-in-Some.result) (back c.args.b c.ranges.b.sfits) c.clip-in-Some.ensures.side

pub returns-in-Some-clause-few : goal.returns-in-Some-clause-few
returns-in-Some-clause-few c = second_few c.args.p.now c.in-Some.half c.clip-in-Some.result c.in-Some.ensures.few c.clip-in-Some.ensures.few

pub returns-in-Some-clause-axes : goal.returns-in-Some-clause-axes
returns-in-Some-clause-axes c = second_in_box c.args.p.now c.in-Some.half c.clip-in-Some.result (first c).1.ordered c.in-Some.ensures.axes c.clip-in-Some.ensures.axes

-- ---- the first clip leaves nothing

pub returns-in-None-clause-part : goal.returns-in-None-clause-part
returns-in-None-clause-part c = inl (subst (λ z. IsClip (reflection c.args.first) z c.args.p.now None) (back c.args.a c.ranges.a.sfits) c.in-None.ensures.clip)

pub returns-in-None-clause-keeps : goal.returns-in-None-clause-keeps
returns-in-None-clause-keeps c q h on =
    let keeps : KeepsSide (reflection c.args.first) c.args.a c.args.p.now None = subst (λ z. KeepsSide (reflection c.args.first) z c.args.p.now None) (back c.args.a c.ranges.a.sfits) c.in-None.ensures.keeps in
    absurd (keeps q h on.0)
