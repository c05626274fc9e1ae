use Rattle.std.proofs.Common.{◌≡◌, inl, inr, refl, false, true}
use Rattle.spot_terms.specs.Gaps.{AreFar}
use Rattle.lane_paths.specs.GapBounds.{IsGapBound}
use Rattle.lane_paths.proofs.GapBounds.{bound_below}
use Rattle.lane_paths.proofs.gaps.gap_at_least.Goals as goal

pub returns-then-are_far : goal.returns-then-are_far
returns-then-are_far c =
    let a = c.args.a.now in
    let b = c.args.b.now in
    let bound : IsGapBound a b 0 = inl ((c.are_far.ensures a b c.of-a_box.ensures c.of-b_box.ensures).0 c.if-are_far.true, refl) in
    record { bound = bound; least = λ g k. bound_below a b 0 g bound k }

pub returns-else-are_far : goal.returns-else-are_far
returns-else-are_far c =
    let a = c.args.a.now in
    let b = c.args.b.now in
    let near : AreFar a b → ⊥ = λ far. let yes : c.are_far.result ≡ true = (c.are_far.ensures a b c.of-a_box.ensures c.of-b_box.ensures).1 far in let no : c.are_far.result ≡ false = c.if-are_far.false in cc in
    let bound : IsGapBound a b c.beside.result = inr (near, c.beside.ensures a b c.of-a_box.ensures c.of-b_box.ensures) in
    record { bound = bound; least = λ g k. bound_below a b c.beside.result g bound k }
