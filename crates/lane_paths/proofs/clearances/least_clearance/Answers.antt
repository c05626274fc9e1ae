use Rattle.std.proofs.Common.{◌+◌, ◌-◌, arith, drop, get_or, length, List, subst, sym, ◌≡◌, take}
use Rattle.std.proofs.lemmas.List.{length-drop, take_all}
use Rattle.std.specs.List.{AllByRecursion}
use Rattle.spot_terms.specs.declared.plain.Pt.{Pt}
use Rattle.spot_terms.proofs.ListLemmas.{includes_at}
use Rattle.convex_poly.proofs.Corners.{origin}
use Rattle.spot_terms.proofs.Places.{all_at}
use Rattle.convex_poly.specs.Vectors.{IsShort}
use Rattle.lane_paths.specs.Clearances.{IsLesserClearance, ReachesTo}
use Rattle.lane_paths.proofs.LeastClearances.{least_none, least_more, least_all, rest_reached, small_reach}
use Rattle.lane_paths.proofs.clearances.least_clearance.Goals as goal

pub loop-i-init : goal.loop-i-init
loop-i-init c = least_none c.args.vectors.now c.least_size-least.result c.least_size-least.ensures

pub lesser_clearance-least-requires-clause-u_reached : goal.lesser_clearance-least-requires-clause-u_reached
lesser_clearance-least-requires-clause-u_reached c = c.loop-i.invariant.reached (get_or c.args.vectors.now c.loop-i.i origin) (includes_at c.args.vectors.now c.loop-i.i origin c.loop-i-test.true)

pub lesser_clearance-least-requires-clause-reached : goal.lesser_clearance-least-requires-clause-reached
lesser_clearance-least-requires-clause-reached c =
    let vectors : List Pt = c.args.vectors.now in
    let rest : List Pt = drop (c.loop-i.i + 1) vectors in
    let all : take (length vectors - (c.loop-i.i + 1)) rest ≡ rest = take_all (length vectors - (c.loop-i.i + 1)) rest (omega (arith, length-drop (c.loop-i.i + 1) vectors)) in
    subst (λ (l : List Pt). AllByRecursion (ReachesTo c.loop-i.least) l) (sym all) (rest_reached vectors (c.loop-i.i + 1) c.loop-i.least c.loop-i.invariant.reached)

pub loop-i-preserved : goal.loop-i-preserved
loop-i-preserved c =
    let vectors : List Pt = c.args.vectors.now in
    let rest : List Pt = drop (c.loop-i.i + 1) vectors in
    least_more vectors c.loop-i.i origin c.loop-i.least c.lesser_clearance-least.result c.loop-i-test.true c.loop-i.invariant
    (subst (λ (l : List Pt). IsLesserClearance c.loop-i.least (get_or vectors c.loop-i.i origin) l c.lesser_clearance-least.result) (take_all (length vectors - (c.loop-i.i + 1)) rest (omega (arith, length-drop (c.loop-i.i + 1) vectors))) c.lesser_clearance-least.ensures)

pub returns-clause-is : goal.returns-clause-is
returns-clause-is c = least_all c.args.vectors.now c.loop-i.i c.loop-i.least c.loop-i-test.false c.loop-i.invariant

pub returns-clause-within : goal.returns-clause-within
returns-clause-within c =
    let first : Pt = get_or c.args.vectors.now 0 origin in
    small_reach first c.loop-i.least (all_at IsShort c.args.vectors.now 0 origin c.requires.small c.requires.some) (c.loop-i.invariant.reached first (includes_at c.args.vectors.now 0 origin c.requires.some))
