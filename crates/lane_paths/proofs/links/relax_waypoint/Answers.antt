use Rattle.std.proofs.Common.{ℕ, refl, sym, subst}
use Rattle.spot_terms.specs.Cells.{cells}
use Rattle.lanelets.specs.Beside.{IsBeside}
use Rattle.lane_paths.specs.Waypoints.{LinksBeside}
use Rattle.lane_paths.proofs.ClosedLaws.{class_first, class_settled, classes_more, classes_on}
use Rattle.lane_paths.proofs.links.relax_waypoint.Goals as goal

pub first_of-first-requires : goal.first_of-first-requires
first_of-first-requires c = (class_first c.args.net.now c.args.from.now.cell c.beside-class.result.now c.requires.within c.beside-class.ensures).0

pub returns-then-is_closed-clause-relaxes : goal.returns-then-is_closed-clause-relaxes
returns-then-is_closed-clause-relaxes c = λ p i w.
    let b = (class_first c.args.net.now c.args.from.now.cell c.beside-class.result.now c.requires.within c.beside-class.ensures).1 in
    class_settled c.args.net.now p i c.args.from.now.cell c.args.from.now.length c.first_of-first.result c.args.closed.now c.args.search.now c.requires.closed
    (subst (λ (z : ℕ). IsBeside c.args.net.now (cells c.args.net.now) z c.args.from.now.cell) (sym c.first_of-first.ensures) b) (c.is_closed.ensures c.if-is_closed.true)

pub returns-in_ok-close-clause-closed : goal.returns-in_ok-close-clause-closed
returns-in_ok-close-clause-closed c =
    let net = c.args.net.now in
    let (p, i, w) = c.requires.waypoint in
    let (some, b, low) = class_first net c.args.from.now.cell c.beside-class.result.now c.requires.within c.beside-class.ensures in
    let e = c.first_of-first.ensures in
    let lengths = c.relax_blocks.new.search.lengths in
    let k = classes_on net (LinksBeside net p i c.args.from.now.cell) c.args.from.now.length c.args.search.now c.relax_blocks.new.search c.args.closed.now (record { blocks = c.relax_blocks.new.closed; classes = c.args.closed.now.classes }) (c.in_ok-relax_blocks.ensures.relaxes p i w) refl c.requires.closed c.in_ok-relax_blocks.ensures.closed in
    classes_more net lengths c.args.from.now.cell c.in-Some.most c.first_of-first.result c.beside-class.result.now _ (record { blocks = c.relax_blocks.new.closed; classes = c.close.new.self }) k (subst (λ (z : ℕ). IsBeside net (cells net) z c.args.from.now.cell) (sym e) b) c.beside-class.ensures
    (c.in-Some.ensures net lengths c.args.from.now.cell c.in_ok-relax_blocks.ensures.closed c.beside-class.ensures) refl c.in_ok-close.ensures

pub returns-in_default-clause-closed : goal.returns-in_default-clause-closed
returns-in_default-clause-closed c =
    let net = c.args.net.now in
    let (p, i, w) = c.requires.waypoint in
    classes_on net (LinksBeside net p i c.args.from.now.cell) c.args.from.now.length c.args.search.now c.relax_blocks.new.search c.args.closed.now (record { blocks = c.relax_blocks.new.closed; classes = c.args.closed.now.classes }) (c.in_ok-relax_blocks.ensures.relaxes p i w) refl c.requires.closed c.in_ok-relax_blocks.ensures.closed
