use Rattle.std.proofs.Common.{◌<◌, ℕ, List, [], ◌∷◌, ◌++◌, get_or, length, take, sym, ◌∙◌, subst}
use Rattle.std.proofs.lemmas.List.{take_more, take_all}
use Rattle.spot_terms.specs.Lists.{Includes}
use Rattle.spot_terms.specs.Network.{IsSide}
use Rattle.lanelets.specs.Listing.{Gathers}
use Rattle.lanelets.specs.Steps.{net_of}
use Rattle.lanelets.proofs.PairLists.{among_none, among_more, among_less}
use Rattle.lanelets.proofs.pairs.add_among.Goals as goal
use Rattle.lanelets.proofs.pairs.add_among.Goals.{then-are_side_cells+in_ok-push, else-are_side_cells}
use Rattle.spot_terms.proofs.Places.{all_at}
use Rattle.spot_terms.proofs.Orders.{true_not_false}

pub loop-d-init : goal.loop-d-init
loop-d-init c = λ every k. among_none every (net_of c.args.cells.now) c.args.c c.args.pairs.now

pub are_side_cells-requires-clause-second : goal.are_side_cells-requires-clause-second
are_side_cells-requires-clause-second c = all_at (λ x. x < length c.args.cells.now) c.args.list.now c.loop-d.d-index 0 c.requires.list c.loop-d-test.true

pub loop-d-preserved : goal.loop-d-preserved
loop-d-preserved c = λ every k.
    let net = net_of c.args.cells.now in
    let d : ℕ = get_or c.args.list.now c.loop-d.d-index 0 in
    let list : List ℕ = take c.loop-d.d-index c.args.list.now in
    let more = take_more c.args.list.now c.loop-d.d-index 0 c.loop-d-test.true in
    let next : Gathers (λ x. Includes (list ++ d ∷ []) x × IsSide every net c.args.c x) c.args.pairs.now c.if-are_side_cells.pairs = elim c.if-are_side_cells.branch [
      | then-are_side_cells+in_ok-push w ↦ among_more every net c.args.c list d c.args.pairs.now c.loop-d.pairs c.if-are_side_cells.pairs ((c.are_side_cells.ensures every k).0 w.if-are_side_cells.true) (w.pairs-is ∙ w.in_ok-push.ensures) (c.loop-d.invariant every k)
      | else-are_side_cells w ↦ subst (λ v. Gathers (λ x. Includes (list ++ d ∷ []) x × IsSide every net c.args.c x) c.args.pairs.now v) (sym w.pairs-is)
          (among_less every net c.args.c list d c.args.pairs.now c.loop-d.pairs (λ s. true_not_false c.are_side_cells.result ((c.are_side_cells.ensures every k).1 s) w.if-are_side_cells.false) (c.loop-d.invariant every k))
    ] in
    subst (λ (zs : List ℕ). Gathers (λ x. Includes zs x × IsSide every net c.args.c x) c.args.pairs.now c.if-are_side_cells.pairs) (sym more) next

pub returns : goal.returns
returns c = λ every k. let all = take_all c.loop-d.d-index c.args.list.now c.loop-d-test.false in
    subst (λ (zs : List ℕ). Gathers (λ x. Includes zs x × IsSide every (net_of c.args.cells.now) c.args.c x) c.args.pairs.now c.loop-d.pairs) all (c.loop-d.invariant every k)
