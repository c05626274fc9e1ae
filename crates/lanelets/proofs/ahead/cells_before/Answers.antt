use Rattle.std.proofs.Common.{◌≡◌, ◌∙◌, ◌++◌, length, ap, arith}
use Rattle.spot_terms.specs.declared.network.Origin.TheVariants.{Part, Bridge}
use Rattle.lanelets.specs.Steps.{net_of, IsInside}
use Rattle.lanelets.proofs.StepLists.{origin_inside, before_bridge, before_first, before_part}
use Rattle.lanelets.proofs.ahead.cells_before.Goals as goal
use Rattle.lanelets.proofs.ahead.cells_before.Goals.{in-Bridge+in_ok-extend-in-Bridge, in-Part+in_ok-add_previous-in-Part+then-is_first+in_ok-add_onto_first-in-Part, in-Part+in_ok-add_previous-in-Part+else-is_first}

pub list_at-requires : goal.list_at-requires
list_at-requires c =
    let inside : IsInside (length c.args.lanes.now.entries) (Bridge c.in-Bridge.from c.in-Bridge.to) = origin_inside (length c.args.lanes.now.entries) c.args.cells.now c.args.d (Bridge c.in-Bridge.from c.in-Bridge.to) c.requires.inside c.in-Bridge.ensures.is in
    let low = inside.0 in let many = c.requires.joints.ends.many in let same = ap length c.deref.ensures.value in
    omega (arith, low, many, same)

pub add_onto_first-requires-clause-within : goal.add_onto_first-requires-clause-within
add_onto_first-requires-clause-within c = origin_inside (length c.args.lanes.now.entries) c.args.cells.now c.args.d (Part c.in-Part.lane c.in-Part.piece c.in-Part.part _) c.requires.inside c.in-Part.ensures.is

pub returns : goal.returns
returns c =
    let lanes = c.args.lanes.now.entries in
    let net = net_of c.args.cells.now in
    elim c.match-origin_at.branch [
      | in-Bridge+in_ok-extend-in-Bridge w ↦
          before_bridge lanes net c.args.joints.now c.args.d w.in-Bridge.from w.in-Bridge.to w.list_at.result.now c.match-origin_at.row w.in-Bridge.ensures.is c.requires.joints (rw w.deref.ensures.value at w.list_at.ensures)
          (w.row-is ∙ w.in_ok-extend-in-Bridge.ensures ∙ ap (λ xs. xs ++ w.list_at.result.now) c.new-row.ensures)
      | in-Part+in_ok-add_previous-in-Part+then-is_first+in_ok-add_onto_first-in-Part w ↦ (
          let low = origin_inside (length lanes) c.args.cells.now c.args.d (Part w.in-Part.lane w.in-Part.piece w.in-Part.part w.in-Part.parts) c.requires.inside w.in-Part.ensures.is in
          before_first lanes net c.args.links.now c.args.joints.now c.args.d w.in-Part.lane w.in-Part.piece w.in-Part.part w.in-Part.parts c.new-row.result w.add_previous.new.row c.match-origin_at.row w.in-Part.ensures.is
          (w.is_first.ensures.0 w.if-is_first.true) c.new-row.ensures low c.requires.links c.requires.joints w.in_ok-add_previous-in-Part.ensures (rw w.row-is w.in_ok-add_onto_first-in-Part.ensures))
      | in-Part+in_ok-add_previous-in-Part+else-is_first w ↦ (
          let later : (w.in-Part.piece ≡ 0) × (w.in-Part.part ≡ 0) → ⊥ = λ p. (let t = w.is_first.ensures.1 p in let f = w.if-is_first.false in cc) in
          before_part lanes net c.args.d w.in-Part.lane w.in-Part.piece w.in-Part.part w.in-Part.parts c.new-row.result c.match-origin_at.row w.in-Part.ensures.is later c.new-row.ensures (rw w.row-is w.in_ok-add_previous-in-Part.ensures))
    ]
