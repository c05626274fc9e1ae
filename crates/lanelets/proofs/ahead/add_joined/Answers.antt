use Rattle.std.proofs.Common.{◌∙◌, ◌∷◌, [], ◌++◌, ℕ, List, get_or, take, subst, sym}
use Rattle.std.proofs.lemmas.List.{take_more}
use Rattle.lanelets.specs.Listing.{Gathers}
use Rattle.lanelets.specs.Steps.{IsJoined, IsJoinedFrom}
use Rattle.lanelets.proofs.StepLists.{joined_more, joined_skip}
use Rattle.lanelets.proofs.ahead.add_joined.Goals as goal
use Rattle.lanelets.proofs.ahead.add_joined.Goals.{then-is_joined+in_ok-extend, else-is_joined}

pub loop-e-preserved : goal.loop-e-preserved
loop-e-preserved c =
    let lanes = c.args.lanes.now.entries in
    let y : ℕ = get_or c.args.sources.now c.loop-e.e-index 0 in
    let xs : List ℕ = take c.loop-e.e-index c.args.sources.now in
    let more = take_more c.args.sources.now c.loop-e.e-index 0 c.loop-e-test.true in
    let next : Gathers (IsJoinedFrom lanes (xs ++ y ∷ []) c.args.f c.args.ends.now) c.args.row.now c.if-is_joined.row = elim c.if-is_joined.branch [
      | then-is_joined+in_ok-extend w ↦
          joined_more lanes xs y c.args.f c.args.ends.now w.list_at.result.now c.args.row.now c.loop-e.row c.if-is_joined.row c.loop-e.invariant w.list_at.ensures (c.is_joined.ensures.0 w.if-is_joined.true) (w.row-is ∙ w.in_ok-extend.ensures)
      | else-is_joined w ↦ (let never : IsJoined lanes y c.args.f → ⊥ = λ j. (let t = c.is_joined.ensures.1 j in let f = w.if-is_joined.false in cc) in
          subst (Gathers (IsJoinedFrom lanes (xs ++ y ∷ []) c.args.f c.args.ends.now) c.args.row.now) (sym w.row-is) (joined_skip lanes xs y c.args.f c.args.ends.now c.args.row.now c.loop-e.row c.loop-e.invariant never))
    ] in
    subst (λ (zs : List ℕ). Gathers (IsJoinedFrom lanes zs c.args.f c.args.ends.now) c.args.row.now c.if-is_joined.row) (sym more) next
