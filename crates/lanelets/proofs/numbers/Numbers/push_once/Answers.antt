use Rattle.std.proofs.Common.{◌≡◌, subst, sym}
use Rattle.std.specs.Prelude.{Some, slice_get, length, ◌-◌}
use Rattle.indexmap.proofs.MapLemmas.{OnOk-map}
use Rattle.lanelets.specs.Listing.{IsWith}
use Rattle.lanelets.proofs.NumberLists.{gains_same, with_pushed}
use Rattle.lanelets.proofs.numbers.Numbers.push_once.Goals as goal
use Rattle.spot_terms.proofs.ItemPlaces.{got_included}

pub returns-then-ends_with : goal.returns-then-ends_with
returns-then-ends_with c = gains_same (Unit {0}) c.args.n c.args.self.now (λ u. got_included c.args.self.now _ c.args.n (c.ends_with.ensures.0 c.if-ends_with.true))

pub returns : goal.returns
returns c =
    let other : slice_get c.args.self.now (length c.args.self.now - 1) ≡ Some c.args.n → ⊥ = λ e. (let t = c.ends_with.ensures.1 e in let f = c.if-ends_with.false in cc) in
    OnOk-map c.push.result _ _ (λ e. subst (IsWith c.args.self.now c.args.n) (sym e) (with_pushed c.args.n c.args.self.now other)) c.push.ensures
