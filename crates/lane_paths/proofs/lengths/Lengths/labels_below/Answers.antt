use Rattle.std.proofs.Common.{ℕ, List, subst, sym, take}
use Rattle.std.proofs.lemmas.Result.{IfOk-weaker}
use Rattle.std.specs.Prelude.{Option}
use Rattle.spot_terms.specs.Lists.{Includes}
use Rattle.lane_paths.specs.Reached.{AreListed, AreListedOf}
use Rattle.lane_paths.proofs.ReachedLists.{listed_all}
use Rattle.lane_paths.proofs.lengths.Lengths.labels_below.Goals as goal

pub returns : goal.returns
returns c = IfOk-weaker c.labels_of.result _ _ (λ labels h.
    subst (λ (z : List (Option ℕ)). AreListed (take c.args.count z) labels.items) c.self.view_is
    (listed_all c.self.inside.lengths.items c.self.inside.reached.items c.in_ok-cells.cells.items c.args.count labels.items c.self.invariant
    (λ i j low. c.in_ok-cells.ensures.all i (subst (λ (z : List ℕ). Includes z i) (sym c.deref.ensures.value) j) low) c.in_ok-cells.ensures.within
    (subst (λ (z : List (Option ℕ)). AreListedOf z c.in_ok-cells.cells.items labels.items) c.deref-2.ensures.value (subst (λ (z : List ℕ). AreListedOf c.deref-2.result.now z labels.items) c.deref-3.ensures.value h)))) c.labels_of.ensures
