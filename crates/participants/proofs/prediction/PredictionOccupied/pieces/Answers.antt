use Rattle.std.proofs.Common.{◌≡◌, ◌∙◌, ap, subst, arith, length, ℕ, List}
use Rattle.convex_poly.specs.declared.oct_numbers.OctNumbers.{OctNumbers}
use Rattle.participants.specs.Places.{IsKept}
use Rattle.participants.specs.Predictions.{Occupancies}
use Rattle.participants.proofs.FoundPieces.{count_is, few_pieces}
use Rattle.participants.proofs.prediction.PredictionOccupied.pieces.Goals as goal

pub overflow_add-result : goal.overflow_add-result
overflow_add-result c =
    let kept : IsKept c.args.self.now c.self.inside.places = subst (λ (o : Occupancies). IsKept o c.self.inside.places) c.self.view_is c.self.invariant in
    let fixed : c.self.inside.fixed.items ≡ c.args.self.now.fixed = ap (λ (o : Occupancies). o.fixed) c.self.view_is in
    let n : c.len.result ≡ length c.args.self.now.fixed = c.len.ensures ∙ (c.self.inside.fixed.ok.0 ∙ ap (λ (xs : List (ℕ × OctNumbers)). length xs) fixed) in
    let few = few_pieces c.args.self.now c.self.inside.places kept c.interval_of.result in
    omega (arith, few, n, c.count.ensures)

pub returns : goal.returns
returns c =
    let kept : IsKept c.args.self.now c.self.inside.places = subst (λ (o : Occupancies). IsKept o c.self.inside.places) c.self.view_is c.self.invariant in
    let fixed : c.self.inside.fixed.items ≡ c.args.self.now.fixed = ap (λ (o : Occupancies). o.fixed) c.self.view_is in
    let n : c.len.result ≡ length c.args.self.now.fixed = c.len.ensures ∙ (c.self.inside.fixed.ok.0 ∙ ap (λ (xs : List (ℕ × OctNumbers)). length xs) fixed) in
    let total = count_is c.args.self.now c.self.inside.places kept c.args.step c.interval_of.result c.interval_of.ensures in
    omega (arith, total, n, c.count.ensures)
