use Rattle.std.proofs.Common.{◌≡◌, ◌∙◌, ◌<◌, ◌≤◌, sym, ap, subst, arith, length, get_or, ℕ, List, Option}
use Rattle.spot_terms.specs.Pieces.{Piece}
use Rattle.convex_poly.specs.declared.oct_numbers.OctNumbers.{OctNumbers}
use Rattle.participants.specs.Pieces.{IsFound}
use Rattle.participants.specs.Places.{IsKept}
use Rattle.participants.specs.Predictions.{Occupancies, IsSmall}
use Rattle.participants.specs.declared.participant.Participant.{Participant}
use Rattle.participants.proofs.FoundPieces.{among_found, fixed_found, person_found, rank_below}
use Rattle.participants.proofs.prediction.Prediction.parts.Goals as goal

pub returns-then-piece-fixed-clause-piece : goal.returns-then-piece-fixed-clause-piece
returns-then-piece-fixed-clause-piece c =
    let kept : IsKept c.args.self.now c.self.inside.places = subst (λ (o : Occupancies). IsKept o c.self.inside.places) c.self.view_is c.self.invariant in
    let fixed : c.self.inside.fixed.items ≡ c.args.self.now.fixed = ap (λ (o : Occupancies). o.fixed) c.self.view_is in
    let n : c.len-fixed.result ≡ length c.args.self.now.fixed = c.len-fixed.ensures ∙ (c.self.inside.fixed.ok.0 ∙ ap (λ (xs : List (ℕ × OctNumbers)). length xs) fixed) in
    fixed_found c.args.self.now c.self.inside.places kept c.args.step c.args.piece c.index.result.now (omega (arith, c.if-piece-fixed.true, n))
    (subst (λ (xs : List (ℕ × OctNumbers)). c.index.result.now ≡ get_or xs c.args.piece c.index.result.now) fixed c.index.ensures)

pub get-place-requires-clause-rank : goal.get-place-requires-clause-rank
get-place-requires-clause-rank c =
    let kept : IsKept c.args.self.now c.self.inside.places = subst (λ (o : Occupancies). IsKept o c.self.inside.places) c.self.view_is c.self.invariant in
    let fixed : c.self.inside.fixed.items ≡ c.args.self.now.fixed = ap (λ (o : Occupancies). o.fixed) c.self.view_is in
    let n : c.len-fixed.result ≡ length c.args.self.now.fixed = c.len-fixed.ensures ∙ (c.self.inside.fixed.ok.0 ∙ ap (λ (xs : List (ℕ × OctNumbers)). length xs) fixed) in
    let from : c.len-fixed.result ≤ c.args.piece = omega (arith, c.if-piece-fixed.false) in
    rank_below c.args.self.now c.self.inside.places kept c.args.step c.args.piece c.interval_of-interval.result c.len-fixed.result c.interval_of-interval.ensures n from c.requires.piece

pub index-requires-2 : goal.index-requires-2
index-requires-2 c =
    let kept : IsKept c.args.self.now c.self.inside.places = subst (λ (o : Occupancies). IsKept o c.self.inside.places) c.self.view_is c.self.invariant in
    let fixed : c.self.inside.fixed.items ≡ c.args.self.now.fixed = ap (λ (o : Occupancies). o.fixed) c.self.view_is in
    let n : c.len-fixed.result ≡ length c.args.self.now.fixed = c.len-fixed.ensures ∙ (c.self.inside.fixed.ok.0 ∙ ap (λ (xs : List (ℕ × OctNumbers)). length xs) fixed) in
    let from : c.len-fixed.result ≤ c.args.piece = omega (arith, c.if-piece-fixed.false) in
    let people : c.self.inside.participants.items ≡ c.args.self.now.participants = ap (λ (o : Occupancies). o.participants) c.self.view_is in
    let among = among_found c.args.self.now c.self.inside.places kept c.args.step c.args.piece c.interval_of-interval.result c.len-fixed.result c.get-place.result c.interval_of-interval.ensures n from c.get-place.ensures in
    let full : c.get-place.result.who < length c.self.inside.participants.items = subst (λ (xs : List Participant). c.get-place.result.who < length xs) (sym people) among in
    let long : c.self.inside.participants.len ≡ length c.self.inside.participants.items = c.self.inside.participants.ok.0 in
    omega (arith, full, long)

pub parts-requires-clause-interval : goal.parts-requires-clause-interval
parts-requires-clause-interval c =
    let kept : IsKept c.args.self.now c.self.inside.places = subst (λ (o : Occupancies). IsKept o c.self.inside.places) c.self.view_is c.self.invariant in
    let fixed : c.self.inside.fixed.items ≡ c.args.self.now.fixed = ap (λ (o : Occupancies). o.fixed) c.self.view_is in
    let n : c.len-fixed.result ≡ length c.args.self.now.fixed = c.len-fixed.ensures ∙ (c.self.inside.fixed.ok.0 ∙ ap (λ (xs : List (ℕ × OctNumbers)). length xs) fixed) in
    let from : c.len-fixed.result ≤ c.args.piece = omega (arith, c.if-piece-fixed.false) in
    let people : c.self.inside.participants.items ≡ c.args.self.now.participants = ap (λ (o : Occupancies). o.participants) c.self.view_is in
    let at = person_found c.args.self.now c.self.inside.places kept c.args.step c.args.piece c.interval_of-interval.result c.len-fixed.result c.get-place.result c.index-2.result.now c.requires.step c.interval_of-interval.ensures n from c.get-place.ensures
    (subst (λ (xs : List Participant). c.index-2.result.now ≡ get_or xs c.get-place.result.who c.index-2.result.now) people c.index-2.ensures) in
    at.long

pub parts-requires-clause-which : goal.parts-requires-clause-which
parts-requires-clause-which c =
    let kept : IsKept c.args.self.now c.self.inside.places = subst (λ (o : Occupancies). IsKept o c.self.inside.places) c.self.view_is c.self.invariant in
    let fixed : c.self.inside.fixed.items ≡ c.args.self.now.fixed = ap (λ (o : Occupancies). o.fixed) c.self.view_is in
    let n : c.len-fixed.result ≡ length c.args.self.now.fixed = c.len-fixed.ensures ∙ (c.self.inside.fixed.ok.0 ∙ ap (λ (xs : List (ℕ × OctNumbers)). length xs) fixed) in
    let from : c.len-fixed.result ≤ c.args.piece = omega (arith, c.if-piece-fixed.false) in
    let people : c.self.inside.participants.items ≡ c.args.self.now.participants = ap (λ (o : Occupancies). o.participants) c.self.view_is in
    let at = person_found c.args.self.now c.self.inside.places kept c.args.step c.args.piece c.interval_of-interval.result c.len-fixed.result c.get-place.result c.index-2.result.now c.requires.step c.interval_of-interval.ensures n from c.get-place.ensures
    (subst (λ (xs : List Participant). c.index-2.result.now ≡ get_or xs c.get-place.result.who c.index-2.result.now) people c.index-2.ensures) in
    at.which

pub returns-clause-small : goal.returns-clause-small
returns-clause-small c =
    let kept : IsKept c.args.self.now c.self.inside.places = subst (λ (o : Occupancies). IsKept o c.self.inside.places) c.self.view_is c.self.invariant in
    let fixed : c.self.inside.fixed.items ≡ c.args.self.now.fixed = ap (λ (o : Occupancies). o.fixed) c.self.view_is in
    let n : c.len-fixed.result ≡ length c.args.self.now.fixed = c.len-fixed.ensures ∙ (c.self.inside.fixed.ok.0 ∙ ap (λ (xs : List (ℕ × OctNumbers)). length xs) fixed) in
    let from : c.len-fixed.result ≤ c.args.piece = omega (arith, c.if-piece-fixed.false) in
    let people : c.self.inside.participants.items ≡ c.args.self.now.participants = ap (λ (o : Occupancies). o.participants) c.self.view_is in
    let at = person_found c.args.self.now c.self.inside.places kept c.args.step c.args.piece c.interval_of-interval.result c.len-fixed.result c.get-place.result c.index-2.result.now c.requires.step c.interval_of-interval.ensures n from c.get-place.ensures
    (subst (λ (xs : List Participant). c.index-2.result.now ≡ get_or xs c.get-place.result.who c.index-2.result.now) people c.index-2.ensures) in
    subst IsSmall (sym c.parts.ensures.octagon) at.small

pub returns-clause-piece : goal.returns-clause-piece
returns-clause-piece c =
    let kept : IsKept c.args.self.now c.self.inside.places = subst (λ (o : Occupancies). IsKept o c.self.inside.places) c.self.view_is c.self.invariant in
    let fixed : c.self.inside.fixed.items ≡ c.args.self.now.fixed = ap (λ (o : Occupancies). o.fixed) c.self.view_is in
    let n : c.len-fixed.result ≡ length c.args.self.now.fixed = c.len-fixed.ensures ∙ (c.self.inside.fixed.ok.0 ∙ ap (λ (xs : List (ℕ × OctNumbers)). length xs) fixed) in
    let from : c.len-fixed.result ≤ c.args.piece = omega (arith, c.if-piece-fixed.false) in
    let people : c.self.inside.participants.items ≡ c.args.self.now.participants = ap (λ (o : Occupancies). o.participants) c.self.view_is in
    let at = person_found c.args.self.now c.self.inside.places kept c.args.step c.args.piece c.interval_of-interval.result c.len-fixed.result c.get-place.result c.index-2.result.now c.requires.step c.interval_of-interval.ensures n from c.get-place.ensures
    (subst (λ (xs : List Participant). c.index-2.result.now ≡ get_or xs c.get-place.result.who c.index-2.result.now) people c.index-2.ensures) in
    subst (λ (q : Option Piece). IsFound q c.parts.result.0.now c.parts.result.1) (sym at.is) c.parts.ensures.piece
