use Rattle.std.proofs.Common.{◌≡◌, ◌∙◌, ◌<◌, ◌≤◌, sym, ap, subst, arith, length, get_or, refl, ℕ, List}
use Rattle.std.specs.Prelude.{slice_index_or}
use Rattle.spot_terms.specs.Pieces.{octagon}
use Rattle.convex_poly.specs.declared.oct_numbers.OctNumbers.{OctNumbers}
use Rattle.participants.specs.Pieces.{no_octagon, pieces_at, HasOutline}
use Rattle.participants.specs.Places.{nobody, IsKept}
use Rattle.participants.specs.Predictions.{Occupancies, IsSmall}
use Rattle.participants.specs.declared.participant.Participant.{Participant}
use Rattle.participants.proofs.FoundPieces.{among_found, fixed_found, place_found, rank_below}
use Rattle.participants.proofs.prediction.Prediction.outline.Goals as goal

pub returns-then-piece-fixed-clause-piece : goal.returns-then-piece-fixed-clause-piece
returns-then-piece-fixed-clause-piece c =
    let kept : IsKept c.args.self.now c.self.inside.places = subst (λ (o : Occupancies). IsKept o c.self.inside.places) c.self.view_is c.self.invariant in
    let fixed : c.self.inside.fixed.items ≡ c.args.self.now.fixed = ap (λ (o : Occupancies). o.fixed) c.self.view_is in
    let n : c.len-fixed.result ≡ length c.args.self.now.fixed = c.len-fixed.ensures ∙ (c.self.inside.fixed.ok.0 ∙ ap (λ (xs : List (ℕ × OctNumbers)). length xs) fixed) in (
      octagon c.index.result.now.1.n,
      fixed_found c.args.self.now c.self.inside.places kept c.args.step c.args.piece c.index.result.now (omega (arith, c.if-piece-fixed.true, n))
          (subst (λ (xs : List (ℕ × OctNumbers)). c.index.result.now ≡ get_or xs c.args.piece c.index.result.now) fixed c.index.ensures),
      refl,
    )

pub get-place-requires-clause-rank : goal.get-place-requires-clause-rank
get-place-requires-clause-rank c =
    let kept : IsKept c.args.self.now c.self.inside.places = subst (λ (o : Occupancies). IsKept o c.self.inside.places) c.self.view_is c.self.invariant in
    let fixed : c.self.inside.fixed.items ≡ c.args.self.now.fixed = ap (λ (o : Occupancies). o.fixed) c.self.view_is in
    let n : c.len-fixed.result ≡ length c.args.self.now.fixed = c.len-fixed.ensures ∙ (c.self.inside.fixed.ok.0 ∙ ap (λ (xs : List (ℕ × OctNumbers)). length xs) fixed) in
    rank_below c.args.self.now c.self.inside.places kept c.args.step c.args.piece c.interval_of-interval.result c.len-fixed.result c.interval_of-interval.ensures n (omega (arith, c.if-piece-fixed.false)) c.requires.piece

pub octagon_in-octagon-requires-clause-who : goal.octagon_in-octagon-requires-clause-who
octagon_in-octagon-requires-clause-who c =
    let kept : IsKept c.args.self.now c.self.inside.places = subst (λ (o : Occupancies). IsKept o c.self.inside.places) c.self.view_is c.self.invariant in
    let fixed : c.self.inside.fixed.items ≡ c.args.self.now.fixed = ap (λ (o : Occupancies). o.fixed) c.self.view_is in
    let n : c.len-fixed.result ≡ length c.args.self.now.fixed = c.len-fixed.ensures ∙ (c.self.inside.fixed.ok.0 ∙ ap (λ (xs : List (ℕ × OctNumbers)). length xs) fixed) in
    let from : c.len-fixed.result ≤ c.args.piece = omega (arith, c.if-piece-fixed.false) in
    let people : c.deref.result.now ≡ c.args.self.now.participants = c.deref.ensures.value ∙ ap (λ (o : Occupancies). o.participants) c.self.view_is in
    subst (λ (xs : List Participant). c.get-place.result.who < length xs) (sym people)
    (among_found c.args.self.now c.self.inside.places kept c.args.step c.args.piece c.interval_of-interval.result c.len-fixed.result c.get-place.result c.interval_of-interval.ensures n from c.get-place.ensures)

pub octagon_in-octagon-requires-clause-interval : goal.octagon_in-octagon-requires-clause-interval
octagon_in-octagon-requires-clause-interval c =
    let kept : IsKept c.args.self.now c.self.inside.places = subst (λ (o : Occupancies). IsKept o c.self.inside.places) c.self.view_is c.self.invariant in
    let fixed : c.self.inside.fixed.items ≡ c.args.self.now.fixed = ap (λ (o : Occupancies). o.fixed) c.self.view_is in
    let n : c.len-fixed.result ≡ length c.args.self.now.fixed = c.len-fixed.ensures ∙ (c.self.inside.fixed.ok.0 ∙ ap (λ (xs : List (ℕ × OctNumbers)). length xs) fixed) in
    let from : c.len-fixed.result ≤ c.args.piece = omega (arith, c.if-piece-fixed.false) in
    let people : c.deref.result.now ≡ c.args.self.now.participants = c.deref.ensures.value ∙ ap (λ (o : Occupancies). o.participants) c.self.view_is in
    let at = place_found c.args.self.now c.self.inside.places kept c.args.step c.args.piece c.interval_of-interval.result c.len-fixed.result c.get-place.result c.requires.step c.interval_of-interval.ensures n from c.get-place.ensures in
    subst (λ (xs : List Participant). c.interval_of-interval.result < length (slice_index_or xs c.get-place.result.who nobody).octs) (sym people) at.long

pub returns-clause-small : goal.returns-clause-small
returns-clause-small c =
    let kept : IsKept c.args.self.now c.self.inside.places = subst (λ (o : Occupancies). IsKept o c.self.inside.places) c.self.view_is c.self.invariant in
    let fixed : c.self.inside.fixed.items ≡ c.args.self.now.fixed = ap (λ (o : Occupancies). o.fixed) c.self.view_is in
    let n : c.len-fixed.result ≡ length c.args.self.now.fixed = c.len-fixed.ensures ∙ (c.self.inside.fixed.ok.0 ∙ ap (λ (xs : List (ℕ × OctNumbers)). length xs) fixed) in
    let from : c.len-fixed.result ≤ c.args.piece = omega (arith, c.if-piece-fixed.false) in
    let people : c.deref.result.now ≡ c.args.self.now.participants = c.deref.ensures.value ∙ ap (λ (o : Occupancies). o.participants) c.self.view_is in
    let at = place_found c.args.self.now c.self.inside.places kept c.args.step c.args.piece c.interval_of-interval.result c.len-fixed.result c.get-place.result c.requires.step c.interval_of-interval.ensures n from c.get-place.ensures in
    let same = subst (λ (xs : List Participant). c.octagon_in-octagon.result.now ≡ slice_index_or (slice_index_or xs c.get-place.result.who nobody).octs c.interval_of-interval.result no_octagon) people c.octagon_in-octagon.ensures in
    subst IsSmall (sym same) at.small

pub returns-clause-piece : goal.returns-clause-piece
returns-clause-piece c =
    let kept : IsKept c.args.self.now c.self.inside.places = subst (λ (o : Occupancies). IsKept o c.self.inside.places) c.self.view_is c.self.invariant in
    let fixed : c.self.inside.fixed.items ≡ c.args.self.now.fixed = ap (λ (o : Occupancies). o.fixed) c.self.view_is in
    let n : c.len-fixed.result ≡ length c.args.self.now.fixed = c.len-fixed.ensures ∙ (c.self.inside.fixed.ok.0 ∙ ap (λ (xs : List (ℕ × OctNumbers)). length xs) fixed) in
    let from : c.len-fixed.result ≤ c.args.piece = omega (arith, c.if-piece-fixed.false) in
    let people : c.deref.result.now ≡ c.args.self.now.participants = c.deref.ensures.value ∙ ap (λ (o : Occupancies). o.participants) c.self.view_is in
    let at = place_found c.args.self.now c.self.inside.places kept c.args.step c.args.piece c.interval_of-interval.result c.len-fixed.result c.get-place.result c.requires.step c.interval_of-interval.ensures n from c.get-place.ensures in
    let same = subst (λ (xs : List Participant). c.octagon_in-octagon.result.now ≡ slice_index_or (slice_index_or xs c.get-place.result.who nobody).octs c.interval_of-interval.result no_octagon) people c.octagon_in-octagon.ensures in
    subst (λ (x : OctNumbers). HasOutline (pieces_at c.args.self.now c.args.step) c.args.piece x c.get-place.result.bounds) (sym same) at.outline
