use Rattle.std.proofs.Common.{arith, subst, List, ℕ}
use Rattle.spot_terms.proofs.ListLemmas.{pairwise_length}
use Rattle.participants.specs.Places.{places_in, ArePlaces}
use Rattle.participants.specs.Predictions.{IsFixedOctagon}
use Rattle.participants.specs.declared.participant.Participant.{Participant}
use Rattle.participants.proofs.prediction.prediction_of.Goals as goal

pub invariant_of-result : goal.invariant_of-result
invariant_of-result c =
    let long = pairwise_length IsFixedOctagon c.args.s.now.fixed c.in_ok-fixed.fixed.items c.in_ok-fixed.ensures.exact in
    let few = c.args.s.now.in_range.few in
    let less = c.requires.few in
    record {
      participants = c.requires.small;
      fixed = c.in_ok-fixed.ensures.small;
      some = c.requires.steps.0;
      few = omega (arith, long, few, less);
      intervals = c.in_ok-places.ensures.intervals;
      few_places = c.in_ok-places.ensures.few;
      places = subst (λ (ps : List Participant). (m : ℕ) → ArePlaces ps m (places_in m c.in_ok-places.places.places)) c.deref.ensures.value c.in_ok-places.ensures.places;
    }
