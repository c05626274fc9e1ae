use Rattle.std.proofs.Common.{List, ℕ, ◌≡◌, subst, sym, arith}
use Rattle.std.specs.List.{AllByRecursion}
use Rattle.spot_terms.specs.Cells.{Lane}
use Rattle.spot_terms.specs.Lists.{Pairwise}
use Rattle.spot_terms.specs.Participants.{starting}
use Rattle.spot_terms.specs.declared.scenario.Scenario.{Scenario}
use Rattle.spot_terms.proofs.ListLemmas.{pairwise_each}
use Rattle.participants.specs.Outsets.{AreGathered, IsHolding}
use Rattle.participants.specs.Predictions.{IsParticipant, HoldsMotions}
use Rattle.participants.specs.declared.participant.Participant.{Participant}
use Rattle.participants.proofs.OneNumber.{pairs_one}
use Rattle.participants.proofs.Outsets.{all_second}
use Rattle.participants.proofs.PieceLists.{has_pieces, participants_few}
use Rattle.participants.proofs.prediction.predict.Goals as goal

-- what is gathered over a network is so over the scenario's lanelets
gathered : (s : Scenario) (net : List Lane) (steps pairs : ℕ) (ps : List Participant) → net ≡ s.lanelets.entries → AreGathered net s.step steps (starting s.movers) pairs ps → AreGathered s.lanelets.entries s.step steps (starting s.movers) pairs ps
gathered s net steps pairs ps same g = subst (λ (lanes : List Lane). AreGathered lanes s.step steps (starting s.movers) pairs ps) same g

pub prediction_of-requires-clause-few : goal.prediction_of-requires-clause-few
prediction_of-requires-clause-few c =
    let g = gathered c.args.s.now c.args.net.now c.args.steps c.in_ok-gathered.gathered.pairs c.in_ok-gathered.gathered.participants.items c.requires.network c.in_ok-gathered.ensures in
    participants_few (IsHolding _ _ _) c.args.s.now.movers c.in_ok-gathered.gathered.participants.items (g.few c.if-gathered-gt-MOST_LANE_POLYGONS.false)

pub returns-clause-ok : goal.returns-clause-ok
returns-clause-ok c =
    let g = gathered c.args.s.now c.args.net.now c.args.steps c.in_ok-gathered.gathered.pairs c.in_ok-gathered.gathered.participants.items c.requires.network c.in_ok-gathered.ensures in
    record {
      participants = subst (λ (ps : List Participant). Pairwise (IsParticipant c.args.s.now.lanelets.entries c.args.s.now.step c.args.steps) (starting c.args.s.now.movers) ps) (sym c.in_ok-prediction_of.ensures.participants)
          (pairwise_each (IsHolding _ _ _) (IsParticipant _ _ _) _ _ (λ m p h. h.participant) (g.few c.if-gathered-gt-MOST_LANE_POLYGONS.false));
      fixed = c.in_ok-prediction_of.ensures.fixed;
      horizon = c.in_ok-prediction_of.ensures.steps;
    }

pub returns-clause-pieces : goal.returns-clause-pieces
returns-clause-pieces c = has_pieces c.args.s.now c.args.steps c.in_ok-prediction_of.field-0 c.requires.steps.0 (returns-clause-ok c)

pub returns-clause-few : goal.returns-clause-few
returns-clause-few c = λ n has.
    let g = gathered c.args.s.now c.args.net.now c.args.steps c.in_ok-gathered.gathered.pairs c.in_ok-gathered.gathered.participants.items c.requires.network c.in_ok-gathered.ensures in
    let same : n ≡ c.in_ok-gathered.gathered.pairs = pairs_one c.args.s.now.lanelets.entries c.args.s.now.step c.args.steps (starting c.args.s.now.movers) n c.in_ok-gathered.gathered.pairs has g.sum in
    omega (arith, c.if-gathered-gt-MOST_LANE_POLYGONS.false)

pub returns-clause-holds : goal.returns-clause-holds
returns-clause-holds c =
    let g = gathered c.args.s.now c.args.net.now c.args.steps c.in_ok-gathered.gathered.pairs c.in_ok-gathered.gathered.participants.items c.requires.network c.in_ok-gathered.ensures in
    subst (λ (ps : List Participant). AllByRecursion (HoldsMotions c.args.s.now.lanelets.entries c.args.s.now.step c.args.steps) ps) (sym c.in_ok-prediction_of.ensures.participants)
    (all_second (IsHolding _ _ _) (HoldsMotions _ _ _) (starting c.args.s.now.movers) c.in_ok-gathered.gathered.participants.items (λ m p h. h.holds) (g.few c.if-gathered-gt-MOST_LANE_POLYGONS.false))
