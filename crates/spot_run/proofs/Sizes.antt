-- How many participants and octagons a prediction has.
use Rattle.std.proofs.Common.{◌≡◌, ◌∙◌, ℕ, ◌≤◌, List, [], ◌∷◌, length, sym, ap, arith}
use Rattle.std.specs.List.{AllByRecursion}
use Rattle.std.proofs.lemmas.List.{length-map}
use Rattle.spot_terms.specs.Lists.{Pairwise, numbers_below}
use Rattle.spot_terms.specs.Reach.{interval_numbers}
use Rattle.spot_terms.specs.Cells.{Lane}
use Rattle.spot_terms.specs.Participants.{starting}
use Rattle.spot_terms.specs.declared.scenario.Mover.{Mover}
use Rattle.spot_terms.specs.declared.scenario.Scenario.{Scenario}
use Rattle.spot_terms.proofs.ListLemmas.{below-from, pairwise_length, numbers_from_length}
use Rattle.convex_poly.specs.declared.oct_numbers.OctNumbers.{OctNumbers}
use Rattle.participants.specs.declared.participant.Participant.{Participant}
use Rattle.participants.specs.Predictions.{IsParticipant, Occupancies, IsPrediction}

-- as many participants as dynamic obstacles that start
pub enough : (s : Scenario) (steps : ℕ) (o : Occupancies) → IsPrediction s steps o → length (starting s.movers) ≤ length o.participants
enough s steps o is = let same : length (starting s.movers) ≡ length o.participants = pairwise_length (IsParticipant s.lanelets.entries s.step steps) (starting s.movers) o.participants is.participants in omega (arith, same)

octagons : (lanes : List Lane) (k steps : ℕ) (m : Mover) (p : Participant) → IsParticipant lanes k steps m p → length p.octs ≡ steps
octagons lanes k steps m p is = sym (length-map p.octs (λ (o : OctNumbers). o.n)) ∙ ap length is.octagons ∙ length-map (numbers_below steps) (interval_numbers p.start k) ∙ ap length (below-from steps) ∙ numbers_from_length 0 steps

few_octagons : (lanes : List Lane) (k steps : ℕ) (ms : List Mover) (ps : List Participant) → steps ≤ 100 → Pairwise (IsParticipant lanes k steps) ms ps → AllByRecursion (λ (p : Participant). length p.octs ≤ 100) ps
few_octagons lanes k steps [] [] h pairs = tt
few_octagons lanes k steps [] (p ∷ ps) h pairs = absurd pairs
few_octagons lanes k steps (m ∷ ms) [] h pairs = absurd pairs
few_octagons lanes k steps (m ∷ ms) (p ∷ ps) h pairs = let same : length p.octs ≡ steps = octagons lanes k steps m p pairs.0 in (omega (arith, h, same), few_octagons lanes k steps ms ps h pairs.1)

-- at most a hundred octagons each
pub few : (s : Scenario) (steps : ℕ) (o : Occupancies) → steps ≤ 100 → IsPrediction s steps o → AllByRecursion (λ (p : Participant). length p.octs ≤ 100) o.participants
few s steps o h is = few_octagons s.lanelets.entries s.step steps (starting s.movers) o.participants h is.participants
