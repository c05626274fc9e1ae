-- There is one report of a command and a scenario at most.
use Rattle.std.proofs.Common.{◌≡◌, ◌∙◌, ℕ, ◌≤◌, List, length, refl, sym, ap, subst}
use Rattle.spot_terms.specs.BaseSets.{SetValue}
use Rattle.spot_terms.specs.OccupiedPieces.{Occupant, IsOccupant, AreOccupants, predicted_pieces, recorded_pieces}
use Rattle.spot_terms.specs.Participants.{starting}
use Rattle.spot_terms.specs.Pieces.{Piece, Hits}
use Rattle.spot_terms.specs.Report.{Line}
use Rattle.spot_terms.specs.StepLists.{AreStepLists}
use Rattle.spot_terms.specs.declared.command.Command.{Command}
use Rattle.spot_terms.specs.Tasks.{PredictsTraffic}
use Rattle.spot_terms.specs.declared.command.Task.{Task}
use Rattle.spot_terms.specs.declared.command.Task.TheVariants.{Predict, Area, Replay, Draw, Sample}
use Rattle.spot_terms.specs.declared.lines.End.{End}
use Rattle.spot_terms.specs.declared.scenario.Problem.{Problem}
use Rattle.spot_terms.specs.declared.scenario.Scenario.{Scenario}
use Rattle.spot_terms.specs.Tasks.{PredictsTraffic}
use Rattle.spot_terms.proofs.StepLists.{step_lists_are_one}
use Rattle.spot_claims.specs.AreaOf.{ArePieces, IsRun, IsAreaReport, IsReplayReport}
use Rattle.spot_claims.specs.OneReport.{ReportsAreOne}
use Rattle.spot_claims.specs.Problems.{ego_radius, course_of}
use Rattle.spot_claims.specs.ReportOf.{IsPredictReport}
use Rattle.spot_terms.proofs.OneLabel.{occupant_one}
use Rattle.spot_terms.proofs.Unique.{pairwise_one, some_one}
use Rattle.spot_claims.proofs.OneTraffic.{traffic_one}

module _ (s : Scenario) (c : Command) where
  occupants_one : (os ps : List Occupant) → AreOccupants s c.steps os → AreOccupants s c.steps ps → os ≡ ps
  occupants_one os ps h i = pairwise_one (IsOccupant s.lanelets.entries s.step c.steps) (occupant_one s.lanelets.entries s.step c.steps) (starting s.movers) os ps h i

  -- of each task that predicts traffic
  traffic_pieces_as : (task : Task) (ps : ℕ → List Piece) → c.task ≡ task → PredictsTraffic task → ArePieces s c ps
      → (occupants : List Occupant) × AreOccupants s c.steps occupants × ((i : ℕ) → i ≤ c.steps → ps i ≡ predicted_pieces s occupants i)
  traffic_pieces_as Predict ps e predicts h = rw e at h
  traffic_pieces_as Area ps e predicts h = rw e at h
  traffic_pieces_as Replay ps e predicts h = absurd predicts
  traffic_pieces_as Draw ps e predicts h = rw e at h
  traffic_pieces_as Sample ps e predicts h = rw e at h

  pub traffic_pieces : (ps : ℕ → List Piece) → PredictsTraffic c.task → ArePieces s c ps → (occupants : List Occupant) × AreOccupants s c.steps occupants × ((i : ℕ) → i ≤ c.steps → ps i ≡ predicted_pieces s occupants i)
  traffic_pieces ps predicts h = traffic_pieces_as c.task ps refl predicts h

  pieces_as : (task : Task) (ps : ℕ → List Piece) (occupants : List Occupant) → c.task ≡ task → PredictsTraffic task → AreOccupants s c.steps occupants
      → ((i : ℕ) → i ≤ c.steps → ps i ≡ predicted_pieces s occupants i) → ArePieces s c ps
  pieces_as Predict ps occupants e predicts are is = rw e (occupants, are, is)
  pieces_as Area ps occupants e predicts are is = rw e (occupants, are, is)
  pieces_as Replay ps occupants e predicts are is = absurd predicts
  pieces_as Draw ps occupants e predicts are is = rw e (occupants, are, is)
  pieces_as Sample ps occupants e predicts are is = rw e (occupants, are, is)

  pub pieces_of_traffic : (ps : ℕ → List Piece) (occupants : List Occupant) → PredictsTraffic c.task → AreOccupants s c.steps occupants → ((i : ℕ) → i ≤ c.steps → ps i ≡ predicted_pieces s occupants i) → ArePieces s c ps
  pieces_of_traffic ps occupants predicts are is = pieces_as c.task ps occupants refl predicts are is

  pub traffic_same : (ps qs : ℕ → List Piece) → PredictsTraffic c.task → ArePieces s c ps → ArePieces s c qs → (i : ℕ) → i ≤ c.steps → ps i ≡ qs i
  traffic_same ps qs predicts h k i within =
      let (os, a, f) = traffic_pieces ps predicts h in
      let (other, b, g) = traffic_pieces qs predicts k in
      let same : os ≡ other = occupants_one os other a b in
      f i within ∙ ap (λ (x : List Occupant). predicted_pieces s x i) same ∙ sym (g i within)

  pub replay_pieces : (ps : ℕ → List Piece) → c.task ≡ Replay → ArePieces s c ps → (i : ℕ) → i ≤ c.steps → ps i ≡ recorded_pieces s (ego_radius c) i
  replay_pieces ps e h = rw e at h

  pub replay_same : (ps qs : ℕ → List Piece) → c.task ≡ Replay → ArePieces s c ps → ArePieces s c qs → (i : ℕ) → i ≤ c.steps → ps i ≡ qs i
  replay_same ps qs e h k i within = replay_pieces ps e h i within ∙ sym (replay_pieces qs e k i within)

  problem_one : (p q : Problem) (ps qs : ℕ → List Piece) (xs ys : List (List SetValue)) (d e : End) → IsRun s c p ps xs d → IsRun s c q qs ys e → p ≡ q
  problem_one p q ps qs xs ys d e h k = some_one _ p q h.chosen k.chosen

  run_one : (p q : Problem) (ps qs : ℕ → List Piece) (xs ys : List (List SetValue)) (d e : End) → ((i : ℕ) → i ≤ c.steps → ps i ≡ qs i)
      → IsRun s c p ps xs d → IsRun s c q qs ys e → (xs ≡ ys) × (d ≡ e)
  run_one p q ps qs xs ys d e same h k =
      let chosen : p ≡ q = problem_one p q ps qs xs ys d e h k in
      let lists : AreStepLists (course_of s c q) (λ i. length (ps i)) (λ i. Hits (ps i)) c.steps xs d
      = subst (λ (x : Problem). AreStepLists (course_of s c x) (λ i. length (ps i)) (λ i. Hits (ps i)) c.steps xs d) chosen h.lists_are in
      step_lists_are_one.all (course_of s c q) ps qs c.steps xs ys d e same lists k.lists_are

  area_one : (xs ys : List Line) (d e : End) → c.task ≡ Area → IsAreaReport s c xs d → IsAreaReport s c ys e → (xs ≡ ys) × (d ≡ e)
  area_one xs ys d e t h k =
      let both = run_one h.problem k.problem h.pieces k.pieces h.lists k.lists d e (traffic_same h.pieces k.pieces (subst PredictsTraffic (sym t) tt) h.run.pieces_are k.run.pieces_are) h.run k.run in
      let lists : h.lists ≡ k.lists = both.0 in
      let ends : d ≡ e = both.1 in
      let problem : h.problem ≡ k.problem = problem_one h.problem k.problem h.pieces k.pieces h.lists k.lists d e h.run k.run in
      let traffic : h.traffic ≡ k.traffic = traffic_one s c h.traffic k.traffic h.traffic_is k.traffic_is in
      let x = h.lines_are in
      let y = k.lines_are in
      (cc (x, y, lists, ends, problem, traffic), ends)

  replay_one : (xs ys : List Line) (d e : End) → c.task ≡ Replay → IsReplayReport s c xs d → IsReplayReport s c ys e → (xs ≡ ys) × (d ≡ e)
  replay_one xs ys d e t h k =
      let both = run_one h.problem k.problem h.pieces k.pieces h.lists k.lists d e (replay_same h.pieces k.pieces t h.run.pieces_are k.run.pieces_are) h.run k.run in
      let lists : h.lists ≡ k.lists = both.0 in
      let ends : d ≡ e = both.1 in
      let problem : h.problem ≡ k.problem = problem_one h.problem k.problem h.pieces k.pieces h.lists k.lists d e h.run k.run in
      let x = h.lines_are in
      let y = k.lines_are in
      (cc (x, y, lists, ends, problem), ends)

  predict_one : (xs ys : List Line) → IsPredictReport s c xs → IsPredictReport s c ys → xs ≡ ys
  predict_one xs ys h k =
      let traffic : h.traffic ≡ k.traffic = traffic_one s c h.traffic k.traffic h.traffic_is k.traffic_is in
      let x = h.lines_are in
      let y = k.lines_are in
      cc (x, y, traffic)

pub reports_one : ReportsAreOne
reports_one = record { predict = predict_one; area = area_one; replay = replay_one }
