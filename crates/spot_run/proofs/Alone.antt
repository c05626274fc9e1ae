-- What a prediction prints of an obstacle, it prints once.
use Rattle.std.proofs.Common.{◌≡◌, ◌∙◌, inl, inr, ℕ, zero, suc, ◌+◌, ◌==◌, true, false, cond, List, [], ◌∷◌, ◌++◌, map, refl, sym, ap, subst, ℤ}
use Rattle.std.specs.List.{flat_map}
use Rattle.spot_terms.specs.Ids.{HaveUniqueIds}
use Rattle.spot_terms.specs.Lists.{Includes, AreDistinct, numbers_from}
use Rattle.spot_terms.specs.Participants.{starting}
use Rattle.spot_terms.specs.Reach.{interval_numbers, disc_numbers}
use Rattle.spot_terms.specs.Report.{Line, mover_line, late_line, fixed_line, occ_line}
use Rattle.spot_terms.specs.declared.lines.MoverLine.{MoverLine}
use Rattle.spot_terms.specs.declared.lines.Mode.{Mode}
use Rattle.spot_terms.specs.declared.scenario.Fixed.{Fixed}
use Rattle.spot_terms.specs.declared.scenario.Mover.{Mover}
use Rattle.spot_terms.specs.declared.scenario.Scenario.{Scenario}
use Rattle.spot_terms.proofs.Distinct.{distinct_front, distinct_back}
use Rattle.spot_terms.proofs.ListLemmas.{below-from, includes_either, includes_map, pairwise_map}
use Rattle.spot_terms.proofs.Members.{in_map, in_flat_map}
use Rattle.convex_poly.specs.declared.oct_numbers.OctNumbers.{OctNumbers}
use Rattle.spot_claims.specs.ParticipantClaims.{pt}
use Rattle.spot_claims.proofs.Entered.{passes, from_second}
use Rattle.participants.specs.declared.participant.Participant.{Participant}
use Rattle.participants.specs.Predictions.{IsParticipant, IsFixedOctagon, Occupancies, IsPrediction}
use Rattle.spot_run.specs.Lines.{line_of, obstacle_lines, octagon_line, octagon_lines, occupancy_lines, polygon_line, lane_lines, traffic_lines, report_lines}

-- ---- where a line comes from

At : Occupancies → Line → Type 0
At o (mover_line v) = (p : Participant) × Includes o.participants p × (v ≡ line_of p)
At o (fixed_line id numbers) = (x : ℕ × OctNumbers) × Includes o.fixed x × (id ≡ x.0) × (numbers ≡ x.1.n)
At o (occ_line id i numbers) = (p : Participant) × Includes o.participants p × (id ≡ p.id) × Includes (octagon_lines p.id 0 p.octs) (occ_line id i numbers)
At o line = Unit {0}

obstacle_at : (o : Occupancies) (l : Line) (ms : List Mover) (ps : List Participant) → ((p : Participant) → Includes ps p → Includes o.participants p) → Includes (obstacle_lines ms ps) l → At o l
unfolding At
obstacle_at o l [] ps all i = absurd i
obstacle_at o l (m ∷ ms) [] all (inl e) = subst (At o) (sym e) tt
obstacle_at o l (m ∷ ms) [] all (inr i) = obstacle_at o l ms [] all i
obstacle_at o l (m ∷ ms) (p ∷ ps) all i =
    let later : Includes (obstacle_lines ms ps) l → At o l = obstacle_at o l ms ps (λ q j. all q (inr j)) in
    let same : Includes (obstacle_lines ms (p ∷ ps)) l → At o l = obstacle_at o l ms (p ∷ ps) all in
    (elim (m.time == 0) as (λ t. Includes (cond t (mover_line (line_of p) ∷ obstacle_lines ms ps) (late_line m.id m.time ∷ obstacle_lines ms (p ∷ ps))) l → At o l) [
      | true ↦ λ j. elim j [
        | inl e ↦ subst (At o) (sym e) (p, all p (inl refl), refl)
        | inr k ↦ later k
      ]
      | false ↦ λ j. elim j [
        | inl e ↦ subst (At o) (sym e) tt
        | inr k ↦ same k
      ]
    ]) i

fixed_at : (o : Occupancies) (l : Line) → Includes (map octagon_line o.fixed) l → At o l
unfolding At
fixed_at o l i = let (x, j, e) = in_map octagon_line o.fixed l i in subst (At o) (sym e) (x, j, refl, refl)

lane_at : (o : Occupancies) (l : Line) → Includes (flat_map lane_lines o.participants) l → At o l
unfolding At
lane_at o l i =
    let (p, at, j) = in_flat_map lane_lines o.participants l i in
    let (x, within, e) = in_map (polygon_line p.id) p.polys l j in
    subst (At o) (sym e) tt

octagon_form : (id from : ℕ) (os : List OctNumbers) (l : Line) → Includes (octagon_lines id from os) l → (i : ℕ) × (numbers : List ℤ) × (l ≡ occ_line id i numbers)
octagon_form id from [] l i = absurd i
octagon_form id from (o ∷ os) l (inl e) = (from, o.n, e)
octagon_form id from (o ∷ os) l (inr i) = octagon_form id (from + 1) os l i

occupancy_at : (o : Occupancies) (l : Line) → Includes (flat_map occupancy_lines o.participants) l → At o l
unfolding At
occupancy_at o l i =
    let (p, at, j) = in_flat_map occupancy_lines o.participants l i in
    let (n, numbers, e) = octagon_form p.id 0 p.octs l j in
    subst (At o) (sym e) (p, at, refl, subst (λ (x : Line). Includes (octagon_lines p.id 0 p.octs) x) e j)

traffic_at : (ms : List Mover) (o : Occupancies) (l : Line) → Includes (traffic_lines ms o) l → At o l
traffic_at ms o l i = elim (includes_either (obstacle_lines ms o.participants ++ map octagon_line o.fixed ++ flat_map lane_lines o.participants) (flat_map occupancy_lines o.participants) l i) [
  | inl j ↦ elim (includes_either (obstacle_lines ms o.participants ++ map octagon_line o.fixed) (flat_map lane_lines o.participants) l j) [
    | inl k ↦ elim (includes_either (obstacle_lines ms o.participants) (map octagon_line o.fixed) l k) [
      | inl n ↦ obstacle_at o l ms o.participants (λ p at. at) n
      | inr n ↦ fixed_at o l n
    ]
    | inr k ↦ lane_at o l k
  ]
  | inr j ↦ occupancy_at o l j
]

-- a line that is of no obstacle
abbrev pub IsOther : Line → Type 0
IsOther (mover_line v) = ⊥
IsOther (fixed_line id numbers) = ⊥
IsOther (occ_line id i numbers) = ⊥
IsOther line = Unit {0}

abbrev pub AreOthers : List Line → Type 0
AreOthers lines = (l : Line) → Includes lines l → IsOther l

other_at : (o : Occupancies) (l : Line) → IsOther l → At o l
unfolding At
other_at o (mover_line v) h = absurd h
other_at o (fixed_line id numbers) h = absurd h
other_at o (occ_line id i numbers) h = absurd h
other_at o line h = tt

line_at : (mode : Mode) (k steps : ℕ) (ms : List Mover) (o : Occupancies) (more : List Line) (l : Line) → AreOthers more → Includes (report_lines mode k steps ms o more) l → At o l
unfolding At
line_at mode k steps ms o more l others (inl e) = subst (At o) (sym e) tt
line_at mode k steps ms o more l others (inr (inl e)) = subst (At o) (sym e) tt
line_at mode k steps ms o more l others (inr (inr i)) = elim (includes_either (traffic_lines ms o) more l i) [
  | inl j ↦ traffic_at ms o l j
  | inr j ↦ other_at o l (others l j)
]

-- ---- one participant and one static obstacle of an id

keyed_one : {X : Type 0} (key : X → ℕ) (xs : List X) (x y : X) → AreDistinct (map key xs) → Includes xs x → Includes xs y → key x ≡ key y → x ≡ y
keyed_one key [] x y d i j e = absurd i
keyed_one key (z ∷ zs) x y d (inl a) (inl b) e = a ∙ sym b
keyed_one key (z ∷ zs) x y d (inl a) (inr j) e = absurd (d.0 (subst (Includes (map key zs)) (sym e ∙ ap key a) (includes_map key zs y j)))
keyed_one key (z ∷ zs) x y d (inr i) (inl b) e = absurd (d.0 (subst (Includes (map key zs)) (e ∙ ap key b) (includes_map key zs x i)))
keyed_one key (z ∷ zs) x y d (inr i) (inr j) e = keyed_one key zs x y d.1 i j e

mover_id : Mover → ℕ
mover_id m = m.id

participant_id : Participant → ℕ
participant_id p = p.id

among : (ms : List Mover) (id : ℕ) → Includes (map mover_id (starting ms)) id → Includes (map mover_id ms) id
among ms id i =
    let (m, j, e) = in_map mover_id (starting ms) id i in
    subst (Includes (map mover_id ms)) (sym e) (includes_map mover_id ms m (passes (λ (x : Mover). x.time == 0) ms m j).0)

distinct_starting : (ms : List Mover) → AreDistinct (map mover_id ms) → AreDistinct (map mover_id (starting ms))
distinct_starting [] d = tt
distinct_starting (m ∷ ms) d =
    let rest : AreDistinct (map mover_id (starting ms)) = distinct_starting ms d.1 in
    elim (m.time == 0) as (λ t. AreDistinct (map mover_id (cond t (m ∷ starting ms) (starting ms)))) [ true ↦ ((λ i. d.0 (among ms (mover_id m) i)), rest) | false ↦ rest ]

module _ (mode : Mode) (more : List Line) (others : AreOthers more) (s : Scenario) (steps : ℕ) (o : Occupancies) (is : IsPrediction s steps o) (ids : HaveUniqueIds s) where
  one_participant : (p q : Participant) → Includes o.participants p → Includes o.participants q → p.id ≡ q.id → p ≡ q
  unfolding mover_id participant_id
  one_participant p q i j e =
      let same : map mover_id (starting s.movers) ≡ map participant_id o.participants = pairwise_map (IsParticipant s.lanelets.entries s.step steps) mover_id participant_id (starting s.movers) o.participants (λ m x h. sym h.id) is.participants in
      keyed_one participant_id o.participants p q (subst AreDistinct same (distinct_starting s.movers (distinct_back (map (λ (f : Fixed). f.id) s.fixed) (map mover_id s.movers) ids.obstacles))) i j e

  pub mover_alone : (p : Participant) (v : MoverLine) → Includes o.participants p → Includes (report_lines mode s.step steps s.movers o more) (mover_line v) → v.id ≡ p.id → v ≡ line_of p
  unfolding At
  mover_alone p v i listed e =
      let (q, j, same) = line_at mode s.step steps s.movers o more (mover_line v) others listed in
      same ∙ ap line_of (one_participant q p j i (sym (ap (λ (x : MoverLine). x.id) same) ∙ e))

  octagon_numbers : (id from count n : ℕ) (numbers : List ℤ) (f : ℕ → List ℤ) (os : List OctNumbers) → map (λ (x : OctNumbers). x.n) os ≡ map f (numbers_from from count) → Includes (octagon_lines id from os) (occ_line id n numbers) → numbers ≡ f n
  octagon_numbers id from count n numbers f [] e i = absurd i
  octagon_numbers id from zero n numbers f (x ∷ os) e i = cc
  octagon_numbers id from (suc count) n numbers f (x ∷ os) e (inl h) =
      let first : x.n ≡ f from = cc in
      let own : numbers ≡ x.n = cc in
      let at : n ≡ from = cc in
      own ∙ first ∙ ap f (sym at)
  octagon_numbers id from (suc count) n numbers f (x ∷ os) e (inr i) =
      let rest : map (λ (y : OctNumbers). y.n) os ≡ map f (numbers_from (from + 1) count) = cc in
      octagon_numbers id (from + 1) count n numbers f os rest i

  pub octagon_alone : (m : Mover) (p : Participant) (n : ℕ) (numbers : List ℤ) → IsParticipant s.lanelets.entries s.step steps m p → Includes o.participants p
      → Includes (report_lines mode s.step steps s.movers o more) (occ_line p.id n numbers) → numbers ≡ interval_numbers p.start s.step n
  unfolding At
  octagon_alone m p n numbers h i listed =
      let (q, j, id, within) = line_at mode s.step steps s.movers o more (occ_line p.id n numbers) others listed in
      let own : Includes (octagon_lines p.id 0 p.octs) (occ_line p.id n numbers) = subst (λ (x : Participant). Includes (octagon_lines x.id 0 x.octs) (occ_line p.id n numbers)) (one_participant q p j i (sym id)) within in
      octagon_numbers p.id 0 steps n numbers (interval_numbers p.start s.step) p.octs (h.octagons ∙ ap (map (interval_numbers p.start s.step)) (below-from steps)) own

  pub fixed_alone : (f : Fixed) (numbers : List ℤ) → Includes s.fixed f → Includes (report_lines mode s.step steps s.movers o more) (fixed_line f.id numbers) → numbers ≡ disc_numbers (pt f.x f.y) f.enclosing
  unfolding At mover_id
  fixed_alone f numbers i listed =
      let (x, j, id, own) = line_at mode s.step steps s.movers o more (fixed_line f.id numbers) others listed in
      let (g, k, h) = from_second IsFixedOctagon s.fixed o.fixed x is.fixed j in
      let same : g ≡ f = keyed_one (λ (y : Fixed). y.id) s.fixed g f (distinct_front (map (λ (y : Fixed). y.id) s.fixed) (map mover_id s.movers) ids.obstacles) k i (sym h.0 ∙ sym id) in
      own ∙ h.1 ∙ ap (λ (y : Fixed). disc_numbers (pt y.x y.y) y.enclosing) same
