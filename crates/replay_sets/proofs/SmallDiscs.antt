-- The discs of a step are few, and small.
use Rattle.std.proofs.Common.{ℕ, ◌+◌, ◌≤◌, ◌==◌, List, [], ◌∷◌, ◌++◌, map, filter, length, Bool, true, false, arith, cond, length-append, ℤ}
use Rattle.std.specs.Prelude.{flat_map}
use Rattle.std.specs.List.{AllByRecursion}
use Rattle.std.proofs.lemmas.List.{length-map}
use Rattle.spot_terms.specs.OccupiedPieces.{discs_of, fixed_disc, recorded_disc}
use Rattle.spot_terms.specs.Ranges.{AreStatesInRange, IsFixedInRange, IsMoverInRange, IsStateInRange, recorded_count}
use Rattle.spot_terms.specs.declared.scenario.Fixed.{Fixed}
use Rattle.spot_terms.specs.declared.scenario.Mover.{Mover}
use Rattle.spot_terms.proofs.ListLemmas.{all_append, filter_short}
use Rattle.replay_sets.specs.Discs.{AreSmall, IsSmallDisc}

module _ (radius : ℕ) (small : radius ≤ 150_000_000) (i : ℕ) where
  fixed_small : (fs : List Fixed) → AllByRecursion IsFixedInRange fs → AllByRecursion IsSmallDisc (map (fixed_disc radius) fs)
  fixed_small [] h = tt
  fixed_small (f ∷ fs) h = (record { x = h.0.x; y = h.0.y; r = (let r = h.0.inscribed in omega (arith, r, small)) }, fixed_small fs h.1)

  states_small : (m : Mover) (states : List (ℕ × ℤ × ℤ)) → m.inscribed ≤ 250_000_000 → AllByRecursion IsStateInRange states → AllByRecursion IsSmallDisc (map (recorded_disc radius m) (filter (λ (state : ℕ × ℤ × ℤ). state.0 == i) states))
  states_small m [] r h = tt
  states_small m (s ∷ states) r h = by_test (s.0 == i) (filter (λ (state : ℕ × ℤ × ℤ). state.0 == i) states) (states_small m states r h.1)
    where
      by_test : (b : Bool) (rest : List (ℕ × ℤ × ℤ)) → AllByRecursion IsSmallDisc (map (recorded_disc radius m) rest) → AllByRecursion IsSmallDisc (map (recorded_disc radius m) (cond b (s ∷ rest) rest))
      by_test true rest k = (record { x = h.0.x; y = h.0.y; r = omega (arith, r, small) }, k)
      by_test false rest k = k

  movers_small : (ms : List Mover) → AllByRecursion IsMoverInRange ms → AllByRecursion AreStatesInRange ms → AllByRecursion IsSmallDisc (flat_map (discs_of radius i) ms)
  movers_small [] h k = tt
  movers_small (m ∷ ms) h k = all_append IsSmallDisc (discs_of radius i m) (flat_map (discs_of radius i) ms) (states_small m m.recorded h.0.inscribed k.0) (movers_small ms h.1 k.1)

  movers_few : (ms : List Mover) → length (flat_map (discs_of radius i) ms) ≤ recorded_count ms
  movers_few [] = omega arith
  movers_few (m ∷ ms) =
      let a = length-append (discs_of radius i m) (flat_map (discs_of radius i) ms) in
      let b = length-map (filter (λ (state : ℕ × ℤ × ℤ). state.0 == i) m.recorded) (recorded_disc radius m) in
      let c = filter_short (λ (state : ℕ × ℤ × ℤ). state.0 == i) m.recorded in let d = movers_few ms in omega (arith, a, b, c, d)

  pub step_small : (fs : List Fixed) (ms : List Mover) → AllByRecursion IsFixedInRange fs → AllByRecursion IsMoverInRange ms → AllByRecursion AreStatesInRange ms → length fs ≤ 4096 → recorded_count ms ≤ 67_108_864
      → AreSmall (map (fixed_disc radius) fs ++ flat_map (discs_of radius i) ms)
  step_small fs ms f m s few count = record {
    few = (let a = length-append (map (fixed_disc radius) fs) (flat_map (discs_of radius i) ms) in let b = length-map fs (fixed_disc radius) in let c = movers_few ms in omega (arith, a, b, c, few, count));
    each = all_append IsSmallDisc (map (fixed_disc radius) fs) (flat_map (discs_of radius i) ms) (fixed_small fs f) (movers_small ms m s);
  }
