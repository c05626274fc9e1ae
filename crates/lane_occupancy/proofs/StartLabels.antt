-- Labels up to a reach length that the code found.
use Rattle.std.proofs.Common.{◌≡◌, ◌∙◌, ℕ, ◌≤◌, ap, subst, arith, List, nat_abs, to_z, of_z, w64}
use Rattle.std.proofs.lemmas.Int.{ints}
use Rattle.std.specs.Prelude.{Option}
use lib.IntN.{ℤ, pos}
use Rattle.spot_terms.specs.Cells.{Lane}
use Rattle.spot_terms.specs.LanePolygons.{reach_length, reach_of}
use Rattle.spot_terms.specs.Motions.{IsStartSpeed}
use Rattle.spot_terms.specs.Ranges.{IsStart}
use Rattle.spot_terms.specs.Whole.{Within}
use Rattle.spot_terms.specs.declared.plain.AccStart.{AccStart}
use Rattle.convex_poly.proofs.Wide.{small_back}
use Rattle.lane_paths.specs.Labels.{AreLabels}
use Rattle.spot_terms.proofs.OneStart.{start_speed_one}

small_a : (z : ℤ) → Within (pos 1) (pos 20) z → nat_abs z ≤ 9000000000000000000
small_a z w = let low = w.low in let high = w.high in omega (arith, ints, low, high)

small_v : (z : ℤ) → Within (pos 0) (pos 900000) z → nat_abs z ≤ 9000000000000000000
small_v z w = let low = w.low in let high = w.high in omega (arith, ints, low, high)

-- they are those up to the reach length of the start
pub labels_up_to : (lanes : List Lane) (s : AccStart) (own a v ticks limit : ℕ) (labels : List (Option ℕ)) → IsStart s → IsStartSpeed s.b own → a ≡ nat_abs (to_z w64 (of_z w64 s.a)) → v ≡ nat_abs (to_z w64 (of_z w64 s.v))
    → limit ≡ reach_length own a v ticks → AreLabels lanes s.p limit labels → (speed : ℕ) → IsStartSpeed s.b speed → AreLabels lanes s.p (reach_of s speed ticks) labels
labels_up_to lanes s own a v ticks limit labels start h ea ev e l speed k =
    let size_a : a ≡ nat_abs s.a = ea ∙ ap nat_abs (small_back s.a (small_a s.a start.a)) in
    let size_v : v ≡ nat_abs s.v = ev ∙ ap nat_abs (small_back s.v (small_v s.v start.v)) in
    let is : limit ≡ reach_of s speed ticks = e ∙ ap (λ n. reach_length own n v ticks) size_a ∙ ap (λ n. reach_length own (nat_abs s.a) n ticks) size_v ∙ ap (λ n. reach_length n (nat_abs s.a) (nat_abs s.v) ticks) (start_speed_one s.b own speed h k) in
    subst (λ n. AreLabels lanes s.p n labels) is l
