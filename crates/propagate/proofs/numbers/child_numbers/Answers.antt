use Rattle.std.proofs.Common.{◌≡◌, ◌<◌, arith, subst, sym, length, List, [], ◌∷◌, to_z, of_z, w64, pos, ℤ}
use Rattle.std.specs.Prelude.{nat_abs}
use Rattle.std.specs.List.{AllByRecursion}
use Rattle.spot_terms.specs.Frames.{IsFrameInOrder}
use Rattle.spot_terms.specs.Hull.{IsCornerList}
use Rattle.spot_terms.specs.Whole.{Within}
use Rattle.spot_terms.specs.declared.plain.Pt.{Pt}
use Rattle.propagate.specs.Children.{IsStepPoint}
use Rattle.propagate.specs.Growing.{AreGrowths}
use Rattle.propagate.specs.Ways.{AreWays}
use Rattle.propagate.specs.declared.numbers.Growths.{Growths}
use Rattle.propagate.specs.declared.ways.Ways.{Ways}
use Rattle.propagate.proofs.ChildCode.{ticks_read, slow_read, size_of, some_of, natural, small_ways, AreSmallWays, above_fits, below_fits, listed, listed_are}
use Rattle.propagate.proofs.ChildOrders.{child_numbers_in_order, child_numbers_in_range}
use Rattle.propagate.proofs.NumberLists.{AreChildNumbers, numbers_are}
use Rattle.propagate.proofs.numbers.child_numbers.Goals as goal

some_corners : (vs : List Pt) → IsCornerList vs → 0 < length vs
some_corners [] c = absurd c
some_corners (v ∷ vs) c = omega arith

pub ways_of-ways-requires-clause-some : goal.ways_of-ways-requires-clause-some
ways_of-ways-requires-clause-some c = subst (λ (z : List Pt). 0 < length z) (sym c.corners.ensures.items) (some_corners c.args.p.now c.corners.ensures.polygon.convex)

pub ways_of-ways-requires-clause-near : goal.ways_of-ways-requires-clause-near
ways_of-ways-requires-clause-near c = subst (AllByRecursion IsStepPoint) (sym c.corners.ensures.items) c.requires.near

pub ways_of-ways-requires-clause-ticks : goal.ways_of-ways-requires-clause-ticks
ways_of-ways-requires-clause-ticks c = subst (Within (pos 1) (pos 1000)) (sym (ticks_read c.args.k c.requires.ticks)) c.requires.ticks

pub growths_of-growths-requires-clause-acceleration : goal.growths_of-growths-requires-clause-acceleration
growths_of-growths-requires-clause-acceleration c = rw (slow_read c.args.a c.requires.acceleration) (size_of 20 c.args.a c.requires.acceleration)

pub growths_of-growths-requires-clause-ticks : goal.growths_of-growths-requires-clause-ticks
growths_of-growths-requires-clause-ticks c = rw (ticks_read c.args.k c.requires.ticks) (size_of 1000 c.args.k c.requires.ticks)

-- what the calls tell, of the numbers as they are
ways_told : (k : ℤ) (vs us : List Pt) (w : Ways) → us ≡ vs → Within (pos 1) (pos 1000) k → AreWays (to_z w64 (of_z w64 k)) us w → AreWays (pos (nat_abs k)) vs w
ways_told k vs us w e ticks h =
    subst (λ z. AreWays z vs w) (natural 1000 k ticks)
    (subst (λ z. AreWays z vs w) (ticks_read k ticks)
    (subst (λ (ws : List Pt). AreWays (to_z w64 (of_z w64 k)) ws w) e h))

small_told : (k : ℤ) (vs us : List Pt) (w : Ways) → us ≡ vs → Within (pos 1) (pos 1000) k → AllByRecursion IsStepPoint vs → AreWays (to_z w64 (of_z w64 k)) us w → AreSmallWays w
small_told k vs us w e ticks near h = small_ways (nat_abs k) vs w (size_of 1000 k ticks) near (ways_told k vs us w e ticks h)

growths_told : (a k : ℤ) (g : Growths) → Within (pos 1) (pos 20) a → Within (pos 1) (pos 1000) k → AreGrowths (nat_abs (to_z w64 (of_z w64 a))) (nat_abs (to_z w64 (of_z w64 k))) g → AreGrowths (nat_abs a) (nat_abs k) g
growths_told a k g slow ticks h =
    subst (λ z. AreGrowths (nat_abs z) (nat_abs k) g) (slow_read a slow)
    (subst (λ z. AreGrowths (nat_abs (to_z w64 (of_z w64 a))) (nat_abs z) g) (ticks_read k ticks) h)

numbers : (a k : ℤ) (vs us : List Pt) (w : Ways) (g : Growths) → us ≡ vs → Within (pos 1) (pos 20) a → Within (pos 1) (pos 1000) k → AllByRecursion IsStepPoint vs
    → AreWays (to_z w64 (of_z w64 k)) us w → AreGrowths (nat_abs (to_z w64 (of_z w64 a))) (nat_abs (to_z w64 (of_z w64 k))) g → AreChildNumbers (nat_abs a) (nat_abs k) vs (listed w g)
numbers a k vs us w g e slow ticks near h f = listed_are (nat_abs a) (nat_abs k) vs w g (size_of 1000 k ticks) near (ways_told k vs us w e ticks h) (growths_told a k g slow ticks f)

pub overflow_add-result : goal.overflow_add-result
overflow_add-result c = let g = c.growths_of-growths.ensures in let s = small_told c.args.k c.args.p.now c.corners.result.now c.ways_of-ways.result c.corners.ensures.items c.requires.ticks c.requires.near c.ways_of-ways.ensures in
    above_fits c.ways_of-ways.result.speed.greatest c.growths_of-growths.result.speed _ s.speed.greatest g.speed g.small_speed

pub overflow_add-result-2 : goal.overflow_add-result-2
overflow_add-result-2 c = let g = c.growths_of-growths.ensures in let s = small_told c.args.k c.args.p.now c.corners.result.now c.ways_of-ways.result c.corners.ensures.items c.requires.ticks c.requires.near c.ways_of-ways.ensures in
    above_fits c.ways_of-ways.result.next.greatest c.growths_of-growths.result.place _ s.next.greatest g.place g.small_place

pub overflow_add-result-3 : goal.overflow_add-result-3
overflow_add-result-3 c = let g = c.growths_of-growths.ensures in let s = small_told c.args.k c.args.p.now c.corners.result.now c.ways_of-ways.result c.corners.ensures.items c.requires.ticks c.requires.near c.ways_of-ways.ensures in
    above_fits c.ways_of-ways.result.both.greatest c.growths_of-growths.result.double _ s.both.greatest g.double g.small_double

pub overflow_add-result-4 : goal.overflow_add-result-4
overflow_add-result-4 c = let g = c.growths_of-growths.ensures in let s = small_told c.args.k c.args.p.now c.corners.result.now c.ways_of-ways.result c.corners.ensures.items c.requires.ticks c.requires.near c.ways_of-ways.ensures in
    above_fits c.ways_of-ways.result.place.greatest c.growths_of-growths.result.place _ s.place.greatest g.place g.small_place

pub overflow_sub-result : goal.overflow_sub-result
overflow_sub-result c = let g = c.growths_of-growths.ensures in let s = small_told c.args.k c.args.p.now c.corners.result.now c.ways_of-ways.result c.corners.ensures.items c.requires.ticks c.requires.near c.ways_of-ways.ensures in
    below_fits c.ways_of-ways.result.speed.least c.growths_of-growths.result.speed _ s.speed.least g.speed g.small_speed

pub overflow_sub-result-2 : goal.overflow_sub-result-2
overflow_sub-result-2 c = let g = c.growths_of-growths.ensures in let s = small_told c.args.k c.args.p.now c.corners.result.now c.ways_of-ways.result c.corners.ensures.items c.requires.ticks c.requires.near c.ways_of-ways.ensures in
    below_fits c.ways_of-ways.result.next.least c.growths_of-growths.result.place _ s.next.least g.place g.small_place

pub overflow_sub-result-3 : goal.overflow_sub-result-3
overflow_sub-result-3 c = let g = c.growths_of-growths.ensures in let s = small_told c.args.k c.args.p.now c.corners.result.now c.ways_of-ways.result c.corners.ensures.items c.requires.ticks c.requires.near c.ways_of-ways.ensures in
    below_fits c.ways_of-ways.result.both.least c.growths_of-growths.result.double _ s.both.least g.double g.small_double

pub overflow_sub-result-4 : goal.overflow_sub-result-4
overflow_sub-result-4 c = let g = c.growths_of-growths.ensures in let s = small_told c.args.k c.args.p.now c.corners.result.now c.ways_of-ways.result c.corners.ensures.items c.requires.ticks c.requires.near c.ways_of-ways.ensures in
    below_fits c.ways_of-ways.result.place.least c.growths_of-growths.result.place _ s.place.least g.place g.small_place

pub returns-clause-exact : goal.returns-clause-exact
returns-clause-exact c = numbers_are c.args.a (nat_abs c.args.k) c.args.p.now _ _ _ _ _ _ _ _ (numbers c.args.a c.args.k c.args.p.now c.corners.result.now c.ways_of-ways.result c.growths_of-growths.result c.corners.ensures.items c.requires.acceleration c.requires.ticks c.requires.near c.ways_of-ways.ensures c.growths_of-growths.ensures)

pub returns-clause-order : goal.returns-clause-order
returns-clause-order c =
    subst (λ z. IsFrameInOrder z (listed c.ways_of-ways.result c.growths_of-growths.result)) (sym (natural 1000 c.args.k c.requires.ticks))
    (child_numbers_in_order (nat_abs c.args.a) (nat_abs c.args.k) c.args.p.now (listed c.ways_of-ways.result c.growths_of-growths.result) (some_of 20 c.args.a c.requires.acceleration) (some_of 1000 c.args.k c.requires.ticks) (numbers c.args.a c.args.k c.args.p.now c.corners.result.now c.ways_of-ways.result c.growths_of-growths.result c.corners.ensures.items c.requires.acceleration c.requires.ticks c.requires.near c.ways_of-ways.ensures c.growths_of-growths.ensures))

pub returns-clause-range : goal.returns-clause-range
returns-clause-range c =
    child_numbers_in_range (nat_abs c.args.a) (nat_abs c.args.k) c.args.p.now (listed c.ways_of-ways.result c.growths_of-growths.result) (size_of 20 c.args.a c.requires.acceleration) (size_of 1000 c.args.k c.requires.ticks) c.requires.near (numbers c.args.a c.args.k c.args.p.now c.corners.result.now c.ways_of-ways.result c.growths_of-growths.result c.corners.ensures.items c.requires.acceleration c.requires.ticks c.requires.near c.ways_of-ways.ensures c.growths_of-growths.ensures)
