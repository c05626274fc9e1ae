use Rattle.std.proofs.Common.{◌≡◌, ◌∙◌, ◌<◌, ◌≤◌, ℕ, ap, arith, subst, sym, length, get_or, List, to_z, of_z, w64, FitsSigned}
use Rattle.std.specs.Prelude.{nat_abs}
use Rattle.std.specs.Int.{int_max, int_min}
use Rattle.std.specs.List.{AllByRecursion}
use Rattle.std.proofs.lemmas.Int.{ints}
use lib.IntN.{ℤ, pos, ◌+ℤ◌}
use Rattle.spot_terms.specs.declared.plain.Pt.{Pt}
use Rattle.spot_terms.specs.Whole.{Within}
use Rattle.spot_terms.proofs.ListLemmas.{all_included, includes_at}
use Rattle.propagate.specs.Children.{IsStepPoint}
use Rattle.propagate.specs.Ways.{AreWays}
use Rattle.propagate.proofs.ChildCode.{ticks_read}
use Rattle.propagate.proofs.Spans.{first_ways, next_ways, whole_ways}
use Rattle.propagate.proofs.ways.ways_of.Goals as goal
use Rattle.propagate.proofs.ways.ways_of.Goals.{After-widen-in-loop-i-3, After-of-4}

abbrev origin : Pt
origin = record { x = pos 0; y = pos 0 }

point_at : (vs : List Pt) (i : ℕ) → AllByRecursion IsStepPoint vs → i < length vs → IsStepPoint (get_or vs i origin)
point_at vs i near h = all_included IsStepPoint vs (get_or vs i origin) near (includes_at vs i origin h)

read : (z : ℤ) → nat_abs z ≤ 31_000_000_000_000 → to_z w64 (of_z w64 z) ≡ z
read z h = omega (arith, ints)

place : (p : Pt) → IsStepPoint p → to_z w64 (of_z w64 p.x) ≡ p.x
place p h = let x = h.x in read p.x (omega arith)

speed : (p : Pt) → IsStepPoint p → to_z w64 (of_z w64 p.y) ≡ p.y
speed p h = let y = h.y in read p.y (omega arith)

-- the sum of a place and the next one, as the code reads it
sum : (p : Pt) (z : ℤ) → IsStepPoint p → nat_abs z ≤ 31_000_000_000_000 → to_z w64 (of_z w64 (to_z w64 (of_z w64 p.x) +ℤ to_z w64 (of_z w64 z))) ≡ p.x +ℤ z
sum p z h g = let x = h.x in omega (arith, ints)

sum_fits : (p : Pt) (z : ℤ) → IsStepPoint p → nat_abs z ≤ 31_000_000_000_000 → FitsSigned w64 (to_z w64 (of_z w64 p.x) +ℤ to_z w64 (of_z w64 z))
sum_fits p z h g = let x = h.x in omega (arith, ints)

pub next_place-next-requires-clause-near : goal.next_place-next-requires-clause-near
next_place-next-requires-clause-near c = point_at c.args.corners.now 0 c.requires.near c.requires.some

pub next_place-next-requires-clause-ticks : goal.next_place-next-requires-clause-ticks
next_place-next-requires-clause-ticks c = subst (Within (pos 1) (pos 1000)) (sym (ticks_read c.args.k c.requires.ticks)) c.requires.ticks

pub overflow_add-first : goal.overflow_add-first
overflow_add-first c = sum_fits (get_or c.args.corners.now 0 origin) c.next_place-next.result (point_at c.args.corners.now 0 c.requires.near c.requires.some) c.next_place-next.ensures.size

pub loop-i-init : goal.loop-i-init
loop-i-init c =
    let p : IsStepPoint (get_or c.args.corners.now 0 origin) = point_at c.args.corners.now 0 c.requires.near c.requires.some in
    let z = read c.next_place-next.result c.next_place-next.ensures.size in
    let s = sum (get_or c.args.corners.now 0 origin) c.next_place-next.result p c.next_place-next.ensures.size in
    first_ways (to_z w64 (of_z w64 c.args.k)) c.args.corners.now origin c.next_place-next.result _ c.of.result c.of-2.result c.of-3.result c.of-4.result c.requires.some c.next_place-next.ensures.value s
    (c.of.ensures.least ∙ speed _ p) (c.of.ensures.greatest ∙ speed _ p) (c.of-2.ensures.least ∙ place _ p) (c.of-2.ensures.greatest ∙ place _ p)
    (c.of-3.ensures.least ∙ z) (c.of-3.ensures.greatest ∙ z) c.of-4.ensures.least c.of-4.ensures.greatest

pub next_place-next-requires-in-loop-i-clause-near : goal.next_place-next-requires-in-loop-i-clause-near
next_place-next-requires-in-loop-i-clause-near c = point_at c.args.corners.now c.loop-i.i c.requires.near c.loop-i-test.true

pub next_place-next-requires-in-loop-i-clause-ticks : goal.next_place-next-requires-in-loop-i-clause-ticks
next_place-next-requires-in-loop-i-clause-ticks c = subst (Within (pos 1) (pos 1000)) (sym (ticks_read c.args.k c.requires.ticks)) c.requires.ticks

pub overflow_add-corner : goal.overflow_add-corner
overflow_add-corner c = sum_fits (get_or c.args.corners.now c.loop-i.i origin) c.next_place-next-in-loop-i.result (point_at c.args.corners.now c.loop-i.i c.requires.near c.loop-i-test.true) c.next_place-next-in-loop-i.ensures.size

min_at : (l x y : ℤ) → x ≡ y → int_min l x ≡ int_min l y
min_at l x y e = ap (int_min l) e

max_at : (l x y : ℤ) → x ≡ y → int_max l x ≡ int_max l y
max_at l x y e = ap (int_max l) e

pub loop-i-preserved : goal.loop-i-preserved
loop-i-preserved c =
    let p : IsStepPoint (get_or c.args.corners.now c.loop-i.i origin) = point_at c.args.corners.now c.loop-i.i c.requires.near c.loop-i-test.true in
    let z = read c.next_place-next-in-loop-i.result c.next_place-next-in-loop-i.ensures.size in
    let s = sum (get_or c.args.corners.now c.loop-i.i origin) c.next_place-next-in-loop-i.result p c.next_place-next-in-loop-i.ensures.size in
    next_ways (to_z w64 (of_z w64 c.args.k)) c.args.corners.now c.loop-i.i origin c.next_place-next-in-loop-i.result _ c.loop-i.ways c.widen.new.self c.widen-in-loop-i.new.self c.widen-in-loop-i-2.new.self c.widen-in-loop-i-3.new.self c.loop-i-test.true c.loop-i.invariant c.next_place-next-in-loop-i.ensures.value s
    (c.widen.ensures.least ∙ min_at _ _ _ (speed _ p)) (c.widen.ensures.greatest ∙ max_at _ _ _ (speed _ p))
    (c.widen-in-loop-i.ensures.least ∙ min_at _ _ _ (place _ p)) (c.widen-in-loop-i.ensures.greatest ∙ max_at _ _ _ (place _ p))
    (c.widen-in-loop-i-2.ensures.least ∙ min_at _ _ _ z) (c.widen-in-loop-i-2.ensures.greatest ∙ max_at _ _ _ z)
    c.widen-in-loop-i-3.ensures.least c.widen-in-loop-i-3.ensures.greatest

pub returns : goal.returns
returns c =
    subst (λ z. AreWays z c.args.corners.now c.loop-i.ways) (ticks_read c.args.k c.requires.ticks)
    (whole_ways (to_z w64 (of_z w64 c.args.k)) c.args.corners.now c.loop-i.i c.loop-i.ways c.loop-i-test.false c.loop-i.invariant)
