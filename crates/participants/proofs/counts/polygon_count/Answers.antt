use Rattle.std.proofs.Common.{◌≡◌, ◌∙◌, ℕ, ◌+◌, ◌<◌, ◌≤◌, List, [], drop, get_or, length, refl, sym, ap, arith}
use Rattle.std.specs.Prelude.{sum_by}
use Rattle.std.proofs.lemmas.List.{drop_all}
use Rattle.std.proofs.lemmas.List.Sums.{sum_by-drop_more}
use Rattle.participants.specs.declared.participant.Participant.{Participant}
use Rattle.participants.proofs.Pairs.{polygons_of}
use Rattle.participants.proofs.counts.polygon_count.Goals as goal

-- the polygons of the next participant
next : (ps : List Participant) (i : ℕ) (p : Participant) (n : ℕ) → i < length ps → p ≡ get_or ps i p → n ≡ polygons_of p → sum_by polygons_of (drop i ps) ≡ n + sum_by polygons_of (drop (i + 1) ps)
next ps i p n less is e =
    sum_by-drop_more polygons_of ps i p less
    ∙ ap (λ (q : Participant). polygons_of q + sum_by polygons_of (drop (i + 1) ps)) (sym is)
    ∙ ap (λ (k : ℕ). k + sum_by polygons_of (drop (i + 1) ps)) (sym e)

none_left : (ps : List Participant) (i : ℕ) → length ps ≤ i → sum_by polygons_of (drop i ps) ≡ 0
none_left ps i h = ap (sum_by polygons_of) (drop_all i ps h)

pub loop-p-init : goal.loop-p-init
loop-p-init c = omega arith

pub overflow_add-count : goal.overflow_add-count
overflow_add-count c =
    let e = next c.args.participants.now c.loop-p.p-index c.p-item.result (length c.list.result.now) c.loop-p-test.true c.p-item.is (ap length c.list.ensures) in
    let all = c.loop-p.invariant in
    let few = c.requires in
    omega (arith, e, all, few)

pub loop-p-preserved : goal.loop-p-preserved
loop-p-preserved c =
    let e = next c.args.participants.now c.loop-p.p-index c.p-item.result (length c.list.result.now) c.loop-p-test.true c.p-item.is (ap length c.list.ensures) in
    let all = c.loop-p.invariant in
    omega (arith, e, all)

pub returns : goal.returns
returns c =
    let e = none_left c.args.participants.now c.loop-p.p-index c.loop-p-test.false in
    let all = c.loop-p.invariant in
    omega (arith, e, all)
