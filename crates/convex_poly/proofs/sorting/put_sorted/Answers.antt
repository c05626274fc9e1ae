use Rattle.std.proofs.Common.{◌≡◌, ℕ, ◌-◌, length, get_or, sym, ap, ◌∙◌, subst, List, arith}
use Rattle.std.specs.List.{refill}
use Rattle.spot_terms.specs.declared.plain.Pt.{Pt}
use Rattle.convex_poly.specs.Chains.{IsInOrder}
use Rattle.convex_poly.proofs.Orders.{in_order, refill_whole, all_in_order}
use Rattle.convex_poly.proofs.sorting.put_sorted.Goals as goal

pub returns-clause-order : goal.returns-clause-order
returns-clause-order c i j d h l =
    let after : List Pt = c.sort_unstable.new.self in
    let whole : refill (length c.loop-p.sorted.items) c.loop-p.sorted.items after ≡ after =
    refill_whole (length c.loop-p.sorted.items) c.loop-p.sorted.items after (c.sort_unstable.ensures.len ∙ ap length c.as_mut_slice.ensures.value) in
    subst (λ (z : List Pt). IsInOrder (get_or z i d) (get_or z j d)) (sym whole)
    (subst (λ (n : ℕ). IsInOrder (get_or after i d) (get_or after n d)) (omega arith)
    (all_in_order after (λ k e m. in_order _ _ (c.sort_unstable.ensures.sorted k e (omega arith) m)) i (j - i - 1) d (omega (arith, ap length whole))))
