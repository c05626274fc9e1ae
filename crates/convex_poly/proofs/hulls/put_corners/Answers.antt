use Rattle.std.proofs.Common.{◌≡◌, arith, ◌∙◌, ◌++◌, List, length, ap, sym, subst}
use Rattle.std.specs.Prelude.{reverse, ℤ}
use Rattle.std.specs.List.{AllByRecursion}
use Rattle.std.specs.List.Sorted.{IsPermutation}
use Rattle.spot_terms.specs.declared.plain.Pt.{Pt}
use Rattle.convex_poly.specs.Chains.{between_ends, IsChain, Rising}
use Rattle.convex_poly.specs.Polygons.{IsPosition}
use Rattle.convex_poly.proofs.Orders.{refill_whole}
use Rattle.convex_poly.proofs.HullCorners.{hull_of_code, positions_of, positions_reversed}
use Rattle.convex_poly.proofs.hulls.put_corners.Goals as goal

pub put_chain-requires : goal.put_chain-requires
put_chain-requires c =
    let positions : AllByRecursion IsPosition c.as_slice-2.result.now =
    rw c.as_slice-2.ensures.value (positions_of c.args.points.now c.as_slice.result.now c.put_distinct.new.kept.items c.requires.positions (subst (IsPermutation c.args.points.now) (sym c.as_slice.ensures.value) c.put_sorted.ensures.permutation) c.put_distinct.ensures.among) in
    (omega arith, (c.as_slice-2.ensures.fits, positions))

pub put_chain-requires-2 : goal.put_chain-requires-2
put_chain-requires-2 c =
    let s : List Pt = c.put_distinct.new.kept.items in
    let e : c.as_slice-3.result.now ≡ reverse s = c.as_slice-3.ensures.value ∙ refill_whole (length s) s c.reverse.new.self (c.reverse.ensures.len ∙ ap length c.as_mut_slice.ensures.value) ∙ c.reverse.ensures.after ∙ ap reverse c.as_mut_slice.ensures.value in
    let positions : AllByRecursion IsPosition c.as_slice-3.result.now =
    positions_reversed s c.as_slice-3.result.now
    (positions_of c.args.points.now c.as_slice.result.now s c.requires.positions (subst (IsPermutation c.args.points.now) (sym c.as_slice.ensures.value) c.put_sorted.ensures.permutation) c.put_distinct.ensures.among) e in
    (omega arith, (c.as_slice-3.ensures.fits, positions))

pub put_joined-requires : goal.put_joined-requires
put_joined-requires c =
    let s : List Pt = c.put_distinct.new.kept.items in
    let e : c.as_slice-3.result.now ≡ reverse s = c.as_slice-3.ensures.value ∙ refill_whole (length s) s c.reverse.new.self (c.reverse.ensures.len ∙ ap length c.as_mut_slice.ensures.value) ∙ c.reverse.ensures.after ∙ ap reverse c.as_mut_slice.ensures.value in
    rw (c.as_slice-4.ensures.value, c.as_slice-5.ensures.value)
    (c.requires.few_corners (c.put_chain.new.chain.items ++ between_ends c.put_chain-2.new.chain.items)
    (hull_of_code c.args.points.now c.as_slice.result.now s c.as_slice-3.result.now c.put_chain.new.chain.items c.put_chain-2.new.chain.items c.requires.some c.requires.positions (subst (IsPermutation c.args.points.now) (sym c.as_slice.ensures.value) c.put_sorted.ensures.permutation) c.put_distinct.ensures.ordered c.put_distinct.ensures.among c.put_distinct.ensures.all e
    (subst (λ z. (kx ky : ℤ) → Rising kx ky z → IsChain kx ky z c.put_chain.new.chain.items) c.as_slice-2.ensures.value c.put_chain.ensures.chain) c.put_chain-2.ensures.chain))

pub returns : goal.returns
returns c =
    let s : List Pt = c.put_distinct.new.kept.items in
    let e : c.as_slice-3.result.now ≡ reverse s = c.as_slice-3.ensures.value ∙ refill_whole (length s) s c.reverse.new.self (c.reverse.ensures.len ∙ ap length c.as_mut_slice.ensures.value) ∙ c.reverse.ensures.after ∙ ap reverse c.as_mut_slice.ensures.value in
    rw (c.put_joined.ensures, c.as_slice-4.ensures.value, c.as_slice-5.ensures.value)
    (hull_of_code c.args.points.now c.as_slice.result.now s c.as_slice-3.result.now c.put_chain.new.chain.items c.put_chain-2.new.chain.items c.requires.some c.requires.positions (subst (IsPermutation c.args.points.now) (sym c.as_slice.ensures.value) c.put_sorted.ensures.permutation) c.put_distinct.ensures.ordered c.put_distinct.ensures.among c.put_distinct.ensures.all e
    (subst (λ z. (kx ky : ℤ) → Rising kx ky z → IsChain kx ky z c.put_chain.new.chain.items) c.as_slice-2.ensures.value c.put_chain.ensures.chain) c.put_chain-2.ensures.chain)
