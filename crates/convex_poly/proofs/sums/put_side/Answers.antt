use Rattle.std.proofs.Common.{List, subst, length, ◌≤◌}
use Rattle.spot_terms.specs.declared.plain.Pt.{Pt}
use Rattle.convex_poly.specs.Chains.{IsChain, Rising}
use Rattle.convex_poly.proofs.SumSides.{sum_side}
use Rattle.convex_poly.proofs.sums.put_side.Goals as goal

pub returns : goal.returns
returns c kx ky us vs pa pb =
    let path : List Pt = c.put_path.new.path.items in
    let chain : List Pt = c.put_chain.new.chain.items in
    let made : Rising kx ky path → IsChain kx ky path chain = subst (λ (z : List Pt). Rising kx ky z → IsChain kx ky z chain) c.as_slice.ensures.value (c.put_chain.ensures.chain kx ky) in
    sum_side kx ky us vs c.args.a.now c.args.b.now path pa pb c.requires.a_some c.requires.b_some c.put_path.ensures.path chain (made (c.put_path.ensures.path.rises kx ky pa.side pb.side))
    (subst (λ (z : List Pt). length chain ≤ length z) c.as_slice.ensures.value c.put_chain.ensures.few)
