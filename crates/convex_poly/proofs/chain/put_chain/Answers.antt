use Rattle.std.proofs.Common.{ℕ, ◌<◌, ◌∷◌, [], List, take, length, get_or, subst, sym, refl, arith}
use Rattle.std.specs.List.{AllByRecursion}
use Rattle.spot_terms.specs.declared.plain.Pt.{Pt}
use Rattle.convex_poly.specs.Polygons.{IsPosition}
use Rattle.convex_poly.proofs.Corners.{origin}
use Rattle.spot_terms.proofs.Places.{same_index, all_at}
use Rattle.convex_poly.proofs.ChainSteps.{chain_more, front_few, whole_chain, all_take}
use Rattle.convex_poly.proofs.chain.put_chain.Goals as goal
use Rattle.spot_terms.proofs.ListLemmas.{all_append}

pub loop-p-preserved : goal.loop-p-preserved
loop-p-preserved g c =
    let points : List Pt = c.args.points.now in
    let n : ℕ = c.loop-p.p-index in
    let next : Pt = get_or points n origin in
    let chain : List Pt = c.loop-p.chain.items in
    let new : List Pt = c.extend.new.chain.items in
    let inside : n < length points = c.loop-p-test.true in
    record {
      few = front_few chain new next n c.extend.ensures.front c.loop-p.invariant.few;
      positions = subst (AllByRecursion IsPosition) (sym c.extend.ensures.front.items)
          (all_append IsPosition (take c.extend.ensures.front.count chain) (next ∷ []) (all_take IsPosition c.extend.ensures.front.count chain c.loop-p.invariant.positions) (all_at IsPosition points n origin c.requires.positions inside, tt));
      chain = chain_more points chain new next n inside (same_index points n n origin next inside refl) c.loop-p.invariant.chain c.extend.ensures.front c.extend.ensures.turns c.extend.ensures.side;
    }

pub returns-clause-chain : goal.returns-clause-chain
returns-clause-chain g c kx ky r = whole_chain kx ky c.args.points.now c.loop-p.chain.items c.loop-p.p-index (omega (arith, c.loop-p-test.false)) (c.loop-p.invariant.chain kx ky r)
