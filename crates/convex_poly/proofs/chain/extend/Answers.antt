use Rattle.std.proofs.Common.{◌≡◌, sym, subst, List, true, false}
use Rattle.spot_terms.specs.declared.plain.Pt.{Pt}
use Rattle.convex_poly.specs.Chains.{HasDent}
use Rattle.convex_poly.proofs.Trims.{trim_none, trim_step, trim_turns}
use Rattle.convex_poly.proofs.chain.extend.Goals as goal

pub loop-chain-init : goal.loop-chain-init
loop-chain-init g c = trim_none c.args.chain.now.items c.args.next.now

pub loop-chain-preserved : goal.loop-chain-preserved
loop-chain-preserved g c =
    let dent : HasDent c.loop-chain.chain.items c.args.next.now =
    subst (λ (z : List Pt). HasDent z c.args.next.now) c.as_slice.ensures.value (c.has_dent.ensures.0 c.loop-chain-test.true) in
    trim_step _ _ _ _ c.loop-chain.invariant dent c.pop.ensures.rest

pub returns-clause-turns : goal.returns-clause-turns
returns-clause-turns g c =
    trim_turns _ _ _ _ c.loop-chain.invariant
    (λ dent.
    let yes : c.has_dent.result ≡ true = c.has_dent.ensures.1 (subst (λ (z : List Pt). HasDent z c.args.next.now) (sym c.as_slice.ensures.value) dent) in
    let no : c.has_dent.result ≡ false = c.loop-chain-test.false in
    cc)
    c.push.ensures.items
