use Rattle.std.proofs.Common.{sym, ◌∙◌, arith}
use Rattle.spot_terms.specs.Types.{type_named}
use Rattle.scenario.proofs.Facts.{kind_is, kind_next, kind_here, kind_end}
use Rattle.scenario.proofs.items.kind_of.Goals as goal

pub loop-named-init : goal.loop-named-init
loop-named-init c = kind_is c.kinds-named-items.result.now c.args.text.now c.kinds-named-items.ensures

pub loop-named-preserved : goal.loop-named-preserved
loop-named-preserved c = sym (kind_next c.kinds-named-items.result.now c.loop-named.named-index _ c.args.text.now c.loop-named-test.true (sym c.eq.ensures ∙ c.if-eq.false)) ∙ c.loop-named.invariant

pub returns-then-eq : goal.returns-then-eq
returns-then-eq c = sym (kind_here c.kinds-named-items.result.now c.loop-named.named-index _ c.args.text.now c.loop-named-test.true (sym c.eq.ensures ∙ c.if-eq.true)) ∙ c.loop-named.invariant

pub returns : goal.returns
returns c = kind_end c.kinds-named-items.result.now c.loop-named.named-index c.args.text.now (type_named c.args.text.now).kind (omega arith) c.loop-named.invariant
