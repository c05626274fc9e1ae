use Rattle.std.proofs.Common.{◌≡◌, ap, sym, subst, List, Option, Some, None}
use Rattle.spot_terms.specs.declared.plain.Pt.{Pt}
use Rattle.area_run.specs.Plans.{course_of}
use Rattle.area_run.specs.Strips.{IsChildAlong}
use Rattle.area_run.proofs.GroupSets.{child_along}
use Rattle.area_run.proofs.children.child_of.Goals as goal

pub returns-in-Some : goal.returns-in-Some
returns-in-Some c = record {
  along = subst (λ (z : List Pt). IsChildAlong (course_of c.args.plan.now) c.args.b.now.ylo c.args.b.now.yhi c.args.y.now (Some z)) (sym c.of.ensures.child)
      (child_along c.args.plan.now c.args.b.now.ylo c.args.b.now.yhi c.args.y.now (Some c.in-Some.child) c.requires.reach.ylo c.requires.reach.yhi c.in-Some.ensures.exact c.in-Some.ensures.holds);
  parts = c.of.ensures.parts;
}

pub returns-in-None : goal.returns-in-None
returns-in-None c = record {
  along = child_along c.args.plan.now c.args.b.now.ylo c.args.b.now.yhi c.args.y.now None c.requires.reach.ylo c.requires.reach.yhi c.in-None.ensures.exact c.in-None.ensures.holds;
  parts = tt;
}
