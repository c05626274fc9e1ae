use Rattle.std.proofs.Common.{◌≡◌, ◌∙◌, ◌+◌, ◌<◌, ◌++◌, ◌∷◌, [], List, length, ap, sym, subst, ◌⊎◌, inl, inr, true, false}
use Rattle.std.specs.List.{AllByRecursion}
use Rattle.spot_terms.specs.declared.plain.Pt.{Pt}
use Rattle.convex_poly.specs.Polygons.{IsPosition}
use Rattle.convex_poly.proofs.Merges.{so_far_none, so_far_step, so_far_whole}
use Rattle.convex_poly.proofs.sums.put_path.Goals as goal
use Rattle.convex_poly.proofs.sums.put_path.Goals.{then-i-a, else-i-a+then-j-b, then-goes_first, else-goes_first}
use Rattle.spot_terms.proofs.ListLemmas.{all_append}

pub loop-i-init : goal.loop-i-init
loop-i-init c =
    let e : c.push.new.self.items ≡ c.sum.result ∷ [] = c.push.ensures.items ∙ ap (λ (z : List Pt). z ++ c.sum.result ∷ []) c.clear.ensures in
    record {
      path = so_far_none c.args.a.now c.args.b.now c.push.new.self.items _ c.requires.a_some c.requires.b_some (e ∙ ap (λ (z : Pt). z ∷ []) c.sum.ensures.value);
      positions = subst (AllByRecursion IsPosition) (sym e) (c.sum.ensures.position, tt);
    }

pub loop-i-preserved : goal.loop-i-preserved
loop-i-preserved c =
    let some : (c.loop-i.i + 1 < length c.args.a.now) ⊎ (c.loop-i.j + 1 < length c.args.b.now) =
    elim c.if-i-a.branch [ then-i-a w ↦ inl w.if-i-a.true | else-i-a+then-j-b w ↦ inr w.if-j-b.true ] in
    record {
      path = so_far_step c.args.a.now c.args.b.now c.loop-i.path.items c.push-in-loop-i.new.self.items c.loop-i.i c.loop-i.j c.if-goes_first.i c.if-goes_first.j c.sum-in-loop-i.result _
          c.loop-i.invariant.path c.push-in-loop-i.ensures.items c.sum-in-loop-i.ensures.value
          (elim c.if-goes_first.branch [
            | then-goes_first w ↦ inl (c.goes_first.ensures.0 w.if-goes_first.true, w.i-is, w.j-is)
            | else-goes_first w ↦ inr ((λ goes. let yes : c.goes_first.result ≡ true = c.goes_first.ensures.1 goes in let no : c.goes_first.result ≡ false = w.if-goes_first.false in cc), some, w.i-is, w.j-is)
          ]);
      positions = subst (AllByRecursion IsPosition) (sym c.push-in-loop-i.ensures.items) (all_append IsPosition c.loop-i.path.items (c.sum-in-loop-i.result ∷ []) c.loop-i.invariant.positions (c.sum-in-loop-i.ensures.position, tt));
    }

pub returns-clause-path : goal.returns-clause-path
returns-clause-path c = so_far_whole c.args.a.now c.args.b.now c.loop-i.path.items c.loop-i.i c.loop-i.j c.loop-i.invariant.path c.if-i-a.false c.if-j-b.false
