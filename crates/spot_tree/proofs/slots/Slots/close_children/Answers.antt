use Rattle.std.proofs.Common.{rules, ◌≡◌, ◌++◌, ◌+◌, [], ◌∙◌, ◌<◌, length, set, get_or, List, ℕ, ap, refl, arith}
use Rattle.std.proofs.lemmas.List.{length-map}
use Rattle.spot_claims.specs.Tree.{Element, no_element}
use Rattle.spot_tree.specs.Opening.{filled}
use Rattle.spot_tree.specs.Spans.{cut, slot_element}
use Rattle.spot_tree.specs.declared.letters.Span.{Span}
use Rattle.spot_tree.specs.declared.slots.Slot.{Slot}
use Rattle.spot_tree.specs.declared.slots.Content.TheVariants.{Children}
use Rattle.spot_tree.proofs.Cuts.{with_children, written_seen, added_cut}
use Rattle.spot_tree.proofs.slots.Slots.close_children.Goals as goal

pub returns : goal.returns
returns c =
    λ _.
    let i = c.self.inside in
    let kids : c.extend_from_slice.new.self.items ≡ i.children.items ++ c.args.children.now = search rules in
    let len : c.len-start.result ≡ length i.children.items = search rules in
    let within : c.args.at < length i.slots.items = omega (arith, c.requires, ap length c.self.view_is, length-map i.slots.items (slot_element i.letters i.children.items i.tags)) in
    let s : Span = record { start = c.len-start.result; end = c.len-start.result + length c.args.children.now } in
    let x : Slot = record { tag = c.index_mut.result.now.tag; content = Children s } in
    written_seen (with_children i.letters i.children.items c.extend_from_slice.new.self.items c.args.children.now i.tags kids) i.slots.items c.args.at c.index_mut.result.now x [] c.args.children.now c.self.invariant within c.index_mut.ensures.value refl refl
    (ap (λ (ks : List ℕ). cut ks s) kids ∙ added_cut i.children.items c.args.children.now s len (omega (arith, len)))
    ∙ ap (λ (es : List Element). set es c.args.at (filled (get_or es c.args.at no_element) [] c.args.children.now)) c.self.view_is
