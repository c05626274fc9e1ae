use Rattle.std.proofs.Common.{rules, ◌≡◌, ◌++◌, [], ◌∙◌, ◌<◌, length, set, get_or, List, ap, refl, arith}
use Rattle.std.proofs.lemmas.List.{length-map}
use Rattle.spot_claims.specs.Tree.{Element, no_element}
use Rattle.spot_tree.specs.Opening.{filled}
use Rattle.spot_tree.specs.Spans.{IsSpan, cut, slot_element}
use Rattle.spot_tree.specs.declared.slots.Slot.{Slot}
use Rattle.spot_tree.specs.declared.slots.Content.TheVariants.{Text}
use Rattle.spot_tree.proofs.Cuts.{with_letters, slot_written, written_seen}
use Rattle.spot_tree.proofs.slots.Slots.close_text.Goals as goal

pub returns : goal.returns
returns c =
    λ _.
    let i = c.self.inside in
    let grown : c.add.new.self ≡ i.letters ++ c.args.text.now = search rules in
    let is : IsSpan c.add.new.self c.in-Some.span × (cut c.add.new.self c.in-Some.span ≡ c.args.text.now) = search rules in
    let within : c.args.at < length i.slots.items = omega (arith, c.requires, ap length c.self.view_is, length-map i.slots.items (slot_element i.letters i.children.items i.tags)) in
    let x : Slot = record { tag = c.index_mut.result.now.tag; content = Text c.in-Some.span } in
    written_seen (with_letters i.letters c.add.new.self c.args.text.now i.children.items i.tags c.utf8.text grown) i.slots.items c.args.at c.index_mut.result.now x c.args.text.now [] c.self.invariant within c.index_mut.ensures.value refl is.1 refl
    ∙ ap (λ (es : List Element). set es c.args.at (filled (get_or es c.args.at no_element) c.args.text.now [])) c.self.view_is

pub invariant_of-self-2 : goal.invariant_of-self-2
invariant_of-self-2 c =
    let i = c.self.inside in
    let grown : c.add.new.self ≡ i.letters ++ c.args.text.now = search rules in
    let is : IsSpan c.add.new.self c.in-Some.span × (cut c.add.new.self c.in-Some.span ≡ c.args.text.now) = search rules in
    let within : c.args.at < length i.slots.items = omega (arith, c.requires, ap length c.self.view_is, length-map i.slots.items (slot_element i.letters i.children.items i.tags)) in
    let x : Slot = record { tag = c.index_mut.result.now.tag; content = Text c.in-Some.span } in
    slot_written (with_letters i.letters c.add.new.self c.args.text.now i.children.items i.tags c.utf8.text grown) i.slots.items c.args.at c.index_mut.result.now x c.self.invariant within c.index_mut.ensures.value refl is.0
