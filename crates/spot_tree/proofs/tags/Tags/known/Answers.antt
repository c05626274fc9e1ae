use Rattle.std.proofs.Common.{rules, ◌≡◌, ◌∙◌, ◌<◌, [], List, ℕ, length, map, slice_index_or, string_bytes, ap, sym, arith}
use Rattle.std.proofs.lemmas.List.{get_or-map, nil_from_length}
use Rattle.spot_tree.specs.Spans.{NameAndPairs, tag_in, tag_pair}
use Rattle.spot_tree.specs.Views.{pair}
use Rattle.spot_tree.specs.declared.tags.Tag.{Tag}
use Rattle.spot_tree.proofs.tags.Tags.known.Goals as goal

pub returns-then-eq-clause-is : goal.returns-then-eq-clause-is
returns-then-eq-clause-is c =
    let tags = c.self.inside.tags.items in
    let i : ℕ = slice_index_or c.self.inside.remembered c.place_of.result 0 in
    let tag : Tag = c.index-tag.result.now in
    let within : i < length tags = grind arith in
    let called : string_bytes tag.name ≡ c.args.name.now = search rules in
    let len : length tag.attributes.items ≡ 0 = grind arith in
    ap (λ (ts : List NameAndPairs). tag_in ts i) (sym c.self.view_is)
    ∙ (get_or-map tag_pair tags i tag ([], []) within
    ∙ (ap tag_pair (sym c.index-tag.ensures) ∙ (λ j. (called j, map pair (nil_from_length tag.attributes.items len j)))))
