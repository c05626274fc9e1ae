use Rattle.std.proofs.Common.{rules, ◌≡◌, ◌∙◌, ◌++◌, ◌∷◌, [], List, map, ap}
use Rattle.std.proofs.lemmas.List.{map-append}
use Rattle.spot_tree.specs.Spans.{NameAndPairs, tag_pair}
use Rattle.spot_tree.specs.declared.tags.Tag.{Tag}
use Rattle.spot_tree.proofs.tags.Tags.add.Goals as goal

pub returns-clause-grown : goal.returns-clause-grown
returns-clause-grown c =
    let tags = c.self.inside.tags.items in
    let tag : Tag = record { name = c.in_ok-name.name; attributes = c.args.attributes } in
    let pushed : c.push.new.self.items ≡ tags ++ tag ∷ [] = search rules in
    (tag_pair tag ∷ [], ap (map tag_pair) pushed ∙ (map-append tag_pair tags (tag ∷ []) ∙ ap (λ (ts : List NameAndPairs). ts ++ tag_pair tag ∷ []) c.self.view_is))
