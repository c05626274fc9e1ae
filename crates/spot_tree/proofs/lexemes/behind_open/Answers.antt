use Rattle.std.proofs.Common.{◌≡◌, ◌∙◌, ◌∷◌, ℕ, ap, sym, rules}
use Rattle.json.specs.Lex.{lex, between}
use Rattle.spot_tree.proofs.Lexing.{open_object_first}
use Rattle.spot_tree.proofs.lexemes.behind_open.Goals as goal

pub returns-then-first-eq123-clause-lexes : goal.returns-then-first-eq123-clause-lexes
returns-then-first-eq123-clause-lexes c =
    let rest = c.in_ok-first.rest.now in
    let brace : c.in_ok-first.first ≡ 123 = search rules in
    sym c.behind_spaces.ensures.lexes ∙ (ap (lex between) c.in_ok-first.ensures ∙ (ap (λ (x : ℕ). lex between (x ∷ rest)) brace ∙ open_object_first rest))
