use Rattle.std.proofs.Common.{◌≡◌, ◌∙◌, ◌≤◌, length, List, ◌++◌, ap, sym, subst, ℕ}
use Rattle.std.specs.Str.{IsUtf8}
use Rattle.json.specs.Token.{Token}
use Rattle.json.specs.Print.{print}
use Rattle.sample_roads.specs.JsonOf.{text_of}
use Rattle.spot_terms.specs.Samples.{roads, sample_text}
use Rattle.sample_roads.specs.Written.{tokens_of}
use Rattle.sample_roads.proofs.Clean.{text_is, short}
use Rattle.sample_roads.proofs.Whole.{is_sample, the_tree}
use Rattle.sample_roads.proofs.sample.make.Goals as goal

pub returns-clause-accepted : goal.returns-clause-accepted
returns-clause-accepted c =
    let seed = c.args.seed in
    let lanes = c.args.lanes in
    let movers = c.args.movers in
    let written : c.put_roads.new.out.tokens ≡ tokens_of (roads seed lanes movers) = c.in_ok-put_roads.ensures.tokens ∙ ap (λ (ts : List Token). ts ++ tokens_of (roads seed lanes movers)) c.new-out.ensures.tokens in
    let text : c.into_inner.result.items ≡ text_of (roads seed lanes movers) = c.into_inner.ensures.items ∙ (ap (λ (b : List ℕ). b ++ print c.put_roads.new.out.tokens) (c.put_roads.ensures.before ∙ (c.new-out.ensures.before ∙ c.new.ensures.items)) ∙ ap print written) in
    let P : List Token → Type 0 = λ ts. IsUtf8 (print ts) in
    (the_tree seed lanes movers, is_sample seed lanes movers c.requires.some c.requires.few c.requires.crowd c.into_inner.result.items text (subst P written c.into_inner.ensures.utf8))

pub returns-clause-text : goal.returns-clause-text
returns-clause-text c =
    let seed = c.args.seed in
    let lanes = c.args.lanes in
    let movers = c.args.movers in
    let written : c.put_roads.new.out.tokens ≡ tokens_of (roads seed lanes movers) = c.in_ok-put_roads.ensures.tokens ∙ ap (λ (ts : List Token). ts ++ tokens_of (roads seed lanes movers)) c.new-out.ensures.tokens in
    let text : c.into_inner.result.items ≡ text_of (roads seed lanes movers) = c.into_inner.ensures.items ∙ (ap (λ (b : List ℕ). b ++ print c.put_roads.new.out.tokens) (c.put_roads.ensures.before ∙ (c.new-out.ensures.before ∙ c.new.ensures.items)) ∙ ap print written) in
    text ∙ text_is seed lanes movers c.requires.some c.requires.few c.requires.crowd

pub returns-clause-short : goal.returns-clause-short
returns-clause-short c =
    let seed = c.args.seed in
    let lanes = c.args.lanes in
    let movers = c.args.movers in
    let written : c.put_roads.new.out.tokens ≡ tokens_of (roads seed lanes movers) = c.in_ok-put_roads.ensures.tokens ∙ ap (λ (ts : List Token). ts ++ tokens_of (roads seed lanes movers)) c.new-out.ensures.tokens in
    let text : c.into_inner.result.items ≡ text_of (roads seed lanes movers) = c.into_inner.ensures.items ∙ (ap (λ (b : List ℕ). b ++ print c.put_roads.new.out.tokens) (c.put_roads.ensures.before ∙ (c.new-out.ensures.before ∙ c.new.ensures.items)) ∙ ap print written) in
    let same : c.into_inner.result.items ≡ sample_text seed lanes movers = text ∙ text_is seed lanes movers c.requires.some c.requires.few c.requires.crowd in
    subst (λ (b : List ℕ). length b ≤ 1_000_000) (sym same) (short seed lanes movers c.requires.some c.requires.few c.requires.crowd)
