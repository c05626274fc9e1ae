use Rattle.std.proofs.Common.{◌≡◌, ◌∙◌, List, [], ◌∷◌, ◌++◌, map, ap, sym, append_assoc, append-nil}
use Rattle.json.specs.Token.{Token, end_array}
use Rattle.spot_terms.specs.Lists.{numbers_from}
use Rattle.spot_terms.specs.Samples.{Made}
use Rattle.spot_terms.specs.Samples.{lanelet, mover, problem, items, roads}
use Rattle.sample_roads.specs.Written.{tokens_of, all_tokens, root_opening}
use Rattle.sample_roads.proofs.Appended.{before, same, held, all_behind}
use Rattle.sample_roads.proofs.sample.put_roads.Goals as goal

parts : (ls ms : List Made) (p : Made) → all_tokens ls ++ (all_tokens ms ++ (tokens_of p ++ end_array ∷ [])) ≡ all_tokens (ls ++ (ms ++ p ∷ [])) ++ end_array ∷ []
parts ls ms p =
    let e : all_tokens (ls ++ (ms ++ p ∷ [])) ≡ all_tokens ls ++ (all_tokens ms ++ tokens_of p) = all_behind ls (ms ++ p ∷ []) ∙ ap (λ (ts : List Token). all_tokens ls ++ ts) (all_behind ms (p ∷ []) ∙ ap (λ (ts : List Token). all_tokens ms ++ ts) (append-nil (tokens_of p))) in
    sym (ap (λ (ts : List Token). ts ++ end_array ∷ []) e ∙ (append_assoc (all_tokens ls) (all_tokens ms ++ tokens_of p) (end_array ∷ []) ∙ ap (λ (ts : List Token). all_tokens ls ++ ts) (append_assoc (all_tokens ms) (tokens_of p) (end_array ∷ []))))

pub returns-clause-tokens : goal.returns-clause-tokens
returns-clause-tokens c =
    let r = c.close.result in
    let d = c.close.new.out.tokens in
    let ls = map (lanelet c.args.lanes) (numbers_from 1 c.args.lanes) in
    let ms = map (mover c.args.seed c.args.lanes) (numbers_from 0 c.args.movers) in
    let p = tokens_of problem in
    let l = all_tokens ls in
    let m = all_tokens ms in
    same r c.args.out.now.tokens d (root_opening ++ (l ++ (m ++ (p ++ end_array ∷ [])))) (tokens_of (roads c.args.seed c.args.lanes c.args.movers))
    (ap (λ (ts : List Token). root_opening ++ ts) (parts ls ms problem ∙ sym (held (items c.args.seed c.args.lanes c.args.movers))))
    (before r c.args.out.now.tokens c.open_root.new.out.tokens d root_opening (l ++ (m ++ (p ++ end_array ∷ []))) c.in_ok-open_root.ensures.tokens
    (before r c.open_root.new.out.tokens c.put_lanelets.new.out.tokens d l (m ++ (p ++ end_array ∷ [])) c.in_ok-put_lanelets.ensures.tokens
    (before r c.put_lanelets.new.out.tokens c.put_movers.new.out.tokens d m (p ++ end_array ∷ []) c.in_ok-put_movers.ensures.tokens
    (before r c.put_movers.new.out.tokens c.put_problem.new.out.tokens d p (end_array ∷ []) c.in_ok-put_problem.ensures.tokens c.close.ensures.tokens))))
