use Rattle.std.proofs.Common.{◌≡◌, ◌∙◌, ◌++◌, ◌∷◌, List, length, ap, append_assoc, arith, ◌<◌, ◌^◌}
use Rattle.std.specs.Prelude.{decimal}
use Rattle.std.specs.List.{flat_map}
use Rattle.spot_terms.specs.Report.{Text, numeral, pt_words}
use Rattle.spot_terms.specs.declared.plain.Pt.{Pt}
use Rattle.spot_terms.proofs.Numerals.{numeral_is_decimal}
use Rattle.text_report.specs.Blanked.{blanked}
use Rattle.text_report.proofs.writers.put_corners.Goals as goal

pub returns-clause-bytes : goal.returns-clause-bytes
returns-clause-bytes c =
    let p = c.args.p.now in
    let line : Text = c.args.line.now in
    let few : length p < 2 ^ 64 = omega (arith, c.corners-corners.ensures.polygon.few) in
    let count : c.number.new.self ≡ line ++ 32 ∷ decimal (length p) =
    c.number.ensures.bytes ∙ ap (λ (ps : List Pt). line ++ 32 ∷ decimal (length ps)) c.corners-corners.ensures.items in
    let number : c.number.new.self ≡ line ++ 32 ∷ numeral (length p) = count ∙ ap (λ (t : Text). line ++ 32 ∷ t) (numeral_is_decimal (length p) (omega arith)) in
    let corners : c.points.new.self ≡ c.number.new.self ++ blanked (flat_map pt_words p) =
    c.points.ensures.bytes ∙ ap (λ (ps : List Pt). c.number.new.self ++ blanked (flat_map pt_words ps)) c.corners-corners.ensures.items in
    corners ∙ (ap (λ (t : Text). t ++ blanked (flat_map pt_words p)) number ∙ append_assoc line (32 ∷ numeral (length p)) (blanked (flat_map pt_words p)))
