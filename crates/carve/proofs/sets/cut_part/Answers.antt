use Rattle.std.proofs.Common.{◌≡◌, ◌∙◌, ◌++◌, ◌∷◌, [], ap, refl, Some, None, FitsSigned, w64, to_z-of_z}
use Rattle.spot_terms.specs.BaseSets.{SetValue}
use Rattle.spot_terms.specs.ClippedTo.{places}
use Rattle.round_out.specs.Parts.{IsPart, KeepsParts}
use Rattle.carve.specs.Cuts.{with_x}
use Rattle.carve.specs.Parts.{parts_of}
use Rattle.carve.specs.Rooms.{SetRoom}
use Rattle.carve.proofs.CutSteps.{none_cut, cut_some, cut_none}
use Rattle.carve.proofs.RowPlaces.{fits_place}
use Rattle.carve.proofs.sets.cut_part.Goals as goal

pub returns-in-Some-clause-sets : goal.returns-in-Some-clause-sets
returns-in-Some-clause-sets c =
    let b : SetValue = parts_of c.args.b.now in
    let fits_0 : FitsSigned w64 c.args.run.now.0 = fits_place c.args.run.now.0 c.requires.low in
    let fits_1 : FitsSigned w64 c.args.run.now.1 = fits_place c.args.run.now.1 c.requires.high in
    let part : IsPart (places c.args.run.now.0 c.args.run.now.1) b.x (Some c.in-Some.x) = simp to_z-of_z at c.in-Some.ensures.part in
    let keeps : KeepsParts (places c.args.run.now.0 c.args.run.now.1) b.x (Some c.in-Some.x) = simp to_z-of_z at c.in-Some.ensures.keeps in
    let sets : c.push.new.self.sets ≡ c.args.out.now.sets ++ with_x b c.in-Some.x ∷ [] =
    ap (λ (l : SetRoom). l.sets) c.push.ensures ∙ ap (λ (v : SetValue). c.args.out.now.sets ++ v ∷ []) c.set_with_x.ensures in
    cut_some b [] _ c.args.run.now _ _ _ c.in-Some.x (none_cut b c.args.out.now.sets) part keeps sets refl

pub returns-in_default-clause-sets : goal.returns-in_default-clause-sets
returns-in_default-clause-sets c =
    let b : SetValue = parts_of c.args.b.now in
    let fits_0 : FitsSigned w64 c.args.run.now.0 = fits_place c.args.run.now.0 c.requires.low in
    let fits_1 : FitsSigned w64 c.args.run.now.1 = fits_place c.args.run.now.1 c.requires.high in
    let part : IsPart (places c.args.run.now.0 c.args.run.now.1) b.x None = simp to_z-of_z at c.in_default.ensures.part in
    let keeps : KeepsParts (places c.args.run.now.0 c.args.run.now.1) b.x None = simp to_z-of_z at c.in_default.ensures.keeps in
    cut_none b [] _ c.args.run.now _ _ _ (none_cut b c.args.out.now.sets) part keeps refl refl
