-- The parts of a drawing.
use Rattle.std.proofs.Common.{◌≡◌, ◌∙◌, ℕ, ◌+◌, ◌<◌, ◌≤◌, List, [], ◌∷◌, ◌++◌, map, drop, get_or, length, ap, refl, append_assoc}
use Rattle.std.specs.Prelude.{codes}
use Rattle.std.specs.List.{flat_map}
use Rattle.std.proofs.lemmas.List.{drop_all}
use Rattle.spot_terms.specs.BaseSets.{Rect}
use Rattle.spot_terms.specs.Drawings.{drawing_text, first_line, shape_line, set_line}
use Rattle.base_sets.specs.Values.{value_of}
use Rattle.base_sets.specs.declared.sets.BaseSet.{BaseSet}
use Rattle.text_report.proofs.ReportLines.{item}
use Rattle.svg_report.specs.Shapes.{drawn_of}
use Rattle.svg_report.specs.declared.shape.Shape.{Shape}

flat_of_map : {X Y : Type 0} (f : Y → List ℕ) (h : X → Y) (xs : List X) → flat_map f (map h xs) ≡ flat_map (λ x. f (h x)) xs
flat_of_map f h [] = refl
flat_of_map f h (x ∷ xs) = ap (λ (t : List ℕ). f (h x) ++ t) (flat_of_map f h xs)

pub parts : (o : Rect) (shapes : List Shape) (sets : List BaseSet) → drawing_text o (map drawn_of shapes) (map value_of sets)
    ≡ first_line o ++ (flat_map (λ shape. shape_line (drawn_of shape)) shapes ++ (flat_map (λ b. set_line (value_of b)) sets ++ codes "</svg>\n"))
unfolding drawing_text
parts o shapes sets =
    ap (λ (t : List ℕ). ((first_line o ++ t) ++ flat_map set_line (map value_of sets)) ++ codes "</svg>\n") (flat_of_map shape_line drawn_of shapes)
    ∙ (ap (λ (t : List ℕ). ((first_line o ++ flat_map (λ shape. shape_line (drawn_of shape)) shapes) ++ t) ++ codes "</svg>\n") (flat_of_map set_line value_of sets)
    ∙ (append_assoc (first_line o ++ flat_map (λ shape. shape_line (drawn_of shape)) shapes) (flat_map (λ b. set_line (value_of b)) sets) (codes "</svg>\n")
    ∙ append_assoc (first_line o) (flat_map (λ shape. shape_line (drawn_of shape)) shapes) (flat_map (λ b. set_line (value_of b)) sets ++ codes "</svg>\n")))

-- of items with a text each: the next one's, and those behind it
pub next_of : {X : Type 0} (f : X → List ℕ) (xs : List X) (i : ℕ) (x : X) → i < length xs → x ≡ get_or xs i x → flat_map f (drop i xs) ≡ f x ++ flat_map f (drop (i + 1) xs)
next_of f xs i x h e = ap (flat_map f) (item xs i x h e)

pub none_left : {X : Type 0} (f : X → List ℕ) (xs : List X) (i : ℕ) → length xs ≤ i → flat_map f (drop i xs) ≡ []
none_left f xs i h = ap (flat_map f) (drop_all i xs h)
