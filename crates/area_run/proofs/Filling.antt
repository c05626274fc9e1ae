-- The children of sets come into a table, one set after another.
use Rattle.std.proofs.Common.{◌≡◌, ◌∙◌, ℕ, ◌+◌, ◌<◌, refl, sym, ap, subst, List, [], ◌∷◌, ◌++◌, length, map, take, get_or, Some, None}
use Rattle.std.proofs.lemmas.List.{take_more, map-append}
use lib.IntN.{ℤ}
use Rattle.spot_terms.specs.BaseSets.{Rect, SetValue}
use Rattle.spot_terms.specs.Courses.{box_at}
use Rattle.spot_terms.specs.Lists.{Includes}
use Rattle.spot_terms.specs.declared.plain.Pt.{Pt}
use Rattle.spot_terms.proofs.ListLemmas.{includes_map}
use Rattle.spot_terms.proofs.ItemPlaces.{got_included}
use Rattle.std.proofs.lemmas.Option.{slice_get-get_or}
use Rattle.base_sets.specs.declared.sets.BaseSet.{BaseSet}
use Rattle.base_sets.specs.declared.grid.OuterBox.{OuterBox}
use Rattle.base_sets.specs.Values.{rect_of_box, value_of}
use Rattle.propagate.specs.Children.{AreChildren, HoldsNext}
use Rattle.merge_sets.specs.Tables.{Adds, Holds, Table}
use Rattle.area_laws.specs.Filling.{IsFilledFrom}
use Rattle.area_laws.specs.Laws.{TablesFill}
use Rattle.area_run.specs.Plans.{course_of}
use Rattle.area_run.specs.declared.plan.Plan.{Plan}

-- the set at a place of a list is one of its sets
pub listed : (sets : List BaseSet) (n : ℕ) (b : BaseSet) → n < length sets → b ≡ get_or sets n b → Includes (map value_of sets) (value_of b)
listed sets n b h e = includes_map value_of sets b (got_included sets n b (slice_get-get_or sets n b h ∙ ap (λ (z : BaseSet). Some z) (sym e)))

module _ (law : TablesFill) (p : Plan) (o : OuterBox) where
  abbrev pub IsFilledSo : List BaseSet → Table → Type 0
  IsFilledSo sets t = (i : ℕ) → rect_of_box o ≡ box_at (course_of p) i → IsFilledFrom (course_of p) i (map value_of sets) t

  pub fill_none : (t : Table) → t.step ≡ Some (o, p.grid, p.k) → ((col row : ℤ) → Holds t col row None) → IsFilledSo [] t
  fill_none t step empty i e = law.none (course_of p) i o p.grid t (record { step = step; box = e; w = refl; g = refl }) empty
