-- The types of obstacles by their names.
use Rattle.std.specs.Prelude.{ℕ, List, [], ◌∷◌, if◌then◌else◌}
use Rattle.spot_terms.specs.Types.{TypeRow}
use Rattle.std.specs.Str.{bytes_eq}
use Rattle.spot_terms.specs.declared.scenario.Kind.{Kind}
use Rattle.spot_terms.specs.declared.scenario.Kind.TheVariants.{Unknown}
use Rattle.scenario.specs.declared.items.NamedKind.{NamedKind}

-- the type with this name
abbrev pub kind_in : List NamedKind → List ℕ → Kind
kind_in [] text = Unknown
kind_in (n ∷ ns) text = (if bytes_eq n.name.now text then n.kind else kind_in ns text)

abbrev pub key_of : TypeRow → List ℕ × Kind
key_of r = (r.name, r.kind)

abbrev pub view_of : NamedKind → List ℕ × Kind
view_of n = (n.name.now, n.kind)
