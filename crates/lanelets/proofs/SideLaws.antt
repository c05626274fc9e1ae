-- Side cells are side cells of each other.
use Rattle.std.proofs.Common.{◌≡◌, ℕ, List, refl, sym, Bool, true, false, arith}
use Rattle.std.proofs.lemmas.Bool.Decides.{nat_tests}
use Rattle.std.specs.List.{list_any}
use Rattle.std.specs.Prelude.{◌&&◌, ◌||◌, not, ◌==◌}
use Rattle.spot_terms.specs.Cells.{Lane, NetCell}
use Rattle.spot_terms.specs.Network.{IsSide, Overlaps, are_neighbours}
use Rattle.spot_terms.specs.declared.network.Origin.{Origin}
use Rattle.spot_terms.specs.declared.network.Origin.TheVariants.{Part, Bridge}

-- what overlaps a part is overlapped by it
overlaps_back : (o q : Origin) → Overlaps o q → Overlaps q o
overlaps_back (Part e piece part parts) (Part f piece' part' parts') h = (sym h.0, h.2, h.1)
overlaps_back (Part e piece part parts) (Bridge f g) h = absurd h
overlaps_back (Bridge e f) o h = absurd h

-- neighbours of a lanelet have it as a neighbour
neighbours_back : (l m : Lane) → are_neighbours l m ≡ true → are_neighbours m l ≡ true
neighbours_back l m h = turned (list_any (λ i. i == m.0) l.1.sides) (list_any (λ i. i == l.0) m.1.sides) (l.0 == m.0) (m.0 == l.0) (same l.0 m.0) h
  where
    same : (a b : ℕ) → (a == b) ≡ (b == a)
    same a b = grind (arith, nat_tests)

    turned : (p q s t : Bool) → s ≡ t → (not s && (p || q)) ≡ true → (not t && (q || p)) ≡ true
    turned p q true t e h = cc
    turned true true false false e h = refl
    turned true false false false e h = refl
    turned false true false false e h = refl
    turned false false false false e h = cc
    turned p q false true e h = cc

pub side_back : (lanes : List Lane) (net : List NetCell) (c d : ℕ) → IsSide lanes net c d → IsSide lanes net d c
side_back lanes net c d s = record {
  e = s.f;
  f = s.e;
  l = s.m;
  m = s.l;
  a = s.b;
  b = s.a;
  c_is = s.d_is;
  d_is = s.c_is;
  e_is = s.f_is;
  f_is = s.e_is;
  neighbours = neighbours_back s.l s.m s.neighbours;
  beside = λ h. overlaps_back s.a.origin s.b.origin (s.beside (sym h));
}
