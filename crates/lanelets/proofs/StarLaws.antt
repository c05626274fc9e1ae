-- Cells that lie side by side are joined through pairs.
use Rattle.std.proofs.Common.{◌≡◌, ◌⊎◌, inl, inr, ℕ, ◌≤◌, ◌<◌, arith, refl, List, [], ◌∷◌, length}
use Rattle.std.proofs.lemmas.Bool.{cases_eq}
use Rattle.std.specs.Prelude.{Some, slice_get}
use Rattle.spot_terms.specs.Cells.{Lane, NetCell}
use Rattle.spot_terms.specs.Lists.{Includes, Lists}
use Rattle.spot_terms.specs.Network.{IsSide}
use Rattle.spot_terms.proofs.ListLemmas.{all_included}
use Rattle.spot_terms.proofs.ItemPlaces.{got_below, item_at}
use Rattle.lanelets.specs.declared.kept.KeptLane.{KeptLane}
use Rattle.lanelets.specs.declared.nearby.Nearby.{Nearby}
use Rattle.lanelets.specs.Beside.{IsPair}
use Rattle.lanelets.specs.Nearby.{AreKept}
use Rattle.lanelets.specs.Steps.{IsOfLane}
use Rattle.lanelets.proofs.SideLaws.{side_back}

-- a pair, or three one after the other
abbrev pub IsChain : List Lane → List NetCell → ℕ → ℕ → Type 0
IsChain lanes net c d = IsPair lanes net c d ⊎ ((y x : ℕ) × IsPair lanes net c y × IsPair lanes net y x × IsPair lanes net x d)

-- the first of a list that rises is its least
least_of : (P : ℕ → Type 0) (xs : List ℕ) (c : ℕ) → Lists P xs → P c → (x : ℕ) × P x × ((d : ℕ) → P d → x ≤ d)
least_of P [] c lists p = absurd (lists.all c p)
least_of P (x ∷ xs) c lists p = (x, lists.each x (inl refl), λ d q. low d (lists.all d q))
  where
    low : (d : ℕ) → (d ≡ x) ⊎ Includes xs d → x ≤ d
    low d (inl e) = omega (arith, e)
    low d (inr i) = let up : x < d = all_included (λ y. x < y) xs d lists.rises.0 i in omega (arith, up)

module _ (lanes : List Lane) (net : List NetCell) where
  -- a lanelet with a cell has a first one
  first_of : (kept : List KeptLane) (nearby : Nearby) (c e : ℕ) (l : Lane) → AreKept lanes net kept nearby → slice_get lanes e ≡ Some l → IsOfLane net c e → (x : ℕ) × IsOfLane net x e × ((d : ℕ) → IsOfLane net d e → x ≤ d)
  first_of kept nearby c e l k h of =
      let low = got_below lanes e l h in
      let many = k.near.parts.many in
      let (list, at) = item_at nearby.parts.items e (omega (arith, low, many)) in
      least_of (λ d. IsOfLane net d e) list c (k.near.parts.each e list at) of

  -- where the numbers of points are unlike, a cell lies beside each of the other lanelet
  abbrev side_to : (c d y : ℕ) (s : IsSide lanes net c d) → (length s.l.1.left ≡ length s.m.1.left → ⊥) → IsOfLane net y s.f → IsSide lanes net c y
  side_to c d y s unlike of = record {
    e = s.e;
    f = s.f;
    l = s.l;
    m = s.m;
    a = s.a;
    b = of.0;
    c_is = s.c_is;
    d_is = of.1;
    e_is = s.e_is;
    f_is = (of.2, s.f_is.1);
    neighbours = s.neighbours;
    beside = λ same. absurd (unlike same);
  }

  abbrev side_from : (c d x : ℕ) (s : IsSide lanes net c d) → (length s.l.1.left ≡ length s.m.1.left → ⊥) → IsOfLane net x s.e → IsSide lanes net x d
  side_from c d x s unlike of = record {
    e = s.e;
    f = s.f;
    l = s.l;
    m = s.m;
    a = of.0;
    b = s.b;
    c_is = of.1;
    d_is = s.d_is;
    e_is = (of.2, s.e_is.1);
    f_is = s.f_is;
    neighbours = s.neighbours;
    beside = λ same. absurd (unlike same);
  }

  pub side_chain : (kept : List KeptLane) (nearby : Nearby) → AreKept lanes net kept nearby → (c d : ℕ) → IsSide lanes net c d → IsChain lanes net c d
  side_chain kept nearby k c d s = elim (cases_eq (length s.l.1.left) (length s.m.1.left)) [
    | inl same ↦ inl (record { side = s; first = λ unlike. absurd (unlike same) })
    | inr unlike ↦
        (let (x, of_x, least_x) = first_of kept nearby c s.e s.l k s.e_is.1 (s.a, s.c_is, s.e_is.0) in
        let (y, of_y, least_y) = first_of kept nearby d s.f s.m k s.f_is.1 (s.b, s.d_is, s.f_is.0) in
        let across : IsSide lanes net x y = side_from c y x (side_to c d y s unlike of_y) unlike of_x in
        inr (
          y,
          x,
          record { side = side_to c d y s unlike of_y; first = λ u. inr (s.f, of_y, least_y) },
          record { side = side_back lanes net x y across; first = λ u. inl (s.f, of_y, least_y) },
          record { side = side_from c d x s unlike of_x; first = λ u. inl (s.e, of_x, least_x) },
        ))
  ]
