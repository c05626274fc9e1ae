-- A set is cut run by run.
use Rattle.std.proofs.Common.{◌≡◌, ◌∙◌, arith, refl, sym, ap, subst, List, [], ◌∷◌, ◌++◌, append_assoc, ◌⊎◌, inl, inr, ℤ, neg_ℤ, ◌≤ℤ◌, Some, None}
use Rattle.std.proofs.lemmas.Int.{ints}
use Rattle.std.proofs.lemmas.List.{append-nil}
use Rattle.std.specs.List.{AllByRecursion}
use Rattle.spot_terms.specs.Avoidance.{IsHeldBy}
use Rattle.spot_terms.specs.BaseSets.{SetValue, HoldsState}
use Rattle.spot_terms.specs.ClippedTo.{places}
use Rattle.spot_terms.specs.Clips.{as_it_is, x_turned}
use Rattle.spot_terms.specs.Hull.{IsCornerList}
use Rattle.spot_terms.specs.Frames.{at}
use Rattle.spot_terms.specs.Lists.{Includes}
use Rattle.spot_terms.specs.Motions.{State}
use Rattle.spot_terms.specs.Whole.{Within}
use Rattle.spot_terms.specs.declared.plain.Pt.{Pt}
use Rattle.spot_terms.proofs.ListLemmas.{includes_front, includes_back, includes_either}
use Rattle.spot_terms.proofs.Places.{all_map}
use Rattle.round_out.specs.Parts.{IsPart, KeepsParts, IsOnSides}
use Rattle.round_out.proofs.ClipCases.{whole_clip}
use Rattle.round_out.proofs.Reflections.{mirror_as_it_is, mirror_x_turned}
use Rattle.carve.specs.Cuts.{with_x, AreCuts, IsCutBy}

cuts_more : (b : SetValue) (runs : List (ℤ × ℤ)) (run : ℤ × ℤ) (cuts : List SetValue) (x : List Pt) → AreCuts b runs cuts → IsPart (places run.0 run.1) b.x (Some x)
    → AreCuts b (runs ++ run ∷ []) (cuts ++ with_x b x ∷ [])
cuts_more b [] run cuts x h part = inr (x, [], part, refl, ap (λ (z : List SetValue). z ++ with_x b x ∷ []) h)
cuts_more b (r ∷ runs) run cuts x (inl (away, h)) part = inl (away, cuts_more b runs run cuts x h part)
cuts_more b (r ∷ runs) run cuts x (inr (y, rest, is, h, e)) part =
    inr (y, rest ++ with_x b x ∷ [], is, cuts_more b runs run rest x h part, ap (λ (z : List SetValue). z ++ with_x b x ∷ []) e)

cuts_same : (b : SetValue) (runs : List (ℤ × ℤ)) (run : ℤ × ℤ) (cuts : List SetValue) → AreCuts b runs cuts → IsPart (places run.0 run.1) b.x None → AreCuts b (runs ++ run ∷ []) cuts
cuts_same b [] run cuts h away = inl (away, h)
cuts_same b (r ∷ runs) run cuts (inl (gone, h)) away = inl (gone, cuts_same b runs run cuts h away)
cuts_same b (r ∷ runs) run cuts (inr (y, rest, is, h, e)) away = inr (y, rest, is, cuts_same b runs run rest h away, e)

cuts_join : (b : SetValue) (runs : List (ℤ × ℤ)) (run : ℤ × ℤ) (cuts more : List SetValue) → AreCuts b runs cuts → AreCuts b (run ∷ []) more → AreCuts b (runs ++ run ∷ []) (cuts ++ more)
cuts_join b [] run cuts more h g = subst (λ (z : List SetValue). AreCuts b (run ∷ []) (z ++ more)) (sym h) g
cuts_join b (r ∷ runs) run cuts more (inl (gone, h)) g = inl (gone, cuts_join b runs run cuts more h g)
cuts_join b (r ∷ runs) run cuts more (inr (y, rest, is, h, e)) g = inr (y, rest ++ more, is, cuts_join b runs run rest more h g, ap (λ (z : List SetValue). z ++ more) e)

pub none_cut : (b : SetValue) (old : List SetValue) → IsCutBy b [] old old
none_cut b old = record { cuts = []; added = sym (append-nil old); exact = refl; keeps = λ run s i h w. absurd i }

on_sides : (lo hi : ℤ) (q : Pt) → Within lo hi q.x → IsOnSides (places lo hi) q
on_sides lo hi q w = (w.high, (let k = w.low in omega (arith, ints), tt))

-- a run in which something is left
pub cut_some : (b : SetValue) (runs longer : List (ℤ × ℤ)) (run : ℤ × ℤ) (old new more : List SetValue) (x : List Pt) → IsCutBy b runs old new → IsPart (places run.0 run.1) b.x (Some x)
    → KeepsParts (places run.0 run.1) b.x (Some x) → more ≡ new ++ with_x b x ∷ [] → longer ≡ runs ++ run ∷ [] → IsCutBy b longer old more
cut_some b runs longer run old new more x h part keeps e f = record {
  cuts = h.cuts ++ with_x b x ∷ [];
  added = e ∙ (ap (λ (z : List SetValue). z ++ with_x b x ∷ []) h.added ∙ append_assoc old h.cuts (with_x b x ∷ []));
  exact = subst (λ (z : List (ℤ × ℤ)). AreCuts b z (h.cuts ++ with_x b x ∷ [])) (sym f) (cuts_more b runs run h.cuts x h.exact part);
  keeps = λ r s i k w. either r s k w (includes_either runs (run ∷ []) r (subst (λ (z : List (ℤ × ℤ)). Includes z r) f i));
}
  where
    either : (r : ℤ × ℤ) (s : State) → HoldsState b s → Within r.0 r.1 s.p.x → Includes runs r ⊎ Includes (run ∷ []) r → IsHeldBy (h.cuts ++ with_x b x ∷ []) s
    either r s k w (inl i) = let (d, j, m) = h.keeps r s i k w in (d, includes_front h.cuts (with_x b x ∷ []) d j, m)
    either r s k w (inr (inr i)) = absurd i
    either r s k w (inr (inl i)) = (
      with_x b x,
      includes_back h.cuts (with_x b x ∷ []) (with_x b x) (inl refl),
      record {
        x = keeps (at s.p.x s.v.x) k.x (on_sides run.0 run.1 (at s.p.x s.v.x) (subst (λ (z : ℤ × ℤ). Within z.0 z.1 s.p.x) i w));
        y = k.y;
      },
    )

-- a run in which nothing is left
pub cut_none : (b : SetValue) (runs longer : List (ℤ × ℤ)) (run : ℤ × ℤ) (old new more : List SetValue) → IsCutBy b runs old new → IsPart (places run.0 run.1) b.x None
    → KeepsParts (places run.0 run.1) b.x None → more ≡ new → longer ≡ runs ++ run ∷ [] → IsCutBy b longer old more
cut_none b runs longer run old new more h part keeps e f = record {
  cuts = h.cuts;
  added = e ∙ h.added;
  exact = subst (λ (z : List (ℤ × ℤ)). AreCuts b z h.cuts) (sym f) (cuts_same b runs run h.cuts h.exact part);
  keeps = λ r s i k w. either r s k w (includes_either runs (run ∷ []) r (subst (λ (z : List (ℤ × ℤ)). Includes z r) f i));
}
  where
    either : (r : ℤ × ℤ) (s : State) → HoldsState b s → Within r.0 r.1 s.p.x → Includes runs r ⊎ Includes (run ∷ []) r → IsHeldBy h.cuts s
    either r s k w (inl i) = h.keeps r s i k w
    either r s k w (inr (inr i)) = absurd i
    either r s k w (inr (inl i)) = absurd (keeps (at s.p.x s.v.x) k.x (on_sides run.0 run.1 (at s.p.x s.v.x) (subst (λ (z : ℤ × ℤ). Within z.0 z.1 s.p.x) i w)))

-- a further run, by itself
pub cut_next : (b : SetValue) (runs longer : List (ℤ × ℤ)) (run : ℤ × ℤ) (old new more : List SetValue) → IsCutBy b runs old new → IsCutBy b (run ∷ []) new more → longer ≡ runs ++ run ∷ [] → IsCutBy b longer old more
cut_next b runs longer run old new more h g f = record {
  cuts = h.cuts ++ g.cuts;
  added = g.added ∙ (ap (λ (z : List SetValue). z ++ g.cuts) h.added ∙ append_assoc old h.cuts g.cuts);
  exact = subst (λ (z : List (ℤ × ℤ)). AreCuts b z (h.cuts ++ g.cuts)) (sym f) (cuts_join b runs run h.cuts g.cuts h.exact g.exact);
  keeps = λ r s i k w. either r s k w (includes_either runs (run ∷ []) r (subst (λ (z : List (ℤ × ℤ)). Includes z r) f i));
}
  where
    either : (r : ℤ × ℤ) (s : State) → HoldsState b s → Within r.0 r.1 s.p.x → Includes runs r ⊎ Includes (run ∷ []) r → IsHeldBy (h.cuts ++ g.cuts) s
    either r s k w (inl i) = let (d, j, m) = h.keeps r s i k w in (d, includes_front h.cuts g.cuts d j, m)
    either r s k w (inr i) = let (d, j, m) = g.keeps r s i k w in (d, includes_back h.cuts g.cuts d j, m)

-- a polygon that lies in a run is left as it is
pub whole_part : (lo hi : ℤ) (vs : List Pt) → IsCornerList vs → AllByRecursion (λ v. Within lo hi v.x) vs → IsPart (places lo hi) vs (Some vs)
whole_part lo hi vs convex within = (
  vs,
  whole_clip as_it_is mirror_as_it_is hi vs convex (all_map (λ v. Within lo hi v.x) (λ v. v.x ≤ℤ hi) (λ v w. w.high) vs within),
  (vs, whole_clip x_turned mirror_x_turned (neg_ℤ lo) vs convex (all_map (λ v. Within lo hi v.x) (λ v. (x_turned v).x ≤ℤ neg_ℤ lo) (λ v w. let k = w.low in omega (arith, ints)) vs within), refl),
)
