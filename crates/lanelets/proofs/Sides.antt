-- Which cells lie side by side, by what is kept of their lanelets.
use Rattle.std.proofs.Common.{◌≡◌, ◌∙◌, ℕ, ◌<◌, List, length, sym, ap, subst, arith, nat_eq}
use Rattle.std.proofs.lemmas.Bool.{eqb-true, eq-eqb}
use Rattle.std.proofs.lemmas.Option.{slice_get-get_or}
use Rattle.std.specs.Bool.{IsTrue}
use Rattle.std.specs.Prelude.{◌↔◌, Some, slice_get, slice_index_or}
use Rattle.spot_terms.specs.Cells.{Lane, NetCell}
use Rattle.spot_terms.specs.Lists.{Pairwise}
use Rattle.spot_terms.specs.Network.{IsSide, Overlaps, lane_of}
use Rattle.spot_terms.specs.declared.network.Origin.{Origin}
use Rattle.lanelets.specs.declared.kept.KeptLane.{KeptLane}
use Rattle.lanelets.specs.Kept.{AreBeside, IsKept}
use Rattle.lanelets.specs.Steps.{HasOrigin}
use Rattle.lanelets.proofs.Places.{partner_at, same_at, same_lengths}
use Rattle.lanelets.proofs.StepLists.{origin_is}
use Rattle.spot_terms.proofs.Unique.{some_injective}
use Rattle.spot_terms.proofs.ItemPlaces.{got_below, item_at}

kept_at : (every : List Lane) (kept : List KeptLane) (e : ℕ) (x : KeptLane) → Pairwise IsKept every kept → slice_get kept e ≡ Some x → (l : Lane) × (slice_get every e ≡ Some l) × IsKept l x
kept_at every kept e x p h =
    let low = got_below kept e x h in
    let many = same_lengths IsKept every kept p in
    let (l, at) = item_at every e (omega (arith, low, many)) in
    (l, at, partner_at IsKept every kept e l x p at h)

pub side_is : (T : Type 0) (every : List Lane) (kept : List KeptLane) (net : List NetCell) (c d e f : ℕ) (a b : Origin) (x y : KeptLane) → Pairwise IsKept every kept → HasOrigin net c a → HasOrigin net d b
    → lane_of a ≡ Some e → lane_of b ≡ Some f → slice_get kept e ≡ Some x → slice_get kept f ≡ Some y → ((k n : Lane) → IsKept k x → IsKept n y → (T ↔ AreBeside k n a b)) → (T ↔ IsSide every net c d)
side_is T every kept net c d e f a b x y p oa ob la lb hx hy test =
    let (l, hl, kl) = kept_at every kept e x p hx in
    let (m, hm, km) = kept_at every kept f y p hy in
    let t = test l m kl km in (
      (λ yes. let s = t.0 yes in record {
        e = e;
        f = f;
        l = l;
        m = m;
        a = oa.0;
        b = ob.0;
        c_is = oa.1;
        d_is = ob.1;
        e_is = (ap lane_of oa.2 ∙ la, hl);
        f_is = (ap lane_of ob.2 ∙ lb, hm);
        neighbours = s.neighbours;
        beside = λ same. subst (λ (o : Origin). Overlaps o ob.0.origin) (sym oa.2) (subst (Overlaps a) (sym ob.2) (s.beside same));
      }),
      (λ s.
          let ia : s.a.origin ≡ a = origin_is net c s.a a s.c_is oa in
          let ib : s.b.origin ≡ b = origin_is net d s.b b s.d_is ob in
          let same_e : s.e ≡ e = some_injective s.e e (sym s.e_is.0 ∙ ap lane_of ia ∙ la) in
          let same_f : s.f ≡ f = some_injective s.f f (sym s.f_is.0 ∙ ap lane_of ib ∙ lb) in
          let same_l : s.l ≡ l = same_at every e s.l l (subst (λ k. slice_get every k ≡ Some s.l) same_e s.e_is.1) hl in
          let same_m : s.m ≡ m = same_at every f s.m m (subst (λ k. slice_get every k ≡ Some s.m) same_f s.f_is.1) hm in
          let over : length s.l.1.left ≡ length s.m.1.left → Overlaps a b = λ same. subst (λ (o : Origin). Overlaps o b) ia (subst (Overlaps s.a.origin) ib (s.beside same)) in
          let here : AreBeside s.l s.m a b = record { neighbours = s.neighbours; beside = over } in
          t.1 (subst (λ (k : Lane). AreBeside k m a b) same_l (subst (λ (k : Lane). AreBeside s.l k a b) same_m here))),
    )

-- equal numbers of points, by what is kept
pub points_equal : (every : List Lane) (kept : List KeptLane) (e f : ℕ) (x y : KeptLane) → e < length kept → f < length kept → Pairwise IsKept every kept → (l m : Lane) → slice_get every e ≡ Some l → slice_get every f ≡ Some m
    → (IsTrue (nat_eq (slice_index_or kept e x).points (slice_index_or kept f y).points) ↔ (length l.1.left ≡ length m.1.left))
points_equal every kept e f x y low_e low_f p l m hl hm =
    let first : IsKept l (slice_index_or kept e x) = partner_at IsKept every kept e l (slice_index_or kept e x) p hl (slice_get-get_or kept e x low_e) in
    let second : IsKept m (slice_index_or kept f y) = partner_at IsKept every kept f m (slice_index_or kept f y) p hm (slice_get-get_or kept f y low_f) in (
      (λ t. sym first.points ∙ eqb-true (slice_index_or kept e x).points (slice_index_or kept f y).points t ∙ second.points),
      (λ same. eq-eqb (slice_index_or kept e x).points (slice_index_or kept f y).points (first.points ∙ same ∙ sym second.points)),
    )
