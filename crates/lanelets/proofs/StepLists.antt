-- Where the cells of a network come from, and which are ahead of which.
use Rattle.std.proofs.Common.{◌≡◌, ◌∙◌, ◌⊎◌, inl, inr, ℕ, zero, suc, ◌+◌, ◌-◌, ◌<◌, true, List, [], ◌∷◌, ◌++◌, length, refl, sym, ap, subst, arith}
use Rattle.std.proofs.lemmas.Option.{slice_get-map}
use Rattle.std.specs.Option.{option_map}
use Rattle.std.specs.Prelude.{◌↔◌, Some, slice_get}
use Rattle.std.specs.List.{AllByRecursion}
use Rattle.spot_terms.specs.Cells.{Lane, Portal, NetCell, same_portal, first_portal, last_portal}
use Rattle.spot_terms.specs.Lists.{Includes}
use Rattle.spot_terms.specs.Network.{lane_of, EndsLane, BeginsLane, IsAhead, within, joins, onto, off}
use Rattle.spot_terms.specs.declared.network.Origin.{Origin}
use Rattle.spot_terms.specs.declared.network.Origin.TheVariants.{Part, Bridge}
use Rattle.spot_terms.proofs.ListLemmas.{includes_back, includes_either, includes_front}
use Rattle.lanelets.specs.declared.cell.Placed.{Placed}
use Rattle.lanelets.specs.declared.links.Links.{Links}
use Rattle.lanelets.specs.declared.steps.Joints.{Joints}
use Rattle.lanelets.specs.Links.{AreLinks, IsFollowed}
use Rattle.lanelets.specs.Listing.{AreLists, Gathers}
use Rattle.lanelets.specs.Steps.{net_of, HasOrigin, IsOfLane, LeadsTo, IsInside, IsJoined, IsJoinedFrom, AreJoints, IsOntoFirst}
use Rattle.lanelets.proofs.Places.{same_at, all_got}
use Rattle.lanelets.proofs.RowLists.{gathers_more, gathers_list, gathers_as, gathered}
use Rattle.spot_terms.proofs.ItemPlaces.{got_below, item_at}

-- ---- cells and where they come from

pub net_at : (cells : List Placed) (c : ℕ) (p : Placed) → slice_get cells c ≡ Some p → HasOrigin (net_of cells) c p.origin
net_at cells c p h = (
  record { origin = p.origin; entry = p.cell.entry; exit = p.cell.exit },
  slice_get-map (λ (q : Placed). let n : NetCell = record { origin = q.origin; entry = q.cell.entry; exit = q.cell.exit } in n) cells c
      ∙ ap (option_map (λ (q : Placed). let n : NetCell = record { origin = q.origin; entry = q.cell.entry; exit = q.cell.exit } in n)) h,
  refl,
)

-- an item that was found has this origin
pub origin_is : (net : List NetCell) (c : ℕ) (a : NetCell) (o : Origin) → slice_get net c ≡ Some a → HasOrigin net c o → a.origin ≡ o
origin_is net c a o h p = ap (λ (b : NetCell). b.origin) (same_at net c a p.0 h p.1) ∙ p.2

net_item : (cells : List Placed) (c : ℕ) (a : NetCell) → slice_get (net_of cells) c ≡ Some a → (p : Placed) × (slice_get cells c ≡ Some p) × (a.origin ≡ p.origin)
net_item [] c a h = cc
net_item (p ∷ cells) zero a h = (p, refl, ap (λ (b : NetCell). b.origin) (some_is a _ h))
  where
    some_is : (a b : NetCell) → Some b ≡ Some a → a ≡ b
    some_is a b e = cc
net_item (p ∷ cells) (suc c) a h = net_item cells c a h

pub item_low : (cells : List Placed) (c : ℕ) (a : NetCell) → slice_get (net_of cells) c ≡ Some a → c < length cells
item_low cells c a h = let (p, g, o) = net_item cells c a h in got_below cells c p g

pub part_inside : (n e : ℕ) (o : Origin) → lane_of o ≡ Some e → IsInside n o → e < n
part_inside n e (Part f piece part parts) h i = let same : f ≡ e = cc in subst (λ k. k < n) same i
part_inside n e (Bridge f g) h i = cc

bridge_inside : (n e f : ℕ) (o : Origin) → o ≡ Bridge e f → IsInside n o → f < n
bridge_inside n e f o h i = let b : IsInside n (Bridge e f) = subst (IsInside n) h i in b.1

pub ends_inside : (n : ℕ) (cells : List Placed) → AllByRecursion (λ (p : Placed). IsInside n p.origin) cells → (c e : ℕ) → EndsLane (net_of cells) c e → e < n
ends_inside n cells all c e h = let (p, g, o) = net_item cells c h.0 h.1 in part_inside n e p.origin (ap lane_of (sym o) ∙ h.2) (all_got (λ (p : Placed). IsInside n p.origin) cells c p all g)

pub leads_inside : (n : ℕ) (cells : List Placed) → AllByRecursion (λ (p : Placed). IsInside n p.origin) cells → (c f : ℕ) → LeadsTo (net_of cells) c f → f < n
leads_inside n cells all c f h = let (p, g, o) = net_item cells c h.1 h.2 in bridge_inside n h.0 f p.origin (sym o ∙ h.3) (all_got (λ (p : Placed). IsInside n p.origin) cells c p all g)

pub lanes_inside : (n : ℕ) (cells : List Placed) → AllByRecursion (λ (p : Placed). IsInside n p.origin) cells → (c e : ℕ) → IsOfLane (net_of cells) c e → e < n
lanes_inside n cells all c e h = let (p, g, o) = net_item cells c h.0 h.1 in part_inside n e p.origin (ap lane_of (sym o) ∙ h.2) (all_got (λ (p : Placed). IsInside n p.origin) cells c p all g)

pub origin_inside : (n : ℕ) (cells : List Placed) (c : ℕ) (o : Origin) → AllByRecursion (λ (p : Placed). IsInside n p.origin) cells → HasOrigin (net_of cells) c o → IsInside n o
origin_inside n cells c o all h = let (p, g, e) = net_item cells c h.0 h.1 in subst (IsInside n) (sym e ∙ h.2) (all_got (λ (p : Placed). IsInside n p.origin) cells c p all g)

pub lanes_low : (cells : List Placed) (c e : ℕ) → IsOfLane (net_of cells) c e → c < length cells
lanes_low cells c e h = item_low cells c h.0 h.1

pub ends_low : (cells : List Placed) (c e : ℕ) → EndsLane (net_of cells) c e → c < length cells
ends_low cells c e h = item_low cells c h.0 h.1

pub leads_low : (cells : List Placed) (c f : ℕ) → LeadsTo (net_of cells) c f → c < length cells
leads_low cells c f h = item_low cells c h.1 h.2

-- ---- joined lanelets

pub joined_is : (lanes : List Lane) (e f : ℕ) (l m : Lane) (p q : Portal) → slice_get lanes e ≡ Some l → slice_get lanes f ≡ Some m → last_portal l ≡ Some p → first_portal m ≡ Some q
    → ((same_portal (Some p) (Some q) ≡ true) ↔ IsJoined lanes e f)
joined_is lanes e f l m p q he hf hp hq =
    let same : same_portal (last_portal l) (first_portal m) ≡ same_portal (Some p) (Some q) = ap (λ o. same_portal o (first_portal m)) hp ∙ ap (same_portal (Some p)) hq in (
      (λ t. (l, m, he, hf, same ∙ t)),
      (λ j. sym same ∙ ap (λ (k : Lane). same_portal (last_portal k) (first_portal m)) (same_at lanes e l j.0 he j.2) ∙ ap (λ (k : Lane). same_portal (last_portal j.0) (first_portal k)) (same_at lanes f m j.1 hf j.3) ∙ j.4),
    )

pub joined_more : (lanes : List Lane) (xs : List ℕ) (y f : ℕ) (ends : List (List ℕ)) (list a b c : List ℕ) → Gathers (IsJoinedFrom lanes xs f ends) a b → slice_get ends y ≡ Some list → IsJoined lanes y f → c ≡ b ++ list
    → Gathers (IsJoinedFrom lanes (xs ++ y ∷ []) f ends) a c
joined_more lanes xs y f ends list a b c h at j e =
    gathers_as (λ x. IsJoinedFrom lanes xs f ends x ⊎ Includes list x) (IsJoinedFrom lanes (xs ++ y ∷ []) f ends) a c
    (λ x s. elim s [ inl p ↦ (p.0, includes_front xs (y ∷ []) p.0 p.1, p.2, p.3) | inr i ↦ (y, includes_back xs (y ∷ []) y (inl refl), j, (list, at, i)) ])
    (λ x p. elim (includes_either xs (y ∷ []) p.0 p.1) [
      | inl i ↦ inl (p.0, i, p.2, p.3)
      | inr k ↦ elim k [
        | inl same ↦ inr (let row = p.3 in subst (λ (zs : List ℕ). Includes zs x) (same_at ends y row.0 list (subst (λ z. slice_get ends z ≡ Some row.0) same row.1) at) row.2)
        | inr none ↦ absurd none
      ]
    ])
    (gathers_more (IsJoinedFrom lanes xs f ends) (Includes list) a b c h (gathers_list b c list e))

pub joined_skip : (lanes : List Lane) (xs : List ℕ) (y f : ℕ) (ends : List (List ℕ)) (a b : List ℕ) → Gathers (IsJoinedFrom lanes xs f ends) a b → (IsJoined lanes y f → ⊥) → Gathers (IsJoinedFrom lanes (xs ++ y ∷ []) f ends) a b
joined_skip lanes xs y f ends a b h never =
    gathers_as (IsJoinedFrom lanes xs f ends) (IsJoinedFrom lanes (xs ++ y ∷ []) f ends) a b
    (λ x p. (p.0, includes_front xs (y ∷ []) p.0 p.1, p.2, p.3))
    (λ x p. elim (includes_either xs (y ∷ []) p.0 p.1) [
      | inl i ↦ (p.0, i, p.2, p.3)
      | inr k ↦ elim k [ inl same ↦ absurd (never (subst (λ z. IsJoined lanes z f) same p.2)) | inr none ↦ absurd none ]
    ]) h

pub onto_first : (lanes : List Lane) (links : Links) (joints : Joints) (f : ℕ) (row leads a b c : List ℕ) → slice_get links.sources.items f ≡ Some row → slice_get joints.leads.items f ≡ Some leads
    → Gathers (IsJoinedFrom lanes row f joints.ends.items) a b → c ≡ b ++ leads → Gathers (IsOntoFirst lanes links joints f) a c
onto_first lanes links joints f row leads a b c hr hl g e =
    gathers_as (λ x. IsJoinedFrom lanes row f joints.ends.items x ⊎ Includes leads x) (IsOntoFirst lanes links joints f) a c
    (λ x s. elim s [ inl p ↦ inl (row, hr, p) | inr i ↦ inr (leads, hl, i) ])
    (λ x s. elim s [
      | inl p ↦ inl (subst (λ (xs : List ℕ). IsJoinedFrom lanes xs f joints.ends.items x) (same_at links.sources.items f p.0 row p.1 hr) p.2)
      | inr p ↦ inr (subst (λ (xs : List ℕ). Includes xs x) (same_at joints.leads.items f p.0 leads p.1 hl) p.2)
    ])
    (gathers_more (IsJoinedFrom lanes row f joints.ends.items) (Includes leads) a b c g (gathers_list b c leads e))

-- ---- ahead

abbrev pub IsPrevious : List NetCell → ℕ → ℕ → ℕ → Type 0
IsPrevious net d f c = (d ≡ c + 1) × IsOfLane net c f

-- the last of a lanelet that f follows and begins at the end of
abbrev pub IsBeforeFirst : List Lane → List NetCell → ℕ → ℕ → Type 0
IsBeforeFirst lanes net f c = (e : ℕ) × EndsLane net c e × IsFollowed lanes e f × IsJoined lanes e f

-- onto a part of a lanelet from the one before, or, where it is the first, from a lanelet or a bridge
abbrev pub GoesOnto : List Lane → List NetCell → ℕ → ℕ → ℕ → ℕ → ℕ → Type 0
GoesOnto lanes net d f piece part c = IsPrevious net d f c ⊎ ((piece ≡ 0) × (part ≡ 0) × (IsBeforeFirst lanes net f c ⊎ LeadsTo net c f))

pub no_part : (e f g piece part parts : ℕ) → Bridge e f ≡ Part g piece part parts → ⊥
no_part e f g piece part parts h = cc

no_lane : (e f g : ℕ) (o : Origin) → o ≡ Bridge e f → lane_of o ≡ Some g → ⊥
no_lane e f g o h k = let none : lane_of (Bridge e f) ≡ Some g = ap lane_of (sym h) ∙ k in cc

same_from : (e f e' f' : ℕ) → Bridge e f ≡ Bridge e' f' → e ≡ e'
same_from e f e' f' h = cc

pub ahead_bridge : (lanes : List Lane) (net : List NetCell) (c d e f : ℕ) → HasOrigin net d (Bridge e f) → IsAhead lanes net c d → EndsLane net c e
ahead_bridge lanes net c d e f o (within {e = g} {a = a} {b = b} ha hb hd la lb) = absurd (no_lane e f g b.origin (origin_is net d b (Bridge e f) hb o) lb)
ahead_bridge lanes net c d e f o (joins ends begins hl hm t s) = absurd (no_part e f _ 0 0 begins.0 (sym (origin_is net d begins.1 (Bridge e f) begins.2 o) ∙ begins.3))
ahead_bridge lanes net c d e f o (onto {e = g} {f = h} {b = b} ends hb is) = subst (EndsLane net c) (same_from g h e f (sym is ∙ origin_is net d b (Bridge e f) hb o)) ends
ahead_bridge lanes net c d e f o (off ha is begins) = absurd (no_part e f _ 0 0 begins.0 (sym (origin_is net d begins.1 (Bridge e f) begins.2 o) ∙ begins.3))

pub bridge_ahead : (lanes : List Lane) (net : List NetCell) (c d e f : ℕ) → HasOrigin net d (Bridge e f) → EndsLane net c e → IsAhead lanes net c d
bridge_ahead lanes net c d e f o ends = onto {e = e} {f = f} {b = o.0} ends o.1 o.2

record SameStart (g f piece part : ℕ) : Type 0 where
  lane : g ≡ f
  piece_is : piece ≡ 0
  part_is : part ≡ 0

same_start : (g n f piece part parts : ℕ) → Part g 0 0 n ≡ Part f piece part parts → SameStart g f piece part
same_start g n f piece part parts h = record { lane = cc; piece_is = cc; part_is = cc }

same_lane : (g f piece part parts : ℕ) (o : Origin) → o ≡ Part f piece part parts → lane_of o ≡ Some g → g ≡ f
same_lane g f piece part parts o h k = let e : lane_of (Part f piece part parts) ≡ Some g = ap lane_of (sym h) ∙ k in cc

pub ahead_part : (lanes : List Lane) (net : List NetCell) (c d f piece part parts : ℕ) → HasOrigin net d (Part f piece part parts) → IsAhead lanes net c d → GoesOnto lanes net d f piece part c
ahead_part lanes net c d f piece part parts o (within {e = g} {a = a} {b = b} ha hb hd la lb) =
    inl (hd, (a, ha, la ∙ ap (λ k. Some k) (same_lane g f piece part parts b.origin (origin_is net d b (Part f piece part parts) hb o) lb)))
ahead_part lanes net c d f piece part parts o (joins {e = e} {f = g} {l = l} {m = m} ends begins hl hm t s) =
    let start = same_start g begins.0 f piece part parts (sym begins.3 ∙ origin_is net d begins.1 (Part f piece part parts) begins.2 o) in
    let there : slice_get lanes f ≡ Some m = subst (λ k. slice_get lanes k ≡ Some m) start.lane hm in
    inr (start.piece_is, start.part_is, inl (e, ends, (l, m, hl, there, t), (l, m, hl, there, s)))
ahead_part lanes net c d f piece part parts o (onto {e = e} {f = g} {b = b} ends hb is) = absurd (no_part e g f piece part parts (sym is ∙ origin_is net d b (Part f piece part parts) hb o))
ahead_part lanes net c d f piece part parts o (off {e = e} {f = g} {a = a} ha is begins) =
    let start = same_start g begins.0 f piece part parts (sym begins.3 ∙ origin_is net d begins.1 (Part f piece part parts) begins.2 o) in
    inr (start.piece_is, start.part_is, inr (e, a, ha, subst (λ k. a.origin ≡ Bridge e k) start.lane is))

begins_here : (net : List NetCell) (d f piece part parts : ℕ) → HasOrigin net d (Part f piece part parts) → piece ≡ 0 → part ≡ 0 → BeginsLane net d f
begins_here net d f piece part parts o p q = (parts, o.0, o.1, o.2 ∙ ap (λ k. Part f k part parts) p ∙ ap (λ k. Part f 0 k parts) q)

pub part_ahead : (lanes : List Lane) (net : List NetCell) (c d f piece part parts : ℕ) → HasOrigin net d (Part f piece part parts) → GoesOnto lanes net d f piece part c → IsAhead lanes net c d
part_ahead lanes net c d f piece part parts o (inl p) = within {e = f} {a = p.1.0} {b = o.0} p.1.1 o.1 p.0 p.1.2 (ap lane_of o.2)
part_ahead lanes net c d f piece part parts o (inr (p, q, inl w)) =
    let l = w.2.0 in let m = w.2.1 in
    let s : same_portal (last_portal l) (first_portal m) ≡ true =
    ap (λ (k : Lane). same_portal (last_portal k) (first_portal m)) (same_at lanes w.0 l w.3.0 w.2.2 w.3.2) ∙ ap (λ (k : Lane). same_portal (last_portal w.3.0) (first_portal k)) (same_at lanes f m w.3.1 w.2.3 w.3.3) ∙ w.3.4 in
    joins {e = w.0} {f = f} {l = l} {m = m} w.1 (begins_here net d f piece part parts o p q) w.2.2 w.2.3 w.2.4 s
part_ahead lanes net c d f piece part parts o (inr (p, q, inr w)) = off {e = w.0} {f = f} {a = w.1} w.2 w.3 (begins_here net d f piece part parts o p q)

-- ---- the cells before one

-- what is listed at a place of lists is what belongs there
pub listed : (R : ℕ → ℕ → Type 0) (n : ℕ) (lists : List (List ℕ)) (k : ℕ) (list : List ℕ) (x : ℕ) → AreLists R n lists → slice_get lists k ≡ Some list → (Includes list x ↔ R k x)
listed R n lists k list x a h = let l = a.each k list h in (l.each x, l.all x)

onto_is : (lanes : List Lane) (net : List NetCell) (links : Links) (joints : Joints) (f c : ℕ) → f < length lanes → AreLinks lanes links → AreJoints (length lanes) net joints
    → (IsOntoFirst lanes links joints f c ↔ (IsBeforeFirst lanes net f c ⊎ LeadsTo net c f))
onto_is lanes net links joints f c low a j = (to, from)
  where
    to : IsOntoFirst lanes links joints f c → IsBeforeFirst lanes net f c ⊎ LeadsTo net c f
    to (inl (row, h, p)) =
        inl (p.0, (listed (λ e c. EndsLane net c e) (length lanes) joints.ends.items p.0 p.3.0 c j.ends p.3.1).0 p.3.2, (a.sources.each f row h p.0).0 p.1, p.2)
    to (inr p) = inr ((listed (λ f c. LeadsTo net c f) (length lanes) joints.leads.items f p.0 c j.leads p.1).0 p.2)

    from : IsBeforeFirst lanes net f c ⊎ LeadsTo net c f → IsOntoFirst lanes links joints f c
    from (inl (e, ends, followed, joined)) =
        (let many = a.sources.many in
        let (row, h) = item_at links.sources.items f (omega (arith, many, low)) in
        let lower : e < length lanes = got_below lanes e followed.0 followed.2 in
        let as_many = j.ends.many in
        let (list, g) = item_at joints.ends.items e (omega (arith, lower, as_many)) in
        inl (row, h, (e, (a.sources.each f row h e).1 followed, joined, (list, g, (listed (λ e c. EndsLane net c e) (length lanes) joints.ends.items e list c j.ends g).1 ends))))
    from (inr leads) =
        (let as_many = j.leads.many in
        let (list, g) = item_at joints.leads.items f (omega (arith, low, as_many)) in
        inr (list, g, (listed (λ f c. LeadsTo net c f) (length lanes) joints.leads.items f list c j.leads g).1 leads))

pub before_bridge : (lanes : List Lane) (net : List NetCell) (joints : Joints) (d e f : ℕ) (list row : List ℕ) → HasOrigin net d (Bridge e f) → AreJoints (length lanes) net joints → slice_get joints.ends.items e ≡ Some list → row ≡ list
    → (c : ℕ) → (Includes row c ↔ IsAhead lanes net c d)
before_bridge lanes net joints d e f list row o j h is c =
    let l = listed (λ e c. EndsLane net c e) (length lanes) joints.ends.items e list c j.ends h in (
      (λ i. bridge_ahead lanes net c d e f o (l.0 (subst (λ (xs : List ℕ). Includes xs c) is i))),
      (λ a. subst (λ (xs : List ℕ). Includes xs c) (sym is) (l.1 (ahead_bridge lanes net c d e f o a))),
    )

pub before_part : (lanes : List Lane) (net : List NetCell) (d f piece part parts : ℕ) (start row : List ℕ) → HasOrigin net d (Part f piece part parts) → ((piece ≡ 0) × (part ≡ 0) → ⊥) → start ≡ []
    → Gathers (IsPrevious net d f) start row → (c : ℕ) → (Includes row c ↔ IsAhead lanes net c d)
before_part lanes net d f piece part parts start row o later none g c =
    let l = gathered (IsPrevious net d f) start row c none g in (
      (λ i. part_ahead lanes net c d f piece part parts o (inl (l.0 i))),
      (λ a. elim (ahead_part lanes net c d f piece part parts o a) [ inl p ↦ l.1 p | inr p ↦ absurd (later (p.0, p.1)) ]),
    )

pub before_first : (lanes : List Lane) (net : List NetCell) (links : Links) (joints : Joints) (d f piece part parts : ℕ) (start before row : List ℕ) → HasOrigin net d (Part f piece part parts) → (piece ≡ 0) × (part ≡ 0) → start ≡ []
    → f < length lanes → AreLinks lanes links → AreJoints (length lanes) net joints → Gathers (IsPrevious net d f) start before → Gathers (IsOntoFirst lanes links joints f) before row
    → (c : ℕ) → (Includes row c ↔ IsAhead lanes net c d)
before_first lanes net links joints d f piece part parts start before row o first none low a j g k c =
    let l = gathered (λ x. IsPrevious net d f x ⊎ IsOntoFirst lanes links joints f x) start row c none (gathers_more (IsPrevious net d f) (IsOntoFirst lanes links joints f) start before row g k) in
    let here = onto_is lanes net links joints f c low a j in (
      (λ i. part_ahead lanes net c d f piece part parts o (elim (l.0 i) [ inl p ↦ inl p | inr p ↦ inr (first.0, first.1, here.0 p) ])),
      (λ s. elim (ahead_part lanes net c d f piece part parts o s) [ inl p ↦ l.1 (inl p) | inr p ↦ l.1 (inr (here.1 p.2)) ]),
    )

pub previous_pushed : (net : List NetCell) (d f : ℕ) (a b : List ℕ) → 0 < d → IsOfLane net (d - 1) f → b ≡ a ++ (d - 1) ∷ [] → Gathers (IsPrevious net d f) a b
previous_pushed net d f a b some here e =
    gathers_as (Includes ((d - 1) ∷ [])) (IsPrevious net d f) a b
    (λ x i. elim i [ inl same ↦ (omega (arith, same, some), subst (λ k. IsOfLane net k f) (sym same) here) | inr none ↦ absurd none ])
    (λ x p. let after = p.0 in inl (omega (arith, after)))
    (gathers_list a b ((d - 1) ∷ []) e)

pub ahead_low : (lanes : List Lane) (cells : List Placed) (c d : ℕ) → IsAhead lanes (net_of cells) c d → (c < length cells) × (d < length cells)
ahead_low lanes cells c d (within {a = a} {b = b} ha hb hd la lb) = (item_low cells c a ha, item_low cells d b hb)
ahead_low lanes cells c d (joins {e = e} ends begins hl hm t s) = (ends_low cells c e ends, item_low cells d begins.1 begins.2)
ahead_low lanes cells c d (onto {e = e} {b = b} ends hb is) = (ends_low cells c e ends, item_low cells d b hb)
ahead_low lanes cells c d (off {a = a} ha is begins) = (item_low cells c a ha, item_low cells d begins.1 begins.2)
