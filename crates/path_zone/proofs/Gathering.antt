-- Meetings that come.
use Rattle.std.proofs.Common.{◌≡◌, ◌⊎◌, ℕ, ◌+◌, ◌<◌, ◌≤◌, List, [], ◌∷◌, ◌++◌, length, drop, get_or, refl, sym, ap, ◌∙◌, subst, inl, inr, ⊎_elim, add-one, arith}
use Rattle.std.proofs.Math.Seq.{drop-cons}
use Rattle.std.proofs.lemmas.List.{drop_all, get_or-map, length-map}
use Rattle.exact_plane.specs.Point.{Point}
use Rattle.exact_plane.specs.Segment.{Segment}
use Rattle.plane_graphs.specs.Ascending.{Member}
use Rattle.plane_graphs.proofs.Ascending.{from_member}
use Rattle.plane_graphs.proofs.Lists.{in_left, in_either, in_map, of_map}
use Rattle.plane_graphs.proofs.Sorting.{member_at}
use Rattle.slab_laws.specs.View.{View, Faces}
use Rattle.zone_walk.specs.declared.plan.Meeting.{Meeting}
use Rattle.zone_walk.specs.declared.plan.ZonePlan.{ZonePlan}
use Rattle.zone_walk.specs.Zone.{IsZoneOf}
use Rattle.path_zone.specs.Gathered.{HasMore, HasPoint, IsPathMeeting}
use Rattle.path_zone.specs.PathZone.{IsCrossing}
use Rattle.path_zone.specs.Zoned.{sides_zoned}
use Rattle.path_zone.specs.declared.zoned.ZonedSide.{ZonedSide}

-- ---- one point among meetings
pub has_more : (ms : List Meeting) (ns : List Meeting) (x : Point) → ((m : Meeting) → Member m ms → Member m ns) → HasPoint ms x → HasPoint ns x
has_more ms ns x f i =
    let r = of_map (λ (m : Meeting). m.point) x ms i in
    subst (λ (p : Point). HasPoint ns p) (sym r.2) (in_map (λ (m : Meeting). m.point) r.0 ns (f r.0 r.1))

-- ---- the sides of zones, by their places
pub side_at : (zs : List ZonedSide) (i : ℕ) (z : ZonedSide) → i < length zs → z ≡ get_or zs i z → (i < length (sides_zoned zs)) × (z.side ≡ get_or (sides_zoned zs) i z.side)
side_at zs i z l e =
    let n = length-map zs (λ (y : ZonedSide). y.side) in
    (omega (arith, l, n), ap (λ (y : ZonedSide). y.side) e ∙ sym (get_or-map (λ (y : ZonedSide). y.side) zs i z z.side l))

pub no_more_sides : (zs : List ZonedSide) (i : ℕ) → length zs ≤ i → length (sides_zoned zs) ≤ i
no_more_sides zs i l = let n = length-map zs (λ (y : ZonedSide). y.side) in omega (arith, l, n)

-- ---- of more sides
module _ (v : View) (f : Faces) (ss rs : List Segment) (all : (t : Segment) → Member t ss → Member t rs) where
  pub of_more : (m : Meeting) → IsPathMeeting v f ss m → IsPathMeeting v f rs m
  of_more m h = record {
    spot = h.spot;
    place = ⊎_elim
        (λ w. inl (record { side = w.side; side_in = all w.side w.side_in; meets = w.meets }))
        (λ w. inr (record { one = w.one; other = w.other; one_in = all w.one w.one_in; other_in = all w.other w.other_in; crossing = w.crossing }))
        h.place;
  }

  pub more_sides : (old new : List Meeting) → HasMore v f ss old new → HasMore v f rs old new
  more_sides old new h = record { kept = h.kept; came = λ m i. ⊎_elim (λ a. inl a) (λ a. inr (of_more m a)) (h.came m i) }

module _ (v : View) (f : Faces) (ss : List Segment) where
  pub more_none : (old new : List Meeting) → new ≡ old → HasMore v f ss old new
  more_none old new e = record { kept = λ m i. subst (Member m) (sym e) i; came = λ m i. inl (subst (Member m) e i) }

  pub more_many : (old ms new : List Meeting) → new ≡ old ++ ms → ((m : Meeting) → Member m ms → IsPathMeeting v f ss m) → HasMore v f ss old new
  more_many old ms new e all = record {
    kept = λ m i. subst (Member m) (sym e) (in_left m old ms i);
    came = λ m i. ⊎_elim (λ a. inl a) (λ a. inr (all m a)) (in_either m old ms (subst (Member m) e i));
  }

  pub more_then : (old mid new : List Meeting) → HasMore v f ss old mid → HasMore v f ss mid new → HasMore v f ss old new
  more_then old mid new a b = record {
    kept = λ m i. b.kept m (a.kept m i);
    came = λ m i. ⊎_elim (λ n. a.came m n) (λ n. inr n) (b.came m i);
  }

-- ---- the meetings of one side
-- those of its zone
pub zone_meetings : (v : View) (f : Faces) (s : Segment) (ss : List Segment) (z : ZonePlan) → IsZoneOf v f s z → (m : Meeting) → Member m z.vertices → IsPathMeeting v f (s ∷ ss) m
zone_meetings v f s ss z h m i = record {
  spot = h.spots m (from_member z.vertices m i);
  place = inl (record { side = s; side_in = inl refl; meets = subst (Member m.point) h.points (in_map (λ (m : Meeting). m.point) m z.vertices i) });
}

-- those with other sides, as far as these were taken
pub record AreCrossed (s : Segment) (ts : List Segment) (z : ZonePlan) (old new : List Meeting) (i : ℕ) : Type 0 where
  pub more : (v : View) (f : Faces) → IsZoneOf v f s z → HasMore v f (s ∷ ts) old new
  pub there : (t : Segment) (x : Point) → Member t ts → IsCrossing s t x → (HasPoint new x ⊎ HasPoint z.vertices x) ⊎ Member t (drop i ts)

module _ (s : Segment) (ts : List Segment) (z : ZonePlan) (old : List Meeting) where
  pub crossed_first : AreCrossed s ts z old old 0
  crossed_first = record { more = λ v f h. more_none v f (s ∷ ts) old old refl; there = λ t x i c. inr i }

  module _ (ms : List Meeting) (i : ℕ) (a : AreCrossed s ts z old ms i) (t : Segment) (l : i < length ts) (e : t ≡ get_or ts i t) (new : List Meeting)
      (more : (v : View) (f : Faces) → IsZoneOf v f s z → HasMore v f (s ∷ t ∷ []) ms new)
      (there : (x : Point) → IsCrossing s t x → HasPoint new x ⊎ HasPoint z.vertices x)
      (kept : (m : Meeting) → Member m ms → Member m new) where
    both : (r : Segment) → Member r (s ∷ t ∷ []) → Member r (s ∷ ts)
    both r (inl q) = inl q
    both r (inr (inl q)) = inr (subst (λ (u : Segment). Member u ts) (sym e ∙ sym q) (member_at ts i t l))
    both r (inr (inr q)) = absurd q

    rest : (r : Segment) → Member r (drop i ts) → (r ≡ t) ⊎ Member r (drop (i + 1) ts)
    rest r n =
        ⊎_elim (λ q. inl (q ∙ sym e)) (λ q. inr (subst (λ (k : ℕ). Member r (drop k ts)) (sym (add-one i)) q)) (subst (Member r) (drop-cons ts i t l) n)

    pub crossed_next : AreCrossed s ts z old new (i + 1)
    crossed_next = record {
      more = λ v f h. more_then v f (s ∷ ts) old ms new (a.more v f h) (more_sides v f (s ∷ t ∷ []) (s ∷ ts) both ms new (more v f h));
      there = λ r x n c. ⊎_elim
          (λ w. inl (⊎_elim (λ k. inl (has_more ms new x kept k)) (λ k. inr k) w))
          (λ w. ⊎_elim (λ q. inl (there x (subst (λ (u : Segment). IsCrossing s u x) q c))) (λ q. inr q) (rest r w))
          (a.there r x n c);
    }

  pub crossed_all : (ms : List Meeting) (i : ℕ) → AreCrossed s ts z old ms i → length ts ≤ i → (t : Segment) (x : Point) → Member t ts → IsCrossing s t x → HasPoint ms x ⊎ HasPoint z.vertices x
  crossed_all ms i a l t x n c = ⊎_elim (λ w. w) (λ w. absurd (subst (Member t) (drop_all i ts l) w)) (a.there t x n c)
