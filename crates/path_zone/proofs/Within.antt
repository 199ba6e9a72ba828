-- A point of a side that isn't one of the zone's vertices lies within an open part, whose spot the zone tells.
use Rattle.std.proofs.Common.{◌≡◌, ℕ, zero, suc, ◌+◌, ◌-◌, ◌<◌, ◌≤◌, List, [], ◌∷◌, length, get_or, true, is_lt, sym, ap, ◌∙◌, subst, add-one, arith, ⊎_elim, Ordering, Less, Equal, Greater}
use Rattle.std.specs.List.Sorted.{IsSortedBy, IsNonDecreasingBy, IsPartitionPoint}
use Rattle.std.specs.Ordering.{ordering_index}
use Rattle.std.proofs.lemmas.Bool.{cases_lt}
use Rattle.std.proofs.lemmas.Cmp.{tied_itself}
use Rattle.std.proofs.lemmas.List.{get_or-map, length-map}
use Rattle.std.proofs.lemmas.List.Sorted.{searchable_from_sorted}
use Rattle.integers.proofs.Tests.{not_true}
use Rattle.exact_plane.specs.Point.{Point}
use Rattle.exact_plane.specs.PointOrder.{point_cmp}
use Rattle.exact_plane.specs.PointOrderLaws.{point_cmp_total, same_point as point_cmp_exact}
use Rattle.exact_plane.specs.Segment.{Segment}
use Rattle.plane_graphs.specs.Ascending.{Member, IsAscending}
use Rattle.plane_graphs.specs.Line.{precedes}
use Rattle.plane_graphs.proofs.Ascending.{from_member}
use Rattle.plane_graphs.proofs.Lists.{in_map, of_map}
use Rattle.plane_graphs.proofs.Marks.{le_cases}
use Rattle.plane_graphs.proofs.Order.{Lt, lt_in, lt_out, lt_both, after_out}
use Rattle.plane_graphs.proofs.Sorting.{member_at, rises}
use Rattle.slab_laws.specs.View.{View, Faces}
use Rattle.dcel_records.specs.declared.spot.Spot.{Spot}
use Rattle.face_location.specs.Spots.{IsSpotOf}
use Rattle.zone_walk.specs.declared.plan.Meeting.{Meeting}
use Rattle.zone_walk.specs.declared.plan.ZonePlan.{ZonePlan}
use Rattle.zone_walk.specs.Zone.{points_of_meetings, IsSpotBetween, AreSpotsBetween}
use Rattle.zone_walk.proofs.Courses.{lies_out}
use Rattle.zone_walk.proofs.MeetingPoints.{meetings_ascend}
use Rattle.path_zone.specs.Gathered.{IsOnZoned}
use Rattle.path_zone.proofs.Along.{ends_meet}

-- ---- the open part at a place
module _ (v : View) (f : Faces) (s : Segment) where
  part_at : (ps : List Point) (parts : List Spot) (k : ℕ) → AreSpotsBetween v f s ps parts → suc k < length ps → (k < length parts) × ((d : Point) (e : Spot) → IsSpotBetween v f s (get_or ps k d) (get_or ps (suc k) d) (get_or parts k e))
  part_at [] parts k a h = absurd (omega (arith, h))
  part_at (p ∷ []) parts k a h = absurd (omega (arith, h))
  part_at (p ∷ q ∷ ps) [] k a h = absurd a
  part_at (p ∷ q ∷ ps) (x ∷ parts) zero a h = (omega arith, λ d e. a.0)
  part_at (p ∷ q ∷ ps) (x ∷ parts) (suc k) a h = let r = part_at (q ∷ ps) parts k a.1 (omega (arith, h)) in (omega (arith, r.0), r.1)

module _ (v : View) (f : Faces) (s : Segment) (z : ZonePlan) (x : Point) (h : IsOnZoned v f s z x) where
  abbrev ms : List Meeting
  ms = z.vertices

  abbrev ps : List Point
  ps = points_of_meetings ms

  ascend : IsAscending point_cmp ps
  ascend = subst (IsAscending point_cmp) (sym h.zone.points) (meetings_ascend v s)

  point_at : (k : ℕ) (d : Meeting) → k < length ms → get_or ps k d.point ≡ (get_or ms k d).point
  point_at k d l = get_or-map (λ (m : Meeting). m.point) ms k d d.point l

  as_many : length ps ≡ length ms
  as_many = length-map ms (λ (m : Meeting). m.point)

  sorted : IsSortedBy (λ (a b : Meeting). is_lt (point_cmp a.point b.point)) ms
  sorted k d low l = not_true (is_lt (point_cmp (get_or ms (k + 1) d).point (get_or ms k d).point)) (λ e. lt_both (lt_out (get_or ms (k + 1) d).point (get_or ms k d).point e) up)
    where
      up : Lt (get_or ms k d).point (get_or ms (k + 1) d).point
      up = record {
        is = ap (λ (p : Point). point_cmp p (get_or ms (k + 1) d).point) (sym (point_at k d (omega (arith, l)))) ∙ ap (point_cmp (get_or ps k d.point)) (sym (point_at (k + 1) d l))
            ∙ rises point_cmp ps ascend k (k + 1) d.point (omega arith) (omega (arith, l, as_many));
      }

  -- a vertex of the zone stands at a place
  record StandsAt (p : Point) : Type 0 where
    place : ℕ
    meeting : Meeting
    within : place < length ms
    there : get_or ms place meeting ≡ meeting
    point : p ≡ meeting.point

  placed : (p : Point) → Member p ps → StandsAt p
  placed p i =
      let r = of_map (λ (m : Meeting). m.point) p ms i in
      let c = from_member ms r.0 r.1 in
      record { place = c.0; meeting = r.0; within = c.1; there = c.2; point = r.2 }

  -- how a vertex compares with the point shows at its place
  shown : (p : Point) (a : StandsAt p) (o : Ordering) → point_cmp (get_or ms a.place a.meeting).point x ≡ o → point_cmp p x ≡ o
  shown p a o e = ap (λ (q : Point). point_cmp q x) (a.point ∙ ap (λ (m : Meeting). m.point) (sym a.there)) ∙ e

  lower_at : StandsAt s.lower
  lower_at = placed s.lower (subst (Member s.lower) (sym h.zone.points) (ends_meet v s).0)

  upper_at : StandsAt s.upper
  upper_at = placed s.upper (subst (Member s.upper) (sym h.zone.points) (ends_meet v s).1)

  -- what isn't a vertex lies strictly between the ends
  pub strictly : (Member x ps → ⊥) → Lt s.lower x × Lt x s.upper
  strictly none =
      let o = lies_out s x h.on in (
        ⊎_elim (λ e. absurd (none (subst (λ (p : Point). Member p ps) e (subst (Member s.lower) (sym h.zone.points) (ends_meet v s).0)))) (λ l. l) (le_cases s.lower x o.from),
        ⊎_elim (λ e. absurd (none (subst (λ (p : Point). Member p ps) (sym e) (subst (Member s.upper) (sym h.zone.points) (ends_meet v s).1)))) (λ l. l) (le_cases x s.upper o.upto),
      )

  -- ---- the search found one
  pub found : (k : ℕ) → k < length ms → ((d : Meeting) → point_cmp (get_or ms k d).point x ≡ Equal) → Member x ps
  found k l same =
      let d = lower_at.meeting in
      subst (λ (p : Point). Member p ps) (point_cmp_exact (get_or ms k d).point x (same d)) (in_map (λ (m : Meeting). m.point) (get_or ms k d) ms (member_at ms k d l))

  pub spot_found : (k : ℕ) → k < length ms → (d : Meeting) → point_cmp (get_or ms k d).point x ≡ Equal → IsSpotOf v f x (get_or ms k d).spot
  spot_found k l d same =
      subst (λ (p : Point). IsSpotOf v f p (get_or ms k d).spot) (point_cmp_exact (get_or ms k d).point x same) (h.zone.spots (get_or ms k d) (from_member ms (get_or ms k d) (member_at ms k d l)))

  -- ---- the search found none
  searchable : IsNonDecreasingBy (λ (m : Meeting). ordering_index (point_cmp m.point x)) ms
  searchable = searchable_from_sorted point_cmp_total (λ (m : Meeting). m.point) ms x sorted

  module _ (i : ℕ) (split : IsPartitionPoint (λ (m : Meeting). point_cmp m.point x ≡ Less) (λ (m : Meeting). point_cmp m.point x ≡ Greater) ms i) where
    not_vertex : Member x ps → ⊥
    not_vertex n =
        let a = placed x n in
        let t = tied_itself point_cmp_total x in
        ⊎_elim
        (λ l. let e = shown x a Less (split.0 a.place a.meeting (omega arith) l) in cc)
        (λ l. let e = shown x a Greater (split.1 a.place a.meeting l a.within) in cc)
        (cases_lt a.place i)

    some_before : 1 ≤ i
    some_before =
        let a = lower_at in
        ⊎_elim (λ l. l) (λ n. absurd ((lies_out s x h.on).from.never (after_out s.lower x (shown s.lower a Greater (split.1 a.place a.meeting (omega (arith, n)) a.within))))) (cases_lt 0 i)

    some_after : i < length ms
    some_after =
        let a = upper_at in
        ⊎_elim (λ l. l) (λ n. absurd ((lies_out s x h.on).upto.never (record { is = shown s.upper a Less (split.0 a.place a.meeting (omega arith) (omega (arith, n, a.within))) }))) (cases_lt i (length ms))

  -- the part before the place
  told : (j : ℕ) → IsPartitionPoint (λ (m : Meeting). point_cmp m.point x ≡ Less) (λ (m : Meeting). point_cmp m.point x ≡ Greater) ms (j + 1) → j + 1 < length ms → (j < length z.between) × ((e : Spot) → IsSpotOf v f x (get_or z.between j e))
  told j split l =
      let d = lower_at.meeting in
      let part = part_at v f s ps z.between j (subst (λ (qs : List Point). AreSpotsBetween v f s qs z.between) (sym h.zone.points) h.zone.between) (omega (arith, l, as_many)) in
      let low : precedes (get_or ps j d.point) x ≡ true = lt_in {p = get_or ps j d.point} {q = x} (record { is = ap (λ (p : Point). point_cmp p x) (point_at j d (omega (arith, l))) ∙ split.0 j d (omega arith) (omega arith) }) in
      let high : precedes x (get_or ps (suc j) d.point) ≡ true = lt_in {p = x} {q = get_or ps (suc j) d.point} (subst (λ (n : ℕ). Lt x (get_or ps n d.point)) (add-one j) (subst (Lt x) (sym (point_at (j + 1) d l)) (after_out (get_or ms (j + 1) d).point x (split.1 (j + 1) d (omega arith) l)))) in
      (part.0, λ e. part.1 d.point e x h.proper h.on low high)

  within : (i : ℕ) → IsPartitionPoint (λ (m : Meeting). point_cmp m.point x ≡ Less) (λ (m : Meeting). point_cmp m.point x ≡ Greater) ms i → (1 ≤ i) × (i - 1 < length z.between) × ((e : Spot) → IsSpotOf v f x (get_or z.between (i - 1) e)) × (Member x ps → ⊥)
  within i split =
      let one = some_before i split in
      let e : i ≡ i - 1 + 1 = omega (arith, one) in
      let t = told (i - 1) (subst (λ (n : ℕ). IsPartitionPoint (λ (m : Meeting). point_cmp m.point x ≡ Less) (λ (m : Meeting). point_cmp m.point x ≡ Greater) ms n) e split) (subst (λ (n : ℕ). n < length ms) e (some_after i split)) in
      (one, t.0, t.1, not_vertex i split)

  -- by the clause of the search
  pub within_by : (ns : List Meeting) (i : ℕ) → ns ≡ ms → (IsNonDecreasingBy (λ (m : Meeting). ordering_index (point_cmp m.point x)) ns → IsPartitionPoint (λ (m : Meeting). point_cmp m.point x ≡ Less) (λ (m : Meeting). point_cmp m.point x ≡ Greater) ns i) →
      (1 ≤ i) × (i - 1 < length z.between) × ((e : Spot) → IsSpotOf v f x (get_or z.between (i - 1) e)) × (Member x ps → ⊥)
  within_by ns i e told =
      within i
      (subst (λ (ks : List Meeting). IsPartitionPoint (λ (m : Meeting). point_cmp m.point x ≡ Less) (λ (m : Meeting). point_cmp m.point x ≡ Greater) ks i) e
      (told (subst (IsNonDecreasingBy (λ (m : Meeting). ordering_index (point_cmp m.point x))) (sym e) searchable)))
