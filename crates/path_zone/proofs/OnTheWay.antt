-- All sides, in the order in which they begin: their zones, their meetings and their looks.
use Rattle.std.proofs.Common.{◌≡◌, ◌⊎◌, ℕ, ◌+◌, ◌<◌, ◌≤◌, List, [], ◌∷◌, ◌++◌, length, take, get_or, true, refl, sym, ap, ◌∙◌, subst, inl, inr, ⊎_elim, arith}
use Rattle.std.specs.List.{sum_by}
use Rattle.std.proofs.lemmas.List.Sums.{sum_by_more, sum_by_more_le, sum_by-take-le}
use Rattle.exact_plane.specs.Point.{Point}
use Rattle.exact_plane.specs.PointOrderLaws.{and_true}
use Rattle.exact_plane.specs.Segment.{Segment}
use Rattle.plane_graphs.specs.Ascending.{Member}
use Rattle.plane_graphs.proofs.Lists.{in_either, in_flat_map, in_left, in_map, in_right, of_flat_map, of_map}
use Rattle.plane_graphs.proofs.Sorting.{member_at}
use Rattle.slab_laws.specs.View.{View, Faces}
use Rattle.face_location.specs.Spots.{IsSpotOf}
use Rattle.zone_walk.specs.declared.plan.Meeting.{Meeting}
use Rattle.zone_walk.specs.Zone.{is_on_segment, meeting_points, CoversVisits}
use Rattle.path_zone.specs.declared.order.BegunSide.{BegunSide}
use Rattle.path_zone.specs.declared.zoned.ZonedSide.{ZonedSide}
use Rattle.path_zone.specs.Begun.{AreInSweepOrder, Fits}
use Rattle.path_zone.specs.Gathered.{HasMore, HasPoint, IsPathMeeting}
use Rattle.path_zone.specs.PathZone.{looks_along, CoverAllVisits, IsCrossing, IsWhereSidesMeet}
use Rattle.path_zone.specs.Zoned.{sides_zoned, vertices_zoned, AreZonedSides, HasSide, IsAlong, IsNew, IsOnOne, IsZonedSide}
use Rattle.path_zone.proofs.Along.{along_itself, crossing_along, ends_meet, met_along, on_along, LiesAlong}
use Rattle.path_zone.proofs.Budgets.{affordable}
use Rattle.path_zone.proofs.Crossings.{crosses_other, crossing_back}
use Rattle.path_zone.proofs.Gathering.{has_more, more_many, more_none, more_sides, more_then, of_more, zone_meetings}
use Rattle.path_zone.proofs.SweepOrder.{begun_with, in_take_all, side_among, start_of, take_next}

-- ---- points of the meetings and of the zones
abbrev pub HasPointAmong : List ZonedSide → List Meeting → Point → Type 0
HasPointAmong zs ms x = HasPoint ms x ⊎ ((z : ZonedSide) × Member z zs × HasPoint z.plan.vertices x)

module _ (zs zs1 : List ZonedSide) (ms ms1 : List Meeting) (more : (z : ZonedSide) → Member z zs → Member z zs1) (kept : (m : Meeting) → Member m ms → Member m ms1) where
  still : (x : Point) → HasPointAmong zs ms x → HasPointAmong zs1 ms1 x
  still x (inl h) = inl (has_more ms ms1 x kept h)
  still x (inr (z, m, h)) = inr (z, more z m, h)

-- a side lies along one that has a zone, and its ends are among the points
pub record IsSettled (zs : List ZonedSide) (ms : List Meeting) (s : Segment) : Type 0 where
  pub other : ZonedSide
  pub among : Member other zs
  pub along : LiesAlong s other.side
  pub lower : HasPointAmong zs ms s.lower
  pub upper : HasPointAmong zs ms s.upper

module _ (zs zs1 : List ZonedSide) (ms ms1 : List Meeting) (more : (z : ZonedSide) → Member z zs → Member z zs1) (kept : (m : Meeting) → Member m ms → Member m ms1) where
  still_settled : (s : Segment) → IsSettled zs ms s → IsSettled zs1 ms1 s
  still_settled s h = record {
    other = h.other;
    among = more h.other h.among;
    along = h.along;
    lower = still zs zs1 ms ms1 more kept s.lower h.lower;
    upper = still zs zs1 ms ms1 more kept s.upper h.upper;
  }

-- ---- on the way: the sides before a place were taken
pub record IsOnTheWay (v : View) (f : Faces) (ss : List Segment) (bs : List BegunSide) (zs : List ZonedSide) (ms : List Meeting) (i begin now : ℕ) : Type 0 where
  pub zoned : AreZonedSides v f zs
  pub among : (z : ZonedSide) → Member z zs → Member z.side ss
  pub more : HasMore v f ss [] ms
  pub crossed : (z y : ZonedSide) (x : Point) → Member z zs → Member y zs → IsCrossing z.side y.side x → HasPointAmong zs ms x
  pub settled : (b : BegunSide) → Member b (take i bs) → IsSettled zs ms b.side
  pub counted : (g : BegunSide → ℕ) → ((b : BegunSide) → Member b bs → Fits v f g b) → now ≤ begin + sum_by g (take i bs)

module _ (v : View) (f : Faces) (ss : List Segment) (bs : List BegunSide) (begin : ℕ) where
  way_none : (now : ℕ) → now ≡ begin → IsOnTheWay v f ss bs [] [] 0 begin now
  way_none now e = record {
    zoned = λ z m. absurd m;
    among = λ z m. absurd m;
    more = more_none v f ss [] [] refl;
    crossed = λ z y x m. absurd m;
    settled = λ b m. absurd m;
    counted = λ g h. omega (arith, e);
  }

  pub way_first : (zs : List ZonedSide) (ms : List Meeting) (now : ℕ) → zs ≡ [] → ms ≡ [] → now ≡ begin → IsOnTheWay v f ss bs zs ms 0 begin now
  way_first zs ms now e d a = subst (λ us. IsOnTheWay v f ss bs us ms 0 begin now) (sym e) (subst (λ ns. IsOnTheWay v f ss bs [] ns 0 begin now) (sym d) (way_none now a))

  module _ (zs : List ZonedSide) (ms : List Meeting) (i now : ℕ) (w : AreInSweepOrder v f ss bs) (way : IsOnTheWay v f ss bs zs ms i begin now) (b : BegunSide) (l : i < length bs) (e : b ≡ get_or bs i b) where
    pub way_start : IsSpotOf v f b.side.lower b.start ⊎ IsOnOne zs b.side.lower
    way_start = start_of v f ss bs w i b l e zs (λ c m x o. let s = way.settled c m in (s.other, s.among, on_along c.side s.other.side s.along x o))

    in_order : Member b bs
    in_order = subst (λ (c : BegunSide). Member c bs) (sym e) (member_at bs i b l)

    side_in : Member b.side ss
    side_in = side_among v f ss bs w b in_order

    module _ (after : ℕ) (looks : (k : ℕ) → CoversVisits v f b.side (meeting_points v b.side) k → after ≤ now + (k + looks_along v b.side)) where
      counted_next : (g : BegunSide → ℕ) → ((c : BegunSide) → Member c bs → Fits v f g c) → after ≤ begin + (sum_by g (take i bs) + g (get_or bs i b))
      counted_next g h =
          let fits = h b in_order in
          let this = looks fits.visits fits.covers in
          let enough = fits.enough in
          let before = way.counted g h in
          let here = ap g e in
          omega (arith, this, enough, before, here)

      -- where the next one fails, its looks are counted still
      pub way_cut : (n : ℕ) → CoverAllVisits v f ss n → after ≤ begin + (n + sum_by (looks_along v) ss)
      way_cut n c =
          let g = affordable v f ss bs w n c in
          let now = counted_next g.0 g.1 in
          let all = sum_by_more_le g.0 bs i b l in
          let paid = g.2 in
          omega (arith, now, all, paid)

      -- it lies along another one
      module _ (ms1 : List Meeting) where
        next_along : (zs1 : List ZonedSide) → IsAlong v f b.side zs ms zs1 ms1 → IsOnTheWay v f ss bs zs ms1 (i + 1) begin after
        next_along zs1 a = record {
          zoned = way.zoned;
          among = way.among;
          more = more_then v f ss [] ms ms1 way.more (more_sides v f (b.side ∷ []) ss this ms ms1 a.ends.more);
          crossed = λ z y x m n c. still zs zs ms ms1 (λ u k. k) kept x (way.crossed z y x m n c);
          settled = λ c m. ⊎_elim
              (λ k. still_settled zs zs ms ms1 (λ u q. q) kept c.side (way.settled c k))
              (λ q. subst (λ (d : BegunSide). IsSettled zs ms1 d.side) (e ∙ sym q) here)
              (take_next bs i b c l m);
          counted = λ g h. let now = counted_next g h in let sum = sum_by_more g bs i b l in omega (arith, now, sum);
        }
          where
            kept : (m : Meeting) → Member m ms → Member m ms1
            kept = a.ends.more.kept

            this : (t : Segment) → Member t (b.side ∷ []) → Member t ss
            this t (inl q) = subst (λ (u : Segment). Member u ss) (sym q) side_in
            this t (inr q) = absurd q

            is : (is_on_segment a.other.side b.side.lower ≡ true) × (is_on_segment a.other.side b.side.upper ≡ true)
            is = and_true (is_on_segment a.other.side b.side.lower) (is_on_segment a.other.side b.side.upper) a.over

            here : IsSettled zs ms1 b.side
            here = record {
              other = a.other;
              among = a.among;
              along = record { ends = a.ends.ends; other_ends = (way.zoned a.other a.among).ends; lower = is.0; upper = is.1 };
              lower = ⊎_elim (λ k. inl k) (λ k. inr (a.other, a.among, k)) a.ends.lower;
              upper = ⊎_elim (λ k. inl k) (λ k. inr (a.other, a.among, k)) a.ends.upper;
            }

        -- it has a zone of its own
        module _ (a : (zs1 : List ZonedSide) × IsNew v f b.side zs ms zs1 ms1) where
          abbrev one : ZonedSide
          one = a.1.one

          abbrev all : List ZonedSide
          all = zs ++ (one ∷ [])

          old : (z : ZonedSide) → Member z zs → Member z all
          old z m = in_left z zs (one ∷ []) m

          new : Member one all
          new = in_right one zs (one ∷ []) (inl refl)

          either : (z : ZonedSide) → Member z all → Member z zs ⊎ (z ≡ one)
          either z m = ⊎_elim (λ k. inl k) (λ k. inr (only k)) (in_either z zs (one ∷ []) m)
            where
              only : Member z (one ∷ []) → z ≡ one
              only (inl q) = q
              only (inr q) = absurd q

          kept : (m : Meeting) → Member m ms → Member m ms1
          kept = a.1.more.kept

          sides : (t : Segment) → Member t (b.side ∷ sides_zoned zs) → Member t ss
          sides t (inl q) = subst (λ (u : Segment). Member u ss) (sym q) side_in
          sides t (inr q) = let r = of_map (λ (z : ZonedSide). z.side) t zs q in subst (λ (u : Segment). Member u ss) (sym r.2) (way.among r.0 r.1)

          -- the new one crosses an old one
          meets : (y : ZonedSide) (x : Point) → Member y zs → IsCrossing one.side y.side x → HasPointAmong all ms1 x
          meets y x n c =
              ⊎_elim (λ k. inl k) (λ k. inr (one, new, k))
              (a.1.there y.side x (in_map (λ (z : ZonedSide). z.side) y zs n) (subst (λ (t : Segment). IsCrossing t y.side x) a.1.side c))

          crossed : (z y : ZonedSide) (x : Point) → Member z zs ⊎ (z ≡ one) → Member y zs ⊎ (y ≡ one) → IsCrossing z.side y.side x → HasPointAmong all ms1 x
          crossed z y x (inl m) (inl n) c = still zs all ms ms1 old kept x (way.crossed z y x m n c)
          crossed z y x (inl m) (inr q) c = meets z x m (crossing_back z.side one.side x (subst (λ (u : ZonedSide). IsCrossing z.side u.side x) q c))
          crossed z y x (inr p) (inl n) c = meets y x n (subst (λ (u : ZonedSide). IsCrossing u.side y.side x) p c)
          crossed z y x (inr p) (inr q) c = absurd (crosses_other one.side x (subst (λ (u : ZonedSide). IsCrossing u.side one.side x) p (subst (λ (u : ZonedSide). IsCrossing z.side u.side x) q c)))

          vertex : (x : Point) → Member x (meeting_points v one.side) → HasPointAmong all ms1 x
          vertex x m = inr (one, new, subst (Member x) (sym a.1.zoned.zone.points) m)

          here : IsSettled all ms1 one.side
          here = record {
            other = one;
            among = new;
            along = along_itself one.side a.1.zoned.ends;
            lower = vertex one.side.lower (ends_meet v one.side).0;
            upper = vertex one.side.upper (ends_meet v one.side).1;
          }

          next_new : IsOnTheWay v f ss bs all ms1 (i + 1) begin after
          next_new = record {
            zoned = λ z m. ⊎_elim (λ k. way.zoned z k) (λ q. subst (IsZonedSide v f) (sym q) a.1.zoned) (either z m);
            among = λ z m. ⊎_elim (λ k. way.among z k) (λ q. subst (λ (t : Segment). Member t ss) (sym (ap (λ (u : ZonedSide). u.side) q ∙ a.1.side)) side_in) (either z m);
            more = more_then v f ss [] ms ms1 way.more (more_sides v f (b.side ∷ sides_zoned zs) ss sides ms ms1 a.1.more);
            crossed = λ z y x m n c. crossed z y x (either z m) (either y n) c;
            settled = λ c m. ⊎_elim
                (λ k. still_settled zs all ms ms1 old kept c.side (way.settled c k))
                (λ q. subst (λ (t : Segment). IsSettled all ms1 t) (a.1.side ∙ ap (λ (d : BegunSide). d.side) (e ∙ sym q)) here)
                (take_next bs i b c l m);
            counted = λ g h. let now = counted_next g h in let sum = sum_by_more g bs i b l in omega (arith, now, sum);
          }

        pub way_next : (zs1 : List ZonedSide) → HasSide v f b.side zs ms zs1 ms1 → IsOnTheWay v f ss bs zs1 ms1 (i + 1) begin after
        way_next zs1 (inl a) = subst (λ us. IsOnTheWay v f ss bs us ms1 (i + 1) begin after) (sym a.zones) (next_along zs1 a)
        way_next zs1 (inr a) = subst (λ us. IsOnTheWay v f ss bs us ms1 (i + 1) begin after) (sym a.zones) (next_new (zs1, a))

  -- ---- all were taken
  module _ (zs : List ZonedSide) (ms : List Meeting) (i now : ℕ) (w : AreInSweepOrder v f ss bs) (way : IsOnTheWay v f ss bs zs ms i begin now) where
    pub way_looks : (n : ℕ) → CoverAllVisits v f ss n → now ≤ begin + (n + sum_by (looks_along v) ss)
    way_looks n c =
        let g = affordable v f ss bs w n c in
        let before = way.counted g.0 g.1 in
        let part = sum_by-take-le g.0 bs i in
        let paid = g.2 in
        omega (arith, before, part, paid)

    module _ (l : length bs ≤ i) (new : List Meeting) (items : new ≡ ms ++ vertices_zoned zs) where
      there : (x : Point) → HasPointAmong zs ms x → HasPoint new x
      there x (inl h) = has_more ms new x (λ m k. subst (Member m) (sym items) (in_left m ms (vertices_zoned zs) k)) h
      there x (inr (z, m, h)) = has_more z.plan.vertices new x (λ n k. subst (Member n) (sym items) (in_right n ms (vertices_zoned zs) (in_flat_map (λ (y : ZonedSide). y.plan.vertices) z n zs m k))) h

      one_in : (t : Segment) → Member t ss → (u : Segment) → Member u (t ∷ []) → Member u ss
      one_in t k u (inl e) = subst (λ (r : Segment). Member r ss) (sym e) k
      one_in t k u (inr e) = absurd e

      of_zones : (m : Meeting) → Member m (vertices_zoned zs) → IsPathMeeting v f ss m
      of_zones m k =
          let r = of_flat_map (λ (y : ZonedSide). y.plan.vertices) m zs k in
          of_more v f (r.0.side ∷ []) ss (one_in r.0.side (way.among r.0 r.1)) m (zone_meetings v f r.0.side [] r.0.plan (way.zoned r.0 r.1).zone m r.2)

      pub way_more : HasMore v f ss [] new
      way_more = more_then v f ss [] ms new way.more (more_many v f ss ms (vertices_zoned zs) new items of_zones)

      found : (s : Segment) → Member s ss → IsSettled zs ms s
      found s m =
          let c = begun_with v f ss bs w s m in
          subst (IsSettled zs ms) (sym c.2) (way.settled c.0 (in_take_all bs i c.0 l c.1))

      pub way_each : (s : Segment) (x : Point) → Member s ss → Member x (meeting_points v s) → HasPoint new x
      way_each s x m n =
          let h = found s m in
          ⊎_elim
          (λ e. there x (subst (HasPointAmong zs ms) (sym e) h.lower))
          (λ r. ⊎_elim
          (λ e. there x (subst (HasPointAmong zs ms) (sym e) h.upper))
          (λ k. there x (inr (h.other, h.among, subst (Member x) (sym (way.zoned h.other h.among).zone.points) k)))
          r)
          (met_along s h.other.side h.along v x n)

      pub way_own : (x : Point) → IsWhereSidesMeet ss x → HasPoint new x
      way_own x c =
          let a = found c.one c.one_in in
          let b = found c.other c.other_in in
          there x (way.crossed a.other b.other x a.among b.among (crossing_along c.one c.other a.other.side b.other.side a.along b.along x c.crossing))
