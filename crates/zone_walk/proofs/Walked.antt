-- What the walk has when it stands at a meeting point, and the zone that it has at the upper end.
use Rattle.std.proofs.Common.{◌≡◌, ◌≤◌, Bool, true, false, not, List, [], ◌∷◌, ◌++◌, length, Contains, refl, sym, ap, ◌∙◌, subst, append_assoc, arith, inl, inr, ⊎_elim}
use Rattle.std.specs.List.{filter, AllByRecursion}
use Rattle.std.proofs.lemmas.List.{append-nil, length-map}
use Rattle.std.proofs.lemmas.List.Sums.{count_by-le-length}
use Rattle.exact_plane.specs.Line.{Line, IsOn}
use Rattle.exact_plane.specs.Point.{Point}
use Rattle.exact_plane.specs.PointOrder.{point_cmp}
use Rattle.exact_plane.specs.PointOrderLaws.{point_cmp_total}
use Rattle.exact_plane.specs.Segment.{Segment, line_of_segment}
use Rattle.std.specs.declared.cmp.Ordering.TheVariants.{Less}
use Rattle.plane_graphs.specs.Ascending.{Member, IsAscending}
use Rattle.plane_graphs.specs.Line.{precedes}
use Rattle.plane_graphs.proofs.Ascending.{All-member, ascending_unique, to_member, from_member}
use Rattle.integers.proofs.Tests.{not_true}
use Rattle.plane_graphs.proofs.Lists.{clash, in_left, in_right, in_either, in_filter, of_filter, IsAscending-filter, none_is_empty}
use Rattle.plane_graphs.proofs.Marks.{Le, le_lt, le_both, le_lt_lt, lt_le_lt}
use Rattle.plane_graphs.proofs.Order.{Lt, lt_out, lt_in, lt_trans, lt_never, Tri, tri}
use Rattle.plane_graphs.proofs.Order.Tri.{less, same, more}
use Rattle.slab_laws.specs.declared.names.DartId.{DartId}
use Rattle.slab_laws.specs.Sound.{IsGraphSound}
use Rattle.slab_laws.specs.View.{View, Faces, point_in, source_in, target_in}
use Rattle.dcel_records.specs.declared.spot.Spot.{Spot}
use Rattle.dcel_records.specs.declared.spot.Spot.TheVariants.{Vertex, Edge, Face}
use Rattle.dcel_records.specs.Spots.{met_of}
use Rattle.face_location.specs.Spots.{IsSpotOf}
use Rattle.zone_walk.specs.declared.plan.Meeting.{Meeting}
use Rattle.zone_walk.specs.declared.plan.ZonePlan.{ZonePlan}
use Rattle.zone_walk.specs.Walk.{IsAhead, IsMetAhead, IsSpotStretch}
use Rattle.zone_walk.specs.Zone.{meeting_points, AreSpotsBetween, IsOverlapped, IsZoneOf, IsNextMeeting, is_vertex, is_edge, vertices_needed, edges_needed, darts_among, later_points, points_of_meetings}
use Rattle.zone_walk.proofs.Aheads.{at_most, one_ahead}
use Rattle.zone_walk.proofs.Courses.{IsCourse, LiesOn, lies_in}
use Rattle.zone_walk.proofs.MeetingPoints.{MeetsAt, lower, vertex, meetings_ascend}
use Rattle.zone_walk.proofs.Stretches.{told, listed, meets_lies, meets_proper}

-- ---- an ascending list, cut after an element
all_of : (P : Point → Type 0) (xs : List Point) → ((x : Point) → Member x xs → P x) → AllByRecursion P xs
all_of P [] f = tt
all_of P (x ∷ xs) f = (f x (inl refl), all_of P xs (λ y m. f y (inr m)))

module _ (ps : List Point) (a : IsAscending point_cmp ps) where
  abbrev after : Point → List Point
  after p = filter (precedes p) ps

  ascends : (p : Point) → IsAscending point_cmp (p ∷ after p)
  ascends p = (all_of (λ x. point_cmp p x ≡ Less) (after p) (λ x m. (lt_out p x (of_filter (precedes p) x ps m).1).is), IsAscending-filter point_cmp (precedes p) ps a)

  pub cut : (p q : Point) → Member q ps → Lt p q → ((r : Point) → Member r ps → Lt p r → Lt r q → ⊥) → after p ≡ q ∷ after q
  cut p q m l none = ascending_unique point_cmp point_cmp_total (after p) (q ∷ after q) (IsAscending-filter point_cmp (precedes p) ps a) (ascends q) there back
    where
      by : (x : Point) → Member x ps → Lt p x → Tri q x → Member x (q ∷ after q)
      by x n k (less h) = inr (in_filter (precedes q) x ps n (lt_in h))
      by x n k (same e) = inl (sym e)
      by x n k (more h) = absurd (none x n k h)

      there : (x : Point) → Member x (after p) → Member x (q ∷ after q)
      there x n = let w = of_filter (precedes p) x ps n in by x w.0 (lt_out p x w.1) (tri q x)

      back : (x : Point) → Member x (q ∷ after q) → Member x (after p)
      back x (inl e) = subst (λ (y : Point). Member y (after p)) (sym e) (in_filter (precedes p) q ps m (lt_in l))
      back x (inr n) = let w = of_filter (precedes q) x ps n in in_filter (precedes p) x ps w.0 (lt_in (lt_trans l (lt_out q x w.1)))

  pub first : (p : Point) → Member p ps → ((r : Point) → Member r ps → Lt r p → ⊥) → p ∷ after p ≡ ps
  first p m none = ascending_unique point_cmp point_cmp_total (p ∷ after p) ps (ascends p) a there back
    where
      there : (x : Point) → Member x (p ∷ after p) → Member x ps
      there x (inl e) = subst (λ (y : Point). Member y ps) (sym e) m
      there x (inr n) = (of_filter (precedes p) x ps n).0

      by : (x : Point) → Member x ps → Tri p x → Member x (p ∷ after p)
      by x n (less h) = inr (in_filter (precedes p) x ps n (lt_in h))
      by x n (same e) = inl (sym e)
      by x n (more h) = absurd (none x n h)

      back : (x : Point) → Member x ps → Member x (p ∷ after p)
      back x n = by x n (tri p x)

  pub last : (p : Point) → ((r : Point) → Member r ps → Lt p r → ⊥) → after p ≡ []
  last p none = none_is_empty (after p) (λ x m. let w = of_filter (precedes p) x ps m in none x w.0 (lt_out p x w.1))

-- the first of those after an element is the next one
first_after : (ps : List Point) → IsAscending point_cmp ps → (p q : Point) (rest : List Point) → filter (precedes p) ps ≡ q ∷ rest → (r : Point) → Member r ps → Lt p r → Lt r q → ⊥
first_after ps a p q rest e r m l k =
    by
    (subst (λ (xs : List Point). Member r xs) e (in_filter (precedes p) r ps m (lt_in l)))
    (subst (IsAscending point_cmp) e (IsAscending-filter point_cmp (precedes p) ps a))
  where
    by : Member r (q ∷ rest) → IsAscending point_cmp (q ∷ rest) → ⊥
    by (inl i) h = lt_never (subst (λ (x : Point). Lt x q) i k)
    by (inr n) h = lt_never (lt_trans k (record { is = All-member (λ x. point_cmp q x ≡ Less) r rest h.0 n }))

same_rest : (q r : Point) (qs rs : List Point) → q ∷ qs ≡ r ∷ rs → qs ≡ rs
same_rest q r qs rs e = cc

-- ---- the walk so far

-- the one meeting point at which the walk begins
abbrev pub alone : Point → Spot → List Meeting
alone p at = record { point = p; spot = at } ∷ []

pub record IsWalked (v : View) (f : Faces) (g : Segment) (ms : List Meeting) (parts : List Spot) (ds : List DartId) (here : Point) (at : Spot) : Type 0 where
  pub meets : Contains (meeting_points v g) here
  pub here_spot : IsSpotOf v f here at
  pub points : points_of_meetings ms ++ later_points v g here ≡ meeting_points v g
  pub all_spots : (m : Meeting) → Member m ms → IsSpotOf v f m.point m.spot
  pub between : (qs : List Point) (rest : List Spot) → AreSpotsBetween v f g (here ∷ qs) rest → AreSpotsBetween v f g (points_of_meetings ms ++ qs) (parts ++ rest)
  pub darts : ds ≡ darts_among parts
  pub overlapped : (d : DartId) → Member d ds → IsOverlapped v g d
  pub all_overlapped : (d : DartId) → IsOverlapped v g d → Lt (point_in v (source_in v d)) here → Lt g.lower here → Member d ds

map_more : (ms : List Meeting) (m : Meeting) (qs : List Point) → points_of_meetings (ms ++ (m ∷ [])) ++ qs ≡ points_of_meetings ms ++ (m.point ∷ qs)
map_more [] m qs = refl
map_more (n ∷ ms) m qs = ap (λ (ps : List Point). n.point ∷ ps) (map_more ms m qs)

darts_more : (parts : List Spot) (met : Spot) → darts_among (parts ++ (met ∷ [])) ≡ darts_among parts ++ darts_among (met ∷ [])
darts_more [] met = refl
darts_more (Edge d ∷ parts) met = ap (λ (ds : List DartId). d ∷ ds) (darts_more parts met)
darts_more (Vertex w ∷ parts) met = darts_more parts met
darts_more (Face a ∷ parts) met = darts_more parts met

module _ (v : View) (f : Faces) (s : IsGraphSound v) (g : Segment) (c : IsCourse g) where
  on_segment : (p : Point) → Contains (meeting_points v g) p → LiesOn g p
  on_segment p m = meets_lies v s g c p (told v s g c p m)

  lower_meets : Contains (meeting_points v g) g.lower
  lower_meets = listed v s g c g.lower (lower refl)

  -- ---- at the lower end
  pub begun : (at : Spot) → IsSpotOf v f g.lower at → IsWalked v f g (alone g.lower at) [] [] g.lower at
  begun at h = record {
    meets = lower_meets;
    here_spot = h;
    points = first (meeting_points v g) (meetings_ascend v g) g.lower (to_member (meeting_points v g) g.lower lower_meets) (λ r m l. (on_segment r (from_member (meeting_points v g) r m)).from.never l);
    all_spots = only;
    between = λ qs rest k. k;
    darts = refl;
    overlapped = λ d m. absurd m;
    all_overlapped = λ d o l k. absurd (lt_never k);
  }
    where
      only : (m : Meeting) → Member m (alone g.lower at) → IsSpotOf v f m.point m.spot
      only m (inl e) = subst (λ (n : Meeting). IsSpotOf v f n.point n.spot) (sym e) h
      only m (inr k) = absurd k

  pub starts : (at : Spot) → IsSpotOf v f g.lower at → (p q : Point) → p ≡ g.lower → q ≡ g.lower → (ms : List Meeting) (parts : List Spot) (ds : List DartId) → ms ≡ alone p at → parts ≡ [] → ds ≡ [] → IsWalked v f g ms parts ds q at
  starts at h p q ep eq ms parts ds em es ed =
      subst (λ (x : Point). IsWalked v f g ms parts ds x at) (sym eq)
      (subst (λ (xs : List DartId). IsWalked v f g ms parts xs g.lower at) (sym ed)
      (subst (λ (xs : List Spot). IsWalked v f g ms xs [] g.lower at) (sym es)
      (subst (λ (xs : List Meeting). IsWalked v f g xs [] [] g.lower at) (sym (em ∙ ap (λ (x : Point). alone x at) ep)) (begun at h))))

  -- ---- the next meeting point
  module _ (p q : Point) (rest : List Point) (e : q ∷ rest ≡ later_points v g p) where
    q_later : Member q (meeting_points v g) × (precedes p q ≡ true)
    q_later = of_filter (precedes p) q (meeting_points v g) (subst (λ (xs : List Point). Member q xs) e (inl refl))

    pub next_is : IsNextMeeting v g p q
    next_is = record {
      meets = from_member (meeting_points v g) q q_later.0;
      later = q_later.1;
      none_between = λ r m l. not_true (precedes r q) (λ k. first_after (meeting_points v g) (meetings_ascend v g) p q rest (sym e) r (to_member (meeting_points v g) r m) (lt_out p r l) (lt_out r q k));
    }

  -- ---- one more stretch
  module _ (p q : Point) (n : IsNextMeeting v g p q) where
    pub fewer_later : later_points v g p ≡ q ∷ later_points v g q
    fewer_later =
        cut (meeting_points v g) (meetings_ascend v g) p q (to_member (meeting_points v g) q n.meets) (lt_out p q n.later)
        (λ r m l k. clash (lt_in k) (n.none_between r (from_member (meeting_points v g) r m) (lt_in l)))

    pub rest_later : (rest : List Point) → q ∷ rest ≡ later_points v g p → rest ≡ later_points v g q
    rest_later rest e = same_rest q q rest (later_points v g q) (e ∙ fewer_later)

  module _ (p q : Point) (met : Spot) (here : MeetsAt v g p) (on : LiesOn g p) (before : Lt p g.upper) (k : IsSpotStretch v f g p met q) where
    -- the lower end of an overlapped edge doesn't lie between
    begins_by : (d : DartId) → IsOverlapped v g d → Lt (point_in v (source_in v d)) q → (b : Bool) → precedes p (point_in v (source_in v d)) ≡ b → b ≡ false
    begins_by d o l false e = refl
    begins_by d o l true e =
        let x = point_in v (source_in v d) in
        let on_line : IsOn (line_of_segment g) x = subst (λ (n : Line). IsOn n x) o.line (s.drawn.starts d o.forward.0) in
        let m = listed v s g c x (vertex (source_in v d) (s.linked.source d o.forward.0) refl (lies_in g x (record { on = on_line; from = le_lt (le_lt_lt on.from (lt_out p x e)); upto = le_lt (lt_out x g.upper o.begins) }))) in
        clash (lt_in l) (k.stretch.next.none_between x m e)

    -- what goes on from p is the one edge that does
    listed_there : (x : Spot) → IsMetAhead v (line_of_segment g) p (met_of x) → (d : DartId) → IsAhead v (line_of_segment g) p d → Member d (darts_among (x ∷ []))
    listed_there (Vertex w) h d a = absurd h
    listed_there (Face b) h d a = absurd (h d a)
    listed_there (Edge e) h d a = inl (one_ahead v s (line_of_segment g) p (meets_proper v s g c p here) on.on d e a h)

    -- an overlapped edge that begins before q is there already, or it goes on from p
    there_by : (ds : List DartId) → ((d : DartId) → IsOverlapped v g d → Lt (point_in v (source_in v d)) p → Lt g.lower p → Member d ds)
        → (d : DartId) → IsOverlapped v g d → precedes p (point_in v (source_in v d)) ≡ false → (b : Bool) → precedes p (point_in v (target_in v d)) ≡ b → Member d (ds ++ darts_among (met ∷ []))
    there_by ds had d o f true e = in_right d ds (darts_among (met ∷ [])) (listed_there met k.stretch.ahead d (record { forward = o.forward; line = o.line; begins = f; ends = e }))
    there_by ds had d o f false e =
        let x = point_in v (target_in v d) in
        let u : Le x p = at_most x p e in
        in_left d ds (darts_among (met ∷ [])) (had d o (lt_le_lt (lt_out (point_in v (source_in v d)) x o.forward.1) u) (lt_le_lt (lt_out g.lower x o.ends) u))

    -- what goes on from p is overlapped
    ahead_overlapped : (x : Spot) → IsMetAhead v (line_of_segment g) p (met_of x) → (d : DartId) → Member d (darts_among (x ∷ [])) → IsOverlapped v g d
    ahead_overlapped (Vertex w) h d m = absurd h
    ahead_overlapped (Face b) h d m = absurd m
    ahead_overlapped (Edge e) h d (inr m) = absurd m
    ahead_overlapped (Edge e) h d (inl i) =
        subst (IsOverlapped v g) (sym i)
        (record {
          forward = h.forward;
          line = h.line;
          begins = lt_in (le_lt_lt (at_most (point_in v (source_in v e)) p h.begins) before);
          ends = lt_in (le_lt_lt on.from (lt_out p (point_in v (target_in v e)) h.ends));
        })

  module _ (ms : List Meeting) (parts : List Spot) (ds : List DartId) (p : Point) (at : Spot) (w : IsWalked v f g ms parts ds p at) (before : Lt p g.upper) (met : Spot) (next : Meeting) (k : IsSpotStretch v f g p met next.point) (there : IsSpotOf v f next.point next.spot) where
    on : LiesOn g p
    on = on_segment p w.meets

    more_points : points_of_meetings (ms ++ (next ∷ [])) ++ later_points v g next.point ≡ meeting_points v g
    more_points = map_more ms next (later_points v g next.point) ∙ ap (λ (ps : List Point). points_of_meetings ms ++ ps) (sym (fewer_later p next.point k.stretch.next)) ∙ w.points

    more_spots : (m : Meeting) → Member m (ms ++ (next ∷ [])) → IsSpotOf v f m.point m.spot
    more_spots m n = ⊎_elim (λ a. w.all_spots m a) (λ b. ⊎_elim (λ e. subst (λ (o : Meeting). IsSpotOf v f o.point o.spot) (sym e) there) (λ z. absurd z) b) (in_either m ms (next ∷ []) n)

    more_between : (qs : List Point) (rest : List Spot) → AreSpotsBetween v f g (next.point ∷ qs) rest → AreSpotsBetween v f g (points_of_meetings (ms ++ (next ∷ [])) ++ qs) ((parts ++ (met ∷ [])) ++ rest)
    more_between qs rest h =
        subst (λ (ps : List Point). AreSpotsBetween v f g ps ((parts ++ (met ∷ [])) ++ rest)) (sym (map_more ms next qs))
        (subst (AreSpotsBetween v f g (points_of_meetings ms ++ (next.point ∷ qs))) (sym (append_assoc parts (met ∷ []) rest)) (w.between (next.point ∷ qs) (met ∷ rest) (k.spots, h)))

    more_overlapped : (d : DartId) → Member d (ds ++ darts_among (met ∷ [])) → IsOverlapped v g d
    more_overlapped d m = ⊎_elim (λ a. w.overlapped d a) (λ b. ahead_overlapped p next.point met (told v s g c p w.meets) on before k met k.stretch.ahead d b) (in_either d ds (darts_among (met ∷ [])) m)

    pub walked_on : IsWalked v f g (ms ++ (next ∷ [])) (parts ++ (met ∷ [])) (ds ++ darts_among (met ∷ [])) next.point next.spot
    walked_on = record {
      meets = k.stretch.next.meets;
      here_spot = there;
      points = more_points;
      all_spots = more_spots;
      between = more_between;
      darts = ap (λ (es : List DartId). es ++ darts_among (met ∷ [])) w.darts ∙ sym (darts_more parts met);
      overlapped = more_overlapped;
      all_overlapped = λ d o l m.
          there_by p next.point met (told v s g c p w.meets) on before k ds w.all_overlapped d o (begins_false d o l) (precedes p (point_in v (target_in v d))) refl;
    }
      where
        begins_false : (d : DartId) → IsOverlapped v g d → Lt (point_in v (source_in v d)) next.point → precedes p (point_in v (source_in v d)) ≡ false
        begins_false d o l = by (precedes p (point_in v (source_in v d))) refl
          where
            by : (b : Bool) → precedes p (point_in v (source_in v d)) ≡ b → precedes p (point_in v (source_in v d)) ≡ false
            by b e = e ∙ begins_by p next.point met (told v s g c p w.meets) on before k d o l b e

    pub continues : (grown : List Meeting) (grown_parts : List Spot) (darts : List DartId) → grown ≡ ms ++ (next ∷ []) → grown_parts ≡ parts ++ (met ∷ []) → darts ≡ ds ++ darts_among (met ∷ []) → IsWalked v f g grown grown_parts darts next.point next.spot
    continues grown grown_parts darts em es ed =
        subst (λ (xs : List DartId). IsWalked v f g grown grown_parts xs next.point next.spot) (sym ed)
        (subst (λ (xs : List Spot). IsWalked v f g grown xs (ds ++ darts_among (met ∷ [])) next.point next.spot) (sym es)
        (subst (λ (xs : List Meeting). IsWalked v f g xs (parts ++ (met ∷ [])) (ds ++ darts_among (met ∷ [])) next.point next.spot) (sym em) walked_on))

  -- ---- a meeting point with another one after it comes before the upper end
  pub before_upper : (p q : Point) → IsNextMeeting v g p q → Lt p g.upper
  before_upper p q n = lt_le_lt (lt_out p q n.later) (on_segment q n.meets).upto

  -- ---- at the upper end
  few_between : (ps : List Point) (parts : List Spot) → AreSpotsBetween v f g ps parts → length parts ≤ length ps
  few_between [] [] h = absurd h
  few_between [] (x ∷ parts) h = absurd h
  few_between (p ∷ []) [] h = omega arith
  few_between (p ∷ []) (x ∷ parts) h = absurd h
  few_between (p ∷ q ∷ ps) [] h = absurd h
  few_between (p ∷ q ∷ ps) (x ∷ parts) h = let k = few_between (q ∷ ps) parts h.1 in omega arith

  module _ (z : ZonePlan) (p : Point) (at : Spot) (w : IsWalked v f g z.vertices z.between z.overlapped p at) (past : precedes p g.upper ≡ false) (vertices : z.room.vertices ≡ vertices_needed z.vertices) (edges : z.room.edges ≡ edges_needed z.vertices z.between) (cycles : z.room.cycles ≡ length z.between) (faces : z.room.faces ≡ length z.between) where
    at_upper : p ≡ g.upper
    at_upper = le_both (on_segment p w.meets).upto (at_most g.upper p past)

    none_later : later_points v g p ≡ []
    none_later = last (meeting_points v g) (meetings_ascend v g) p (λ r m l. (on_segment r (from_member (meeting_points v g) r m)).upto.never (subst (λ (x : Point). Lt x r) at_upper l))

    all_points : points_of_meetings z.vertices ≡ meeting_points v g
    all_points = sym (append-nil (points_of_meetings z.vertices)) ∙ ap (λ (ps : List Point). points_of_meetings z.vertices ++ ps) (sym none_later) ∙ w.points

    all_between : AreSpotsBetween v f g (meeting_points v g) z.between
    all_between =
        subst (λ (ps : List Point). AreSpotsBetween v f g ps z.between) (append-nil (points_of_meetings z.vertices) ∙ all_points)
        (subst (AreSpotsBetween v f g (points_of_meetings z.vertices ++ [])) (append-nil z.between) (w.between [] [] tt))

    as_many : length z.vertices ≡ length (meeting_points v g)
    as_many = sym (length-map z.vertices (λ (m : Meeting). m.point)) ∙ ap (λ (ps : List Point). length ps) all_points

    pub zone_done : IsZoneOf v f g z
    zone_done = record {
      points = all_points;
      spots = λ m n. w.all_spots m (to_member z.vertices m n);
      between = all_between;
      listed = w.darts;
      overlapped = λ d m. w.overlapped d (to_member z.overlapped d m);
      all_overlapped = λ d o. from_member z.overlapped d (w.all_overlapped d o (subst (Lt (point_in v (source_in v d))) (sym at_upper) (lt_out (point_in v (source_in v d)) g.upper o.begins)) (subst (Lt g.lower) (sym at_upper) c.ahead));
      vertices = vertices;
      edges = edges;
      cycles = cycles;
      faces = faces;
      vertices_fit = let a = count_by-le-length (λ (m : Meeting). not (is_vertex (met_of m.spot))) z.vertices in omega (arith, vertices, as_many);
      edges_fit = let a = count_by-le-length (λ (m : Meeting). is_edge (met_of m.spot)) z.vertices in let b = few_between (meeting_points v g) z.between all_between in omega (arith, edges, as_many);
    }
