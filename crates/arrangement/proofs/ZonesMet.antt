-- Whether a segment meets an arrangement, by the plan of its insertion: each point of the segment is one of the plan's, or lies within an open part.
use Rattle.std.proofs.Common.{◌≡◌, ◌≢◌, Bool, true, false, not, ◌||◌, ◌==◌, ℕ, List, [], ◌∷◌, length, map, inl, inr, ◌⊎◌, ⊎_elim, refl, sym, ap, ◌∙◌, subst, Less, arith}
use Rattle.std.specs.List.{list_any, Contains}
use Rattle.std.proofs.lemmas.Bool.{false≢true}
use Rattle.integers.proofs.Tests.{not_true, other_number}
use Rattle.exact_plane.specs.Line.{Line, IsOn}
use Rattle.exact_plane.specs.Point.{Point}
use Rattle.exact_plane.specs.PointOrder.{point_cmp}
use Rattle.exact_plane.specs.PointOrderLaws.{point_cmp_total, same_point as point_cmp_exact}
use Rattle.exact_plane.specs.Segment.{Segment, line_of_segment, AreEnds}
use Rattle.plane_graphs.specs.Ascending.{Member, IsAscending}
use Rattle.plane_graphs.specs.Graph.{graph}
use Rattle.plane_graphs.specs.Line.{IsProper, precedes}
use Rattle.plane_graphs.proofs.Ascending.{All-member, from_member, to_member}
use Rattle.plane_graphs.proofs.Lists.{any_none, any_out, in_ascending, in_map, of_map}
use Rattle.plane_graphs.proofs.Marks.{Le, le_both, le_cases, le_lt, le_out, le_same, le_trans}
use Rattle.plane_graphs.proofs.Order.{Lt, lt_in, lt_out, Tri, tri}
use Rattle.plane_graphs.proofs.Order.Tri.{less, same, more}
use Rattle.slab_laws.specs.declared.cell.Cell.{Cell}
use Rattle.slab_laws.specs.declared.cell.Cell.TheVariants as cell
use Rattle.slab_laws.specs.declared.names.DartId.{DartId}
use Rattle.slab_laws.specs.declared.names.FaceId.{FaceId}
use Rattle.slab_laws.specs.declared.names.VertexId.{VertexId}
use Rattle.slab_laws.specs.FacesSound.{IsSound}
use Rattle.slab_laws.specs.Skeleton.{inside}
use Rattle.slab_laws.specs.Sound.{edge_in}
use Rattle.slab_laws.specs.Subdivision.{subdivision, holds}
use Rattle.slab_laws.specs.Text.{skeleton}
use Rattle.slab_laws.specs.View.{View, Faces, HasVertex, point_in, source_in, target_in}
use Rattle.arr_notes.specs.Curves.{IsForward}
use Rattle.dcel_records.specs.declared.spot.Spot.{Spot}
use Rattle.dcel_records.specs.declared.spot.Spot.TheVariants as spot
use Rattle.face_location.specs.Spots.{IsSpotOf}
use Rattle.face_ranks.specs.Ranks.{rank_in}
use Rattle.curve_history.specs.Past.{Past}
use Rattle.told_steps.specs.RecordLayers.{IsLayer, layer_of}
use Rattle.locate_naive.proofs.Within.{in_dart}
use Rattle.zone_walk.specs.declared.plan.Meeting.{Meeting}
use Rattle.zone_walk.specs.declared.plan.ZonePlan.{ZonePlan}
use Rattle.zone_walk.specs.Zone.{is_on_segment, meeting_points, darts_among, AreSpotsBetween, IsSpotBetween, IsOverlapped, IsZoneOf}
use Rattle.zone_walk.proofs.Courses.{IsCourse, LiesOn, course, lies_in, lies_out, lower_lies}
use Rattle.zone_walk.proofs.MeetingPoints.{MeetsAt, vertex, meetings_ascend}
use Rattle.zone_walk.proofs.Stretches.{meets_lies, meets_proper, told, listed}
use Rattle.arrangement.specs.Zones.{is_met}
use Rattle.arrangement.proofs.Located.{at_vertex, on_edge, in_face}
use Rattle.integers.proofs.Decisions.{or_out}

-- ---- where a point of the segment lies
module _ (v : View) (f : Faces) (g : Segment) (x : Point) (proper : IsProper x) (on : is_on_segment g x ≡ true) where
  -- it lies within an open part
  pub record IsInPart (parts : List Spot) : Type 0 where
    pub at : Spot
    pub there : Member at parts
    pub lies : IsSpotOf v f x at

  upto : Le x g.upper
  upto = (lies_out g x on).upto

  shift : (p q : Point) (ps : List Point) (at : Spot) (parts : List Spot) → Member x (q ∷ ps) ⊎ IsInPart parts → Member x (p ∷ q ∷ ps) ⊎ IsInPart (at ∷ parts)
  shift p q ps at parts (inl i) = inl (inr i)
  shift p q ps at parts (inr w) = inr (record { at = w.at; there = inr w.there; lies = w.lies })

  onward : (p q : Point) (ps : List Point) (at : Spot) (parts : List Spot) → IsSpotBetween v f g p q at → (g.upper ≡ p) ⊎ Member g.upper (q ∷ ps) → Lt p x → (Member g.upper (q ∷ ps) → Le q x → Member x (q ∷ ps) ⊎ IsInPart parts) → Tri x q → Member x (p ∷ q ∷ ps) ⊎ IsInPart (at ∷ parts)
  onward p q ps at parts a m k go (less n) = inr (record { at = at; there = inl refl; lies = a x proper on (lt_in k) (lt_in n) })
  onward p q ps at parts a m k go (same e) = inl (inr (inl e))
  onward p q ps at parts a (inl e) k go (more n) = absurd (upto.never (subst (λ (y : Point). Lt y x) (sym e) k))
  onward p q ps at parts a (inr i) k go (more n) = shift p q ps at parts (go i (le_lt n))

  covered : (p : Point) (ps : List Point) (parts : List Spot) → AreSpotsBetween v f g (p ∷ ps) parts → Member g.upper (p ∷ ps) → Le p x → Member x (p ∷ ps) ⊎ IsInPart parts
  covered p [] parts a (inl e) l = inl (inl (le_both (subst (Le x) e upto) l))
  covered p [] parts a (inr m) l = absurd m
  covered p (q ∷ ps) [] a m l = absurd a
  covered p (q ∷ ps) (at ∷ parts) a m l =
      ⊎_elim (λ e. inl (inl (sym e))) (λ k. onward p q ps at parts a.0 m k (λ i n. covered q ps parts a.1 i n) (tri x q)) (le_cases p x l)

  begins : (p : Point) (ps : List Point) → IsAscending point_cmp (p ∷ ps) → Member g.lower (p ∷ ps) → Le p x
  begins p ps up (inl e) = subst (λ (y : Point). Le y x) e (lies_out g x on).from
  begins p ps up (inr m) = le_trans (le_lt {p = p} {q = g.lower} (record { is = All-member (λ (y : Point). point_cmp p y ≡ Less) g.lower ps up.0 m })) (lies_out g x on).from

  among : (ps : List Point) (parts : List Spot) → IsAscending point_cmp ps → Member g.lower ps → Member g.upper ps → AreSpotsBetween v f g ps parts → Member x ps ⊎ IsInPart parts
  among [] parts up low high a = absurd low
  among (p ∷ ps) parts up low high a = covered p ps parts a high (begins p ps up low)

  ends_in : Member g.lower (meeting_points v g) × Member g.upper (meeting_points v g)
  unfolding meeting_points
  ends_in = (in_ascending point_cmp point_cmp_total point_cmp_exact g.lower _ (inl refl), in_ascending point_cmp point_cmp_total point_cmp_exact g.upper _ (inr (inl refl)))

  pub placed : (parts : List Spot) → AreSpotsBetween v f g (meeting_points v g) parts → Member x (meeting_points v g) ⊎ IsInPart parts
  placed parts a = among (meeting_points v g) parts (meetings_ascend v g) ends_in.0 ends_in.1 a

-- ---- the edges among the parts
later : (at : Spot) (parts : List Spot) (d : DartId) → Member d (darts_among parts) → Member d (darts_among (at ∷ parts))
later (spot.Edge e) parts d m = inr m
later (spot.Vertex w) parts d m = m
later (spot.Face a) parts d m = m

in_darts : (d : DartId) (parts : List Spot) → Member (spot.Edge d) parts → Member d (darts_among parts)
in_darts d [] m = absurd m
in_darts d (at ∷ parts) (inl i) = subst (λ (k : Spot). Member d (darts_among (k ∷ parts))) i (inl refl)
in_darts d (at ∷ parts) (inr m) = later at parts d (in_darts d parts m)

-- ---- what the test of a plan says
neither : (a b : Bool) → a || b ≡ false → (a ≡ false) × (b ≡ false)
neither true b e = absurd (false≢true (sym e))
neither false b e = (refl, e)

first_one : {X : Type 0} (xs : List X) → not (length xs == 0) ≡ true → (y : X) × Member y xs
first_one [] e = absurd (false≢true e)
first_one (x ∷ xs) e = (x, inl refl)

none_there : {X : Type 0} (xs : List X) → not (length xs == 0) ≡ false → (y : X) → Member y xs → ⊥
none_there [] e y m = m
none_there (x ∷ xs) e y m =
    let k : (length (x ∷ xs) == 0) ≡ false = other_number (length (x ∷ xs)) 0 (λ q. omega (arith, q)) in
    absurd (false≢true (sym e ∙ ap not k))

module _ (v : View) (h : Past) (l : IsLayer v h) (f : Faces) (s : IsSound v f) where
  abbrev located : Point → Cell
  located p = holds (subdivision (skeleton (graph (layer_of v h).present))) p

  at_some_vertex : (p : Point) (w : VertexId) → HasVertex v w → point_in v w ≡ p → (n : ℕ) → located p ≢ cell.Face n
  at_some_vertex p w has e n q =
      let k : cell.Vertex p ≡ cell.Face n = at_vertex v h l p w has e ∙ q in
      absurd (cc)

  on_some_edge : (p : Point) (d : DartId) → IsProper p → IsForward v d → inside (edge_in v d) p ≡ true → (n : ℕ) → located p ≢ cell.Face n
  on_some_edge p d P F i n q =
      let k : cell.Edge (point_in v (source_in v d)) (point_in v (target_in v d)) ≡ cell.Face n = on_edge v h l p d P F i ∙ q in
      absurd (cc)

  met_there : (p : Point) (at : Spot) → IsProper p → IsSpotOf v f p at → is_met at ≡ true → (n : ℕ) → located p ≢ cell.Face n
  met_there p (spot.Vertex w) P t e = at_some_vertex p w t.met.0 t.met.1
  met_there p (spot.Edge d) P t e = on_some_edge p d P (t.met.0, t.met.1) t.met.2
  met_there p (spot.Face a) P t e = absurd (false≢true e)

  module _ (g : Segment) (E : AreEnds g) (z : ZonePlan) (zone : IsZoneOf v f g z) where
    c : IsCourse g
    c = course g E

    -- a point of the segment that lies in no face
    pub record IsMetPoint (p : Point) : Type 0 where
      pub proper : IsProper p
      pub on : is_on_segment g p ≡ true
      pub met : (n : ℕ) → located p ≢ cell.Face n

    at_lying : (p : Point) → IsProper p → LiesOn g p → ((n : ℕ) → located p ≢ cell.Face n) → IsMetPoint p
    at_lying p P L m = record { proper = P; on = lies_in g p L; met = m }

    -- ---- something is met
    by_meeting : (m : Meeting) → Member m z.vertices → is_met m.spot ≡ true → IsMetPoint m.point
    by_meeting m i e =
        let p = m.point in
        let a : MeetsAt v g p = told v l.sound g c p (from_member (meeting_points v g) p (subst (Member p) zone.points (in_map (λ (k : Meeting). k.point) m z.vertices i))) in
        let P : IsProper p = meets_proper v l.sound g c p a in
        at_lying p P (meets_lies v l.sound g c p a) (met_there p m.spot P (zone.spots m (from_member z.vertices m i)) e)

    at_source : (d : DartId) → IsOverlapped v g d → Le g.lower (point_in v (source_in v d)) → IsMetPoint (point_in v (source_in v d))
    at_source d o from =
        let p = point_in v (source_in v d) in
        let has = l.sound.linked.source d o.forward.0 in
        at_lying p (l.sound.drawn.proper (source_in v d) has)
        (record { on = subst (λ (n : Line). IsOn n p) o.line (l.sound.drawn.starts d o.forward.0); from = from; upto = le_lt (lt_out p g.upper o.begins) })
        (at_some_vertex p (source_in v d) has refl)

    at_lower : (d : DartId) → IsOverlapped v g d → Lt (point_in v (source_in v d)) g.lower → IsMetPoint g.lower
    at_lower d o k =
        at_lying g.lower c.lower (lower_lies g c)
        (on_some_edge g.lower d c.lower o.forward
        (in_dart v l.sound d g.lower o.forward c.lower (record {
          on = subst (λ (n : Line). IsOn n g.lower) (sym o.line) c.lower_on;
          after = k;
          before = lt_out g.lower (point_in v (target_in v d)) o.ends;
        })))

    by_edge : (d : DartId) → IsOverlapped v g d → (p : Point) × IsMetPoint p
    by_edge d o = by (tri (point_in v (source_in v d)) g.lower)
      where
        by : Tri (point_in v (source_in v d)) g.lower → (p : Point) × IsMetPoint p
        by (less k) = (g.lower, at_lower d o k)
        by (same e) = (point_in v (source_in v d), at_source d o (subst (Le g.lower) (sym e) (le_same g.lower)))
        by (more k) = (point_in v (source_in v d), at_source d o (le_lt k))

    abbrev meets_any : Bool
    meets_any = not (length z.overlapped == 0) || list_any (λ (m : Meeting). is_met m.spot) z.vertices

    pub some_met : meets_any ≡ true → (p : Point) × IsMetPoint p
    some_met e =
        ⊎_elim
        (λ o. let d = first_one z.overlapped o in by_edge d.0 (zone.overlapped d.0 (from_member z.overlapped d.0 d.1)))
        (λ a. let m = any_out (λ (m : Meeting). is_met m.spot) z.vertices a in (m.0.point, by_meeting m.0 m.1 m.2))
        (or_out (not (length z.overlapped == 0)) (list_any (λ (m : Meeting). is_met m.spot) z.vertices) e)

    -- ---- nothing is met
    module _ (none : meets_any ≡ false) where
      both : (not (length z.overlapped == 0) ≡ false) × (list_any (λ (m : Meeting). is_met m.spot) z.vertices ≡ false)
      both = neither (not (length z.overlapped == 0)) (list_any (λ (m : Meeting). is_met m.spot) z.vertices) none

      face_at : (x : Point) (at : Spot) → IsSpotOf v f x at → is_met at ≡ false → (a : FaceId) × IsSpotOf v f x (spot.Face a)
      face_at x (spot.Face a) t e = (a, t)
      face_at x (spot.Vertex w) t e = absurd (false≢true (sym e))
      face_at x (spot.Edge d) t e = absurd (false≢true (sym e))

      at_meeting : (x : Point) → Member x (meeting_points v g) → (a : FaceId) × IsSpotOf v f x (spot.Face a)
      at_meeting x i =
          let w = of_map (λ (m : Meeting). m.point) x z.vertices (subst (Member x) (sym zone.points) i) in
          let m : Meeting = w.0 in
          face_at x m.spot (subst (λ (y : Point). IsSpotOf v f y m.spot) (sym w.2) (zone.spots m (from_member z.vertices m w.1)))
          (not_true (is_met m.spot) (λ e. any_none (λ (k : Meeting). is_met k.spot) m z.vertices both.1 w.1 e))

      in_part : (x : Point) → is_on_segment g x ≡ true → (at : Spot) → Member at z.between → IsSpotOf v f x at → (a : FaceId) × IsSpotOf v f x (spot.Face a)
      in_part x on (spot.Face a) m t = (a, t)
      in_part x on (spot.Edge d) m t = absurd (none_there z.overlapped both.0 d (subst (Member d) (sym zone.listed) (in_darts d z.between m)))
      in_part x on (spot.Vertex w) m t = at_meeting x (to_member (meeting_points v g) x (listed v l.sound g c x (vertex w t.met.0 (sym t.met.1) on)))

      pub none_met : (x : Point) → IsProper x → is_on_segment g x ≡ true → (n : ℕ) × (located x ≡ cell.Face n)
      none_met x P on =
          let w = ⊎_elim (λ i. at_meeting x i) (λ k. in_part x on k.at k.there k.lies) (placed v f g x P on z.between zone.between) in
          (rank_in v f w.0, sym (in_face v h l f s x w.0 (rank_in v f w.0) P w.1.met w.1.face refl))
