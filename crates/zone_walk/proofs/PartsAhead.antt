-- What follows a meeting point on the segment: an edge, or the face that what lies at the point tells.
use Rattle.std.proofs.Common.{◌≡◌, ◌≢◌, Bool, true, false, not, pos, ◌<ℤ◌, Some, None, refl, sym, ap, ◌∙◌, subst}
use Rattle.integers.proofs.Compare.{equal_in}
use Rattle.integers.proofs.Tests.{lt_is}
use Rattle.exact_plane.specs.Direction.{direction_of}
use Rattle.exact_plane.specs.Line.{Line, side_of, IsOn}
use Rattle.exact_plane.specs.Point.{Point}
use Rattle.exact_plane.specs.Segment.{Segment, line_of_segment}
use Rattle.exact_plane.specs.Sign.{sign_by, sign_of}
use Rattle.exact_plane.specs.declared.sides.Sign.{Sign}
use Rattle.exact_plane.specs.declared.sides.Sign.TheVariants.{Minus, Zero, Plus}
use Rattle.plane_graphs.specs.Graph.{Edge}
use Rattle.plane_graphs.specs.Line.{IsProper, precedes}
use Rattle.plane_graphs.proofs.Order.{Lt, lt_in, lt_never}
use Rattle.edge_predicates.proofs.Sides.{above_zero, below_zero, at_zero}
use Rattle.slab_laws.specs.declared.names.DartId.{DartId}
use Rattle.slab_laws.specs.declared.names.FaceId.{FaceId}
use Rattle.slab_laws.specs.declared.names.VertexId.{VertexId}
use Rattle.slab_laws.specs.Darts.{Dart}
use Rattle.slab_laws.specs.Skeleton.{inside, side}
use Rattle.slab_laws.specs.Sound.{edge_in, dart_in, IsGraphSound}
use Rattle.slab_laws.specs.View.{View, Faces, HasVertex, HasDart, point_in, twin_in, line_in, cycle_in, face_in, bare_face_in}
use Rattle.arr_notes.specs.Curves.{IsForward}
use Rattle.sound_views.proofs.NamedDarts.{twin_dart}
use Rattle.rotation_order.specs.Directions.{dart_direction}
use Rattle.rotation_order.specs.Place.{IsPlaceOf, IsAlongDart, IsBetween}
use Rattle.rotation_order.specs.VertexRings.{IsBare}
use Rattle.rotation_order.specs.declared.places.Place.{Place}
use Rattle.rotation_order.specs.declared.places.Place.TheVariants.{Between, Bare}
use Rattle.edge_link.proofs.DirectionPlaces.{place_to_point}
use Rattle.locate_naive.proofs.Within.{dart_in_out}
use Rattle.zone_walk.specs.Parts.{TellsFace, IsOnSide}
use Rattle.zone_walk.specs.Parts.TellsFace.{at_vertex, in_edge, in_face}
use Rattle.face_steps.specs.VertexSteps.{IsFaceRound}
use Rattle.dcel_records.specs.Spots.{IsInFace}
use Rattle.zone_walk.specs.Searches.{IsBehind}
use Rattle.zone_walk.specs.Walk.{IsAhead}
use Rattle.zone_walk.proofs.Aheads.{ahead_along, along_ahead, ahead_inside, none_inside, none_in_face}
use Rattle.zone_walk.proofs.Behind.{crossed}
use Rattle.zone_walk.proofs.Courses.{IsCourse, LiesOn, one_by_two}
use Rattle.zone_walk.proofs.LineSides.{side_of_line}

module _ (v : View) (f : Faces) (s : IsGraphSound v) (g : Segment) (c : IsCourse g) where
  abbrev line : Line
  line = line_of_segment g

  module _ (p : Point) (proper : IsProper p) (on : LiesOn g p) (before : Lt p g.upper) where
    -- ---- inside an edge
    module _ (d : DartId) (F : IsForward v d) (inner : inside (edge_in v d) p ≡ true) (r : Sign) (told : r ≡ sign_of (side_of (line_in v d) g.upper)) where
      has : HasDart v d
      has = F.0

      edge_told : sign_of (side (edge_in v d) g.upper) ≡ r
      edge_told = ap sign_by (side_of_line v s d has g.upper) ∙ sym told

      on_line_zero : IsOn (line_in v d) g.upper → r ≡ Zero
      on_line_zero h = told ∙ ap sign_by (equal_in (side_of (line_in v d) g.upper) (pos 0) h)

      other_line : r ≢ Zero → line_in v d ≢ line
      other_line n e = n (on_line_zero (subst (λ (l : Line). IsOn l g.upper) (sym e) c.upper_on))

      pub off_line : r ≢ Zero → (e : DartId) → IsAhead v line p e → ⊥
      off_line n = none_inside v s line p proper on.on d F inner (other_line n)

      -- both darts of the edge are left behind
      pub left_behind : r ≢ Zero → IsBehind v g p (Some d)
      left_behind n = crossed v s g c p proper on d has (dart_in_out v s d p F proper inner).on (other_line n)

      pub twin_behind : r ≢ Zero → (t : DartId) → t ≡ twin_in v d → IsBehind v g p (Some t)
      twin_behind n t e =
          let one : line_in v t ≡ line_in v d = ap (line_in v) e ∙ s.twinned.line d has in
          crossed v s g c p proper on t (subst (HasDart v) (sym e) (s.twinned.has d has)) (subst (λ (l : Line). IsOn l p) (sym one) (dart_in_out v s d p F proper inner).on) (λ q. other_line n (sym one ∙ q))

      pub on_left : r ≡ Plus → TellsFace v f p g.upper (face_in f (cycle_in f d))
      on_left e = in_edge d has inner (subst (λ (b : Bool). IsOnSide (edge_in v d) b g.upper) (sym F.1) (lt_is (pos 0) (side (edge_in v d) g.upper) (above_zero (side (edge_in v d) g.upper) (edge_told ∙ e))))

      pub on_right : r ≡ Minus → TellsFace v f p g.upper (face_in f (cycle_in f (twin_in v d)))
      on_right e =
          let t = twin_dart v s d has in
          let edge : edge_in v (twin_in v d) ≡ edge_in v d = ap (λ (x : Dart). x.edge) t in
          let back : (dart_in v (twin_in v d)).forward ≡ false = ap (λ (x : Dart). x.forward) t ∙ ap not F.1 in
          in_edge (twin_in v d) (s.twinned.has d has) (ap (λ (z : Edge). inside z p) edge ∙ inner)
          (subst (λ (b : Bool). IsOnSide (edge_in v (twin_in v d)) b g.upper) (sym back)
          (subst (λ (z : Edge). side z g.upper <ℤ pos 0) (sym edge) (lt_is (side (edge_in v d) g.upper) (pos 0) (below_zero (side (edge_in v d) g.upper) (edge_told ∙ e)))))

      pub goes_along : r ≡ Zero → IsAhead v line p d
      goes_along e =
          let o : IsOn (line_in v d) g.upper = at_zero (side_of (line_in v d) g.upper) (sym told ∙ e) in
          ahead_inside v s line p proper on.on d F inner
          (one_by_two (line_in v d) line p g.upper (s.drawn.line d has) c.line proper c.upper before (dart_in_out v s d p F proper inner).on on.on o c.upper_on)

    -- ---- in a face
    pub nothing_there : IsInFace v p → (e : DartId) → IsAhead v line p e → ⊥
    nothing_there h = none_in_face v s line p proper on.on h.no_vertex h.no_edge

    pub face_there : (a : FaceId) → IsInFace v p → IsFaceRound v f a p → TellsFace v f p g.upper a
    face_there a h r = in_face a h r

  -- ---- at a vertex
  module _ (w : VertexId) (has : HasVertex v w) (on : LiesOn g (point_in v w)) (before : Lt (point_in v w) g.upper) where
    pub leaves_along : (d : DartId) → IsAlongDart v w (direction_of line) d → IsAhead v line (point_in v w) d
    leaves_along d h = ahead_along v s line c.line w has on.on d h

    pub none_between : (a b : DartId) → IsBetween v w (direction_of line) a b → (d : DartId) → IsAhead v line (point_in v w) d → ⊥
    none_between a b h d k = let r = along_ahead v s line c.line w has on.on d k in h.free d r.out r.way

    pub none_bare : IsBare v w → (d : DartId) → IsAhead v line (point_in v w) d → ⊥
    none_bare h d k = h d (along_ahead v s line c.line w has on.on d k).out

    placed : (k : Place) → IsPlaceOf v w (direction_of line) k → IsPlaceOf v w (dart_direction line (precedes (point_in v w) g.upper)) k
    placed k h = subst (λ (b : Bool). IsPlaceOf v w (dart_direction line b) k) (sym (lt_in before)) h

    apart : point_in v w ≢ g.upper
    apart e = lt_never (subst (Lt (point_in v w)) (sym e) before)

    pub at_place : (a b : DartId) → IsBetween v w (direction_of line) a b → TellsFace v f (point_in v w) g.upper (face_in f (cycle_in f (twin_in v a)))
    at_place a b h = at_vertex w (Some a) has refl (place_to_point v s w g.upper line has c.upper apart c.line on.on c.upper_on (Between a b) (placed (Between a b) h))

    pub at_bare : IsBare v w → TellsFace v f (point_in v w) g.upper (bare_face_in f w)
    at_bare h = at_vertex w None has refl (place_to_point v s w g.upper line has c.upper apart c.line on.on c.upper_on Bare (placed Bare h))
