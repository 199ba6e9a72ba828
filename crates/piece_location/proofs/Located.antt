-- Where a point lies at which no vertex is, by the pieces below it.
use Rattle.std.proofs.Common.{◌≡◌, ◌≢◌, true, false, not, ◌&&◌, arith, sym, ap, subst}
use Rattle.std.specs.Prelude.{Option, Some, None, pos}
use lib.Signed.{lt_z}
use Rattle.std.proofs.lemmas.Int.{ints}
use Rattle.integers.proofs.Tests.{not_true, zero_above, zero_below}
use Rattle.exact_plane.specs.Plane.{RunsForward}
use Rattle.exact_plane.specs.Point.{Point}
use Rattle.exact_plane.specs.PointOrderLaws.{and_true}
use Rattle.plane_graphs.specs.Ascending.{Member}
use Rattle.plane_graphs.specs.Graph.{Edge}
use Rattle.plane_graphs.specs.Line.{IsProper}
use Rattle.plane_graphs.specs.Piece.{Piece, Present}
use Rattle.plane_graphs.proofs.Lines.{segment_runs}
use Rattle.plane_graphs.proofs.Lists.{and_in, not_out}
use Rattle.plane_graphs.proofs.Vertices.{proper_piece}
use Rattle.slab_laws.specs.declared.names.DartId.{DartId}
use Rattle.slab_laws.specs.declared.names.VertexId.{VertexId}
use Rattle.slab_laws.specs.Skeleton.{HasWeight, inside, precedes, side, under}
use Rattle.slab_laws.specs.Sound.{edge_in, skeleton_of}
use Rattle.slab_laws.specs.View.{View, HasDart, HasVertex, point_in}
use Rattle.slab_faces.proofs.Points.{before_trans}
use Rattle.arr_notes.specs.Curves.{Curves}
use Rattle.sound_views.proofs.NamedDarts.{edge_known}
use Rattle.sound_changes.proofs.KnownNames.{known_edge}
use Rattle.dcel_records.specs.declared.spot.Met.TheVariants.{Edge as InEdge}
use Rattle.dcel_records.specs.Spots.{IsInFace, IsMet}
use Rattle.edge_predicates.specs.Highest.{IsSpanning}
use Rattle.edge_predicates.specs.Levels.{IsSeen}
use Rattle.edge_predicates.proofs.Levels.{levels_tell_highest}
use Rattle.face_location.specs.Below.{IsHighestDart}
use Rattle.piece_location.specs.Drawn.{IsAlongPiece, IsDrawnFrom}
use Rattle.piece_location.specs.Found.{IsAlongHighest, IsOffPieces}
use Rattle.piece_location.specs.Heights.{line_of, IsOnLine, IsPieceSeen, IsPieceThrough}
use Rattle.piece_location.proofs.DrawnPieces.{along_spans, edge_has_piece, edge_on_line}
use Rattle.piece_location.proofs.OnLines.{not_higher, over_edge, over_line, zero_on_edge, zero_on_line}

-- an edge with the point between its ends, and on its line, has it inside
inside_in : (e : Edge) (q : Point) → IsSpanning e q → side e q ≡ pos 0 → inside e q ≡ true
inside_in e q s z = and_in (and_in s.from s.to) (and_in (ap not (zero_below (side e q) z)) (ap not (zero_above (side e q) z)))

record IsInside (e : Edge) (q : Point) : Type 0 where
  spanning : IsSpanning e q
  on_line : side e q ≡ pos 0

inside_out : (e : Edge) (q : Point) → inside e q ≡ true → IsInside e q
inside_out e q h =
    let a = and_true (precedes e.low q && precedes q e.high) _ h in
    let b = and_true (precedes e.low q) (precedes q e.high) a.0 in
    let c = and_true (not (lt_z (side e q) (pos 0))) (not (lt_z (pos 0) (side e q))) a.1 in
    let low : lt_z (side e q) (pos 0) ≡ false = not_out (lt_z (side e q) (pos 0)) c.0 in
    let high : lt_z (pos 0) (side e q) ≡ false = not_out (lt_z (pos 0) (side e q)) c.1 in
    record { spanning = record { from = b.0; to = b.1 }; on_line = omega (arith, ints) }

module _ (v : View) (h : Curves) (p : Present) (drawn : IsDrawnFrom v h p) (q : Point) (Q : IsProper q) where
  runs : (k : Piece) → Member k p.pieces → RunsForward (line_of k).a (line_of k).b
  runs k here = segment_runs k (proper_piece k (drawn.fit.piece k here))

  weights : (d : DartId) → HasDart v d → HasWeight (edge_in v d).low × HasWeight (edge_in v d).high
  weights d has = drawn.sound.plane.proper_edge (edge_in v d) (edge_known v d has)

  goes : (d : DartId) → HasDart v d → IsSpanning (edge_in v d) q → precedes (edge_in v d).low (edge_in v d).high ≡ true
  goes d has s = let w = weights d has in before_trans (edge_in v d).low q (edge_in v d).high w.0 Q.positive w.1 s.from s.to

  -- the edge of a piece through the point has it inside
  pub through_edge : (k : Piece) → Member k p.pieces → IsPieceThrough q k → (d : DartId) → IsAlongPiece v h k q d → IsMet v q (InEdge d)
  through_edge k here t d a =
      let s = along_spans v h p drawn q Q k d a in
      let on = edge_on_line v h p drawn k here d a.forward a.runs in
      (a.forward.0, a.forward.1, inside_in (edge_in v d) q s (zero_on_edge (line_of k) (edge_in v d) on q (runs k here) t.on_line))

  -- where no piece goes through the point, no edge has it inside
  pub no_edge : IsOffPieces p q → (d : DartId) → HasDart v d → inside (edge_in v d) q ≡ false
  no_edge off d has =
      not_true (inside (edge_in v d) q) (λ i.
      let w = inside_out (edge_in v d) q i in
      let k = edge_has_piece v h p drawn q Q d has w.spanning in
      off k.0 k.1.here (record { spanning = k.1.spanning; on_line = zero_on_line (line_of k.0) (edge_in v d) k.1.on_line q (goes d has w.spanning) w.on_line }))

  -- what the point sees of an edge, it sees of the edge's piece, and the other way round
  pub record HasSeenPiece (e : Edge) (k : Piece) : Type 0 where
    pub here : Member k p.pieces
    pub seen : IsPieceSeen q k
    pub on_line : IsOnLine (line_of k) e

  seen_piece : (d : DartId) → HasDart v d → IsSpanning (edge_in v d) q → under (edge_in v d) q ≡ true → (k : Piece) × HasSeenPiece (edge_in v d) k
  seen_piece d has s u =
      let k = edge_has_piece v h p drawn q Q d has s in
      let w = weights d has in
      (k.0, record { here = k.1.here; on_line = k.1.on_line; seen = record { spanning = k.1.spanning; over_line = over_line (line_of k.0) (edge_in v d) k.1.on_line q (runs k.0 k.1.here) w.0 w.1 Q.positive s (goes d has s) u } })

  edge_seen : (k : Piece) → Member k p.pieces → IsPieceSeen q k → (d : DartId) → IsAlongPiece v h k q d → IsSeen (skeleton_of v) q (edge_in v d)
  edge_seen k here t d a =
      let s = along_spans v h p drawn q Q k d a in
      let w = weights d a.forward.0 in
      record { in' = edge_known v d a.forward.0; spanning = s; lies_under = over_edge (line_of k) (edge_in v d) (edge_on_line v h p drawn k here d a.forward a.runs) q (runs k here) w.0 w.1 Q.positive s (goes d a.forward.0 s) t.over_line }

  any_seen : (e : Edge) → IsSeen (skeleton_of v) q e → (k : Piece) × HasSeenPiece e k
  any_seen e s =
      let d = known_edge v e s.in' in
      let w = seen_piece d.0 d.1 (subst (λ (x : Edge). IsSpanning x q) d.2 s.spanning) (subst (λ (x : Edge). under x q ≡ true) d.2 s.lies_under) in
      (w.0, subst (λ (x : Edge). HasSeenPiece x w.0) (sym d.2) w.1)

  -- the dart along the highest piece goes along the highest edge
  pub highest_dart : (o : Option DartId) → IsAlongHighest v h p q o → IsHighestDart v q o
  highest_dart None none = record {
    seen = tt;
    highest = levels_tell_highest.highest (skeleton_of v) q None drawn.sound.plane Q.positive tt (λ f s. let w = any_seen f s in absurd (none w.0 w.1.here w.1.seen));
  }
  highest_dart (Some d) (k, top, a) =
      let s = edge_seen k top.here top.seen d a in
      record {
        seen = (a.forward, s);
        highest = levels_tell_highest.highest (skeleton_of v) q (Some (edge_in v d)) drawn.sound.plane Q.positive s (λ f t.
            let w = any_seen f t in
            let l = not_higher (skeleton_of v) q drawn.sound.plane Q.positive (line_of w.0) (line_of k) f (edge_in v d) (runs w.0 w.1.here) (runs k top.here) w.1.on_line (edge_on_line v h p drawn k top.here d a.forward a.runs) t s (top.highest w.0 w.1.here w.1.seen) in
            omega arith);
      }

  pub in_face : ((w : VertexId) → HasVertex v w → point_in v w ≢ q) → IsOffPieces p q → IsInFace v q
  in_face free off = record { no_vertex = free; no_edge = no_edge off }
