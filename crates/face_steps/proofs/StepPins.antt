-- A pin, or a curve more or fewer: the view draws the same, and the tables stand as they are.
use Rattle.std.proofs.Common.{◌≡◌, ◌↔◌, refl, sym, ap, ap₂, ◌∙◌, subst}
use Rattle.std.specs.List.{Contains}
use Rattle.exact_plane.specs.PointOrder.{point_cmp}
use Rattle.exact_plane.specs.PointOrderLaws.{point_cmp_total}
use Rattle.plane_graphs.specs.Graph.{edge_cmp}
use Rattle.plane_graphs.proofs.Ascending.{to_member, from_member, ascending_unique}
use Rattle.plane_graphs.proofs.Meaning.{edge_cmp_total}
use Rattle.slab_laws.specs.declared.names.DartId.{DartId}
use Rattle.slab_laws.specs.declared.names.VertexId.{VertexId}
use Rattle.slab_laws.specs.declared.slab_cell.SlabCell.{SlabCell}
use Rattle.slab_laws.specs.Cycles.{left_of_dart}
use Rattle.slab_laws.specs.Darts.{Dart}
use Rattle.slab_laws.specs.FacesSound.{lead_in}
use Rattle.slab_laws.specs.Meets.{SameFace}
use Rattle.slab_laws.specs.Rows.{least_dart_of}
use Rattle.slab_laws.specs.Slabs.{left_cell}
use Rattle.slab_laws.specs.Sound.{skeleton_of, dart_in}
use Rattle.slab_laws.specs.View.{View, Faces, HasDart, point_in, source_in, twin_in, target_in}
use Rattle.sound_views.proofs.NamedDarts.{by_points}
use Rattle.rotation_order.specs.VertexRings.{IsBare}
use Rattle.sound_changes.proofs.KnownNames.{point_known, known_point, edge_known, known_edge, points_ascend, edges_ascend}
use Rattle.face_changes.specs.FacesByPairs.{Item, outside, beside, round, HasItem, cell_at}
use Rattle.face_changes.specs.Kinds.{is_outer}
use Rattle.face_steps.specs.SameGraph.{IsSameGraph}
use Rattle.face_steps.specs.Tabled.{AreTabled}
use Rattle.face_steps.proofs.Alike.{kind_at, cycled_by}

module _ (v w : View) (m : IsSameGraph v w) where
  up : (k : DartId) → HasDart v k → HasDart w k
  up k o = (m.darts k).has o

  down : (k : DartId) → HasDart w k → HasDart v k
  down k o = (m.darts k).had o

  drawn : (k : DartId) → dart_in w k ≡ dart_in v k
  drawn k =
      ap₂ by_points (ap (point_in w) (m.darts k).source ∙ m.points (source_in v k))
      (ap (λ e. point_in w (source_in w e)) (m.darts k).twin ∙ ap (point_in w) (m.darts (twin_in v k)).source ∙ m.points (target_in v k))

  same_points : (skeleton_of w).vertices ≡ (skeleton_of v).vertices
  same_points =
      ascending_unique point_cmp point_cmp_total (skeleton_of w).vertices (skeleton_of v).vertices (points_ascend w) (points_ascend v)
      (λ q k. let r = known_point w m.sound_more.named q (from_member _ q k) in to_member _ q (subst (Contains (skeleton_of v).vertices) (sym (r.2 ∙ m.points r.0)) (point_known v m.sound.named r.0 ((m.vertices r.0).1 r.1))))
      (λ q k. let r = known_point v m.sound.named q (from_member _ q k) in to_member _ q (subst (Contains (skeleton_of w).vertices) (sym (r.2 ∙ sym (m.points r.0))) (point_known w m.sound_more.named r.0 ((m.vertices r.0).0 r.1))))

  same_edges : (skeleton_of w).edges ≡ (skeleton_of v).edges
  same_edges =
      ascending_unique edge_cmp edge_cmp_total (skeleton_of w).edges (skeleton_of v).edges (edges_ascend w) (edges_ascend v)
      (λ e k. let r = known_edge w e (from_member _ e k) in to_member _ e (subst (Contains (skeleton_of v).edges) (sym (r.2 ∙ ap (λ (z : Dart). z.edge) (drawn r.0))) (edge_known v r.0 (down r.0 r.1))))
      (λ e k. let r = known_edge v e (from_member _ e k) in to_member _ e (subst (Contains (skeleton_of w).edges) (sym (r.2 ∙ sym (ap (λ (z : Dart). z.edge) (drawn r.0)))) (edge_known w r.0 (up r.0 r.1))))

  same_graph : skeleton_of w ≡ skeleton_of v
  same_graph = λ i. record { vertices = same_points i; edges = same_edges i }

  lead_same : (k : DartId) → lead_in w k ≡ lead_in v k
  lead_same k = ap₂ least_dart_of same_graph (drawn k)

  outer_same : (k : DartId) → is_outer (skeleton_of w) (dart_in w k) ≡ is_outer (skeleton_of v) (dart_in v k)
  outer_same k = ap₂ is_outer same_graph (drawn k)

  cell_same : (i : Item) → cell_at w i ≡ cell_at v i
  cell_same outside = refl
  cell_same (beside k) = ap₂ left_of_dart same_graph (drawn k)
  cell_same (round u) = ap₂ left_cell same_graph (m.points u)

  bare_up : (u : VertexId) → IsBare v u → IsBare w u
  bare_up u none k o = none k (down k o.0, sym (m.darts k).source ∙ o.1)

  bare_down : (u : VertexId) → IsBare w u → IsBare v u
  bare_down u none k o = none k (up k o.0, (m.darts k).source ∙ o.1)

  item_down : (i : Item) → HasItem w i → HasItem v i
  item_down outside h = tt
  item_down (beside k) h = down k h
  item_down (round u) h = ((m.vertices u).1 h.0, bare_down u h.1)

  item_up : (i : Item) → HasItem v i → HasItem w i
  item_up outside h = tt
  item_up (beside k) h = up k h
  item_up (round u) h = ((m.vertices u).0 h.0, bare_up u h.1)

  face_same : (c d c' d' : SlabCell) → c' ≡ c → d' ≡ d → SameFace (skeleton_of w) c' d' ↔ SameFace (skeleton_of v) c d
  face_same c d c' d' a b = (
    λ k. subst (λ g. SameFace g c d) same_graph (subst (λ z. SameFace (skeleton_of w) z d) a (subst (λ z. SameFace (skeleton_of w) c' z) b k)),
    λ k. subst (λ z. SameFace (skeleton_of w) z d') (sym a) (subst (λ z. SameFace (skeleton_of w) c z) (sym b) (subst (λ g. SameFace g c d) (sym same_graph) k)),
  )

  pub same_tables : (f : Faces) → AreTabled v f → AreTabled w f
  same_tables f h = record {
    complete = record {
      cycles_ascend = h.complete.cycles_ascend;
      faces_ascend = h.complete.faces_ascend;
      cycle_of_ascend = h.complete.cycle_of_ascend;
      bare_ascend = h.complete.bare_ascend;
      cycle_rows = λ k. (λ o. (h.complete.cycle_rows k).0 (down k o), λ o. up k ((h.complete.cycle_rows k).1 o));
      cycle_has = λ k o. h.complete.cycle_has k (down k o);
      dart_has = λ c o. let d = h.complete.dart_has c o in (d.0, up d.0 d.1, d.2);
      face_has = h.complete.face_has;
      bare = λ u o. let r = h.complete.bare u ((m.vertices u).1 o) in (λ k. bare_up u (r.0 k), λ k. r.1 (bare_down u k));
      bare_vertex = λ u o. (m.vertices u).0 (h.complete.bare_vertex u o);
      bare_has = h.complete.bare_has;
    };
    cycled = cycled_by w f m.sound_more
        (λ d e o o'. let r = h.cycled.orbits d e (down d o) (down e o') in (λ q. lead_same d ∙ r.0 q ∙ sym (lead_same e), λ q. r.1 (sym (lead_same d) ∙ q ∙ lead_same e)))
        (λ k o. let r = kind_at v f k m.sound h.cycled (down k o) in (λ q. outer_same k ∙ r.0 q, λ q. r.1 (sym (outer_same k) ∙ q)));
    told = record {
      there = h.told.there;
      same = λ i j hi hj.
          let r = h.told.same i j (item_down i hi) (item_down j hj) in
          let k = face_same (cell_at v i) (cell_at v j) (cell_at w i) (cell_at w j) (cell_same i) (cell_same j) in
          (λ q. k.1 (r.0 q), λ q. r.1 (k.0 q));
      all = λ a o. let i = h.told.all a o in (i.0, item_up i.0 i.1, i.2);
    };
  }
