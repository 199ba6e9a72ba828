-- Names of what is drawn before and after steps that all grow, or all shrink.
use Rattle.std.proofs.Common.{sym, ap, ◌∙◌, subst, inl, inr}
use Rattle.std.specs.List.{Contains}
use Rattle.exact_plane.specs.Point.{Point}
use Rattle.plane_graphs.specs.Ascending.{Member}
use Rattle.plane_graphs.specs.Graph.{Edge, edges}
use Rattle.plane_graphs.proofs.Ascending.{from_member}
use Rattle.slab_laws.specs.Sound.{edge_in, skeleton_of, IsGraphSound}
use Rattle.slab_laws.specs.View.{View, HasVertex, point_in}
use Rattle.sound_changes.proofs.KnownNames.{known_point}
use Rattle.arr_notes.specs.Curves.{Curves, AreCurvesOf}
use Rattle.arr_notes.specs.RecordGraph.{drawn_graph}
use Rattle.sound_views.proofs.GraphDrawn.{graphs_are_drawn}
use Rattle.told_steps.specs.LayerSteps.{NamesStay, GrownNamesStay, ShrunkNamesStay}
use Rattle.told_steps.proofs.Runs.{made_is_run}
use Rattle.told_steps.proofs.Stays.{not_divided, way_dart}
use Rattle.told_steps.proofs.Grown.{IsGrown, all_grown}
use Rattle.told_steps.proofs.Shrunk.{IsShrunk, all_shrunk}

module _ (v w : View) (h k : Curves) (s : IsGraphSound w) (a : AreCurvesOf w k) where
  edge_there : (e : Edge) → Member e (edges (drawn_graph w k)) → Contains (skeleton_of w).edges e
  edge_there e m = from_member (skeleton_of w).edges e (subst (Member e) (ap (λ g. g.edges) (graphs_are_drawn w k s a)) m)

  point_there : (p : Point) → Member p (drawn_graph w k).points → Contains (skeleton_of w).vertices p
  point_there p m = from_member (skeleton_of w).vertices p (subst (Member p) (ap (λ g. g.vertices) (graphs_are_drawn w k s a)) m)

  grown_stay : IsGrown v w → NamesStay v w h k
  grown_stay x = record {
    vertex = λ u o m. let y = x.vertex u o in (y.has, y.point);
    dart = λ d o m. elim (x.dart d o) [ inl y ↦ (y.after, way_dart v w d y) | inr y ↦ absurd (not_divided w (edge_in v d) s (edge_there (edge_in v d) m) y) ];
  }

  -- the vertex of the new view at a point of the old one has the old one's name
  shrunk_stay : IsGraphSound v → IsShrunk v w → NamesStay v w h k
  shrunk_stay before x = record {
    vertex = λ u o m.
        let y = known_point w s.named (point_in v u) (point_there (point_in v u) m) in
        let z = x.vertex y.0 y.1 in
        let same = before.drawn.points y.0 u z.has o (z.point ∙ sym y.2) in
        (subst (HasVertex w) same y.1, sym (ap (point_in w) same) ∙ sym y.2);
    dart = λ d o m. elim (x.dart d o) [ inl y ↦ (y.after, way_dart v w d y) | inr y ↦ absurd (y (edge_there (edge_in v d) m)) ];
  }

pub grown_names_stay : GrownNamesStay
grown_names_stay v h ss w k s a m g =
    let r = made_is_run v h ss w k s a m in
    grown_stay v w h k r.sound r.curves (all_grown v h ss w k s a m g)

pub shrunk_names_stay : ShrunkNamesStay
shrunk_names_stay v h ss w k s a m g =
    let r = made_is_run v h ss w k s a m in
    shrunk_stay v w h k r.sound r.curves s (all_shrunk v h ss w k s a m g)
