-- The curves of an edge in the graph of records are those of its forward dart.
use Rattle.std.proofs.Common.{◌≡◌, ℕ, refl, sym, ap₂, ◌∙◌, subst, List, map, nat_cmp}
use Rattle.std.specs.List.{filter}
use Rattle.std.proofs.lemmas.Cmp.{nat_cmp_total}
use Rattle.exact_plane.specs.Point.{Point}
use Rattle.exact_plane.specs.PointOrderLaws.{and_true}
use Rattle.plane_graphs.specs.Ascending.{Member}
use Rattle.plane_graphs.specs.Graph.{Mark, mark, is_at, curves}
use Rattle.plane_graphs.specs.Line.{same_point}
use Rattle.plane_graphs.proofs.Ascending.{ascending_unique}
use Rattle.plane_graphs.proofs.Lists.{and_in, in_map, of_map, in_filter, of_filter, in_ascending, of_ascending}
use Rattle.plane_graphs.proofs.Meaning.{curves_ascend}
use Rattle.plane_graphs.proofs.Order.{same_out, same_itself}
use Rattle.slab_laws.specs.declared.names.DartId.{DartId}
use Rattle.slab_laws.specs.Sound.{IsGraphSound}
use Rattle.slab_laws.specs.View.{View, point_in, source_in, target_in}
use Rattle.sound_views.proofs.NamedDarts.{by_points}
use Rattle.arr_notes.specs.Curves.{Curves, IsForward}
use Rattle.arr_notes.specs.RecordGraph.{drawn_graph}
use Rattle.sound_views.specs.RecordGraphLaws.{IsMarkOf, CurvesOfDarts}
use Rattle.sound_views.proofs.GraphHolds.{graphs_hold}
use Rattle.integers.proofs.Tests.{nat_exact}

module _ (v : View) (h : Curves) (s : IsGraphSound v) (d : DartId) (forward : IsForward v d) where
  abbrev low : Point
  low = point_in v (source_in v d)

  abbrev high : Point
  high = point_in v (target_in v d)

  abbrev marks_here : List Mark
  marks_here = filter (is_at low high) (drawn_graph v h).marks

  -- no other forward dart has these two points
  only : (m : Mark) (e : DartId) → IsMarkOf v h m e → m.low ≡ low → m.high ≡ high → e ≡ d
  only m e k a b = s.turned.differ e d k.forward.0 forward.0 (ap₂ by_points (k.low ∙ a) (k.high ∙ b))

  curve_of : (c : ℕ) → Member c (curves (drawn_graph v h) low high) → Member c (h d)
  unfolding curves
  curve_of c n =
      let m = of_map (λ m. m.curve) c marks_here (of_ascending nat_cmp nat_cmp_total nat_exact c (map (λ m. m.curve) marks_here) n) in
      let f = of_filter (is_at low high) m.0 (drawn_graph v h).marks m.1 in
      let at = and_true (same_point m.0.low low) (same_point m.0.high high) f.1 in
      let e = ((graphs_hold v h s).marks m.0).0 f.0 in
      let same = only m.0 e.0 e.1 (same_out m.0.low low at.0) (same_out m.0.high high at.1) in
      subst (λ k. Member k (h d)) (sym m.2) (subst (λ k. Member m.0.curve (h k)) same e.1.curve)

  of_curve : (c : ℕ) → Member c (h d) → Member c (curves (drawn_graph v h) low high)
  unfolding curves
  of_curve c n =
      let m : Mark = mark low high c in
      let k = ((graphs_hold v h s).marks m).1 (d, record { forward = forward; low = refl; high = refl; curve = n }) in
      in_ascending nat_cmp nat_cmp_total nat_exact c (map (λ m. m.curve) marks_here)
      (in_map (λ m. m.curve) m marks_here (in_filter (is_at low high) m (drawn_graph v h).marks k (and_in (same_itself low) (same_itself high))))

pub curves_of_darts : CurvesOfDarts
curves_of_darts v h d s c forward =
    ascending_unique nat_cmp nat_cmp_total (curves (drawn_graph v h) (point_in v (source_in v d)) (point_in v (target_in v d))) (h d)
    (curves_ascend (drawn_graph v h) (point_in v (source_in v d)) (point_in v (target_in v d))) (c.ascend d)
    (curve_of v h s d forward) (of_curve v h s d forward)
