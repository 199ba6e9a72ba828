-- Two views with the same vertices draw the same points and pins.
use Rattle.std.proofs.Common.{◌≡◌, map, ap}
use Rattle.std.specs.List.{filter}
use Rattle.exact_plane.specs.PointOrder.{point_cmp}
use Rattle.plane_graphs.specs.Ascending.{ascending}
use Rattle.slab_laws.specs.View.{View}
use Rattle.arr_notes.specs.Curves.{Curves}
use Rattle.arr_notes.specs.RecordGraph.{drawn_graph}

module _ (g v : View) (b h : Curves) (e : g.vertices ≡ v.vertices) where
  pub same_points : (drawn_graph g b).points ≡ (drawn_graph v h).points
  unfolding drawn_graph
  same_points = ap (λ rs. ascending point_cmp (map (λ r. r.1.point) rs)) e

  pub same_pins : (drawn_graph g b).pins ≡ (drawn_graph v h).pins
  unfolding drawn_graph
  same_pins = ap (λ rs. ascending point_cmp (map (λ r. r.1.point) (filter (λ r. r.1.pinned) rs))) e
