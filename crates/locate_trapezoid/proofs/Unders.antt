-- Whether an edge is below a point, by its line as it was read.
use Rattle.std.proofs.Common.{◌≡◌, ap, ◌∙◌, refl}
use Rattle.exact_plane.specs.Line.{Line, IsLine, side_of}
use Rattle.exact_plane.specs.Point.{Point, IsPoint}
use Rattle.exact_plane.specs.Sign.{sign_of}
use Rattle.exact_plane.specs.Span.{Span}
use Rattle.exact_plane.specs.declared.sides.Sign.{Sign}
use Rattle.plane_graphs.specs.Graph.{Edge}
use Rattle.slab_laws.specs.declared.names.DartId.{DartId}
use Rattle.slab_laws.specs.Skeleton.{under}
use Rattle.slab_laws.specs.Sound.{IsGraphSound, edge_in}
use Rattle.slab_laws.specs.View.{View, point_in, source_in, target_in, line_in}
use Rattle.arr_notes.specs.Curves.{IsForward}
use Rattle.edge_predicates.proofs.Sides.{is_plus, sign_same, under_by}
use Rattle.sound_views.proofs.ForwardDarts.{way_along, edge_along}

module _ (v : View) (s : IsGraphSound v) (d : DartId) (f : IsForward v d) (p q : Point) (l : Line) (P : p ≡ point_in v (source_in v d)) (Q : q ≡ point_in v (target_in v d)) (L : l ≡ line_in v d) where
  abbrev span : Span
  span = record { lower = p; upper = q; line = l }

  -- the sign of the line's side tells it
  pub under_line : (t : Point) (r : Sign) → IsPoint p → IsPoint q → IsLine l → r ≡ sign_of (side_of l t) → is_plus r ≡ under (edge_in v d) t
  under_line t r lower upper line e =
      under_by span t r (sign_same span t r (record { lower = lower; upper = upper; line = line; way = way_along v s d f p q l P Q L }) e)
      ∙ ap (λ (x : Edge). under x t) (edge_along v s d f p q l P Q L span refl)
