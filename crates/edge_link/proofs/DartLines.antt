-- A dart between two points lies on each line that holds both.
use Rattle.std.proofs.Common.{◌≡◌, ◌≢◌, Bool, true, false, refl, sym, ◌∙◌}
use Rattle.std.proofs.lemmas.Bool.{false≢true}
use Rattle.exact_plane.specs.Line.{Line, IsOn}
use Rattle.exact_plane.specs.Point.{Point}
use Rattle.plane_graphs.specs.Line.{IsProper, IsProperLine, precedes}
use Rattle.plane_graphs.proofs.Order.{Lt, Tri, less, same, more, tri, lt_out, lt_in}
use Rattle.slab_laws.specs.Sound.{edge_between}
use Rattle.slab_faces.proofs.PlaneGraphs.{comes_before}
use Rattle.plane_graphs.proofs.Lines.{span_runs}
use Rattle.rotation_order.specs.EdgeParts.{IsForwardEdge}
use Rattle.rotation_order.specs.Directions.{IsAlong}
use Rattle.rotation_order.proofs.EdgeCuts.{edge_before}
use Rattle.sound_changes.specs.EdgePlaces.{dart_between}
use Rattle.rotation_order.proofs.Around.{edge_by, ends_on}

pub dart_along : (l : Line) (p q : Point) → IsForwardEdge (edge_between p q) → IsProperLine l → IsOn l p → IsOn l q → IsAlong (dart_between p q) l
dart_along l p q e L x y =
    let on = ends_on l (precedes p q) p q x y in
    record { edge = e; line = L; low_on = on.0; high_on = on.1 }

from_lesser : (p q : Point) → IsProper p → IsProper q → Lt p q → IsForwardEdge (record { low = p; high = q })
from_lesser p q P Q h = edge_before p q P.positive Q.positive (comes_before p q (span_runs p q P Q h))

other_first : (p q : Point) → p ≢ q → precedes p q ≡ false → Tri p q → Lt q p
other_first p q ne e (less l) = absurd (false≢true (sym e ∙ lt_in l))
other_first p q ne e (same k) = absurd (ne k)
other_first p q ne e (more l) = l

edge_from_lesser : (p q : Point) (b : Bool) → IsProper p → IsProper q → p ≢ q → precedes p q ≡ b → IsForwardEdge (edge_by b p q)
edge_from_lesser p q true P Q ne e = from_lesser p q P Q (lt_out p q e)
edge_from_lesser p q false P Q ne e = from_lesser q p Q P (other_first p q ne e (tri p q))

pub forward_edge : (p q : Point) → IsProper p → IsProper q → p ≢ q → IsForwardEdge (edge_between p q)
forward_edge p q P Q ne = edge_from_lesser p q (precedes p q) P Q ne refl
