-- An edge of an ascending list stands in it once.
use Rattle.std.proofs.Common.{◌≡◌, List, Contains, sym}
use Rattle.std.specs.List.{count_by}
use Rattle.plane_graphs.specs.Ascending.{IsAscending}
use Rattle.plane_graphs.specs.Graph.{Edge, edge_cmp}
use Rattle.plane_graphs.proofs.Ascending.{to_member}
use Rattle.plane_graphs.proofs.Lists.{and_in}
use Rattle.plane_graphs.proofs.Meaning.{edge_cmp_total}
use Rattle.slab_laws.specs.Skeleton.{same_point, same_edge}
use Rattle.slab_faces.proofs.PlaneGraphs.{once}
use Rattle.slab_faces.proofs.Parity.{same_point_is, same_point_refl}
use Rattle.exact_plane.specs.PointOrderLaws.{and_true}

pub edge_once : (e : Edge) (es : List Edge) → IsAscending edge_cmp es → Contains es e → count_by (same_edge e) es ≡ 1
unfolding same_edge
edge_once e es a m =
    once edge_cmp edge_cmp_total (same_edge e) e es a (to_member es e m)
    (and_in (same_point_refl e.low) (same_point_refl e.high))
    (λ z k. let w = and_true (same_point e.low z.low) (same_point e.high z.high) k in
    let p = sym (same_point_is e.low z.low w.0) in
    let q = sym (same_point_is e.high z.high w.1) in
    λ i. record { low = p i; high = q i })
