-- Where the vertices of records stay, so do their points.
use Rattle.std.proofs.Common.{◌≡◌, List, map, sym, ap, subst}
use Rattle.std.specs.List.{AllByRecursion}
use Rattle.std.specs.Prelude.{IsSome}
use Rattle.exact_plane.specs.PointOrder.{point_cmp}
use Rattle.plane_graphs.specs.Ascending.{IsAscending}
use Rattle.slab_laws.specs.declared.names.VertexId.{VertexId}
use Rattle.slab_laws.specs.Tables.{row_at}
use Rattle.slab_laws.specs.View.{View, HasVertex, point_in, point_or}

module _ (v x : View) (same : x.vertices ≡ v.vertices) where
  pub point_stays : (w : VertexId) → point_in x w ≡ point_in v w
  point_stays w = ap (λ rows. point_or (row_at rows w.0)) same

  pub still_have : (ws : List VertexId) → AllByRecursion (λ w. HasVertex v w) ws → AllByRecursion (λ w. HasVertex x w) ws
  still_have ws have = subst (λ rows. AllByRecursion (λ w. IsSome (row_at rows w.0)) ws) (sym same) have

  pub still_ascend : (ws : List VertexId) → IsAscending point_cmp (map (point_in v) ws) → IsAscending point_cmp (map (point_in x) ws)
  still_ascend ws ascend = subst (λ rows. IsAscending point_cmp (map (λ w. point_or (row_at rows w.0)) ws)) (sym same) ascend
