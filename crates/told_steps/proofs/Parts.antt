-- Edges in two, and two in one: that the change fits, and where its vertex is.
use Rattle.std.proofs.Common.{◌≡◌, ◌≢◌, ap, subst, sym}
use Rattle.exact_plane.specs.Point.{Point}
use Rattle.plane_graphs.specs.Line.{IsProper}
use Rattle.slab_laws.specs.declared.names.DartId.{DartId}
use Rattle.slab_laws.specs.declared.names.VertexId.{VertexId}
use Rattle.slab_laws.specs.Sound.{IsGraphSound}
use Rattle.slab_laws.specs.View.{View, HasDart, HasVertex, twin_in}
use Rattle.arr_notes.specs.Step.{split_edge}
use Rattle.curve_history.specs.Past.{Past, curves_of, curves_on, strands_on}
use Rattle.edge_split_merge.specs.Splits.{CanSplit, IsNewPlace}
use Rattle.sound_changes.specs.ChangeFits.{FitsMerge, FitsSplit}
use Rattle.sound_changes.proofs.Splits.{halved, at_w}
use Rattle.sound_views.specs.RecordGraphLaws.{IsVertexAt}

-- ---- splits
module _ (v : View) (p : Point) where
  pub fits_split : IsProper p → (d : DartId) (w : VertexId) (n m : DartId) → CanSplit v d p → IsNewPlace v w n m → FitsSplit v d w p n m
  fits_split proper d w n m c k = record {
    dart = c.dart;
    forward = c.forward;
    vertex = k.vertex;
    first = k.first;
    second = k.second;
    differ = k.two;
    proper = proper;
    inside_edge = c.inside_edge;
  }

  pub new_dart : (d : DartId) (w : VertexId) (n m : DartId) → CanSplit v d p → IsNewPlace v w n m → d ≢ n
  new_dart d w n m c k q = k.first (subst (HasDart v) q c.dart)

  pub split_vertex : (d : DartId) (w : VertexId) (n m : DartId) → IsGraphSound v → FitsSplit v d w p n m → (x : View) → x ≡ split_edge v d w p n m → IsVertexAt x p w
  split_vertex d w n m s f x e =
      let i = halved v d w p n m s f in
      subst (λ z. IsVertexAt z p w) (sym e) (record { has = i.w_has; at = at_w v d w p n m s f })

-- ---- merges
-- edges with the same sides of curves have the same curves
pub alike_curves : (p : Past) (d n : DartId) → strands_on p d ≡ strands_on p n → curves_on p d ≡ curves_on p n
unfolding curves_on
alike_curves p d n e = ap curves_of e

pub merge_vertex : (v : View) (w : VertexId) (d n : DartId) → IsGraphSound v → FitsMerge v w d n → HasVertex v w
merge_vertex v w d n s f = subst (HasVertex v) f.arrives (s.linked.source (twin_in v d) (s.twinned.has d f.first))
