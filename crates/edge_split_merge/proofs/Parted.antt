-- Where an edge may go in two, it does so as the view's law asks, and the view with both parts is sound.
use Rattle.std.proofs.Common.{◌≢◌}
use Rattle.exact_plane.specs.Point.{Point, IsPoint}
use Rattle.plane_graphs.proofs.Lines.{point_is_proper}
use Rattle.slab_laws.specs.declared.names.DartId.{DartId}
use Rattle.slab_laws.specs.declared.names.VertexId.{VertexId}
use Rattle.slab_laws.specs.Sound.{IsGraphSound}
use Rattle.slab_laws.specs.View.{View, HasVertex, HasDart}
use Rattle.arr_notes.specs.Step.{split_edge}
use Rattle.sound_changes.specs.ChangeFits.{FitsSplit}
use Rattle.sound_changes.proofs.Splits.{split_sound}
use Rattle.edge_split_merge.specs.Splits.{CanSplit}

module _ (v : View) (d : DartId) (w : VertexId) (p : Point) (n m : DartId) (s : IsGraphSound v) (f : CanSplit v d p) (k : IsPoint p) (nw : ¬ HasVertex v w) (nn : ¬ HasDart v n) (nm : ¬ HasDart v m) (ne : n ≢ m) where
  pub fits : FitsSplit v d w p n m
  fits = record { dart = f.dart; forward = f.forward; vertex = nw; first = nn; second = nm; differ = ne; proper = point_is_proper p k; inside_edge = f.inside_edge }

  pub split_is_sound : IsGraphSound (split_edge v d w p n m)
  split_is_sound = split_sound v d w p n m s fits
