-- What a split and a merge make of records, by names; and what a change may have on its way.
use Rattle.std.specs.Prelude.{◌≡◌, ◌==◌, cond, []}
use Rattle.exact_plane.specs.Point.{Point}
use Rattle.slab_laws.specs.declared.names.DartId.{DartId}
use Rattle.slab_laws.specs.declared.names.VertexId.{VertexId}
use Rattle.slab_laws.specs.View.{View}
use Rattle.arr_notes.specs.Curves.{Curves}
use Rattle.arr_notes.specs.Step.{merge_edge, split_edge}
use Rattle.arr_notes.specs.declared.change.Change.{Change}
use Rattle.arr_notes.specs.declared.change.Change.TheVariants.{AddEdge, RemoveEdge}
use Rattle.dcel_records.specs.RecordsView.{RecordsView, IsReturned}
use Rattle.edge_link.specs.FacedLinks.{IsCarried as IsLinkCarried}
use Rattle.edge_unlink.specs.FacedUnlinks.{IsCarried as IsUnlinkCarried}
use Rattle.edge_split_merge.specs.Splits.{IsNewPlace}
use Rattle.sound_changes.specs.ChangeFits.{FitsMerge}

-- the edge of d is split at p, where the vertex w is now; the upper part has two new names (CGAL manual, `split_edge`)
abbrev pub IsSplitAt : View → DartId → Point → VertexId → View → Type 0
IsSplitAt v d p w x = (n : DartId) × (m : DartId) × IsNewPlace v w n m × (x ≡ split_edge v d w p n m)

-- the two edges that met at w are one now, with the curves that both had (CGAL manual, `merge_edge`)
abbrev pub AreMergedAt : View → Curves → VertexId → View → Curves → Type 0
AreMergedAt v h w x k = (d : DartId) × (n : DartId) × FitsMerge v w d n × (x ≡ merge_edge v w d n) × ((y : DartId) → k y ≡ cond (y.0 == n.0) [] (h y))

-- where the change split a face or united two, it has the lists of what moved, which the records wait for; else they have them (this project)
abbrev pub IsChangeCarried : RecordsView → Change → Type 0
IsChangeCarried r (AddEdge d m u w at_u at_w l c faces) = IsLinkCarried r faces
IsChangeCarried r (RemoveEdge d m faces) = IsUnlinkCarried r faces
IsChangeCarried r other = IsReturned r
