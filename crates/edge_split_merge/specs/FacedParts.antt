-- A split and a merge of edges, with their cycles.
use Rattle.std.specs.Prelude.{◌≡◌}
use Rattle.exact_plane.specs.Point.{Point}
use Rattle.slab_laws.specs.declared.names.DartId.{DartId}
use Rattle.slab_laws.specs.declared.names.VertexId.{VertexId}
use Rattle.slab_laws.specs.View.{twin_in}
use Rattle.arr_notes.specs.FaceSteps.{step_faces, in_two, in_one}
use Rattle.arr_notes.specs.Step.{split_edge, merge_edge}
use Rattle.arr_notes.specs.declared.change.Change.{Change}
use Rattle.arr_notes.specs.declared.change.Change.TheVariants.{SplitEdge, MergeEdge}
use Rattle.dcel_records.specs.RecordsView.{RecordsView, IsSpare, IsSpareFaces, tables_of}
use Rattle.dcel_records.specs.SoundMaps.{IsSoundMap}
use Rattle.sound_changes.specs.ChangeFits.{FitsMerge}
use Rattle.edge_split_merge.specs.declared.joining.MergeNames.{MergeNames}
use Rattle.edge_split_merge.specs.declared.parting.SplitNames.{SplitNames}
use Rattle.edge_split_merge.specs.Splits.{IsNewPlace}

-- the edge of d in two at p: the graph and the tables are those after it, which are a sound map again (CGAL manual, `split_edge`)
pub record IsSplitMade (old new : RecordsView) (d : DartId) (p : Point) (names : SplitNames) : Type 0 where
  pub new_names : IsNewPlace old.graph names.v names.n names.m
  pub graph : new.graph ≡ split_edge old.graph d names.v p names.n names.m
  pub tables : tables_of new ≡ step_faces new.graph (tables_of old) (in_two d (twin_in old.graph d) names.n names.m)
  pub map : IsSoundMap new
  pub spare : IsSpare new old 1 2
  pub spare_faces : IsSpareFaces old.faces new.faces 0 0
  pub moved : new.faces.moved ≡ old.faces.moved

-- the two edges at w in one: the same (CGAL manual, `merge_edge`)
pub record IsMergeMade (old new : RecordsView) (w : VertexId) (names : MergeNames) : Type 0 where
  pub met : FitsMerge old.graph w names.d names.n
  pub graph : new.graph ≡ merge_edge old.graph w names.d names.n
  pub tables : tables_of new ≡ step_faces new.graph (tables_of old) (in_one names.n (twin_in old.graph names.n))
  pub map : IsSoundMap new
  pub spare : IsSpare old new 1 2
  pub spare_faces : IsSpareFaces old.faces new.faces 0 0
  pub moved : new.faces.moved ≡ old.faces.moved

-- ---- told by a change
-- the change tells of an edge in two as it was made (this project)
abbrev pub IsSplitTold : RecordsView → RecordsView → Change → Type 0
IsSplitTold old new (SplitEdge d w p n m) = IsSplitMade old new d p (record { v = w; n = n; m = m })
IsSplitTold old new other = ⊥

-- it tells of two edges in one as they were made (this project)
abbrev pub IsMergeTold : RecordsView → RecordsView → Change → Type 0
IsMergeTold old new (MergeEdge w d n) = IsMergeMade old new w (record { d = d; n = n })
IsMergeTold old new other = ⊥
