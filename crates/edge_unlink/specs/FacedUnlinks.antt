-- An edge that goes, with what that makes of cycles and faces.
use Rattle.std.specs.Prelude.{◌≡◌, ◌≤◌, ◌+◌}
use Rattle.slab_laws.specs.declared.names.DartId.{DartId}
use Rattle.slab_laws.specs.View.{View, twin_in}
use Rattle.arr_notes.specs.FaceSteps.{step_faces}
use Rattle.arr_notes.specs.FacesTold.{unlinked_faces}
use Rattle.arr_notes.specs.Step.{remove_edge}
use Rattle.arr_notes.specs.declared.change.Change.{Change}
use Rattle.arr_notes.specs.declared.change.Change.TheVariants.{RemoveEdge}
use Rattle.arr_notes.specs.declared.faces.Unlinked.{Unlinked}
use Rattle.arr_notes.specs.declared.faces.Unlinked.TheVariants.{Unites}
use Rattle.dcel_records.specs.RecordsView.{RecordsView, IsReturned, IsSpare, tables_of}
use Rattle.dcel_records.specs.SoundMaps.{IsSoundMap, IsCarriedOff}
use Rattle.face_steps.specs.LinkLaws.{FitsUnlinked}
use Rattle.face_steps.specs.MovedLists.{UnlinkListsMoved}

-- where two faces were united, the lists of what moves are on their way, else they are there (this project)
abbrev pub IsCarried : RecordsView → Unlinked → Type 0
IsCarried h (Unites kept gone face moved) = IsCarriedOff h moved
IsCarried h told = IsReturned h

-- one edge fewer: the graph and the tables are those after it, which are a sound map again, and what is told of it fits and lists just what moves (CGAL manual, `remove_edge`)
pub record IsUnlinkMade (old new : RecordsView) (d m : DartId) (told : Unlinked) : Type 0 where
  pub twin : m ≡ twin_in old.graph d
  pub graph : new.graph ≡ remove_edge old.graph d m
  pub tables : tables_of new ≡ step_faces new.graph (tables_of old) (unlinked_faces old.graph d told)
  pub fits : FitsUnlinked old.graph (tables_of old) d told
  pub lists : UnlinkListsMoved (tables_of old) told
  pub map : IsSoundMap new
  pub spare : IsSpare old new 0 2
  pub spare_cycles : old.faces.spare_cycles ≤ new.faces.spare_cycles + 1
  pub spare_faces : old.faces.spare_faces ≤ new.faces.spare_faces
  pub capacity_of_cycles : new.faces.capacity_of_cycles ≡ old.faces.capacity_of_cycles
  pub capacity_of_faces : new.faces.capacity_of_faces ≡ old.faces.capacity_of_faces
  pub carried : IsCarried new told

-- the change tells that the edge of d goes, its twin by name, and of what became of cycles and faces (this project)
abbrev pub TellsOfUnlink : View → Change → DartId → Type 0
TellsOfUnlink v c d = (faces : Unlinked) × (c ≡ RemoveEdge d (twin_in v d) faces)

-- it tells of an edge that went, and of what became of cycles and faces, as they were made (this project)
abbrev pub IsUnlinkTold : RecordsView → RecordsView → Change → Type 0
IsUnlinkTold old new (RemoveEdge d m faces) = IsUnlinkMade old new d m faces
IsUnlinkTold old new other = ⊥
