-- A link with what it makes of cycles and faces.
use Rattle.std.specs.Prelude.{◌≡◌, ◌≤◌, ◌+◌, Option}
use Rattle.exact_plane.specs.Line.{Line}
use Rattle.slab_laws.specs.declared.names.DartId.{DartId}
use Rattle.slab_laws.specs.declared.names.VertexId.{VertexId}
use Rattle.arr_notes.specs.FaceSteps.{step_faces}
use Rattle.arr_notes.specs.FacesTold.{linked_faces}
use Rattle.arr_notes.specs.Step.{add_edge}
use Rattle.arr_notes.specs.declared.change.Change.{Change}
use Rattle.arr_notes.specs.declared.change.Change.TheVariants.{AddEdge}
use Rattle.arr_notes.specs.declared.faces.Linked.{Linked}
use Rattle.arr_notes.specs.declared.faces.Linked.TheVariants.{Splits}
use Rattle.dcel_records.specs.RecordsView.{RecordsView, IsReturned, IsSpare, tables_of}
use Rattle.dcel_records.specs.SoundMaps.{IsSoundMap, IsCarriedOff}
use Rattle.face_steps.specs.LinkLaws.{FitsLinked}
use Rattle.face_steps.specs.MovedLists.{LinkListsMoved}
use Rattle.edge_link.specs.declared.links.LinkNames.{LinkNames}
use Rattle.edge_link.specs.Links.{AreNewDarts}

-- where a face was split, the lists of what moves are on their way, else they are there (this project)
abbrev pub IsCarried : RecordsView → Linked → Type 0
IsCarried h (Splits kept fresh x face moved) = IsCarriedOff h moved
IsCarried h told = IsReturned h

-- one more edge: its darts are new, the graph and the tables are those after it, which are a sound map again, and what is told of it fits and lists just what moves (CGAL manual, `insert_at_vertices`)
pub record IsLinkMade (old new : RecordsView) (names : LinkNames) (u w : VertexId) (at_u at_w : Option DartId) (l : Line) (told : Linked) : Type 0 where
  pub new_darts : AreNewDarts old.graph names.d names.m
  pub graph : new.graph ≡ add_edge old.graph names.d names.m u w at_u at_w l
  pub tables : tables_of new ≡ step_faces new.graph (tables_of old) (linked_faces names.d names.m u w at_u told)
  pub fits : FitsLinked old.graph new.graph (tables_of old) names.d names.m u at_u at_w told
  pub lists : LinkListsMoved old.graph new.graph (tables_of old) told
  pub map : IsSoundMap new
  pub spare : IsSpare new old 0 2
  pub spare_cycles : old.faces.spare_cycles ≤ new.faces.spare_cycles + 1
  pub spare_faces : old.faces.spare_faces ≤ new.faces.spare_faces + 1
  pub capacity_of_cycles : new.faces.capacity_of_cycles ≡ old.faces.capacity_of_cycles
  pub capacity_of_faces : new.faces.capacity_of_faces ≡ old.faces.capacity_of_faces
  pub carried : IsCarried new told

-- the change tells of an edge, and of what became of cycles and faces, as they were made (this project)
abbrev pub IsLinkTold : RecordsView → RecordsView → Change → Type 0
IsLinkTold old new (AddEdge d m u w at_u at_w l k faces) = IsLinkMade old new (record { d = d; m = m }) u w at_u at_w l faces
IsLinkTold old new other = ⊥
