-- What a change says of cycles and faces, and what it makes of the tables.
use Rattle.std.specs.Prelude.{◌==◌, cond, Option, Some, None}
use Rattle.slab_laws.specs.declared.names.DartId.{DartId}
use Rattle.slab_laws.specs.declared.names.VertexId.{VertexId}
use Rattle.slab_laws.specs.View.{View, Faces, source_in, twin_in, next_in}
use Rattle.arr_notes.specs.FaceSteps.{FaceChange, comes_bare, goes_bare, in_two, in_one, new_hole, grows, joins, splits, vanishes, shrinks, breaks, unites, cleared, as_it_was, step_faces}
use Rattle.arr_notes.specs.Step.{step}
use Rattle.arr_notes.specs.declared.change.Change.{Change}
use Rattle.arr_notes.specs.declared.change.Change.TheVariants.{AddVertex, RemoveVertex, SplitEdge, MergeEdge, AddEdge, RemoveEdge, Clear}
use Rattle.arr_notes.specs.declared.faces.Linked.{Linked}
use Rattle.arr_notes.specs.declared.faces.Linked.TheVariants.{NewHole, Grows, Joins, Splits}
use Rattle.arr_notes.specs.declared.faces.Unlinked.{Unlinked}
use Rattle.arr_notes.specs.declared.faces.Unlinked.TheVariants.{Vanishes, Shrinks, Breaks, Unites}

-- ---- an edge that comes (CGAL manual, `insert_at_vertices` and its kin: what becomes of boundaries and faces)
-- of the ends u and v of an edge that one of them had darts for: the one that was bare
abbrev pub bare_end : Option DartId → VertexId → VertexId → VertexId
bare_end None u v = u
bare_end (Some at_u) u v = v

abbrev pub linked_faces : DartId → DartId → VertexId → VertexId → Option DartId → Linked → FaceChange
linked_faces d m u v at_u (NewHole cycle face) = new_hole d m u v cycle face
linked_faces d m u v at_u (Grows cycle) = grows d m (bare_end at_u u v) cycle
linked_faces d m u v at_u (Joins kept gone) = joins d m kept gone
linked_faces d m u v at_u (Splits kept fresh fresh_dart fresh_face moved) = splits d m kept fresh fresh_dart fresh_face moved.cycles moved.vertices

-- ---- an edge that goes (CGAL manual, `remove_edge`)
-- where one end of the edge of d becomes bare: the source of d, where d comes after its twin, else the other end
abbrev pub bared_end : View → DartId → VertexId
bared_end v d = cond ((next_in v (twin_in v d)).0 == d.0) (source_in v d) (source_in v (twin_in v d))

abbrev pub unlinked_faces : View → DartId → Unlinked → FaceChange
unlinked_faces v d (Vanishes cycle face) = vanishes d (twin_in v d) (source_in v d) (source_in v (twin_in v d)) cycle face
unlinked_faces v d (Shrinks cycle face) = shrinks d (twin_in v d) (bared_end v d) cycle face
unlinked_faces v d (Breaks kept fresh fresh_dart) = breaks d (twin_in v d) kept fresh fresh_dart
unlinked_faces v d (Unites kept gone gone_face moved) = unites d (twin_in v d) kept gone gone_face moved.cycles moved.vertices

-- ---- any change
-- all names that the change takes of the view before it (this project)
abbrev pub face_change : View → Change → FaceChange
face_change v (AddVertex u p face) = comes_bare u face
face_change v (RemoveVertex u) = goes_bare u
face_change v (SplitEdge d u p n m) = in_two d (twin_in v d) n m
face_change v (MergeEdge u d n) = in_one n (twin_in v n)
face_change v (AddEdge d m u w at_u at_w line curve faces) = linked_faces d m u w at_u faces
face_change v (RemoveEdge d m faces) = unlinked_faces v d faces
face_change v (Clear face) = cleared face
face_change v other = as_it_was

-- the tables after a change, by the view and the tables before it (CGAL manual, `Arr_observer`; computed: this project)
abbrev pub faces_after : View → Faces → Change → Faces
faces_after v f c = step_faces (step v c) f (face_change v c)
