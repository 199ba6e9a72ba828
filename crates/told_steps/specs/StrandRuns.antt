-- What records and their history draw where the sides of curves are told apart, and the steps that make it.
use Rattle.std.specs.Prelude.{◌≡◌, ℕ, ◌++◌, List, map}
use Rattle.std.specs.List.{filter}
use Rattle.plane_graphs.specs.Graph.{Graph, graph, graph_over, marks, same_curve, vertices}
use Rattle.plane_graphs.specs.Piece.{Piece, Present}
use Rattle.plane_graphs.specs.Strands.{strand_pieces, strands}
use Rattle.edit_steps.specs.EditLaws.{curve_of, hold_step, release_step}
use Rattle.edit_steps.specs.Edits.{Edit, Insert, Drop, path_pieces, steps}
use Rattle.edit_steps.specs.Steps.{Step, missing_points, run, tidy_steps, vertex_steps, with_pieces, without_curve}
use Rattle.slab_laws.specs.declared.names.DartId.{DartId}
use Rattle.slab_laws.specs.View.{View, point_in, source_in, target_in}
use Rattle.arr_notes.specs.RecordGraph.{drawn_graph}
use Rattle.curve_history.specs.Past.{Past, strands_on}
use Rattle.sound_changes.specs.StepLaws.{without_marks}

-- the graph that records and their history draw, the sides of curves told apart (this project)
abbrev pub strand_graph : View → Past → Graph
strand_graph v p = drawn_graph v (strands_on p)

-- these steps, one after the other, make of it what the second records and history draw so (this project)
abbrev pub IsStrandRun : View → Past → List Step → View → Past → Type 0
IsStrandRun v p ss w q = strand_graph w q ≡ run ss (strand_graph v p)

-- all sides of a curve go from it along the edge of a dart, and nothing else (this project)
abbrev pub SidesGo : View → Past → DartId → ℕ → View → Past → Type 0
SidesGo v p d c w q = strand_graph w q ≡ without_marks (point_in v (source_in v d)) (point_in v (target_in v d)) (λ z. same_curve (curve_of z) c) (strand_graph v p)

-- where the sides of new pieces are told apart: the new vertices, and then each side along each of its edges, in order
abbrev pub held_steps : Present → List Piece → List Step
held_steps p js =
    vertex_steps (missing_points (vertices (with_pieces p js)) (vertices p)) (graph p) ++ map hold_step (marks (vertices (with_pieces p js)) (strand_pieces js))

-- where the sides of a curve that goes are told apart: each side goes from each of its edges, and then each point that is no longer a vertex
abbrev pub released_steps : Present → ℕ → List Step
released_steps p c =
    map release_step (filter (λ m. same_curve (curve_of m.curve) c) (graph (strands p)).marks) ++
    tidy_steps (missing_points (vertices p) (vertices (without_curve p c))) (graph_over (vertices p) (without_curve p c).pieces p.pins)

-- the steps of an edit where sides are told apart; those of one that sees no curve are its own (this project)
abbrev pub strand_steps : Edit → Present → List Step
strand_steps (Insert c ss) p = held_steps p (path_pieces c ss)
strand_steps (Drop c) p = released_steps p c
strand_steps other p = steps other p
