-- What the engine answers: the drawing of a graph in memory.
use Rattle.std.specs.Prelude.{List, map}
use Rattle.exact_plane.specs.Point.{Point}
use Rattle.exact_plane.specs.Span.{Span}
use Rattle.plane_graphs.specs.Graph.{Graph}
use Rattle.present_graphs.specs.declared.marks.Mark.{Mark}
use Rattle.present_graphs.specs.Marks.{mark_of}
use Rattle.subdivision_rows.specs.Listed.{Drawing}

-- the graph of vertices, marks and pins in memory
abbrev pub graph_in : List Point → List Mark → List Point → Graph
graph_in points marks pins = record { points = points; marks = map mark_of marks; pins = pins }

-- the drawing of a graph, with the lines of its edges
abbrev pub drawing_in : List Point → List Mark → List Point → List Span → Drawing
drawing_in points marks pins edges = record { graph = graph_in points marks pins; lines = map (λ s. s.line) edges }
