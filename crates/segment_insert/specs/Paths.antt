-- The parts of a curve's sides between points, and what is planned of a path.
use Rattle.std.specs.Prelude.{◌≡◌, ◌+◌, ℕ, List, map, length}
use Rattle.std.specs.List.{filter, flat_map}
use Rattle.exact_plane.specs.Point.{Point}
use Rattle.exact_plane.specs.Segment.{Segment}
use Rattle.plane_graphs.specs.Ascending.{ascending}
use Rattle.plane_graphs.specs.Graph.{chain, mark_cmp}
use Rattle.plane_graphs.specs.Piece.{on}
use Rattle.plane_graphs.specs.Strands.{strand_pieces}
use Rattle.edit_steps.specs.Edits.{path_pieces}
use Rattle.arr_notes.specs.Curves.{Curves}
use Rattle.dcel_records.specs.RecordsView.{RecordsView}
use Rattle.dcel_records.specs.declared.records.Room.{Room}
use Rattle.curve_history.specs.Past.{Past}
use Rattle.side_parts.specs.declared.part.Part.{Part}
use Rattle.side_parts.specs.SideParts.{edge_marks, strand_mark}
use Rattle.zone_walk.specs.declared.plan.Meeting.{Meeting}
use Rattle.zone_walk.specs.Zone.{splits_needed, vertices_needed}
use Rattle.segment_insert.specs.Insertion.{HasRoomFor}
use Rattle.segment_insert.specs.StepsMade.{ArePartsOf}

-- the parts of sides between points, in order: they are all marks of a curve of these sides, its sides told apart or not (this project)
pub record AreAllParts (ps : List Point) (ss : List Segment) (ts : List Part) : Type 0 where
  pub parts : ArePartsOf ps ss ts
  pub strands : (c : ℕ) → map (strand_mark ps c) ts ≡ ascending mark_cmp (flat_map (λ k. chain k.curve (filter (on k) ps)) (strand_pieces (path_pieces c ss)))
  pub edges : (c : ℕ) → edge_marks ps c ts ≡ ascending mark_cmp (flat_map (λ k. chain k.curve (filter (on k) ps)) (path_pieces c ss))

-- room for vertices at meetings, and for an edge on each of the parts, which may part a cycle and a face (this project)
pub record IsRoomFor (ms : List Meeting) (ts : List Part) (room : Room) : Type 0 where
  pub vertices : room.vertices ≡ vertices_needed ms
  pub edges : room.edges ≡ splits_needed ms + length ts
  pub cycles : room.cycles ≡ length ts
  pub faces : room.faces ≡ length ts

-- there is room for what the plan of a path makes, where edges have these sides of curves (this project)
abbrev pub HasRoomForPath : List Meeting → List Part → ℕ → Curves → RecordsView → Past → Type 0
HasRoomForPath ms ts sides h r p = (room : Room) × IsRoomFor ms ts room × HasRoomFor room ms sides (length ts) h r p
