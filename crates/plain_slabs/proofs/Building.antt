-- What is built from a graph: its tables are the rows of its subdivision.
use Rattle.std.proofs.Common.{◌≡◌, ℕ, Bool, Vec, Global, refl, ap, ◌∙◌, List, [], ◌∷◌, map, length}
use Rattle.std.specs.List.{list_any, position_or_len}
use Rattle.exact_plane.specs.Point.{Point}
use Rattle.exact_plane.specs.Span.{Span}
use Rattle.plane_graphs.specs.Graph.{edges}
use Rattle.plane_graphs.specs.Plane.{IsPlane}
use Rattle.slab_laws.specs.SpansDrawn.{edge_of}
use Rattle.slab_laws.specs.Skeleton.{Skeleton, same_point}
use Rattle.slab_laws.specs.Faces.{same_cell}
use Rattle.slab_laws.specs.Rows.{cycle_row, cycle_rows}
use Rattle.slab_laws.specs.Subdivision.{Cycle, subdivision, rank}
use Rattle.slab_laws.specs.declared.rows.CycleRow.{CycleRow}
use Rattle.slab_laws.specs.declared.slab_cell.SlabCell.{SlabCell}
use Rattle.present_graphs.specs.declared.marks.Mark.{Mark}
use Rattle.subdivision_rows.specs.Listed.{skeleton_in, AreLinesOf}
use Rattle.subdivision_rows.specs.RowsInMemory.{drawing_of, bare_rank, AreSoundRows}
use Rattle.subdivision_rows.specs.declared.lists.RowLists.{RowLists}
use Rattle.plain_slabs.specs.Faces.{rank_round}
use Rattle.plain_slabs.specs.Orbits.{AreOrbits, AreRegions}
use Rattle.plain_slabs.specs.declared.orbits.Orbits.{Orbits}
use Rattle.plain_slabs.specs.declared.regions.Regions.{Regions}

module _ (points : Vec Point Global) (pins : Vec Point Global) (pinned : Vec Bool Global) (marks : Vec Mark Global) (spans : Vec Span Global) (o : Orbits) (r : Regions) (n : ℕ) where
  abbrev lists : RowLists
  lists = record { points = points; pins = pins; pinned = pinned; marks = marks; edges = spans; darts = o.darts; twins = o.twins; nexts = o.nexts; in_cycles = o.in_cycles; kinds = r.kinds; cycle_ranks = r.cycle_ranks; bare_ranks = r.bare_ranks; faces = n }

  abbrev G : Skeleton
  G = skeleton_in (drawing_of lists)

  module _ (plane : IsPlane (drawing_of lists).graph) (lines : AreLinesOf (drawing_of lists)) (told : pinned.items ≡ map (λ p. list_any (same_point p) pins.items) points.items) (are : map edge_of spans.items ≡ edges (drawing_of lists).graph) (orbits : AreOrbits G o) (regions : AreRegions G r) where
    ranks_are : (fs : List SlabCell) (cs : List Cycle) → fs ≡ (subdivision G).faces → map (λ (c : CycleRow). position_or_len (same_cell c.face) fs) (map (cycle_row G) cs) ≡ map (λ c. rank (subdivision G) c.face) cs
    unfolding rank
    ranks_are fs [] e = refl
    ranks_are fs (c ∷ cs) e = λ i. position_or_len (same_cell c.face) (e i) ∷ ranks_are fs cs e i

    cycle_ranks_are : r.cycle_ranks.items ≡ map (λ c. rank (subdivision G) c.face) (subdivision G).cycles
    unfolding cycle_rows
    cycle_ranks_are = regions.cycle_ranks ∙ ranks_are r.faces.items (subdivision G).cycles regions.faces

    bare_ranks_are : r.bare_ranks.items ≡ map (bare_rank (drawing_of lists)) points.items
    unfolding rank
    bare_ranks_are = regions.bare_ranks ∙ ap (λ fs. map (rank_round G fs) points.items) regions.faces

    pub kept : n ≡ length r.faces.items → AreSoundRows lists
    kept many = record {
      plane = plane;
      lines = lines;
      pinned = told;
      edges_are = are;
      darts = orbits.darts;
      twins = orbits.twins;
      nexts = orbits.nexts;
      in_cycles = orbits.in_cycles;
      kinds = regions.kinds;
      cycle_ranks = cycle_ranks_are;
      bare_ranks = bare_ranks_are;
      faces = many ∙ ap length regions.faces;
    }
