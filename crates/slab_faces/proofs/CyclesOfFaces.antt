-- Cycles, edges and faces.
use Rattle.std.proofs.Common.{◌≡◌, ℕ, ◌+◌, Bool, true, false, arith, refl, ap, ◌∙◌}
use Rattle.std.specs.Prelude.{not}
use Rattle.std.specs.List.{Contains}
use Rattle.std.proofs.lemmas.Bool.{and_from}
use Rattle.plane_graphs.specs.Graph.{Edge}
use Rattle.slab_laws.specs.Skeleton.{Skeleton, left_of, on_wall, IsPlaneSkeleton}
use Rattle.slab_laws.specs.Slabs.{spans, slab_right}
use Rattle.slab_laws.specs.Weights.{Even, weight_above, IsEvenAtVertices}
use Rattle.slab_laws.specs.Darts.{darts, cell_by}
use Rattle.slab_laws.specs.Cycles.{dart_labels, darts_on}
use Rattle.slab_faces.specs.CycleLaws.{NextStartsThere, CycleAcrossEdge}
use Rattle.slab_faces.proofs.Walls.{left_of-irrefl}
use Rattle.slab_faces.proofs.Cells.{spans_right}
use Rattle.slab_faces.proofs.Nudge.{is_slab_right, right_inside}
use Rattle.slab_faces.proofs.Slabs.{weight_step}
use Rattle.slab_faces.proofs.Turns.{on_own_wall}
use Rattle.slab_faces.proofs.Upright.{parity_upright}
use Rattle.slab_faces.proofs.NextLemmas.{next_from}
use Rattle.slab_faces.proofs.CyclesLemmas.{cycle_even}

pub next_starts_there : NextStartsThere
next_starts_there g d plane E = (next_from g d plane E).at

-- the weights on both sides of an edge differ by the edge's own, or are even with it
pub across : (g : Skeleton) (m : Edge → ℕ) (e : Edge) → IsPlaneSkeleton g → IsEvenAtVertices g m → Contains g.edges e → (b : Bool) → left_of e.low e.high ≡ b → Even (weight_above g m (cell_by g e b true).slab (cell_by g e b true).place + weight_above g m (cell_by g e b false).slab (cell_by g e b false).place + m e)
across g m e plane even E true h =
    let wall = on_own_wall g e.low plane (plane.lower_in e E) in
    let se : spans g (slab_right g e.low) e ≡ true = spans_right g e.low e plane wall E ∙ and_from _ _ (ap not (left_of-irrefl e.low)) h in
    let a = weight_step g m (slab_right g e.low) (right_inside g e.low) e plane (is_slab_right g e.low plane wall) E se in
    omega arith
across g m e plane even E false h =
    let f : left_of e.high e.low ≡ false = plane.forward e E in
    let w : on_wall e.low e.high ≡ true = rw (h, f) refl in
    parity_upright g m e plane even E w

pub cycle_across_edge : CycleAcrossEdge
cycle_across_edge g lead e plane E = across g (darts_on (dart_labels (darts g)) lead) e plane (cycle_even g lead plane) E (left_of e.low e.high) refl
