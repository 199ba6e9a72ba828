-- What a removal makes, and which refusals its errors stand for.
use Rattle.std.specs.Prelude.{◌≤◌, ◌+◌, ℕ, length, Option, Some, None}
use Rattle.exact_plane.specs.Point.{Point}
use Rattle.edit_steps.specs.Edits.{Edit, Cut}
use Rattle.edit_steps.specs.Refusals.{Refusal, Full as Passed, NoEdge as NotJoined, Unknown as NotNamed, cut_refusal}
use Rattle.edit_steps.specs.Steps.{with_cut}
use Rattle.slab_laws.specs.Sound.{edge_between}
use Rattle.dcel_records.specs.RecordsView.{RecordsView}
use Rattle.curve_history.specs.Past.{Past}
use Rattle.told_steps.specs.LayerEdits.{layer_at}
use Rattle.segment_remove.specs.declared.cuts.CutError.{CutError}
use Rattle.segment_remove.specs.declared.cuts.CutError.TheVariants.{NoEdge, Full, NoMemory as NoMemoryToCut}
use Rattle.segment_remove.specs.declared.drops.DropError.{DropError}
use Rattle.segment_remove.specs.declared.drops.DropError.TheVariants.{Unknown, NoMemory as NoMemoryToDrop}

-- the edge between two points, which come in either order, goes (CGAL manual, `remove_edge`)
abbrev pub cut_between : Point → Point → Edit
cut_between p q = Cut (edge_between p q).low (edge_between p q).high

-- the refusal that a cut's error stands for; want of memory is none (this project)
abbrev pub cut_said : CutError → Option Refusal
cut_said NoEdge = Some NotJoined
cut_said (Full limit) = Some (Passed limit)
cut_said NoMemoryToCut = None

-- the refusal that a drop's error stands for; want of memory is none (this project)
abbrev pub drop_said : DropError → Option Refusal
drop_said Unknown = Some NotNamed
drop_said NoMemoryToDrop = None

-- why the layer of records and history refuses the cut of the edge between two points (this project)
abbrev pub cut_refusal_at : ℕ → RecordsView → Past → Point → Point → Option Refusal
cut_refusal_at pieces r p a b = cut_refusal pieces (layer_at r p) (edge_between a b).low (edge_between a b).high

-- there is room for the pieces that are left after a cut between two points, and for a cycle that it may leave behind (this project)
abbrev pub HasRoomToCut : RecordsView → Past → Point → Point → Type 0
HasRoomToCut r p a b =
    (length (with_cut (layer_at r p).present (edge_between a b).low (edge_between a b).high).pieces ≤ length p.pieces + p.spare_pieces) × (1 ≤ r.faces.spare_cycles)
