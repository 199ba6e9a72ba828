use Rattle.std.proofs.Common.{drop}
use Rattle.std.specs.List.{position_or_len}
use Rattle.slab_laws.specs.Sound.{skeleton_of, dart_in}
use Rattle.slab_laws.specs.Text.{cycle_line}
use Rattle.record_orders.specs.declared.cycles.CycleKey.{CycleKey}
use Rattle.record_orders.specs.CycleKeys.{is_of_kind, same_face}
use Rattle.sound_views.proofs.RankedFaces.{cycle_of}
use Rattle.arr_text.specs.Parts.{letter_of}
use Rattle.arr_text.proofs.FaceBodies.{IsGaining}
use Rattle.arr_text.proofs.faces.put_cycles.Given as goal

abbrev pub invariant-loop-cycle : goal.invariant-loop-cycle
invariant-loop-cycle g l =
    let v = g.R.Darts.graph l.records in
    IsGaining (is_of_kind l.kind) (λ (c : CycleKey). position_or_len (same_face c.face) l.ranks) (λ (c : CycleKey). cycle_line (skeleton_of v) (letter_of l.kind) (cycle_of (skeleton_of v) (dart_in v c.lead)))
    l.fn.bodies l.bodies l.cycles (drop l.cycle-index l.cycles)
