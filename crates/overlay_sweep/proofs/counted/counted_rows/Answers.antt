use Rattle.std.proofs.Common.{ap, ◌∙◌}
use Rattle.plane_graphs.specs.Graph.{Graph}
use Rattle.slab_laws.specs.Pieces.{present_of}
use Rattle.slab_laws.specs.Subdivision.{subdivision}
use Rattle.slab_laws.specs.Text.{skeleton}
use Rattle.overlay_laws.proofs.UnitedGraph.{united_plane, united_pins}
use Rattle.overlay_sweep.proofs.counted.counted_rows.Goals as goal

pub returns-clause-subdivision : goal.returns-clause-subdivision
returns-clause-subdivision c = ap (λ (g : Graph). subdivision (skeleton g)) c.in_ok-counted.ensures.graph ∙ ap subdivision (united_plane (present_of c.args.red.now) (present_of c.args.blue.now))

pub returns-clause-pins : goal.returns-clause-pins
returns-clause-pins c = ap (λ (g : Graph). g.pins) c.in_ok-counted.ensures.graph ∙ united_pins (present_of c.args.red.now) (present_of c.args.blue.now)
