use Rattle.std.proofs.Common.{◌≡◌, ◌++◌, take}
use Rattle.std.specs.Option.{option_map}
use Rattle.slab_laws.specs.Sound.{edge_in}
use Rattle.slab_laws.specs.View.{point_in}
use Rattle.lower_envelope.specs.Texts.{HoldsOfGraph}
use Rattle.lower_envelope.proofs.EnvelopeLines.{lines}
use Rattle.lower_envelope.proofs.envelope_text.put_outline.Given as goal

abbrev pub invariant-loop-place : goal.invariant-loop-place
invariant-loop-place g l =
    let v = g.R.Darts.graph l.records in
    HoldsOfGraph v (g.R.Curved.curve_list l.records) (λ d. l.out.items ≡ l.fn.out.items ++ lines d (point_in v) (option_map (edge_in v)) (take l.place l.vertices) (take l.place l.between))
