use Rattle.std.proofs.Common.{sym, ap, ◌∙◌}
use Rattle.std.specs.Prelude.{Option}
use Rattle.std.specs.Option.{option_map}
use Rattle.slab_laws.specs.declared.names.DartId.{DartId}
use Rattle.slab_laws.specs.Sound.{edge_in}
use Rattle.arr_notes.specs.RecordGraph.{drawn_graph}
use Rattle.arr_text.proofs.Joined.{said}
use Rattle.envelope_laws.specs.EnvelopeText.{stretch_line}
use Rattle.lower_envelope.proofs.EnvelopeLines.{gap_line}
use Rattle.lower_envelope.proofs.envelope_text.put_stretch.Goals as goal

pub returns-in-None : goal.returns-in-None
returns-in-None g c = λ h a lists.
    let v = g.R.Darts.graph c.args.records.now in
    let d = drawn_graph v h in
    said c.put_text.result c.args.out.now.items c.put_text.new.out.items _ _ c.put_text.ensures (gap_line d ∙ ap (λ (o : Option DartId). stretch_line d (option_map (edge_in v) o)) (sym c.in-None.is))
