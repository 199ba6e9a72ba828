use Rattle.std.proofs.Common.{List, ℕ, ◌++◌, ap, ◌∙◌}
use Rattle.arr_notes.specs.RecordGraph.{drawn_graph}
use Rattle.envelope_laws.specs.EnvelopeText.{outline_text}
use Rattle.lower_envelope.proofs.envelope_text.text_of.Goals as goal

pub returns : goal.returns
returns g c = λ h a lists.
    c.in_ok-put_envelope.ensures h a lists
    ∙ ap (λ (t : List ℕ). t ++ outline_text c.args.which (drawn_graph (g.R.Darts.graph c.args.records.now) h)) c.new-out.ensures.items
