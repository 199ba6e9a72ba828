use Rattle.std.proofs.Common.{sym, ap, ap₂, subst, ◌∙◌}
use Rattle.slab_laws.specs.Sound.{IsGraphSound}
use Rattle.dcel_records.specs.RecordsView.{RecordsView}
use Rattle.envelope_laws.specs.EnvelopeText.{envelope_text}
use Rattle.lower_envelope.specs.Corners.{IsEnvelopeOf}
use Rattle.curve_history.specs.Past.{curves_on}
use Rattle.curve_history.proofs.Facing.{lists_read}
use Rattle.told_steps.specs.RecordLayers.{layer_of}
use Rattle.told_steps.proofs.Seen.{told_records}
use Rattle.arrangement.proofs.Ends.{if_ok}
use Rattle.arrangement.proofs.Layers.{drawn_layer, told_envelope}
use Rattle.arrangement.proofs.arrangement.Arrangement.envelope_text.Goals as goal

pub envelope_of-requires-clause-sound : goal.envelope_of-requires-clause-sound
envelope_of-requires-clause-sound g c = c.self.invariant.1.0.map.sound

pub envelope_of-requires-clause-darts : goal.envelope_of-requires-clause-darts
envelope_of-requires-clause-darts g c = c.self.invariant.1.0.map.darts

pub new-drawn-requires : goal.new-drawn-requires
new-drawn-requires g c = told_records _ _ c.self.invariant.0.sound c.self.invariant.0.curves

pub text_of-requires-clause-sound : goal.text_of-requires-clause-sound
text_of-requires-clause-sound g c = subst (λ (h : RecordsView). IsGraphSound h.graph) (sym c.new-drawn.ensures.records) c.self.invariant.1.0.map.sound.graph

pub text_of-requires-clause-envelope : goal.text_of-requires-clause-envelope
text_of-requires-clause-envelope g c = subst (λ (h : RecordsView). IsEnvelopeOf c.args.which h.graph c.in_ok-envelope.envelope) (sym c.new-drawn.ensures.records) c.in_ok-envelope.ensures

pub returns : goal.returns
returns g c =
    let d = c.new-drawn.result in
    let w = c.args.which in
    let layer = drawn_layer _ _ d.records.graph d.history (ap (λ r. r.graph) c.new-drawn.ensures.records) c.new-drawn.ensures.history c.self.invariant.0 in
    let same = ap₂ (λ v p. envelope_text w (layer_of v p).present) (ap (λ r. r.graph) c.new-drawn.ensures.records) c.new-drawn.ensures.history in
    rw (← c.self.view_is) (if_ok c.text_of.result _ _ (λ bytes h. h ∙ told_envelope w d.records.graph d.history layer ∙ same) (c.text_of.ensures (curves_on d.history) layer.curves (lists_read d.records.graph d.history)))
