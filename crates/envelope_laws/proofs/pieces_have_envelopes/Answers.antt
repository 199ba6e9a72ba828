use Rattle.envelope_laws.proofs.Covered.{pieces_have_envelopes}
use Rattle.envelope_laws.proofs.pieces_have_envelopes.Goals as goal

pub returns : goal.returns
returns c = pieces_have_envelopes
