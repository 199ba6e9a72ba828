pub mod Envelopes
pub mod Outermost
pub mod EnvelopeLaws
pub mod EnvelopeText
