use Rattle.sweep_events.proofs.EventsAndVertices.{event_is_vertex, vertex_is_event, spans_of}
use Rattle.sweep_events.proofs.laws.events_are_vertices.Goals as goal

pub returns : goal.returns
returns c = λ p fit spans r. (event_is_vertex p fit (spans_of p.pieces spans) r, vertex_is_event p fit (spans_of p.pieces spans) r)
