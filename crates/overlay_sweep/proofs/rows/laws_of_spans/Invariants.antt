use Rattle.std.proofs.Common.{take}
use Rattle.exact_plane.specs.Span.{Span, IsSpan}
use Rattle.plane_graphs.specs.Ascending.{Member}
use Rattle.overlay_sweep.proofs.rows.laws_of_spans.Given as goal

abbrev pub invariant-loop-span : goal.invariant-loop-span
invariant-loop-span l = (s : Span) → Member s (take l.span-index l.spans) → IsSpan s
