use Rattle.std.proofs.Common.{sym, subst}
use Rattle.exact_plane.specs.Line.{Line}
use Rattle.exact_plane.specs.Span.{AreOnWay}
use Rattle.plain_slabs.proofs.NamedEdges.{key_way}
use Rattle.plain_slabs.proofs.names.span_of.Goals as goal

pub between-requires : goal.between-requires
between-requires g c =
    let v = g.R.Darts.graph c.args.records.now in
    let k = c.args.dart.now in
    subst (λ (l : Line). AreOnWay k.source k.target l) (sym c.line.ensures.line) (key_way v k c.requires.sound (record { has = c.requires.has; key = c.requires.key; forward = c.requires.forward }))
