use Rattle.std.proofs.Common.{subst}
use Rattle.counted_looks.specs.Boundaries.{HasPart}
use Rattle.dcel_records.specs.RecordsView.{graph_of}
use Rattle.locate_landmarks.proofs.Crossed.{may_pass}
use Rattle.locate_landmarks.proofs.horizontal.AheadLookerGlance.look.Goals as goal

pub see-requires-clause-drawn : goal.see-requires-clause-drawn
see-requires-clause-drawn g c = record { sound = c.requires.ready.1.sound; has = subst (HasPart (graph_of c.args.sight.now)) c.in-Dart.is c.requires.at; look = c.glimpse-looked.ensures.look }

pub returns-in-Dart-clause-ready : goal.returns-in-Dart-clause-ready
returns-in-Dart-clause-ready g c = λ k m.
    let e = c.see.ensures in
    may_pass (graph_of c.args.sight.now) k c.args.self.now c.see.new.self m e.course e.last e.later
