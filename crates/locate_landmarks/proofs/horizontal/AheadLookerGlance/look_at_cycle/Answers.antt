use Rattle.std.proofs.Common.{sym, subst}
use Rattle.slab_laws.specs.View.{HasDart}
use Rattle.dcel_records.specs.RecordsView.{graph_of}
use Rattle.locate_landmarks.proofs.Crossed.{may_pass}
use Rattle.locate_landmarks.proofs.horizontal.AheadLookerGlance.look_at_cycle.Goals as goal

pub see-requires-clause-drawn : goal.see-requires-clause-drawn
see-requires-clause-drawn g c = record {
  sound = c.requires.sound.graph;
  has = subst (HasDart (graph_of c.args.sight.now)) (sym c.glimpse_cycle-looked.ensures.look.dart) (c.requires.darts c.args.cycle c.requires.cycle).0;
  look = c.glimpse_cycle-looked.ensures.look.first;
}

pub returns-clause-ready : goal.returns-clause-ready
returns-clause-ready g c = λ k m.
    let e = c.see.ensures in
    may_pass (graph_of c.args.sight.now) k c.args.self.now c.see.new.self m e.course e.last e.later
