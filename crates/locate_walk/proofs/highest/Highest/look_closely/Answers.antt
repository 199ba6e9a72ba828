use Rattle.std.proofs.Common.{sym, ◌∙◌}
use Rattle.plane_graphs.proofs.Lines.{point_is_proper}
use Rattle.locate_walk.proofs.Beyond.{beyond_looked}
use Rattle.locate_walk.proofs.Takes.{settled_looked, found_looked}
use Rattle.locate_walk.proofs.highest.Highest.look_closely.Goals as goal

pub returns-then-is_settled : goal.returns-then-is_settled
returns-then-is_settled c =
    settled_looked c.args.self.now c.args.dart c.requires.map.sound.graph (point_is_proper c.args.self.now.point c.laws.ensures) c.requires.best (sym c.is_settled.ensures ∙ c.if-is_settled.true)

pub returns-then-is_beyond : goal.returns-then-is_beyond
returns-then-is_beyond c =
    beyond_looked c.args.self.now c.args.dart c.args.looked.now c.requires.map.sound.graph (point_is_proper c.args.self.now.point c.laws.ensures) c.requires.dart c.requires.looked c.requires.best
    (sym c.is_beyond.ensures ∙ c.if-is_beyond.true)

pub returns : goal.returns
returns c = found_looked c.args.self.now c.args.dart c.take.new.self c.find-found.result (sym c.is_settled.ensures ∙ c.if-is_settled.false) c.find-found.ensures c.take.ensures
