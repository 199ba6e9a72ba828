use Rattle.std.proofs.Common.{subst}
use Rattle.record_tests.specs.Noted.{IsNoted}
use Rattle.record_tests.proofs.NotedPoints.{source_is}
use Rattle.record_tests.proofs.records.looks.NotesLookerGlance.look.Goals as goal

pub returns-clause-seen : goal.returns-clause-seen
returns-clause-seen g c =
    let looked = c.look-looked.result in
    subst (IsNoted c.write.new.self.lost c.write.new.self.points.items)
    (source_is c.args.sight.now.graph c.args.at c.spot.result looked c.spot.ensures.spot c.look-looked.ensures.look) c.write.ensures.noted
