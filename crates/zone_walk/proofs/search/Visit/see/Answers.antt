use Rattle.std.proofs.Common.{sym, ◌∙◌, inl}
use Rattle.zone_walk.specs.FoundPoints.{entries_in}
use Rattle.zone_walk.proofs.Searched.{outside_taken}
use Rattle.zone_walk.proofs.search.Visit.see.Goals as goal

pub returns-else-not-is_outside-clause-seen : goal.returns-else-not-is_outside-clause-seen
returns-else-not-is_outside-clause-seen g c =
    let v = g.T.NameCalls.graph c.args.sight.now in
    let h = c.requires.ready in
    let now = c.args.self.now in
    let l = c.args.looked in
    inl (λ failed. outside_taken v h.0.search now.search h.1.search c.args.dart c.requires.dart l.source l.target c.requires.looked.0 c.requires.looked.1 (sym c.is_outside.ensures ∙ c.if-not-is_outside.false) (entries_in now.search.found))
