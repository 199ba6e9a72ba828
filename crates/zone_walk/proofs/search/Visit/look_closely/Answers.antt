use Rattle.std.proofs.Common.{subst, inl, ⊎_elim}
use Rattle.zone_walk.specs.FoundPoints.{entries_in}
use Rattle.zone_walk.specs.Searches.{IsBehind}
use Rattle.zone_walk.proofs.Searched.{entry_taken, here_taken, none_taken}
use Rattle.zone_walk.proofs.SeenSpans.{told_line}
use Rattle.zone_walk.proofs.Visited.{looked_on, visit_on}
use Rattle.zone_walk.proofs.search.Visit.look_closely.Goals as goal

pub returns-then-is_behind-clause-seen : goal.returns-then-is_behind-clause-seen
returns-then-is_behind-clause-seen g c =
    let v = g.T.NameCalls.graph c.args.sight.now in
    let now = c.args.self.now in
    let h = c.requires.ready in
    ⊎_elim
    (λ e. inl (λ failed. entry_taken v h.0.search now.search h.1.search c.args.dart c.requires.dart (subst (IsBehind v h.0.search.segment h.0.search.here) e h.1.behind) (entries_in now.search.found)))
    (λ passes. inl (λ failed. here_taken v h.0.search now.search h.1.search c.args.dart c.requires.dart c.line.result (told_line c.args.looked.line _ _ c.line.ensures c.requires.looked.2) passes (entries_in now.search.found)))
    (c.is_behind.ensures c.if-is_behind.true)

pub returns-then-is_ruled_out-clause-seen : goal.returns-then-is_ruled_out-clause-seen
returns-then-is_ruled_out-clause-seen g c =
    let v = g.T.NameCalls.graph c.args.sight.now in
    let now = c.args.self.now in
    let h = c.requires.ready in
    let met = c.is_ruled_out.ensures v c.args.dart (record { sound = h.1.search.sound; has = c.requires.dart; look = c.requires.looked }) c.if-is_ruled_out.true in
    inl (λ failed. none_taken v h.0.search now.search h.1.search c.args.dart c.requires.dart met.0 met.1 (entries_in now.search.found))

pub returns-clause-ready : goal.returns-clause-ready
returns-clause-ready g c = λ k i.
    let v = g.T.NameCalls.graph c.args.sight.now in
    let now = c.args.self.now in
    visit_on v (g.T.NameCalls.graph now.sight.now) (g.T.NameCalls.faces k.sight.now) (g.T.NameCalls.faces now.sight.now) k.face now.face now.entry k.search now.search c.take_on_dart.new.search (c.take_on_dart.ensures.ready k.search) i

pub returns-clause-seen : goal.returns-clause-seen
returns-clause-seen g c = inl c.take_on_dart.ensures.seen

pub returns-clause-still : goal.returns-clause-still
returns-clause-still g c =
    looked_on (g.T.NameCalls.graph c.args.sight.now) (g.T.NameCalls.faces c.args.self.now.sight.now) c.args.self.now.face c.args.self.now.search c.take_on_dart.new.search c.take_on_dart.ensures.still
