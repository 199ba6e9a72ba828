use Rattle.std.proofs.Common.{◌≡◌, Contains, sym, ap, ◌∙◌, subst, ⊎_elim, inl, inr}
use Rattle.exact_plane.specs.Point.{Point}
use Rattle.plane_graphs.specs.Ascending.{Member}
use Rattle.plane_graphs.specs.Line.{precedes}
use Rattle.std.specs.Map.{keys_of}
use Rattle.slab_laws.specs.View.{point_in}
use Rattle.zone_walk.specs.FoundPoints.{entries_in}
use Rattle.zone_walk.specs.Searches.{IsThere}
use Rattle.zone_walk.specs.Zone.{meeting_points}
use Rattle.zone_walk.proofs.Searched.{goes_on, still_seen, vertex_meets, vertex_missed}
use Rattle.zone_walk.proofs.search.look_at_vertex.Goals as goal

pub returns-in-Some-clause-ready : goal.returns-in-Some-clause-ready
returns-in-Some-clause-ready g c = λ k h.
    let v = g.T.NameCalls.graph c.args.sight.now in
    let met = c.in-Some.ensures.met in
    goes_on v (λ p. p ≡ c.in-Some.point) k c.args.search.now c.take.new.self h c.take.ensures.same c.take.ensures.gathered c.take.ensures.kept
    (λ p e. subst (λ z. Contains (meeting_points v c.args.search.now.segment) z) (sym e) (vertex_meets v k c.args.search.now h c.args.vertex c.requires.vertex c.in-Some.point met))
    (λ p z m. ⊎_elim (λ n. inl n) (λ w. inr (w.0, subst (IsThere v p) (sym w.1) (c.requires.vertex, sym met.0 ∙ sym w.0), w.2)) (c.take.ensures.only p z m))

pub returns-in-Some-clause-still : goal.returns-in-Some-clause-still
returns-in-Some-clause-still g c = λ t s. still_seen (g.T.NameCalls.graph c.args.sight.now) c.args.search.now c.take.new.self c.take.ensures.same c.take.ensures.kept t s

pub returns-in-Some-clause-seen : goal.returns-in-Some-clause-seen
returns-in-Some-clause-seen g c = λ failed.
    let v = g.T.NameCalls.graph c.args.sight.now in
    let met = c.in-Some.ensures.met in
    λ m l.
    inl
    (subst (λ (p : Point). Member p (keys_of (entries_in c.take.new.self.found))) met.0
    (c.take.ensures.taken failed (ap (precedes c.args.search.now.here) met.0 ∙ ap (λ (q : Point). precedes q (point_in v c.args.vertex)) (sym c.take.ensures.same.here) ∙ l)))

pub returns-in_default-clause-seen : goal.returns-in_default-clause-seen
returns-in_default-clause-seen g c = λ failed m l.
    let v = g.T.NameCalls.graph c.args.sight.now in
    let h = c.requires.ready in
    absurd (vertex_missed v h.0 c.args.search.now h.1 c.args.vertex c.requires.vertex c.in_default.ensures.met m)
