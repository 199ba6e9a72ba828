use Rattle.std.proofs.Common.{◌≡◌, ℕ, Bool, refl, ap, ◌∙◌, subst}
use Rattle.std.specs.Bool.{OnFalse}
use Rattle.std.specs.BTreeSet.{BTreeSet, contains}
use Rattle.std.specs.Ordering.{nat_cmp}
use Rattle.slab_laws.specs.View.{Faces}
use Rattle.slab_laws.specs.declared.names.FaceId.{FaceId}
use Rattle.zone_walk.specs.Searches.{HasLooked}
use Rattle.zone_walk.specs.declared.search.Search.{Search}
use Rattle.zone_walk.proofs.Nexts.{from_itself, visited_same, visited_one, with_visited}
use Rattle.zone_walk.proofs.Visited.{all_seen}
use Rattle.zone_walk.proofs.walk.visit.Goals as goal

pub returns-then-not-is_first-clause-search : goal.returns-then-not-is_first-clause-search
returns-then-not-is_first-clause-search g c =
    let at = c.requires.search in
    record {
      graph = at.graph;
      faces = at.faces;
      search = visited_same (g.T.NameCalls.graph c.args.sight.now) (g.T.NameCalls.faces c.args.sight.now) c.args.looker.now.search at.search c.insert.new.self (subst (λ (b : Bool). OnFalse b (c.insert.new.self.keys ≡ c.args.looker.now.search.visited.keys)) c.if-not-is_first.true c.in_ok-is_first.ensures.unchanged);
    }

pub look_at_face-requires-clause-ready : goal.look_at_face-requires-clause-ready
look_at_face-requires-clause-ready g c =
    let v = g.T.NameCalls.graph c.args.sight.now in
    let at = c.requires.search in
    let l : Search = with_visited c.args.looker.now.search c.insert.new.self in (
      record { sight = c.args.looker.now.sight; face = c.args.face; entry = c.args.entry; search = l },
      record { graph = at.graph; faces = refl; face = refl; behind = c.requires.entry; search = from_itself v c.args.looker.now.search c.insert.new.self at.search.search },
    )

pub returns-clause-search : goal.returns-clause-search
returns-clause-search g c =
    let v = g.T.NameCalls.graph c.args.sight.now in
    let f = g.T.NameCalls.faces c.args.sight.now in
    let m : Search = c.look_at_face.new.looker.search in
    let at = c.requires.search in
    let l : Search = with_visited c.args.looker.now.search c.insert.new.self in
    let ready =
    c.in_ok-look_at_face.ensures.ready (record { sight = c.args.looker.now.sight; face = c.args.face; entry = c.args.entry; search = l })
    (record { graph = at.graph; faces = refl; face = refl; behind = c.requires.entry; search = from_itself v c.args.looker.now.search c.insert.new.self at.search.search }) in
    let faces = ready.faces ∙ at.faces in
    record {
      graph = ready.graph;
      faces = faces;
      search =
          visited_one v f c.args.looker.now.search at.search c.insert.new.self m c.args.face ready.search
          (all_seen v c.requires.sound.graph f c.args.face m
          (λ t o. subst (λ (a : FaceId). HasLooked v f a m t) ready.face (subst (λ (z : Faces). HasLooked v z c.look_at_face.new.looker.face m t) faces (c.in_ok-look_at_face.ensures.seen t o))))
          c.if-looker.false c.in_ok-is_first.ensures.updates.0;
    }

pub returns-clause-visited : goal.returns-clause-visited
returns-clause-visited g c =
    let v = g.T.NameCalls.graph c.args.sight.now in
    let l : Search = with_visited c.args.looker.now.search c.insert.new.self in
    let ready =
    c.in_ok-look_at_face.ensures.ready (record { sight = c.args.looker.now.sight; face = c.args.face; entry = c.args.entry; search = l })
    (record { graph = c.requires.search.graph; faces = refl; face = refl; behind = c.requires.entry; search = from_itself v c.args.looker.now.search c.insert.new.self c.requires.search.search.search }) in
    ap (λ (z : BTreeSet ℕ). contains nat_cmp z c.args.face.0) ready.search.one.visited ∙ c.in_ok-is_first.ensures.updates.1
