use Rattle.std.proofs.Common.{◌≡◌, refl, sym, subst, inl}
use Rattle.std.specs.Prelude.{None, IfSome}
use Rattle.exact_plane.specs.Point.{IsPoint}
use Rattle.plane_graphs.proofs.Lines.{point_is_proper}
use Rattle.dcel_records.specs.RecordsView.{graph_of, tables_of}
use Rattle.dcel_records.specs.SoundMaps.{IsSoundMap}
use Rattle.face_location.specs.Spots.{IsSpotOf}
use Rattle.locate_walk.specs.Looks.{IsBelowOrNone, MayLook}
use Rattle.locate_walk.specs.declared.highest.Highest.{Highest}
use Rattle.locate_walk.proofs.Rounds.{round_hit, round_highest, darts_seen}
use Rattle.locate_walk.proofs.round.look_round.Goals as goal

pub look_at_cycles-requires-clause-lists : goal.look_at_cycles-requires-clause-lists
look_at_cycles-requires-clause-lists g c = c.laws-2.ensures.lists c.requires.map

-- a looker that has looked at nothing may look
first_look : (k : Highest) → k.hit ≡ None → IsSoundMap k.glance.now → IsPoint k.point → IsBelowOrNone k.glance.now.graph k.point k.best → MayLook (graph_of k.glance.now) k k
first_look k hit map is below = record {
  graph = refl;
  map = map;
  glance = refl;
  face = refl;
  point = refl;
  proper = point_is_proper k.point is;
  best = below;
  hit = subst (λ o. IfSome o (IsSpotOf k.glance.now.graph (tables_of k.glance.now) k.point)) (sym hit) tt;
  raised = inl refl;
}

pub look_at_cycles-requires-clause-ready : goal.look_at_cycles-requires-clause-ready
look_at_cycles-requires-clause-ready g c =
    let k : Highest = record { glance = c.args.glance; face = c.args.face; point = c.args.point.now; hit = None; best = c.args.last } in
    (k, first_look k refl c.requires.map c.laws.ensures c.requires.last)

pub returns-in-Some-clause-round : goal.returns-in-Some-clause-round
returns-in-Some-clause-round g c =
    let k : Highest = record { glance = c.args.glance; face = c.args.face; point = c.args.point.now; hit = None; best = c.args.last } in
    let m = first_look k refl c.requires.map c.laws.ensures c.requires.last in
    round_hit (graph_of c.args.glance.now) k c.look_at_cycles.new.looker (c.look_at_cycles.ensures.ready k m) c.in-Some.spot c.in-Some.is

pub returns-in-None-clause-round : goal.returns-in-None-clause-round
returns-in-None-clause-round g c =
    let k : Highest = record { glance = c.args.glance; face = c.args.face; point = c.args.point.now; hit = None; best = c.args.last } in
    let m = first_look k refl c.requires.map c.laws.ensures c.requires.last in
    let v = graph_of c.args.glance.now in
    let l = c.look_at_cycles.new.looker in
    let n = c.look_at_cycles.ensures.ready k m in
    round_highest v k l n c.requires.map.sound.graph c.in-None.is (darts_seen v k l n c.requires.map.sound c.requires.free c.look_at_cycles.ensures.seen)
