use Rattle.std.proofs.Common.{◌≡◌, ◌⊎◌, true, ap, ◌∙◌, subst, sym, ⊎_elim, inl, inr}
use Rattle.std.specs.Prelude.{Option, Some, None, IfSome}
use Rattle.exact_plane.specs.Point.{Point}
use Rattle.exact_plane.specs.Segment.{Segment}
use Rattle.plane_graphs.specs.Ascending.{Member}
use Rattle.plane_graphs.specs.Line.{precedes}
use Rattle.std.specs.Map.{keys_of}
use Rattle.slab_laws.specs.View.{View, HasDart}
use Rattle.slab_laws.specs.declared.names.DartId.{DartId}
use Rattle.counted_looks.specs.Looks.{IsLookOf}
use Rattle.counted_looks.specs.declared.glance.Looked.{Looked}
use Rattle.counted_looks.specs.declared.boundary_part.BoundaryPart.TheVariants.{Dart}
use Rattle.dcel_records.specs.declared.spot.Spot.TheVariants.{Edge}
use Rattle.zone_walk.specs.FoundPoints.{entries_in}
use Rattle.zone_walk.specs.Searches.{IsOnEdge, IsPartTaken, IsSearchFrom}
use Rattle.zone_walk.specs.Sights.{IsSoundLook}
use Rattle.zone_walk.specs.declared.search.Search.{Search}
use Rattle.zone_walk.proofs.Searched.{both_takes, goes_on, one_on, kept_on, still_seen, is_point, dart_taken, none_taken}
use Rattle.zone_walk.proofs.search.take_on_dart.Goals as goal

-- what holds of each point that there may be
if_some : (P : Point → Type 0) (o : Option Point) → ((p : Point) → o ≡ Some p → P p) → IfSome o P
if_some P None f = tt
if_some P (Some p) f = f p (λ i. Some p)

some_of : (P : Point → Type 0) (o : Option Point) (p : Point) → o ≡ Some p → IfSome o P → P p
some_of P o p e h = subst (λ (x : Option Point). IfSome x P) e h

-- a look at a dart in the search's view
sound_look : (v : View) (o k : Search) → IsSearchFrom v o k → (d : DartId) → HasDart v d → (l : Looked) → IsLookOf v (Edge d) l → IsSoundLook v d l
sound_look v o k h d has l look = record { sound = h.sound; has = has; look = look }

pub points_on_edge-requires : goal.points_on_edge-requires
points_on_edge-requires g c =
    let h = c.requires.ready in
    (g.T.NameCalls.graph c.args.sight.now, c.args.dart, sound_look (g.T.NameCalls.graph c.args.sight.now) h.0 c.args.search.now h.1 c.args.dart c.requires.dart c.args.looked.now c.requires.looked)

pub take_on-requires-clause-source : goal.take_on-requires-clause-source
take_on-requires-clause-source g c =
    let v = g.T.NameCalls.graph c.args.sight.now in
    let h = c.requires.ready in
    (c.in-Some.ensures v c.args.dart (sound_look v h.0 c.args.search.now h.1 c.args.dart c.requires.dart c.args.looked.now c.requires.looked)).source

pub take_on-requires-clause-target : goal.take_on-requires-clause-target
take_on-requires-clause-target g c =
    let v = g.T.NameCalls.graph c.args.sight.now in
    let h = c.requires.ready in
    (c.in-Some.ensures v c.args.dart (sound_look v h.0 c.args.search.now h.1 c.args.dart c.requires.dart c.args.looked.now c.requires.looked)).target

pub take_on-requires-in-Some-clause-source : goal.take_on-requires-in-Some-clause-source
take_on-requires-in-Some-clause-source g c =
    let v = g.T.NameCalls.graph c.args.sight.now in
    let h = c.requires.ready in
    (c.in-Some.ensures v c.args.dart (sound_look v h.0 c.args.search.now h.1 c.args.dart c.requires.dart c.args.looked.now c.requires.looked)).source

pub take_on-requires-in-Some-clause-target : goal.take_on-requires-in-Some-clause-target
take_on-requires-in-Some-clause-target g c =
    let v = g.T.NameCalls.graph c.args.sight.now in
    let h = c.requires.ready in
    (c.in-Some.ensures v c.args.dart (sound_look v h.0 c.args.search.now h.1 c.args.dart c.requires.dart c.args.looked.now c.requires.looked)).target

pub take_on-requires-clause-on : goal.take_on-requires-clause-on
take_on-requires-clause-on g c =
    let v = g.T.NameCalls.graph c.args.sight.now in
    let h = c.requires.ready in
    let p : Point = c.in-Some.common.first in
    (is_point v h.0 c.args.search.now h.1 c.args.dart c.requires.dart c.in-Some.common (c.in-Some.ensures v c.args.dart (sound_look v h.0 c.args.search.now h.1 c.args.dart c.requires.dart c.args.looked.now c.requires.looked)) p (inl (λ i. Some p))).1

pub take_on-requires-in-Some-clause-on : goal.take_on-requires-in-Some-clause-on
take_on-requires-in-Some-clause-on g c =
    let v = g.T.NameCalls.graph c.args.sight.now in
    let h = c.requires.ready in
    if_some (IsOnEdge v c.args.dart) c.in-Some.common.last (λ p e. (is_point v h.0 c.args.search.now h.1 c.args.dart c.requires.dart c.in-Some.common (c.in-Some.ensures v c.args.dart (sound_look v h.0 c.args.search.now h.1 c.args.dart c.requires.dart c.args.looked.now c.requires.looked)) p (inr e)).1)

pub returns-in-Some-clause-ready : goal.returns-in-Some-clause-ready
returns-in-Some-clause-ready g c = λ k h.
    let v = g.T.NameCalls.graph c.args.sight.now in
    let first : Point = c.in-Some.common.first in
    let last : Option Point = c.in-Some.common.last in
    goes_on v (λ p. (Some first ≡ Some p) ⊎ (last ≡ Some p)) k c.args.search.now c.take_on-in-Some.new.search h
    (one_on c.args.search.now c.take_on.new.search c.take_on-in-Some.new.search c.take_on.ensures.same c.take_on-in-Some.ensures.same)
    (c.take_on-in-Some.ensures.gathered ∙ c.take_on.ensures.gathered)
    (kept_on (entries_in c.args.search.now.found) (entries_in c.take_on.new.search.found) (entries_in c.take_on-in-Some.new.search.found) c.take_on.ensures.kept c.take_on-in-Some.ensures.kept)
    (λ p e. (is_point v k c.args.search.now h c.args.dart c.requires.dart c.in-Some.common (c.in-Some.ensures v c.args.dart (sound_look v k c.args.search.now h c.args.dart c.requires.dart c.args.looked.now c.requires.looked)) p e).0)
    (both_takes v (λ p. Some first ≡ Some p) (λ p. last ≡ Some p) (λ p. (Some first ≡ Some p) ⊎ (last ≡ Some p)) c.args.search.now c.take_on.new.search c.take_on-in-Some.new.search c.take_on.ensures.same c.take_on.ensures.only c.take_on-in-Some.ensures.only
    (λ p e. inl e) (λ p e. inr e))

pub returns-in-Some-clause-still : goal.returns-in-Some-clause-still
returns-in-Some-clause-still g c = λ t s.
    still_seen (g.T.NameCalls.graph c.args.sight.now) c.args.search.now c.take_on-in-Some.new.search
    (one_on c.args.search.now c.take_on.new.search c.take_on-in-Some.new.search c.take_on.ensures.same c.take_on-in-Some.ensures.same)
    (kept_on (entries_in c.args.search.now.found) (entries_in c.take_on.new.search.found) (entries_in c.take_on-in-Some.new.search.found) c.take_on.ensures.kept c.take_on-in-Some.ensures.kept) t s

pub returns-in-Some-clause-seen : goal.returns-in-Some-clause-seen
returns-in-Some-clause-seen g c = λ failed.
    let v = g.T.NameCalls.graph c.args.sight.now in
    let h = c.requires.ready in
    let last : Option Point = c.in-Some.common.last in
    let one = one_on c.args.search.now c.take_on.new.search c.take_on-in-Some.new.search c.take_on.ensures.same c.take_on-in-Some.ensures.same in
    subst (λ (z : Segment). IsPartTaken v z c.take_on-in-Some.new.search.here (entries_in c.take_on-in-Some.new.search.found) (Dart c.args.dart)) (sym one.segment)
    (subst (λ (z : Point). IsPartTaken v c.args.search.now.segment z (entries_in c.take_on-in-Some.new.search.found) (Dart c.args.dart)) (sym one.here)
    (dart_taken v h.0 c.args.search.now h.1 c.args.dart c.requires.dart c.in-Some.common (c.in-Some.ensures v c.args.dart (sound_look v h.0 c.args.search.now h.1 c.args.dart c.requires.dart c.args.looked.now c.requires.looked)) (entries_in c.take_on-in-Some.new.search.found)
    (λ p o l.
    ⊎_elim
    (λ e. c.take_on-in-Some.ensures.kept p (some_of (λ q. precedes c.args.search.now.here q ≡ true → Member q (keys_of (entries_in c.take_on.new.search.found))) (Some c.in-Some.common.first) p e (c.take_on.ensures.taken (c.take_on-in-Some.ensures.same.failed failed)) l))
    (λ e. some_of (λ q. precedes c.take_on.new.search.here q ≡ true → Member q (keys_of (entries_in c.take_on-in-Some.new.search.found))) last p e (c.take_on-in-Some.ensures.taken failed) (ap (λ (x : Point). precedes x p) c.take_on.ensures.same.here ∙ l))
    o)))

pub returns-in_default-clause-seen : goal.returns-in_default-clause-seen
returns-in_default-clause-seen g c = λ failed.
    let v = g.T.NameCalls.graph c.args.sight.now in
    let h = c.requires.ready in
    let met = c.in_default.ensures v c.args.dart (sound_look v h.0 c.args.search.now h.1 c.args.dart c.requires.dart c.args.looked.now c.requires.looked) in
    none_taken v h.0 c.args.search.now h.1 c.args.dart c.requires.dart met.0 met.1 (entries_in c.args.search.now.found)
