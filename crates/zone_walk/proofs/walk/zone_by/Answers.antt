use Rattle.std.proofs.Common.{◌≡◌, ◌≤◌, ◌+◌, ◌*◌, ℕ, arith, refl, sym, ap, ◌∙◌, subst, List, [], ◌∷◌, ◌++◌, length}
use Rattle.exact_plane.specs.Point.{Point}
use Rattle.exact_plane.specs.Segment.{Segment}
use Rattle.plane_graphs.specs.Line.{precedes}
use Rattle.plane_graphs.proofs.Order.{lt_out}
use Rattle.zone_walk.specs.Walk.{IsNextOf, stop_looks}
use Rattle.zone_walk.specs.Zone.{is_on_segment, later_points, meeting_points, IsNextMeeting, IsSpotBetween}
use Rattle.counted_looks.specs.Boundaries.{boundary_size}
use Rattle.dcel_records.specs.declared.spot.Spot.TheVariants.{Face}
use Rattle.zone_walk.specs.declared.plan.Meeting.{Meeting}
use Rattle.zone_walk.proofs.Counted.{begins, goes_on, in_all}
use Rattle.std.specs.List.{sum_by}
use Rattle.slab_laws.specs.Sound.{IsGraphSound}
use Rattle.slab_laws.specs.View.{View}
use Rattle.zone_walk.specs.Zone.{degree_at, edges_met}
use Rattle.zone_walk.proofs.EdgeLooks.{looks_fit}
use Rattle.zone_walk.proofs.Courses.{IsCourse, course, lies_in}
use Rattle.zone_walk.proofs.Nexts.{next_one}
use Rattle.zone_walk.proofs.Stretches.{told, meets_lies, meets_proper, one_next}
use Rattle.zone_walk.proofs.Walked.{starts, continues, zone_done, fewer_later}
use Rattle.zone_walk.proofs.Zoned.{began, at_itself}
use Rattle.zone_walk.proofs.walk.zone_by.Goals as goal

in_bound : (v : View) → IsGraphSound v → (s : Segment) → IsCourse s → (start now n : ℕ) → now ≤ start + (n + sum_by (stop_looks v s) (meeting_points v s)) → now ≤ start + (n + (sum_by (degree_at v) (meeting_points v s) + 2 * edges_met v s))
in_bound v S s k start now n h = let a = looks_fit v S s k in omega arith

pub walk-init : goal.walk-init
walk-init g c =
    let v = g.T.NameCalls.graph c.args.sight.now in
    let f = g.T.NameCalls.faces c.args.sight.now in
    let s : Segment = c.args.segment.now in
    let S = c.requires.sound.graph in
    let k = course s c.lower-point.ensures.ends in
    let walked =
    starts v f S s k c.args.start c.requires.start c.lower-point.result c.lower-point.result c.lower-point.ensures.value c.lower-point.ensures.value c.push.new.self c.new-2.result c.new-3.result
    (c.in_ok-push.ensures.added ∙ ap (λ (ms : List Meeting). ms ++ (record { point = c.lower-point.result; spot = c.args.start } ∷ [])) c.new.ensures) c.new-2.ensures c.new-3.ensures in
    let alone =
    starts v f S s k c.args.start c.requires.start s.lower s.lower refl refl (record { point = s.lower; spot = c.args.start } ∷ []) [] [] refl refl refl in
    record {
      walked = walked;
      at = record { graph = refl; faces = refl; search = began v f S s c.begin.result c.lower-point.result c.lower-point.ensures.value c.begin.ensures.segment c.begin.ensures.here c.begin.ensures.found c.begin.ensures.visited c.begin.ensures.gathered c.begin.ensures.ends c.begin.ensures.whole c.begin.ensures.bounds };
      counted = begins v f s c.args.steps.now c.lower-point.result (subst (λ (p : Point). p ∷ later_points v s p ≡ meeting_points v s) (sym c.lower-point.ensures.value) alone.points);
    }

pub onward-requires-clause-search : goal.onward-requires-clause-search
onward-requires-clause-search g c =
    let v = g.T.NameCalls.graph c.args.sight.now in
    let f = g.T.NameCalls.faces c.args.sight.now in
    let at = c.walk.invariant.at in
    record { graph = at.graph; faces = at.faces; search = at_itself v f c.requires.sound.graph c.args.segment.now c.walk.looker.search c.walk.point at.search }

pub onward-requires-clause-here : goal.onward-requires-clause-here
onward-requires-clause-here g c = c.walk.invariant.at.search.here

pub onward-requires-clause-spot : goal.onward-requires-clause-spot
onward-requires-clause-spot g c = c.walk.invariant.walked.here_spot

pub onward-requires-clause-on : goal.onward-requires-clause-on
onward-requires-clause-on g c =
    let v = g.T.NameCalls.graph c.args.sight.now in
    let s : Segment = c.args.segment.now in
    let S = c.requires.sound.graph in
    let k = course s c.lower-point.ensures.ends in
    ap (λ (z : Segment). is_on_segment z c.walk.point) c.walk.invariant.at.search.segment ∙ lies_in s c.walk.point (meets_lies v S s k c.walk.point (told v S s k c.walk.point c.walk.invariant.walked.meets))

pub onward-requires-clause-before : goal.onward-requires-clause-before
onward-requires-clause-before g c =
    ap (λ (z : Segment). precedes c.walk.point z.upper) c.walk.invariant.at.search.segment ∙ ap (precedes c.walk.point) (sym c.upper-upper.ensures) ∙ sym c.lt.ensures ∙ c.walk-test.true

pub returns-in_err-part-clause-looks : goal.returns-in_err-part-clause-looks
returns-in_err-part-clause-looks g c = λ n h.
    let v = g.T.NameCalls.graph c.args.sight.now in
    let f = g.T.NameCalls.faces c.args.sight.now in
    let s : Segment = c.args.segment.now in
    let S = c.requires.sound.graph in
    let k = course s c.lower-point.ensures.ends in
    let p = c.walk.point in
    let m = told v S s k p c.walk.invariant.walked.meets in
    let on = meets_lies v S s k p m in
    let before = lt_out p s.upper (ap (precedes p) (sym c.upper-upper.ensures) ∙ sym c.lt.ensures ∙ c.walk-test.true) in
    let z = next_one v f c.requires.sound s k p (meets_proper v S s k p m) on before in
    let looks = subst (λ (w : Segment). (n : _) → ((q : Point) (a : _) → IsNextMeeting v w p q → IsSpotBetween v f w p q (Face a) → boundary_size v f a ≤ n) → c.onward.new.steps ≤ c.walk.steps + (stop_looks v w p + n)) c.walk.invariant.at.search.segment c.in_err-part.ensures.looks in
    in_bound v c.requires.sound.graph s k c.args.steps.now c.onward.new.steps n (in_all v f s c.args.steps.now c.onward.new.steps z.0
    (goes_on v f s c.args.steps.now c.walk.steps c.onward.new.steps p z.0 c.walk.invariant.counted (fewer_later v f S s k p z.0 z.1) (λ r i. one_next v S s k p on r z.0 i z.1) looks) n h)

pub walk-smaller : goal.walk-smaller
walk-smaller g c =
    let v = g.T.NameCalls.graph c.args.sight.now in
    let f = g.T.NameCalls.faces c.args.sight.now in
    let s : Segment = c.args.segment.now in
    let S = c.requires.sound.graph in
    let k = course s c.lower-point.ensures.ends in
    let p = c.walk.point in
    let q = c.in_ok-part.next_point in
    let next = subst (λ (w : Segment). IsNextOf v f w p c.in_ok-part.part (record { point = q; spot = c.in_ok-part.next_spot }) c.onward.new.looker.search) c.walk.invariant.at.search.segment c.in_ok-part.ensures.next in
    let e = ap (λ (ps : List Point). length ps) (fewer_later v f S s k p q next.stretch.stretch.next) in
    omega arith

pub walk-preserved : goal.walk-preserved
walk-preserved g c =
    let v = g.T.NameCalls.graph c.args.sight.now in
    let f = g.T.NameCalls.faces c.args.sight.now in
    let s : Segment = c.args.segment.now in
    let S = c.requires.sound.graph in
    let k = course s c.lower-point.ensures.ends in
    let p = c.walk.point in
    let q = c.in_ok-part.next_point in
    let there : Meeting = record { point = q; spot = c.in_ok-part.next_spot } in
    let on = meets_lies v S s k p (told v S s k p c.walk.invariant.walked.meets) in
    let before = lt_out p s.upper (ap (precedes p) (sym c.upper-upper.ensures) ∙ sym c.lt.ensures ∙ c.walk-test.true) in
    let next = subst (λ (w : Segment). IsNextOf v f w p c.in_ok-part.part there c.onward.new.looker.search) c.walk.invariant.at.search.segment c.in_ok-part.ensures.next in
    let looks = subst (λ (w : Segment). (n : _) → ((q : Point) (a : _) → IsNextMeeting v w p q → IsSpotBetween v f w p q (Face a) → boundary_size v f a ≤ n) → c.onward.new.steps ≤ c.walk.steps + (stop_looks v w p + n)) c.walk.invariant.at.search.segment c.in_ok-part.ensures.looks in
    record {
      walked =
          continues v f S s k c.walk.plan.vertices c.walk.plan.between c.walk.plan.overlapped p c.walk.spot c.walk.invariant.walked before c.in_ok-part.part there next.stretch next.spot
          c.extend.new.plan.vertices c.extend.new.plan.between c.extend.new.plan.overlapped c.in_ok-extend.ensures.vertices c.in_ok-extend.ensures.between c.in_ok-extend.ensures.overlapped;
      at = record { graph = c.in_ok-part.ensures.graph; faces = c.in_ok-part.ensures.faces; search = next.search };
      counted = goes_on v f s c.args.steps.now c.walk.steps c.onward.new.steps p q c.walk.invariant.counted (fewer_later v f S s k p q next.stretch.stretch.next) (λ r i. one_next v S s k p on r q i next.stretch.stretch.next) looks;
    }

pub returns-in_err-extend-clause-looks : goal.returns-in_err-extend-clause-looks
returns-in_err-extend-clause-looks g c = λ n h.
    let v = g.T.NameCalls.graph c.args.sight.now in
    let f = g.T.NameCalls.faces c.args.sight.now in
    let s : Segment = c.args.segment.now in
    let S = c.requires.sound.graph in
    let k = course s c.lower-point.ensures.ends in
    let p = c.walk.point in
    let q = c.in_ok-part.next_point in
    let there : Meeting = record { point = q; spot = c.in_ok-part.next_spot } in
    let on = meets_lies v S s k p (told v S s k p c.walk.invariant.walked.meets) in
    let next = subst (λ (w : Segment). IsNextOf v f w p c.in_ok-part.part there c.onward.new.looker.search) c.walk.invariant.at.search.segment c.in_ok-part.ensures.next in
    let looks = subst (λ (w : Segment). (n : _) → ((q : Point) (a : _) → IsNextMeeting v w p q → IsSpotBetween v f w p q (Face a) → boundary_size v f a ≤ n) → c.onward.new.steps ≤ c.walk.steps + (stop_looks v w p + n)) c.walk.invariant.at.search.segment c.in_ok-part.ensures.looks in
    in_bound v c.requires.sound.graph s k c.args.steps.now c.onward.new.steps n (in_all v f s c.args.steps.now c.onward.new.steps q
    (goes_on v f s c.args.steps.now c.walk.steps c.onward.new.steps p q c.walk.invariant.counted (fewer_later v f S s k p q next.stretch.stretch.next) (λ r i. one_next v S s k p on r q i next.stretch.stretch.next) looks) n h)

pub returns-clause-zone : goal.returns-clause-zone
returns-clause-zone g c =
    let v = g.T.NameCalls.graph c.args.sight.now in
    let f = g.T.NameCalls.faces c.args.sight.now in
    let s : Segment = c.args.segment.now in
    let k = course s c.lower-point.ensures.ends in
    zone_done v f c.requires.sound.graph s k
    (record { vertices = c.walk.plan.vertices; between = c.walk.plan.between; overlapped = c.walk.plan.overlapped; room = c.room_for-plan.result })
    c.walk.point c.walk.spot c.walk.invariant.walked (ap (precedes c.walk.point) (sym c.upper-upper.ensures) ∙ sym c.lt.ensures ∙ c.walk-test.false)
    c.room_for-plan.ensures.vertices c.room_for-plan.ensures.edges c.room_for-plan.ensures.cycles c.room_for-plan.ensures.faces

pub returns-clause-looks : goal.returns-clause-looks
returns-clause-looks g c = λ n h.
    let v = g.T.NameCalls.graph c.args.sight.now in
    let s : Segment = c.args.segment.now in
    in_bound v c.requires.sound.graph s (course s c.lower-point.ensures.ends) c.args.steps.now c.walk.steps n
    (in_all v (g.T.NameCalls.faces c.args.sight.now) s c.args.steps.now c.walk.steps c.walk.point c.walk.invariant.counted n h)
