use Rattle.std.proofs.Common.{◌≡◌, refl, sym, ap, ◌∙◌, subst, List, []}
use Rattle.std.specs.Map.{keys_of}
use Rattle.exact_plane.specs.Point.{Point}
use Rattle.plane_graphs.specs.Ascending.{Member}
use Rattle.plane_graphs.proofs.Lines.{point_is_proper}
use Rattle.plane_graphs.proofs.Order.{Lt, lt_out, lt_never}
use Rattle.dcel_records.specs.declared.spot.Spot.{Spot}
use Rattle.dcel_records.specs.declared.spot.Spot.TheVariants.{Face}
use Rattle.zone_walk.specs.FoundPoints.{entries_in}
use Rattle.zone_walk.specs.Searches.{AreFoundAfter}
use Rattle.zone_walk.specs.Walk.{IsNextOf}
use Rattle.zone_walk.specs.declared.plan.Meeting.{Meeting}
use Rattle.zone_walk.specs.declared.search.Search.{Search}
use Rattle.zone_walk.proofs.Courses.{course, lies_out}
use Rattle.zone_walk.proofs.Entries.{key_of_entry}
use Rattle.zone_walk.proofs.Nexts.{moved, face_stretch, first_is_next, none_is_upper, spot_there}
use Rattle.zone_walk.proofs.walk.next_inside.Goals as goal
use Rattle.zone_walk.proofs.walk.next_inside.Goals.{in-Some, in-None}

pub returns : goal.returns
returns g c =
    let v = g.T.NameCalls.graph c.args.sight.now in
    let f = g.T.NameCalls.faces c.args.sight.now in
    let S = c.requires.sound in
    let l : Search = c.args.search.now in
    let s = l.segment in
    let p = l.here in
    let old : List (Point × Spot) = entries_in l.found in
    let k = course s c.requires.search.search.ends in
    let proper = point_is_proper p c.laws.ensures in
    let on = lies_out s p c.requires.on in
    let before = lt_out p s.upper c.requires.before in
    let none = c.requires.part.0 in
    let tells = c.requires.part.1 in
    let found : AreFoundAfter v s p old = c.requires.search.search.found in
    let taken = c.requires.search.visited c.args.face c.requires.visited in
    let now : Meeting → Search = λ m. record { alloc = l.alloc; segment = s; whole = l.whole; bounds = l.bounds; here = m.point; found = c.pop_first.new.self; visited = l.visited; gathered = l.gathered; failed = l.failed } in
    elim c.match-pop_first.branch [
      | in-Some w ↦
          let m = w.in-Some.first in
          let h = w.in-Some.ensures.first in
          let n = first_is_next v f S s k p proper on before c.args.face none tells old found taken m (entries_in c.pop_first.new.self) h in
          subst (λ (m : Meeting). IsNextOf v f s p (Face c.args.face) m (now m)) (sym w.next-is)
          (record {
            stretch = face_stretch v f S s k p proper on before c.args.face none tells m.point n;
            spot = spot_there v f s p m.point m.spot (found m.point m.spot h.there);
            search =
                moved v f s l (now m) p m.point c.requires.search n refl refl refl refl refl refl
                (λ r z i. (h.only r z i, λ e. lt_never (subst (Lt m.point) e (lt_out m.point r (h.before r (key_of_entry (entries_in c.pop_first.new.self) r z i))))))
                h.kept;
          })
      | in-None w ↦
          let empty : old ≡ [] = w.in-None.ensures.none.0 in
          let left : entries_in c.pop_first.new.self ≡ [] = w.in-None.ensures.none.1 in
          let u = none_is_upper v f S s k p proper on before c.args.face none tells old found taken empty in
          subst (λ (m : Meeting). IsNextOf v f s p (Face c.args.face) m (now m)) (sym (w.next-is ∙ ap (λ (x : Point). record { point = x; spot = Face c.args.face }) w.upper.ensures))
          (record {
            stretch = face_stretch v f S s k p proper on before c.args.face none tells s.upper u.0;
            spot = u.1;
            search =
                moved v f s l (now (record { point = s.upper; spot = Face c.args.face })) p s.upper c.requires.search u.0 refl refl refl refl refl refl
                (λ r z i. absurd (subst (λ (es : List (Point × Spot)). Member (r, z) es) left i))
                (λ r i d. absurd (subst (λ (es : List (Point × Spot)). Member r (keys_of es)) empty i));
          })
    ]
