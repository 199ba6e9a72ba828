use Rattle.std.proofs.Common.{◌≡◌, ◌⊎◌, true, false, refl, sym, ap, ◌∙◌, inl, inr}
use Rattle.exact_plane.specs.Point.{Point}
use Rattle.plane_graphs.specs.Line.{precedes}
use Rattle.plane_graphs.proofs.Order.{lt_out}
use Rattle.slab_laws.specs.declared.names.VertexId.{VertexId}
use Rattle.slab_laws.specs.View.{target_in}
use Rattle.dcel_records.specs.declared.spot.Spot.TheVariants.{Vertex, Edge}
use Rattle.zone_walk.specs.declared.plan.Meeting.{Meeting}
use Rattle.zone_walk.specs.declared.search.Search.{Search}
use Rattle.zone_walk.proofs.Courses.{course, lies_out}
use Rattle.zone_walk.proofs.Nexts.{moved, along_next}
use Rattle.zone_walk.proofs.walk.next_along.Goals as goal
use Rattle.zone_walk.proofs.walk.next_along.Goals.{then-lt, else-lt}

pub returns : goal.returns
returns g c =
    let v = g.T.NameCalls.graph c.args.sight.now in
    let f = g.T.NameCalls.faces c.args.sight.now in
    let l : Search = c.args.search.now in
    let s = l.segment in
    let p = l.here in
    let q = c.if-lt.next.point in
    let k = course s c.requires.search.search.ends in
    let next : Meeting = record { point = c.if-lt.next.point; spot = c.if-lt.next.spot } in
    let either : ((next ≡ record { point = s.upper; spot = Edge c.args.dart }) × (precedes s.upper c.args.end ≡ true)) ⊎ ((w : VertexId) × (next ≡ record { point = c.args.end; spot = Vertex w }) × (precedes s.upper c.args.end ≡ false) × (w ≡ target_in v c.args.dart)) =
    elim c.if-lt.branch [
      | then-lt w ↦ inl (w.next-is ∙ ap (λ (x : Point). record { point = x; spot = Edge c.args.dart }) c.upper-upper.ensures, ap (λ (x : Point). precedes x c.args.end) (sym c.upper-upper.ensures) ∙ sym c.lt.ensures ∙ w.if-lt.true)
      | else-lt w ↦ inr (w.target.result, w.next-is, ap (λ (x : Point). precedes x c.args.end) (sym c.upper-upper.ensures) ∙ sym c.lt.ensures ∙ w.if-lt.false, w.target.ensures)
    ] in
    let w = along_next v f c.requires.sound.graph s k p (lies_out s p c.requires.on) (lt_out p s.upper c.requires.before) c.args.dart c.requires.part.0 next c.args.end c.requires.part.1 either in
    record {
      stretch = w.0;
      spot = w.1;
      search =
          moved v f s l (record { alloc = l.alloc; segment = l.segment; whole = l.whole; bounds = l.bounds; here = q; found = c.remove.new.self; visited = l.visited; gathered = l.gathered; failed = l.failed }) p q c.requires.search w.0.stretch.next refl refl refl refl refl refl
          c.remove.ensures.only
          c.remove.ensures.kept;
    }
