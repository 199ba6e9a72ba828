use Rattle.std.proofs.Common.{◌≡◌, ◌<◌, true, false, sym, ap, ◌∙◌, subst}
use Rattle.plane_graphs.specs.Line.{precedes}
use Rattle.slab_laws.specs.declared.names.DartId.{DartId}
use Rattle.slab_laws.specs.View.{View, HasVertex, point_in, target_in}
use Rattle.segment_insert.specs.Coming.{LeadsTo}
use Rattle.segment_insert.specs.Coming.LeadsTo.{onward}
use Rattle.segment_insert.proofs.VerticesWalk.{leads_forward, goes_on, stops, to_pass, fewer_to_pass}
use Rattle.segment_insert.proofs.vertices.part_at.Goals as goal

pub target-requires : goal.target-requires
target-requires c = (leads_forward c.args.records.now.graph c.args.point c.parts.invariant.ahead.0 c.parts.part c.parts.invariant.ahead.1).0

pub point-requires : goal.point-requires
point-requires c =
    let v : View = c.args.records.now.graph in
    let f = leads_forward v c.args.point c.parts.invariant.ahead.0 c.parts.part c.parts.invariant.ahead.1 in
    subst (HasVertex v) (sym c.target.ensures) (c.requires.sound.linked.source _ (c.requires.sound.twinned.has c.parts.part f.0))

pub next-part-requires : goal.next-part-requires
next-part-requires c = (leads_forward c.args.records.now.graph c.args.point c.parts.invariant.ahead.0 c.parts.part c.parts.invariant.ahead.1).0

pub parts-smaller : goal.parts-smaller
parts-smaller c =
    let v : View = c.args.records.now.graph in
    let f = leads_forward v c.args.point c.parts.invariant.ahead.0 c.parts.part c.parts.invariant.ahead.1 in
    let l : precedes (point_in v (target_in v c.parts.part)) c.args.point ≡ true = (λ i. precedes (sym (c.point.ensures ∙ ap (point_in v) c.target.ensures) i) c.args.point) ∙ sym c.lt.ensures ∙ c.parts-test.true in
    subst (λ (d : DartId). to_pass v c.args.point d < to_pass v c.args.point c.parts.part) (sym c.next-part.ensures) (fewer_to_pass v c.args.point c.requires.sound c.parts.part f l)

pub parts-preserved : goal.parts-preserved
parts-preserved c =
    let v : View = c.args.records.now.graph in
    let f = leads_forward v c.args.point c.parts.invariant.ahead.0 c.parts.part c.parts.invariant.ahead.1 in
    let l : precedes (point_in v (target_in v c.parts.part)) c.args.point ≡ true = (λ i. precedes (sym (c.point.ensures ∙ ap (point_in v) c.target.ensures) i) c.args.point) ∙ sym c.lt.ensures ∙ c.parts-test.true in
    record {
      ahead = (c.parts.invariant.ahead.0, subst (λ (d : DartId). LeadsTo v c.args.point c.parts.invariant.ahead.0 d) (sym c.next-part.ensures) (goes_on v c.args.point c.requires.sound c.requires.proper c.parts.invariant.ahead.0 c.parts.part c.parts.invariant.ahead.1 l));
      back = λ e k. c.parts.invariant.back e (onward c.parts.part f l (subst (λ (d : DartId). LeadsTo v c.args.point e d) c.next-part.ensures k));
    }

pub returns : goal.returns
returns c =
    let v : View = c.args.records.now.graph in
    let l : precedes (point_in v (target_in v c.parts.part)) c.args.point ≡ false = (λ i. precedes (sym (c.point.ensures ∙ ap (point_in v) c.target.ensures) i) c.args.point) ∙ sym c.lt.ensures ∙ c.parts-test.false in
    c.parts.invariant.back c.parts.part (stops v c.args.point c.requires.sound c.requires.proper c.parts.invariant.ahead.0 c.parts.part c.parts.invariant.ahead.1 l)
