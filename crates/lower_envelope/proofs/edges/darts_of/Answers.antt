use Rattle.std.proofs.Common.{◌∙◌, ap, sym, rules}
use Rattle.slab_laws.specs.View.{dart_id}
use Rattle.lower_envelope.specs.Edges.{is_rightward, outward_in}
use Rattle.lower_envelope.proofs.Told.{mapped_kept, mapped_left, mapped_all}
use Rattle.lower_envelope.proofs.edges.darts_of.Goals as goal
use Rattle.lower_envelope.proofs.edges.darts_of.Goals.{then-runs_right+in_ok-push, else-runs_right}

pub loop-name-init : goal.loop-name-init
loop-name-init g c = search rules

pub loop-name-preserved : goal.loop-name-preserved
loop-name-preserved g c =
    let v = g.R.Darts.graph c.args.records.now in
    let p = is_rightward v in
    let f = outward_in c.args.which v in
    let x = c.inward-dart.result in
    elim c.if-runs_right.branch [
      | then-runs_right+in_ok-push w ↦ mapped_kept p f c.args.boundary.now c.loop-name.name-index (dart_id 0) x c.loop-name-test.true c.inward-dart.ensures.inward c.loop-name.darts.items c.if-runs_right.darts.items (sym c.runs_right.ensures ∙ w.if-runs_right.true) c.loop-name.invariant (ap (λ x. x.items) w.darts-is ∙ w.in_ok-push.ensures.items)
      | else-runs_right w ↦ mapped_left p f c.args.boundary.now c.loop-name.name-index (dart_id 0) x c.loop-name-test.true c.inward-dart.ensures.inward c.loop-name.darts.items c.if-runs_right.darts.items (sym c.runs_right.ensures ∙ w.if-runs_right.false) c.loop-name.invariant (ap (λ x. x.items) w.darts-is)
    ]

pub returns : goal.returns
returns g c =
    let v = g.R.Darts.graph c.args.records.now in
    c.loop-name.invariant ∙ mapped_all (is_rightward v) (outward_in c.args.which v) c.args.boundary.now c.loop-name.name-index c.loop-name-test.false
