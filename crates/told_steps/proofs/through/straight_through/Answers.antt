use Rattle.std.proofs.Common.{true, false, sym, subst, ◌∙◌}
use Rattle.slab_laws.specs.View.{HasVertex}
use Rattle.told_steps.proofs.LinesThrough.{one_name, two_names, one_line, two_lines, goes}
use Rattle.told_steps.proofs.Twice.{read, target_has, second_out, third_first, one_line_second, second_turns, up_from_first, up_from_second, never_both}
use Rattle.told_steps.proofs.through.straight_through.Goals as goal

pub twin-into_second-requires : goal.twin-into_second-requires
twin-into_second-requires c = (second_out c.args.records.now.graph c.args.w c.requires.sound c.args.first c.twin-into_first.result c.next-second.result c.requires.first c.twin-into_first.ensures.twin c.next-second.ensures).0

pub line-requires : goal.line-requires
line-requires c = (second_out c.args.records.now.graph c.args.w c.requires.sound c.args.first c.twin-into_first.result c.next-second.result c.requires.first c.twin-into_first.ensures.twin c.next-second.ensures).0

pub target-requires-2 : goal.target-requires-2
target-requires-2 c = (second_out c.args.records.now.graph c.args.w c.requires.sound c.args.first c.twin-into_first.result c.next-second.result c.requires.first c.twin-into_first.ensures.twin c.next-second.ensures).0

pub point-here-requires : goal.point-here-requires
point-here-requires c = subst (HasVertex c.args.records.now.graph) c.requires.first.1 (c.requires.sound.linked.source c.args.first c.requires.first.0)

pub point-requires : goal.point-requires
point-requires c = target_has c.args.records.now.graph c.requires.sound c.args.first c.target.result c.requires.first.0 c.target.ensures

pub point-requires-2 : goal.point-requires-2
point-requires-2 c =
    let o = second_out c.args.records.now.graph c.args.w c.requires.sound c.args.first c.twin-into_first.result c.next-second.result c.requires.first c.twin-into_first.ensures.twin c.next-second.ensures in
    target_has c.args.records.now.graph c.requires.sound c.next-second.result c.target-2.result o.0 c.target-2.ensures

pub returns-then-ne : goal.returns-then-ne
returns-then-ne c d n f =
    let r = read c.args.records.now.graph c.args.first c.twin-into_first.result c.next-second.result c.twin-into_second.result c.next.result c.twin-into_first.ensures.twin c.next-second.ensures c.twin-into_second.ensures.twin c.next.ensures in
    two_names c.next.result c.args.first c.ne.result c.ne.ensures c.if-ne.true
    (third_first c.args.records.now.graph c.args.w c.requires.sound c.args.first c.twin-into_first.result c.next-second.result c.twin-into_second.result c.next.result c.requires.first r d n f)

pub returns-then-ne-2 : goal.returns-then-ne-2
returns-then-ne-2 c d n f =
    let r = read c.args.records.now.graph c.args.first c.twin-into_first.result c.next-second.result c.twin-into_second.result c.next.result c.twin-into_first.ensures.twin c.next-second.ensures c.twin-into_second.ensures.twin c.next.ensures in
    two_lines c.line.result c.line-2.result c.ne-2.result c.ne-2.ensures c.if-ne-2.true
    (c.line.ensures.line ∙ one_line_second c.args.records.now.graph c.args.w c.requires.sound c.args.first c.twin-into_first.result c.next-second.result c.twin-into_second.result c.next.result c.requires.first r d n f ∙ sym c.line-2.ensures.line)

pub returns-in-true-true : goal.returns-in-true-true
returns-in-true-true c d n f =
    let v = c.args.records.now.graph in
    let o = second_out v c.args.w c.requires.sound c.args.first c.twin-into_first.result c.next-second.result c.requires.first c.twin-into_first.ensures.twin c.next-second.ensures in
    let r = read c.args.records.now.graph c.args.first c.twin-into_first.result c.next-second.result c.twin-into_second.result c.next.result c.twin-into_first.ensures.twin c.next-second.ensures c.twin-into_second.ensures.twin c.next.ensures in
    never_both v c.args.first c.next-second.result true
    (goes v c.args.w c.args.first c.point-here.result c.point.result c.target.result true c.requires.first c.point-here.ensures c.point.ensures c.target.ensures c.in-true-true.ensures)
    (goes v c.args.w c.next-second.result c.point-here.result c.point-2.result c.target-2.result true o c.point-here.ensures c.point-2.ensures c.target-2.ensures c.in-true-true.ensures')
    (second_turns v c.args.w c.requires.sound c.args.first c.twin-into_first.result c.next-second.result c.twin-into_second.result c.next.result c.requires.first r d n f)

pub returns-in-false-false : goal.returns-in-false-false
returns-in-false-false c d n f =
    let v = c.args.records.now.graph in
    let o = second_out v c.args.w c.requires.sound c.args.first c.twin-into_first.result c.next-second.result c.requires.first c.twin-into_first.ensures.twin c.next-second.ensures in
    let r = read c.args.records.now.graph c.args.first c.twin-into_first.result c.next-second.result c.twin-into_second.result c.next.result c.twin-into_first.ensures.twin c.next-second.ensures c.twin-into_second.ensures.twin c.next.ensures in
    never_both v c.args.first c.next-second.result false
    (goes v c.args.w c.args.first c.point-here.result c.point.result c.target.result false c.requires.first c.point-here.ensures c.point.ensures c.target.ensures c.in-false-false.ensures)
    (goes v c.args.w c.next-second.result c.point-here.result c.point-2.result c.target-2.result false o c.point-here.ensures c.point-2.ensures c.target-2.ensures c.in-false-false.ensures')
    (second_turns v c.args.w c.requires.sound c.args.first c.twin-into_first.result c.next-second.result c.twin-into_second.result c.next.result c.requires.first r d n f)

pub returns-in-true-false : goal.returns-in-true-false
returns-in-true-false c =
    let v = c.args.records.now.graph in
    let o = second_out v c.args.w c.requires.sound c.args.first c.twin-into_first.result c.next-second.result c.requires.first c.twin-into_first.ensures.twin c.next-second.ensures in
    let r = read c.args.records.now.graph c.args.first c.twin-into_first.result c.next-second.result c.twin-into_second.result c.next.result c.twin-into_first.ensures.twin c.next-second.ensures c.twin-into_second.ensures.twin c.next.ensures in
    up_from_first v c.args.w c.requires.sound c.args.first c.twin-into_first.result c.next-second.result c.twin-into_second.result c.next.result c.requires.first r
    (one_name c.next.result c.args.first c.ne.result c.ne.ensures c.if-ne.false)
    (sym c.line.ensures.line ∙ one_line c.line.result c.line-2.result c.ne-2.result c.ne-2.ensures c.if-ne-2.false ∙ c.line-2.ensures.line)
    (goes v c.args.w c.args.first c.point-here.result c.point.result c.target.result true c.requires.first c.point-here.ensures c.point.ensures c.target.ensures c.in-true-false.ensures)
    (goes v c.args.w c.next-second.result c.point-here.result c.point-2.result c.target-2.result false o c.point-here.ensures c.point-2.ensures c.target-2.ensures c.in-true-false.ensures')

pub returns-in-false-true : goal.returns-in-false-true
returns-in-false-true c =
    let v = c.args.records.now.graph in
    let o = second_out v c.args.w c.requires.sound c.args.first c.twin-into_first.result c.next-second.result c.requires.first c.twin-into_first.ensures.twin c.next-second.ensures in
    let r = read c.args.records.now.graph c.args.first c.twin-into_first.result c.next-second.result c.twin-into_second.result c.next.result c.twin-into_first.ensures.twin c.next-second.ensures c.twin-into_second.ensures.twin c.next.ensures in
    up_from_second v c.args.w c.requires.sound c.args.first c.twin-into_first.result c.next-second.result c.twin-into_second.result c.next.result c.requires.first r
    (one_name c.next.result c.args.first c.ne.result c.ne.ensures c.if-ne.false)
    (sym c.line.ensures.line ∙ one_line c.line.result c.line-2.result c.ne-2.result c.ne-2.ensures c.if-ne-2.false ∙ c.line-2.ensures.line)
    (goes v c.args.w c.args.first c.point-here.result c.point.result c.target.result false c.requires.first c.point-here.ensures c.point.ensures c.target.ensures c.in-false-true.ensures)
    (goes v c.args.w c.next-second.result c.point-here.result c.point-2.result c.target-2.result true o c.point-here.ensures c.point-2.ensures c.target-2.ensures c.in-false-true.ensures')
