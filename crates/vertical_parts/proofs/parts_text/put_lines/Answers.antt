use Rattle.std.proofs.Common.{◌++◌, List, ℕ, get_or, sym, ap, ◌∙◌}
use Rattle.std.proofs.lemmas.List.{append-nil}
use Rattle.plane_graphs.proofs.Loops.{gathered, all_gathered}
use Rattle.plane_graphs.proofs.Sorting.{any_default, member_at}
use Rattle.slab_laws.specs.Sound.{skeleton_of}
use Rattle.slab_laws.specs.View.{point_in}
use Rattle.vertical_laws.specs.VerticalText.{stops_line}
use Rattle.vertical_parts.specs.declared.vertical.Part.{Part}
use Rattle.vertical_parts.proofs.LinesPut.{no_part, lines_are}
use Rattle.vertical_parts.proofs.parts_text.put_lines.Goals as goal

pub loop-part-init : goal.loop-part-init
loop-part-init c = sym (append-nil c.args.out.now.items)

pub put_line-requires : goal.put_line-requires
put_line-requires c =
    let ps = c.args.parts.now in
    let i = c.loop-part.part-index in
    record { map = c.requires.map; part = c.requires.parts.named (get_or ps i no_part) (member_at ps i no_part c.loop-part-test.true) }

pub loop-part-preserved : goal.loop-part-preserved
loop-part-preserved c =
    let v = c.args.records.now.graph in
    let ps = c.args.parts.now in
    let i = c.loop-part.part-index in
    let p = get_or ps i no_part in
    let h = c.loop-part-test.true in
    gathered (λ (p : Part). stops_line (skeleton_of v) (point_in v p.vertex)) ps i p c.args.out.now.items c.loop-part.out.items c.put_line.new.out.items
    h (any_default ps i no_part p h) c.loop-part.invariant c.in_ok-put_line.ensures

pub returns : goal.returns
returns c =
    let v = c.args.records.now.graph in
    let g = skeleton_of v in
    all_gathered (λ (p : Part). stops_line g (point_in v p.vertex)) c.args.parts.now c.loop-part.part-index c.args.out.now.items c.loop-part.out.items c.loop-part-test.false c.loop-part.invariant
    ∙ ap (λ (t : List ℕ). c.args.out.now.items ++ t) (lines_are v c.requires.map.sound.graph c.args.parts.now c.requires.parts (stops_line g))
