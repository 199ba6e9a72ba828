use Rattle.std.proofs.Common.{◌≡◌, ◌++◌, take}
use Rattle.std.specs.Prelude.{flat_map}
use Rattle.slab_laws.specs.Sound.{skeleton_of}
use Rattle.slab_laws.specs.View.{point_in}
use Rattle.vertical_laws.specs.VerticalText.{stops_line}
use Rattle.vertical_parts.specs.declared.vertical.Part.{Part}
use Rattle.vertical_parts.proofs.parts_text.put_lines.Given as goal

abbrev pub invariant-loop-part : goal.invariant-loop-part
invariant-loop-part l =
    let v = l.records.graph in
    l.out.items ≡ l.fn.out.items ++ flat_map (λ (p : Part). stops_line (skeleton_of v) (point_in v p.vertex)) (take l.part-index l.parts)
