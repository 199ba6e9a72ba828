use Rattle.std.proofs.Common.{◌≡◌, length, List, sym, subst, arith}
use Rattle.slab_laws.specs.Sound.{skeleton_of}
use Rattle.vertical_parts.specs.declared.vertical.Part.{Part}
use Rattle.vertical_parts.specs.VerticalParts.{ArePartsOf}
use Rattle.vertical_parts.proofs.LinesPut.{parts_counted, text_put}
use Rattle.vertical_parts.proofs.parts_text.text.Goals as goal

pub put_lines-requires : goal.put_lines-requires
put_lines-requires c = record {
  map = c.requires;
  parts = subst (λ (ps : List Part). ArePartsOf c.args.records.now.graph ps) (sym c.deref.ensures.value) c.in_ok-listed.ensures;
}

pub returns : goal.returns
returns c =
    let v = c.args.records.now.graph in
    let counted = parts_counted v c.requires.sound.graph c.in_ok-listed.listed.items c.in_ok-listed.ensures in
    let many : c.len.result ≡ length (skeleton_of v).vertices = omega (arith, c.len.ensures, c.in_ok-listed.listed.ok.0, counted) in
    text_put (skeleton_of v) c.len.result c.new-out.result.items c.put_title.new.out.items c.put_lines.new.out.items c.put_text.new.out.items c.new-out.ensures.items
    many c.in_ok-put_title.ensures c.in_ok-put_lines.ensures c.in_ok-put_text.ensures
