use Rattle.std.proofs.Common.{◌≡◌, true, sym, ◌∙◌, subst}
use Rattle.exact_plane.specs.WholeParts.{excludes}
use Rattle.exact_plane.specs.declared.whole_parts.WholeParts.{WholeParts}
use Rattle.plane_graphs.proofs.Lines.{point_is_proper}
use Rattle.path_zone.proofs.Plain.{outside}
use Rattle.path_zone.proofs.zoned.is_on_zoned.Goals as goal

pub returns-then-excludes : goal.returns-then-excludes
returns-then-excludes c =
    let (v, f, zoned) = c.requires in
    let p = c.args.point.now in
    sym (outside c.args.zoned.now v f zoned p (point_is_proper p c.laws.ensures) (subst (λ (w : WholeParts). excludes c.args.zoned.now.bounds w w ≡ true) c.whole_parts-parts.ensures (sym c.excludes.ensures ∙ c.if-excludes.true)))
