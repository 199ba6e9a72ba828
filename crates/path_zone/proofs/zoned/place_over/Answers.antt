use Rattle.std.proofs.Common.{◌≡◌, true, sym, ◌∙◌, subst}
use Rattle.plane_graphs.specs.Ascending.{Member}
use Rattle.plane_graphs.proofs.Sorting.{any_default, member_at}
use Rattle.path_zone.specs.Zoned.{is_over}
use Rattle.path_zone.proofs.zoned.place_over.Goals as goal

pub is_over-requires : goal.is_over-requires
is_over-requires c =
    let (v, f, all) = c.requires in
    let z = c.index-zones-place.result in
    (v, f, all z (subst (λ y. Member y c.args.zones.now) (sym c.index-zones-place.is) (member_at c.args.zones.now c.zones.place z c.zones-test.true)))

pub returns-then-is_over : goal.returns-then-is_over
returns-then-is_over c = record {
  within = c.zones-test.true;
  over = λ d. subst (λ z. is_over z c.args.side.now ≡ true) (c.index-zones-place.is ∙ any_default c.args.zones.now c.zones.place c.index-zones-place.result d c.zones-test.true) (sym c.is_over.ensures ∙ c.if-is_over.true);
}
