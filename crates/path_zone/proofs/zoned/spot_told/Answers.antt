use Rattle.std.proofs.Common.{◌≡◌, sym, ap, ◌∙◌, subst, ⊎_elim}
use Rattle.plane_graphs.specs.Ascending.{Member}
use Rattle.plane_graphs.proofs.Lines.{point_is_proper}
use Rattle.plane_graphs.proofs.Sorting.{member_at}
use Rattle.zone_walk.specs.Zone.{is_on_segment}
use Rattle.path_zone.specs.declared.zoned.ZonedSide.{ZonedSide}
use Rattle.path_zone.proofs.SweepOrder.{in_take_all, take_next}
use Rattle.path_zone.proofs.zoned.spot_told.Goals as goal

pub zones-init : goal.zones-init
zones-init c z m = absurd m

pub zones-preserved : goal.zones-preserved
zones-preserved c z m =
    ⊎_elim
    (λ k. c.zones.invariant z k)
    (λ (e : z ≡ _). ap (λ (y : ZonedSide). is_on_segment y.side c.args.point.now) (e ∙ sym c.zoned-item.is) ∙ (sym c.is_on_zoned.ensures ∙ c.if-is_on_zoned.false))
    (take_next c.args.zones.now c.zones.zoned-index c.zoned-item.result z c.zones-test.true m)

pub is_on_zoned-requires : goal.is_on_zoned-requires
is_on_zoned-requires c =
    let (v, f, all) = c.requires in
    let z = c.zoned-item.result in
    (v, f, all z (subst (λ y. Member y c.args.zones.now) (sym c.zoned-item.is) (member_at c.args.zones.now c.zones.zoned-index z c.zones-test.true)))

pub spot_on-requires : goal.spot_on-requires
spot_on-requires c =
    let (v, f, all) = c.requires in
    let z = c.zoned-item.result in
    let h = all z (subst (λ y. Member y c.args.zones.now) (sym c.zoned-item.is) (member_at c.args.zones.now c.zones.zoned-index z c.zones-test.true)) in
    (v, f, z.side, record { zone = h.zone; ends = h.ends; proper = point_is_proper c.args.point.now c.laws.ensures; on = sym c.is_on_zoned.ensures ∙ c.if-is_on_zoned.true })

pub returns-then-is_on_zoned : goal.returns-then-is_on_zoned
returns-then-is_on_zoned c v f all =
    let z = c.zoned-item.result in
    let h = all z (subst (λ y. Member y c.args.zones.now) (sym c.zoned-item.is) (member_at c.args.zones.now c.zones.zoned-index z c.zones-test.true)) in
    c.spot_on.ensures v f z.side (record { zone = h.zone; ends = h.ends; proper = point_is_proper c.args.point.now c.laws.ensures; on = sym c.is_on_zoned.ensures ∙ c.if-is_on_zoned.true })

pub returns : goal.returns
returns c v f all z m = c.zones.invariant z (in_take_all c.args.zones.now c.zones.zoned-index z c.zones-test.false m)
