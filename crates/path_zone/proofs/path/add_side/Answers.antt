use Rattle.std.proofs.Common.{◌≡◌, ◌∷◌, true, refl, sym, subst, inl, inr}
use Rattle.plane_graphs.specs.Ascending.{Member}
use Rattle.plane_graphs.proofs.Sorting.{member_at}
use Rattle.dcel_records.specs.RecordsView.{tables_of}
use Rattle.path_zone.specs.Gathered.{HasMore}
use Rattle.path_zone.specs.PathZone.{IsCrossing}
use Rattle.path_zone.specs.Zoned.{is_over, sides_zoned, AreZonedSides, IsPlaceOver}
use Rattle.path_zone.proofs.path.add_side.Goals as goal

pub place_over-requires : goal.place_over-requires
place_over-requires g c = (c.args.records.now.graph, tables_of c.args.records.now, subst (AreZonedSides c.args.records.now.graph (tables_of c.args.records.now)) (sym c.deref.ensures.value) c.requires.zones)

pub add_ends-requires : goal.add_ends-requires
add_ends-requires g c =
    let p = subst (λ zs. IsPlaceOver zs c.args.begun.now.side c.in-Some.place) c.deref.ensures.value c.in-Some.ensures in
    let m = subst (λ z. Member z c.args.zones.now.items) (sym c.index.ensures) (member_at c.args.zones.now.items c.in-Some.place c.index.result.now p.within) in
    record {
      zoned = (c.args.records.now.graph, tables_of c.args.records.now, c.requires.zones c.index.result.now m);
      over = subst (λ z. is_over z c.args.begun.now.side ≡ true) (sym c.index.ensures) (p.over c.index.result.now);
    }

pub returns-in-Some-clause-side : goal.returns-in-Some-clause-side
returns-in-Some-clause-side g c =
    let p = subst (λ zs. IsPlaceOver zs c.args.begun.now.side c.in-Some.place) c.deref.ensures.value c.in-Some.ensures in
    let m = subst (λ z. Member z c.args.zones.now.items) (sym c.index.ensures) (member_at c.args.zones.now.items c.in-Some.place c.index.result.now p.within) in
    inl (record {
      other = c.index.result.now;
      among = m;
      over = subst (λ z. is_over z c.args.begun.now.side ≡ true) (sym c.index.ensures) (p.over c.index.result.now);
      zones = refl;
      ends = c.in_ok-add_ends.ensures c.args.records.now.graph (tables_of c.args.records.now) (c.requires.zones c.index.result.now m);
    })

pub zone_of-requires-clause-zones : goal.zone_of-requires-clause-zones
zone_of-requires-clause-zones g c = subst (AreZonedSides c.args.records.now.graph (tables_of c.args.records.now)) (sym c.deref-2.ensures.value) c.requires.zones

pub add_crossings-requires : goal.add_crossings-requires
add_crossings-requires g c =
    let v = c.args.records.now.graph in
    let f = tables_of c.args.records.now in
    (v, f, c.new-zoned.ensures.zoned v f c.in_ok-plan.ensures.zone, subst (AreZonedSides v f) (sym c.deref-3.ensures.value) c.requires.zones)

pub returns-clause-side : goal.returns-clause-side
returns-clause-side g c =
    let v = c.args.records.now.graph in
    let f = tables_of c.args.records.now in
    let z = c.new-zoned.ensures.zoned v f c.in_ok-plan.ensures.zone in
    let e = c.new-zoned.ensures.side in
    let r = c.in_ok-add_crossings.ensures in
    let d = c.deref-3.ensures.value in
    inr (record {
      one = c.new-zoned.result;
      side = e;
      zoned = z;
      zones = c.in_ok-push.ensures.items;
      more = subst (λ t. HasMore v f (t ∷ sides_zoned c.args.zones.now.items) c.args.meetings.now.items c.add_crossings.new.meetings.items) e (subst (λ zs. HasMore v f (c.new-zoned.result.side ∷ sides_zoned zs) c.args.meetings.now.items c.add_crossings.new.meetings.items) d (r.more v f z.zone));
      there = λ t x n k. r.there t x (subst (λ zs. Member t (sides_zoned zs)) (sym d) n) (subst (λ s. IsCrossing s t x) (sym e) k);
    })
