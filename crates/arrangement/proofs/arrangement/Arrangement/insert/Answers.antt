use Rattle.std.proofs.Common.{◌≡◌, ◌∷◌, [], refl, arith}
use Rattle.edit_steps.specs.Edits.{Insert}
use Rattle.arrangement.proofs.Edits.{edited_by, as_before}
use Rattle.arrangement.proofs.arrangement.Arrangement.insert.Goals as goal

pub spot_at-start-requires : goal.spot_at-start-requires
spot_at-start-requires g c = record { map = c.self.invariant.1.0.map; layer = c.self.invariant.0 }

pub insert_counted-requires : goal.insert_counted-requires
insert_counted-requires g c = record {
  name = refl;
  parts = refl;
  some = omega arith;
  layer = c.self.invariant.0;
  map = c.self.invariant.1.0;
  watched = rw (← c.self.view_is) at c.requires.watched;
  start = let at : c.lower.result ≡ c.args.segment.lower = c.lower.ensures.value in rw (← at) c.spot_at-start.ensures;
}

pub returns : goal.returns
returns g c = rw (← c.self.view_is) (record {
  number = c.insert_counted.ensures.number;
  edit = edited_by _ _ c.insert_counted.result _ (λ n. Insert n (c.args.segment ∷ [])) c.self.invariant.0 c.insert_counted.ensures.number c.insert_counted.ensures.edit c.insert_counted.ensures.told;
  refused = c.insert_counted.ensures.refused;
  as_before = as_before _ _ c.insert_counted.result c.insert_counted.ensures.graph c.insert_counted.ensures.tables c.insert_counted.ensures.same_layer c.insert_counted.ensures.same_curves c.insert_counted.ensures.untold;
  limits = refl;
  watched = c.insert_counted.ensures.watched;
})
