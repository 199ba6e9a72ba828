use Rattle.std.proofs.Common.{◌≡◌, refl, arith}
use Rattle.edit_steps.specs.Edits.{Insert}
use Rattle.arrangement.proofs.Edits.{edited_by, as_before}
use Rattle.arrangement.proofs.Started.{started_as}
use Rattle.arrangement.proofs.arrangement.Arrangement.insert_path.Goals as goal

pub starts_of-starts-requires : goal.starts_of-starts-requires
starts_of-starts-requires g c = record { map = c.self.invariant.1.0.map; layer = c.self.invariant.0; few = rw c.sides-sides.ensures.value c.sides-sides.ensures.count.few }

pub insert_path_counted-requires : goal.insert_path_counted-requires
insert_path_counted-requires g c = record {
  name = refl;
  parts = refl;
  some = omega arith;
  layer = c.self.invariant.0;
  map = c.self.invariant.1.0;
  watched = rw (← c.self.view_is) at c.requires.watched;
  starts = started_as _ _ _ _ _ _ c.sides-sides.ensures.value c.split_at.ensures.front c.starts_of-starts.ensures;
}

pub returns : goal.returns
returns g c = rw (← c.self.view_is) (record {
  number = c.insert_path_counted.ensures.number;
  edit = edited_by _ _ c.insert_path_counted.result _ (λ n. Insert n c.args.path.now) c.self.invariant.0 c.insert_path_counted.ensures.number c.insert_path_counted.ensures.edit c.insert_path_counted.ensures.told;
  refused = c.insert_path_counted.ensures.refused;
  as_before = as_before _ _ c.insert_path_counted.result c.insert_path_counted.ensures.graph c.insert_path_counted.ensures.tables c.insert_path_counted.ensures.same_layer c.insert_path_counted.ensures.same_curves c.insert_path_counted.ensures.untold;
  limits = refl;
  watched = c.insert_path_counted.ensures.watched;
})
