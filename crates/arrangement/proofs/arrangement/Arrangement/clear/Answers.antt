use Rattle.std.proofs.Common.{refl}
use Rattle.edit_steps.specs.Edits.{ClearAll}
use Rattle.arrangement.proofs.Edits.{edited_so}
use Rattle.arrangement.proofs.arrangement.Arrangement.clear.Goals as goal

pub clear-requires : goal.clear-requires
clear-requires g c = record {
  layer = c.self.invariant.0;
  map = c.self.invariant.1.0;
  watched = rw (← c.self.view_is) at c.requires.watched;
}

pub returns : goal.returns
returns g c = rw (← c.self.view_is) (record {
  edit = edited_so _ _ ClearAll c.self.invariant.0 c.clear.ensures.edit c.clear.ensures.told;
  limits = refl;
  watched = c.clear.ensures.watched;
})
