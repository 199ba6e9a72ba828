use Rattle.std.proofs.Common.{refl}
use Rattle.told_steps.proofs.Seen.{drawn_seen, drawn_sound, told_records}
use Rattle.arrangement.proofs.Watched.{attached_seen, attached_watched}
use Rattle.arrangement.proofs.arrangement.Arrangement.attach.Goals as goal

pub new-drawn-requires : goal.new-drawn-requires
new-drawn-requires g c = told_records _ _ c.self.invariant.0.sound c.self.invariant.0.curves

pub attach-requires : goal.attach-requires
attach-requires g c = record {
  when = c.requires.when;
  sound = drawn_sound _ _ c.self.invariant.1.0.map.sound c.self.invariant.0.curves _ _ c.new-drawn.ensures.records c.new-drawn.ensures.history;
}

pub returns : goal.returns
returns g c =
    let same = drawn_seen _ _ c.self.invariant.1.0.map.sound c.self.invariant.0.curves _ _ c.new-drawn.ensures.records c.new-drawn.ensures.history in
    let attached = attached_seen c.attach.result _ _ _ _ _ same c.attach.ensures.attached in
    rw (← c.self.view_is) (record {
      refused = c.attach.ensures.refused;
      same = c.attach.ensures.same;
      back = c.attach.ensures.back;
      err = c.attach.ensures.err;
      attached = attached;
      layer = record { graph = refl; faces = refl; past = refl; limits = refl };
      watched = attached_watched c.attach.result _ _ _ _ c.attach.ensures.err attached;
    })
