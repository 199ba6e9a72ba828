use Rattle.subdivision_rows.proofs.OverlaidRows.{blue_within}
use Rattle.subdivision_rows.proofs.both_records.BothLayered.blue_of.Goals as goal

pub label_at-requires : goal.label_at-requires
label_at-requires c = blue_within c.self.inside c.args.self.now c.self.invariant c.self.view_is c.args.f c.requires
