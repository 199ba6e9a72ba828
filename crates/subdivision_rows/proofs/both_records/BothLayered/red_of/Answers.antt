use Rattle.subdivision_rows.proofs.OverlaidRows.{red_within}
use Rattle.subdivision_rows.proofs.both_records.BothLayered.red_of.Goals as goal

pub label_at-requires : goal.label_at-requires
label_at-requires c = red_within c.self.inside c.args.self.now c.self.invariant c.self.view_is c.args.f c.requires
