use Rattle.std.proofs.Common.{inl, inr}
use Rattle.edge_link.proofs.splitting.shorter_asked.Goals as goal

pub returns-else-is_no_longer : goal.returns-else-is_no_longer
returns-else-is_no_longer c =
    let h = c.halves_asked-else-is_no_longer.ensures in
    record {
      ends = elim h.ends [ inl e ↦ inr e | inr e ↦ inl e ];
      which = h.which;
      asked = h.asked;
    }
