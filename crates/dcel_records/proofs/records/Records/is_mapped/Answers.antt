use Rattle.std.proofs.Common.{ap}
use Rattle.dcel_records.proofs.records.Records.is_mapped.Goals as goal

pub returns : goal.returns
returns c = ap (λ v. v.mapped) c.self.view_is
