use Rattle.std.proofs.Common.{sym, ap, ◌∙◌, option_copied}
use Rattle.dcel_records.proofs.CyclesWritten.{cycle_found}
use Rattle.dcel_records.proofs.records.Records.cycle_of.Goals as goal

pub returns-in-None : goal.returns-in-None
returns-in-None c = cycle_found c.self.inside _ c.self.view_is c.args.c _ (sym c.get.ensures ∙ ap option_copied c.in-None.is)

pub returns-in-Some : goal.returns-in-Some
returns-in-Some c = cycle_found c.self.inside _ c.self.view_is c.args.c _ (sym c.get.ensures ∙ ap option_copied c.in-Some.is)
