use Rattle.dcel_records.proofs.Holding.{graph_seen}
use Rattle.std.proofs.Common.{sym, ap, ◌∙◌, option_copied}
use Rattle.dcel_records.proofs.Holding.{point_missed, point_read}
use Rattle.dcel_records.proofs.records.Records.point_of.Goals as goal

pub returns-in-None : goal.returns-in-None
returns-in-None c = point_missed c.self.inside.vertices c.self.inside.darts _ (graph_seen c.self.inside _ c.self.view_is) c.args.v (sym c.get.ensures ∙ ap option_copied c.in-None.is)

pub returns-in-Some : goal.returns-in-Some
returns-in-Some c = point_read c.self.inside.vertices c.self.inside.darts _ (graph_seen c.self.inside _ c.self.view_is) c.args.v _ (sym c.get.ensures ∙ ap option_copied c.in-Some.is)
