use Rattle.dcel_records.proofs.Holding.{graph_seen}
use Rattle.std.proofs.Common.{sym, ap, ◌∙◌, is_some, option_copied}
use Rattle.dcel_records.proofs.Holding.{ends_missed, ends_read, dart_has, twin_key}
use Rattle.dcel_records.proofs.records.Records.ends_of.Goals as goal

pub index-requires : goal.index-requires
index-requires c = let e = sym c.get.ensures ∙ ap option_copied c.in-Some.is in twin_key c.self.inside.vertices c.self.inside.darts _ (graph_seen c.self.inside _ c.self.view_is) c.self.invariant.graph.rows c.args.d _ (dart_has c.self.inside.vertices c.self.inside.darts _ (graph_seen c.self.inside _ c.self.view_is) c.args.d (ap is_some e)) e

pub returns-in-None : goal.returns-in-None
returns-in-None c = ends_missed c.self.inside.vertices c.self.inside.darts _ (graph_seen c.self.inside _ c.self.view_is) c.args.d (sym c.get.ensures ∙ ap option_copied c.in-None.is)

pub returns-in-Some : goal.returns-in-Some
returns-in-Some c = ends_read c.self.inside.vertices c.self.inside.darts _ (graph_seen c.self.inside _ c.self.view_is) c.args.d _ _ (sym c.get.ensures ∙ ap option_copied c.in-Some.is) c.index.ensures
