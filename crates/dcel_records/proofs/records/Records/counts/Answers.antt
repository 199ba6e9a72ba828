use Rattle.std.proofs.Common.{length, sym, ap, ◌∙◌}
use Rattle.chain_laws.proofs.Tabled.{length-tabled}
use Rattle.dcel_records.specs.StoredRows.{vertex_of, dart_of, cycle_record}
use Rattle.dcel_records.proofs.After.{length-keys}
use Rattle.dcel_records.proofs.records.Records.counts.Goals as goal

pub returns-clause-vertices : goal.returns-clause-vertices
returns-clause-vertices c = c.len.ensures ∙ sym (length-tabled vertex_of c.self.inside.vertices) ∙ ap (λ v. length v.graph.vertices) c.self.view_is

pub returns-clause-darts : goal.returns-clause-darts
returns-clause-darts c = c.len-2.ensures ∙ sym (length-tabled dart_of c.self.inside.darts) ∙ ap (λ v. length v.graph.darts) c.self.view_is

pub returns-clause-cycles : goal.returns-clause-cycles
returns-clause-cycles c = c.len-3.ensures ∙ sym (length-tabled cycle_record c.self.inside.cycles) ∙ ap (λ v. length v.faces.tables.cycles) c.self.view_is

pub returns-clause-faces : goal.returns-clause-faces
returns-clause-faces c = c.len-4.ensures ∙ sym (length-keys c.self.inside.faces) ∙ ap (λ v. length v.faces.tables.faces) c.self.view_is
