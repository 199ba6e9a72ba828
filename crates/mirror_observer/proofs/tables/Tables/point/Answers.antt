use Rattle.std.proofs.Common.{◌∙◌, sym, ap, is_some, option_map}
use Rattle.slab_laws.specs.Tables.{row_at}
use Rattle.slab_laws.specs.View.{point_or}
use Rattle.mirror_observer.specs.Tables.{vertex_of}
use Rattle.mirror_observer.proofs.Entries.{found, rows_row, read_some}
use Rattle.mirror_observer.proofs.tables.Tables.point.Goals as goal

pub index-requires : goal.index-requires
index-requires c =
    let es = c.args.self.now.vertices.entries in
    ap is_some (found es c.args.v.0) ∙ sym (read_some vertex_of (row_at es c.args.v.0)) ∙ sym (ap is_some (rows_row vertex_of es c.args.v.0)) ∙ c.requires

pub returns : goal.returns
returns c =
    let es = c.args.self.now.vertices.entries in
    ap (λ o. point_or (option_map vertex_of o)) (sym c.index.ensures ∙ found es c.args.v.0) ∙ ap point_or (sym (rows_row vertex_of es c.args.v.0))
