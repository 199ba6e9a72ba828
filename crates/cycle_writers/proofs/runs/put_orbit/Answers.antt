use Rattle.std.proofs.Common.{ap, ◌∙◌}
use Rattle.slab_laws.specs.View.{Faces}
use Rattle.dcel_records.specs.RecordsView.{FacesView}
use Rattle.face_steps.proofs.RowsWritten.{rows_written}
use Rattle.cycle_writers.proofs.RunOrbits.{orbit}
use Rattle.cycle_writers.proofs.runs.put_orbit.Goals as goal

pub returns-clause-faces : goal.returns-clause-faces
returns-clause-faces c =
    let v = c.args.records.now.graph in
    let f : FacesView = c.args.records.now.faces in
    let d = c.args.d in
    let s = c.requires.sound in
    let D = c.requires.dart in
    let r = c.put_run.ensures.run in
    r.2 ∙ ap (λ (t : Faces). record f { tables = t }) (rows_written.orbit v f.tables d c.args.cycle r.0 s c.requires.rows D (orbit v d r.0 s D r.1))
