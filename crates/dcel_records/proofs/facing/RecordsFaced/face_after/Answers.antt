use Rattle.std.proofs.Common.{ap, ◌∙◌}
use Rattle.std.specs.Option.{option_map}
use Rattle.slab_laws.specs.Tables.{name_after}
use Rattle.slab_laws.specs.View.{face_id}
use Rattle.dcel_records.proofs.FaceLaws.{face_names, face_keys}
use Rattle.dcel_records.proofs.facing.RecordsFaced.face_after.Goals as goal

pub returns-clause-after : goal.returns-clause-after
returns-clause-after c = c.face_name_after.ensures ∙ ap (λ ns. option_map face_id (name_after ns (option_map (λ n. n.0) c.args.f))) (face_keys c.self.inside _ c.self.view_is)

pub returns-clause-ascend : goal.returns-clause-ascend
returns-clause-ascend c = face_names c.self.inside _ c.self.view_is
