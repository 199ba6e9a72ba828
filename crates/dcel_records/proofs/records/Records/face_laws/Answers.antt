use Rattle.dcel_records.proofs.FaceLaws.{faces_listed, unbounded_there, isolated_there, cycles_within, all_cycles_within, vertices_within, cycle_names, face_names, cycle_of_names, bare_names}
use Rattle.dcel_records.proofs.records.Records.face_laws.Goals as goal

pub returns-clause-listed : goal.returns-clause-listed
returns-clause-listed c = faces_listed c.self.inside _ c.self.view_is c.self.invariant.faces

pub returns-clause-unbounded : goal.returns-clause-unbounded
returns-clause-unbounded c = unbounded_there c.self.inside _ c.self.view_is c.self.invariant.faces

pub returns-clause-isolated : goal.returns-clause-isolated
returns-clause-isolated c = isolated_there c.self.inside _ c.self.view_is

pub returns-clause-cycles_fit : goal.returns-clause-cycles_fit
returns-clause-cycles_fit c = cycles_within c.self.inside _ c.self.view_is c.self.invariant.cycle_room

pub returns-clause-all_cycles_fit : goal.returns-clause-all_cycles_fit
returns-clause-all_cycles_fit c = all_cycles_within c.self.inside _ c.self.view_is c.self.invariant.cycle_room

pub returns-clause-vertices_fit : goal.returns-clause-vertices_fit
returns-clause-vertices_fit c = vertices_within c.self.inside _ c.self.view_is c.self.invariant.vertex_room

pub returns-clause-cycles_ascend : goal.returns-clause-cycles_ascend
returns-clause-cycles_ascend c = cycle_names c.self.inside _ c.self.view_is

pub returns-clause-faces_ascend : goal.returns-clause-faces_ascend
returns-clause-faces_ascend c = face_names c.self.inside _ c.self.view_is

pub returns-clause-cycle_of_ascend : goal.returns-clause-cycle_of_ascend
returns-clause-cycle_of_ascend c = cycle_of_names c.self.inside _ c.self.view_is

pub returns-clause-bare_ascend : goal.returns-clause-bare_ascend
returns-clause-bare_ascend c = bare_names c.self.inside _ c.self.view_is
