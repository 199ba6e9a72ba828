use Rattle.std.proofs.Common.{IsSome, refl, sym, ap, subst, ◌∙◌}
use Rattle.slab_laws.specs.View.{Faces, HasCycle, dart_id}
use Rattle.arr_notes.specs.FaceWriters.{on_cycle}
use Rattle.arr_notes.proofs.VertexReads.{put_hit}
use Rattle.edge_link.proofs.NewHole.{cycle_there, hole_made}
use Rattle.edge_link.proofs.faces.new_hole.Goals as goal

pub link_on-names-requires-clause-cycle : goal.link_on-names-requires-clause-cycle
link_on-names-requires-clause-cycle c = let k = c.add_cycle-cycle.result in subst (λ (t : Faces). HasCycle t k) (sym c.add_cycle-cycle.ensures.tables) (subst IsSome (sym (put_hit k.0 _ c.clear_bare-2.new.self.faces.tables.cycles)) refl)

pub set_dart-requires : goal.set_dart-requires
set_dart-requires c =
    let k = c.add_cycle-cycle.result in
    let n = c.link_on-names.result in
    cycle_there _ c.clear_bare-2.new.self.faces.tables n.d n.m k k c.bare_face-face.result (ap (λ f. f.tables) c.link_on-names.ensures.faces ∙ ap (λ t. on_cycle n.m k (on_cycle n.d k t)) c.add_cycle-cycle.ensures.tables)

pub returns : goal.returns
returns c =
    let a = c.clear_bare.ensures in
    let b = c.clear_bare-2.ensures in
    let h = c.add_cycle-cycle.ensures in
    let e = c.link_on-names.ensures in
    let s = c.set_dart.ensures in
    hole_made c.args.records.now c.clear_bare.new.self c.clear_bare-2.new.self c.add_cycle-cycle.new.self c.link_on-names.new.records c.set_dart.new.self c.link_on-names.result c.args.u c.args.v c.args.line c.add_cycle-cycle.result c.bare_face-face.result (dart_id 0) c.requires.map c.requires.returned c.requires.fits c.bare_face-face.ensures.face
    a.tables a.lists a.spare a.moved a.graph
    b.tables b.lists b.spare b.moved b.graph
    h.name h.tables h.lists h.spare h.moved h.graph
    e.new_darts e.graph e.sound e.spare e.faces
    s.tables s.lists s.spare s.moved s.graph
