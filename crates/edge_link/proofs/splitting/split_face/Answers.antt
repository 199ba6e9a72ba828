use Rattle.std.proofs.Common.{sym, ap, subst, ◌∙◌}
use Rattle.slab_laws.specs.View.{HasCycle, cycle_in}
use Rattle.slab_laws.specs.Kinds.{is_outer as bounds_from_outside}
use Rattle.edge_link.proofs.FaceSplit.{IsLinkedOn, IsPartedOff, first_there, second_there, rows_there, kept_there, end_there, two_faces, face_there, fresh_there, darts_there, vertices_there, face_split}
use Rattle.edge_link.proofs.splitting.split_face.Goals.{After-link_on-names, After-part_off}
use Rattle.edge_link.proofs.splitting.split_face.Goals as goal

pub face-face-requires : goal.face-face-requires
face-face-requires c = subst (HasCycle c.args.records.now.faces.tables) (sym c.cycle-kept.ensures.cycle) (c.requires.map.sound.complete.cycle_has c.twin.result c.twin.ensures.has)

pub kind-requires : goal.kind-requires
kind-requires c = subst (HasCycle c.args.records.now.faces.tables) (sym c.cycle-kept.ensures.cycle) (c.requires.map.sound.complete.cycle_has c.twin.result c.twin.ensures.has)

linked : (c : After-link_on-names) → IsLinkedOn c.args.records.now c.link_on-names.new.records c.link_on-names.result c.args.u c.args.v c.args.at_u c.args.at_v c.args.line c.cycle-kept.result c.face-face.result
linked c =
    let e = c.link_on-names.ensures in
    record {
      map = c.requires.map;
      listed = c.face_laws.ensures.listed;
      unbounded = c.face_laws.ensures.unbounded;
      can = c.requires.fits;
      one = c.requires.one;
      is_kept = c.cycle-kept.ensures.cycle ∙ ap (cycle_in c.args.records.now.faces.tables) c.twin.ensures.twin;
      is_face = c.face-face.ensures.face;
      new_darts = e.new_darts;
      graph = e.graph;
      sound = e.sound;
      spare = e.spare;
      faces = e.faces;
    }

parted : (c : After-part_off) → IsPartedOff c.link_on-names.new.records c.part_off.new.records c.cycle-kept.result c.shorter_asked-halves.result.fresh c.shorter_asked-halves.result.other c.part_off.result.0 c.part_off.result.1
parted c =
    let e = c.part_off.ensures in
    record { cycle = e.cycle; face = e.face; tables = e.tables; lists = e.lists; spare = e.spare; graph = e.graph }

pub shorter_asked-halves-requires-clause-first : goal.shorter_asked-halves-requires-clause-first
shorter_asked-halves-requires-clause-first c = first_there _ _ _ _ _ _ _ _ _ _ (linked (goal.at.shorter_asked-halves-requires-clause-first c).After-link_on-names)

pub shorter_asked-halves-requires-clause-second : goal.shorter_asked-halves-requires-clause-second
shorter_asked-halves-requires-clause-second c = second_there _ _ _ _ _ _ _ _ _ _ (linked (goal.at.shorter_asked-halves-requires-clause-second c).After-link_on-names)

pub part_off-requires-clause-dart : goal.part_off-requires-clause-dart
part_off-requires-clause-dart c = end_there _ _ _ _ _ _ _ _ _ _ (linked (goal.at.part_off-requires-clause-dart c).After-link_on-names) _ c.shorter_asked-halves.result.other c.shorter_asked-halves.ensures.ends

pub part_off-requires-clause-rows : goal.part_off-requires-clause-rows
part_off-requires-clause-rows c = rows_there _ _ _ _ _ _ _ _ _ _ (linked (goal.at.part_off-requires-clause-rows c).After-link_on-names)

pub part_off-requires-clause-kept : goal.part_off-requires-clause-kept
part_off-requires-clause-kept c = kept_there _ _ _ _ _ _ _ _ _ _ (linked (goal.at.part_off-requires-clause-kept c).After-link_on-names)

pub carry_off-moved-requires-clause-from : goal.carry_off-moved-requires-clause-from
carry_off-moved-requires-clause-from c = let g = goal.at.carry_off-moved-requires-clause-from c in face_there _ _ _ _ _ _ _ _ _ _ (linked g.After-link_on-names) _ _ _ _ _ (parted g.After-part_off)

pub carry_off-moved-requires-clause-to : goal.carry_off-moved-requires-clause-to
carry_off-moved-requires-clause-to c = let g = goal.at.carry_off-moved-requires-clause-to c in fresh_there _ _ _ _ _ _ _ _ _ _ (linked g.After-link_on-names) _ _ _ _ _ (parted g.After-part_off)

pub carry_off-moved-requires-clause-two : goal.carry_off-moved-requires-clause-two
carry_off-moved-requires-clause-two c = let g = goal.at.carry_off-moved-requires-clause-two c in two_faces _ _ _ _ _ _ _ _ _ _ (linked g.After-link_on-names) _ _ _ _ _ (parted g.After-part_off)

pub carry_off-moved-requires-clause-darts : goal.carry_off-moved-requires-clause-darts
carry_off-moved-requires-clause-darts c = let g = goal.at.carry_off-moved-requires-clause-darts c in darts_there _ _ _ _ _ _ _ _ _ _ (linked g.After-link_on-names) _ _ _ _ _ (parted g.After-part_off)

pub carry_off-moved-requires-clause-vertices : goal.carry_off-moved-requires-clause-vertices
carry_off-moved-requires-clause-vertices c = let g = goal.at.carry_off-moved-requires-clause-vertices c in vertices_there _ _ _ _ _ _ _ _ _ _ (linked g.After-link_on-names) _ _ _ _ _ (parted g.After-part_off)

pub returns : goal.returns
returns c =
    let g = goal.at.returns c in
    let h = c.shorter_asked-halves.ensures in
    let e = c.carry_off-moved.ensures in
    face_split _ _ _ _ _ _ _ _ _ _ (linked g.After-link_on-names) _ _ _ _ _ (parted g.After-part_off)
    _ _ (c.is_outer-both_outer.ensures ∙ ap bounds_from_outside c.kind.ensures) h.ends h.asked _ _
    (record { cycles = e.cycles; vertices = e.vertices; tables = e.tables; darts = e.darts; spare = e.spare; carried = e.carried; graph = e.graph })
