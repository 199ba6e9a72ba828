use Rattle.std.proofs.Common.{sym, subst}
use Rattle.slab_laws.specs.declared.names.FaceId.{FaceId}
use Rattle.slab_laws.specs.View.{HasFace}
use Rattle.subdivision_rows.specs.Listed.{faces_of}
use Rattle.subdivision_rows.proofs.Items.{place}
use Rattle.subdivision_rows.proofs.DartLists.{stands}
use Rattle.subdivision_rows.proofs.CycleLists.{rank_within, face_reads}
use Rattle.subdivision_rows.proofs.records.RowsFaced.face.Goals as goal

pub index-requires : goal.index-requires
index-requires c = place c.self.inside.lists.cycle_ranks c.args.c.0 (rank_within c.self.inside.lists c.args.self.now c.self.invariant c.self.view_is c.args.c c.requires)

pub returns-clause-face : goal.returns-clause-face
returns-clause-face c = face_reads c.self.inside.lists c.args.self.now c.self.invariant c.self.view_is c.args.c c.index.result.now c.requires c.index.ensures

pub returns-clause-has : goal.returns-clause-has
returns-clause-has c =
    subst (λ (n : FaceId). HasFace (faces_of c.args.self.now) n) (sym (face_reads c.self.inside.lists c.args.self.now c.self.invariant c.self.view_is c.args.c c.index.result.now c.requires c.index.ensures))
    ((stands c.self.inside.lists c.args.self.now c.self.invariant c.self.view_is).complete.face_has c.args.c c.requires)
