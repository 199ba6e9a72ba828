use Rattle.std.proofs.Common.{sym, subst}
use Rattle.slab_laws.specs.declared.names.FaceId.{FaceId}
use Rattle.slab_laws.specs.View.{HasFace}
use Rattle.subdivision_rows.specs.Listed.{faces_of}
use Rattle.subdivision_rows.proofs.Items.{place}
use Rattle.subdivision_rows.proofs.DartLists.{stands}
use Rattle.subdivision_rows.proofs.CycleLists.{bare_within, bare_reads}
use Rattle.subdivision_rows.proofs.records.RowsFaced.bare_face.Goals as goal

pub index-requires : goal.index-requires
index-requires c = place c.self.inside.lists.bare_ranks c.args.v.0 (bare_within c.self.inside.lists c.args.self.now c.self.invariant c.self.view_is c.args.v c.requires)

pub returns-clause-face : goal.returns-clause-face
returns-clause-face c = bare_reads c.self.inside.lists c.args.self.now c.self.invariant c.self.view_is c.args.v c.index.result.now c.requires c.index.ensures

pub returns-clause-has : goal.returns-clause-has
returns-clause-has c =
    subst (λ (n : FaceId). HasFace (faces_of c.args.self.now) n) (sym (bare_reads c.self.inside.lists c.args.self.now c.self.invariant c.self.view_is c.args.v c.index.result.now c.requires c.index.ensures))
    ((stands c.self.inside.lists c.args.self.now c.self.invariant c.self.view_is).complete.bare_has c.args.v c.requires)
