-- Where an edge is split, faces, cycles and kinds are as they were.
use Rattle.std.proofs.Common.{refl}
use Rattle.slab_laws.specs.Faces.{cells}
use Rattle.face_changes.proofs.NewWall.{left_widened, face_down, face_up}
use Rattle.slab_faces.proofs.Member.{in_member}
use Rattle.face_changes.specs.OneMoreVertex.{widened}
use Rattle.face_changes.specs.EdgeSplit.{EdgeSplitInTwo}
use Rattle.face_changes.proofs.EdgeSplitCycles.{leads_down, leads_up, dart_same, kind_same}
use Rattle.face_changes.proofs.EdgeSplitFacts.{split_facts}
use Rattle.face_changes.proofs.EdgeSplitNewWall.{across_it}
use Rattle.face_changes.proofs.EdgeSplitWalls.{alike}

pub edge_split_in_two : EdgeSplitInTwo
edge_split_in_two = record {
  left = λ g h e p rest t m T. left_widened g h p (split_facts g h.vertices h.edges e p rest m).new (alike g h.vertices h.edges e p rest m) t T;
  faces = λ g h e p rest c d m C D. (
    face_down g h p (split_facts g h.vertices h.edges e p rest m).new (alike g h.vertices h.edges e p rest m) c d,
    λ k. face_up g h p (split_facts g h.vertices h.edges e p rest m).new (alike g h.vertices h.edges e p rest m) (across_it g h.vertices h.edges e p rest m) (widened g p c) (widened g p d) k c d (in_member (cells h) c C) (in_member (cells h) d D) refl refl,
  );
  leads = λ g h e p rest d k m fl D K. (leads_down g h.vertices h.edges e p rest m fl d k, leads_up g h.vertices h.edges e p rest m fl d k D K);
  dart = λ g h e p rest d m fl D. dart_same g h.vertices h.edges e p rest m fl d D;
  kinds = λ g h e p rest d m fl D. kind_same g h.vertices h.edges e p rest m fl d D;
}
