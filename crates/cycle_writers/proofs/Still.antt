-- What of the records stays while things move from face to face.
use Rattle.std.proofs.Common.{◌≡◌, arith, refl, ◌∙◌}
use Rattle.dcel_records.specs.RecordsView.{RecordsView, IsSpareFaces, graph_part, lists_of}

pub record IsStill (old now : RecordsView) : Type 0 where
  pub darts : (lists_of now).dart_on ≡ (lists_of old).dart_on
  pub spare : IsSpareFaces old.faces now.faces 0 0
  pub returned : now.faces.moved ≡ old.faces.moved
  pub graph : graph_part now ≡ graph_part old

pub still_itself : (old : RecordsView) → IsStill old old
still_itself old = record {
  darts = refl;
  spare = record { of_cycles = omega arith; of_faces = omega arith; capacity_of_cycles = refl; capacity_of_faces = refl };
  returned = refl;
  graph = refl;
}

pub still_on : (old now then : RecordsView) → IsStill old now → IsStill now then → IsStill old then
still_on old now then a b = record {
  darts = b.darts ∙ a.darts;
  spare = record {
    of_cycles = let x = a.spare.of_cycles in let y = b.spare.of_cycles in omega (arith, x, y);
    of_faces = let x = a.spare.of_faces in let y = b.spare.of_faces in omega (arith, x, y);
    capacity_of_cycles = b.spare.capacity_of_cycles ∙ a.spare.capacity_of_cycles;
    capacity_of_faces = b.spare.capacity_of_faces ∙ a.spare.capacity_of_faces;
  };
  returned = b.returned ∙ a.returned;
  graph = b.graph ∙ a.graph;
}
