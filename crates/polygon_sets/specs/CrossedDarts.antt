-- What the darts of a subdivision cross.
use Rattle.std.specs.Prelude.{◌≡◌, ◌<◌, ◌%◌, ◌==◌, ℕ, List, length, slice_index_or, Vec}
use Rattle.std.specs.Global.{Global}
use Rattle.slab_laws.specs.declared.names.DartId.{DartId}
use Rattle.slab_laws.specs.declared.rows.ListedDart.{ListedDart}
use Rattle.slab_laws.specs.View.{dart_id, cycle_in, face_in, twin_in}
use Rattle.subdivision_rows.specs.Listed.{Drawing, view_of, faces_of}
use Rattle.polygon_sets.specs.declared.crossings.Crossing.{Crossing}
use Rattle.polygon_sets.specs.Crossings.{crossing_at}
use Rattle.polygon_sets.specs.OddVertices.{row_at}

-- the name of the face on the left of a dart
abbrev pub left_of_name : Drawing → DartId → ℕ
left_of_name d k = (face_in (faces_of d) (cycle_in (faces_of d) k)).0

-- what the dart of a name crosses, by its row
abbrev pub crossing_of : Drawing → List ℕ → List ℕ → DartId → ListedDart → Crossing
crossing_of d red blue k r = record {
  source = r.source;
  target = r.target;
  left = left_of_name d k;
  right = left_of_name d (twin_in (view_of d) k);
  red = slice_index_or red r.edge 0 % 2 == 1;
  blue = slice_index_or blue r.edge 0 % 2 == 1;
}

-- of each dart what it crosses, in their order
pub record AreCrossed (d : Drawing) (red blue : List ℕ) (rows : List ListedDart) (cs : Vec Crossing Global) : Type 0 where
  pub counted : length cs.items ≡ length rows
  pub each : (k : ℕ) → k < length rows → crossing_at cs.items k ≡ crossing_of d red blue (dart_id k) (row_at rows k)
