-- What a subdivision in memory knows of cells beside its rows.
use Rattle.std.specs.Prelude.{◌≡◌}
use Rattle.slab_laws.specs.declared.slab_cell.SlabCell.{SlabCell}
use Rattle.slab_laws.specs.Classes.{class_of}
use Rattle.slab_laws.specs.Faces.{same_cell, face_labels, face_of}
use Rattle.subdivision_rows.specs.Listed.{skeleton_in, subdivision_in}
use Rattle.plain_slabs.specs.declared.plain.Plain.TheInside.{Inside}

-- the cells are those of the graph's subdivision: each one's least cell, and the faces by rank
pub record IsSoundSubdivision (a : Inside) : Type 0 where
  pub labels : (c : SlabCell) → class_of same_cell a.labels c ≡ face_of (face_labels (skeleton_in a.rows)) c
  pub faces : a.faces.items ≡ (subdivision_in a.rows).faces
