-- Boxes of cycles by whole parts (CGAL, Bbox_2).
use Rattle.std.specs.Prelude.{◌≤ℤ◌, Option, Some, None}
use Rattle.std.specs.Int.{int_min, int_max}
use Rattle.exact_plane.specs.declared.whole_parts.BoundingBox.{BoundingBox}
use Rattle.exact_plane.specs.declared.whole_parts.WholeParts.{WholeParts}
use Rattle.dcel_records.specs.declared.rows.StoredCycle.{StoredCycle}

-- the parts are beyond no side of the box
pub record Covers (k : BoundingBox) (p : WholeParts) : Type 0 where
  pub left : k.least.x ≤ℤ p.x
  pub right : p.x ≤ℤ k.greatest.x
  pub below : k.least.y ≤ℤ p.y
  pub above : p.y ≤ℤ k.greatest.y

-- the least box that has all of another one, and these parts
abbrev pub widened : WholeParts → BoundingBox → BoundingBox
widened p k = record {
  least = record { x = int_min k.least.x p.x; y = int_min k.least.y p.y };
  greatest = record { x = int_max k.greatest.x p.x; y = int_max k.greatest.y p.y };
}

-- a row whose box has these parts too
abbrev pub row_widened : WholeParts → StoredCycle → StoredCycle
row_widened p r = record { kind = r.kind; dart = r.dart; place = r.place; area = widened p r.area }

-- a cycle's row has the parts in its box
abbrev pub HasParts : Option StoredCycle → WholeParts → Type 0
HasParts None p = ⊥
HasParts (Some r) p = Covers r.area p
