use Rattle.std.proofs.Common.{◌≡◌, refl, sym, ◌∙◌}
use Rattle.exact_plane.specs.Line.{Line, IsLine, side_of as side_number}
use Rattle.exact_plane.specs.Point.{Point, IsPoint}
use Rattle.exact_plane.specs.Sign.{sign_of}
use Rattle.exact_plane.specs.Span.{AreOnWay}
use Rattle.exact_plane.specs.declared.sides.Sign.{Sign}
use Rattle.slab_laws.specs.Skeleton.{side}
use Rattle.edge_predicates.proofs.Sides.{sign_same}
use Rattle.locate_walk.proofs.found.side_of.Goals as goal

-- the side of the line is that of the edge
told : (p q t : Point) (l : Line) (r : Sign) → IsPoint p → IsPoint q → IsLine l → AreOnWay p q l → r ≡ sign_of (side_number l t) → r ≡ sign_of (side (record { low = p; high = q }) t)
told p q t l r P Q L w e = sign_same (record { lower = p; upper = q; line = l }) t r (record { lower = P; upper = Q; line = L; way = w }) e

pub returns-in-Minus : goal.returns-in-Minus
returns-in-Minus c =
    sym c.in-Minus.is
    ∙ told c.args.lower c.args.upper c.args.point.now c.args.line c.side.result c.laws.ensures c.laws-2.ensures c.laws-3.ensures c.requires c.side.ensures

pub returns-in-Zero : goal.returns-in-Zero
returns-in-Zero c = (
  sym c.in-Zero.is
      ∙ told c.args.lower c.args.upper c.args.point.now c.args.line c.side.result c.laws.ensures c.laws-2.ensures c.laws-3.ensures c.requires c.side.ensures,
  refl,
)

pub returns-in-Plus : goal.returns-in-Plus
returns-in-Plus c = (
  sym c.in-Plus.is
      ∙ told c.args.lower c.args.upper c.args.point.now c.args.line c.side.result c.laws.ensures c.laws-2.ensures c.laws-3.ensures c.requires c.side.ensures,
  refl,
  c.between.ensures,
)
