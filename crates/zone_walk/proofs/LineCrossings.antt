-- The crossing of two lines is the one point on both.
use Rattle.std.proofs.Common.{◌≡◌, ◌-ℤ◌, ◌*ℤ◌, false}
use Rattle.exact_plane.specs.Line.{Line, IsOn}
use Rattle.exact_plane.specs.Point.{Point}
use Rattle.exact_plane.proofs.Geometry.{cross_only}
use Rattle.plane_graphs.specs.Line.{IsProper, are_parallel, crossing}
use Rattle.plane_graphs.proofs.Lines.{is_at_w, proper_at, not_zero}

-- ---- a point at a place with another weight

-- ---- two lines that aren't parallel

module _ (l m : Line) (crosses : are_parallel l m ≡ false) where
  pub crossing_proper : IsProper (crossing l m)
  unfolding crossing
  crossing_proper = proper_at (l.b *ℤ m.c -ℤ m.b *ℤ l.c) (l.c *ℤ m.a -ℤ m.c *ℤ l.a) (l.a *ℤ m.b -ℤ m.a *ℤ l.b) (not_zero (l.a *ℤ m.b) (m.a *ℤ l.b) crosses)

  pub is_crossing : (t : Point) → IsProper t → IsOn l t → IsOn m t → t ≡ crossing l m
  unfolding crossing
  is_crossing t h on_l on_m =
      let o = cross_only l.a l.b l.c m.a m.b m.c t.x t.y t.w on_l on_m in
      is_at_w (l.b *ℤ m.c -ℤ m.b *ℤ l.c) (l.c *ℤ m.a -ℤ m.c *ℤ l.a) (l.a *ℤ m.b -ℤ m.a *ℤ l.b) (not_zero (l.a *ℤ m.b) (m.a *ℤ l.b) crosses) t h o.0 o.1
