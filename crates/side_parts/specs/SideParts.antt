-- Parts of sides between neighbours among the points of a list, by places in lists.
use Rattle.std.specs.Prelude.{◌≡◌, ◌<◌, ◌++◌, ◌&&◌, ◌==◌, ℕ, suc, pos, Bool, true, false, not, cond, List, [], ◌∷◌, length, Option, None, Some}
use Rattle.std.specs.declared.cmp.Ordering.{Ordering}
use Rattle.std.specs.List.{slice_index_or}
use Rattle.std.specs.Ordering.{nat_cmp, ordering_then}
use Rattle.exact_plane.specs.Point.{Point}
use Rattle.exact_plane.specs.Segment.{Segment, line_of_segment, segment, whole_point}
use Rattle.plane_graphs.specs.Graph.{Mark, mark}
use Rattle.plane_graphs.specs.Line.{is_on, precedes}
use Rattle.plane_graphs.specs.Strands.{strand}
use Rattle.side_parts.specs.declared.part.Part.{Part}

-- the point is on the side, its ends included
abbrev pub holds : Segment → Point → Bool
holds s p = is_on (line_of_segment s) p && (not (precedes p s.lower) && not (precedes s.upper p))

abbrev pub part : ℕ → ℕ → ℕ → Part
part l h j = record { low = l; high = h; side = j }

-- the point at a place; any one past the end
abbrev pub point_at : List Point → ℕ → Point
point_at ps i = slice_index_or ps i (whole_point (pos 0) (pos 0))

-- the side at a place; any one past the end
abbrev pub side_at : List Segment → ℕ → Segment
side_at ss j = slice_index_or ss j (segment (pos 0) (pos 0) (pos 0) (pos 0))

-- ---- which parts there are
-- the part that ends at a place, where one begins before it
abbrev pub part_after : ℕ → Option ℕ → ℕ → List Part
part_after j None i = []
part_after j (Some l) i = part l i j ∷ []

-- the parts of a side along the points from a place on that are on it, where the last one before was at another place (this project)
unfoldable pub parts_from : (Point → Bool) → ℕ → Option ℕ → ℕ → List Point → List Part
parts_from test j last i [] = []
parts_from test j last i (p ∷ ps) = cond (test p) (part_after j last i ++ parts_from test j (Some i) (suc i) ps) (parts_from test j last (suc i) ps)

-- the parts of sides, one side after the other (this project)
unfoldable pub parts_of_sides : List Point → ℕ → List Segment → List Part
parts_of_sides ps j [] = []
parts_of_sides ps j (s ∷ ss) = parts_from (holds s) j None 0 ps ++ parts_of_sides ps (suc j) ss

-- the part's ends are places of the list, in order
pub record IsPartIn (ps : List Point) (t : Part) : Type 0 where
  pub ahead : t.low < t.high
  pub within : t.high < length ps

-- the part is between neighbours among the points on one of the sides: both are on it, and none of those strictly between them in the list is (this project)
pub record IsPartOf (ps : List Point) (ss : List Segment) (t : Part) : Type 0 where
  pub side : t.side < length ss
  pub begins : holds (side_at ss t.side) (point_at ps t.low) ≡ true
  pub ends : holds (side_at ss t.side) (point_at ps t.high) ≡ true
  pub none_between : (i : ℕ) → t.low < i → i < t.high → holds (side_at ss t.side) (point_at ps i) ≡ false

-- parts go by their lower ends, then by their upper ends, then by their sides
abbrev pub part_cmp : Part → Part → Ordering
part_cmp t u = ordering_then (nat_cmp t.low u.low) (ordering_then (nat_cmp t.high u.high) (nat_cmp t.side u.side))

-- ---- the marks of parts
-- the mark of a part of the curve c, its side told apart; sides are numbered from 1
abbrev pub strand_mark : List Point → ℕ → Part → Mark
strand_mark ps c t = mark (point_at ps t.low) (point_at ps t.high) (strand c (suc t.side))

-- the mark of a part of the curve c
abbrev pub edge_mark : List Point → ℕ → Part → Mark
edge_mark ps c t = mark (point_at ps t.low) (point_at ps t.high) c

-- both parts are between the same points
abbrev pub same_ends : Part → Part → Bool
same_ends t u = (t.low == u.low) && (t.high == u.high)

-- the marks of the curve c along the edges of parts that follow another one: where the part before one is between the same points, none is made of it (this project)
unfoldable pub edge_marks_after : List Point → ℕ → Part → List Part → List Mark
edge_marks_after ps c t [] = []
edge_marks_after ps c t (u ∷ us) = cond (same_ends t u) (edge_marks_after ps c u us) (edge_mark ps c u ∷ edge_marks_after ps c u us)

-- the marks of the curve c along the edges of parts, one for each run of parts between the same points (this project)
unfoldable pub edge_marks : List Point → ℕ → List Part → List Mark
edge_marks ps c [] = []
edge_marks ps c (t ∷ ts) = edge_mark ps c t ∷ edge_marks_after ps c t ts
