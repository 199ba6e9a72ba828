-- The model computed on small presents. What it must give was found by another program, which works with exact fractions.
use Rattle.std.proofs.Common.{◌≡◌, ℕ, pos, negsuc, [], ◌∷◌, codes, map, true, false, refl}
use Rattle.std.specs.Fmt.{digits}
use Rattle.integers.specs.Divisor.{gcd_within, gcd}
use Rattle.exact_plane.specs.Point.{Point}
use Rattle.plane_graphs.specs.Ascending.{place, ascending}
use Rattle.plane_graphs.specs.Line as line
use Rattle.plane_graphs.specs.Piece.{Present, along, on}
use Rattle.plane_graphs.specs.Graph as graphs
use Rattle.plane_graphs.specs.Graph.{graph}
pub use Rattle.plane_graphs.proofs.Examples.{at, piece}
use Rattle.plane_graphs.proofs.Examples.{over}
use Rattle.slab_laws.specs.declared.cell.Cell.{Cell}
use Rattle.slab_laws.specs.declared.cell.Cell.TheVariants.{Vertex, Edge as OnEdge, Face}
use Rattle.slab_laws.specs.declared.slab_cell.SlabCell.{SlabCell}
use Rattle.slab_laws.specs.Listed.{distinct}
use Rattle.slab_laws.specs.Darts.{darts}
use Rattle.slab_laws.specs.Skeleton as plane
use Rattle.slab_laws.specs.Meets.{covers_above}
use Rattle.slab_laws.specs.Slabs as slabs
use Rattle.slab_laws.specs.Faces as faces
use Rattle.slab_laws.specs.Classes as classes
use Rattle.slab_laws.specs.Rotation as rotation
use Rattle.slab_laws.specs.Cycles as cycles
use Rattle.slab_laws.specs.Subdivision as whole
use Rattle.slab_laws.specs.Subdivision.{subdivision, holds}
use Rattle.slab_laws.specs.Text as text
use Rattle.slab_laws.specs.Text.{present_text, skeleton}

-- opens all that the examples compute with
unfoldable pub opened : Unit {0}
unfolding gcd_within gcd digits place ascending distinct line.homogeneous_point line.crossing along on
    graphs.mark_cmp graphs.ends graphs.common_points graphs.vertices graphs.is_parted graphs.are_neighbours graphs.marks_on graphs.marks graphs.graph graphs.edge_cmp graphs.edges graphs.curves
    plane.left_of plane.lower_than plane.run plane.side plane.steep plane.shift plane.foot plane.over plane.gap plane.crosses plane.same_edge plane.under slabs.width
    faces.is_lowest faces.walls faces.is_open faces.corner_links faces.foot_links faces.wall_links faces.links faces.face_labels faces.slab_cells faces.cells
    classes.class_of classes.merged classes.joined classes.with_link classes.classes
    rotation.same_dart rotation.earlier rotation.turn_cmp rotation.ring rotation.after_in rotation.after rotation.next rotation.rotation
    cycles.trail cycles.dart_labels cycles.leads cycles.darts_on cycles.odd
    whole.cycle whole.cycles whole.has_dart whole.ranked whole.subdivision whole.rank whole.spot_on whole.holds_in
    text.word text.number text.index text.triple text.ended text.vertex_line text.edge_line text.cycle_line text.face_lines text.numbered text.text_by text.text text.marks text.graph_text text.present_text
opened = tt

-- the cell that holds a point
abbrev located : Present → Point → Cell
located p q = holds (subdivision (skeleton (graph p))) q

-- nothing at all
abbrev empty : Present
empty = record { pieces = []; pins = [] }

empty-text : present_text empty ≡ codes "arrangement 0 0 1\nf 0\nend\n"
unfolding opened
empty-text = refl

-- two segments that cross at a fraction
abbrev fraction : Present
fraction = record { pieces = piece 1 (at (pos 0) (pos 0)) (at (pos 2) (pos 1)) ∷ piece 2 (at (pos 0) (pos 1)) (at (pos 1) (pos 0)) ∷ []; pins = [] }

fraction-text : present_text fraction ≡ codes "arrangement 5 4 1\nv 1 0 0 1 : 3\nv 2 0 1 1 : 3\nv 3 2 1 3 : 1 2 5 4\nv 4 1 0 1 : 3\nv 5 2 1 1 : 3\ne 1 3 : 1\ne 2 3 : 2\ne 3 4 : 2\ne 3 5 : 1\nf 0\nh 1 3 2 3 5 3 4 3\nend\n"
unfolding opened
fraction-text = refl

fraction-located_1 : located fraction (over (pos 2) (pos 1) 3) ≡ Vertex (over (pos 2) (pos 1) 3)
unfolding opened
fraction-located_1 = refl

fraction-located_2 : located fraction (over (pos 2) (pos 1) 2) ≡ OnEdge (over (pos 2) (pos 1) 3) (at (pos 2) (pos 1))
unfolding opened
fraction-located_2 = refl

fraction-located_3 : located fraction (over (pos 1) (pos 1) 4) ≡ Face 0
unfolding opened
fraction-located_3 = refl

-- a square with both diagonals
abbrev diagonals : Present
diagonals = record { pieces = piece 1 (at (pos 0) (pos 0)) (at (pos 4) (pos 0)) ∷ piece 2 (at (pos 4) (pos 0)) (at (pos 4) (pos 4)) ∷ piece 3 (at (pos 0) (pos 4)) (at (pos 4) (pos 4)) ∷ piece 4 (at (pos 0) (pos 0)) (at (pos 0) (pos 4)) ∷ piece 5 (at (pos 0) (pos 0)) (at (pos 4) (pos 4)) ∷ piece 6 (at (pos 0) (pos 4)) (at (pos 4) (pos 0)) ∷ []; pins = [] }

diagonals-text : present_text diagonals ≡ codes "arrangement 5 8 5\nv 1 0 0 1 : 2 3 4\nv 2 0 4 1 : 1 5 3\nv 3 2 2 1 : 1 2 5 4\nv 4 4 0 1 : 1 3 5\nv 5 4 4 1 : 2 4 3\ne 1 2 : 4\ne 1 3 : 5\ne 1 4 : 1\ne 2 3 : 6\ne 2 5 : 3\ne 3 4 : 6\ne 3 5 : 5\ne 4 5 : 2\nf 0\nh 1 2 5 4\nf 1\no 1 3 2\nf 2\no 1 4 3\nf 3\no 2 3 5\nf 4\no 3 4 5\nend\n"
unfolding opened
diagonals-text = refl

diagonals-located_1 : located diagonals (at (pos 2) (pos 1)) ≡ Face 2
unfolding opened
diagonals-located_1 = refl

diagonals-located_2 : located diagonals (at (pos 1) (pos 1)) ≡ OnEdge (at (pos 0) (pos 0)) (at (pos 2) (pos 2))
unfolding opened
diagonals-located_2 = refl

diagonals-located_3 : located diagonals (at (pos 2) (pos 2)) ≡ Vertex (at (pos 2) (pos 2))
unfolding opened
diagonals-located_3 = refl

diagonals-located_4 : located diagonals (at (pos 4) (pos 2)) ≡ OnEdge (at (pos 4) (pos 0)) (at (pos 4) (pos 4))
unfolding opened
diagonals-located_4 = refl

diagonals-located_5 : located diagonals (at (pos 5) (pos 2)) ≡ Face 0
unfolding opened
diagonals-located_5 = refl

diagonals-located_6 : located diagonals (at (pos 2) (pos 5)) ≡ Face 0
unfolding opened
diagonals-located_6 = refl

-- a segment that ends inside another
abbrev contact : Present
contact = record { pieces = piece 1 (at (pos 0) (pos 0)) (at (pos 4) (pos 0)) ∷ piece 2 (at (pos 2) (pos 0)) (at (pos 2) (pos 3)) ∷ []; pins = [] }

contact-text : present_text contact ≡ codes "arrangement 4 3 1\nv 1 0 0 1 : 2\nv 2 2 0 1 : 1 3 4\nv 3 2 3 1 : 2\nv 4 4 0 1 : 2\ne 1 2 : 1\ne 2 3 : 2\ne 2 4 : 1\nf 0\nh 1 2 3 2 4 2\nend\n"
unfolding opened
contact-text = refl

contact-located_1 : located contact (at (pos 2) (pos 1)) ≡ OnEdge (at (pos 2) (pos 0)) (at (pos 2) (pos 3))
unfolding opened
contact-located_1 = refl

contact-located_2 : located contact (at (pos 2) (negsuc 0)) ≡ Face 0
unfolding opened
contact-located_2 = refl

-- a fraction on an upright edge
contact-located_3 : located contact (over (pos 4) (pos 5) 2) ≡ OnEdge (at (pos 2) (pos 0)) (at (pos 2) (pos 3))
unfolding opened
contact-located_3 = refl

-- five segments from one point
abbrev star : Present
star = record { pieces = piece 1 (at (negsuc 1) (pos 1)) (at (pos 0) (pos 0)) ∷ piece 2 (at (negsuc 0) (negsuc 1)) (at (pos 0) (pos 0)) ∷ piece 3 (at (pos 0) (pos 0)) (at (pos 0) (pos 3)) ∷ piece 4 (at (pos 0) (pos 0)) (at (pos 2) (pos 1)) ∷ piece 5 (at (pos 0) (pos 0)) (at (pos 2) (negsuc 0)) ∷ []; pins = [] }

star-text : present_text star ≡ codes "arrangement 6 5 1\nv 1 -2 1 1 : 3\nv 2 -1 -2 1 : 3\nv 3 0 0 1 : 1 4 6 5 2\nv 4 0 3 1 : 3\nv 5 2 -1 1 : 3\nv 6 2 1 1 : 3\ne 1 3 : 1\ne 2 3 : 2\ne 3 4 : 3\ne 3 5 : 5\ne 3 6 : 4\nf 0\nh 1 3 4 3 6 3 5 3 2 3\nend\n"
unfolding opened
star-text = refl

-- two segments that overlap
abbrev overlap : Present
overlap = record { pieces = piece 1 (at (pos 2) (pos 0)) (at (pos 4) (pos 0)) ∷ piece 2 (at (pos 0) (pos 0)) (at (pos 6) (pos 0)) ∷ []; pins = [] }

overlap-text : present_text overlap ≡ codes "arrangement 4 3 1\nv 1 0 0 1 : 2\nv 2 2 0 1 : 1 3\nv 3 4 0 1 : 2 4\nv 4 6 0 1 : 3\ne 1 2 : 2\ne 2 3 : 1 2\ne 3 4 : 2\nf 0\nh 1 2 3 4 3 2\nend\n"
unfolding opened
overlap-text = refl

overlap-located_1 : located overlap (at (pos 3) (pos 0)) ≡ OnEdge (at (pos 2) (pos 0)) (at (pos 4) (pos 0))
unfolding opened
overlap-located_1 = refl

overlap-located_2 : located overlap (at (pos 3) (pos 1)) ≡ Face 0
unfolding opened
overlap-located_2 = refl

-- a square with a triangle and a pinned point in it
abbrev nested : Present
nested = record { pieces = piece 1 (at (pos 0) (pos 0)) (at (pos 12) (pos 0)) ∷ piece 2 (at (pos 12) (pos 0)) (at (pos 12) (pos 12)) ∷ piece 3 (at (pos 0) (pos 12)) (at (pos 12) (pos 12)) ∷ piece 4 (at (pos 0) (pos 0)) (at (pos 0) (pos 12)) ∷ piece 5 (at (pos 1) (pos 1)) (at (pos 3) (pos 1)) ∷ piece 6 (at (pos 2) (pos 3)) (at (pos 3) (pos 1)) ∷ piece 7 (at (pos 1) (pos 1)) (at (pos 2) (pos 3)) ∷ []; pins = at (pos 3) (pos 9) ∷ [] }

nested-text : present_text nested ≡ codes "arrangement 8 7 3\nv 1 0 0 1 : 2 7\nv 2 0 12 1 : 1 8\nv 3 1 1 1 : 4 5\nv 4 2 3 1 : 3 5\nv 5 3 1 1 : 3 4\nv 6 3 9 1 pin :\nv 7 12 0 1 : 1 8\nv 8 12 12 1 : 2 7\ne 1 2 : 4\ne 1 7 : 1\ne 2 8 : 3\ne 3 4 : 7\ne 3 5 : 5\ne 4 5 : 6\ne 7 8 : 2\nf 0\nh 1 2 8 7\nf 1\no 1 7 8 2\nh 3 4 5\np 6\nf 2\no 3 5 4\nend\n"
unfolding opened
nested-text = refl

nested-located_1 : located nested (at (pos 2) (pos 2)) ≡ Face 2
unfolding opened
nested-located_1 = refl

nested-located_2 : located nested (at (pos 2) (pos 1)) ≡ OnEdge (at (pos 1) (pos 1)) (at (pos 3) (pos 1))
unfolding opened
nested-located_2 = refl

nested-located_3 : located nested (at (pos 3) (pos 9)) ≡ Vertex (at (pos 3) (pos 9))
unfolding opened
nested-located_3 = refl

nested-located_4 : located nested (at (pos 3) (pos 5)) ≡ Face 1
unfolding opened
nested-located_4 = refl

nested-located_5 : located nested (at (pos 12) (pos 6)) ≡ OnEdge (at (pos 12) (pos 0)) (at (pos 12) (pos 12))
unfolding opened
nested-located_5 = refl

nested-located_6 : located nested (at (pos 13) (pos 0)) ≡ Face 0
unfolding opened
nested-located_6 = refl

-- a vertical edge between two stops of a wall
abbrev upright : Present
upright = record { pieces = piece 1 (at (pos 0) (pos 0)) (at (pos 4) (pos 0)) ∷ piece 2 (at (pos 0) (pos 3)) (at (pos 4) (pos 3)) ∷ piece 3 (at (pos 2) (pos 0)) (at (pos 2) (pos 3)) ∷ []; pins = [] }

upright-text : present_text upright ≡ codes "arrangement 6 5 1\nv 1 0 0 1 : 3\nv 2 0 3 1 : 4\nv 3 2 0 1 : 1 4 5\nv 4 2 3 1 : 2 6 3\nv 5 4 0 1 : 3\nv 6 4 3 1 : 4\ne 1 3 : 1\ne 2 4 : 2\ne 3 4 : 3\ne 3 5 : 1\ne 4 6 : 2\nf 0\nh 1 3 4 2 4 6 4 3 5 3\nend\n"
unfolding opened
upright-text = refl

upright-located_1 : located upright (at (pos 2) (pos 1)) ≡ OnEdge (at (pos 2) (pos 0)) (at (pos 2) (pos 3))
unfolding opened
upright-located_1 = refl

upright-located_2 : located upright (at (pos 2) (pos 4)) ≡ Face 0
unfolding opened
upright-located_2 = refl

upright-located_3 : located upright (at (pos 1) (pos 3)) ≡ OnEdge (at (pos 0) (pos 3)) (at (pos 2) (pos 3))
unfolding opened
upright-located_3 = refl

upright-located_4 : located upright (at (pos 2) (pos 3)) ≡ Vertex (at (pos 2) (pos 3))
unfolding opened
upright-located_4 = refl

-- four points on four walls, with a triangle beside the edge that passes under it: the picture of the model's description
abbrev pictured : Present
pictured = record { pieces = piece 1 (at (pos 0) (pos 4)) (at (pos 6) (pos 8)) ∷ piece 2 (at (pos 2) (pos 4)) (at (pos 6) (pos 8)) ∷ piece 3 (at (pos 6) (pos 8)) (at (pos 10) (pos 0)) ∷ piece 4 (at (pos 0) (pos 4)) (at (pos 10) (pos 0)) ∷ []; pins = [] }

abbrev cell : ℕ → ℕ → SlabCell
cell i j = record { slab = i; place = j }

pictured-text : present_text pictured ≡ codes "arrangement 4 4 2\nv 1 0 4 1 : 3 4\nv 2 2 4 1 : 3\nv 3 6 8 1 : 1 4 2\nv 4 10 0 1 : 1 3\ne 1 3 : 1\ne 1 4 : 4\ne 2 3 : 2\ne 3 4 : 3\nf 0\nh 1 3 4\nf 1\no 1 4 3 2 3\nend\n"
unfolding opened
pictured-text = refl

pictured-cells : faces.cells (skeleton (graph pictured)) ≡ cell 0 0 ∷ cell 1 0 ∷ cell 1 1 ∷ cell 1 2 ∷ cell 2 0 ∷ cell 2 1 ∷ cell 2 2 ∷ cell 2 3 ∷ cell 3 0 ∷ cell 3 1 ∷ cell 3 2 ∷ cell 4 0 ∷ []
unfolding opened
pictured-cells = refl

-- the bounded face goes round the end of the edge in it
pictured-round : map (faces.face_of (faces.face_labels (skeleton (graph pictured)))) (cell 1 1 ∷ cell 2 1 ∷ cell 2 2 ∷ cell 3 1 ∷ []) ≡ cell 1 1 ∷ cell 1 1 ∷ cell 1 1 ∷ cell 1 1 ∷ []
unfolding opened
pictured-round = refl

pictured-outside : map (faces.face_of (faces.face_labels (skeleton (graph pictured)))) (cell 1 0 ∷ cell 1 2 ∷ cell 2 3 ∷ cell 3 2 ∷ cell 4 0 ∷ []) ≡ cell 0 0 ∷ cell 0 0 ∷ cell 0 0 ∷ cell 0 0 ∷ cell 0 0 ∷ []
unfolding opened
pictured-outside = refl

-- what follows a dart, at its lone end and at a vertex with three
pictured-next : map (λ d. rotation.next (darts (skeleton (graph pictured))) d) ((record { edge = record { low = at (pos 2) (pos 4); high = at (pos 6) (pos 8) }; forward = false }) ∷ (record { edge = record { low = at (pos 2) (pos 4); high = at (pos 6) (pos 8) }; forward = true }) ∷ []) ≡ (record { edge = record { low = at (pos 2) (pos 4); high = at (pos 6) (pos 8) }; forward = true }) ∷ (record { edge = record { low = at (pos 0) (pos 4); high = at (pos 6) (pos 8) }; forward = false }) ∷ []
unfolding opened
pictured-next = refl

-- the cells on the left of all darts of the square with both diagonals: in the first slab of the edge, or beside its lower end
diagonals-left : map (cycles.left_of_dart (skeleton (graph diagonals))) (darts (skeleton (graph diagonals))) ≡ cell 0 0 ∷ cell 2 2 ∷ cell 2 1 ∷ cell 2 3 ∷ cell 2 4 ∷ cell 3 2 ∷ cell 3 3 ∷ cell 3 2 ∷ cell 2 2 ∷ cell 2 1 ∷ cell 2 0 ∷ cell 2 2 ∷ cell 2 3 ∷ cell 3 1 ∷ cell 3 2 ∷ cell 5 0 ∷ []
unfolding opened
diagonals-left = refl

-- a face with two cells in its first slab, on a wall with two vertices, and an edge under it that ends before the face does
abbrev notched : Present
notched = record { pieces = piece 1 (at (pos 0) (pos 0)) (at (pos 6) (pos 3)) ∷ piece 2 (at (pos 0) (pos 6)) (at (pos 6) (pos 3)) ∷ piece 3 (at (pos 0) (pos 6)) (at (pos 3) (pos 3)) ∷ piece 4 (at (pos 0) (pos 0)) (at (pos 3) (pos 3)) ∷ piece 5 (at (negsuc 0) (negsuc 1)) (at (pos 1) (negsuc 0)) ∷ []; pins = [] }

notched-text : present_text notched ≡ codes "arrangement 6 5 2\nv 1 -1 -2 1 : 4\nv 2 0 0 1 : 5 6\nv 3 0 6 1 : 5 6\nv 4 1 -1 1 : 1\nv 5 3 3 1 : 2 3\nv 6 6 3 1 : 2 3\ne 1 4 : 5\ne 2 5 : 4\ne 2 6 : 1\ne 3 5 : 3\ne 3 6 : 2\nf 0\nh 1 4\nh 2 5 3 6\nf 1\no 2 6 3 5\nend\n"
unfolding opened
notched-text = refl

notched-cells : faces.cells (skeleton (graph notched)) ≡ cell 0 0 ∷ cell 1 0 ∷ cell 1 1 ∷ cell 3 0 ∷ cell 3 1 ∷ cell 3 2 ∷ cell 3 3 ∷ cell 3 4 ∷ cell 3 5 ∷ cell 4 0 ∷ cell 4 1 ∷ cell 4 2 ∷ cell 4 3 ∷ cell 4 4 ∷ cell 5 0 ∷ cell 5 1 ∷ cell 5 2 ∷ cell 6 0 ∷ []
unfolding opened
notched-cells = refl

notched-least : map (faces.face_of (faces.face_labels (skeleton (graph notched)))) (faces.cells (skeleton (graph notched))) ≡ cell 0 0 ∷ cell 0 0 ∷ cell 0 0 ∷ cell 0 0 ∷ cell 0 0 ∷ cell 3 2 ∷ cell 0 0 ∷ cell 3 2 ∷ cell 0 0 ∷ cell 0 0 ∷ cell 3 2 ∷ cell 0 0 ∷ cell 3 2 ∷ cell 0 0 ∷ cell 0 0 ∷ cell 3 2 ∷ cell 0 0 ∷ cell 0 0 ∷ []
unfolding opened
notched-least = refl

-- a face whose two sides meet only under an upright edge that hangs into it
abbrev hanging : Present
hanging = record { pieces = piece 1 (at (pos 0) (pos 0)) (at (pos 2) (pos 0)) ∷ piece 2 (at (pos 2) (pos 0)) (at (pos 4) (pos 0)) ∷ piece 3 (at (pos 4) (pos 0)) (at (pos 4) (pos 4)) ∷ piece 4 (at (pos 0) (pos 4)) (at (pos 4) (pos 4)) ∷ piece 5 (at (pos 0) (pos 0)) (at (pos 0) (pos 4)) ∷ piece 6 (at (pos 2) (pos 2)) (at (pos 2) (pos 4)) ∷ []; pins = [] }

hanging-text : present_text hanging ≡ codes "arrangement 7 7 2\nv 1 0 0 1 : 2 3\nv 2 0 4 1 : 1 5\nv 3 2 0 1 : 1 6\nv 4 2 2 1 : 5\nv 5 2 4 1 : 2 7 4\nv 6 4 0 1 : 3 7\nv 7 4 4 1 : 5 6\ne 1 2 : 5\ne 1 3 : 1\ne 2 5 : 4\ne 3 6 : 2\ne 4 5 : 6\ne 5 7 : 4\ne 6 7 : 3\nf 0\nh 1 2 5 7 6 3\nf 1\no 1 3 6 7 5 4 5 2\nend\n"
unfolding opened
hanging-text = refl

-- ---- points and edges, as the tests of the model see them
abbrev edge : Point → Point → graphs.Edge
edge p q = record { low = p; high = q }

points-seen : plane.left_of (at (pos 1) (pos 5)) (at (pos 2) (pos 0)) ∷ plane.left_of (at (pos 1) (pos 5)) (at (pos 1) (pos 7))
    ∷ plane.lower_than (at (pos 2) (pos 0)) (at (pos 1) (pos 5)) ∷ plane.lower_than (at (pos 1) (pos 7)) (at (pos 1) (pos 5))
    ∷ plane.on_wall (at (pos 1) (pos 7)) (at (pos 1) (pos 5)) ∷ plane.on_wall (at (pos 1) (pos 5)) (at (pos 2) (pos 0))
    ∷ plane.precedes (at (pos 1) (pos 5)) (at (pos 1) (pos 7)) ∷ plane.precedes (at (pos 1) (pos 7)) (at (pos 2) (pos 0)) ∷ plane.precedes (over (pos 1) (pos 1) 2) (over (pos 1) (pos 0) 3)
    ∷ plane.same_point (over (pos 1) (pos 5) 2) (over (pos 1) (pos 5) 2) ∷ plane.same_point (over (pos 1) (pos 5) 2) (over (pos 1) (pos 5) 3) ∷ []
    ≡ true ∷ false ∷ true ∷ false ∷ true ∷ false ∷ true ∷ true ∷ false ∷ true ∷ false ∷ []
unfolding opened
points-seen = refl

-- a slanted edge, and an upright one on its upper end
abbrev slanted : graphs.Edge
slanted = edge (at (pos 0) (pos 0)) (at (pos 4) (pos 2))

abbrev upright-edge : graphs.Edge
upright-edge = edge (at (pos 4) (pos 0)) (at (pos 4) (pos 6))

edges-seen : plane.over slanted (at (pos 2) (pos 0)) ∷ plane.over slanted (at (pos 2) (pos 1)) ∷ plane.under slanted (at (pos 2) (pos 3)) ∷ plane.under slanted (at (pos 2) (pos 1))
    ∷ plane.over upright-edge (at (pos 5) (pos 0)) ∷ plane.under upright-edge (at (pos 3) (pos 0))
    ∷ plane.inside slanted (at (pos 2) (pos 1)) ∷ plane.inside slanted (at (pos 4) (pos 2)) ∷ plane.inside upright-edge (at (pos 4) (pos 2))
    ∷ covers_above upright-edge (at (pos 4) (pos 0)) ∷ covers_above upright-edge (at (pos 4) (pos 6)) ∷ []
    ≡ true ∷ false ∷ true ∷ false ∷ true ∷ true ∷ true ∷ false ∷ true ∷ true ∷ false ∷ []
unfolding opened
edges-seen = refl

-- edges from one vertex, and edges without a common abscissa
edges-in-order : plane.below slanted (edge (at (pos 0) (pos 0)) (at (pos 6) (pos 6))) ∷ plane.below (edge (at (pos 0) (pos 0)) (at (pos 6) (pos 6))) slanted
    ∷ plane.below slanted (edge (at (pos 7) (pos 0)) (at (pos 9) (pos 9))) ∷ plane.below (edge (at (pos 7) (pos 0)) (at (pos 9) (pos 9))) slanted ∷ []
    ≡ true ∷ false ∷ false ∷ false ∷ []
unfolding opened
edges-in-order = refl
