-- Small plane graphs before and after one more edge. The texts are what another program, which works with exact fractions, answers to `show`:
-- it was run as `python3 planar_oracle.py` on the lines above each. The kinds, and on which side of the edge a thing is, are read off these texts.
use Rattle.std.proofs.Common.{◌≡◌, true, false, pos, [], ◌∷◌, codes, refl}
use Rattle.exact_plane.specs.Point.{Point}
use Rattle.plane_graphs.specs.Piece.{Present}
use Rattle.plane_graphs.specs.Graph.{graph}
use Rattle.slab_laws.proofs.Examples.{piece, opened, at}
use Rattle.slab_laws.specs.Cycles.{left_of_dart}
use Rattle.slab_laws.specs.Darts.{Dart}
use Rattle.slab_laws.specs.Rotation.{twin}
use Rattle.slab_laws.specs.Skeleton.{Skeleton}
use Rattle.slab_laws.specs.Slabs.{left_cell}
use Rattle.slab_laws.specs.Text.{present_text, skeleton}
use Rattle.face_changes.specs.Kinds.{odd_at, is_outer}
use Rattle.sound_views.specs.FaceOrderLaws.{same_cycle}

-- the dart from p to q, which comes after it
abbrev from : Point → Point → Dart
from p q = record { edge = record { low = p; high = q }; forward = true }

-- ---- a square: the cycle inside it is outer, the one round it is a hole
-- segment 0 0 8 0; segment 8 0 8 8; segment 0 8 8 8; segment 0 0 0 8; show
abbrev square : Present
square = record { pieces = piece 1 (at (pos 0) (pos 0)) (at (pos 8) (pos 0)) ∷ piece 2 (at (pos 8) (pos 0)) (at (pos 8) (pos 8)) ∷ piece 3 (at (pos 0) (pos 8)) (at (pos 8) (pos 8)) ∷ piece 4 (at (pos 0) (pos 0)) (at (pos 0) (pos 8)) ∷ []; pins = [] }

square-text : present_text square ≡ codes "arrangement 4 4 2\nv 1 0 0 1 : 2 3\nv 2 0 8 1 : 1 4\nv 3 8 0 1 : 1 4\nv 4 8 8 1 : 2 3\ne 1 2 : 4\ne 1 3 : 1\ne 2 4 : 3\ne 3 4 : 2\nf 0\nh 1 2 4 3\nf 1\no 1 3 4 2\nend\n"
unfolding opened
square-text = refl

abbrev of_square : Skeleton
of_square = skeleton (graph square)

square-kinds : (is_outer of_square (from (at (pos 0) (pos 0)) (at (pos 8) (pos 0))) ≡ true) × (is_outer of_square (twin (from (at (pos 0) (pos 0)) (at (pos 8) (pos 0)))) ≡ false)
unfolding opened
square-kinds = (refl, refl)

-- ---- three sides of a square within another: one hole, whose darts go there and back
-- segment 0 0 9 0; segment 9 0 9 9; segment 0 9 9 9; segment 0 0 0 9; segment 6 3 6 6; segment 3 6 6 6; segment 3 3 3 6; show
abbrev open_within : Present
open_within = record { pieces = piece 1 (at (pos 0) (pos 0)) (at (pos 9) (pos 0)) ∷ piece 2 (at (pos 9) (pos 0)) (at (pos 9) (pos 9)) ∷ piece 3 (at (pos 0) (pos 9)) (at (pos 9) (pos 9)) ∷ piece 4 (at (pos 0) (pos 0)) (at (pos 0) (pos 9)) ∷ piece 5 (at (pos 6) (pos 3)) (at (pos 6) (pos 6)) ∷ piece 6 (at (pos 3) (pos 6)) (at (pos 6) (pos 6)) ∷ piece 7 (at (pos 3) (pos 3)) (at (pos 3) (pos 6)) ∷ []; pins = [] }

open_within-text : present_text open_within ≡ codes "arrangement 8 7 2\nv 1 0 0 1 : 2 7\nv 2 0 9 1 : 1 8\nv 3 3 3 1 : 4\nv 4 3 6 1 : 3 6\nv 5 6 3 1 : 6\nv 6 6 6 1 : 4 5\nv 7 9 0 1 : 1 8\nv 8 9 9 1 : 2 7\ne 1 2 : 4\ne 1 7 : 1\ne 2 8 : 3\ne 3 4 : 7\ne 4 6 : 6\ne 5 6 : 5\ne 7 8 : 2\nf 0\nh 1 2 8 7\nf 1\no 1 7 8 2\nh 3 4 6 5 6 4\nend\n"
unfolding opened
open_within-text = refl

-- ---- the fourth side parts an inner cycle: an outer one within, and an inner one round it
-- segment 0 0 9 0; segment 9 0 9 9; segment 0 9 9 9; segment 0 0 0 9; segment 6 3 6 6; segment 3 6 6 6; segment 3 3 3 6; segment 3 3 6 3; show
abbrev square_within : Present
square_within = record { pieces = piece 1 (at (pos 0) (pos 0)) (at (pos 9) (pos 0)) ∷ piece 2 (at (pos 9) (pos 0)) (at (pos 9) (pos 9)) ∷ piece 3 (at (pos 0) (pos 9)) (at (pos 9) (pos 9)) ∷ piece 4 (at (pos 0) (pos 0)) (at (pos 0) (pos 9)) ∷ piece 5 (at (pos 6) (pos 3)) (at (pos 6) (pos 6)) ∷ piece 6 (at (pos 3) (pos 6)) (at (pos 6) (pos 6)) ∷ piece 7 (at (pos 3) (pos 3)) (at (pos 3) (pos 6)) ∷ piece 8 (at (pos 3) (pos 3)) (at (pos 6) (pos 3)) ∷ []; pins = [] }

square_within-text : present_text square_within ≡ codes "arrangement 8 8 3\nv 1 0 0 1 : 2 7\nv 2 0 9 1 : 1 8\nv 3 3 3 1 : 4 5\nv 4 3 6 1 : 3 6\nv 5 6 3 1 : 3 6\nv 6 6 6 1 : 4 5\nv 7 9 0 1 : 1 8\nv 8 9 9 1 : 2 7\ne 1 2 : 4\ne 1 7 : 1\ne 2 8 : 3\ne 3 4 : 7\ne 3 5 : 8\ne 4 6 : 6\ne 5 6 : 5\ne 7 8 : 2\nf 0\nh 1 2 8 7\nf 1\no 1 7 8 2\nh 3 4 6 5\nf 2\no 3 5 6 4\nend\n"
unfolding opened
square_within-text = refl

abbrev of_square_within : Skeleton
of_square_within = skeleton (graph square_within)

-- the fourth side, from left to right
abbrev fourth : Dart
fourth = from (at (pos 3) (pos 3)) (at (pos 6) (pos 3))

square_within-kinds : (is_outer of_square_within fourth ≡ true) × (is_outer of_square_within (twin fourth) ≡ false) × (same_cycle of_square_within fourth (twin fourth) ≡ false)
unfolding opened
square_within-kinds = (refl, refl, refl)

-- ---- a square with a hole and a vertex without darts on either side of where an edge is to part it
-- segment 0 0 8 0; segment 8 0 8 8; segment 0 8 8 8; segment 0 0 0 8; segment 1 3 3 3; segment 5 3 7 3; pin 2 6 1; pin 6 6 1; pin 4 0 1; pin 4 8 1; show
abbrev two_holes : Present
two_holes = record { pieces = piece 1 (at (pos 0) (pos 0)) (at (pos 8) (pos 0)) ∷ piece 2 (at (pos 8) (pos 0)) (at (pos 8) (pos 8)) ∷ piece 3 (at (pos 0) (pos 8)) (at (pos 8) (pos 8)) ∷ piece 4 (at (pos 0) (pos 0)) (at (pos 0) (pos 8)) ∷ piece 5 (at (pos 1) (pos 3)) (at (pos 3) (pos 3)) ∷ piece 6 (at (pos 5) (pos 3)) (at (pos 7) (pos 3)) ∷ []; pins = (at (pos 2) (pos 6)) ∷ (at (pos 4) (pos 0)) ∷ (at (pos 4) (pos 8)) ∷ (at (pos 6) (pos 6)) ∷ [] }

two_holes-text : present_text two_holes ≡ codes "arrangement 12 8 2\nv 1 0 0 1 : 2 6\nv 2 0 8 1 : 1 7\nv 3 1 3 1 : 5\nv 4 2 6 1 pin :\nv 5 3 3 1 : 3\nv 6 4 0 1 pin : 1 11\nv 7 4 8 1 pin : 2 12\nv 8 5 3 1 : 10\nv 9 6 6 1 pin :\nv 10 7 3 1 : 8\nv 11 8 0 1 : 6 12\nv 12 8 8 1 : 7 11\ne 1 2 : 4\ne 1 6 : 1\ne 2 7 : 3\ne 3 5 : 5\ne 6 11 : 1\ne 7 12 : 3\ne 8 10 : 6\ne 11 12 : 2\nf 0\nh 1 2 7 12 11 6\nf 1\no 1 6 11 12 7 2\nh 3 5\nh 8 10\np 4\np 9\nend\n"
unfolding opened
two_holes-text = refl

abbrev of_two_holes : Skeleton
of_two_holes = skeleton (graph two_holes)

-- the holes, by a dart of each
abbrev left_hole : Dart
left_hole = from (at (pos 1) (pos 3)) (at (pos 3) (pos 3))

abbrev right_hole : Dart
right_hole = from (at (pos 5) (pos 3)) (at (pos 7) (pos 3))

two_holes-kinds : (is_outer of_two_holes left_hole ≡ false) × (same_cycle of_two_holes left_hole (twin left_hole) ≡ true) × (same_cycle of_two_holes left_hole right_hole ≡ false)
unfolding opened
two_holes-kinds = (refl, refl, refl)

-- ---- the edge parts the face: what lies left of it is in one face, what lies right of it in another
-- segment 0 0 8 0; segment 8 0 8 8; segment 0 8 8 8; segment 0 0 0 8; segment 1 3 3 3; segment 5 3 7 3; pin 2 6 1; pin 6 6 1; pin 4 0 1; pin 4 8 1; segment 4 0 4 8; show
abbrev parted : Present
parted = record { pieces = piece 1 (at (pos 0) (pos 0)) (at (pos 8) (pos 0)) ∷ piece 2 (at (pos 8) (pos 0)) (at (pos 8) (pos 8)) ∷ piece 3 (at (pos 0) (pos 8)) (at (pos 8) (pos 8)) ∷ piece 4 (at (pos 0) (pos 0)) (at (pos 0) (pos 8)) ∷ piece 5 (at (pos 1) (pos 3)) (at (pos 3) (pos 3)) ∷ piece 6 (at (pos 5) (pos 3)) (at (pos 7) (pos 3)) ∷ piece 7 (at (pos 4) (pos 0)) (at (pos 4) (pos 8)) ∷ []; pins = (at (pos 2) (pos 6)) ∷ (at (pos 4) (pos 0)) ∷ (at (pos 4) (pos 8)) ∷ (at (pos 6) (pos 6)) ∷ [] }

parted-text : present_text parted ≡ codes "arrangement 12 9 3\nv 1 0 0 1 : 2 6\nv 2 0 8 1 : 1 7\nv 3 1 3 1 : 5\nv 4 2 6 1 pin :\nv 5 3 3 1 : 3\nv 6 4 0 1 pin : 1 7 11\nv 7 4 8 1 pin : 2 12 6\nv 8 5 3 1 : 10\nv 9 6 6 1 pin :\nv 10 7 3 1 : 8\nv 11 8 0 1 : 6 12\nv 12 8 8 1 : 7 11\ne 1 2 : 4\ne 1 6 : 1\ne 2 7 : 3\ne 3 5 : 5\ne 6 7 : 7\ne 6 11 : 1\ne 7 12 : 3\ne 8 10 : 6\ne 11 12 : 2\nf 0\nh 1 2 7 12 11 6\nf 1\no 1 6 7 2\nh 3 5\np 4\nf 2\no 6 11 12 7\nh 8 10\np 9\nend\n"
unfolding opened
parted-text = refl

abbrev of_parted : Skeleton
of_parted = skeleton (graph parted)

-- the edge that parts, upwards
abbrev wall : Dart
wall = from (at (pos 4) (pos 0)) (at (pos 4) (pos 8))

parted-kinds : (is_outer of_parted wall ≡ true) × (is_outer of_parted (twin wall) ≡ true) × (same_cycle of_parted wall (twin wall) ≡ false)
unfolding opened
parted-kinds = (refl, refl, refl)

parted-holes : (odd_at of_parted wall (left_of_dart of_parted left_hole) ≡ true) × (odd_at of_parted wall (left_of_dart of_parted right_hole) ≡ false)
unfolding opened
parted-holes = (refl, refl)

parted-vertices : (odd_at of_parted wall (left_cell of_parted (at (pos 2) (pos 6))) ≡ true) × (odd_at of_parted wall (left_cell of_parted (at (pos 6) (pos 6))) ≡ false)
unfolding opened
parted-vertices = (refl, refl)

-- ---- a square, and a vertex without darts in it
-- segment 0 0 8 0; segment 8 0 8 8; segment 0 8 8 8; segment 0 0 0 8; pin 3 4 1; show
abbrev before_dangling : Present
before_dangling = record { pieces = piece 1 (at (pos 0) (pos 0)) (at (pos 8) (pos 0)) ∷ piece 2 (at (pos 8) (pos 0)) (at (pos 8) (pos 8)) ∷ piece 3 (at (pos 0) (pos 8)) (at (pos 8) (pos 8)) ∷ piece 4 (at (pos 0) (pos 0)) (at (pos 0) (pos 8)) ∷ []; pins = (at (pos 3) (pos 4)) ∷ [] }

before_dangling-text : present_text before_dangling ≡ codes "arrangement 5 4 2\nv 1 0 0 1 : 2 4\nv 2 0 8 1 : 1 5\nv 3 3 4 1 pin :\nv 4 8 0 1 : 1 5\nv 5 8 8 1 : 2 4\ne 1 2 : 4\ne 1 4 : 1\ne 2 5 : 3\ne 4 5 : 2\nf 0\nh 1 2 5 4\nf 1\no 1 4 5 2\np 3\nend\n"
unfolding opened
before_dangling-text = refl

-- ---- an edge that dangles from a corner: its cycle has both its darts
-- segment 0 0 8 0; segment 8 0 8 8; segment 0 8 8 8; segment 0 0 0 8; pin 3 4 1; segment 0 0 3 4; show
abbrev dangling : Present
dangling = record { pieces = piece 1 (at (pos 0) (pos 0)) (at (pos 8) (pos 0)) ∷ piece 2 (at (pos 8) (pos 0)) (at (pos 8) (pos 8)) ∷ piece 3 (at (pos 0) (pos 8)) (at (pos 8) (pos 8)) ∷ piece 4 (at (pos 0) (pos 0)) (at (pos 0) (pos 8)) ∷ piece 5 (at (pos 0) (pos 0)) (at (pos 3) (pos 4)) ∷ []; pins = (at (pos 3) (pos 4)) ∷ [] }

dangling-text : present_text dangling ≡ codes "arrangement 5 5 2\nv 1 0 0 1 : 2 3 4\nv 2 0 8 1 : 1 5\nv 3 3 4 1 pin : 1\nv 4 8 0 1 : 1 5\nv 5 8 8 1 : 2 4\ne 1 2 : 4\ne 1 3 : 5\ne 1 4 : 1\ne 2 5 : 3\ne 4 5 : 2\nf 0\nh 1 2 5 4\nf 1\no 1 3 1 4 5 2\nend\n"
unfolding opened
dangling-text = refl

abbrev of_dangling : Skeleton
of_dangling = skeleton (graph dangling)

abbrev antenna : Dart
antenna = from (at (pos 0) (pos 0)) (at (pos 3) (pos 4))

dangling-kinds : (is_outer of_dangling antenna ≡ true) × (same_cycle of_dangling antenna (twin antenna) ≡ true) × (same_cycle of_dangling antenna (from (at (pos 0) (pos 0)) (at (pos 8) (pos 0))) ≡ true)
unfolding opened
dangling-kinds = (refl, refl, refl)

-- its edge counts twice or not at all, so a cell under it and one over it are alike
dangling-parity : (odd_at of_dangling antenna (left_of_dart of_dangling antenna) ≡ true) × (odd_at of_dangling antenna (left_of_dart of_dangling (twin antenna)) ≡ true)
unfolding opened
dangling-parity = (refl, refl)

-- ---- two holes of one face
-- segment 0 0 0 2; segment 5 0 5 2; show
abbrev apart : Present
apart = record { pieces = piece 1 (at (pos 0) (pos 0)) (at (pos 0) (pos 2)) ∷ piece 2 (at (pos 5) (pos 0)) (at (pos 5) (pos 2)) ∷ []; pins = [] }

apart-text : present_text apart ≡ codes "arrangement 4 2 1\nv 1 0 0 1 : 2\nv 2 0 2 1 : 1\nv 3 5 0 1 : 4\nv 4 5 2 1 : 3\ne 1 2 : 1\ne 3 4 : 2\nf 0\nh 1 2\nh 3 4\nend\n"
unfolding opened
apart-text = refl

abbrev of_apart : Skeleton
of_apart = skeleton (graph apart)

apart-cycles : same_cycle of_apart (from (at (pos 0) (pos 0)) (at (pos 0) (pos 2))) (from (at (pos 5) (pos 0)) (at (pos 5) (pos 2))) ≡ false
unfolding opened
apart-cycles = refl

-- ---- a bridge between them: one hole, with both darts of the bridge
-- segment 0 0 0 2; segment 5 0 5 2; segment 0 2 5 2; show
abbrev bridged : Present
bridged = record { pieces = piece 1 (at (pos 0) (pos 0)) (at (pos 0) (pos 2)) ∷ piece 2 (at (pos 5) (pos 0)) (at (pos 5) (pos 2)) ∷ piece 3 (at (pos 0) (pos 2)) (at (pos 5) (pos 2)) ∷ []; pins = [] }

bridged-text : present_text bridged ≡ codes "arrangement 4 3 1\nv 1 0 0 1 : 2\nv 2 0 2 1 : 1 4\nv 3 5 0 1 : 4\nv 4 5 2 1 : 2 3\ne 1 2 : 1\ne 2 4 : 3\ne 3 4 : 2\nf 0\nh 1 2 4 3 4 2\nend\n"
unfolding opened
bridged-text = refl

abbrev of_bridged : Skeleton
of_bridged = skeleton (graph bridged)

abbrev bridge : Dart
bridge = from (at (pos 0) (pos 2)) (at (pos 5) (pos 2))

bridged-kinds : (is_outer of_bridged bridge ≡ false) × (same_cycle of_bridged bridge (twin bridge) ≡ true) × (same_cycle of_bridged (from (at (pos 0) (pos 0)) (at (pos 0) (pos 2))) (from (at (pos 5) (pos 0)) (at (pos 5) (pos 2))) ≡ true)
unfolding opened
bridged-kinds = (refl, refl, refl)

-- ---- a square with a hole
-- segment 0 0 8 0; segment 8 0 8 8; segment 0 8 8 8; segment 0 0 0 8; segment 3 3 6 5; show
abbrev before_tied : Present
before_tied = record { pieces = piece 1 (at (pos 0) (pos 0)) (at (pos 8) (pos 0)) ∷ piece 2 (at (pos 8) (pos 0)) (at (pos 8) (pos 8)) ∷ piece 3 (at (pos 0) (pos 8)) (at (pos 8) (pos 8)) ∷ piece 4 (at (pos 0) (pos 0)) (at (pos 0) (pos 8)) ∷ piece 5 (at (pos 3) (pos 3)) (at (pos 6) (pos 5)) ∷ []; pins = [] }

before_tied-text : present_text before_tied ≡ codes "arrangement 6 5 2\nv 1 0 0 1 : 2 5\nv 2 0 8 1 : 1 6\nv 3 3 3 1 : 4\nv 4 6 5 1 : 3\nv 5 8 0 1 : 1 6\nv 6 8 8 1 : 2 5\ne 1 2 : 4\ne 1 5 : 1\ne 2 6 : 3\ne 3 4 : 5\ne 5 6 : 2\nf 0\nh 1 2 6 5\nf 1\no 1 5 6 2\nh 3 4\nend\n"
unfolding opened
before_tied-text = refl

abbrev of_before_tied : Skeleton
of_before_tied = skeleton (graph before_tied)

abbrev hole : Dart
hole = from (at (pos 3) (pos 3)) (at (pos 6) (pos 5))

before_tied-kinds : (is_outer of_before_tied hole ≡ false) × (is_outer of_before_tied (from (at (pos 0) (pos 0)) (at (pos 8) (pos 0))) ≡ true)
unfolding opened
before_tied-kinds = (refl, refl)

-- ---- the hole tied to the square: one cycle, which is outer
-- segment 0 0 8 0; segment 8 0 8 8; segment 0 8 8 8; segment 0 0 0 8; segment 3 3 6 5; segment 0 0 3 3; show
abbrev tied : Present
tied = record { pieces = piece 1 (at (pos 0) (pos 0)) (at (pos 8) (pos 0)) ∷ piece 2 (at (pos 8) (pos 0)) (at (pos 8) (pos 8)) ∷ piece 3 (at (pos 0) (pos 8)) (at (pos 8) (pos 8)) ∷ piece 4 (at (pos 0) (pos 0)) (at (pos 0) (pos 8)) ∷ piece 5 (at (pos 3) (pos 3)) (at (pos 6) (pos 5)) ∷ piece 6 (at (pos 0) (pos 0)) (at (pos 3) (pos 3)) ∷ []; pins = [] }

tied-text : present_text tied ≡ codes "arrangement 6 6 2\nv 1 0 0 1 : 2 3 5\nv 2 0 8 1 : 1 6\nv 3 3 3 1 : 1 4\nv 4 6 5 1 : 3\nv 5 8 0 1 : 1 6\nv 6 8 8 1 : 2 5\ne 1 2 : 4\ne 1 3 : 6\ne 1 5 : 1\ne 2 6 : 3\ne 3 4 : 5\ne 5 6 : 2\nf 0\nh 1 2 6 5\nf 1\no 1 3 4 3 1 5 6 2\nend\n"
unfolding opened
tied-text = refl

abbrev of_tied : Skeleton
of_tied = skeleton (graph tied)

tied-kinds : (is_outer of_tied hole ≡ true) × (same_cycle of_tied hole (from (at (pos 0) (pos 0)) (at (pos 8) (pos 0))) ≡ true)
unfolding opened
tied-kinds = (refl, refl)
