-- One triangle computed: what its records say is what the model makes of the graph that they draw.
use Rattle.std.proofs.Common.{◌≡◌, ℕ, Bool, true, false, refl}
use Rattle.integers.specs.Divisor.{gcd_within, gcd}
use Rattle.plane_graphs.specs.Ascending.{place, ascending}
use Rattle.plane_graphs.specs.Graph as graphs
use Rattle.slab_laws.specs.Darts.{darts}
use Rattle.slab_laws.specs.Listed.{distinct}
use Rattle.slab_laws.specs.Skeleton as plane
use Rattle.slab_laws.specs.Slabs as slabs
use Rattle.slab_laws.specs.Faces as faces
use Rattle.slab_laws.specs.Classes as classes
use Rattle.slab_laws.specs.Rotation as rotation
use Rattle.slab_laws.specs.Cycles as cycles
use Rattle.slab_laws.specs.Subdivision.{first_cell}
use Rattle.slab_laws.specs.Tables.{row_at}
use Rattle.slab_laws.specs.View.{View, dart_id, next_in}
use Rattle.slab_laws.specs.Sound.{dart_in, skeleton_of}
use Rattle.slab_laws.specs.FacesSound.{lead_in, face_left_of}
use Rattle.slab_laws.specs.Triangle.{three_four, triangle_view}

-- opens all that the example computes with
unfoldable pub opened : Unit {0}
unfolding gcd_within gcd place ascending distinct graphs.edge_cmp
    plane.left_of plane.lower_than plane.run plane.side plane.steep plane.shift plane.foot plane.over plane.gap plane.crosses plane.same_edge plane.under slabs.width
    faces.is_lowest faces.walls faces.is_open faces.corner_links faces.foot_links faces.wall_links faces.links faces.face_labels faces.slab_cells faces.cells
    classes.class_of classes.merged classes.joined classes.with_link classes.classes
    rotation.same_dart rotation.earlier rotation.turn_cmp rotation.ring rotation.after_in rotation.after rotation.next
    cycles.trail cycles.dart_labels cycles.leads cycles.darts_on cycles.odd row_at
opened = tt

-- the view of the triangle with the corners (0, 0), (4, 0) and (0, 3)
abbrev pub drawn : View
drawn = triangle_view three_four

-- the next dart is the first clockwise after the twin
abbrev pub Turns : ℕ → Type 0
Turns n = dart_in drawn (next_in drawn (dart_id n)) ≡ rotation.next (darts (skeleton_of drawn)) (dart_in drawn (dart_id n))

pub turns : Turns 0 × Turns 1 × Turns 2 × Turns 3 × Turns 4 × Turns 5
unfolding opened
turns = (refl, refl, refl, refl, refl, refl)

-- dart 0 is on a cycle that bounds its face from outside, dart 1 on a hole of the unbounded face
abbrev pub is_odd : ℕ → Bool
is_odd n = cycles.odd (skeleton_of drawn) (cycles.dart_labels (darts (skeleton_of drawn))) (lead_in drawn (dart_id n)) (cycles.left_of_dart (skeleton_of drawn) (lead_in drawn (dart_id n)))

pub kinds : (is_odd 0 ≡ true) × (is_odd 1 ≡ false)
unfolding opened
kinds = (refl, refl)

pub orbits : (lead_in drawn (dart_id 0) ≡ lead_in drawn (dart_id 2)) × (lead_in drawn (dart_id 0) ≡ lead_in drawn (dart_id 4)) × (lead_in drawn (dart_id 1) ≡ lead_in drawn (dart_id 3)) × (lead_in drawn (dart_id 1) ≡ lead_in drawn (dart_id 5))
unfolding opened
orbits = (refl, refl, refl, refl)

pub unbounded : face_left_of drawn (dart_id 1) ≡ faces.face_of (faces.face_labels (skeleton_of drawn)) first_cell
unfolding opened
unbounded = refl
