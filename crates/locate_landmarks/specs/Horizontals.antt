-- The way along the horizontal of a landmark, from face to face.
use Rattle.std.specs.Option.{option_map}
use Rattle.std.specs.Prelude.{◌≡◌, ◌⊎◌, ⊤, true, not, cond, Option, Some, IfSome}
use Rattle.slab_laws.specs.declared.names.DartId.{DartId}
use Rattle.slab_laws.specs.Sound.{IsGraphSound}
use Rattle.slab_laws.specs.View.{View, HasDart, point_in, source_in, target_in, line_in}
use Rattle.counted_looks.specs.declared.boundary_part.BoundaryPart.{BoundaryPart}
use Rattle.locate_landmarks.specs.Courses.{is_above_level}
use Rattle.locate_landmarks.specs.Crossings.{is_on_way, is_later}
use Rattle.locate_landmarks.specs.declared.course.Course.{Course}
use Rattle.locate_landmarks.specs.declared.crossing.Crossing.{Crossing}
use Rattle.locate_landmarks.specs.declared.horizontal.Ahead.{Ahead}

-- ---- crossings
-- the dart has a record, its edge has one end above the horizontal and one that isn't, and crosses it between the landmark and the vertical of the point; on the left of the dart is what comes before it on the way
pub record IsCrossed (v : View) (c : Course) (d : DartId) : Type 0 where
  pub has : HasDart v d
  pub source : is_above_level c (point_in v (source_in v d)) ≡ not c.eastward
  pub target : is_above_level c (point_in v (target_in v d)) ≡ c.eastward
  pub on_way : is_on_way c (line_in v d) ≡ true

-- where the edge of the dart crosses the horizontal, by its line and its upper end
abbrev pub crossing_of : View → Course → DartId → Crossing
crossing_of v c d = record { dart = d; line = line_in v d; upper = point_in v (cond c.eastward (target_in v d) (source_in v d)) }

-- the edge of the second dart is crossed after that of the first on the way, as each is after none
abbrev pub IsNextOver : View → Course → Option DartId → DartId → Type 0
IsNextOver v c o d = is_later c (option_map (crossing_of v c) o) (crossing_of v c d) ≡ true

-- so it is, or it is crossed after one that is: no law is stated here by which these are one order
pub data IsLater (v : View) (c : Course) (o : Option DartId) : DartId → Type 0 where
  straight : (d : DartId) → IsNextOver v c o d → IsLater v c o d
  over : (e d : DartId) → IsLater v c o e → IsCrossed v c e → IsNextOver v c (Some e) d → IsLater v c o d

-- ---- what is kept of them
-- the dart of a crossing, if there is one
abbrev pub dart_of_crossing : Option Crossing → Option DartId
dart_of_crossing o = option_map (λ x. x.dart) o

-- none, or where the edge of a dart crosses the horizontal on the way
abbrev pub IsCrossing : View → Course → Option Crossing → Type 0
IsCrossing v c o = IfSome o (λ x. IsCrossed v c x.dart × (x ≡ crossing_of v c x.dart))

-- the second is the first, or a later one
abbrev pub IsLaterOrSame : View → Course → Option Crossing → Option Crossing → Type 0
IsLaterOrSame v c o p = (p ≡ o) ⊎ ((x : Crossing) × (p ≡ Some x) × IsLater v c (dart_of_crossing o) x.dart)

-- the graph is sound, the course stays, and the last crossing is the one at first, or a later one (this project)
pub record MayPass (v : View) (k l : Ahead) : Type 0 where
  pub sound : IsGraphSound v
  pub course : l.course.now ≡ k.course.now
  pub last : IsCrossing v l.course.now l.last
  pub later : IsLaterOrSame v l.course.now k.last l.last

-- nothing is claimed of what was looked at: it only shows a way
abbrev pub HasPassed : View → Ahead → BoundaryPart → Type 0
HasPassed v l t = ⊤
