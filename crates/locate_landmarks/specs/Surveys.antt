-- What is known of the looks at the boundary of a face for a query.
use Rattle.std.specs.Prelude.{◌≡◌}
use Rattle.slab_laws.specs.View.{View}
use Rattle.counted_looks.specs.declared.boundary_part.BoundaryPart.{BoundaryPart}
use Rattle.locate_walk.specs.Looks.{MayLook, HasLooked, HasSeenDart}
use Rattle.locate_landmarks.specs.Lowest.{IsAbove, IsEntry, IsLowered}
use Rattle.locate_landmarks.specs.declared.survey.Survey.{Survey}

-- the looks for the point and its highest edge are those of the walk; the lowest edge is one that the point sees above it, no higher than at first, and so is that of the entry; whether the way goes down stays (this project)
pub record MaySurvey (v : View) (k l : Survey) : Type 0 where
  pub highest : MayLook v k.highest l.highest
  pub lowest : IsAbove v l.highest.point l.descent.lowest
  pub lowered : IsLowered v l.highest.point k.descent.downward k.descent.lowest l.descent.lowest
  pub entry : IsEntry v l.highest.point l.descent.entry
  pub downward : l.descent.downward ≡ k.descent.downward

-- until the point was met, each dart that was looked at is clear, while nothing is known of an isolated vertex (this project)
abbrev pub HasSurveyed : View → Survey → BoundaryPart → Type 0
HasSurveyed v l t = HasSeenDart v l.highest t

-- the look at the part is that of the walk, and the lowest edge is one that the point sees above it, no higher than before; the rest of the descent stays (this project)
pub record HasSurveyedPart (h : Survey) (t : BoundaryPart) (l : Survey) : Type 0 where
  pub highest : HasLooked h.highest t l.highest
  pub lowest : IsAbove h.highest.glance.now.graph h.highest.point l.descent.lowest
  pub lowered : IsLowered h.highest.glance.now.graph h.highest.point h.descent.downward h.descent.lowest l.descent.lowest
  pub entry : l.descent.entry ≡ h.descent.entry
  pub downward : l.descent.downward ≡ h.descent.downward
