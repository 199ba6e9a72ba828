-- How many looks an insertion takes: no more than its plan.
use Rattle.std.specs.Prelude.{◌≤◌, ◌+◌, ℕ, List}
use Rattle.std.specs.List.{sum_by}
use Rattle.exact_plane.specs.Segment.{Segment}
use Rattle.slab_laws.specs.View.{View, Faces}
use Rattle.zone_walk.specs.Zone.{meeting_points, CoversVisits}
use Rattle.path_zone.specs.PathZone.{looks_along, CoverAllVisits}

-- from the one count to the other it is no more than the looks of the segment's zone (de Berg and others, complexity of a zone)
abbrev pub AreZoneLooks : View → Faces → Segment → ℕ → ℕ → Type 0
AreZoneLooks v f s before after = (n : ℕ) → CoversVisits v f s (meeting_points v s) n → after ≤ before + (n + looks_along v s)

-- it is no more than those of the sides' zones, added up (this project)
abbrev pub ArePathLooks : View → Faces → List Segment → ℕ → ℕ → Type 0
ArePathLooks v f ss before after = (n : ℕ) → CoverAllVisits v f ss n → after ≤ before + (n + sum_by (looks_along v) ss)
