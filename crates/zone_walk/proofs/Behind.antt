-- A segment that crosses the line of an edge leaves the edge behind.
use Rattle.std.proofs.Common.{◌≡◌, Some}
use Rattle.exact_plane.specs.Line.{IsOn}
use Rattle.exact_plane.specs.Point.{Point}
use Rattle.exact_plane.specs.Segment.{Segment, line_of_segment}
use Rattle.plane_graphs.specs.Line.{IsProper}
use Rattle.plane_graphs.proofs.Order.{lt_out}
use Rattle.slab_laws.specs.declared.names.DartId.{DartId}
use Rattle.slab_laws.specs.Sound.{IsGraphSound}
use Rattle.slab_laws.specs.View.{View, HasDart, line_in}
use Rattle.zone_walk.specs.Searches.{IsBehind}
use Rattle.zone_walk.proofs.Courses.{IsCourse, LiesOn, one_by_two}
use Rattle.zone_walk.proofs.OutsideBox.{along}
use Rattle.zone_walk.proofs.Stretches.{told, meets_lies, meets_proper}

module _ (v : View) (s : IsGraphSound v) (g : Segment) (c : IsCourse g) (here : Point) (proper : IsProper here) (lies : LiesOn g here) (d : DartId) (has : HasDart v d) (on : IsOn (line_in v d) here) (other : line_in v d ≡ line_of_segment g → ⊥) where
  -- two lines with two common points would be one
  pub crossed : IsBehind v g here (Some d)
  crossed p at meets later =
      let m = told v s g c p meets in
      let P = meets_proper v s g c p m in
      other (one_by_two (line_in v d) (line_of_segment g) here p (s.drawn.line d has) c.line proper P (lt_out here p later) on lies.on (along v s d has p P at).on (meets_lies v s g c p m).on)
