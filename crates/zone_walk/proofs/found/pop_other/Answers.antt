use Rattle.std.proofs.Common.{List, subst, ◌∙◌}
use Rattle.std.specs.List.Sorted.{IsStrictlySortedBy}
use Rattle.std.specs.Map.{keys_of}
use Rattle.exact_plane.specs.Point.{Point}
use Rattle.exact_plane.specs.PointOrder.{point_cmp}
use Rattle.plane_graphs.proofs.Order.{lt_in}
use Rattle.dcel_records.specs.declared.spot.Spot.{Spot}
use Rattle.zone_walk.proofs.Nexts.{after_first, no_entries}
use Rattle.zone_walk.proofs.found.pop_other.Goals as goal

pub returns-in-Some-clause-first : goal.returns-in-Some-clause-first
returns-in-Some-clause-first c = c.in-Some.ensures.removal

pub returns-in-Some-clause-before : goal.returns-in-Some-clause-before
returns-in-Some-clause-before c = λ r i.
    lt_in (after_first c.in-Some.first.0 c.in-Some.first.1 c.pop_first.new.self.entries (subst (λ (es : List (Point × Spot)). IsStrictlySortedBy point_cmp (keys_of es)) c.in-Some.ensures.removal c.len-count.ensures.ordered) r i)

pub returns-in-None-clause-none : goal.returns-in-None-clause-none
returns-in-None-clause-none c =
    let empty = no_entries c.pop_first.result c.args.others.now.entries c.in-None.is c.pop_first.ensures.variant in
    (empty, c.in-None.ensures.unchanged ∙ empty)
