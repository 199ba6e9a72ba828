use Rattle.std.proofs.Common.{List, sym, subst}
use Rattle.std.specs.Map.{keys_of}
use Rattle.exact_plane.specs.Point.{Point}
use Rattle.plane_graphs.specs.Ascending.{Member}
use Rattle.dcel_records.specs.declared.spot.Spot.{Spot}
use Rattle.zone_walk.proofs.Entries.{entry_from, key_there, keys_kept}
use Rattle.zone_walk.proofs.FoundPoints.{more_kept, more_only, there_among}
use Rattle.zone_walk.proofs.found.FoundPoints.insert.Goals as goal

pub returns-in_ok-insert-in-Some-clause-kept : goal.returns-in_ok-insert-in-Some-clause-kept
returns-in_ok-insert-in-Some-clause-kept c =
    more_kept c.args.self.now.alone c.args.self.now.others.entries c.insert.new.self.entries
    (λ p i. subst (λ (es : List (Point × Spot)). Member p (keys_of es)) (sym c.in_ok-insert-in-Some.ensures.entries) (keys_kept c.args.point c.args.spot c.args.self.now.others.entries p i))

pub returns-in_ok-insert-in-Some-clause-there : goal.returns-in_ok-insert-in-Some-clause-there
returns-in_ok-insert-in-Some-clause-there c =
    there_among c.args.self.now.alone c.insert.new.self.entries c.args.point
    (subst (λ (es : List (Point × Spot)). Member c.args.point (keys_of es)) (sym c.in_ok-insert-in-Some.ensures.entries) (key_there c.args.point c.args.spot c.args.self.now.others.entries))

pub returns-in_ok-insert-in-Some-clause-only : goal.returns-in_ok-insert-in-Some-clause-only
returns-in_ok-insert-in-Some-clause-only c =
    more_only c.args.self.now.alone c.args.self.now.others.entries c.insert.new.self.entries c.args.point c.args.spot
    (λ p at i. entry_from c.args.point c.args.spot c.args.self.now.others.entries p at (subst (λ (es : List (Point × Spot)). Member (p, at) es) c.in_ok-insert-in-Some.ensures.entries i))
