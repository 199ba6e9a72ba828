-- Whether a search graph is within a bound.
use Rattle.std.proofs.Common.{◌≡◌, Bool, true, arith, refl, ap, ◌∙◌, [], length}
use Rattle.std.specs.Prelude.{◌&&◌, nat_le, Option, Some, None}
use Rattle.std.proofs.lemmas.Bool.{le-leb}
use Rattle.locate_trapezoid.specs.declared.bound.Bound.{Bound}
use Rattle.locate_trapezoid.specs.declared.graph.SearchGraph.{SearchGraph}
use Rattle.locate_trapezoid.specs.Bounds.{is_within}
use Rattle.integers.proofs.Decisions.{both_in}

-- one without nodes is
pub nothing_within : (g : SearchGraph) (o : Option Bound) → g.nodes.items ≡ [] → g.depth ≡ 0 → is_within g o ≡ true
nothing_within g None e f = refl
nothing_within g (Some b) e f =
    ap (λ l. nat_le (length l) b.nodes && nat_le g.depth b.depth) e ∙ ap (λ d. nat_le 0 b.nodes && nat_le d b.depth) f
    ∙ both_in (nat_le 0 b.nodes) (nat_le 0 b.depth) (le-leb 0 b.nodes (omega arith)) (le-leb 0 b.depth (omega arith))
