-- The order of numbers, for lists that are sorted and have each element once.
use Rattle.std.proofs.Common.{◌≡◌, ℕ, ◌<◌, List, length, get_or, Bool, true, false, ◌&&◌, eqb, nat_cmp, arith, refl, sym, ap, ◌∙◌}
use Rattle.std.specs.Prelude.{nat_lt}
use Rattle.std.specs.Ordering.{eq_by_cmp, int_eq}
use Rattle.exact_plane.specs.Point.{Point}
use Rattle.exact_plane.specs.PointOrderLaws.{point_cmp_ties}
use Rattle.exact_plane.specs.Span.{Span}
use Rattle.plane_graphs.specs.Line.{same_point}
use Rattle.plane_graphs.proofs.Sorting.{any_default}
use Rattle.sweep_events.specs.Places.{nowhere, piece_at}
use Rattle.sweep_events.specs.Runs.{ends_there}
use Rattle.std.proofs.lemmas.Bool.Decides.{nat_tests}

pub nat_ties : (x y : ℕ) → eqb x y ≡ eq_by_cmp nat_cmp x y
nat_ties x y = grind (arith, nat_tests)

-- a piece that was looked up ends at q
pub told_ended : (pieces : List Span) (i : ℕ) (s : Span) (u q : Point) (b : Bool) → i < length pieces → get_or pieces i s ≡ s → u ≡ s.upper → b ≡ (int_eq u.x q.x && (int_eq u.y q.y && int_eq u.w q.w)) → b ≡ ends_there pieces q i
told_ended pieces i s u q b h e f g =
    let same : (piece_at pieces i).upper ≡ u = ap (λ (t : Span). t.upper) (any_default pieces i nowhere s h ∙ e) ∙ sym f in
    g ∙ point_cmp_ties u q ∙ ap (λ (p : Point). same_point p q) (sym same) ∙ within (nat_lt i (length pieces)) (same_point (piece_at pieces i).upper q) (grind (arith, nat_tests, h))
  where
    within : (a b : Bool) → a ≡ true → b ≡ a && b
    within true b e = refl
    within false b e = cc
