-- The sides of a curve that go from one edge after the other: all that is of other curves stays, and in the end nothing is of that one.
use Rattle.std.proofs.Common.{◌≡◌, ℕ, List, Bool, true, false, not, ◌&&◌, refl, sym, ap, ◌∙◌, subst}
use Rattle.std.specs.List.{filter}
use Rattle.exact_plane.specs.Point.{Point}
use Rattle.plane_graphs.specs.Ascending.{Member}
use Rattle.plane_graphs.specs.Graph.{Graph, Mark, is_at, mark_cmp, same_curve}
use Rattle.plane_graphs.proofs.Ascending.{ascending_unique}
use Rattle.plane_graphs.proofs.Lists.{IsAscending-filter, in_filter, not_in, of_filter}
use Rattle.plane_graphs.proofs.Order.{curve_out, mark_cmp_total}
use Rattle.edit_steps.specs.EditLaws.{curve_of}
use Rattle.slab_laws.specs.declared.names.DartId.{DartId}
use Rattle.slab_laws.specs.Sound.{IsGraphSound}
use Rattle.slab_laws.specs.View.{View, point_in, source_in, target_in}
use Rattle.sound_views.proofs.FirstDarts.{twice}
use Rattle.sound_changes.proofs.StepGraphs.{drawn_ordered}
use Rattle.sound_changes.proofs.StepHolds.{held_mark}
use Rattle.sound_changes.specs.StepLaws.{without_marks}
use Rattle.curve_history.specs.Past.{Past, curves_on, strands_on}
use Rattle.curve_history.proofs.Sides.{in_curves}
use Rattle.told_steps.specs.StrandRuns.{SidesGo, strand_graph}
use Rattle.segment_remove.specs.CurveLosses.{AreSidesGone, without_sides}

-- what is there of other curves is the same
abbrev pub SameOthers : View → Past → ℕ → View → Past → Type 0
SameOthers v p c w q = without_sides c (strand_graph w q) ≡ without_sides c (strand_graph v p)

other_anyway : (at its : Bool) → not its ≡ (not (at && its) && not its)
other_anyway true true = refl
other_anyway true false = refl
other_anyway false true = refl
other_anyway false false = refl

-- one edge fewer has sides of the curve
less_without : (c : ℕ) (low high : Point) (g : Graph) → without_sides c (without_marks low high (λ z. same_curve (curve_of z) c) g) ≡ without_sides c g
less_without c low high g =
    λ i. record g { marks = twice (λ m. not (same_curve (curve_of m.curve) c)) (λ m. not (is_at low high m && same_curve (curve_of m.curve) c)) (λ m. not (same_curve (curve_of m.curve) c)) g.marks (λ m. other_anyway (is_at low high m) (same_curve (curve_of m.curve) c)) i }

pub others_stay : (v : View) (p : Past) (d : DartId) (c : ℕ) (w : View) (q : Past) → SidesGo v p d c w q → SameOthers v p c w q
others_stay v p d c w q go = ap (without_sides c) go ∙ less_without c (point_in v (source_in v d)) (point_in v (target_in v d)) (strand_graph v p)

-- ---- in the end
module _ (v : View) (p : Past) (c : ℕ) (w : View) (q : Past) (s : IsGraphSound w) (gone : (d : DartId) → ¬ Member c (curves_on q d)) where
  abbrev ms : List Mark
  ms = (strand_graph w q).marks

  abbrev is_other : Mark → Bool
  is_other m = not (same_curve (curve_of m.curve) c)

  not_its : (m : Mark) → Member m ms → is_other m ≡ true
  unfolding curves_on
  not_its m n =
      let d = held_mark w s.named (strands_on q) m n in
      not_in (same_curve (curve_of m.curve) c) (λ e. gone d.0 (subst (λ k. Member k (curves_on q d.0)) (curve_out (curve_of m.curve) c e) (in_curves m.curve (strands_on q d.0) d.1.curve)))

  none_its : filter is_other ms ≡ ms
  none_its =
      let up = (drawn_ordered w (strands_on q)).marks in
      ascending_unique mark_cmp mark_cmp_total (filter is_other ms) ms (IsAscending-filter mark_cmp is_other ms up) up (λ m n. (of_filter is_other m ms n).0) (λ m n. in_filter is_other m ms n (not_its m n))

  pub all_gone : SameOthers v p c w q → AreSidesGone v p c w q
  all_gone same = sym (λ i. record (strand_graph w q) { marks = none_its i }) ∙ same
