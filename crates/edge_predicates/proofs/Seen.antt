-- What a point sees of the edges that span it.
use Rattle.std.proofs.Common.{◌≡◌, true, false, arith, sym, ◌∙◌, inl, inr}
use Rattle.std.specs.Prelude.{pos}
use Rattle.std.proofs.lemmas.Int.{ints}
use Rattle.std.proofs.lemmas.Bool.{false≢true, false_from_ne_true, cases_Bool}
use Rattle.exact_plane.specs.Point.{Point}
use Rattle.plane_graphs.specs.Graph.{Edge}
use Rattle.slab_laws.specs.Skeleton.{HasWeight, left_of, side, under}
use Rattle.slab_faces.proofs.OverUnder.{under_not_over, under_out}
use Rattle.slab_faces.proofs.Walls.{left_of-before, over-upper}
use Rattle.slab_faces.proofs.Cells.{not_right_trans}
use Rattle.edge_predicates.specs.Highest.{IsSpanning}
use Rattle.slab_faces.proofs.Points.{before_weak, before_on_wall}
use Rattle.slab_faces.proofs.Upright.{upright_on}

-- ---- vertical edges
-- a vertical edge's side of a point of its wall is 0
-- an edge that q spans and that isn't through q isn't vertical
pub slanted : (e : Edge) (q : Point) → HasWeight e.low → HasWeight e.high → HasWeight q → IsSpanning e q → (side e q ≡ pos 0 → ⊥) → left_of e.low e.high ≡ true
slanted e q P Q W s n =
    elim (cases_Bool (left_of e.low e.high)) [
      | inl h ↦ h
      | inr h ↦
          let a = before_weak e.low q s.from in
          let b = before_weak q e.high s.to in
          let c : left_of e.high e.low ≡ false = not_right_trans e.low q e.high P W Q a b in
          let d : left_of e.low q ≡ false = false_from_ne_true _ (λ k. false≢true (sym h ∙ left_of-before e.low q e.high P W Q k b)) in
          absurd (n (upright_on e q P h c d a))
    ]

pub slanted_below : (e : Edge) (q : Point) → HasWeight e.low → HasWeight e.high → HasWeight q → IsSpanning e q → under e q ≡ true → left_of e.low e.high ≡ true
slanted_below e q P Q W s u = slanted e q P Q W s (λ z. let k = under_out e q u in absurd (omega (arith, ints)))

-- ---- what is below q reaches q's wall from the right
pub reaches : (e : Edge) (q : Point) → HasWeight e.low → HasWeight e.high → HasWeight q → IsSpanning e q → under e q ≡ true → left_of q e.high ≡ true
reaches e q P Q W s u =
    elim (cases_Bool (left_of q e.high)) [
      | inl h ↦ h
      | inr h ↦
          let long = slanted_below e q P Q W s u in
          let o = over-upper e q Q long (before_weak q e.high s.to) h in
          absurd (false≢true (sym (under_not_over e q u) ∙ o ∙ before_on_wall q e.high s.to h))
    ]
