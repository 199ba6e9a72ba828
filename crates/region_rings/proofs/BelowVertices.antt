-- The edges that pass strictly below a vertex, on its right, and those above the cell there weigh an even number together: so does each slab as a whole.
use Rattle.std.proofs.Common.{◌≡◌, ℕ, ◌+◌, ◌<◌, ◌≤◌, Bool, true, false, cond, not, ◌&&◌, arith, refl, sym, ◌∙◌, subst, inl, inr}
use Rattle.std.specs.List.{Contains, sum_by}
use Rattle.std.proofs.lemmas.Bool.{and_parts, and_from, false_from_ne_true, cases_Bool, le-leb}
use lib.Dec.{leb}
use Rattle.exact_plane.specs.Point.{Point}
use Rattle.plane_graphs.specs.Graph.{Edge}
use Rattle.slab_laws.specs.Skeleton.{Skeleton, below, under, IsPlaneSkeleton}
use Rattle.slab_laws.specs.Slabs.{slab_right, spans, place, reaches_right, right_below}
use Rattle.slab_laws.specs.Subdivision.{first_cell}
use Rattle.slab_laws.specs.Weights.{Even, weight_above, IsEvenAtVertices}
use Rattle.slab_faces.proofs.Cells.{IsSideOf, right_side, under_below, leb_not, parity_face}
use Rattle.slab_faces.proofs.EveryFace.{first_width}
use Rattle.slab_faces.proofs.Order.{below_asym}
use Rattle.slab_faces.proofs.Sums.{each, sum_by-plus, sum_by-same, fewer, fewer_than}
use Rattle.slab_faces.proofs.Turns.{on_own_wall}
use Rattle.edge_predicates.proofs.FaceBelow.{bottom_all}
use Rattle.set_laws.proofs.Insides.{top_weight}

deal : (u : Bool) (n : ℕ) → cond (not u) n 0 + cond u n 0 ≡ n
deal true n = omega arith
deal false n = omega arith

parted : (s r u k z : Bool) (n : ℕ) → s ≡ r → (r ≡ true → k ≡ not u) → z ≡ true → cond (s && k) n 0 + cond (r && u) n 0 ≡ cond (s && z) n 0
parted s true u k z n e h q = rw (e, h refl, q) (deal u n)
parted s false u k z n e h q = rw e refl

module _ (g : Skeleton) (plane : IsPlaneSkeleton g) (p : Point) (P : Contains g.vertices p) where
  abbrev i : ℕ
  i = slab_right g p

  beside : IsSideOf g p (slab_right g p) (λ e. reaches_right e p)
  beside = right_side g p plane (on_own_wall g p plane P)

  -- what passes below the vertex has fewer edges below it than the vertex
  few : (e : Edge) → Contains g.edges e → reaches_right e p ≡ true → under e p ≡ true → place g i e < right_below g p
  few e E r u =
      fewer_than (λ f. spans g i f && below f e) (λ f. reaches_right f p && under f p) g.edges e E
      (false_from_ne_true _ (λ h. let a = and_parts (spans g i e) (below e e) h in below_asym g e e plane E E a.1 a.1))
      (and_from _ _ r u)
      (λ f F h.
      let a = and_parts (spans g i f) (below f e) h in
      let rf = sym (beside.spanned f F) ∙ a.0 in
      and_from _ _ rf (elim (cases_Bool (under f p)) [
        | inl y ↦ y
        | inr n ↦ absurd (below_asym g f e plane F E a.1 (under_below g p i (λ z. reaches_right z p) e f beside E F r rf u n))
      ]))

  -- what doesn't has all those below it
  many : (e : Edge) → Contains g.edges e → reaches_right e p ≡ true → under e p ≡ false → right_below g p ≤ place g i e
  many e E r n =
      fewer (λ f. reaches_right f p && under f p) (λ f. spans g i f && below f e) g.edges
      (λ f F h.
      let a = and_parts (reaches_right f p) (under f p) h in
      and_from _ _ (beside.spanned f F ∙ a.0) (under_below g p i (λ z. reaches_right z p) f e beside F E a.0 r a.1 n))

  module _ (m : Edge → ℕ) where
    whole : weight_above g m (slab_right g p) (right_below g p) + sum_by (λ e. cond (reaches_right e p && under e p) (m e) 0) g.edges ≡ weight_above g m (slab_right g p) 0
    whole =
        let up : Edge → ℕ = λ e. cond (spans g i e && leb (right_below g p) (place g i e)) (m e) 0 in
        let down : Edge → ℕ = λ e. cond (reaches_right e p && under e p) (m e) 0 in
        let all : Edge → ℕ = λ e. cond (spans g i e && leb 0 (place g i e)) (m e) 0 in
        sym (sum_by-plus up down g.edges)
        ∙ sum_by-same (λ e. up e + down e) all g.edges (each (λ e. up e + down e ≡ all e) g.edges (λ e E.
        parted (spans g i e) (reaches_right e p) (under e p) (leb (right_below g p) (place g i e)) (leb 0 (place g i e)) (m e) (beside.spanned e E)
        (λ r. leb_not (right_below g p) (place g i e) (under e p) (many e E r) (few e E r))
        (le-leb 0 (place g i e) (omega arith))))

    -- a slab's whole weight
    pub even_slab : IsEvenAtVertices g m → Even (weight_above g m (slab_right g p) 0)
    even_slab even =
        let f = parity_face g m first_cell (record { slab = slab_right g p; place = 0 }) plane even (bottom_all g (slab_right g p) p plane P (omega arith)) in
        let z : weight_above g m 0 0 ≡ 0 = subst (λ n. weight_above g m 0 n ≡ 0) (first_width g plane) (top_weight g m 0 plane) in
        omega arith

    pub even_below : IsEvenAtVertices g m → Even (weight_above g m (slab_right g p) (right_below g p) + sum_by (λ e. cond (reaches_right e p && under e p) (m e) 0) g.edges)
    even_below even =
        let f = even_slab even in
        let w = whole in
        omega arith
