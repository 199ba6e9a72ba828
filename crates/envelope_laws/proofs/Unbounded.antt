-- The outer side of an edge that is outermost in a slab is in the unbounded face.
use Rattle.std.proofs.Common.{◌≡◌, ℕ, ◌+◌, ◌-◌, true, false, arith, refl, sym, ap, ap₂, subst, ◌∙◌, inl, inr}
use Rattle.std.specs.Prelude.{◌&&◌, Option, Some, None}
use Rattle.std.specs.List.{Contains}
use Rattle.std.proofs.lemmas.Bool.{false≢true, and_parts, false_from_ne_true, cases_lt, leb-true, le-leb, lt-leb, lt-ltb, le-ltb}
use lib.Dec.{leb, ltb}
use Rattle.exact_plane.specs.Point.{Point}
use Rattle.plane_graphs.specs.Graph.{Edge}
use Rattle.slab_laws.specs.Skeleton.{Skeleton, HasWeight, IsPlaneSkeleton, left_of, below}
use Rattle.slab_laws.specs.Slabs.{spans, place, slab_right, width, top_cell}
use Rattle.slab_laws.specs.Darts.{Dart, ahead, back, cell_by}
use Rattle.slab_laws.specs.Meets.{SameFace}
use Rattle.slab_laws.specs.Cycles.{left_of_dart}
use Rattle.slab_laws.specs.Subdivision.{first_cell}
use Rattle.slab_faces.proofs.Walls.{left_of-irrefl, left_of-asym, left_of-before}
use Rattle.slab_faces.proofs.Cells.{right_few}
use Rattle.slab_faces.proofs.Slabs.{IsSlab, place_less}
use Rattle.slab_faces.proofs.Nudge.{right_inside, is_slab_right}
use Rattle.slab_faces.proofs.Turns.{face_trans, face_sym, on_own_wall}
use Rattle.slab_faces.proofs.Outside.{unbounded, to_first, place_in}
use Rattle.slab_faces.proofs.EveryFace.{none_counted, edge_at, first_width}
use Rattle.slab_faces.proofs.Searches.{best_of}
use Rattle.slab_faces.proofs.Member.{member_in, in_member}
use Rattle.edge_predicates.proofs.FaceBelow.{bottom_all}
use Rattle.envelope_laws.specs.declared.which.Which.{Which}
use Rattle.envelope_laws.specs.declared.which.Which.TheVariants.{Lower, Upper}
use Rattle.envelope_laws.specs.Envelopes.{outermost}
use Rattle.envelope_laws.specs.Outermost.{IsOutermostIn, IsOutermostOf}
use Rattle.envelope_laws.proofs.Outer.{Spanning, in_turn, outermost_is_told}

-- the edge's dart whose left side faces out: for a lower envelope from the upper end to the lower
abbrev pub outward : Which → Edge → Dart
outward Lower e = back e
outward Upper e = ahead e

-- ---- the lowest and the topmost cells of all slabs are in the unbounded face
lowest_outside : (g : Skeleton) (v : Point) → IsPlaneSkeleton g → Contains g.vertices v → SameFace g first_cell (record { slab = slab_right g v; place = 0 })
lowest_outside g v plane V = bottom_all g (slab_right g v) v plane V (omega arith)

topmost_outside : (g : Skeleton) (v : Point) → IsPlaneSkeleton g → Contains g.vertices v → SameFace g first_cell (record { slab = slab_right g v; place = width g (slab_right g v) })
unfolding top_cell
topmost_outside g v plane V =
    subst (λ n. SameFace g (record { slab = 0; place = n }) (record { slab = slab_right g v; place = width g (slab_right g v) })) (first_width g plane) (unbounded g v plane V)

-- ---- beside a wall
module _ (g : Skeleton) (v : Point) (plane : IsPlaneSkeleton g) (V : Contains g.vertices v) where
  slab : IsSlab g (slab_right g v) (right_inside g v)
  slab = is_slab_right g v plane (on_own_wall g v plane V)

  no_lower : (e : Edge) → IsOutermostIn Lower g (slab_right g v) e → place g (slab_right g v) e ≡ 0
  no_lower e h =
      none_counted (λ f. spans g (slab_right g v) f && below f e) g.edges (λ f F. false_from_ne_true _ (λ k.
      let a = and_parts (spans g (slab_right g v) f) (below f e) k in
      h.none f F a.0 a.1))

  no_upper : (e : Edge) → IsOutermostIn Upper g (slab_right g v) e → place g (slab_right g v) e + 1 ≡ width g (slab_right g v)
  no_upper e h =
      let i = slab_right g v in
      let M = right_inside g v in
      let l = place_in g i e plane h.is_edge h.spanning in
      let d = edge_at g i M plane slab (width g i - 1) (omega (arith, l)) in
      let p = d.3 in
      let se : Spanning g i M plane slab e = record { is_edge = h.is_edge; spanning = h.spanning } in
      let sd : Spanning g i M plane slab d.0 = record { is_edge = d.1; spanning = d.2 } in
      elim (in_turn g i M plane slab Lower d.0 e sd se) [
        | inl k ↦ (let m = place_less g i M d.0 e plane slab d.1 h.is_edge d.2 h.spanning k in absurd (omega (arith, l, p, m)))
        | inr k ↦ elim k [
          | inl o ↦ absurd (h.none d.0 d.1 d.2 o)
          | inr q ↦ (let m = ap (place g i) q in omega (arith, l, p, m))
        ]
      ]

  beside_wall : (w : Which) (e : Edge) → IsOutermostIn w g (slab_right g v) e → SameFace g first_cell (left_of_dart g (outward w e))
  beside_wall Lower e h =
      let t = to_first g e v plane V h.is_edge h.spanning in
      let s = subst (λ n. SameFace g first_cell (record { slab = slab_right g v; place = n })) (sym (no_lower e h)) (lowest_outside g v plane V) in
      subst (λ b. SameFace g first_cell (cell_by g e b false)) (sym t.0) (face_trans g _ _ _ s (face_sym g _ _ t.2))
  beside_wall Upper e h =
      let t = to_first g e v plane V h.is_edge h.spanning in
      let s = subst (λ n. SameFace g first_cell (record { slab = slab_right g v; place = n })) (sym (no_upper e h)) (topmost_outside g v plane V) in
      subst (λ b. SameFace g first_cell (cell_by g e b true)) (sym t.0) (face_trans g _ _ _ s (face_sym g _ _ t.1))

-- ---- a slab by number, and one beside a wall that the same edges span
pub record IsLikeWall (g : Skeleton) (i : ℕ) (v : Point) : Type 0 where
  pub is_vertex : Contains g.vertices v
  pub spanned : (e : Edge) → Contains g.edges e → spans g i e ≡ spans g (slab_right g v) e

pub near_wall : (g : Skeleton) (i : ℕ) (e : Edge) → IsPlaneSkeleton g → Contains g.edges e → spans g i e ≡ true → (v : Point) × IsLikeWall g i v
near_wall g i e plane E s =
    let P : (x : Point) → Contains g.vertices x → HasWeight x = plane.proper in
    let a = and_parts (leb (slab_right g e.low) i) (ltb i (slab_right g e.high)) s in
    elim (best_of (λ x. leb (slab_right g x) i) (λ x y. left_of y x) g.vertices left_of-irrefl (λ x y z b c d p q. left_of-before z y x (P z (member_in g.vertices z d)) (P y (member_in g.vertices y c)) (P x (member_in g.vertices x b)) q (left_of-asym y x p))) [
      | inl n ↦ absurd (false≢true (sym (n e.low (in_member g.vertices e.low (plane.lower_in e E))) ∙ a.0))
      | inr b ↦
          let v = b.0 in
          let V = member_in g.vertices v b.1.in' in
          let W = P v V in
          let at = leb-true (slab_right g v) i b.1.passes in
          let low : (x : Point) → Contains g.vertices x → leb (slab_right g x) i ≡ leb (slab_right g x) (slab_right g v) =
          λ x X. elim (cases_lt i (slab_right g x)) [
            | inl l ↦ lt-leb (slab_right g x) i l ∙ sym (lt-leb (slab_right g x) (slab_right g v) (omega (arith, l, at)))
            | inr l ↦ le-leb (slab_right g x) i l ∙ sym (le-leb (slab_right g x) (slab_right g v) (right_few g x v plane (P x X) W (b.1.best x (in_member g.vertices x X) (le-leb (slab_right g x) i l))))
          ] in
          let high : (x : Point) → Contains g.vertices x → ltb i (slab_right g x) ≡ ltb (slab_right g v) (slab_right g x) =
          λ x X. elim (cases_lt i (slab_right g x)) [
            | inl l ↦ lt-ltb i (slab_right g x) l ∙ sym (lt-ltb (slab_right g v) (slab_right g x) (omega (arith, l, at)))
            | inr l ↦ le-ltb i (slab_right g x) l ∙ sym (le-ltb (slab_right g v) (slab_right g x) (right_few g x v plane (P x X) W (b.1.best x (in_member g.vertices x X) (le-leb (slab_right g x) i l))))
          ] in
          (v, record { is_vertex = V; spanned = λ f F. ap₂ (λ x y. x && y) (low f.low (plane.lower_in f F)) (high f.high (plane.upper_in f F)) })
    ]

-- what is outermost in one is so in the other
pub moved : (w : Which) (g : Skeleton) (i : ℕ) (v : Point) (e : Edge) → IsLikeWall g i v → IsOutermostIn w g i e → IsOutermostIn w g (slab_right g v) e
moved w g i v e l h = record {
  is_edge = h.is_edge;
  spanning = sym (l.spanned e h.is_edge) ∙ h.spanning;
  none = λ f F s k. h.none f F (l.spanned f F ∙ s) k;
}

pub outermost_faces_outside : (w : Which) (g : Skeleton) (i : ℕ) (e : Edge) → IsPlaneSkeleton g → IsOutermostIn w g i e → SameFace g first_cell (left_of_dart g (outward w e))
outermost_faces_outside w g i e plane h =
    let r = near_wall g i e plane h.is_edge h.spanning in
    beside_wall g r.0 plane r.1.is_vertex w e (moved w g i r.0 e r.1 h)

-- where an edge spans a slab, one is outermost
pub some_outermost : (w : Which) (g : Skeleton) (i : ℕ) (e : Edge) → IsPlaneSkeleton g → Contains g.edges e → spans g i e ≡ true → (m : Edge) × IsOutermostIn w g i m
some_outermost w g i e plane E s =
    let r = near_wall g i e plane E s in
    let l = r.1 in
    let t = (outermost_is_told w g r.0 (outermost w g r.0) plane l.is_vertex).0 refl in
    go r.0 l (outermost w g r.0) t
  where
    go : (v : Point) → IsLikeWall g i v → (o : Option Edge) → IsOutermostOf w g (slab_right g v) o → (m : Edge) × IsOutermostIn w g i m
    go v l None h = absurd (false≢true (sym (h e E) ∙ (sym (l.spanned e E) ∙ s)))
    go v l (Some m) h = (
      m,
      record {
        is_edge = h.is_edge;
        spanning = l.spanned m h.is_edge ∙ h.spanning;
        none = λ f F a k. h.none f F (sym (l.spanned f F) ∙ a) k;
      },
    )
