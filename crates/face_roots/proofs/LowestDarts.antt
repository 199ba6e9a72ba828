-- What is below the lowest dart that goes on from a vertex is what is directly below the vertex.
use Rattle.std.proofs.Common.{◌≡◌, ◌≤◌, Bool, true, false, arith, refl, sym, ap, subst, inl, inr}
use Rattle.std.specs.Prelude.{not, ◌≢◌, ◌⊎◌, Option}
use Rattle.std.specs.List.{Contains}
use Rattle.std.proofs.lemmas.Bool.{and_parts, and_from}
use Rattle.exact_plane.specs.Point.{Point}
use Rattle.plane_graphs.specs.Graph.{Edge}
use Rattle.slab_laws.specs.Skeleton.{Skeleton, IsPlaneSkeleton, left_of}
use Rattle.slab_laws.specs.Slabs.{reaches_right, place, slab_right, right_below, right_bottom}
use Rattle.slab_laws.specs.Darts.{IsOut, Earlier, by_class, on_left, on_right, on, ahead, class, kind, cell_of, cell_by}
use Rattle.slab_laws.specs.Meets.{SameFace}
use Rattle.slab_laws.specs.Rotation.{earlier}
use Rattle.slab_faces.proofs.Walls.{left_of-irrefl, side-lower}
use Rattle.slab_faces.proofs.Turns.{face_trans, face_sym, face_at, on_own_wall}
use Rattle.slab_faces.proofs.Corners.{IsAt, right_fan, bottom_place}
use Rattle.slab_faces.proofs.Round.{right_empty}
use Rattle.slab_faces.proofs.RotationLemmas.{earlier_in, earlier_out}
use Rattle.slab_faces.proofs.Next.{level_at_lower, turn_keeps}
use Rattle.edge_predicates.specs.FaceLaws.{cell_over}
use Rattle.edge_predicates.specs.Highest.{IsHighestBelow}
use Rattle.face_roots.specs.LowestDarts.{IsLowestFrom, IsNextLower, LowestIsAboveBelow}
use Rattle.face_roots.proofs.BelowVertices.{corner_face}

module _ (g : Skeleton) (plane : IsPlaneSkeleton g) (e : Edge) (E : Contains g.edges e) (lowest : (f : Edge) → IsOut g e.low f true → earlier (ahead e) (ahead f) ≢ true) where
  v : Point
  v = e.low

  slanted_at : (f : Edge) → IsAt g e.low (λ x. reaches_right x e.low) f → IsOut g e.low f true × (class f true ≡ 2)
  slanted_at f t =
      let a = level_at_lower g f e.low plane t.in' (plane.lower_in e E) t.reaches t.on in
      let r = and_parts (not (left_of e.low f.low)) (left_of e.low f.high) t.reaches in
      (record { in' = t.in'; at = a }, ap (λ l. kind l true) (subst (λ z. left_of z f.high ≡ true) (sym a) r.1))

  to_corner : SameFace g (cell_of g e false) (right_bottom g e.low)
  to_corner = go (left_of e.low e.high) refl
    where
      go : (l : Bool) → left_of e.low e.high ≡ l → SameFace g (cell_by g e l false) (right_bottom g e.low)
      go true q =
          let at : IsAt g e.low (λ x. reaches_right x e.low) e = record { in' = E; reaches = and_from _ _ (ap not (left_of-irrefl e.low)) q; on = side-lower e } in
          let p : right_below g e.low ≡ place g (slab_right g e.low) e = bottom_place g e.low (slab_right g e.low) _ (λ x. reaches_right x e.low) e (right_fan g e.low plane (on_own_wall g e.low plane (plane.lower_in e E))) at (λ f t b.
          let s = slanted_at f t in
          let n : class e true ≡ 2 = ap (λ l. kind l true) q in
          lowest f s.0 (earlier_in (ahead e) (ahead f) (on_right n s.1 b))) in
          face_at g _ _ (λ i. record { slab = slab_right g e.low; place = sym p i })
      go false q =
          face_sym g _ _ (right_empty g e.low plane (plane.lower_in e E) (λ f t.
          let s = slanted_at f t in
          let n : class e true ≡ 1 = ap (λ l. kind l true) q in
          let k = s.1 in
          lowest f s.0 (earlier_in (ahead e) (ahead f) (by_class (omega arith)))))

  pub lowest_face : (o : Option Edge) → IsHighestBelow (Contains g.edges) e.low o → SameFace g (cell_of g e false) (cell_over g o)
  lowest_face o b = face_trans g _ _ _ to_corner (corner_face g e.low o plane (plane.lower_in e E) b)

-- ---- between two that go on there are only such
class_on : (l : Bool) → (kind l true ≡ 1) ⊎ (kind l true ≡ 2)
class_on true = inr refl
class_on false = inl refl

class_back : (l : Bool) → (kind l false ≡ 0) ⊎ (kind l false ≡ 3)
class_back true = inl refl
class_back false = inr refl

class_rises : (d e : Edge) (p q : Bool) → Earlier d e p q → class d p ≤ class e q
class_rises d e p q (by_class l) = omega arith
class_rises d e p q (on_left z z' b) = omega arith
class_rises d e p q (on_right z z' b) = omega arith

goes_on : (e f c : Edge) → Earlier e c true false → Earlier c f false true → ⊥
goes_on e f c h k =
    let a = class_rises e c true false h in
    let b = class_rises c f false true k in
    elim (class_on (left_of e.low e.high)) [
      | inl x ↦ elim (class_on (left_of f.low f.high)) [
        | inl y ↦ elim (class_back (left_of c.low c.high)) [ inl z ↦ omega arith | inr z ↦ omega arith ]
        | inr y ↦ elim (class_back (left_of c.low c.high)) [ inl z ↦ omega arith | inr z ↦ omega arith ]
      ]
      | inr x ↦ elim (class_on (left_of f.low f.high)) [
        | inl y ↦ elim (class_back (left_of c.low c.high)) [ inl z ↦ omega arith | inr z ↦ omega arith ]
        | inr y ↦ elim (class_back (left_of c.low c.high)) [ inl z ↦ omega arith | inr z ↦ omega arith ]
      ]
    ]

nothing_between : (g : Skeleton) (v : Point) (e f : Edge) → IsNextLower g v e f → (c : Edge) (r : Bool) → IsOut g v c r → Earlier e c true r → Earlier c f r true → ⊥
nothing_between g v e f n c true out h k = n.none c out (earlier_in (ahead e) (ahead c) h) (earlier_in (ahead c) (ahead f) k)
nothing_between g v e f n c false out h k = goes_on e f c h k

next_lower : (g : Skeleton) (v : Point) (e f : Edge) → IsPlaneSkeleton g → IsNextLower g v e f → SameFace g (cell_of g e false) (cell_of g f true)
next_lower g v e f plane n = turn_keeps g v e f true true plane n.upper n.lower (on (earlier_out (ahead e) (ahead f) n.after) (nothing_between g v e f n))

lowest_told : (g : Skeleton) (v : Point) (e : Edge) (o : Option Edge) → IsPlaneSkeleton g → IsLowestFrom g v e → IsHighestBelow (Contains g.edges) v o → SameFace g (cell_of g e false) (cell_over g o)
lowest_told g v e o plane h b =
    let q : e.low ≡ v = h.out.at in
    lowest_face g plane e h.out.in' (subst (λ u. (f : Edge) → IsOut g u f true → earlier (ahead e) (ahead f) ≢ true) (sym q) h.lowest) o (subst (λ u. IsHighestBelow (Contains g.edges) u o) (sym q) b)

pub lowest_is_above_below : LowestIsAboveBelow
lowest_is_above_below = record { lowest = lowest_told; lower = next_lower }
