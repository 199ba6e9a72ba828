-- A dart that alone goes out of a vertex: the cell on its left is in the face of the cell left of the vertex.
use Rattle.std.proofs.Common.{◌≡◌, ℕ, ◌<◌, Bool, arith, sym, ap₂, ◌∙◌, subst, zero, suc}
use Rattle.std.specs.List.{Contains}
use Rattle.std.proofs.lemmas.Bool.{false≢true}
use Rattle.exact_plane.specs.Point.{Point}
use Rattle.plane_graphs.specs.Graph.{Edge}
use Rattle.slab_laws.specs.Darts.{class, cell_of, Earlier, by_class, on_left, on_right, IsOut}
use Rattle.slab_laws.specs.Meets.{SameFace, here}
use Rattle.slab_laws.specs.Skeleton.{Skeleton, left_of, IsPlaneSkeleton}
use Rattle.slab_laws.specs.Slabs.{left_cell}
use Rattle.slab_faces.proofs.Along.{below_self}
use Rattle.slab_faces.proofs.Next.{corner, IsEmpty, walk, IsFirst, enters, kind_few}
use Rattle.slab_faces.proofs.Turns.{face_trans, face_sym}

-- where no other corner is between darts, each is in the face of the cell left of the vertex
all_corners : (g : Skeleton) (v : Point) (k : ℕ) → IsPlaneSkeleton g → Contains g.vertices v → k < 4 → ((j : ℕ) → j < 4 → (j ≡ k → ⊥) → IsEmpty g v j) → SameFace g (corner g v k) (left_cell g v)
all_corners g v zero plane in' l none = face_sym g _ _ (walk g v 1 3 plane in' (omega arith) (λ j x y. none j (omega arith) (λ q. omega arith)))
all_corners g v (suc zero) plane in' l none = here _
all_corners g v (suc (suc zero)) plane in' l none = face_sym g _ _ (walk g v 1 1 plane in' (omega arith) (λ j x y. none j (omega arith) (λ q. omega arith)))
all_corners g v (suc (suc (suc zero))) plane in' l none = face_sym g _ _ (walk g v 1 2 plane in' (omega arith) (λ j x y. none j (omega arith) (λ q. omega arith)))
all_corners g v (suc (suc (suc (suc n)))) plane in' l none = absurd (omega arith)

pub lone_dart : (g : Skeleton) (v : Point) (e : Edge) (f : Bool) → IsPlaneSkeleton g → Contains g.vertices v → IsOut g v e f → ((c : Edge) (r : Bool) → IsOut g v c r → (c ≡ e) × (r ≡ f)) → SameFace g (cell_of g e f) (left_cell g v)
lone_dart g v e f plane in' o only =
    let k : IsFirst g v e f = λ c r w q x. not_earlier c r (only c r w) x in
    face_trans g _ _ _ (face_sym g _ _ (enters g v e f plane o k))
    (all_corners g v (class e f) plane in' (kind_few (left_of e.low e.high) f) (λ j l n c r w q. let z = only c r w in n (sym q ∙ ap₂ class z.0 z.1)))
  where
    itself : Earlier e e f f → ⊥
    itself (by_class l) = omega arith
    itself (on_left a b l) = false≢true (sym (below_self g e plane o.in') ∙ l)
    itself (on_right a b l) = false≢true (sym (below_self g e plane o.in') ∙ l)

    not_earlier : (c : Edge) (r : Bool) → (c ≡ e) × (r ≡ f) → Earlier c e r f → ⊥
    not_earlier c r z x = itself (subst (λ b. Earlier e e b f) z.1 (subst (λ a. Earlier a e r f) z.0 x))
