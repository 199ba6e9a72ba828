-- Where a boundary turns wide at a vertex before which none of its two neighbours there comes, the way back is the lowest edge on the vertex's right: so on the boundary's left is what lies just below that edge, beside the vertex.
use Rattle.std.proofs.Common.{◌≡◌, ℕ, ◌<◌, Bool, true, false, not, arith, refl, sym, ◌∙◌, subst, inl, inr}
use Rattle.std.specs.List.{Contains}
use Rattle.std.proofs.lemmas.Bool.{false≢true, and_parts, cases_Bool}
use Rattle.exact_plane.specs.Point.{Point}
use Rattle.plane_graphs.specs.Graph.{Edge}
use Rattle.slab_laws.specs.Cycles.{left_of_dart}
use Rattle.slab_laws.specs.Darts.{Dart, darts, start, target, kind, cell_of, cell_by, ahead, by_class, on_left, on_right}
use Rattle.slab_laws.specs.Rotation.{twin, turn, earlier, ring, after, OutOf}
use Rattle.slab_laws.specs.Skeleton.{Skeleton, left_of, precedes, below, IsPlaneSkeleton}
use Rattle.slab_laws.specs.Slabs.{slab_right, place, reaches_right, right_below, right_bottom}
use Rattle.slab_faces.proofs.Corners.{IsAt, right_fan, bottom_place}
use Rattle.slab_faces.proofs.Next.{at_lower, level_at_lower}
use Rattle.slab_faces.proofs.NextLemmas.{Follows, ring_in, after_follows}
use Rattle.slab_faces.proofs.NextLemmas.Follows.{later, first}
use Rattle.slab_faces.proofs.Nudge.{right_inside}
use Rattle.slab_faces.proofs.RotationLemmas.{Early, earlier_in, earlier_out}
use Rattle.slab_faces.proofs.Turns.{on_own_wall}
use Rattle.face_roots.proofs.InnerCycles.{rises}
use Rattle.rotation_order.specs.RingOrder.{IsStrictOn}
use Rattle.rotation_order.proofs.RingTurned.{vertex_there, strict_at}

-- a dart whose target doesn't come before its source goes forward
pub goes_forward : (g : Skeleton) (p : Point) (d : Dart) → IsPlaneSkeleton g → OutOf g p d → precedes (target d) p ≡ false → d.forward ≡ true
goes_forward g p d plane D n = go d.forward D.at n
  where
    go : (f : Bool) → start d.edge f ≡ p → precedes (start d.edge (not f)) p ≡ false → f ≡ true
    go true a h = refl
    go false a h = absurd (false≢true (sym h ∙ subst (λ z. precedes d.edge.low z ≡ true) a (rises g plane d.edge D.in')))

kind_up : (l : Bool) → kind l true < 1 → ⊥
kind_up true h = absurd (omega arith)
kind_up false h = absurd (omega arith)

-- of two that go forward, one that is met before another isn't met before one that goes straight up
pub not_upright : (e x : Dart) → e.forward ≡ true → x.forward ≡ true → Early e x → left_of x.edge.low x.edge.high ≡ false → ⊥
not_upright e x a b (by_class k) h = kind_up (left_of e.edge.low e.edge.high) (subst (λ (f : Bool). kind (left_of e.edge.low e.edge.high) f < 1) a (subst (λ (n : ℕ). turn e < n) (λ i. kind (h i) (b i)) k))
not_upright e x a b (on_left z y t) h = absurd (let q : turn x ≡ 1 = (λ i. kind (h i) (b i)) in omega arith)
not_upright e x a b (on_right z y t) h = absurd (let q : turn x ≡ 1 = (λ i. kind (h i) (b i)) in omega arith)

module _ (g : Skeleton) (plane : IsPlaneSkeleton g) (p : Point) (x e : Dart) (X : OutOf g p x) (E : OutOf g p e) (follows : e ≡ after x (ring (darts g) p)) (met : earlier e x ≡ true) where
  P : Contains g.vertices p
  P = vertex_there g p x plane X

  strict : IsStrictOn earlier (OutOf g p)
  strict = strict_at g p x plane X

  -- no dart is met after the way back
  none_after : Follows g p plane P x (after x (ring (darts g) p)) → (y : Dart) → OutOf g p y → earlier x y ≡ true → ⊥
  none_after (later n) y Y t = strict.asym e x E X met (subst (λ z. earlier x z ≡ true) (sym follows) n.later)
  none_after (first l m f) y Y t = l y (ring_in g p plane P y.edge y.forward Y) t

  last : (y : Dart) → OutOf g p y → earlier x y ≡ true → ⊥
  last = none_after (after_follows g p plane P x (ring_in g p plane P x.edge x.forward X))

  module _ (x_not : precedes (target x) p ≡ false) (e_not : precedes (target e) p ≡ false) where
    x_forward : x.forward ≡ true
    x_forward = goes_forward g p x plane X x_not

    long : left_of x.edge.low x.edge.high ≡ true
    long = elim (cases_Bool (left_of x.edge.low x.edge.high)) [
      | inl h ↦ h
      | inr h ↦ absurd (not_upright e x (goes_forward g p e plane E e_not) x_forward (earlier_out e x met) h)
    ]

    begins : x.edge.low ≡ p
    begins = subst (λ (f : Bool). start x.edge f ≡ p) x_forward X.at

    turns_right : turn x ≡ 2
    turns_right = (λ i. kind (long i) (x_forward i))

    reach_at : IsAt g p (λ z. reaches_right z p) x.edge
    reach_at = subst (λ (q : Point). IsAt g q (λ z. reaches_right z q) x.edge) begins (at_lower g x.edge plane X.in' long)

    none_lower : (f : Edge) → IsAt g p (λ z. reaches_right z p) f → below f x.edge ≡ true → ⊥
    none_lower f a b =
        let q : f.low ≡ p = level_at_lower g f p plane a.in' P a.reaches a.on in
        let r = and_parts (not (left_of p f.low)) (left_of p f.high) a.reaches in
        let l : left_of f.low f.high ≡ true = subst (λ (z : Point). left_of z f.high ≡ true) (sym q) r.1 in
        let y : turn (ahead f) ≡ 2 = (λ i. kind (l i) true) in
        last (ahead f) (record { in' = a.in'; at = q }) (earlier_in x (ahead f) (on_right turns_right y b))

    lowest : right_below g p ≡ place g (slab_right g p) x.edge
    lowest = bottom_place g p (slab_right g p) (right_inside g p) (λ z. reaches_right z p) x.edge (right_fan g p plane (on_own_wall g p plane P)) reach_at none_lower

    pub on_left_below : left_of_dart g (twin x) ≡ right_bottom g p
    on_left_below =
        (λ i. cell_of g x.edge (not (x_forward i)))
        ∙ (λ i. cell_by g x.edge (long i) false)
        ∙ (λ i. record { slab = slab_right g (begins i); place = place g (slab_right g (begins i)) x.edge })
        ∙ (λ i. record { slab = slab_right g p; place = sym lowest i })
