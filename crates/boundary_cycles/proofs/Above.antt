-- Which edges are above the cell that is asked for: told by on which side of its slab their ends are.
use Rattle.std.proofs.Common.{◌≡◌, ℕ, Bool, true, false, cond, refl, sym, ap, ◌∙◌, subst}
use Rattle.std.specs.Prelude.{not, ◌&&◌, if◌then◌else◌}
use Rattle.std.proofs.Math.Bool.{beq}
use Rattle.std.specs.List.{Contains, sum_by}
use Rattle.std.proofs.lemmas.Bool.{false≢true, and_parts, not-true}
use Rattle.integers.proofs.Tests.{not_not}
use Rattle.exact_plane.specs.Point.{Point}
use Rattle.exact_plane.specs.Span.{Span}
use Rattle.plane_graphs.specs.Graph.{Edge}
use Rattle.plane_graphs.specs.Line.{precedes}
use Rattle.slab_laws.specs.Skeleton.{Skeleton, HasWeight, left_of, below, over, IsPlaneSkeleton}
use Rattle.slab_laws.specs.Slabs.{reaches_left, slab_left, spans, left_cell}
use Rattle.slab_laws.specs.Sound.{edge_between}
use Rattle.slab_laws.specs.SpansDrawn.{edge_of}
use Rattle.slab_laws.specs.Weights.{weight_above}
use Rattle.slab_faces.proofs.Walls.{left_of-asym, left_of-before, left_of-after}
use Rattle.slab_faces.proofs.Cells.{not_right_trans, left_few, left_more, leb_by, ltb_by, both, IsSideOf, cell_weight}
use Rattle.edge_predicates.specs.CellsAbove.{above_by, is_above}
use Rattle.boundary_cycles.specs.declared.asked.Asked.{Asked}
use Rattle.boundary_cycles.specs.declared.asked.Asked.TheVariants.{Left, Right, Above, Below}
use Rattle.boundary_cycles.specs.Asked.{is_behind_asked, is_over_asked, is_above_asked, IsAsked}

-- an edge is behind with its upper end only where it is with its lower one
falls : (a : Asked) (f : Edge) → IsAsked a → HasWeight f.low → HasWeight f.high → left_of f.high f.low ≡ false → is_behind_asked a f.high ≡ true → is_behind_asked a f.low ≡ true
falls (Left t) f T P Q h k = left_of-after f.low f.high t P Q T h k
falls (Right t) f T P Q h k = ap not (not_right_trans f.low f.high t P Q T h (not-true _ k))
falls (Above s) f T P Q h k = ap not (not_right_trans f.low f.high s.lower P Q T.0 h (not-true _ k))
falls (Below s) f T P Q h k = ap not (not_right_trans f.low f.high s.lower P Q T.0 h (not-true _ k))

-- an edge that spans the slab isn't vertical
slants : (a : Asked) (f : Edge) → IsAsked a → HasWeight f.low → HasWeight f.high → is_behind_asked a f.low ≡ true → is_behind_asked a f.high ≡ false → left_of f.low f.high ≡ true
slants (Left t) f T P Q h k = left_of-before f.low t f.high P T Q h k
slants (Right t) f T P Q h k = left_of-after f.low t f.high P T Q (not-true _ h) (sym (not_not _) ∙ ap not k)
slants (Above s) f T P Q h k = left_of-after f.low s.lower f.high P T.0 Q (not-true _ h) (sym (not_not _) ∙ ap not k)
slants (Below s) f T P Q h k = left_of-after f.low s.lower f.high P T.0 Q (not-true _ h) (sym (not_not _) ∙ ap not k)

-- ---- an edge by its two points, in either order
module _ (a : Asked) (p q : Point) (A : IsAsked a) (E : (f : Edge) → f ≡ edge_between p q → HasWeight f.low × HasWeight f.high × (left_of f.high f.low ≡ false)) where
  -- what is behind: the lower end and not the upper one, or both, or none
  one_way : (x y : Bool) → (y ≡ true → x ≡ true) → not (beq x y) ≡ (x && not y)
  one_way true true k = refl
  one_way true false k = refl
  one_way false true k = absurd (false≢true (k refl))
  one_way false false k = refl

  other_way : (x y : Bool) → (x ≡ true → y ≡ true) → not (beq x y) ≡ (y && not x)
  other_way true true k = refl
  other_way false true k = refl
  other_way true false k = absurd (false≢true (k refl))
  other_way false false k = refl

  passes_by : (b x y l h : Bool) → (b ≡ true → (l ≡ x) × (h ≡ y)) → (b ≡ false → (l ≡ y) × (h ≡ x)) → (h ≡ true → l ≡ true) → not (beq x y) ≡ (l && not h)
  passes_by true x y l h m n k = let e = m refl in one_way x y (λ t. sym (e.0) ∙ k (e.1 ∙ t)) ∙ (λ i. sym (e.0) i && not (sym (e.1) i))
  passes_by false x y l h m n k = let e = n refl in other_way x y (λ t. sym (e.0) ∙ k (e.1 ∙ t)) ∙ (λ i. sym (e.0) i && not (sym (e.1) i))

  -- the ends are on two sides exactly where the edge spans the slab
  pub spans_slab : (x y : Bool) → x ≡ is_behind_asked a p → y ≡ is_behind_asked a q → not (beq x y) ≡ (is_behind_asked a (edge_between p q).low && not (is_behind_asked a (edge_between p q).high))
  spans_slab x y X Y =
      let w = E (edge_between p q) refl in
      passes_by (precedes p q) x y (is_behind_asked a (edge_between p q).low) (is_behind_asked a (edge_between p q).high)
      (λ e. (ap (λ b. is_behind_asked a (either b).low) e ∙ sym X, ap (λ b. is_behind_asked a (either b).high) e ∙ sym Y))
      (λ e. (ap (λ b. is_behind_asked a (either b).low) e ∙ sym Y, ap (λ b. is_behind_asked a (either b).high) e ∙ sym X))
      (λ h. falls a (edge_between p q) A w.0 w.1 w.2 h)
    where
      either : Bool → Edge
      either b = if b then record { low = p; high = q } else record { low = q; high = p }

-- ---- the cell on the left of a dart, by the span of its edge
module _ (s : Span) (e : Edge) (b : Bool) (S : edge_of s ≡ e) where
  pub beside_above : left_of s.lower s.upper ≡ true → b ≡ true → (f : Edge) → is_above_asked (Above s) f ≡ is_above e b f
  beside_above h k f =
      subst (λ (z : Edge). is_above_asked (Above s) f ≡ is_above z b f) S
      (ap (λ x. (not (left_of s.lower f.low) && x) && below (edge_of s) f) (not_not (left_of s.lower f.high)) ∙ (λ i. above_by (sym h i) (sym k i) (edge_of s) f))

  pub beside_below : left_of s.lower s.upper ≡ true → b ≡ false → (f : Edge) → is_above_asked (Below s) f ≡ is_above e b f
  beside_below h k f =
      subst (λ (z : Edge). is_above_asked (Below s) f ≡ is_above z b f) S
      (ap (λ x. (not (left_of s.lower f.low) && x) && not (below f (edge_of s))) (not_not (left_of s.lower f.high)) ∙ (λ i. above_by (sym h i) (sym k i) (edge_of s) f))

  pub beside_left : (t : Point) → t ≡ s.lower → left_of s.lower s.upper ≡ false → b ≡ true → (f : Edge) → is_above_asked (Left t) f ≡ is_above e b f
  beside_left t T h k f =
      subst (λ (z : Edge). is_above_asked (Left t) f ≡ is_above z b f) S
      ((λ i. is_above_asked (Left (T i)) f) ∙ (λ i. above_by (sym h i) (sym k i) (edge_of s) f))

  pub beside_right : (t : Point) → t ≡ s.lower → left_of s.lower s.upper ≡ false → b ≡ false → (f : Edge) → is_above_asked (Right t) f ≡ is_above e b f
  beside_right t T h k f =
      subst (λ (z : Edge). is_above_asked (Right t) f ≡ is_above z b f) S
      ((λ i. is_above_asked (Right (T i)) f) ∙ ap (λ x. (not (left_of s.lower f.low) && x) && over f s.lower) (not_not (left_of s.lower f.high)) ∙ (λ i. above_by (sym h i) (sym k i) (edge_of s) f))

-- ---- the cell on the left of any point, on a wall or off all
module _ (g : Skeleton) (t : Point) (plane : IsPlaneSkeleton g) (T : HasWeight t) where
  spans_before : (e : Edge) → Contains g.edges e → spans g (slab_left g t) e ≡ reaches_left e t
  spans_before e E =
      let p = plane.proper_edge e E in
      both _ _ _ _
      (leb_by _ _ _ (λ h. left_few g e.low t plane p.0 T h) (λ h. left_more g e.low t plane (plane.lower_in e E) T h))
      (ltb_by _ _ _ (λ h. left_few g e.high t plane p.1 T h) (λ h. left_more g e.high t plane (plane.upper_in e E) T h))

  pub before : IsSideOf g t (slab_left g t) (λ e. reaches_left e t)
  before = record {
    spanned = spans_before;
    passes = λ f e F E rf re.
        let a = and_parts (left_of f.low t) (not (left_of f.high t)) rf in
        let b = and_parts (left_of e.low t) (not (left_of e.high t)) re in
        let a' = not-true _ a.1 in
        let b' = not-true _ b.1 in
        let p = plane.proper_edge f F in
        let q = plane.proper_edge e E in
        record {
          f_from = left_of-asym _ _ a.0;
          f_to = a';
          e_from = left_of-asym _ _ b.0;
          e_to = b';
          f_long = left_of-before f.low t f.high p.0 T p.1 a.0 a';
          e_long = left_of-before e.low t e.high q.0 T q.1 b.0 b';
          f_e = left_of-before f.low t e.high p.0 T q.1 a.0 b';
          e_f = left_of-before e.low t f.high q.0 T p.1 b.0 a';
        };
  }

  pub left_weight_is : (m : Edge → ℕ) → weight_above g m (left_cell g t).slab (left_cell g t).place ≡ sum_by (λ f. cond (is_above_asked (Left t) f) (m f) 0) g.edges
  left_weight_is m = cell_weight g m t (slab_left g t) (λ f. reaches_left f t) plane before

-- ---- an edge with its two ends as they were asked
module _ (a : Asked) (A : IsAsked a) (p q : Point) (x y : Bool) (X : x ≡ is_behind_asked a p) (Y : y ≡ is_behind_asked a q) (E : (f : Edge) → f ≡ edge_between p q → HasWeight f.low × HasWeight f.high × (left_of f.high f.low ≡ false)) where
  parts : not (beq x y) ≡ true → (is_behind_asked a (edge_between p q).low ≡ true) × (is_behind_asked a (edge_between p q).high ≡ false)
  parts h =
      let k = and_parts (is_behind_asked a (edge_between p q).low) (not (is_behind_asked a (edge_between p q).high)) (sym (spans_slab a p q A E x y X Y) ∙ h) in
      (k.0, not-true _ k.1)

  pub slants_there : (s : Span) → edge_of s ≡ edge_between p q → not (beq x y) ≡ true → left_of s.lower s.upper ≡ true
  slants_there s S h =
      let w = E (edge_between p q) refl in
      let k = parts h in
      subst (λ (z : Edge). left_of z.low z.high ≡ true) (sym S) (slants a (edge_between p q) A w.0 w.1 k.0 k.1)

  pub passes_and : not (beq x y) ≡ true → (r : Bool) → (s : Span) → edge_of s ≡ edge_between p q → r ≡ is_over_asked a (edge_of s) → r ≡ is_above_asked a (edge_between p q)
  passes_and h r s S R =
      R ∙ ap (is_over_asked a) S ∙ sym (ap (λ b. b && is_over_asked a (edge_between p q)) (sym (spans_slab a p q A E x y X Y) ∙ h))

  pub passes_not : not (beq x y) ≡ false → not (beq x y) ≡ is_above_asked a (edge_between p q)
  passes_not h = h ∙ sym (ap (λ b. b && is_over_asked a (edge_between p q)) (sym (spans_slab a p q A E x y X Y) ∙ h))
