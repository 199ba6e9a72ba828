-- What the answer of a node says of a point.
use Rattle.std.proofs.Common.{◌≡◌, Bool, true, false, is_eq, is_gt, refl, sym, ap, ◌∙◌, subst}
use Rattle.std.specs.Prelude.{Option, Some, pos, ◌<ℤ◌}
use Rattle.std.specs.Ordering.{int_cmp, ordering_reverse}
use Rattle.std.proofs.lemmas.Bool.{false≢true}
use Rattle.std.specs.declared.cmp.Ordering.{Ordering}
use Rattle.std.specs.declared.cmp.Ordering.TheVariants.{Less, Equal, Greater}
use Rattle.integers.proofs.Compare.{less_out, greater_out}
use Rattle.exact_plane.specs.Line.{Line, IsLine, side_of}
use Rattle.exact_plane.specs.Point.{Point, IsPoint}
use Rattle.exact_plane.specs.PointOrder.{point_cmp}
use Rattle.exact_plane.specs.PointOrderLaws.{point_cmp_total}
use Rattle.exact_plane.specs.Sign.{sign_by, sign_of}
use Rattle.exact_plane.specs.Span.{Span, IsSpan, AreOnWay}
use Rattle.exact_plane.specs.declared.sides.Sign.{Sign}
use Rattle.exact_plane.specs.declared.sides.Sign.TheVariants.{Minus, Zero, Plus}
use Rattle.plane_graphs.specs.Graph.{Edge}
use Rattle.plane_graphs.specs.Line.{IsProper}
use Rattle.slab_laws.specs.Skeleton.{side, precedes}
use Rattle.slab_faces.proofs.InnerPoints.{before_in}
use Rattle.edge_predicates.proofs.Sides.{side_same}
use Rattle.locate_trapezoid.specs.Ways.{way}
use Rattle.locate_trapezoid.proofs.Paths.{same_some}

module _ (q p : Point) (Q : IsProper q) (P : IsProper p) where
  pub comes_before : point_cmp q p ≡ Less → precedes q p ≡ true
  comes_before h = before_in q p Q P (record { is = h })

  pub comes_after : point_cmp q p ≡ Greater → precedes p q ≡ true
  comes_after h = before_in p q P Q (record { is = point_cmp_total.antisymm p q ∙ ap ordering_reverse h })

module _ (q : Point) (e : Edge) where
  pub lies_below : int_cmp (side e q) (pos 0) ≡ Less → side e q <ℤ pos 0
  lies_below h = less_out (side e q) (pos 0) h

  pub lies_above : int_cmp (side e q) (pos 0) ≡ Greater → pos 0 <ℤ side e q
  lies_above h = greater_out (side e q) (pos 0) h

-- ---- as the code has it
abbrev pub turn_of : Sign → Ordering
turn_of Minus = Less
turn_of Zero = Equal
turn_of Plus = Greater

-- the ends and the line of an edge, as they were read
module _ (low high : Point) (o : Option Line) (l : Line) where
  abbrev span : Span
  span = record { lower = low; upper = high; line = l }

  pub looked_span : o ≡ Some l → IsPoint low → IsPoint high → IsLine l → (m : Line) × (o ≡ Some m) × AreOnWay low high m → IsSpan (record { lower = low; upper = high; line = l })
  looked_span e L H is w = record { lower = L; upper = H; line = is; way = subst (AreOnWay low high) (same_some (sym w.1 ∙ e)) w.2 }

  -- the side of the line tells where the point lies
  pub looked_side : (t : Point) (r : Sign) → IsSpan (record { lower = low; upper = high; line = l }) → r ≡ sign_of (side_of l t) → turn_of r ≡ int_cmp (side (record { low = low; high = high }) t) (pos 0)
  looked_side t r is e = ap turn_of e ∙ back (int_cmp (side_of l t) (pos 0)) ∙ sym (side_same span is t)
    where
      back : (o : Ordering) → turn_of (sign_by o) ≡ o
      back Less = refl
      back Equal = refl
      back Greater = refl

-- a point that isn't met goes one of two ways
pub turned : (o : Ordering) (x y : Bool) → x ≡ is_eq o → x ≡ false → y ≡ is_gt o → o ≡ way y
turned Less x y e f h = sym (ap way h)
turned Equal x y e f h = absurd (false≢true (sym f ∙ e))
turned Greater x y e f h = sym (ap way h)

pub is_met : (o : Ordering) (x : Bool) → x ≡ is_eq o → x ≡ true → o ≡ Equal
is_met Less x e f = absurd (false≢true (sym e ∙ f))
is_met Equal x e f = refl
is_met Greater x e f = absurd (false≢true (sym e ∙ f))
