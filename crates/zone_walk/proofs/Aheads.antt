-- The edge that goes on along a line from a point: there is one at most, and what lies at the point tells it.
use Rattle.std.proofs.Common.{◌≡◌, ◌≢◌, true, false, ℤ, pos, ◌+ℤ◌, ◌-ℤ◌, ◌*ℤ◌, ◌<ℤ◌, neg_ℤ, [], ◌∷◌, sym, ap, ap₂, ◌∙◌, subst, arith, inl, inr, ◌⊎◌, ⊎_elim}
use Rattle.std.proofs.lemmas.Int.{ints}
use Rattle.integers.proofs.Reify.{ring, sides}
use Rattle.integers.proofs.Signs.{mul_pos, more as length_of, more_right}
use Rattle.integers.proofs.Tests.{not_true}
use Rattle.exact_plane.specs.Direction.{Direction, IsOneDirection, direction_of}
use Rattle.exact_plane.specs.Line.{Line, IsOn}
use Rattle.exact_plane.specs.Plane.{RunsForward}
use Rattle.exact_plane.specs.Point.{Point}
use Rattle.exact_plane.proofs.Directions.{square_nonneg}
use Rattle.plane_graphs.specs.Line.{IsProper, IsProperLine, precedes}
use Rattle.plane_graphs.proofs.Lists.{clash}
use Rattle.plane_graphs.proofs.Marks.{Le, le_lt, le_same, le_cases}
use Rattle.plane_graphs.proofs.Order.{Lt, lt_out, lt_in, Tri, tri}
use Rattle.plane_graphs.proofs.Order.Tri.{less, same, more}
use Rattle.slab_laws.specs.declared.names.DartId.{DartId}
use Rattle.slab_laws.specs.declared.names.VertexId.{VertexId}
use Rattle.slab_laws.specs.Skeleton.{inside}
use Rattle.slab_laws.specs.Sound.{skeleton_of, edge_in, dart_in, IsGraphSound}
use Rattle.slab_laws.specs.View.{View, HasVertex, HasDart, point_in, source_in, target_in, line_in}
use Rattle.slab_faces.proofs.OneEdge.{one_edge_at_most}
use Rattle.arr_notes.specs.Curves.{IsForward}
use Rattle.rotation_order.specs.Directions.{dart_direction}
use Rattle.rotation_order.proofs.ClockwiseEdges.{one_way}
use Rattle.rotation_order.specs.Place.{IsAlongDart}
use Rattle.sound_changes.proofs.KnownNames.{point_known, edge_known}
use Rattle.sound_views.proofs.NamedDarts.{by_points}
use Rattle.zone_walk.specs.Walk.{IsAhead}
use Rattle.locate_naive.proofs.Within.{high_proper, in_dart, dart_in_out}
use Rattle.sound_views.proofs.ForwardDarts.{target_has}

-- ---- a line's own direction

pub some_length : (a b : ℤ) → RunsForward a b → pos 0 <ℤ (b *ℤ b +ℤ neg_ℤ a *ℤ neg_ℤ a)
some_length a b (inl h) = length_of (b *ℤ b) (neg_ℤ a *ℤ neg_ℤ a) (mul_pos h h) (square_nonneg (neg_ℤ a))
some_length a b (inr h) =
    let n : a <ℤ pos 0 = h.1 in
    let k : pos 0 <ℤ neg_ℤ a = omega (arith, ints) in
    more_right (b *ℤ b) (neg_ℤ a *ℤ neg_ℤ a) (square_nonneg b) (mul_pos k k)

no_turn : (x y : ℤ) → x *ℤ y -ℤ y *ℤ x ≡ pos 0
no_turn x y = ring (x ∷ y ∷ []) (search sides depth 40 fits 20000) tt

own_way : (l : Line) → IsProperLine l → IsOneDirection (direction_of l) (direction_of l)
own_way l line = record { straight = no_turn l.b (neg_ℤ l.a); forward = some_length l.a l.b line.runs }

-- ---- order
pub at_most : (p q : Point) → precedes q p ≡ false → Le p q
at_most p q e = record { never = λ l. clash (lt_in l) e }

pub not_before : {p q : Point} → Le p q → precedes q p ≡ false
not_before {p} {q} h = not_true (precedes q p) (λ e. h.never (lt_out q p e))

module _ (v : View) (s : IsGraphSound v) where
  abbrev low_end : DartId → Point
  low_end d = point_in v (source_in v d)

  abbrev high_end : DartId → Point
  high_end d = point_in v (target_in v d)

  pub no_vertex_inside : (d : DartId) (w : VertexId) → HasDart v d → HasVertex v w → inside (edge_in v d) (point_in v w) ≡ true → ⊥
  no_vertex_inside d w has known h = clash h (s.plane.clear (edge_in v d) (point_in v w) (edge_known v d has) (point_known v s.named w known))

  -- ---- no two edges have one point inside
  one_dart : (d e : DartId) → IsForward v d → IsForward v e → edge_in v d ≡ edge_in v e → d ≡ e
  one_dart d e f g q = s.turned.differ d e f.0 g.0 (λ i. record { edge = q i; forward = (f.1 ∙ sym g.1) i })

  pub one_edge : (d e : DartId) (t : Point) → HasDart v d → HasDart v e → IsProper t → inside (edge_in v d) t ≡ true → inside (edge_in v e) t ≡ true → edge_in v d ≡ edge_in v e
  one_edge d e t has here p h k = one_edge_at_most (skeleton_of v) (edge_in v d) (edge_in v e) t s.plane p.positive (edge_known v d has) (edge_known v e here) h k

  pub one_inside : (d e : DartId) (t : Point) → IsForward v d → IsForward v e → IsProper t → inside (edge_in v d) t ≡ true → inside (edge_in v e) t ≡ true → d ≡ e
  one_inside d e t f g p h k = one_dart d e f g (one_edge d e t f.0 g.0 p h k)

  -- ---- a dart that goes on from a point begins there, or has it inside
  module _ (l : Line) (p : Point) (proper : IsProper p) (on : IsOn l p) where
    pub ahead_from : (d : DartId) → IsAhead v l p d → (low_end d ≡ p) ⊎ (inside (edge_in v d) p ≡ true)
    ahead_from d h =
        ⊎_elim
        (λ e. inl e)
        (λ k. inr (in_dart v s d p h.forward proper (record { on = subst (λ (m : Line). IsOn m p) (sym h.line) on; after = k; before = lt_out p (high_end d) h.ends })))
        (le_cases (low_end d) p (at_most (low_end d) p h.begins))

    -- two that begin there: the shorter one's upper end would be inside the other
    longer : (d e : DartId) → IsAhead v l p d → IsAhead v l p e → low_end e ≡ p → Lt (high_end d) (high_end e) → ⊥
    longer d e h k at m =
        no_vertex_inside e (target_in v d) k.forward.0 (target_has v s d h.forward.0)
        (in_dart v s e (high_end d) k.forward (high_proper v s d h.forward.0)
        (record {
          on = subst (λ (m : Line). IsOn m (high_end d)) (h.line ∙ sym k.line) (s.drawn.ends d h.forward.0);
          after = subst (λ (q : Point). Lt q (high_end d)) (sym at) (lt_out p (high_end d) h.ends);
          before = m;
        }))

    both_begin : (d e : DartId) → IsAhead v l p d → IsAhead v l p e → low_end d ≡ p → low_end e ≡ p → Tri (high_end d) (high_end e) → d ≡ e
    both_begin d e h k a b (less m) = absurd (longer d e h k b m)
    both_begin d e h k a b (same q) = s.turned.differ d e h.forward.0 k.forward.0 (ap₂ by_points (a ∙ sym b) q)
    both_begin d e h k a b (more m) = absurd (longer e d k h a m)

    one_by : (d e : DartId) → IsAhead v l p d → IsAhead v l p e → (low_end d ≡ p) ⊎ (inside (edge_in v d) p ≡ true) → (low_end e ≡ p) ⊎ (inside (edge_in v e) p ≡ true) → d ≡ e
    one_by d e h k (inl a) (inl b) = both_begin d e h k a b (tri (high_end d) (high_end e))
    one_by d e h k (inl a) (inr b) = absurd (no_vertex_inside e (source_in v d) k.forward.0 (s.linked.source d h.forward.0) (ap (inside (edge_in v e)) a ∙ b))
    one_by d e h k (inr a) (inl b) = absurd (no_vertex_inside d (source_in v e) h.forward.0 (s.linked.source e k.forward.0) (ap (inside (edge_in v d)) b ∙ a))
    one_by d e h k (inr a) (inr b) = one_inside d e p h.forward k.forward proper a b

    pub one_ahead : (d e : DartId) → IsAhead v l p d → IsAhead v l p e → d ≡ e
    one_ahead d e h k = one_by d e h k (ahead_from d h) (ahead_from e k)

    -- ---- in a face, none
    pub none_in_face : ((w : VertexId) → HasVertex v w → point_in v w ≢ p) → ((d : DartId) → HasDart v d → inside (edge_in v d) p ≡ false) → (d : DartId) → IsAhead v l p d → ⊥
    none_in_face no_vertex no_edge d h =
        ⊎_elim
        (λ e. no_vertex (source_in v d) (s.linked.source d h.forward.0) e)
        (λ k. clash k (no_edge d h.forward.0))
        (ahead_from d h)

    -- ---- inside an edge, that edge where the line is its own, and none else
    module _ (c : DartId) (forward : IsForward v c) (inner : inside (edge_in v c) p ≡ true) where
      pub ahead_inside : line_in v c ≡ l → IsAhead v l p c
      ahead_inside e =
          let w = dart_in_out v s c p forward proper inner in
          record { forward = forward; line = e; begins = not_before (le_lt w.after); ends = lt_in w.before }

      pub none_inside : line_in v c ≢ l → (d : DartId) → IsAhead v l p d → ⊥
      none_inside differ d h =
          ⊎_elim
          (λ e. no_vertex_inside c (source_in v d) forward.0 (s.linked.source d h.forward.0) (ap (inside (edge_in v c)) e ∙ inner))
          (λ k. differ (ap (line_in v) (one_inside c d p forward h.forward proper inner k) ∙ h.line))
          (ahead_from d h)

  -- ---- at a vertex, the dart that leaves in the line's direction
  module _ (l : Line) (line : IsProperLine l) (w : VertexId) (has : HasVertex v w) (on : IsOn l (point_in v w)) where
    pub ahead_along : (d : DartId) → IsAlongDart v w (direction_of l) d → IsAhead v l (point_in v w) d
    ahead_along d h =
        let at : low_end d ≡ point_in v w = ap (point_in v) h.out.1 in
        let one =
        one_way (line_in v d) l (dart_in v d).forward true (point_in v w) (s.drawn.line d h.out.0) line (s.drawn.proper w has).positive
        (subst (IsOn (line_in v d)) at (s.drawn.starts d h.out.0)) on h.way in
        record {
          forward = (h.out.0, one.1);
          line = one.0;
          begins = not_before (subst (λ (q : Point). Le q (point_in v w)) (sym at) (le_same (point_in v w)));
          ends = ap (λ (q : Point). precedes q (high_end d)) (sym at) ∙ one.1;
        }

    leaves : (d : DartId) → IsAhead v l (point_in v w) d → source_in v d ≡ w
    leaves d h =
        ⊎_elim
        (λ e. s.drawn.points (source_in v d) w (s.linked.source d h.forward.0) has e)
        (λ k. absurd (no_vertex_inside d w h.forward.0 has k))
        (ahead_from l (point_in v w) (s.drawn.proper w has) on d h)

    pub along_ahead : (d : DartId) → IsAhead v l (point_in v w) d → IsAlongDart v w (direction_of l) d
    along_ahead d h = record {
      out = (h.forward.0, leaves d h);
      way = subst (λ (x : Direction). IsOneDirection x (direction_of l)) (λ i. dart_direction (sym h.line i) (sym h.forward.1 i)) (own_way l line);
    }
