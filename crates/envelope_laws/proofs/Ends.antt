-- A point of an edge, and the end of the edge on its wall that is at least as far out; so at the abscissa of a vertex of the envelope no point of an edge is further out.
use Rattle.std.proofs.Common.{◌≡◌, Bool, true, false, arith, refl, sym, ap, ◌∙◌, inl, inr}
use Rattle.std.specs.Prelude.{pos, not, ◌&&◌, ◌||◌}
use Rattle.std.specs.List.{Contains}
use Rattle.std.proofs.lemmas.Int.{ints}
use Rattle.std.proofs.lemmas.Bool.{false≢true, and_from, cases_Bool, false_from_ne_true}
use Rattle.exact_plane.specs.Point.{Point}
use Rattle.plane_graphs.specs.Graph.{Edge}
use Rattle.slab_laws.specs.Skeleton.{Skeleton, HasWeight, IsPlaneSkeleton, left_of, lower_than, on_wall, side, precedes}
use Rattle.slab_laws.specs.Faces.{passes}
use Rattle.slab_laws.specs.Subdivision.{has_dart}
use Rattle.slab_faces.proofs.Walls.{left_of-before, left_of-after, run_positive, side-lower, side-upper, on_wall_parts}
use Rattle.slab_faces.proofs.Cells.{not_right_trans}
use Rattle.slab_faces.proofs.Member.{in_member, none_passes}
use Rattle.envelope_laws.specs.declared.which.Which.{Which}
use Rattle.envelope_laws.specs.declared.which.Which.TheVariants.{Lower, Upper}
use Rattle.envelope_laws.specs.Envelopes.{vertex_beyond, edge_beyond, is_extreme}
use Rattle.envelope_laws.specs.EnvelopeLaws.{IsOnEdge}
use Rattle.envelope_laws.proofs.Outward.{turned_zero, beyond-after, edge_in, from_line}
use Rattle.envelope_laws.proofs.Steps.{low_held, high_held, extreme_out}

pub not_before : (p q : Point) → precedes p q ≡ false → (left_of p q ≡ false) × (left_of q p ≡ false → lower_than p q ≡ false)
not_before p q h = (false_from_ne_true _ (λ k. false≢true (sym h ∙ first (left_of p q) (not (left_of q p) && lower_than p q) k)), λ l. false_from_ne_true _ (λ k. false≢true (sym h ∙ second (left_of p q) (not (left_of q p) && lower_than p q) (and_from _ _ (ap not l) k))))
  where
    first : (a b : Bool) → a ≡ true → (a || b) ≡ true
    first a b h = rw h refl

    second : (a b : Bool) → b ≡ true → (a || b) ≡ true
    second true b h = refl
    second false b h = h

-- h is an end of an edge on the wall of t, and t isn't further out
pub record IsEndBeyond (w : Which) (g : Skeleton) (t h : Point) : Type 0 where
  pub is_vertex : Contains g.vertices h
  pub is_end : has_dart g h ≡ true
  pub left : left_of h t ≡ false
  pub right : left_of t h ≡ false
  pub none : vertex_beyond w t h ≡ false

module _ (w : Which) (g : Skeleton) (e : Edge) (t : Point) (plane : IsPlaneSkeleton g) (E : Contains g.edges e) (on : IsOnEdge e t) where
  T : HasWeight t
  T = on.proper

  -- of an edge that isn't vertical, t is level with the end on its wall
  level_end : (h : Point) → side e h ≡ pos 0 → left_of e.low e.high ≡ true → left_of h t ≡ false → left_of t h ≡ false → vertex_beyond w t h ≡ false
  level_end h z long a b =
      false_from_ne_true _ (λ k. let s = from_line w e t h T (run_positive e long) on.on a b k in
      let o = turned_zero w _ z in
      omega (arith, ints))

  low_end : left_of t e.low ≡ false → left_of e.low t ≡ false → vertex_beyond w t e.low ≡ false → IsEndBeyond w g t e.low
  low_end a b n = record { is_vertex = plane.lower_in e E; is_end = low_held g e E; left = b; right = a; none = n }

  high_end : left_of t e.high ≡ false → left_of e.high t ≡ false → vertex_beyond w t e.high ≡ false → IsEndBeyond w g t e.high
  high_end a b n = record { is_vertex = plane.upper_in e E; is_end = high_held g e E; left = b; right = a; none = n }

-- of an edge whose lower end is on the wall: that end, or of a vertical edge the outer one
pub end_on : (w : Which) (g : Skeleton) (e : Edge) (t : Point) → IsPlaneSkeleton g → Contains g.edges e → IsOnEdge e t → left_of e.low t ≡ false → (h : Point) × IsEndBeyond w g t h
end_on Lower g e t plane E on a =
    let from = not_before t e.low on.from in
    (e.low, low_end Lower g e t plane E on from.0 a (from.1 a))
end_on Upper g e t plane E on a =
    let from = not_before t e.low on.from in
    let to = not_before e.high t on.to in
    let p = plane.proper_edge e E in
    elim (cases_Bool (left_of e.low e.high)) [
      | inl k ↦ (e.low, low_end Upper g e t plane E on from.0 a (level_end Upper g e t plane E on e.low (side-lower e) k a from.0))
      | inr k ↦
          let b = not_right_trans e.high e.low t p.1 p.0 on.proper k from.0 in
          (e.high, high_end Upper g e t plane E on (not_right_trans e.high e.low t p.1 p.0 on.proper k from.0) to.0 (to.1 b))
    ]

pub end_at : (w : Which) (g : Skeleton) (e : Edge) (t : Point) → IsPlaneSkeleton g → Contains g.edges e → IsOnEdge e t → left_of e.low t ≡ true → left_of t e.high ≡ false → IsEndBeyond w g t e.high
end_at w g e t plane E on a b =
    let to = not_before e.high t on.to in
    let p = plane.proper_edge e E in
    let long = left_of-before e.low t e.high p.0 on.proper p.1 a to.0 in
    high_end w g e t plane E on b to.0 (level_end w g e t plane E on e.high (side-upper e) long to.0 b)

-- at the abscissa of a vertex of the envelope no point of an edge is further out
abbrev pub NoneBeyondVertex : Type 0
NoneBeyondVertex =
    (w : Which) (g : Skeleton) (v t : Point) (e : Edge) → IsPlaneSkeleton g → Contains g.vertices v → is_extreme w g v ≡ true → Contains g.edges e → on_wall t v ≡ true → IsOnEdge e t → vertex_beyond w t v ≡ false

pub none_beyond_vertex : NoneBeyondVertex
none_beyond_vertex w g v t e plane V x E q on =
    false_from_ne_true _ (λ out.
    let T = on.proper in
    let W = plane.proper v V in
    let p = plane.proper_edge e E in
    let o = on_wall_parts t v q in
    let X = extreme_out w g v x in
    let no_end : (h : Point) → IsEndBeyond w g t h → ⊥ =
    λ h b. let H = plane.proper h b.is_vertex in
    false≢true (sym (none_passes (λ u. on_wall u v && (has_dart g u && vertex_beyond w u v)) g.vertices X.no_end h (in_member g.vertices h b.is_vertex)) ∙ and_from _ _ (and_from _ _ (ap not (not_right_trans v t h W T H o.0 b.left)) (ap not (not_right_trans h t v H T W b.right o.1))) (and_from _ _ b.is_end (beyond-after w h t v H T W b.none out))) in
    elim (cases_Bool (left_of e.low t)) [
      | inr k ↦ (let d = end_on w g e t plane E on k in no_end d.0 d.1)
      | inl k ↦ elim (cases_Bool (left_of t e.high)) [
        | inr m ↦ no_end e.high (end_at w g e t plane E on k m)
        | inl m ↦
            let from = left_of-before e.low t v p.0 T W k o.1 in
            let to = left_of-after v t e.high W T p.1 o.0 m in
            let R = run_positive e (left_of-before e.low t e.high p.0 T p.1 k (not_before e.high t on.to).0) in
            let s = from_line w e t v T R on.on o.1 o.0 out in
            false≢true (sym (none_passes (λ f. passes v f && edge_beyond w f v) g.edges X.no_edge e (in_member g.edges e E)) ∙ and_from _ _ (and_from _ _ from to) (edge_in w e v s))
      ]
    ])
