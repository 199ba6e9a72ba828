-- An outermost end of its wall is in the list exactly where the outermost edge of the slab on its right doesn't pass further out.
use Rattle.std.proofs.Common.{◌≡◌, true, arith, sym, ap, ◌∙◌, inl, inr}
use Rattle.std.specs.Prelude.{pos, not, ◌&&◌, Option, Some, None}
use Rattle.std.specs.List.{Contains}
use Rattle.std.proofs.lemmas.Int.{ints, by_lt_z}
use Rattle.std.proofs.lemmas.Bool.{false≢true, and_parts, and_from, not-true, cases_Bool, false_from_ne_true}
use Rattle.exact_plane.specs.Point.{Point}
use Rattle.plane_graphs.specs.Graph.{Edge}
use Rattle.slab_laws.specs.Skeleton.{Skeleton, HasWeight, IsPlaneSkeleton, left_of, on_wall, gap}
use Rattle.slab_laws.specs.Slabs.{reaches_right, spans, slab_right}
use Rattle.slab_laws.specs.Faces.{passes}
use Rattle.slab_laws.specs.Subdivision.{has_dart}
use Rattle.slab_faces.proofs.Walls.{left_of-after, run_positive, side-lower}
use Rattle.slab_faces.proofs.Cells.{right_side, spans_right}
use Rattle.slab_faces.proofs.Turns.{on_own_wall}
use Rattle.slab_faces.proofs.Member.{in_member, member_in, none_passes, none_passing}
use Rattle.envelope_laws.specs.declared.which.Which.{Which}
use Rattle.envelope_laws.specs.Envelopes.{vertex_beyond, edge_beyond, is_extreme}
use Rattle.envelope_laws.specs.Outermost.{IsOutermostOf, hides}
use Rattle.envelope_laws.proofs.Outward.{turned, turned_zero, edge_out, edge_in, past_line, level_line, outside_from, side_from}
use Rattle.envelope_laws.proofs.Steps.{low_held, to_right, IsExtreme, extreme_out, extreme_in}

-- v is an end of an edge, and no end of an edge on its wall is further out
pub record IsOutermostEnd (w : Which) (g : Skeleton) (v : Point) : Type 0 where
  pub is_vertex : Contains g.vertices v
  pub is_end : has_dart g v ≡ true
  pub none : (u : Point) → Contains g.vertices u → on_wall u v ≡ true → has_dart g u ≡ true → vertex_beyond w u v ≡ true → ⊥

module _ (w : Which) (g : Skeleton) (v : Point) (plane : IsPlaneSkeleton g) (h : IsOutermostEnd w g v) where
  V : HasWeight v
  V = plane.proper v h.is_vertex

  -- an edge of the slab on the right that is further out than v passes the wall
  met_passes : (e : Edge) → Contains g.edges e → reaches_right e v ≡ true → edge_beyond w e v ≡ true → passes v e ≡ true
  met_passes e E r b =
      let a = and_parts (not (left_of v e.low)) (left_of v e.high) r in
      let a' = not-true _ a.0 in
      let p = plane.proper_edge e E in
      let R = run_positive e (left_of-after e.low v e.high p.0 V p.1 a' a.1) in
      let z = side-lower e in
      let o = edge_out w e v b in
      elim (cases_Bool (left_of e.low v)) [
        | inl k ↦ and_from _ _ k a.1
        | inr k ↦ elim (cases_Bool (vertex_beyond w e.low v)) [
          | inl l ↦ absurd (h.none e.low (plane.lower_in e E) (and_from _ _ (ap not k) (ap not a')) (low_held g e E) l)
          | inr l ↦ elim (cases_Bool (vertex_beyond w v e.low)) [
            | inl n ↦ (let s = past_line w e e.low v p.0 R z a' k n in absurd (omega (arith, ints)))
            | inr n ↦ (let s = turned_zero w _ (level_line w e e.low v p.0 z a' k l n) in absurd (omega (arith, ints)))
          ]
        ]
      ]

  none_beyond : IsExtreme w g v → (e : Edge) → Contains g.edges e → reaches_right e v ≡ true → edge_beyond w e v ≡ true → ⊥
  none_beyond x e E r b = false≢true (sym (none_passes (λ f. passes v f && edge_beyond w f v) g.edges x.no_edge e (in_member g.edges e E)) ∙ and_from _ _ (met_passes e E r b) b)

  extreme_by : ((f : Edge) → Contains g.edges f → passes v f ≡ true → edge_beyond w f v ≡ true → ⊥) → is_extreme w g v ≡ true
  extreme_by out =
      extreme_in w g v (record {
        is_end = h.is_end;
        no_end = none_passing (λ u. on_wall u v && (has_dart g u && vertex_beyond w u v)) g.vertices (λ u U. false_from_ne_true _ (λ k.
            let a = and_parts (on_wall u v) (has_dart g u && vertex_beyond w u v) k in
            let b = and_parts (has_dart g u) (vertex_beyond w u v) a.1 in
            h.none u (member_in g.vertices u U) a.0 b.0 b.1));
        no_edge = none_passing (λ f. passes v f && edge_beyond w f v) g.edges (λ f F. false_from_ne_true _ (λ k.
            let a = and_parts (passes v f) (edge_beyond w f v) k in
            out f (member_in g.edges f F) a.0 a.1));
      })

  reaches_spans : (e : Edge) → Contains g.edges e → spans g (slab_right g v) e ≡ reaches_right e v
  reaches_spans e E = spans_right g v e plane (on_own_wall g v plane h.is_vertex) E

  told : (o : Option Edge) → IsOutermostOf w g (slab_right g v) o → is_extreme w g v ≡ not (hides w o v)
  told None gap = extreme_by (λ f F p b. false≢true (sym (gap f F) ∙ (reaches_spans f F ∙ to_right f v p)))
  told (Some e) out =
      let E = out.is_edge in
      let re = sym (reaches_spans e E) ∙ out.spanning in
      elim (cases_Bool (edge_beyond w e v)) [
        | inl b ↦ rw b (false_from_ne_true _ (λ x. none_beyond (extreme_out w g v x) e E re b))
        | inr b ↦ rw b (extreme_by (λ f F p c.
            let P = (right_side g v plane (on_own_wall g v plane h.is_vertex)).passes f e F E (to_right f v p) re in
            let s = edge_out w f v c in
            by_lt_z (pos 0) (turned w (gap f e v))
            (λ n. out.none f F (reaches_spans f F ∙ to_right f v p) (outside_from w f e v P n))
            (λ n. false≢true (sym b ∙ edge_in w e v (side_from f e v (run_positive e P.e_long) (run_positive f P.f_long) w n s)))))
      ]

pub extreme_is_told : (w : Which) (g : Skeleton) (v : Point) (o : Option Edge) → IsPlaneSkeleton g → IsOutermostEnd w g v → IsOutermostOf w g (slab_right g v) o → is_extreme w g v ≡ not (hides w o v)
extreme_is_told w g v o plane h out = told w g v plane h o out
