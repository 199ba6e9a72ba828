-- Looking for a vertex by its point, row by row.
use Rattle.std.proofs.Common.{◌≡◌, ◌≢◌, ℕ, Bool, true, false, ◌&&◌, List, [], ◌∷◌, Option, Some, None, IsSome, option_map, is_some, arith, refl, sym, ap, subst, ◌∙◌, inl, inr, Contains}
use Rattle.std.proofs.lemmas.Bool.{false≢true}
use Rattle.std.specs.Ordering.{int_eq}
use Rattle.exact_plane.specs.Point.{Point}
use Rattle.exact_plane.specs.PointOrderLaws.{point_cmp_ties}
use Rattle.plane_graphs.proofs.Lists.{clash}
use Rattle.plane_graphs.proofs.Order.{same_out, same_in}
use Rattle.slab.specs.Slab.{Slab, get, entries}
use Rattle.slab.proofs.SlabLemmas.{Contains-cons, Contains-cons_cases, Contains-entries}
use Rattle.slab_laws.specs.declared.names.VertexId.{VertexId}
use Rattle.slab_laws.specs.Tables.{row_at}
use Rattle.slab_laws.specs.View.{View, HasVertex, vertex_id, point_in, point_or}
use Rattle.dcel_records.specs.declared.rows.StoredDart.{StoredDart}
use Rattle.dcel_records.specs.declared.rows.StoredVertex.{StoredVertex}
use Rattle.dcel_records.specs.RecordsView.{GraphView}
use Rattle.dcel_records.specs.StoredRows.{graph_view, vertex_of}
use Rattle.dcel_records.proofs.Holding.{vertex_at, vertex_key}

-- the rows that are left are the graph's, and each vertex with the point has one among them
pub record AreLeft (v : View) (p : Point) (rows : List (ℕ × StoredVertex)) : Type 0 where
  pub stored : (n : ℕ) (r : StoredVertex) → Contains rows (n, r) → row_at v.vertices n ≡ Some (vertex_of r)
  pub left : (w : VertexId) → HasVertex v w → point_in v w ≡ p → (r : StoredVertex) × Contains rows (w.0, r)

-- before the first row is read
pub all_left : (vs : Slab StoredVertex) (ds : Slab StoredDart) (h : GraphView) → graph_view vs ds ≡ h → (p : Point) (rows : List (ℕ × StoredVertex)) → rows ≡ entries vs → AreLeft h.graph p rows
all_left vs ds h seen p rows e = subst (AreLeft h.graph p) (sym e) (record {
  stored = λ n r m. vertex_at vs ds h seen (vertex_id n) ∙ ap (option_map vertex_of) ((Contains-entries vs n r).0 m);
  left = λ w has i. by w (get vs w.0) refl has;
})
  where
    by : (w : VertexId) (o : Option StoredVertex) → get vs w.0 ≡ o → HasVertex h.graph w → (r : StoredVertex) × Contains (entries vs) (w.0, r)
    by w None g has = absurd (false≢true (subst IsSome g (vertex_key vs ds h seen w has)))
    by w (Some r) g has = (r, (Contains-entries vs w.0 r).1 g)

module _ (v : View) (p : Point) where
  module _ (rows rest : List (ℕ × StoredVertex)) (n : ℕ) (r : StoredVertex) (at : rows ≡ (n, r) ∷ rest) (a : AreLeft v p rows) where
    first_left : AreLeft v p ((n, r) ∷ rest)
    first_left = subst (AreLeft v p) at a

    row_is : row_at v.vertices n ≡ Some (vertex_of r)
    row_is = first_left.stored n r (0, omega arith, refl)

    module _ (same : Bool) (is : same ≡ (int_eq r.point.x p.x && (int_eq r.point.y p.y && int_eq r.point.w p.w))) where
      -- the first of them has another point
      pub one_passed : same ≡ false → AreLeft v p rest
      one_passed h = record {
        stored = λ k q m. first_left.stored k q (Contains-cons (n, r) (k, q) rest m);
        left = λ w has i. let m = first_left.left w has i in elim (Contains-cons_cases (n, r) (w.0, m.0) rest m.1) [
          | inl e ↦ clash (same_in r.point p (sym (ap point_or row_is) ∙ ap (λ (k : ℕ × StoredVertex). point_in v (vertex_id k.0)) e ∙ i)) (sym (is ∙ point_cmp_ties r.point p) ∙ h)
          | inr k ↦ (m.0, k)
        ];
      }

      -- it has this one
      pub found_at : same ≡ true → HasVertex v (vertex_id n) × (point_in v (vertex_id n) ≡ p)
      found_at t = (ap is_some row_is, ap point_or row_is ∙ same_out r.point p (sym (is ∙ point_cmp_ties r.point p) ∙ t))

  -- none is left
  pub none_at : (rows : List (ℕ × StoredVertex)) → rows ≡ [] → AreLeft v p rows → (w : VertexId) → HasVertex v w → point_in v w ≢ p
  none_at rows e a w has i = let m = subst (AreLeft v p) e a in let k = m.left w has i in absurd (omega (arith, k.1.1))
