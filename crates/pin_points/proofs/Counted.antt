-- A view's pinned vertices and the pins of the graph that it draws are as many, since vertices have different points.
use Rattle.std.proofs.Common.{◌≡◌, ℕ, ◌<◌, Bool, true, false, cond, arith, refl, sym, ap, ◌∙◌, subst, inl, inr, List, [], ◌∷◌, length, map}
use Rattle.std.proofs.lemmas.List.{length-map}
use Rattle.std.specs.List.{filter}
use Rattle.exact_plane.specs.Point.{Point}
use Rattle.exact_plane.specs.PointOrder.{point_cmp}
use Rattle.exact_plane.specs.PointOrderLaws.{point_cmp_total, same_point as point_cmp_exact}
use Rattle.plane_graphs.specs.Ascending.{Member}
use Rattle.plane_graphs.proofs.Ascending.{All-member}
use Rattle.plane_graphs.proofs.Lists.{in_map, of_map, of_filter}
use Rattle.slab_laws.specs.Sound.{IsGraphSound}
use Rattle.slab_laws.specs.Tables.{names, NamesAscend}
use Rattle.slab_laws.specs.View.{View, VertexRecord, vertex_id, HasVertex, point_or, point_in}
use Rattle.sound_views.proofs.FacesAscend.{AreDifferent, none_dropped}
use Rattle.sound_views.proofs.NameTables.{name_has, row_found}
use Rattle.arr_notes.specs.Curves.{Curves}
use Rattle.arr_notes.specs.RecordGraph.{drawn_graph}

-- ---- rows of vertices at different points
abbrev Row : Type 0
Row = ℕ × VertexRecord

abbrev pins_in : List Row → List Point
pins_in rs = map (λ r. r.1.point) (filter (λ r. r.1.pinned) rs)

never_below : (n : ℕ) → n < n → ⊥
never_below n h = omega arith

differ : (rs : List Row) → NamesAscend (names rs) → ((r s : Row) → Member r rs → Member s rs → r.1.point ≡ s.1.point → r.0 ≡ s.0) → AreDifferent (pins_in rs)
differ [] a f = tt
differ (r ∷ rs) a f = step r.1.pinned (differ rs a.1 (λ s t m n e. f s t (inr m) (inr n) e))
  where
    step : (b : Bool) → AreDifferent (pins_in rs) → AreDifferent (map (λ r. r.1.point) (cond b (r ∷ filter (λ r. r.1.pinned) rs) (filter (λ r. r.1.pinned) rs)))
    step false d = d
    step true d = (
      λ m.
          let s = of_map (λ (r : Row). r.1.point) r.1.point (filter (λ r. r.1.pinned) rs) m in
          let n = (of_filter (λ (r : Row). r.1.pinned) s.0 rs s.1).0 in
          never_below r.0 (subst (λ k. r.0 < k) (sym (f r s.0 (inl refl) (inr n) s.2)) (All-member (λ k. r.0 < k) s.0.0 (names rs) a.0 (in_map (λ t. t.0) s.0 rs n))),
      d,
    )

row_has : (v : View) (r : Row) → Member r v.vertices → HasVertex v (vertex_id r.0)
row_has v r m = name_has v.vertices r.0 (in_map (λ t. t.0) r v.vertices m)

row_point : (v : View) (r : Row) → NamesAscend (names v.vertices) → Member r v.vertices → point_in v (vertex_id r.0) ≡ r.1.point
row_point v r a m = ap point_or (row_found v.vertices r a m)

pub pins_counted : (v : View) (h : Curves) → IsGraphSound v → length (drawn_graph v h).pins ≡ length (filter (λ r. r.1.pinned) v.vertices)
unfolding drawn_graph
pins_counted v h s =
    none_dropped point_cmp point_cmp_total (pins_in v.vertices) (λ x y m n. point_cmp_exact x y)
    (differ v.vertices s.named.vertices (λ r t m n e.
    ap (λ w. w.0) (s.drawn.points (vertex_id r.0) (vertex_id t.0) (row_has v r m) (row_has v t n) (row_point v r s.named.vertices m ∙ e ∙ sym (row_point v t s.named.vertices n)))))
    ∙ length-map (filter (λ r. r.1.pinned) v.vertices) (λ (r : Row). r.1.point)
