-- The map from points to vertices, after each write of a vertex.
use Rattle.std.proofs.Common.{◌≡◌, ◌≢◌, inl, inr, ℕ, Bool, true, cond, List, [], Option, Some, None, is_some, option_map, refl, sym, ap, ◌∙◌}
use Rattle.std.specs.Map.{lookup}
use Rattle.std.proofs.lemmas.Bool.{cases_eq, cases_Bool}
use Rattle.exact_plane.specs.Point.{Point}
use Rattle.exact_plane.specs.PointOrderLaws.{point_cmp_ties}
use Rattle.plane_graphs.proofs.Lists.{clash}
use Rattle.plane_graphs.proofs.Order.{same_out, same_in}
use Rattle.slab.specs.Slab.{Slab, get, with_value, Updates}
use Rattle.slab.proofs.SlabLemmas.{Updates-with_value}
use Rattle.slab_laws.specs.declared.names.VertexId.{VertexId}
use Rattle.slab_laws.specs.Tables.{row_at}
use Rattle.slab_laws.specs.View.{View, VertexRecord, vertex_id, point_or}
use Rattle.arr_notes.proofs.Reading.{vertex_number}
use Rattle.arr_notes.proofs.Names.{cases_vertex}
use Rattle.chain_laws.specs.Rows.{tabled}
use Rattle.chain_laws.proofs.Tabled.{row-tabled}
use Rattle.dcel_records.specs.declared.rows.StoredDart.{StoredDart}
use Rattle.dcel_records.specs.declared.rows.StoredVertex.{StoredVertex}
use Rattle.dcel_records.specs.declared.vertex_map.VertexMap.{VertexMap}
use Rattle.dcel_records.specs.Spots.{IsVertexAt}
use Rattle.dcel_records.specs.StoredRows.{vertex_of, AreSoundGraphs}
use Rattle.dcel_records.specs.VertexMaps.{equal_points, vertex_mapped, point_at, IsMapOf, IsOneMore}
use Rattle.dcel_records.proofs.Writing.{row_pinned}

abbrev Rows : Type 0
Rows = List (ℕ × VertexRecord)

one_point : (p q : Point) → equal_points p q ≡ true → p ≡ q
one_point p q h = same_out p q (sym (point_cmp_ties p q) ∙ h)

itself : (p q : Point) → p ≡ q → equal_points p q ≡ true
itself p q e = point_cmp_ties p q ∙ same_in p q e

-- no entry
pub none_mapped : (m : VertexMap) → m.vertices.entries ≡ [] → IsMapOf m []
unfolding row_at
none_mapped m e = record { at = λ h p w. (λ z. let a : None ≡ Some w = sym (ap (lookup (equal_points p)) e) ∙ z in absurd (cc), λ z. let b : None ≡ Some p = z in absurd (cc)) }

-- ---- an entry more, and an entry fewer
module _ (m n : VertexMap) (v : VertexId) (p : Point) (whole : m.whole ≡ true) where
  pub entry_more : ((q : Point) → vertex_mapped n q ≡ cond (equal_points p q) (Some v) (vertex_mapped m q)) → vertex_mapped m p ≡ None → (rows more : Rows) → IsMapOf m rows → IsOneMore v p rows more → IsMapOf n more
  entry_more u absent rows more k o = record { at = λ _ q w. (there q w, back q w) }
    where
      there : (q : Point) (w : VertexId) → vertex_mapped n q ≡ Some w → point_at more w.0 ≡ Some q
      there q w e = elim (cases_Bool (equal_points p q)) [
        | inl t ↦
            let z : Some v ≡ Some w = sym (u q ∙ ap (λ b. cond b (Some v) (vertex_mapped m q)) t) ∙ e in
            let is : v ≡ w = cc in
            ap (λ (x : VertexId). point_at more x.0) (sym is) ∙ o.here ∙ ap Some (one_point p q t)
        | inr f ↦
            let had : point_at rows w.0 ≡ Some q = (k.at whole q w).0 (sym (u q ∙ ap (λ b. cond b (Some v) (vertex_mapped m q)) f) ∙ e) in
            o.others w.0 (λ s. let z : None ≡ Some q = sym o.free ∙ ap (point_at rows) (sym s) ∙ had in absurd (cc)) ∙ had
      ]

      back : (q : Point) (w : VertexId) → point_at more w.0 ≡ Some q → vertex_mapped n q ≡ Some w
      back q w e = elim (cases_vertex w v) [
        | inl s ↦
            let z : Some p ≡ Some q = sym o.here ∙ ap (λ (x : VertexId). point_at more x.0) (sym s) ∙ e in
            let is : p ≡ q = cc in
            u q ∙ ap (λ b. cond b (Some v) (vertex_mapped m q)) (itself p q is) ∙ ap Some (sym s)
        | inr ne ↦
            let held : vertex_mapped m q ≡ Some w = (k.at whole q w).1 (sym (o.others w.0 (vertex_number w v ne)) ∙ e) in
            elim (cases_Bool (equal_points p q)) [
              | inl t ↦ let z : None ≡ Some w = sym absent ∙ ap (vertex_mapped m) (one_point p q t) ∙ held in absurd (cc)
              | inr f ↦ u q ∙ ap (λ b. cond b (Some v) (vertex_mapped m q)) f ∙ held
            ]
      ]

  pub entry_less : ((q : Point) → vertex_mapped n q ≡ cond (equal_points p q) None (vertex_mapped m q)) → (rows less : Rows) → IsMapOf m rows → IsOneMore v p less rows → IsMapOf n less
  entry_less u rows less k o = record { at = λ _ q w. (there q w, back q w) }
    where
      there : (q : Point) (w : VertexId) → vertex_mapped n q ≡ Some w → point_at less w.0 ≡ Some q
      there q w e = elim (cases_Bool (equal_points p q)) [
        | inl t ↦ let z : None ≡ Some w = sym (u q ∙ ap (λ b. cond b None (vertex_mapped m q)) t) ∙ e in absurd (cc)
        | inr f ↦
            let had : point_at rows w.0 ≡ Some q = (k.at whole q w).0 (sym (u q ∙ ap (λ b. cond b None (vertex_mapped m q)) f) ∙ e) in
            sym (o.others w.0 (λ s. let z : Some p ≡ Some q = sym o.here ∙ ap (point_at rows) (sym s) ∙ had in let is : p ≡ q = cc in clash (itself p q is) f)) ∙ had
      ]

      back : (q : Point) (w : VertexId) → point_at less w.0 ≡ Some q → vertex_mapped n q ≡ Some w
      back q w e = elim (cases_vertex w v) [
        | inl s ↦ let z : None ≡ Some q = sym o.free ∙ ap (λ (x : VertexId). point_at less x.0) (sym s) ∙ e in absurd (cc)
        | inr ne ↦
            let held : vertex_mapped m q ≡ Some w = (k.at whole q w).1 (o.others w.0 (vertex_number w v ne) ∙ e) in
            elim (cases_Bool (equal_points p q)) [
              | inl t ↦
                  let z : Some v ≡ Some w = sym ((k.at whole p v).1 o.here) ∙ ap (vertex_mapped m) (one_point p q t) ∙ held in
                  let is : v ≡ w = cc in
                  absurd (ne (sym is))
              | inr f ↦ u q ∙ ap (λ b. cond b None (vertex_mapped m q)) f ∙ held
            ]
      ]

-- ---- slabs
-- a slab with a row more
pub one_apart : (s t : Slab StoredVertex) (k : ℕ) (r : StoredVertex) → get s k ≡ None → get t k ≡ Some r → ((n : ℕ) → n ≢ k → get t n ≡ get s n) → IsOneMore (vertex_id k) r.point (tabled vertex_of s) (tabled vertex_of t)
one_apart s t k r free here others = record {
  free = ap (option_map (λ x. x.point)) (row-tabled vertex_of s k ∙ ap (option_map vertex_of) free);
  here = ap (option_map (λ x. x.point)) (row-tabled vertex_of t k ∙ ap (option_map vertex_of) here);
  others = λ n ne. ap (option_map (λ x. x.point)) (row-tabled vertex_of t n ∙ ap (option_map vertex_of) (others n ne) ∙ sym (row-tabled vertex_of s n));
}

-- tables with the same points have one map
map_same : (m : VertexMap) (rows others : Rows) → ((n : ℕ) → point_at others n ≡ point_at rows n) → IsMapOf m rows → IsMapOf m others
map_same m rows others same k = record { at = λ h p w. (λ e. same w.0 ∙ (k.at h p w).0 e, λ e. (k.at h p w).1 (sym (same w.0) ∙ e)) }

pub pin_mapped : (m : VertexMap) (s : Slab StoredVertex) (k : ℕ) (b : Bool) (q : StoredVertex) → get s k ≡ Some q → IsMapOf m (tabled vertex_of s) → IsMapOf m (tabled vertex_of (with_value s k (row_pinned b q)))
pin_mapped m s k b q g = map_same m (tabled vertex_of s) (tabled vertex_of (with_value s k (row_pinned b q))) same
  where
    u : Updates s (with_value s k (row_pinned b q)) k (Some (row_pinned b q))
    u = Updates-with_value s k (row_pinned b q) (ap is_some g)

    point_of : Option StoredVertex → Option Point
    point_of o = option_map (λ x. x.point) (option_map vertex_of o)

    stored : (n : ℕ) → point_of (get (with_value s k (row_pinned b q)) n) ≡ point_of (get s n)
    stored n = elim (cases_eq n k) [
      | inl e ↦ ap (λ j. point_of (get (with_value s k (row_pinned b q)) j)) e ∙ ap point_of u.changed ∙ sym (ap (λ j. point_of (get s j)) e ∙ ap point_of g)
      | inr ne ↦ ap point_of (u.others n ne)
    ]

    same : (n : ℕ) → point_at (tabled vertex_of (with_value s k (row_pinned b q))) n ≡ point_at (tabled vertex_of s) n
    same n = ap (option_map (λ x. x.point)) (row-tabled vertex_of (with_value s k (row_pinned b q)) n) ∙ stored n ∙ sym (ap (option_map (λ x. x.point)) (row-tabled vertex_of s n))

-- another map of the same rows
pub remapped : {m n : VertexMap} (vs : Slab StoredVertex) (ds : Slab StoredDart) (pins : ℕ) → ((rows : Rows) → IsMapOf m rows → IsMapOf n rows) → AreSoundGraphs vs ds m pins → AreSoundGraphs vs ds n pins
remapped vs ds pins keeps k = record { rows = k.rows; mapped = keeps _ k.mapped; counted = k.counted }

-- ---- a look at the map
pub mapped_is : (m : VertexMap) (v : View) (p : Point) → m.whole ≡ true → IsMapOf m v.vertices → IsVertexAt v p (vertex_mapped m p)
mapped_is m v p h k = by (vertex_mapped m p) refl
  where
    has : (o : Option VertexRecord) (q : Point) → option_map (λ (r : VertexRecord). r.point) o ≡ Some q → is_some o ≡ true
    has None q e = absurd (cc)
    has (Some r) q e = refl

    is_at : (o : Option VertexRecord) (q : Point) → option_map (λ (r : VertexRecord). r.point) o ≡ Some q → point_or o ≡ q
    is_at None q e = absurd (cc)
    is_at (Some r) q e = cc

    at_row : (o : Option VertexRecord) (q : Point) → is_some o ≡ true → point_or o ≡ q → option_map (λ (r : VertexRecord). r.point) o ≡ Some q
    at_row None q s e = absurd (cc)
    at_row (Some r) q s e = ap Some e

    by : (o : Option VertexId) → vertex_mapped m p ≡ o → IsVertexAt v p o
    by None e = λ w s i. let z : None ≡ Some w = sym e ∙ (k.at h p w).1 (at_row (row_at v.vertices w.0) p s i) in absurd (cc)
    by (Some w) e = let a = (k.at h p w).0 e in (has (row_at v.vertices w.0) p a, is_at (row_at v.vertices w.0) p a)
