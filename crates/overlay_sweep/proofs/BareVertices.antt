-- Vertices without darts: no row has such a vertex for its source, and its face is that of what is directly below.
use Rattle.std.proofs.Common.{◌≡◌, ℕ, ◌<◌, Bool, true, false, cond, ◌&&◌, ◌||◌, arith, sym, ap, ◌∙◌, subst, inl, inr, List, length, get_or, Contains}
use Rattle.std.specs.Prelude.{Option, Some, None, ◌==◌}
use Rattle.std.specs.List.Sorted.{IsPartitionedBy, IsPartitionPoint}
use Rattle.std.specs.Option.{option_map}
use Rattle.std.proofs.lemmas.Bool.{false≢true, cases_lt, and_parts, and_from, eqb-true, eq-eqb, ltb-true, ltb-false, lt-ltb}
use lib.Dec.{ltb}
use Rattle.integers.proofs.Decisions.{or_out}
use Rattle.exact_plane.specs.Point.{Point}
use Rattle.exact_plane.specs.PointOrder.{point_cmp}
use Rattle.plane_graphs.specs.Ascending.{IsAscending}
use Rattle.plane_graphs.specs.Graph.{Edge}
use Rattle.plane_graphs.proofs.Ascending.{to_member, from_member}
use Rattle.plane_graphs.proofs.Lists.{any_in, any_out, both_ways, or_left, or_right}
use Rattle.plane_graphs.proofs.Sorting.{member_at, rises}
use Rattle.slab_laws.specs.declared.rows.ListedDart.{ListedDart}
use Rattle.slab_laws.specs.Darts.{Dart, source, start, ahead, back}
use Rattle.slab_laws.specs.Faces.{face_labels, face_of}
use Rattle.slab_laws.specs.Rows.{dart_list, dart_at, dart_place, dart_rows, vertex_place}
use Rattle.slab_laws.specs.Skeleton.{Skeleton, IsPlaneSkeleton, same_point}
use Rattle.slab_laws.specs.Slabs.{left_cell}
use Rattle.slab_laws.specs.Subdivision.{subdivision, rank, has_dart}
use Rattle.slab_faces.proofs.FacesLemmas.{one_label}
use Rattle.slab_faces.proofs.Places.{points_exact}
use Rattle.dart_orbits.proofs.Listed.{dart_there, dart_within, dart_at_place, source_of_row, rows_ascend, rows_length, source_in}
use Rattle.dart_orbits.proofs.Placed.{at_place}
use Rattle.dart_orbits.proofs.RowOrder.{row_cmp}
use Rattle.edge_predicates.specs.Highest.{IsHighestBelow, highest}
use Rattle.face_roots.specs.CycleLinks.{IsBare}
use Rattle.face_roots.proofs.FaceLinks.{links_tell_faces}
use Rattle.face_roots.proofs.OuterRanks.{first_rank}
use Rattle.sweep_graphs.specs.declared.edges.EdgeEnds.{EdgeEnds}
use Rattle.sweep_graphs.specs.Edges.{edge_between}
use Rattle.sweep_graphs.specs.Traces.{point_at, no_point}
use Rattle.dart_orbits.specs.Ways.{no_row, row_in}
use Rattle.subdivision_rows.proofs.SourcePlaces.{sources_rise, sources_parted}
use Rattle.overlay_sweep.specs.CycleFaces.{rank_round}
use Rattle.overlay_sweep.specs.EdgesUnder.{AreUnder}
use Rattle.overlay_sweep.specs.LayerLabels.{rank_beside}
use Rattle.overlay_sweep.proofs.LabelRounds.{own_place}

-- what is highest below a point is one of the edges
pub highest_there : (g : Skeleton) (e : Edge) {p : Point} → IsHighestBelow (Contains g.edges) p (Some e) → Contains g.edges e
highest_there g e (highest x E s t f) = E

module _ (g : Skeleton) (p : Point) where
  starts : (e : Edge) (f : Bool) → start e f ≡ p → same_point e.low p || same_point e.high p ≡ true
  starts e true q = or_left (same_point e.low p) (same_point e.high p) (subst (λ r. same_point e.low r ≡ true) q (points_exact.itself e.low))
  starts e false q = or_right (same_point e.low p) (same_point e.high p) (subst (λ r. same_point e.high r ≡ true) q (points_exact.itself e.high))

  pub dart_has : (d : Dart) → Contains g.edges d.edge → source d ≡ p → has_dart g p ≡ true
  unfolding has_dart
  dart_has d D q = any_in (λ e. same_point e.low p || same_point e.high p) d.edge g.edges (to_member g.edges d.edge D) (starts d.edge d.forward q)

  pub has_darts : has_dart g p ≡ true → (d : Dart) × Contains g.edges d.edge × (source d ≡ p)
  unfolding has_dart
  has_darts h =
      let a = any_out (λ e. same_point e.low p || same_point e.high p) g.edges h in
      let m = from_member g.edges a.0 a.1 in
      elim (or_out (same_point a.0.low p) (same_point a.0.high p) a.2) [
        | inl l ↦ (ahead a.0, m, points_exact.path a.0.low p l)
        | inr r ↦ (back a.0, m, points_exact.path a.0.high p r)
      ]

  pub is_bare : Contains g.vertices p → has_dart g p ≡ false → IsBare g p
  is_bare V h = record {
    start = record { vertex = V; none_ends = λ e E q. false≢true (sym h ∙ dart_has (back e) E q) };
    none_starts = λ e E q. false≢true (sym h ∙ dart_has (ahead e) E q);
  }

module _ (g : Skeleton) (plane : IsPlaneSkeleton g) (ascend : IsAscending point_cmp g.vertices) (rows : List ListedDart) (told : rows ≡ dart_rows g) where
  up : IsAscending row_cmp rows
  up = subst (IsAscending row_cmp) (sym told) (rows_ascend g plane ascend)

  pub parted_sources : (v : ℕ) → IsPartitionedBy (λ r. ltb r.source v) rows
  parted_sources = sources_parted rows up

  counted : length rows ≡ length (dart_list g)
  counted = ap length told ∙ rows_length g

  module _ (v : ℕ) (inside : v < length g.vertices) (n : ℕ) (cut : IsPartitionPoint (λ r. ltb r.source v ≡ true) (λ r. ltb r.source v ≡ false) rows n) where
    -- a row with the source v is that of a dart out of its point
    goes_out : n < length rows → (row_in rows n).source ≡ v → has_dart g (point_at g.vertices v) ≡ true
    goes_out l e =
        let q = counted in
        let L : n < length (dart_list g) = omega arith in
        let D = dart_there g plane n L in
        let s = at_place same_point points_exact g.vertices (source (dart_at g n)) no_point (to_member g.vertices (source (dart_at g n)) (source_in g plane (dart_at g n) D)) in
        dart_has g (point_at g.vertices v) (dart_at g n) D (sym s ∙ ap (point_at g.vertices) (sym (source_of_row g plane rows told n L) ∙ e))

    found : has_dart g (point_at g.vertices v) ≡ true → (n < length rows) × ((row_in rows n).source ≡ v)
    found h =
        let d = has_darts g (point_at g.vertices v) h in
        let k = dart_place g d.0 in
        let K : dart_place g d.0 < length (dart_list g) = dart_within g plane d.0 d.1 in
        let q = counted in
        let s : (row_in rows (dart_place g d.0)).source ≡ v = source_of_row g plane rows told (dart_place g d.0) K ∙ ap (λ x. vertex_place g (source x)) (dart_at_place g plane d.0 d.1) ∙ ap (vertex_place g) d.2 ∙ own_place g plane ascend v inside in
        elim (cases_lt (dart_place g d.0) n) [
          | inl a ↦ absurd (let t = ltb-true (row_in rows (dart_place g d.0)).source v (cut.0 (dart_place g d.0) no_row (omega arith) a) in omega arith)
          | inr a ↦
              let N : n < length rows = omega arith in
              let f = cut.1 n no_row (omega arith) N in
              elim (cases_lt n (dart_place g d.0)) [
                | inl b ↦
                    let r = sources_rise (row_in rows n) (row_in rows (dart_place g d.0)) (rises row_cmp rows up n (dart_place g d.0) no_row b (omega arith)) in
                    let w = ltb-false (row_in rows n).source v f in
                    (N, omega arith)
                | inr b ↦ (let e : n ≡ dart_place g d.0 = omega arith in (N, subst (λ j. (row_in rows j).source ≡ v) (sym e) s))
              ]
        ]

    pub dart_told : (b : Bool) → b ≡ (ltb n (length rows) && ((row_in rows n).source == v)) → b ≡ has_dart g (point_at g.vertices v)
    dart_told b e = e ∙ both_ways (ltb n (length rows) && ((row_in rows n).source == v)) (has_dart g (point_at g.vertices v))
        (λ t. let a = and_parts (ltb n (length rows)) ((row_in rows n).source == v) t in goes_out (ltb-true n (length rows) a.0) (eqb-true (row_in rows n).source v a.1))
        (λ t. let a = found t in and_from (ltb n (length rows)) ((row_in rows n).source == v) (lt-ltb n (length rows) a.0) (eq-eqb (row_in rows n).source v a.1))

module _ (g : Skeleton) (plane : IsPlaneSkeleton g) (es : List (Option EdgeEnds)) (u : AreUnder g es) (v : ℕ) (inside : v < length g.vertices) where
  is_under : (x : Option EdgeEnds) → x ≡ get_or es v None → IsHighestBelow (Contains g.edges) (point_at g.vertices v) (option_map (edge_between g.vertices) x)
  is_under x e = subst (λ y. IsHighestBelow (Contains g.edges) (point_at g.vertices v) (option_map (edge_between g.vertices) y)) (sym e) (u.highest v inside)

  pub under_there : v < length es
  under_there = let c = u.counted in omega arith

  pub under_in : (e : EdgeEnds) (x : Option EdgeEnds) → x ≡ get_or es v None → x ≡ Some e → Contains g.edges (edge_between g.vertices e)
  under_in e x q s = highest_there g (edge_between g.vertices e) (is_under (Some e) (sym s ∙ q))

  here : Contains g.vertices (point_at g.vertices v)
  here = from_member g.vertices (point_at g.vertices v) (member_at g.vertices v no_point inside)

  rank_bare : has_dart g (point_at g.vertices v) ≡ false → rank_round g (point_at g.vertices v) ≡ rank (subdivision g) (face_of (face_labels g) (left_cell g (point_at g.vertices v)))
  rank_bare h = ap (λ b. cond b 0 (rank (subdivision g) (face_of (face_labels g) (left_cell g (point_at g.vertices v))))) h

  pub over_edge : (e : EdgeEnds) (x : Option EdgeEnds) → x ≡ get_or es v None → x ≡ Some e → has_dart g (point_at g.vertices v) ≡ false → rank_beside g (ahead (edge_between g.vertices e)) ≡ rank_round g (point_at g.vertices v)
  over_edge e x q s h = sym (rank_bare h ∙ ap (rank (subdivision g)) (one_label g _ _ plane (links_tell_faces.bare g (point_at g.vertices v) (Some (edge_between g.vertices e)) plane (is_bare g _ here h) (is_under (Some e) (sym s ∙ q)))))

  pub over_nothing : (x : Option EdgeEnds) → x ≡ get_or es v None → x ≡ None → has_dart g (point_at g.vertices v) ≡ false → 0 ≡ rank_round g (point_at g.vertices v)
  over_nothing x q s h = sym (rank_bare h ∙ ap (rank (subdivision g)) (one_label g _ _ plane (links_tell_faces.bare g (point_at g.vertices v) None plane (is_bare g _ here h) (is_under None (sym s ∙ q)))) ∙ first_rank g)
