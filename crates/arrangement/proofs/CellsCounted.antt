-- A sound view names each vertex, dart, cycle, face and isolated vertex of the graph that it draws once, so they are as many; and each face but the unbounded one has one outer cycle.
use Rattle.std.proofs.Common.{◌≡◌, ◌⊎◌, ℕ, ◌+◌, ◌-◌, ◌/◌, ◌<◌, ◌≤◌, suc, Bool, true, arith, refl, sym, ap, ◌∙◌, subst, inl, inr, List, [], ◌∷◌, map, length}
use Rattle.std.specs.Prelude.{filter, not}
use Rattle.std.specs.List.{Contains, count_by, range_with_len}
use Rattle.std.proofs.lemmas.List.{length-map, length-append}
use Rattle.std.proofs.lemmas.List.Filters.{length-filter_both}
use Rattle.std.proofs.lemmas.List.Sums.{length-filter}
use Rattle.exact_plane.specs.Point.{Point}
use Rattle.exact_plane.specs.PointOrder.{point_cmp}
use Rattle.exact_plane.specs.PointOrderLaws.{point_cmp_total}
use Rattle.plane_graphs.specs.Ascending.{Member, IsAscending}
use Rattle.plane_graphs.proofs.Ascending.{to_member, from_member, All-member, IsAscending-ascending}
use Rattle.plane_graphs.proofs.Lists.{in_left, in_map, of_map, in_filter, of_filter, in_either, filter_of_map, IsAscending-filter, not_out}
use Rattle.slab_laws.specs.declared.names.CycleId.{CycleId}
use Rattle.slab_laws.specs.declared.names.DartId.{DartId}
use Rattle.slab_laws.specs.declared.names.FaceId.{FaceId}
use Rattle.slab_laws.specs.declared.names.VertexId.{VertexId}
use Rattle.slab_laws.specs.declared.slab_cell.SlabCell.{SlabCell}
use Rattle.slab_laws.specs.Cycles.{dart_labels, odd, left_of_dart}
use Rattle.slab_laws.specs.Darts.{Dart, darts, ahead, back}
use Rattle.slab_laws.specs.Faces.{face_labels, face_of, same_cell, cells, slab_cells}
use Rattle.slab_laws.specs.FacesSound.{lead_in, face_left_of, IsSound, IsFaced, IsOuterOf}
use Rattle.slab_laws.specs.Rotation.{dart_cmp, same_dart}
use Rattle.slab_laws.specs.Slabs.{width}
use Rattle.slab_laws.specs.Rows.{lead_list, least_dart_of}
use Rattle.slab_laws.specs.Skeleton.{Skeleton, IsPlaneSkeleton}
use Rattle.slab_laws.specs.Sound.{IsGraphSound, skeleton_of, dart_in}
use Rattle.slab_laws.specs.Subdivision.{Cycle, subdivision, has_dart, first_cell}
use Rattle.slab_laws.specs.Tables.{names, NamesAscend}
use Rattle.slab_laws.specs.View.{View, Faces, HasVertex, HasDart, HasCycle, HasFace, HasBareFace, vertex_id, dart_id, cycle_id, face_id, point_in, cycle_in, face_in}
use Rattle.slab_faces.proofs.CyclesLemmas.{is_set}
use Rattle.slab_faces.proofs.DartOrder.{dart_cmp_total}
use Rattle.slab_faces.proofs.NextLemmas.{darts_exact, dart_out}
use Rattle.slab_faces.proofs.ListedCells.{dart_cell}
use Rattle.slab_faces.proofs.Member.{Member as In, member_in}
use Rattle.sound_views.proofs.ListedRows.{slice_get_member}
use Rattle.sound_views.proofs.FacesAscend.{AreDifferent, different}
use Rattle.sound_views.proofs.FirstDarts.{of_distinct}
use Rattle.sound_views.proofs.IsolatedVertices.{bare_is_bare}
use Rattle.sound_views.proofs.ListedDarts.{leads_ascend, lead_listed, listed_lead}
use Rattle.sound_views.proofs.ListedPlaces.{to_in, from_in}
use Rattle.sound_views.proofs.NamedDarts.{names_are_darts}
use Rattle.sound_views.proofs.NamesOrdered.{points_in_order, vertex_ordered, ordered_vertex}
use Rattle.sound_views.proofs.NameTables.{has_name, name_has}
use Rattle.sound_views.proofs.RankedFaces.{cycle_of, cycles_are, outer_is, faces_are, faces_apart, first_face, outer_faces, all_faces, of_outer, dart_face}
use Rattle.slab_laws.specs.Text.{skeleton}
use Rattle.plane_graphs.specs.Graph.{graph}
use Rattle.sound_views.proofs.GraphDrawn.{graphs_are_drawn}
use Rattle.face_steps.proofs.CyclesApart.{cycle_by_number}
use Rattle.curve_history.specs.Past.{Past, curves_on}
use Rattle.told_steps.specs.RecordLayers.{IsLayer, layer_of}
use Rattle.arr_text.proofs.Assembly.{graph_is}
use Rattle.arrangement.proofs.OneToOne.{ascending_differ, names_differ, apart_differ, as_many}

-- ---- names that ascend: the first one, and the rest
abbrev rest : List ℕ → List ℕ
rest [] = []
rest (n ∷ ns) = ns

at_least : (ns : List ℕ) (n : ℕ) → Member n ns → 1 ≤ length ns
at_least [] n m = absurd m
at_least (k ∷ ns) n m = omega arith

one_and_rest : (ns : List ℕ) → 1 ≤ length ns → length ns ≡ suc (length (rest ns))
one_and_rest [] h = absurd (omega arith)
one_and_rest (n ∷ ns) h = refl

rest_differ : (ns : List ℕ) → AreDifferent ns → AreDifferent (rest ns)
rest_differ [] d = tt
rest_differ (n ∷ ns) d = d.1

of_rest : (ns : List ℕ) (n : ℕ) → Member n (rest ns) → Member n ns
of_rest [] n m = absurd m
of_rest (k ∷ ns) n m = inr m

-- one of the rest comes after another name
after : (ns : List ℕ) → NamesAscend ns → (n : ℕ) → Member n (rest ns) → (k : ℕ) × Member k ns × (k < n)
after [] a n m = absurd m
after (k ∷ ns) a n m = (k, inl refl, All-member (λ i. k < i) n ns a.0 m)

first_or_rest : (ns : List ℕ) → NamesAscend ns → (n : ℕ) → Member n ns → ((k : ℕ) → Member k ns → k < n → ⊥) ⊎ Member n (rest ns)
first_or_rest [] a n m = absurd m
first_or_rest (i ∷ ns) a n (inr m) = inr m
first_or_rest (i ∷ ns) a n (inl e) = inl least
  where
    least : (k : ℕ) → Member k (i ∷ ns) → k < n → ⊥
    least k (inl f) lt = absurd (omega arith)
    least k (inr m) lt = let l = All-member (λ j. i < j) k ns a.0 m in absurd (omega arith)

later : (ns : List ℕ) → NamesAscend ns → (n : ℕ) → Member n ns → (((k : ℕ) → Member k ns → k < n → ⊥) → ⊥) → Member n (rest ns)
later ns a n m h = elim (first_or_rest ns a n m) [ inl least ↦ absurd (h least) | inr r ↦ r ]

-- ---- vertices and darts
module _ (v : View) (s : IsGraphSound v) where
  abbrev g : Skeleton
  g = skeleton_of v

  -- the name is that of the vertex at the point
  abbrev Stands : ℕ → Point → Type 0
  Stands n p = HasVertex v (vertex_id n) × (point_in v (vertex_id n) ≡ p)

  vertex_known : (w : VertexId) → HasVertex v w → Member (point_in v w) g.vertices
  vertex_known w has = subst (Member (point_in v w)) (points_in_order v s) (in_map (point_in v) w _ (vertex_ordered v s w has))

  known_vertex : (p : Point) → Member p g.vertices → (w : VertexId) × HasVertex v w × (point_in v w ≡ p)
  known_vertex p m = let r = of_map (point_in v) p _ (subst (Member p) (sym (points_in_order v s)) m) in (r.0, ordered_vertex v s r.0 r.1, sym r.2)

  one_point : (n k : ℕ) (p : Point) → Stands n p → Stands k p → n ≡ k
  one_point n k p a b = ap (λ u. u.0) (s.drawn.points (vertex_id n) (vertex_id k) a.0 b.0 (a.1 ∙ sym b.1))

  vertices_ascend : IsAscending point_cmp g.vertices
  vertices_ascend = IsAscending-ascending point_cmp point_cmp_total _

  pub vertices_counted : length v.vertices ≡ length g.vertices
  vertices_counted =
      sym (length-map v.vertices (λ r. r.0))
      ∙ as_many Stands (names v.vertices) g.vertices
      (record {
        differ = names_differ (names v.vertices) s.named.vertices;
        partner = λ n m. let has = name_has v.vertices n m in (point_in v (vertex_id n), vertex_known (vertex_id n) has, (has, refl));
        one = one_point;
      })
      (record {
        differ = ascending_differ point_cmp point_cmp_total g.vertices vertices_ascend;
        partner = λ p m. let w = known_vertex p m in (w.0.0, has_name v.vertices w.0.0 w.1, (w.1, w.2));
        one = λ p q n a b. sym a.1 ∙ b.1;
      })

  -- the name is that of the dart
  abbrev IsDart : ℕ → Dart → Type 0
  IsDart n h = HasDart v (dart_id n) × (dart_in v (dart_id n) ≡ h)

  darts_differ : AreDifferent (darts g)
  darts_differ = different same_dart darts_exact (darts g) (λ h m. let k = (is_set g s.plane).once h (from_member (darts g) h m) in omega arith)

  darts_counted : length v.darts ≡ length (darts g)
  darts_counted =
      sym (length-map v.darts (λ r. r.0))
      ∙ as_many IsDart (names v.darts) (darts g)
      (record {
        differ = names_differ (names v.darts) s.named.darts;
        partner = λ n m. let has = name_has v.darts n m in (dart_in v (dart_id n), to_member (darts g) _ (names_are_darts.known v (dart_id n) s has), (has, refl));
        one = λ n k h a b. ap (λ d. d.0) (s.turned.differ (dart_id n) (dart_id k) a.0 b.0 (a.1 ∙ sym b.1));
      })
      (record {
        differ = darts_differ;
        partner = λ h m. let d = names_are_darts.there v h s (from_member (darts g) h m) in (d.0.0, has_name v.darts d.0.0 d.1, (d.1, d.2));
        one = λ h k n a b. sym a.1 ∙ b.1;
      })

  -- two darts an edge
  pub edges_counted : length v.darts ≡ length g.edges + length g.edges
  edges_counted =
      let a = length-append (map ahead g.edges) (map back g.edges) in
      let b = length-map g.edges ahead in
      let c = length-map g.edges back in
      let d = darts_counted in
      omega arith

-- ---- vertices without darts, cycles and faces
module _ (v : View) (f : Faces) (s : IsSound v f) where
  abbrev plane : IsPlaneSkeleton (skeleton_of v)
  plane = s.graph.plane

  -- the name is that of the isolated vertex at the point
  abbrev StandsBare : ℕ → Point → Type 0
  StandsBare n p = HasBareFace f (vertex_id n) × (point_in v (vertex_id n) ≡ p)

  abbrev bare_points : List Point
  bare_points = filter (λ p. not (has_dart (skeleton_of v) p)) (skeleton_of v).vertices

  bare_known : (w : VertexId) → HasBareFace f w → Member (point_in v w) bare_points
  bare_known w has =
      let vertex = s.complete.bare_vertex w has in
      in_filter (λ p. not (has_dart (skeleton_of v) p)) (point_in v w) (skeleton_of v).vertices (vertex_known v s.graph w vertex)
      (ap not ((bare_is_bare v w s.graph vertex).1 ((s.complete.bare w vertex).0 has)))

  known_bare : (p : Point) → Member p bare_points → (w : VertexId) × HasBareFace f w × (point_in v w ≡ p)
  known_bare p m =
      let b = of_filter (λ q. not (has_dart (skeleton_of v) q)) p (skeleton_of v).vertices m in
      let w = known_vertex v s.graph p b.0 in
      let none = not_out (has_dart (skeleton_of v) (point_in v w.0)) (subst (λ q. not (has_dart (skeleton_of v) q) ≡ true) (sym w.2) b.1) in
      (w.0, (s.complete.bare w.0 w.1).1 ((bare_is_bare v w.0 s.graph w.1).0 none), w.2)

  bare_are : length (subdivision (skeleton_of v)).bare ≡ length bare_points
  unfolding subdivision
  bare_are = length-map bare_points _

  pub bare_counted : length f.bare ≡ length (subdivision (skeleton_of v)).bare
  bare_counted =
      sym (length-map f.bare (λ r. r.0))
      ∙ as_many StandsBare (names f.bare) bare_points
      (record {
        differ = names_differ (names f.bare) s.complete.bare_ascend;
        partner = λ n m. let has = name_has f.bare n m in (point_in v (vertex_id n), bare_known (vertex_id n) has, (has, refl));
        one = λ n k p a b. one_point v s.graph n k p (s.complete.bare_vertex (vertex_id n) a.0, a.1) (s.complete.bare_vertex (vertex_id k) b.0, b.1);
      })
      (record {
        differ = ascending_differ point_cmp point_cmp_total bare_points (IsAscending-filter point_cmp (λ p. not (has_dart (skeleton_of v) p)) (skeleton_of v).vertices (vertices_ascend v s.graph));
        partner = λ p m. let w = known_bare p m in (w.0.0, has_name f.bare w.0.0 w.1, (w.1, w.2));
        one = λ p q n a b. sym a.1 ∙ b.1;
      })
      ∙ sym bare_are

  -- ---- cycles, by their least darts
  -- the dart is the least of its cycle
  record IsLead (e : DartId) (l : Dart) : Type 0 where
    has : HasDart v e
    dart : dart_in v e ≡ l
    least : lead_in v e ≡ l

  lead_known : (d : DartId) → HasDart v d → Member (lead_in v d) (lead_list (skeleton_of v))
  lead_known d has = to_in (lead_list (skeleton_of v)) (lead_in v d) (lead_listed (skeleton_of v) plane (dart_in v d) (from_in (darts (skeleton_of v)) _ (to_member (darts (skeleton_of v)) _ (names_are_darts.known v d s.graph has))))

  lead_named : (l : Dart) → Member l (lead_list (skeleton_of v)) → (e : DartId) × IsLead e l
  lead_named l m =
      let k = listed_lead (skeleton_of v) plane l (from_in (lead_list (skeleton_of v)) l m) in
      let e = names_are_darts.there v l s.graph (from_member (darts (skeleton_of v)) l (to_in (darts (skeleton_of v)) l k.0)) in
      (e.0, record { has = e.1; dart = e.2; least = ap (least_dart_of (skeleton_of v)) e.2 ∙ k.1 })

  one_lead : (e d : DartId) (l k : Dart) → IsLead e l → IsLead d k → cycle_in f e ≡ cycle_in f d → l ≡ k
  one_lead e d l k a b same = sym a.least ∙ (s.cycled.orbits e d a.has b.has).0 same ∙ b.least

  -- the least dart of a cycle that has a dart
  lead_of_cycle : (c : CycleId) → HasCycle f c → (e : DartId) × (l : Dart) × Member l (lead_list (skeleton_of v)) × IsLead e l × (cycle_in f e ≡ c)
  lead_of_cycle c has =
      let d = s.complete.dart_has c has in
      let l = lead_in v d.0 in
      let m = lead_known d.0 d.1 in
      let e = lead_named l m in
      (e.0, l, m, e.1, (s.cycled.orbits e.0 d.0 e.1.has d.1).1 e.1.least ∙ d.2)

  abbrev Leads : ℕ → Dart → Type 0
  Leads n l = (e : DartId) × IsLead e l × ((cycle_in f e).0 ≡ n)

  pub cycles_counted : length f.cycles ≡ length (lead_list (skeleton_of v))
  cycles_counted =
      sym (length-map f.cycles (λ r. r.0))
      ∙ as_many Leads (names f.cycles) (lead_list (skeleton_of v))
      (record {
        differ = names_differ (names f.cycles) s.complete.cycles_ascend;
        partner = λ n m. let e = lead_of_cycle (cycle_id n) (name_has f.cycles n m) in (e.1, e.2, (e.0, e.3, ap (λ c. c.0) e.4));
        one = λ n k l a b. sym a.2 ∙ ap (λ c. c.0) ((s.cycled.orbits a.0 b.0 a.1.has b.1.has).1 (a.1.least ∙ sym b.1.least)) ∙ b.2;
      })
      (record {
        differ = ascending_differ dart_cmp dart_cmp_total (lead_list (skeleton_of v)) (leads_ascend (skeleton_of v) plane);
        partner = λ l m. let e = lead_named l m in ((cycle_in f e.0).0, has_name f.cycles (cycle_in f e.0).0 (s.complete.cycle_has e.0 e.1.has), (e.0, e.1, refl));
        one = λ l k n a b. one_lead a.0 b.0 l k a.1 b.1 (cycle_by_number (cycle_in f a.0) (cycle_in f b.0) (a.2 ∙ sym b.2));
      })

  -- ---- outer cycles
  abbrev is_outer_lead : Dart → Bool
  is_outer_lead l = (cycle_of (skeleton_of v) l).outer

  abbrev outer_leads : List Dart
  outer_leads = filter is_outer_lead (lead_list (skeleton_of v))

  outer_told : (e : DartId) (l : Dart) → IsLead e l → is_outer_lead l ≡ odd (skeleton_of v) (dart_labels (darts (skeleton_of v))) (lead_in v e) (left_of_dart (skeleton_of v) (lead_in v e))
  outer_told e l a = subst (λ h. is_outer_lead l ≡ odd (skeleton_of v) (dart_labels (darts (skeleton_of v))) h (left_of_dart (skeleton_of v) h)) (sym a.least) (outer_is (skeleton_of v) l)

  -- the face is a bounded one, and the least dart is of its outer cycle
  record Bounds (n : ℕ) (l : Dart) : Type 0 where
    less : FaceId
    less_has : HasFace f less
    has : HasFace f (face_id n)
    after : less.0 < n
    name : DartId
    lead : IsLead name l
    bounds : IsOuterOf f (face_id n) (cycle_in f name)

  same_bound : (n k : ℕ) (l : Dart) → Bounds n l → Bounds k l → n ≡ k
  same_bound n k l a b =
      let d : a.name ≡ b.name = s.graph.turned.differ a.name b.name a.lead.has b.lead.has (a.lead.dart ∙ sym b.lead.dart) in
      ap (λ x. x.0) (sym a.bounds.1 ∙ ap (λ x. face_in f (cycle_in f x)) d ∙ b.bounds.1)

  module _ (cell : FaceId → SlabCell) (by : IsFaced v f cell) where
    one_bound : (l k : Dart) (n : ℕ) → Bounds n l → Bounds n k → l ≡ k
    one_bound l k n a b =
        let w = by.bounded (face_id n) a.less a.has a.less_has a.after in
        one_lead a.name b.name l k a.lead b.lead (w.2 (cycle_in f a.name) a.bounds ∙ sym (w.2 (cycle_in f b.name) b.bounds))

    first_there : Contains (cells (skeleton_of v)) first_cell
    unfolding cells slab_cells
    first_there = from_member (cells (skeleton_of v)) first_cell (in_left first_cell (slab_cells (skeleton_of v) 0) _ (in_map (λ (j : ℕ). record { slab = 0; place = j }) 0 (range_with_len 0 (suc (width (skeleton_of v) 0))) (inl refl)))

    some_face : 1 ≤ length f.faces
    some_face = let a = by.all first_cell first_there in at_least f.faces a.0.0 (to_member f.faces a.0.0 a.1)

    -- of its names all but the first are those of bounded faces
    bounded_counted : length f.faces ≡ suc (length outer_leads)
    bounded_counted =
        one_and_rest f.faces some_face
        ∙ ap suc (as_many Bounds (rest f.faces) outer_leads
        (record {
          differ = rest_differ f.faces (names_differ f.faces s.complete.faces_ascend);
          partner = λ n m.
              let less = after f.faces s.complete.faces_ascend n m in
              let has = from_member f.faces n (of_rest f.faces n m) in
              let less_has = from_member f.faces less.0 less.1 in
              let w = by.bounded (face_id n) (face_id less.0) has less_has less.2 in
              let e = lead_of_cycle w.0 w.1.0 in
              let outer = subst (λ c. IsOuterOf f (face_id n) c) (sym e.4) w.1 in (
                e.1,
                in_filter is_outer_lead e.1 (lead_list (skeleton_of v)) e.2 (outer_told e.0 e.1 e.3 ∙ (s.cycled.kind e.0 e.3.has).0 outer.2),
                record {
                  less = face_id less.0;
                  less_has = less_has;
                  has = has;
                  after = less.2;
                  name = e.0;
                  lead = e.3;
                  bounds = outer;
                },
              );
          one = same_bound;
        })
        (record {
          differ = ascending_differ dart_cmp dart_cmp_total outer_leads (IsAscending-filter dart_cmp is_outer_lead (lead_list (skeleton_of v)) (leads_ascend (skeleton_of v) plane));
          partner = λ l m.
              let o = of_filter is_outer_lead l (lead_list (skeleton_of v)) m in
              let e = lead_named l o.0 in
              let c = cycle_in f e.0 in
              let has_cycle = s.complete.cycle_has e.0 e.1.has in
              let a = face_in f c in
              let has = s.complete.face_has c has_cycle in
              let outer : IsOuterOf f a c = (has_cycle, refl, (s.cycled.kind e.0 e.1.has).1 (sym (outer_told e.0 l e.1) ∙ o.1)) in
              let there = to_member f.faces a.0 has in
              let m = later f.faces s.complete.faces_ascend a.0 there (λ none. (by.unbounded a has (λ b h lt. none b.0 (to_member f.faces b.0 h) lt)).1 c outer) in
              let less = after f.faces s.complete.faces_ascend a.0 m in (
                a.0,
                m,
                record {
                  less = face_id less.0;
                  less_has = from_member f.faces less.0 less.1;
                  has = has;
                  after = less.2;
                  name = e.0;
                  lead = e.1;
                  bounds = outer;
                },
              );
          one = one_bound;
        }))

    -- ---- faces, by their cells
    abbrev Names : ℕ → SlabCell → Type 0
    Names n c = HasFace f (face_id n) × (cell (face_id n) ≡ c)

    abbrev fs : List SlabCell
    fs = (subdivision (skeleton_of v)).faces

    bounded_listed : (a b : FaceId) → HasFace f a → HasFace f b → b.0 < a.0 → In fs (cell a)
    bounded_listed a b has less_has lt =
        let w = by.bounded a b has less_has lt in
        let d = s.complete.dart_has w.0 w.1.0 in
        let same : cell a ≡ face_left_of v d.0 = ap cell (sym w.1.1 ∙ ap (face_in f) (sym d.2)) ∙ by.darts d.0 d.1 in
        subst (In fs) (sym same) (dart_face (skeleton_of v) plane (dart_in v d.0) (from_in (darts (skeleton_of v)) _ (to_member (darts (skeleton_of v)) _ (names_are_darts.known v d.0 s.graph d.1))))

    face_known : (n : ℕ) → Member n f.faces → Member (cell (face_id n)) fs
    face_known n m =
        let has = from_member f.faces n m in
        to_in fs (cell (face_id n)) (elim (first_or_rest f.faces s.complete.faces_ascend n m) [
          | inl least ↦ subst (In fs) (sym (by.unbounded (face_id n) has (λ b h lt. least b.0 (to_member f.faces b.0 h) lt)).0) (slice_get_member fs 0 _ (first_face (skeleton_of v)))
          | inr m ↦ let less = after f.faces s.complete.faces_ascend n m in bounded_listed (face_id n) (face_id less.0) has (from_member f.faces less.0 less.1) less.2
        ])

    of_cell : (c : SlabCell) → Member c fs → (d : SlabCell) × Contains (cells (skeleton_of v)) d × (face_of (face_labels (skeleton_of v)) d ≡ c)
    of_cell c m = at (of_distinct same_cell c (all_faces (skeleton_of v)) (subst (Member c) (faces_are (skeleton_of v)) m))
      where
        at : Member c (all_faces (skeleton_of v)) → (d : SlabCell) × Contains (cells (skeleton_of v)) d × (face_of (face_labels (skeleton_of v)) d ≡ c)
        at (inl e) = (first_cell, first_there, sym e)
        at (inr m) = elim (in_either c (outer_faces (skeleton_of v)) (map (face_of (face_labels (skeleton_of v))) (cells (skeleton_of v))) m) [
          | inl o ↦ let l = of_outer (skeleton_of v) c (from_in (outer_faces (skeleton_of v)) c o) in
              (left_of_dart (skeleton_of v) l.0, member_in (cells (skeleton_of v)) _ (dart_cell (skeleton_of v) plane l.0.edge l.0.forward (dart_out (skeleton_of v) l.0 (listed_lead (skeleton_of v) plane l.0 l.1).0)), l.3)
          | inr k ↦ let r = of_map (face_of (face_labels (skeleton_of v))) c (cells (skeleton_of v)) k in (r.0, from_member (cells (skeleton_of v)) r.0 r.1, sym r.2)
        ]

    faces_named_once : length f.faces ≡ length fs
    faces_named_once =
        as_many Names f.faces fs
        (record {
          differ = names_differ f.faces s.complete.faces_ascend;
          partner = λ n m. (cell (face_id n), face_known n m, (from_member f.faces n m, refl));
          one = λ n k c a b. ap (λ x. x.0) (by.differ (face_id n) (face_id k) a.0 b.0 (a.1 ∙ sym b.1));
        })
        (record {
          differ = apart_differ fs (faces_apart (skeleton_of v));
          partner = λ c m. let d = of_cell c m in let a = by.all d.0 d.1 in (a.0.0, to_member f.faces a.0.0 a.1, (a.1, a.2 ∙ d.2));
          one = λ c d n a b. sym a.1 ∙ b.1;
        })

  pub faces_counted : length f.faces ≡ length (subdivision (skeleton_of v)).faces
  faces_counted = faces_named_once s.faced.0 s.faced.1

  pub some_face_there : 1 ≤ length f.faces
  some_face_there = some_face s.faced.0 s.faced.1

  -- each face but the unbounded one has one outer cycle, so the others are as many as cycles less bounded faces
  pub inner_counted : count_by (λ k. not k.outer) (subdivision (skeleton_of v)).cycles + length f.faces ≡ suc (length f.cycles)
  inner_counted =
      let cs = (subdivision (skeleton_of v)).cycles in
      let a = length-filter_both (λ (k : Cycle). k.outer) (λ (k : Cycle). not k.outer) (λ k. refl) cs in
      let b = length-filter (λ (k : Cycle). not k.outer) cs in
      let all = ap (λ (ks : List Cycle). length ks) (cycles_are (skeleton_of v)) in
      let c = length-map (lead_list (skeleton_of v)) (cycle_of (skeleton_of v)) in
      let d = cycles_counted in
      let e = ap (λ (ks : List Cycle). length (filter (λ k. k.outer) ks)) (cycles_are (skeleton_of v)) in
      let h = ap (λ (ks : List Cycle). length ks) (filter_of_map (cycle_of (skeleton_of v)) (λ (k : Cycle). k.outer) (lead_list (skeleton_of v))) in
      let i = length-map outer_leads (cycle_of (skeleton_of v)) in
      let j = bounded_counted s.faced.0 s.faced.1 in
      omega arith

-- ---- the numbers of a layer's subdivision, by those of its records
module _ (v : View) (f : Faces) (h : Past) (l : IsLayer v h) (s : IsSound v f) where
  abbrev present_skeleton : Skeleton
  present_skeleton = skeleton (graph (layer_of v h).present)

  drawn : skeleton_of v ≡ present_skeleton
  drawn = sym (ap skeleton (sym l.stands) ∙ graphs_are_drawn v (curves_on h) l.sound l.curves)

  pub layer_vertices : length v.vertices ≡ length (subdivision present_skeleton).graph.vertices
  layer_vertices = vertices_counted v s.graph ∙ ap (λ (k : Skeleton). length k.vertices) (drawn ∙ sym (graph_is present_skeleton))

  pub layer_edges : (n : ℕ) → n ≡ length v.darts → n / 2 ≡ length (subdivision present_skeleton).graph.edges
  layer_edges n e =
      let a = edges_counted v s.graph in
      let b = ap (λ (k : Skeleton). length k.edges) (drawn ∙ sym (graph_is present_skeleton)) in
      omega arith

  pub layer_faces : length f.faces ≡ length (subdivision present_skeleton).faces
  layer_faces = faces_counted v f s ∙ ap (λ (k : Skeleton). length (subdivision k).faces) drawn

  pub layer_bare : length f.bare ≡ length (subdivision present_skeleton).bare
  layer_bare = bare_counted v f s ∙ ap (λ (k : Skeleton). length (subdivision k).bare) drawn

  pub layer_inner : (cycles faces : ℕ) → cycles ≡ length f.cycles → faces ≡ length f.faces → cycles - (faces - 1) ≡ count_by (λ k. not k.outer) (subdivision present_skeleton).cycles
  layer_inner cycles faces c d =
      let a = inner_counted v f s in
      let b = some_face_there v f s in
      let k = ap (λ (k : Skeleton). count_by (λ (c : Cycle). not c.outer) (subdivision k).cycles) drawn in
      omega arith

  -- no more faces are bounded than there are cycles, and one isn't
  pub layer_few : (cycles faces : ℕ) → cycles ≡ length f.cycles → faces ≡ length f.faces → (1 ≤ faces) × (faces - 1 ≤ cycles)
  layer_few cycles faces c d =
      let a = inner_counted v f s in
      let b = some_face_there v f s in
      (omega arith, omega arith)
