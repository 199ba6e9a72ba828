-- What the rows of a subdivision tell of what its darts cross.
use Rattle.std.proofs.Common.{◌≡◌, ℕ, ◌<◌, ◌≤◌, cond, arith, refl, sym, ap, ◌∙◌, subst, inl, inr, List, [], ◌∷◌, length, map, get_or}
use Rattle.std.specs.Prelude.{◌%◌, ◌==◌, Option, None, Vec}
use Rattle.std.specs.Global.{Global}
use Rattle.std.specs.List.{Contains, filter, sum_by}
use Rattle.std.proofs.lemmas.Bool.{cases_lt}
use Rattle.std.proofs.lemmas.List.{length-map, get_or-map, ext_get_or}
use Rattle.std.proofs.lemmas.Option.{slice_get-get_or, slice_get_within}
use Rattle.exact_plane.specs.Point.{Point}
use Rattle.plane_graphs.specs.Ascending.{IsAscending, Member}
use Rattle.plane_graphs.specs.Graph.{Edge, edges}
use Rattle.plane_graphs.specs.Plane.{IsPlane}
use Rattle.plane_graphs.proofs.Ascending.{to_member}
use Rattle.plane_graphs.proofs.Lists.{filter_of_map, map_map, map_same, of_filter}
use Rattle.plane_graphs.proofs.Sorting.{rises}
use Rattle.slab_laws.specs.declared.names.DartId.{DartId}
use Rattle.slab_laws.specs.declared.rows.ListedDart.{ListedDart}
use Rattle.slab_laws.specs.Darts.{Dart, source, target}
use Rattle.slab_laws.specs.FacesSound.{IsSound}
use Rattle.slab_laws.specs.Rotation.{twin}
use Rattle.slab_laws.specs.Rows.{dart_list, dart_at, dart_row, dart_rows, dart_place, edge_place, vertex_place, no_dart}
use Rattle.slab_laws.specs.Skeleton.{Skeleton, same_point, IsPlaneSkeleton}
use Rattle.slab_laws.specs.Sound.{skeleton_of, dart_in}
use Rattle.slab_laws.specs.Subdivision.{first_cell}
use Rattle.slab_laws.specs.Faces.{cells}
use Rattle.slab_laws.specs.View.{dart_id, face_id, HasDart, HasFace, cycle_in, face_in, twin_in}
use Rattle.slab_laws.specs.Weights.{at_end, IsEvenAtVertices}
use Rattle.slab_faces.proofs.ListedCells.{first_listed}
use Rattle.slab_faces.proofs.Member.{member_in, in_member}
use Rattle.slab_faces.proofs.Places.{points_exact}
use Rattle.slab_faces.proofs.Searches.{unfound}
use Rattle.dart_orbits.proofs.Listed.{row_at as row_of, rows_length, rows_ascend, dart_there, dart_within, dart_at_place, edge_within, source_in, of_list, place_of_dart}
use Rattle.dart_orbits.proofs.RowOrder.{row_cmp}
use Rattle.dart_orbits.proofs.Placed.{at_place, place_within}
use Rattle.subdivision_rows.specs.Listed.{Drawing, skeleton_in, subdivision_in, view_of, faces_of}
use Rattle.subdivision_rows.specs.RowsInMemory.{AreSoundRows, drawing_of}
use Rattle.subdivision_rows.specs.declared.lists.RowLists.{RowLists}
use Rattle.subdivision_rows.proofs.ListedFaces.{has_face, face_within}
use Rattle.subdivision_rows.proofs.ListedRecords.{IsDart, has_dart, dart_of, dart_is, plane}
use Rattle.subdivision_rows.proofs.ListsDrawn.{view_draws}
use Rattle.subdivision_rows.proofs.SourcePlaces.{sources_rise}
use Rattle.set_laws.specs.declared.op.Op.{Op}
use Rattle.set_laws.specs.EvenOdd.{turns_at, border}
use Rattle.set_laws.specs.EvenOddLaws.{IsOfFaces}
use Rattle.set_laws.proofs.Insides.{of_faces}
use Rattle.set_laws.proofs.OpRegions.{border_is_listed}
use Rattle.polygon_sets.specs.declared.crossings.Inside.{Inside}
use Rattle.polygon_sets.specs.declared.crossings.Crossing.{Crossing}
use Rattle.polygon_sets.specs.Borders.{no_point, point_at, ends_at, is_turn}
use Rattle.polygon_sets.specs.CrossedDarts.{left_of_name, crossing_of, AreCrossed}
use Rattle.polygon_sets.specs.Crossings.{no_crossing, crossing_at, IsWithin, AreWithin, AreBetween}
use Rattle.polygon_sets.specs.OddVertices.{no_row, row_at}
use Rattle.polygon_sets.specs.Regions.{dart_ends}
use Rattle.polygon_sets.specs.Spread.{AreSpread}
use Rattle.polygon_sets.specs.Weighted.{weight_by, is_odd_vertex, odd_vertex}
use Rattle.polygon_sets.proofs.Turning.{IsCrossingOf, turn_is}
use Rattle.slab_faces.proofs.OddSums.{rest_is}

-- ---- even round each vertex
pub even_by : (g : Skeleton) (m : Edge → ℕ) → odd_vertex g m ≡ None → IsEvenAtVertices g m
unfolding odd_vertex
even_by g m h = record {
  even_at = λ v V. let a = unfound (is_odd_vertex g m) g.vertices h v (in_member g.vertices v V) in rest_is (sum_by (at_end m v) g.edges) ∙ ap (λ b. cond {A = ℕ} b 1 0) a;
}

-- ---- the lists
module _ (a : RowLists) (d : Drawing) (k : AreSoundRows a) (is : drawing_of a ≡ d) where
  pub rows_told : (rows : List ListedDart) → rows ≡ a.darts.items → rows ≡ dart_rows (skeleton_in d)
  rows_told rows e = e ∙ k.darts ∙ ap (λ d. dart_rows (skeleton_in d)) is

  pub points_told : (points : List Point) → points ≡ a.points.items → points ≡ (skeleton_in d).vertices
  points_told points e = e ∙ ap (λ (d : Drawing). d.graph.points) is

  pub faces_told : a.faces ≡ length (subdivision_in d).faces
  faces_told = k.faces ∙ ap (λ d. length (subdivision_in d).faces) is

-- ---- the rows
module _ (d : Drawing) (pl : IsPlane d.graph) (s : IsSound (view_of d) (faces_of d)) (rows : List ListedDart) (told : rows ≡ dart_rows (skeleton_in d)) where
  abbrev g : Skeleton
  g = skeleton_in d

  pub flat : IsPlaneSkeleton (skeleton_in d)
  flat = plane d pl

  pub long : length rows ≡ length (dart_list (skeleton_in d))
  long = ap length told ∙ rows_length g

  pub row_is : (k : ℕ) → k < length rows → row_at rows k ≡ dart_row (skeleton_in d) (dart_at (skeleton_in d) k)
  row_is k l = let n = long in ap (λ rs. get_or rs k no_row) told ∙ row_of g flat k no_row (omega arith)

  -- sources don't fall
  pub rise : (i k : ℕ) → i ≤ k → k < length rows → (row_at rows i).source ≤ (row_at rows k).source
  rise i k a l =
      let up : IsAscending row_cmp rows = subst (IsAscending row_cmp) (sym told) (rows_ascend g flat pl.points_ascend) in
      elim (cases_lt i k) [
        | inl b ↦ sources_rise (row_at rows i) (row_at rows k) (rises row_cmp rows up i k no_row b l)
        | inr b ↦ (let e : i ≡ k = omega arith in let x = ap (λ j. (row_at rows j).source) e in omega arith)
      ]

  named : (k : ℕ) → k < length rows → IsDart d (dart_id k) (dart_at (skeleton_in d) k)
  named k l = let n = long in slice_get-get_or (dart_list g) k no_dart (omega arith)

  pub has_name : (k : ℕ) → k < length rows → HasDart (view_of d) (dart_id k)
  has_name k l = has_dart d (dart_id k) (dart_at g k) (named k l)

  pub drawn : (k : ℕ) → k < length rows → dart_in (view_of d) (dart_id k) ≡ dart_at (skeleton_in d) k
  drawn k l = dart_is d pl (dart_id k) (dart_at g k) (named k l)

  there : (k : ℕ) → k < length rows → Contains (skeleton_in d).edges (dart_at (skeleton_in d) k).edge
  there k l = let n = long in dart_there g flat k (omega arith)

  pub edge_in : (k : ℕ) (counts : List ℕ) → length counts ≡ length (edges d.graph) → k < length rows → (row_at rows k).edge < length counts
  edge_in k counts c l =
      let e = ap (λ (r : ListedDart). r.edge) (row_is k l) in
      let w = edge_within g flat (dart_at g k).edge (there k l) in
      omega arith

  pub name_within : (x : DartId) → HasDart (view_of d) x → x.0 < length rows
  name_within x H = let i = dart_of d x H in let n = long in let w = slice_get_within (dart_list g) x.0 i.0 i.1 in omega arith

  pub faces_some : 0 < length (subdivision_in d).faces
  faces_some = let v = skeleton_of (view_of d) in let a = s.faced.1.all first_cell (member_in (cells v) first_cell (first_listed v)) in let w = face_within d a.0 a.1 in omega arith

  pub face_zero : HasFace (faces_of d) (face_id 0)
  face_zero = has_face d (face_id 0) faces_some

  left_within : (x : DartId) → HasDart (view_of d) x → left_of_name d x < length (subdivision_in d).faces
  left_within x H = face_within d (face_in (faces_of d) (cycle_in (faces_of d) x)) (s.complete.face_has (cycle_in (faces_of d) x) (s.complete.cycle_has x H))

  -- ---- what is crossed
  module _ (red blue : List ℕ) (cs : Vec Crossing Global) (are : AreCrossed d red blue rows cs) where
    pub crossed_within : AreWithin (length (subdivision_in d).faces) cs.items
    crossed_within k l =
        let n = are.counted in
        let e = are.each k (omega arith) in
        let H = has_name k (omega arith) in
        subst (IsWithin (length (subdivision_in d).faces)) (sym e) (record { left = left_within (dart_id k) H; right = left_within (twin_in (view_of d) (dart_id k)) (s.graph.twinned.has (dart_id k) H) })

    at_vertex : (p : Point) → Contains (skeleton_in d).vertices p → vertex_place (skeleton_in d) p < length (skeleton_in d).vertices
    at_vertex p P = place_within same_point points_exact g.vertices p (to_member g.vertices p P)

    vertex_is : (p : Point) → Contains (skeleton_in d).vertices p → point_at (skeleton_in d).vertices (vertex_place (skeleton_in d) p) ≡ p
    vertex_is p P = at_place same_point points_exact g.vertices p no_point (to_member g.vertices p P)

    source_there : (k : ℕ) → k < length rows → Contains (skeleton_in d).vertices (source (dart_at (skeleton_in d) k))
    source_there k l = source_in g flat (dart_at g k) (there k l)

    target_there : (k : ℕ) → k < length rows → Contains (skeleton_in d).vertices (target (dart_at (skeleton_in d) k))
    target_there k l = source_in g flat (twin (dart_at g k)) (there k l)

    crossing_is : (k : ℕ) → k < length rows → crossing_at cs.items k ≡ crossing_of d red blue (dart_id k) (dart_row (skeleton_in d) (dart_at (skeleton_in d) k))
    crossing_is k l = are.each k l ∙ ap (crossing_of d red blue (dart_id k)) (row_is k l)

    pub crossed_between : AreBetween (length (skeleton_in d).vertices) cs.items
    crossed_between k l =
        let n = are.counted in
        let K : k < length rows = omega arith in
        let e = crossing_is k K in
        let a = at_vertex (source (dart_at g k)) (source_there k K) in
        let b = at_vertex (target (dart_at g k)) (target_there k K) in
        (subst (λ c. c.source < length g.vertices) (sym e) a, subst (λ c. c.target < length g.vertices) (sym e) b)

    -- the ends of the dart
    ends_are : (k : ℕ) → k < length rows → ends_at (skeleton_in d).vertices (crossing_at cs.items k) ≡ dart_ends (dart_at (skeleton_in d) k)
    ends_are k l =
        let x = dart_at g k in
        ap (ends_at g.vertices) (crossing_is k l)
        ∙ (λ i. (vertex_is (source x) (source_there k l) i, vertex_is (target x) (target_there k l) i))

    abbrev m : List ℕ → Edge → ℕ
    m counts = weight_by (skeleton_in d) counts

    crosses : (k : ℕ) → k < length cs.items → IsCrossingOf (view_of d) (faces_of d) (m red) (m blue) (dart_id k) (crossing_at cs.items k)
    crosses k l =
        let n = are.counted in
        let K : k < length rows = omega arith in
        let e = crossing_is k K in
        let x : edge_place g (dart_at g k).edge ≡ edge_place g (dart_in (view_of d) (dart_id k)).edge = ap (λ (h : Dart). edge_place g h.edge) (sym (drawn k K)) in
        record {
          has = has_name k K;
          left = ap (λ c. c.left) e;
          right = ap (λ c. c.right) e;
          red_odd = ap (λ c. c.red) e ∙ ap (λ n. get_or red n 0 % 2 == 1) x;
          blue_odd = ap (λ c. c.blue) e ∙ ap (λ n. get_or blue n 0 % 2 == 1) x;
        }

    module _ (faces : ℕ) (sets : List (Option Inside)) (spread : AreSpread cs.items faces sets) (red_even : odd_vertex (skeleton_in d) (m red) ≡ None) (blue_even : odd_vertex (skeleton_in d) (m blue) ≡ None) (op : Op) where
      turn_at : (k : ℕ) → k < length rows → is_turn op sets (crossing_at cs.items k) ≡ turns_at op (skeleton_in d) (m red) (m blue) (dart_at (skeleton_in d) k)
      turn_at k l =
          let n = are.counted in
          let draws : skeleton_of (view_of d) ≡ g = view_draws d pl in
          let of : (counts : List ℕ) → odd_vertex g (m counts) ≡ None → IsOfFaces (skeleton_of (view_of d)) (m counts) = λ counts h. subst (λ G. IsOfFaces G (m counts)) (sym draws) (of_faces g (m counts) flat (even_by g (m counts) h)) in
          let t = turn_is (view_of d) (faces_of d) s.graph s.complete s.faced.0 s.faced.1 (m red) (m blue) (of red red_even) (of blue blue_even) face_zero cs.items crosses (λ x H. let w = name_within x H in omega arith) faces sets spread op k (omega arith) in
          t ∙ ap (turns_at op (skeleton_of (view_of d)) (m red) (m blue)) (drawn k l) ∙ ap (λ G. turns_at op G (m red) (m blue) (dart_at g k)) draws

      -- ---- the border
      listed : cs.items ≡ map (λ h. crossing_at cs.items (dart_place (skeleton_in d) h)) (dart_list (skeleton_in d))
      listed =
          let n = are.counted in
          let o = long in
          let q = length-map (dart_list g) (λ h. crossing_at cs.items (dart_place g h)) in
          ext_get_or no_crossing cs.items (map (λ h. crossing_at cs.items (dart_place g h)) (dart_list g)) (omega arith) (λ k l.
          let K : k < length (dart_list g) = omega arith in
          sym (get_or-map (λ h. crossing_at cs.items (dart_place g h)) (dart_list g) k no_dart no_crossing K ∙ ap (crossing_at cs.items) (place_of_dart g flat k K)))

      place_is : (h : Dart) → Member h (dart_list (skeleton_in d)) → (k : ℕ) × (k < length rows) × (dart_place (skeleton_in d) h ≡ k) × (dart_at (skeleton_in d) k ≡ h)
      place_is h M =
          let E = of_list g flat h M in
          let n = long in
          let w = dart_within g flat h E in
          (dart_place g h, omega arith, refl, dart_at_place g flat h E)

      same_filter : (hs : List Dart) → ((h : Dart) → Member h hs → Member h (dart_list (skeleton_in d))) → filter (λ h. is_turn op sets (crossing_at cs.items (dart_place (skeleton_in d) h))) hs ≡ filter (turns_at op (skeleton_in d) (m red) (m blue)) hs
      same_filter [] f = refl
      same_filter (h ∷ hs) f =
          let p = place_is h (f h (inl refl)) in
          let e : is_turn op sets (crossing_at cs.items (dart_place g h)) ≡ turns_at op g (m red) (m blue) h = turn_at (dart_place g h) (let l = p.1 in let q = p.2 in omega arith) ∙ ap (turns_at op g (m red) (m blue)) (ap (dart_at g) p.2 ∙ p.3) in
          let r = same_filter hs (λ x n. f x (inr n)) in
          (λ i. cond (e i) (h ∷ r i) (r i))

      pub border_told : map (ends_at (skeleton_in d).vertices) (filter (is_turn op sets) cs.items) ≡ map dart_ends (border op (skeleton_in d) (m red) (m blue))
      unfolding dart_list
      border_told =
          let c : Dart → Crossing = λ h. crossing_at cs.items (dart_place g h) in
          let kept : List Dart = filter (λ h. is_turn op sets (c h)) (dart_list g) in
          ap (λ xs. map (ends_at g.vertices) (filter (is_turn op sets) xs)) listed
          ∙ ap (map (ends_at g.vertices)) (filter_of_map c (is_turn op sets) (dart_list g))
          ∙ map_map c (ends_at g.vertices) kept
          ∙ map_same (λ h. ends_at g.vertices (c h)) dart_ends kept (λ h M.
          let p = place_is h (of_filter (λ h. is_turn op sets (c h)) h (dart_list g) M).0 in
          ends_are (dart_place g h) (let l = p.1 in let q = p.2 in omega arith) ∙ ap dart_ends (ap (dart_at g) p.2 ∙ p.3))
          ∙ ap (map dart_ends) (same_filter (dart_list g) (λ h M. M))
          ∙ ap (map dart_ends) (sym (border_is_listed op g (m red) (m blue) flat))
