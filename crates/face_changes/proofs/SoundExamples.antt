-- The empty plane with its one face and a triangle with its two faces, as whole sound views. By computing, for what the model makes of them.
use Rattle.std.proofs.Common.{◌≡◌, ◌↔◌, ℕ, ◌<◌, true, false, cond, arith, refl, sym, ap, ◌∙◌, subst, inl, inr, [], ◌∷◌, pos}
use Rattle.std.specs.Prelude.{IsSome, ◌==◌, ◌<ℤ◌}
use Rattle.std.specs.List.{Contains, count_by, position_or_len}
use Rattle.std.proofs.lemmas.Bool.{false≢true, true≢false}
use Rattle.std.proofs.lemmas.Int.{ints}
use Rattle.exact_plane.specs.Point.{Point}
use Rattle.exact_plane.specs.Line.{side_of}
use Rattle.plane_graphs.specs.Graph.{Edge}
use Rattle.slab_laws.specs.declared.names.CycleId.{CycleId}
use Rattle.slab_laws.specs.declared.names.CycleKind.TheVariants.{Outer, Inner}
use Rattle.slab_laws.specs.declared.names.DartId.{DartId}
use Rattle.slab_laws.specs.declared.names.FaceId.{FaceId}
use Rattle.slab_laws.specs.declared.names.VertexId.{VertexId}
use Rattle.slab_laws.specs.declared.slab_cell.SlabCell.{SlabCell}
use Rattle.slab_laws.specs.Darts.{Dart}
use Rattle.slab_laws.specs.Faces.{face_labels, face_of, same_cell, cells}
use Rattle.slab_laws.specs.FacesSound.{lead_in, face_left_of, IsComplete, IsCycled, IsSound}
use Rattle.slab_laws.specs.Rotation.{same_dart}
use Rattle.slab_laws.specs.Skeleton.{Skeleton, HasWeight, precedes, left_of, lower_than, on_wall, same_point, same_edge, inside, crosses, IsPlaneSkeleton}
use Rattle.plane_graphs.specs.Line.{IsProper, IsProperLine}
use Rattle.slab_laws.specs.Sound.{skeleton_of, dart_in, IsDrawn, IsTurned, IsGraphSound}
use Rattle.slab_laws.specs.Subdivision.{first_cell}
use Rattle.slab_laws.specs.Tables.{row_at}
use Rattle.slab_laws.specs.Triangle.{three_four, triangle_faces}
use Rattle.slab_laws.specs.View.{HasVertex, HasDart, HasCycle, HasFace, IsOutOf, vertex_id, dart_id, cycle_id, face_id, point_in, source_in, target_in, line_in, cycle_in, kind_in, face_in}
use Rattle.slab_laws.proofs.TriangleLemmas.{six_cases, dart_cases, vertex_cases, cycle_cases}
use Rattle.slab_laws.proofs.TriangleSound.{is_twinned, is_linked}
use Rattle.slab_laws.proofs.TriangleExample.{opened, drawn, Turns, turns, is_odd}
use Rattle.slab_faces.proofs.ListedCells.{first_listed}
use Rattle.slab_faces.proofs.Searches.{range_ascend}
use Rattle.slab_faces.proofs.Member.{member_in, in_member}
use Rattle.face_changes.specs.FacesByPairs.{AreFacesByCells}
use Rattle.face_changes.specs.SoundExamples.{empty_view, one_face, ViewsThatAreSound}
use Rattle.face_changes.proofs.FacesByPairs.{outer_cycles_follow}

-- ---- the empty plane
no_row : (X : Type 0) (n : ℕ) → IsSome (row_at {X = X} [] n) → ⊥
unfolding row_at
no_row X n h = false≢true h

-- its one face is the one named 0
only : (a : FaceId) → HasFace one_face a → a ≡ face_id 0
only a h = elim (in_member (0 ∷ []) a.0 h) [ inl e ↦ (λ i. record { 0 = sym e i }) | inr k ↦ absurd k ]

has_only : HasFace one_face (face_id 0)
has_only = member_in (0 ∷ []) 0 (inl refl)

-- its one cell is the first
one_cell : (c : SlabCell) → Contains (cells (skeleton_of empty_view)) c → c ≡ first_cell
unfolding opened
one_cell c h = elim (in_member (first_cell ∷ []) c h) [ inl e ↦ sym e | inr k ↦ absurd k ]

empty_plane : IsPlaneSkeleton (skeleton_of empty_view)
unfolding opened
empty_plane = record {
  proper = λ v V. absurd (in_member {X = Point} [] v V);
  lower_in = λ e E. absurd (in_member {X = Edge} [] e E);
  upper_in = λ e E. absurd (in_member {X = Edge} [] e E);
  lower_once = λ e E. absurd (in_member {X = Edge} [] e E);
  upper_once = λ e E. absurd (in_member {X = Edge} [] e E);
  proper_edge = λ e E. absurd (in_member {X = Edge} [] e E);
  forward = λ e E. absurd (in_member {X = Edge} [] e E);
  upright = λ e E. absurd (in_member {X = Edge} [] e E);
  edge_once = λ e E. absurd (in_member {X = Edge} [] e E);
  distinct = λ v w V. absurd (in_member {X = Point} [] v V);
  clear = λ e v E. absurd (in_member {X = Edge} [] e E);
  uncrossed = λ e f E. absurd (in_member {X = Edge} [] e E);
}

empty_graph : IsGraphSound empty_view
empty_graph = record {
  named = record { vertices = tt; darts = tt };
  twinned = record { has = λ d h. absurd (no_row _ d.0 h); back = λ d h. absurd (no_row _ d.0 h); other = λ d h. absurd (no_row _ d.0 h); line = λ d h. absurd (no_row _ d.0 h) };
  linked = record { source = λ d h. absurd (no_row _ d.0 h); has = λ d h. absurd (no_row _ d.0 h); joins = λ d h. absurd (no_row _ d.0 h); once = λ d e h. absurd (no_row _ d.0 h) };
  drawn = record { proper = λ w h. absurd (no_row _ w.0 h); points = λ u w h. absurd (no_row _ u.0 h); line = λ d h. absurd (no_row _ d.0 h); starts = λ d h. absurd (no_row _ d.0 h); ends = λ d h. absurd (no_row _ d.0 h) };
  turned = record { differ = λ d e h. absurd (no_row _ d.0 h); turns = λ d h. absurd (no_row _ d.0 h) };
  plane = empty_plane;
}

empty_complete : IsComplete empty_view one_face
empty_complete = record {
  cycles_ascend = tt;
  faces_ascend = (tt, tt);
  cycle_of_ascend = tt;
  bare_ascend = tt;
  cycle_rows = λ d. (λ h. absurd (no_row _ d.0 h), λ h. absurd (no_row _ d.0 h));
  cycle_has = λ d h. absurd (no_row _ d.0 h);
  dart_has = λ c h. absurd (no_row _ c.0 h);
  face_has = λ c h. absurd (no_row _ c.0 h);
  bare = λ w h. absurd (no_row _ w.0 h);
  bare_vertex = λ w h. absurd (no_row _ w.0 h);
  bare_has = λ w h. absurd (no_row _ w.0 h);
}

empty_cycled : IsCycled empty_view one_face
empty_cycled = record { orbits = λ d e h. absurd (no_row _ d.0 h); kind = λ d h. absurd (no_row _ d.0 h) }

empty_faces : AreFacesByCells empty_view one_face (λ a. face_of (face_labels (skeleton_of empty_view)) first_cell)
empty_faces = record {
  first = λ a h none. refl;
  darts = λ d h. absurd (no_row _ d.0 h);
  bare = λ w h. absurd (no_row _ w.0 h);
  differ = λ a b h k e. only a h ∙ sym (only b k);
  all = λ c C. (face_id 0, has_only, ap (face_of (face_labels (skeleton_of empty_view))) (sym (one_cell c C)));
  real = λ a h. (first_cell, member_in (cells (skeleton_of empty_view)) first_cell (first_listed (skeleton_of empty_view)), refl);
}

empty_sound : IsSound empty_view one_face
empty_sound = record {
  graph = empty_graph;
  complete = empty_complete;
  cycled = empty_cycled;
  faced = (_, outer_cycles_follow empty_view one_face _ empty_graph empty_complete empty_cycled empty_faces);
}

-- ---- the triangle
-- what holds of three holds of each in their list
three : {X : Type 0} (P : X → Type 0) (a b c : X) → P a → P b → P c → (x : X) → Contains (a ∷ b ∷ c ∷ []) x → P x
three P a b c p q r x h = elim (in_member (a ∷ b ∷ c ∷ []) x h) [
  | inl e ↦ subst P e p
  | inr k ↦ elim k [
    | inl e ↦ subst P e q
    | inr l ↦ elim l [ inl e ↦ subst P e r | inr m ↦ absurd m ]
  ]
]

abbrev A : Point
A = three_four.a

abbrev B : Point
B = three_four.b

abbrev C : Point
C = three_four.c

abbrev edge : Point → Point → Edge
edge p q = record { low = p; high = q }

-- the corners and the sides in their order
abbrev corners_and_sides : Skeleton
corners_and_sides = record { vertices = A ∷ C ∷ B ∷ []; edges = edge A C ∷ edge A B ∷ edge C B ∷ [] }

draws_it : skeleton_of drawn ≡ corners_and_sides
unfolding opened
draws_it = refl

corner : (P : Point → Type 0) → P A → P C → P B → (v : Point) → Contains corners_and_sides.vertices v → P v
corner P p q r = three P A C B p q r

side : (P : Edge → Type 0) → P (edge A C) → P (edge A B) → P (edge C B) → (e : Edge) → Contains corners_and_sides.edges e → P e
side P p q r = three P (edge A C) (edge A B) (edge C B) p q r

-- the lesser point is the one on the left, or the lower one
apart : (v w : Point) → Contains corners_and_sides.vertices v → Contains corners_and_sides.vertices w → precedes v w ≡ false → precedes w v ≡ false → v ≡ w
unfolding opened
apart v w V W =
    corner (λ v. precedes v w ≡ false → precedes w v ≡ false → v ≡ w)
    (corner (λ w. precedes A w ≡ false → precedes w A ≡ false → A ≡ w) (λ _ _. refl) (λ h _. absurd (true≢false h)) (λ h _. absurd (true≢false h)) w W)
    (corner (λ w. precedes C w ≡ false → precedes w C ≡ false → C ≡ w) (λ _ h. absurd (true≢false h)) (λ _ _. refl) (λ h _. absurd (true≢false h)) w W)
    (corner (λ w. precedes B w ≡ false → precedes w B ≡ false → B ≡ w) (λ _ h. absurd (true≢false h)) (λ _ h. absurd (true≢false h)) (λ _ _. refl) w W)
    v V

at_a : Contains corners_and_sides.vertices A
at_a = member_in corners_and_sides.vertices A (inl refl)

at_c : Contains corners_and_sides.vertices C
at_c = member_in corners_and_sides.vertices C (inr (inl refl))

at_b : Contains corners_and_sides.vertices B
at_b = member_in corners_and_sides.vertices B (inr (inr (inl refl)))

one : pos 0 <ℤ pos 1
one = omega (arith, ints)

level : IsProperLine three_four.ab
unfolding opened
level = record { lowest = refl; runs = inl one }

slanted : IsProperLine three_four.bc
unfolding opened
slanted = record { lowest = refl; runs = inl (omega (arith, ints)) }

upright : IsProperLine three_four.ca
unfolding opened
upright = record { lowest = refl; runs = inr (refl, omega (arith, ints)) }

triangle_plane : IsPlaneSkeleton corners_and_sides
unfolding opened
triangle_plane = record {
  proper = corner (λ v. HasWeight v) one one one;
  lower_in = side (λ e. Contains corners_and_sides.vertices e.low) at_a at_a at_c;
  upper_in = side (λ e. Contains corners_and_sides.vertices e.high) at_c at_b at_b;
  lower_once = side (λ e. count_by (λ v. same_point e.low v) corners_and_sides.vertices ≡ 1) refl refl refl;
  upper_once = side (λ e. count_by (λ v. same_point e.high v) corners_and_sides.vertices ≡ 1) refl refl refl;
  proper_edge = side (λ e. HasWeight e.low × HasWeight e.high) (one, one) (one, one) (one, one);
  forward = side (λ e. left_of e.high e.low ≡ false) refl refl refl;
  upright = side (λ e. on_wall e.low e.high ≡ true → lower_than e.low e.high ≡ true) (λ _. refl) (λ h. absurd (false≢true h)) (λ h. absurd (false≢true h));
  edge_once = side (λ e. count_by (same_edge e) corners_and_sides.edges ≡ 1) refl refl refl;
  distinct = apart;
  clear = λ e v E V.
      side (λ e. inside e v ≡ false)
      (corner (λ v. inside (edge A C) v ≡ false) refl refl refl v V)
      (corner (λ v. inside (edge A B) v ≡ false) refl refl refl v V)
      (corner (λ v. inside (edge C B) v ≡ false) refl refl refl v V)
      e E;
  uncrossed = λ e f E F.
      side (λ e. crosses e f ≡ false)
      (side (λ f. crosses (edge A C) f ≡ false) refl refl refl f F)
      (side (λ f. crosses (edge A B) f ≡ false) refl refl refl f F)
      (side (λ f. crosses (edge C B) f ≡ false) refl refl refl f F)
      e E;
}

-- names of vertices by points, of darts by darts
vertex_name : Point → ℕ
vertex_name p = position_or_len (same_point p) (A ∷ B ∷ C ∷ [])

vertex_named : (w : VertexId) → HasVertex drawn w → vertex_name (point_in drawn w) ≡ w.0
unfolding opened vertex_name
vertex_named w h = vertex_cases three_four (λ n. vertex_name (point_in drawn (vertex_id n)) ≡ n) refl refl refl w.0 h

dart_name : Dart → ℕ
dart_name x = position_or_len (same_dart x) (dart_in drawn (dart_id 0) ∷ dart_in drawn (dart_id 1) ∷ dart_in drawn (dart_id 2) ∷ dart_in drawn (dart_id 3) ∷ dart_in drawn (dart_id 4) ∷ dart_in drawn (dart_id 5) ∷ [])

dart_named : (d : DartId) → HasDart drawn d → dart_name (dart_in drawn d) ≡ d.0
unfolding opened dart_name
dart_named d h = dart_cases three_four (λ n. dart_name (dart_in drawn (dart_id n)) ≡ n) refl refl refl refl refl refl d.0 h

triangle_drawn : IsDrawn drawn
unfolding opened
triangle_drawn = record {
  proper = λ w h. vertex_cases three_four (λ n. IsProper (point_in drawn (vertex_id n))) (record { positive = one; lowest = refl }) (record { positive = one; lowest = refl }) (record { positive = one; lowest = refl }) w.0 h;
  points = λ u w h k e. let n = sym (vertex_named u h) ∙ ap vertex_name e ∙ vertex_named w k in λ i. record { 0 = n i };
  line = λ d h. dart_cases three_four (λ n. IsProperLine (line_in drawn (dart_id n))) level level slanted slanted upright upright d.0 h;
  starts = λ d h. dart_cases three_four (λ n. side_of (line_in drawn (dart_id n)) (point_in drawn (source_in drawn (dart_id n))) ≡ pos 0) refl refl refl refl refl refl d.0 h;
  ends = λ d h. dart_cases three_four (λ n. side_of (line_in drawn (dart_id n)) (point_in drawn (target_in drawn (dart_id n))) ≡ pos 0) refl refl refl refl refl refl d.0 h;
}

triangle_turned : IsTurned drawn
unfolding opened
triangle_turned = record {
  differ = λ d e h k same. let n = sym (dart_named d h) ∙ ap dart_name same ∙ dart_named e k in λ i. record { 0 = n i };
  turns = λ d h. dart_cases three_four Turns turns.0 turns.1 turns.2 turns.3 turns.4 turns.5 d.0 h;
}

triangle_graph : IsGraphSound drawn
triangle_graph = record {
  named = record { vertices = range_ascend 0 3; darts = range_ascend 0 6 };
  twinned = is_twinned three_four;
  linked = is_linked three_four;
  drawn = triangle_drawn;
  turned = triangle_turned;
  plane = subst IsPlaneSkeleton (sym draws_it) triangle_plane;
}

has_outside : HasFace triangle_faces (face_id 0)
has_outside = member_in (0 ∷ 1 ∷ []) 0 (inl refl)

has_inside : HasFace triangle_faces (face_id 1)
has_inside = member_in (0 ∷ 1 ∷ []) 1 (inr (inl refl))

triangle_complete : IsComplete drawn triangle_faces
unfolding opened
triangle_complete = record {
  cycles_ascend = range_ascend 0 2;
  faces_ascend = range_ascend 0 2;
  cycle_of_ascend = range_ascend 0 6;
  bare_ascend = tt;
  cycle_rows = λ d. (
    λ h. dart_cases three_four (λ n. IsSome (row_at triangle_faces.cycle_of n)) refl refl refl refl refl refl d.0 h,
    λ h. six_cases (cycle_id 0) (cycle_id 1) (cycle_id 0) (cycle_id 1) (cycle_id 0) (cycle_id 1) (λ n. HasDart drawn (dart_id n)) refl refl refl refl refl refl d.0 h,
  );
  cycle_has = λ d h. dart_cases three_four (λ n. HasCycle triangle_faces (cycle_in triangle_faces (dart_id n))) refl refl refl refl refl refl d.0 h;
  dart_has = λ c h. cycle_cases (λ n. (d : DartId) × HasDart drawn d × (cycle_in triangle_faces d ≡ cycle_id n)) (dart_id 0, refl, refl) (dart_id 1, refl, refl) c.0 h;
  face_has = λ c h. cycle_cases (λ n. HasFace triangle_faces (face_in triangle_faces (cycle_id n))) has_inside has_outside c.0 h;
  bare = λ w h. (
    λ k. absurd (no_row FaceId w.0 k),
    λ none. absurd (vertex_cases three_four (λ n. ((d : DartId) → ¬ IsOutOf drawn (vertex_id n) d) → ⊥) (λ k. k (dart_id 0) (refl, refl)) (λ k. k (dart_id 2) (refl, refl)) (λ k. k (dart_id 4) (refl, refl)) w.0 h none),
  );
  bare_vertex = λ w h. absurd (no_row FaceId w.0 h);
  bare_has = λ w h. absurd (no_row FaceId w.0 h);
}

-- the least darts of its two cycles, by the names of these, and back
lead_of_cycle : CycleId → Dart
lead_of_cycle c = cond (c.0 == 0) (lead_in drawn (dart_id 0)) (lead_in drawn (dart_id 1))

lead_is : (d : DartId) → HasDart drawn d → lead_in drawn d ≡ lead_of_cycle (cycle_in triangle_faces d)
unfolding opened lead_of_cycle
lead_is d h = dart_cases three_four (λ n. lead_in drawn (dart_id n) ≡ lead_of_cycle (cycle_in triangle_faces (dart_id n))) refl refl refl refl refl refl d.0 h

cycle_of_lead : Dart → CycleId
cycle_of_lead x = cond (same_dart x (lead_in drawn (dart_id 0))) (cycle_id 0) (cycle_id 1)

cycle_is : (d : DartId) → HasDart drawn d → cycle_of_lead (lead_in drawn d) ≡ cycle_in triangle_faces d
unfolding opened cycle_of_lead
cycle_is d h = dart_cases three_four (λ n. cycle_of_lead (lead_in drawn (dart_id n)) ≡ cycle_in triangle_faces (dart_id n)) refl refl refl refl refl refl d.0 h

not_outer : Inner ≡ Outer → ⊥
not_outer e = cc

kind_is : (d : DartId) → HasDart drawn d → (kind_in triangle_faces (cycle_in triangle_faces d) ≡ Outer) ↔ (is_odd d.0 ≡ true)
unfolding opened
kind_is d h =
    dart_cases three_four (λ n. (kind_in triangle_faces (cycle_in triangle_faces (dart_id n)) ≡ Outer) ↔ (is_odd n ≡ true))
    (λ _. refl, λ _. refl) (λ q. absurd (not_outer q), λ t. absurd (false≢true t))
    (λ _. refl, λ _. refl) (λ q. absurd (not_outer q), λ t. absurd (false≢true t))
    (λ _. refl, λ _. refl) (λ q. absurd (not_outer q), λ t. absurd (false≢true t))
    d.0 h

triangle_cycled : IsCycled drawn triangle_faces
triangle_cycled = record {
  orbits = λ d e h k. (λ q. lead_is d h ∙ ap lead_of_cycle q ∙ sym (lead_is e k), λ q. sym (cycle_is d h) ∙ ap cycle_of_lead q ∙ cycle_is e k);
  kind = kind_is;
}

-- ---- its faces: that of the first cell, and that of the one between the sides
abbrev label : SlabCell → SlabCell
label c = face_of (face_labels (skeleton_of drawn)) c

abbrev within : SlabCell
within = record { slab = 2; place = 1 }

cell : FaceId → SlabCell
cell a = cond (a.0 == 0) (label first_cell) (label within)

-- what holds of both names holds of every face
both : (P : ℕ → Type 0) → P 0 → P 1 → (a : FaceId) → HasFace triangle_faces a → P a.0
both P p q a h = elim (in_member (0 ∷ 1 ∷ []) a.0 h) [
  | inl e ↦ subst P e p
  | inr k ↦ elim k [ inl e ↦ subst P e q | inr m ↦ absurd m ]
]

face_name : SlabCell → ℕ
face_name c = cond (same_cell c (label first_cell)) 0 1

face_named : (a : FaceId) → HasFace triangle_faces a → face_name (cell a) ≡ a.0
unfolding opened face_name cell
face_named a h = both (λ n. face_name (cell (face_id n)) ≡ n) refl refl a h

outside_first : cell (face_id 0) ≡ label first_cell
unfolding cell
outside_first = refl

inside_within : cell (face_id 1) ≡ label within
unfolding cell
inside_within = refl

dart_face : (d : DartId) → HasDart drawn d → cell (face_in triangle_faces (cycle_in triangle_faces d)) ≡ face_left_of drawn d
unfolding opened cell
dart_face d h = dart_cases three_four (λ n. cell (face_in triangle_faces (cycle_in triangle_faces (dart_id n))) ≡ face_left_of drawn (dart_id n)) refl refl refl refl refl refl d.0 h

-- the five cells: left of the triangle, below, within and above it, and right of it
abbrev HasFaceOf : SlabCell → Type 0
HasFaceOf c = (a : FaceId) × HasFace triangle_faces a × (cell a ≡ label c)

five : (c : SlabCell) → Contains (cells (skeleton_of drawn)) c → HasFaceOf c
unfolding opened cell
five c h = elim (in_member (first_cell ∷ record { slab = 2; place = 0 } ∷ within ∷ record { slab = 2; place = 2 } ∷ record { slab = 3; place = 0 } ∷ []) c h) [
  | inl e ↦ subst HasFaceOf e (face_id 0, has_outside, refl)
  | inr k ↦ elim k [
    | inl e ↦ subst HasFaceOf e (face_id 0, has_outside, refl)
    | inr l ↦ elim l [
      | inl e ↦ subst HasFaceOf e (face_id 1, has_inside, refl)
      | inr m ↦ elim m [
        | inl e ↦ subst HasFaceOf e (face_id 0, has_outside, refl)
        | inr n ↦ elim n [ inl e ↦ subst HasFaceOf e (face_id 0, has_outside, refl) | inr z ↦ absurd z ]
      ]
    ]
  ]
]

within_listed : Contains (cells (skeleton_of drawn)) within
unfolding opened
within_listed = member_in (first_cell ∷ record { slab = 2; place = 0 } ∷ within ∷ record { slab = 2; place = 2 } ∷ record { slab = 3; place = 0 } ∷ []) within (inr (inr (inl refl)))

triangle_by_cells : AreFacesByCells drawn triangle_faces cell
triangle_by_cells = record {
  first = λ a h none. both (λ n. (0 < n → ⊥) → cell (face_id n) ≡ label first_cell) (λ _. outside_first) (λ k. absurd (k (omega arith))) a h (λ l. none (face_id 0) has_outside l);
  darts = dart_face;
  bare = λ w h. absurd (no_row FaceId w.0 h);
  differ = λ a b h k e. let n = sym (face_named a h) ∙ ap face_name e ∙ face_named b k in λ i. record { 0 = n i };
  all = five;
  real = λ a h. both (λ n. (c : SlabCell) × Contains (cells (skeleton_of drawn)) c × (cell (face_id n) ≡ label c)) (first_cell, member_in (cells (skeleton_of drawn)) first_cell (first_listed (skeleton_of drawn)), outside_first) (within, within_listed, inside_within) a h;
}

triangle_sound : IsSound drawn triangle_faces
triangle_sound = record {
  graph = triangle_graph;
  complete = triangle_complete;
  cycled = triangle_cycled;
  faced = (cell, outer_cycles_follow drawn triangle_faces cell triangle_graph triangle_complete triangle_cycled triangle_by_cells);
}

pub views_that_are_sound : ViewsThatAreSound
views_that_are_sound = record { empty = empty_sound; triangle = triangle_sound }
