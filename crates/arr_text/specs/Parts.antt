-- What each part of the text says, of what is read by name.
use Rattle.std.specs.Prelude.{◌≡◌, ◌<◌, ℕ, List, [], ◌++◌, Bool, cond, not, ◌&&◌, ◌==◌, filter, flat_map, length, map, codes, zip}
use Rattle.std.specs.List.{position_or_len, slice_index_or}
use Rattle.exact_plane.specs.Point.{Point}
use Rattle.slab_laws.specs.declared.names.CycleKind.{CycleKind}
use Rattle.slab_laws.specs.declared.names.DartId.{DartId}
use Rattle.slab_laws.specs.declared.names.FaceId.{FaceId}
use Rattle.slab_laws.specs.Cycles.{dart_labels, trail}
use Rattle.slab_laws.specs.Darts.{source, target, darts}
use Rattle.slab_laws.specs.Faces.{face_labels}
use Rattle.slab_laws.specs.Kinds.{is_outer}
use Rattle.slab_laws.specs.Rotation.{rotation}
use Rattle.slab_laws.specs.Skeleton.{Skeleton}
use Rattle.slab_laws.specs.Sound.{skeleton_of, dart_in}
use Rattle.slab_laws.specs.Subdivision.{Subdivision, cycle, subdivision, has_dart}
use Rattle.slab_laws.specs.Text.{vertex_line, edge_line, cycle_line, ended, face_lines, index, number, numbered}
use Rattle.slab_laws.specs.View.{View, Faces, face_id, bare_face_in}
use Rattle.sound_views.specs.VertexRounds.{round}
use Rattle.record_orders.specs.declared.cycles.CycleKey.{CycleKey}
use Rattle.record_orders.specs.declared.vertices.VertexKey.{VertexKey}
use Rattle.record_orders.specs.CycleKeys.{is_of_kind, same_face}
use Rattle.arr_text.specs.Reading.{forward_darts, labels_by, pins_in}

-- ---- vertices
-- the numbers of a vertex's neighbours, clockwise from the least (this project)
abbrev pub neighbour_numbers : View → Point → List ℕ
neighbour_numbers v p =
    let g : Skeleton = skeleton_of v in
    flat_map (λ h. number (index g (target h))) (rotation (darts g) p)

-- the same, from the target of one of its darts on, with no more than so many (this project)
abbrev pub round_numbers : View → ℕ → DartId → List ℕ
round_numbers v count first =
    let g : Skeleton = skeleton_of v in
    flat_map (λ h. number (index g (target h))) (round (darts g) count (dart_in v first) (dart_in v first))

-- the line of a vertex (this project)
abbrev pub vertex_text : View → Point → List ℕ
vertex_text v p = vertex_line (skeleton_of v) (darts (skeleton_of v)) (pins_in v) p

-- the lines of all vertices, in the order of their points (this project)
abbrev pub vertices_text : View → List ℕ
vertices_text v = flat_map (vertex_line (skeleton_of v) (darts (skeleton_of v)) (pins_in v)) (skeleton_of v).vertices

-- ---- edges
-- the line of a dart's edge, with the words of its curves (this project)
abbrev pub edge_text : View → (DartId → List (List ℕ)) → DartId → List ℕ
edge_text v words d = edge_line (skeleton_of v) ((dart_in v d).edge, words d)

-- the lines of all edges, in their order (this project)
abbrev pub edges_text : View → (DartId → List (List ℕ)) → List ℕ
edges_text v words = flat_map (edge_line (skeleton_of v)) (zip (skeleton_of v).edges (map words (forward_darts v)))

-- ---- faces
-- the face has the rank
abbrev pub has_rank : List FaceId → ℕ → FaceId → Bool
has_rank ranks k f = position_or_len (same_face f) ranks == k

-- the numbers of a boundary cycle's vertices from the source of one of its darts on, with no more than so many (this project)
abbrev pub trail_numbers : View → ℕ → DartId → List ℕ
trail_numbers v count first =
    let g : Skeleton = skeleton_of v in
    flat_map (λ h. number (index g (source h))) (trail (darts g) count (dart_in v first) (dart_in v first))

-- o for an outer cycle, h for the boundary of a hole (this project)
abbrev pub letter_of : CycleKind → List ℕ
letter_of kind = cond (is_outer kind) (codes "o") (codes "h")

-- the line of a boundary cycle from one of its darts on, after its letter (this project)
abbrev pub cycle_text : View → List ℕ → DartId → List ℕ
cycle_text v letter lead =
    let g : Skeleton = skeleton_of v in
    cycle_line g letter (cycle g (face_labels g) (darts g) (dart_labels (darts g)) (dart_in v lead))

-- the lines of the cycles of a kind that bound the face of a rank
abbrev pub cycles_text : View → CycleKind → List FaceId → List CycleKey → ℕ → List ℕ
cycles_text v kind ranks cycles k =
    flat_map (λ (c : CycleKey). cycle_text v (letter_of kind) c.lead)
    (filter (λ (c : CycleKey). is_of_kind kind c && has_rank ranks k c.face) cycles)

-- the line of an isolated vertex, by its number (this project)
abbrev pub isolated_line : ℕ → List ℕ
isolated_line n = ended (codes "p" ++ number n)

-- the lines of the vertices that are isolated in the face of a rank
abbrev pub isolated_text : View → Faces → List FaceId → List VertexKey → ℕ → List ℕ
isolated_text v f ranks vertices k =
    flat_map (λ (u : VertexKey). isolated_line (index (skeleton_of v) u.point))
    (filter (λ (u : VertexKey). not (has_dart (skeleton_of v) u.point) && has_rank ranks k (bare_face_in f u.name)) vertices)

-- the first line of a face, by its rank and what follows it (this project)
abbrev pub face_line : ℕ → List ℕ → List ℕ
face_line k labels = ended (codes "f" ++ (number k ++ labels))

-- what follows the rank of the face at a place
abbrev pub labels_at : (FaceId → List ℕ) → List FaceId → ℕ → List ℕ
labels_at labels faces k = labels (slice_index_or faces k (face_id 0))

-- each face's first line, and what stands under it, by rank
abbrev pub bodies_text : (FaceId → List ℕ) → List FaceId → List (List ℕ) → List ℕ
bodies_text labels faces bodies = flat_map (λ b. face_line b.0 (labels_at labels faces b.0) ++ b.1) (numbered 0 bodies)

-- the lines of all faces by rank, each with its outer cycles, its inner cycles and its isolated vertices (this project)
abbrev pub faces_text : View → Faces → (FaceId → List ℕ) → List ℕ
faces_text v f labels = let s : Subdivision = subdivision (skeleton_of v) in flat_map (face_lines s (labels_by v f labels)) (numbered 0 s.faces)

-- each of the texts has gained at its end what is said for its place
abbrev pub HaveGained : (ℕ → List ℕ) → List (List ℕ) → List (List ℕ) → Type 0
HaveGained gain old new = (k : ℕ) → k < length old → slice_index_or new k [] ≡ slice_index_or old k [] ++ gain k
