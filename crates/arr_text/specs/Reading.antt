-- The text of what is read by name.
use Rattle.std.specs.Prelude.{ℕ, List, ◌++◌, map, filter, decimal, codes}
use Rattle.std.specs.List.{slice_index_or}
use Rattle.exact_plane.specs.Point.{Point}
use Rattle.slab_laws.specs.declared.names.CurveId.{CurveId}
use Rattle.slab_laws.specs.declared.names.DartId.{DartId}
use Rattle.slab_laws.specs.declared.names.FaceId.{FaceId}
use Rattle.slab_laws.specs.declared.slab_cell.SlabCell.{SlabCell}
use Rattle.slab_laws.specs.Sound.{skeleton_of, dart_in}
use Rattle.slab_laws.specs.Subdivision.{subdivision, rank}
use Rattle.slab_laws.specs.Text.{Marks, text, text_by, number, triple, ended}
use Rattle.slab_laws.specs.View.{View, Faces, face_id, point_in, pinned_in}
use Rattle.slab_laws.specs.Layers.{LayerRows, LayerView}
use Rattle.slab_laws.specs.OverlayText.{edge_words, overlay_text}
use Rattle.sound_views.specs.Orders.{vertex_order, dart_order}
use Rattle.record_orders.specs.CycleKeys.{cycle_keys, ranked_faces}

-- the points of the pinned vertices, ascending
abbrev pub pins_in : View → List Point
pins_in v = map (point_in v) (filter (pinned_in v) (vertex_order v))

-- the darts that go from the lesser end, one for each edge, in the order of the edges
abbrev pub forward_darts : View → List DartId
forward_darts v = filter (λ d. (dart_in v d).forward) (dart_order v)

-- the numbers of curves as they are written
abbrev pub curve_words : List CurveId → List (List ℕ)
curve_words cs = map (λ c. decimal c.0) cs

-- the words of each edge's curves
abbrev pub words_in : View → (DartId → List CurveId) → List (List (List ℕ))
words_in v curves = map (λ d. curve_words (curves d)) (forward_darts v)

-- what is written besides the subdivision: pins, and the curves of each edge
unfoldable pub marks_in : View → (DartId → List CurveId) → Marks
marks_in v curves = record { pins = pins_in v; words = words_in v curves }

-- the text of the subdivision by the graph that the view draws
unfoldable pub text_in : View → (DartId → List CurveId) → List ℕ
text_in v curves = text (subdivision (skeleton_of v)) (marks_in v curves)

-- ---- by other words
-- the faces by rank: the unbounded one, then the others in the order of their outer cycles
abbrev pub face_order : View → Faces → List FaceId
face_order v f = ranked_faces f (cycle_keys f (dart_order v))

-- what follows the rank of a face, by its cell, where it is known by the name of the face
abbrev pub labels_by : View → Faces → (FaceId → List ℕ) → SlabCell → List ℕ
labels_by v f labels c = labels (slice_index_or (face_order v f) (rank (subdivision (skeleton_of v)) c) (face_id 0))

-- the text by its first word, the words of each edge, and what follows the rank of each face
unfoldable pub text_with : List ℕ → View → Faces → (DartId → List (List ℕ)) → (FaceId → List ℕ) → List ℕ
text_with title v f words labels = text_by title (labels_by v f labels) (subdivision (skeleton_of v)) (record { pins = pins_in v; words = map words (forward_darts v) })

-- ---- of two layers
-- the numbers of the layer's curves along a dart's edge
abbrev pub numbers_in : LayerView → DartId → List ℕ
numbers_in layer d = map (λ c. c.0) (layer.curves d)

-- the words of an edge, and what follows the rank of a face, by name
abbrev pub layer_words : LayerView → LayerView → DartId → List (List ℕ)
layer_words red blue d = edge_words (numbers_in red d, numbers_in blue d)

abbrev pub layer_labels : LayerView → LayerView → FaceId → List ℕ
layer_labels red blue f = number (red.rank f) ++ number (blue.rank f)

-- in lists, what is read of a layer by name: the edges in their order, the faces by rank
unfoldable pub rows_in : View → Faces → LayerView → LayerRows
rows_in v f layer = record { curves = map (numbers_in layer) (forward_darts v); labels = map layer.rank (face_order v f) }

-- the text of the overlay whose subdivision is by the graph that the view draws
unfoldable pub overlay_text_in : View → Faces → LayerView → LayerView → List ℕ
overlay_text_in v f red blue = overlay_text (subdivision (skeleton_of v)) (pins_in v) (rows_in v f red) (rows_in v f blue)

-- ---- parts
-- a vertex's number and its point
unfoldable pub vertex_place : ℕ → Point → List ℕ
vertex_place n p = codes "v" ++ (number n ++ triple p)

-- the numbers of an edge's two ends
unfoldable pub edge_ends : ℕ → ℕ → List ℕ
edge_ends n m = codes "e" ++ (number n ++ (number m ++ codes " :"))

-- the first line
unfoldable pub title : List ℕ → ℕ → ℕ → ℕ → List ℕ
title word vertices edges faces = ended (word ++ (number vertices ++ (number edges ++ number faces)))
