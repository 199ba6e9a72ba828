-- The text of an overlay that any sound view tells is that of its subdivision and of both layers.
use Rattle.std.proofs.Common.{◌≡◌, ℕ, refl, sym, ap, ap₂, ◌∙◌, subst, inl, inr, List, [], ◌∷◌, ◌++◌, map, length}
use Rattle.std.specs.Prelude.{codes, flat_map, zip}
use Rattle.std.specs.List.{list_any}
use Rattle.exact_plane.specs.Point.{Point}
use Rattle.plane_graphs.specs.Ascending.{Member}
use Rattle.plane_graphs.specs.Piece.{Present}
use Rattle.plane_graphs.proofs.Lists.{of_map, map_map, map_same}
use Rattle.slab_laws.specs.declared.names.FaceId.{FaceId}
use Rattle.slab_laws.specs.declared.slab_cell.SlabCell.{SlabCell}
use Rattle.slab_laws.specs.Darts.{Dart}
use Rattle.slab_laws.specs.FacesSound.{IsSound, IsFaced}
use Rattle.slab_laws.specs.Layers.{LayerRows, LayerView, rows_of}
use Rattle.slab_laws.specs.Overlay.{both, overlay, curves_along, label}
use Rattle.slab_laws.specs.OverlayText.{overlay_text, presents_text, edge_words, face_labels}
use Rattle.slab_laws.specs.Skeleton.{Skeleton, same_point}
use Rattle.slab_laws.specs.Sound.{IsGraphSound, skeleton_of, dart_in}
use Rattle.slab_laws.specs.Subdivision.{Subdivision, subdivision}
use Rattle.slab_laws.specs.Text.{Marks, text_by, vertex_line, edge_line, face_lines, number, numbered, ended}
use Rattle.slab_laws.specs.View.{View, Faces, point_in}
use Rattle.sound_views.specs.Orders.{vertex_order}
use Rattle.sound_views.proofs.NamesOrdered.{ordered_vertex, points_in_order, edges_in_order}
use Rattle.arr_text.specs.LayerTexts.{ArePinsOf, TellsLayer, OverlayTextIsTheLayers}
use Rattle.arr_text.specs.Reading.{pins_in, forward_darts, face_order, numbers_in, rows_in, overlay_text_in}
use Rattle.arr_text.proofs.Assembly.{graph_is}
use Rattle.arr_text.proofs.FaceNames.{faces_named, ranked_face}
use Rattle.arr_text.proofs.Lines.{pin_told}
use Rattle.arr_text.proofs.RecordTexts.{there}

-- ---- pins that agree at the vertices
-- functions that agree on the elements give the same, one after the other
flat_map_same : {X Y : Type 0} (f g : X → List Y) (xs : List X) → ((x : X) → Member x xs → f x ≡ g x) → flat_map f xs ≡ flat_map g xs
flat_map_same f g [] h = refl
flat_map_same f g (x ∷ xs) h = ap₂ (λ a b. a ++ b) (h x (inl refl)) (flat_map_same f g xs (λ y m. h y (inr m)))

-- a text is told from its pins by the lines of its vertices alone
abbrev by_lines : List ℕ → (SlabCell → List ℕ) → Subdivision → List (List (List ℕ)) → List ℕ → List ℕ
by_lines word labels s words lines =
    ended (word ++ (number (length s.graph.vertices) ++ (number (length s.graph.edges) ++ number (length s.faces)))) ++ (lines ++ (flat_map (edge_line s.graph) (zip s.graph.edges words) ++ (flat_map (face_lines s labels) (numbered 0 s.faces) ++ ended (codes "end"))))

abbrev with_marks : List Point → List (List (List ℕ)) → Marks
with_marks pins words = record { pins = pins; words = words }

text_by_lines : (word : List ℕ) (labels : SlabCell → List ℕ) (s : Subdivision) (pins : List Point) (words : List (List (List ℕ))) → text_by word labels s (with_marks pins words) ≡ by_lines word labels s words (flat_map (vertex_line s.graph s.darts pins) s.graph.vertices)
unfolding text_by
text_by_lines word labels s pins words = refl

line_alike : (g : Skeleton) (ds : List Dart) (pins more : List Point) (p : Point) → list_any (same_point p) pins ≡ list_any (same_point p) more → vertex_line g ds pins p ≡ vertex_line g ds more p
unfolding vertex_line
line_alike g ds pins more p e = rw e refl

text_alike : (word : List ℕ) (labels : SlabCell → List ℕ) (s : Subdivision) (pins more : List Point) (words : List (List (List ℕ))) → ((p : Point) → Member p s.graph.vertices → list_any (same_point p) pins ≡ list_any (same_point p) more)
    → text_by word labels s (with_marks pins words) ≡ text_by word labels s (with_marks more words)
text_alike word labels s pins more words h =
    text_by_lines word labels s pins words
    ∙ ap (by_lines word labels s words) (flat_map_same (vertex_line s.graph s.darts pins) (vertex_line s.graph s.darts more) s.graph.vertices (λ p m. line_alike s.graph s.darts pins more p (h p m)))
    ∙ sym (text_by_lines word labels s more words)

by_marks : (s : Subdivision) (pins : List Point) (red blue : LayerRows) → overlay_text s pins red blue ≡ text_by (codes "overlay") (face_labels s red blue) s (with_marks pins (map edge_words (zip red.curves blue.curves)))
unfolding overlay_text
by_marks s pins red blue = refl

module _ (v : View) (s : IsGraphSound v) (pins : List Point) (p : ArePinsOf v pins) where
  -- at a vertex the pins by name are as good as those that they are
  pins_alike : (q : Point) → Member q (skeleton_of v).vertices → list_any (same_point q) (pins_in v) ≡ list_any (same_point q) pins
  pins_alike q m =
      let w = of_map (point_in v) q (vertex_order v) (subst (λ qs. Member q qs) (sym (points_in_order v s)) m) in
      let has = ordered_vertex v s w.0 w.1 in
      subst (λ r. list_any (same_point r) (pins_in v) ≡ list_any (same_point r) pins) (sym w.2) (sym (pin_told v s w.0 has) ∙ p w.0 has)

  pins_told : (red blue : LayerRows) → overlay_text (subdivision (skeleton_of v)) (pins_in v) red blue ≡ overlay_text (subdivision (skeleton_of v)) pins red blue
  pins_told red blue =
      let sub = subdivision (skeleton_of v) in
      by_marks sub (pins_in v) red blue
      ∙ text_alike (codes "overlay") (face_labels sub red blue) sub (pins_in v) pins (map edge_words (zip red.curves blue.curves)) (λ q m. pins_alike q (subst (λ g. Member q g.vertices) (graph_is (skeleton_of v)) m))
      ∙ sym (by_marks sub pins red blue)

-- ---- rows
module _ (v : View) (f : Faces) (cell : FaceId → SlabCell) (s : IsSound v f) (c : IsFaced v f cell) (layer : Present) (l : LayerView) (t : TellsLayer v f cell layer l) where
  curves_are : map (numbers_in l) (forward_darts v) ≡ map (curves_along layer) (skeleton_of v).edges
  curves_are =
      map_same (numbers_in l) (λ d. curves_along layer (dart_in v d).edge) (forward_darts v) (λ d m. t.curves d (there v s.graph d m))
      ∙ sym (map_map (λ d. (dart_in v d).edge) (curves_along layer) (forward_darts v))
      ∙ ap (map (curves_along layer)) (edges_in_order v s.graph)

  labels_are : map l.rank (face_order v f) ≡ map (label layer (skeleton_of v)) (subdivision (skeleton_of v)).faces
  labels_are =
      map_same l.rank (λ a. label layer (skeleton_of v) (cell a)) (face_order v f) (λ a m. t.ranks a (ranked_face v f s cell c a m))
      ∙ sym (map_map cell (label layer (skeleton_of v)) (face_order v f))
      ∙ ap (map (label layer (skeleton_of v))) (faces_named v f s cell c)

  rows_are : rows_in v f l ≡ rows_of layer (subdivision (skeleton_of v))
  unfolding rows_in rows_of
  rows_are =
      let g = graph_is (skeleton_of v) in
      λ i. record { curves = (curves_are ∙ ap (λ h. map (curves_along layer) h.edges) (sym g)) i; labels = (labels_are ∙ ap (λ h. map (label layer h) (subdivision (skeleton_of v)).faces) (sym g)) i }

-- ---- the two texts
by_reading : (v : View) (f : Faces) (r b : LayerView) → overlay_text_in v f r b ≡ overlay_text (subdivision (skeleton_of v)) (pins_in v) (rows_in v f r) (rows_in v f b)
unfolding overlay_text_in
by_reading v f r b = refl

by_layers : (red blue : Present) → overlay_text (overlay red blue) (both red blue).pins (rows_of red (overlay red blue)) (rows_of blue (overlay red blue)) ≡ presents_text red blue
unfolding presents_text
by_layers red blue = refl

pub overlay_text_is_the_layers : OverlayTextIsTheLayers
overlay_text_is_the_layers v f cell red blue r b s c whole pins tr tb =
    by_reading v f r b
    ∙ (λ i. overlay_text (subdivision (skeleton_of v)) (pins_in v) (rows_are v f cell s c red r tr i) (rows_are v f cell s c blue b tb i))
    ∙ pins_told v s.graph (both red blue).pins pins (rows_of red (subdivision (skeleton_of v))) (rows_of blue (subdivision (skeleton_of v)))
    ∙ ap (λ sub. overlay_text sub (both red blue).pins (rows_of red sub) (rows_of blue sub)) whole
    ∙ by_layers red blue
