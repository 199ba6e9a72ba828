-- The texts that are told by their words are those of a subdivision and of an overlay.
use Rattle.std.proofs.Common.{◌≡◌, ℕ, ◌<◌, suc, refl, ap, ap₂, sym, ◌∙◌, inl, inr, List, [], ◌∷◌, ◌++◌, map, length, arith, Result, Ok, Err}
use Rattle.std.specs.Prelude.{IfOk, codes, flat_map, zip}
use Rattle.std.specs.List.{position_or_len}
use Rattle.std.proofs.lemmas.List.{get_or-map}
use Rattle.plane_graphs.specs.Ascending.{Member}
use Rattle.slab_laws.specs.declared.names.CurveId.{CurveId}
use Rattle.slab_laws.specs.declared.names.DartId.{DartId}
use Rattle.slab_laws.specs.declared.slab_cell.SlabCell.{SlabCell}
use Rattle.slab_laws.specs.Faces.{same_cell}
use Rattle.slab_laws.specs.FacesSound.{IsSound}
use Rattle.slab_laws.specs.Sound.{skeleton_of}
use Rattle.slab_laws.specs.Subdivision.{Subdivision, subdivision, rank}
use Rattle.slab_laws.specs.Text.{Marks, ended, face_lines, number, numbered, text, text_by, vertex_line, edge_line}
use Rattle.slab_laws.specs.View.{View, Faces, face_id}
use Rattle.slab_faces.proofs.FacesLemmas.{cells_exact}
use Rattle.slab_laws.specs.Layers.{LayerView}
use Rattle.slab_laws.specs.OverlayText.{edge_words, face_labels, overlay_text}
use Rattle.sound_views.proofs.ListedPlaces.{place_within, from_in}
use Rattle.arr_text.specs.Reading.{pins_in, forward_darts, curve_words, marks_in, text_in, face_order, labels_by, text_with, numbers_in, layer_words, layer_labels, rows_in, overlay_text_in}
use Rattle.arr_text.proofs.FaceNames.{faces_counted}

-- a text is told in two ways
pub told_by : {T E : Type 0} (r : Result T E) (bytes : T → List ℕ) {a b : List ℕ} → IfOk r (λ t. bytes t ≡ a) → a ≡ b → IfOk r (λ t. bytes t ≡ b)
told_by (Ok t) bytes h e = h ∙ e
told_by (Err x) bytes h e = h

-- ---- of a subdivision
-- curves by their numbers, and nothing after the rank of a face
pub plain_text : (v : View) (f : Faces) (curves : DartId → List CurveId) → text_with (codes "arrangement") v f (λ d. curve_words (curves d)) (λ a. []) ≡ text_in v curves
unfolding text_with text_in text marks_in
plain_text v f curves = refl

-- ---- of an overlay
-- the words of edges, from the curves of each layer
words_zipped : {X : Type 0} (red blue : X → List ℕ) (xs : List X) → map (λ x. edge_words (red x, blue x)) xs ≡ map edge_words (zip (map red xs) (map blue xs))
words_zipped red blue [] = refl
words_zipped red blue (x ∷ xs) = ap (λ (ws : List (List (List ℕ))). edge_words (red x, blue x) ∷ ws) (words_zipped red blue xs)

-- what follows the rank of a face may be told in another way
numbered_alike : {F : Type 0} (g h : ℕ × F → List ℕ) (i : ℕ) (fs : List F) → ((n : ℕ) (f : F) → Member f fs → g (n, f) ≡ h (n, f)) → flat_map g (numbered i fs) ≡ flat_map h (numbered i fs)
unfolding numbered
numbered_alike g h i [] e = refl
numbered_alike g h i (f ∷ fs) e = ap₂ (λ (x y : List ℕ). x ++ y) (e i f (inl refl)) (numbered_alike g h (suc i) fs (λ n x m. e n x (inr m)))

lines_alike : (s : Subdivision) (more less : SlabCell → List ℕ) (n : ℕ) (c : SlabCell) → more c ≡ less c → face_lines s more (n, c) ≡ face_lines s less (n, c)
unfolding face_lines
lines_alike s more less n c e = rw e refl

labels_alike : (word : List ℕ) (more less : SlabCell → List ℕ) (s : Subdivision) (m : Marks) → ((c : SlabCell) → Member c s.faces → more c ≡ less c) → text_by word more s m ≡ text_by word less s m
unfolding text_by
labels_alike word more less s m e =
    ap (λ (t : List ℕ). ended (word ++ (number (length s.graph.vertices) ++ (number (length s.graph.edges) ++ number (length s.faces)))) ++ (flat_map (vertex_line s.graph s.darts m.pins) s.graph.vertices ++ (flat_map (edge_line s.graph) (zip s.graph.edges m.words) ++ (t ++ ended (codes "end")))))
    (numbered_alike (face_lines s more) (face_lines s less) 0 s.faces (λ n c h. lines_alike s more less n c (e c h)))

module _ (v : View) (f : Faces) (s : IsSound v f) (red blue : LayerView) where
  abbrev sub : Subdivision
  sub = subdivision (skeleton_of v)

  told : (c : SlabCell) → Member c sub.faces → labels_by v f (layer_labels red blue) c ≡ face_labels sub (rows_in v f red) (rows_in v f blue) c
  unfolding rank rows_in
  told c m =
      let j : ℕ = position_or_len (same_cell c) sub.faces in
      let w = place_within same_cell cells_exact sub.faces c (from_in sub.faces c m) in
      let n = faces_counted v f s in
      let l : j < length (face_order v f) = omega (arith, w, n) in
      sym (ap₂ (λ (x y : ℕ). number x ++ number y) (get_or-map red.rank (face_order v f) j (face_id 0) 0 l) (get_or-map blue.rank (face_order v f) j (face_id 0) 0 l))

  abbrev marks_with : List (List (List ℕ)) → Marks
  marks_with words = record { pins = pins_in v; words = words }

  by_words : text_with (codes "overlay") v f (layer_words red blue) (layer_labels red blue) ≡ text_by (codes "overlay") (labels_by v f (layer_labels red blue)) sub (marks_with (map (layer_words red blue) (forward_darts v)))
  unfolding text_with
  by_words = refl

  by_rows : overlay_text_in v f red blue ≡ text_by (codes "overlay") (face_labels sub (rows_in v f red) (rows_in v f blue)) sub (marks_with (map edge_words (zip (map (numbers_in red) (forward_darts v)) (map (numbers_in blue) (forward_darts v)))))
  unfolding overlay_text_in overlay_text rows_in
  by_rows = refl

  pub coloured_text : text_with (codes "overlay") v f (layer_words red blue) (layer_labels red blue) ≡ overlay_text_in v f red blue
  coloured_text =
      by_words
      ∙ labels_alike (codes "overlay") (labels_by v f (layer_labels red blue)) (face_labels sub (rows_in v f red) (rows_in v f blue)) sub (marks_with (map (layer_words red blue) (forward_darts v))) told
      ∙ ap (λ (ws : List (List (List ℕ))). text_by (codes "overlay") (face_labels sub (rows_in v f red) (rows_in v f blue)) sub (marks_with ws)) (words_zipped (numbers_in red) (numbers_in blue) (forward_darts v))
      ∙ sym by_rows
