-- The parts of a text, one after the other.
use Rattle.std.proofs.Common.{◌≡◌, ℕ, ◌+◌, ◌/◌, List, [], ◌∷◌, ◌++◌, map, length, Result, refl, sym, ap, ◌∙◌, append_assoc, arith}
use Rattle.std.specs.Prelude.{OnOk, codes, flat_map, zip}
use Rattle.std.specs.List.{AllByRecursion}
use Rattle.std.proofs.lemmas.List.{length-map, length-append}
use Rattle.exact_plane.specs.Point.{Point}
use Rattle.slab_laws.specs.declared.names.DartId.{DartId}
use Rattle.slab_laws.specs.declared.slab_cell.SlabCell.{SlabCell}
use Rattle.slab_laws.specs.Darts.{Dart, darts, ahead, back}
use Rattle.slab_laws.specs.Sound.{skeleton_of, IsGraphSound}
use Rattle.slab_laws.specs.Skeleton.{Skeleton}
use Rattle.slab_laws.specs.Subdivision.{Subdivision, subdivision}
use Rattle.slab_laws.specs.Text.{Marks, number, ended, vertex_line, edge_line, face_lines, numbered, text_by}
use Rattle.slab_laws.specs.View.{View, HasDart, point_in}
use Rattle.sound_views.specs.Orders.{vertex_order, dart_order}
use Rattle.sound_views.proofs.NamesOrdered.{points_in_order, ordered_dart}
use Rattle.record_orders.specs.Keys.{vertex_key, vertex_keys}
use Rattle.arr_text.specs.declared.darts.NumberedDart.{NumberedDart}
use Rattle.arr_text.specs.Numbers.{numbered_dart, numbered_darts}
use Rattle.record_orders.proofs.Sorting.{all_members}
use Rattle.arr_text.specs.Reading.{pins_in, forward_darts, title}
use Rattle.arr_text.proofs.FaceNames.{darts_counted}
use Rattle.arr_text.proofs.Joined.{four_appended, joined}
use Rattle.plane_graphs.proofs.Lists.{then_appended}

pub title_put : {T E : Type 0} (r : Result T E) (word : List ℕ) (n m k : ℕ) (s a b c d z : List ℕ) → a ≡ s ++ word → b ≡ a ++ number n → c ≡ b ++ number m → d ≡ c ++ number k → OnOk r (z ≡ d ++ 10 ∷ []) → OnOk r (z ≡ s ++ title word n m k)
unfolding title ended
title_put r word n m k s a b c d z e f g h i =
    let two = then_appended s a b (word) (number n) e f in
    let three = then_appended s b c (word ++ number n) (number m) two g in
    let four = then_appended s c d ((word ++ number n) ++ number m) (number k) three h in
    joined r s d z (((word ++ number n) ++ number m) ++ number k) (10 ∷ []) ((word ++ (number n ++ (number m ++ number k))) ++ 10 ∷ []) four i (ap (λ (t : List ℕ). t ++ 10 ∷ []) (four_appended word (number n) (number m) (number k)))

-- a subdivision is of its graph
pub graph_is : (g : Skeleton) → (subdivision g).graph ≡ g
unfolding subdivision
graph_is g = refl

module _ (v : View) (s : IsGraphSound v) where
  names_of_keys : (ds : List DartId) → map (λ (k : NumberedDart). k.name) (map (numbered_dart v) ds) ≡ ds
  names_of_keys [] = refl
  names_of_keys (d ∷ ds) = ap (λ (es : List DartId). d ∷ es) (names_of_keys ds)

  pub names_are : map (λ (k : NumberedDart). k.name) (numbered_darts v) ≡ dart_order v
  names_are = names_of_keys (dart_order v)

  pub names_have : AllByRecursion (λ d. HasDart v d) (dart_order v)
  names_have = all_members (λ d. HasDart v d) (dart_order v) (λ d m. ordered_dart v s d m)

  pub vertices_counted : length (vertex_keys v) ≡ length (skeleton_of v).vertices
  vertices_counted = length-map (vertex_order v) (vertex_key v) ∙ sym (length-map (vertex_order v) (point_in v)) ∙ ap (λ (ps : List Point). length ps) (points_in_order v s)

  pub edges_counted : length (numbered_darts v) / 2 ≡ length (skeleton_of v).edges
  edges_counted =
      let g = skeleton_of v in
      let a : length (darts g) ≡ length (map ahead g.edges) + length (map back g.edges) = length-append (map ahead g.edges) (map back g.edges) in
      let b = length-map g.edges ahead in
      let c = length-map g.edges back in
      let d = length-map (dart_order v) (numbered_dart v) ∙ darts_counted v s in
      omega (arith, a, b, c, d)

  -- ---- by the first word, the words of edges, and what follows the number of a face
  module _ (word : List ℕ) (words : DartId → List (List ℕ)) (more : SlabCell → List ℕ) where
    abbrev written : Marks
    written = record { pins = pins_in v; words = map words (forward_darts v) }

    abbrev x_of : Skeleton → List Dart → List ℕ
    x_of h ds = flat_map (vertex_line h ds (pins_in v)) h.vertices

    abbrev y_of : Skeleton → List ℕ
    y_of h = flat_map (edge_line h) (zip h.edges (map words (forward_darts v)))

    -- the text by its parts, for the graph and the darts that it is of
    abbrev by_parts : Subdivision → Skeleton → List Dart → List ℕ
    by_parts S h ds = title word (length h.vertices) (length h.edges) (length S.faces) ++ (x_of h ds ++ (y_of h ++ (flat_map (face_lines S more) (numbered 0 S.faces) ++ codes "end\n")))

    text_by_parts : (S : Subdivision) → text_by word more S written ≡ by_parts S S.graph S.darts
    unfolding text_by title ended
    text_by_parts S = refl

    darts_of : (g : Skeleton) → (subdivision g).darts ≡ darts g
    unfolding subdivision
    darts_of g = refl

    turned : (t x y u e : List ℕ) → (((t ++ x) ++ y) ++ u) ++ e ≡ t ++ (x ++ (y ++ (u ++ e)))
    turned t x y u e = simp append_assoc

    in_all :
        (((title word (length (skeleton_of v).vertices) (length (skeleton_of v).edges) (length (subdivision (skeleton_of v)).faces) ++ x_of (skeleton_of v) (darts (skeleton_of v)))
        ++ y_of (skeleton_of v)) ++ flat_map (face_lines (subdivision (skeleton_of v)) more) (numbered 0 (subdivision (skeleton_of v)).faces)) ++ codes "end\n" ≡ text_by word more (subdivision (skeleton_of v)) written
    in_all =
        let S : Subdivision = subdivision (skeleton_of v) in
        turned (title word (length (skeleton_of v).vertices) (length (skeleton_of v).edges) (length S.faces)) (x_of (skeleton_of v) (darts (skeleton_of v))) (y_of (skeleton_of v)) (flat_map (face_lines S more) (numbered 0 S.faces)) (codes "end\n")
        ∙ ap (λ (h : Skeleton). by_parts S h (darts (skeleton_of v))) (sym (graph_is (skeleton_of v)))
        ∙ ap (λ (ds : List Dart). by_parts S S.graph ds) (sym (darts_of (skeleton_of v)))
        ∙ sym (text_by_parts S)

    pub assembled : {T E : Type 0} (r : Result T E) (n m k : ℕ) (from a b c d z : List ℕ) → n ≡ length (skeleton_of v).vertices → m ≡ length (skeleton_of v).edges → k ≡ length (subdivision (skeleton_of v)).faces
        → a ≡ from ++ title word n m k → b ≡ a ++ flat_map (vertex_line (skeleton_of v) (darts (skeleton_of v)) (pins_in v)) (skeleton_of v).vertices → c ≡ b ++ flat_map (edge_line (skeleton_of v)) (zip (skeleton_of v).edges (map words (forward_darts v)))
        → d ≡ c ++ flat_map (face_lines (subdivision (skeleton_of v)) more) (numbered 0 (subdivision (skeleton_of v)).faces) → OnOk r (z ≡ d ++ codes "end\n") → OnOk r (z ≡ from ++ text_by word more (subdivision (skeleton_of v)) written)
    assembled r n m k from a b c d z e f g h i j l p =
        let S : Subdivision = subdivision (skeleton_of v) in
        let t : List ℕ = title word (length (skeleton_of v).vertices) (length (skeleton_of v).edges) (length S.faces) in
        let x : List ℕ = flat_map (vertex_line (skeleton_of v) (darts (skeleton_of v)) (pins_in v)) (skeleton_of v).vertices in
        let y : List ℕ = flat_map (edge_line (skeleton_of v)) (zip (skeleton_of v).edges (map words (forward_darts v))) in
        let w : List ℕ = flat_map (face_lines S more) (numbered 0 S.faces) in
        let first : a ≡ from ++ t = h ∙ ap (λ (q : ℕ). from ++ title word q m k) e ∙ ap (λ (q : ℕ). from ++ title word (length (skeleton_of v).vertices) q k) f ∙ ap (λ (q : ℕ). from ++ title word (length (skeleton_of v).vertices) (length (skeleton_of v).edges) q) g in
        let two = then_appended from a b t x first i in
        let three = then_appended from b c (t ++ x) y two j in
        let four = then_appended from c d ((t ++ x) ++ y) w three l in
        joined r from d z (((t ++ x) ++ y) ++ w) (codes "end\n") (text_by word more S written) four p in_all
