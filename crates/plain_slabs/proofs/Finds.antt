-- What is found first in a list, and what location makes of it.
use Rattle.std.proofs.Common.{◌≡◌, ℕ, Bool, true, false, cond, refl, sym, ap, ◌∙◌, List, [], ◌∷◌, map, Some, None}
use Rattle.std.specs.Prelude.{find}
use Rattle.std.specs.List.{position_or_len}
use Rattle.std.specs.Option.{option_map}
use Rattle.exact_plane.specs.Point.{Point}
use Rattle.exact_plane.specs.Span.{Span}
use Rattle.slab_laws.specs.SpansDrawn.{edge_of, drawn}
use Rattle.slab_laws.specs.Skeleton.{Skeleton, same_point, inside}
use Rattle.slab_laws.specs.Slabs.{left_cell}
use Rattle.slab_laws.specs.declared.slab_cell.SlabCell.{SlabCell}
use Rattle.slab_laws.specs.declared.cell.Cell.TheVariants.{Vertex, Edge as OnEdge, Face}
use Rattle.slab_laws.specs.Classes.{class_of}
use Rattle.slab_laws.specs.Faces.{same_cell, face_labels, face_of}
use Rattle.slab_laws.specs.Subdivision.{spot_on, subdivision, holds_in, holds}
use Rattle.subdivision_rows.specs.Listed.{Drawing, skeleton_in, subdivision_in}
use Rattle.subdivision_rows.specs.declared.lists.RowLists.{RowLists}
use Rattle.subdivision_rows.specs.RowsInMemory.{drawing_of, AreSoundRows}
use Rattle.subdivision_rows.proofs.RowsDrawn.{drawn_here}
use Rattle.plain_slabs.specs.declared.plain.Plain.TheInside.{Inside}
use Rattle.plain_slabs.specs.SubdivisionInMemory.{IsSoundSubdivision}

find_map : {X Y : Type 0} (f : X → Y) (p : Y → Bool) (xs : List X) → find p (map f xs) ≡ option_map f (find (λ x. p (f x)) xs)
find_map f p [] = refl
find_map f p (x ∷ xs) = step (p (f x)) (find_map f p xs)
  where
    step : (b : Bool) → find p (map f xs) ≡ option_map f (find (λ x. p (f x)) xs) → cond b (Some (f x)) (find p (map f xs)) ≡ option_map f (cond b (Some x) (find (λ x. p (f x)) xs))
    step true e = refl
    step false e = e

-- location by the parts of the subdivision
located : (g : Skeleton) (q : Point) → holds (subdivision g) q ≡ spot_on (find (same_point q) g.vertices) (find (λ e. inside e q) g.edges) (position_or_len (same_cell (face_of (face_labels g) (left_cell g q))) (subdivision g).faces)
unfolding holds_in subdivision
located g q = refl

module _ (a : RowLists) (d : Drawing) (k : AreSoundRows a) (is : drawing_of a ≡ d) (q : Point) where
  by_lists : holds (subdivision_in d) q ≡ spot_on (find (same_point q) a.points.items) (find (λ e. inside e q) (map edge_of a.edges.items)) (position_or_len (same_cell (face_of (face_labels (skeleton_in d)) (left_cell (skeleton_in d) q))) (subdivision_in d).faces)
  by_lists =
      located (skeleton_in d) q
      ∙ (λ i. spot_on (find (same_point q) (sym (drawn_here a d k is) i).vertices) (find (λ e. inside e q) (sym (drawn_here a d k is) i).edges) (position_or_len (same_cell (face_of (face_labels (skeleton_in d)) (left_cell (skeleton_in d) q))) (subdivision_in d).faces))

  pub on_vertex : (v : Point) → find (same_point q) a.points.items ≡ Some v → Vertex v ≡ holds (subdivision_in d) q
  unfolding spot_on
  on_vertex v e = sym (by_lists ∙ ap (λ o. spot_on o (find (λ e. inside e q) (map edge_of a.edges.items)) (position_or_len (same_cell (face_of (face_labels (skeleton_in d)) (left_cell (skeleton_in d) q))) (subdivision_in d).faces)) e)

  pub on_edge : (s : Span) (l h : Point) → find (same_point q) a.points.items ≡ None → find (λ s. inside (edge_of s) q) a.edges.items ≡ Some s → l ≡ s.lower → h ≡ s.upper → OnEdge l h ≡ holds (subdivision_in d) q
  unfolding spot_on
  on_edge s l h n e el eh =
      (λ i. OnEdge (el i) (eh i))
      ∙ sym (by_lists ∙ (λ i. spot_on (n i) ((find_map edge_of (λ e. inside e q) a.edges.items ∙ ap (option_map edge_of) e) i) (position_or_len (same_cell (face_of (face_labels (skeleton_in d)) (left_cell (skeleton_in d) q))) (subdivision_in d).faces)))

  pub in_face : (b : Inside) → IsSoundSubdivision b → b.rows ≡ d → (c f : SlabCell) (r : ℕ) → find (same_point q) a.points.items ≡ None → find (λ s. inside (edge_of s) q) a.edges.items ≡ None → c ≡ left_cell (drawn a.points.items a.edges.items) q → f ≡ class_of same_cell b.labels c → r ≡ position_or_len (same_cell f) b.faces.items → Face r ≡ holds (subdivision_in d) q
  unfolding spot_on
  in_face b s here c f r n e ec ef er =
      let c' : c ≡ left_cell (skeleton_in d) q = ec ∙ ap (λ g. left_cell g q) (drawn_here a d k is) in
      let f' : f ≡ face_of (face_labels (skeleton_in d)) (left_cell (skeleton_in d) q) = ef ∙ s.labels c ∙ (λ i. face_of (face_labels (skeleton_in (here i))) (c' i)) in
      let fs : b.faces.items ≡ (subdivision_in d).faces = s.faces ∙ ap (λ (d : Drawing). (subdivision_in d).faces) here in
      ap Face (er ∙ (λ i. position_or_len (same_cell (f' i)) (fs i)))
      ∙ sym (by_lists ∙ (λ i. spot_on (n i) ((find_map edge_of (λ e. inside e q) a.edges.items ∙ ap (option_map edge_of) e) i) (position_or_len (same_cell (face_of (face_labels (skeleton_in d)) (left_cell (skeleton_in d) q))) (subdivision_in d).faces)))
