-- How many cells of each kind the lists of a subdivision have.
use Rattle.std.proofs.Common.{◌≡◌, ℕ, ◌+◌, Bool, true, false, cond, refl, sym, ap, ◌∙◌, List, [], ◌∷◌, map, length, fold}
use Rattle.std.specs.Prelude.{not, ◌||◌, filter}
use Rattle.std.specs.List.{count_by, list_any}
use Rattle.std.proofs.lemmas.List.{length-map}
use Rattle.std.proofs.lemmas.List.Sums.{length-filter}
use Rattle.exact_plane.specs.Span.{Span}
use Rattle.slab_laws.specs.SpansDrawn.{edge_of, drawn}
use Rattle.slab_laws.specs.Faces.{face_labels, face_of}
use Rattle.slab_laws.specs.Kinds.{kind_by, is_outer}
use Rattle.slab_laws.specs.Skeleton.{Skeleton, same_point}
use Rattle.slab_laws.specs.Slabs.{left_cell}
use Rattle.slab_laws.specs.Subdivision.{Cycle, subdivision, has_dart}
use Rattle.slab_laws.specs.declared.names.CycleKind.{CycleKind}
use Rattle.subdivision_rows.specs.Listed.{Drawing, subdivision_in}
use Rattle.subdivision_rows.specs.declared.lists.RowLists.{RowLists}
use Rattle.subdivision_rows.specs.RowsInMemory.{drawing_of, AreSoundRows}
use Rattle.subdivision_rows.proofs.RowsDrawn.{drawn_here}
use Rattle.subdivision_rows.proofs.CycleLists.{kinds_here}
use Rattle.plain_slabs.proofs.LeadRows.{dart_told}

as_it_was : (b : Bool) → is_outer (kind_by b) ≡ b
as_it_was true = refl
as_it_was false = refl

kinds_from : (n : ℕ) (cs : List Cycle) → fold (λ m (k : CycleKind). m + cond (not (is_outer k)) 1 0) n (map (λ c. kind_by c.outer) cs) ≡ fold (λ m (c : Cycle). m + cond (not c.outer) 1 0) n cs
kinds_from n [] = refl
kinds_from n (c ∷ cs) = ap (λ b. fold (λ m (k : CycleKind). m + cond (not (is_outer k)) 1 0) (n + cond (not b) 1 0) (map (λ c. kind_by c.outer) cs)) (as_it_was c.outer) ∙ kinds_from (n + cond (not c.outer) 1 0) cs

same_tests : {X : Type 0} (p q : X → Bool) (xs : List X) → ((x : X) → p x ≡ q x) → count_by p xs ≡ count_by q xs
same_tests p q xs f = λ i. count_by (λ x. f x i) xs

bare_are : (g : Skeleton) → length (subdivision g).bare ≡ count_by (λ p. not (has_dart g p)) g.vertices
unfolding subdivision
bare_are g = length-map (filter (λ p. not (has_dart g p)) g.vertices) (λ p. record { point = p; face = face_of (face_labels g) (left_cell g p) }) ∙ length-filter (λ p. not (has_dart g p)) g.vertices

module _ (a : RowLists) (d : Drawing) (k : AreSoundRows a) (is : drawing_of a ≡ d) where
  pub vertices_many : (n : ℕ) → n ≡ length a.points.items → n ≡ length (subdivision_in d).graph.vertices
  unfolding subdivision
  vertices_many n e = e ∙ ap (λ g. length g.vertices) (drawn_here a d k is)

  pub edges_many : (n : ℕ) → n ≡ length a.edges.items → n ≡ length (subdivision_in d).graph.edges
  unfolding subdivision
  edges_many n e = e ∙ sym (length-map a.edges.items edge_of) ∙ ap (λ g. length g.edges) (drawn_here a d k is)

  pub inner_many : (n : ℕ) → n ≡ count_by (λ (k : CycleKind). not (is_outer k)) a.kinds.items → n ≡ count_by (λ (c : Cycle). not c.outer) (subdivision_in d).cycles
  inner_many n e = e ∙ ap (count_by (λ (k : CycleKind). not (is_outer k))) (kinds_here a d k is) ∙ kinds_from 0 (subdivision_in d).cycles

  pub isolated_many : (n : ℕ) → n ≡ count_by (λ p. not (list_any (λ (s : Span). same_point s.lower p || same_point s.upper p) a.edges.items)) a.points.items → n ≡ length (subdivision_in d).bare
  isolated_many n e =
      let g : Skeleton = drawn a.points.items a.edges.items in
      e
      ∙ same_tests (λ p. not (list_any (λ (s : Span). same_point s.lower p || same_point s.upper p) a.edges.items)) (λ p. not (has_dart g p)) a.points.items (λ p. ap not (dart_told a.points.items a.edges.items p))
      ∙ sym (bare_are g)
      ∙ ap (λ g. length (subdivision g).bare) (drawn_here a d k is)
