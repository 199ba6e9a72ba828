-- The labels of faces, as they are found.
use Rattle.std.proofs.Common.{◌≡◌, ℕ, ap, ap₂, ◌∙◌, List, map}
use Rattle.std.specs.List.{position_or_len}
use Rattle.exact_plane.specs.Point.{Point}
use Rattle.exact_plane.specs.Span.{Span}
use Rattle.plane_graphs.specs.Graph.{Graph, graph}
use Rattle.plane_graphs.specs.Piece.{Present}
use Rattle.slab_laws.specs.declared.slab_cell.SlabCell.{SlabCell}
use Rattle.slab_laws.specs.Classes.{class_of}
use Rattle.slab_laws.specs.SpansDrawn.{drawn}
use Rattle.slab_laws.specs.Skeleton.{Skeleton}
use Rattle.slab_laws.specs.Faces.{same_cell}
use Rattle.slab_laws.specs.Subdivision.{Subdivision, subdivision, rank}
use Rattle.slab_laws.specs.Overlay.{plane_of, label, curves_along}
use Rattle.slab_laws.specs.Layers.{LayerRows, rows_of}
use Rattle.plain_slabs.specs.declared.layer_cells.LayerEdge.{LayerEdge}
use Rattle.plain_slabs.specs.declared.plain.Plain.TheInside.{Inside}
use Rattle.plain_slabs.specs.LayerEdges.{slab_beside, layer_edge, cell_among, rank_in}
use Rattle.subdivision_rows.specs.Listed.{Drawing, subdivision_in}
use Rattle.plain_slabs.specs.SubdivisionInMemory.{IsSoundSubdivision}
use Rattle.plain_slabs.proofs.LayerCells.{cell_is}

module _ (a : Inside) (d : Drawing) (k : IsSoundSubdivision a) (is : a.rows ≡ d) where
  pub faces_here : a.faces.items ≡ (subdivision_in d).faces
  faces_here = k.faces ∙ ap (λ (d : Drawing). (subdivision_in d).faces) is

  -- the rank of a cell's face
  pub rank_is : (c least : SlabCell) (fs : List SlabCell) (n : ℕ) → least ≡ class_of same_cell a.labels c → fs ≡ a.faces.items → n ≡ position_or_len (same_cell least) fs → n ≡ rank_in (subdivision_in d) c
  unfolding rank subdivision
  rank_is c least fs n l f e = e ∙ ap₂ (λ x ys. position_or_len (same_cell x) ys) (l ∙ k.labels c) (f ∙ k.faces) ∙ ap (λ (d : Drawing). rank_in (subdivision_in d) c) is

-- the layer's own subdivision, and the cells of its faces
pub label_of : (layer : Present) (vs : List Point) (ss : List Span) (own : Subdivision) (es : List LayerEdge) (ns : List ℕ) → own ≡ subdivision (plane_of layer) → es ≡ map (layer_edge layer vs) ss → ns ≡ map (slab_beside vs) (plane_of layer).vertices → (f : SlabCell) → rank_in own (cell_among es ns f) ≡ label layer (drawn vs ss) f
unfolding label
label_of layer vs ss own es ns s e n f = ap₂ rank_in s (ap (λ es. cell_among es ns f) e ∙ cell_is layer vs ss ns f n)

pub labels_are : (layer : Present) (vs : List Point) (ss : List Span) (g : Skeleton) (own : Subdivision) (es : List LayerEdge) (ns : List ℕ) (cs fs : List SlabCell) (ls : List ℕ) → drawn vs ss ≡ g → own ≡ subdivision (plane_of layer) → es ≡ map (layer_edge layer vs) ss → ns ≡ map (slab_beside vs) (plane_of layer).vertices → cs ≡ fs → ls ≡ map (λ c. rank_in own (cell_among es ns c)) cs → ls ≡ map (label layer g) fs
labels_are layer vs ss g own es ns cs fs ls d s e n f l =
    l
    ∙ (λ i. map (λ c. label_of layer vs ss own es ns s e n c i) (f i))
    ∙ ap (λ g. map (label layer g) fs) d

-- the ranks that are found are those at equal slabs and cells
pub ranks_are : (own : Subdivision) (es : List LayerEdge) (ns ms : List ℕ) (cs fs : List SlabCell) (ls : List ℕ) → ns ≡ ms → cs ≡ fs → ls ≡ map (λ c. rank_in own (cell_among es ns c)) cs → ls ≡ map (λ c. rank_in own (cell_among es ms c)) fs
ranks_are own es ns ms cs fs ls n f l = l ∙ λ i. map (λ c. rank_in own (cell_among es (n i) c)) (f i)

-- the vertices of the layer's own subdivision
pub vertices_are : (layer : Present) (d : Drawing) (vs : List Point) → vs ≡ d.graph.points → d.graph ≡ graph layer → vs ≡ (plane_of layer).vertices
vertices_are layer d vs e g = e ∙ ap (λ (g : Graph). g.points) g

-- what is told of a layer
pub rows_are : (layer : Present) (g : Skeleton) (r : LayerRows) → r.curves ≡ map (curves_along layer) g.edges → r.labels ≡ map (label layer g) (subdivision g).faces → r ≡ rows_of layer (subdivision g)
unfolding rows_of subdivision
rows_are layer g r c l = λ i. record { curves = c i; labels = l i }
