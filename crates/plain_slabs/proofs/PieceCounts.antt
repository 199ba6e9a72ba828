-- The pieces of a layer that hold an edge, one edge more.
use Rattle.std.proofs.Common.{◌≡◌, ℕ, ◌+◌, Bool, cond, refl, sym, ap, ◌∙◌, List, [], ◌∷◌, ◌++◌, map}
use Rattle.std.specs.List.{count_by}
use Rattle.std.proofs.lemmas.List.Sums.{sum_by-cons}
use Rattle.plane_graphs.specs.Graph.{Edge}
use Rattle.plane_graphs.specs.Piece.{Piece}
use Rattle.set_laws.specs.PolygonSets.{pieces_along}
use Rattle.slab_laws.specs.declared.present.Piece.{Piece as PieceInMemory}
use Rattle.slab_laws.specs.declared.present.Present.{Present as PresentInMemory}
use Rattle.slab_laws.specs.Overlay.{runs_along}
use Rattle.slab_laws.specs.Pieces.{piece_of, present_of}

counted : (r : Piece → Bool) (ks : List PieceInMemory) → count_by r (map piece_of ks) ≡ count_by (λ k. r (piece_of k)) ks
counted r [] = refl
counted r (k ∷ ks) = sum_by-cons (λ x. cond (r x) 1 0) (piece_of k) (map piece_of ks) ∙ ap (λ n. cond (r (piece_of k)) 1 0 + n) (counted r ks) ∙ sym (sum_by-cons (λ x. cond (r (piece_of x)) 1 0) k ks)

pub along_is : (layer : PresentInMemory) (e : Edge) (n : ℕ) (ks : List PieceInMemory) → ks ≡ layer.pieces → n ≡ count_by (λ k. runs_along e (piece_of k)) ks → n ≡ pieces_along (present_of layer) e
unfolding pieces_along
along_is layer e n ks q r = r ∙ ap (count_by (λ k. runs_along e (piece_of k))) q ∙ sym (counted (runs_along e) layer.pieces)
