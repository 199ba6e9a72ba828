-- The rank that location answers names the face of the point's cell.
use Rattle.std.proofs.Common.{◌≡◌, ℕ, ◌<◌, true, sym, ap, subst, ◌∙◌, length, get_or}
use Rattle.std.specs.Prelude.{Option, Some, None}
use Rattle.std.specs.List.{position_or_len}
use Rattle.std.proofs.lemmas.Option.{slice_get-get_or}
use Rattle.std.proofs.lemmas.List.Sums.{passes_at_first}
use Rattle.exact_plane.specs.Point.{Point}
use Rattle.plane_graphs.specs.Graph.{Edge}
use Rattle.slab_laws.specs.declared.slab_cell.SlabCell.{SlabCell}
use Rattle.slab_laws.specs.declared.cell.Cell.TheVariants.{Face}
use Rattle.slab_laws.specs.Slabs.{left_cell}
use Rattle.slab_laws.specs.Faces.{face_labels, face_of, same_cell}
use Rattle.slab_laws.specs.Subdivision.{subdivision, holds_in, spot_on}
use Rattle.slab_faces.specs.EveryFaceLaws.{FaceIsTheCells}
use Rattle.slab_faces.proofs.FacesLemmas.{cells_exact}
use Rattle.slab_faces.proofs.Located.{location_is_one}

rank_from : (o : Option Point) (e : Option Edge) (k n : ℕ) → spot_on o e k ≡ Face n → k ≡ n
unfolding spot_on
rank_from (Some x) e k n h = absurd (cc)
rank_from None (Some x) k n h = absurd (cc)
rank_from None None k n h = cc

pub face_is_the_cells : FaceIsTheCells
unfolding holds_in subdivision
face_is_the_cells g q k plane Q h =
    let f : SlabCell = face_of (face_labels g) (left_cell g q) in
    let fs = (subdivision g).faces in
    let at : position_or_len (same_cell f) fs ≡ k = rank_from _ _ _ k h in
    let l : k < length fs = (location_is_one g q plane Q).face_is_there k h in
    let p = passes_at_first (same_cell f) fs f (subst (λ n. n < length fs) (sym at) l) in
    let e : f ≡ get_or fs k f = cells_exact.path f (get_or fs k f) (subst (λ n. same_cell f (get_or fs n f) ≡ true) at p) in
    slice_get-get_or fs k f l ∙ ap Some (sym e)
