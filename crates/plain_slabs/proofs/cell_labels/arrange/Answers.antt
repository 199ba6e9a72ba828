use Rattle.std.proofs.Common.{◌∙◌}
use Rattle.std.specs.List.{dedup}
use Rattle.std.proofs.lemmas.List.Filters.{dedup_is}
use Rattle.std.proofs.lemmas.List.Kept.{Contains-dedup, Contains-from_dedup, IsStrictlySortedBy-dedup}
use Rattle.std.proofs.lemmas.List.Sorted.{Contains-permutation, IsPermutation-sym}
use Rattle.plane_graphs.proofs.Ascending.{ascending_is, from_std, to_member, from_member}
use Rattle.slab_laws.specs.Faces.{same_cell}
use Rattle.slab_faces.proofs.FacesLemmas.{cells_exact}
use Rattle.plain_slabs.specs.CellLabels.{cell_cmp}
use Rattle.plain_slabs.proofs.CellOrder.{cell_cmp_total, cell_ties, tied_is, cell_equivalence}
use Rattle.plain_slabs.proofs.cell_labels.arrange.Goals as goal

pub returns : goal.returns
returns c =
    let old = c.args.cells.now.items in
    let mid = c.sort_unstable.new.self.items in
    let moved = c.sort_unstable.ensures.permutation in
    dedup_is same_cell mid _ c.dedup.ensures.filtered
    ∙ ascending_is cell_cmp cell_cmp_total old (dedup same_cell mid) (λ x y _ _ e. tied_is x y e)
    (from_std cell_cmp _ (IsStrictlySortedBy-dedup cell_cmp_total cell_ties mid c.sort_unstable.ensures.sorted))
    (λ x m. to_member old x (Contains-permutation _ _ x (IsPermutation-sym _ _ moved) (Contains-from_dedup same_cell mid x (from_member _ x m))))
    (λ x m. to_member _ x (Contains-dedup cell_equivalence cells_exact.path mid x (Contains-permutation _ _ x moved (from_member old x m))))
