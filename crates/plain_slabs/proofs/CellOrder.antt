-- The order of cells.
use Rattle.std.proofs.Common.{◌≡◌, true, false, Less, Equal, is_eq, ap, ◌∙◌, arith}
use Rattle.std.specs.Ordering.{eq_by_cmp}
use Rattle.std.specs.Cmp.{IsTotalOrder, IsEquivalence, then_total, on_total, nat_cmp_total}
use Rattle.std.proofs.lemmas.Bool.Decides.{nat_tests}
use Rattle.slab_laws.specs.declared.slab_cell.SlabCell.{SlabCell}
use Rattle.slab_laws.specs.Faces.{same_cell, cell_below}
use Rattle.slab_faces.proofs.FacesLemmas.{cells_exact}
use Rattle.plain_slabs.specs.CellLabels.{cell_cmp}

pub cell_cmp_total : IsTotalOrder cell_cmp
cell_cmp_total = then_total (on_total (λ c. c.slab) nat_cmp_total) (on_total (λ c. c.place) nat_cmp_total)

-- the order ties the same cells as the test does
pub cell_ties : (c d : SlabCell) → same_cell c d ≡ eq_by_cmp cell_cmp c d
cell_ties c d = grind (arith, nat_tests)

pub tied_is : (c d : SlabCell) → cell_cmp c d ≡ Equal → c ≡ d
tied_is c d e = cells_exact.path c d (cell_ties c d ∙ ap is_eq e)

pub less_below : (c d : SlabCell) → cell_cmp c d ≡ Less → cell_below c d ≡ true
less_below c d e = grind (arith, nat_tests)

pub less_differs : (c d : SlabCell) → cell_cmp c d ≡ Less → same_cell c d ≡ false
less_differs c d e = cell_ties c d ∙ ap is_eq e

pub cell_equivalence : IsEquivalence same_cell
cell_equivalence = record { refl = λ c. cells_exact.itself c; symm = λ c d. symm c d; congr = λ c d e h. ap (λ x. same_cell x e) (cells_exact.path c d h) }
  where
    symm : (c d : SlabCell) → same_cell c d ≡ same_cell d c
    symm c d = grind (arith, nat_tests)
