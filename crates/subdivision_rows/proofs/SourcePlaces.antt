-- The darts out of a vertex stand side by side in the list.
use Rattle.std.proofs.Common.{◌≡◌, ℕ, ◌<◌, ◌≤◌, true, false, arith, sym, subst, inl, inr, List, length, get_or, Less}
use Rattle.std.specs.List.Sorted.{IsPartitionedBy, IsPartitionPoint}
use Rattle.std.specs.Ordering.{nat_cmp, bool_cmp, ordering_then}
use Rattle.std.proofs.lemmas.Bool.{cases_lt, ltb-true, ltb-false, lt-ltb}
use lib.Dec.{ltb}
use Rattle.integers.proofs.Tests.{nat_exact, less_nat, first_less}
use Rattle.plane_graphs.specs.Ascending.{IsAscending}
use Rattle.plane_graphs.proofs.Sorting.{parted, rises}
use Rattle.slab_laws.specs.declared.rows.ListedDart.{ListedDart}
use Rattle.slab_faces.proofs.PlaneGraphs.{counts}
use Rattle.dart_orbits.proofs.Listed.{rows_ascend}
use Rattle.dart_orbits.proofs.RowOrder.{row_cmp}
use Rattle.subdivision_rows.specs.Listed.{skeleton_in}
use Rattle.subdivision_rows.specs.RowsInMemory.{drawing_of, AreSoundRows}
use Rattle.subdivision_rows.specs.declared.lists.RowLists.{RowLists}
use Rattle.subdivision_rows.proofs.Items.{no_row}

-- sources don't fall along rows
pub sources_rise : (x y : ListedDart) → row_cmp x y ≡ Less → x.source ≤ y.source
sources_rise x y h = elim (first_less (nat_cmp x.source y.source) (ordering_then (nat_cmp x.target y.target) (ordering_then (nat_cmp x.edge y.edge) (bool_cmp x.forward y.forward))) h) [
  | inl a ↦ (let k = less_nat x.source y.source a in omega arith)
  | inr b ↦ (let k = nat_exact x.source y.source b in omega arith)
]

pub sources_parted : (rows : List ListedDart) → IsAscending row_cmp rows → (v : ℕ) → IsPartitionedBy (λ (r : ListedDart). ltb r.source v) rows
sources_parted rows up v = parted row_cmp (λ (r : ListedDart). ltb r.source v) rows up (λ x y _ _ h t. let l = ltb-true y.source v t in let k = sources_rise x y h in lt-ltb x.source v (omega arith))

module _ (a : RowLists) (k : AreSoundRows a) where
  up : IsAscending row_cmp a.darts.items
  up = subst (IsAscending row_cmp) (sym k.darts) (rows_ascend (skeleton_in (drawing_of a)) (counts (drawing_of a).graph k.plane) k.plane.points_ascend)

  pub parted_sources : (v : ℕ) → IsPartitionedBy (λ (r : ListedDart). ltb r.source v) a.darts.items
  parted_sources = sources_parted a.darts.items up

  -- the first dart that could go out of the vertex doesn't, and so none does
  pub none_there : (v n : ℕ) → IsPartitionPoint (λ (r : ListedDart). ltb r.source v ≡ true) (λ (r : ListedDart). ltb r.source v ≡ false) a.darts.items n → (n < length a.darts.items → (get_or a.darts.items n no_row).source ≡ v → ⊥) → (j : ℕ) → j < length a.darts.items → (get_or a.darts.items j no_row).source ≡ v → ⊥
  none_there v n cut f j l e =
      elim (cases_lt j n) [
        | inl b ↦ absurd (let t = ltb-true (get_or a.darts.items j no_row).source v (cut.0 j no_row (omega arith) b) in omega arith)
        | inr b ↦
            let N : n < length a.darts.items = omega arith in
            let w = ltb-false (get_or a.darts.items n no_row).source v (cut.1 n no_row (omega arith) N) in
            elim (cases_lt n j) [
              | inl c ↦ (let r = sources_rise (get_or a.darts.items n no_row) (get_or a.darts.items j no_row) (rises row_cmp a.darts.items up n j no_row c l) in f N (omega arith))
              | inr c ↦ (let q : j ≡ n = omega arith in f N (subst (λ i. (get_or a.darts.items i no_row).source ≡ v) q e))
            ]
      ]
