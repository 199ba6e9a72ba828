-- Once all darts of a cycle are on another one, none is on it.
use Rattle.std.proofs.Common.{◌≢◌, ◌==◌, cond, inl, inr, ap, sym, ◌∙◌}
use Rattle.integers.proofs.Tests.{same_number}
use Rattle.slab_laws.specs.declared.names.CycleId.{CycleId}
use Rattle.slab_laws.specs.declared.names.DartId.{DartId}
use Rattle.slab_laws.specs.Tables.{row_at}
use Rattle.slab_laws.specs.View.{View, Faces, HasDart, cycle_or, cycle_in}
use Rattle.arr_notes.specs.FaceWriters.{recycled}
use Rattle.arr_notes.proofs.RowLaws.{row_at-each}
use Rattle.face_steps.specs.RowsWritten.{AreDartRows}
use Rattle.face_steps.proofs.CyclesApart.{cycle_cases}
use Rattle.face_steps.proofs.FaceRows.{map_cycle, swap_miss}

module _ (f : Faces) (gone kept : CycleId) (two : kept ≢ gone) where
  abbrev swap : CycleId → CycleId
  swap c = cond (c.0 == gone.0) kept c

  swapped : (c : CycleId) → swap c ≢ gone
  swapped c e = elim (cycle_cases c gone) [
    | inl q ↦ two (sym (ap swap q ∙ ap (λ b. cond b kept gone) (same_number gone.0)) ∙ e)
    | inr n ↦ n (sym (swap_miss gone kept c n) ∙ e)
  ]

  pub none_left : (v : View) → AreDartRows v f → (k : DartId) → HasDart v k → cycle_in (recycled gone kept f) k ≢ gone
  none_left v rows k o e = swapped (cycle_in f k) (sym (ap cycle_or (row_at-each (λ _. swap) f.cycle_of k.0) ∙ map_cycle swap (row_at f.cycle_of k.0) ((rows.cycle_rows k).0 o)) ∙ e)
