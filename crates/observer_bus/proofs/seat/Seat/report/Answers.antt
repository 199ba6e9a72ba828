use Rattle.std.proofs.Common.{refl, IsTrue, subst}
use mathlib.Core.List.{mem-append_right}
use Rattle.arr_notes.specs.Notes.{IsHeld}
use Rattle.observer_bus.proofs.seat.Seat.report.Goals as goal

pub report-requires : goal.report-requires
report-requires g c κs = (
  refl,
  λ i. (
    tt,
    (
      λ a m. i a (mem-append_right κs.0 m),
      λ w t h. let e = c.deref_box-1.ensures in
          c.requires w (subst (λ b. IsTrue ((goal.Observer-dyn g b).tells b.1)) e.1 t) (subst (λ b. IsHeld ((goal.Observer-dyn g b).held b.1) w) e.1 h),
    ),
  ),
)
