-- What a mirror is, seen from outside.
use Rattle.std.specs.Prelude.{ℕ, Option}
use Rattle.arr_notes.specs.CurvedView.{CurvedView}

-- the view that it holds, where it holds one, and how many notes it still hears, where it counts them
pub record MirrorState : Type 0 where
  pub seen : Option CurvedView
  pub count : Option ℕ
