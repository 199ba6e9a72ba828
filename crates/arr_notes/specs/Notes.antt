-- What notes make of an observer.
use Rattle.std.specs.Prelude.{◌≡◌, ℕ, ◌-◌, ◌==◌, Bool, false, List, [], ◌∷◌, ◌++◌, Option, Some, None}
use Rattle.arr_notes.specs.CurvedView.{CurvedView, IsSoundView, FitsView, step_view}
use Rattle.arr_notes.specs.declared.change.Change.{Change}
use Rattle.arr_notes.specs.declared.note.Note.{Note}
use Rattle.arr_notes.specs.declared.note.Note.TheVariants.{Before, After, Snapshot}

-- the change fits a view that is held, and what it makes of it is sound
abbrev pub FitsHeld : Option CurvedView → Change → Type 0
FitsHeld None c = Unit {0}
FitsHeld (Some w) c = FitsView w.graph c × IsSoundView (step_view w c)

-- a note may be told: a snapshot is sound, and a change fits the view that is held (CGAL manual, `Arr_observer`; the rest: this project)
abbrev pub FitsNote : Option CurvedView → Note → Type 0
FitsNote o (Before i) = Unit {0}
FitsNote o (After c) = FitsHeld o c
FitsNote o (Snapshot w) = IsSoundView w

abbrev pub changed_held : Option CurvedView → Change → Option CurvedView
changed_held None c = None
changed_held (Some w) c = Some (step_view w c)

-- the view that is held after a note: the one before it, changed, or the one that was handed over
abbrev pub held_after : Option CurvedView → Note → Option CurvedView
held_after o (Before i) = o
held_after o (After c) = changed_held o c
held_after o (Snapshot w) = Some w

abbrev pub one_less : Option ℕ → Option ℕ
one_less None = None
one_less (Some k) = Some (k - 1)

-- how many notes are left after one; a snapshot isn't counted
abbrev pub left_after : Option ℕ → Note → Option ℕ
left_after o (Before i) = one_less o
left_after o (After c) = one_less o
left_after o (Snapshot w) = o

abbrev pub is_one : Option ℕ → Bool
is_one None = false
is_one (Some k) = k == 1

-- the note is the last that is counted
abbrev pub is_last : Option ℕ → Note → Bool
is_last o (Before i) = is_one o
is_last o (After c) = is_one o
is_last o (Snapshot w) = false

-- what was heard, and one note more
abbrev pub heard_after : Option (List Note) → Note → Option (List Note)
heard_after None n = None
heard_after (Some ns) n = Some (ns ++ n ∷ [])

-- this view is held
abbrev pub IsHeld : Option CurvedView → CurvedView → Type 0
IsHeld o w = o ≡ Some w
