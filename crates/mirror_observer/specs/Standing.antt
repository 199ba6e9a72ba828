-- When a mirror's maps stand for a sound view, and each dart is known by the one that follows it.
use Rattle.std.specs.Prelude.{◌≡◌, ℕ, List, Option, Some, None, IsSome}
use Rattle.slab_laws.specs.Tables.{row_at}
use Rattle.slab_laws.specs.declared.names.DartId.{DartId}
use Rattle.slab_laws.specs.View.{DartRecord, HasDart, next_in, next_or}
use Rattle.arr_notes.specs.CurvedView.{CurvedView, IsSoundView, FitsView, step_view}
use Rattle.arr_notes.specs.declared.change.Change.{Change}
use Rattle.mirror_observer.specs.declared.tables.DartEntry.{DartEntry}
use Rattle.mirror_observer.specs.declared.tables.Tables.{Tables}
use Rattle.mirror_observer.specs.FaceTables.{faces_in}
use Rattle.mirror_observer.specs.Tables.{view_of, darts_of, previous_at}

-- the dart that follows names the dart before it
abbrev pub IsBackLinked : List (ℕ × DartEntry) → Type 0
IsBackLinked ds = (d : DartId) → HasDart (darts_of ds) d → previous_at ds (next_in (darts_of ds) d) ≡ d

-- x names the one dart that it follows
abbrev pub IsLedByOne : List (ℕ × DartEntry) → DartId → Type 0
IsLedByOne ds x = (d : DartId) → HasDart (darts_of ds) d → next_in (darts_of ds) d ≡ x → previous_at ds x ≡ d

-- what the maps say
abbrev pub view_in : Tables → CurvedView
view_in t = view_of t.vertices.entries t.darts.entries t.curves.entries (faces_in t.faces)

-- the maps stand for a sound view (this project)
pub record AreStanding (t : Tables) : Type 0 where
  pub sound : IsSoundView (view_in t)
  pub back : IsBackLinked t.darts.entries

-- the maps, where there are some, stand for a sound view
abbrev pub IsStanding : Option Tables → Type 0
IsStanding None = Unit {0}
IsStanding (Some t) = AreStanding t

-- the view that is held, where one is
abbrev pub held_in : Option Tables → Option CurvedView
held_in None = None
held_in (Some t) = Some (view_in t)

-- the change fits what the maps say, and what it makes of that is sound (this project)
pub record AreToChange (t : Tables) (c : Change) : Type 0 where
  pub standing : AreStanding t
  pub fits : FitsView (view_in t).graph c
  pub sound : IsSoundView (step_view (view_in t) c)

-- the maps say just what the change makes of what they said, and darts are known by those that follow
pub record HaveChanged (t : Tables) (c : Change) (u : Tables) : Type 0 where
  pub view : view_in u ≡ step_view (view_in t) c
  pub back : IsBackLinked u.darts.entries

-- a follower has a row, and each follows one dart
pub record IsOneToOne (rs : List (ℕ × DartRecord)) : Type 0 where
  pub has : (d : DartId) → IsSome (row_at rs d.0) → IsSome (row_at rs (next_or d (row_at rs d.0)).0)
  pub once : (d e : DartId) → IsSome (row_at rs d.0) → IsSome (row_at rs e.0) → next_or d (row_at rs d.0) ≡ next_or e (row_at rs e.0) → d ≡ e
