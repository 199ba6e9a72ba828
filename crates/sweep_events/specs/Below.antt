-- What is directly below the last event of a sweep.
use Rattle.std.specs.Prelude.{◌≡◌, ◌⊎◌, ◌<◌, ℕ, pos, ◌<ℤ◌, length, Option, None, Some}
use Rattle.std.specs.declared.cmp.Ordering.TheVariants.{Less}
use Rattle.exact_plane.specs.Line.{side_of}
use Rattle.exact_plane.specs.Point.{Point}
use Rattle.exact_plane.specs.Span.{Span}
use Rattle.sweep_events.specs.Places.{piece_at}
use Rattle.sweep_events.specs.Status.{IsMet, status_cmp}
use Rattle.sweep_events.specs.Sweep.{Swept}

module _ (piece : ℕ → Span) (n : ℕ) where
  -- one of the first n pieces that the sweep's line through q meets strictly below q
  abbrev pub PassesBelow : Point → ℕ → Type 0
  PassesBelow q i = (i < n) × IsMet q (piece i) × (pos 0 <ℤ side_of (piece i).line q)

  -- the highest of them, the last by place of those of one line; none where there is none (Fogel, Halperin and Wein: the predecessor in the status line)
  abbrev pub IsPieceBelow : Point → Option ℕ → Type 0
  IsPieceBelow q None = (i : ℕ) → PassesBelow q i → ⊥
  IsPieceBelow q (Some j) = PassesBelow q j × ((i : ℕ) → PassesBelow q i → (i ≡ j) ⊎ (status_cmp piece q i j ≡ Less))

  -- that of what was last; none, where nothing was
  abbrev pub IsPieceBelowAfter : Option Point → Option ℕ → Type 0
  IsPieceBelowAfter None o = o ≡ None
  IsPieceBelowAfter (Some q) o = IsPieceBelow q o

-- it is the piece directly below the sweep's last event
abbrev pub IsBelowLast : Swept → Option ℕ → Type 0
IsBelowLast s = IsPieceBelowAfter (piece_at s.pieces) (length s.pieces) s.last
