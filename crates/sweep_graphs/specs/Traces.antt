-- What a sweep leaves: vertices in their order, the stretches of pieces between them, and the stretch directly below each.
use Rattle.std.specs.Prelude.{◌≡◌, ◌⊎◌, ◌↔◌, ◌++◌, ◌∷◌, [], ◌<◌, ℕ, pos, List, map, length, slice_index_or, Option, None, Some}
use Rattle.std.specs.declared.cmp.Ordering.TheVariants.{Less}
use Rattle.exact_plane.specs.Point.{Point}
use Rattle.exact_plane.specs.PointOrder.{point_cmp}
use Rattle.exact_plane.specs.Span.{Span, LiesOn, IsAtMost}
use Rattle.plane_graphs.specs.Ascending.{Member, IsAscending}
use Rattle.sweep_events.specs.Below.{IsPieceBelow}
use Rattle.sweep_events.specs.declared.event.Event.{Event}
use Rattle.sweep_events.specs.Events.{IsEvent}
use Rattle.sweep_events.specs.Places.{piece_at}
use Rattle.sweep_events.specs.Status.{IsMet}
use Rattle.sweep_graphs.specs.declared.trace.OpenStretch.{OpenStretch}
use Rattle.sweep_graphs.specs.declared.trace.Stretch.{Stretch}
use Rattle.sweep_graphs.specs.declared.trace.Trace.{Trace}
use Rattle.sweep_graphs.specs.declared.trace.Tracer.{Tracer}

-- the stretch of a piece from the last vertex on it
abbrev pub stretch_to : List ℕ → ℕ → ℕ → Stretch
stretch_to lasts high i = record { low = slice_index_or lasts i 0; high = high; piece = i }

-- the open stretch of a piece, if there is one
abbrev pub open_at : List ℕ → Option ℕ → Option OpenStretch
open_at lasts None = None
open_at lasts (Some i) = Some (record { low = slice_index_or lasts i 0; piece = i })

-- a point for the places where there is none
abbrev pub no_point : Point
no_point = record { x = pos 0; y = pos 0; w = pos 0 }

-- the vertex at a place
abbrev pub point_at : List Point → ℕ → Point
point_at points k = slice_index_or points k no_point

-- the lists of a trace that is being made
pub record Traced : Type 0 where
  pub points : List Point
  pub stretches : List Stretch
  pub below : List (Option OpenStretch)
  pub lasts : List ℕ

-- its lists
abbrev pub traced_of : Tracer → Traced
traced_of t = record { points = t.trace.points; stretches = t.trace.stretches; below = t.trace.below; lasts = t.lasts.items }

module _ (piece : ℕ → Span) (n : ℕ) (pins : List Point) where
  -- an event on a piece
  abbrev pub IsEventOn : ℕ → Point → Type 0
  IsEventOn i r = IsEvent piece n pins r × LiesOn (piece i) r

  -- two that follow each other on it (Fogel, Halperin and Wein: the ends of a subcurve)
  pub record IsStep (i : ℕ) (a b : Point) : Type 0 where
    pub within : i < n
    pub first : IsEventOn i a
    pub second : IsEventOn i b
    pub ahead : point_cmp a b ≡ Less
    pub none : (r : Point) → IsEventOn i r → point_cmp a r ≡ Less → point_cmp r b ≡ Less → ⊥

  -- r comes no later than what was last, if anything was
  abbrev pub IsUpto : Option Point → Point → Type 0
  IsUpto None r = ⊥
  IsUpto (Some p) r = IsAtMost r p

  -- the last event on a piece
  pub record IsLastOn (last : Option Point) (i : ℕ) (a : Point) : Type 0 where
    pub on : IsEventOn i a
    pub upto : IsUpto last a
    pub best : (r : Point) → IsEventOn i r → IsUpto last r → IsAtMost r a

  -- the stretch is a step of its piece
  pub record IsStretch (points : List Point) (t : Stretch) : Type 0 where
    pub low_in : t.low < length points
    pub high_in : t.high < length points
    pub step : IsStep t.piece (point_at points t.low) (point_at points t.high)

  -- the open stretch is on the piece directly below q, from the last vertex on it that isn't beyond q; none, where no piece is below
  abbrev pub IsOpenBelow : List Point → Point → Option OpenStretch → Type 0
  IsOpenBelow points q None = IsPieceBelow piece n q None
  IsOpenBelow points q (Some o) = IsPieceBelow piece n q (Some o.piece) × IsLastOn (Some q) o.piece (point_at points o.low) × (o.low < length points)

  -- the piece is met just after what was last
  abbrev pub IsMetAfter : Option Point → ℕ → Type 0
  IsMetAfter None i = ⊥
  IsMetAfter (Some p) i = IsMet p (piece i)

  -- what holds of the lists after the events up to the last one
  pub record IsTraced (last : Option Point) (t : Traced) : Type 0 where
    pub ascends : IsAscending point_cmp t.points
    pub points_are : (r : Point) → Member r t.points ↔ (IsEvent piece n pins r × IsUpto last r)
    pub counted : length t.lasts ≡ n
    pub lasts_are : (i : ℕ) → i < n → IsMetAfter last i → IsLastOn last i (point_at t.points (slice_index_or t.lasts i 0)) × (slice_index_or t.lasts i 0 < length t.points)
    pub sound : (s : Stretch) → Member s t.stretches → IsStretch t.points s
    pub complete : (i : ℕ) (a b : Point) → IsStep i a b → IsUpto last b → (s : Stretch) × Member s t.stretches × (s.piece ≡ i) × (point_at t.points s.low ≡ a) × (point_at t.points s.high ≡ b)
    pub paired : length t.below ≡ length t.points
    pub below_are : (k : ℕ) → k < length t.points → IsOpenBelow t.points (point_at t.points k) (slice_index_or t.below k None)

-- what an event adds to the lists
pub record IsNoted (old new : Traced) (e : Event) (under : Option ℕ) : Type 0 where
  pub points : new.points ≡ old.points ++ e.point ∷ []
  pub below : new.below ≡ old.below ++ open_at new.lasts under ∷ []
  pub stretches : new.stretches ≡ old.stretches ++ (map (stretch_to old.lasts (length old.points)) e.ends ++ map (stretch_to old.lasts (length old.points)) e.passes)
  pub counted : length new.lasts ≡ length old.lasts
  pub set : (i : ℕ) → Member i e.passes ⊎ Member i e.starts → slice_index_or new.lasts i 0 ≡ length old.points
  pub kept : (i : ℕ) → (Member i e.passes → ⊥) → (Member i e.starts → ⊥) → slice_index_or new.lasts i 0 ≡ slice_index_or old.lasts i 0

-- nothing yet, of so many pieces
pub record IsUntouched (n : ℕ) (t : Traced) : Type 0 where
  pub points : t.points ≡ []
  pub stretches : t.stretches ≡ []
  pub below : t.below ≡ []
  pub counted : length t.lasts ≡ n

-- the whole: the vertices in their order, each step of a piece as a stretch, and no other, and what is directly below each vertex (this project)
pub record IsTrace (pieces : List Span) (pins : List Point) (t : Trace) : Type 0 where
  pub ascends : IsAscending point_cmp t.points
  pub points_are : (r : Point) → Member r t.points ↔ IsEvent (piece_at pieces) (length pieces) pins r
  pub sound : (s : Stretch) → Member s t.stretches → IsStretch (piece_at pieces) (length pieces) pins t.points s
  pub complete : (i : ℕ) (a b : Point) → IsStep (piece_at pieces) (length pieces) pins i a b → (s : Stretch) × Member s t.stretches × (s.piece ≡ i) × (point_at t.points s.low ≡ a) × (point_at t.points s.high ≡ b)
  pub paired : length t.below ≡ length t.points
  pub below_are : (k : ℕ) → k < length t.points → IsOpenBelow (piece_at pieces) (length pieces) pins t.points (point_at t.points k) (slice_index_or t.below k None)
