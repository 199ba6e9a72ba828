-- Two spans whose lines differ have in common the crossing of their lines, where it is between the ends of both.
use Rattle.std.proofs.Common.{◌≡◌, ◌*◌, ◌<◌, zero, suc, Bool, true, false, ◌&&◌, ℤ, pos, negsuc, ◌-ℤ◌, ◌*ℤ◌, ◌<ℤ◌, unsigned_abs, refl, ap, ap₂, sym, ◌∙◌, subst, arith, inl, inr}
use Rattle.std.specs.Prelude.{if◌then◌else◌}
use Rattle.std.specs.Ordering.{int_eq, is_le}
use Rattle.std.proofs.lemmas.Int.{ints}
use Rattle.integers.proofs.Decisions.{both, clash, eq_in, eq_out}
use Rattle.integers.proofs.Sizes.{size_minus, size_product}
use Rattle.exact_plane.specs.declared.bounds.TheConstants.{MAX_COORDINATE, MAX_DIFFERENCE, WEIGHT_LIMIT}
use Rattle.exact_plane.specs.declared.meets.Meet.{Meet}
use Rattle.exact_plane.specs.declared.meets.Meet.TheVariants.{Apart, At, Along}
use Rattle.exact_plane.specs.Line.{Line, IsOn, IsForward, IsLine}
use Rattle.exact_plane.specs.Meet.{AreApart, IsMeeting}
use Rattle.exact_plane.specs.MeetOf.{same_line, weight_of, crossing, place_cmp, is_between, is_common_place, place_meet, crossing_meet}
use Rattle.exact_plane.specs.Plane.{RunsForward}
use Rattle.exact_plane.specs.Point.{Point, in_range, reduced, IsInRange, IsPoint}
use Rattle.exact_plane.specs.Span.{Span, LiesOn, IsSpan}
use Rattle.exact_plane.proofs.Crossings.{parallel_share, same_line as same_numbers}
use Rattle.exact_plane.proofs.Geometry.{cross_on_1, cross_on_2, cross_only}
use Rattle.exact_plane.proofs.Lowest.{is_in_range, in_range-is, reduced_point, same_place}
use Rattle.exact_plane.proofs.Places.{two_decide}
use Rattle.exact_plane.proofs.SamePlaces.{IsSamePlace, place_cmp-right, place_cmp-left, x_within, y_within, on_same_place, one_at_place}

pub runs : (a b : ℤ) → IsForward a b → RunsForward a b
runs a (pos zero) f = inr (refl, f.upward refl)
runs a (pos (suc n)) f = inl (omega (arith, ints))
runs a (negsuc n) f = let h = f.forward in absurd (omega (arith, ints))

pub line_weight : (l m : Line) → IsLine l → IsLine m → unsigned_abs (weight_of l m) < WEIGHT_LIMIT
line_weight l m h k =
    let n = size_minus (l.a *ℤ m.b) (m.a *ℤ l.b) (MAX_DIFFERENCE * MAX_DIFFERENCE) (MAX_DIFFERENCE * MAX_DIFFERENCE)
    (size_product l.a m.b MAX_DIFFERENCE MAX_DIFFERENCE h.a_within k.b_within) (size_product m.a l.b MAX_DIFFERENCE MAX_DIFFERENCE k.a_within h.b_within) in
    omega arith

-- lines that share a point and don't cross are one
pub parallel_one : (l m : Line) (p : Point) → IsLine l → IsLine m → pos 0 <ℤ p.w → weight_of l m ≡ pos 0 → IsOn l p → IsOn m p → l ≡ m
parallel_one l m p hl hm hp e on_l on_m =
    let z = parallel_share l.a l.b l.c m.a m.b m.c p.x p.y p.w hp e on_l on_m in
    let s = same_numbers l.a l.b l.c m.a m.b m.c hl.lowest hm.lowest (runs l.a l.b hl.runs) (runs m.a m.b hm.runs) e z.0 z.1 in
    λ i. record { a = s.0 i; b = s.1 i; c = s.2 i }

pub same_line-is : (l m : Line) → same_line l m ≡ true → l ≡ m
same_line-is l m h =
    let a = both (int_eq l.a m.a) (int_eq l.b m.b && int_eq l.c m.c) h in
    let b = both (int_eq l.b m.b) (int_eq l.c m.c) a.1 in
    λ i. record { a = eq_out l.a m.a a.0 i; b = eq_out l.b m.b b.0 i; c = eq_out l.c m.c b.1 i }

same_line-itself : (l m : Line) → l ≡ m → same_line l m ≡ true
same_line-itself l m e = ap₂ ◌&&◌ (eq_in l.a m.a (ap (λ (n : Line). n.a) e)) (ap₂ ◌&&◌ (eq_in l.b m.b (ap (λ (n : Line). n.b) e)) (eq_in l.c m.c (ap (λ (n : Line). n.c) e)))

pub parallel_apart : (s t : Span) → IsSpan s → IsSpan t → same_line s.line t.line ≡ false → weight_of s.line t.line ≡ pos 0 → AreApart s t
parallel_apart s t hs ht differ e p hp h k = clash _ (same_line-itself s.line t.line (parallel_one s.line t.line p hs.line ht.line hp.range.positive e h.on k.on)) differ

-- ---- a place against a span
module _ (u : Span) (hu : IsSpan u) (c p : Point) (hc : pos 0 <ℤ c.w) (hp : IsPoint p) (same : IsSamePlace c p) where
  from_is : is_le (place_cmp u.lower c) ≡ is_le (place_cmp u.lower p)
  from_is = ap is_le (place_cmp-right c p hc hp.range.positive same u.lower)

  upto_is : is_le (place_cmp c u.upper) ≡ is_le (place_cmp p u.upper)
  upto_is = ap is_le (place_cmp-left c p hc hp.range.positive same u.upper)

  pub between_in : LiesOn u p → is_between u c ≡ true
  between_in h = ap₂ ◌&&◌ (from_is ∙ ap is_le (two_decide u.lower p hu.lower hp) ∙ h.from) (upto_is ∙ ap is_le (two_decide p u.upper hp hu.upper) ∙ h.upto)

  pub between_out : is_between u c ≡ true → IsOn u.line p → LiesOn u p
  between_out h on =
      let b = both (is_le (place_cmp u.lower c)) (is_le (place_cmp c u.upper)) h in
      record {
        on = on;
        from = ap is_le (sym (two_decide u.lower p hu.lower hp)) ∙ sym from_is ∙ b.0;
        upto = ap is_le (sym (two_decide p u.upper hp hu.upper)) ∙ sym upto_is ∙ b.1;
      }

-- ---- the crossing of two lines
module _ (s t : Span) (hs : IsSpan s) (ht : IsSpan t) (hw : pos 0 <ℤ weight_of s.line t.line) where
  abbrev cross : Point
  cross = crossing s.line t.line

  on_first : IsOn s.line cross
  on_first = cross_on_1 s.line.a s.line.b s.line.c t.line.a t.line.b t.line.c

  on_second : IsOn t.line cross
  on_second = cross_on_2 s.line.a s.line.b s.line.c t.line.a t.line.b t.line.c

  same_as : (p : Point) → IsOn s.line p → IsOn t.line p → IsSamePlace cross p
  same_as p h k = cross_only s.line.a s.line.b s.line.c t.line.a t.line.b t.line.c p.x p.y p.w h k

  ranges : (p : Point) → IsPoint p → IsSamePlace cross p → IsInRange cross.x cross.y cross.w
  ranges p hp same = record {
    positive = hw;
    small = line_weight s.line t.line hs.line ht.line;
    x_within = x_within cross p hw hp.range.positive same MAX_COORDINATE hp.range.x_within;
    y_within = y_within cross p hw hp.range.positive same MAX_COORDINATE hp.range.y_within;
  }

  tested : (p : Point) → IsPoint p → LiesOn s p → LiesOn t p → is_between s cross && (is_between t cross && in_range cross.x cross.y cross.w) ≡ true
  tested p hp h k =
      let same = same_as p h.on k.on in
      ap₂ ◌&&◌ (between_in s hs cross p hw hp same h) (ap₂ ◌&&◌ (between_in t ht cross p hw hp same k) (in_range-is cross.x cross.y cross.w (ranges p hp same)))

  found : is_between s cross && (is_between t cross && in_range cross.x cross.y cross.w) ≡ true → IsMeeting s t (At (reduced cross.x cross.y cross.w))
  found e =
      let a = both (is_between s cross) (is_between t cross && in_range cross.x cross.y cross.w) e in
      let b = both (is_between t cross) (in_range cross.x cross.y cross.w) a.1 in
      let r = is_in_range cross.x cross.y cross.w b.1 in
      let q : Point = reduced cross.x cross.y cross.w in
      let hq : IsPoint q = reduced_point cross.x cross.y cross.w r in
      let same : IsSamePlace cross q = same_place cross.x cross.y cross.w r q refl in
      record {
        point = hq;
        on_first = between_out s hs cross q hw hq same a.0 (on_same_place cross q hw hq.range.positive same s.line on_first);
        on_second = between_out t ht cross q hw hq same b.0 (on_same_place cross q hw hq.range.positive same t.line on_second);
        only = λ p hp h k. one_at_place cross p q hw hp hq (same_as p h.on k.on) same;
      }

  at : (b : Bool) → is_between s cross && (is_between t cross && in_range cross.x cross.y cross.w) ≡ b → IsMeeting s t (if b then At (reduced cross.x cross.y cross.w) else Apart)
  at true e = found e
  at false e = λ p hp h k. clash _ (tested p hp h k) e

  pub crossing_is : IsMeeting s t (crossing_meet s t)
  crossing_is = at (is_between s cross && (is_between t cross && in_range cross.x cross.y cross.w)) refl

-- ---- the two spans in the other order
pub meeting_turned : (s t : Span) (m : Meet) → IsMeeting s t m → IsMeeting t s m
meeting_turned s t Apart h = λ p hp k l. h p hp l k
meeting_turned s t (At p) h = record { point = h.point; on_first = h.on_second; on_second = h.on_first; only = λ q hq k l. h.only q hq l k }
meeting_turned s t (Along p q) h = record {
  one_line = sym h.one_line;
  part = subst (λ (l : Line). IsSpan (record { lower = p; upper = q; line = l })) h.one_line h.part;
  common = λ r hr. (λ k. subst (λ (l : Line). LiesOn (record { lower = p; upper = q; line = l }) r) h.one_line ((h.common r hr).0 (k.1, k.0)), λ k. (let g = (h.common r hr).1 (subst (λ (l : Line). LiesOn (record { lower = p; upper = q; line = l }) r) (sym h.one_line) k) in (g.1, g.0)));
}

pub weight_turned : (l m : Line) → weight_of l m <ℤ pos 0 → pos 0 <ℤ weight_of m l
weight_turned l m h = turn (l.a *ℤ m.b) (m.a *ℤ l.b) h
  where
    turn : (x y : ℤ) → (x -ℤ y) <ℤ pos 0 → pos 0 <ℤ (y -ℤ x)
    turn x y h = omega (arith, ints)

-- ---- what the code finds
picked : (b : Bool) (m n : Meet) → b ≡ true → m ≡ (if b then m else n)
picked true m n h = refl
picked false m n h = cc

left_out : (b : Bool) (m n : Meet) → b ≡ false → n ≡ (if b then m else n)
left_out true m n h = cc
left_out false m n h = refl

module _ (s t : Span) (x y w : ℤ) (ex : x ≡ (crossing s.line t.line).x) (ey : y ≡ (crossing s.line t.line).y) (ew : w ≡ (crossing s.line t.line).w) where
  pub crossing_found : is_common_place s t (record { x = x; y = y; w = w }) ≡ true → At (reduced x y w) ≡ crossing_meet s t
  crossing_found h = picked (is_common_place s t (record { x = x; y = y; w = w })) (At (reduced x y w)) Apart h ∙ (λ i. place_meet s t (record { x = ex i; y = ey i; w = ew i }))

  pub crossing_missed : is_common_place s t (record { x = x; y = y; w = w }) ≡ false → Apart ≡ crossing_meet s t
  crossing_missed h = left_out (is_common_place s t (record { x = x; y = y; w = w })) (At (reduced x y w)) Apart h ∙ (λ i. place_meet s t (record { x = ex i; y = ey i; w = ew i }))

-- a place in range is common where it is between the ends of both
pub common_within : (s t : Span) (c : Point) → in_range c.x c.y c.w ≡ true → (is_between s c && is_between t c) ≡ is_common_place s t c
common_within s t c h = rw h (at (is_between s c) (is_between t c))
  where
    at : (a b : Bool) → (a && b) ≡ (a && (b && true))
    at true true = refl
    at true false = refl
    at false b = refl

pub common_outside : (s t : Span) (c : Point) → in_range c.x c.y c.w ≡ false → is_common_place s t c ≡ false
common_outside s t c h = rw h (at (is_between s c) (is_between t c))
  where
    at : (a b : Bool) → (a && (b && false)) ≡ false
    at true true = refl
    at true false = refl
    at false b = refl
