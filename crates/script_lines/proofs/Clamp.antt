-- Numbers make the same points, the same curve's or observer's number or the same segment or path, whether or not they are kept at the limit.
use Rattle.std.proofs.Common.{◌≡◌, ℕ, zero, suc, ◌<◌, Bool, true, false, cond, leb, ltb, ℤ, pos, negsuc, List, [], ◌∷◌, None, Ok, Err, refl, sym, ap, ap₂, ◌∙◌, arith}
use Rattle.std.specs.Prelude.{◌&&◌, map, take, drop, unsigned_abs, neg_ℤ, option_map}
use Rattle.std.specs.List.{list_all}
use Rattle.std.proofs.Math.Bool.{and-false}
use Rattle.std.proofs.lemmas.Bool.{and_parts, leb-true, le-leb, leb-false, lt-leb}
use Rattle.std.proofs.lemmas.List.{take-map, drop-map}
use Rattle.std.specs.Ordering.{int_eq}
use Rattle.std.specs.Result.{result_ok}
use Rattle.exact_plane.specs.Point.{Point, in_range}
use Rattle.exact_plane.specs.declared.point.PointError.{PointError}
use Rattle.exact_plane.specs.PointOf.{point_of}
use Rattle.exact_plane.specs.declared.bounds.TheConstants.{MAX_COORDINATE}
use Rattle.exact_plane.specs.Segment.{AreCoordinates, is_coordinate, are_coordinates}
use Rattle.exact_plane.proofs.Lowest.{Sizes, sizes, from_sizes}
use Rattle.exact_plane.proofs.Wholes.{are_coordinates-is}
use Rattle.script_lines.specs.declared.command.Command.TheVariants.{Batch}
use Rattle.script_lines.specs.declared.number.TheConstants.{NUMBER_LIMIT}
use Rattle.script_lines.specs.Number.{limited_size, limited_number}
use Rattle.script_lines.specs.Command.{point_from, pair_from, triple_from, number_to, curve_from, observer_from, observer_at_from, segment_from, path_from, batch_from, batch_made}
use Rattle.integers.proofs.Tests.{not_true}

size-neg : (n : ℕ) → unsigned_abs (neg_ℤ (pos n)) ≡ n
size-neg zero = refl
size-neg (suc n) = refl

size-limited_number : (z : ℤ) → unsigned_abs (limited_number z) ≡ limited_size (unsigned_abs z)
size-limited_number (pos n) = refl
size-limited_number (negsuc n) = size-neg (limited_size (suc n))

small-limited_number : (z : ℤ) → unsigned_abs z < NUMBER_LIMIT → limited_number z ≡ z
small-limited_number (pos n) h = ap pos (omega arith)
small-limited_number (negsuc n) h = let e : limited_size (suc n) ≡ suc n = omega arith in rw e refl

from_capped : (x y n : ℕ) → Sizes (limited_size x) (limited_size y) (limited_size n) → Sizes x y n
from_capped x y n s = let a = s.some in let b = s.few in let c = s.first in let d = s.second in record { some = omega arith; few = omega arith; first = omega arith; second = omega arith }

no_point : (e f : PointError) (p : Point) (s t : Bool) → t ≡ false → result_ok (cond s (Err e) (cond t (Ok p) (Err f))) ≡ None
no_point e f p true t h = refl
no_point e f p false t h = rw h refl

not_range : (x y z : ℤ) → in_range x y z ≡ false → result_ok (point_of x y z) ≡ None
not_range x y z h = no_point _ _ _ (int_eq z (pos 0)) (in_range x y z) h

range-limited_number : (x y : ℤ) (n : ℕ) → in_range x y (pos n) ≡ false → in_range (limited_number x) (limited_number y) (pos (limited_size n)) ≡ true → ⊥
range-limited_number x y n e h =
    let s = sizes (limited_number x) (limited_number y) (limited_size n) h in
    let t : Sizes (limited_size (unsigned_abs x)) (limited_size (unsigned_abs y)) (limited_size n) = rw (← size-limited_number x, ← size-limited_number y) s in
    let u : in_range x y (pos n) ≡ true = from_sizes x y n (from_capped (unsigned_abs x) (unsigned_abs y) n t) in
    cc

at_range : (x y : ℤ) (n : ℕ) (t : Bool) → in_range x y (pos n) ≡ t → result_ok (point_of (limited_number x) (limited_number y) (pos (limited_size n))) ≡ result_ok (point_of x y (pos n))
at_range x y n true e =
    let s = sizes x y n e in
    let a = s.few in let b = s.first in let d = s.second in
    let f : limited_number x ≡ x = small-limited_number x (omega arith) in
    let g : limited_number y ≡ y = small-limited_number y (omega arith) in
    let h : limited_size n ≡ n = omega arith in
    rw (f, g, h) refl
at_range x y n false e =
    let f : in_range (limited_number x) (limited_number y) (pos (limited_size n)) ≡ false = not_true (in_range (limited_number x) (limited_number y) (pos (limited_size n))) (range-limited_number x y n e) in
    not_range (limited_number x) (limited_number y) (pos (limited_size n)) f ∙ sym (not_range x y (pos n) e)

under_zero : (x y : ℤ) (k : ℕ) → 0 < k → result_ok (point_of x y (neg_ℤ (pos k))) ≡ None
under_zero x y zero h = absurd (omega arith)
under_zero x y (suc k) h = not_range x y (negsuc k) refl

same_point : (x y z : ℤ) → result_ok (point_of (limited_number x) (limited_number y) (limited_number z)) ≡ result_ok (point_of x y z)
same_point x y (pos n) = at_range x y n (in_range x y (pos n)) refl
same_point x y (negsuc n) = under_zero (limited_number x) (limited_number y) (limited_size (suc n)) (omega arith) ∙ sym (not_range x y (negsuc n) refl)

-- a point of numbers that were kept at the limit
pub point_from-limited_number : (zs : List ℤ) → point_from (map limited_number zs) ≡ point_from zs
point_from-limited_number [] = refl
point_from-limited_number (x ∷ []) = refl
point_from-limited_number (x ∷ y ∷ []) = refl
point_from-limited_number (x ∷ y ∷ w ∷ []) = same_point x y w
point_from-limited_number (x ∷ y ∷ w ∷ z ∷ zs) = refl

-- two of them, and three
pub pair_from-limited_number : (zs : List ℤ) → pair_from (map limited_number zs) ≡ pair_from zs
pair_from-limited_number zs = rw (take-map limited_number 3 zs, drop-map limited_number 3 zs, point_from-limited_number (take 3 zs), point_from-limited_number (drop 3 zs)) refl

pub triple_from-limited_number : (zs : List ℤ) → triple_from (map limited_number zs) ≡ triple_from zs
triple_from-limited_number zs = rw (take-map limited_number 6 zs, drop-map limited_number 6 zs, pair_from-limited_number (take 6 zs), point_from-limited_number (drop 6 zs)) refl

-- a batch of them
batch_from-limited_number : (zs : List ℤ) → batch_from (map limited_number zs) ≡ batch_from zs
batch_from-limited_number [] = refl
batch_from-limited_number (x ∷ []) = refl
batch_from-limited_number (x ∷ y ∷ []) = refl
batch_from-limited_number (x ∷ y ∷ w ∷ zs) = rw (same_point x y w, batch_from-limited_number zs) refl

pub batch_made-limited_number : (zs : List ℤ) → batch_made (map limited_number zs) ≡ batch_made zs
batch_made-limited_number zs = ap (option_map Batch) (batch_from-limited_number zs)

-- whether a size is within a bound below the limit doesn't change when it is kept at the limit
bound_by : (n greatest : ℕ) (t : Bool) → greatest < NUMBER_LIMIT → leb n greatest ≡ t → leb (limited_size n) greatest ≡ t
bound_by n greatest true small e = le-leb (limited_size n) greatest (let h = leb-true n greatest e in omega arith)
bound_by n greatest false small e = lt-leb (limited_size n) greatest (let h = leb-false n greatest e in omega arith)

same_number : (greatest n : ℕ) (t : Bool) → greatest < NUMBER_LIMIT → leb n greatest ≡ t → number_to greatest (pos (limited_size n)) ≡ number_to greatest (pos n)
same_number greatest n true small e = let k : limited_size n ≡ n = (let h = leb-true n greatest e in omega arith) in rw k refl
same_number greatest n false small e = rw (bound_by n greatest false small e, e, and-false (ltb 0 (limited_size n)), and-false (ltb 0 n)) refl

no_number : (greatest k : ℕ) → number_to greatest (neg_ℤ (pos k)) ≡ None
no_number greatest zero = refl
no_number greatest (suc k) = refl

-- a number from 1 to a bound below the limit
number_to-limited_number : (greatest : ℕ) → greatest < NUMBER_LIMIT → (z : ℤ) → number_to greatest (limited_number z) ≡ number_to greatest z
number_to-limited_number greatest small (pos n) = same_number greatest n (leb n greatest) small refl
number_to-limited_number greatest small (negsuc n) = no_number greatest (limited_size (suc n))

-- the curve's number of a number that was kept at the limit
pub curve_from-limited_number : (zs : List ℤ) → curve_from (map limited_number zs) ≡ curve_from zs
curve_from-limited_number [] = refl
curve_from-limited_number (c ∷ []) = number_to-limited_number 4294967295 (omega arith) c
curve_from-limited_number (c ∷ d ∷ zs) = refl

-- the observer's number, and the observer and the round of two numbers
pub observer_from-limited_number : (zs : List ℤ) → observer_from (map limited_number zs) ≡ observer_from zs
observer_from-limited_number [] = refl
observer_from-limited_number (i ∷ []) = number_to-limited_number 64 (omega arith) i
observer_from-limited_number (i ∷ n ∷ zs) = refl

pub observer_at_from-limited_number : (zs : List ℤ) → observer_at_from (map limited_number zs) ≡ observer_at_from zs
observer_at_from-limited_number [] = refl
observer_at_from-limited_number (i ∷ []) = refl
observer_at_from-limited_number (i ∷ n ∷ []) = rw (number_to-limited_number 64 (omega arith) i, number_to-limited_number 1000000 (omega arith) n) refl
observer_at_from-limited_number (i ∷ n ∷ m ∷ zs) = refl

is_coordinate-limited_number : (z : ℤ) → is_coordinate (limited_number z) ≡ is_coordinate z
is_coordinate-limited_number z = rw (size-limited_number z) (bound_by (unsigned_abs z) MAX_COORDINATE (is_coordinate z) (omega arith) refl)

same_segment : (x1 y1 x2 y2 : ℤ) (t : Bool) → are_coordinates x1 y1 x2 y2 ≡ t
    → segment_from (limited_number x1 ∷ limited_number y1 ∷ limited_number x2 ∷ limited_number y2 ∷ []) ≡ segment_from (x1 ∷ y1 ∷ x2 ∷ y2 ∷ [])
same_segment x1 y1 x2 y2 true e =
    let a : AreCoordinates x1 y1 x2 y2 = are_coordinates-is x1 y1 x2 y2 e in
    let b = a.first_x in let d = a.first_y in let g = a.second_x in let h = a.second_y in
    let k : limited_number x1 ≡ x1 = small-limited_number x1 (omega arith) in
    let l : limited_number y1 ≡ y1 = small-limited_number y1 (omega arith) in
    let m : limited_number x2 ≡ x2 = small-limited_number x2 (omega arith) in
    let n : limited_number y2 ≡ y2 = small-limited_number y2 (omega arith) in
    rw (k, l, m, n) refl
same_segment x1 y1 x2 y2 false e =
    let f : are_coordinates (limited_number x1) (limited_number y1) (limited_number x2) (limited_number y2) ≡ false =
    rw (is_coordinate-limited_number x1, is_coordinate-limited_number y1, is_coordinate-limited_number x2, is_coordinate-limited_number y2) e in
    rw (e, f) refl

-- the segment of numbers that were kept at the limit
pub segment_from-limited_number : (zs : List ℤ) → segment_from (map limited_number zs) ≡ segment_from zs
segment_from-limited_number (x1 ∷ y1 ∷ x2 ∷ y2 ∷ []) = same_segment x1 y1 x2 y2 (are_coordinates x1 y1 x2 y2) refl
segment_from-limited_number other = refl

all-limited_number : (zs : List ℤ) → list_all is_coordinate (map limited_number zs) ≡ list_all is_coordinate zs
all-limited_number [] = refl
all-limited_number (z ∷ zs) = ap₂ ◌&&◌ (is_coordinate-limited_number z) (all-limited_number zs)

same-limited_number : (zs : List ℤ) → list_all is_coordinate zs ≡ true → map limited_number zs ≡ zs
same-limited_number [] e = refl
same-limited_number (z ∷ zs) e =
    let parts = and_parts (is_coordinate z) (list_all is_coordinate zs) e in
    let within = leb-true (unsigned_abs z) MAX_COORDINATE parts.0 in
    ap₂ (λ (y : ℤ) (ys : List ℤ). y ∷ ys) (small-limited_number z (omega (arith, within))) (same-limited_number zs parts.1)

-- the path of numbers that were kept at the limit
pub path_from-limited_number : (zs : List ℤ) → path_from (map limited_number zs) ≡ path_from zs
path_from-limited_number zs = by (list_all is_coordinate zs) refl
  where
    by : (t : Bool) → list_all is_coordinate zs ≡ t → path_from (map limited_number zs) ≡ path_from zs
    by true e = ap path_from (same-limited_number zs e)
    by false e = rw (all-limited_number zs, e) refl
