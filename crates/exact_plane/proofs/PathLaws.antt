-- The sides of a path, one after another.
use Rattle.std.proofs.Common.{◌≡◌, ◌+◌, ◌-◌, ◌≤◌, ◌<◌, ℕ, zero, suc, max, Bool, true, false, List, [], ◌∷◌, ◌++◌, length, Result, Ok, Err, IfOk, pos, refl, ap, ap₂, sym, ◌∙◌, arith}
use Rattle.std.specs.Prelude.{◌&&◌, ◌||◌, All, Any, map, take, replicate, nat_le, if◌then◌else◌, Option, Some, None, get_or, set}
use Rattle.std.specs.Result.{result_ok}
use Rattle.std.specs.Ordering.{int_eq}
use Rattle.std.specs.List.{list_all, list_any}
use Rattle.integers.proofs.Decisions.{both, clash, eq_in, eq_out}
use Rattle.exact_plane.specs.declared.bounds.TheConstants.{MAX_SIDES}
use Rattle.exact_plane.specs.declared.path.PathError.{PathError}
use Rattle.exact_plane.specs.declared.path.PathError.TheVariants.{Count, Range, Equal}
use Rattle.exact_plane.specs.declared.segment.SegmentError.TheVariants as segment_error
use Rattle.exact_plane.specs.Segment.{Segment, segment, is_before, are_coordinates}
use Rattle.exact_plane.specs.SegmentOf.{segment_of}
use Rattle.exact_plane.specs.Path.{Pair, neighbours, are_equal, are_in_range, is_point_count, side_between, sides_between, AreInRange, AreEqual, IsPointCount}
use Rattle.exact_plane.specs.PathSides.{padded, IsPadded}
use Rattle.std.proofs.Math.Seq.{set-append_seam}
use Rattle.std.proofs.lemmas.Bool.{le-leb, leb-true}
use Rattle.std.proofs.lemmas.List.{append_assoc, length-append, length-map, length-replicate, length-take-le, map_more, take_all, take_at, take_more}
use Rattle.std.proofs.lemmas.List.Folds.{list_any-append, list_any-from_Any, Any-from_list_any}
use Rattle.std.proofs.lemmas.List.Sums.{list_all-from_AllPass, AllPass-from_list_all}

-- the first side between points
abbrev pub first_side : List Pair → Segment
first_side (p ∷ q ∷ points) = side_between (p, q)
first_side other = segment (pos 0) (pos 0) (pos 0) (pos 0)

-- the first so many sides are made, and the rest of the array repeats the first
pub record Joined (points : List Pair) (place : ℕ) (sides : List Segment) : Type 0 where
  pub made : sides ≡ map side_between (take place (neighbours points)) ++ replicate (MAX_SIDES - place) (first_side points)
  pub apart : list_any are_equal (take place (neighbours points)) ≡ false

module _ (p q : Pair) (h : AreInRange p) (k : AreInRange q) where
  within : are_coordinates p.0 p.1 q.0 q.1 ≡ true
  within = ap₂ ◌&&◌ (le-leb _ _ h.x) (ap₂ ◌&&◌ (le-leb _ _ h.y) (ap₂ ◌&&◌ (le-leb _ _ k.x) (le-leb _ _ k.y)))

  -- between two points in range there is a segment, where they differ
  pub side_of : result_ok (segment_of p.0 p.1 q.0 q.1) ≡ (if are_equal (p, q) then None else Some (side_between (p, q)))
  side_of = rw within (at (are_equal (p, q)) (is_before p.0 p.1 q.0 q.1))
    where
      at : (same before : Bool) → result_ok (if same then Err segment_error.Equal else (if before then Ok (segment p.0 p.1 q.0 q.1) else Ok (segment q.0 q.1 p.0 p.1)))
          ≡ (if same then None else Some (if before then segment p.0 p.1 q.0 q.1 else segment q.0 q.1 p.0 p.1))
      at true before = refl
      at false true = refl
      at false false = refl

-- two neighbours stand side by side
neighbours_at : (points : List Pair) (i : ℕ) (e : Pair × Pair) (c d : Pair) → i + 1 < length points → get_or (neighbours points) i e ≡ (get_or points i c, get_or points (i + 1) d)
neighbours_at [] i e c d h = absurd (omega (arith, h))
neighbours_at (p ∷ []) i e c d h = absurd (omega (arith, h))
neighbours_at (p ∷ q ∷ points) zero e c d h = refl
neighbours_at (p ∷ q ∷ points) (suc i) e c d h =
    neighbours_at (q ∷ points) i e c d (omega (arith, h)) ∙ ap (λ n. (get_or (q ∷ points) i c, get_or (p ∷ q ∷ points) n d)) {x = suc (i + 1)} {y = suc i + 1} (omega arith)

-- there is one side less than points
pub length-neighbours : (points : List Pair) → length (neighbours points) + 1 ≡ max 1 (length points)
length-neighbours [] = refl
length-neighbours (p ∷ []) = refl
length-neighbours (p ∷ q ∷ points) = let rest = length-neighbours (q ∷ points) in omega (arith, rest)

module _ (same : Bool) (made : Segment) where
  equal : None ≡ (if same then None else Some made) → same ≡ true
  equal e = at same refl e
    where
      at : (b : Bool) → same ≡ b → None ≡ if◌then◌else◌ {A = Option Segment} b None (Some made) → same ≡ true
      at true f e = f
      at false f e = absurd cc

  unequal : (s : Segment) → Some s ≡ (if same then None else Some made) → (same ≡ false) × (s ≡ made)
  unequal s e = at same refl e
    where
      at : (b : Bool) → same ≡ b → Some s ≡ (if b then None else Some made) → (same ≡ false) × (s ≡ made)
      at true f e = absurd cc
      at false f e = (f, cc)

-- the array after one more side
placed : (xs : List Segment) (i : ℕ) (first s : Segment) → length xs ≡ i → i < MAX_SIDES
    → set (xs ++ replicate (MAX_SIDES - i) first) i s ≡ (xs ++ s ∷ []) ++ replicate (MAX_SIDES - (i + 1)) first
placed xs i first s e h =
    ap (λ n. set (xs ++ replicate n first) i s) {x = MAX_SIDES - i} {y = suc (MAX_SIDES - (i + 1))} (omega arith)
    ∙ ap (λ n. set (xs ++ first ∷ replicate (MAX_SIDES - (i + 1)) first) n s) (sym e)
    ∙ set-append_seam xs first (replicate (MAX_SIDES - (i + 1)) first) s
    ∙ sym (append_assoc xs (s ∷ []) (replicate (MAX_SIDES - (i + 1)) first))

module _ (points : List Pair) where
  here : ℕ → Pair × Pair → Pair × Pair
  here i e = get_or (neighbours points) i e

  -- two neighbours that are equal
  pub equal_neighbours : (i : ℕ) (c d : Pair) (s : Segment) → i + 1 < length points
      → None ≡ (if are_equal (get_or points i c, get_or points (i + 1) d) then None else Some s) → list_any are_equal (neighbours points) ≡ true
  equal_neighbours i c d s h e =
      let ends : Pair × Pair = (get_or points i c, get_or points (i + 1) d) in
      let count = length-neighbours points in
      list_any-from_Any are_equal (neighbours points) (i, ends, omega (arith, count), neighbours_at points i ends c d h, equal (are_equal ends) s e)

  -- one more side
  pub Joined-more : (i : ℕ) (sides : List Segment) (c d : Pair) (s : Segment) → i + 1 < length points → i < MAX_SIDES
      → Some s ≡ (if are_equal (get_or points i c, get_or points (i + 1) d) then None else Some (side_between (get_or points i c, get_or points (i + 1) d)))
      → Joined points i sides → Joined points (i + 1) (set sides i s)
  Joined-more i sides c d s h k e j =
      let ends : Pair × Pair = (get_or points i c, get_or points (i + 1) d) in
      let count = length-neighbours points in
      let at = neighbours_at points i ends c d h in
      let u = unequal (are_equal ends) (side_between ends) s e in
      let within : i < length (neighbours points) = omega (arith, count) in
      let long : length (map side_between (take i (neighbours points))) ≡ i = length-map (take i (neighbours points)) side_between ∙ length-take-le i (neighbours points) (omega arith) in
      record {
        made =
            ap (λ xs. set xs i s) j.made
            ∙ placed (map side_between (take i (neighbours points))) i (first_side points) s long k
            ∙ ap (λ xs. xs ++ replicate (MAX_SIDES - (i + 1)) (first_side points)) (
            ap (λ x. map side_between (take i (neighbours points)) ++ x ∷ []) (u.1 ∙ ap side_between (sym at))
            ∙ sym (map_more side_between (neighbours points) i ends within));
        apart =
            ap (list_any are_equal) (take_more (neighbours points) i ends within)
            ∙ list_any-append are_equal (take i (neighbours points)) (get_or (neighbours points) i ends ∷ [])
            ∙ ap₂ (λ a b. a || (b || false)) j.apart (ap are_equal at ∙ u.0);
      }

  -- all of them
  all_sides : (count : ℕ) → count ≡ length points - 1 → map side_between (take count (neighbours points)) ≡ map side_between (neighbours points)
  all_sides count e = let n = length-neighbours points in ap (map side_between) (take_all count (neighbours points) (omega (arith, n, e)))

-- how they are kept
pub padded_sides : (points : List Pair) → 2 ≤ length points → padded (sides_between points) ≡ sides_between points ++ replicate (MAX_SIDES - length (sides_between points)) (first_side points)
padded_sides [] h = absurd (omega (arith, h))
padded_sides (p ∷ []) h = absurd (omega (arith, h))
padded_sides (p ∷ q ∷ points) h = refl

pub IsPadded-joined : (points : List Pair) (sides : List Segment) (place : ℕ) → IsPointCount (length points) → place ≡ length points - 1 → Joined points place sides → IsPadded sides (length points - 1)
IsPadded-joined points sides place h e j =
    let all : sides ≡ sides_between points ++ replicate (MAX_SIDES - place) (first_side points) = j.made ∙ ap (λ xs. xs ++ replicate (MAX_SIDES - place) (first_side points)) (all_sides points place e) in
    let n = length-neighbours points in
    let long : length (sides_between points) ≡ length points - 1 = length-map (neighbours points) side_between ∙ omega (arith, n, h.some) in
    let rest = length-replicate (MAX_SIDES - place) (first_side points) in
    record {
      some = omega (arith, h.some);
      few = omega (arith, h.few);
      room = ap length all ∙ length-append (sides_between points) (replicate (MAX_SIDES - place) (first_side points)) ∙ omega (arith, long, rest, h.few, h.some);
      rest =
          all
          ∙ ap (λ n. sides_between points ++ replicate (MAX_SIDES - n) (first_side points)) (e ∙ sym long)
          ∙ sym (padded_sides points h.some)
          ∙ ap padded (sym (ap (take (length points - 1)) all ∙ take_at (sides_between points) (replicate (MAX_SIDES - place) (first_side points)) (length points - 1) long));
    }

pub count_is : (count : ℕ) → is_point_count count ≡ true → IsPointCount count
count_is count e = let b = both (nat_le 2 count) (nat_le count (MAX_SIDES + 1)) e in record { some = leb-true _ _ b.0; few = leb-true _ _ b.1 }

pub all_in_range : (points : List Pair) → list_all are_in_range points ≡ true → All AreInRange points
all_in_range points e = λ k d h.
    let b = both _ _ (AllPass-from_list_all are_in_range points e k d h) in
    record { x = leb-true _ _ b.0; y = leb-true _ _ b.1 }

-- where a coordinate is out of range, a point is
pub none_in_range : (points : List Pair) → list_all are_in_range points ≡ false → ¬ All AreInRange points
none_in_range points e all = clash _ (list_all-from_AllPass are_in_range points (λ k d h. let is = all k d h in ap₂ ◌&&◌ (le-leb _ _ is.x) (le-leb _ _ is.y))) e

same_pair : (p q : Pair) → are_equal (p, q) ≡ true → p ≡ q
same_pair p q e = let b = both (int_eq p.0 q.0) (int_eq p.1 q.1) e in λ i. (eq_out p.0 q.0 b.0 i, eq_out p.1 q.1 b.1 i)

pair_same : (p q : Pair) → p ≡ q → are_equal (p, q) ≡ true
pair_same p q e = ap₂ ◌&&◌ (eq_in p.0 q.0 (ap (λ (r : Pair). r.0) e)) (eq_in p.1 q.1 (ap (λ (r : Pair). r.1) e))

module _ (points : List Pair) where
  some_equal : list_any are_equal (neighbours points) ≡ true → Any AreEqual (neighbours points)
  some_equal e = let any = Any-from_list_any are_equal (neighbours points) e in (any.0, any.1, any.2, any.3, same_pair any.1.0 any.1.1 any.4)

  equal_some : Any AreEqual (neighbours points) → list_any are_equal (neighbours points) ≡ true
  equal_some any = list_any-from_Any are_equal (neighbours points) (any.0, any.1, any.2, any.3, pair_same any.1.0 any.1.1 any.4)

  module _ (path : Result (List Segment) PathError) (is : path ≡ (if list_any are_equal (neighbours points) then Err Equal else Ok (sides_between points))) where
    -- where all coordinates are in range, the only reason is a pair of equal neighbours
    pub not_count : ¬ (path ≡ Err Count)
    not_count e = at (list_any are_equal (neighbours points)) (sym e ∙ is)
      where
        at : (b : Bool) → Err Count ≡ (if b then Err Equal else Ok (sides_between points)) → ⊥
        at true e = absurd cc
        at false e = absurd cc

    pub not_range : ¬ (path ≡ Err Range)
    not_range e = at (list_any are_equal (neighbours points)) (sym e ∙ is)
      where
        at : (b : Bool) → Err Range ≡ (if b then Err Equal else Ok (sides_between points)) → ⊥
        at true e = absurd cc
        at false e = absurd cc

    pub equal-from : path ≡ Err Equal → Any AreEqual (neighbours points)
    equal-from e = some_equal (at (list_any are_equal (neighbours points)) refl (sym e ∙ is))
      where
        at : (b : Bool) → list_any are_equal (neighbours points) ≡ b → Err Equal ≡ (if b then Err Equal else Ok (sides_between points)) → list_any are_equal (neighbours points) ≡ true
        at true f e = f
        at false f e = absurd cc

    pub equal-to : Any AreEqual (neighbours points) → path ≡ Err Equal
    equal-to any = is ∙ ap (λ b. if b then Err Equal else Ok (sides_between points)) (equal_some any)

    pub sides_count : 2 ≤ length points → IfOk path (λ sides. length sides + 1 ≡ length points)
    sides_count h = rw is (at (list_any are_equal (neighbours points)))
      where
        at : (b : Bool) → IfOk (if b then Err Equal else Ok (sides_between points)) (λ sides. length sides + 1 ≡ length points)
        at true = tt
        at false = let n = length-neighbours points in let m = length-map (neighbours points) side_between in omega (arith, n, m, h)
