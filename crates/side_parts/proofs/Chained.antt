-- The parts of sides are the marks between neighbours on them, and each is between neighbours on its side.
use Rattle.std.proofs.Common.{◌≡◌, ⊎_elim, ℕ, suc, pos, ◌+◌, ◌<◌, Bool, true, false, cond, List, [], ◌∷◌, ◌++◌, length, map, get_or, Some, None, refl, sym, ap, ap₂, ◌∙◌, subst, arith}
use Rattle.std.specs.List.{filter, flat_map, AllByRecursion}
use Rattle.std.proofs.lemmas.Bool.{cases_lt}
use Rattle.std.proofs.lemmas.List.{map-append}
use Rattle.exact_plane.specs.Point.{Point}
use Rattle.exact_plane.specs.Segment.{Segment, segment, whole_point}
use Rattle.plane_graphs.specs.Ascending.{Member}
use Rattle.plane_graphs.specs.Graph.{Mark, mark, chain, chain_from}
use Rattle.plane_graphs.specs.Piece.{on, along}
use Rattle.plane_graphs.specs.Strands.{strand, strand_pieces}
use Rattle.plane_graphs.proofs.Ascending.{All-member}
use Rattle.plane_graphs.proofs.Lists.{in_either}
use Rattle.edit_steps.specs.Edits.{whole_piece, sides_from}
use Rattle.side_parts.specs.declared.part.Part.{Part}
use Rattle.side_parts.specs.SideParts.{holds, part, point_at, side_at, parts_from, parts_of_sides, strand_mark, edge_mark, IsPartIn, IsPartOf}

-- the rest of a list stands from a place on
abbrev StandsFrom : {X : Type 0} → X → List X → ℕ → List X → Type 0
StandsFrom d all i xs = (k n : ℕ) → n ≡ i + k → get_or all n d ≡ get_or xs k d

module _ {X : Type 0} (d : X) (all : List X) where
  here : (i : ℕ) (x : X) (xs : List X) → StandsFrom d all i (x ∷ xs) → get_or all i d ≡ x
  here i x xs s = s 0 i (omega arith)

  next : (i : ℕ) (x : X) (xs : List X) → StandsFrom d all i (x ∷ xs) → StandsFrom d all (suc i) xs
  next i x xs s k n e = s (suc k) n (omega (arith, e))

  whole : StandsFrom d all 0 all
  whole k n e = ap (λ m. get_or all m d) (omega (arith, e))

abbrev PointsFrom : List Point → ℕ → List Point → Type 0
PointsFrom = StandsFrom (whole_point (pos 0) (pos 0))

abbrev SidesFrom : List Segment → ℕ → List Segment → Type 0
SidesFrom = StandsFrom (segment (pos 0) (pos 0) (pos 0) (pos 0))

module _ (all : List Point) (test : Point → Bool) (j z : ℕ) (f : Part → Mark) (h : (l i : ℕ) → f (part l i j) ≡ mark (point_at all l) (point_at all i) z) where
  -- behind a point on the side
  chained_from : (l i : ℕ) (q : Point) (ps : List Point) → point_at all l ≡ q → PointsFrom all i ps → map f (parts_from test j (Some l) i ps) ≡ chain_from z q (filter test ps)
  unfolding parts_from chain_from
  chained_from l i q [] e s = refl
  chained_from l i q (p ∷ ps) e s =
      step (test p)
      (h l i ∙ ap₂ (λ x y. mark x y z) e (here _ all i p ps s))
      (chained_from i (suc i) p ps (here _ all i p ps s) (next _ all i p ps s))
      (chained_from l (suc i) q ps e (next _ all i p ps s))
    where
      step : (b : Bool) → f (part l i j) ≡ mark q p z → map f (parts_from test j (Some i) (suc i) ps) ≡ chain_from z p (filter test ps) → map f (parts_from test j (Some l) (suc i) ps) ≡ chain_from z q (filter test ps) →
          map f (cond b (part l i j ∷ parts_from test j (Some i) (suc i) ps) (parts_from test j (Some l) (suc i) ps)) ≡ chain_from z q (cond b (p ∷ filter test ps) (filter test ps))
      step true a x y = ap₂ (λ m ms. m ∷ ms) a x
      step false a x y = y

  -- before the first one
  pub chained : (i : ℕ) (ps : List Point) → PointsFrom all i ps → map f (parts_from test j None i ps) ≡ chain z (filter test ps)
  unfolding parts_from chain
  chained i [] s = refl
  chained i (p ∷ ps) s = step (test p) (chained_from i (suc i) p ps (here _ all i p ps s) (next _ all i p ps s)) (chained (suc i) ps (next _ all i p ps s))
    where
      step : (b : Bool) → map f (parts_from test j (Some i) (suc i) ps) ≡ chain_from z p (filter test ps) → map f (parts_from test j None (suc i) ps) ≡ chain z (filter test ps) →
          map f (cond b (parts_from test j (Some i) (suc i) ps) (parts_from test j None (suc i) ps)) ≡ chain z (cond b (p ∷ filter test ps) (filter test ps))
      step true x y = x
      step false x y = y

-- ---- all sides
same_test : (c : ℕ) (j : ℕ) (s : Segment) (z : ℕ) → on (record (whole_piece c j s) { curve = z }) ≡ holds s
unfolding on along
same_test c j s z = refl

module _ (ps : List Point) (c : ℕ) where
  pub strands_chained : (j : ℕ) (ss : List Segment) → map (strand_mark ps c) (parts_of_sides ps j ss) ≡ flat_map (λ k. chain k.curve (filter (on k) ps)) (strand_pieces (sides_from c (suc j) ss))
  unfolding parts_of_sides
  strands_chained j [] = refl
  strands_chained j (s ∷ ss) =
      let z : ℕ = strand c (suc j) in
      let test : Point → Bool = holds s in
      map-append (strand_mark ps c) (parts_from test j None 0 ps) (parts_of_sides ps (suc j) ss)
      ∙ ap₂ ◌++◌ (chained ps test j z (strand_mark ps c) (λ l i. refl) 0 ps (whole _ ps) ∙ ap (λ t. chain z (filter t ps)) (sym (same_test c (suc j) s z))) (strands_chained (suc j) ss)

  pub edges_chained : (j : ℕ) (ss : List Segment) → map (edge_mark ps c) (parts_of_sides ps j ss) ≡ flat_map (λ k. chain k.curve (filter (on k) ps)) (sides_from c (suc j) ss)
  unfolding parts_of_sides
  edges_chained j [] = refl
  edges_chained j (s ∷ ss) =
      let test : Point → Bool = holds s in
      map-append (edge_mark ps c) (parts_from test j None 0 ps) (parts_of_sides ps (suc j) ss)
      ∙ ap₂ ◌++◌ (chained ps test j c (edge_mark ps c) (λ l i. refl) 0 ps (whole _ ps) ∙ ap (λ t. chain c (filter t ps)) (sym (same_test c (suc j) s c))) (edges_chained (suc j) ss)

-- ---- each part is between neighbours
-- the part is of the side j, and goes from one point that the test tells to the next one
record IsFound (all : List Point) (test : Point → Bool) (j : ℕ) (t : Part) : Type 0 where
  side : t.side ≡ j
  places : IsPartIn all t
  begins : test (point_at all t.low) ≡ true
  ends : test (point_at all t.high) ≡ true
  none_between : (i : ℕ) → t.low < i → i < t.high → test (point_at all i) ≡ false

module _ (all : List Point) (test : Point → Bool) (j : ℕ) where
  abbrev Found : List Part → Type 0
  Found = AllByRecursion (IsFound all test j)

  -- the last point that the test told is at l
  record IsLast (l i : ℕ) : Type 0 where
    ahead : l < i
    told : test (point_at all l) ≡ true
    none_since : (k : ℕ) → l < k → k < i → test (point_at all k) ≡ false

  next_last : (l i : ℕ) → IsLast l i → test (point_at all i) ≡ false → IsLast l (suc i)
  next_last l i h e = record { ahead = let k = h.ahead in omega arith; told = h.told; none_since = λ k a b. ⊎_elim (h.none_since k a) (λ o. subst (λ n. test (point_at all n) ≡ false) (omega (arith, o, b)) e) (cases_lt k i) }

  first_last : (i : ℕ) → test (point_at all i) ≡ true → IsLast i (suc i)
  first_last i e = record { ahead = omega arith; told = e; none_since = λ k a b. absurd (omega (arith, a, b)) }

  one_found : (l i : ℕ) → IsLast l i → i < length all → test (point_at all i) ≡ true → IsFound all test j (part l i j)
  one_found l i h w e = record { side = refl; places = record { ahead = h.ahead; within = w }; begins = h.told; ends = e; none_between = h.none_since }

  found_from : (l i : ℕ) (ps : List Point) → IsLast l i → i + length ps ≡ length all → PointsFrom all i ps → Found (parts_from test j (Some l) i ps)
  unfolding parts_from
  found_from l i [] h e s = tt
  found_from l i (p ∷ ps) h e s =
      step (test p) (ap test (here _ all i p ps s))
      (λ b. (one_found l i h (omega (arith, e)) b, found_from i (suc i) ps (first_last i b) (omega (arith, e)) (next _ all i p ps s)))
      (λ b. found_from l (suc i) ps (next_last l i h b) (omega (arith, e)) (next _ all i p ps s))
    where
      step : (b : Bool) → test (point_at all i) ≡ b → (test (point_at all i) ≡ true → Found (part l i j ∷ parts_from test j (Some i) (suc i) ps)) → (test (point_at all i) ≡ false → Found (parts_from test j (Some l) (suc i) ps)) →
          Found (cond b (part l i j ∷ parts_from test j (Some i) (suc i) ps) (parts_from test j (Some l) (suc i) ps))
      step true t x y = x t
      step false t x y = y t

  found_all : (i : ℕ) (ps : List Point) → i + length ps ≡ length all → PointsFrom all i ps → Found (parts_from test j None i ps)
  unfolding parts_from
  found_all i [] e s = tt
  found_all i (p ∷ ps) e s =
      step (test p) (ap test (here _ all i p ps s))
      (λ b. found_from i (suc i) ps (first_last i b) (omega (arith, e)) (next _ all i p ps s))
      (found_all (suc i) ps (omega (arith, e)) (next _ all i p ps s))
    where
      step : (b : Bool) → test (point_at all i) ≡ b → (test (point_at all i) ≡ true → Found (parts_from test j (Some i) (suc i) ps)) → Found (parts_from test j None (suc i) ps) →
          Found (cond b (parts_from test j (Some i) (suc i) ps) (parts_from test j None (suc i) ps))
      step true t x y = x t
      step false t x y = y

-- of the sides of a list
module _ (all : List Point) (sides : List Segment) where
  -- the part goes between neighbours among the points on its side
  pub record IsOneOf (t : Part) : Type 0 where
    pub places : IsPartIn all t
    pub side : IsPartOf all sides t

  of_side : (s : Segment) (j : ℕ) (t : Part) → j < length sides → side_at sides j ≡ s → IsFound all (holds s) j t → IsOneOf t
  of_side s j t w e f =
      let same : side_at sides t.side ≡ s = ap (side_at sides) f.side ∙ e in
      record {
        places = f.places;
        side = record {
          side = subst (λ n. n < length sides) (sym f.side) w;
          begins = ap (λ x. holds x (point_at all t.low)) same ∙ f.begins;
          ends = ap (λ x. holds x (point_at all t.high)) same ∙ f.ends;
          none_between = λ i a b. ap (λ x. holds x (point_at all i)) same ∙ f.none_between i a b;
        };
      }

  of_sides : (j : ℕ) (ss : List Segment) → j + length ss ≡ length sides → SidesFrom sides j ss → (t : Part) → Member t (parts_of_sides all j ss) → IsOneOf t
  unfolding parts_of_sides
  of_sides j [] e h t m = absurd m
  of_sides j (s ∷ ss) e h t m =
      ⊎_elim
      (λ k. of_side s j t (omega (arith, e)) (here _ sides j s ss h) (All-member (IsFound all (holds s) j) t _ (found_all all (holds s) j 0 all (omega arith) (whole _ all)) k))
      (of_sides (suc j) ss (omega (arith, e)) (next _ sides j s ss h) t)
      (in_either t (parts_from (holds s) j None 0 all) (parts_of_sides all (suc j) ss) m)

  pub parts_are_of : (t : Part) → Member t (parts_of_sides all 0 sides) → IsOneOf t
  parts_are_of = of_sides 0 sides (omega arith) (whole _ sides)
