-- What a cut leaves of pieces: planned, and put in place of them.
use Rattle.std.proofs.Common.{◌≡◌, ◌≢◌, inl, inr, ℕ, zero, suc, ◌+◌, ◌≤◌, ◌<◌, ◌^◌, cond, not, Bool, true, false, ◌&&◌, ◌||◌, List, [], ◌∷◌, ◌++◌, length, map, take, drop, take_all, refl, sym, ap, subst, ◌∙◌, arith}
use Rattle.std.specs.List.{filter, flat_map, list_any, AllByRecursion}
use Rattle.std.proofs.lemmas.Bool.{cases_eq}
use Rattle.std.proofs.lemmas.List.{length-append, length-map, length-take, length-take-le, flat_map_more, take_at, take-append-le, drop-append-le, map-append, take-append-drop, drop_all}
use Rattle.std.proofs.lemmas.List.Elements.{filter-append}
use Rattle.exact_plane.specs.Point.{Point}
use Rattle.exact_plane.specs.Segment.{line_of_segment}
use Rattle.plane_graphs.specs.Line.{is_on, precedes}
use Rattle.plane_graphs.specs.Piece.{Piece, along, on}
use Rattle.edit_steps.specs.Steps.{cut_piece}
use Rattle.slab_laws.specs.Pieces.{piece_of}
use Rattle.slab_laws.specs.declared.present.Piece.{Piece as PieceInMemory}
use Rattle.curve_history.specs.declared.cuts.CutPlan.{CutPlan}
use Rattle.curve_history.specs.Cuts.{leaves_some, rests_of, spans, AllLeaveSome, AreWhole, IsPlanOfCut, IsPlanWithNext}

-- ---- what holds of all elements of a list
module _ {X : Type 0} (P : X → Type 0) where
  pub all_push : (xs : List X) (x : X) → AllByRecursion P xs → P x → AllByRecursion P (xs ++ x ∷ [])
  all_push [] x a h = (h, tt)
  all_push (y ∷ xs) x a h = (a.0, all_push xs x a.1 h)

-- ---- those of which something is left
module _ {X Y : Type 0} (f : X → List Y) where
  empty : (ys : List Y) → list_any (λ y. true) ys ≡ false → ys ≡ []
  empty [] h = refl
  empty (y ∷ ys) h = cc

  -- the others come to nothing
  pub flat_kept : (xs : List X) → flat_map f (filter (λ x. list_any (λ y. true) (f x)) xs) ≡ flat_map f xs
  flat_kept [] = refl
  flat_kept (x ∷ xs) = step (list_any (λ y. true) (f x)) refl (flat_kept xs)
    where
      step : (b : Bool) → list_any (λ y. true) (f x) ≡ b → flat_map f (filter (λ x. list_any (λ y. true) (f x)) xs) ≡ flat_map f xs → flat_map f (cond b (x ∷ filter (λ x. list_any (λ y. true) (f x)) xs) (filter (λ x. list_any (λ y. true) (f x)) xs)) ≡ f x ++ flat_map f xs
      step true e h = ap (λ ys. f x ++ ys) h
      step false e h = h ∙ ap (λ ys. ys ++ flat_map f xs) (sym (empty (f x) e))

  some : (ys : List Y) → list_any (λ y. true) ys ≡ true → 1 ≤ length ys
  some [] h = cc
  some (y ∷ ys) h = omega arith

  pub kept_some : (xs : List X) → AllByRecursion (λ x. 1 ≤ length (f x)) (filter (λ x. list_any (λ y. true) (f x)) xs)
  kept_some [] = tt
  kept_some (x ∷ xs) = step (list_any (λ y. true) (f x)) refl (kept_some xs)
    where
      step : (b : Bool) → list_any (λ y. true) (f x) ≡ b → AllByRecursion (λ x. 1 ≤ length (f x)) (filter (λ x. list_any (λ y. true) (f x)) xs) → AllByRecursion (λ x. 1 ≤ length (f x)) (cond b (x ∷ filter (λ x. list_any (λ y. true) (f x)) xs) (filter (λ x. list_any (λ y. true) (f x)) xs))
      step true e h = (some (f x) e, h)
      step false e h = h

  -- as many as there are, or more
  pub no_fewer : (xs : List X) → AllByRecursion (λ x. 1 ≤ length (f x)) xs → length xs ≤ length (flat_map f xs)
  no_fewer [] a = omega arith
  no_fewer (x ∷ xs) a = omega (arith, length-append (f x) (flat_map f xs), a.0, no_fewer xs a.1)

  -- one element more
  pub length_more : (xs : List X) (x : X) → length (flat_map f (xs ++ x ∷ [])) ≡ length (flat_map f xs) + length (f x)
  length_more xs x = ap length (sym (flat_map_more f [] xs x)) ∙ length-append (flat_map f xs) (f x)

-- ---- a piece's line
and_true : (x y : Bool) → x ≡ true → y ≡ (x && y)
and_true true y h = refl
and_true false y h = cc

and_false : (x y : Bool) → x ≡ false → x ≡ (x && y)
and_false false y h = refl
and_false true y h = cc

module _ (k : Piece) (a b : Point) (x : Bool) (h : x ≡ is_on (line_of_segment k.segment) a) where
  pub both_along : x ≡ true → (y : Bool) → y ≡ is_on (line_of_segment k.segment) b → y ≡ (along k a && along k b)
  unfolding along
  both_along t y g = g ∙ and_true (is_on (line_of_segment k.segment) a) (is_on (line_of_segment k.segment) b) (sym h ∙ t)

  pub one_apart : x ≡ false → x ≡ (along k a && along k b)
  unfolding along
  one_apart f = h ∙ and_false (is_on (line_of_segment k.segment) a) (is_on (line_of_segment k.segment) b) (sym h ∙ f)

-- ---- a piece that holds both points, or not
six_in : (a b c d x y : Bool) → (a && b) ≡ true → ((x && y) && (c && d)) ≡ ((x && (a && d)) && (y && (c && b)))
six_in true true c d false y h = refl
six_in true true c true true false h = refl
six_in true true c false true false h = refl
six_in true true true true true true h = refl
six_in true true true false true true h = refl
six_in true true false true true true h = refl
six_in true true false false true true h = refl
six_in true false c d x y h = cc
six_in false b c d x y h = cc

six_out : (a b c d x y : Bool) → (a && b) ≡ false → (a && b) ≡ ((x && (a && d)) && (y && (c && b)))
six_out true true c d x y h = cc
six_out false b c d false y h = refl
six_out false b c d true y h = refl
six_out true false c d false y h = refl
six_out true false c false true y h = refl
six_out true false c true true false h = refl
six_out true false true true true true h = refl
six_out true false false true true true h = refl

and_turned : (x y : Bool) → (x && y) ≡ (y && x)
and_turned true true = refl
and_turned true false = refl
and_turned false true = refl
and_turned false false = refl

module _ (k : Piece) (a b : Point) where
  module _ (r : Bool) (h : r ≡ spans k a b) where
    pub both_on : r ≡ true → (y : Bool) → y ≡ ((along k b && along k a) && spans k b a) → y ≡ (on k a && on k b)
    unfolding on
    both_on t y g = g ∙ ap (λ z. z && spans k b a) (and_turned (along k b) (along k a)) ∙ six_in (not (precedes a k.from)) (not (precedes k.to b)) (not (precedes b k.from)) (not (precedes k.to a)) (along k a) (along k b) (sym h ∙ t)

    pub one_off : r ≡ false → r ≡ (on k a && on k b)
    unfolding on
    one_off f = h ∙ six_out (not (precedes a k.from)) (not (precedes k.to b)) (not (precedes b k.from)) (not (precedes k.to a)) (along k a) (along k b) (sym h ∙ f)

  -- whether something is left
  module _ (r : Bool) (h : r ≡ (precedes k.from a || precedes b k.to)) where
    past_some : {X : Type 0} (x y z : X) (s t u : Bool) → (s || t) ≡ true → true ≡ list_any (λ x. true) (cond u (cond s (x ∷ []) [] ++ cond t (y ∷ []) []) (z ∷ []))
    past_some x y z s t false q = refl
    past_some x y z true t true q = refl
    past_some x y z false true true q = refl
    past_some x y z false false true q = cc

    within_some : {X : Type 0} (x y z : X) (s t u : Bool) → (s || t) ≡ false → not u ≡ list_any (λ x. true) (cond u (cond s (x ∷ []) [] ++ cond t (y ∷ []) []) (z ∷ []))
    within_some x y z s t false q = refl
    within_some x y z true t true q = cc
    within_some x y z false true true q = cc
    within_some x y z false false true q = refl

    pub leaves_past : r ≡ true → r ≡ leaves_some a b k
    unfolding cut_piece
    leaves_past t = t ∙ past_some (record k { to = a }) (record k { from = b }) k (precedes k.from a) (precedes b k.to) (on k a && on k b) (sym h ∙ t)

    pub leaves_other : r ≡ false → (s : Bool) → s ≡ (on k a && on k b) → not s ≡ leaves_some a b k
    unfolding cut_piece
    leaves_other f s g = ap not g ∙ within_some (record k { to = a }) (record k { from = b }) k (precedes k.from a) (precedes b k.to) (on k a && on k b) (sym h ∙ f)

  -- a piece that doesn't hold both stays
  module _ (r : Bool) (h : r ≡ (on k a && on k b)) (f : r ≡ false) where
    pub is_whole : cut_piece a b k ≡ k ∷ []
    unfolding cut_piece
    is_whole = ap (λ c. cond c (cond (precedes k.from a) (record k { to = a } ∷ []) [] ++ cond (precedes b k.to) (record k { from = b } ∷ []) []) (k ∷ [])) (sym h ∙ f)

    pub whole_count : 1 ≡ length (cut_piece a b k)
    whole_count = ap length (sym is_whole)

  -- one that does is parted
  module _ (r : Bool) (h : r ≡ (on k a && on k b)) (t : r ≡ true) (s : Bool) (hs : s ≡ precedes k.from a) (u : Bool) (hu : u ≡ precedes b k.to) where
    pub are_parts : cut_piece a b k ≡ cond s (record k { to = a } ∷ []) [] ++ cond u (record k { from = b } ∷ []) []
    unfolding cut_piece
    are_parts =
        ap (λ c. cond c (cond (precedes k.from a) (record k { to = a } ∷ []) [] ++ cond (precedes b k.to) (record k { from = b } ∷ []) []) (k ∷ [])) (sym h ∙ t)
        ∙ ap (λ c. cond c (record k { to = a } ∷ []) [] ++ cond (precedes b k.to) (record k { from = b } ∷ []) []) (sym hs)
        ∙ ap (λ c. cond s (record k { to = a } ∷ []) [] ++ cond c (record k { from = b } ∷ []) []) (sym hu)

    both_counts : {X : Type 0} (x y : X) (s u : Bool) → cond {A = ℕ} s 1 0 + cond {A = ℕ} u 1 0 ≡ length (cond s (x ∷ []) [] ++ cond u (y ∷ []) [])
    both_counts x y true true = refl
    both_counts x y true false = refl
    both_counts x y false true = refl
    both_counts x y false false = refl

    pub parts_count : cond {A = ℕ} s 1 0 + cond {A = ℕ} u 1 0 ≡ length (cut_piece a b k)
    parts_count = both_counts (record k { to = a }) (record k { from = b }) s u ∙ ap length (sym are_parts)

-- ---- how many are left of all
pub two_at_most : (a b : Point) (k : Piece) → length (cut_piece a b k) ≤ 2
unfolding cut_piece
two_at_most a b k = by (precedes k.from a) (precedes b k.to) (on k a && on k b)
  where
    by : (s t u : Bool) → length (cond u (cond s (record k { to = a } ∷ []) [] ++ cond t (record k { from = b } ∷ []) []) (k ∷ [])) ≤ 2
    by s t false = omega arith
    by true true true = omega arith
    by true false true = omega arith
    by false true true = omega arith
    by false false true = omega arith

pub twice_at_most : (a b : Point) (i : ℕ) (ks : List Piece) → length (flat_map (cut_piece a b) (take i ks)) ≤ i + i
twice_at_most a b zero ks = omega arith
twice_at_most a b (suc i) [] = omega arith
twice_at_most a b (suc i) (k ∷ ks) = omega (arith, length-append (cut_piece a b k) (flat_map (cut_piece a b) (take i ks)), two_at_most a b k, twice_at_most a b i ks)

pub all_twice : (a b : Point) (ks : List Piece) → length (rests_of a b ks) ≤ length ks + length ks
all_twice a b ks = subst (λ l. length (rests_of a b l) ≤ length ks + length ks) (take_all (length ks) ks (omega arith)) (twice_at_most a b (length ks) ks)

-- ---- the plan
module _ (a b : Point) where
  pub whole_rests : (ks : List Piece) → AreWhole a b ks → rests_of a b ks ≡ ks
  whole_rests [] w = refl
  whole_rests (k ∷ ks) w = ap (λ l. l ++ rests_of a b ks) w.0 ∙ ap (λ l. k ∷ l) (whole_rests ks w.1)

  whole_kept : (ks : List Piece) → AreWhole a b ks → filter (leaves_some a b) ks ≡ ks
  whole_kept [] w = refl
  whole_kept (k ∷ ks) w =
      ap (λ l. cond (list_any (λ rest. true) l) (k ∷ filter (leaves_some a b) ks) (filter (leaves_some a b) ks)) w.0
      ∙ ap (λ l. k ∷ l) (whole_kept ks w.1)

  pub first_plan : (plan : CutPlan) → plan.left ≡ 0 → plan.first ≡ 0 → plan.end ≡ 0 → IsPlanOfCut a b [] plan
  first_plan plan l f e = record {
    left = l;
    run = omega (arith, f);
    within = omega (arith, e);
    before = subst (λ n. AreWhole a b (take n [])) (sym f) tt;
    behind = subst (λ n. AreWhole a b (drop n [])) (sym e) tt;
    stay = λ h. tt;
  }

  module _ (k : Piece) (place : ℕ) (plan next : CutPlan) where
    -- it holds both
    pub held_next : (m : ℕ) → m ≡ length (cut_piece a b k) → next.left ≡ plan.left + m → next.first ≡ plan.first → next.end ≡ place + 1 → (next.some_go ≡ false → (plan.some_go ≡ false) × (1 ≤ m)) → IsPlanWithNext a b plan place k next
    held_next m c l f e g ks n p = record {
      left = omega (arith, l, p.left, c, length_more (cut_piece a b) ks k);
      run = omega (arith, f, e, p.run, p.within, n);
      within = omega (arith, e, n, length-append ks (k ∷ []));
      before = subst (λ i. AreWhole a b (take i (ks ++ k ∷ []))) (sym f) (subst (AreWhole a b) (sym (take-append-le plan.first ks (k ∷ []) (omega (arith, p.run, p.within)))) p.before);
      behind = subst (AreWhole a b) (sym (drop_all next.end (ks ++ k ∷ []) (omega (arith, e, n, length-append ks (k ∷ []))))) tt;
      stay = λ h. all_push (λ k. 1 ≤ length (cut_piece a b k)) ks k (p.stay (g h).0) (omega (arith, c, (g h).1));
    }

    -- it stays whole
    pub whole_next : cut_piece a b k ≡ k ∷ [] → next.left ≡ plan.left + 1 → (plan.first ≡ place → (next.first ≡ place + 1) × (next.end ≡ place + 1)) → (plan.first ≢ place → (next.first ≡ plan.first) × (next.end ≡ plan.end)) → next.some_go ≡ plan.some_go → IsPlanWithNext a b plan place k next
    whole_next w l none some g ks n p = elim (cases_eq plan.first place) [
      | inl q ↦ let r = none q in record {
        left = left;
        run = omega (arith, r.0, r.1);
        within = omega (arith, r.1, n, length-append ks (k ∷ []));
        before = subst (AreWhole a b) (sym (take_all next.first (ks ++ k ∷ []) (omega (arith, r.0, n, length-append ks (k ∷ [])))))
            (all_push (λ k. cut_piece a b k ≡ k ∷ []) ks k (subst (AreWhole a b) (take_all plan.first ks (omega (arith, q, n))) p.before) w);
        behind = subst (AreWhole a b) (sym (drop_all next.end (ks ++ k ∷ []) (omega (arith, r.1, n, length-append ks (k ∷ []))))) tt;
        stay = stay;
      }
      | inr ne ↦ let r = some ne in record {
        left = left;
        run = omega (arith, r.0, r.1, p.run);
        within = omega (arith, r.1, p.within, length-append ks (k ∷ []));
        before = subst (λ i. AreWhole a b (take i (ks ++ k ∷ []))) (sym r.0) (subst (AreWhole a b) (sym (take-append-le plan.first ks (k ∷ []) (omega (arith, p.run, p.within)))) p.before);
        behind = subst (λ i. AreWhole a b (drop i (ks ++ k ∷ []))) (sym r.1) (subst (AreWhole a b) (sym (drop-append-le plan.end ks (k ∷ []) p.within)) (all_push (λ k. cut_piece a b k ≡ k ∷ []) (drop plan.end ks) k p.behind w));
        stay = stay;
      }
    ]
      where
        left : next.left ≡ length (rests_of a b (ks ++ k ∷ []))
        left = omega (arith, l, p.left, ap length w, length_more (cut_piece a b) ks k)

        stay : next.some_go ≡ false → AllLeaveSome a b (ks ++ k ∷ [])
        stay h = all_push (λ k. 1 ≤ length (cut_piece a b k)) ks k (p.stay (sym g ∙ h)) (omega (arith, ap length w))

  -- along pieces in memory, of which so many came
  module _ (js is : List PieceInMemory) (i : ℕ) (came : i ≡ length js) (plan : CutPlan) (p : IsPlanOfCut a b (map piece_of js) plan) where
    pub plan_fits : length (js ++ is) < 2 ^ 32 → plan.left < 2 ^ 34
    plan_fits f = omega (arith, p.left, f, length-append js is, length-map js piece_of, all_twice a b (map piece_of js))

    pub plan_more : (j : PieceInMemory) (next : CutPlan) → IsPlanWithNext a b plan i (piece_of j) next → IsPlanOfCut a b (map piece_of (js ++ j ∷ [])) next
    plan_more j next w = subst (λ l. IsPlanOfCut a b l next) (sym (map-append piece_of js (j ∷ []))) (w (map piece_of js) (length-map js piece_of ∙ sym came) p)

-- ---- without the pieces of which nothing is left
module _ (a b : Point) (ks ls : List Piece) (kept : ls ≡ filter (leaves_some a b) ks) where
  pub same_rests : rests_of a b ls ≡ rests_of a b ks
  same_rests = ap (rests_of a b) kept ∙ flat_kept (cut_piece a b) ks

  pub all_leave : AllLeaveSome a b ls
  all_leave = subst (AllLeaveSome a b) (sym kept) (kept_some (cut_piece a b) ks)

  -- up to the first of the run all are kept
  module _ (plan next : CutPlan) (p : IsPlanOfCut a b ks plan) where
    front : take plan.first ls ≡ take plan.first ks
    front =
        let f = filter (leaves_some a b) in
        let parts : ls ≡ take plan.first ks ++ f (drop plan.first ks) = kept ∙ ap f (sym (take-append-drop plan.first ks)) ∙ filter-append (leaves_some a b) (take plan.first ks) (drop plan.first ks) ∙ ap (λ l. l ++ f (drop plan.first ks)) (whole_kept a b (take plan.first ks) p.before) in
        ap (take plan.first) parts ∙ take_at (take plan.first ks) (f (drop plan.first ks)) plan.first (length-take-le plan.first ks (omega (arith, p.run, p.within)))

    front_in : plan.first ≤ length ls
    front_in =
        omega (arith, ap length front, length-take plan.first ls, length-take-le plan.first ks (omega (arith, p.run, p.within)))

    pub kept_plan : next.left ≡ plan.left → next.first ≡ plan.first → next.end ≡ length ls → IsPlanOfCut a b ls next
    kept_plan l f e = record {
      left = l ∙ p.left ∙ ap length (sym same_rests);
      run = omega (arith, f, e, front_in);
      within = omega (arith, e);
      before = subst (λ n. AreWhole a b (take n ls)) (sym f) (subst (AreWhole a b) (sym front) p.before);
      behind = subst (AreWhole a b) (sym (drop_all next.end ls (omega (arith, e)))) tt;
      stay = λ h. all_leave;
    }
