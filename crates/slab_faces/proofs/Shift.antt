-- A sum over a list is the same over another list with the same members, and after a one-to-one map of the list to itself; so a union of orbits is even at each vertex.
use Rattle.std.proofs.Common.{◌≡◌, ℕ, ◌+◌, ◌-◌, ◌≤◌, Bool, true, false, cond, arith, refl, sym, ap, ◌∙◌, inl, inr, List, [], ◌∷◌, subst, get_or}
use Rattle.std.specs.Prelude.{map}
use Rattle.std.specs.List.{sum_by, count_by, All, Contains}
use Rattle.std.proofs.lemmas.Bool.{cases_lt, false≢true}
use Rattle.std.proofs.lemmas.List.Sums.{sum_by-cons, sum_by-append, get_or-le-sum_by}
use Rattle.slab_laws.specs.Darts.{Dart, source, target, ahead, back, darts}
use Rattle.exact_plane.specs.Point.{Point}
use Rattle.plane_graphs.specs.Graph.{Edge}
use Rattle.slab_laws.specs.Skeleton.{Skeleton, same_point}
use Rattle.slab_laws.specs.Weights.{Even, at_end, IsEvenAtVertices}
use Rattle.slab_faces.proofs.Sums.{each, sum_by-same, sum_by-swap, sum_by-plus, sum_by-cond, fewer}
use Rattle.slab_faces.proofs.Found.{found}

-- the terms of a sum are at most those of another with the same total: they are the same
pub all_met : {X : Type 0} (f g : X → ℕ) (xs : List X) → All (λ x. f x ≤ g x) xs → sum_by g xs ≤ sum_by f xs → All (λ x. f x ≡ g x) xs
all_met f g xs h t = λ k d l.
    let a = get_or-le-sum_by (λ x. g x - f x) xs k d l in
    let b : sum_by g xs ≡ sum_by (λ x. f x + (g x - f x)) xs = sum_by-same g (λ x. f x + (g x - f x)) xs (λ k d l. let p : f (get_or xs k d) ≤ g (get_or xs k d) = h k d l in omega arith) in
    let c = sum_by-plus f (λ x. g x - f x) xs in
    let p : f (get_or xs k d) ≤ g (get_or xs k d) = h k d l in
    omega arith

-- a list each of whose members stands in it once, by a test of equality
pub record IsSetBy {X : Type 0} (eq : X → X → Bool) (xs : List X) : Type 0 where
  pub sound : (x y : X) → eq x y ≡ true → x ≡ y
  pub self : (x : X) → eq x x ≡ true
  pub once : (x : X) → Contains xs x → count_by (eq x) xs ≡ 1

pub record IsOneToOne {X : Type 0} (s : X → X) (xs : List X) : Type 0 where
  pub inside : (x : X) → Contains xs x → Contains xs (s x)
  pub one : (x y : X) → Contains xs x → Contains xs y → s x ≡ s y → x ≡ y

-- the term of one member
pick : {X : Type 0} (eq : X → X → Bool) (F : X → ℕ) (xs : List X) (x : X) → IsSetBy eq xs → Contains xs x → sum_by (λ y. cond (eq x y) (F y) 0) xs ≡ F x
pick eq F xs x n in' =
    let a : sum_by (λ y. cond (eq x y) (F y) 0) xs ≡ sum_by (λ y. cond (eq x y) (F x) 0) xs =
    sum_by-same _ _ xs (each (λ y. cond (eq x y) (F y) 0 ≡ cond (eq x y) (F x) 0) xs (λ y _. at (eq x y) (F y) (F x) (λ h. ap F (sym (n.sound x y h))))) in
    let b = sum_by-cond (eq x) (F x) xs in
    let b' = rw (n.once x in') at b in
    a ∙ b' ∙ omega arith
  where
    at : (b : Bool) (m n : ℕ) → (b ≡ true → m ≡ n) → cond b m 0 ≡ cond b n 0
    at true m n h = h refl
    at false m n h = refl

-- lists with the same members, each once, have the same sums
pub same_sum : {X : Type 0} (eq : X → X → Bool) (F : X → ℕ) (xs ys : List X) → IsSetBy eq xs → IsSetBy eq ys → ((x : X) → Contains xs x → Contains ys x) → ((y : X) → Contains ys y → Contains xs y) → sum_by F xs ≡ sum_by F ys
same_sum {X} eq F xs ys n k to back =
    let a : sum_by F xs ≡ sum_by (λ x. sum_by (λ y. cond (eq x y) (F y) 0) ys) xs =
    sum_by-same _ _ xs (each (λ x. F x ≡ sum_by (λ y. cond (eq x y) (F y) 0) ys) xs (λ x c. sym (pick eq F ys x k (to x c)))) in
    let b = sum_by-swap (λ x y. cond (eq x y) (F y) 0) xs ys in
    let d : sum_by (λ y. sum_by (λ x. cond (eq x y) (F y) 0) xs) ys ≡ sum_by F ys =
    sum_by-same _ _ ys (each (λ y. sum_by (λ x. cond (eq x y) (F y) 0) xs ≡ F y) ys (λ y c.
    let p = sum_by-cond (λ x. eq x y) (F y) xs in
    let q : count_by (λ x. eq x y) xs ≡ 1 = sum_by-same (λ x. cond (eq x y) 1 0) (λ x. cond (eq y x) 1 0) xs (each (λ x. cond {A = ℕ} (eq x y) 1 0 ≡ cond (eq y x) 1 0) xs (λ x _. ap (λ b. cond {A = ℕ} b 1 0) (turn x y))) ∙ n.once y (back y c) in
    let p' = rw q at p in
    p' ∙ omega arith)) in
    a ∙ b ∙ d
  where
    turn : (x y : X) → eq x y ≡ eq y x
    turn x y = go (eq x y) (eq y x) refl refl
      where
        go : (a b : Bool) → eq x y ≡ a → eq y x ≡ b → a ≡ b
        go true true p q = refl
        go false false p q = refl
        go true false p q = absurd (false≢true (sym q ∙ subst (λ z. eq z x ≡ true) (n.sound x y p) (n.self x)))
        go false true p q = absurd (false≢true (sym p ∙ subst (λ z. eq z y ≡ true) (n.sound y x q) (n.self y)))

-- how many members go to y: one
hits : {X : Type 0} (eq : X → X → Bool) (s : X → X) (xs : List X) → IsSetBy eq xs → IsOneToOne s xs → All (λ y. count_by (λ x. eq (s x) y) xs ≡ 1) xs
hits {X} eq s xs n o =
    let c : X → ℕ = λ y. count_by (λ x. eq (s x) y) xs in
    let most : (y : X) → Contains xs y → c y ≤ 1 = λ y _.
    elim (cases_lt 0 (c y)) [
      | inl h ↦
          let w = found (λ x. eq (s x) y) xs h in
          let f = fewer (λ x. eq (s x) y) (eq w.0) xs (λ x i k. subst (λ z. eq w.0 z ≡ true) (o.one w.0 x w.1 i (n.sound _ _ w.2 ∙ sym (n.sound _ _ k))) (n.self w.0)) in
          let g = n.once w.0 w.1 in
          omega arith
      | inr h ↦ omega arith
    ] in
    let total : sum_by c xs ≡ sum_by (λ x. count_by (eq (s x)) xs) xs = sum_by-swap (λ y x. cond (eq (s x) y) 1 0) xs xs in
    let ones : sum_by (λ x. count_by (eq (s x)) xs) xs ≡ sum_by (λ (x : X). 1) xs = sum_by-same _ _ xs (each (λ x. count_by (eq (s x)) xs ≡ 1) xs (λ x i. n.once (s x) (o.inside x i))) in
    all_met c (λ (x : X). 1) xs (each (λ y. c y ≤ 1) xs most) (omega arith)

pub sum_by-shift : {X : Type 0} (eq : X → X → Bool) (s : X → X) (F : X → ℕ) (xs : List X) → IsSetBy eq xs → IsOneToOne s xs → sum_by (λ x. F (s x)) xs ≡ sum_by F xs
sum_by-shift {X} eq s F xs n o =
    let a : sum_by (λ x. F (s x)) xs ≡ sum_by (λ x. sum_by (λ y. cond (eq (s x) y) (F y) 0) xs) xs =
    sum_by-same _ _ xs (each (λ x. F (s x) ≡ sum_by (λ y. cond (eq (s x) y) (F y) 0) xs) xs (λ x i. sym (pick eq F xs (s x) n (o.inside x i)))) in
    let b = sum_by-swap (λ x y. cond (eq (s x) y) (F y) 0) xs xs in
    let h = hits eq s xs n o in
    let c : sum_by (λ y. sum_by (λ x. cond (eq (s x) y) (F y) 0) xs) xs ≡ sum_by F xs =
    sum_by-same (λ y. sum_by (λ x. cond (eq (s x) y) (F y) 0) xs) F xs (λ k d l.
    let y = get_or xs k d in
    let e = sum_by-cond (λ x. eq (s x) y) (F y) xs in
    let e' = rw (h k d l) at e in
    e' ∙ omega arith) in
    a ∙ b ∙ c

pub sum_by-map : {X Y : Type 0} (f : Y → ℕ) (h : X → Y) (xs : List X) → sum_by f (map h xs) ≡ sum_by (λ x. f (h x)) xs
sum_by-map f h [] = refl
sum_by-map f h (x ∷ xs) = omega (arith, sum_by-cons f (h x) (map h xs), sum_by-cons (λ x. f (h x)) x xs, sum_by-map f h xs)

-- ---- darts
-- 1 for what passes, 0 for what doesn't
abbrev pub tally : Bool → ℕ
tally b = cond b 1 0

-- how many of an edge's two darts are in the set
abbrev pub darts_on : (Dart → Bool) → Edge → ℕ
darts_on o e = tally (o (ahead e)) + tally (o (back e))

-- a set of darts that holds, with each, its next is even at each vertex
pub handshake : (g : Skeleton) (eq : Dart → Dart → Bool) (next : Dart → Dart) (o : Dart → Bool) → IsSetBy eq (darts g) → IsOneToOne next (darts g) → ((h : Dart) → Contains (darts g) h → (source (next h) ≡ target h) × (o (next h) ≡ o h)) → IsEvenAtVertices g (darts_on o)
handshake g eq next o n s turns = record { even_at = λ v _. at v }
  where
    deal : (l u : Bool) (a b : ℕ) → cond l (a + b) 0 + cond u (a + b) 0 ≡ cond l a 0 + cond u b 0 + (cond u a 0 + cond l b 0)
    deal true true a b = omega arith
    deal true false a b = omega arith
    deal false true a b = omega arith
    deal false false a b = refl

    at : (v : Point) → Even (sum_by (at_end (darts_on o) v) g.edges)
    at v =
        let F : Dart → ℕ = λ h. cond (same_point (source h) v) (tally (o h)) 0 in
        let T : Dart → ℕ = λ h. cond (same_point (target h) v) (tally (o h)) 0 in
        let a : sum_by T (darts g) ≡ sum_by (λ h. F (next h)) (darts g) =
        sum_by-same T (λ h. F (next h)) (darts g) (each (λ h. T h ≡ F (next h)) (darts g) (λ h i. let k = turns h i in λ j. cond (same_point (sym k.0 j) v) (tally (sym k.1 j)) 0)) in
        let b = sum_by-shift eq next F (darts g) n s in
        let f1 = sum_by-append F (map ahead g.edges) (map back g.edges) in
        let f2 = sum_by-map F ahead g.edges in
        let f3 = sum_by-map F back g.edges in
        let t1 = sum_by-append T (map ahead g.edges) (map back g.edges) in
        let t2 = sum_by-map T ahead g.edges in
        let t3 = sum_by-map T back g.edges in
        let p = sum_by-plus (λ e. F (ahead e) + F (back e)) (λ e. T (ahead e) + T (back e)) g.edges in
        let q = sum_by-plus (λ e. F (ahead e)) (λ e. F (back e)) g.edges in
        let r = sum_by-plus (λ e. T (ahead e)) (λ e. T (back e)) g.edges in
        let w : sum_by (at_end (darts_on o) v) g.edges ≡ sum_by (λ e. F (ahead e) + F (back e) + (T (ahead e) + T (back e))) g.edges =
        sum_by-same _ _ g.edges (each (λ e. at_end (darts_on o) v e ≡ F (ahead e) + F (back e) + (T (ahead e) + T (back e))) g.edges (λ e _.
        deal (same_point e.low v) (same_point e.high v) (tally (o (ahead e))) (tally (o (back e))))) in
        omega arith
