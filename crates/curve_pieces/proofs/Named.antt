-- Rows by name, after each change of the names and of what they have.
use Rattle.std.proofs.Common.{◌≡◌, ◌≢◌, ⊎_elim, inl, inr, ℕ, Bool, true, false, cond, List, [], ◌∷◌, ◌++◌, Option, Some, None, IsSome, refl, sym, ap, subst, ◌∙◌, Contains}
use Rattle.std.specs.List.{filter}
use Rattle.std.proofs.lemmas.Bool.{cases_eq}
use Rattle.std.proofs.lemmas.List.{map-append}
use Rattle.plane_graphs.specs.Ascending.{Member}
use Rattle.plane_graphs.proofs.Ascending.{from_member}
use Rattle.plane_graphs.proofs.Lists.{in_left, in_right, in_either, in_map}
use Rattle.slab_laws.specs.Tables.{names}
use Rattle.slab_laws.specs.declared.present.Piece.{Piece}
use Rattle.chain_laws.specs.Links.{without}
use Rattle.chain_laws.proofs.Distinct.{here, there, IsOnce, without_hit, without_miss}
use Rattle.linked_chains.specs.Chains.{put_after}
use Rattle.curve_pieces.specs.PiecesInMemory.{with_piece, rows_of}
use Rattle.curve_pieces.proofs.Split.{not_before, not_behind, without_split, put_split}

abbrev pub Row : Type 0
Row = ℕ × Piece

-- each row has what its name has
abbrev pub AreRows : (ℕ → Option Piece) → List Row → Type 0
AreRows p rs = (r : Row) → Member r rs → p r.0 ≡ Some r.1

-- each name has a piece
abbrev pub AreThere : (ℕ → Option Piece) → List ℕ → Type 0
AreThere p ns = (n : ℕ) → Contains ns n → IsSome (p n)

pub rows_back : (p : ℕ → Option Piece) (rs : List Row) → AreRows p rs → rows_of p (names rs) ≡ rs
rows_back p [] a = refl
rows_back p (r ∷ rs) a = ap (λ o. with_piece r.0 o (rows_of p (names rs))) (a r (inl refl)) ∙ ap (λ ys. r ∷ ys) (rows_back p rs (λ x m. a x (inr m)))

pub names_are : (p : ℕ → Option Piece) (ns : List ℕ) → AreThere p ns → names (rows_of p ns) ≡ ns
names_are p [] t = refl
names_are p (n ∷ ns) t = by (p n) (t n (here n ns)) ∙ ap (λ ms. n ∷ ms) (names_are p ns (λ m c. t m (there n m ns c)))
  where
    by : (o : Option Piece) → IsSome o → names (with_piece n o (rows_of p ns)) ≡ n ∷ names (rows_of p ns)
    by None s = absurd (cc)
    by (Some k) s = refl

pub are_rows : (p : ℕ → Option Piece) (ns : List ℕ) → AreRows p (rows_of p ns)
are_rows p [] r m = absurd m
are_rows p (n ∷ ns) r m = by (are_rows p ns r) (p n) refl m
  where
    by : (Member r (rows_of p ns) → p r.0 ≡ Some r.1) → (o : Option Piece) → p n ≡ o → Member r (with_piece n o (rows_of p ns)) → p r.0 ≡ Some r.1
    by later None e m = later m
    by later (Some k) e (inl q) = subst (λ (z : Row). p z.0 ≡ Some z.1) (sym q) e
    by later (Some k) e (inr m) = later m

pub rows_same : (p q : ℕ → Option Piece) (ns : List ℕ) → ((n : ℕ) → Contains ns n → q n ≡ p n) → rows_of q ns ≡ rows_of p ns
rows_same p q [] h = refl
rows_same p q (n ∷ ns) h = ap (λ o. with_piece n o (rows_of q ns)) (h n (here n ns)) ∙ ap (with_piece n (p n)) (rows_same p q ns (λ m c. h m (there n m ns c)))

pub rows_append : (p : ℕ → Option Piece) (ns ms : List ℕ) → rows_of p (ns ++ ms) ≡ rows_of p ns ++ rows_of p ms
rows_append p [] ms = refl
rows_append p (n ∷ ns) ms = ap (with_piece n (p n)) (rows_append p ns ms) ∙ by (p n)
  where
    by : (o : Option Piece) → with_piece n o (rows_of p ns ++ rows_of p ms) ≡ with_piece n o (rows_of p ns) ++ rows_of p ms
    by None = refl
    by (Some k) = refl

pub in_names : (r : Row) (rs : List Row) → Member r rs → Contains (names rs) r.0
in_names r rs m = from_member (names rs) r.0 (in_map (λ (e : Row). e.0) r rs m)

-- ---- parted at one row
module _ (p q : ℕ → Option Piece) (ns : List ℕ) (once : IsOnce ns) (t : AreThere p ns) (n : ℕ) (agree : (m : ℕ) → m ≢ n → q m ≡ p m) where
  -- n was there
  module _ (before after : List Row) (k : Piece) (is : rows_of p ns ≡ before ++ (n, k) ∷ after) where
    named : ns ≡ names before ++ n ∷ names after
    named = sym (names_are p ns t) ∙ ap names is ∙ map-append (λ (e : Row). e.0) before ((n, k) ∷ after)

    once_split : IsOnce (names before ++ n ∷ names after)
    once_split = subst IsOnce named once

    no_before : ¬ Contains (names before) n
    no_before = not_before n (names before) (names after) once_split

    no_behind : ¬ Contains (names after) n
    no_behind = not_behind n (names before) (names after) once_split

    are : AreRows p (before ++ (n, k) ∷ after)
    are = subst (AreRows p) is (are_rows p ns)

    before_are : AreRows q before
    before_are r m = agree r.0 (λ e. no_before (subst (λ z. Contains (names before) z) e (in_names r before m))) ∙ are r (in_left r before ((n, k) ∷ after) m)

    after_are : AreRows q after
    after_are r m = agree r.0 (λ e. no_behind (subst (λ z. Contains (names after) z) e (in_names r after m))) ∙ are r (in_right r before ((n, k) ∷ after) (inr m))

    pub had : p n ≡ Some k
    had = are (n, k) (in_right (n, k) before ((n, k) ∷ after) (inl refl))

    pub row_gone : rows_of q (without n ns) ≡ before ++ after
    row_gone =
        ap (λ ms. rows_of q (without n ms)) named
        ∙ ap (rows_of q) (without_split n (names before) (names after) no_before no_behind ∙ sym (map-append (λ (e : Row). e.0) before after))
        ∙ rows_back q (before ++ after) (λ r m. ⊎_elim (before_are r) (after_are r) (in_either r before after m))

    pub row_set : (piece : Piece) → q n ≡ Some piece → rows_of q ns ≡ before ++ (n, piece) ∷ after
    row_set piece e =
        ap (rows_of q) (named ∙ sym (map-append (λ (r : Row). r.0) before ((n, piece) ∷ after)))
        ∙ rows_back q (before ++ (n, piece) ∷ after) (λ r m. ⊎_elim (before_are r) (here_or r) (in_either r before ((n, piece) ∷ after) m))
      where
        here_or : (r : Row) → Member r ((n, piece) ∷ after) → q r.0 ≡ Some r.1
        here_or r (inl s) = subst (λ (z : Row). q z.0 ≡ Some z.1) (sym s) e
        here_or r (inr m) = after_are r m

  -- n is new
  module _ (new : ¬ Contains ns n) (piece : Piece) (has : q n ≡ Some piece) where
    kept : AreRows q (rows_of p ns)
    kept r m = agree r.0 (λ e. new (subst (λ z. Contains z n) (names_are p ns t) (subst (λ z. Contains (names (rows_of p ns)) z) e (in_names r (rows_of p ns) m)))) ∙ are_rows p ns r m

    pub row_last : rows_of q (ns ++ n ∷ []) ≡ rows_of p ns ++ (n, piece) ∷ []
    row_last = rows_append q ns (n ∷ []) ∙ ap (λ xs. xs ++ rows_of q (n ∷ [])) (rows_same p q ns (λ m c. agree m (λ e. new (subst (λ z. Contains ns z) e c)))) ∙ ap (λ o. rows_of p ns ++ with_piece n o []) has

    pub row_put : (place : ℕ) (before after : List Row) (k : Piece) → rows_of p ns ≡ before ++ (place, k) ∷ after → rows_of q (put_after place n ns) ≡ before ++ (place, k) ∷ (n, piece) ∷ after
    row_put place before after k is =
        ap (λ ms. rows_of q (put_after place n ms)) apart
        ∙ ap (rows_of q) (put_split place n (names before) (names after) (not_before place (names before) (names after) (subst IsOnce apart once)) ∙ sym (map-append (λ (e : Row). e.0) before ((place, k) ∷ (n, piece) ∷ after)))
        ∙ rows_back q (before ++ (place, k) ∷ (n, piece) ∷ after) (λ r m. ⊎_elim (λ b. old r (in_left r before ((place, k) ∷ after) b)) (later r) (in_either r before ((place, k) ∷ (n, piece) ∷ after) m))
      where
        apart : ns ≡ names before ++ place ∷ names after
        apart = sym (names_are p ns t) ∙ ap names is ∙ map-append (λ (e : Row). e.0) before ((place, k) ∷ after)

        old : (r : Row) → Member r (before ++ (place, k) ∷ after) → q r.0 ≡ Some r.1
        old r m = kept r (subst (Member r) (sym is) m)

        later : (r : Row) → Member r ((place, k) ∷ (n, piece) ∷ after) → q r.0 ≡ Some r.1
        later r (inl s) = old r (in_right r before ((place, k) ∷ after) (inl s))
        later r (inr (inl s)) = subst (λ (z : Row). q z.0 ≡ Some z.1) (sym s) has
        later r (inr (inr m)) = old r (in_right r before ((place, k) ∷ after) (inr m))

-- ---- the rows that pass a test
module _ (pass : Row → Bool) where
  -- without one that doesn't, they are the same
  pub pass_without : (p q : ℕ → Option Piece) (n : ℕ) (k : Piece) → ((m : ℕ) → m ≢ n → q m ≡ p m) → p n ≡ Some k → pass (n, k) ≡ false → (ns : List ℕ) → filter pass (rows_of q (without n ns)) ≡ filter pass (rows_of p ns)
  pass_without p q n k agree e f [] = refl
  pass_without p q n k agree e f (x ∷ xs) = elim (cases_eq x n) [
    | inl s ↦
        subst (λ z. filter pass (rows_of q (without n (z ∷ xs))) ≡ filter pass (rows_of p (z ∷ xs))) (sym s)
        (ap (λ ms. filter pass (rows_of q ms)) (without_hit n xs) ∙ pass_without p q n k agree e f xs
        ∙ sym (ap (λ o. filter pass (with_piece n o (rows_of p xs))) e ∙ ap (λ b. cond b ((n, k) ∷ filter pass (rows_of p xs)) (filter pass (rows_of p xs))) f))
    | inr ne ↦
        ap (λ ms. filter pass (rows_of q ms)) (without_miss n x xs ne)
        ∙ ap (λ o. filter pass (with_piece x o (rows_of q (without n xs)))) (agree x ne)
        ∙ by (p x) (pass_without p q n k agree e f xs)
  ]
    where
      by : (o : Option Piece) → filter pass (rows_of q (without n xs)) ≡ filter pass (rows_of p xs) → filter pass (with_piece x o (rows_of q (without n xs))) ≡ filter pass (with_piece x o (rows_of p xs))
      by None h = h
      by (Some j) h = ap (λ ys. cond (pass (x, j)) ((x, j) ∷ ys) ys) h

  pub all_pass : (rs : List Row) → ((r : Row) → Member r rs → pass r ≡ true) → filter pass rs ≡ rs
  all_pass [] h = refl
  all_pass (r ∷ rs) h = ap (λ b. cond b (r ∷ filter pass rs) (filter pass rs)) (h r (inl refl)) ∙ ap (λ ys. r ∷ ys) (all_pass rs (λ x m. h x (inr m)))
