-- Rows by name, where one of them is replaced.
use Rattle.std.proofs.Common.{◌≡◌, ⊎_elim, inl, inr, ℕ, ◌==◌, Bool, true, false, cond, List, [], ◌∷◌, ◌++◌, length, map, refl, sym, ap, subst, ◌∙◌, arith, Contains}
use Rattle.std.specs.List.{IsDistinct}
use Rattle.std.proofs.lemmas.List.{length-append}
use Rattle.plane_graphs.specs.Ascending.{Member}
use Rattle.plane_graphs.proofs.Ascending.{from_member}
use Rattle.plane_graphs.proofs.Lists.{in_left, in_right, in_either, in_map}
use Rattle.slab_laws.specs.Pieces.{piece_of}
use Rattle.slab_laws.specs.Tables.{names}
use Rattle.slab_laws.specs.declared.names.CurveId.{CurveId}
use Rattle.slab_laws.specs.declared.present.Piece.{Piece as PieceInMemory}
use Rattle.chain_laws.proofs.Distinct.{IsOnce, once_from_distinct}
use Rattle.plane_graphs.specs.Piece.{Piece}
use Rattle.curve_pieces.specs.PieceRows.{Rowed, HasPiece, LosesRow, PutsAfter, SetsPiece}
use Rattle.curve_history.specs.Cuts.{ArePut, IsReplaced}

abbrev pub Row : Type 0
Row = ℕ × PieceInMemory

-- each name has one piece
pub one_piece : (rs : List Row) (n : ℕ) (j k : PieceInMemory) → IsOnce (names rs) → Member (n, j) rs → Member (n, k) rs → j ≡ k
one_piece [] n j k o a b = absurd a
one_piece (r ∷ rs) n j k o (inl p) (inl q) = ap (λ (z : Row). z.1) (p ∙ sym q)
one_piece (r ∷ rs) n j k o (inl p) (inr b) = absurd (o.0 (subst (λ (z : Row). Contains (names rs) z.0) p (from_member (names rs) n (in_map (λ (z : Row). z.0) (n, k) rs b))))
one_piece (r ∷ rs) n j k o (inr a) (inl q) = absurd (o.0 (subst (λ (z : Row). Contains (names rs) z.0) q (from_member (names rs) n (in_map (λ (z : Row). z.0) (n, j) rs a))))
one_piece (r ∷ rs) n j k o (inr a) (inr b) = one_piece rs n j k o.1 a b

pub only_piece : (rs : List Row) → IsDistinct ◌==◌ (names rs) → (n : ℕ) (j k : PieceInMemory) → Member (n, j) rs → Member (n, k) rs → j ≡ k
only_piece rs d n j k = one_piece rs n j k (once_from_distinct (names rs) d)

-- the row of a name stands between others
pub record IsSplit (rs : List Row) (n : ℕ) : Type 0 where
  pub before : List Row
  pub after : List Row
  pub piece : PieceInMemory
  pub is : rs ≡ before ++ (n, piece) ∷ after

pub split_at : (rs : List Row) (n : ℕ) → Member n (names rs) → IsSplit rs n
split_at [] n m = absurd m
split_at (r ∷ rs) n (inl q) = record { before = []; after = rs; piece = r.1; is = ap (λ m. (m, r.1) ∷ rs) (sym q) }
split_at (r ∷ rs) n (inr m) = let s = split_at rs n m in record { before = r ∷ s.before; after = s.after; piece = s.piece; is = ap (λ xs. r ∷ xs) s.is }

pub in_split : (rs before after : List Row) (n : ℕ) (k : PieceInMemory) → rs ≡ before ++ (n, k) ∷ after → Member (n, k) rs
in_split rs before after n k e = subst (Member (n, k)) (sym e) (in_right (n, k) before ((n, k) ∷ after) (inl refl))

pub has_split : (rs before after : List Row) (n : ℕ) (k : PieceInMemory) → rs ≡ before ++ (n, k) ∷ after → Member n (names rs)
has_split rs before after n k e = in_map (λ (z : Row). z.0) (n, k) rs (in_split rs before after n k e)

-- ---- parts put in place of a piece
module _ (old mid : Rowed) (n : ℕ) (below : PieceInMemory) (set : SetsPiece old mid n below) where
  module _ (has : HasPiece old n) where
    split : IsSplit old.rows n
    split = split_at old.rows n has

    now : mid.rows ≡ split.before ++ (n, below) ∷ split.after
    now = set split.before split.after split.piece split.is

    pub still_has : HasPiece mid n
    still_has = has_split mid.rows split.before split.after n below now

    pub still_of : (curve : CurveId) → ((k : PieceInMemory) → Member (n, k) old.rows → k.curve ≡ below.curve) → below.curve ≡ curve → (k : PieceInMemory) → Member (n, k) mid.rows → k.curve ≡ curve
    still_of curve h e k m = ⊎_elim (λ a. was (in_left (n, k) split.before ((n, split.piece) ∷ split.after) a)) later (in_either (n, k) split.before ((n, below) ∷ split.after) (subst (Member (n, k)) now m))
      where
        was : Member (n, k) (split.before ++ (n, split.piece) ∷ split.after) → k.curve ≡ curve
        was a = h k (subst (Member (n, k)) (sym split.is) a) ∙ e

        later : Member (n, k) ((n, below) ∷ split.after) → k.curve ≡ curve
        later (inl q) = ap (λ (z : Row). z.1.curve) q ∙ e
        later (inr a) = was (in_right (n, k) split.before ((n, split.piece) ∷ split.after) (inr a))

    pub as_many : length mid.rows ≡ length old.rows
    as_many =
        let a = ap length now in
        let b = ap length split.is in
        omega (arith, a, b, length-append split.before ((n, below) ∷ split.after), length-append split.before ((n, split.piece) ∷ split.after))

  pub put_one : (ks : List PieceInMemory) → ks ≡ below ∷ [] → ArePut old mid n ks
  put_one ks e before after k q = ((n, below) ∷ [], set before after k q, sym e)

  pub put_two : (new : Rowed) (m : ℕ) (above : PieceInMemory) → PutsAfter mid new n m above → (ks : List PieceInMemory) → ks ≡ below ∷ above ∷ [] → ArePut old new n ks
  put_two new m above put ks e before after k q = ((n, below) ∷ (m, above) ∷ [], put before after below (set before after k q), sym e)

pub put_none : (old new : Rowed) (n : ℕ) → LosesRow old new n → (ks : List PieceInMemory) → ks ≡ [] → ArePut old new n ks
put_none old new n lost ks e before after k q = ([], lost before after k q, sym e)

-- the parts, as the model has them
pub mapped_parts : (s u : Bool) (below above : PieceInMemory) → map piece_of (cond s (below ∷ []) [] ++ cond u (above ∷ []) []) ≡ cond s (piece_of below ∷ []) [] ++ cond u (piece_of above ∷ []) []
mapped_parts true true below above = refl
mapped_parts true false below above = refl
mapped_parts false true below above = refl
mapped_parts false false below above = refl

pub both_parts : (s u : Bool) (below above : PieceInMemory) → s ≡ true → u ≡ true → cond s (below ∷ []) [] ++ cond u (above ∷ []) [] ≡ below ∷ above ∷ []
both_parts s u below above p q = ap (λ b. cond b (below ∷ []) [] ++ cond u (above ∷ []) []) p ∙ ap (λ b. below ∷ cond b (above ∷ []) []) q

pub first_part : (s u : Bool) (below above : PieceInMemory) → s ≡ true → u ≡ false → cond s (below ∷ []) [] ++ cond u (above ∷ []) [] ≡ below ∷ []
first_part s u below above p q = ap (λ b. cond b (below ∷ []) [] ++ cond u (above ∷ []) []) p ∙ ap (λ b. below ∷ cond b (above ∷ []) []) q

pub last_part : (s u : Bool) (below above : PieceInMemory) → s ≡ false → u ≡ true → cond s (below ∷ []) [] ++ cond u (above ∷ []) [] ≡ above ∷ []
last_part s u below above p q = ap (λ b. cond b (below ∷ []) [] ++ cond u (above ∷ []) []) p ∙ ap (λ b. cond b (above ∷ []) []) q

pub no_part : (s u : Bool) (below above : PieceInMemory) → s ≡ false → u ≡ false → cond s (below ∷ []) [] ++ cond u (above ∷ []) [] ≡ []
no_part s u below above p q = ap (λ b. cond b (below ∷ []) [] ++ cond u (above ∷ []) []) p ∙ ap (λ b. cond b (above ∷ []) []) q

-- ---- what stands there then
pub put_as : (f : Piece → List Piece) (old new : Rowed) (n : ℕ) (j : PieceInMemory) (ks : List PieceInMemory) → IsDistinct ◌==◌ (names old.rows) → Member (n, j) old.rows → ArePut old new n ks → map piece_of ks ≡ f (piece_of j) → IsReplaced f old new n
put_as f old new n j ks d m put e before after k q =
    let r = put before after k q in
    (r.0, r.1, ap (map piece_of) r.2 ∙ e ∙ ap (λ z. f (piece_of z)) (only_piece old.rows d n j k m (in_split old.rows before after n k q)))

pub same_as : (f : Piece → List Piece) (old : Rowed) (n : ℕ) (j : PieceInMemory) → IsDistinct ◌==◌ (names old.rows) → Member (n, j) old.rows → f (piece_of j) ≡ piece_of j ∷ [] → IsReplaced f old old n
same_as f old n j d m e before after k q = ((n, k) ∷ [], q, ap (λ z. piece_of z ∷ []) (sym is) ∙ sym e ∙ ap (λ z. f (piece_of z)) is)
  where
    is : j ≡ k
    is = only_piece old.rows d n j k m (in_split old.rows before after n k q)

pub gone_as : (f : Piece → List Piece) (old new : Rowed) (n : ℕ) (j : PieceInMemory) → IsDistinct ◌==◌ (names old.rows) → Member (n, j) old.rows → LosesRow old new n → f (piece_of j) ≡ [] → IsReplaced f old new n
gone_as f old new n j d m lost e before after k q = ([], lost before after k q, sym e ∙ ap (λ z. f (piece_of z)) (only_piece old.rows d n j k m (in_split old.rows before after n k q)))
