-- A name has one row.
use Rattle.std.proofs.Common.{◌≡◌, ℕ, List, [], ◌∷◌, false, sym, ap, ◌∙◌, inl, inr, subst}
use Rattle.std.specs.Prelude.{◌==◌}
use Rattle.std.specs.List.{IsDistinct, AllByRecursion}
use Rattle.integers.proofs.Tests.{same_number}
use Rattle.plane_graphs.specs.Ascending.{Member}
use Rattle.plane_graphs.proofs.Ascending.{All-member}
use Rattle.plane_graphs.proofs.Lists.{clash, in_map}
use Rattle.slab_laws.specs.declared.present.Piece.{Piece as PieceInMemory}
use Rattle.slab_laws.specs.Tables.{names}

other : (r : ℕ × PieceInMemory) (rs : List (ℕ × PieceInMemory)) (n : ℕ) (b : PieceInMemory) → AllByRecursion (λ m. (r.0 == m) ≡ false) (names rs) → n ≡ r.0 → Member (n, b) rs → ⊥
other r rs n b all e y =
    let k = All-member (λ m. (r.0 == m) ≡ false) n (names rs) all (in_map (λ (z : ℕ × PieceInMemory). z.0) (n, b) rs y) in
    clash (same_number r.0) (subst (λ m. (r.0 == m) ≡ false) e k)

-- a name has one row
pub same_row : (rs : List (ℕ × PieceInMemory)) (n : ℕ) (a b : PieceInMemory) → IsDistinct ◌==◌ (names rs) → Member (n, a) rs → Member (n, b) rs → a ≡ b
unfolding IsDistinct
same_row [] n a b d x y = absurd x
same_row (r ∷ rs) n a b d (inl e) (inl f) = ap (λ z. z.1) (e ∙ sym f)
same_row (r ∷ rs) n a b d (inl e) (inr y) = absurd (other r rs n b d.0 (ap (λ z. z.0) e) y)
same_row (r ∷ rs) n a b d (inr x) (inl f) = absurd (other r rs n a d.0 (ap (λ z. z.0) f) x)
same_row (r ∷ rs) n a b d (inr x) (inr y) = same_row rs n a b d.1 x y
