-- A vertex on a piece is an end of an edge along it.
use Rattle.std.proofs.Common.{◌≡◌, ◌⊎◌, ℕ, List, [], ◌∷◌, sym, ◌∙◌, refl, subst, inl, inr}
use Rattle.std.specs.List.{filter}
use Rattle.exact_plane.specs.Point.{Point}
use Rattle.plane_graphs.specs.Ascending.{Member}
use Rattle.plane_graphs.specs.Fit.{IsFit, IsFitPiece}
use Rattle.plane_graphs.specs.Graph.{Mark, chain, chain_from, mark, vertices}
use Rattle.plane_graphs.specs.Line.{same_point}
use Rattle.plane_graphs.specs.Piece.{Piece, Present, on}
use Rattle.plane_graphs.proofs.Edges.{edges_of_piece}
use Rattle.plane_graphs.proofs.Lists.{clash, decide, in_filter}
use Rattle.plane_graphs.proofs.Marks.{IsMark, On, le_lt, le_same, mark_out, on_in}
use Rattle.plane_graphs.proofs.Order.{Lt, lt_never, lt_out, same_in, same_out}
use Rattle.plane_graphs.proofs.Vertices.{vertex_in}
use Rattle.plane_graphs.proofs.Vertices.IsVertex.{begins, finishes}

-- x is an end of the mark
abbrev pub Touches : Mark → Point → Type 0
Touches m x = (m.low ≡ x) ⊎ (m.high ≡ x)

-- ---- each of two points and more is an end of a link of their chain
reached : (c : ℕ) (p : Point) (ps : List Point) (x : Point) → Member x ps → (m : Mark) × Member m (chain_from c p ps) × (m.high ≡ x) × (m.curve ≡ c)
unfolding chain_from
reached c p [] x n = absurd n
reached c p (q ∷ ps) x (inl e) = (mark p q c, inl refl, sym e, refl)
reached c p (q ∷ ps) x (inr n) = let m = reached c q ps x n in (m.0, inr m.1, m.2, m.3)

left_from : (c : ℕ) (p : Point) (ps : List Point) (y : Point) → Member y ps → (m : Mark) × Member m (chain_from c p ps) × (m.low ≡ p) × (m.curve ≡ c)
unfolding chain_from
left_from c p [] y n = absurd n
left_from c p (q ∷ ps) y n = (mark p q c, inl refl, refl, refl)

linked : (c : ℕ) (ps : List Point) (x y : Point) → (x ≡ y → ⊥) → Member x ps → Member y ps → (m : Mark) × Member m (chain c ps) × Touches m x × (m.curve ≡ c)
unfolding chain
linked c [] x y ne m n = absurd m
linked c (p ∷ ps) x y ne (inr m) n = let k = reached c p ps x m in (k.0, k.1, inr k.2, k.3)
linked c (p ∷ ps) x y ne (inl e) (inl f) = absurd (ne (e ∙ sym f))
linked c (p ∷ ps) x y ne (inl e) (inr n) = let k = left_from c p ps y n in (k.0, k.1, inl (k.2 ∙ sym e), k.3)

-- ---- along a piece
module _ (o : Present) (fit : IsFit o) (k : Piece) (here : Member k o.pieces) where
  is : IsFitPiece k
  is = fit.piece k here

  ahead : Lt k.from k.to
  ahead = lt_out k.from k.to is.forward

  begin : Member k.from (filter (on k) (vertices o))
  begin = in_filter (on k) k.from (vertices o) (vertex_in o k.from (begins k here refl)) (on_in k k.from (record { line = is.from_on; low = le_same k.from; high = le_lt ahead }))

  end : Member k.to (filter (on k) (vertices o))
  end = in_filter (on k) k.to (vertices o) (vertex_in o k.to (finishes k here refl)) (on_in k k.to (record { line = is.to_on; low = le_lt ahead; high = le_same k.to }))

  -- another vertex on the piece
  another : (x : Point) → (y : Point) × Member y (filter (on k) (vertices o)) × (x ≡ y → ⊥)
  another x =
      elim (decide (same_point x k.from)) [
        | inl e ↦ (k.to, end, λ f. lt_never (subst (λ z. Lt z k.to) (sym (same_out x k.from e) ∙ f) ahead))
        | inr e ↦ (k.from, begin, λ f. clash (same_in x k.from f) e)
      ]

  pub some_mark : (x : Point) → Member x (vertices o) → On k x → (m : Mark) × IsMark (vertices o) o.pieces m × Touches m x × (m.curve ≡ k.curve)
  some_mark x m p =
      let y = another x in
      let l = linked k.curve (filter (on k) (vertices o)) x y.0 y.2 (in_filter (on k) x (vertices o) m (on_in k x p)) y.1 in
      let i = mark_out (vertices o) (k ∷ []) l.0 (subst (λ ms. Member l.0 ms) (sym (edges_of_piece o k fit here)) l.1) in
      (l.0, record { piece = i.piece; here = among i.piece i.here; curve = i.curve; low_in = i.low_in; high_in = i.high_in; next = i.next }, l.2, l.3)
    where
      among : (j : Piece) → Member j (k ∷ []) → Member j o.pieces
      among j n = elim n [ inl e ↦ subst (λ z. Member z o.pieces) (sym e) here | inr z ↦ absurd z ]
