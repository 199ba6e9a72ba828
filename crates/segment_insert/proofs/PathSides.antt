-- The sides of a path, one after the other: their points are listed, and they become pieces of the curve.
use Rattle.std.proofs.Common.{◌≡◌, ℕ, suc, ◌+◌, ◌≤◌, ◌<◌, List, [], ◌∷◌, ◌++◌, length, length-append, drop, get_or, refl, sym, ap, subst, ◌∙◌, arith, append_assoc, inl, inr, ◌⊎◌, ⊎_elim}
use Rattle.std.proofs.lemmas.List.{append-nil, drop_all, drop_more}
use Rattle.exact_plane.specs.Point.{Point}
use Rattle.exact_plane.specs.Segment.{Segment, AreEnds}
use Rattle.plane_graphs.specs.Ascending.{Member}
use Rattle.plane_graphs.specs.Piece.{Piece}
use Rattle.edit_steps.specs.Edits.{path_pieces, sides_from, whole_piece}
use Rattle.zone_walk.specs.declared.plan.Meeting.{Meeting}
use Rattle.zone_walk.specs.Zone.{points_of_meetings}

rest_is : {X : Type 0} (xs : List X) (at : ℕ) (x : X) → at < length xs → x ≡ get_or xs at x → drop at xs ≡ x ∷ drop (at + 1) xs
rest_is xs at x l is = drop_more xs at x l ∙ ap (λ z. z ∷ drop (at + 1) xs) (sym is)

-- ---- points of meetings
-- those listed, and those of the meetings that are left, are all
abbrev pub AreListed : List Meeting → List Point → ℕ → Type 0
AreListed ms ps at = ps ++ points_of_meetings (drop at ms) ≡ points_of_meetings ms

module _ (ms : List Meeting) where
  pub listed_first : (ps : List Point) → ps ≡ [] → AreListed ms ps 0
  listed_first ps e = ap (λ xs. xs ++ points_of_meetings ms) e

  module _ (ps : List Point) (at : ℕ) (s : AreListed ms ps at) where
    pub listed_all : length ms ≤ at → ps ≡ points_of_meetings ms
    listed_all l = sym (append-nil ps) ∙ ap (λ (xs : List Meeting). ps ++ points_of_meetings xs) (sym (drop_all at ms l)) ∙ s

    pub listed_on : (m : Meeting) → at < length ms → m ≡ get_or ms at m → (now : List Point) → now ≡ ps ++ (m.point ∷ []) → AreListed ms now (at + 1)
    listed_on m l is now q =
        ap (λ xs. xs ++ points_of_meetings (drop (at + 1) ms)) q
        ∙ append_assoc ps (m.point ∷ []) (points_of_meetings (drop (at + 1) ms))
        ∙ ap (λ (xs : List Meeting). ps ++ points_of_meetings xs) (sym (rest_is ms at m l is))
        ∙ s

-- ---- pieces of the sides
-- those that have come, and those of the sides that are left, are all; and the ends of a side are a segment's, or it is left
pub record AreComing (old : List Piece) (c : ℕ) (ss : List Segment) (ks : List Piece) (at : ℕ) : Type 0 where
  pub pieces : ks ++ sides_from c (suc at) (drop at ss) ≡ old ++ path_pieces c ss
  pub ends : (s : Segment) → Member s ss → Member s (drop at ss) ⊎ AreEnds s

pub sides_first : (old : List Piece) (c : ℕ) (ss : List Segment) → AreComing old c ss old 0
sides_first old c ss = record { pieces = refl; ends = λ s m. inl m }

module _ (old : List Piece) (c : ℕ) (ss : List Segment) (ks : List Piece) (at : ℕ) (a : AreComing old c ss ks at) where
  pub sides_all : length ss ≤ at → ks ≡ old ++ path_pieces c ss
  sides_all l = sym (append-nil ks) ∙ ap (λ xs. ks ++ sides_from c (suc at) xs) (sym (drop_all at ss l)) ∙ a.pieces

  pub ends_all : length ss ≤ at → (s : Segment) → Member s ss → AreEnds s
  ends_all l s m = ⊎_elim (λ i. absurd (subst (Member s) (drop_all at ss l) i)) (λ e. e) (a.ends s m)

  pub sides_on : (s : Segment) → at < length ss → s ≡ get_or ss at s → AreEnds s → (now : List Piece) → now ≡ ks ++ (whole_piece c (suc at) s ∷ []) → AreComing old c ss now (at + 1)
  sides_on s l is ends now q =
      let next : suc at ≡ at + 1 = omega arith in
      let rest = rest_is ss at s l is in
      record {
        pieces =
            ap (λ xs. xs ++ sides_from c (suc (at + 1)) (drop (at + 1) ss)) q
            ∙ append_assoc ks (whole_piece c (suc at) s ∷ []) (sides_from c (suc (at + 1)) (drop (at + 1) ss))
            ∙ ap (λ n. ks ++ (whole_piece c (suc at) s ∷ sides_from c (suc n) (drop (at + 1) ss))) (sym next)
            ∙ ap (λ xs. ks ++ sides_from c (suc at) xs) (sym rest)
            ∙ a.pieces;
        ends = λ t m. ⊎_elim (λ i. ⊎_elim (λ e. inr (subst AreEnds (sym e) ends)) (λ j. inl j) (subst (Member t) rest i)) (λ e. inr e) (a.ends t m);
      }

pub one_longer : (ks now : List Piece) (k : Piece) → now ≡ ks ++ (k ∷ []) → length now ≡ length ks + 1
one_longer ks now k e = ap length e ∙ length-append ks (k ∷ [])

-- a piece of a side, by its ends
pub piece_is : (c n m : ℕ) (s : Segment) (a b : Point) → n ≡ m → a ≡ s.lower → b ≡ s.upper → record { curve = c; side = n; segment = s; from = a; to = b } ≡ whole_piece c m s
piece_is c n m s a b e f g = λ i. record { curve = c; side = e i; segment = s; from = f i; to = g i }
