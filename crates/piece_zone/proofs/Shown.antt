-- What is known of the names that were shown.
use Rattle.std.proofs.Common.{◌≡◌, ℕ, true, false, [], ◌∷◌, ◌++◌, arith, refl, sym, ap, ◌∙◌, subst, inl, inr, ⊎_elim}
use Rattle.std.specs.Prelude.{negsuc, ℤ, ◌≤ℤ◌, Contains}
use Rattle.std.specs.Int.{int_max, int_min}
use Rattle.std.proofs.lemmas.Int.{ints, int_max_is, int_min_is}
use Rattle.std.proofs.lemmas.List.Elements.{All-contains, All-contains_itself, All-weaker}
use Rattle.exact_plane.specs.WholeParts.{whole_parts}
use Rattle.exact_plane.specs.declared.whole_parts.BoundingBox.{BoundingBox}
use Rattle.plane_graphs.specs.Ascending.{Member}
use Rattle.plane_graphs.proofs.Ascending.{from_member, to_member}
use Rattle.plane_graphs.proofs.Lists.{in_either, in_map, of_map}
use Rattle.slab_laws.specs.declared.present.Piece.{Piece as PieceInMemory}
use Rattle.slab_laws.specs.Tables.{names}
use Rattle.box_tree.specs.declared.entry.Entry.{Entry}
use Rattle.box_tree.specs.Entries.{is_met, AllAbove, AreKnown, AreSeen}
use Rattle.curve_pieces.specs.PieceRows.{entries_of, entry_of}
use Rattle.curve_history.specs.Past.{Past}
use Rattle.piece_zone.specs.declared.windows.Shown.{Shown}
use Rattle.piece_zone.specs.Told.{AreNamesIn}
use Rattle.piece_zone.specs.Windows.{IsOfPiece, HasShown, MayShow}

least_first : (x y z : ℤ) → z ≤ℤ int_min x y → z ≤ℤ int_max x y
least_first x y z h = omega (arith, ints, h, int_min_is x y, int_max_is x y)

-- each entry is of a piece
pub all_known : (k : Shown) (h : Past) (area : BoundingBox) → k.history.now ≡ h → AreKnown (IsOfPiece k) area (entries_of h.rows)
all_known k h area e =
    All-weaker (Contains (entries_of h.rows)) (λ x. is_met area x ≡ true → Member x.name (names k.history.now.rows))
    (λ x c met.
    let r = of_map entry_of x h.rows (to_member (entries_of h.rows) x c) in
    subst (λ (z : Past). Member x.name (names z.rows)) (sym e) (subst (λ n. Member n (names h.rows)) (sym (ap (λ (z : Entry). z.name) r.2)) (in_map (λ (z : ℕ × PieceInMemory). z.0) r.0 h.rows r.1)))
    (entries_of h.rows) (All-contains_itself (entries_of h.rows))

-- at first none was shown
pub none_shown : (k : Shown) → k.names.items ≡ [] → MayShow k k
none_shown k e = record { history = refl; named = λ n m. absurd (subst (Member n) e m) }

module _ (h : Past) (low : AllAbove (negsuc 2147483647) (entries_of h.rows)) (area : BoundingBox) (k l : Shown) (e : k.history.now ≡ h) (may : MayShow k l) (failed : l.failed ≡ false) (seen : AreSeen (HasShown l) area (negsuc 2147483647) (entries_of h.rows)) where
  entry_there : (r : ℕ × PieceInMemory) → Member r h.rows → Contains (entries_of h.rows) (entry_of r)
  entry_there r m = from_member (entries_of h.rows) (entry_of r) (in_map entry_of r h.rows m)

  up : (r : ℕ × PieceInMemory) → Member r h.rows → negsuc 2147483647 ≤ℤ (entry_of r).bounds.greatest.y
  up r m = least_first (whole_parts r.1.from).y (whole_parts r.1.to).y (negsuc 2147483647) (All-contains (λ x. negsuc 2147483647 ≤ℤ x.bounds.least.y) (entries_of h.rows) (entry_of r) low (entry_there r m))

  pub all_shown : AreNamesIn h area l.names.items
  all_shown = record {
    named = λ n m. subst (λ (z : Past). Member n (names z.rows)) (may.history ∙ e) (may.named n m);
    all = λ r m met. All-contains (λ x. is_met area x ≡ true → negsuc 2147483647 ≤ℤ x.bounds.greatest.y → HasShown l x) (entries_of h.rows) (entry_of r) seen (entry_there r m) met (up r m) failed;
  }

-- ---- one more was shown
module _ (o l : Shown) (e : ℕ) (k : Shown) (may : MayShow k o) (knows : Member e (names k.history.now.rows)) (history : l.history.now ≡ o.history.now) where
  pub more_shown : l.names.items ≡ o.names.items ++ (e ∷ []) → (j : Shown) → MayShow j o → MayShow j l
  more_shown items j m = record {
    history = history ∙ m.history;
    named = λ n i.
        subst (λ (z : Past). Member n (names z.rows)) (sym history)
        (⊎_elim (λ w. m.named n w) (λ w. subst (λ x. Member x (names o.history.now.rows)) (sym (one n w)) (subst (λ (z : Past). Member e (names z.rows)) (sym may.history) knows)) (in_either n o.names.items (e ∷ []) (subst (Member n) items i)));
  }
    where
      one : (n : ℕ) → Member n (e ∷ []) → n ≡ e
      one n (inl w) = w
      one n (inr w) = absurd w

  pub same_shown : l.names.items ≡ o.names.items → (j : Shown) → MayShow j o → MayShow j l
  same_shown items j m = record {
    history = history ∙ m.history;
    named = λ n i. subst (λ (z : Past). Member n (names z.rows)) (sym history) (m.named n (subst (Member n) items i));
  }
