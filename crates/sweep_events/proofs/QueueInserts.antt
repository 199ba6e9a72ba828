-- A point put into an ordered set, and the meeting that it is.
use Rattle.std.proofs.Common.{◌≡◌, ℕ, zero, suc, arith, ◌<◌, ◌-◌, length, get_or, refl, sym, ◌∙◌, subst, inl, inr, true, List, [], ◌∷◌, Ordering, Less, Equal, Greater}
use Rattle.std.specs.Prelude.{◌⊎◌, ◌↔◌, Option, None, Some, Result, Ok, Err, OnOk, slice_get}
use Rattle.std.specs.BTreeSet.{insert_key}
use Rattle.std.specs.Ordering.{is_lt, match_ordering}
use Rattle.exact_plane.specs.Point.{Point}
use Rattle.exact_plane.specs.PointOrder.{point_cmp}
use Rattle.exact_plane.specs.PointOrderLaws.{same_point}
use Rattle.exact_plane.specs.Span.{Span}
use Rattle.plane_graphs.specs.Ascending.{Member}
use Rattle.sweep_events.specs.Events.{AreMeeting}
use Rattle.sweep_events.specs.Seams.{IsGrown, AreThere, MeetAtSeam}
use Rattle.sweep_events.specs.Places.{piece_at}
use Rattle.integers.proofs.Tests.{is_less}

placed : (o : Ordering) (k x : Point) (xs ys : List Point) → point_cmp k x ≡ o → ((r : Point) → Member r xs → Member r ys) → (r : Point) → Member r (x ∷ xs) → Member r (match_ordering o (k ∷ x ∷ xs) (x ∷ xs) (x ∷ ys))
placed Less k x xs ys e f r m = inr m
placed Equal k x xs ys e f r m = m
placed Greater k x xs ys e f r (inl g) = inl g
placed Greater k x xs ys e f r (inr m) = inr (f r m)

pub in_inserted : (xs : List Point) (k r : Point) → Member r xs → Member r (insert_key point_cmp xs k)
in_inserted [] k r m = absurd m
in_inserted (x ∷ xs) k r m = placed (point_cmp k x) k x xs (insert_key point_cmp xs k) refl (λ r n. in_inserted xs k r n) r m

key_placed : (o : Ordering) (k x : Point) (xs ys : List Point) → point_cmp k x ≡ o → Member k ys → Member k (match_ordering o (k ∷ x ∷ xs) (x ∷ xs) (x ∷ ys))
key_placed Less k x xs ys e m = inl refl
key_placed Equal k x xs ys e m = inl (same_point k x e)
key_placed Greater k x xs ys e m = inr m

pub key_inserted : (xs : List Point) (k : Point) → Member k (insert_key point_cmp xs k)
key_inserted [] k = inl refl
key_inserted (x ∷ xs) k = key_placed (point_cmp k x) k x xs (insert_key point_cmp xs k) refl (key_inserted xs k)

unplaced : (o : Ordering) (k x : Point) (xs ys : List Point) (r : Point) → Member r (match_ordering o (k ∷ x ∷ xs) (x ∷ xs) (x ∷ ys)) → (Member r ys → (r ≡ k) ⊎ Member r xs) → (r ≡ k) ⊎ Member r (x ∷ xs)
unplaced Less k x xs ys r (inl e) f = inl e
unplaced Less k x xs ys r (inr m) f = inr m
unplaced Equal k x xs ys r m f = inr m
unplaced Greater k x xs ys r (inl e) f = inr (inl e)
unplaced Greater k x xs ys r (inr m) f = elim (f m) [ inl e ↦ inl e | inr n ↦ inr (inr n) ]

pub of_inserted : (xs : List Point) (k r : Point) → Member r (insert_key point_cmp xs k) → (r ≡ k) ⊎ Member r xs
of_inserted [] k r (inl e) = inl e
of_inserted [] k r (inr m) = absurd m
of_inserted (x ∷ xs) k r m = unplaced (point_cmp k x) k x xs (insert_key point_cmp xs k) r m (of_inserted xs k r)

some_one : (p q : Point) (o : Option Point) → o ≡ Some p → o ≡ Some q → p ≡ q
some_one p q o e f = by (sym e ∙ f)
  where
    by : Some p ≡ Some q → p ≡ q
    by e = cc

pub none_is : (s t : Span) → s.line ≡ t.line → (r : Point) → (AreMeeting s t r ↔ (None ≡ Some r))
none_is s t e r = ((λ (m : AreMeeting s t r). absurd (m.lines_differ e)), (λ f. absurd (no f)))
  where
    no : None ≡ Some r → ⊥
    no f = cc

module _ (s t : Span) (q k : Point) (o : Option Point) (known : (r : Point) → (AreMeeting s t r ↔ (o ≡ Some r))) (is : o ≡ Some k) (after : is_lt (point_cmp q k) ≡ true) (old new : List Point) (e : new ≡ insert_key point_cmp old k) where
  pub grown_by : IsGrown (AreMeeting s t) q old new
  grown_by = record {
    stays = λ r m. subst (λ (xs : List Point). Member r xs) (sym e) (in_inserted old k r m);
    comes = λ r m. elim (of_inserted old k r (subst (λ (xs : List Point). Member r xs) e m)) [
      | inl f ↦ inr (subst (λ (p : Point). AreMeeting s t p) (sym f) ((known k).1 is), subst (λ (p : Point). point_cmp q p ≡ Less) (sym f) (is_less (point_cmp q k) after))
      | inr n ↦ inl n
    ];
  }

  pub there_by : AreThere (AreMeeting s t) q new
  there_by r m b = subst (λ (xs : List Point). Member r xs) (sym e) (subst (λ (p : Point). Member p (insert_key point_cmp old k)) (some_one k r o is ((known r).0 m)) (key_inserted old k))

-- the two pieces at a seam, as they were read
pub seam_grown : (pieces : List Span) (status : List ℕ) (seam : ℕ) (q : Point) (s t : Span) (old new : List Point) → 0 < seam → seam < length status → s ≡ piece_at pieces (get_or status (seam - 1) 0) → t ≡ piece_at pieces (get_or status seam 0) → IsGrown (AreMeeting s t) q old new → IsGrown (MeetAtSeam pieces status seam) q old new
seam_grown pieces status seam q s t old new a b e f g = record {
  stays = g.stays;
  comes = λ r m. elim (g.comes r m) [ inl n ↦ inl n | inr h ↦ inr (record { above = a; within = b; meet = subst (λ (u : Span). AreMeeting u (piece_at pieces (get_or status seam 0)) r) e (subst (λ (v : Span). AreMeeting s v r) f h.0) }, h.1) ];
}

pub seam_there : (pieces : List Span) (status : List ℕ) (seam : ℕ) (q : Point) (s t : Span) (new : List Point) → s ≡ piece_at pieces (get_or status (seam - 1) 0) → t ≡ piece_at pieces (get_or status seam 0) → AreThere (AreMeeting s t) q new → AreThere (MeetAtSeam pieces status seam) q new
seam_there pieces status seam q s t new e f g r m b = g r (subst (λ (u : Span). AreMeeting u t r) (sym e) (subst (λ (v : Span). AreMeeting (piece_at pieces (get_or status (seam - 1) 0)) v r) (sym f) m.meet)) b

-- ---- one seam after the other
module _ (M N : Point → Type 0) (q : Point) (a b : List Point) where
  pub grown_both : (c : List Point) → IsGrown M q a b → IsGrown N q b c → IsGrown (λ r. M r ⊎ N r) q a c
  grown_both c g h = record {
    stays = λ r m. h.stays r (g.stays r m);
    comes = λ r m. elim (h.comes r m) [ inl n ↦ elim (g.comes r n) [ inl o ↦ inl o | inr k ↦ inr (inl k.0, k.1) ] | inr k ↦ inr (inr k.0, k.1) ];
  }

  pub there_stays : (c : List Point) → AreThere M q b → IsGrown N q b c → AreThere M q c
  there_stays c f h r m k = h.stays r (f r m k)

pub on_ok : {T E : Type 0} (r : Result T E) (P : Type 0) → P → OnOk r P
on_ok (Ok x) P p = p
on_ok (Err e) P p = tt

-- what was looked up
pub got : (xs : List ℕ) (k x : ℕ) → slice_get xs k ≡ Some x → (k < length xs) × (x ≡ get_or xs k 0)
got [] k x e = cc
got (y ∷ ys) zero x e = (omega arith, first e)
  where
    first : Some y ≡ Some x → x ≡ y
    first f = cc
got (y ∷ ys) (suc k) x e = let r = got ys k x e in (omega (arith, r.0), r.1)

pub if_all_ok : {T E : Type 0} (r : Result T E) (P Q : Type 0) → (P → Q) → OnOk r P → OnOk r Q
if_all_ok (Ok v) P Q f h = f h
if_all_ok (Err e) P Q f h = tt
