-- Open stretches are found among the stretches, and so is the edge below each vertex.
use Rattle.std.proofs.Common.{◌≡◌, ℕ, ◌+◌, ◌<◌, ◌≤◌, Bool, true, false, ◌&&◌, eqb, cond, arith, refl, sym, ap, subst, ◌∙◌, inl, inr, List, [], ◌∷◌, length, get_or}
use Rattle.std.specs.Prelude.{slice_index_or, slice_set, nat_lt, Option, None, Some}
use Rattle.std.specs.List.{find}
use Rattle.std.proofs.lemmas.Bool.{false≢true, cases_lt, and_parts, eqb-true, eq-eqb, ltb-true}
use Rattle.std.proofs.lemmas.List.{get_or-set_same, get_or-set_other, length-set}
use Rattle.plane_graphs.specs.Ascending.{Member}
use Rattle.plane_graphs.proofs.Lists.{and_in}
use Rattle.plane_graphs.proofs.Sorting.{member_at}
use Rattle.sweep_graphs.specs.declared.edges.EdgeEnds.{EdgeEnds}
use Rattle.sweep_graphs.specs.declared.trace.OpenStretch.{OpenStretch}
use Rattle.sweep_graphs.specs.declared.trace.Stretch.{Stretch}
use Rattle.sweep_graphs.specs.declared.trace.Trace.{Trace}
use Rattle.sweep_graphs.specs.Edges.{ends_of}
use Rattle.sweep_graphs.specs.EdgesBelow.{IsOpened, was_open, IsEdgeOfOpen, IsEdgeUnder, AreClosed, AreEdgesUnder}

-- ---- the test
opened : (o : OpenStretch) (s : Stretch) → was_open o s ≡ true → IsOpened o s
opened o s h = let a = and_parts (eqb s.low o.low) (eqb s.piece o.piece) h in (eqb-true s.low o.low a.0, eqb-true s.piece o.piece a.1)

passes : (o : OpenStretch) (s : Stretch) → IsOpened o s → was_open o s ≡ true
passes o s h = and_in (eq-eqb s.low o.low h.0) (eq-eqb s.piece o.piece h.1)

-- ---- one that is found
pub at_place : (o : OpenStretch) (ss : List Stretch) (n : ℕ) (s : Stretch) (e : EdgeEnds) → true ≡ nat_lt n (length ss) → s ≡ slice_index_or ss n s → was_open o s ≡ true → e ≡ ends_of s → IsEdgeOfOpen ss o (Some e)
at_place o ss n s e l q h i t T O = (s, subst (λ z. Member z ss) (sym q) (member_at ss n s (ltb-true n (length ss) (sym l))), opened o s h, ap (λ x. Some x) i)

abbrev IsFirstOpen : OpenStretch → List Stretch → Type 0
IsFirstOpen o ss = (s : Stretch) × Member s ss × (was_open o s ≡ true) × (find (was_open o) ss ≡ Some s)

first_by : (o : OpenStretch) (x : Stretch) (xs : List Stretch) (b : Bool) → was_open o x ≡ b → (was_open o x ≡ false → IsFirstOpen o xs) → IsFirstOpen o (x ∷ xs)
first_by o x xs true q later = (x, inl refl, q, ap (λ b. cond b (Some x) (find (was_open o) xs)) q)
first_by o x xs false q later = let r = later q in (r.0, inr r.1, r.2, ap (λ b. cond b (Some x) (find (was_open o) xs)) q ∙ r.3)

first : (o : OpenStretch) (ss : List Stretch) (t : Stretch) → Member t ss → was_open o t ≡ true → IsFirstOpen o ss
first o [] t m h = absurd m
first o (x ∷ xs) t (inl e) h = first_by o x xs (was_open o x) refl (λ q. absurd (false≢true (sym q ∙ ap (was_open o) (sym e) ∙ h)))
first o (x ∷ xs) t (inr n) h = first_by o x xs (was_open o x) refl (λ q. first o xs t n h)

some_is : (s t : Stretch) → Some s ≡ Some t → s ≡ t
some_is s t h = cc

pub found : (o : OpenStretch) (ss : List Stretch) (s : Stretch) (e : EdgeEnds) → Some s ≡ find (was_open o) ss → e ≡ ends_of s → IsEdgeOfOpen ss o (Some e)
found o ss s e h i t m O =
    let r = first o ss t m (passes o t O) in
    (r.0, r.1, opened o r.0 r.2, ap (λ x. Some x) (i ∙ ap ends_of (some_is s r.0 (h ∙ r.3))))

pub missed : (o : OpenStretch) (ss : List Stretch) (r : Option EdgeEnds) → None ≡ find (was_open o) ss → IsEdgeOfOpen ss o r
missed o ss r h t m O = let a = first o ss t m (passes o t O) in absurd (none_some a.0 (h ∙ a.3))
  where
    none_some : (s : Stretch) → None ≡ Some s → ⊥
    none_some s e = cc

-- ---- below each vertex from one on
module _ (t : Trace) where
  pub record AreUnderFrom (ss : List Stretch) (n : ℕ) (es : List (Option EdgeEnds)) : Type 0 where
    pub within : n ≤ length t.below
    pub counted : length es ≡ length t.below
    pub each : (k : ℕ) → n ≤ k → k < length t.below → IsEdgeUnder ss (slice_index_or t.below k None) (slice_index_or es k None)

  pub none_yet : (ss : List Stretch) (n : ℕ) (es : List (Option EdgeEnds)) → length es ≡ n → n ≡ length t.below → AreUnderFrom ss n es
  none_yet ss n es e b = record { within = omega (arith, b); counted = e ∙ b; each = λ k h l. absurd (omega arith) }

  pub one_more : (ss : List Stretch) (n m : ℕ) (xs : List (Option OpenStretch)) (old new : List (Option EdgeEnds)) (e : Option EdgeEnds) → m + 1 ≡ n → m < length t.below → xs ≡ t.below → IsEdgeUnder ss (slice_index_or xs m None) e → new ≡ slice_set old m e → AreUnderFrom ss n old → AreUnderFrom ss m new
  one_more ss n m xs old new e next inside read h is u = record {
    within = omega (arith, inside);
    counted = ap length is ∙ length-set old m e ∙ u.counted;
    each = λ k a l. elim (cases_lt m k) [
      | inl b ↦
          let other : k ≡ m → ⊥ = λ q. absurd (omega arith) in
          let q : slice_index_or new k None ≡ slice_index_or old k None = ap (λ z. slice_index_or z k None) is ∙ get_or-set_other old m k e None other in
          subst (IsEdgeUnder ss (slice_index_or t.below k None)) (sym q) (u.each k (omega arith) l)
      | inr b ↦
          let i : k ≡ m = omega arith in
          let w : m < length old = (let c = u.counted in omega arith) in
          let q : slice_index_or new k None ≡ e = ap (λ z. slice_index_or z k None) is ∙ ap (λ j. slice_index_or (slice_set old m e) j None) i ∙ get_or-set_same old m e None w in
          subst (IsEdgeUnder ss (slice_index_or t.below k None)) (sym q) (subst (λ z. IsEdgeUnder ss z e) (ap (λ z. slice_index_or z m None) read ∙ ap (λ j. slice_index_or t.below j None) (sym i)) h)
    ];
  }

  pub all_under : (ss : List Stretch) (n : ℕ) (es : List (Option EdgeEnds)) → AreClosed t → ss ≡ t.stretches → n ≤ 0 → AreUnderFrom ss n es → AreEdgesUnder t es
  all_under ss n es closed same l u = record {
    counted = u.counted;
    nothing = λ k h z. subst (λ o. IsEdgeUnder ss o (slice_index_or es k None)) z (u.each k (omega arith) h);
    something = λ k o h z.
        let s = closed k o h z in
        subst (λ xs. (x : Stretch) × Member x xs × IsOpened o x × (slice_index_or es k None ≡ Some (ends_of x))) same
        (subst (λ p. IsEdgeUnder ss p (slice_index_or es k None)) z (u.each k (omega arith) h) s.0 (subst (Member s.0) (sym same) s.1) s.2);
  }
