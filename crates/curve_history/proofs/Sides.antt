-- The curves of sides, and what becomes of them where sides come and go.
use Rattle.std.proofs.Common.{◌≡◌, ◌≢◌, ⊎_elim, inl, inr, ℕ, zero, suc, ◌+◌, ◌≤◌, ◌==◌, cond, not, Bool, true, false, List, [], ◌∷◌, map, refl, sym, ap, subst, ◌∙◌, arith, Less, is_lt}
use Rattle.std.specs.Prelude.{⊤}
use Rattle.std.specs.List.{filter, slice_index_or, AllByRecursion}
use Rattle.std.specs.List.Retain.{IsFiltered, DiffersFromLast}
use Rattle.std.specs.List.Sorted.{IsSorted}
use Rattle.std.specs.Ordering.{nat_cmp}
use Rattle.std.proofs.lemmas.Bool.{cases_eq, eq-eqb}
use Rattle.std.proofs.lemmas.Bool.Decides.{nat_tests}
use Rattle.std.proofs.lemmas.Cmp.{nat_cmp_total}
use Rattle.std.proofs.lemmas.List.Sorted.{IsPermutation-refl}
use Rattle.plane_graphs.specs.Ascending.{ascending, place, Member, IsAscending}
use Rattle.plane_graphs.specs.Graph.{same_curve}
use Rattle.plane_graphs.proofs.Arranged.{arranged}
use Rattle.plane_graphs.proofs.Ascending.{IsAscending-ascending, IsAscending-place, ascending_unique}
use Rattle.plane_graphs.proofs.Lists.{in_filter, of_filter, in_map, of_map, in_ascending, of_ascending, in_place, of_place, IsAscending-filter, not_in, not_out, clash}
use Rattle.plane_graphs.proofs.Order.{curve_out, curve_in}
use Rattle.slab_laws.specs.declared.names.CurveId.{CurveId}
use Rattle.slab_laws.specs.declared.names.DartId.{DartId}
use Rattle.slab_laws.specs.View.{View, dart_id}
use Rattle.arr_notes.specs.Curves.{AreCurvesOf}
use Rattle.curve_history.specs.Past.{Past, strands_on, curves_of, curves_on, SameStrands, SameCurves, StrandsChangeOn, AreChangedOn, GainsStrand, GainsCurve, LosesStrand, LosesSides, LosesStrands, LosesCurve, LosesCurves, CopiesStrands, CopiesCurves}
use Rattle.edit_steps.specs.EditLaws.{curve_of}
use Rattle.edit_steps.proofs.StrandPaths.{strand_is_of}
use Rattle.plane_graphs.specs.Strands.{strand}
use Rattle.curve_history.proofs.Walking.{none_there}
use Rattle.integers.proofs.Tests.{nat_exact, less_nat, number_ties, other_number}

-- ---- the curves of a list of sides
pub in_curves : (z : ℕ) (zs : List ℕ) → Member z zs → Member (curve_of z) (curves_of zs)
unfolding curves_of
in_curves z zs m = in_ascending nat_cmp nat_cmp_total nat_exact (curve_of z) (map curve_of zs) (in_map curve_of z zs m)

pub of_curves : (c : ℕ) (zs : List ℕ) → Member c (curves_of zs) → (z : ℕ) × Member z zs × (c ≡ curve_of z)
unfolding curves_of
of_curves c zs m = of_map curve_of c zs (of_ascending nat_cmp nat_cmp_total nat_exact c (map curve_of zs) m)

curves_ascend : (zs : List ℕ) → IsAscending nat_cmp (curves_of zs)
unfolding curves_of
curves_ascend zs = IsAscending-ascending nat_cmp nat_cmp_total (map curve_of zs)

-- an ascending list of the curves of all sides
pub curves_from : (zs ks : List ℕ) → IsAscending nat_cmp ks → ((c : ℕ) → Member c ks → (z : ℕ) × Member z zs × (c ≡ curve_of z)) → ((z : ℕ) → Member z zs → Member (curve_of z) ks) → curves_of zs ≡ ks
curves_from zs ks a f g = ascending_unique nat_cmp nat_cmp_total (curves_of zs) ks (curves_ascend zs) a
    (λ c m. let z = of_curves c zs m in subst (λ x. Member x ks) (sym z.2) (g z.0 z.1))
    (λ c m. let z = f c m in subst (λ x. Member x (curves_of zs)) (sym z.2) (in_curves z.0 zs z.1))

pub none_of_none : (zs : List ℕ) → curves_of zs ≡ [] → zs ≡ []
none_of_none zs e = none_there zs (λ z m. subst (Member (curve_of z)) e (in_curves z zs m))

pub none_curves : curves_of [] ≡ []
unfolding curves_of ascending
none_curves = refl

-- ---- numbers that don't fall, each once
abbrev pub IsUp : List ℕ → Type 0
IsUp [] = ⊤
IsUp (x ∷ xs) = AllByRecursion (λ y. x ≤ y) xs × IsUp xs

pub curves_up : (zs : List ℕ) → IsAscending nat_cmp zs → IsUp (map curve_of zs)
curves_up [] a = tt
curves_up (z ∷ zs) a = (above zs a.0, curves_up zs a.1)
  where
    no_less : (y : ℕ) → nat_cmp z y ≡ Less → curve_of z ≤ curve_of y
    no_less y h = let l = less_nat z y h in omega arith

    above : (ys : List ℕ) → AllByRecursion (λ y. nat_cmp z y ≡ Less) ys → AllByRecursion (λ y. curve_of z ≤ y) (map curve_of ys)
    above [] b = tt
    above (y ∷ ys) b = (no_less y b.0, above ys b.1)

not_below : (m n : ℕ) → m ≤ n → is_lt (nat_cmp n m) ≡ false
not_below m n l = grind (arith, nat_tests)

up_sorted : (vs : List CurveId) → IsUp (map (λ (c : CurveId). c.0) vs) → IsSorted (λ x y. nat_cmp x.0 y.0) vs
up_sorted [] u k d l w = absurd (omega arith)
up_sorted (x ∷ []) u k d l w = absurd (omega arith)
up_sorted (x ∷ y ∷ vs) u zero d l w = not_below x.0 y.0 u.0.0
up_sorted (x ∷ y ∷ vs) u (suc k) d l w =
    let e : suc (k + 1) ≡ suc k + 1 = omega arith in
    subst (λ n. is_lt (nat_cmp (slice_index_or (x ∷ y ∷ vs) n d).0 (slice_index_or (y ∷ vs) k d).0) ≡ false) e (up_sorted (y ∷ vs) u.1 k d (omega arith) (omega arith))

pub kept_once : (vs ws : List CurveId) → IsUp (map (λ (c : CurveId). c.0) vs) → IsFiltered (DiffersFromLast (λ (a b : CurveId). a.0 == b.0)) [] vs ws → map (λ (c : CurveId). c.0) ws ≡ ascending nat_cmp (map (λ (c : CurveId). c.0) vs)
kept_once vs ws u f = arranged (λ (c : CurveId). c.0) nat_cmp nat_cmp_total nat_exact vs vs (IsPermutation-refl vs) (λ (a b : CurveId). a.0 == b.0) ws (λ x y. number_ties x.0 y.0) (up_sorted vs u) f

pub strands_ascend : (p : Past) (d : DartId) → IsAscending nat_cmp (strands_on p d)
unfolding strands_on
strands_ascend p d = IsAscending-ascending nat_cmp nat_cmp_total (map (λ e. e.1) (filter (λ e. e.0 == d.0) p.pairs))

-- ---- one more
curves_place : (z c : ℕ) → curve_of z ≡ c → (zs : List ℕ) → curves_of (place nat_cmp z zs) ≡ place nat_cmp c (curves_of zs)
curves_place z c e zs = curves_from (place nat_cmp z zs) (place nat_cmp c (curves_of zs)) (IsAscending-place nat_cmp nat_cmp_total c (curves_of zs) (curves_ascend zs))
    (λ x m. ⊎_elim
    (λ q. (z, in_place nat_cmp nat_cmp_total nat_exact z z zs (inl refl), q ∙ sym e))
    (λ h. let w = of_curves x zs h in (w.0, in_place nat_cmp nat_cmp_total nat_exact w.0 z zs (inr w.1), w.2))
    (of_place nat_cmp nat_cmp_total nat_exact x c (curves_of zs) m))
    (λ x m. ⊎_elim
    (λ q. in_place nat_cmp nat_cmp_total nat_exact (curve_of x) c (curves_of zs) (inl (ap curve_of q ∙ e)))
    (λ h. in_place nat_cmp nat_cmp_total nat_exact (curve_of x) c (curves_of zs) (inr (in_curves x zs h)))
    (of_place nat_cmp nat_cmp_total nat_exact x z zs m))

-- ---- fewer: those of the curve go, and no others
module _ (c : ℕ) (p : ℕ → Bool) (zs : List ℕ) (gone : (z : ℕ) → Member z zs → curve_of z ≡ c → p z ≡ true → ⊥) (kept : (z : ℕ) → Member z zs → curve_of z ≢ c → p z ≡ true) where
  curves_less : curves_of (filter p zs) ≡ filter (λ k. not (same_curve k c)) (curves_of zs)
  curves_less = curves_from (filter p zs) (filter (λ k. not (same_curve k c)) (curves_of zs)) (IsAscending-filter nat_cmp (λ k. not (same_curve k c)) (curves_of zs) (curves_ascend zs))
      (λ x m.
      let f = of_filter (λ k. not (same_curve k c)) x (curves_of zs) m in
      let w = of_curves x zs f.0 in
      (w.0, in_filter p w.0 zs w.1 (kept w.0 w.1 (λ e. clash (curve_in x c (w.2 ∙ e)) (not_out (same_curve x c) f.1))), w.2))
      (λ x m.
      let f = of_filter p x zs m in
      in_filter (λ k. not (same_curve k c)) (curve_of x) (curves_of zs) (in_curves x zs f.0) (not_in (same_curve (curve_of x) c) (λ q. gone x f.0 (curve_out (curve_of x) c q) f.1)))

-- another side of the curve of the one that goes is still there
curves_still : (z w : ℕ) (zs : List ℕ) → Member w zs → curve_of w ≡ curve_of z → w ≢ z → curves_of (filter (λ x. not (same_curve x z)) zs) ≡ curves_of zs
curves_still z w zs h e ne = curves_from (filter (λ x. not (same_curve x z)) zs) (curves_of zs) (curves_ascend zs)
    (λ x m. let y = of_curves x zs m in by x y.0 y.1 y.2)
    (λ x m. in_curves x zs (of_filter (λ x. not (same_curve x z)) x zs m).0)
  where
    stays : (x : ℕ) → Member x zs → x ≢ z → Member x (filter (λ x. not (same_curve x z)) zs)
    stays x m n = in_filter (λ x. not (same_curve x z)) x zs m (not_in (same_curve x z) (λ q. n (curve_out x z q)))

    by : (x y : ℕ) → Member y zs → x ≡ curve_of y → (v : ℕ) × Member v (filter (λ x. not (same_curve x z)) zs) × (x ≡ curve_of v)
    by x y m q = elim (cases_eq y z) [
      | inl s ↦ (w, stays w h ne, q ∙ ap curve_of s ∙ sym e)
      | inr n ↦ (y, stays y m n, q)
    ]

-- ---- in the history's words
change_curves : (old new : Past) (d : DartId) (f g : List ℕ → List ℕ) → ((x : DartId) → x ≡ d → curves_of (f (strands_on old x)) ≡ g (curves_of (strands_on old x))) → StrandsChangeOn old new d f → AreChangedOn old new d g
unfolding curves_on
change_curves old new d f g e h x = elim (cases_eq x.0 d.0) [
  | inl q ↦ ap curves_of (subst (λ b. strands_on new x ≡ cond b (f (strands_on old x)) (strands_on old x)) (eq-eqb x.0 d.0 q) (h x)) ∙ e x (ap dart_id q) ∙ subst (λ b. g (curves_of (strands_on old x)) ≡ cond b (g (curves_of (strands_on old x))) (curves_of (strands_on old x))) (sym (eq-eqb x.0 d.0 q)) refl
  | inr ne ↦ ap curves_of (subst (λ b. strands_on new x ≡ cond b (f (strands_on old x)) (strands_on old x)) (other_number x.0 d.0 ne) (h x)) ∙ subst (λ b. curves_of (strands_on old x) ≡ cond b (g (curves_of (strands_on old x))) (curves_of (strands_on old x))) (sym (other_number x.0 d.0 ne)) refl
]

pub same_strands_curves : (old new : Past) → SameStrands old new → SameCurves old new
unfolding curves_on
same_strands_curves old new h d = ap curves_of (h d)

pub gains_as : (old new : Past) (d : DartId) (z y : ℕ) → z ≡ y → GainsStrand old new d z → GainsStrand old new d y
gains_as old new d z y e h = subst (GainsStrand old new d) e h

pub loses_as : (old new : Past) (d : DartId) (z y : ℕ) → z ≡ y → LosesStrand old new d z → LosesStrand old new d y
loses_as old new d z y e h = subst (LosesStrand old new d) e h

pub gains : (old new : Past) (d : DartId) (c side : ℕ) → side ≤ 8 → GainsStrand old new d (strand c side) → GainsCurve old new d c
gains old new d c side l h = change_curves old new d (place nat_cmp (strand c side)) (place nat_cmp c) (λ x q. curves_place (strand c side) c (strand_is_of c side l) (strands_on old x)) h

pub loses_sides : (old new : Past) (d : DartId) (c : ℕ) → LosesSides old new d c → LosesCurve old new d c
loses_sides old new d c h = change_curves old new d (filter (λ z. not (same_curve (curve_of z) c))) (filter (λ k. not (same_curve k c)))
    (λ x q. curves_less c (λ z. not (same_curve (curve_of z) c)) (strands_on old x)
    (λ z m e f. clash (curve_in (curve_of z) c e) (not_out (same_curve (curve_of z) c) f))
    (λ z m ne. not_in (same_curve (curve_of z) c) (λ f. ne (curve_out (curve_of z) c f)))) h

pub loses_last : (old new : Past) (d : DartId) (c side : ℕ) → side ≤ 8 → ((z : ℕ) → Member z (strands_on old d) → curve_of z ≡ c → z ≡ strand c side) → LosesStrand old new d (strand c side) → LosesCurve old new d c
loses_last old new d c side l only h = change_curves old new d (filter (λ z. not (same_curve z (strand c side)))) (filter (λ k. not (same_curve k c)))
    (λ x q. curves_less c (λ z. not (same_curve z (strand c side))) (strands_on old x)
    (λ z m e f. clash (curve_in z (strand c side) (only z (subst (λ y. Member z (strands_on old y)) q m) e)) (not_out (same_curve z (strand c side)) f))
    (λ z m ne. not_in (same_curve z (strand c side)) (λ f. ne (ap curve_of (curve_out z (strand c side) f) ∙ strand_is_of c side l)))) h

pub loses_none : (old new : Past) (d : DartId) (c side : ℕ) → side ≤ 8 → (w : ℕ) → Member w (strands_on old d) → curve_of w ≡ c → w ≢ strand c side → LosesStrand old new d (strand c side) → SameCurves old new
loses_none old new d c side l w m e ne h x =
    change_curves old new d (filter (λ z. not (same_curve z (strand c side)))) (λ ks. ks)
    (λ y q. curves_still (strand c side) w (strands_on old y) (subst (λ u. Member w (strands_on old u)) (sym q) m) (e ∙ sym (strand_is_of c side l)) ne) h x
    ∙ both (x.0 == d.0)
  where
    both : (b : Bool) → cond b (curves_on old x) (curves_on old x) ≡ curves_on old x
    both true = refl
    both false = refl

pub loses_all : (old new : Past) (d : DartId) → LosesStrands old new d → LosesCurves old new d
loses_all old new d h = change_curves old new d (λ zs. []) (λ ks. []) (λ x q. none_curves) h

pub copies : (old new : Past) (d n : DartId) → CopiesStrands old new d n → CopiesCurves old new d n
unfolding curves_on
copies old new d n h = change_curves old new n (λ zs. strands_on old d) (λ ks. curves_of (strands_on old d)) (λ x q. refl) h

pub nothing_runs : (new : Past) → ((d : DartId) → strands_on new d ≡ []) → (d : DartId) → curves_on new d ≡ []
unfolding curves_on
nothing_runs new h d = ap curves_of (h d) ∙ none_curves

-- the curves of records' edges tell that the sides are theirs too
pub strands_of_edges : (v : View) (p : Past) → AreCurvesOf v (curves_on p) → AreCurvesOf v (strands_on p)
unfolding curves_on
strands_of_edges v p a = record {
  some = λ d f e. a.some d f (ap curves_of e ∙ none_curves);
  ascend = strands_ascend p;
  without_dart = λ d n. none_of_none (strands_on p d) (a.without_dart d n);
  backward = λ d b. none_of_none (strands_on p d) (a.backward d b);
}
