-- Inside a slab: no two edges touch, so they are in one line, and a step over an edge changes the weight above by its own.
use Rattle.std.proofs.Common.{◌≡◌, ℕ, ◌+◌, ◌*◌, ◌<◌, Bool, true, false, cond, arith, refl, sym, ◌∙◌, inl, inr, subst}
use Rattle.std.specs.Prelude.{ℤ, pos, ◌+ℤ◌, ◌-ℤ◌, ◌*ℤ◌, ◌<ℤ◌, not, ◌&&◌}
use Rattle.std.specs.List.{sum_by, count_by, Contains}
use Rattle.std.proofs.lemmas.Int.{ints, by_lt_z}
use Rattle.std.proofs.lemmas.Bool.{false≢true, and_parts, and_from, or_left, false_from_ne_true, cases_Bool, cases_lt, le-leb, lt-leb}
use Rattle.slab_laws.specs.Skeleton.{same_point, Skeleton, HasWeight, left_of, lower_than, run, side, gap, below, IsPlaneSkeleton, precedes, same_edge}
use lib.Dec.{leb}
use lib.IntN.{*ℤ-zero}
use lib.Signed.{lt_z}
use Rattle.exact_plane.specs.Point.{Point}
use Rattle.plane_graphs.specs.Graph.{Edge}
use Rattle.slab_laws.specs.Slabs.{spans, place}
use Rattle.slab_laws.specs.Weights.{weight_above}
use Rattle.slab_faces.proofs.Ints.{as_dif, dif_add, dif_sub, dif_mul, dif_same, less_back, mean_zero, zero_back}
use Rattle.slab_faces.proofs.OverUnder.{zero_not_over}
use Rattle.slab_faces.proofs.Sums.{each, sum_by-same, sum_by-plus, sum_by-cond, fewer_than}
use Rattle.slab_faces.proofs.Walls.{left_of-irrefl, left_of-asym, left_of-before, run_positive, over-lower, over-upper, side-lower, side-upper}
use Rattle.slab_faces.proofs.Order.{Passes, IsHigherAt, below_from, below_asym, cross_at, gap_mean, away, away_yes, gap-on_f, gap-swap}
use Rattle.slab_faces.proofs.Parity.{same_point_is, same_point_refl}
use Rattle.integers.proofs.Signs.{mul_pos'}

-- an edge that passes M strictly between its ends
pub record IsThrough (e : Edge) (M : Point) : Type 0 where
  pub from : left_of e.low M ≡ true
  pub to : left_of M e.high ≡ true

-- a point in the range of both edges
record IsCommon (f e : Edge) (u : Point) : Type 0 where
  proper : HasWeight u
  f_from : left_of u f.low ≡ false
  f_to : left_of f.high u ≡ false
  e_from : left_of u e.low ≡ false
  e_to : left_of e.high u ≡ false

raised : (f e : Edge) (u : Point) → IsCommon f e u → pos 0 <ℤ gap f e u → IsHigherAt f e u
raised f e u c h = record { proper = c.proper; f_from = c.f_from; f_to = c.f_to; e_from = c.e_from; e_to = c.e_to; gap_up = h }

sunk : (f e : Edge) (u : Point) → IsCommon f e u → gap f e u <ℤ pos 0 → IsHigherAt e f u
sunk f e u c h = let s = gap-swap f e u in record { proper = c.proper; f_from = c.e_from; f_to = c.e_to; e_from = c.f_from; e_to = c.f_to; gap_up = omega (arith, ints) }

-- where two edges touch at M inside both, they have no gap on either side of M
flat : (g : Skeleton) (f e : Edge) (M u v : Point) → IsPlaneSkeleton g → Contains g.edges f → Contains g.edges e → HasWeight M → gap f e M ≡ pos 0 → IsCommon f e u → IsCommon f e v → left_of u M ≡ true → left_of M v ≡ true → (gap f e u ≡ pos 0) × (gap f e v ≡ pos 0)
flat g f e M u v plane F E P z cu cv a b =
    let p = plane.proper_edge f F in
    let q = plane.proper_edge e E in
    let uv = left_of-before u M v cu.proper P cv.proper a (left_of-asym M v b) in
    mean_zero (gap f e M) (away u v) (gap f e u) (away M v) (gap f e v) (away u M) (gap_mean f e M u v) (away_yes M v b) (away_yes u M a) z
    (λ h k. false≢true (sym (plane.uncrossed e f E F) ∙ cross_at f e u v q.0 q.1 p.0 p.1 (raised f e u cu h) (sunk f e v cv k) uv))
    (λ h k. false≢true (sym (plane.uncrossed f e F E) ∙ cross_at e f u v p.0 p.1 q.0 q.1 (sunk f e u cu h) (raised f e v cv k) uv))

-- all that is said of two edges that touch at M
pub record Touch (g : Skeleton) (f e : Edge) (M : Point) : Type 0 where
  pub plane : IsPlaneSkeleton g
  pub F : Contains g.edges f
  pub E : Contains g.edges e
  pub P : HasWeight M
  pub f_through : IsThrough f M
  pub e_through : IsThrough e M
  pub z : gap f e M ≡ pos 0

turned : (g : Skeleton) (f e : Edge) (M : Point) → Touch g f e M → Touch g e f M
turned g f e M t = let s = gap-swap f e M in let z = t.z in record { plane = t.plane; F = t.E; E = t.F; P = t.P; f_through = t.e_through; e_through = t.f_through; z = omega (arith, ints) }

-- what `Touch` says of the four ends
record Ends (f e : Edge) : Type 0 where
  f_long : left_of f.low f.high ≡ true
  e_long : left_of e.low e.high ≡ true
  f_e : left_of f.low e.high ≡ true
  e_f : left_of e.low f.high ≡ true

ends : (g : Skeleton) (f e : Edge) (M : Point) → Touch g f e M → Ends f e
ends g f e M t =
    let p = t.plane.proper_edge f t.F in
    let q = t.plane.proper_edge e t.E in
    let f1 = t.f_through.from in
    let e1 = t.e_through.from in
    let f2 = left_of-asym _ _ t.f_through.to in
    let e2 = left_of-asym _ _ t.e_through.to in
    record {
      f_long = left_of-before f.low M f.high p.0 t.P p.1 f1 f2;
      e_long = left_of-before e.low M e.high q.0 t.P q.1 e1 e2;
      f_e = left_of-before f.low M e.high p.0 t.P q.1 f1 e2;
      e_f = left_of-before e.low M f.high q.0 t.P p.1 e1 f2;
    }

-- f's lower end, where it isn't left of e's
common_lower : (g : Skeleton) (f e : Edge) (M : Point) → Touch g f e M → left_of f.low e.low ≡ false → IsCommon f e f.low
common_lower g f e M t h =
    let n = ends g f e M t in
    record { proper = (t.plane.proper_edge f t.F).0; f_from = left_of-irrefl f.low; f_to = left_of-asym _ _ n.f_long; e_from = h; e_to = left_of-asym _ _ n.f_e }

common_upper : (g : Skeleton) (f e : Edge) (M : Point) → Touch g f e M → left_of e.high f.high ≡ false → IsCommon f e f.high
common_upper g f e M t h =
    let n = ends g f e M t in
    record { proper = (t.plane.proper_edge f t.F).1; f_from = left_of-asym _ _ n.f_long; f_to = left_of-irrefl f.high; e_from = left_of-asym _ _ n.e_f; e_to = h }

flipped : (f e : Edge) (u : Point) → IsCommon f e u → IsCommon e f u
flipped f e u c = record { proper = c.proper; f_from = c.e_from; f_to = c.e_to; e_from = c.f_from; e_to = c.f_to }

-- so there is no gap at f's lower end, where it isn't left of e's, nor at its upper end
flat_lower : (g : Skeleton) (f e : Edge) (M : Point) → Touch g f e M → left_of f.low e.low ≡ false → gap f e f.low ≡ pos 0
flat_lower g f e M t h =
    let u = common_lower g f e M t h in
    elim (cases_Bool (left_of e.high f.high)) [
      | inl a ↦ (flat g f e M f.low e.high t.plane t.F t.E t.P t.z u (flipped e f e.high (common_upper g e f M (turned g f e M t) (left_of-asym _ _ a))) t.f_through.from t.e_through.to).0
      | inr a ↦ (flat g f e M f.low f.high t.plane t.F t.E t.P t.z u (common_upper g f e M t a) t.f_through.from t.f_through.to).0
    ]

flat_upper : (g : Skeleton) (f e : Edge) (M : Point) → Touch g f e M → left_of e.high f.high ≡ false → gap f e f.high ≡ pos 0
flat_upper g f e M t h =
    let v = common_upper g f e M t h in
    elim (cases_Bool (left_of f.low e.low)) [
      | inl a ↦ (flat g f e M e.low f.high t.plane t.F t.E t.P t.z (flipped e f e.low (common_lower g e f M (turned g f e M t) (left_of-asym _ _ a))) v t.e_through.from t.f_through.to).1
      | inr a ↦ (flat g f e M f.low f.high t.plane t.F t.E t.P t.z (common_lower g f e M t a) v t.f_through.from t.f_through.to).1
    ]

-- f's end is then on e's line
on_e : (f e : Edge) (u : Point) → pos 0 <ℤ run f → side f u ≡ pos 0 → gap f e u ≡ pos 0 → side e u ≡ pos 0
on_e f e u F s z = let k = gap-on_f f e u s in zero_back (run f) (side e u) F (omega (arith, ints))

on_line : (e : Edge) (v : Point) → side e v ≡ pos 0 → (not (lt_z (side e v) (pos 0)) && not (lt_z (pos 0) (side e v))) ≡ true
on_line e v z = rw z refl

lower_clear : (g : Skeleton) (f e : Edge) (M : Point) → Touch g f e M → left_of e.low f.low ≡ false
lower_clear g f e M t =
    let n = ends g f e M t in
    false_from_ne_true _ (λ h.
    let z = on_e f e f.low (run_positive f n.f_long) (side-lower f) (flat_lower g f e M t (left_of-asym _ _ h)) in
    false≢true (sym (t.plane.clear e f.low t.E (t.plane.lower_in f t.F)) ∙ and_from _ _ (and_from _ _ (or_left _ _ h) (or_left _ _ n.f_e)) (on_line e f.low z)))

upper_clear : (g : Skeleton) (f e : Edge) (M : Point) → Touch g f e M → left_of f.high e.high ≡ false
upper_clear g f e M t =
    let n = ends g f e M t in
    false_from_ne_true _ (λ h.
    let z = on_e f e f.high (run_positive f n.f_long) (side-upper f) (flat_upper g f e M t (left_of-asym _ _ h)) in
    false≢true (sym (t.plane.clear e f.high t.E (t.plane.upper_in f t.F)) ∙ and_from _ _ (and_from _ _ (or_left _ _ n.e_f) (or_left _ _ h)) (on_line e f.high z)))

-- two points at one abscissa, neither higher
pub no_order : (p q : Point) → left_of p q ≡ false → left_of q p ≡ false → lower_than p q ≡ false → precedes p q ≡ false
no_order p q a b c = rw (a, b, c) refl

lower_level : (g : Skeleton) (f e : Edge) (M : Point) → Touch g f e M → lower_than f.low e.low ≡ false
lower_level g f e M t =
    let n = ends g f e M t in
    let a = lower_clear g f e M t in
    let b = lower_clear g e f M (turned g f e M t) in
    let z = on_e f e f.low (run_positive f n.f_long) (side-lower f) (flat_lower g f e M t b) in
    sym (over-lower e f.low (t.plane.proper_edge e t.E).0 n.e_long a b) ∙ zero_not_over e f.low z

upper_level : (g : Skeleton) (f e : Edge) (M : Point) → Touch g f e M → lower_than f.high e.high ≡ false
upper_level g f e M t =
    let n = ends g f e M t in
    let a = upper_clear g f e M t in
    let b = upper_clear g e f M (turned g f e M t) in
    let z = on_e f e f.high (run_positive f n.f_long) (side-upper f) (flat_upper g f e M t b) in
    sym (over-upper e f.high (t.plane.proper_edge e t.E).1 n.e_long b a) ∙ zero_not_over e f.high z

-- edges that touch strictly inside both are one edge
pub same_edge_from_touch : (g : Skeleton) (f e : Edge) (M : Point) → Touch g f e M → f ≡ e
same_edge_from_touch g f e M t =
    let u = turned g f e M t in
    let a = lower_clear g f e M t in
    let b = lower_clear g e f M u in
    let c = upper_clear g f e M t in
    let d = upper_clear g e f M u in
    let x = t.plane.distinct f.low e.low (t.plane.lower_in f t.F) (t.plane.lower_in e t.E) (no_order _ _ b a (lower_level g f e M t)) (no_order _ _ a b (lower_level g e f M u)) in
    let y = t.plane.distinct f.high e.high (t.plane.upper_in f t.F) (t.plane.upper_in e t.E) (no_order _ _ c d (upper_level g f e M t)) (no_order _ _ d c (upper_level g e f M u)) in
    λ i. record { low = x i; high = y i }

-- ---- the order inside a slab, by the heights at M
pub record IsSlab (g : Skeleton) (i : ℕ) (M : Point) : Type 0 where
  pub proper : HasWeight M
  pub spanned : (e : Edge) → Contains g.edges e → spans g i e ≡ (left_of e.low M && left_of M e.high)

pub through : (g : Skeleton) (i : ℕ) (M : Point) (e : Edge) → IsSlab g i M → Contains g.edges e → spans g i e ≡ true → IsThrough e M
through g i M e s E h = let a = and_parts (left_of e.low M) (left_of M e.high) (sym (s.spanned e E) ∙ h) in record { from = a.0; to = a.1 }

pub passes : (g : Skeleton) (f e : Edge) (M : Point) → IsPlaneSkeleton g → Contains g.edges f → Contains g.edges e → HasWeight M → IsThrough f M → IsThrough e M → Passes f e M
passes g f e M plane F E P a b =
    let p = plane.proper_edge f F in
    let q = plane.proper_edge e E in
    let f1 = a.from in
    let e1 = b.from in
    let f2 = left_of-asym _ _ a.to in
    let e2 = left_of-asym _ _ b.to in
    record {
      f_from = left_of-asym _ _ f1;
      f_to = f2;
      e_from = left_of-asym _ _ e1;
      e_to = e2;
      f_long = left_of-before f.low M f.high p.0 P p.1 f1 f2;
      e_long = left_of-before e.low M e.high q.0 P q.1 e1 e2;
      f_e = left_of-before f.low M e.high p.0 P q.1 f1 e2;
      e_f = left_of-before e.low M f.high q.0 P p.1 e1 f2;
    }

-- the three cases of two edges at M
pub by_gap : {X : Type 0} (g : Skeleton) (f e : Edge) (M : Point) → IsPlaneSkeleton g → Contains g.edges f → Contains g.edges e → HasWeight M → IsThrough f M → IsThrough e M → (pos 0 <ℤ gap f e M → X) → (gap f e M <ℤ pos 0 → X) → (f ≡ e → X) → X
by_gap g f e M plane F E P a b up down same =
    by_lt_z (pos 0) (gap f e M) up (λ h.
    by_lt_z (gap f e M) (pos 0) down (λ k.
    same (same_edge_from_touch g f e M (record { plane = plane; F = F; E = E; P = P; f_through = a; e_through = b; z = omega (arith, ints) }))))

pub below_at : (g : Skeleton) (f e : Edge) (M : Point) → IsPlaneSkeleton g → Contains g.edges f → Contains g.edges e → HasWeight M → IsThrough f M → IsThrough e M → pos 0 <ℤ gap f e M → below f e ≡ true
below_at g f e M plane F E P a b h = below_from f e M (passes g f e M plane F E P a b) h

pub gap_at : (g : Skeleton) (f e : Edge) (M : Point) → IsPlaneSkeleton g → Contains g.edges f → Contains g.edges e → HasWeight M → IsThrough f M → IsThrough e M → below f e ≡ true → pos 0 <ℤ gap f e M
gap_at g f e M plane F E P a b h =
    by_gap g f e M plane F E P a b (λ k. k)
    (λ k. let s = gap-swap f e M in absurd (below_asym g f e plane F E h (below_at g e f M plane E F P b a (omega (arith, ints)))))
    (λ k. let h' : below e e ≡ true = subst (λ x. below x e ≡ true) k h in absurd (below_asym g e e plane E E h' h'))

-- f below e and e below d: f below d
adds : (rd re rf sd se sf : ℤ) → re *ℤ (rd *ℤ sf -ℤ rf *ℤ sd) ≡ rd *ℤ (re *ℤ sf -ℤ rf *ℤ se) +ℤ rf *ℤ (rd *ℤ se -ℤ re *ℤ sd)
adds a b c d e f = rw (as_dif a, as_dif b, as_dif c, as_dif d, as_dif e, as_dif f) (simp (dif_add, dif_sub, dif_mul) (dif_same _ _ _ _ (omega arith)))

pub gap_trans : (f e d : Edge) (M : Point) → pos 0 <ℤ run f → pos 0 <ℤ run e → pos 0 <ℤ run d → pos 0 <ℤ gap f e M → pos 0 <ℤ gap e d M → pos 0 <ℤ gap f d M
unfolding gap
gap_trans f e d M F E D h k =
    let i = adds (run d) (run e) (run f) (side d M) (side e M) (side f M) in
    let a = mul_pos' (run d) (run e *ℤ side f M -ℤ run f *ℤ side e M) D h in
    let b = mul_pos' (run f) (run d *ℤ side e M -ℤ run e *ℤ side d M) F k in
    let z = *ℤ-zero (run e) in
    less_back (run e) (pos 0) _ E (omega (arith, ints))

pub run_through : (g : Skeleton) (e : Edge) (M : Point) → IsPlaneSkeleton g → Contains g.edges e → HasWeight M → IsThrough e M → pos 0 <ℤ run e
run_through g e M plane E P t = let q = plane.proper_edge e E in run_positive e (left_of-before e.low M e.high q.0 P q.1 t.from (left_of-asym _ _ t.to))

pub place_less : (g : Skeleton) (i : ℕ) (M : Point) (f e : Edge) → IsPlaneSkeleton g → IsSlab g i M → Contains g.edges f → Contains g.edges e → spans g i f ≡ true → spans g i e ≡ true → below f e ≡ true → place g i f < place g i e
place_less g i M f e plane s F E sf se h =
    let tf = through g i M f s F sf in
    let te = through g i M e s E se in
    let P = s.proper in
    let k = gap_at g f e M plane F E P tf te h in
    fewer_than (λ d. spans g i d && below d f) (λ d. spans g i d && below d e) g.edges f F
    (false_from_ne_true _ (λ x. let y = and_parts (spans g i f) (below f f) x in below_asym g f f plane F F y.1 y.1))
    (and_from _ _ sf h)
    (λ d D x.
    let y = and_parts (spans g i d) (below d f) x in
    let td = through g i M d s D y.0 in
    let l = gap_at g d f M plane D F P td tf y.1 in
    and_from _ _ y.0 (below_at g d e M plane D E P td te (gap_trans d f e M (run_through g d M plane D P td) (run_through g f M plane F P tf) (run_through g e M plane E P te) l k)))

-- one edge a place
pub place_same : (g : Skeleton) (i : ℕ) (M : Point) (f e : Edge) → IsPlaneSkeleton g → IsSlab g i M → Contains g.edges f → Contains g.edges e → spans g i f ≡ true → spans g i e ≡ true → place g i f ≡ place g i e → f ≡ e
place_same g i M f e plane s F E sf se h =
    let tf = through g i M f s F sf in
    let te = through g i M e s E se in
    let P = s.proper in
    by_gap g f e M plane F E P tf te
    (λ k. let l = place_less g i M f e plane s F E sf se (below_at g f e M plane F E P tf te k) in absurd (omega arith))
    (λ k. let w = gap-swap f e M in let l = place_less g i M e f plane s E F se sf (below_at g e f M plane E F P te tf (omega (arith, ints))) in absurd (omega arith))
    (λ k. k)

-- ---- a step over an edge
pub same_edge_is : (e f : Edge) → same_edge e f ≡ true → e ≡ f
unfolding same_edge
same_edge_is e f h =
    let a = and_parts (same_point e.low f.low) (same_point e.high f.high) h in
    let x = same_point_is e.low f.low a.0 in
    let y = same_point_is e.high f.high a.1 in
    λ i. record { low = x i; high = y i }

pub same_edge_refl : (e : Edge) → same_edge e e ≡ true
unfolding same_edge
same_edge_refl e = and_from _ _ (same_point_refl e.low) (same_point_refl e.high)

step_other : (j k n : ℕ) (s : Bool) → (s ≡ true → j ≡ k → ⊥) → cond (s && leb j k) n 0 ≡ cond (s && leb (j + 1) k) n 0
step_other j k n false h = refl
step_other j k n true h =
    elim (cases_lt j k) [
      | inl l ↦ rw (le-leb j k (omega arith), le-leb (j + 1) k (omega arith)) refl
      | inr l ↦ let w = h refl in
          elim (cases_lt k j) [
            | inl q ↦ rw (lt-leb j k q, lt-leb (j + 1) k (omega arith)) refl
            | inr q ↦ absurd (w (omega arith))
          ]
    ]

step_self : (j n : ℕ) → cond (true && leb j j) n 0 ≡ n + cond (true && leb (j + 1) j) n 0
step_self j n = rw (le-leb j j (omega arith), lt-leb (j + 1) j (omega arith)) (omega arith)

-- what the weight above an edge's place holds beyond the weight above the next place: the edge's own
pub weight_step : (g : Skeleton) (m : Edge → ℕ) (i : ℕ) (M : Point) (e : Edge) → IsPlaneSkeleton g → IsSlab g i M → Contains g.edges e → spans g i e ≡ true → weight_above g m i (place g i e) ≡ m e + weight_above g m i (place g i e + 1)
weight_step g m i M e plane s E se =
    let j = place g i e in
    let own : Edge → ℕ = λ f. cond (same_edge e f) (m e) 0 in
    let next : Edge → ℕ = λ f. cond (spans g i f && leb (j + 1) (place g i f)) (m f) 0 in
    let now : Edge → ℕ = λ f. cond (spans g i f && leb j (place g i f)) (m f) 0 in
    let pair : (f : Edge) → Contains g.edges f → now f ≡ own f + next f =
    λ f F.
    elim (cases_Bool (same_edge e f)) [
      | inl h ↦ rw h (self f (same_edge_is e f h))
      | inr h ↦ rw h (other f F h)
    ] in
    let a : sum_by now g.edges ≡ sum_by (λ f. own f + next f) g.edges =
    sum_by-same now (λ f. own f + next f) g.edges (each (λ f. now f ≡ own f + next f) g.edges pair) in
    let b = sum_by-plus own next g.edges in
    let c : sum_by own g.edges ≡ count_by (same_edge e) g.edges * m e = sum_by-cond (same_edge e) (m e) g.edges in
    let c' = rw (plane.edge_once e E) at c in
    omega arith
  where
    self : (f : Edge) → e ≡ f → cond (spans g i f && leb (place g i e) (place g i f)) (m f) 0 ≡ m e + cond (spans g i f && leb (place g i e + 1) (place g i f)) (m f) 0
    self f k = subst (λ f. cond (spans g i f && leb (place g i e) (place g i f)) (m f) 0 ≡ m e + cond (spans g i f && leb (place g i e + 1) (place g i f)) (m f) 0) k (rw se (step_self (place g i e) (m e)))

    other : (f : Edge) → Contains g.edges f → same_edge e f ≡ false → cond (spans g i f && leb (place g i e) (place g i f)) (m f) 0 ≡ 0 + cond (spans g i f && leb (place g i e + 1) (place g i f)) (m f) 0
    other f F h =
        let k = step_other (place g i e) (place g i f) (m f) (spans g i f) (λ sf l.
        let w = place_same g i M e f plane s E F se sf l in
        false≢true (sym h ∙ subst (λ f. same_edge e f ≡ true) w (same_edge_refl e))) in
        k ∙ omega arith
