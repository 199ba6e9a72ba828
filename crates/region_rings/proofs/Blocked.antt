-- Where an end that comes in is met next after one that does, the darts aren't a closed border.
use Rattle.std.proofs.Common.{◌≡◌, ◌≢◌, ℕ, ◌<◌, Bool, true, false, cond, not, ◌&&◌, ◌||◌, inl, inr, sym, ap, ◌∙◌, Equal, List, length, get_or, Result, Ok, Err}
use Rattle.std.specs.Prelude.{IfErr}
use Rattle.std.specs.Cmp.{tied_itself}
use Rattle.std.proofs.lemmas.Bool.{cases_Bool}
use Rattle.std.specs.Ordering.{is_eq}
use Rattle.exact_plane.specs.Point.{Point, point_eq}
use Rattle.exact_plane.specs.PointOrderLaws.{point_cmp_total, point_cmp_ties, one_point}
use Rattle.plane_graphs.proofs.Sorting.{any_default}
use Rattle.rotation_order.proofs.LineDirections.{asym}
use Rattle.region_rings.specs.declared.spokes.Spoke.{Spoke}
use Rattle.polygon_sets.specs.ClosedBorders.{way, way_before, is_sooner, IsClosedBorder, no_dart, dart_at}
use Rattle.region_rings.specs.Closed.{IsErrorOf}
use Rattle.region_rings.specs.declared.errors.RingsError.{RingsError}
use Rattle.region_rings.specs.declared.errors.RingsError.TheVariants.{NotClosed, NoMemory}
use Rattle.region_rings.specs.Spokes.{spoke, spoke_cmp, spoke_in, AreSpokes}
use Rattle.region_rings.specs.Nexts.{IsBlocked}
use Rattle.region_rings.proofs.Links.{out_there, in_at, of_vertex, met_first, true_or_false}
use Rattle.region_rings.proofs.SpokeOrder.{spoke_cmp_total, one_place}

not_both : (x y p q : Bool) → (p ≡ true → q ≡ true → ⊥) → cond x (not y || p) (not y && p) ≡ true → cond y (not x || q) (not x && q) ≡ true → ⊥
not_both true true p q f h k = f h k
not_both true false p q f h k = cc
not_both false true p q f h k = cc
not_both false false p q f h k = f h k

-- one of two points is met first
one_first : (v a p q : Point) → is_sooner v a p q ≡ true → is_sooner v a q p ≡ true → ⊥
one_first v a p q h k = not_both (way_before v a p) (way_before v a q) (way_before v p q) (way_before v q p) (asym (way v p) (way v q)) h k

pub eq_itself : (p : Point) → point_eq p p ≡ true
eq_itself p = point_cmp_ties p p ∙ ap is_eq (tied_itself point_cmp_total p)

tied : (v p q : Point) (m j : ℕ) → p ≡ q → spoke_cmp (spoke v p false m) (spoke v q true j) ≡ Equal
tied v p q m j e = (λ t. spoke_cmp (spoke v (e t) false m) (spoke v q true j)) ∙ tied_itself spoke_cmp_total (spoke v q true j)

module _ (ds : List (Point × Point)) (ss : List Spoke) (h : AreSpokes ds ss) (i : ℕ) (l : i < length ss) (o : (spoke_in ss i).is_out ≡ false) (b : IsBlocked ss i) (closed : IsClosedBorder ds) where
  pub not_closed : ⊥
  not_closed =
      let k = (spoke_in ss i).dart in
      let a = in_at ds ss h i l o in
      let w = closed.follows k a.0 in
      let j = w.0 in
      let d = dart_at ds k in
      let e = dart_at ds j in
      let c = out_there ds ss h.all j w.1 in
      let m = in_at ds ss h b.at b.within b.comes in
      let n = (spoke_in ss b.at).dart in
      let p = (dart_at ds n).0 in
      let one : (dart_at ds n).1 ≡ d.1 = sym (ap (λ (s : Spoke). s.at) m.1) ∙ of_vertex ds ss h i b.at b.follows ∙ ap (λ (s : Spoke). s.at) a.1 in
      let comes : spoke_in ss b.at ≡ spoke d.1 p false n = m.1 ∙ ap (λ (v : Point). spoke v p false n) one in
      let goes : spoke_in ss c.0 ≡ spoke d.1 e.1 true j = c.2 ∙ ap (λ (v : Point). spoke v e.1 true j) (sym w.2.joined) in
      let ne : c.0 ≢ b.at = λ q. true_or_false ds ss h (sym (ap (λ (s : Spoke). s.is_out) goes) ∙ ap (λ t. (spoke_in ss t).is_out) q ∙ ap (λ (s : Spoke). s.is_out) comes) in
      let first = met_first ds ss h i b.at c.0 d.1 d.0 p e.1 false false true k n j l b.within c.1 b.follows ne a.1 comes goes in
      elim (cases_Bool (point_eq p e.1)) [
        | inl y ↦ ne (sym (one_place ss h.ascending b.at c.0 b.within c.1 ((λ t. spoke_cmp (comes t) (goes t)) ∙ tied d.1 p e.1 n j (one_point p e.1 y))))
        | inr z ↦ (
            let there : get_or ds n (p, d.1) ≡ (p, d.1) = any_default ds n (p, d.1) no_dart m.0 ∙ (λ t. (p, one t)) in
            let other : p ≢ e.1 = λ q. true_or_false ds ss h (sym (eq_itself e.1) ∙ ap (λ (x : Point). point_eq x e.1) (sym q) ∙ z) in
            one_first d.1 d.0 p e.1 first (w.2.first p (inr (n, m.0, there)) other))
      ]

-- whichever error is answered where the darts aren't a closed border
pub error_by : (ds : List (Point × Point)) (e : RingsError) → (IsClosedBorder ds → ⊥) → IsErrorOf ds e
error_by ds NotClosed f = f
error_by ds NoMemory f = tt

pub if_error : {T : Type 0} (ds : List (Point × Point)) (r : Result T RingsError) → (IsClosedBorder ds → ⊥) → IfErr r (IsErrorOf ds)
if_error ds (Ok v) f = tt
if_error ds (Err e) f = error_by ds e f
