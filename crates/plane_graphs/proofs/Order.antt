-- The order of points and of marks.
use Rattle.std.proofs.Common.{◌≡◌, ℕ, true, not, is_lt, is_eq, refl, sym, ap, ◌∙◌, Ordering, Less, Equal, Greater, nat_cmp, arith}
use Rattle.std.specs.Cmp.{IsTotalOrder}
use Rattle.std.proofs.lemmas.Cmp.{then_total, on_total, nat_cmp_total, tied_itself}
use Rattle.std.specs.Ordering.{is_le, ordering_reverse, ordering_then}
use Rattle.exact_plane.specs.Point.{Point}
use Rattle.exact_plane.specs.PointOrder.{point_cmp}
use Rattle.exact_plane.specs.PointOrderLaws.{point_cmp_total, same_point as point_cmp_exact}
use Rattle.exact_plane.specs.Span.{IsAtMost}
use Rattle.plane_graphs.specs.Line.{precedes, same_point}
use Rattle.plane_graphs.specs.Graph.{Mark, mark_cmp}
use Rattle.integers.proofs.Tests.{is_less, then_rest, is_equal}

pub record Lt (p q : Point) : Type 0 where
  pub is : point_cmp p q ≡ Less

pub lt_trans : {p q r : Point} → Lt p q → Lt q r → Lt p r
lt_trans {p} {q} {r} h k = record { is = point_cmp_total.trans p q r h.is k.is }

pub lt_never : {p : Point} → Lt p p → ⊥
lt_never {p} h = let t = tied_itself point_cmp_total p in let e = h.is in cc

pub lt_both : {p q : Point} → Lt p q → Lt q p → ⊥
lt_both h k = lt_never (lt_trans h k)

pub data Tri (p q : Point) : Type 0 where
  less : Lt p q → Tri p q
  same : p ≡ q → Tri p q
  more : Lt q p → Tri p q

tri_by : (p q : Point) (t : Ordering) → point_cmp p q ≡ t → Tri p q
tri_by p q Less e = less (record { is = e })
tri_by p q Equal e = same (point_cmp_exact p q e)
tri_by p q Greater e = more (record { is = point_cmp_total.antisymm q p ∙ ap ordering_reverse e })

pub tri : (p q : Point) → Tri p q
tri p q = tri_by p q (point_cmp p q) refl

pub lt_out : (p q : Point) → precedes p q ≡ true → Lt p q
lt_out p q h = record { is = is_less (point_cmp p q) h }

pub lt_in : {p q : Point} → Lt p q → precedes p q ≡ true
lt_in {p} {q} h = ap is_lt h.is

pub after_out : (p q : Point) → point_cmp p q ≡ Greater → Lt q p
after_out p q e = record { is = point_cmp_total.antisymm q p ∙ ap ordering_reverse e }

not_less : (o : Ordering) → not (is_lt (ordering_reverse o)) ≡ true → is_le o ≡ true
not_less Less h = refl
not_less Equal h = refl
not_less Greater h = cc

pub at_most_out : (p q : Point) → not (precedes q p) ≡ true → IsAtMost p q
at_most_out p q h = not_less (point_cmp p q) (ap (λ o. not (is_lt o)) (sym (point_cmp_total.antisymm q p)) ∙ h)

pub same_out : (p q : Point) → same_point p q ≡ true → p ≡ q
same_out p q h = point_cmp_exact p q (is_equal (point_cmp p q) h)

pub same_itself : (p : Point) → same_point p p ≡ true
same_itself p = ap is_eq (tied_itself point_cmp_total p)

pub same_in : (p q : Point) → p ≡ q → same_point p q ≡ true
same_in p q e = ap (λ r. same_point p r) (sym e) ∙ same_itself p

pub curve_out : (c d : ℕ) → is_eq (nat_cmp c d) ≡ true → c ≡ d
curve_out c d h = grind arith

pub curve_in : (c d : ℕ) → c ≡ d → is_eq (nat_cmp c d) ≡ true
curve_in c d h = ap (λ e. is_eq (nat_cmp c e)) (sym h) ∙ ap is_eq (tied_itself nat_cmp_total c)

-- ---- marks
pub mark_cmp_total : IsTotalOrder mark_cmp
unfolding mark_cmp
mark_cmp_total = then_total (on_total (λ m. m.low) point_cmp_total) (then_total (on_total (λ m. m.high) point_cmp_total) (on_total (λ m. m.curve) nat_cmp_total))

then_first : (s t : Ordering) → ordering_then s t ≡ Equal → s ≡ Equal
then_first Less t e = e
then_first Equal t e = refl
then_first Greater t e = e

pub mark_cmp_exact : (m n : Mark) → mark_cmp m n ≡ Equal → m ≡ n
unfolding mark_cmp
mark_cmp_exact m n e =
    let a = point_cmp_exact m.low n.low (then_first (point_cmp m.low n.low) _ e) in
    let r = then_rest (point_cmp m.low n.low) _ e in
    let b = point_cmp_exact m.high n.high (then_first (point_cmp m.high n.high) _ r) in
    let c = curve_out m.curve n.curve (ap is_eq (then_rest (point_cmp m.high n.high) _ r)) in
    λ i. record { low = a i; high = b i; curve = c i }
