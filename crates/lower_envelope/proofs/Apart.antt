-- What whole parts tell: which of two points is on the left, and which of two edges is above the other.
use Rattle.std.proofs.Common.{◌≡◌, true, false, arith, [], ◌∷◌, ℤ, pos, ◌+ℤ◌, ◌-ℤ◌, ◌*ℤ◌, ◌<ℤ◌, ◌≤ℤ◌, inl, inr, refl, sym, ap₂, ◌∙◌, subst}
use Rattle.std.specs.Prelude.{int_lt, ◌&&◌}
use Rattle.std.specs.Int.{int_min, int_max}
use Rattle.std.proofs.lemmas.Bool.{cases_Bool, and_parts, not-true, false_from_ne_true}
use Rattle.std.proofs.lemmas.Int.{ints, by_lt_z, int_max_is, int_min_is}
use Rattle.integers.proofs.Compare.{less_in, less_out}
use Rattle.integers.proofs.Decisions.{lt_out}
use Rattle.integers.proofs.Reify.{ring, sides}
use Rattle.integers.proofs.Signs.{mul_pos, mul_nonneg, cancel_pos, sum_pos_l, sum_pos_r, weak}
use Rattle.integers.proofs.Tests.{lt_is, lt_yes}
use Rattle.exact_plane.specs.Place.{whole_part, rest_part}
use Rattle.exact_plane.specs.PlaceParts.{is_rest, parts_are}
use Rattle.exact_plane.specs.Point.{Point}
use Rattle.exact_plane.specs.Span.{Span, IsSpan}
use Rattle.exact_plane.specs.WholeParts.{whole_parts, bounding_box}
use Rattle.exact_plane.proofs.Floors.{less_by_whole}
use Rattle.plane_graphs.specs.Graph.{Edge}
use Rattle.slab_laws.specs.Skeleton.{HasWeight, left_of, run, side, in_range, gap, higher_at, below}
use Rattle.slab_laws.specs.SpansDrawn.{edge_of}
use Rattle.slab_faces.proofs.Order.{below_from, gap-swap}
use Rattle.slab_faces.proofs.Walls.{left_of-irrefl, left_of-asym, run_positive}
use Rattle.exact_plane.proofs.WholeOrders.{less_ratio}

nothing : (a b u v : ℤ) → a ≡ pos 0 → b ≡ pos 0 → a *ℤ u +ℤ b *ℤ v ≡ pos 0
nothing a b u v e f = ap₂ (λ x y. x *ℤ u +ℤ y *ℤ v) e f ∙ ring (u ∷ v ∷ []) (search sides depth 40 fits 20000) tt

-- two numbers that are not both 0
weighted : (a b u v m n : ℤ) → pos 0 ≤ℤ a → pos 0 ≤ℤ b → pos 0 <ℤ (a *ℤ u +ℤ b *ℤ v) → pos 0 <ℤ m → pos 0 <ℤ n → pos 0 <ℤ (a *ℤ m +ℤ b *ℤ n)
weighted a b u v m n A B s M N =
    by_lt_z (pos 0) a (λ l. sum_pos_l (mul_pos l M) (mul_nonneg B (weak N))) (λ k.
    by_lt_z (pos 0) b (λ l. sum_pos_r (mul_nonneg A (weak M)) (mul_pos l N)) (λ l.
    let z = nothing a b u v (omega (arith, ints)) (omega (arith, ints)) in absurd (omega (arith, ints))))

-- ---- an edge from p to r, one from q to s, both ends of which are above those of the first, and an abscissa x / w that both pass
module _ (px py pw rx ry rw qx qy qw sx sy sw x y w : ℤ) where
  abbrev lower_part : ℤ
  lower_part = (sx *ℤ w -ℤ x *ℤ sw) *ℤ (qy *ℤ pw -ℤ py *ℤ qw) +ℤ (x *ℤ qw -ℤ qx *ℤ w) *ℤ (sy *ℤ pw -ℤ py *ℤ sw)

  abbrev upper_part : ℤ
  upper_part = (sx *ℤ w -ℤ x *ℤ sw) *ℤ (qy *ℤ rw -ℤ ry *ℤ qw) +ℤ (x *ℤ qw -ℤ qx *ℤ w) *ℤ (sy *ℤ rw -ℤ ry *ℤ sw)

  abbrev between : ℤ
  between =
      (sx *ℤ qw -ℤ qx *ℤ sw) *ℤ ((py *ℤ rw -ℤ ry *ℤ pw) *ℤ x +ℤ (rx *ℤ pw -ℤ px *ℤ rw) *ℤ y +ℤ (px *ℤ ry -ℤ rx *ℤ py) *ℤ w)
      -ℤ (rx *ℤ pw -ℤ px *ℤ rw) *ℤ ((qy *ℤ sw -ℤ sy *ℤ qw) *ℤ x +ℤ (sx *ℤ qw -ℤ qx *ℤ sw) *ℤ y +ℤ (qx *ℤ sy -ℤ sx *ℤ qy) *ℤ w)

  -- how far they are apart is a mean of how far their ends are
  mean : (rx *ℤ w -ℤ x *ℤ rw) *ℤ lower_part +ℤ (x *ℤ pw -ℤ px *ℤ w) *ℤ upper_part ≡ between *ℤ w
  mean = ring (px ∷ py ∷ pw ∷ rx ∷ ry ∷ rw ∷ qx ∷ qy ∷ qw ∷ sx ∷ sy ∷ sw ∷ x ∷ y ∷ w ∷ []) (search sides depth 40 fits 20000) tt

  first_run : (rx *ℤ pw -ℤ px *ℤ rw) *ℤ w ≡ (rx *ℤ w -ℤ x *ℤ rw) *ℤ pw +ℤ (x *ℤ pw -ℤ px *ℤ w) *ℤ rw
  first_run = ring (px ∷ pw ∷ rx ∷ rw ∷ x ∷ w ∷ []) (search sides depth 40 fits 20000) tt

  second_run : (sx *ℤ qw -ℤ qx *ℤ sw) *ℤ w ≡ (sx *ℤ w -ℤ x *ℤ sw) *ℤ qw +ℤ (x *ℤ qw -ℤ qx *ℤ w) *ℤ sw
  second_run = ring (qx ∷ qw ∷ sx ∷ sw ∷ x ∷ w ∷ []) (search sides depth 40 fits 20000) tt

  positive : pos 0 <ℤ w → pos 0 <ℤ (rx *ℤ pw -ℤ px *ℤ rw) → pos 0 <ℤ (sx *ℤ qw -ℤ qx *ℤ sw) → pos 0 ≤ℤ (rx *ℤ w -ℤ x *ℤ rw) → pos 0 ≤ℤ (x *ℤ pw -ℤ px *ℤ w) → pos 0 ≤ℤ (sx *ℤ w -ℤ x *ℤ sw) → pos 0 ≤ℤ (x *ℤ qw -ℤ qx *ℤ w) →
      pos 0 <ℤ (qy *ℤ pw -ℤ py *ℤ qw) → pos 0 <ℤ (sy *ℤ pw -ℤ py *ℤ sw) → pos 0 <ℤ (qy *ℤ rw -ℤ ry *ℤ qw) → pos 0 <ℤ (sy *ℤ rw -ℤ ry *ℤ sw) → pos 0 <ℤ between
  positive W F S a b c d ll lh hl hh =
      let f = subst (λ t. pos 0 <ℤ t) first_run (mul_pos F W) in
      let s = subst (λ t. pos 0 <ℤ t) second_run (mul_pos S W) in
      let l = weighted (sx *ℤ w -ℤ x *ℤ sw) (x *ℤ qw -ℤ qx *ℤ w) qw sw (qy *ℤ pw -ℤ py *ℤ qw) (sy *ℤ pw -ℤ py *ℤ sw) c d s ll lh in
      let h = weighted (sx *ℤ w -ℤ x *ℤ sw) (x *ℤ qw -ℤ qx *ℤ w) qw sw (qy *ℤ rw -ℤ ry *ℤ qw) (sy *ℤ rw -ℤ ry *ℤ sw) c d s hl hh in
      cancel_pos {x = between} {k = w} W (subst (λ t. pos 0 <ℤ t) mean (weighted (rx *ℤ w -ℤ x *ℤ rw) (x *ℤ pw -ℤ px *ℤ w) pw rw lower_part upper_part a b f l h))

-- ---- ends by their ordinates
-- how far q is above p, times their weights
abbrev rise : Point → Point → ℤ
rise p q = q.y *ℤ p.w -ℤ p.y *ℤ q.w

risen : (p q : Point) → HasWeight p → HasWeight q → (whole_parts p).y <ℤ (whole_parts q).y → pos 0 <ℤ rise p q
risen p q P Q l = let k = less_ratio p.y p.w q.y q.w P Q l in omega (arith, ints)

pub left_by_whole : (p q : Point) → HasWeight p → HasWeight q → (whole_parts p).x <ℤ (whole_parts q).x → left_of p q ≡ true
unfolding left_of
left_by_whole p q P Q l = lt_yes (p.x *ℤ q.w) (q.x *ℤ p.w) (less_ratio p.x p.w q.x q.w P Q l)

module _ (f e : Edge) where
  -- both ends of e are above both ends of f, and neither is vertical
  pub record AreApart : Type 0 where
    pub f_long : left_of f.low f.high ≡ true
    pub e_long : left_of e.low e.high ≡ true
    pub low_low : pos 0 <ℤ rise f.low e.low
    pub low_high : pos 0 <ℤ rise f.low e.high
    pub high_low : pos 0 <ℤ rise f.high e.low
    pub high_high : pos 0 <ℤ rise f.high e.high

  module _ (h : AreApart) where
    -- so e is above f at each abscissa that both pass
    apart : (t : Point) → HasWeight t → left_of t f.low ≡ false → left_of f.high t ≡ false → left_of t e.low ≡ false → left_of e.high t ≡ false → pos 0 <ℤ gap f e t
    unfolding left_of run side gap
    apart t T a b c d =
        let F = run_positive f h.f_long in
        let E = run_positive e h.e_long in
        positive f.low.x f.low.y f.low.w f.high.x f.high.y f.high.w e.low.x e.low.y e.low.w e.high.x e.high.y e.high.w t.x t.y t.w T F E
        (omega (arith, ints)) (omega (arith, ints)) (omega (arith, ints)) (omega (arith, ints)) h.low_low h.low_high h.high_low h.high_high

    none_higher : (t : Point) → HasWeight t → higher_at e f t ≡ false
    none_higher t T = false_from_ne_true _ (λ k.
        let a = and_parts (in_range e t && in_range f t) _ k in
        let b = and_parts (in_range e t) (in_range f t) a.0 in
        let c = and_parts _ _ b.0 in
        let d = and_parts _ _ b.1 in
        let g = apart t T (not-true _ d.0) (not-true _ d.1) (not-true _ c.0) (not-true _ c.1) in
        let s = gap-swap f e t in
        let l = lt_is (pos 0) (gap e f t) a.1 in
        absurd (omega (arith, ints)))

    -- f isn't above e
    pub not_below : HasWeight f.low → HasWeight f.high → HasWeight e.low → HasWeight e.high → below e f ≡ false
    not_below L H M N = rw (none_higher e.low M, none_higher e.high N, none_higher f.low L, none_higher f.high H) refl

    -- e is above f, where some abscissas are of both
    pub is_below : HasWeight f.low → HasWeight e.low → left_of f.low e.high ≡ true → left_of e.low f.high ≡ true → below f e ≡ true
    is_below L M a b = elim (cases_Bool (left_of e.low f.low)) [
      | inl c ↦ below_from f e f.low (record {
        f_from = left_of-irrefl f.low;
        f_to = left_of-asym f.low f.high h.f_long;
        e_from = left_of-asym e.low f.low c;
        e_to = left_of-asym f.low e.high a;
        f_long = h.f_long;
        e_long = h.e_long;
        f_e = a;
        e_f = b;
      }) (apart f.low L (left_of-irrefl f.low) (left_of-asym f.low f.high h.f_long) (left_of-asym e.low f.low c) (left_of-asym f.low e.high a))
      | inr c ↦ below_from f e e.low (record {
        f_from = c;
        f_to = left_of-asym e.low f.high b;
        e_from = left_of-irrefl e.low;
        e_to = left_of-asym e.low e.high h.e_long;
        f_long = h.f_long;
        e_long = h.e_long;
        f_e = a;
        e_f = b;
      }) (apart e.low M c (left_of-asym e.low f.high b) (left_of-irrefl e.low) (left_of-asym e.low e.high h.e_long))
    ]

-- ---- edges of spans, by their boxes
record AreLess (a b c d : ℤ) : Type 0 where
  first : (a <ℤ c) × (a <ℤ d)
  second : (b <ℤ c) × (b <ℤ d)

less_parts : (a b c d : ℤ) → int_max a b <ℤ int_min c d → AreLess a b c d
less_parts a b c d h = record {
  first = (omega (arith, ints, int_max_is a b, int_min_is c d), omega (arith, ints, int_max_is a b, int_min_is c d));
  second = (omega (arith, ints, int_max_is a b, int_min_is c d), omega (arith, ints, int_max_is a b, int_min_is c d));
}

module _ (s o : Span) (is : IsSpan s) (io : IsSpan o) (own : left_of s.lower s.upper ≡ true) (others : left_of o.lower o.upper ≡ true) where
  spans_apart : int_lt (bounding_box s).greatest.y (bounding_box o).least.y ≡ true → AreApart (edge_of s) (edge_of o)
  spans_apart h =
      let r = less_parts (whole_parts s.lower).y (whole_parts s.upper).y (whole_parts o.lower).y (whole_parts o.upper).y (lt_out _ _ h) in
      let L = is.lower.range.positive in
      let H = is.upper.range.positive in
      let M = io.lower.range.positive in
      let N = io.upper.range.positive in
      record {
        f_long = own;
        e_long = others;
        low_low = risen s.lower o.lower L M r.first.0;
        low_high = risen s.lower o.upper L N r.first.1;
        high_low = risen s.upper o.lower H M r.second.0;
        high_high = risen s.upper o.upper H N r.second.1;
      }

  pub wholly_under : int_lt (bounding_box s).greatest.y (bounding_box o).least.y ≡ true → (left_of s.lower o.upper && left_of o.lower s.upper) ≡ true → below (edge_of s) (edge_of o) ≡ true
  wholly_under h k = let a = and_parts (left_of s.lower o.upper) (left_of o.lower s.upper) k in is_below (edge_of s) (edge_of o) (spans_apart h) is.lower.range.positive io.lower.range.positive a.0 a.1

  pub wholly_over : int_lt (bounding_box s).greatest.y (bounding_box o).least.y ≡ true → below (edge_of o) (edge_of s) ≡ false
  wholly_over h = not_below (edge_of s) (edge_of o) (spans_apart h) is.lower.range.positive is.upper.range.positive io.lower.range.positive io.upper.range.positive
