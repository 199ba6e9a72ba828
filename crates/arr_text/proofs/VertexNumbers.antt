-- Vertices are numbered in the order of their points, so their numbers compare as their points do.
use Rattle.std.proofs.Common.{◌≡◌, ℕ, ◌+◌, ◌<◌, zero, suc, take, get_or, arith, false, cond, refl, sym, ap, ◌∙◌, subst, inl, inr, List, [], ◌∷◌, length, Option, Some, None, Ordering, Less, Equal, Greater}
use Rattle.std.specs.Prelude.{slice_get, nat_lt, ◌==◌}
use Rattle.std.specs.Option.{option_map}
use Rattle.std.specs.Ordering.{is_lt, is_eq, nat_cmp, ordering_reverse}
use Rattle.std.specs.List.{position_or_len, slice_index_or}
use Rattle.std.specs.Cmp.{nat_cmp_total}
use Rattle.std.proofs.lemmas.Cmp.{tied_itself}
use Rattle.std.proofs.lemmas.Option.{slice_get-map, slice_get-get_or, slice_get_within, get_or_from_slice_get}
use Rattle.exact_plane.specs.Point.{Point}
use Rattle.exact_plane.specs.PointOrder.{point_cmp}
use Rattle.exact_plane.specs.PointOrderLaws.{point_cmp_total, same_point as one_point}
use Rattle.plane_graphs.specs.Ascending.{IsAscending, Member}
use Rattle.plane_graphs.proofs.Ascending.{IsAscending-ascending}
use Rattle.plane_graphs.proofs.Lists.{in_map}
use Rattle.slab_laws.specs.declared.names.VertexId.{VertexId}
use Rattle.slab_laws.specs.Skeleton.{same_point}
use Rattle.slab_laws.specs.Sound.{IsGraphSound, skeleton_of}
use Rattle.slab_laws.specs.Text.{index, number}
use Rattle.slab_laws.specs.View.{View, HasVertex, point_in}
use Rattle.slab_faces.proofs.Places.{points_exact}
use Rattle.sound_views.specs.Orders.{vertex_order}
use Rattle.sound_views.proofs.ListedPlaces.{from_in, rising_ascending, place_at, place_order, apart_ascending}
use Rattle.sound_views.proofs.NamesOrdered.{vertex_ordered, points_in_order}
use Rattle.record_orders.specs.declared.vertices.VertexKey.{VertexKey}
use Rattle.record_orders.specs.Keys.{vertex_key, vertex_keys}
use Rattle.std.proofs.lemmas.Bool.{cases_lt}
use Rattle.std.proofs.lemmas.Bool.Decides.{nat_tests}
use Rattle.integers.proofs.Tests.{nat_less, nat_more, other_number, same_number}
use Rattle.std.proofs.Math.ListN.{get_or-eq_default}
use Rattle.arr_text.specs.Numbers.{AreApart, TellPlaces, AreNumbers, number_in}

-- ---- numbers
pub less_told : (m n : ℕ) → nat_lt m n ≡ is_lt (nat_cmp m n)
less_told m n = grind (arith, nat_tests)

pub same_told : (m n : ℕ) → (m == n) ≡ is_eq (nat_cmp m n)
same_told m n = grind (arith, nat_tests)

-- ---- places
-- an element stands at some place
placed : {X : Type 0} (x : X) (xs : List X) → Member x xs → (i : ℕ) × (slice_get xs i ≡ Some x)
placed x [] m = absurd m
placed x (y ∷ ys) (inl e) = (0, ap Some (sym e))
placed x (y ∷ ys) (inr m) = let r = placed x ys m in (suc r.0, r.1)

valued : {X Y : Type 0} (f : X → Y) (o : Option X) (y : Y) → option_map f o ≡ Some y → (x : X) × (o ≡ Some x) × (f x ≡ y)
valued f None y e = absurd cc
valued f (Some x) y e = (x, refl, cc)

never_both : (p q : Point) → point_cmp p q ≡ Less → point_cmp q p ≡ Less → ⊥
never_both p q e f = let g : point_cmp q p ≡ Greater = point_cmp_total.antisymm q p ∙ ap ordering_reverse e in cc

-- ---- one more number is written
taken : {X : Type 0} (n : ℕ) (xs : List X) (j : ℕ) (x : X) → slice_get (take n xs) j ≡ Some x → (j < n) × (slice_get xs j ≡ Some x)
taken zero xs j x h = absurd cc
taken (suc n) [] j x h = absurd cc
taken (suc n) (y ∷ ys) zero x h = (omega arith, h)
taken (suc n) (y ∷ ys) (suc j) x h = let r = taken n ys j x h in let l = r.0 in (omega (arith, l), r.1)

in_front : {X : Type 0} (n : ℕ) (xs : List X) (j : ℕ) (x : X) → j < n → slice_get xs j ≡ Some x → slice_get (take n xs) j ≡ Some x
in_front zero xs j x l h = absurd (omega arith)
in_front (suc n) [] j x l h = absurd cc
in_front (suc n) (y ∷ ys) zero x l h = h
in_front (suc n) (y ∷ ys) (suc j) x l h = in_front n ys j x (omega arith) h

pub one_more_told : (ks : List VertexKey) (i : ℕ) (k : VertexKey) (old new : List ℕ) → AreApart ks → i < length ks → k ≡ get_or ks i k → TellPlaces old (take i ks) → ((j : ℕ) → get_or new j 0 ≡ cond (j == k.name.0) (i + 1) (get_or old j 0)) → TellPlaces new (take (i + 1) ks)
one_more_told ks i k old new apart l is told writes j m h =
    let t = taken (i + 1) ks j m h in
    let own : slice_get ks i ≡ Some k = slice_get-get_or ks i k l ∙ ap Some (sym is) in
    let within = t.0 in
    writes m.name.0
    ∙ elim (cases_lt j i) [
      | inl less ↦
          let other : (m.name.0 == k.name.0) ≡ false = other_number m.name.0 k.name.0 (λ e. let same = apart j i m k t.1 own e in omega (arith, less, same)) in
          ap (λ b. cond b (i + 1) (get_or old m.name.0 0)) other ∙ told j m (in_front i ks j m less t.1)
      | inr more ↦
          let same : j ≡ i = omega (arith, within, more) in
          let one : Some m ≡ Some k = sym t.1 ∙ ap (slice_get ks) same ∙ own in
          let key : m ≡ k = cc in
          ap (λ (x : VertexKey). cond (x.name.0 == k.name.0) (i + 1) (get_or old x.name.0 0)) key ∙ ap (λ b. cond b (i + 1) (get_or old k.name.0 0)) (same_number k.name.0) ∙ ap (λ n. n + 1) (sym same)
    ]

-- a number that is no filler stands there
stands : (ns : List ℕ) (i n : ℕ) → get_or ns i 0 ≡ n + 1 → slice_get ns i ≡ Some (n + 1)
stands ns i n e =
    elim (cases_lt i (length ns)) [
      | inl less ↦ slice_get-get_or ns i 0 less ∙ ap Some e
      | inr more ↦ let zero = get_or-eq_default ns 0 more in absurd (omega (arith, e, zero))
    ]

module _ (v : View) (s : IsGraphSound v) where
  abbrev points : List Point
  points = (skeleton_of v).vertices

  ascend : IsAscending point_cmp points
  ascend = IsAscending-ascending point_cmp point_cmp_total _

  -- a vertex's number tells where it stands
  key_index : (i : ℕ) (k : VertexKey) → slice_get (vertex_keys v) i ≡ Some k → number_in v k.name ≡ i + 1
  unfolding index
  key_index i k h =
      let w = valued (vertex_key v) (slice_get (vertex_order v) i) k (sym (slice_get-map (vertex_key v) (vertex_order v) i) ∙ h) in
      let there : slice_get points i ≡ Some (point_in v w.0) = ap (λ qs. slice_get qs i) (sym (points_in_order v s)) ∙ slice_get-map (point_in v) (vertex_order v) i ∙ ap (option_map (point_in v)) w.1 in
      let at : position_or_len (same_point (point_in v w.0)) points ≡ i = place_at same_point points_exact points i (point_in v w.0) (apart_ascending same_point points_exact point_cmp point_cmp_total points ascend) there in
      subst (λ (x : VertexKey). position_or_len (same_point (point_in v x.name)) points + 1 ≡ i + 1) w.2 (ap (λ n. n + 1) at)

  pub names_apart : AreApart (vertex_keys v)
  names_apart i j k m a b e =
      let same : k.name ≡ m.name = λ n. record { 0 = e n } in
      let x = key_index i k a in
      let y = key_index j m b in
      let z = ap (number_in v) same in
      omega (arith, x, y, z)

  pub numbers_told : (ns : List ℕ) → TellPlaces ns (vertex_keys v) → AreNumbers v ns
  numbers_told ns t w has =
      let r = placed w (vertex_order v) (vertex_ordered v s w has) in
      let k : slice_get (vertex_keys v) r.0 ≡ Some (vertex_key v w) = slice_get-map (vertex_key v) (vertex_order v) r.0 ∙ ap (option_map (vertex_key v)) r.1 in
      stands ns w.0 r.0 (t r.0 (vertex_key v w) k) ∙ ap Some (sym (key_index r.0 (vertex_key v w) k))

  -- ---- the order of numbers
  listed : (w : VertexId) → HasVertex v w → Member (point_in v w) points
  listed w has = subst (λ qs. Member (point_in v w) qs) (points_in_order v s) (in_map (point_in v) w (vertex_order v) (vertex_ordered v s w has))

  sooner : (u w : VertexId) → HasVertex v u → HasVertex v w → point_cmp (point_in v u) (point_in v w) ≡ Less → number_in v u < number_in v w
  unfolding index
  sooner u w hu hw e =
      let l = place_order same_point points_exact (λ p q. point_cmp p q ≡ Less) never_both points (point_in v u) (point_in v w) (rising_ascending point_cmp points ascend) (from_in points _ (listed u hu)) (from_in points _ (listed w hw)) e in
      omega (arith, l)

  -- vertices compare by their numbers as by their points
  pub numbers_compare : (u w : VertexId) → HasVertex v u → HasVertex v w → nat_cmp (number_in v u) (number_in v w) ≡ point_cmp (point_in v u) (point_in v w)
  numbers_compare u w hu hw = by (point_cmp (point_in v u) (point_in v w)) refl
    where
      by : (o : Ordering) → point_cmp (point_in v u) (point_in v w) ≡ o → nat_cmp (number_in v u) (number_in v w) ≡ o
      by Less e = nat_less _ _ (sooner u w hu hw e)
      by Equal e = ap (λ p. nat_cmp (index (skeleton_of v) p) (number_in v w)) (one_point (point_in v u) (point_in v w) e) ∙ tied_itself nat_cmp_total (number_in v w)
      by Greater e = nat_more _ _ (sooner w u hw hu (point_cmp_total.antisymm (point_in v w) (point_in v u) ∙ ap ordering_reverse e))

-- ---- a table by names
module _ (v : View) (ns : List ℕ) (a : AreNumbers v ns) (w : VertexId) (has : HasVertex v w) where
  pub number_within : w.0 < length ns
  number_within = slice_get_within ns w.0 (number_in v w) (a w has)

  pub number_is : slice_index_or ns w.0 0 ≡ number_in v w
  number_is = get_or_from_slice_get ns w.0 (number_in v w) 0 (a w has)

  -- the number of a vertex at a point
  pub written_number : (p : Point) → point_in v w ≡ p → number (slice_index_or ns w.0 0) ≡ number (index (skeleton_of v) p)
  written_number p e = ap number (number_is ∙ ap (index (skeleton_of v)) e)
