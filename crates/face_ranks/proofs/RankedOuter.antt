-- The faces by rank: the first, and then the faces of the outer cycles, each by the least dart of the cycle.
use Rattle.std.proofs.Common.{◌≡◌, ℕ, ◌<◌, Bool, true, false, arith, refl, sym, ap, ◌∙◌, subst, ◌⊎◌, inl, inr, List, [], ◌∷◌, ◌++◌, map, Ordering, Less, Equal, Greater, is_lt}
use Rattle.std.specs.Prelude.{filter, None}
use Rattle.std.specs.Cmp.{IsTotalOrder}
use Rattle.std.specs.Option.{option_map}
use Rattle.std.specs.Ordering.{ordering_reverse}
use Rattle.std.proofs.lemmas.Bool.{eqb-true, eq-eqb, false_from_ne_true}
use Rattle.std.proofs.lemmas.Cmp.{on_total}
use Rattle.plane_graphs.specs.Ascending.{Member, IsAscending}
use Rattle.plane_graphs.proofs.Ascending.{to_member, from_member, All-member, IsAscending-ascending}
use Rattle.plane_graphs.proofs.Lists.{clash, of_map, of_filter, in_filter, IsAscending-filter}
use Rattle.slab_laws.specs.declared.names.CycleId.{CycleId}
use Rattle.slab_laws.specs.declared.names.CycleKind.{CycleKind}
use Rattle.slab_laws.specs.declared.names.CycleKind.TheVariants.{Outer}
use Rattle.slab_laws.specs.declared.names.DartId.{DartId}
use Rattle.slab_laws.specs.declared.names.FaceId.{FaceId}
use Rattle.slab_laws.specs.Darts.{Dart}
use Rattle.slab_laws.specs.FacesSound.{lead_in, IsSound, IsOuterOf}
use Rattle.slab_laws.specs.Kinds.{is_outer}
use Rattle.slab_laws.proofs.KindLemmas.{outer_kind}
use Rattle.slab_laws.specs.Listed.{distinct}
use Rattle.slab_laws.specs.Rotation.{dart_cmp, dart_below}
use Rattle.slab_laws.specs.Rows.{least_dart_of}
use Rattle.slab_laws.specs.Skeleton.{Skeleton}
use Rattle.slab_laws.specs.Sound.{skeleton_of, dart_in}
use Rattle.slab_laws.specs.Tables.{name_after, names, NamesAscend}
use Rattle.slab_laws.specs.View.{View, Faces, HasDart, HasFace, cycle_in, kind_in, face_in, dart_id, face_id}
use Rattle.slab_faces.proofs.DartOrder.{dart_cmp_total, tied_darts, lead_lead}
use Rattle.face_changes.specs.FacesByPairs.{first_or}
use Rattle.sound_views.specs.Orders.{dart_order}
use Rattle.sound_views.proofs.CycleDartOrder.{lead_not_after}
use Rattle.sound_views.proofs.CycleDartOrder.{lead_in as lead_there}
use Rattle.sound_views.proofs.FacesAscend.{distinct_ascends, none_before, first_there}
use Rattle.sound_views.proofs.FirstDarts.{of_distinct}
use Rattle.sound_views.proofs.ListedPlaces.{Rising, rising_map, rising_ascending, to_in}
use Rattle.sound_views.proofs.NamedDarts.{names_are_darts}
use Rattle.sound_views.proofs.NamesOrdered.{dart_ordered, ordered_dart}
use Rattle.record_orders.specs.CycleKeys.{same_cycle, cycle_key, same_face, first_faces, ranked_faces, cycle_keys}
use Rattle.face_changes.proofs.FacesByPairs.{by_number}
use Rattle.face_steps.proofs.CyclesApart.{cycle_by_number}
use Rattle.face_ranks.proofs.AscendingPlaces.{distinct_all, map_filter_map}

pub outer_in : (k : CycleKind) → k ≡ Outer → is_outer k ≡ true
outer_in k e = ap is_outer e

-- the dart is the least of a cycle, which bounds the face from outside (CGAL manual, outer boundary of a face)
pub record IsLeadOf (v : View) (f : Faces) (a : FaceId) (d : DartId) : Type 0 where
  pub has : HasDart v d
  pub outer : IsOuterOf f a (cycle_in f d)
  pub least : dart_in v d ≡ lead_in v d

-- ---- the first of ascending names is the least
pub first_least : (ns : List ℕ) → NamesAscend ns → (m : ℕ) → Member m ns → Member (first_or ns).0 ns × ((m ≡ (first_or ns).0) ⊎ ((first_or ns).0 < m))
first_least [] a m h = absurd h
first_least (n ∷ ns) a m (inl e) = (inl refl, inl e)
first_least (n ∷ ns) a m (inr h) = (inl refl, inr (All-member (λ k. n < k) m ns a.0 h))

first_after : (ns : List ℕ) (m : ℕ) → Member m ns → first_faces (option_map face_id (name_after ns None)) ≡ first_or ns ∷ []
unfolding name_after
first_after [] m h = absurd h
first_after (n ∷ ns) m h = refl

-- ---- two elements of an ascending list
module _ {X : Type 0} (cmp : X → X → Ordering) where
  pub data Compared (x y : X) : Type 0 where
    same : x ≡ y → Compared x y
    less : cmp x y ≡ Less → Compared x y
    more : cmp y x ≡ Less → Compared x y

  pub compared : (xs : List X) → IsAscending cmp xs → (x y : X) → Member x xs → Member y xs → Compared x y
  compared [] a x y m n = absurd m
  compared (z ∷ zs) a x y (inl e) (inl f) = same (e ∙ sym f)
  compared (z ∷ zs) a x y (inl e) (inr n) = less (subst (λ w. cmp w y ≡ Less) (sym e) (All-member (λ w. cmp z w ≡ Less) y zs a.0 n))
  compared (z ∷ zs) a x y (inr m) (inl f) = more (subst (λ w. cmp w x ≡ Less) (sym f) (All-member (λ w. cmp z w ≡ Less) x zs a.0 m))
  compared (z ∷ zs) a x y (inr m) (inr n) = compared zs a.1 x y m n

module _ (v : View) where
  -- by source, then by target
  abbrev pub by_ends : DartId → DartId → Ordering
  by_ends d e = dart_cmp (dart_in v d) (dart_in v e)

  pub ends_total : IsTotalOrder by_ends
  ends_total = on_total (dart_in v) dart_cmp_total

  order_ascends : IsAscending by_ends (dart_order v)
  unfolding dart_order
  order_ascends = IsAscending-ascending by_ends ends_total (map dart_id (names v.darts))

module _ (v : View) (f : Faces) (s : IsSound v f) where
  abbrev g : Skeleton
  g = skeleton_of v

  -- the first dart of each cycle
  abbrev pub firsts : List DartId
  firsts = distinct (same_cycle f) (dart_order v)

  abbrev pub is_of_outer : DartId → Bool
  is_of_outer d = is_outer (kind_in f (cycle_in f d))

  abbrev pub face_beside : DartId → FaceId
  face_beside d = face_in f (cycle_in f d)

  -- those of outer cycles
  abbrev pub outers : List DartId
  outers = filter is_of_outer firsts

  first_has : (d : DartId) → Member d firsts → HasDart v d
  first_has d m = ordered_dart v s.graph d (of_distinct (same_cycle f) d (dart_order v) m)

  firsts_ascend : IsAscending (by_ends v) firsts
  firsts_ascend = distinct_ascends (by_ends v) (ends_total v) (same_cycle f) (dart_order v) (order_ascends v)

  pub outers_ascend : IsAscending (by_ends v) outers
  outers_ascend = IsAscending-filter (by_ends v) is_of_outer firsts firsts_ascend

  on_one : (d e : DartId) → cycle_in f d ≡ cycle_in f e → same_cycle f d e ≡ true
  on_one d e h = eq-eqb (cycle_in f d).0 (cycle_in f e).0 (ap (λ (c : CycleId). c.0) h)

  -- ---- the first dart of a cycle is its least
  pub least_first : (d : DartId) → Member d firsts → dart_in v d ≡ lead_in v d
  least_first d m =
      let D = first_has d m in
      let H = to_member _ _ (names_are_darts.known v d s.graph D) in
      let L = lead_there g s.graph.plane (dart_in v d) H in
      let k = names_are_darts.there v (lead_in v d) s.graph (from_member _ _ L) in
      let one : lead_in v k.0 ≡ lead_in v d = ap (least_dart_of g) k.2 ∙ lead_lead g (dart_in v d) in
      let none = none_before (by_ends v) (ends_total v) (same_cycle f) (dart_order v) (order_ascends v) d k.0 m (dart_ordered v s.graph k.0 k.1) (on_one k.0 d ((s.cycled.orbits k.0 d k.1 D).1 one)) in
      step (dart_cmp (dart_in v d) (lead_in v d)) refl (λ e. tied_darts g s.graph.plane (dart_in v d) (lead_in v d) H L e) (λ e. none (subst (λ (h : Dart). dart_cmp h (dart_in v d) ≡ Less) (sym k.2) e))
    where
      step : (o : Ordering) → dart_cmp (dart_in v d) (lead_in v d) ≡ o → (dart_cmp (dart_in v d) (lead_in v d) ≡ Equal → dart_in v d ≡ lead_in v d) → (dart_cmp (lead_in v d) (dart_in v d) ≡ Less → ⊥) → dart_in v d ≡ lead_in v d
      step Less e f h = clash (ap is_lt e) (lead_not_after g (dart_in v d))
      step Equal e f h = f e
      step Greater e f h = absurd (h (dart_cmp_total.antisymm (lead_in v d) (dart_in v d) ∙ ap ordering_reverse e))

  first_least_dart : (d : DartId) → HasDart v d → dart_in v d ≡ lead_in v d → Member d firsts
  first_least_dart d D own =
      first_there (by_ends v) (ends_total v) (same_cycle f) (dart_order v) (order_ascends v) d (dart_ordered v s.graph d D)
      (λ y m same less.
      let Y = ordered_dart v s.graph y m in
      let one = (s.cycled.orbits y d Y D).0 (cycle_by_number (cycle_in f y) (cycle_in f d) (eqb-true (cycle_in f y).0 (cycle_in f d).0 same)) in
      clash (ap is_lt less) (subst (λ (h : Dart). dart_below (dart_in v y) h ≡ false) (one ∙ sym own) (lead_not_after g (dart_in v y))))

  -- ---- the first face, and the bounded ones
  abbrev pub first : FaceId
  first = first_or f.faces

  -- a face is the first, and no cycle bounds it from outside, or one cycle alone does
  pub data Bound (a : FaceId) : Type 0 where
    unbounded : a ≡ first → ((c : CycleId) → ¬ IsOuterOf f a c) → Bound a
    bounded : (c : CycleId) → IsOuterOf f a c → ((e : CycleId) → IsOuterOf f a e → e ≡ c) → Bound a

  pub first_has_face : (a : FaceId) → HasFace f a → HasFace f first
  first_has_face a has = from_member f.faces first.0 (first_least f.faces s.complete.faces_ascend a.0 (to_member f.faces a.0 has)).0

  none_less : (b : FaceId) → HasFace f b → b.0 < first.0 → ⊥
  none_less b B l = not_less (first_least f.faces s.complete.faces_ascend b.0 (to_member f.faces b.0 B)).1
    where
      not_less : (b.0 ≡ first.0) ⊎ (first.0 < b.0) → ⊥
      not_less (inl e) = absurd (omega arith)
      not_less (inr k) = absurd (omega arith)

  pub no_outer_first : (c : CycleId) → ¬ IsOuterOf f first c
  no_outer_first c o = (s.faced.1.unbounded first (subst (HasFace f) o.1 (s.complete.face_has c o.0)) none_less).1 c o

  pub bound : (a : FaceId) → HasFace f a → Bound a
  bound a has = by (first_least f.faces s.complete.faces_ascend a.0 (to_member f.faces a.0 has)).1
    where
      by : (a.0 ≡ first.0) ⊎ (first.0 < a.0) → Bound a
      by (inl e) = unbounded (by_number a first e) (λ c o. no_outer_first c (subst (λ x. IsOuterOf f x c) (by_number a first e) o))
      by (inr l) = let r = s.faced.1.bounded a first has (first_has_face a has) l in bounded r.0 r.1 r.2

  pub one_outer : (a : FaceId) (c e : CycleId) → IsOuterOf f a c → IsOuterOf f a e → c ≡ e
  one_outer a c e C E = by (bound a (subst (HasFace f) C.1 (s.complete.face_has c C.0)))
    where
      by : Bound a → c ≡ e
      by (unbounded i n) = absurd (n c C)
      by (bounded b B u) = u c C ∙ sym (u e E)

  -- ---- the darts of outer cycles
  pub outer_lead : (d : DartId) → Member d outers → IsLeadOf v f (face_beside d) d
  outer_lead d m =
      let r = of_filter is_of_outer d firsts m in
      let D = first_has d r.0 in
      record { has = D; outer = (s.complete.cycle_has d D, refl, outer_kind (kind_in f (cycle_in f d)) r.1); least = least_first d r.0 }

  pub lead_listed : (a : FaceId) (d : DartId) → IsLeadOf v f a d → Member d outers
  lead_listed a d l = in_filter is_of_outer d firsts (first_least_dart d l.has l.least) (outer_in (kind_in f (cycle_in f d)) l.outer.2)

  -- ---- the ranked faces
  after_first : (b : FaceId) → ((d : DartId) × Member d outers × (b ≡ face_beside d)) → same_face first b ≡ false
  after_first b r =
      let l = outer_lead r.0 r.1 in
      false_from_ne_true _ (λ t. no_outer_first (cycle_in f r.0) (subst (λ x. IsOuterOf f x (cycle_in f r.0)) (sym r.2 ∙ sym (by_number first b (eqb-true first.0 b.0 t))) l.outer))

  apart : (d e : DartId) → Member d outers → Member e outers → by_ends v d e ≡ Less → same_face (face_beside d) (face_beside e) ≡ false
  apart d e M N l =
      false_from_ne_true _ (λ t.
      let L = outer_lead d M in
      let K = outer_lead e N in
      let h = by_number (face_beside d) (face_beside e) (eqb-true (face_beside d).0 (face_beside e).0 t) in
      none_before (by_ends v) (ends_total v) (same_cycle f) (dart_order v) (order_ascends v) e d (of_filter is_of_outer e firsts N).0 (dart_ordered v s.graph d L.has)
      (on_one d e (one_outer (face_beside e) (cycle_in f d) (cycle_in f e) (subst (λ x. IsOuterOf f x (cycle_in f d)) h L.outer) K.outer)) l)

  -- no two are one
  pub ranked_rises : (a : FaceId) → HasFace f a → Rising (λ b c. same_face b c ≡ false) (first ∷ map face_beside outers)
  ranked_rises a has = (
    λ b m. after_first b (of_map face_beside b outers (to_in (map face_beside outers) b m)),
    rising_map (λ d e. by_ends v d e ≡ Less) (λ b c. same_face b c ≡ false) face_beside outers (λ d e M N l. apart d e (to_in outers d M) (to_in outers e N) l) (rising_ascending (by_ends v) outers outers_ascend),
  )

  pub ranked_are : (a : FaceId) → HasFace f a → ranked_faces f (cycle_keys f (dart_order v)) ≡ first ∷ map face_beside outers
  ranked_are a has =
      ap (λ fs. distinct same_face (fs ++ map (λ c. c.face) (filter (λ c. is_outer c.kind) (cycle_keys f (dart_order v))))) (first_after f.faces a.0 (to_member f.faces a.0 has))
      ∙ ap (λ (fs : List FaceId). distinct same_face (first ∷ fs)) (map_filter_map (cycle_key f) (λ c. is_outer c.kind) (λ c. c.face) firsts)
      ∙ distinct_all same_face (first ∷ map face_beside outers) (ranked_rises a has)

  pub ranked_has : (a b : FaceId) → HasFace f a → Member b (first ∷ map face_beside outers) → HasFace f b
  ranked_has a b A (inl e) = subst (HasFace f) (sym e) (first_has_face a A)
  ranked_has a b A (inr m) =
      let r = of_map face_beside b outers m in
      subst (HasFace f) (sym r.2) (s.complete.face_has (cycle_in f r.0) (outer_lead r.0 r.1).outer.0)
