-- Of the darts in their order, the first of each cycle is its least.
use Rattle.std.proofs.Common.{◌≡◌, Bool, true, false, ap, ◌∙◌, sym, subst, refl, Ordering, Less, Equal, Greater, is_lt}
use Rattle.std.specs.Prelude.{filter}
use Rattle.std.specs.Ordering.{ordering_reverse}
use Rattle.plane_graphs.specs.Ascending.{Member as In}
use Rattle.plane_graphs.proofs.Ascending.{ascending_is}
use Rattle.plane_graphs.proofs.Lists.{of_filter, in_filter, clash}
use Rattle.slab_laws.specs.Skeleton.{Skeleton, IsPlaneSkeleton}
use Rattle.slab_laws.specs.Darts.{Dart, darts}
use Rattle.slab_laws.specs.Rotation.{dart_cmp, dart_below, same_dart}
use Rattle.slab_laws.specs.Cycles.{leads}
use Rattle.slab_laws.specs.Listed.{distinct}
use Rattle.slab_laws.specs.Rows.{dart_list, least_dart_of, lead_list}
use Rattle.slab_faces.proofs.NextLemmas.{darts_exact}
use Rattle.sound_views.specs.FaceOrderLaws.{same_cycle, LeadsAreFirst}
use Rattle.sound_views.proofs.FirstDarts.{of_distinct}
use Rattle.sound_views.proofs.FacesAscend.{distinct_ascends, none_before, first_there}
use Rattle.slab_faces.proofs.DartOrder.{dart_cmp_total, tied_darts, list_ascends, listed_out, listed_in, lead_lead}
use Rattle.sound_views.proofs.CycleDartOrder.{lead_not_after, lead_in}

module _ (g : Skeleton) (plane : IsPlaneSkeleton g) where
  -- the dart is the least of its cycle
  abbrev is_lead : Dart → Bool
  is_lead d = same_dart d (least_dart_of g d)

  -- the first of a cycle is its least: the least doesn't come before it, nor after it
  first_is_lead : (d : Dart) → In d (distinct (same_cycle g) (dart_list g)) → is_lead d ≡ true
  first_is_lead d m =
      let l = least_dart_of g d in
      let D = listed_out g plane d (of_distinct (same_cycle g) d (dart_list g) m) in
      let L = lead_in g plane d D in
      let same : same_cycle g l d ≡ true = subst (λ k. same_dart k l ≡ true) (sym (lead_lead g d)) (darts_exact.itself l) in
      step (dart_cmp d l) refl
      (λ e. subst (λ k. same_dart d k ≡ true) (tied_darts g plane d l D L e) (darts_exact.itself d))
      (λ e. absurd (none_before dart_cmp dart_cmp_total (same_cycle g) (dart_list g) (list_ascends g plane) d l m (listed_in g plane l L) same e))
    where
      step : (o : Ordering) → dart_cmp d (least_dart_of g d) ≡ o → (dart_cmp d (least_dart_of g d) ≡ Equal → is_lead d ≡ true) → (dart_cmp (least_dart_of g d) d ≡ Less → is_lead d ≡ true) → is_lead d ≡ true
      step Less e f h = clash (ap is_lt e) (lead_not_after g d)
      step Equal e f h = f e
      step Greater e f h = h (dart_cmp_total.antisymm (least_dart_of g d) d ∙ ap ordering_reverse e)

  -- and the least comes first
  lead_is_first : (d : Dart) → In d (darts g) → is_lead d ≡ true → In d (distinct (same_cycle g) (dart_list g))
  lead_is_first d m own =
      first_there dart_cmp dart_cmp_total (same_cycle g) (dart_list g) (list_ascends g plane) d (listed_in g plane d m)
      (λ e _ same less.
      let k : least_dart_of g e ≡ d = darts_exact.path (least_dart_of g e) (least_dart_of g d) same ∙ sym (darts_exact.path d (least_dart_of g d) own) in
      clash (ap is_lt less) (subst (λ x. dart_below e x ≡ false) k (lead_not_after g e)))

  first_leads : distinct (same_cycle g) (dart_list g) ≡ lead_list g
  unfolding leads
  first_leads =
      ascending_is dart_cmp dart_cmp_total (filter is_lead (darts g)) (distinct (same_cycle g) (dart_list g))
      (λ x y m n e. tied_darts g plane x y (of_filter is_lead x (darts g) m).0 (of_filter is_lead y (darts g) n).0 e)
      (distinct_ascends dart_cmp dart_cmp_total (same_cycle g) (dart_list g) (list_ascends g plane))
      (λ x m. in_filter is_lead x (darts g) (listed_out g plane x (of_distinct (same_cycle g) x (dart_list g) m)) (first_is_lead x m))
      (λ x m. let r = of_filter is_lead x (darts g) m in lead_is_first x r.0 r.1)

pub leads_are_first : LeadsAreFirst
leads_are_first g plane = first_leads g plane
