-- The darts of a plane skeleton in their order: the order tells them apart, and what holds along `next` holds of a cycle's least dart.
use Rattle.std.proofs.Common.{◌≡◌, Bool, true, false, not, refl, sym, ap, ◌∙◌, subst, map, arith, Contains, Ordering, Less, Equal, Greater, is_lt, is_gt}
use Rattle.std.specs.Cmp.{IsTotalOrder}
use Rattle.std.specs.Ordering.{ordering_reverse}
use Rattle.std.proofs.lemmas.Cmp.{then_total, on_total, tied_itself, upto}
use Rattle.std.proofs.lemmas.Int.{ints}
use Rattle.integers.proofs.Classes.{then_equal}
use Rattle.exact_plane.specs.Point.{Point}
use Rattle.exact_plane.specs.PointOrder.{point_cmp}
use Rattle.exact_plane.specs.PointOrderLaws.{point_cmp_total, same_point}
use Rattle.plane_graphs.specs.Ascending.{IsAscending, Member as In}
use Rattle.plane_graphs.specs.Graph.{Edge}
use Rattle.plane_graphs.proofs.Ascending.{IsAscending-ascending, Member-ascending, ascending-Member, from_member}
use Rattle.slab_laws.specs.declared.classes.Link.{Link}
use Rattle.slab_laws.specs.Skeleton.{Skeleton, left_of, lower_than, on_wall, IsPlaneSkeleton}
use Rattle.slab_laws.specs.Darts.{Dart, darts, start, source, target}
use Rattle.slab_laws.specs.Rotation.{dart_cmp, dart_below, same_dart, next}
use Rattle.slab_laws.specs.Cycles.{dart_labels}
use Rattle.slab_laws.specs.Rows.{dart_list, least_dart_of}
use Rattle.slab_faces.proofs.Member.{Member, in_member, map_out}
use Rattle.slab_faces.proofs.ClassesLemmas.{connected, IsEquivalence, IsOrder}
use Rattle.slab_faces.proofs.NextLemmas.{darts_exact, dart_out}
use Rattle.slab_faces.proofs.CyclesLemmas.{one_cycle}

pub dart_cmp_total : IsTotalOrder dart_cmp
dart_cmp_total = then_total (on_total source point_cmp_total) (on_total target point_cmp_total)

-- what comes before, by a total order
module _ {X : Type 0} (cmp : X → X → Ordering) (o : IsTotalOrder cmp) where
  turned : (s : Ordering) → is_lt (ordering_reverse s) ≡ is_gt s
  turned Less = refl
  turned Equal = refl
  turned Greater = refl

  pub less_greater : (x y : X) → is_lt (cmp x y) ≡ is_gt (cmp y x)
  less_greater x y = ap is_lt (o.antisymm x y) ∙ turned (cmp y x)

  not_both : (s : Ordering) → is_lt s ≡ true → is_gt s ≡ false
  not_both Less e = refl
  not_both Equal e = refl
  not_both Greater e = absurd cc

  pub is_order : IsOrder (λ x y. is_lt (cmp x y))
  is_order = record {
    itself = λ x. ap is_lt (tied_itself o x);
    down = λ x y z p q. less_greater x z ∙ upto o z y x (sym (less_greater y z) ∙ q) (sym (less_greater x y) ∙ p);
    asym = λ x y p. less_greater y x ∙ not_both (cmp x y) p;
  }

pub dart_below_order : IsOrder dart_below
dart_below_order = is_order dart_cmp dart_cmp_total

pub lower_both : (p q : Point) → lower_than p q ≡ true → lower_than q p ≡ true → ⊥
unfolding lower_than
lower_both p q h k = omega (arith, ints)

-- a dart and the one that follows
abbrev pub link : Skeleton → Dart → Link Dart
link g d = record { one = d; other = next (darts g) d }

module _ (g : Skeleton) (plane : IsPlaneSkeleton g) where
  -- ---- source and target tell darts apart, since no edge goes back along another
  opposite : (d e : Edge) → Contains g.edges d → Contains g.edges e → d.low ≡ e.high → d.high ≡ e.low → ⊥
  opposite d e D E a b =
      let left : left_of d.low d.high ≡ false = subst (λ z. left_of z d.high ≡ false) (sym a) (subst (λ z. left_of e.high z ≡ false) (sym b) (plane.forward e E)) in
      let right : left_of d.high d.low ≡ false = plane.forward d D in
      let up : lower_than d.low d.high ≡ true = plane.upright d D (rw (left, right) refl) in
      let down : lower_than e.low e.high ≡ true = plane.upright e E (subst (λ z. on_wall z e.high ≡ true) b (subst (λ z. on_wall d.high z ≡ true) a (rw (left, right) refl))) in
      lower_both d.low d.high up (subst (λ z. lower_than z d.low ≡ true) (sym b) (subst (λ z. lower_than e.low z ≡ true) (sym a) down))

  pub one_dart : (d e : Dart) → Contains g.edges d.edge → Contains g.edges e.edge → source d ≡ source e → target d ≡ target e → d ≡ e
  one_dart d e D E a b = go d.edge e.edge d.forward e.forward D E a b
    where
      go : (x y : Edge) (p q : Bool) → Contains g.edges x → Contains g.edges y → start x p ≡ start y q → start x (not p) ≡ start y (not q) → ◌≡◌ {A = Dart} (record { edge = x; forward = p }) (record { edge = y; forward = q })
      go x y true true D E a b = λ i. record { edge = record { low = a i; high = b i }; forward = true }
      go x y false false D E a b = λ i. record { edge = record { low = b i; high = a i }; forward = false }
      go x y true false D E a b = absurd (opposite x y D E a b)
      go x y false true D E a b = absurd (opposite x y D E b a)

  -- darts that the order doesn't tell apart are one
  pub tied_edges : (d e : Dart) → Contains g.edges d.edge → Contains g.edges e.edge → dart_cmp d e ≡ Equal → d ≡ e
  tied_edges d e D E h =
      let t = then_equal (point_cmp (source d) (source e)) (point_cmp (target d) (target e)) h in
      one_dart d e D E (same_point (source d) (source e) t.0) (same_point (target d) (target e) t.1)

  pub tied_darts : (x y : Dart) → In x (darts g) → In y (darts g) → dart_cmp x y ≡ Equal → x ≡ y
  tied_darts x y h k e = tied_edges x y (there x h) (there y k) e
    where
      there : (z : Dart) → In z (darts g) → Contains g.edges z.edge
      there z m = dart_out g z (in_member (darts g) z (from_member (darts g) z m))

  -- ---- the list
  pub list_ascends : IsAscending dart_cmp (dart_list g)
  unfolding dart_list
  list_ascends = IsAscending-ascending dart_cmp dart_cmp_total (darts g)

  pub listed_out : (d : Dart) → In d (dart_list g) → In d (darts g)
  unfolding dart_list
  listed_out d m = Member-ascending dart_cmp dart_cmp_total d (darts g) m

  pub listed_in : (d : Dart) → In d (darts g) → In d (dart_list g)
  unfolding dart_list
  listed_in d m = ascending-Member dart_cmp dart_cmp_total d (darts g) tied_darts m

-- ---- the least dart of a cycle
module _ (g : Skeleton) where
  -- what holds along `next` holds of a dart and the least one of its cycle
  pub along : (R : Dart → Dart → Type 0) → IsEquivalence R → ((d : Dart) → Member (darts g) d → R d (next (darts g) d)) → (d : Dart) → R d (least_dart_of g d)
  unfolding dart_labels
  along R q step d = connected same_dart dart_below darts_exact R q (map (link g) (darts g)) (λ m h. go m (map_out (link g) (darts g) m h)) d
    where
      go : (m : Link Dart) → ((d : Dart) × Member (darts g) d × (link g d ≡ m)) → R m.one m.other
      go m w = subst (λ k. R k.one k.other) w.2 (step w.0 w.1)

  pub lead_lead : (d : Dart) → least_dart_of g (least_dart_of g d) ≡ least_dart_of g d
  lead_lead d = sym (along (λ x y. least_dart_of g x ≡ least_dart_of g y) (record { itself = λ x. refl; back = λ x y h. sym h; on = λ x y z h k. h ∙ k }) (λ x h. one_cycle g x h) d)
