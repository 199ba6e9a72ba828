-- The region of two closed layers is the border of the set that they make.
use Rattle.std.proofs.Common.{◌≡◌, ℕ, ◌+◌, Bool, true, false, cond, refl, sym, ap, ◌∙◌, subst, List, map, ⊎_elim}
use Rattle.std.specs.declared.cmp.Ordering.TheVariants.{Equal}
use Rattle.std.specs.Prelude.{not, ◌&&◌, ◌||◌, ◌%◌, ◌==◌}
use Rattle.std.specs.List.{Contains, filter}
use lib.Dec.{leb}
use Rattle.plane_graphs.specs.Graph.{Edge}
use Rattle.plane_graphs.specs.Ascending.{Member, ascending}
use Rattle.integers.proofs.Decisions.{or_out}
use Rattle.plane_graphs.proofs.Lists.{IsAscending-filter, or_left, or_right, any_in, any_out, of_filter, in_filter, both_ways, in_left, in_right, in_map, of_map, in_either}
use Rattle.plane_graphs.proofs.Ascending.{IsAscending-ascending, to_member, from_member, Member-ascending, ascending-Member, ascending_is}
use Rattle.slab_laws.specs.declared.slab_cell.SlabCell.{SlabCell}
use Rattle.slab_laws.specs.Skeleton.{Skeleton, same_edge, IsPlaneSkeleton}
use Rattle.slab_laws.specs.Slabs.{spans, place, width}
use Rattle.slab_laws.specs.Weights.{Even, weight_above}
use Rattle.slab_laws.specs.Darts.{Dart, darts, ahead, back}
use Rattle.slab_laws.specs.Rotation.{twin, dart_cmp}
use Rattle.slab_laws.specs.Cycles.{left_of_dart}
use Rattle.slab_laws.specs.Overlay.{both, overlay_skeleton}
use Rattle.slab_faces.proofs.Sums.{each, sum_by-same}
use Rattle.slab_faces.proofs.Slabs.{same_edge_is, same_edge_refl}
use Rattle.slab_faces.proofs.DartOrder.{dart_cmp_total, tied_edges}
use Rattle.overlay_laws.proofs.Both.{both_fit}
use Rattle.overlay_laws.proofs.Labels.{plane_by}
use Rattle.set_laws.specs.declared.op.Op.{Op}
use Rattle.set_laws.specs.declared.op.Op.TheVariants.{Union, Intersection, Difference, Symmetric}
use Rattle.set_laws.specs.PolygonSets.{pieces_along, holds_at, is_border, region}
use Rattle.set_laws.specs.EvenOdd.{odd_above, by_op, op_in, turns_at, border as border_of, has_dart_of, above_in}
use Rattle.set_laws.specs.EvenOddLaws.{IsOfFaces, BorderTellsCells, BorderIsListed}
use Rattle.set_laws.specs.PolygonLaws.{RegionTellsCells, RegionIsListed}
use Rattle.set_laws.proofs.Insides.{top_weight, odd_is, of_faces, even_layer}
use Rattle.set_laws.proofs.PieceEnds.{ends_of_both}
use Rattle.set_laws.proofs.Regions.{IsBorderOf, told}

pub nothing : (op : Op) → by_op op false false ≡ false
nothing Union = refl
nothing Intersection = refl
nothing Difference = refl
nothing Symmetric = refl

-- ---- the darts of the list
module _ (op : Op) (g : Skeleton) (red blue : Edge → ℕ) where
  abbrev inn : SlabCell → Bool
  inn = op_in op g red blue

  abbrev border : Dart → Bool
  border = turns_at op g red blue

  abbrev bounds : List Dart
  bounds = border_of op g red blue

  border_is : (d : Dart) → border d ≡ (inn (left_of_dart g d) && not (inn (left_of_dart g (twin d))))
  unfolding turns_at
  border_is d = refl

  dart_there : (d : Dart) → Member d (darts g) → Contains g.edges d.edge
  dart_there d h =
      ⊎_elim
      (λ a. let w = of_map ahead d g.edges a in from_member g.edges d.edge (subst (λ z. Member z g.edges) (ap (λ (x : Dart). x.edge) (sym w.2)) w.1))
      (λ a. let w = of_map back d g.edges a in from_member g.edges d.edge (subst (λ z. Member z g.edges) (ap (λ (x : Dart). x.edge) (sym w.2)) w.1))
      (in_either d (map ahead g.edges) (map back g.edges) h)

  dart_in : (e : Edge) (f : Bool) → Contains g.edges e → Member (record { edge = e; forward = f }) (darts g)
  dart_in e true E = in_left (ahead e) (map ahead g.edges) (map back g.edges) (in_map ahead e g.edges (to_member g.edges e E))
  dart_in e false E = in_right (back e) (map ahead g.edges) (map back g.edges) (in_map back e g.edges (to_member g.edges e E))

  module _ (plane : IsPlaneSkeleton g) where
    region_out : (d : Dart) → Member d (bounds) → Contains g.edges d.edge × (border d ≡ true)
    unfolding border_of
    region_out d h = let a = of_filter border d (darts g) (Member-ascending dart_cmp dart_cmp_total d (filter border (darts g)) h) in (dart_there d a.0, a.1)

    region_in : (d : Dart) → Member d (darts g) → border d ≡ true → Member d (bounds)
    unfolding border_of
    region_in d h b =
        ascending-Member dart_cmp dart_cmp_total d (filter border (darts g))
        (λ x y i j e. tied_edges g plane x y (dart_there x (of_filter border x (darts g) i).0) (dart_there y (of_filter border y (darts g) j).0) e)
        (in_filter border d (darts g) h b)

    exact : (xs : List Dart) → ((x : Dart) → Member x xs → Member x (darts g)) → (x y : Dart) → Member x xs → Member y xs → dart_cmp x y ≡ Equal → x ≡ y
    exact xs f x y i j e = tied_edges g plane x y (dart_there x (f x i)) (dart_there y (f y j)) e

    listed : bounds ≡ filter border (ascending dart_cmp (darts g))
    unfolding border_of
    listed =
        sym (ascending_is dart_cmp dart_cmp_total (filter border (darts g)) (filter border (ascending dart_cmp (darts g)))
        (exact (filter border (darts g)) (λ x i. (of_filter border x (darts g) i).0))
        (IsAscending-filter dart_cmp border (ascending dart_cmp (darts g)) (IsAscending-ascending dart_cmp dart_cmp_total (darts g)))
        (λ x i. let a = of_filter border x (ascending dart_cmp (darts g)) i in in_filter border x (darts g) (Member-ascending dart_cmp dart_cmp_total x (darts g) a.0) a.1)
        (λ x i. let a = of_filter border x (darts g) i in in_filter border x (ascending dart_cmp (darts g)) (ascending-Member dart_cmp dart_cmp_total x (darts g) (exact (darts g) (λ y j. j)) a.0) a.1))

    either_way : (f : Bool) (e : Edge) → border (record { edge = e; forward = f }) ≡ true → border (ahead e) || border (back e) ≡ true
    either_way true e h = or_left (border (ahead e)) (border (back e)) h
    either_way false e h = or_right (border (ahead e)) (border (back e)) h

    has_dart : (e : Edge) → Contains g.edges e → has_dart_of (bounds) e ≡ (border (ahead e) || border (back e))
    has_dart e E =
        both_ways (has_dart_of (bounds) e) (border (ahead e) || border (back e))
        (λ h.
        let w = any_out (λ d. same_edge d.edge e) (bounds) h in
        let q : w.0.edge ≡ e = same_edge_is w.0.edge e w.2 in
        either_way w.0.forward e (subst (λ z. border (record { edge = z; forward = w.0.forward }) ≡ true) q (region_out w.0 w.1).1))
        (λ h.
        ⊎_elim
        (λ a. any_in (λ d. same_edge d.edge e) (ahead e) (bounds) (region_in (ahead e) (dart_in e true E) a) (same_edge_refl e))
        (λ a. any_in (λ d. same_edge d.edge e) (back e) (bounds) (region_in (back e) (dart_in e false E) a) (same_edge_refl e))
        (or_out (border (ahead e)) (border (back e)) h))

    -- how many darts of the edge are in the region
    abbrev m : Edge → ℕ
    m e = cond (has_dart_of (bounds) e) 1 0

    changes : (e : Edge) → Contains g.edges e → Even (m e + cond (inn (left_of_dart g (ahead e))) 1 0 + cond (inn (left_of_dart g (back e))) 1 0)
    changes e E = rw (has_dart e E, border_is (ahead e), border_is (back e)) (differ (inn (left_of_dart g (ahead e))) (inn (left_of_dart g (back e))))
      where
        differ : (u d : Bool) → Even (cond ((u && not d) || (d && not u)) 1 0 + cond u 1 0 + cond d 1 0)
        differ true true = refl
        differ true false = refl
        differ false true = refl
        differ false false = refl

    above_is : (c : SlabCell) → above_in g (bounds) c ≡ weight_above g m c.slab c.place
    unfolding above_in
    above_is c = sum_by-same _ _ g.edges (each (λ e. cond {A = ℕ} ((spans g c.slab e && leb c.place (place g c.slab e)) && has_dart_of (bounds) e) 1 0 ≡ cond (spans g c.slab e && leb c.place (place g c.slab e)) (m e) 0) g.edges (λ e _. nested (spans g c.slab e && leb c.place (place g c.slab e)) (has_dart_of (bounds) e)))
      where
        nested : (a b : Bool) → cond {A = ℕ} (a && b) 1 0 ≡ cond a (cond b 1 0) 0
        nested true b = refl
        nested false b = refl

    inn_is : (c : SlabCell) → inn c ≡ by_op op (odd_above g red c) (odd_above g blue c)
    unfolding op_in
    inn_is c = refl

    is_region : IsOfFaces g red → IsOfFaces g blue → IsBorderOf g inn m
    is_region r b = record {
      respects = λ c d h. inn_is c ∙ (λ i. by_op op (r.one_face c d h i) (b.one_face c d h i)) ∙ sym (inn_is d);
      top = λ i. inn_is (record { slab = i; place = width g i }) ∙ (λ j. by_op op (none red i j) (none blue i j)) ∙ nothing op;
      changes = changes;
    }
      where
        none : (m : Edge → ℕ) (i : ℕ) → odd_above g m (record { slab = i; place = width g i }) ≡ false
        none m i = unfold odd_above in ap (λ n. n % 2 == 1) (top_weight g m i plane)

pub border_tells_cells : BorderTellsCells
border_tells_cells op g red blue c plane er eb in' =
    let t = told g (op_in op g red blue) (m op g red blue plane) plane (is_region op g red blue plane (of_faces g red plane er) (of_faces g blue plane eb)) c in' in
    ap (λ n. n % 2 == 1) (above_is op g red blue plane c) ∙ odd_is (weight_above g (m op g red blue plane) c.slab c.place) (op_in op g red blue c) t

pub border_is_listed : BorderIsListed
border_is_listed op g red blue plane = listed op g red blue plane

-- ---- of two layers
pub region_tells_cells : RegionTellsCells
unfolding region holds_at
region_tells_cells op red blue c fr fb cr cb in' =
    let f = both_fit red blue fr fb in
    let t = ends_of_both red blue fr fb in
    border_tells_cells op (overlay_skeleton red blue) (pieces_along red) (pieces_along blue) c (plane_by (both red blue) f) (even_layer red (both red blue) f t.0 cr) (even_layer blue (both red blue) f t.1 cb) in'

pub region_is_listed : RegionIsListed
unfolding region is_border
region_is_listed op red blue fr fb = border_is_listed op (overlay_skeleton red blue) (pieces_along red) (pieces_along blue) (plane_by (both red blue) (both_fit red blue fr fb))
