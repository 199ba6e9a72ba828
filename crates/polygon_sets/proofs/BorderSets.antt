-- A set of faces with nothing outside is the even-odd set of its own border's plane graph: it is on the same sides of the border's edges, so the same darts bound it.
use Rattle.std.proofs.Common.{◌≡◌, ℕ, ◌+◌, Bool, true, false, cond, arith, refl, sym, ap, ◌∙◌, List}
use Rattle.std.specs.Prelude.{not, ◌&&◌, ◌||◌, ◌%◌, ◌==◌}
use Rattle.std.specs.List.{Contains, filter, sum_by}
use Rattle.std.proofs.lemmas.Bool.{false≢true, or_left, or_right}
use Rattle.plane_graphs.specs.Ascending.{Member}
use Rattle.plane_graphs.specs.Graph.{Edge}
use Rattle.plane_graphs.proofs.Ascending.{to_member, from_member, ascending_unique}
use Rattle.plane_graphs.proofs.Lists.{in_filter, of_filter, IsAscending-filter}
use Rattle.slab_laws.specs.declared.slab_cell.SlabCell.{SlabCell}
use Rattle.slab_laws.specs.Skeleton.{Skeleton, left_of, same_point, IsPlaneSkeleton}
use Rattle.slab_laws.specs.Slabs.{width}
use Rattle.slab_laws.specs.Meets.{SameFace}
use Rattle.slab_laws.specs.Weights.{Even, at_end, weight_above, IsEvenAtVertices}
use Rattle.slab_laws.specs.Darts.{Dart, darts, cell_of, ahead, back}
use Rattle.slab_laws.specs.Rotation.{twin, dart_cmp, same_dart, next}
use Rattle.slab_laws.specs.Rows.{dart_list}
use Rattle.slab_laws.specs.Cycles.{left_of_dart}
use Rattle.slab_laws.specs.Faces.{cells}
use Rattle.slab_faces.proofs.Sums.{each, even_sum, sum_by-plus}
use Rattle.slab_faces.proofs.Shift.{tally, darts_on, handshake}
use Rattle.slab_faces.proofs.CyclesLemmas.{is_set, one_to_one}
use Rattle.slab_faces.proofs.DartOrder.{dart_cmp_total, list_ascends, listed_in, listed_out}
use Rattle.slab_faces.proofs.ListedCells.{dart_cell}
use Rattle.slab_faces.proofs.Member.{member_in, in_member}
use Rattle.slab_faces.proofs.NextLemmas.{dart_in, dart_out, next_from, next_keeps_face}
use Rattle.set_laws.specs.EvenOdd.{odd_above}
use Rattle.set_laws.specs.EvenOddLaws.{IsOfFaces}
use Rattle.set_laws.proofs.Insides.{odd_is, of_faces}
use Rattle.set_laws.proofs.Regions.{IsBorderOf, told}
use Rattle.polygon_sets.proofs.BorderGraphs.{sum_by-filter, one, own, part, part_out, part_in, part_plane, above_ahead}

-- the set is on the left of the dart, and isn't on its right
abbrev pub is_side : (SlabCell → Bool) → Skeleton → Dart → Bool
is_side p g d = p (left_of_dart g d) && not (p (left_of_dart g (twin d)))

module _ (g : Skeleton) (inn : SlabCell → Bool) where
  abbrev up : Edge → Bool
  up e = inn (left_of_dart g (ahead e))

  abbrev down : Edge → Bool
  down e = inn (left_of_dart g (back e))

  -- the set is on one side of the edge alone
  abbrev pub changes : Edge → Bool
  changes e = (inn (left_of_dart g (ahead e)) && not (inn (left_of_dart g (back e)))) || (inn (left_of_dart g (back e)) && not (inn (left_of_dart g (ahead e))))

  -- the plane graph of the border
  abbrev pub border_graph : Skeleton
  border_graph = part g changes

  module _ (plane : IsPlaneSkeleton g) (one_face : (c d : SlabCell) → SameFace g c d → inn c ≡ inn d) (top : (i : ℕ) → inn (record { slab = i; place = width g i }) ≡ false) where
    pub flat : IsPlaneSkeleton border_graph
    flat = part_plane g changes plane

    -- ---- even round each vertex
    sides_even : IsEvenAtVertices g (darts_on (λ d. inn (left_of_dart g d)))
    sides_even =
        handshake g same_dart (next (darts g)) (λ d. inn (left_of_dart g d)) (is_set g plane) (one_to_one g plane)
        (λ d h.
        let E = dart_out g d (in_member (darts g) d h) in
        ((next_from g d plane E).at, sym (one_face (left_of_dart g d) (left_of_dart g (next (darts g) d)) (next_keeps_face g d plane E))))

    -- an edge with the set on one side weighs as much as the darts that have it on their left
    term : (a b l u : Bool) → Even (cond {A = ℕ} ((a && not b) || (b && not a)) (cond l 1 0 + cond u 1 0) 0 + (cond l (tally a + tally b) 0 + cond u (tally a + tally b) 0))
    term true true true true = refl
    term true true true false = refl
    term true true false true = refl
    term true true false false = refl
    term true false true true = refl
    term true false true false = refl
    term true false false true = refl
    term true false false false = refl
    term false true true true = refl
    term false true true false = refl
    term false true false true = refl
    term false true false false = refl
    term false false true true = refl
    term false false true false = refl
    term false false false true = refl
    term false false false false = refl

    pub even : IsEvenAtVertices border_graph one
    even = record {
      even_at = λ v V.
          let sides : Edge → ℕ = darts_on (λ d. inn (left_of_dart g d)) in
          let x = sum_by-filter changes (at_end one v) g.edges in
          let y = sum_by-plus (λ e. cond (changes e) (at_end one v e) 0) (at_end sides v) g.edges in
          let z : Even (sum_by (λ e. cond (changes e) (at_end one v e) 0 + at_end sides v e) g.edges) = even_sum (λ e. cond (changes e) (at_end one v e) 0 + at_end sides v e) g.edges (each (λ e. Even (cond (changes e) (at_end one v e) 0 + at_end sides v e)) g.edges (λ e E. term (up e) (down e) (same_point e.low v) (same_point e.high v))) in
          let w = sides_even.even_at v V in
          omega arith;
    }

    pub faces : IsOfFaces border_graph one
    faces = of_faces border_graph one flat even

    -- ---- the same sides
    differ : (u d : Bool) → Even (cond {A = ℕ} ((u && not d) || (d && not u)) 1 0 + cond u 1 0 + cond d 1 0)
    differ true true = refl
    differ true false = refl
    differ false true = refl
    differ false false = refl

    is_border : IsBorderOf g inn (own changes)
    is_border = record { respects = one_face; top = top; changes = λ e E. differ (up e) (down e) }

    by_ahead : (e : Edge) → Contains border_graph.edges e → odd_above border_graph one (left_of_dart border_graph (ahead e)) ≡ up e
    unfolding odd_above
    by_ahead e E =
        let w = above_ahead g changes plane e E (left_of e.low e.high) refl in
        let c = left_of_dart g (ahead e) in
        let t = told g inn (own changes) plane is_border c (member_in (cells g) c (dart_cell g plane e true (part_out g changes e E).0)) in
        ap (λ n. n % 2 == 1) w ∙ odd_is (weight_above g (own changes) c.slab c.place) (inn c) t

    other : (x y u d : Bool) → x ≡ u → ((u && not d) || (d && not u)) ≡ true → (x ≡ y → ⊥) → y ≡ d
    other x true u true e h k = refl
    other x false u false e h k = refl
    other x true true false e h k = absurd (k e)
    other x true false false e h k = absurd (false≢true h)
    other x false true true e h k = absurd (false≢true h)
    other x false false true e h k = absurd (k e)

    odd_one : Even 1 → ⊥
    odd_one h = omega arith

    by_back : (e : Edge) → Contains border_graph.edges e → odd_above border_graph one (left_of_dart border_graph (back e)) ≡ down e
    by_back e E = other (odd_above border_graph one (left_of_dart border_graph (ahead e))) (odd_above border_graph one (left_of_dart border_graph (back e))) (up e) (down e) (by_ahead e E) (part_out g changes e E).1 (λ s. odd_one ((faces.across e E).1 s))

    pub same_side : (e : Edge) (f : Bool) → Contains border_graph.edges e → odd_above border_graph one (cell_of border_graph e f) ≡ inn (cell_of g e f)
    same_side e true E = by_ahead e E
    same_side e false E = by_back e E

    -- ---- the same darts
    bounding : (e : Edge) (f : Bool) → (inn (cell_of g e f) && not (inn (cell_of g e (not f)))) ≡ true → changes e ≡ true
    bounding e true h = or_left (up e && not (down e)) (down e && not (up e)) h
    bounding e false h = or_right (up e && not (down e)) (down e && not (up e)) h

    same_bound : (d : Dart) → Contains border_graph.edges d.edge → is_side (odd_above border_graph one) border_graph d ≡ is_side inn g d
    same_bound d E = (λ i. same_side d.edge d.forward E i && not (same_side d.edge (not d.forward) E i))

    abbrev of_border : List Dart
    of_border = filter (is_side (odd_above border_graph one) border_graph) (dart_list border_graph)

    to : (d : Dart) → Member d (filter (is_side inn g) (dart_list g)) → Member d of_border
    to d m =
        let a = of_filter (is_side inn g) d (dart_list g) m in
        let E = dart_out g d (in_member (darts g) d (from_member (darts g) d (listed_out g plane d a.0))) in
        let E' = part_in g changes d.edge E (bounding d.edge d.forward a.1) in
        let L = listed_in border_graph flat d (to_member (darts border_graph) d (member_in (darts border_graph) d (dart_in border_graph d.edge d.forward E'))) in
        in_filter (is_side (odd_above border_graph one) border_graph) d (dart_list border_graph) L (same_bound d E' ∙ a.1)

    from : (d : Dart) → Member d of_border → Member d (filter (is_side inn g) (dart_list g))
    from d m =
        let a = of_filter (is_side (odd_above border_graph one) border_graph) d (dart_list border_graph) m in
        let E' = dart_out border_graph d (in_member (darts border_graph) d (from_member (darts border_graph) d (listed_out border_graph flat d a.0))) in
        let E = (part_out g changes d.edge E').0 in
        let L = listed_in g plane d (to_member (darts g) d (member_in (darts g) d (dart_in g d.edge d.forward E))) in
        in_filter (is_side inn g) d (dart_list g) L (sym (same_bound d E') ∙ a.1)

    pub same_darts : filter (is_side inn g) (dart_list g) ≡ of_border
    same_darts =
        ascending_unique dart_cmp dart_cmp_total (filter (is_side inn g) (dart_list g)) of_border
        (IsAscending-filter dart_cmp (is_side inn g) (dart_list g) (list_ascends g plane))
        (IsAscending-filter dart_cmp (is_side (odd_above border_graph one) border_graph) (dart_list border_graph) (list_ascends border_graph flat))
        to from
