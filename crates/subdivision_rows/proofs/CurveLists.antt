-- The curves along an edge, from the marks in memory.
use Rattle.std.proofs.Common.{◌≡◌, ℕ, Bool, true, false, cond, refl, sym, ap, subst, ◌∙◌, List, [], ◌∷◌, map, get_or}
use Rattle.std.specs.Prelude.{◌&&◌, filter}
use Rattle.std.specs.List.{AllByRecursion}
use Rattle.std.specs.List.Sorted.{IsStrictlyIncreasing}
use Rattle.std.specs.Ordering.{nat_cmp, int_eq, ordering_then}
use Rattle.std.specs.Cmp.{tied_itself}
use Rattle.std.specs.declared.cmp.Ordering.TheVariants.{Less, Equal}
use Rattle.std.proofs.lemmas.Cmp.{nat_cmp_total}
use Rattle.std.proofs.lemmas.List.Elements.{filter_agree}
use Rattle.std.proofs.lemmas.Map.Keys.{IsStrictlyIncreasing-from_sorted}
use Rattle.std.proofs.lemmas.Option.{get_or_from_slice_get}
use Rattle.std.proofs.lemmas.Bool.{and_parts}
use Rattle.exact_plane.specs.Point.{Point}
use Rattle.exact_plane.specs.PointOrder.{point_cmp}
use Rattle.exact_plane.specs.PointOrderLaws.{point_cmp_total, point_cmp_ties}
use Rattle.plane_graphs.specs.Ascending.{IsAscending}
use Rattle.plane_graphs.proofs.Ascending.{to_std}
use Rattle.plane_graphs.specs.Graph.{Graph, Mark, mark_cmp, is_at, curves, Edge}
use Rattle.plane_graphs.specs.Line as line
use Rattle.plane_graphs.proofs.Ascending.{ascending_is}
use Rattle.plane_graphs.proofs.Lists.{IsAscending-filter, map_map, filter_of_map}
use Rattle.plane_graphs.proofs.Meaning.{curves_ascend}
use Rattle.present_graphs.specs.declared.marks.Mark.{Mark as MarkInMemory}
use Rattle.present_graphs.specs.Marks.{mark_of}
use Rattle.slab_laws.specs.Skeleton.{same_point}
use Rattle.slab_laws.specs.Rows.{dart_list, no_dart}
use Rattle.slab_laws.specs.Darts.{Dart}
use Rattle.slab_laws.specs.Rotation.{twin}
use Rattle.slab_laws.specs.declared.names.CurveId.{CurveId}
use Rattle.slab_laws.specs.declared.names.DartId.{DartId}
use Rattle.slab_laws.specs.View.{HasDart, twin_in, curve_id}
use Rattle.subdivision_rows.specs.Listed.{Drawing, skeleton_in, view_of}
use Rattle.subdivision_rows.proofs.ListedRecords.{IsDart, dart_of, twin_is}
use Rattle.exact_plane.specs.Span.{Span}
use Rattle.plane_graphs.specs.Plane.{IsPlane}
use Rattle.slab_laws.specs.declared.rows.ListedDart.{ListedDart}
use Rattle.subdivision_rows.specs.declared.lists.RowLists.{RowLists}
use Rattle.subdivision_rows.specs.RowsInMemory.{drawing_of, AreSoundRows}
use Rattle.subdivision_rows.proofs.DartLists.{edge_reads}
use Rattle.subdivision_rows.specs.Curves.{edge_at, curves_at}
use Rattle.integers.proofs.Tests.{nat_exact}
use Rattle.arr_notes.proofs.Names.{numbers_of}
use Rattle.std.proofs.Math.Bool.{and_assoc}
use Rattle.slab_faces.proofs.Parity.{same_point_is}

-- ---- the two tests for one point

one_test : (p q : Point) → same_point p q ≡ line.same_point p q
one_test p q = and_assoc (int_eq p.x q.x) (int_eq p.y q.y) (int_eq p.w q.w) ∙ point_cmp_ties p q

at_test : (p q : Point) (m : MarkInMemory) → (same_point m.low p && same_point m.high q) ≡ is_at p q (mark_of m)
at_test p q m = λ i. one_test m.low p i && one_test m.high q i

-- ---- marks of one edge ascend by their curves

-- what all marks of the list are at
abbrev AllAt : Point → Point → List Mark → Type 0
AllAt p q ms = AllByRecursion (λ (m : Mark). (m.low ≡ p) × (m.high ≡ q)) ms

filter_at : (p q : Point) (ms : List Mark) → AllAt p q (filter (is_at p q) ms)
filter_at p q [] = tt
filter_at p q (m ∷ ms) = step (is_at p q m) refl (filter_at p q ms)
  where
    same_is : (a b : Point) → line.same_point a b ≡ true → a ≡ b
    same_is a b e = same_point_is a b (one_test a b ∙ e)

    step : (b : Bool) → is_at p q m ≡ b → AllAt p q (filter (is_at p q) ms) → AllAt p q (cond b (m ∷ filter (is_at p q) ms) (filter (is_at p q) ms))
    step true e r = let w = and_parts (line.same_point m.low p) (line.same_point m.high q) e in ((same_is m.low p w.0, same_is m.high q w.1), r)
    step false e r = r

curve_less : (m n : Mark) → m.low ≡ n.low → m.high ≡ n.high → mark_cmp m n ≡ Less → nat_cmp m.curve n.curve ≡ Less
unfolding mark_cmp
curve_less m n l h e =
    let a : point_cmp m.low n.low ≡ Equal = ap (λ (r : Point). point_cmp r n.low) l ∙ tied_itself point_cmp_total n.low in
    let b : point_cmp m.high n.high ≡ Equal = ap (λ (r : Point). point_cmp r n.high) h ∙ tied_itself point_cmp_total n.high in
    sym (λ i. ordering_then (a i) (ordering_then (b i) (nat_cmp m.curve n.curve))) ∙ e

curves_rise : (p q : Point) (ms : List Mark) → AllAt p q ms → IsAscending mark_cmp ms → IsAscending nat_cmp (map (λ m. m.curve) ms)
curves_rise p q [] h a = tt
curves_rise p q (m ∷ ms) h a = (each ms h.1 a.0, curves_rise p q ms h.1 a.1)
  where
    each : (ns : List Mark) → AllAt p q ns → AllByRecursion (λ n. mark_cmp m n ≡ Less) ns → AllByRecursion (λ c. nat_cmp m.curve c ≡ Less) (map (λ m. m.curve) ns)
    each [] k b = tt
    each (n ∷ ns) k b = (curve_less m n (h.0.0 ∙ sym k.0.0) (h.0.1 ∙ sym k.0.1) b.0, each ns k.1 b.1)

-- the curves of an edge are those of its marks, in their order
curves_are : (g : Graph) (p q : Point) → IsAscending mark_cmp g.marks → map (λ m. m.curve) (filter (is_at p q) g.marks) ≡ curves g p q
unfolding curves
curves_are g p q a =
    let cs : List ℕ = map (λ m. m.curve) (filter (is_at p q) g.marks) in
    ascending_is nat_cmp nat_cmp_total cs cs (λ x y h k e. nat_exact x y e) (curves_rise p q (filter (is_at p q) g.marks) (filter_at p q g.marks) (IsAscending-filter mark_cmp (is_at p q) g.marks a)) (λ x h. h) (λ x h. h)

-- in memory
pub curves_in_memory : (ms : List MarkInMemory) (g : Graph) (p q : Point) → g.marks ≡ map mark_of ms → IsAscending mark_cmp g.marks → map (λ (m : MarkInMemory). m.curve) (filter (λ m. same_point m.low p && same_point m.high q) ms) ≡ map curve_id (curves g p q)
curves_in_memory ms g p q e a =
    let here : List MarkInMemory = filter (λ m. same_point m.low p && same_point m.high q) ms in
    let f : filter (is_at p q) g.marks ≡ map mark_of here = ap (filter (is_at p q)) e ∙ filter_of_map mark_of (is_at p q) ms ∙ ap (map mark_of) (filter_agree (λ m. is_at p q (mark_of m)) (λ m. same_point m.low p && same_point m.high q) (λ m. sym (at_test p q m)) ms) in
    sym (ap (map curve_id) (sym (curves_are g p q a) ∙ ap (map (λ (m : Mark). m.curve)) f ∙ map_map mark_of (λ (m : Mark). m.curve) here) ∙ map_map (λ (m : MarkInMemory). (mark_of m).curve) curve_id here)

-- ---- the clauses of every moment
pub curves_increase : (d : Drawing) (h : DartId) → IsStrictlyIncreasing (map (λ (c : CurveId). c.0) (curves_at d h))
curves_increase d h =
    subst IsStrictlyIncreasing (sym (numbers_of (curves d.graph (edge_at d h.0).low (edge_at d h.0).high)))
    (IsStrictlyIncreasing-from_sorted (curves d.graph (edge_at d h.0).low (edge_at d h.0).high) (to_std nat_cmp _ (curves_ascend d.graph (edge_at d h.0).low (edge_at d h.0).high)))

module _ (a : RowLists) (d : Drawing) (k : AreSoundRows a) (is : drawing_of a ≡ d) where
  plane : IsPlane d.graph
  plane = subst (λ (d : Drawing). IsPlane d.graph) is k.plane

  pub edge_is : (h : DartId) (x : Dart) → IsDart d h x → edge_at d h.0 ≡ x.edge
  edge_is h x i = ap (λ (x : Dart). x.edge) (get_or_from_slice_get (dart_list (skeleton_in d)) h.0 x no_dart i)

  pub edge_turned : (h : DartId) → HasDart (view_of d) h → edge_at d (twin_in (view_of d) h).0 ≡ edge_at d h.0
  edge_turned h H =
      let x = dart_of d h H in
      edge_is (twin_in (view_of d) h) (twin x.0) (twin_is d plane h x.0 x.1) ∙ sym (edge_is h x.0 x.1)

  pub curves_turned : (h : DartId) → HasDart (view_of d) h → curves_at d (twin_in (view_of d) h) ≡ curves_at d h
  curves_turned h H = ap (λ (e : Edge). map curve_id (curves d.graph e.low e.high)) (edge_turned h H)

  pub curves_read : (h : DartId) (r : ListedDart) (s : Span) (low high : Point) (ms : List MarkInMemory) (cs : List CurveId) → HasDart (view_of d) h → r ≡ get_or a.darts.items h.0 r → s ≡ get_or a.edges.items r.edge s → low ≡ s.lower → high ≡ s.upper → ms ≡ a.marks.items → cs ≡ map (λ (m : MarkInMemory). m.curve) (filter (λ m. same_point m.low low && same_point m.high high) ms) → cs ≡ curves_at d h
  curves_read h r s low high ms cs H e f l u m q =
      let x = edge_reads a d k is h r s H e f in
      let w = edge_is h x.0 x.1 in
      let p : low ≡ (edge_at d h.0).low = l ∙ ap (λ (e : Edge). e.low) (x.2 ∙ sym w) in
      let p' : high ≡ (edge_at d h.0).high = u ∙ ap (λ (e : Edge). e.high) (x.2 ∙ sym w) in
      q
      ∙ (λ i. map (λ (m : MarkInMemory). m.curve) (filter (λ m. same_point m.low (p i) && same_point m.high (p' i)) (m i)))
      ∙ curves_in_memory a.marks.items d.graph (edge_at d h.0).low (edge_at d h.0).high (sym (ap (λ (d : Drawing). d.graph.marks) is)) plane.marks_ascend
