-- The labels above the darts out of a vertex, one after the other from the lowest up.
use Rattle.std.proofs.Common.{◌≡◌, ◌≢◌, ℕ, ◌+◌, ◌<◌, ◌≤◌, Bool, true, false, cond, arith, refl, sym, ap, ◌∙◌, subst, inl, inr, List, length, get_or, Contains}
use Rattle.std.specs.Prelude.{Option, Some, None, slice_set}
use Rattle.std.specs.List.Sorted.{IsPartitionedBy, IsPartitionPoint}
use Rattle.std.specs.Option.{option_map}
use lib.Dec.{leb}
use Rattle.std.proofs.lemmas.Bool.{false≢true, cases_lt, cases_eq, leb-true, leb-false, le-leb}
use Rattle.std.proofs.lemmas.List.{get_or-set_same, get_or-set_other, length-set}
use Rattle.exact_plane.specs.PointOrder.{point_cmp}
use Rattle.exact_plane.specs.PointOrderLaws.{point_cmp_total}
use Rattle.plane_graphs.specs.Ascending.{IsAscending}
use Rattle.plane_graphs.specs.Graph.{Edge}
use Rattle.plane_graphs.proofs.Ascending.{to_member, from_member}
use Rattle.plane_graphs.proofs.Sorting.{member_at, any_default}
use Rattle.slab_laws.specs.declared.rows.ListedDart.{ListedDart}
use Rattle.slab_laws.specs.declared.slab_cell.SlabCell.{SlabCell}
use Rattle.slab_laws.specs.Cycles.{left_of_dart}
use Rattle.slab_laws.specs.Darts.{Dart, source, start, ahead, back, IsOut}
use Rattle.slab_laws.specs.Rotation.{earlier, OutOf}
use Rattle.slab_laws.specs.Rows.{dart_list, dart_at, dart_place, dart_row, dart_rows, edge_place, vertex_place}
use Rattle.slab_laws.specs.Skeleton.{Skeleton, IsPlaneSkeleton, same_point}
use Rattle.slab_faces.proofs.Places.{points_exact, place_before}
use Rattle.slab_faces.proofs.RotationLemmas.{round_at}
use Rattle.dart_orbits.proofs.Listed.{dart_there, dart_within, dart_at_place, row_at, rows_length, source_in}
use Rattle.dart_orbits.proofs.Placed.{at_place, place_at, place_within, ascending_apart}
use Rattle.edge_predicates.specs.FaceLaws.{cell_over}
use Rattle.edge_predicates.specs.Highest.{IsHighestBelow, highest}
use Rattle.face_roots.specs.LowestDarts.{IsLowestFrom, IsNextLower}
use Rattle.face_roots.proofs.LowestDarts.{lowest_is_above_below}
use Rattle.face_roots.proofs.PointOrder.{before}
use Rattle.sweep_graphs.specs.declared.edges.EdgeEnds.{EdgeEnds}
use Rattle.sweep_graphs.specs.Edges.{edge_between}
use Rattle.sweep_graphs.specs.Traces.{point_at, no_point}
use Rattle.dart_orbits.specs.Around.{dart_placed, AreAround, source_placed, AreBySource}
use Rattle.dart_orbits.specs.Ways.{no_row, row_in}
use Rattle.overlay_sweep.specs.EdgesUnder.{AreUnder}
use Rattle.overlay_sweep.specs.LabelsAbove.{known_at, label_over, IsLabelling, IsToldAt, AreLabelsAbove, AreLabelsBefore, IsRoundOf, IsLabelUnder}

-- those from i on are told, and so is what is below the next one
pub record IsTurning (g : Skeleton) (v : ℕ) (ps : List ℕ) (from to : ℕ) (known : List (Option ℕ)) (i current : ℕ) (labels : List ℕ) : Type 0 where
  pub low : from ≤ i
  pub high : i ≤ to
  pub counted : length labels ≡ length (dart_list g)
  pub before : (label : SlabCell → ℕ) → IsLabelling g known label → (k : ℕ) → k < length (dart_list g) → vertex_place g (source (dart_at g k)) < v → IsToldAt g label labels k
  pub done : (label : SlabCell → ℕ) → IsLabelling g known label → (j : ℕ) → i ≤ j → j < to → IsToldAt g label labels (get_or ps j 0)
  pub under : (label : SlabCell → ℕ) → IsLabelling g known label → (m : ℕ) → from ≤ m → m < i → (dart_placed g ps m).forward ≡ true → ((j : ℕ) → m < j → j < i → (dart_placed g ps j).forward ≡ false) → current ≡ label (left_of_dart g (back (dart_placed g ps m).edge))

-- ---- by what is below a vertex
module _ (g : Skeleton) (plane : IsPlaneSkeleton g) (ascend : IsAscending point_cmp g.vertices) (v : ℕ) (inside : v < length g.vertices) where
  pub vertex_there : Contains g.vertices (point_at g.vertices v)
  vertex_there = from_member g.vertices (point_at g.vertices v) (member_at g.vertices v no_point inside)

  pub own_place : vertex_place g (point_at g.vertices v) ≡ v
  own_place = place_at same_point points_exact g.vertices (ascending_apart point_cmp point_cmp_total g.vertices ascend) v no_point inside

  -- an edge below the vertex begins before it
  begins_before : (e : Edge) → IsHighestBelow (Contains g.edges) (point_at g.vertices v) (Some e) → vertex_place g e.low < v
  begins_before e (highest x E s t f) =
      let l = before e.low (point_at g.vertices v) (plane.proper e.low (plane.lower_in e E)) (plane.proper (point_at g.vertices v) vertex_there) s.from in
      let q = own_place in
      let k = place_before point_cmp point_cmp_total same_point points_exact g.vertices ascend e.low (point_at g.vertices v) (plane.lower_in e E) vertex_there l.is in
      omega arith

  module _ (known : List (Option ℕ)) (es : List (Option EdgeEnds)) (u : AreUnder g es) where
    pub nothing_under : (x : Option EdgeEnds) → x ≡ get_or es v None → x ≡ None → IsLabelUnder g known es v 0
    nothing_under x q s label w = subst (λ y. 0 ≡ label (cell_over g (option_map (edge_between g.vertices) y))) (sym s ∙ q) (sym w.first)

    pub edge_under : (e : EdgeEnds) (x : Option EdgeEnds) (labels : List ℕ) (n : ℕ) → x ≡ get_or es v None → x ≡ Some e → Contains g.edges (edge_between g.vertices e) → AreLabelsBefore g known v labels → n ≡ get_or labels (dart_place g (ahead (edge_between g.vertices e))) 0 → IsLabelUnder g known es v n
    edge_under e x labels n q s E t r label w =
        let f = edge_between g.vertices e in
        let k = dart_place g (ahead f) in
        let d = dart_at_place g plane (ahead f) E in
        let b = begins_before f (subst (λ y. IsHighestBelow (Contains g.edges) (point_at g.vertices v) (option_map (edge_between g.vertices) y)) (sym q ∙ s) (u.highest v inside)) in
        let m = t.each label w k (dart_within g plane (ahead f) E) (subst (λ z. vertex_place g (source z) < v) (sym d) b) (ap (λ (z : Dart). z.forward) d) in
        subst (λ y. n ≡ label (cell_over g (option_map (edge_between g.vertices) y))) (sym s ∙ q) (r ∙ m ∙ ap (λ z. label (left_of_dart g z)) d)

  -- ---- round the vertex
  module _ (ps : List ℕ) (h : AreAround g ps) (from to : ℕ) (r : IsRoundOf g ps v from to) (known : List (Option ℕ)) where
    there : (m : ℕ) → m < to → Contains g.edges (dart_placed g ps m).edge
    there m l = let e = r.end in dart_there g plane (get_or ps m 0) (h.within m (omega arith))

    at : (m : ℕ) → from ≤ m → m < to → source (dart_placed g ps m) ≡ point_at g.vertices v
    at m f l =
        let d = dart_placed g ps m in
        sym (at_place same_point points_exact g.vertices (source d) no_point (to_member g.vertices (source d) (source_in g plane d (there m l)))) ∙ ap (point_at g.vertices) (r.at m f l)

    out : (m : ℕ) → from ≤ m → m < to → OutOf g (point_at g.vertices v) (dart_placed g ps m)
    out m f l = record { in' = there m l; at = at m f l }

    forward_out : (m : ℕ) → from ≤ m → m < to → (dart_placed g ps m).forward ≡ true → IsOut g (point_at g.vertices v) (dart_placed g ps m).edge true
    forward_out m f l q = record { in' = there m l; at = sym (ap (start (dart_placed g ps m).edge) q) ∙ at m f l }

    is_ahead : (m : ℕ) → (dart_placed g ps m).forward ≡ true → dart_placed g ps m ≡ ahead (dart_placed g ps m).edge
    is_ahead m q = λ i. record { edge = (dart_placed g ps m).edge; forward = q i }

    index_of : (k : ℕ) → k < length (dart_list g) → vertex_place g (source (dart_at g k)) ≡ v → (j : ℕ) × (from ≤ j) × (j < to) × (get_or ps j 0 ≡ k)
    index_of k l q =
        let a = h.all k l in
        let p : vertex_place g (source (dart_placed g ps a.0)) ≡ v = ap (λ z. vertex_place g (source (dart_at g z))) a.2 ∙ q in
        let low : from ≤ a.0 = (elim (cases_lt a.0 from) [ inl x ↦ absurd (let y = r.before a.0 x in omega arith) | inr x ↦ x ]) in
        let high : a.0 < to = (elim (cases_lt a.0 to) [ inl x ↦ x | inr x ↦ absurd (let y = r.after a.0 x a.1 in omega arith) ]) in
        (a.0, low, high, a.2)

    dart_of : (f : Edge) → IsOut g (point_at g.vertices v) f true → (j : ℕ) × (from ≤ j) × (j < to) × (dart_placed g ps j ≡ ahead f)
    dart_of f F =
        let d = dart_at_place g plane (ahead f) F.in' in
        let a = index_of (dart_place g (ahead f)) (dart_within g plane (ahead f) F.in') (ap (λ z. vertex_place g (source z)) d ∙ ap (vertex_place g) F.at ∙ own_place) in
        (a.0, a.1, a.2, ap (dart_at g) a.3 ∙ d)

    order : (m j : ℕ) → from ≤ m → m < j → j < to → earlier (dart_placed g ps m) (dart_placed g ps j) ≡ true
    order m j f l t = h.turns m j l (let e = r.end in omega arith) (at m f (omega arith) ∙ sym (at j (omega arith) t))

    later : (m j : ℕ) → from ≤ m → m < to → from ≤ j → j < to → earlier (dart_placed g ps m) (dart_placed g ps j) ≡ true → m < j
    later m j f l f' l' t =
        let o = round_at g (point_at g.vertices v) plane vertex_there in
        elim (cases_lt m j) [
          | inl x ↦ x
          | inr x ↦ elim (cases_lt j m) [
            | inl y ↦ absurd (o.asym (dart_placed g ps m) (dart_placed g ps j) (out m f l) (out j f' l') t (order j m f' y l))
            | inr y ↦ absurd (let e : j ≡ m = omega arith in o.itself (dart_placed g ps m) (out m f l) (subst (λ i. earlier (dart_placed g ps m) (dart_placed g ps i) ≡ true) e t))
          ]
        ]

    pub placed_within : (rows : List ListedDart) → rows ≡ dart_rows g → (s : ℕ) → s < to → get_or ps s 0 < length rows
    placed_within rows told s l =
        let e = r.end in
        let w = h.within s (omega arith) in
        let n = ap length told ∙ rows_length g in
        omega arith

    pub lowest_at : (m : ℕ) → from ≤ m → m < to → (dart_placed g ps m).forward ≡ true → ((j : ℕ) → m < j → j < to → (dart_placed g ps j).forward ≡ false) → IsLowestFrom g (point_at g.vertices v) (dart_placed g ps m).edge
    lowest_at m f l q gap = record {
      out = forward_out m f l q;
      lowest = λ c C t.
          let a = dart_of c C in
          let k = later m a.0 f l a.1 a.2 (subst (λ x. earlier x (dart_placed g ps a.0) ≡ true) (sym (is_ahead m q)) (subst (λ x. earlier (ahead (dart_placed g ps m).edge) x ≡ true) (sym a.3) t)) in
          false≢true (sym (gap a.0 k a.2) ∙ ap (λ (x : Dart). x.forward) a.3);
    }

    pub lower_at : (m s : ℕ) → from ≤ m → m < s → s < to → (dart_placed g ps m).forward ≡ true → (dart_placed g ps s).forward ≡ true → ((j : ℕ) → m < j → j < s → (dart_placed g ps j).forward ≡ false) → IsNextLower g (point_at g.vertices v) (dart_placed g ps m).edge (dart_placed g ps s).edge
    lower_at m s f l t q p gap =
        let M : m < to = omega arith in
        let S : from ≤ s = omega arith in
        record {
          upper = forward_out m f M q;
          lower = forward_out s S t p;
          after = subst (λ x. earlier x (ahead (dart_placed g ps s).edge) ≡ true) (is_ahead m q) (subst (λ x. earlier (dart_placed g ps m) x ≡ true) (is_ahead s p) (order m s f l t));
          none = λ c C x y.
              let a = dart_of c C in
              let k = later m a.0 f M a.1 a.2 (subst (λ z. earlier z (dart_placed g ps a.0) ≡ true) (sym (is_ahead m q)) (subst (λ z. earlier (ahead (dart_placed g ps m).edge) z ≡ true) (sym a.3) x)) in
              let n = later a.0 s a.1 a.2 S t (subst (λ z. earlier z (dart_placed g ps s) ≡ true) (sym a.3) (subst (λ z. earlier (ahead c) z ≡ true) (sym (is_ahead s p)) y)) in
              false≢true (sym (gap a.0 k n) ∙ ap (λ (z : Dart). z.forward) a.3);
        }

    pub begin : (es : List (Option EdgeEnds)) (labels : List ℕ) (n : ℕ) → AreUnder g es → AreLabelsBefore g known v labels → IsLabelUnder g known es v n → IsTurning g v ps from to known to n labels
    begin es labels n u t b = record {
      low = r.start;
      high = let e = r.end in omega arith;
      counted = t.counted;
      before = t.each;
      done = λ label w j a l. absurd (omega arith);
      under = λ label w m f l q gap. b label w ∙ sym (w.constant _ _ (lowest_is_above_below.lowest g (point_at g.vertices v) (dart_placed g ps m).edge _ plane (lowest_at m f l q gap) (u.highest v inside)));
    }

    pub finish : (i current : ℕ) (labels : List ℕ) → i ≤ from → IsTurning g v ps from to known i current labels → AreLabelsBefore g known (v + 1) labels
    finish i current labels e t = record {
      counted = t.counted;
      each = λ label w k l q. elim (cases_lt (vertex_place g (source (dart_at g k))) v) [
        | inl a ↦ t.before label w k l a
        | inr a ↦ (let x = index_of k l (omega arith) in subst (IsToldAt g label labels) x.3 (t.done label w x.0 (let y = x.1 in omega arith) x.2))
      ];
    }

    -- ---- one more dart
    module _ (s current : ℕ) (old : List ℕ) (t : IsTurning g v ps from to known (s + 1) current old) (S : from ≤ s) where
      e : Edge
      e = (dart_placed g ps s).edge

      T : s < to
      T = let x = t.high in omega arith

      place_in : get_or ps s 0 < length (dart_list g)
      place_in = let x = r.end in let y = T in h.within s (omega arith)

      -- a backward one changes nothing
      pub step_back : (lab : ℕ) (new : List ℕ) → (dart_placed g ps s).forward ≡ false → lab ≡ current → new ≡ old → IsTurning g v ps from to known s lab new
      step_back lab new b p q = record {
        low = S;
        high = let x = T in omega arith;
        counted = ap length q ∙ t.counted;
        before = λ label w k l a. subst (λ xs. IsToldAt g label xs k) (sym q) (t.before label w k l a);
        done = λ label w j a l. elim (cases_lt s j) [
          | inl x ↦ subst (λ xs. IsToldAt g label xs (get_or ps j 0)) (sym q) (t.done label w j (omega arith) l)
          | inr x ↦ λ f. absurd (let y : j ≡ s = omega arith in false≢true (sym b ∙ subst (λ i. (dart_placed g ps i).forward ≡ true) y f))
        ];
        under = λ label w m f l x gap. p ∙ t.under label w m f (omega arith) x (λ j a c. elim (cases_lt j s) [
          | inl y ↦ gap j a y
          | inr y ↦ (let z : s ≡ j = omega arith in subst (λ i. (dart_placed g ps i).forward ≡ false) z b)
        ]);
      }

      over : (label : SlabCell → ℕ) → IsLabelling g known label → (dart_placed g ps s).forward ≡ true → (o : Option ℕ) → known_at known (edge_place g (dart_placed g ps s).edge) ≡ o → label_over o current ≡ label (left_of_dart g (ahead (dart_placed g ps s).edge))
      over label w b None q = t.under label w s S (omega arith) b (λ j a c. absurd (omega arith)) ∙ sym (w.other (dart_placed g ps s).edge (there s T) q)
      over label w b (Some n) q = sym (w.own (dart_placed g ps s).edge n (there s T) q)

      pub step_on : (lab : ℕ) (new : List ℕ) → (dart_placed g ps s).forward ≡ true → lab ≡ label_over (known_at known (edge_place g (dart_placed g ps s).edge)) current → new ≡ slice_set old (get_or ps s 0) lab → IsTurning g v ps from to known s lab new
      step_on lab new b p q =
          let right : (label : SlabCell → ℕ) → IsLabelling g known label → lab ≡ label (left_of_dart g (ahead (dart_placed g ps s).edge)) = λ label w. p ∙ over label w b _ refl in
          let kept : (label : SlabCell → ℕ) → IsLabelling g known label → (k : ℕ) → (k ≢ get_or ps s 0 → IsToldAt g label old k) → IsToldAt g label new k = λ label w k f d. elim (cases_eq k (get_or ps s 0)) [
            | inl x ↦ ap (λ xs. get_or xs k 0) q ∙ ap (λ i. get_or (slice_set old (get_or ps s 0) lab) i 0) x ∙ get_or-set_same old (get_or ps s 0) lab 0 (let y = place_in in let z = t.counted in omega arith) ∙ right label w ∙ ap (λ z. label (left_of_dart g z)) (sym (is_ahead s b)) ∙ ap (λ i. label (left_of_dart g (dart_at g i))) (sym x)
            | inr x ↦ ap (λ xs. get_or xs k 0) q ∙ get_or-set_other old (get_or ps s 0) k lab 0 x ∙ f x d
          ] in
          record {
            low = S;
            high = let x = T in omega arith;
            counted = ap length q ∙ length-set old (get_or ps s 0) lab ∙ t.counted;
            before = λ label w k l a. kept label w k (λ _. t.before label w k l a);
            done = λ label w j a l. kept label w (get_or ps j 0) (λ x. elim (cases_lt s j) [
              | inl y ↦ t.done label w j (omega arith) l
              | inr y ↦ absurd (let z : j ≡ s = omega arith in x (ap (λ i. get_or ps i 0) z))
            ]);
            under = λ label w m f l x gap. right label w ∙ sym (w.constant _ _ (lowest_is_above_below.lower g (point_at g.vertices v) (dart_placed g ps m).edge (dart_placed g ps s).edge plane (lower_at m s f l T x b gap)));
          }

      -- ---- by what the code has at hand
      pub step : (rows : List ListedDart) (k lab : ℕ) (new : List ℕ) → rows ≡ dart_rows g → k ≡ get_or ps s 0 → lab ≡ cond (row_in rows k).forward (label_over (known_at known (row_in rows k).edge) current) current → new ≡ cond (row_in rows k).forward (slice_set old k lab) old → IsTurning g v ps from to known s lab new
      step rows k lab new told c p q =
          let row : row_in rows k ≡ dart_row g (dart_placed g ps s) = ap (row_in rows) c ∙ ap (λ rs. get_or rs (get_or ps s 0) no_row) told ∙ row_at g plane (get_or ps s 0) no_row place_in in
          go (dart_placed g ps s).forward refl
          (p ∙ ap (λ (x : ListedDart). cond x.forward (label_over (known_at known x.edge) current) current) row)
          (q ∙ ap (λ i. cond (row_in rows k).forward (slice_set old i lab) old) c ∙ ap (λ (x : ListedDart). cond x.forward (slice_set old (get_or ps s 0) lab) old) row)
        where
          go : (b : Bool) → (dart_placed g ps s).forward ≡ b → lab ≡ cond b (label_over (known_at known (edge_place g (dart_placed g ps s).edge)) current) current → new ≡ cond b (slice_set old (get_or ps s 0) lab) old → IsTurning g v ps from to known s lab new
          go true b x y = step_on lab new b x y
          go false b x y = step_back lab new b x y

-- ---- vertex after vertex
-- the darts before `from` are those out of vertices before v, and they are told
pub record IsPassing (g : Skeleton) (ps : List ℕ) (known : List (Option ℕ)) (v from : ℕ) (labels : List ℕ) : Type 0 where
  pub end : from ≤ length ps
  pub before : (i : ℕ) → i < from → vertex_place g (source (dart_placed g ps i)) < v
  pub after : (i : ℕ) → from ≤ i → i < length ps → v ≤ vertex_place g (source (dart_placed g ps i))
  pub met : AreLabelsBefore g known v labels

module _ (g : Skeleton) (plane : IsPlaneSkeleton g) (rows : List ListedDart) (told : rows ≡ dart_rows g) (ps : List ℕ) (h : AreAround g ps) (known : List (Option ℕ)) where
  source_is : (i : ℕ) → i < length ps → source_placed rows ps i ≡ vertex_place g (source (dart_placed g ps i))
  source_is i l = ap (λ rs. (get_or rs (get_or ps i 0) no_row).source) told ∙ ap (λ r. r.source) (row_at g plane (get_or ps i 0) no_row (h.within i l))

  pub by_source : AreBySource rows ps
  by_source i k l m =
      let a = source_is i (omega arith) in
      let b = source_is k m in
      let c = h.sources i k l m in
      omega arith

  pub start_pass : (labels : List ℕ) → length labels ≡ length rows → IsPassing g ps known 0 0 labels
  start_pass labels e = record {
    end = omega arith;
    before = λ i l. absurd (omega arith);
    after = λ i l m. omega arith;
    met = record { counted = e ∙ ap length told ∙ rows_length g; each = λ label w k l a. absurd (omega arith) };
  }

  pub end_pass : (v from : ℕ) (labels : List ℕ) → length g.vertices ≤ v → IsPassing g ps known v from labels → AreLabelsAbove g known labels
  end_pass v from labels e p = record {
    counted = p.met.counted;
    each = λ label w k l.
        let d = dart_at g k in
        p.met.each label w k l (let a = place_within same_point points_exact g.vertices (source d) (to_member g.vertices (source d) (source_in g plane d (dart_there g plane k l))) in omega arith);
  }

  module _ (v from to : ℕ) (within : to ≤ length ps) (upto : (i : ℕ) → i < to → source_placed rows ps i ≤ v) (beyond : (i : ℕ) → to ≤ i → i < length ps → v < source_placed rows ps i) where
    pub round : (labels : List ℕ) → IsPassing g ps known v from labels → IsRoundOf g ps v from to
    round labels p = record {
      start = elim (cases_lt to from) [
        | inl l ↦
            let x = p.end in
            let L : to < length ps = omega arith in
            absurd (let a = p.before to l in let b = beyond to (omega arith) L in let c = source_is to L in omega arith)
        | inr l ↦ l
      ];
      end = within;
      before = p.before;
      at = λ i a l. (let b = p.after i a (omega arith) in let c = upto i l in let d = source_is i (omega arith) in omega arith);
      after = λ i a l. (let b = beyond i a l in let d = source_is i l in omega arith);
    }

    pub next_pass : (labels : List ℕ) → AreLabelsBefore g known (v + 1) labels → IsPassing g ps known (v + 1) to labels
    next_pass labels t = record {
      end = within;
      before = λ i l. (let c = upto i l in let d = source_is i (omega arith) in omega arith);
      after = λ i a l. (let b = beyond i a l in let d = source_is i l in omega arith);
      met = t;
    }

-- how many sources come up to a vertex
module _ (rows : List ListedDart) (ps : List ℕ) (sorted : AreBySource rows ps) (v : ℕ) where
  abbrev pub is_upto : ℕ → Bool
  is_upto k = leb (row_in rows k).source v

  pub parted_upto : IsPartitionedBy is_upto ps
  parted_upto i j d h l t = elim (cases_lt i j) [
    | inl a ↦
        let x = sorted i j a l in
        let y = leb-true (row_in rows (get_or ps j d)).source v t in
        let p = any_default ps i d 0 (omega arith) in
        let q = any_default ps j d 0 l in
        let r = ap (λ k. (row_in rows k).source) p in
        let s = ap (λ k. (row_in rows k).source) q in
        le-leb (row_in rows (get_or ps i d)).source v (omega arith)
    | inr a ↦ (let e : j ≡ i = omega arith in subst (λ k. is_upto (get_or ps k d) ≡ true) e t)
  ]

  module _ (n : ℕ) (cut : IsPartitionPoint (λ k. is_upto k ≡ true) (λ k. is_upto k ≡ false) ps n) (inside : n ≤ length ps) where
    pub all_upto : (i : ℕ) → i < n → source_placed rows ps i ≤ v
    all_upto i l = leb-true (row_in rows (get_or ps i 0)).source v (cut.0 i 0 (omega arith) l)

    pub all_beyond : (i : ℕ) → n ≤ i → i < length ps → v < source_placed rows ps i
    all_beyond i a l = leb-false (row_in rows (get_or ps i 0)).source v (cut.1 i 0 a l)
