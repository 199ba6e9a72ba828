-- Some curves fewer along an edge, all at once.
use Rattle.std.proofs.Common.{◌≡◌, ◌≢◌, ℕ, Bool, true, not, cond, ◌&&◌, ◌==◌, sym, ap, ◌∙◌, subst, inl, inr}
use Rattle.std.specs.List.{filter}
use Rattle.exact_plane.specs.Point.{Point}
use Rattle.exact_plane.specs.PointOrderLaws.{and_true}
use Rattle.plane_graphs.specs.Ascending.{Member}
use Rattle.plane_graphs.specs.Line.{same_point}
use Rattle.plane_graphs.specs.Graph.{Graph, Mark, mark_cmp, is_at}
use Rattle.plane_graphs.proofs.Lists.{and_in, not_in, not_out, clash, in_filter, of_filter, IsAscending-filter}
use Rattle.plane_graphs.proofs.Order.{same_in, same_out}
use Rattle.slab_laws.specs.declared.names.DartId.{DartId}
use Rattle.slab_laws.specs.Sound.{IsGraphSound}
use Rattle.slab_laws.specs.View.{View, point_in, source_in, target_in}
use Rattle.arr_notes.specs.Curves.{Curves, IsForward}
use Rattle.arr_notes.proofs.Names.{cases_dart}
use Rattle.arr_notes.specs.RecordGraph.{drawn_graph}
use Rattle.sound_views.specs.RecordGraphLaws.{IsMarkOf}
use Rattle.sound_changes.specs.StepLaws.{without_marks, CurvesGo}
use Rattle.sound_changes.proofs.StepGraphs.{IsOrdered, IsWithin, drawn_ordered, same_graph}
use Rattle.sound_changes.proofs.StepHolds.{point_held, mark_held, held_mark, pin_held, drawn_within}
use Rattle.sound_changes.proofs.StepCases.{mark_moves, mark_moves_back, unchanged_way, one_way, at_name, at_other}

module _ (v : View) (h : Curves) (d : DartId) (goes : ℕ → Bool) (s : IsGraphSound v) (f : IsForward v d) where
  abbrev left : Curves
  left x = cond (x.0 == d.0) (filter (λ c. not (goes c)) (h x)) (h x)

  abbrev low : Point
  low = point_in v (source_in v d)

  abbrev high : Point
  high = point_in v (target_in v d)

  abbrev after : Graph
  after = without_marks low high goes (drawn_graph v h)

  abbrev is_left : ℕ → Bool
  is_left c = not (goes c)

  abbrev stays : Mark → Bool
  stays m = not (is_at low high m && goes m.curve)

  here : left d ≡ filter is_left (h d)
  here = at_name d (filter is_left (h d)) (h d)

  elsewhere : (x : DartId) → x ≢ d → left x ≡ h x
  elsewhere x ne = at_other x d (filter is_left (h x)) (h x) ne

  -- a mark between the ends of d is one of d
  its_mark : (m : Mark) (x : DartId) → IsMarkOf v h m x → is_at low high m ≡ true → x ≡ d
  its_mark m x k e = let b = and_true (same_point m.low low) (same_point m.high high) e in one_way v x d s k.forward.0 f.0 (k.low ∙ same_out m.low low b.0) (k.high ∙ same_out m.high high b.1)

  mark_from : (m : Mark) (x : DartId) → IsMarkOf v left m x → Member m (filter stays (drawn_graph v h).marks)
  mark_from m x k =
      elim (cases_dart x d) [
        | inl q ↦
            let k : IsMarkOf v left m d = subst (IsMarkOf v left m) q k in
            let e = of_filter is_left m.curve (h d) (subst (Member m.curve) here k.curve) in
            in_filter stays m (drawn_graph v h).marks (mark_held v s.named h m d (record { forward = k.forward; low = k.low; high = k.high; curve = e.0 }))
            (not_in (is_at low high m && goes m.curve) (λ b. clash (and_true (is_at low high m) (goes m.curve) b).1 (not_out (goes m.curve) e.1)))
        | inr ne ↦
            let k = mark_moves_back v v h left x m (unchanged_way v x k.forward.0) (elsewhere x ne) k in
            in_filter stays m (drawn_graph v h).marks (mark_held v s.named h m x k)
            (not_in (is_at low high m && goes m.curve) (λ b. ne (its_mark m x k (and_true (is_at low high m) (goes m.curve) b).0)))
      ]

  mark_into : (m : Mark) → Member m (filter stays (drawn_graph v h).marks) → Member m (drawn_graph v left).marks
  mark_into m n =
      let t = of_filter stays m (drawn_graph v h).marks n in
      let r = held_mark v s.named h m t.0 in
      elim (cases_dart r.0 d) [
        | inl q ↦
            let k : IsMarkOf v h m d = subst (IsMarkOf v h m) q r.1 in
            let e = not_in (goes m.curve) (λ b. clash (and_in (and_in (same_in m.low low (sym k.low)) (same_in m.high high (sym k.high))) b) (not_out (is_at low high m && goes m.curve) t.1)) in
            mark_held v s.named left m d (record { forward = k.forward; low = k.low; high = k.high; curve = subst (Member m.curve) (sym here) (in_filter is_left m.curve (h d) k.curve e) })
        | inr ne ↦ mark_held v s.named left m r.0 (mark_moves v v h left r.0 m (unchanged_way v r.0 r.1.forward.0) (elsewhere r.0 ne) r.1)
      ]

  from_left : IsWithin (drawn_graph v left) after
  from_left = drawn_within v s.named left after (point_held v s.named h) mark_from (pin_held v s.named h)

  into_left : IsWithin after (drawn_graph v left)
  unfolding drawn_graph
  into_left = record { points = λ p m. m; marks = mark_into; pins = λ p m. m }

  ordered : IsOrdered after
  ordered = let o = drawn_ordered v h in record { points = o.points; marks = IsAscending-filter mark_cmp stays (drawn_graph v h).marks o.marks; pins = o.pins }

  pub are_gone : drawn_graph v left ≡ after
  are_gone = same_graph (drawn_graph v left) after (drawn_ordered v left) ordered from_left into_left

pub curves_go : CurvesGo
curves_go v h k d goes s f e = ap (drawn_graph v) (λ i x. e x i) ∙ are_gone v h d goes s f
