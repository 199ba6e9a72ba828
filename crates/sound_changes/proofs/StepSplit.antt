-- An edge is split at a new vertex.
use Rattle.std.proofs.Common.{◌≡◌, ◌≢◌, ℕ, true, false, refl, sym, ◌∙◌, subst, inl, inr}
use Rattle.std.specs.List.{flat_map}
use Rattle.exact_plane.specs.Point.{Point}
use Rattle.exact_plane.specs.PointOrderLaws.{and_true}
use Rattle.plane_graphs.specs.Ascending.{Member}
use Rattle.plane_graphs.specs.Line.{same_point}
use Rattle.plane_graphs.specs.Graph.{Graph, Mark, mark, mark_cmp, is_at}
use Rattle.plane_graphs.proofs.Lists.{and_in, clash, if_true, if_false, if_out, in_flat_map, of_flat_map, in_ascending, of_ascending}
use Rattle.plane_graphs.proofs.Order.{same_out, same_itself, mark_cmp_total, mark_cmp_exact}
use Rattle.slab_laws.specs.declared.names.DartId.{DartId}
use Rattle.slab_laws.specs.declared.names.VertexId.{VertexId}
use Rattle.slab_laws.specs.Sound.{IsNamed, IsGraphSound}
use Rattle.slab_laws.specs.View.{View, HasDart, point_in, source_in, twin_in, target_in}
use Rattle.arr_notes.proofs.PairReads.{names_stay}
use Rattle.sound_changes.specs.ChangeFits.{IsNewVertex, FitsSplit}
use Rattle.sound_changes.specs.SplitHalves.{IsHalved}
use Rattle.sound_changes.proofs.SplitHalves.{not_n}
use Rattle.sound_changes.proofs.Splits.{halved, at_w, cut}
use Rattle.edit_steps.specs.Steps.{SplitEdge as SplitEdgeAt, halves, apply}
use Rattle.arr_notes.specs.declared.change.Change.TheVariants.{SplitEdge}
use Rattle.arr_notes.specs.Curves.{Curves, AreCurvesOf, step_curves}
use Rattle.arr_notes.specs.Step.{split_edge}
use Rattle.arr_notes.specs.RecordGraph.{drawn_graph}
use Rattle.sound_views.specs.RecordGraphLaws.{IsMarkOf}
use Rattle.sound_changes.specs.StepLaws.{IsApplied}
use Rattle.sound_changes.proofs.StepGraphs.{IsWithin, applied}
use Rattle.sound_changes.proofs.StepHolds.{mark_held, held_mark}
use Rattle.sound_changes.proofs.StepSplitEdge.{IsPartedAt, Part, part_of, of_part, parts_labelled, Whole, whole_of, of_whole}
use Rattle.sound_changes.proofs.StepSplitEdge.Part.{lower, upper, kept_too}
use Rattle.sound_changes.proofs.StepSplitEdge.Whole.{whole, kept}
use Rattle.sound_changes.proofs.StepAddVertex.{more_from, more_into}
use Rattle.sound_changes.proofs.StepCases.{one_way, at_name, at_other}
use Rattle.integers.proofs.Tests.{not_true}

module _ (v : View) (d : DartId) (w : VertexId) (p : Point) (n m : DartId) (s : IsGraphSound v) (c : FitsSplit v d w p n m) where
  abbrev t : DartId
  t = twin_in v d

  abbrev g : View
  g = split_edge v d w p n m

  abbrev A : Point
  A = point_in v (source_in v d)

  abbrev B : Point
  B = point_in v (target_in v d)

  i : IsHalved v g d t n m w
  i = halved v d w p n m s c

  parted : IsPartedAt v g d t n m w p
  parted = record {
    halved = i;
    twinned = s.twinned;
    sourced = s.linked.source;
    at_w = at_w v d w p n m s c;
    before = (cut v d w p n m s c).before;
    behind = (cut v d w p n m s c).behind;
  }

  named : IsNamed g
  named = (names_stay _ ((names_stay _ ((names_stay _ ((names_stay _ ((names_stay v s.named).vertex w p)).redirected t m)).pair n m _ _)).source t w)).next d n

  new_vertex : IsNewVertex v w p
  new_vertex = record { name = c.vertex; proper = c.proper; free = (cut v d w p n m s c).free }

  module _ (h : Curves) (a : AreCurvesOf v h) where
    abbrev parts : Curves
    parts = step_curves h (SplitEdge d w p n m)

    abbrev after : Graph
    after = apply (SplitEdgeAt A B p) (drawn_graph v h)

    here : parts n ≡ h d
    here = at_name n (h d) (h n)

    elsewhere : (x : DartId) → x ≢ n → parts x ≡ h x
    elsewhere x ne = at_other x n (h d) (h x) ne

    old : (x : DartId) → HasDart v x → parts x ≡ h x
    old x o = elsewhere x (not_n v g d t n m w i x o)

    abbrev IsWhole : Mark → Type 0
    IsWhole k = Whole v g d t n m w p parted h parts here old s.named named k

    abbrev IsPart : Mark → Type 0
    IsPart k = Part v g d t n m w p parted h parts here old s.named named k

    -- the mark of the whole edge that a part's mark comes from
    whole_mark : (k : ℕ) → Member k (h d) → Member (mark A B k) (drawn_graph v h).marks
    whole_mark k y = of_whole v g d t n m w p parted h parts here old s.named named (mark A B k) (whole k y refl)

    at_whole : (k : ℕ) → is_at A B (mark A B k) ≡ true
    at_whole k = and_in (same_itself A) (same_itself B)

    -- no other edge goes from A to B
    not_at : (k : Mark) (x : DartId) → IsMarkOf v h k x → x ≢ d → is_at A B k ≡ false
    not_at k x y ne = not_true (is_at A B k) (λ e.
        let e = and_true (same_point k.low A) (same_point k.high B) e in
        ne (one_way v x d s y.forward.0 c.dart (y.low ∙ same_out k.low A e.0) (y.high ∙ same_out k.high B e.1)))

    into_halves : (k : Mark) → IsPart k → Member k (flat_map (halves A B p) (drawn_graph v h).marks)
    into_halves k (lower j y q) = in_flat_map (halves A B p) (mark A B j) k (drawn_graph v h).marks (whole_mark j y) (if_true (is_at A B (mark A B j)) k _ _ (at_whole j) (inl q))
    into_halves k (upper j y q) = in_flat_map (halves A B p) (mark A B j) k (drawn_graph v h).marks (whole_mark j y) (if_true (is_at A B (mark A B j)) k _ _ (at_whole j) (inr (inl q)))
    into_halves k (kept_too x y ne) = in_flat_map (halves A B p) k k (drawn_graph v h).marks (mark_held v s.named h k x y) (if_false (is_at A B k) k _ _ (not_at k x y ne) (inl refl))

    half_of : (k o : Mark) → IsWhole o → Member k (halves A B p o) → IsPart k
    half_of k o (whole j y q) e =
        elim (if_out (is_at A B o) k _ _ e) [
          | inl e ↦ elim e.1 [
            | inl r ↦ lower j y (r ∙ (λ i. mark (q i).low p (q i).curve))
            | inr r ↦ elim r [ inl r ↦ upper j y (r ∙ (λ i. mark p (q i).high (q i).curve)) | inr r ↦ absurd r ]
          ]
          | inr e ↦ clash (subst (λ x. is_at A B x ≡ true) (sym q) (at_whole j)) e.0
        ]
    half_of k o (kept x y ne) e =
        elim (if_out (is_at A B o) k _ _ e) [
          | inl e ↦ clash e.0 (not_at o x y ne)
          | inr e ↦ elim e.1 [ inl r ↦ kept_too x (subst (λ z. IsMarkOf v h z x) (sym r) y) ne | inr r ↦ absurd r ]
        ]

    of_halves : (k : Mark) → Member k (flat_map (halves A B p) (drawn_graph v h).marks) → IsPart k
    of_halves k e =
        let r = of_flat_map (halves A B p) k (drawn_graph v h).marks e in
        let y = held_mark v s.named h r.0 r.1 in
        half_of k r.0 (whole_of v g d t n m w p parted h parts here old s.named named r.0 y.0 y.1) r.2

    split_from : IsWithin (drawn_graph g parts) after
    unfolding apply drawn_graph
    split_from = record {
      points = (more_from v w p s new_vertex h a).points;
      marks = λ k e. let y = held_mark g named parts k e in in_ascending mark_cmp mark_cmp_total mark_cmp_exact k _ (into_halves k (part_of v g d t n m w p parted h parts here old s.named named k y.0 y.1.forward.0 y.1));
      pins = (more_from v w p s new_vertex h a).pins;
    }

    split_into : IsWithin after (drawn_graph g parts)
    unfolding apply drawn_graph
    split_into = record {
      points = (more_into v w p s new_vertex h a).points;
      marks = λ k e. of_part v g d t n m w p parted h parts here old s.named named k (of_halves k (of_ascending mark_cmp mark_cmp_total mark_cmp_exact k _ e));
      pins = (more_into v w p s new_vertex h a).pins;
    }

    right : AreCurvesOf g parts
    right = parts_labelled v g d t n m w p parted h parts here old s.named named a (λ x none ne. elsewhere x ne ∙ a.without_dart x none)

    pub edge_split : IsApplied v h (SplitEdge d w p n m)
    edge_split = applied v h (SplitEdge d w p n m) right split_from split_into
