-- The edges of a layer and its pieces by name, and what all that were shown tell of a segment.
use Rattle.std.proofs.Common.{◌≡◌, ℕ, ◌+◌, ◌<◌, ◌≤◌, false, Contains, List, ◌∷◌, ◌++◌, [], length, drop, get_or, add-one, sym, ap, ◌∙◌, subst, inl, inr, ◌⊎◌, ⊎_elim}
use Rattle.std.specs.Prelude.{◌==◌, Option, Some, None, option_to_list}
use Rattle.std.specs.List.{IsDistinct}
use Rattle.std.proofs.Math.Seq.{drop-cons}
use Rattle.std.proofs.lemmas.List.{append-nil, drop_all}
use Rattle.exact_plane.specs.Point.{Point}
use Rattle.exact_plane.specs.Segment.{Segment, AreEnds}
use Rattle.exact_plane.specs.Span.{span_of_segment}
use Rattle.exact_plane.specs.WholeParts.{bounding_box}
use Rattle.plane_graphs.specs.Ascending.{Member}
use Rattle.plane_graphs.specs.Line.{precedes}
use Rattle.plane_graphs.specs.Piece.{Piece}
use Rattle.plane_graphs.specs.Strands.{strand_piece, strands}
use Rattle.plane_graphs.proofs.Lists.{in_left, in_right, in_either, in_map, of_map}
use Rattle.slab_laws.specs.declared.names.DartId.{DartId}
use Rattle.slab_laws.specs.declared.present.Piece.{Piece as PieceInMemory}
use Rattle.slab_laws.specs.Pieces.{piece_of}
use Rattle.slab_laws.specs.Tables.{names}
use Rattle.slab_laws.specs.View.{View, HasDart, point_in, source_in, target_in}
use Rattle.curve_history.specs.Cuts.{modelled}
use Rattle.curve_history.specs.Past.{Past, strands_on}
use Rattle.piece_location.specs.Layers.{present_of, IsPastOf}
use Rattle.piece_location.proofs.Layers.{drawn, fit_rows, side_out}
use Rattle.piece_location.proofs.Rows.{same_row}
use Rattle.zone_walk.specs.declared.plan.Meeting.{Meeting}
use Rattle.zone_walk.specs.Searches.{IsThere}
use Rattle.zone_walk.specs.Sources.{AreAllOnEdges}
use Rattle.zone_walk.specs.Zone.{meeting_points, points_of_meetings}
use Rattle.zone_walk.proofs.Aheads.{not_before}
use Rattle.zone_walk.proofs.Courses.{course}
use Rattle.piece_zone.specs.Told.{AreNamesIn, AreTold, AreToldOf, IsEdgeOf, IsToldOf}
use Rattle.piece_zone.proofs.Boxes.{met_row}
use Rattle.piece_zone.proofs.Drawn.{edge_holder}
use Rattle.piece_zone.proofs.ToldOf.{lies, on_whole, proper}

-- ---- each edge is one of a piece that has a row
module _ (v : View) (h : Past) (past : IsPastOf v h) (is : h.pieces ≡ modelled h.rows) where
  pub edge_row : (d : DartId) → HasDart v d → (r : ℕ × PieceInMemory) × Member r h.rows × IsEdgeOf v h r.1 d
  edge_row d has =
      let w = edge_holder v (strands_on h) (strands (present_of v h)) (drawn v h past is) d has in
      let o = side_out v h past is w.1 w.2.here in
      let e : w.1 ≡ strand_piece (piece_of o.0.1) = o.2 in (
        o.0,
        o.1,
        record {
          dart = w.0;
          forward = w.2.forward;
          runs = subst (λ (z : Piece). Member z.curve (strands_on h w.0)) e w.2.runs;
          from = subst (λ (z : Piece). precedes (point_in v (source_in v w.0)) z.from ≡ false) e (not_before w.2.low_on.low);
          to = subst (λ (z : Piece). precedes z.to (point_in v (target_in v w.0)) ≡ false) e (not_before w.2.high_on.high);
        },
      )

-- ---- what is told of more and more pieces
points_more : (ms new : List Meeting) → ((m : Meeting) → Member m ms → Member m new) → (q : Point) → Member q (points_of_meetings ms) → Member q (points_of_meetings new)
points_more ms new f q i =
    let r = of_map (λ (y : Meeting). y.point) q ms i in
    subst (λ (p : Point). Member p (points_of_meetings new)) (sym r.2) (in_map (λ (y : Meeting). y.point) r.0 new (f r.0 r.1))

-- the pieces whose names stand before the place i have been asked
pub record AreAsked (v : View) (h : Past) (s : Segment) (ns : List ℕ) (ms : List Meeting) (i : ℕ) : Type 0 where
  pub meets : (m : Meeting) → Member m ms → Contains (meeting_points v s) m.point
  pub there : (m : Meeting) → Member m ms → IsThere v m.point m.spot
  pub all : (n : ℕ) → Member n ns → ((k : PieceInMemory) × Member (n, k) h.rows × AreTold v h s k (λ q. Member q (points_of_meetings ms))) ⊎ Member n (drop i ns)

module _ (v : View) (h : Past) (s : Segment) (ns : List ℕ) where
  pub none_asked : (ms : List Meeting) → ms ≡ [] → AreAsked v h s ns ms 0
  none_asked ms e = record {
    meets = λ m i. absurd (subst (Member m) e i);
    there = λ m i. absurd (subst (Member m) e i);
    all = λ n i. inr i;
  }

  told_more : (k : PieceInMemory) (ms new : List Meeting) → ((m : Meeting) → Member m ms → Member m new) → AreTold v h s k (λ q. Member q (points_of_meetings ms)) → AreTold v h s k (λ q. Member q (points_of_meetings new))
  told_more k ms new f t = λ d has e q on m later. ⊎_elim (λ i. inl (points_more ms new f q i)) (λ w. inr w) (t d has e q on m later)

  module _ (ms : List Meeting) (i : ℕ) (a : AreAsked v h s ns ms i) (l : i < length ns) (k : PieceInMemory) (here : Member (get_or ns i 0, k) h.rows) where
    abbrev name : ℕ
    name = get_or ns i 0

    rest : (m : ℕ) → Member m (drop i ns) → (m ≡ name) ⊎ Member m (drop (i + 1) ns)
    rest m j = ⊎_elim (λ q. inl q) (λ q. inr (subst (λ (x : ℕ). Member m (drop x ns)) (sym (add-one i)) q)) (subst (Member m) (drop-cons ns i 0 l) j)

    next_asked : (new : List Meeting) → ((m : Meeting) → Member m ms → Member m new) → ((m : Meeting) → Member m new → Contains (meeting_points v s) m.point) → ((m : Meeting) → Member m new → IsThere v m.point m.spot) → AreTold v h s k (λ q. Member q (points_of_meetings new)) → AreAsked v h s ns new (i + 1)
    next_asked new f meets there t = record {
      meets = meets;
      there = there;
      all = λ m j. ⊎_elim
          (λ w. inl (w.0, w.1, told_more w.0 ms new f w.2))
          (λ w. ⊎_elim (λ e. inl (k, subst (λ (x : ℕ). Member (x, k) h.rows) (sym e) here, t)) (λ q. inr q) (rest m w))
          (a.all m j);
    }

    -- it tells nothing
    asked_none : IsToldOf v h s k None → AreAsked v h s ns ms (i + 1)
    asked_none t = next_asked ms (λ m j. j) a.meets a.there (λ d has x q on m later. ⊎_elim (λ w. absurd (none w.0 w.1)) (λ w. inr w) (t.all d has x q on m later))
      where
        none : (m : Meeting) → ◌≡◌ {A = Option Meeting} None (Some m) → ⊥
        none m z = cc

    -- it tells one
    module _ (x : Meeting) (told : IsToldOf v h s k (Some x)) (new : List Meeting) (added : new ≡ ms ++ (x ∷ [])) where
      last : Member x new
      last = subst (Member x) (sym added) (in_right x ms (x ∷ []) (inl (λ j. x)))

      same : (m : Meeting) → Some x ≡ Some m → x ≡ m
      same m z = cc

      found : (q : Point) (m : Meeting) → Some x ≡ Some m → q ≡ m.point → Member q (points_of_meetings new)
      found q m z j = subst (λ (p : Point). Member p (points_of_meetings new)) (sym (j ∙ ap (λ (y : Meeting). y.point) (sym (same m z)))) (in_map (λ (y : Meeting). y.point) x new last)

      only : (m : Meeting) → Member m (x ∷ []) → m ≡ x
      only m (inl w) = w
      only m (inr w) = absurd w

      either : (m : Meeting) → Member m new → Member m ms ⊎ (m ≡ x)
      either m j = ⊎_elim (λ w. inl w) (λ w. inr (only m w)) (in_either m ms (x ∷ []) (subst (Member m) added j))

      asked_one : AreAsked v h s ns new (i + 1)
      asked_one =
          next_asked new
          (λ m j. subst (Member m) (sym added) (in_left m ms (x ∷ []) j))
          (λ m j. ⊎_elim (λ w. a.meets m w) (λ w. subst (λ (y : Meeting). Contains (meeting_points v s) y.point) (sym w) told.meets) (either m j))
          (λ m j. ⊎_elim (λ w. a.there m w) (λ w. subst (λ (y : Meeting). IsThere v y.point y.spot) (sym w) told.there) (either m j))
          (λ d has y q on m later. ⊎_elim (λ w. inl (found q w.0 w.1 w.2)) (λ w. inr w) (told.all d has y q on m later))

    pub next_told : (o : Option Meeting) → IsToldOf v h s k o → (new : List Meeting) → new ≡ ms ++ option_to_list o → AreAsked v h s ns new (i + 1)
    next_told None t new added = subst (λ (xs : List Meeting). AreAsked v h s ns xs (i + 1)) (sym (added ∙ append-nil ms)) (asked_none t)
    next_told (Some x) t new added = asked_one x t new added

  pub all_asked : (ms : List Meeting) (i : ℕ) → AreAsked v h s ns ms i → length ns ≤ i → AreToldOf v h s ns ms
  all_asked ms i a l = record { meets = a.meets; there = a.there; all = λ n j. ⊎_elim (λ w. w) (λ w. absurd (subst (Member n) (drop_all i ns l) w)) (a.all n j) }

-- ---- all meeting points on edges
pub all_on_edges : (v : View) (h : Past) → IsPastOf v h → h.pieces ≡ modelled h.rows → IsDistinct ◌==◌ (names h.rows) → (g : Segment) → AreEnds g → (ns : List ℕ) → AreNamesIn h (bounding_box (span_of_segment g)) ns → (ms : List Meeting) → AreToldOf v h g ns ms → AreAllOnEdges v g ms
all_on_edges v h past is once g ends ns shown ms told = record {
  meets = told.meets;
  there = told.there;
  all = λ d has q on m later.
      let c = course g ends in
      let r = edge_row v h past is d has in
      let P = proper v h past is g c q m in
      let met = met_row g c r.0 (fit_rows v h past is r.0 r.1) q P (on_whole v h past is g c q m) (lies v h past is r.0.0 r.0.1 r.1 d has r.2 q P on) in
      let w = told.all r.0.0 (shown.all r.0 r.1 met) in
      w.2 d has (subst (λ (z : PieceInMemory). IsEdgeOf v h z d) (same_row h.rows r.0.0 r.0.1 w.0 once r.1 w.1) r.2) q on m later;
}
