-- The graph over closed points is plane, and so is what has fewer marks.
use Rattle.std.proofs.Common.{◌≡◌, List, Bool, true, false, not, ◌&&◌, refl, sym, ◌∙◌, subst, inl, inr, ◌⊎◌, ⊎_elim}
use Rattle.std.specs.List.{list_any}
use Rattle.exact_plane.specs.Point.{Point}
use Rattle.exact_plane.specs.PointOrderLaws.{and_true}
use Rattle.plane_graphs.specs.Line.{precedes, same_point, IsProper}
use Rattle.plane_graphs.specs.Ascending.{Member, IsAscending}
use Rattle.plane_graphs.specs.Piece.{Piece}
use Rattle.plane_graphs.specs.Graph.{Mark, Graph, mark_cmp, graph_over, inside, on_edge, collinear}
use Rattle.plane_graphs.specs.Plane.{IsPlane, IsEnd}
use Rattle.plane_graphs.proofs.Lists.{any_out, any_none}
use Rattle.plane_graphs.proofs.Order.{Lt, lt_in, same_out, same_itself}
use Rattle.plane_graphs.proofs.Marks.{Le, le_out, le_cases, IsMark, mark_out, marks_ascend}
use Rattle.plane_graphs.proofs.Closed.{IsClosed, inside_out, inside_in, mark_line}
use Rattle.plane_graphs.proofs.Inner.{Inner, one_edge, inner_in}
use Rattle.integers.proofs.Tests.{not_true}

module _ (vs : List Point) (ks : List Piece) (cl : IsClosed vs ks) where
  pub no_vertex_inside : (m : Mark) → IsMark vs ks m → (p : Point) → Member p vs → inside p m ≡ true → ⊥
  no_vertex_inside m h p n e = let f = inside_out p m e in h.next.none p n f.0 f.1 (sym (mark_line vs ks cl m h p (cl.proper p n)) ∙ f.2)

  -- a vertex on an edge is an end of it
  end_of : (m : Mark) → IsMark vs ks m → (t : Point) → Member t vs → Le m.low t → Le t m.high → collinear m.low m.high t ≡ true → IsEnd t m
  end_of m h t n a b c = ⊎_elim (λ e. inl (sym e)) (λ l. ⊎_elim (λ e. inr e) (λ g. absurd (no_vertex_inside m h t n (inside_in t m l g c))) (le_cases t m.high b)) (le_cases m.low t a)

  inner_of : (m : Mark) → IsMark vs ks m → (t : Point) → IsProper t → (Member t vs → ⊥) → Le m.low t → Le t m.high → collinear m.low m.high t ≡ true → Inner vs ks t m
  inner_of m h t pt new a b c =
      let l : Lt m.low t = ⊎_elim (λ e. absurd (new (subst (λ x. Member x vs) e h.low_in))) (λ l. l) (le_cases m.low t a) in
      let g : Lt t m.high = ⊎_elim (λ e. absurd (new (subst (λ x. Member x vs) (sym e) h.high_in))) (λ l. l) (le_cases t m.high b) in
      inner_in vs ks cl t pt new m h (inside_in t m l g c)

  edge_out : (t : Point) (m : Mark) → on_edge t m ≡ true → Le m.low t × Le t m.high × (collinear m.low m.high t ≡ true)
  unfolding on_edge
  edge_out t m h =
      let a = and_true (not (precedes t m.low) && not (precedes m.high t)) (collinear m.low m.high t) h in
      let b = and_true (not (precedes t m.low)) (not (precedes m.high t)) a.0 in
      (le_out m.low t b.0, le_out t m.high b.1, a.1)

  apart_by : (m n : Mark) → IsMark vs ks m → IsMark vs ks n → (t : Point) → IsProper t → on_edge t m ≡ true → on_edge t n ≡ true → (b : Bool) → list_any (same_point t) vs ≡ b → ((m.low ≡ n.low) × (m.high ≡ n.high)) ⊎ (IsEnd t m × IsEnd t n)
  apart_by m n h g t pt e f true y =
      let a = edge_out t m e in
      let b = edge_out t n f in
      let w = any_out (same_point t) vs y in
      let here : Member t vs = subst (λ q. Member q vs) (sym (same_out t w.0 w.2)) w.1 in
      inr (end_of m h t here a.0 a.1 a.2, end_of n g t here b.0 b.1 b.2)
  apart_by m n h g t pt e f false y =
      let a = edge_out t m e in
      let b = edge_out t n f in
      let new : Member t vs → ⊥ = λ k. any_none (same_point t) t vs y k (same_itself t) in
      inl (one_edge vs ks cl t pt new m n (inner_of m h t pt new a.0 a.1 a.2) (inner_of n g t pt new b.0 b.1 b.2))

  pub plane_over : (pins : List Point) → IsPlane (graph_over vs ks pins)
  plane_over pins = record {
    points_ascend = cl.ascend;
    marks_ascend = marks_ascend vs ks;
    proper = cl.proper;
    low_in = λ m h. (mark_out vs ks m h).low_in;
    high_in = λ m h. (mark_out vs ks m h).high_in;
    forward = λ m h. lt_in (mark_out vs ks m h).next.lt;
    clear = λ m h p n. not_true (inside p m) (λ e. no_vertex_inside m (mark_out vs ks m h) p n e);
    apart = λ m n h g t pt e f. apart_by m n (mark_out vs ks m h) (mark_out vs ks n g) t pt e f (list_any (same_point t) vs) refl;
  }

-- fewer marks, and other pins
pub plane_part : (g : Graph) → IsPlane g → (ms : List Mark) (pins : List Point) → IsAscending mark_cmp ms → ((m : Mark) → Member m ms → Member m g.marks) → IsPlane (record { points = g.points; marks = ms; pins = pins })
plane_part g pl ms pins a f = record {
  points_ascend = pl.points_ascend;
  marks_ascend = a;
  proper = pl.proper;
  low_in = λ m h. pl.low_in m (f m h);
  high_in = λ m h. pl.high_in m (f m h);
  forward = λ m h. pl.forward m (f m h);
  clear = λ m h. pl.clear m (f m h);
  apart = λ m n h k. pl.apart m n (f m h) (f n k);
}
