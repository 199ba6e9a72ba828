-- A layer is laid into both layers together.
use Rattle.std.proofs.Common.{List, ◌≡◌, ℕ, Bool, true, false, not, ◌&&◌, refl, sym, ap, ◌∙◌, subst, inl, inr}
use Rattle.exact_plane.specs.Point.{Point}
use Rattle.exact_plane.specs.PointOrderLaws.{and_true}
use Rattle.plane_graphs.specs.Line.{IsProper, precedes}
use Rattle.plane_graphs.specs.Piece.{Piece, Present, along, on}
use Rattle.plane_graphs.specs.Fit.{IsFit}
use Rattle.plane_graphs.specs.Ascending.{Member}
use Rattle.plane_graphs.specs.Graph.{Edge, mark, graph, vertices, edges, collinear}
use Rattle.plane_graphs.specs.Meaning.{IsVertexOf}
use Rattle.plane_graphs.proofs.Ascending.{to_member, from_member}
use Rattle.plane_graphs.proofs.Lists.{and_in, any_in, any_out, clash}
use Rattle.plane_graphs.proofs.Order.{Lt, lt_in, lt_out, Tri, tri}
use Rattle.plane_graphs.proofs.Order.Tri.{less, same, more}
use Rattle.plane_graphs.proofs.Marks.{Le, le_same, le_lt, le_trans, le_lt_lt, lt_le_lt, le_in, le_out, On, on_out, on_in, on_between, Next, mark_out, mark_in}
use Rattle.plane_graphs.proofs.Closed.{IsClosed, last_passing, first_passing}
use Rattle.plane_graphs.proofs.Vertices.{vertices_closed}
use Rattle.plane_graphs.proofs.Lines.{geometry}
use Rattle.plane_graphs.proofs.Meaning.{vertices_are, edge_out, edge_in}
use Rattle.integers.proofs.Tests.{not_true}
use Rattle.slab_laws.specs.Overlay.{renamed, red_name, blue_name, both, plane_of, runs_along, has_curve_along}
use Rattle.overlay_laws.proofs.Both.{same_along, same_on, red_in, blue_in, pin_in}
use Rattle.overlay_laws.proofs.Laid.{IsCutPart, IsPartOf, IsLaid}

-- ---- an edge of a present joins neighbouring vertices on one of its pieces
pub record IsStretch (p : Present) (e : Edge) : Type 0 where
  pub piece : Piece
  pub here : Member piece p.pieces
  pub low_in : Member e.low (vertices p)
  pub high_in : Member e.high (vertices p)
  pub next : Next (vertices p) piece e.low e.high

pub stretch_out : (p : Present) (e : Edge) → Member e (edges (graph p)) → IsStretch p e
unfolding graph
stretch_out p e h =
    let w = edge_out (graph p) e h in
    let m = mark_out (vertices p) p.pieces w.0 w.1 in
    subst (IsStretch p) (sym w.2) (record { piece = m.piece; here = m.here; low_in = m.low_in; high_in = m.high_in; next = m.next })

pub stretch_in : (p : Present) (e : Edge) → IsStretch p e → Member e (edges (graph p))
unfolding graph
stretch_in p e s = edge_in (graph p) (mark e.low e.high s.piece.curve) (mark_in (vertices p) p.pieces (mark e.low e.high s.piece.curve) (record { piece = s.piece; here = s.here; curve = refl; low_in = s.low_in; high_in = s.high_in; next = s.next }))

-- ---- the last and the first of the vertices on a piece that pass a test
pub record IsLastOn (vs : List Point) (k : Piece) (ok : Point → Bool) (x : Point) : Type 0 where
  pub here : Member x vs
  pub on_piece : On k x
  pub passes : ok x ≡ true
  pub last : (v : Point) → Member v vs → On k v → ok v ≡ true → Le v x

pub record IsFirstOn (vs : List Point) (k : Piece) (ok : Point → Bool) (x : Point) : Type 0 where
  pub here : Member x vs
  pub on_piece : On k x
  pub passes : ok x ≡ true
  pub first : (v : Point) → Member v vs → On k v → ok v ≡ true → Le x v

module _ (vs : List Point) (k : Piece) (ok : Point → Bool) (p : Point) (m : Member p vs) (o : On k p) (h : ok p ≡ true) where
  last_on : (x : Point) × IsLastOn vs k ok x
  last_on =
      let x = last_passing (λ v. on k v && ok v) vs (p, m, and_in (on_in k p o) h) in
      let a = and_true (on k x.0) (ok x.0) x.1.passes in
      (x.0, record { here = x.1.here; on_piece = on_out k x.0 a.0; passes = a.1; last = λ v n b c. x.1.last v n (and_in (on_in k v b) c) })

  first_on : (x : Point) × IsFirstOn vs k ok x
  first_on =
      let x = first_passing (λ v. on k v && ok v) vs (p, m, and_in (on_in k p o) h) in
      let a = and_true (on k x.0) (ok x.0) x.1.passes in
      (x.0, record { here = x.1.here; on_piece = on_out k x.0 a.0; passes = a.1; first = λ v n b c. x.1.first v n (and_in (on_in k v b) c) })

-- ---- a layer is a part of a present: the present has its pieces under other numbers, and its pins
pub record IsLayerOf (layer whole : Present) : Type 0 where
  pub name : ℕ → ℕ
  pub piece_in : (k : Piece) → Member k layer.pieces → Member (renamed name k) whole.pieces
  pub pin_in : (r : Point) → Member r layer.pins → Member r whole.pins

pub red_layer : (red blue : Present) → IsLayerOf red (both red blue)
red_layer red blue = record { name = red_name; piece_in = red_in red blue; pin_in = λ r h. pin_in red blue r (inl h) }

pub blue_layer : (red blue : Present) → IsLayerOf blue (both red blue)
blue_layer red blue = record { name = blue_name; piece_in = blue_in red blue; pin_in = λ r h. pin_in red blue r (inr h) }

module _ (layer whole : Present) (fl : IsFit layer) (fw : IsFit whole) (part : IsLayerOf layer whole) where
  -- ---- vertices
  vertex_of : (x : Point) → IsVertexOf layer x → IsVertexOf whole x
  vertex_of x (inl e) = inl (record { piece = renamed part.name e.piece; piece_in = part.piece_in e.piece e.piece_in; end = e.end })
  vertex_of x (inr (inl h)) = inr (inl (part.pin_in x h))
  vertex_of x (inr (inr m)) =
      inr (inr (record {
        one = renamed part.name m.one;
        other = renamed part.name m.other;
        one_in = part.piece_in m.one m.one_in;
        other_in = part.piece_in m.other m.other_in;
        lines_differ = m.lines_differ;
        proper = m.proper;
        on_one = same_on part.name m.one x ∙ m.on_one;
        on_other = same_on part.name m.other x ∙ m.on_other;
      }))

  pub vertex_kept : (x : Point) → Member x (vertices layer) → Member x (vertices whole)
  vertex_kept x h = (vertices_are whole x fw).1 (vertex_of x ((vertices_are layer x fl).0 h))

  dl : IsClosed (vertices layer) layer.pieces
  dl = vertices_closed geometry layer fl

  cl : IsClosed (vertices whole) whole.pieces
  cl = vertices_closed geometry whole fw

  -- ---- on a piece of the layer
  pub on_name : (k : Piece) (t : Point) → On k t → On (renamed part.name k) t
  on_name k t o = record { line = same_along part.name k t ∙ o.line; low = o.low; high = o.high }

  -- an edge of the layer, cut where the test turns: at its last vertex of the whole before the turn, and the next one
  cut_part : (f : Edge) → IsStretch layer f → (turn : Point → Bool) → turn f.low ≡ true → turn f.high ≡ false → IsCutPart (plane_of whole) (has_curve_along layer) f turn
  unfolding has_curve_along
  cut_part f s turn a b =
      let k = s.piece in
      let low_in = vertex_kept f.low s.low_in in
      let high_in = vertex_kept f.high s.high_in in
      let last = last_on (vertices whole) k (λ v. not (precedes f.high v) && turn v) f.low low_in s.next.at_p (and_in (le_in {p = f.low} {q = f.high} (le_lt s.next.lt)) a) in
      let x = last.0 in
      let is_x = last.1 in
      let passes = and_true (not (precedes f.high x)) (turn x) is_x.passes in
      let x_high = ended turn x f.high (le_out x f.high passes.0) passes.1 b in
      let next = first_on (vertices whole) k (λ v. precedes x v) f.high high_in s.next.at_q (lt_in {p = x} {q = f.high} x_high) in
      let y = next.0 in
      let is_y = next.1 in
      let x_y = lt_out x y is_y.passes in
      let y_high = is_y.first f.high high_in s.next.at_q (lt_in {p = x} {q = f.high} x_high) in
      let line : (p q t : Point) → IsProper p → IsProper q → IsProper t → Lt p q → On k p → On k q → collinear p q t ≡ along k t =
      λ p q t P Q T l i j. (dl.straight k s.here).span p q t P Q T l i.line j.line in
      let low = dl.proper f.low s.low_in in
      let high = dl.proper f.high s.high_in in
      let px = cl.proper x is_x.here in
      let py = cl.proper y is_y.here in
      let e : Edge = record { low = x; high = y } in
      let at : IsStretch whole e = record {
        piece = renamed part.name k;
        here = part.piece_in k s.here;
        low_in = is_x.here;
        high_in = is_y.here;
        next = record {
          lt = x_y;
          at_p = on_name k x is_x.on_piece;
          at_q = on_name k y is_y.on_piece;
          none = λ r n l m o. (is_y.first r n (on_between k x r y is_x.on_piece is_y.on_piece (le_lt l) (le_lt m) (sym (same_along part.name k r) ∙ o)) (lt_in {p = x} {q = r} l)).never m;
        };
      } in
      record {
        part = e;
        part_in = from_member (edges (graph whole)) e (stretch_in whole e at);
        is_own = any_in (runs_along e) k layer.pieces s.here (and_in (on_in k x is_x.on_piece) (on_in k y is_y.on_piece));
        is_within = record {
          first = is_x.last f.low low_in s.next.at_p (and_in (le_in {p = f.low} {q = f.high} (le_lt s.next.lt)) a);
          last = y_high;
          low_on = line f.low f.high x low high px s.next.lt s.next.at_p s.next.at_q ∙ is_x.on_piece.line;
          high_on = line f.low f.high y low high py s.next.lt s.next.at_p s.next.at_q ∙ is_y.on_piece.line;
        };
        on_part = λ t T o. line x y t px py T x_y is_x.on_piece is_y.on_piece ∙ sym (line f.low f.high t low high T s.next.lt s.next.at_p s.next.at_q) ∙ o;
        before = passes.1;
        after = not_true (turn y) (λ h. (is_x.last y is_y.here is_y.on_piece (and_in (le_in {p = y} {q = f.high} y_high) h)).never x_y);
      }
    where
      ended : (turn : Point → Bool) (x q : Point) → Le x q → turn x ≡ true → turn q ≡ false → Lt x q
      ended turn x q h a b = by (tri x q)
        where
          by : Tri x q → Lt x q
          by (less l) = l
          by (same i) = clash (ap turn (sym i) ∙ a) b
          by (more l) = absurd (h.never l)

  -- ---- an edge with a curve of the layer is a part of an edge of the layer
  whole_of : (e : Edge) → IsStretch whole e → has_curve_along layer e ≡ true → IsPartOf (plane_of layer) e
  unfolding has_curve_along
  whole_of e s own =
      let w = any_out (runs_along e) layer.pieces own in
      let k = w.0 in
      let K = w.1 in
      let ends = and_true (on k e.low) (on k e.high) w.2 in
      let on_low = on_out k e.low ends.0 in
      let on_high = on_out k e.high ends.1 in
      let low = cl.proper e.low s.low_in in
      let high = cl.proper e.high s.high_in in
      let line : (p q t : Point) → IsProper p → IsProper q → IsProper t → Lt p q → On k p → On k q → collinear p q t ≡ along k t =
      λ p q t P Q T l i j. (dl.straight k K).span p q t P Q T l i.line j.line in
      let none : (r : Point) → Member r (vertices whole) → Lt e.low r → Lt r e.high → along k r ≡ true → ⊥ =
      λ r n l u a.
      let R = cl.proper r n in
      s.next.none r n l u (sym ((cl.straight s.piece s.here).span e.low e.high r low high R s.next.lt s.next.at_p.line s.next.at_q.line) ∙ line e.low e.high r low high R s.next.lt on_low on_high ∙ a) in
      let long = le_trans on_low.low on_low.high in
      let last = last_on (vertices layer) k (λ v. not (precedes e.low v)) k.from (dl.from_in k K) (record { line = dl.from_on k K; low = le_same k.from; high = long }) (le_in {p = k.from} {q = e.low} on_low.low) in
      let next = first_on (vertices layer) k (λ v. not (precedes v e.high)) k.to (dl.to_in k K) (record { line = dl.to_on k K; low = long; high = le_same k.to }) (le_in {p = e.high} {q = k.to} on_high.high) in
      let x = last.0 in
      let y = next.0 in
      let is_x = last.1 in
      let is_y = next.1 in
      let x_low = le_out x e.low is_x.passes in
      let high_y = le_out e.high y is_y.passes in
      let x_y = le_lt_lt {p = x} {q = e.low} {r = y} x_low (lt_le_lt {p = e.low} {q = e.high} {r = y} s.next.lt high_y) in
      let px = dl.proper x is_x.here in
      let py = dl.proper y is_y.here in
      let f : Edge = record { low = x; high = y } in
      let at : IsStretch layer f = record {
        piece = k;
        here = K;
        low_in = is_x.here;
        high_in = is_y.here;
        next = record {
          lt = x_y;
          at_p = is_x.on_piece;
          at_q = is_y.on_piece;
          none = λ r n l u a.
              let on_r = on_between k x r y is_x.on_piece is_y.on_piece (le_lt l) (le_lt u) a in
              before r (λ i. (is_x.last r n on_r (le_in {p = r} {q = e.low} i)).never l) (λ i. (is_y.first r n on_r (le_in {p = e.high} {q = r} i)).never u) (λ b c. none r (vertex_kept r n) b c a);
        };
      } in
      record {
        whole = f;
        whole_in = from_member (edges (graph layer)) f (stretch_in layer f at);
        is_within = record {
          first = x_low;
          last = high_y;
          low_on = line x y e.low px py low x_y is_x.on_piece is_y.on_piece ∙ on_low.line;
          high_on = line x y e.high px py high x_y is_x.on_piece is_y.on_piece ∙ on_high.line;
        };
      }
    where
      before : (r : Point) → (Le r e.low → ⊥) → (Le e.high r → ⊥) → (Lt e.low r → Lt r e.high → ⊥) → ⊥
      before r a b c = by (tri e.low r) (tri r e.high)
        where
          by : Tri e.low r → Tri r e.high → ⊥
          by (less l) (less u) = c l u
          by (less l) (same i) = b (subst (λ z. Le e.high z) (sym i) (le_same e.high))
          by (less l) (more u) = b (le_lt u)
          by (same i) u = a (subst (λ z. Le z e.low) i (le_same e.low))
          by (more l) u = a (le_lt l)

  pub layer_laid : IsLaid (plane_of layer) (plane_of whole) (has_curve_along layer)
  unfolding graph
  layer_laid = record {
    proper = λ v h. cl.proper v (to_member (vertices whole) v h);
    forward = λ e h. (stretch_out whole e (to_member (edges (graph whole)) e h)).next.lt;
    vertex = λ v h. from_member (vertices whole) v (vertex_kept v (to_member (vertices layer) v h));
    cut = λ f h turn a b. cut_part f (stretch_out layer f (to_member (edges (graph layer)) f h)) turn a b;
    along = λ e h own. whole_of e (stretch_out whole e (to_member (edges (graph whole)) e h)) own;
  }
