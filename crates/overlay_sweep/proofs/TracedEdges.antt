-- What a sweep leaves of a present, with its edges as parts of the lines of pieces, is the present's graph.
use Rattle.std.proofs.Common.{◌≡◌, ◌<◌, ℕ, ◌+◌, List, [], ◌∷◌, ◌++◌, map, take, length, get_or, ap, sym, ◌∙◌, subst}
use Rattle.std.proofs.lemmas.List.{map_push}
use Rattle.exact_plane.specs.Point.{Point}
use Rattle.exact_plane.specs.Span.{Span}
use Rattle.plane_graphs.specs.Ascending.{Member, ascending}
use Rattle.plane_graphs.specs.Graph.{Edge, graph, edges}
use Rattle.plane_graphs.specs.Piece.{Present}
use Rattle.plane_graphs.proofs.Ascending.{Member-ascending, ascending-Member}
use Rattle.plane_graphs.proofs.Lists.{of_map}
use Rattle.plane_graphs.proofs.Loops.{mapped}
use Rattle.plane_graphs.proofs.Sorting.{member_at, any_default}
use Rattle.present_graphs.specs.Spans.{span_of_piece, AreSpans}
use Rattle.slab_laws.specs.Overlay.{plane_of}
use Rattle.slab_laws.specs.SpansDrawn.{drawn, edge_of}
use Rattle.sweep_events.specs.Places.{nowhere, AreSpans as AreSpansByPlace}
use Rattle.sweep_graphs.specs.declared.edges.EdgeEnds.{EdgeEnds}
use Rattle.sweep_graphs.specs.declared.trace.Stretch.{Stretch}
use Rattle.sweep_graphs.specs.declared.trace.Trace.{Trace}
use Rattle.sweep_graphs.specs.Edges.{ends_of, ends_cmp, stretch_cmp, edge_between}
use Rattle.sweep_graphs.specs.TraceLaws.{IsTraceOf}
use Rattle.sweep_graphs.specs.Traces.{IsTrace}
use Rattle.sweep_graphs.proofs.EdgeOrders.{ends_cmp_total, stretch_cmp_total, stretch_cmp_exact}
use Rattle.overlay_sweep.specs.EdgeSpans.{IsOnLine, AreOnLines, AreAlongSome}

-- spans by membership are spans by place
pub by_place : (ss : List Span) → AreSpans ss → AreSpansByPlace ss
by_place ss h i l = h _ (member_at ss i nowhere l)

-- a stretch runs along each edge
pub along_some : (ts ss : List Stretch) (es : List EdgeEnds) → ss ≡ ascending stretch_cmp ts → es ≡ ascending ends_cmp (map ends_of ts) → AreAlongSome ss es
along_some ts ss es a b e m =
    let s = of_map ends_of e ts (Member-ascending ends_cmp ends_cmp_total e (map ends_of ts) (subst (λ (xs : List EdgeEnds). Member e xs) b m)) in
    (s.0, subst (λ (xs : List Stretch). Member s.0 xs) (sym a) (ascending-Member stretch_cmp stretch_cmp_total s.0 ts (λ x y _ _ q. stretch_cmp_exact x y q) s.1), sym s.2)

-- the span of one more edge
pub one_more : (points : List Point) (es : List EdgeEnds) (i : ℕ) (d : EdgeEnds) (old new : List Span) (s : Span) → i < length es → edge_of s ≡ edge_between points (get_or es i d) → new ≡ old ++ s ∷ [] → map edge_of old ≡ map (edge_between points) (take i es) → map edge_of new ≡ map (edge_between points) (take (i + 1) es)
one_more points es i d old new s h e m n =
    mapped (edge_between points) es i (get_or es i d) (map edge_of old) (map edge_of new) h (any_default es i d (get_or es i d) h) n
    (ap (map edge_of) m ∙ map_push edge_of old s ∙ ap (λ (f : Edge). map edge_of old ++ f ∷ []) e)

module _ (p : Present) (t : Trace) where
  module _ (h : IsTrace (map span_of_piece p.pieces) p.pins t) where
    on_line : (s : Stretch) → Member s t.stretches → IsOnLine (map span_of_piece p.pieces) t.points s
    on_line s m =
        let w = h.sound s m in
        record {
          low_in = w.low_in;
          high_in = w.high_in;
          piece_in = w.step.within;
          way = record { ascending = w.step.ahead; lower_on = w.step.first.1.on; upper_on = w.step.second.1.on };
        }

    -- each stretch is a part of its piece's line
    pub on_lines : (pieces : List Span) (points : List Point) (ss : List Stretch) → pieces ≡ map span_of_piece p.pieces → points ≡ t.points → ss ≡ ascending stretch_cmp t.stretches → AreOnLines pieces points ss
    on_lines pieces points ss a b c s m =
        subst (λ (xs : List Span). IsOnLine xs points s) (sym a)
        (subst (λ (xs : List Point). IsOnLine (map span_of_piece p.pieces) xs s) (sym b)
        (on_line s (Member-ascending stretch_cmp stretch_cmp_total s t.stretches (subst (λ (xs : List Stretch). Member s xs) c m))))

  module _ (h : IsTraceOf p t) (points : List Point) (spans : List Span) (es : List EdgeEnds) (at : points ≡ t.points) (told : map edge_of spans ≡ map (edge_between points) es) (all : es ≡ ascending ends_cmp (map ends_of t.stretches)) where
    pub edges_are : map edge_of spans ≡ edges (graph p)
    edges_are = told ∙ (λ i. map (edge_between (at i)) (all i)) ∙ h.edges

    -- the points and the spans are drawn as the graph
    pub drawn_is : drawn points spans ≡ plane_of p
    unfolding graph
    drawn_is = λ i. record { vertices = (at ∙ h.points) i; edges = edges_are i }
