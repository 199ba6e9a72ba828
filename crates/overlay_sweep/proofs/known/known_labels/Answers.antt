use Rattle.std.proofs.Common.{◌≡◌, ◌≢◌, ℕ, ◌<◌, ◌≤◌, List, length, get_or, sym, ap, ◌∙◌, subst}
use Rattle.std.specs.Prelude.{Option, None}
use Rattle.std.proofs.lemmas.List.{length-map}
use Rattle.exact_plane.specs.Span.{IsSpan}
use Rattle.plane_graphs.specs.Ascending.{Member, IsAscending}
use Rattle.plane_graphs.specs.Piece.{Present}
use Rattle.plane_graphs.proofs.Sorting.{member_at}
use Rattle.slab_laws.specs.Pieces.{present_of, piece_of}
use Rattle.slab_laws.specs.SpansDrawn.{edge_of}
use Rattle.sweep_graphs.specs.declared.edges.EdgeEnds.{EdgeEnds}
use Rattle.sweep_graphs.specs.declared.trace.Stretch.{Stretch}
use Rattle.sweep_graphs.specs.Edges.{stretch_cmp}
use Rattle.overlay_sweep.specs.declared.graphs.LayerGraph.{LayerGraph}
use Rattle.overlay_sweep.specs.KnownEdges.{IsOwnAlong}
use Rattle.overlay_sweep.specs.LayerGraphs.{IsLayerGraph}
use Rattle.overlay_sweep.specs.OwnEdges.{passed_at, HasOwnFrom, IsTold}
use Rattle.overlay_sweep.proofs.KnownEdges.{part_at, some_from, known_more, are_known}
use Rattle.overlay_sweep.proofs.OwnEdges.{no_ends, some_along, stretches_up}
use Rattle.overlay_sweep.proofs.known.known_labels.Goals as goal

-- where an edge ends is a vertex
high_there : (w : Present) (whole : LayerGraph) (g : IsLayerGraph w whole) (e : EdgeEnds) → Member e whole.edges.items → e.high < length whole.trace.points
high_there w whole g e m =
    let s = some_along w whole g e m in
    subst (λ (d : EdgeEnds). d.high < length whole.trace.points) s.2 (g.trace.sound s.0 s.1).high_in

-- the same of lists that are equal
still_along : (first n m : ℕ) (ss ts : List Stretch) (ds es : List EdgeEnds) (k : ℕ) (piece : Option ℕ) → n ≡ m → ss ≡ ts → ds ≡ es → IsOwnAlong first n ss (get_or ds k no_ends) piece → IsOwnAlong first m ts (get_or es k no_ends) piece
still_along first n m ss ts ds es k piece a b d h =
    subst (λ x. IsOwnAlong first x ts (get_or es k no_ends) piece) a
    (subst (λ (x : List Stretch). IsOwnAlong first n x (get_or es k no_ends) piece) b
    (subst (λ (x : List EdgeEnds). IsOwnAlong first n ss (get_or x k no_ends) piece) d h))

pub own_along-piece-requires : goal.own_along-piece-requires
own_along-piece-requires c = subst (IsAscending stretch_cmp) (sym c.deref-in-loop-index.ensures.value) (stretches_up c.requires.whole.0 c.args.whole.now c.requires.whole.2)

pub label_along-requires-clause-high : goal.label_along-requires-clause-high
label_along-requires-clause-high c =
    let k = c.requires.whole in
    let es = c.deref-edge-items.result.now in
    let i = c.loop-index.index in
    let e = get_or es i no_ends in
    let m : Member e c.args.whole.now.edges.items = subst (Member e) c.deref-edge-items.ensures.value (member_at es i no_ends c.loop-index-test.true) in
    subst (λ n. e.high < n) (sym c.loop-index.invariant.paired) (high_there k.0 c.args.whole.now k.2 e m)

pub label_along-requires-clause-some : goal.label_along-requires-clause-some
label_along-requires-clause-some c =
    let k = c.requires.whole in
    let layer = present_of c.args.layer.now in
    let whole = c.args.whole.now in
    let ks = c.args.own.now in
    let i = c.loop-index.index in
    let s = c.index-part.result.now in
    let piece = c.own_along-piece.result in
    let is : c.deref-edge-items.result.now ≡ whole.edges.items = c.deref-edge-items.ensures.value in
    let I : i < length whole.edges.items = subst (λ (es : List EdgeEnds). i < length es) is c.loop-index-test.true in
    let p = part_at layer k.0 c.args.first c.requires.fit k.1 whole k.2 k.3 ks c.requires.own c.laws_of_own.ensures i s I in
    let S : IsSpan s = subst IsSpan (sym c.index-part.ensures) (c.laws_of_spans.ensures (get_or whole.spans.items i s) (subst (Member (get_or whole.spans.items i s)) (sym c.deref.ensures.value) p.1)) in
    let along = still_along c.args.first (length c.as_slice-count.result.now) (length layer.pieces) c.deref-in-loop-index.result.now whole.stretches.items c.deref-edge-items.result.now whole.edges.items i piece (ap length c.as_slice-count.ensures ∙ sym (length-map c.args.layer.now.pieces piece_of)) c.deref-in-loop-index.ensures.value is c.own_along-piece.ensures in
    subst (λ (es : List EdgeEnds). piece ≢ None → HasOwnFrom ks (passed_at c.loop-index.passing.items (get_or es i no_ends).low) s) (sym is)
    (some_from layer k.0 c.args.first c.requires.fit k.1 whole k.2 k.3 ks c.requires.own c.laws_of_own.ensures i I c.loop-index.known.items c.loop-index.passing.items c.loop-index.invariant s S (ap edge_of c.index-part.ensures ∙ p.2) piece along)

pub loop-index-preserved : goal.loop-index-preserved
loop-index-preserved c =
    let k = c.requires.whole in
    let layer = present_of c.args.layer.now in
    let whole = c.args.whole.now in
    let ks = c.args.own.now in
    let i = c.loop-index.index in
    let s = c.index-part.result.now in
    let piece = c.own_along-piece.result in
    let old = c.loop-index.passing.items in
    let new = c.label_along.new.passing.items in
    let is : c.deref-edge-items.result.now ≡ whole.edges.items = c.deref-edge-items.ensures.value in
    let I : i < length whole.edges.items = subst (λ (es : List EdgeEnds). i < length es) is c.loop-index-test.true in
    let p = part_at layer k.0 c.args.first c.requires.fit k.1 whole k.2 k.3 ks c.requires.own c.laws_of_own.ensures i s I in
    let S : IsSpan s = subst IsSpan (sym c.index-part.ensures) (c.laws_of_spans.ensures (get_or whole.spans.items i s) (subst (Member (get_or whole.spans.items i s)) (sym c.deref.ensures.value) p.1)) in
    let along = still_along c.args.first (length c.as_slice-count.result.now) (length layer.pieces) c.deref-in-loop-index.result.now whole.stretches.items c.deref-edge-items.result.now whole.edges.items i piece (ap length c.as_slice-count.ensures ∙ sym (length-map c.args.layer.now.pieces piece_of)) c.deref-in-loop-index.ensures.value is c.own_along-piece.ensures in
    let told : IsTold ks old new (get_or whole.edges.items i no_ends).low (get_or whole.edges.items i no_ends).high s piece c.label_along.result = subst (λ (es : List EdgeEnds). IsTold ks old new (get_or es i no_ends).low (get_or es i no_ends).high s piece c.label_along.result) is c.label_along.ensures in
    known_more layer k.0 c.args.first c.requires.fit k.1 whole k.2 k.3 ks c.requires.own c.laws_of_own.ensures i I c.loop-index.known.items old c.loop-index.invariant s S (ap edge_of c.index-part.ensures ∙ p.2) piece c.label_along.result c.push.new.self.items new along told c.in_ok-push.ensures.items

pub returns : goal.returns
returns c = λ w fw g part.
    are_known (present_of c.args.layer.now) w c.args.first c.requires.fit fw c.args.whole.now g part c.args.own.now c.requires.own c.laws_of_own.ensures c.loop-index.index c.loop-index.known.items c.loop-index.passing.items (subst (λ (es : List EdgeEnds). length es ≤ c.loop-index.index) c.deref-edge-items.ensures.value c.loop-index-test.false) c.loop-index.invariant
