use Rattle.std.proofs.Common.{◌≡◌, ◌++◌, map, refl, sym, ap, ◌∙◌}
use Rattle.std.proofs.lemmas.List.{append-nil}
use Rattle.exact_plane.specs.Span.{Span}
use Rattle.plane_graphs.specs.Piece.{on}
use Rattle.slab_laws.specs.Pieces.{piece_of}
use Rattle.present_graphs.specs.Marks.{mark_of}
use Rattle.present_graphs.specs.Spans.{lies_on}
use Rattle.present_graphs.proofs.Chains.{none_left, point_passed, point_first, point_next}
use Rattle.present_graphs.proofs.OnSpans.{lies_on-is}
use Rattle.present_graphs.proofs.marks.add_marks.Goals.{then-holds, in-Some+in_ok-push, in_default, else-holds}
use Rattle.present_graphs.proofs.marks.add_marks.Goals as goal

pub loop-point-preserved : goal.loop-point-preserved
loop-point-preserved c =
    let k = piece_of c.args.piece.now in
    let vs = c.args.points.now in
    let i = c.loop-point.point-index in
    let q = c.point-item.result in
    let h = c.loop-point-test.true in
    let e = c.point-item.is in
    let now = c.loop-point.marks.items in
    let new = c.if-holds.marks.items in
    let on_it : on (piece_of c.args.piece.now) c.point-item.result ≡ c.holds.result = sym (c.holds.ensures ∙ ap (λ (s : Span). lies_on s q) c.span_of-span.ensures.value ∙ lies_on-is k q) in
    elim c.if-holds.branch [
      | then-holds w ↦ elim w.match-last.branch [
        | in-Some+in_ok-push v ↦
            point_next k vs i q h e now new c.loop-point.last _ c.loop-point.invariant c.if-holds.last v.in-Some.low _ (on_it ∙ w.if-holds.true) v.in-Some.is refl (ap (λ ms. ms.items) (w.marks-is ∙ v.marks-is) ∙ v.in_ok-push.ensures.items) w.last-is
        | in_default v ↦
            point_first k vs i q h e now new c.loop-point.last _ c.loop-point.invariant c.if-holds.last (on_it ∙ w.if-holds.true) v.in_default.is (ap (λ ms. ms.items) (w.marks-is ∙ v.marks-is)) w.last-is
      ]
      | else-holds w ↦
          point_passed k vs i q h e now new c.loop-point.last _ c.loop-point.invariant c.if-holds.last (on_it ∙ w.if-holds.false) (ap (λ ms. ms.items) w.marks-is) w.last-is
    ]

pub returns : goal.returns
returns c =
    let ms = map mark_of c.loop-point.marks.items in
    sym (append-nil ms) ∙ ap (λ ns. ms ++ ns) (sym (none_left (piece_of c.args.piece.now) c.loop-point.last c.args.points.now c.loop-point.point-index c.loop-point-test.false)) ∙ c.loop-point.invariant
