use Rattle.std.proofs.Common.{◌≡◌, ◌++◌, map, ap, ap₂, sym, ◌∙◌, subst}
use Rattle.std.specs.List.{flat_map}
use Rattle.plane_graphs.specs.Graph.{ends}
use Rattle.slab_laws.specs.Pieces.{piece_of, present_of}
use Rattle.present_graphs.specs.Spans.{span_of_piece, AreFit, AreSpans}
use Rattle.present_graphs.specs.Shared.{IsSharedByTwo, IsGrownBy}
use Rattle.present_graphs.proofs.Crossed.{vertices_done}
use Rattle.present_graphs.proofs.vertices.vertices_of.Goals as goal

pub spans_of-requires : goal.spans_of-requires
spans_of-requires c = subst (λ ks. AreFit (map piece_of ks)) (sym c.as_slice.ensures) c.requires.piece

pub returns : goal.returns
returns c =
    let p = present_of c.args.present.now in
    let old = c.extend_from_slice.new.self.items in
    let new = c.add_all_crossings.new.points.items in
    let spans : c.in_ok-spans.spans.items ≡ map span_of_piece (present_of c.args.present.now).pieces = c.in_ok-spans.ensures.items ∙ ap (λ ks. map span_of_piece (map piece_of ks)) c.as_slice.ensures in
    let start = ap₂ (λ ps ks. ps ++ flat_map ends (map piece_of ks)) c.new-points.ensures.items c.as_slice-2.ensures in
    let was = c.in_ok-extend_from_slice.ensures.items ∙ ap₂ ◌++◌ (c.in_ok-add_ends.ensures ∙ start) c.as_slice-3.ensures in
    c.arrange_points.ensures
    ∙ vertices_done p c.requires (subst AreSpans spans c.in_ok-spans.ensures.spans) old new was (subst (λ ss. IsGrownBy (IsSharedByTwo ss) old new) (c.deref.ensures.value ∙ spans) c.in_ok-add_all_crossings.ensures)
