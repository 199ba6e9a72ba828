use Rattle.std.proofs.Common.{ℕ, List, subst}
use Rattle.plane_graphs.specs.Ascending.{Member}
use Rattle.exact_plane.specs.Span.{Span}
use Rattle.exact_plane.specs.WholeParts.{bounding_box}
use Rattle.piece_zone.specs.Told.{AreNamesIn, AreToldOf}
use Rattle.piece_zone.proofs.Layers.{all_on_edges}
use Rattle.piece_zone.proofs.pieces.meetings_by_index.Goals as goal

pub meetings_of-requires-clause-named : goal.meetings_of-requires-clause-named
meetings_of-requires-clause-named c = λ n m. c.in_ok-near.ensures.named n (subst (λ (xs : List ℕ). Member n xs) c.deref.ensures.value m)

pub returns : goal.returns
returns c =
    let v = c.args.records.now.graph in
    let h = c.args.history.now in
    let g = c.args.segment.now in
    let e = c.whole-whole.ensures in
    all_on_edges v h c.requires.past c.row_laws.ensures.pieces c.row_laws.ensures.once g e.ends c.in_ok-near.near.items
    (subst (λ (z : Span). AreNamesIn h (bounding_box z) c.in_ok-near.near.items) e.value c.in_ok-near.ensures)
    c.in_ok-meetings.meetings.items
    (subst (λ (xs : List ℕ). AreToldOf v h g xs c.in_ok-meetings.meetings.items) c.deref.ensures.value (c.in_ok-meetings.ensures g e.ends e.value))
