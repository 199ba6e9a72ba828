use Rattle.std.proofs.Common.{◌≡◌, sym, ap, subst, ◌∙◌}
use Rattle.slab_laws.specs.Slabs.{left_cell}
use Rattle.slab_laws.specs.Sound.{skeleton_of, dart_in}
use Rattle.face_changes.specs.Kinds.{odd_at}
use Rattle.cycle_writers.specs.declared.moves.Which.{Which}
use Rattle.cycle_writers.specs.Taken.{takes_vertex}
use Rattle.cycle_writers.proofs.moves.Which.takes_vertex.Goals as goal

pub returns-in-Some : goal.returns-in-Some
returns-in-Some c =
    let v = c.args.records.now.graph in
    subst (λ (z : Which). c.parity_within.result ≡ takes_vertex v z c.args.v) (sym c.in-Inside.is)
    (c.parity_within.ensures.cell ∙ ap (λ p. odd_at (skeleton_of v) (dart_in v c.in-Inside.half) (left_cell (skeleton_of v) p)) c.point.ensures)

pub returns-in-None : goal.returns-in-None
returns-in-None c =
    let v = c.args.records.now.graph in
    subst (λ (z : Which). c.parity.result ≡ takes_vertex v z c.args.v) (sym c.in-Inside.is)
    (c.parity.ensures.cell ∙ ap (λ p. odd_at (skeleton_of v) (dart_in v c.in-Inside.half) (left_cell (skeleton_of v) p)) c.point-in-None.ensures)
