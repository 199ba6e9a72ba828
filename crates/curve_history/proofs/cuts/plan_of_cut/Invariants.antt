use Rattle.std.proofs.Common.{◌≡◌, ◌++◌, length, map}
use Rattle.slab_laws.specs.Pieces.{piece_of}
use Rattle.curve_pieces.specs.PieceRows.{items}
use Rattle.curve_history.specs.Cuts.{IsPlanOfCut}
use Rattle.curve_history.proofs.cuts.plan_of_cut.Given as goal

abbrev pub invariant-each : goal.invariant-each
invariant-each l = record {
  plan : IsPlanOfCut l.p l.q (map piece_of (map (λ x. x.now) l.yielded)) l.plan;
  all : items l.pieces ≡ map (λ x. x.now) l.yielded ++ l.piece-iterator;
  place : l.place ≡ length l.yielded;
}
