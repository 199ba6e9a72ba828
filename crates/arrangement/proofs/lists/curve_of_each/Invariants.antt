use Rattle.std.proofs.Common.{◌≡◌, ◌++◌, map}
use Rattle.slab_laws.specs.Pieces.{piece_of}
use Rattle.arrangement.proofs.lists.curve_of_each.Given as goal

-- the curves of the pieces so far, and then those of the pieces to come
abbrev pub invariant-loop-piece : goal.invariant-loop-piece
invariant-loop-piece l = map (λ c. c.0) l.curves.items ++ map (λ k. k.curve) (map piece_of l.piece-iterator) ≡ map (λ k. k.curve) l.history.pieces
