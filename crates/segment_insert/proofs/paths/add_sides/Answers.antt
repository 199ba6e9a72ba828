use Rattle.std.proofs.Common.{suc, ◌∷◌, [], ◌++◌, refl, ap, ◌∙◌, arith}
use Rattle.plane_graphs.specs.Piece.{Piece}
use Rattle.segment_insert.proofs.PathSides.{ends_all, one_longer, piece_is, sides_all, sides_first, sides_on}
use Rattle.segment_insert.proofs.paths.add_sides.Goals as goal

pub each-init : goal.each-init
each-init c = record {
  coming = sides_first c.args.history.now.pieces c.args.curve.0 c.args.sides.now;
  many = omega arith;
  room = omega arith;
  names = refl;
  next = refl;
  strands = λ d. refl;
  curves = λ d. refl;
  spare_pairs = omega arith;
}

pub add_piece-requires-clause-few : goal.add_piece-requires-clause-few
add_piece-requires-clause-few c = omega (arith, c.each.invariant.many, c.each-test.true, c.requires.few)

pub add_piece-requires-clause-room : goal.add_piece-requires-clause-room
add_piece-requires-clause-room c = omega (arith, c.each.invariant.room, c.each-test.true)

pub each-preserved : goal.each-preserved
each-preserved c =
    let i = c.each.invariant in
    let e = c.add_piece.ensures in
    let longer = one_longer c.each.history.pieces c.add_piece.new.self.pieces _ e.pieces in
    record {
      coming = sides_on c.args.history.now.pieces c.args.curve.0 c.args.sides.now c.each.history.pieces c.each.place i.coming c.index-sides-place.result c.each-test.true c.index-sides-place.is c.lower-from.ensures.ends c.add_piece.new.self.pieces
          (e.pieces ∙ ap (λ (k : Piece). c.each.history.pieces ++ (k ∷ [])) (piece_is c.args.curve.0 _ (suc c.each.place) c.index-sides-place.result c.lower-from.result c.upper-to.result (omega arith) c.lower-from.ensures.value c.upper-to.ensures));
      many = omega (arith, longer, i.many);
      room = omega (arith, i.room, e.spare_pieces);
      names = e.names ∙ i.names;
      next = e.next ∙ i.next;
      strands = λ d. e.strands d ∙ i.strands d;
      curves = λ d. e.curves d ∙ i.curves d;
      spare_pairs = omega (arith, i.spare_pairs, e.spare_pairs);
    }

pub returns-clause-pieces : goal.returns-clause-pieces
returns-clause-pieces c = sides_all c.args.history.now.pieces c.args.curve.0 c.args.sides.now c.each.history.pieces c.each.place c.each.invariant.coming c.each-test.false

pub returns-clause-names : goal.returns-clause-names
returns-clause-names c = c.each.invariant.names

pub returns-clause-next : goal.returns-clause-next
returns-clause-next c = c.each.invariant.next

pub returns-clause-strands : goal.returns-clause-strands
returns-clause-strands c = c.each.invariant.strands

pub returns-clause-curves : goal.returns-clause-curves
returns-clause-curves c = c.each.invariant.curves

pub returns-clause-ends : goal.returns-clause-ends
returns-clause-ends c = ends_all c.args.history.now.pieces c.args.curve.0 c.args.sides.now c.each.history.pieces c.each.place c.each.invariant.coming c.each-test.false

pub returns-clause-spare_pairs : goal.returns-clause-spare_pairs
returns-clause-spare_pairs c = c.each.invariant.spare_pairs
