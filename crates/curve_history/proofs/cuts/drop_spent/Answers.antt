use Rattle.std.proofs.Common.{cond, sym, ap, ◌∷◌, [], ◌∙◌}
use Rattle.slab_laws.specs.Pieces.{piece_of}
use Rattle.curve_history.specs.Cuts.{kept_whole}
use Rattle.curve_history.proofs.Replaced.{gone_as, same_as}
use Rattle.curve_history.proofs.cuts.drop_spent.Goals as goal

pub returns-then-not-leaves_rest-clause-rows : goal.returns-then-not-leaves_rest-clause-rows
returns-then-not-leaves_rest-clause-rows c = gone_as (kept_whole c.args.p.now c.args.q.now) c.args.pieces.now c.remove.new.self c.args.name c.piece.result.now c.laws.ensures.once c.piece.ensures c.remove.ensures.rows (ap (λ b. cond b (piece_of c.piece.result.now ∷ []) []) (sym c.leaves_rest.ensures ∙ c.if-not-leaves_rest.true))

pub returns-else-not-leaves_rest-clause-rows : goal.returns-else-not-leaves_rest-clause-rows
returns-else-not-leaves_rest-clause-rows c = same_as (kept_whole c.args.p.now c.args.q.now) c.args.pieces.now c.args.name c.piece.result.now c.laws.ensures.once c.piece.ensures (ap (λ b. cond b (piece_of c.piece.result.now ∷ []) []) (sym c.leaves_rest.ensures ∙ c.if-not-leaves_rest.false))
