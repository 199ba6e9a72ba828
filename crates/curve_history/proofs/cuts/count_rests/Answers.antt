use Rattle.std.proofs.Common.{refl, ap₂, ◌+◌, ◌∙◌}
use Rattle.slab_laws.specs.Pieces.{piece_of}
use Rattle.curve_history.proofs.Cutting.{parts_count}
use Rattle.curve_history.proofs.cuts.count_rests.Goals as goal

pub returns : goal.returns
returns c =
    ap₂ ◌+◌ c.one_if.ensures c.one_if-2.ensures
    ∙ parts_count (piece_of c.args.piece.now) _ _ _ refl c.requires _ c.comes_before-begins.ensures _ c.comes_before-ends.ensures
