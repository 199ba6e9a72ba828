use Rattle.std.proofs.Common.{◌∙◌, sym}
use Rattle.exact_plane.specs.declared.sides.Sign.TheVariants.{Minus, Zero, Plus}
use Rattle.locate_trapezoid.proofs.Asked.{looked_span, looked_side}
use Rattle.locate_trapezoid.proofs.arrival.compare_side.Goals as goal

pub returns-in-Minus : goal.returns-in-Minus
returns-in-Minus c =
    looked_side c.args.looked.now.source c.args.looked.now.target c.args.looked.now.line c.unwrap-line.result c.args.point.now Minus
    (looked_span c.args.looked.now.source c.args.looked.now.target c.args.looked.now.line c.unwrap-line.result c.unwrap-line.ensures c.laws.ensures c.laws-2.ensures c.laws-3.ensures c.requires) (sym c.in-Minus.is ∙ c.side.ensures)

pub returns-in-Zero : goal.returns-in-Zero
returns-in-Zero c =
    looked_side c.args.looked.now.source c.args.looked.now.target c.args.looked.now.line c.unwrap-line.result c.args.point.now Zero
    (looked_span c.args.looked.now.source c.args.looked.now.target c.args.looked.now.line c.unwrap-line.result c.unwrap-line.ensures c.laws.ensures c.laws-2.ensures c.laws-3.ensures c.requires) (sym c.in-Zero.is ∙ c.side.ensures)

pub returns-in-Plus : goal.returns-in-Plus
returns-in-Plus c =
    looked_side c.args.looked.now.source c.args.looked.now.target c.args.looked.now.line c.unwrap-line.result c.args.point.now Plus
    (looked_span c.args.looked.now.source c.args.looked.now.target c.args.looked.now.line c.unwrap-line.result c.unwrap-line.ensures c.laws.ensures c.laws-2.ensures c.laws-3.ensures c.requires) (sym c.in-Plus.is ∙ c.side.ensures)
