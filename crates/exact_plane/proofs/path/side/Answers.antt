use Rattle.std.proofs.Common.{◌≡◌, ap, ◌∙◌, arith}
use Rattle.std.specs.Int.{w64}
use Rattle.std.specs.Result.{result_ok}
use Rattle.std.proofs.Math.Facts.{to_z-of_z}
use Rattle.exact_plane.proofs.PathLaws.{side_of}
use Rattle.exact_plane.proofs.path.side.Goals as goal

pub returns : goal.returns
returns c =
    let from = c.requires.from in
    let to = c.requires.to in
    let kept : c.ok.result ≡ result_ok c.new.result = c.ok.ensures.value in
    kept ∙ ap result_ok c.new.ensures.value
    ∙ rw (to_z-of_z {w = w64} {z = c.args.from.0} (omega (arith, from.x)), to_z-of_z {w = w64} {z = c.args.from.1} (omega (arith, from.y)), to_z-of_z {w = w64} {z = c.args.to.0} (omega (arith, to.x)), to_z-of_z {w = w64} {z = c.args.to.1} (omega (arith, to.y)))
    (side_of c.args.from c.args.to from to)
