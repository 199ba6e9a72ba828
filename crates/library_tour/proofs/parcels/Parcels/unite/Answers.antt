use Rattle.std.proofs.Common.{ap, ◌∙◌, map}
use Rattle.library_tour.specs.Parcels.{moved_one}
use Rattle.library_tour.proofs.LandMoved.{united}
use Rattle.library_tour.proofs.parcels.Parcels.unite.Goals as goal

pub returns : goal.returns
returns c =
    let ls = c.args.self.now.land.items in
    united c.args.gone c.args.kept ls _ (c.in_ok-land.ensures ∙ ap (map (moved_one c.args.gone c.args.kept)) c.deref.ensures.value)
