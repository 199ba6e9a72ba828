use Rattle.std.proofs.Common.{ap, ◌∙◌, ◌++◌}
use Rattle.library_tour.specs.Parcels.{copied}
use Rattle.library_tour.proofs.LandMoved.{shared}
use Rattle.library_tour.proofs.parcels.Parcels.share.Goals as goal

pub returns : goal.returns
returns c =
    let ls = c.args.self.now.land.items in
    shared c.args.from c.args.fresh ls c.append.new.self.items (c.in_ok-append.ensures.items ∙ ap (λ ks. ls ++ ks) (c.in_ok-copies.ensures ∙ ap (copied c.args.from c.args.fresh) c.deref.ensures.value))
