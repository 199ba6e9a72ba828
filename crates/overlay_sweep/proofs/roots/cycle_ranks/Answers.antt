use Rattle.slab_laws.specs.SpansDrawn.{drawn}
use Rattle.overlay_sweep.proofs.RootLists.{ordered, all_ranks}
use Rattle.overlay_sweep.proofs.roots.cycle_ranks.Goals as goal

pub ranks_of-requires : goal.ranks_of-requires
ranks_of-requires c = ordered (drawn c.args.points.now c.args.edges.now) c.args.roots.now c.requires.roots

pub returns-clause-ranks : goal.returns-clause-ranks
returns-clause-ranks c = all_ranks (drawn c.args.points.now c.args.edges.now) c.requires.plane c.args.roots.now c.in_ok-ranks.ranks.items c.requires.roots c.in_ok-ranks.ensures
