use Rattle.slab_laws.proofs.TriangleLemmas.{unpinned}
use Rattle.slab_laws.proofs.triangle.TriangleDarts.pinned.Goals as goal

pub returns : goal.returns
returns c = unpinned c.args.self.now c.args._v c.requires
