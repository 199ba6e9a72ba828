use Rattle.slab_laws.proofs.TriangleLemmas.{none_bare}
use Rattle.slab_laws.proofs.triangle.TriangleFaced.bare_face.Goals as goal

pub returns-clause-face : goal.returns-clause-face
returns-clause-face c = absurd (none_bare c.args._v c.requires)
