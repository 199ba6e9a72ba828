-- A red triangle in an overlay with nothing blue.
use Rattle.std.specs.Prelude.{[], ◌∷◌}
use Rattle.slab_laws.specs.Layers.{LayerView}

-- each edge has curve 1, and each face is the red face of its own rank
abbrev pub triangle_alone : LayerView
triangle_alone = record { curves = λ d. record { 0 = 1 } ∷ []; rank = λ f. f.0 }

-- no edge has a curve, and there is one face
abbrev pub nothing_beside : LayerView
nothing_beside = record { curves = λ d. []; rank = λ f. 0 }
