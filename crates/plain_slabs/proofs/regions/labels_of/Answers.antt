use Rattle.std.proofs.Common.{ap, ◌∙◌}
use Rattle.slab_laws.specs.Classes.{class_of, classes}
use Rattle.slab_laws.specs.Faces.{same_cell, cell_below, face_labels}
use Rattle.plain_slabs.proofs.regions.labels_of.Goals as goal

pub returns : goal.returns
unfolding face_labels
returns c = λ d. c.in_ok-labels.ensures d ∙ ap (λ ls. class_of same_cell (classes same_cell cell_below ls) d) (c.deref.ensures.value ∙ c.in_ok-links.ensures)
