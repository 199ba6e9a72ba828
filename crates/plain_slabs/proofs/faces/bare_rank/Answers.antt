use Rattle.std.proofs.Common.{ap, sym, ◌∙◌, cond}
use Rattle.std.specs.List.{position_or_len}
use Rattle.slab_laws.specs.SpansDrawn.{drawn}
use Rattle.slab_laws.specs.Faces.{same_cell, face_labels, face_of}
use Rattle.slab_laws.specs.Slabs.{left_cell}
use Rattle.plain_slabs.proofs.LeadRows.{dart_told}
use Rattle.plain_slabs.proofs.faces.bare_rank.Goals as goal

pub returns-then-has_dart : goal.returns-then-has_dart
returns-then-has_dart c =
    let g = drawn c.args.points.now c.args.edges.now in
    sym (ap (λ b. cond b 0 (position_or_len (same_cell (face_of (face_labels g) (left_cell g c.args.point.now))) c.args.faces.now)) (sym (dart_told c.args.points.now c.args.edges.now c.args.point.now) ∙ sym c.has_dart.ensures ∙ c.if-has_dart.true))

pub returns : goal.returns
returns c =
    let g = drawn c.args.points.now c.args.edges.now in
    c.rank_of.ensures
    ∙ ap (λ f. position_or_len (same_cell f) c.args.faces.now) (c.least_of.ensures ∙ c.requires.labels c.cell_before-cell.result ∙ ap (face_of (face_labels g)) c.cell_before-cell.ensures)
    ∙ sym (ap (λ b. cond b 0 (position_or_len (same_cell (face_of (face_labels g) (left_cell g c.args.point.now))) c.args.faces.now)) (sym (dart_told c.args.points.now c.args.edges.now c.args.point.now) ∙ sym c.has_dart.ensures ∙ c.if-has_dart.false))
