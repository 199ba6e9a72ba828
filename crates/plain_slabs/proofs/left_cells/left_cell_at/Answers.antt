use Rattle.std.proofs.Common.{arith, sym, ◌∙◌, subst, map, Contains}
use Rattle.slab_laws.specs.SpansDrawn.{edge_of, drawn}
use Rattle.slab_laws.specs.Darts.{cell_of}
use Rattle.plain_slabs.proofs.EdgeRows.{on_edge, row_within, row_edge, row_forward}
use Rattle.plain_slabs.proofs.left_cells.left_cell_at.Goals as goal

pub bounds-edges-dart : goal.bounds-edges-dart
bounds-edges-dart c = row_within c.args.points.now c.args.edges.now c.requires.plane c.args.darts.now c.requires.darts c.args.place _ c.requires.place

pub offset_bounds-edges-dart : goal.offset_bounds-edges-dart
offset_bounds-edges-dart c = let b = bounds-edges-dart c in omega arith

pub cell_beside-requires-clause-among : goal.cell_beside-requires-clause-among
cell_beside-requires-clause-among c =
    subst (Contains (map edge_of c.args.edges.now)) (sym (row_edge c.args.points.now c.args.edges.now c.requires.plane c.args.darts.now c.requires.darts c.args.place _ c.requires.place c.index-edges-dart.result c.index-edges-dart.is))
    (on_edge c.args.points.now c.args.edges.now c.requires.plane c.args.darts.now c.requires.darts c.args.place c.requires.place)

pub returns : goal.returns
returns c =
    let e = row_edge c.args.points.now c.args.edges.now c.requires.plane c.args.darts.now c.requires.darts c.args.place _ c.requires.place c.index-edges-dart.result c.index-edges-dart.is in
    let f = row_forward c.args.points.now c.args.edges.now c.requires.plane c.args.darts.now c.requires.darts c.args.place _ c.requires.place in
    c.cell_beside.ensures ∙ (λ i. cell_of (drawn c.args.points.now c.args.edges.now) (e i) (f i))
