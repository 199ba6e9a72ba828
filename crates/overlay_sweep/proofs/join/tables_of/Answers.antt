use Rattle.std.proofs.Common.{List, length, sym, ap, ◌∙◌, subst}
use Rattle.std.proofs.lemmas.List.{length-map}
use Rattle.slab_laws.specs.Layers.{rows_of}
use Rattle.slab_laws.specs.Pieces.{piece_of, present_of}
use Rattle.slab_laws.specs.Skeleton.{Skeleton}
use Rattle.slab_laws.specs.Subdivision.{subdivision}
use Rattle.slab_laws.specs.declared.present.Piece.{Piece}
use Rattle.overlay_laws.specs.United.{united}
use Rattle.overlay_laws.proofs.UnitedGraph.{united_plane, united_fit}
use Rattle.overlay_sweep.specs.LayerGraphs.{ArePiecesFrom}
use Rattle.overlay_sweep.proofs.Joined.{red_labelled, blue_labelled}
use Rattle.overlay_sweep.proofs.UnitedPieces.{red_pieces, blue_pieces}
use Rattle.overlay_sweep.proofs.join.tables_of.Goals as goal

pub table_by_edges-requires-clause-whole : goal.table_by_edges-requires-clause-whole
table_by_edges-requires-clause-whole c =
    let red = present_of c.args.red.now in
    let blue = present_of c.args.blue.now in
    (united red blue, united_fit red blue c.requires.red c.requires.blue, c.requires.whole, red_pieces red blue)

pub table_by_edges-requires-2-clause-whole : goal.table_by_edges-requires-2-clause-whole
table_by_edges-requires-2-clause-whole c =
    let red = present_of c.args.red.now in
    let blue = present_of c.args.blue.now in (
      united red blue,
      united_fit red blue c.requires.red c.requires.blue,
      c.requires.whole,
      subst (λ n. ArePiecesFrom n blue (united red blue)) (length-map c.args.red.now.pieces piece_of ∙ sym (ap (λ (ks : List Piece). length ks) c.as_slice.ensures)) (blue_pieces red blue),
    )

pub returns-clause-red : goal.returns-clause-red
returns-clause-red c =
    let red = present_of c.args.red.now in
    let blue = present_of c.args.blue.now in
    c.in_ok-of_red.ensures (united red blue) (united_fit red blue c.requires.red c.requires.blue) c.requires.whole (red_pieces red blue) (red_labelled red blue c.requires.red c.requires.blue)
    ∙ ap (λ (g : Skeleton). rows_of red (subdivision g)) (united_plane red blue)

pub returns-clause-blue : goal.returns-clause-blue
returns-clause-blue c =
    let red = present_of c.args.red.now in
    let blue = present_of c.args.blue.now in
    c.in_ok-of_blue.ensures (united red blue) (united_fit red blue c.requires.red c.requires.blue) c.requires.whole
    (subst (λ n. ArePiecesFrom n blue (united red blue)) (length-map c.args.red.now.pieces piece_of ∙ sym (ap (λ (ks : List Piece). length ks) c.as_slice.ensures)) (blue_pieces red blue))
    (blue_labelled red blue c.requires.red c.requires.blue)
    ∙ ap (λ (g : Skeleton). rows_of blue (subdivision g)) (united_plane red blue)
