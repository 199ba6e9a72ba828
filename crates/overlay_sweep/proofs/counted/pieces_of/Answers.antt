use Rattle.std.proofs.Common.{List, length, map, sym, ap, ◌∙◌, subst}
use Rattle.std.proofs.lemmas.List.{length-map}
use Rattle.set_laws.specs.PolygonSets.{pieces_along}
use Rattle.slab_laws.specs.Pieces.{piece_of, present_of}
use Rattle.slab_laws.specs.Skeleton.{Skeleton}
use Rattle.slab_laws.specs.declared.present.Piece.{Piece}
use Rattle.overlay_laws.specs.United.{united}
use Rattle.overlay_laws.proofs.UnitedGraph.{united_plane, united_fit}
use Rattle.overlay_sweep.specs.LayerGraphs.{ArePiecesFrom}
use Rattle.overlay_sweep.proofs.UnitedPieces.{red_pieces, blue_pieces}
use Rattle.overlay_sweep.proofs.counted.pieces_of.Goals as goal

pub returns-clause-red : goal.returns-clause-red
returns-clause-red c =
    let red = present_of c.args.red.now in
    let blue = present_of c.args.blue.now in
    c.in_ok-of_red.ensures (united red blue) (united_fit red blue c.requires.red c.requires.blue) c.requires.whole (red_pieces red blue)
    ∙ ap (λ (g : Skeleton). map (pieces_along red) g.edges) (united_plane red blue)

pub returns-clause-blue : goal.returns-clause-blue
returns-clause-blue c =
    let red = present_of c.args.red.now in
    let blue = present_of c.args.blue.now in
    c.in_ok-of_blue.ensures (united red blue) (united_fit red blue c.requires.red c.requires.blue) c.requires.whole
    (subst (λ n. ArePiecesFrom n blue (united red blue)) (length-map c.args.red.now.pieces piece_of ∙ sym (ap (λ (ks : List Piece). length ks) c.as_slice.ensures)) (blue_pieces red blue))
    ∙ ap (λ (g : Skeleton). map (pieces_along blue) g.edges) (united_plane red blue)
