use Rattle.std.proofs.Common.{◌<◌, arith, sym, ap, ◌∙◌, List, length, map, get_or}
use Rattle.std.proofs.lemmas.List.{get_or-map, length-map}
use Rattle.plane_graphs.specs.Piece.{Piece}
use Rattle.slab_laws.specs.declared.present.Piece.{Piece as PieceInMemory}
use Rattle.slab_laws.specs.Pieces.{piece_of}
use Rattle.overlay_sweep.proofs.rows.curve_of.Goals as goal

pub returns : goal.returns
returns c =
    let ks = c.args.present.now.pieces in
    let i = c.args.piece in
    let k = c.index-as_slice-piece.result in
    let there : i < length ks = (let n = length-map ks piece_of in let l = c.requires in omega arith) in
    ap (λ (xs : List PieceInMemory). (get_or xs i k).curve.0) c.as_slice.ensures
    ∙ sym (get_or-map (λ (x : Piece). x.curve) (map piece_of ks) i (piece_of k) 0 c.requires ∙ ap (λ (x : Piece). x.curve) (get_or-map piece_of ks i k (piece_of k) there))
