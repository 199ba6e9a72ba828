-- Pieces under the numbers of their places.
use Rattle.std.proofs.Common.{◌≡◌, ℕ, suc, ◌+◌, ◌<◌, ◌≤◌, arith, refl, sym, ap, ap₂, ◌∙◌, List, [], ◌∷◌, ◌++◌, length, map, take, get_or, append_assoc}
use Rattle.std.proofs.lemmas.List.{append-nil, take_more, take_all, length-map, length-append, map-append}
use Rattle.plane_graphs.specs.Piece.{Piece}
use Rattle.slab_laws.specs.declared.names.CurveId.{CurveId}
use Rattle.slab_laws.specs.declared.present.Piece.{Piece as PieceInMemory}
use Rattle.slab_laws.specs.Pieces.{piece_of}
use Rattle.slab_laws.specs.Overlay.{renamed}
use Rattle.overlay_laws.specs.United.{numbered_from}

-- lists one after the other
pub numbered_append : (n : ℕ) (ks ms : List Piece) → numbered_from n (ks ++ ms) ≡ numbered_from n ks ++ numbered_from (n + length ks) ms
numbered_append n [] ms = let e : n ≡ n + 0 = omega arith in ap (λ (m : ℕ). numbered_from m ms) e
numbered_append n (k ∷ ks) ms = ap (λ xs. renamed (λ c. n) k ∷ xs) (let e : suc n + length ks ≡ n + suc (length ks) = omega arith in numbered_append (suc n) ks ms ∙ ap (λ (m : ℕ). numbered_from (suc n) ks ++ numbered_from m ms) e)

pub length_numbered : (n : ℕ) (ks : List Piece) → length (numbered_from n ks) ≡ length ks
length_numbered n [] = refl
length_numbered n (k ∷ ks) = ap suc (length_numbered (suc n) ks)

pub begun : (old : List PieceInMemory) (ks : List Piece) → map piece_of old ≡ map piece_of old ++ numbered_from (length old) (take 0 ks)
begun old ks = sym (append-nil (map piece_of old))

pub all_numbered : (old now : List PieceInMemory) (ks : List Piece) (i : ℕ) → length ks ≤ i → map piece_of now ≡ map piece_of old ++ numbered_from (length old) (take i ks) → map piece_of now ≡ map piece_of old ++ numbered_from (length old) ks
all_numbered old now ks i h e = e ∙ ap (λ xs. map piece_of old ++ numbered_from (length old) xs) (take_all i ks h)

pub numbered_more : (old now new : List PieceInMemory) (ks : List Piece) (i : ℕ) (k : PieceInMemory) (q : CurveId) → i < length ks → piece_of k ≡ get_or ks i (piece_of k) → map piece_of now ≡ map piece_of old ++ numbered_from (length old) (take i ks) → q.0 ≡ length now → new ≡ now ++ record { curve = q; side = k.side; segment = k.segment; from = k.from; to = k.to } ∷ [] → map piece_of new ≡ map piece_of old ++ numbered_from (length old) (take (i + 1) ks)
numbered_more old now new ks i k q h r e m f =
    let t : List Piece = take i ks in
    let o : List Piece = map piece_of old in
    let n : ℕ = length old in
    let x : PieceInMemory = record { curve = q; side = k.side; segment = k.segment; from = k.from; to = k.to } in
    let a : take (i + 1) ks ≡ t ++ piece_of k ∷ [] = take_more ks i (piece_of k) h ∙ ap (λ y. t ++ y ∷ []) (sym r) in
    let c1 : length (map piece_of now) ≡ length now = length-map now piece_of in
    let c2 : length (map piece_of now) ≡ length (o ++ numbered_from n t) = ap length e in
    let c3 : length (o ++ numbered_from n t) ≡ length o + length (numbered_from n t) = length-append o (numbered_from n t) in
    let c4 : length o ≡ length old = length-map old piece_of in
    let c5 : length (numbered_from n t) ≡ length t = length_numbered n t in
    let l : q.0 ≡ n + length t = omega arith in
    ap (map piece_of) f ∙ map-append piece_of now (x ∷ [])
    ∙ ap (λ xs. xs ++ renamed (λ c. q.0) (piece_of k) ∷ []) e ∙ append_assoc o (numbered_from n t) (renamed (λ c. q.0) (piece_of k) ∷ [])
    ∙ ap (λ (d : ℕ). o ++ (numbered_from n t ++ renamed (λ c. d) (piece_of k) ∷ [])) l
    ∙ ap (λ xs. o ++ xs) (sym (numbered_append n t (piece_of k ∷ [])))
    ∙ ap (λ ys. o ++ numbered_from n ys) (sym a)

-- the pieces of both layers, one list after the other
pub both_numbered : (none first all red blue : List PieceInMemory) → none ≡ [] → map piece_of first ≡ map piece_of none ++ numbered_from (length none) (map piece_of red) → map piece_of all ≡ map piece_of first ++ numbered_from (length first) (map piece_of blue) → map piece_of all ≡ numbered_from 0 (map piece_of red ++ map piece_of blue)
both_numbered none first all red blue z e f =
    let r : List Piece = map piece_of red in
    let b : List Piece = map piece_of blue in
    let g : map piece_of first ≡ numbered_from 0 r = e ∙ ap (λ (ks : List PieceInMemory). map piece_of ks ++ numbered_from (length ks) r) z in
    let c1 : length (map piece_of first) ≡ length first = length-map first piece_of in
    let c2 : length (map piece_of first) ≡ length (numbered_from 0 r) = ap length g in
    let c3 : length (numbered_from 0 r) ≡ length r = length_numbered 0 r in
    let n : length first ≡ 0 + length r = omega arith in
    f ∙ ap₂ (λ xs (m : ℕ). xs ++ numbered_from m b) g n ∙ sym (numbered_append 0 r b)
