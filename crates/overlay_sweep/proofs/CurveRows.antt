-- The curves of a layer along an edge are those of the stretches that run along it, and these stand together.
use Rattle.std.proofs.Common.{◌≡◌, ℕ, suc, ◌+◌, ◌-◌, ◌<◌, ◌≤◌, Bool, true, false, cond, arith, refl, sym, ap, ap₂, ◌∙◌, subst, inl, inr, ⊎_elim, List, [], ◌∷◌, ◌++◌, length, map, take, drop, get_or, append_assoc, nat_cmp, Less}
use Rattle.std.specs.Prelude.{◌⊎◌, filter, Option, None, Some, Vec}
use Rattle.std.specs.Global.{Global}
use Rattle.std.specs.List.{filter_map, prefix_len, slice_get, cons_option}
use Rattle.std.specs.Option.{option_map}
use Rattle.std.specs.Ordering.{is_eq}
use lib.Dec.{leb}
use Rattle.std.proofs.lemmas.Bool.{leb-true, le-leb, false_from_ne_true}
use Rattle.std.proofs.lemmas.Cmp.{nat_cmp_total, tied_itself}
use Rattle.std.proofs.lemmas.List.{append-nil, get_or-map, length-map, map-append, drop_more, drop_all}
use Rattle.std.proofs.lemmas.List.Elements.{filter-append}
use Rattle.std.proofs.lemmas.Option.{slice_get_within, slice_get-get_or, get_or_from_slice_get}
use Rattle.integers.proofs.Tests.{is_equal, nat_exact}
use Rattle.exact_plane.specs.Point.{Point}
use Rattle.plane_graphs.specs.Ascending.{Member, IsAscending}
use Rattle.plane_graphs.specs.Fit.{IsFit}
use Rattle.plane_graphs.specs.Piece.{Piece, Present}
use Rattle.plane_graphs.proofs.Ascending.{All-member, IsAscending-ascending, ascending_is, from_member}
use Rattle.plane_graphs.proofs.Lists.{ascends_right, clash, in_map, of_map, in_filter, of_filter, in_right, map_same, map_map}
use Rattle.plane_graphs.proofs.Sorting.{member_at}
use Rattle.present_graphs.specs.Spans.{span_of_piece}
use Rattle.slab_laws.specs.declared.names.CurveId.{CurveId}
use Rattle.slab_laws.specs.declared.present.Piece.{Piece as PieceInMemory}
use Rattle.slab_laws.specs.declared.present.Present.{Present as PresentInMemory}
use Rattle.slab_laws.specs.Pieces.{piece_of, present_of}
use Rattle.slab_laws.specs.Overlay.{curves_along, plane_of}
use Rattle.overlay_laws.proofs.Curves.{IsCurveAlong, along_in as curve_in, along_out as curve_out}
use Rattle.sweep_events.specs.Places.{piece_at, nowhere}
use Rattle.sweep_graphs.specs.declared.edges.EdgeEnds.{EdgeEnds}
use Rattle.sweep_graphs.specs.declared.trace.Stretch.{Stretch}
use Rattle.sweep_graphs.specs.declared.trace.Trace.{Trace}
use Rattle.sweep_graphs.specs.Edges.{ends_of, ends_cmp, stretch_cmp, edge_between}
use Rattle.sweep_graphs.specs.TraceLaws.{IsTraceOf}
use Rattle.sweep_graphs.specs.Traces.{IsTrace}
use Rattle.sweep_graphs.proofs.EdgeOrders.{ends_cmp_total, ends_never, ends_cmp_exact, ends_ties, stretch_cmp_total}
use Rattle.subdivision_rows.specs.LayerTables.{numbers_in}
use Rattle.overlay_sweep.specs.EdgeCurves.{is_along, own_curve, own_numbers, own_rows}
use Rattle.overlay_sweep.specs.declared.graphs.LayerGraph.{LayerGraph}
use Rattle.overlay_sweep.specs.LayerGraphs.{IsLayerGraph, ArePiecesFrom}
use Rattle.overlay_sweep.specs.PiecesAlong.{IsAlongSome}
use Rattle.overlay_sweep.proofs.OwnEdges.{some_along, ends_in, edges_told, stretch_out, stretch_in}
use Rattle.overlay_sweep.proofs.PiecesAlong.{ends_rise}
use Rattle.overlay_sweep.proofs.RunsAlong.{runs_there, own_there}

-- ---- the test
pub along_out : (e : EdgeEnds) (s : Stretch) → is_along e s ≡ true → ends_of s ≡ e
along_out e s h = ends_cmp_exact (ends_of s) e (is_equal (ends_cmp (ends_of s) e) (sym (ends_ties (ends_of s) e) ∙ h))

pub along_in : (e : EdgeEnds) (s : Stretch) → ends_of s ≡ e → is_along e s ≡ true
along_in e s q = subst (λ d. is_along d s ≡ true) q (ends_ties (ends_of s) (ends_of s) ∙ ap is_eq (tied_itself ends_cmp_total (ends_of s)))

-- ---- what a filter keeps
all_kept : (p : Stretch → Bool) (xs : List Stretch) → ((s : Stretch) → Member s xs → p s ≡ true) → filter p xs ≡ xs
all_kept p [] h = refl
all_kept p (x ∷ xs) h = ap (λ b. cond b (x ∷ filter p xs) (filter p xs)) (h x (inl refl)) ∙ ap (λ zs. x ∷ zs) (all_kept p xs (λ s m. h s (inr m)))

none_kept : (p : Stretch → Bool) (xs : List Stretch) → ((s : Stretch) → Member s xs → p s ≡ false) → filter p xs ≡ []
none_kept p [] h = refl
none_kept p (x ∷ xs) h = ap (λ b. cond b (x ∷ filter p xs) (filter p xs)) (h x (inl refl)) ∙ none_kept p xs (λ s m. h s (inr m))

-- ---- those that stand first and run along the edge, and the others
module _ (e : EdgeEnds) where
  pub record IsCut (xs own others : List Stretch) : Type 0 where
    pub whole : xs ≡ own ++ others
    pub along : (s : Stretch) → Member s own → ends_of s ≡ e
    pub beyond : (s : Stretch) → Member s others → ends_cmp e (ends_of s) ≡ Less

  abbrev pub AreFromOn : List Stretch → Type 0
  AreFromOn xs = (s : Stretch) → Member s xs → (ends_of s ≡ e) ⊎ (ends_cmp e (ends_of s) ≡ Less)

  one_cut : (x : Stretch) (xs : List Stretch) (n : ℕ) (b : Bool) → is_along e x ≡ b → IsAscending stretch_cmp (x ∷ xs) → AreFromOn (x ∷ xs) → IsCut xs (take n xs) (drop n xs) → IsCut (x ∷ xs) (take (cond b (1 + n) 0) (x ∷ xs)) (drop (cond b (1 + n) 0) (x ∷ xs))
  one_cut x xs n true q up each ih =
      let one : suc n ≡ 1 + n = omega arith in
      subst (λ m. IsCut (x ∷ xs) (take m (x ∷ xs)) (drop m (x ∷ xs))) one
      (record { whole = ap (λ zs. x ∷ zs) ih.whole; along = λ s m. ⊎_elim (λ i. ap ends_of i ∙ along_out e x q) (λ j. ih.along s j) m; beyond = ih.beyond })
  one_cut x xs n false q up each ih =
      let head : ends_cmp e (ends_of x) ≡ Less = ⊎_elim (λ i. clash (along_in e x i) q) (λ j. j) (each x (inl refl)) in
      let tail : (s : Stretch) → Member s xs → ends_cmp e (ends_of s) ≡ Less = λ s m. elim (ends_rise x s (All-member (λ y. stretch_cmp x y ≡ Less) s xs up.0 m)) [
        | inl a ↦ ends_cmp_total.trans e (ends_of x) (ends_of s) head a
        | inr b ↦ subst (λ d. ends_cmp e d ≡ Less) b head
      ] in
      record { whole = refl; along = λ s m. absurd m; beyond = λ s m. ⊎_elim (λ i. subst (λ z. ends_cmp e (ends_of z) ≡ Less) (sym i) head) (λ j. tail s j) m }

  pub cut : (xs : List Stretch) → IsAscending stretch_cmp xs → AreFromOn xs → IsCut xs (take (prefix_len (is_along e) xs) xs) (drop (prefix_len (is_along e) xs) xs)
  cut [] up each = record { whole = refl; along = λ s m. absurd m; beyond = λ s m. absurd m }
  cut (x ∷ xs) up each = one_cut x xs (prefix_len (is_along e) xs) (is_along e x) refl up each (cut xs up.1 (λ s m. each s (inr m)))

  module _ (xs own others : List Stretch) (c : IsCut xs own others) where
    -- those first ones are all
    pub own_is : own ≡ filter (is_along e) xs
    own_is =
        sym (ap (filter (is_along e)) c.whole ∙ filter-append (is_along e) own others
        ∙ ap₂ (λ ys zs. ys ++ zs) (all_kept (is_along e) own (λ s m. along_in e s (c.along s m))) (none_kept (is_along e) others (λ s m. false_from_ne_true (is_along e s) (λ t. ends_never e (subst (λ d. ends_cmp e d ≡ Less) (along_out e s t) (c.beyond s m)))))
        ∙ append-nil own)

    -- along a later edge run others
    pub others_are : (d : EdgeEnds) → ends_cmp e d ≡ Less → filter (is_along d) others ≡ filter (is_along d) xs
    others_are d l =
        sym (ap (filter (is_along d)) c.whole ∙ filter-append (is_along d) own others
        ∙ ap (λ ys. ys ++ filter (is_along d) others) (none_kept (is_along d) own (λ s m. false_from_ne_true (is_along d s) (λ t. ends_never e (subst (λ z. ends_cmp e z ≡ Less) (sym (along_out d s t) ∙ c.along s m) l)))))

-- ---- the rows in step are those of all stretches along each edge
pub rows_are : (ks : List PieceInMemory) (first : ℕ) (es : List EdgeEnds) (xs : List Stretch) → IsAscending ends_cmp es → IsAscending stretch_cmp xs → ((s : Stretch) → Member s xs → Member (ends_of s) es) → own_rows ks first es xs ≡ map (λ e. own_numbers ks first (filter (is_along e) xs)) es
unfolding own_rows
rows_are ks first [] xs up ascends each = refl
rows_are ks first (e ∷ es) xs up ascends each =
    let own : List Stretch = take (prefix_len (is_along e) xs) xs in
    let others : List Stretch = drop (prefix_len (is_along e) xs) xs in
    let later : (d : EdgeEnds) → Member d es → ends_cmp e d ≡ Less = λ d m. All-member (λ z. ends_cmp e z ≡ Less) d es up.0 m in
    let c = cut e xs ascends (λ s m. ⊎_elim (λ i. inl i) (λ j. inr (later (ends_of s) j)) (each s m)) in
    let rest : IsAscending stretch_cmp others = ascends_right stretch_cmp own others (subst (λ (zs : List Stretch). IsAscending stretch_cmp zs) c.whole ascends) in
    let listed : (s : Stretch) → Member s others → Member (ends_of s) es = λ s m. ⊎_elim (λ i. absurd (ends_never e (subst (λ d. ends_cmp e d ≡ Less) i (c.beyond s m)))) (λ j. j) (each s (subst (Member s) (sym c.whole) (in_right s own others m))) in
    ap₂ (λ r rs. r ∷ rs) (ap (own_numbers ks first) (own_is e xs own others c))
    (rows_are ks first es others up.1 rest listed ∙ map_same (λ d. own_numbers ks first (filter (is_along d) others)) (λ d. own_numbers ks first (filter (is_along d) xs)) es (λ d m. ap (own_numbers ks first) (others_are e xs own others c d (later d m))))

-- one row more
pub row_added : (ks : List PieceInMemory) (first : ℕ) (es items : List EdgeEnds) (i : ℕ) (d : EdgeEnds) (rest along others : List Stretch) (rows new : List (Vec CurveId Global)) (row : Vec CurveId Global) (all : List (List ℕ)) (n : ℕ) → items ≡ es → i < length items → n ≡ prefix_len (is_along (get_or items i d)) rest → along ≡ take n rest → others ≡ drop n rest → map (λ (c : CurveId). c.0) row.items ≡ own_numbers ks first along → new ≡ rows ++ row ∷ [] → numbers_in rows ++ own_rows ks first (drop i es) rest ≡ all → numbers_in new ++ own_rows ks first (drop (i + 1) es) others ≡ all
unfolding own_rows
row_added ks first es items i d rest along others rows new row all n same l count a o r pushed before =
    let numbers : Vec CurveId Global → List ℕ = λ (v : Vec CurveId Global). map (λ (c : CurveId). c.0) v.items in
    let e : EdgeEnds = get_or items i d in
    let next : drop i es ≡ e ∷ drop (i + 1) es = ap (drop i) (sym same) ∙ drop_more items i d l ∙ ap (λ zs. e ∷ drop (i + 1) zs) same in
    let front : along ≡ take (prefix_len (is_along e) rest) rest = a ∙ ap (λ k. take k rest) count in
    let back : others ≡ drop (prefix_len (is_along e) rest) rest = o ∙ ap (λ k. drop k rest) count in
    ap (λ zs. numbers_in zs ++ own_rows ks first (drop (i + 1) es) others) pushed
    ∙ ap (λ zs. zs ++ own_rows ks first (drop (i + 1) es) others) (map-append numbers rows (row ∷ []))
    ∙ append_assoc (numbers_in rows) (numbers row ∷ []) (own_rows ks first (drop (i + 1) es) others)
    ∙ ap₂ (λ r rs. numbers_in rows ++ r ∷ rs) (r ∙ ap (own_numbers ks first) front) (ap (own_rows ks first (drop (i + 1) es)) back)
    ∙ sym (ap (λ zs. numbers_in rows ++ own_rows ks first zs rest) next)
    ∙ before

-- no row is left
pub rows_end : (ks : List PieceInMemory) (first : ℕ) (es items : List EdgeEnds) (i : ℕ) (rest : List Stretch) (rows : List (Vec CurveId Global)) (all : List (List ℕ)) → items ≡ es → length items ≤ i → numbers_in rows ++ own_rows ks first (drop i es) rest ≡ all → numbers_in rows ≡ all
unfolding own_rows
rows_end ks first es items i rest rows all same l before =
    sym (append-nil (numbers_in rows)) ∙ sym (ap (λ zs. numbers_in rows ++ own_rows ks first zs rest) (ap (drop i) (sym same) ∙ drop_all i items l)) ∙ before

-- ---- what a partial map lists
module _ {X Y : Type 0} (f : X → Option Y) where
  told_out : (o : Option Y) (y : Y) (ys : List Y) → Member y (cons_option o ys) → (o ≡ Some y) ⊎ Member y ys
  told_out None y ys m = inr m
  told_out (Some z) y ys (inl e) = inl (ap (λ v. Some v) (sym e))
  told_out (Some z) y ys (inr m) = inr m

  told_in : (o : Option Y) (y : Y) (ys : List Y) → (o ≡ Some y) ⊎ Member y ys → Member y (cons_option o ys)
  told_in o y ys (inl e) = subst (λ v. Member y (cons_option v ys)) (sym e) (inl refl)
  told_in None y ys (inr m) = m
  told_in (Some z) y ys (inr m) = inr m

  of_some : (y : Y) (xs : List X) → Member y (filter_map f xs) → (x : X) × Member x xs × (f x ≡ Some y)
  of_some y [] m = absurd m
  of_some y (x ∷ xs) m = ⊎_elim (λ e. (x, inl refl, e)) (λ n. let r = of_some y xs n in (r.0, inr r.1, r.2)) (told_out (f x) y (filter_map f xs) m)

  in_some : (x : X) (y : Y) (xs : List X) → Member x xs → f x ≡ Some y → Member y (filter_map f xs)
  in_some x y [] m e = absurd m
  in_some x y (z ∷ xs) (inl i) e = told_in (f z) y (filter_map f xs) (inl (ap f (sym i) ∙ e))
  in_some x y (z ∷ xs) (inr m) e = told_in (f z) y (filter_map f xs) (inr (in_some x y xs m e))

some_is : (x y : CurveId) → Some x ≡ Some y → x ≡ y
some_is x y e = cc

-- ---- the curve of a stretch is that of the layer's piece at its place
module _ (ks : List PieceInMemory) (first : ℕ) (s : Stretch) where
  record IsOwn (c : CurveId) : Type 0 where
    place : ℕ
    piece : PieceInMemory
    within : place < length ks
    stands : get_or ks place piece ≡ piece
    is : s.piece ≡ first + place
    curve : piece.curve ≡ c

  own_out : (c : CurveId) → own_curve ks first s ≡ Some c → IsOwn c
  own_out c h = by (leb first s.piece) refl h
    where
      found : (o : Option PieceInMemory) → slice_get ks (s.piece - first) ≡ o → option_map (λ (k : PieceInMemory). k.curve) o ≡ Some c → leb first s.piece ≡ true → IsOwn c
      found None q i l = cc
      found (Some k) q i l =
          let le = leb-true first s.piece l in
          record { place = s.piece - first; piece = k; within = slice_get_within ks (s.piece - first) k q; stands = get_or_from_slice_get ks (s.piece - first) k k q; is = omega arith; curve = some_is k.curve c i }

      by : (b : Bool) → leb first s.piece ≡ b → cond b (option_map (λ (k : PieceInMemory). k.curve) (slice_get ks (s.piece - first))) None ≡ Some c → IsOwn c
      by true l i = found (slice_get ks (s.piece - first)) refl i l
      by false l i = cc

  own_in : (i : ℕ) (k : PieceInMemory) → i < length ks → get_or ks i k ≡ k → s.piece ≡ first + i → own_curve ks first s ≡ Some k.curve
  own_in i k within stands is =
      let l : leb first s.piece ≡ true = le-leb first s.piece (omega arith) in
      let at : s.piece - first ≡ i = omega arith in
      ap (λ b. cond b (option_map (λ (k : PieceInMemory). k.curve) (slice_get ks (s.piece - first))) None) l
      ∙ ap (λ n. option_map (λ (k : PieceInMemory). k.curve) (slice_get ks n)) at
      ∙ ap (λ o. option_map (λ (k : PieceInMemory). k.curve) o) (slice_get-get_or ks i k within ∙ ap (λ v. Some v) stands)

-- ---- the row of an edge
module _ (w : Present) (fit : IsFit w) (t : Trace) (h : IsTrace (map span_of_piece w.pieces) w.pins t) (g : IsTraceOf w t) (layer : PresentInMemory) (first : ℕ) (from : ArePiecesFrom first (present_of layer) w) (xs : List Stretch) (into : (s : Stretch) → Member s xs → Member s t.stretches) (all : (s : Stretch) → Member s t.stretches → Member s xs) where
  abbrev ks : List PieceInMemory
  ks = layer.pieces

  pub span_at : (i : ℕ) (k : PieceInMemory) → i < length ks → get_or ks i k ≡ k → piece_at (map span_of_piece (map piece_of ks)) i ≡ span_of_piece (piece_of k)
  span_at i k within stands =
      let n = length-map ks piece_of in
      let l : i < length (map piece_of ks) = omega arith in
      get_or-map span_of_piece (map piece_of ks) i (piece_of k) nowhere l ∙ ap span_of_piece (get_or-map piece_of ks i k (piece_of k) within ∙ ap piece_of stands)

  module _ (e : EdgeEnds) where
    abbrev listed : List ℕ
    listed = map (λ (c : CurveId). c.0) (filter_map (own_curve ks first) (filter (is_along e) xs))

    row_out : (c : ℕ) → Member c listed → IsCurveAlong (present_of layer) (edge_between t.points e) c
    row_out c m =
        let a = of_map (λ (z : CurveId). z.0) c (filter_map (own_curve ks first) (filter (is_along e) xs)) m in
        let b = of_some (own_curve ks first) a.0 (filter (is_along e) xs) a.1 in
        let f = of_filter (is_along e) b.0 xs b.1 in
        let o = own_out ks first b.0 a.0 b.2 in
        let n = length-map ks piece_of in
        let wi = o.within in
        let l : o.place < length (map piece_of ks) = omega arith in
        record {
          piece = piece_of o.piece;
          here = in_map piece_of o.piece ks (subst (λ z. Member z ks) o.stands (member_at ks o.place o.piece o.within));
          runs = runs_there w fit t h g (present_of layer) first from e o.place l (piece_of o.piece) (span_at o.place o.piece o.within o.stands) (b.0, into b.0 f.0, along_out e b.0 f.1, o.is);
          curve = a.2 ∙ ap (λ (z : CurveId). z.0) (sym o.curve);
        }

    row_in : IsAlongSome t.stretches e → (c : ℕ) → IsCurveAlong (present_of layer) (edge_between t.points e) c → Member c listed
    row_in some c k =
        let a = of_map piece_of k.piece ks k.here in
        let b = from_member ks a.0 a.1 in
        let n = length-map ks piece_of in
        let wi = b.1 in
        let l : b.0 < length (map piece_of ks) = omega arith in
        let s = own_there w fit t h g (present_of layer) first from e b.0 l k.piece (span_at b.0 a.0 b.1 b.2 ∙ ap span_of_piece (sym a.2)) some k.runs in
        let there = in_some (own_curve ks first) s.0 a.0.curve (filter (is_along e) xs) (in_filter (is_along e) s.0 xs (all s.0 s.1) (along_in e s.0 s.2)) (own_in ks first s.0 b.0 a.0 b.1 b.2 s.3) in
        subst (λ z. Member z listed) (sym (k.curve ∙ ap (λ (z : Piece). z.curve) a.2)) (in_map (λ (z : CurveId). z.0) a.0.curve (filter_map (own_curve ks first) (filter (is_along e) xs)) there)

    ascends : IsAscending nat_cmp (curves_along (present_of layer) (edge_between t.points e))
    unfolding curves_along
    ascends = IsAscending-ascending nat_cmp nat_cmp_total _

    -- the curves of the layer's pieces among the stretches along an edge are the layer's curves along it
    pub row_is : IsAlongSome t.stretches e → own_numbers ks first (filter (is_along e) xs) ≡ curves_along (present_of layer) (edge_between t.points e)
    row_is some =
        sym (ascending_is nat_cmp nat_cmp_total listed (curves_along (present_of layer) (edge_between t.points e)) (λ x y _ _ q. nat_exact x y q) ascends
        (λ c m. row_in some c (curve_out (present_of layer) (edge_between t.points e) c m))
        (λ c m. curve_in (present_of layer) (edge_between t.points e) c (row_out c m)))

-- ---- the rows of all edges
module _ (w : Present) (fit : IsFit w) (layer : PresentInMemory) (whole : LayerGraph) (first : ℕ) (h : IsLayerGraph w whole) (from : ArePiecesFrom first (present_of layer) w) where
  abbrev stretches : List Stretch
  stretches = whole.trace.stretches

  abbrev points : List Point
  points = whole.trace.points

  pub curves_are : own_rows layer.pieces first whole.edges.items whole.stretches.items ≡ map (curves_along (present_of layer)) (plane_of w).edges
  curves_are =
      rows_are layer.pieces first whole.edges.items whole.stretches.items
      (subst (λ (es : List EdgeEnds). IsAscending ends_cmp es) (sym h.edges) (IsAscending-ascending ends_cmp ends_cmp_total (map ends_of stretches)))
      (subst (λ (xs : List Stretch). IsAscending stretch_cmp xs) (sym h.stretches) (IsAscending-ascending stretch_cmp stretch_cmp_total stretches))
      (λ s m. ends_in w whole h s (stretch_out w whole h s m))
      ∙ map_same (λ e. own_numbers layer.pieces first (filter (is_along e) whole.stretches.items)) (λ e. curves_along (present_of layer) (edge_between points e)) whole.edges.items
      (λ e m. row_is w fit whole.trace h.trace h.graph layer first from whole.stretches.items (stretch_out w whole h) (stretch_in w whole h) e (some_along w whole h e m))
      ∙ sym (map_map (edge_between points) (curves_along (present_of layer)) whole.edges.items)
      ∙ ap (map (curves_along (present_of layer))) (edges_told w whole h)
