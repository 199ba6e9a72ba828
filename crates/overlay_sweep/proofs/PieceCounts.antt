-- The pieces of a layer that hold an edge are as many as their stretches along it.
use Rattle.std.proofs.Common.{◌≡◌, ℕ, zero, suc, ◌+◌, ◌-◌, ◌<◌, ◌≤◌, Bool, true, false, cond, ◌&&◌, ◌||◌, arith, refl, sym, ap, ap₂, ◌∙◌, subst, inl, inr, ⊎_elim, List, [], ◌∷◌, ◌++◌, length, map, take, drop, get_or, append_assoc, Less}
use Rattle.std.specs.Prelude.{◌==◌, filter}
use Rattle.std.specs.List.{count_by, list_any, prefix_len}
use lib.Dec.{leb, ltb}
use Rattle.std.proofs.lemmas.Bool.{leb-true, le-leb, ltb-true, eqb-true, eq-eqb, and_parts, and_from, false_from_ne_true}
use Rattle.std.proofs.lemmas.Cmp.{tied_itself}
use Rattle.std.proofs.lemmas.List.{append-nil, get_or-map, drop_more, drop_all, take_all}
use Rattle.std.proofs.lemmas.List.Sums.{sum_by-cons, sum_by_more}
use Rattle.exact_plane.specs.Point.{Point}
use Rattle.plane_graphs.specs.Ascending.{Member, IsAscending}
use Rattle.plane_graphs.specs.Fit.{IsFit}
use Rattle.plane_graphs.specs.Piece.{Piece, Present}
use Rattle.plane_graphs.proofs.Ascending.{All-member, IsAscending-ascending, to_member}
use Rattle.plane_graphs.proofs.Lists.{ascends_right, in_filter, of_filter, in_right, map_same, map_map, both_ways, any_in, any_out, IsAscending-filter}
use Rattle.present_graphs.specs.Spans.{span_of_piece}
use Rattle.set_laws.specs.PolygonSets.{pieces_along}
use Rattle.slab_faces.proofs.EveryFace.{none_counted, place_step}
use Rattle.slab_faces.proofs.Sums.{each, sum_by-same, sum_by-plus}
use Rattle.slab_laws.specs.Overlay.{runs_along, plane_of}
use Rattle.sweep_events.specs.Places.{piece_at, nowhere}
use Rattle.sweep_graphs.specs.declared.edges.EdgeEnds.{EdgeEnds}
use Rattle.sweep_graphs.specs.declared.trace.Stretch.{Stretch}
use Rattle.sweep_graphs.specs.declared.trace.Trace.{Trace}
use Rattle.sweep_graphs.specs.Edges.{ends_of, ends_cmp, stretch_cmp, edge_between}
use Rattle.sweep_graphs.specs.TraceLaws.{IsTraceOf}
use Rattle.sweep_graphs.specs.Traces.{IsTrace}
use Rattle.sweep_graphs.proofs.EdgeOrders.{ends_cmp_total, ends_never, stretch_cmp_total}
use Rattle.overlay_sweep.specs.EdgeCurves.{is_along}
use Rattle.overlay_sweep.specs.EdgePieces.{is_own, own_counts}
use Rattle.overlay_sweep.specs.declared.graphs.LayerGraph.{LayerGraph}
use Rattle.overlay_sweep.specs.LayerGraphs.{IsLayerGraph, ArePiecesFrom}
use Rattle.overlay_sweep.specs.PiecesAlong.{IsAlongSome}
use Rattle.overlay_sweep.proofs.CurveRows.{along_out, along_in, cut, own_is, others_are}
use Rattle.overlay_sweep.proofs.OwnEdges.{some_along, ends_in, edges_told, stretch_out, stretch_in}
use Rattle.overlay_sweep.proofs.RunsAlong.{runs_there, own_there}

-- ---- the counts in step are those of all stretches along each edge
pub counts_are : (first n : ℕ) (es : List EdgeEnds) (xs : List Stretch) → IsAscending ends_cmp es → IsAscending stretch_cmp xs → ((s : Stretch) → Member s xs → Member (ends_of s) es) → own_counts first n es xs ≡ map (λ e. count_by (is_own first n) (filter (is_along e) xs)) es
unfolding own_counts
counts_are first n [] xs up ascends each = refl
counts_are first n (e ∷ es) xs up ascends each =
    let own : List Stretch = take (prefix_len (is_along e) xs) xs in
    let others : List Stretch = drop (prefix_len (is_along e) xs) xs in
    let later : (d : EdgeEnds) → Member d es → ends_cmp e d ≡ Less = λ d m. All-member (λ z. ends_cmp e z ≡ Less) d es up.0 m in
    let c = cut e xs ascends (λ s m. ⊎_elim (λ i. inl i) (λ j. inr (later (ends_of s) j)) (each s m)) in
    let rest : IsAscending stretch_cmp others = ascends_right stretch_cmp own others (subst (λ (zs : List Stretch). IsAscending stretch_cmp zs) c.whole ascends) in
    let listed : (s : Stretch) → Member s others → Member (ends_of s) es = λ s m. ⊎_elim (λ i. absurd (ends_never e (subst (λ d. ends_cmp e d ≡ Less) i (c.beyond s m)))) (λ j. j) (each s (subst (Member s) (sym c.whole) (in_right s own others m))) in
    ap₂ (λ r rs. r ∷ rs) (ap (count_by (is_own first n)) (own_is e xs own others c))
    (counts_are first n es others up.1 rest listed ∙ map_same (λ d. count_by (is_own first n) (filter (is_along d) others)) (λ d. count_by (is_own first n) (filter (is_along d) xs)) es (λ d m. ap (count_by (is_own first n)) (others_are e xs own others c d (later d m))))

-- one count more
pub count_added : (first n : ℕ) (es items : List EdgeEnds) (i : ℕ) (d : EdgeEnds) (rest along others : List Stretch) (counts new : List ℕ) (k : ℕ) (all : List ℕ) (m : ℕ) → items ≡ es → i < length items → m ≡ prefix_len (is_along (get_or items i d)) rest → along ≡ take m rest → others ≡ drop m rest → k ≡ count_by (is_own first n) along → new ≡ counts ++ k ∷ [] → counts ++ own_counts first n (drop i es) rest ≡ all → new ++ own_counts first n (drop (i + 1) es) others ≡ all
unfolding own_counts
count_added first n es items i d rest along others counts new k all m same l count a o r pushed before =
    let e : EdgeEnds = get_or items i d in
    let next : drop i es ≡ e ∷ drop (i + 1) es = ap (drop i) (sym same) ∙ drop_more items i d l ∙ ap (λ zs. e ∷ drop (i + 1) zs) same in
    let front : along ≡ take (prefix_len (is_along e) rest) rest = a ∙ ap (λ j. take j rest) count in
    let back : others ≡ drop (prefix_len (is_along e) rest) rest = o ∙ ap (λ j. drop j rest) count in
    ap (λ zs. zs ++ own_counts first n (drop (i + 1) es) others) pushed
    ∙ append_assoc counts (k ∷ []) (own_counts first n (drop (i + 1) es) others)
    ∙ ap₂ (λ r rs. counts ++ r ∷ rs) (r ∙ ap (count_by (is_own first n)) front) (ap (own_counts first n (drop (i + 1) es)) back)
    ∙ sym (ap (λ zs. counts ++ own_counts first n zs rest) next)
    ∙ before

-- no count is left
pub counts_end : (first n : ℕ) (es items : List EdgeEnds) (i : ℕ) (rest : List Stretch) (counts all : List ℕ) → items ≡ es → length items ≤ i → counts ++ own_counts first n (drop i es) rest ≡ all → counts ≡ all
unfolding own_counts
counts_end first n es items i rest counts all same l before =
    sym (append-nil counts) ∙ sym (ap (λ zs. counts ++ own_counts first n zs rest) (ap (drop i) (sym same) ∙ drop_all i items l)) ∙ before

-- ---- counting by places
abbrev count_upto : (ℕ → Bool) → ℕ → ℕ
count_upto q zero = 0
count_upto q (suc n) = count_upto q n + cond (q n) 1 0

module _ (first : ℕ) where
  abbrev stands_at : ℕ → Stretch → Bool
  stands_at i s = leb first s.piece && ((s.piece - first) == i)

  one_place_more : (n : ℕ) (ys : List Stretch) → count_by (is_own first (suc n)) ys ≡ count_by (is_own first n) ys + count_by (stands_at n) ys
  one_place_more n ys =
      sum_by-same (λ s. cond (is_own first (suc n) s) 1 0) (λ s. cond (is_own first n s) 1 0 + cond (stands_at n s) 1 0) ys (each (λ s. cond {A = ℕ} (is_own first (suc n) s) 1 0 ≡ cond (is_own first n s) 1 0 + cond (stands_at n s) 1 0) ys (λ s S. place_step (leb first s.piece) (s.piece - first) n))
      ∙ sum_by-plus (λ s. cond (is_own first n s) 1 0) (λ s. cond (stands_at n s) 1 0) ys

  none_own : (b : Bool) (k : ℕ) → b && ltb k 0 ≡ false
  none_own true k = false_from_ne_true (ltb k 0) (λ h. let l = ltb-true k 0 h in absurd (omega arith))
  none_own false k = refl

  own_counted : (q : ℕ → Bool) (ys : List Stretch) (n : ℕ) → ((i : ℕ) → i < n → count_by (stands_at i) ys ≡ cond (q i) 1 0) → count_by (is_own first n) ys ≡ count_upto q n
  own_counted q ys zero h = none_counted (is_own first 0) ys (λ s S. none_own (leb first s.piece) (s.piece - first))
  own_counted q ys (suc n) h = one_place_more n ys ∙ ap₂ (λ a b. a + b) (own_counted q ys n (λ i l. h i (omega arith))) (h n (omega arith))

-- of the pieces of a list
count_list : (r : Piece → Bool) (q : ℕ → Bool) (ps : List Piece) (d : Piece) (m : ℕ) → m ≤ length ps → ((i : ℕ) → i < length ps → q i ≡ r (get_or ps i d)) → count_upto q m ≡ count_by r (take m ps)
count_list r q ps d zero l h = refl
count_list r q ps d (suc m) l h =
    let e : m + 1 ≡ suc m = omega arith in
    ap₂ (λ a b. a + cond {A = ℕ} b 1 0) (count_list r q ps d m (omega arith) h) (h m (omega arith))
    ∙ sym (sum_by_more (λ x. cond (r x) 1 0) ps m d (omega arith))
    ∙ ap (λ n. count_by r (take n ps)) e

-- ---- one that passes, or none
once : (t : Stretch → Bool) (ys : List Stretch) → IsAscending stretch_cmp ys → ((x y : Stretch) → Member x ys → Member y ys → t x ≡ true → t y ≡ true → x ≡ y) → count_by t ys ≡ cond (list_any t ys) 1 0
once t [] up one = refl
once t (x ∷ xs) up one = sum_by-cons (λ s. cond (t s) 1 0) x xs ∙ by (t x) refl (once t xs up.1 (λ a b m n. one a b (inr m) (inr n)))
  where
    again : (y : Stretch) → Member y xs → t x ≡ true → t y ≡ true → ⊥
    again y m q k =
        let e = one x y (inl refl) (inr m) q k in
        let less : stretch_cmp x x ≡ Less = subst (λ z. stretch_cmp x z ≡ Less) (sym e) (All-member (λ z. stretch_cmp x z ≡ Less) y xs up.0 m) in
        let tied = tied_itself stretch_cmp_total x in
        cc

    others : t x ≡ true → count_by t xs ≡ 0
    others q = none_counted t xs (λ y Y. false_from_ne_true (t y) (λ k. again y (to_member xs y Y) q k))

    by : (b : Bool) → t x ≡ b → count_by t xs ≡ cond (list_any t xs) 1 0 → cond {A = ℕ} b 1 0 + count_by t xs ≡ cond (b || list_any t xs) 1 0
    by true q ih = ap (λ n. 1 + n) (others q)
    by false q ih = (let e : 0 + count_by t xs ≡ count_by t xs = omega arith in e ∙ ih)

module _ (w : Present) (fit : IsFit w) (t : Trace) (h : IsTrace (map span_of_piece w.pieces) w.pins t) (g : IsTraceOf w t) (layer : Present) (first : ℕ) (from : ArePiecesFrom first layer w) (xs : List Stretch) (up : IsAscending stretch_cmp xs) (into : (s : Stretch) → Member s xs → Member s t.stretches) (all : (s : Stretch) → Member s t.stretches → Member s xs) (e : EdgeEnds) (some : IsAlongSome t.stretches e) where
  abbrev ys : List Stretch
  ys = filter (is_along e) xs

  at_place : (i : ℕ) (s : Stretch) → stands_at first i s ≡ true → s.piece ≡ first + i
  at_place i s q =
      let a = and_parts (leb first s.piece) ((s.piece - first) == i) q in
      let l = leb-true first s.piece a.0 in
      let k = eqb-true (s.piece - first) i a.1 in
      omega arith

  stands : (i : ℕ) (s : Stretch) → s.piece ≡ first + i → stands_at first i s ≡ true
  stands i s q = and_from (leb first s.piece) ((s.piece - first) == i) (le-leb first s.piece (omega arith)) (eq-eqb (s.piece - first) i (omega arith))

  same_stretch : (i : ℕ) (x y : Stretch) → Member x ys → Member y ys → stands_at first i x ≡ true → stands_at first i y ≡ true → x ≡ y
  same_stretch i x y m n a b =
      let q = along_out e x (of_filter (is_along e) x xs m).1 ∙ sym (along_out e y (of_filter (is_along e) y xs n).1) in
      let p = at_place i x a ∙ sym (at_place i y b) in
      (λ j. record { low = (q j).low; high = (q j).high; piece = p j })

  module _ (d : Piece) (i : ℕ) (l : i < length layer.pieces) where
    abbrev k : Piece
    k = get_or layer.pieces i d

    span_is : piece_at (map span_of_piece layer.pieces) i ≡ span_of_piece k
    span_is = get_or-map span_of_piece layer.pieces i d nowhere l

    runs_is : list_any (stands_at first i) ys ≡ runs_along (edge_between t.points e) k
    runs_is = both_ways (list_any (stands_at first i) ys) (runs_along (edge_between t.points e) k) from_any to_any
      where
        from_any : list_any (stands_at first i) ys ≡ true → runs_along (edge_between t.points e) k ≡ true
        from_any q =
            let a = any_out (stands_at first i) ys q in
            let f = of_filter (is_along e) a.0 xs a.1 in
            runs_there w fit t h g layer first from e i l k span_is (a.0, into a.0 f.0, along_out e a.0 f.1, at_place i a.0 a.2)

        to_any : runs_along (edge_between t.points e) k ≡ true → list_any (stands_at first i) ys ≡ true
        to_any q =
            let s = own_there w fit t h g layer first from e i l k span_is some q in
            any_in (stands_at first i) s.0 ys (in_filter (is_along e) s.0 xs (all s.0 s.1) (along_in e s.0 s.2)) (stands i s.0 s.3)

  counted : (ps : List Piece) → layer.pieces ≡ ps → count_by (is_own first (length layer.pieces)) ys ≡ count_by (runs_along (edge_between t.points e)) layer.pieces
  counted ps q =
      own_counted first (λ i. list_any (stands_at first i) ys) ys (length layer.pieces) (λ i l. once (stands_at first i) ys (IsAscending-filter stretch_cmp (is_along e) xs up) (same_stretch i))
      ∙ by ps q
    where
      with_default : (d : Piece) → count_upto (λ i. list_any (stands_at first i) ys) (length layer.pieces) ≡ count_by (runs_along (edge_between t.points e)) layer.pieces
      with_default d =
          count_list (runs_along (edge_between t.points e)) (λ i. list_any (stands_at first i) ys) layer.pieces d (length layer.pieces) (omega arith) (runs_is d)
          ∙ ap (count_by (runs_along (edge_between t.points e))) (take_all (length layer.pieces) layer.pieces (omega arith))

      by : (ps : List Piece) → layer.pieces ≡ ps → count_upto (λ i. list_any (stands_at first i) ys) (length layer.pieces) ≡ count_by (runs_along (edge_between t.points e)) layer.pieces
      by [] q = subst (λ zs. count_upto (λ i. list_any (stands_at first i) ys) (length zs) ≡ count_by (runs_along (edge_between t.points e)) zs) (sym q) refl
      by (p ∷ ps) q = with_default p

  pub count_is : count_by (is_own first (length layer.pieces)) (filter (is_along e) xs) ≡ pieces_along layer (edge_between t.points e)
  unfolding pieces_along
  count_is = counted layer.pieces refl

-- ---- of all edges
module _ (w : Present) (fit : IsFit w) (layer : Present) (whole : LayerGraph) (first : ℕ) (h : IsLayerGraph w whole) (from : ArePiecesFrom first layer w) where
  abbrev points : List Point
  points = whole.trace.points

  up : IsAscending stretch_cmp whole.stretches.items
  up = subst (λ (xs : List Stretch). IsAscending stretch_cmp xs) (sym h.stretches) (IsAscending-ascending stretch_cmp stretch_cmp_total whole.trace.stretches)

  pub pieces_are : own_counts first (length layer.pieces) whole.edges.items whole.stretches.items ≡ map (pieces_along layer) (plane_of w).edges
  pieces_are =
      counts_are first (length layer.pieces) whole.edges.items whole.stretches.items
      (subst (λ (es : List EdgeEnds). IsAscending ends_cmp es) (sym h.edges) (IsAscending-ascending ends_cmp ends_cmp_total (map ends_of whole.trace.stretches)))
      up
      (λ s m. ends_in w whole h s (stretch_out w whole h s m))
      ∙ map_same (λ e. count_by (is_own first (length layer.pieces)) (filter (is_along e) whole.stretches.items)) (λ e. pieces_along layer (edge_between points e)) whole.edges.items
      (λ e m. count_is w fit whole.trace h.trace h.graph layer first from whole.stretches.items up (stretch_out w whole h) (stretch_in w whole h) e (some_along w whole h e m))
      ∙ sym (map_map (edge_between points) (pieces_along layer) whole.edges.items)
      ∙ ap (map (pieces_along layer)) (edges_told w whole h)
