-- The least point that is an end of an odd number of pieces.
use Rattle.std.proofs.Common.{◌≡◌, ℕ, Bool, true, false, cond, arith, refl, sym, ap, ◌∙◌, subst, inl, inr, ◌⊎◌, List, [], ◌∷◌, ⊎_elim, Option}
use Rattle.std.specs.Prelude.{Some, None, find, ◌%◌, ◌==◌}
use Rattle.std.specs.List.{count_by, sum_by, flat_map}
use Rattle.std.proofs.lemmas.Bool.{false≢true, false_from_ne_true, eqb-true}
use Rattle.exact_plane.specs.Point.{Point}
use Rattle.exact_plane.specs.PointOrder.{point_cmp}
use Rattle.exact_plane.specs.PointOrderLaws.{point_cmp_total, same_point as point_cmp_exact}
use Rattle.std.specs.declared.cmp.Ordering.TheVariants.{Less}
use Rattle.plane_graphs.specs.Ascending.{Member, IsAscending, ascending}
use Rattle.plane_graphs.specs.Line.{precedes}
use Rattle.plane_graphs.specs.Piece.{Present}
use Rattle.plane_graphs.specs.Graph.{ends, graph, vertices}
use Rattle.plane_graphs.specs.Fit.{IsFit}
use Rattle.plane_graphs.proofs.Ascending.{to_member, from_member, IsAscending-ascending, All-member}
use Rattle.integers.proofs.Decisions.{or_out}
use Rattle.plane_graphs.proofs.Lists.{in_flat_map, in_ascending}
use Rattle.plane_graphs.proofs.Order.{Lt, lt_out, lt_in, lt_never, lt_both, Tri, tri}
use Rattle.plane_graphs.proofs.Order.Tri.{less, same, more}
use Rattle.plane_graphs.proofs.Vertices.{vertices_ascend}
use Rattle.plane_graphs.proofs.Meaning.{vertices_are}
use Rattle.slab_laws.specs.Skeleton.{same_point}
use Rattle.slab_laws.specs.Weights.{Even, at_end}
use Rattle.slab_laws.specs.Overlay.{both, plane_of}
use Rattle.slab_faces.proofs.Found.{found as passing}
use Rattle.slab_faces.proofs.Member as other
use Rattle.slab_faces.proofs.Searches.{found, unfound}
use Rattle.slab_faces.proofs.Parity.{same_point_is}
use Rattle.set_laws.specs.PolygonSets.{is_end, ends_at, pieces_along, is_odd_end, IsClosedLayer, odd_end}
use Rattle.set_laws.specs.PolygonLaws.{IsOddEnd, OddEndIs, IsFoundByEdges, OddEndByEdges}
use Rattle.set_laws.proofs.PieceEnds.{own_layer, ends_by_edges}
use Rattle.overlay_laws.proofs.Both.{both_fit}
use Rattle.overlay_laws.proofs.Parts.{IsLayerOf, red_layer, blue_layer, vertex_kept}
use Rattle.slab_faces.proofs.OddSums.{rest_is, odd_alike}

over : (xs : List Point) (x : Point) → Member x xs → other.Member xs x
over [] x h = absurd h
over (y ∷ ys) x (inl e) = inl (sym e)
over (y ∷ ys) x (inr h) = inr (over ys x h)

under : (xs : List Point) (x : Point) → other.Member xs x → Member x xs
under [] x h = absurd h
under (y ∷ ys) x (inl e) = inl (sym e)
under (y ∷ ys) x (inr h) = inr (under ys x h)

-- what is found in an ascending list comes before all others that pass
first_is : (p : Point → Bool) (xs : List Point) (x q : Point) → IsAscending point_cmp xs → find p xs ≡ Some x → Member q xs → p q ≡ true → precedes q x ≡ false
first_is p [] x q a h m k = absurd m
first_is p (y ∷ ys) x q a h m k = step (p y) refl h m (λ f n. first_is p ys x q a.1 f n k)
  where
    step : (b : Bool) → p y ≡ b → cond b (Some y) (find p ys) ≡ Some x → (q ≡ y) ⊎ Member q ys → (find p ys ≡ Some x → Member q ys → precedes q x ≡ false) → precedes q x ≡ false
    step true e f (inl i) g = let z : y ≡ x = cc in false_from_ne_true _ (λ l. lt_never (subst (λ w. Lt w x) (i ∙ z) (lt_out q x l)))
    step true e f (inr n) g = let z : y ≡ x = cc in false_from_ne_true _ (λ l. lt_both (lt_out q x l) (subst (λ w. Lt w q) z (record { is = All-member (λ v. point_cmp y v ≡ Less) q ys a.0 n })))
    step false e f (inl i) g = absurd (false≢true (sym e ∙ subst (λ w. p w ≡ true) i k))
    step false e f (inr n) g = g f n

module _ (layer : Present) where
  abbrev all : List Point
  all = ascending point_cmp (flat_map ends layer.pieces)

  -- an odd end is an end
  listed : (q : Point) → is_odd_end layer q ≡ true → Member q all
  unfolding is_odd_end ends_at ends
  listed q h =
      let n = eqb-true (count_by (is_end q) layer.pieces % 2) 1 h in
      let w = passing (is_end q) layer.pieces (omega arith) in
      in_ascending point_cmp point_cmp_total point_cmp_exact q (flat_map ends layer.pieces) (in_flat_map ends w.0 q layer.pieces (to_member layer.pieces w.0 w.1)
      (⊎_elim (λ a. inl (sym (same_point_is w.0.from q a))) (λ a. inr (inl (sym (same_point_is w.0.to q a)))) (or_out (same_point w.0.from q) (same_point w.0.to q) w.2)))

  some : (p : Point) → odd_end layer ≡ Some p → IsOddEnd layer p
  unfolding odd_end
  some p h = record {
    odd = (found (is_odd_end layer) all p h).1;
    least = λ q k. first_is (is_odd_end layer) all p q (IsAscending-ascending point_cmp point_cmp_total (flat_map ends layer.pieces)) h (listed q k) k;
  }

  even_by : (p : Point) → is_odd_end layer p ≡ false → Even (ends_at layer p)
  unfolding is_odd_end
  even_by p h = rest_is (ends_at layer p) ∙ ap (λ b. cond {A = ℕ} b 1 0) h

  odd_by : (p : Point) → is_odd_end layer p ≡ true → Even (ends_at layer p) → ⊥
  unfolding is_odd_end
  odd_by p h e = let n = eqb-true (ends_at layer p % 2) 1 h in absurd (omega arith)

  closed_by : odd_end layer ≡ None → IsClosedLayer layer
  unfolding odd_end
  closed_by h p =
      even_by p (false_from_ne_true _ (λ k. false≢true (sym (unfound (is_odd_end layer) all h p (over all p (listed p k))) ∙ k)))

  none_by : IsClosedLayer layer → (o : Option Point) → odd_end layer ≡ o → o ≡ None
  none_by c None h = refl
  none_by c (Some p) h = absurd (odd_by p (some p h).odd (c p))

pub odd_end_is : OddEndIs
odd_end_is = record { some = some; none = λ layer. (closed_by layer, λ c. none_by layer c (odd_end layer) refl) }

-- ---- it is the one that there is
module _ (layer : Present) where
  pub odd_end_some : (p : Point) → IsOddEnd layer p → odd_end layer ≡ Some p
  odd_end_some p o = by (odd_end layer) refl
    where
      one : (q : Point) → Tri q p → precedes q p ≡ false → precedes p q ≡ false → Some q ≡ Some p
      one q (less l) f g = absurd (false≢true (sym f ∙ lt_in {p = q} {q = p} l))
      one q (same e) f g = ap (λ z. Some z) e
      one q (more l) f g = absurd (false≢true (sym g ∙ lt_in {p = p} {q = q} l))

      by : (r : Option Point) → odd_end layer ≡ r → odd_end layer ≡ Some p
      by None h = absurd (odd_by layer p o.odd (closed_by layer h p))
      by (Some q) h = let s = some layer q h in h ∙ one q (tri q p) (o.least q s.odd) (s.least p o.odd)

  pub odd_end_none : ((p : Point) → is_odd_end layer p ≡ true → ⊥) → odd_end layer ≡ None
  odd_end_none n = none_by layer (λ p. even_by layer p (false_from_ne_true _ (n p))) (odd_end layer) refl

-- ---- among the vertices of the layer's own graph
module _ (p q : Point → Bool) (xs ys : List Point) (ax : IsAscending point_cmp xs) (ay : IsAscending point_cmp ys) (into : (v : Point) → Member v xs → p v ≡ true → Member v ys × (q v ≡ true)) (back : (v : Point) → Member v ys → q v ≡ true → Member v xs × (p v ≡ true)) where
  first_in : (r : Point → Bool) (zs : List Point) (x : Point) → find r zs ≡ Some x → Member x zs × (r x ≡ true)
  first_in r zs x h = let a = found r zs x h in (under zs x a.0, a.1)

  same_by : (o u : Option Point) → find p xs ≡ o → find q ys ≡ u → o ≡ u
  same_by None None h k = refl
  same_by None (Some y) h k = let a = first_in q ys y k in let b = back y a.0 a.1 in absurd (false≢true (sym (unfound p xs h y (over xs y b.0)) ∙ b.1))
  same_by (Some x) None h k = let a = first_in p xs x h in let b = into x a.0 a.1 in absurd (false≢true (sym (unfound q ys k x (over ys x b.0)) ∙ b.1))
  same_by (Some x) (Some y) h k =
      let a = first_in p xs x h in
      let b = first_in q ys y k in
      let a' = into x a.0 a.1 in
      let b' = back y b.0 b.1 in
      one (tri x y) (first_is p xs x y ax h b'.0 b'.1) (first_is q ys y x ay k a'.0 a'.1)
    where
      one : Tri x y → precedes y x ≡ false → precedes x y ≡ false → Some x ≡ Some y
      one (less l) f g = absurd (false≢true (sym g ∙ lt_in {p = x} {q = y} l))
      one (same e) f g = ap (λ z. Some z) e
      one (more l) f g = absurd (false≢true (sym f ∙ lt_in {p = y} {q = x} l))

  same_first : find p xs ≡ find q ys
  same_first = same_by (find p xs) (find q ys) refl refl

module _ (layer whole : Present) (fl : IsFit layer) (fw : IsFit whole) (part : IsLayerOf layer whole) where
  pub odd_is_same : (v : Point) → Member v (vertices whole) → is_odd_end layer v ≡ (sum_by (at_end (pieces_along layer) v) (plane_of whole).edges % 2 == 1)
  unfolding is_odd_end graph
  odd_is_same v V = sym (odd_alike (sum_by (at_end (pieces_along layer) v) (plane_of whole).edges) (ends_at layer v) (ends_by_edges layer whole fw part v (from_member (vertices whole) v V)))

  pub end_is_vertex : (v : Point) → is_odd_end layer v ≡ true → Member v (vertices whole)
  unfolding is_odd_end ends_at
  end_is_vertex v h =
      let n = eqb-true (count_by (is_end v) layer.pieces % 2) 1 h in
      let w = passing (is_end v) layer.pieces (omega arith) in
      vertex_kept layer whole fl fw part v ((vertices_are layer v fl).1 (inl (record {
        piece = w.0;
        piece_in = to_member layer.pieces w.0 w.1;
        end = ⊎_elim (λ a. inl (sym (same_point_is w.0.from v a))) (λ a. inr (sym (same_point_is w.0.to v a))) (or_out (same_point w.0.from v) (same_point w.0.to v) w.2);
      })))

  by_vertices : IsFoundByEdges layer whole
  unfolding odd_end
  by_vertices =
      same_first (is_odd_end layer) (λ v. sum_by (at_end (pieces_along layer) v) (plane_of whole).edges % 2 == 1) (all layer) (vertices whole)
      (IsAscending-ascending point_cmp point_cmp_total (flat_map ends layer.pieces))
      (vertices_ascend whole)
      (λ v m h. let k = end_is_vertex v h in (k, sym (odd_is_same v k) ∙ h))
      (λ v m h. let k = odd_is_same v m ∙ h in (listed layer v k, k))

pub odd_end_by_edges : OddEndByEdges
odd_end_by_edges = record {
  own = λ layer f. by_vertices layer layer f f (own_layer layer);
  red = λ red blue fr fb. by_vertices red (both red blue) fr (both_fit red blue fr fb) (red_layer red blue);
  blue = λ red blue fr fb. by_vertices blue (both red blue) fb (both_fit red blue fr fb) (blue_layer red blue);
}
