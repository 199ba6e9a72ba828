-- Which vertices are ends of an odd number of pieces: the pieces along the edges at each, and the least of these.
use Rattle.std.proofs.Common.{◌≡◌, ◌≢◌, ℕ, ◌+◌, Bool, true, false, cond, arith, refl, sym, ap, ◌∙◌, subst, inl, inr, ⊎_elim, List, [], ◌∷◌, ◌++◌, length, Option, Some, None}
use Rattle.std.specs.Prelude.{◌↔◌, ◌%◌, ◌==◌, not, IfSome}
use Rattle.std.specs.List.{sum_by}
use Rattle.std.proofs.lemmas.Bool.{cases_Bool, false≢true, true≢false, false_from_ne_true}
use Rattle.std.proofs.lemmas.List.Sums.{sum_by-append}
use Rattle.exact_plane.specs.Point.{Point}
use Rattle.plane_graphs.specs.Ascending.{Member}
use Rattle.plane_graphs.specs.Graph.{Graph, graph, vertices}
use Rattle.plane_graphs.specs.Line.{precedes}
use Rattle.plane_graphs.specs.Piece.{Present}
use Rattle.plane_graphs.proofs.Marks.{lt_le_lt}
use Rattle.plane_graphs.proofs.Order.{lt_both, lt_in, lt_never, lt_out}
use Rattle.set_laws.specs.PolygonLaws.{IsOddEnd}
use Rattle.set_laws.specs.PolygonSets.{IsClosedLayer, is_odd_end, odd_end, pieces_along}
use Rattle.set_laws.proofs.OddEnds.{end_is_vertex, odd_end_is, odd_end_none, odd_end_some, odd_is_same}
use Rattle.set_laws.proofs.PieceEnds.{own_layer}
use Rattle.slab_laws.specs.declared.names.DartId.{DartId}
use Rattle.slab_laws.specs.declared.names.VertexId.{VertexId}
use Rattle.slab_laws.specs.Overlay.{plane_of}
use Rattle.slab_laws.specs.Skeleton.{Skeleton}
use Rattle.slab_laws.specs.Sound.{edge_in, skeleton_of}
use Rattle.slab_laws.specs.Text.{skeleton}
use Rattle.slab_laws.specs.View.{View, HasVertex, HasDart, IsOutOf, point_in, source_in}
use Rattle.slab_laws.specs.Weights.{at_end}
use Rattle.sound_views.specs.ForwardDarts.{IsForwardOf}
use Rattle.sound_views.proofs.GraphDrawn.{graphs_are_drawn}
use Rattle.sound_views.proofs.GraphHolds.{graphs_hold}
use Rattle.curve_history.specs.Past.{Past, curves_on, strands_on}
use Rattle.polygon_sets.proofs.NamesSummed.{round_summed}
use Rattle.polygon_sets.proofs.OddRows.{changed}
use Rattle.told_steps.specs.RecordLayers.{IsLayer, layer_of}
use Rattle.dart_walks.specs.DartWalks.{AreRound}
use Rattle.arrangement.specs.OddEnds.{lesser_of}
use Rattle.dart_walks.proofs.FaceWalks.{IsRoundSoFar, none_round}
use Rattle.arrangement.proofs.PiecesCounted.{sides_counted}

-- q doesn't come before what was found
abbrev pub IsFrom : Option Point → Point → Type 0
IsFrom None q = ⊥
IsFrom (Some r) q = precedes q r ≡ false

module _ (v : View) (p : Past) where
  abbrev layer : Present
  layer = (layer_of v p).present

  -- how many pieces run along the edge of a dart
  abbrev pub pieces_on : DartId → ℕ
  pieces_on d = pieces_along (layer_of v p).present (edge_in v d)

  -- the walk round the vertex has come to `dart`, and the pieces on the darts that it has met are odd in number as is said
  pub record IsOddSoFar (first dart : DartId) (odd : Bool) : Type 0 where
    pub met : List DartId
    pub gone : IsRoundSoFar v first dart met
    pub sum : (sum_by (λ d. pieces_along (layer_of v p).present (edge_in v d)) met % 2 == 1) ≡ odd

  -- what was found is an odd end
  abbrev pub IsFound : Option Point → Type 0
  IsFound None = Unit {0}
  IsFound (Some r) = is_odd_end (layer_of v p).present r ≡ true

  -- where the vertex is an odd end, it doesn't come before what was found
  abbrev pub IsClearedBy : Option Point → VertexId → Type 0
  IsClearedBy o w = is_odd_end (layer_of v p).present (point_in v w) ≡ true → IsFrom o (point_in v w)

  module _ (l : IsLayer v p) where
    pub odd_edge : (d r : DartId) → IsForwardOf v d r → (n : ℕ) → n ≡ length (strands_on p r) → (n % 2 == 1) ≡ (pieces_on d % 2 == 1)
    odd_edge d r f n e = ap (λ k. k % 2 == 1) (e ∙ sides_counted v p l r f.forward ∙ ap (pieces_along layer) f.edge)

    -- ---- round a vertex
    plane_is : skeleton_of v ≡ plane_of layer
    plane_is = sym (graphs_are_drawn v (curves_on p) l.sound l.curves) ∙ ap (λ (g : Graph). skeleton g) l.stands

    drawn_point : (q : Point) → Member q (vertices layer) → (w : VertexId) × HasVertex v w × (point_in v w ≡ q)
    unfolding graph
    drawn_point q m = let w = ((graphs_hold v (curves_on p) l.sound).points q).0 (subst (λ (g : Graph). Member q g.points) (sym l.stands) m) in (w.0, w.1.has, w.1.at)

    point_there : (w : VertexId) → HasVertex v w → Member (point_in v w) (vertices layer)
    unfolding graph
    point_there w W = subst (λ (g : Graph). Member (point_in v w) g.points) l.stands (((graphs_hold v (curves_on p) l.sound).points (point_in v w)).1 (w, record { has = W; at = refl }))

    pub round_odd : (w : VertexId) → HasVertex v w → (ds : List DartId) → AreRound v w ds → (sum_by pieces_on ds % 2 == 1) ≡ is_odd_end layer (point_in v w)
    round_odd w W ds r =
        ap (λ n. n % 2 == 1)
        (round_summed v l.sound (pieces_along layer) w W ds r.darts.once r.darts.just
        ∙ ap (λ (g : Skeleton). sum_by (at_end (pieces_along layer) (point_in v w)) g.edges) plane_is)
        ∙ sym (odd_is_same layer layer l.lawful.fit l.lawful.fit (own_layer layer) (point_in v w) (point_there w W))

    -- a vertex without darts is no end
    pub none_odd : (w : VertexId) → HasVertex v w → ((d : DartId) → ¬ IsOutOf v w d) → false ≡ is_odd_end layer (point_in v w)
    none_odd w W none = round_odd w W [] (none_round v l.sound w [] refl none)

    -- ---- the walk
    pub met_more : (met : List DartId) (dart : DartId) (odd more new : Bool) → (sum_by pieces_on met % 2 == 1) ≡ odd → more ≡ (pieces_on dart % 2 == 1) → new ≡ cond more (not odd) odd → (sum_by pieces_on (met ++ (dart ∷ [])) % 2 == 1) ≡ new
    met_more met dart odd more new s m n =
        ap (λ k. k % 2 == 1) (sum_by-append pieces_on met (dart ∷ []) ∙ ap (λ k. sum_by pieces_on met + k) (one (pieces_on dart)))
        ∙ changed (sum_by pieces_on met) (pieces_on dart) odd more s (sym m)
        ∙ sym n
      where
        one : (k : ℕ) → 0 + k ≡ k
        one k = omega arith

    -- ---- the least
    pub first_cleared : (w : VertexId) (b : Bool) (o : Option Point) → b ≡ is_odd_end layer (point_in v w) → b ≡ false → IsClearedBy o w
    first_cleared w b o e n h = absurd (false≢true (sym n ∙ e ∙ h))

    module _ (o : Option Point) (q : Point) where
      -- of two the lesser
      lesser_odd : IsFound o → is_odd_end layer q ≡ true → IsFound (Some (lesser_of o q))
      lesser_odd f h = by o f
        where
          by : (o : Option Point) → IsFound o → is_odd_end layer (lesser_of o q) ≡ true
          by None f = h
          by (Some r) f = elim (cases_Bool (precedes r q)) [ inl t ↦ rw t f | inr n ↦ rw n h ]

      lesser_own : IsFrom (Some (lesser_of o q)) q
      lesser_own = by o
        where
          itself : precedes q q ≡ false
          itself = false_from_ne_true _ (λ t. lt_never (lt_out q q t))

          by : (o : Option Point) → precedes q (lesser_of o q) ≡ false
          by None = itself
          by (Some r) = elim (cases_Bool (precedes r q)) [
            | inl t ↦ rw t (false_from_ne_true _ (λ u. lt_both (lt_out r q t) (lt_out q r u)))
            | inr n ↦ rw n itself
          ]

      lesser_still : (r : Point) → IsFrom o r → IsFrom (Some (lesser_of o q)) r
      lesser_still r f = by o f
        where
          by : (o : Option Point) → IsFrom o r → precedes r (lesser_of o q) ≡ false
          by None f = absurd f
          by (Some s) f = elim (cases_Bool (precedes s q)) [
            | inl t ↦ rw t f
            | inr n ↦ rw n (false_from_ne_true _ (λ u. false≢true (sym f ∙ lt_in {p = r} {q = s} (lt_le_lt {p = r} {q = q} {r = s} (lt_out r q u) (record { never = λ k. false≢true (sym n ∙ lt_in {p = s} {q = q} k) })))))
          ]

    -- one more odd vertex
    module _ (o : Option Point) (w : VertexId) (q new : Point) (at : q ≡ point_in v w) (is : new ≡ lesser_of o q) where
      pub found_more : IsFound o → is_odd_end layer (point_in v w) ≡ true → IsFound (Some new)
      found_more f h = subst (λ z. is_odd_end layer z ≡ true) (sym is) (lesser_odd o q f (ap (is_odd_end layer) at ∙ h))

      pub cleared_now : IsClearedBy (Some new) w
      cleared_now h = sym (ap (λ z. precedes z new) at) ∙ ap (precedes q) is ∙ lesser_own o q

      pub cleared_still : (u : VertexId) → IsClearedBy o u → IsClearedBy (Some new) u
      cleared_still u c h = ap (precedes (point_in v u)) is ∙ lesser_still o q (point_in v u) (c h)

    -- all vertices were met
    pub least_is : (o : Option Point) → IsFound o → ((w : VertexId) → HasVertex v w → IsClearedBy o w) → o ≡ odd_end layer
    least_is o f c = by o f c
      where
        met : (o : Option Point) → ((w : VertexId) → HasVertex v w → IsClearedBy o w) → (q : Point) → is_odd_end layer q ≡ true → IsFrom o q
        met o c q h =
            let m = drawn_point q (end_is_vertex layer layer l.lawful.fit l.lawful.fit (own_layer layer) q h) in
            subst (IsFrom o) m.2 (c m.0 m.1 (ap (is_odd_end layer) m.2 ∙ h))

        by : (o : Option Point) → IsFound o → ((w : VertexId) → HasVertex v w → IsClearedBy o w) → o ≡ odd_end layer
        by None f c = sym (odd_end_none layer (met None c))
        by (Some r) f c = sym (odd_end_some layer r (record { odd = f; least = met (Some r) c }))

-- ---- what is told of the answer
pub end_least : (whole : Present) (r : Option Point) → r ≡ odd_end whole → IfSome r (IsOddEnd whole)
end_least whole None e = tt
end_least whole (Some q) e = odd_end_is.some whole q (sym e)

pub end_closed : (whole : Present) (r : Option Point) → r ≡ odd_end whole → (r ≡ None) ↔ IsClosedLayer whole
end_closed whole r e = (λ n. (odd_end_is.none whole).0 (sym e ∙ n), λ c. e ∙ (odd_end_is.none whole).1 c)
