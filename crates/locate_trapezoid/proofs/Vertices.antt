-- A vertex gets into the map: one without edges by a node of its own.
use Rattle.std.proofs.Common.{◌≡◌, ℕ, Bool, true, false, sym, ap, ◌∙◌, inl, inr, subst, List, [], ◌∷◌, ◌++◌}
use Rattle.std.specs.Prelude.{Option, Some, None}
use Rattle.std.specs.declared.cmp.Ordering.TheVariants.{Equal}
use Rattle.std.proofs.lemmas.Cmp.{tied_itself}
use Rattle.exact_plane.specs.Point.{Point}
use Rattle.exact_plane.specs.PointOrder.{point_cmp}
use Rattle.exact_plane.specs.PointOrderLaws.{point_cmp_total}
use Rattle.plane_graphs.specs.Line.{IsProper}
use Rattle.slab_laws.specs.declared.names.DartId.{DartId}
use Rattle.slab_laws.specs.declared.names.VertexId.{VertexId}
use Rattle.slab_laws.specs.Sound.{edge_in}
use Rattle.slab_laws.specs.View.{View, point_in}
use Rattle.edge_predicates.specs.Highest.{IsSpanning}
use Rattle.locate_trapezoid.specs.declared.graph.Leaf.{Leaf}
use Rattle.locate_trapezoid.specs.declared.graph.SearchGraph.{SearchGraph}
use Rattle.locate_trapezoid.specs.declared.node.Node.{Node}
use Rattle.locate_trapezoid.specs.declared.node.Slot.{Slot}
use Rattle.locate_trapezoid.specs.declared.node.Test.{Test}
use Rattle.locate_trapezoid.specs.declared.node.Test.TheVariants.{Vertex, Edge}
use Rattle.locate_trapezoid.specs.Nodes.{Arena, arena, IsLeaf, IsTree, IsGrown}
use Rattle.locate_trapezoid.specs.Ways.{way, outcome, label, ComesBy, IsAnswer, IsMap}
use Rattle.locate_trapezoid.specs.Arrivals.{IsMeeting}
use Rattle.locate_trapezoid.specs.Counted.{IsCounted}
use Rattle.locate_trapezoid.specs.Graphs.{IsPutIn, IsWellMade}
use Rattle.locate_trapezoid.proofs.Paths.{down_place, met_no_leaf, one_leaf}
use Rattle.locate_trapezoid.proofs.Grown.{IsPlace, IsMiddle, grow_last}
use Rattle.locate_trapezoid.proofs.Parts.{counted_old, counted_cases}

module _ (v : View) (a : Arena) (us : List Test) (w : VertexId) (m : IsMap v a (λ q. IsCounted v us)) where
  abbrev p : Point
  p = point_in v w

  abbrev Old : Point → Test → Type 0
  Old q = IsCounted v us

  abbrev Now : Point → Test → Type 0
  Now q = IsCounted v (us ++ (Vertex w ∷ []))

  -- at any other point the answer stays
  also : (q : Point) (o : Option DartId) → IsAnswer v (Old q) q o → (p ≡ q → ⊥) → IsAnswer v (Now q) q o
  also q o x n = record { apart = apart; off = λ d h. x.off d (edge d h); seen = x.seen; top = λ d h. x.top d (edge d h) }
    where
      apart : (u : VertexId) → Now q (Vertex u) → point_in v u ≡ q → ⊥
      apart u h z = elim (counted_cases v us (Vertex w) (Vertex u) h) [ inl y ↦ x.apart u y z | inr y ↦ let e : u ≡ w = cc in n (ap (point_in v) (sym e) ∙ z) ]

      edge : (d : DartId) → Now q (Edge d) → Old q (Edge d)
      edge d h = elim (counted_cases v us (Vertex w) (Edge d) h) [ inl y ↦ y | inr y ↦ absurd (cc) ]

  spanned : (q : Point) (t : Slot) (o : Option DartId) (i : ℕ) (d : DartId) → IsProper q → ComesBy v a q t o → a.child t ≡ Some i → a.test i ≡ Edge d → Now q (Edge d) × IsSpanning (edge_in v d) q
  spanned q t o i d Q r ch e = let x = m.spanned q t o i d Q r ch e in (counted_old v us (Vertex w) (Edge d) x.0, x.1)

  -- where a node on its way asks for what is there, it is in already
  pub met_vertex : (s : Slot) (o : Option DartId) (i : ℕ) → ComesBy v a p s o → a.child s ≡ Some i → outcome v (a.test i) p ≡ Equal → IsMap v a Now
  met_vertex s o i r ch met = record {
    leaf = λ q t x Q k n. also q x (m.leaf q t x Q k n) (λ z. met_no_leaf v a p s t o x i r ch met (subst (λ y. ComesBy v a y t x) (sym z) k) n);
    spanned = spanned;
  }

  -- else it gets a node at its leaf
  pub hung_vertex : (n : Arena) (s : Slot) (o : Option DartId) → IsTree a → IsPlace a s → ComesBy v a p s o → a.child s ≡ None → IsGrown a s (Vertex w) n → IsMap v n Now
  hung_vertex n s o tree place r bare g = grow_last v Now a n s (Vertex w) (λ q x. IsAnswer v (Old q) q x) middle g (λ q x d Q h e. absurd (cc)) done
    where
      middle : IsMiddle v Now a s (λ q x. IsAnswer v (Old q) q x)
      middle = record {
        tree = tree;
        place = place;
        bare = bare;
        come = λ q x Q k. m.leaf q s x Q k bare;
        leaf = λ q t x Q k e other. also q x (m.leaf q t x Q k e) (λ z. other (one_leaf v a p s t o x r bare (subst (λ y. ComesBy v a y t x) (sym z) k) e));
        spanned = spanned;
      }

      not_there : (q : Point) (b : Bool) → point_cmp q p ≡ way b → p ≡ q → ⊥
      not_there q b h z = by b (sym (ap (point_cmp q) z ∙ tied_itself point_cmp_total q) ∙ h)
        where
          by : (b : Bool) → Equal ≡ way b → ⊥
          by false h = absurd (cc)
          by true h = absurd (cc)

      done : (q : Point) (x : Option DartId) (b : Bool) → IsProper q → IsAnswer v (Old q) q x → outcome v (Vertex w) q ≡ way b → IsAnswer v (Now q) q (label (Vertex w) b x)
      done q x b Q h e = also q x h (not_there q b e)

-- ---- as the code has it
module _ (v : View) (w : VertexId) (g : SearchGraph) (made : IsWellMade v g) (u : View) (same : u ≡ v) (ns : List Node) (n : ns ≡ g.nodes.items) (q : Point) (is : q ≡ point_in v w) where
  -- where the point is met, it is in already
  pub put_met : (t : Test) → IsMeeting u (arena ns) q t → IsPutIn v (Vertex w) g g
  put_met t m us known in' =
      let k = subst (λ x. IsMeeting v (arena g.nodes.items) x t) is (subst (λ l. IsMeeting v (arena l) q t) n (subst (λ z. IsMeeting z (arena ns) q t) same m)) in
      met_vertex v (arena g.nodes.items) us w in' k.slot k.told k.number k.at k.there (ap (λ z. outcome v z (point_in v w)) k.asks ∙ k.met)

  pub leaf_there : (l : Leaf) → IsLeaf (arena ns) l → IsLeaf (arena g.nodes.items) l
  leaf_there l h = subst (λ z. IsLeaf (arena z) l) n h

  -- else it has a node of its own
  pub put_hung : (h : SearchGraph) (l : Leaf) (o : Option DartId) → IsLeaf (arena ns) l → ComesBy u (arena ns) q l.slot o → IsGrown (arena g.nodes.items) l.slot (Vertex w) (arena h.nodes.items) → IsPutIn v (Vertex w) g h
  put_hung h l o leaf r grown us known in' =
      let k = leaf_there l leaf in
      hung_vertex v (arena g.nodes.items) us w in' (arena h.nodes.items) l.slot o made.tree (λ i b e. down_place (arena g.nodes.items) made.tree l.slot l.level i b k.down e)
      (subst (λ x. ComesBy v (arena g.nodes.items) x l.slot o) is (subst (λ z. ComesBy v (arena z) q l.slot o) n (subst (λ z. ComesBy z (arena ns) q l.slot o) same r)))
      k.bare grown
