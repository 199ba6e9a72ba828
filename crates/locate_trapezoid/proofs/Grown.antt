-- One more node: a tree again, how deep, and who comes where.
use Rattle.std.proofs.Common.{◌≡◌, ℕ, ◌<◌, ◌+◌, Bool, true, false, not, arith, refl, sym, ap, ◌∙◌, ◌⊎◌, inl, inr, subst}
use Rattle.std.specs.Prelude.{max, Option, Some, None}
use Rattle.std.proofs.lemmas.Bool.{cases_lt}
use Rattle.exact_plane.specs.Point.{Point}
use Rattle.plane_graphs.specs.Line.{IsProper}
use Rattle.slab_laws.specs.declared.names.DartId.{DartId}
use Rattle.slab_laws.specs.declared.names.VertexId.{VertexId}
use Rattle.slab_laws.specs.Sound.{edge_in}
use Rattle.slab_laws.specs.View.{View}
use Rattle.edge_predicates.specs.Highest.{IsSpanning}
use Rattle.locate_trapezoid.specs.declared.node.Slot.{Slot}
use Rattle.locate_trapezoid.specs.declared.node.Slot.TheVariants.{Child}
use Rattle.locate_trapezoid.specs.declared.node.Test.{Test}
use Rattle.locate_trapezoid.specs.declared.node.Test.TheVariants.{Vertex, Edge}
use Rattle.locate_trapezoid.specs.Nodes.{Arena, IsTree, IsDown, at_root, further, IsDepth, IsGrown, IsHung, left_out, hung}
use Rattle.locate_trapezoid.specs.Ways.{way, outcome, label, ComesBy, start, step, IsAnswer, IsMap}
use Rattle.locate_trapezoid.proofs.Paths.{same_place, none_some, same_some, one_depth}

-- it hangs at no node, or at one that is there
abbrev pub IsPlace : Arena → Slot → Type 0
IsPlace a s = (i : ℕ) (b : Bool) → s ≡ Child i b → i < a.size

module _ (a n : Arena) (s : Slot) (t : Test) (tree : IsTree a) (g : IsGrown a s t n) where
  new_number : (u : Slot) (i : ℕ) → u ≡ s → n.child u ≡ Some i → i ≡ a.size
  new_number u i e h = same_some (sym h ∙ ap n.child e ∙ g.there)

  pub tree_grows : IsPlace a s → IsTree n
  tree_grows old = record {
    bounded = λ u i h. elim (g.kept u) [
      | inl e ↦ let k = new_number u i e h in let z = g.size in omega (arith)
      | inr e ↦ let k = tree.bounded u i (sym e ∙ h) in let z = g.size in omega (arith)
    ];
    empty = λ i b h. elim (g.kept (Child i b)) [
      | inl e ↦ let k = old i b (sym e) in let z = g.size in absurd (omega (arith))
      | inr e ↦ let z = g.size in e ∙ tree.empty i b (omega (arith))
    ];
    later = λ i j b h. elim (g.kept (Child i b)) [
      | inl e ↦ let k = old i b (sym e) in let m = new_number (Child i b) j e h in omega (arith)
      | inr e ↦ tree.later i j b (sym e ∙ h)
    ];
    single = λ u w i h k. elim (g.kept u) [
      | inl e ↦ elim (g.kept w) [
        | inl f ↦ e ∙ sym f
        | inr f ↦ let m = new_number u i e h in let x = tree.bounded w i (sym f ∙ k) in absurd (omega (arith))
      ]
      | inr e ↦ elim (g.kept w) [
        | inl f ↦ let m = new_number w i f k in let x = tree.bounded u i (sym e ∙ h) in absurd (omega (arith))
        | inr f ↦ tree.single u w i (sym e ∙ h) (sym f ∙ k)
      ]
    ];
  }

  -- ---- how deep it is
  module _ (k : ℕ) (down : IsDown a s k) (bare : a.child s ≡ None) where
    down_kept : (u : Slot) (m : ℕ) → IsDown a u m → IsDown n u m
    down_kept u0 m0 at_root = at_root
    down_kept u0 m0 (further u m i b r c) =
        further u m i b (down_kept u m r) (elim (g.kept u) [
          | inl e ↦ absurd (none_some (sym bare ∙ sym (ap a.child e) ∙ c))
          | inr e ↦ e ∙ c
        ])

    pub down_new : (b : Bool) → IsDown n (Child a.size b) (k + 1)
    down_new b = further s k a.size b (down_kept s k down) g.there

    down_by : (u : Slot) (m : ℕ) → IsDown n u m → IsDown a u m ⊎ (m ≡ k + 1)
    down_by u m r = elim (by u m r) [ inl x ↦ inl x | inr x ↦ inr x.2 ]
      where
        by : (u : Slot) (m : ℕ) → IsDown n u m → IsDown a u m ⊎ ((b : Bool) × (u ≡ Child a.size b) × (m ≡ k + 1))
        by u0 m0 at_root = inl at_root
        by u0 m0 (further u m i b r c) = elim (by u m r) [
          | inr x ↦ absurd (none_some (sym (ap n.child x.1 ∙ g.fresh x.0) ∙ c))
          | inl x ↦ elim (g.kept u) [
            | inr e ↦ inl (further u m i b x (sym e ∙ c))
            | inl e ↦
                let z = one_depth a tree s m k (subst (λ y. IsDown a y m) e x) down in
                inr (b, ap (λ j. Child j b) (new_number u i e c), ap (λ y. y + 1) z)
          ]
        ]

    pub depth_grows : (d c : ℕ) → IsDepth a d → c ≡ max d (k + 1) → IsDepth n c
    depth_grows d c deep z = record {
      most = λ u m r. elim (down_by u m r) [ inl w ↦ let h = deep.most u m w in omega (arith) | inr w ↦ omega (arith) ];
      some = elim greater [
        | inl e ↦ (deep.some.0, subst (IsDown n deep.some.0) (sym e) (down_kept deep.some.0 d deep.some.1))
        | inr e ↦ (Child a.size true, subst (IsDown n (Child a.size true)) (sym e) (down_new true))
      ];
    }
      where
        greater : (c ≡ d) ⊎ (c ≡ k + 1)
        greater = elim (cases_lt d (k + 1)) [ inl h ↦ inr (omega (arith)) | inr h ↦ inl (omega (arith)) ]

-- ---- who comes where
module _ (v : View) (a n : Arena) (s : Slot) (t : Test) (tree : IsTree a) (g : IsGrown a s t n) where
  -- the point came by s, and the new node sent it on
  pub record New (q : Point) (u : Slot) (o : Option DartId) : Type 0 where
    pub side : Bool
    pub place : u ≡ Child a.size side
    pub before : Option DartId
    pub at : ComesBy v a q s before
    pub sent : outcome v t q ≡ way side
    pub told : o ≡ label t side before

  pub came_by : (q : Point) (u : Slot) (o : Option DartId) → ComesBy v n q u o → ComesBy v a q u o ⊎ New q u o
  came_by q u o (start u0 o0 e f) = inl (start u0 o0 e f)
  came_by q u o (step u0 o0 x p i b r c w e f) =
      elim (came_by q x p r) [
        | inr m ↦ absurd (none_some (sym (ap n.child m.place ∙ g.fresh m.side) ∙ c))
        | inl m ↦ elim (g.kept x) [
          | inl h ↦
              let k : i ≡ a.size = same_some (sym c ∙ ap n.child h ∙ g.there) in
              let y : n.test i ≡ t = ap n.test k ∙ g.asks in
              inr (record {
                side = b;
                place = e ∙ ap (λ z. Child z b) k;
                before = p;
                at = subst (λ z. ComesBy v a q z p) h m;
                sent = sym (ap (λ z. outcome v z q) y) ∙ w;
                told = f ∙ ap (λ z. label z b p) y;
              })
          | inr h ↦
              let c' = sym h ∙ c in
              let y = g.tests i (tree.bounded x i c') in
              inl (step u0 o0 x p i b m c' (sym (ap (λ z. outcome v z q) y) ∙ w) e (f ∙ ap (λ z. label z b p) y))
        ]
      ]

  -- nobody came to the new node's places before
  pub nobody : (q : Point) (b : Bool) (o : Option DartId) → ComesBy v a q (Child a.size b) o → ⊥
  nobody q b o r = by (Child a.size b) refl r
    where
      by : (u : Slot) → u ≡ Child a.size b → ComesBy v a q u o → ⊥
      by u e (start u0 o0 f h) = absurd (cc)
      by u e (step u0 o0 x p i d r c w f h) = let k = same_place (sym f ∙ e) in let l = k.0 in let m = tree.bounded x i c in absurd (omega (arith))

  -- a leaf that is old
  pub still_leaf : (u : Slot) → n.child u ≡ None → (a.child u ≡ None) × (u ≡ s → ⊥)
  still_leaf u h = (
    elim (g.kept u) [
      | inl e ↦ absurd (none_some (sym h ∙ ap n.child e ∙ g.there))
      | inr e ↦ sym e ∙ h
    ],
    λ e. none_some (sym h ∙ ap n.child e ∙ g.there),
  )

-- ---- while a leaf is split: who comes to the place in hand, and that all other leaves tell what is so
module _ (v : View) (In : Point → Test → Type 0) where
  pub record IsMiddle (a : Arena) (s : Slot) (Here : Point → Option DartId → Type 0) : Type 0 where
    pub tree : IsTree a
    pub place : IsPlace a s
    pub bare : a.child s ≡ None
    pub come : (q : Point) (o : Option DartId) → IsProper q → ComesBy v a q s o → Here q o
    pub leaf : (q : Point) (u : Slot) (o : Option DartId) → IsProper q → ComesBy v a q u o → a.child u ≡ None → (u ≡ s → ⊥) → IsAnswer v (In q) q o
    pub spanned : (q : Point) (u : Slot) (o : Option DartId) (i : ℕ) (d : DartId) → IsProper q → ComesBy v a q u o → a.child u ≡ Some i → a.test i ≡ Edge d → In q (Edge d) × IsSpanning (edge_in v d) q

  module _ (a n : Arena) (s : Slot) (t : Test) (Here : Point → Option DartId → Type 0) (m : IsMiddle a s Here) (g : IsGrown a s t n) where
    -- what came through old nodes for edges still does
    old_spanned : ((q : Point) (o : Option DartId) (d : DartId) → IsProper q → ComesBy v a q s o → t ≡ Edge d → In q (Edge d) × IsSpanning (edge_in v d) q) → (q : Point) (u : Slot) (o : Option DartId) (i : ℕ) (d : DartId) → IsProper q → ComesBy v n q u o → n.child u ≡ Some i → n.test i ≡ Edge d → In q (Edge d) × IsSpanning (edge_in v d) q
    old_spanned own q u o i d Q r c w =
        elim (came_by v a n s t m.tree g q u o r) [
          | inr x ↦ absurd (none_some (sym (ap n.child x.place ∙ g.fresh x.side) ∙ c))
          | inl x ↦ elim (g.kept u) [
            | inl h ↦
                let k : i ≡ a.size = same_some (sym c ∙ ap n.child h ∙ g.there) in
                own q o d Q (subst (λ z. ComesBy v a q z o) h x) (sym g.asks ∙ sym (ap n.test k) ∙ w)
            | inr h ↦ let c' = sym h ∙ c in m.spanned q u o i d Q x c' (sym (g.tests i (m.tree.bounded u i c')) ∙ w)
          ]
        ]

    -- a node for a vertex, on one side of which all is done
    grow_vertex : (w : VertexId) (b : Bool) → t ≡ Vertex w → ((q : Point) (o : Option DartId) → IsProper q → Here q o → outcome v (Vertex w) q ≡ way (not b) → IsAnswer v (In q) q o) → IsMiddle n (Child a.size b) (λ q o. Here q o × (outcome v (Vertex w) q ≡ way b))
    grow_vertex w b is done = record {
      tree = tree_grows a n s t m.tree g m.place;
      place = λ i d e. let k = same_place e in let l = k.0 in let z = g.size in omega (arith);
      bare = g.fresh b;
      come = λ q o Q r. elim (came_by v a n s t m.tree g q (Child a.size b) o r) [
        | inl x ↦ absurd (nobody v a n s t m.tree g q b o x)
        | inr x ↦
            let k = (same_place x.place).1 in
            (stays_here q o x.before x.side x.told (m.come q x.before Q x.at), sent q x.side x.sent ∙ ap way (sym k))
      ];
      leaf = λ q u o Q r c other. elim (came_by v a n s t m.tree g q u o r) [
        | inl x ↦ let k = still_leaf v a n s t m.tree g u c in m.leaf q u o Q x k.0 k.1
        | inr x ↦
            done q o Q (stays_here q o x.before x.side x.told (m.come q x.before Q x.at))
            (sent q x.side x.sent ∙ ap way (other_side x.side b (λ e. other (x.place ∙ ap (Child a.size) e))))
      ];
      spanned = old_spanned (λ q o d Q r e. absurd (no_edge d (sym is ∙ e)));
    }
      where
        no_edge : (d : DartId) → Vertex w ≡ Edge d → ⊥
        no_edge d e = absurd (cc)

        sent : (q : Point) (d : Bool) → outcome v t q ≡ way d → outcome v (Vertex w) q ≡ way d
        sent q d h = sym (ap (λ z. outcome v z q) is) ∙ h

        stays_here : (q : Point) (o p : Option DartId) (d : Bool) → o ≡ label t d p → Here q p → Here q o
        stays_here q o p d e h = subst (Here q) (sym (e ∙ ap (λ z. label z d p) is)) h

        other_side : (d b : Bool) → (d ≡ b → ⊥) → d ≡ not b
        other_side true true h = absurd (h refl)
        other_side true false h = refl
        other_side false true h = refl
        other_side false false h = absurd (h refl)

    -- a node on both sides of which all is done
    pub grow_last : ((q : Point) (o : Option DartId) (d : DartId) → IsProper q → Here q o → t ≡ Edge d → In q (Edge d) × IsSpanning (edge_in v d) q) → ((q : Point) (o : Option DartId) (b : Bool) → IsProper q → Here q o → outcome v t q ≡ way b → IsAnswer v (In q) q (label t b o)) → IsMap v n In
    grow_last own done = record {
      leaf = λ q u o Q r c. elim (came_by v a n s t m.tree g q u o r) [
        | inl x ↦ let l = still_leaf v a n s t m.tree g u c in m.leaf q u o Q x l.0 l.1
        | inr x ↦ subst (IsAnswer v (In q) q) (sym x.told) (done q x.before x.side Q (m.come q x.before Q x.at) x.sent)
      ];
      spanned = old_spanned (λ q o d Q r e. own q o d Q (m.come q o Q r) e);
    }

  -- who comes is told in other words
  told_as : (a : Arena) (s : Slot) (Here Next : Point → Option DartId → Type 0) → ((q : Point) (o : Option DartId) → IsProper q → Here q o → Next q o) → IsMiddle a s Here → IsMiddle a s Next
  told_as a s Here Next f m = record { tree = m.tree; place = m.place; bare = m.bare; come = λ q o Q r. f q o Q (m.come q o Q r); leaf = m.leaf; spanned = m.spanned }

  -- a node for a vertex, unless it is left out
  pub hang_vertex : (a n : Arena) (s u : Slot) (w : VertexId) (b x : Bool) (Here Next : Point → Option DartId → Type 0) → IsMiddle a s Here → IsHung a s (Vertex w) b n u x
      → (x ≡ true → (q : Point) (o : Option DartId) → IsProper q → Here q o → Next q o)
      → ((q : Point) (o : Option DartId) → IsProper q → Here q o → outcome v (Vertex w) q ≡ way (not b) → IsAnswer v (In q) q o)
      → ((q : Point) (o : Option DartId) → IsProper q → Here q o → outcome v (Vertex w) q ≡ way b → Next q o)
      → IsMiddle n u Next
  hang_vertex a n s u w b x0 Here Next m (left_out e f) out done goes = subst (λ z. IsMiddle z u Next) (sym e) (subst (λ z. IsMiddle a z Next) (sym f) (told_as a s Here Next (out refl) m))
  hang_vertex a n s u w b x0 Here Next m (hung g e) out done goes =
      subst (λ z. IsMiddle n z Next) (sym e)
      (told_as n (Child a.size b) (λ q o. Here q o × (outcome v (Vertex w) q ≡ way b)) Next (λ q o Q h. goes q o Q h.0 h.1) (grow_vertex a n s (Vertex w) Here m g w b refl done))
