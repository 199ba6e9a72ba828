-- Where an edge's way down has come, who comes by there, and why nobody else is concerned.
use Rattle.std.proofs.Common.{◌≡◌, ℕ, ◌<◌, ◌≤◌, Bool, true, false, arith, refl, sym, ap, ◌∙◌, ◌⊎◌, inl, inr, subst}
use Rattle.std.specs.Prelude.{Option, Some, None, pos, ◌<ℤ◌, not, ◌||◌}
use Rattle.std.specs.List.{Contains}
use Rattle.std.specs.Ordering.{int_cmp}
use Rattle.std.proofs.lemmas.Int.{ints}
use Rattle.std.proofs.lemmas.Bool.{false≢true, or_cases, not-true, false_from_ne_true}
use Rattle.exact_plane.specs.Point.{Point}
use Rattle.exact_plane.specs.PointOrder.{point_cmp}
use Rattle.plane_graphs.specs.Graph.{Edge as PlaneEdge}
use Rattle.plane_graphs.specs.Line.{IsProper}
use Rattle.slab_laws.specs.declared.names.DartId.{DartId}
use Rattle.slab_laws.specs.declared.names.VertexId.{VertexId}
use Rattle.slab_laws.specs.Skeleton.{Skeleton, HasWeight, side, precedes}
use Rattle.slab_laws.specs.Sound.{skeleton_of, edge_in, IsGraphSound}
use Rattle.slab_laws.specs.View.{View, HasVertex, HasDart, point_in}
use Rattle.slab_faces.proofs.OverUnder.{under_in}
use Rattle.slab_faces.proofs.Points.{before_irrefl, before_trans, before_after, after_before}
use Rattle.sound_views.proofs.NamedDarts.{edge_known}
use Rattle.edge_predicates.specs.Above.{is_above, IsBeside}
use Rattle.edge_predicates.specs.Highest.{IsSpanning}
use Rattle.edge_predicates.specs.Levels.{IsSeen, level}
use Rattle.edge_predicates.proofs.Levels.{levels_tell_highest}
use Rattle.edge_predicates.proofs.SidesKept.{stays_above, stays_below}
use Rattle.locate_trapezoid.specs.declared.node.Slot.{Slot}
use Rattle.locate_trapezoid.specs.declared.node.Slot.TheVariants.{Root, Child}
use Rattle.locate_trapezoid.specs.declared.node.Test.{Test}
use Rattle.locate_trapezoid.specs.declared.node.Test.TheVariants.{Vertex, Edge}
use Rattle.walk_laws.specs.Walks.{height}
use Rattle.locate_trapezoid.specs.Nodes.{Arena, IsTree}
use Rattle.locate_trapezoid.specs.Ways.{way, outcome, label, ComesBy, start, step, IsMap}
use Rattle.locate_trapezoid.specs.Descents.{bound_of, Descends, begins, bounded, beyond, after, sided}
use Rattle.locate_trapezoid.proofs.Asked.{comes_before, comes_after, lies_below, lies_above}
use Rattle.locate_trapezoid.proofs.Paths.{Came, From, from_root, goes_on, came, nothing_yet, none_some, same_some}

-- ---- with the map of what counts so far, before e's part from c on does
module _ (v : View) (a : Arena) (In : Point → Test → Type 0) (e : PlaneEdge) (c : Point) where
  -- all that is given
  pub record IsGoing : Type 0 where
    pub sound : IsGraphSound v
    pub tree : IsTree a
    pub map : IsMap v a In
    pub counted : (q : Point) (d : DartId) → In q (Edge d) → HasDart v d
    pub vertices : (i : ℕ) (w : VertexId) → i < a.size → a.test i ≡ Vertex w → HasVertex v w
    pub E : Contains (skeleton_of v).edges e
    pub C : HasWeight c
    pub from : precedes c e.low ≡ false
    pub to : precedes c e.high ≡ true

  -- e doesn't matter at q: it passes over q, or it is no higher than a counted edge that q sees
  pub data IsNoMatter (q : Point) : Type 0 where
    passes_over : side e q <ℤ pos 0 → IsNoMatter q
    hidden : (d : DartId) → pos 0 <ℤ side e q → In q (Edge d) → IsSeen (skeleton_of v) q (edge_in v d) → (IsSeen (skeleton_of v) q e → level (skeleton_of v) q e ≤ level (skeleton_of v) q (edge_in v d)) → IsNoMatter q

  -- the point comes by s, and from there to t
  pub record Comes (q : Point) (t s : Slot) : Type 0 where
    pub told : Option DartId
    pub at : ComesBy v a q s told
    pub from_there : From v a q t s

  pub record IsReached (s : Slot) (l : Bool) (b : Option Point) : Type 0 where
    pub proper : HasWeight (bound_of e b)
    pub ahead : precedes c (bound_of e b) ≡ true
    pub upto : precedes e.high (bound_of e b) ≡ false
    pub lowered : (q : Point) (o : Option DartId) → IsProper q → ComesBy v a q s o → l ≡ true → precedes e.low q ≡ true
    pub bounded_by : (q : Point) (o : Option DartId) (p : Point) → IsProper q → ComesBy v a q s o → b ≡ Some p → precedes q p ≡ true
    pub labelled : (q : Point) (o : Option DartId) → IsProper q → ComesBy v a q s o → IsSeen (skeleton_of v) q e → height v q o ≤ level (skeleton_of v) q e
    pub others : (q : Point) (t : Slot) (o : Option DartId) → IsProper q → precedes q c ≡ false → precedes (bound_of e b) q ≡ false → ComesBy v a q t o → a.child t ≡ None → Comes q t s ⊎ IsNoMatter q

module _ (v : View) (a : Arena) (In : Point → Test → Type 0) (e : PlaneEdge) (c : Point) (go : IsGoing v a In e c) where
  abbrev g : Skeleton
  g = skeleton_of v

  abbrev Reached : Slot → Bool → Option Point → Type 0
  Reached s l b = IsReached v a In e c s l b

  low : HasWeight e.low
  low = (go.sound.plane.proper_edge e go.E).0

  high : HasWeight e.high
  high = (go.sound.plane.proper_edge e go.E).1

  begun : Reached Root false None
  begun = record {
    proper = high;
    ahead = go.to;
    upto = before_irrefl e.high;
    lowered = λ q o Q r h. absurd (false≢true h);
    bounded_by = λ q o p Q r h. absurd (none_some h);
    labelled = λ q o Q r s. subst (λ (x : Option DartId). height v q x ≤ level g q e) (sym (nothing_yet v a q o r)) (omega (arith));
    others = λ q t o Q x y r n. inl (record { told = None; at = start Root None refl refl; from_there = from_root v a q t o r });
  }

  -- ---- from a place to one of the two at its node
  module _ (s : Slot) (l : Bool) (b : Option Point) (i : ℕ) (r : Reached s l b) (ch : a.child s ≡ Some i) (d : Bool) where
    back : (q : Point) (o : Option DartId) → ComesBy v a q (Child i d) o → Came v a q s i d o
    back q o k = came v a q go.tree s i d o ch k

    lowered_still : (q : Point) (o : Option DartId) → IsProper q → ComesBy v a q (Child i d) o → l ≡ true → precedes e.low q ≡ true
    lowered_still q o Q k h = let m = back q o k in r.lowered q m.before Q m.at h

    bounded_still : (q : Point) (o : Option DartId) (p : Point) → IsProper q → ComesBy v a q (Child i d) o → b ≡ Some p → precedes q p ≡ true
    bounded_still q o p Q k h = let m = back q o k in r.bounded_by q m.before p Q m.at h

    -- e's part up to the bound is so to q
    abbrev Beside : Option Point → Point → Type 0
    Beside x q = (precedes q c ≡ false) × (precedes (bound_of e x) q ≡ false)

    -- a point beside that part goes the way of e here, or e doesn't matter to it
    others_still : (x : Option Point) → ((q : Point) → IsProper q → Beside x q → Beside b q)
        → ((q : Point) (o : Option DartId) → IsProper q → Beside x q → Beside b q → ComesBy v a q s o → (y : Bool) → outcome v (a.test i) q ≡ way y → (y ≡ d) ⊎ IsNoMatter v a In e c q)
        → (q : Point) (t : Slot) (o : Option DartId) → IsProper q → precedes q c ≡ false → precedes (bound_of e x) q ≡ false → ComesBy v a q t o → a.child t ≡ None → Comes v a In e c q t (Child i d) ⊎ IsNoMatter v a In e c q
    others_still x wider turn q t o Q from to k n =
        let z = wider q Q (from, to) in
        elim (r.others q t o Q z.0 z.1 k n) [
          | inr w ↦ inr w
          | inl m ↦
              let y = goes_on v a q s t i ch n m.from_there in
              elim (turn q m.told Q (from, to) z m.at y.0 y.1) [
                | inr w ↦ inr w
                | inl h ↦ inl (record {
                  told = label (a.test i) d m.told;
                  at = step (Child i d) (label (a.test i) d m.told) s m.told i d m.at ch (subst (λ z. outcome v (a.test i) q ≡ way z) h y.1) refl refl;
                  from_there = subst (λ z. From v a q t (Child i z)) h y.2;
                })
              ]
        ]

  -- ---- at a node that asks for a vertex
  module _ (s : Slot) (l : Bool) (b : Option Point) (i : ℕ) (w : VertexId) (r : Reached s l b) (ch : a.child s ≡ Some i) (t : a.test i ≡ Vertex w) where
    abbrev p : Point
    p = point_in v w

    P : IsProper p
    P = go.sound.drawn.proper w (go.vertices i w (go.tree.bounded s i ch) t)

    asked : (q : Point) (d : Bool) → outcome v (a.test i) q ≡ way d → point_cmp q p ≡ way d
    asked q d h = sym (ap (λ z. outcome v z q) t) ∙ h

    not_more : (q : Point) (d : Bool) → IsProper q → outcome v (a.test i) q ≡ way d → (precedes p q ≡ true → ⊥) → d ≡ false
    not_more q false Q h n = refl
    not_more q true Q h n = absurd (n (comes_after q p Q P (asked q true h)))

    not_less : (q : Point) (d : Bool) → IsProper q → outcome v (a.test i) q ≡ way d → (precedes q p ≡ true → ⊥) → d ≡ true
    not_less q true Q h n = refl
    not_less q false Q h n = absurd (n (comes_before q p Q P (asked q false h)))

    -- the label stays
    label_still : (d : Bool) (q : Point) (o : Option DartId) → IsProper q → ComesBy v a q (Child i d) o → IsSeen g q e → height v q o ≤ level g q e
    label_still d q o Q k seen =
        let m = back s l b i r ch d q o k in
        subst (λ (x : Option DartId). height v q x ≤ level g q e) (sym (m.told ∙ ap (λ z. label z d m.before) t)) (r.labelled q m.before Q m.at seen)

    went_bounded : precedes c p ≡ true → precedes (bound_of e b) p ≡ false → Reached (Child i false) l (Some p)
    went_bounded x y = record {
      proper = P.positive;
      ahead = x;
      upto = false_from_ne_true _ (λ z. false≢true (sym y ∙ after_before (bound_of e b) e.high p r.proper high P.positive r.upto z));
      lowered = lowered_still s l b i r ch false;
      bounded_by = λ q o p' Q k h. let m = back s l b i r ch false q o k in subst (λ z. precedes q z ≡ true) (same_some h) (comes_before q p Q P (asked q false m.sent));
      labelled = label_still false;
      others =
          others_still s l b i r ch false (Some p)
          (λ q Q k. (k.0, false_from_ne_true _ (λ z. false≢true (sym k.1 ∙ after_before p (bound_of e b) q P.positive r.proper Q.positive y z))))
          (λ q o Q k m at d h. inl (not_more q d Q h (λ z. false≢true (sym k.1 ∙ z))));
    }

    went_beyond : precedes c p ≡ true → precedes (bound_of e b) p ≡ true → Reached (Child i false) l b
    went_beyond x y = record {
      proper = r.proper;
      ahead = r.ahead;
      upto = r.upto;
      lowered = lowered_still s l b i r ch false;
      bounded_by = bounded_still s l b i r ch false;
      labelled = label_still false;
      others =
          others_still s l b i r ch false b (λ q Q k. k)
          (λ q o Q k m at d h. inl (not_more q d Q h (λ z. false≢true (sym k.1 ∙ before_trans (bound_of e b) p q r.proper P.positive Q.positive y z))));
    }

    went_after : precedes c p ≡ false → Reached (Child i true) (l || not (precedes p e.low)) b
    went_after x = record {
      proper = r.proper;
      ahead = r.ahead;
      upto = r.upto;
      lowered = λ q o Q k h.
          let m = back s l b i r ch true q o k in
          elim (or_cases l (not (precedes p e.low)) h) [
            | inl z ↦ r.lowered q m.before Q m.at z
            | inr z ↦ after_before e.low p q low P.positive Q.positive (not-true _ z) (comes_after q p Q P (asked q true m.sent))
          ];
      bounded_by = bounded_still s l b i r ch true;
      labelled = label_still true;
      others =
          others_still s l b i r ch true b (λ q Q k. k)
          (λ q o Q k m at d h. inl (not_less q d Q h (λ z. false≢true (sym x ∙ after_before c q p go.C Q.positive P.positive k.0 z))));
    }

  -- ---- at a node that asks for an edge
  module _ (s : Slot) (l : Bool) (b : Option Point) (i : ℕ) (d : DartId) (r : Reached s l b) (ch : a.child s ≡ Some i) (t : a.test i ≡ Edge d) where
    abbrev f : PlaneEdge
    f = edge_in v d

    crossed : (q : Point) (x : Bool) → outcome v (a.test i) q ≡ way x → int_cmp (side f q) (pos 0) ≡ way x
    crossed q x h = sym (ap (λ z. outcome v z q) t) ∙ h

    module _ (q : Point) (o : Option DartId) (Q : IsProper q) (at : ComesBy v a q s o) where
      counts : In q (Edge d) × IsSpanning f q
      counts = go.map.spanned q s o i d Q at ch t

      F : Contains g.edges f
      F = edge_known v d (go.counted q d counts.0)

      seen_above : pos 0 <ℤ side f q → IsSeen g q f
      seen_above h = record { in' = F; spanning = counts.1; lies_under = under_in f q h }

      -- the point goes the way of e, or e doesn't matter to it
      sides : precedes q c ≡ false → precedes (bound_of e b) q ≡ false → (x y : Bool) → is_above e f ≡ y → int_cmp (side f q) (pos 0) ≡ way x → (x ≡ y) ⊎ IsNoMatter v a In e c q
      sides from to = by
        where
          beside : (side f q ≡ pos 0 → ⊥) → IsBeside g e f q
          beside off = record {
            plane = go.sound.plane;
            E = go.E;
            F = F;
            Q = Q.positive;
            spanning = counts.1;
            from = false_from_ne_true (precedes q e.low) (λ z. false≢true (sym from ∙ before_after q e.low c Q.positive low go.C z go.from));
            to = false_from_ne_true (precedes e.high q) (λ z. false≢true (sym to ∙ after_before (bound_of e b) e.high q r.proper high Q.positive r.upto z));
            off = off;
          }

          by : (x y : Bool) → is_above e f ≡ y → int_cmp (side f q) (pos 0) ≡ way x → (x ≡ y) ⊎ IsNoMatter v a In e c q
          by false false h w = inl refl
          by true true h w = inl refl
          by false true h w = let k = lies_below q f w in inr (passes_over (stays_above g e f q (beside (λ z. absurd (omega (arith, ints)))) h k))
          by true false h w =
              let k = lies_above q f w in
              let m = seen_above k in
              inr (hidden d (stays_below g e f q (beside (λ z. absurd (omega (arith, ints)))) h k).0 counts.0 m (λ n. levels_tell_highest.not_above g q e f go.sound.plane Q.positive n m h))

      -- the label is d where the point is above
      relabelled : (x : Bool) (p : Option DartId) → is_above e f ≡ x → int_cmp (side f q) (pos 0) ≡ way x → p ≡ label (Edge d) x o → IsSeen g q e → height v q p ≤ level g q e
      relabelled false p h w k seen = subst (λ (z : Option DartId). height v q z ≤ level g q e) (sym k) (r.labelled q o Q at seen)
      relabelled true p h w k seen =
          let m = levels_tell_highest.above g q e f go.sound.plane Q.positive seen (seen_above (lies_above q f w)) h in
          subst (λ (z : Option DartId). height v q z ≤ level g q e) (sym k) (omega (arith))

    went_sided : Reached (Child i (is_above e f)) l b
    went_sided =
        let x : Bool = is_above e f in
        record {
          proper = r.proper;
          ahead = r.ahead;
          upto = r.upto;
          lowered = lowered_still s l b i r ch x;
          bounded_by = bounded_still s l b i r ch x;
          labelled = λ q o Q k seen. let m = back s l b i r ch x q o k in relabelled q m.before Q m.at x o refl (crossed q x m.sent) (m.told ∙ ap (λ z. label z x m.before) t) seen;
          others = others_still s l b i r ch x b (λ q Q k. k) (λ q o Q k m at y h. sides q o Q at k.0 k.1 y x refl (crossed q y h));
        }

  -- ---- all the way
  pub reached : (s : Slot) (l : Bool) (b : Option Point) → Descends v a e c s l b → Reached s l b
  reached s0 l0 b0 begins = begun
  reached s0 l0 b0 (bounded s l b i w d ch t x y) = went_bounded s l b i w (reached s l b d) ch t x y
  reached s0 l0 b0 (beyond s l b i w d ch t x y) = went_beyond s l b i w (reached s l b d) ch t x y
  reached s0 l0 b0 (after s l b i w d ch t x) = went_after s l b i w (reached s l b d) ch t x
  reached s0 l0 b0 (sided s l b i d r ch t) = went_sided s l b i d (reached s l b r) ch t
