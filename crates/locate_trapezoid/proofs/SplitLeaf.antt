-- A leaf is split by an edge: what all leaves tell then is so again, of the edge too as far as it is in the map.
use Rattle.std.proofs.Common.{◌≡◌, ◌<◌, ◌≤◌, Bool, true, false, not, ◌&&◌, Contains, arith, refl, sym, ap, ◌∙◌, ◌⊎◌, inl, inr, subst}
use Rattle.std.specs.Prelude.{Option, Some, None, ℤ, pos, is_some}
use Rattle.std.proofs.lemmas.Int.{ints}
use Rattle.std.proofs.lemmas.Bool.{false≢true, cases_Bool, and_parts, and_from, not-true, false_from_ne_true}
use lib.Signed.{lt_z}
use Rattle.exact_plane.specs.Point.{Point}
use Rattle.plane_graphs.specs.Graph.{Edge as PlaneEdge}
use Rattle.plane_graphs.specs.Line.{IsProper}
use Rattle.slab_laws.specs.declared.names.DartId.{DartId}
use Rattle.slab_laws.specs.declared.names.VertexId.{VertexId}
use Rattle.slab_laws.specs.Skeleton.{Skeleton, HasWeight, left_of, side, inside, precedes, IsPlaneSkeleton}
use Rattle.slab_laws.specs.Sound.{skeleton_of, edge_in}
use Rattle.slab_laws.specs.View.{View, point_in, source_in, target_in}
use Rattle.arr_notes.specs.Curves.{IsForward}
use Rattle.slab_faces.proofs.OverUnder.{under_in, under_out}
use Rattle.slab_faces.proofs.Points.{before_left, before_lower, before_asym, before_irrefl, before_trans, before_after}
use Rattle.slab_faces.proofs.Walls.{side-lower, side-upper}
use Rattle.sound_views.proofs.ForwardDarts.{target_has}
use Rattle.sound_views.proofs.GraphDrawn.{between_forward}
use Rattle.edge_predicates.specs.Highest.{IsSpanning}
use Rattle.edge_predicates.specs.Levels.{IsSeen, level}
use Rattle.locate_trapezoid.specs.declared.node.Slot.{Slot}
use Rattle.locate_trapezoid.specs.declared.node.Test.{Test}
use Rattle.locate_trapezoid.specs.declared.node.Test.TheVariants.{Vertex, Edge}
use Rattle.walk_laws.specs.Walks.{height}
use Rattle.locate_trapezoid.specs.Nodes.{Arena, IsHung, IsSplit}
use Rattle.locate_trapezoid.specs.Ways.{way, outcome, label, IsAnswer, IsMap}
use Rattle.locate_trapezoid.specs.Descents.{bound_of, Descends}
use Rattle.locate_trapezoid.specs.Counted.{Brings}
use Rattle.locate_trapezoid.proofs.Asked.{comes_before, comes_after, lies_below, lies_above}
use Rattle.locate_trapezoid.proofs.Paths.{at_leaf}
use Rattle.locate_trapezoid.proofs.Reached.{IsGoing, IsReached, IsNoMatter, passes_over, hidden, reached}
use Rattle.locate_trapezoid.proofs.Grown.{IsPlace, IsMiddle, hang_vertex, grow_last}

-- an edge's ends ascend
pub ascends : (g : Skeleton) (e : PlaneEdge) → IsPlaneSkeleton g → Contains g.edges e → precedes e.low e.high ≡ true
ascends g e plane E =
    elim (cases_Bool (left_of e.low e.high)) [
      | inl h ↦ before_left e.low e.high h
      | inr h ↦ let n = plane.forward e E in before_lower e.low e.high n (plane.upright e E (and_from _ _ (ap not h) (ap not n)))
    ]

-- where the side isn't 0, the point isn't inside
pub not_inside : (e : PlaneEdge) (q : Point) → (side e q ≡ pos 0 → ⊥) → inside e q ≡ false
not_inside e q n = false_from_ne_true _ (λ h.
    let a = and_parts (precedes e.low q && precedes q e.high) (not (lt_z (side e q) (pos 0)) && not (lt_z (pos 0) (side e q))) h in
    n (flat (side e q) a.1))
  where
    flat : (z : ℤ) → (not (lt_z z (pos 0)) && not (lt_z (pos 0) z)) ≡ true → z ≡ pos 0
    flat z h =
        let a = and_parts (not (lt_z z (pos 0))) (not (lt_z (pos 0) z)) h in
        let b = not-true _ a.0 in
        let c = not-true _ a.1 in
        omega (arith, ints)

-- the ends of a forward dart are those of its edge
module _ (v : View) (k : DartId) (f : IsForward v k) where
  pub ends : edge_in v k ≡ record { low = point_in v (source_in v k); high = point_in v (target_in v k) }
  ends = between_forward (point_in v (source_in v k)) (point_in v (target_in v k)) f.1

  pub low_is : point_in v (source_in v k) ≡ (edge_in v k).low
  low_is = ap (λ (x : PlaneEdge). x.low) (sym ends)

  pub high_is : point_in v (target_in v k) ≡ (edge_in v k).high
  high_is = ap (λ (x : PlaneEdge). x.high) (sym ends)

module _ (v : View) (a : Arena) (In : Point → Test → Type 0) (k : DartId) (forward : IsForward v k) (c : Point) (go : IsGoing v a In (edge_in v k) c) where
  abbrev g : Skeleton
  g = skeleton_of v

  abbrev e : PlaneEdge
  e = edge_in v k

  low : HasWeight e.low
  low = (go.sound.plane.proper_edge e go.E).0

  high : HasWeight e.high
  high = (go.sound.plane.proper_edge e go.E).1

  -- the edge counts now as far as the bound, everywhere where nothing bounds it
  pub record IsNow (b : Option Point) (Now : Point → Test → Type 0) : Type 0 where
    pub grows : (q : Point) (t : Test) → HasWeight q → In q t → Now q t
    pub only : (q : Point) (t : Test) → Now q t → In q t ⊎ Brings v (Edge k) t
    pub before : (q : Point) (t : Test) → precedes q c ≡ true → Now q t → In q t
    pub beyond : (q p : Point) → HasWeight q → b ≡ Some p → precedes p q ≡ true → (precedes e.high q ≡ true) ⊎ ((t : Test) → Now q t → In q t)
    pub new : (q : Point) → ((p : Point) → b ≡ Some p → precedes q p ≡ true) → Now q (Edge k)

  -- what e has to do with q, that the answer for q may stay
  pub record IsNothing (q : Point) (o : Option DartId) : Type 0 where
    no_lower : e.low ≡ q → ⊥
    no_upper : e.high ≡ q → ⊥
    off : inside e q ≡ false
    top : IsSeen g q e → level g q e < height v q o

  -- an answer of what counted is one of what counts now
  module _ (Now : Point → Test → Type 0) (q : Point) (o : Option DartId) where
    module _ (only : (t : Test) → Now q t → In q t ⊎ Brings v (Edge k) t) (m : IsAnswer v (In q) q o) where
      -- q isn't at the new ends, and not inside the new edge
      apart_too : (e.low ≡ q → ⊥) → (e.high ≡ q → ⊥) → (w : VertexId) → Now q (Vertex w) → point_in v w ≡ q → ⊥
      apart_too l u w h z = elim (only (Vertex w) h) [
        | inl x ↦ m.apart w x z
        | inr (inl x) ↦ absurd (cc)
        | inr (inr (inl x)) ↦ let y : w ≡ source_in v k = cc in l (sym (low_is v k forward) ∙ ap (point_in v) (sym y) ∙ z)
        | inr (inr (inr x)) ↦ let y : w ≡ target_in v k = cc in u (sym (high_is v k forward) ∙ ap (point_in v) (sym y) ∙ z)
      ]

      -- of each counted edge: of those before, and of the new one
      edge_too : (P : DartId → Type 0) → ((d : DartId) → In q (Edge d) → P d) → P k → (d : DartId) → Now q (Edge d) → P d
      edge_too P old new d h = elim (only (Edge d) h) [
        | inl x ↦ old d x
        | inr (inl x) ↦ let y : d ≡ k = cc in subst P (sym y) new
        | inr (inr (inl x)) ↦ absurd (cc)
        | inr (inr (inr x)) ↦ absurd (cc)
      ]

      pub stays : IsNothing q o → IsAnswer v (Now q) q o
      stays n = record {
        apart = apart_too n.no_lower n.no_upper;
        off = edge_too (λ d. inside (edge_in v d) q ≡ false) m.off n.off;
        seen = m.seen;
        top = edge_too (λ d. IsSeen g q (edge_in v d) → level g q (edge_in v d) < height v q o) m.top n.top;
      }

    -- where the same counts
    pub same : ((t : Test) → Now q t → In q t) → IsAnswer v (In q) q o → IsAnswer v (Now q) q o
    same down m = record { apart = λ w h. m.apart w (down (Vertex w) h); off = λ d h. m.off d (down (Edge d) h); seen = m.seen; top = λ d h. m.top d (down (Edge d) h) }

  -- q is before e or beyond it
  pub outside : (q : Point) (o : Option DartId) → HasWeight q → (precedes q e.low ≡ true) ⊎ (precedes e.high q ≡ true) → IsNothing q o
  outside q o Q h = record {
    no_lower = λ z. elim h [
      | inl x ↦ false≢true (sym (before_irrefl q) ∙ subst (λ y. precedes q y ≡ true) z x)
      | inr x ↦ false≢true (sym (before_irrefl q) ∙ subst (λ y. precedes y q ≡ true) z (before_trans e.low e.high q low high Q rises x))
    ];
    no_upper = λ z. elim h [
      | inl x ↦ false≢true (sym (before_irrefl q) ∙ subst (λ y. precedes q y ≡ true) z (before_trans q e.low e.high Q low high x rises))
      | inr x ↦ false≢true (sym (before_irrefl q) ∙ subst (λ y. precedes y q ≡ true) z x)
    ];
    off = false_from_ne_true _ (λ z. let x = and_parts _ _ z in let y = and_parts (precedes e.low q) (precedes q e.high) x.0 in unspanned (record { from = y.0; to = y.1 }));
    top = λ s. absurd (unspanned s.spanning);
  }
    where
      rises : precedes e.low e.high ≡ true
      rises = ascends g e go.sound.plane go.E

      unspanned : IsSpanning e q → ⊥
      unspanned s = elim h [
        | inl x ↦ false≢true (sym (before_asym q e.low x) ∙ s.from)
        | inr x ↦ false≢true (sym (before_asym e.high q x) ∙ s.to)
      ]

  -- q is off the line of e
  aside : (q : Point) (o : Option DartId) → (side e q ≡ pos 0 → ⊥) → (IsSeen g q e → level g q e < height v q o) → IsNothing q o
  aside q o n t = record {
    no_lower = λ z. n (subst (λ x. side e x ≡ pos 0) z (side-lower e));
    no_upper = λ z. n (subst (λ x. side e x ≡ pos 0) z (side-upper e));
    off = not_inside e q n;
    top = t;
  }

  no_matter : (q : Point) (o : Option DartId) → IsNoMatter v a In e c q → IsAnswer v (In q) q o → IsNothing q o
  no_matter q o (passes_over h) m = aside q o (λ z. absurd (omega (arith, ints))) (λ s. let u = under_out e q s.lies_under in absurd (omega (arith, ints)))
  no_matter q o (hidden d h x s r) m = aside q o (λ z. absurd (omega (arith, ints))) (λ n. let y = r n in let z = m.top d x s in omega (arith))

  -- ---- who comes to the leaf
  record IsHere (b : Option Point) (q : Point) (o : Option DartId) : Type 0 where
    answer : IsAnswer v (In q) q o
    labelled : IsSeen g q e → height v q o ≤ level g q e
    within : (p : Point) → b ≡ Some p → precedes q p ≡ true

  module _ (b : Option Point) (Now : Point → Test → Type 0) (now : IsNow b Now) where
    settled : (q : Point) (o : Option DartId) → IsAnswer v (In q) q o → IsNothing q o → IsAnswer v (Now q) q o
    settled q o m n = stays Now q o (now.only q) m n

    -- before anything hangs there
    middle : (s : Slot) (l : Bool) → IsReached v a In e c s l b → IsPlace a s → a.child s ≡ None → IsMiddle v Now a s (λ q o. IsHere b q o × (l ≡ true → precedes e.low q ≡ true))
    middle s l r place bare = record {
      tree = go.tree;
      place = place;
      bare = bare;
      come = λ q o Q x. (record { answer = go.map.leaf q s o Q x bare; labelled = r.labelled q o Q x; within = λ p. r.bounded_by q o p Q x }, r.lowered q o Q x);
      leaf = λ q u o Q x n other.
          let m = go.map.leaf q u o Q x n in
          elim (cases_Bool (precedes q c)) [
            | inl y ↦ same Now q o (λ t. now.before q t y) m
            | inr y ↦ elim (cases_Bool (precedes (bound_of e b) q)) [
              | inl z ↦ past b now q o Q m z
              | inr z ↦ elim (r.others q u o Q y z x n) [
                | inl w ↦ absurd (other (at_leaf v a q s u bare w.from_there))
                | inr w ↦ settled q o m (no_matter q o w m)
              ]
            ]
          ];
      spanned = λ q u o i d Q x ch t. let m = go.map.spanned q u o i d Q x ch t in (now.grows q (Edge d) Q.positive m.0, m.1);
    }
      where
        past : (b : Option Point) → IsNow b Now → (q : Point) (o : Option DartId) → IsProper q → IsAnswer v (In q) q o → precedes (bound_of e b) q ≡ true → IsAnswer v (Now q) q o
        past None now q o Q m z = stays Now q o (now.only q) m (outside q o Q.positive (inr z))
        past (Some p) now q o Q m z = elim (now.beyond q p Q.positive refl z) [
          | inl y ↦ stays Now q o (now.only q) m (outside q o Q.positive (inr y))
          | inr y ↦ same Now q o y m
        ]

    -- ---- the three nodes
    lower_proper : IsProper (point_in v (source_in v k))
    lower_proper = go.sound.drawn.proper (source_in v k) (go.sound.linked.source k forward.0)

    upper_proper : IsProper (point_in v (target_in v k))
    upper_proper = go.sound.drawn.proper (target_in v k) (target_has v go.sound k forward.0)

    abbrev Come : Bool → Point → Option DartId → Type 0
    Come l q o = IsHere b q o × (l ≡ true → precedes e.low q ≡ true)

    abbrev Lowered : Point → Option DartId → Type 0
    Lowered q o = IsHere b q o × (precedes e.low q ≡ true)

    abbrev Between : Point → Option DartId → Type 0
    Between q o = Lowered q o × (precedes q e.high ≡ true)

    after_lower : (s s1 : Slot) (l : Bool) (a1 : Arena) → IsMiddle v Now a s (Come l) → IsHung a s (Vertex (source_in v k)) true a1 s1 l → IsMiddle v Now a1 s1 Lowered
    after_lower s s1 l a1 m h =
        hang_vertex v Now a a1 s s1 (source_in v k) true l (Come l) Lowered m h
        (λ x q o Q h. (h.0, h.1 x))
        (λ q o Q h z. settled q o h.0.answer (outside q o Q.positive (inl (subst (λ p. precedes q p ≡ true) (low_is v k forward) (comes_before q (point_in v (source_in v k)) Q lower_proper z)))))
        (λ q o Q h z. (h.0, subst (λ p. precedes p q ≡ true) (low_is v k forward) (comes_after q (point_in v (source_in v k)) Q lower_proper z)))

    after_upper : (s1 s2 : Slot) (u : Bool) (a1 a2 : Arena) → (u ≡ true → (q : Point) (o : Option DartId) → IsProper q → IsHere b q o → precedes q e.high ≡ true) → IsMiddle v Now a1 s1 Lowered → IsHung a1 s1 (Vertex (target_in v k)) false a2 s2 u → IsMiddle v Now a2 s2 Between
    after_upper s1 s2 u a1 a2 f m h =
        hang_vertex v Now a1 a2 s1 s2 (target_in v k) false u Lowered Between m h
        (λ x q o Q h. (h, f x q o Q h.0))
        (λ q o Q h z. settled q o h.0.answer (outside q o Q.positive (inr (subst (λ p. precedes p q ≡ true) (high_is v k forward) (comes_after q (point_in v (target_in v k)) Q upper_proper z)))))
        (λ q o Q h z. (h, subst (λ p. precedes q p ≡ true) (high_is v k forward) (comes_before q (point_in v (target_in v k)) Q upper_proper z)))

    -- the edge's own node
    last : (q : Point) (o : Option DartId) (d : Bool) → Between q o → outcome v (Edge k) q ≡ way d → IsAnswer v (Now q) q (label (Edge k) d o)
    last q o false h w =
        let z = lies_below q e w in
        settled q o h.0.0.answer (aside q o (λ x. absurd (omega (arith, ints))) (λ s. let u = under_out e q s.lies_under in absurd (omega (arith, ints))))
    last q o true h w =
        let z = lies_above q e w in
        let s : IsSeen g q e = record { in' = go.E; spanning = record { from = h.0.1; to = h.1 }; lies_under = under_in e q z } in
        let n = aside q (Some k) (λ x. absurd (omega (arith, ints))) (λ y. omega (arith)) in
        let m = h.0.0.answer in
        let up = h.0.0.labelled s in
        let raised : IsAnswer v (In q) q (Some k) = record { apart = m.apart; off = m.off; seen = (forward, s); top = λ d i y. let r = m.top d i y in omega (arith) } in
        settled q (Some k) raised n

    pub split_map : (s : Slot) (l : Bool) (n : Arena) → Descends v a e c s l b → IsPlace a s → a.child s ≡ None → IsSplit a s l (is_some b) (source_in v k) (target_in v k) k n → IsMap v n Now
    split_map s l n d place bare x =
        let r = reached v a In e c go s l b d in
        let m1 = after_lower s x.lower_slot l x.lower_map (middle s l r place bare) x.by_lower in
        let m2 = after_upper x.lower_slot x.upper_slot (is_some b) x.lower_map x.upper_map (λ z q o Q h. bounded_high b z r.proper r.upto q Q h.within) m1 x.by_upper in
        grow_last v Now x.upper_map n x.upper_slot (Edge k) Between m2 x.across
        (λ q o d Q h z. let y : k ≡ d = cc in subst (λ j. Now q (Edge j) × IsSpanning (edge_in v j) q) y (now.new q h.0.0.within, record { from = h.0.1; to = h.1 }))
        (λ q o d Q h w. last q o d h w)
      where
        bounded_high : (b : Option Point) → is_some b ≡ true → HasWeight (bound_of e b) → precedes e.high (bound_of e b) ≡ false → (q : Point) → IsProper q → ((p : Point) → b ≡ Some p → precedes q p ≡ true) → precedes q e.high ≡ true
        bounded_high None z P u q Q f = absurd (false≢true z)
        bounded_high (Some p) z P u q Q f = before_after q p e.high Q.positive P high (f p refl) u
