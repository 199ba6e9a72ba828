-- An edge gets into the map part by part, from its lower end to its upper one.
use Rattle.std.proofs.Common.{◌≡◌, ℕ, ◌<◌, ◌+◌, Bool, true, false, cond, arith, refl, sym, ap, ◌∙◌, ◌⊎◌, inl, inr, subst, List, [], ◌∷◌, ◌++◌}
use Rattle.std.specs.Prelude.{⊤, Option, Some, None, is_some}
use Rattle.std.specs.List.{Contains, count_by}
use Rattle.std.proofs.lemmas.Bool.{false≢true, cases_Bool, cases_lt, false_from_ne_true}
use Rattle.std.proofs.lemmas.List.Elements.{Contains-append_left, Contains-push, Contains-push_cases}
use Rattle.exact_plane.specs.Point.{Point}
use Rattle.plane_graphs.specs.Graph.{Edge as PlaneEdge}
use Rattle.slab_laws.specs.declared.names.DartId.{DartId}
use Rattle.slab_laws.specs.declared.names.VertexId.{VertexId}
use Rattle.slab_laws.specs.Skeleton.{HasWeight, precedes}
use Rattle.slab_laws.specs.Sound.{skeleton_of, edge_in, IsGraphSound}
use Rattle.slab_laws.specs.View.{View, HasVertex, HasDart, point_in, source_in, target_in}
use Rattle.arr_notes.specs.Curves.{IsForward}
use Rattle.slab_faces.proofs.Points.{before_asym, before_irrefl, before_trans, after_before}
use Rattle.slab_faces.proofs.Sums.{fewer_than}
use Rattle.sound_changes.proofs.KnownNames.{edge_known, point_known}
use Rattle.locate_trapezoid.specs.declared.graph.SearchGraph.{SearchGraph}
use Rattle.locate_trapezoid.specs.declared.node.Slot.{Slot}
use Rattle.locate_trapezoid.specs.declared.node.Test.{Test}
use Rattle.locate_trapezoid.specs.declared.node.Test.TheVariants.{Vertex, Edge}
use Rattle.locate_trapezoid.specs.Nodes.{Arena, arena, IsTree, IsDown, IsGrown, IsHung, left_out, hung, IsSplit}
use Rattle.locate_trapezoid.specs.Ways.{IsMap}
use Rattle.locate_trapezoid.specs.Descents.{Descends, begins, bounded, beyond, after, sided, rest_of}
use Rattle.locate_trapezoid.specs.Counted.{IsTest, Brings, IsCounted, IsBeforeRest, IsCountedSoFar}
use Rattle.locate_trapezoid.specs.Graphs.{AreNamed, IsMapOf, AreTests}
use Rattle.locate_trapezoid.proofs.Paths.{none_some, same_some, down_place}
use Rattle.locate_trapezoid.proofs.Reached.{IsGoing}
use Rattle.locate_trapezoid.proofs.SplitLeaf.{ascends, IsNow, stays, same, outside, split_map}

-- ---- what counts
module _ (v : View) (us : List Test) (u : Test) where
  pub counted_old : (t : Test) → IsCounted v us t → IsCounted v (us ++ (u ∷ [])) t
  counted_old t h = (h.0, Contains-append_left us (u ∷ []) h.0 h.1, h.2)

  pub counted_new : (t : Test) → Brings v u t → IsCounted v (us ++ (u ∷ [])) t
  counted_new t h = (u, Contains-push us u, h)

  pub counted_cases : (t : Test) → IsCounted v (us ++ (u ∷ [])) t → IsCounted v us t ⊎ Brings v u t
  counted_cases t h = elim (Contains-push_cases us u h.0 h.1) [ inl x ↦ inl (h.0, x, h.2) | inr e ↦ inr (subst (λ y. Brings v y t) (sym e) h.2) ]

-- the same counts
pub same_map : (v : View) (a : Arena) (In Now : Point → Test → Type 0) → ((q : Point) (t : Test) → In q t → Now q t) → ((q : Point) (t : Test) → Now q t → In q t) → IsMap v a In → IsMap v a Now
same_map v a In Now up down m = record {
  leaf = λ q s o Q r n.
      let x = m.leaf q s o Q r n in
      record { apart = λ w h. x.apart w (down q (Vertex w) h); off = λ d h. x.off d (down q (Edge d) h); seen = x.seen; top = λ d h. x.top d (down q (Edge d) h) };
  spanned = λ q s o i d Q r ch t. let x = m.spanned q s o i d Q r ch t in (up q (Edge d) x.0, x.1);
}

-- what a sound view brings has records
module _ (v : View) (s : IsGraphSound v) where
  brings_dart : (u : Test) (d : DartId) → IsTest v u → Brings v u (Edge d) → HasDart v d
  brings_dart (Vertex w) d h e = absurd (cc)
  brings_dart (Edge k) d h (inl e) = let y : d ≡ k = cc in subst (HasDart v) (sym y) h.0
  brings_dart (Edge k) d h (inr (inl e)) = absurd (cc)
  brings_dart (Edge k) d h (inr (inr e)) = absurd (cc)

  pub counted_dart : (us : List Test) (d : DartId) → AreTests v us → IsCounted v us (Edge d) → HasDart v d
  counted_dart us d known h = brings_dart h.0 d (known h.0 h.1) h.2

  named_vertex : (a : Arena) → AreNamed v a → (i : ℕ) (w : VertexId) → i < a.size → a.test i ≡ Vertex w → HasVertex v w
  named_vertex a named i w h t = subst (IsTest v) t (named i h)

  -- ---- the bound is a vertex, and ahead
  pub record IsBound (c p : Point) : Type 0 where
    pub vertex : VertexId
    pub has : HasVertex v vertex
    pub there : point_in v vertex ≡ p
    pub ahead : precedes c p ≡ true

  pub is_bound : (a : Arena) (e : PlaneEdge) (c : Point) (t : Slot) (l : Bool) (b : Option Point) → IsTree a → AreNamed v a → Descends v a e c t l b → (p : Point) → b ≡ Some p → IsBound c p
  is_bound a e c t0 l0 b0 tree named begins p h = absurd (none_some h)
  is_bound a e c t0 l0 b0 tree named (bounded t l b i w r ch x y z) p h =
      subst (IsBound c) (same_some h) (record { vertex = w; has = named_vertex a named i w (tree.bounded t i ch) x; there = refl; ahead = y })
  is_bound a e c t0 l0 b0 tree named (beyond t l b i w r ch x y z) p h = is_bound a e c t l b tree named r p h
  is_bound a e c t0 l0 b0 tree named (after t l b i w r ch x y) p h = is_bound a e c t l b tree named r p h
  is_bound a e c t0 l0 b0 tree named (sided t l b i d r ch x) p h = is_bound a e c t l b tree named r p h

-- ---- names
pub named_grown : (v : View) (a n : Arena) (s : Slot) (t : Test) → IsGrown a s t n → IsTest v t → AreNamed v a → AreNamed v n
named_grown v a n s t g h f i k =
    elim (cases_lt i a.size) [
      | inl l ↦ subst (IsTest v) (sym (g.tests i l)) (f i l)
      | inr l ↦ let e : i ≡ a.size = let y = g.size in omega (arith) in subst (IsTest v) (sym (ap n.test e ∙ g.asks)) h
    ]

pub named_hung : (v : View) (a n : Arena) (s u : Slot) (t : Test) (b x : Bool) → IsHung a s t b n u x → IsTest v t → AreNamed v a → AreNamed v n
named_hung v a n s u t b x0 (left_out e f) h k = subst (AreNamed v) (sym e) k
named_hung v a n s u t b x0 (hung g e) h k = named_grown v a n s t g h k

-- ---- the part that is in
pub record IsInPart (v : View) (k : DartId) (c : Point) : Type 0 where
  pub proper : HasWeight c
  pub from : precedes c (edge_in v k).low ≡ false
  pub to : precedes c (edge_in v k).high ≡ true

-- it ends at that point, or is all
abbrev pub IsPart : View → DartId → Option Point → Type 0
IsPart v k None = ⊤
IsPart v k (Some c) = IsInPart v k c

-- how many vertices are ahead
abbrev pub left : View → Option Point → ℕ
left v None = 0
left v (Some c) = count_by (λ p. precedes c p) (skeleton_of v).vertices + 1

module _ (v : View) (s : IsGraphSound v) (k : DartId) (forward : IsForward v k) (a : Arena) (tree : IsTree a) (named : AreNamed v a) where
  abbrev e : PlaneEdge
  e = edge_in v k

  E : Contains (skeleton_of v).edges e
  E = edge_known v k forward.0

  low : HasWeight e.low
  low = (s.plane.proper_edge e E).0

  high : HasWeight e.high
  high = (s.plane.proper_edge e E).1

  pub first_part : IsInPart v k e.low
  first_part = record { proper = low; from = before_irrefl e.low; to = ascends (skeleton_of v) e s.plane E }

  -- where q comes before the bound, it comes before what is left
  before_rest : (b : Option Point) (q h : Point) → ((p : Point) → b ≡ Some p → precedes q p ≡ true) → IsBeforeRest (rest_of b h) q
  before_rest None q h f = tt
  before_rest (Some p) q h f = by (precedes p h)
    where
      by : (x : Bool) → IsBeforeRest (cond x (Some p) None) q
      by true = f p refl
      by false = tt

  module _ (us : List Test) (known : AreTests v us) where
    abbrev So : Option Point → Point → Test → Type 0
    So rest q t = IsCountedSoFar v us (Edge k) rest q t

    -- nothing of it is in
    pub begun_map : IsMap v a (λ q. IsCounted v us) → IsMap v a (So (Some e.low))
    begun_map m = record {
      leaf = λ q t o Q r n.
          let x = m.leaf q t o Q r n in
          elim (cases_Bool (precedes q e.low)) [
            | inl h ↦ stays v a (λ p. IsCounted v us) k forward e.low go (So (Some e.low)) q o (λ u i. elim i [ inl y ↦ inl y | inr y ↦ inr y.0 ]) x (outside v a (λ p. IsCounted v us) k forward e.low go q o Q.positive (inl h))
            | inr h ↦ same v a (λ p. IsCounted v us) k forward e.low go (So (Some e.low)) q o (λ u i. elim i [ inl y ↦ y | inr y ↦ absurd (false≢true (sym h ∙ y.1)) ]) x
          ];
      spanned = λ q t o i d Q r ch x. let y = m.spanned q t o i d Q r ch x in (inl y.0, y.1);
    }
      where
        go : IsGoing v a (λ q. IsCounted v us) e e.low
        go = record {
          sound = s;
          tree = tree;
          map = m;
          counted = λ q d h. counted_dart v s us d known h;
          vertices = named_vertex v s a named;
          E = E;
          C = low;
          from = first_part.from;
          to = first_part.to;
        }

    -- one part more
    module _ (c : Point) (part : IsInPart v k c) (m : IsMap v a (So (Some c))) (t : Slot) (l : Bool) (b : Option Point) (r : Descends v a e c t l b) where
      go : IsGoing v a (So (Some c)) e c
      go = record {
        sound = s;
        tree = tree;
        map = m;
        counted = λ q d h. elim h [ inl x ↦ counted_dart v s us d known x | inr x ↦ brings_dart v s (Edge k) d forward x.0 ];
        vertices = named_vertex v s a named;
        E = E;
        C = part.proper;
        from = part.from;
        to = part.to;
      }

      now : IsNow v a (So (Some c)) k forward c go b (So (rest_of b e.high))
      now = record {
        grows = λ q u Q i. elim i [
          | inl x ↦ inl x
          | inr x ↦ inr (x.0, before_rest b q e.high (λ p h. let y = is_bound v s a e c t l b tree named r p h in before_trans q c p Q part.proper (subst HasWeight y.there (s.drawn.proper y.vertex y.has).positive) x.1 y.ahead))
        ];
        only = λ q u i. elim i [ inl x ↦ inl (inl x) | inr x ↦ inr x.0 ];
        before = λ q u h i. elim i [ inl x ↦ inl x | inr x ↦ inr (x.0, h) ];
        beyond = λ q p Q h x. beyond_by b q p Q h x (is_bound v s a e c t l b tree named r p h);
        new = λ q f. inr (inl refl, before_rest b q e.high f);
      }
        where
          beyond_by : (b : Option Point) (q p : Point) → HasWeight q → b ≡ Some p → precedes p q ≡ true → IsBound v s c p → (precedes e.high q ≡ true) ⊎ ((u : Test) → So (rest_of b e.high) q u → So (Some c) q u)
          beyond_by None q p Q h x y = absurd (none_some h)
          beyond_by (Some p') q p Q h x y = by (precedes p' e.high) refl
            where
              z : precedes p' q ≡ true
              z = subst (λ w. precedes w q ≡ true) (sym (same_some h)) x

              P : HasWeight p'
              P = subst HasWeight (y.there ∙ sym (same_some h)) (s.drawn.proper y.vertex y.has).positive

              by : (w : Bool) → precedes p' e.high ≡ w → (precedes e.high q ≡ true) ⊎ ((u : Test) → So (cond w (Some p') None) q u → So (Some c) q u)
              by true f = inr (λ u i. elim i [ inl j ↦ inl j | inr j ↦ absurd (false≢true (sym (before_asym q p' j.1) ∙ z)) ])
              by false f = inl (after_before e.high p' q high P Q f z)

      pub next_map : (n : Arena) (d : ℕ) → IsDown a t d → a.child t ≡ None → IsSplit a t l (is_some b) (source_in v k) (target_in v k) k n → IsMap v n (So (rest_of b e.high))
      next_map n d down bare x = split_map v a (So (Some c)) k forward c go b (So (rest_of b e.high)) now t l n r (λ i y h. down_place a tree t d i y down h) bare x

  -- the next part begins further on
  module _ (c : Point) (part : IsInPart v k c) (t : Slot) (l : Bool) (b : Option Point) (r : Descends v a e c t l b) where
    pub next_part : IsPart v k (rest_of b e.high)
    next_part = by b (λ p h. is_bound v s a e c t l b tree named r p h)
      where
        by : (b : Option Point) → ((p : Point) → b ≡ Some p → IsBound v s c p) → IsPart v k (rest_of b e.high)
        by None f = tt
        by (Some p) f = there (precedes p e.high) refl
          where
            P : HasWeight p
            P = let y = f p refl in subst HasWeight y.there (s.drawn.proper y.vertex y.has).positive

            there : (w : Bool) → precedes p e.high ≡ w → IsPart v k (cond w (Some p) None)
            there true h = record { proper = P; from = false_from_ne_true _ (λ z. false≢true (sym part.from ∙ before_trans c p e.low part.proper P low (f p refl).ahead z)); to = h }
            there false h = tt

    pub fewer_left : left v (rest_of b e.high) < left v (Some c)
    fewer_left = by b (λ p h. is_bound v s a e c t l b tree named r p h)
      where
        by : (b : Option Point) → ((p : Point) → b ≡ Some p → IsBound v s c p) → left v (rest_of b e.high) < left v (Some c)
        by None f = omega (arith)
        by (Some p) f = there (precedes p e.high)
          where
            y : IsBound v s c p
            y = f p refl

            P : HasWeight p
            P = subst HasWeight y.there (s.drawn.proper y.vertex y.has).positive

            fewer : count_by (λ x. precedes p x) (skeleton_of v).vertices < count_by (λ x. precedes c x) (skeleton_of v).vertices
            fewer =
                fewer_than (λ x. precedes p x) (λ x. precedes c x) (skeleton_of v).vertices p (subst (Contains (skeleton_of v).vertices) y.there (point_known v s.named y.vertex y.has)) (before_irrefl p) y.ahead
                (λ x X h. before_trans c p x part.proper P (s.plane.proper x X) y.ahead h)

            there : (w : Bool) → left v (cond w (Some p) None) < left v (Some c)
            there true = omega (arith, fewer)
            there false = omega (arith)

-- ---- whatever was in the graph before, what is not left of the edge is now
abbrev pub IsSoFar : View → Test → SearchGraph → SearchGraph → Option Point → Type 0
IsSoFar v u old g next = (us : List Test) → AreTests v us → IsMapOf v us old → IsMap v (arena g.nodes.items) (IsCountedSoFar v us u next)

-- all of it is in
pub all_in : (v : View) (a : Arena) (us : List Test) (u : Test) → IsMap v a (IsCountedSoFar v us u None) → IsMap v a (λ q. IsCounted v (us ++ (u ∷ [])))
all_in v a us u m =
    same_map v a (IsCountedSoFar v us u None) (λ q. IsCounted v (us ++ (u ∷ [])))
    (λ q t h. elim h [ inl x ↦ counted_old v us u t x | inr x ↦ counted_new v us u t x.0 ])
    (λ q t h. elim (counted_cases v us u t h) [ inl x ↦ inl x | inr x ↦ inr (x, tt) ])
    m
