-- While a search graph is built, and at the end.
use Rattle.std.proofs.Common.{◌≡◌, ℕ, ◌<◌, ◌≤◌, ◌+◌, Bool, true, false, arith, refl, sym, ap, ◌∙◌, ◌⊎◌, inl, inr, subst, List, [], ◌∷◌, ◌++◌, length, get_or}
use Rattle.std.specs.Prelude.{◌↔◌, Option, None}
use Rattle.std.specs.List.{Contains}
use Rattle.std.proofs.lemmas.Bool.{cases_lt}
use Rattle.std.proofs.lemmas.List.{get_or_default}
use Rattle.std.proofs.lemmas.List.Elements.{Contains-append_left, Contains-push, Contains-push_cases}
use Rattle.exact_plane.specs.Point.{Point}
use Rattle.slab_laws.specs.declared.names.DartId.{DartId}
use Rattle.slab_laws.specs.declared.names.VertexId.{VertexId}
use Rattle.slab_laws.specs.Sound.{dart_in, IsGraphSound}
use Rattle.slab_laws.specs.View.{View, HasVertex, IsOutOf, source_in, twin_in}
use Rattle.arr_notes.specs.Curves.{IsForward}
use Rattle.sound_views.proofs.ForwardDarts.{is_behind, target_has}
use Rattle.locate_trapezoid.specs.declared.graph.SearchGraph.{SearchGraph}
use Rattle.locate_trapezoid.specs.declared.node.Slot.{Slot}
use Rattle.locate_trapezoid.specs.declared.node.Slot.TheVariants.{Root, Child}
use Rattle.locate_trapezoid.specs.declared.node.Test.{Test}
use Rattle.locate_trapezoid.specs.declared.node.Test.TheVariants.{Vertex, Edge}
use Rattle.locate_trapezoid.specs.Nodes.{arena, IsTree, IsDown, at_root, further, IsDepth}
use Rattle.locate_trapezoid.specs.Ways.{ComesBy, start, step, IsMap}
use Rattle.face_location.specs.Below.{IsSeenOrNone}
use Rattle.locate_trapezoid.specs.Counted.{IsTest, Brings, IsCounted}
use Rattle.locate_trapezoid.specs.Graphs.{IsWellMade, IsMapOf, AreTests, IsPutIn, IsSearchGraphOf}
use Rattle.locate_trapezoid.proofs.Paths.{none_some}
use Rattle.locate_trapezoid.proofs.Parts.{same_map}

-- ---- at first there are no nodes
no_child : (s : Slot) → (arena []).child s ≡ None
no_child Root = refl
no_child (Child i false) = refl
no_child (Child i true) = refl

empty_tree : IsTree (arena [])
empty_tree = record {
  bounded = λ s i h. absurd (none_some (sym (no_child s) ∙ h));
  empty = λ i b h. no_child (Child i b);
  later = λ i j b h. absurd (none_some (sym (no_child (Child i b)) ∙ h));
  single = λ s t i h k. absurd (none_some (sym (no_child s) ∙ h));
}

empty_depth : IsDepth (arena []) 0
empty_depth = record { most = most; some = (Root, at_root) }
  where
    most : (s : Slot) (n : ℕ) → IsDown (arena []) s n → n ≤ 0
    most s0 n0 at_root = omega (arith)
    most s0 n0 (further s n i b r c) = absurd (none_some (sym (no_child s) ∙ c))

module _ (v : View) where
  none_counted : (t : Test) → IsCounted v [] t → ⊥
  none_counted t h = absurd (let k = h.1.1 in omega (arith))

  nothing_told : (q : Point) (s : Slot) (o : Option DartId) → ComesBy v (arena []) q s o → o ≡ None
  nothing_told q s o (start s0 o0 e f) = f
  nothing_told q s o (step s0 o0 t p i b r c w e f) = absurd (none_some (sym (no_child t) ∙ c))

  empty_map : IsMap v (arena []) (λ q. IsCounted v [])
  empty_map = record {
    leaf = λ q s o Q r n. record {
      apart = λ w h. absurd (none_counted (Vertex w) h);
      off = λ d h. absurd (none_counted (Edge d) h);
      seen = subst (IsSeenOrNone v q) (sym (nothing_told q s o r)) tt;
      top = λ d h. absurd (none_counted (Edge d) h);
    };
    spanned = λ q s o i d Q r h. absurd (none_some (sym (no_child s) ∙ h));
  }

  -- ---- those of the order that came so far are in
  pub record IsBuiltSoFar (order : List Test) (g : SearchGraph) (i : ℕ) : Type 0 where
    pub made : IsWellMade v g
    pub items : List Test
    pub known : AreTests v items
    pub told : IsMapOf v items g
    pub there : (j : ℕ) (t : Test) → j < i → get_or order j t ≡ t → Contains items t

  pub none_built : (order : List Test) (g : SearchGraph) → g.nodes.items ≡ [] → g.depth ≡ 0 → IsBuiltSoFar order g 0
  none_built order g e f = record {
    made = record {
      tree = subst (λ l. IsTree (arena l)) (sym e) empty_tree;
      depth = subst (λ l. IsDepth (arena l) g.depth) (sym e) (subst (IsDepth (arena [])) (sym f) empty_depth);
      named = λ i h. absurd (let k = ap length e in omega (arith));
    };
    items = [];
    known = λ t h. absurd (let k = h.1 in omega (arith));
    told = subst (λ l. IsMap v (arena l) (λ q. IsCounted v [])) (sym e) empty_map;
    there = λ j t h. absurd (omega (arith));
  }

  -- the next one, as the code reads it
  pub one_built : (order : List Test) (g h : SearchGraph) (i : ℕ) (x : Test) → i < length order → IsTest v (get_or order i x) → IsWellMade v h → IsPutIn v (get_or order i x) g h → IsBuiltSoFar order g i → IsBuiltSoFar order h (i + 1)
  one_built order g h i x l is made put so = by (get_or order i x) refl is put
    where
      by : (t : Test) → t ≡ get_or order i x → IsTest v t → IsPutIn v t g h → IsBuiltSoFar order h (i + 1)
      by t e is put = record {
        made = made;
        items = so.items ++ (t ∷ []);
        known = λ u c. elim (Contains-push_cases so.items t u c) [ inl y ↦ so.known u y | inr y ↦ subst (IsTest v) y is ];
        told = put so.items so.known so.told;
        there = λ j u k f. elim (cases_lt j i) [
          | inl y ↦ Contains-append_left so.items (t ∷ []) u (so.there j u y f)
          | inr y ↦
              let z : i ≡ j = omega (arith) in
              subst (Contains (so.items ++ (t ∷ []))) (e ∙ get_or_default order i x u l ∙ ap (λ n. get_or order n u) z ∙ f) (Contains-push so.items t)
        ];
      }

-- ---- the order, as it was read
pub same_items : (tests ts order now : List Test) → ts ≡ tests → now ≡ order → ((t : Test) → Contains order t ↔ Contains ts t) → (t : Test) → Contains now t ↔ Contains tests t
same_items tests ts order now e f same t = subst (λ l. Contains l t ↔ Contains tests t) (sym f) (subst (λ l. Contains order t ↔ Contains l t) e (same t))

pub item_in : (tests now : List Test) → ((t : Test) → Contains now t ↔ Contains tests t) → (i : ℕ) (x : Test) → i < length now → Contains tests (get_or now i x)
item_in tests now same i x l = (same (get_or now i x)).0 (i, l, get_or_default now i (get_or now i x) x l)

-- ---- at the end all of the view is in
module _ (v : View) (s : IsGraphSound v) where
  brought : (u t : Test) → IsTest v u → Brings v u t → IsTest v t
  brought (Vertex w) t h e = subst (IsTest v) (sym e) h
  brought (Edge d) t h (inl e) = subst (IsTest v) (sym e) h
  brought (Edge d) t h (inr (inl e)) = subst (IsTest v) (sym e) (s.linked.source d h.0)
  brought (Edge d) t h (inr (inr e)) = subst (IsTest v) (sym e) (target_has v s d h.0)

  -- a dart out of a vertex, or its twin, goes forward, and brings the vertex
  brings_end : (w : VertexId) (d : DartId) → IsOutOf v w d → (k : DartId) × IsForward v k × Brings v (Edge k) (Vertex w)
  brings_end w d out = by (dart_in v d).forward refl
    where
      by : (b : Bool) → (dart_in v d).forward ≡ b → (k : DartId) × IsForward v k × Brings v (Edge k) (Vertex w)
      by true e = (d, (out.0, e), inr (inl (ap Vertex (sym out.1))))
      by false e = (twin_in v d, (is_behind v s d out.0 e (twin_in v d) refl).forward, inr (inr (ap Vertex (sym (ap (source_in v) (s.twinned.back d out.0) ∙ out.1)))))

  pub all_built : (tests order : List Test) (g : SearchGraph) (i : ℕ) → length order ≤ i
      → ((t : Test) → Contains order t ↔ Contains tests t)
      → ((d : DartId) → IsForward v d → Contains tests (Edge d))
      → ((w : VertexId) → HasVertex v w → Contains tests (Vertex w) ⊎ ((d : DartId) × IsOutOf v w d))
      → IsBuiltSoFar v order g i → IsSearchGraphOf v g
  all_built tests order g i l same edges vertices so = record {
    made = so.made;
    told = same_map v (arena g.nodes.items) (λ q. IsCounted v so.items) (λ q. IsTest v) (λ q t h. brought h.0 t (so.known h.0 h.1) h.2) (λ q. counted) so.told;
  }
    where
      in' : (t : Test) → Contains tests t → Contains so.items t
      in' t c = let x = (same t).1 c in so.there x.0 t (let k = x.1 in omega (arith)) x.2

      counted : (t : Test) → IsTest v t → IsCounted v so.items t
      counted (Edge d) h = (Edge d, in' (Edge d) (edges d h), inl refl)
      counted (Vertex w) h = elim (vertices w h) [
        | inl x ↦ (Vertex w, in' (Vertex w) x, refl)
        | inr x ↦ let k = brings_end w x.0 x.1 in (Edge k.0, in' (Edge k.0) (edges k.0 k.1), k.2)
      ]
