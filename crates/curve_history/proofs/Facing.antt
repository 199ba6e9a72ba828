-- The curves of an edge, asked of either of its darts.
use Rattle.std.proofs.Common.{◌≡◌, ◌≢◌, ◌↔◌, Result, Ok, Err, IfOk, Bool, true, false, not, List, [], ◌∷◌, map, if◌then◌else◌, refl, sym, ap, subst, ◌∙◌}
use Rattle.std.specs.List.Sorted.{IsStrictlyIncreasing}
use Rattle.std.specs.declared.vec.Vec.{Vec}
use Rattle.std.specs.Ordering.{nat_cmp}
use Rattle.std.proofs.lemmas.Bool.{false≢true}
use Rattle.std.proofs.lemmas.Map.Keys.{IsStrictlyIncreasing-from_sorted}
use Rattle.plane_graphs.proofs.Ascending.{to_std}
use Rattle.slab_laws.specs.declared.names.CurveId.{CurveId}
use Rattle.slab_laws.specs.declared.names.DartId.{DartId}
use Rattle.slab_laws.specs.View.{View, HasDart, twin_in, curve_id}
use Rattle.arr_notes.specs.Curves.{is_forward}
use Rattle.arr_notes.specs.CurvedView.{AreListsOf}
use Rattle.arr_notes.proofs.Names.{numbers_of}
use Rattle.curve_history.specs.Past.{Past, curves_on}
use Rattle.curve_history.specs.DrawnRecords.{forward_of, curves_in, IsTold, DrawnRecords}
use Rattle.integers.proofs.Tests.{not_true}

ids_of : (cs : List CurveId) → cs ≡ map curve_id (map (λ (c : CurveId). c.0) cs)
ids_of [] = refl
ids_of (c ∷ cs) = ap (λ ds. c ∷ ds) (ids_of cs)

is_true : (b : Bool) → (b ≡ false → ⊥) → b ≡ true
is_true true f = refl
is_true false f = absurd (f refl)

module _ (v : View) (p : Past) (t : IsTold v p) (d : DartId) where
  pub curves_ascend : IsStrictlyIncreasing (map (λ (c : CurveId). c.0) (curves_in v p d))
  curves_ascend = subst IsStrictlyIncreasing (sym (numbers_of (curves_on p (forward_of v d)))) (IsStrictlyIncreasing-from_sorted (curves_on p (forward_of v d)) (to_std nat_cmp (curves_on p (forward_of v d)) (t.curves.ascend (forward_of v d))))

  forward : is_forward v d ≡ true → forward_of v d ≡ d
  forward e = rw e refl

  backward : is_forward v d ≡ false → forward_of v d ≡ twin_in v d
  backward e = rw e refl

  -- a dart with curves is forward, and of twins with none the other is
  pub here : (cs : List CurveId) → curves_on p d ≢ [] → map (λ (c : CurveId). c.0) cs ≡ curves_on p d → cs ≡ curves_in v p d
  here cs f h =
      let e : forward_of v d ≡ d = forward (is_true (is_forward v d) (λ b. f (t.curves.backward d b))) in
      ids_of cs ∙ ap (map curve_id) (h ∙ sym (ap (curves_on p) e))

  pub there : HasDart v d → (cs : List CurveId) → ¬ (curves_on p d ≢ []) → map (λ (c : CurveId). c.0) cs ≡ curves_on p (twin_in v d) → cs ≡ curves_in v p d
  there has cs f h =
      let e : forward_of v d ≡ twin_in v d = backward (not_true (is_forward v d) (λ b. f (t.curves.some d (has, b)))) in
      ids_of cs ∙ ap (map curve_id) (h ∙ sym (ap (curves_on p) e))

  same_forward : (b : Bool) → is_forward v d ≡ b → is_forward v (twin_in v d) ≡ not b → twin_in v (twin_in v d) ≡ d → forward_of v (twin_in v d) ≡ forward_of v d
  same_forward true e f g = rw (e, f) g
  same_forward false e f g = rw (e, f) refl

  pub twins_same : HasDart v d → twin_in v (twin_in v d) ≡ d → curves_in v p (twin_in v d) ≡ curves_in v p d
  twins_same has g = ap (λ x. map curve_id (curves_on p x)) (same_forward (is_forward v d) refl (t.directed d has) g)

-- the lists that both tell are the history's curves of the forward darts
pub lists_read : (v : View) (p : Past) → AreListsOf v (curves_on p) (curves_in v p)
lists_read v p d f = numbers_of (curves_on p (forward_of v d)) ∙ ap (curves_on p) (ap (λ b. if b then d else twin_in v d) f.1)

-- ---- as a caller sees both
module _ {X : Type 0} (graph : X → View) (x : X) (p : Past) (s : DrawnRecords X) (e : record { records = x; history = p } ≡ s) (t : IsTold (graph x) p) (d : DartId) (has : HasDart (graph s.records) d) where
  had : HasDart (graph x) d
  had = subst (λ (s : DrawnRecords X). HasDart (graph s.records) d) (sym e) has

  pub ascend_seen : IsStrictlyIncreasing (map (λ (c : CurveId). c.0) (curves_in (graph s.records) s.history d))
  ascend_seen = subst (λ (s : DrawnRecords X). IsStrictlyIncreasing (map (λ (c : CurveId). c.0) (curves_in (graph s.records) s.history d))) e (curves_ascend (graph x) p t d)

  pub twins_seen : (m : DartId) → m ≡ twin_in (graph x) d → twin_in (graph x) m ≡ d → curves_in (graph s.records) s.history (twin_in (graph s.records) d) ≡ curves_in (graph s.records) s.history d
  twins_seen m q g = subst (λ (s : DrawnRecords X). curves_in (graph s.records) s.history (twin_in (graph s.records) d) ≡ curves_in (graph s.records) s.history d) e (twins_same (graph x) p t d had (ap (twin_in (graph x)) (sym q) ∙ g))

  pub here_seen : {Z E : Type 0} (r : Result (Vec CurveId Z) E) (b : Bool) → (b ≡ true) ↔ (curves_on p d ≢ []) → b ≡ true → IfOk r (λ y. map (λ (c : CurveId). c.0) y.items ≡ curves_on p d) → IfOk r (λ y. y.items ≡ curves_in (graph s.records) s.history d)
  here_seen (Ok y) b f q h = subst (λ (s : DrawnRecords X). y.items ≡ curves_in (graph s.records) s.history d) e (here (graph x) p t d y.items (f.0 q) h)
  here_seen (Err z) b f q h = tt

  pub there_seen : {Z E : Type 0} (r : Result (Vec CurveId Z) E) (b : Bool) (m : DartId) → m ≡ twin_in (graph x) d → (b ≡ true) ↔ (curves_on p d ≢ []) → b ≡ false → IfOk r (λ y. map (λ (c : CurveId). c.0) y.items ≡ curves_on p m) → IfOk r (λ y. y.items ≡ curves_in (graph s.records) s.history d)
  there_seen (Ok y) b m g f q h = subst (λ (s : DrawnRecords X). y.items ≡ curves_in (graph s.records) s.history d) e (there (graph x) p t d had y.items (λ n. false≢true (sym q ∙ f.1 n)) (h ∙ ap (curves_on p) g))
  there_seen (Err z) b m g f q h = tt
