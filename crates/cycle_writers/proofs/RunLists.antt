use Rattle.sound_views.proofs.NameTables.{names_exact}
-- What is in a run: its first dart, what goes on from each to the next, and with a dart the next one, or that is where it ends.
use Rattle.std.proofs.Common.{◌≡◌, ◌≢◌, Bool, true, false, refl, sym, ap, ◌∙◌, subst, ◌⊎◌, inl, inr, List, [], ◌∷◌}
use Rattle.std.specs.Prelude.{◌||◌}
use Rattle.std.proofs.lemmas.Bool.{false≢true, or_cases, or_left, or_right}
use Rattle.slab_laws.specs.declared.names.DartId.{DartId}
use Rattle.slab_laws.specs.View.{View, next_in}
use Rattle.slab_faces.proofs.Member.{Member}
use Rattle.arr_notes.specs.CycleNames.{same_name}
use Rattle.cycle_writers.specs.Runs.{IsRun}

-- ---- a list as a test
pub is_in : List DartId → DartId → Bool
is_in [] k = false
is_in (x ∷ xs) k = same_name x k || is_in xs k

pub in_true : (ds : List DartId) (k : DartId) → Member ds k → is_in ds k ≡ true
unfolding is_in
in_true [] k m = absurd m
in_true (x ∷ xs) k (inl e) = or_left (same_name x k) (is_in xs k) (subst (λ z. same_name x z ≡ true) e (names_exact.itself x))
in_true (x ∷ xs) k (inr m) = or_right (same_name x k) (is_in xs k) (in_true xs k m)

pub true_in : (ds : List DartId) (k : DartId) → is_in ds k ≡ true → Member ds k
unfolding is_in
true_in [] k t = absurd (false≢true t)
true_in (x ∷ xs) k t = elim (or_cases (same_name x k) (is_in xs k) t) [ inl e ↦ inl (names_exact.path x k e) | inr r ↦ inr (true_in xs k r) ]

-- ---- runs
module _ (v : View) (to : DartId) where
  pub first_in : (from : DartId) (ds : List DartId) → IsRun v from to ds → Member ds from
  unfolding IsRun
  first_in from [] r = absurd r
  first_in from (x ∷ []) r = inl r.0
  first_in from (x ∷ y ∷ ds) r = inl r.0

  pub all_of : (P : DartId → Type 0) → ((x : DartId) → P x → next_in v x ≢ to → P (next_in v x)) → (from : DartId) (ds : List DartId) → IsRun v from to ds → P from → (k : DartId) → Member ds k → P k
  unfolding IsRun
  all_of P step from [] r h k m = absurd r
  all_of P step from (x ∷ []) r h k (inl e) = subst P (sym r.0 ∙ e) h
  all_of P step from (x ∷ []) r h k (inr m) = absurd m
  all_of P step from (x ∷ y ∷ ds) r h k (inl e) = subst P (sym r.0 ∙ e) h
  all_of P step from (x ∷ y ∷ ds) r h k (inr m) = all_of P step (next_in v from) (y ∷ ds) r.2 (step from h r.1) k m

  pub goes_on : (from : DartId) (ds : List DartId) → IsRun v from to ds → (k : DartId) → Member ds k → Member ds (next_in v k) ⊎ (next_in v k ≡ to)
  unfolding IsRun
  goes_on from [] r k m = absurd r
  goes_on from (x ∷ []) r k (inl e) = inr (ap (next_in v) (sym e ∙ r.0) ∙ r.1)
  goes_on from (x ∷ []) r k (inr m) = absurd m
  goes_on from (x ∷ y ∷ ds) r k (inl e) = inl (inr (subst (Member (y ∷ ds)) (ap (next_in v) (sym r.0 ∙ e)) (first_in (next_in v from) (y ∷ ds) r.2)))
  goes_on from (x ∷ y ∷ ds) r k (inr m) = elim (goes_on (next_in v from) (y ∷ ds) r.2 k m) [ inl z ↦ inl (inr z) | inr z ↦ inr z ]

  -- one that ends with its first dart, and one with a dart more before it
  pub one_dart : (from : DartId) → next_in v from ≡ to → IsRun v from to (from ∷ [])
  unfolding IsRun
  one_dart from e = (refl, e)

  pub one_before : (from : DartId) → next_in v from ≢ to → (ds : List DartId) → IsRun v (next_in v from) to ds → IsRun v from to (from ∷ ds)
  unfolding IsRun
  one_before from n [] r = absurd r
  one_before from n (y ∷ ds) r = (refl, n, r)
