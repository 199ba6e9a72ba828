-- Whether an edge has another curve than one.
use Rattle.std.proofs.Common.{◌≡◌, ◌≢◌, inl, inr, ℕ, Bool, not, true, false, sym, ◌∙◌}
use Rattle.std.specs.List.{list_any}
use Rattle.std.proofs.lemmas.Bool.{cases_eq}
use Rattle.plane_graphs.specs.Graph.{same_curve}
use Rattle.plane_graphs.proofs.Lists.{any_in, any_out, not_in, not_out, decide, clash}
use Rattle.plane_graphs.proofs.Order.{curve_in, curve_out}
use Rattle.slab_laws.specs.declared.names.DartId.{DartId}
use Rattle.curve_history.specs.declared.history.History.TheInside.{Inside}
use Rattle.curve_history.specs.HistoryInMemory.{Says}
use Rattle.curve_history.specs.Past.{Past, curves_on}
use Rattle.edit_steps.specs.EditLaws.{curve_of}
use Rattle.curve_history.proofs.Histories.{IsSeen, runs_says, says_runs}
use Rattle.integers.proofs.Tests.{not_true}

pub no_other : (P : ℕ → Type 0) (c : ℕ) → ((i : ℕ) → curve_of i ≢ c → ¬ P i) → (i : ℕ) → P i → curve_of i ≡ c
no_other P c f i p = elim (cases_eq (curve_of i) c) [
  | inl e ↦ e
  | inr ne ↦ absurd (f i ne p)
]

-- what is said of an edge tells whether another curve runs along it
pub other_held : (i : Inside) (old : Past) → IsSeen i old → (d : DartId) (c : ℕ) (r : Bool) → (r ≡ true → (j : ℕ) × Says i.by_edge d.0 j × (curve_of j ≢ c)) → (r ≡ false → (j : ℕ) → Says i.by_edge d.0 j → curve_of j ≡ c) → r ≡ list_any (λ k. not (same_curve k c)) (curves_on old d)
other_held i old v d c r f g = elim (decide r) [
  | inl t ↦
      let j = f t in
      t ∙ sym (any_in (λ k. not (same_curve k c)) (curve_of j.0) (curves_on old d) (says_runs i old v d j.0 j.1) (not_in (same_curve (curve_of j.0) c) (λ q. j.2 (curve_out (curve_of j.0) c q))))
  | inr t ↦
      t ∙ sym (not_true _ (λ q.
      let j = any_out (λ k. not (same_curve k c)) (curves_on old d) q in
      let z = runs_says i old v d j.0 j.1 in
      clash (curve_in j.0 c (z.1 ∙ g t z.0 z.2)) (not_out (same_curve j.0 c) j.2)))
]
