-- What holds of the edges of forward darts, or of those with the lesser name of two, holds of the edges of all.
use Rattle.std.proofs.Common.{◌≡◌, ◌≢◌, ℕ, ◌<◌, ◌≤◌, ◌⊎◌, inl, inr, arith, Bool, true, false, refl, sym, ap, ◌∙◌, subst}
use Rattle.std.proofs.lemmas.Bool.{cases_lt}
use Rattle.std.specs.Prelude.{not, nat_lt}
use Rattle.integers.proofs.Tests.{nat_lt_yes}
use Rattle.exact_plane.specs.Line.{Line}
use Rattle.slab_laws.specs.Darts.{Dart}
use Rattle.slab_laws.specs.Sound.{edge_in, dart_in, IsGraphSound}
use Rattle.slab_laws.specs.View.{View, HasDart, dart_id, twin_in, line_in}
use Rattle.slab_laws.specs.declared.names.DartId.{DartId}
use Rattle.plane_graphs.specs.Graph.{Edge}
use Rattle.plane_graphs.proofs.Lists.{clash}
use Rattle.sound_views.proofs.NamedDarts.{twin_dart}

-- ---- each edge has a dart that goes forward, and twins have one edge and one line
module _ (v : View) (s : IsGraphSound v) where
  pub by_forward : (Q : Edge → Line → Type 0) → ((d : DartId) → HasDart v d → (dart_in v d).forward ≡ true → Q (edge_in v d) (line_in v d)) → (d : DartId) → HasDart v d → Q (edge_in v d) (line_in v d)
  by_forward Q f d has = step (dart_in v d).forward refl
    where
      step : (b : Bool) → (dart_in v d).forward ≡ b → Q (edge_in v d) (line_in v d)
      step true e = f d has e
      step false e =
          let t = twin_dart v s d has in
          let there = f (twin_in v d) (s.twinned.has d has) (ap (λ (h : Dart). h.forward) t ∙ ap not e) in
          subst (λ l. Q (edge_in v d) l) (s.twinned.line d has) (subst (λ e. Q e (line_in v (twin_in v d))) (ap (λ (h : Dart). h.edge) t) there)

  turned_order : (m n : ℕ) → nat_lt m n ≡ false → m ≢ n → nat_lt n m ≡ true
  turned_order m n h other = by (cases_lt n m)
    where
      either : (m < n) ⊎ (n ≤ m) → m ≤ n → nat_lt n m ≡ true
      either (inl l) k = clash (nat_lt_yes m n l) h
      either (inr l) k = absurd (other (omega (arith, l, k)))

      by : (n < m) ⊎ (m ≤ n) → nat_lt n m ≡ true
      by (inl l) = nat_lt_yes n m l
      by (inr k) = either (cases_lt m n) k

  -- one of the two darts along an edge has the lesser name
  pub by_first : (Q : Edge → Line → Type 0) → ((d : DartId) → HasDart v d → nat_lt d.0 (twin_in v d).0 ≡ true → Q (edge_in v d) (line_in v d)) → (d : DartId) → HasDart v d → Q (edge_in v d) (line_in v d)
  by_first Q f d has = step (nat_lt d.0 (twin_in v d).0) refl
    where
      step : (b : Bool) → nat_lt d.0 (twin_in v d).0 ≡ b → Q (edge_in v d) (line_in v d)
      step true e = f d has e
      step false e =
          let t = twin_dart v s d has in
          let other : d.0 ≢ (twin_in v d).0 = λ q. s.twinned.other d has (ap dart_id (sym q)) in
          let there = f (twin_in v d) (s.twinned.has d has) (ap (λ (x : DartId). nat_lt (twin_in v d).0 x.0) (s.twinned.back d has) ∙ turned_order d.0 (twin_in v d).0 e other) in
          subst (λ l. Q (edge_in v d) l) (s.twinned.line d has) (subst (λ e. Q e (line_in v (twin_in v d))) (ap (λ (h : Dart). h.edge) t) there)
