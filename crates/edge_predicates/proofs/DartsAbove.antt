-- Sums over the darts of one cycle of a graph, by edges and by darts; and whether they are odd.
use Rattle.std.proofs.Common.{◌≡◌, ℕ, ◌+◌, Bool, true, false, cond, arith, refl, sym, ◌∙◌, map}
use Rattle.std.specs.Prelude.{◌&&◌, ◌==◌, ◌%◌, not}
use Rattle.std.specs.List.{sum_by}
use Rattle.std.proofs.lemmas.Bool.{eqb-true, eqb-false, eq-eqb}
use Rattle.std.proofs.lemmas.List.Sums.{sum_by-append}
use Rattle.integers.proofs.Tests.{not_true}
use Rattle.plane_graphs.specs.Graph.{Edge}
use Rattle.slab_laws.specs.Skeleton.{Skeleton}
use Rattle.slab_laws.specs.Darts.{Dart, darts, ahead, back}
use Rattle.slab_laws.specs.Rotation.{same_dart}
use Rattle.slab_laws.specs.Rows.{least_dart_of}
use Rattle.slab_faces.proofs.Sums.{each, sum_by-same, sum_by-plus}
use Rattle.slab_faces.proofs.Shift.{sum_by-map}
use Rattle.slab_faces.proofs.OuterCycles.{cond_plus}

-- ---- the darts of a cycle whose edges pass a test
-- how often a dart counts by its cycle, and by its edge too
abbrev pub on_cycle : Skeleton → Dart → Dart → ℕ
on_cycle g l d = cond (same_dart (least_dart_of g d) l) 1 0

abbrev pub on_and_above : Skeleton → Dart → (Edge → Bool) → Dart → ℕ
on_and_above g l above d = cond (above d.edge) (on_cycle g l d) 0

pub by_darts : (g : Skeleton) (l : Dart) (above : Edge → Bool) → sum_by (λ e. cond (above e) (on_cycle g l (ahead e) + on_cycle g l (back e)) 0) g.edges ≡ sum_by (on_and_above g l above) (darts g)
by_darts g l above =
    let told : Dart → ℕ = on_and_above g l above in
    sum_by-same (λ e. cond (above e) (on_cycle g l (ahead e) + on_cycle g l (back e)) 0) (λ e. told (ahead e) + told (back e)) g.edges
    (each (λ e. cond (above e) (on_cycle g l (ahead e) + on_cycle g l (back e)) 0 ≡ told (ahead e) + told (back e)) g.edges (λ e _. cond_plus (above e) (on_cycle g l (ahead e)) (on_cycle g l (back e))))
    ∙ sum_by-plus (λ e. told (ahead e)) (λ e. told (back e)) g.edges
    ∙ (λ i. sym (sum_by-map told ahead g.edges) i + sym (sum_by-map told back g.edges) i)
    ∙ sym (sum_by-append told (map ahead g.edges) (map back g.edges))

pub cond_both : (a b : Bool) → cond {A = ℕ} a (cond b 1 0) 0 ≡ cond (b && a) 1 0
cond_both true true = refl
cond_both true false = refl
cond_both false true = refl
cond_both false false = refl

-- one more
pub flips : (n : ℕ) → ((n + 1) % 2 == 1) ≡ not (n % 2 == 1)
flips n = go (n % 2 == 1) refl
  where
    go : (b : Bool) → (n % 2 == 1) ≡ b → ((n + 1) % 2 == 1) ≡ not b
    go true e = let a : n % 2 ≡ 1 = eqb-true _ _ e in not_true ((n + 1) % 2 == 1) (λ h. let k : (n + 1) % 2 ≡ 1 = eqb-true _ _ h in absurd (omega arith))
    go false e = let a = eqb-false _ _ e in eq-eqb _ _ (omega arith)
