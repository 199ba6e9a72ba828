-- Names of darts, vertices and curves, told by their numbers.
use Rattle.std.proofs.Common.{◌≡◌, ℕ, List, [], ◌∷◌, map, refl, ap, ◌≢◌, ◌⊎◌, inl, inr, Bool, true, false, sym, ◌∙◌}
use Rattle.std.proofs.lemmas.Bool.{false≢true, cases_eq, eqb-true, eq-eqb}
use Rattle.std.specs.Prelude.{◌==◌}
use Rattle.slab_laws.specs.declared.names.CurveId.{CurveId}
use Rattle.slab_laws.specs.declared.names.DartId.{DartId}
use Rattle.slab_laws.specs.View.{dart_id, vertex_id, curve_id}
use Rattle.slab_laws.specs.declared.names.VertexId.{VertexId}

pub numbers_of : (ns : List ℕ) → map (λ (c : CurveId). c.0) (map curve_id ns) ≡ ns
numbers_of [] = refl
numbers_of (n ∷ ns) = ap (λ ms. n ∷ ms) (numbers_of ns)

-- two names are one or not
pub cases_dart : (d e : DartId) → (d ≡ e) ⊎ (d ≢ e)
cases_dart d e = elim (cases_eq d.0 e.0) [ inl q ↦ inl (ap dart_id q) | inr ne ↦ inr (λ q. ne (ap (λ x. x.0) q)) ]

pub cases_vertex : (u w : VertexId) → (u ≡ w) ⊎ (u ≢ w)
cases_vertex u w = elim (cases_eq u.0 w.0) [ inl q ↦ inl (ap vertex_id q) | inr ne ↦ inr (λ q. ne (ap (λ x. x.0) q)) ]

-- as the code compares names
pub same_name : (d e : DartId) (b : Bool) → b ≡ (d.0 == e.0) → b ≡ true → d ≡ e
same_name d e b i t = ap dart_id (eqb-true d.0 e.0 (sym i ∙ t))

pub other_name : (d e : DartId) (b : Bool) → b ≡ (d.0 == e.0) → b ≡ false → d ≢ e
other_name d e b i f q = false≢true (sym f ∙ i ∙ eq-eqb d.0 e.0 (ap (λ (x : DartId). x.0) q))
