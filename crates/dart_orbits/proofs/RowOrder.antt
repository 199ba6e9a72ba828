-- The order of rows: by source, target, edge and way.
use Rattle.std.proofs.Common.{◌≡◌, Bool, true, false, Ordering, Equal, refl}
use Rattle.std.specs.Ordering.{ordering_then, nat_cmp, bool_cmp, eq_by_cmp}
use Rattle.std.specs.Cmp.{IsTotalOrder, then_total, on_total, nat_cmp_total, bool_cmp_total}
use Rattle.std.proofs.lemmas.Bool.{false_from_ne_true}
use Rattle.integers.proofs.Classes.{then_equal}
use Rattle.integers.proofs.Tests.{nat_exact, is_equal}
use Rattle.slab_laws.specs.declared.rows.ListedDart.{ListedDart}

abbrev pub row_cmp : ListedDart → ListedDart → Ordering
row_cmp r s = ordering_then (nat_cmp r.source s.source) (ordering_then (nat_cmp r.target s.target) (ordering_then (nat_cmp r.edge s.edge) (bool_cmp r.forward s.forward)))

pub row_cmp_total : IsTotalOrder row_cmp
row_cmp_total = then_total (on_total (λ r. r.source) nat_cmp_total) (then_total (on_total (λ r. r.target) nat_cmp_total) (then_total (on_total (λ r. r.edge) nat_cmp_total) (on_total (λ r. r.forward) bool_cmp_total)))

-- ---- what an order says

bool_tied : (a b : Bool) → bool_cmp a b ≡ Equal → a ≡ b
bool_tied true true e = refl
bool_tied true false e = cc
bool_tied false true e = cc
bool_tied false false e = refl

pub row_tied : (r s : ListedDart) → row_cmp r s ≡ Equal → r ≡ s
row_tied r s e =
    let a = then_equal (nat_cmp r.source s.source) _ e in
    let b = then_equal (nat_cmp r.target s.target) _ a.1 in
    let c = then_equal (nat_cmp r.edge s.edge) _ b.1 in
    let p = nat_exact r.source s.source a.0 in
    let q = nat_exact r.target s.target b.0 in
    let t = nat_exact r.edge s.edge c.0 in
    let f = bool_tied r.forward s.forward c.1 in
    λ i. record { source = p i; target = q i; edge = t i; forward = f i }

-- rows that differ are not tied
pub untied : (r s : ListedDart) → (r ≡ s → ⊥) → eq_by_cmp row_cmp r s ≡ false
untied r s h = false_from_ne_true _ (λ t. h (row_tied r s (is_equal (row_cmp r s) t)))
