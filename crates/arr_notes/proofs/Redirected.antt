-- Where one dart alone has a follower, redirecting that follower writes the one dart.
use Rattle.std.proofs.Common.{◌≡◌, ◌≢◌, ◌⊎◌, inl, inr, ℕ, ◌==◌, cond, Option, Some, None, is_some, option_map, refl, sym, ap, ◌∙◌, subst}
use Rattle.std.proofs.lemmas.Bool.{cases_eq}
use Rattle.slab_laws.specs.declared.names.DartId.{DartId}
use Rattle.slab_laws.specs.Sound.{IsNamed}
use Rattle.slab_laws.specs.Tables.{row_at}
use Rattle.slab_laws.specs.View.{View, DartRecord, HasDart, dart_id, next_in, next_or}
use Rattle.arr_notes.specs.NamedRows.{each, edit}
use Rattle.arr_notes.specs.ViewChanges.{with_next, redirect, followed_by, turned}
use Rattle.arr_notes.proofs.RowLaws.{row_at-each, ascend-each, one_table}
use Rattle.arr_notes.proofs.Reading.{dart_number}
use Rattle.arr_notes.specs.Reads.{IsRelinked}
use Rattle.arr_notes.proofs.DartReads.{next_is_set}
use Rattle.integers.proofs.Tests.{other_number, same_number}

pub one_is_redirected : (v : View) (x y c : DartId) → IsNamed v → HasDart v c → next_in v c ≡ x → ((e : DartId) → HasDart v e → next_in v e ≡ x → e ≡ c) → redirect v x y ≡ with_next v c y
one_is_redirected v x y c a h is only =
    let e : each (λ n r. turned x y r) v.darts ≡ edit c.0 (followed_by y) v.darts =
    one_table _ _ (ascend-each _ v.darts a.darts) (ascend-each _ v.darts a.darts) (λ n. row_at-each (λ k r. turned x y r) v.darts n ∙ by n (row_at v.darts n) refl (cases_eq n c.0) ∙ sym (row_at-each (λ k r. cond (k == c.0) (followed_by y r) r) v.darts n)) in
    (λ i. record { vertices = v.vertices; darts = e i })
  where
    by : (n : ℕ) (o : Option DartRecord) → row_at v.darts n ≡ o → (n ≡ c.0) ⊎ (n ≢ c.0) → option_map (λ r. turned x y r) o ≡ option_map (λ r. cond (n == c.0) (followed_by y r) r) o
    by n None e q = refl
    by n (Some r) e (inl q) =
        let k : r.next ≡ x = ap (next_or (dart_id n)) (sym e) ∙ ap (λ m. next_in v (dart_id m)) q ∙ is in
        ap (λ b. Some (cond b (followed_by y r) r)) (ap (λ z. z.0 == x.0) k ∙ same_number x.0 ∙ sym (ap (λ m. m == c.0) q ∙ same_number c.0))
    by n (Some r) e (inr ne) =
        let k : r.next ≢ x = λ s. ne (ap (λ z. z.0) (only (dart_id n) (ap is_some e) (ap (next_or (dart_id n)) e ∙ s))) in
        ap (λ b. Some (cond b (followed_by y r) r)) (other_number r.next.0 x.0 (dart_number r.next x k) ∙ sym (other_number n c.0 ne))

pub relinked : (v g : View) (x t : DartId) → g ≡ with_next v x t → IsRelinked v g
relinked v g x t e = subst (λ z. IsRelinked v z) (sym e) (next_is_set v x t).relinked
