-- Where x names the one dart that it follows, writing that dart turns all that x follows.
use Rattle.std.proofs.Common.{◌≡◌, ◌≢◌, inl, inr, ◌==◌, cond, ℕ, List, Option, Some, None, is_some, option_map, refl, sym, ap, ◌∙◌}
use Rattle.slab_laws.specs.declared.names.DartId.{DartId}
use Rattle.slab_laws.specs.Tables.{row_at, names, NamesAscend}
use Rattle.slab_laws.specs.View.{dart_id, next_in, next_or}
use Rattle.arr_notes.specs.NamedRows.{each, edit}
use Rattle.arr_notes.proofs.RowLaws.{row_at-each, row_at-edit, ascend-each, one_table}
use Rattle.arr_notes.proofs.Names.{cases_dart}
use Rattle.arr_notes.proofs.Reading.{dart_number}
use Rattle.integers.proofs.Tests.{other_number, same_number}
use Rattle.mirror_observer.specs.declared.tables.DartEntry.{DartEntry}
use Rattle.mirror_observer.specs.Tables.{dart_of, darts_of, previous_at, with_follower, diverted}
use Rattle.mirror_observer.specs.Standing.{IsLedByOne}
use Rattle.mirror_observer.proofs.Readers.{next_is, has_is}

module _ (ds : List (ℕ × DartEntry)) (asc : NamesAscend (names ds)) (x y b : DartId) (is : b ≡ previous_at ds x) (led : IsLedByOne ds x) where
  next_here : (k : ℕ) (e : DartEntry) → row_at ds k ≡ Some e → next_in (darts_of ds) (dart_id k) ≡ e.next
  next_here k e r = next_is ds (dart_id k) ∙ ap (λ o. next_or (dart_id k) (option_map dart_of o)) r

  is_before : (k : ℕ) (e : DartEntry) → row_at ds k ≡ Some e → e.next ≡ x → dart_id k ≡ b
  is_before k e r s = sym (led (dart_id k) (has_is ds (dart_id k) (ap is_some r)) (next_here k e r ∙ s)) ∙ sym is

  row_then : next_in (darts_of ds) b ≡ x → (k : ℕ) (o : Option DartEntry) → row_at ds k ≡ o → option_map (λ e. cond (k == b.0) (with_follower y e) e) o ≡ option_map (λ e. diverted x y e) o
  row_then q k None r = refl
  row_then q k (Some e) r = elim (cases_dart (dart_id k) b) [
    | inl s ↦
        let t : e.next ≡ x = sym (next_here k e r) ∙ ap (next_in (darts_of ds)) s ∙ q in
        ap (λ c. Some (cond c (with_follower y e) e)) (ap (λ z. z.0 == b.0) s ∙ same_number b.0 ∙ sym (ap (λ w. w.0 == x.0) t ∙ same_number x.0))
    | inr ne ↦
        ap (λ c. Some (cond c (with_follower y e) e)) (other_number k b.0 (dart_number (dart_id k) b ne) ∙ sym (other_number e.next.0 x.0 (dart_number e.next x (λ s. ne (is_before k e r s)))))
  ]

  pub redirected_one : next_in (darts_of ds) b ≡ x → edit b.0 (with_follower y) ds ≡ each (λ n e. diverted x y e) ds
  redirected_one q = one_table _ _ (ascend-each _ ds asc) (ascend-each _ ds asc) (λ k. row_at-edit b.0 (with_follower y) ds k ∙ row_then q k (row_at ds k) refl ∙ sym (row_at-each (λ n e. diverted x y e) ds k))

  row_else : (next_in (darts_of ds) b ≢ x) → (k : ℕ) (o : Option DartEntry) → row_at ds k ≡ o → o ≡ option_map (λ e. diverted x y e) o
  row_else q k None r = refl
  row_else q k (Some e) r =
      ap (λ c. Some (cond c (with_follower y e) e)) (sym (other_number e.next.0 x.0 (dart_number e.next x (λ s. q (ap (next_in (darts_of ds)) (sym (is_before k e r s)) ∙ next_here k e r ∙ s)))))

  pub redirected_none : next_in (darts_of ds) b ≢ x → ds ≡ each (λ n e. diverted x y e) ds
  redirected_none q = one_table _ _ asc (ascend-each _ ds asc) (λ k. row_else q k (row_at ds k) refl ∙ sym (row_at-each (λ n e. diverted x y e) ds k))
