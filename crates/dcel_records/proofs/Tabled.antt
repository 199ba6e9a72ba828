-- What a write of a slab makes of its table by keys.
use Rattle.std.proofs.Common.{◌≡◌, inl, inr, ℕ, ◌==◌, cond, Some, None, option_map, sym, ap, ◌∙◌}
use Rattle.std.proofs.lemmas.Bool.{cases_eq}
use Rattle.slab.specs.Slab.{Slab, get, Updates}
use Rattle.slab_laws.specs.Tables.{row_at}
use Rattle.arr_notes.specs.NamedRows.{put, del, edit}
use Rattle.arr_notes.proofs.RowLaws.{row_at-put, row_at-del, edit_hit, edit_miss, ascend-put, ascend-del, ascend-each, one_table}
use Rattle.chain_laws.specs.Rows.{tabled}
use Rattle.chain_laws.proofs.Tabled.{row-tabled, ascend-tabled}
use Rattle.integers.proofs.Tests.{other_number, same_number}

module _ {X Y : Type 0} (f : X → Y) where
  pub tabled_put : (s t : Slab X) (k : ℕ) (x : X) → Updates s t k (Some x) → tabled f t ≡ put k (f x) (tabled f s)
  tabled_put s t k x u =
      one_table _ _ (ascend-tabled f t) (ascend-put k (f x) _ (ascend-tabled f s)) (λ j. row-tabled f t j ∙ found j ∙ sym (row_at-put k (f x) (tabled f s) j))
    where
      found : (j : ℕ) → option_map f (get t j) ≡ cond (k == j) (Some (f x)) (row_at (tabled f s) j)
      found j = elim (cases_eq j k) [
        | inl q ↦ rw (q, same_number k) (ap (option_map f) u.changed)
        | inr ne ↦ rw (other_number k j (λ e. ne (sym e))) (ap (option_map f) (u.others j ne) ∙ sym (row-tabled f s j))
      ]

  pub tabled_del : (s t : Slab X) (k : ℕ) → Updates s t k None → tabled f t ≡ del k (tabled f s)
  tabled_del s t k u =
      one_table _ _ (ascend-tabled f t) (ascend-del k _ (ascend-tabled f s)) (λ j. row-tabled f t j ∙ found j ∙ sym (row_at-del k (tabled f s) j (ascend-tabled f s)))
    where
      found : (j : ℕ) → option_map f (get t j) ≡ cond (k == j) None (row_at (tabled f s) j)
      found j = elim (cases_eq j k) [
        | inl q ↦ rw (q, same_number k) (ap (option_map f) u.changed)
        | inr ne ↦ rw (other_number k j (λ e. ne (sym e))) (ap (option_map f) (u.others j ne) ∙ sym (row-tabled f s j))
      ]

  pub tabled_edit : (s t : Slab X) (k : ℕ) (x y : X) (g : Y → Y) → get s k ≡ Some x → f y ≡ g (f x) → Updates s t k (Some y) → tabled f t ≡ edit k g (tabled f s)
  tabled_edit s t k x y g was is u =
      one_table _ _ (ascend-tabled f t) (ascend-each _ _ (ascend-tabled f s)) (λ j. row-tabled f t j ∙ found j)
    where
      here : option_map f (get t k) ≡ row_at (edit k g (tabled f s)) k
      here = ap (option_map f) u.changed ∙ ap Some is ∙ sym (edit_hit k g (tabled f s) ∙ ap (option_map g) (row-tabled f s k ∙ ap (option_map f) was))

      found : (j : ℕ) → option_map f (get t j) ≡ row_at (edit k g (tabled f s)) j
      found j = elim (cases_eq j k) [
        | inl q ↦ rw q here
        | inr ne ↦ ap (option_map f) (u.others j ne) ∙ sym (edit_miss k g (tabled f s) j ne ∙ row-tabled f s j)
      ]

  pub tabled_same : (s t : Slab X) (k : ℕ) (x y : X) → get s k ≡ Some x → f y ≡ f x → Updates s t k (Some y) → tabled f t ≡ tabled f s
  tabled_same s t k x y was is u =
      one_table _ _ (ascend-tabled f t) (ascend-tabled f s) (λ j. row-tabled f t j ∙ found j ∙ sym (row-tabled f s j))
    where
      here : option_map f (get t k) ≡ option_map f (get s k)
      here = ap (option_map f) u.changed ∙ ap Some is ∙ sym (ap (option_map f) was)

      found : (j : ℕ) → option_map f (get t j) ≡ option_map f (get s j)
      found j = elim (cases_eq j k) [
        | inl q ↦ rw q here
        | inr ne ↦ ap (option_map f) (u.others j ne)
      ]
