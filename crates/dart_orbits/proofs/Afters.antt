-- The followers round sources, one more of them.
use Rattle.std.proofs.Common.{◌≡◌, ℕ, ◌+◌, ◌<◌, ◌≤◌, arith, sym, ap, ◌∙◌, subst, ◌⊎◌, inl, inr, List, length, get_or}
use Rattle.std.specs.Prelude.{slice_set}
use Rattle.std.proofs.lemmas.Bool.{cases_lt, cases_order}
use Rattle.std.proofs.lemmas.List.{get_or-set_same, get_or-set_other}
use Rattle.slab_laws.specs.declared.rows.ListedDart.{ListedDart}
use Rattle.slab_laws.specs.Rows.{dart_rows}
use Rattle.slab_laws.specs.Skeleton.{Skeleton}
use Rattle.dart_orbits.specs.DartRows.{place_after}
use Rattle.dart_orbits.proofs.Listed.{rows_length}
use Rattle.dart_orbits.specs.Around.{AreAround, AreAfters}

-- one more of the values that places have
pub placed_more : (f : ℕ → ℕ) (ps : List ℕ) (n a : ℕ) (now new : List ℕ) → get_or ps n 0 < length now → ((i : ℕ) → i < n → get_or now (get_or ps i 0) 0 ≡ f (get_or ps i 0)) → a ≡ f (get_or ps n 0) → new ≡ slice_set now (get_or ps n 0) a → (i : ℕ) → i < n + 1 → get_or new (get_or ps i 0) 0 ≡ f (get_or ps i 0)
placed_more f ps n a now new b h e s i l =
    let p = get_or ps n 0 in
    let q = get_or ps i 0 in
    ap (λ xs. get_or xs q 0) s ∙ elim (cases_order q p) [
      | inl same ↦ ap (λ k. get_or (slice_set now p a) k 0) same ∙ get_or-set_same now p a 0 b ∙ e ∙ ap f (sym same)
      | inr other ↦ get_or-set_other now p q a 0 (apart q p other) ∙ h i (earlier i n l (λ same. apart q p other (ap (λ k. get_or ps k 0) same)))
    ]
  where
    apart : (x y : ℕ) → (x < y) ⊎ (y < x) → x ≡ y → ⊥
    apart x y (inl u) same = absurd (omega arith)
    apart x y (inr u) same = absurd (omega arith)

    earlier : (i n : ℕ) → i < n + 1 → (i ≡ n → ⊥) → i < n
    earlier i n l ne = elim (cases_lt i n) [ inl u ↦ u | inr u ↦ absurd (ne (omega arith)) ]

module _ (g : Skeleton) (rows : List ListedDart) (e : rows ≡ dart_rows g) (ps : List ℕ) (h : AreAround g ps) where
  -- a place is one of a row
  pub inside : (i : ℕ) → i < length ps → get_or ps i 0 < length rows
  inside i l = let n = rows_length g in let m = ap length e in let w = h.within i l in omega arith

  pub all_placed : (n : ℕ) (vs : List ℕ) → length vs ≡ length rows → length ps ≤ n → ((i : ℕ) → i < n → get_or vs (get_or ps i 0) 0 ≡ place_after g (get_or ps i 0)) → AreAfters g vs
  all_placed n vs c m f = record {
    counted = c ∙ ap length e ∙ rows_length g;
    each = λ k l. let w = h.all k l in let u = w.1 in subst (λ (j : ℕ). get_or vs j 0 ≡ place_after g j) w.2 (f w.0 (omega arith));
  }
