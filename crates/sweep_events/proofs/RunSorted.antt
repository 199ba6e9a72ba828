-- The pieces through an event, sorted by slope.
use Rattle.std.proofs.Common.{◌≡◌, ℕ, ◌<◌, refl, ap, ap₂, sym, ◌∙◌, subst, inl, inr, true, false, List, [], ◌∷◌, ◌++◌, map, length, Ordering, Less, Equal, Greater, nat_cmp, is_eq}
use Rattle.std.specs.Prelude.{◌⊎◌, ◌↔◌, ⊤}
use Rattle.std.specs.List.{AllByRecursion, IsDistinct}
use Rattle.std.specs.List.Sorted.{IsPermutation, IsSorted}
use Rattle.std.specs.Ordering.{ordering_then, eq_by_cmp}
use Rattle.std.specs.Cmp.{IsTotalOrder}
use Rattle.std.proofs.lemmas.Bool.{false_from_ne_true}
use Rattle.std.proofs.lemmas.Cmp.{then_total, on_total, nat_cmp_total, tied_itself}
use Rattle.std.proofs.lemmas.List.Sorted.{Contains-permutation, IsPermutation-sym}
use Rattle.exact_plane.specs.Line.{IsLine}
use Rattle.exact_plane.specs.Slope.{slope_cmp, rise_cmp}
use Rattle.exact_plane.specs.Span.{Span}
use Rattle.exact_plane.proofs.SlopeLaws.{rise_cmp_total, rise_is}
use Rattle.plane_graphs.specs.Ascending.{Member, IsAscending}
use Rattle.plane_graphs.proofs.Ascending.{to_member, from_member, All-member}
use Rattle.plane_graphs.proofs.Lists.{in_left, in_right, in_either, in_map, of_map}
use Rattle.plane_graphs.proofs.Sorting.{all_members, sorted_ascends}
use Rattle.sweep_events.specs.declared.places.PlacedLine.{PlacedLine}
use Rattle.sweep_events.specs.Places.{piece_at, AreSpans, ArePlaces}
use Rattle.sweep_events.specs.Runs.{placed_line_cmp, placed_line}
use Rattle.sweep_events.specs.Status.{run_cmp}
use Rattle.integers.proofs.Tests.{nat_exact}

pub placed_line_cmp_total : IsTotalOrder placed_line_cmp
placed_line_cmp_total = then_total (on_total (λ (s : PlacedLine). s.line) rise_cmp_total) (on_total (λ (s : PlacedLine). s.place) nat_cmp_total)

-- ---- places that differ
abbrev AreApart : List ℕ → Type 0
AreApart [] = ⊤
AreApart (x ∷ xs) = AllByRecursion (λ y. x ≡ y → ⊥) xs × AreApart xs

unlike : (x y : ℕ) → nat_cmp x y ≡ Less → x ≡ y → ⊥
unlike x y h e = let t = tied_itself nat_cmp_total x in let k : nat_cmp x x ≡ Less = subst (λ z. nat_cmp x z ≡ Less) (sym e) h in cc

apart_of : (xs : List ℕ) → IsAscending nat_cmp xs → AreApart xs
apart_of [] a = tt
apart_of (x ∷ xs) a = (all_members (λ y. x ≡ y → ⊥) xs (λ y m. unlike x y (All-member (λ y. nat_cmp x y ≡ Less) y xs a.0 m)), apart_of xs a.1)

apart_both : (xs ys : List ℕ) → AreApart xs → AreApart ys → ((i : ℕ) → Member i xs → Member i ys → ⊥) → AreApart (xs ++ ys)
apart_both [] ys a b f = b
apart_both (x ∷ xs) ys a b f = (
  all_members (λ y. x ≡ y → ⊥) (xs ++ ys) (λ y m. elim (in_either y xs ys m) [ inl n ↦ All-member (λ y. x ≡ y → ⊥) y xs a.0 n | inr n ↦ (λ (e : x ≡ y). f x (inl refl) (subst (λ z. Member z ys) (sym e) n)) ]),
  apart_both xs ys a.1 b (λ i m n. f i (inr m) n),
)

tied_place : (s t : PlacedLine) → eq_by_cmp placed_line_cmp s t ≡ true → s.place ≡ t.place
tied_place s t h = nat_exact s.place t.place (second (rise_cmp s.line t.line) (nat_cmp s.place t.place) h)
  where
    second : (o u : Ordering) → is_eq (ordering_then o u) ≡ true → u ≡ Equal
    second Less u h = cc
    second Equal Less h = cc
    second Equal Equal h = refl
    second Equal Greater h = cc
    second Greater u h = cc

distinct_of : (pieces : List Span) (xs : List ℕ) → AreApart xs → IsDistinct (eq_by_cmp placed_line_cmp) (map (placed_line pieces) xs)
unfolding IsDistinct
distinct_of pieces [] a = tt
distinct_of pieces (x ∷ xs) a = (differ xs a.0, distinct_of pieces xs a.1)
  where
    differ : (ys : List ℕ) → AllByRecursion (λ y. x ≡ y → ⊥) ys → AllByRecursion (λ t. eq_by_cmp placed_line_cmp (placed_line pieces x) t ≡ false) (map (placed_line pieces) ys)
    differ [] b = tt
    differ (y ∷ ys) b = (false_from_ne_true (eq_by_cmp placed_line_cmp (placed_line pieces x) (placed_line pieces y)) (λ h. b.0 (tied_place (placed_line pieces x) (placed_line pieces y) h)), differ ys b.1)

module _ (pieces : List Span) (spans : AreSpans pieces) (passes starts : List ℕ) (hp : ArePlaces pieces passes) (hs : ArePlaces pieces starts) (vs : List PlacedLine) (moved : IsPermutation (map (placed_line pieces) (passes ++ starts)) vs) where
  was : (s : PlacedLine) → Member s vs → (i : ℕ) × Member i (passes ++ starts) × (s ≡ placed_line pieces i)
  was s m = of_map (placed_line pieces) s (passes ++ starts) (to_member (map (placed_line pieces) (passes ++ starts)) s (Contains-permutation vs (map (placed_line pieces) (passes ++ starts)) s (IsPermutation-sym (map (placed_line pieces) (passes ++ starts)) vs moved) (from_member vs s m)))

  pub places_are : (i : ℕ) → Member i (map (λ (s : PlacedLine). s.place) vs) ↔ (Member i passes ⊎ Member i starts)
  places_are i = (
    (λ m. let w = of_map (λ (s : PlacedLine). s.place) i vs m in let u = was w.0 w.1 in in_either i passes starts (subst (λ k. Member k (passes ++ starts)) (sym (w.2 ∙ ap (λ (s : PlacedLine). s.place) u.2)) u.1)),
    (λ h. in_map (λ (s : PlacedLine). s.place) (placed_line pieces i) vs (to_member vs (placed_line pieces i) (Contains-permutation (map (placed_line pieces) (passes ++ starts)) vs (placed_line pieces i) moved (from_member (map (placed_line pieces) (passes ++ starts)) (placed_line pieces i) (in_map (placed_line pieces) i (passes ++ starts) (both h)))))),
  )
    where
      both : Member i passes ⊎ Member i starts → Member i (passes ++ starts)
      both (inl m) = in_left i passes starts m
      both (inr m) = in_right i passes starts m

  map_ascends : (ws : List PlacedLine) → ((s : PlacedLine) → Member s ws → Member s vs) → IsAscending placed_line_cmp ws → IsAscending (run_cmp (piece_at pieces)) (map (λ (s : PlacedLine). s.place) ws)
  map_ascends [] f a = tt
  map_ascends (w ∷ ws) f a = (
    all_members (λ j. run_cmp (piece_at pieces) w.place j ≡ Less) (map (λ (s : PlacedLine). s.place) ws) (λ j m. let x = of_map (λ (s : PlacedLine). s.place) j ws m in subst (λ k. run_cmp (piece_at pieces) w.place k ≡ Less) (sym x.2) (told w x.0 (f w (inl refl)) (f x.0 (inr x.1)) (All-member (λ t. placed_line_cmp w t ≡ Less) x.0 ws a.0 x.1))),
    map_ascends ws (λ s m. f s (inr m)) a.1,
  )
    where
      line_of : (s : PlacedLine) → Member s vs → IsLine s.line × (s.line ≡ (piece_at pieces s.place).line)
      line_of s m =
          let u = was s m in
          let n : u.0 < length pieces = elim (in_either u.0 passes starts u.1) [ inl k ↦ hp u.0 k | inr k ↦ hs u.0 k ] in
          (subst (λ (t : PlacedLine). IsLine t.line) (sym u.2) (spans u.0 n).line, subst (λ (t : PlacedLine). t.line ≡ (piece_at pieces t.place).line) (sym u.2) refl)

      told : (s t : PlacedLine) → Member s vs → Member t vs → placed_line_cmp s t ≡ Less → run_cmp (piece_at pieces) s.place t.place ≡ Less
      told s t m n h =
          let x = line_of s m in
          let y = line_of t n in
          ap (λ o. ordering_then o (nat_cmp s.place t.place)) (ap₂ slope_cmp (sym x.1) (sym y.1) ∙ sym (rise_is s.line t.line x.0.runs y.0.runs)) ∙ h

  pub slopes_ascend : IsAscending nat_cmp passes → IsAscending nat_cmp starts → ((i : ℕ) → Member i passes → Member i starts → ⊥) → IsSorted placed_line_cmp vs → IsAscending (run_cmp (piece_at pieces)) (map (λ (s : PlacedLine). s.place) vs)
  slopes_ascend up upper apart sorted =
      map_ascends vs (λ s m. m) (sorted_ascends placed_line_cmp placed_line_cmp_total (map (placed_line pieces) (passes ++ starts)) vs
      (distinct_of pieces (passes ++ starts) (apart_both passes starts (apart_of passes up) (apart_of starts upper) apart)) moved sorted)
