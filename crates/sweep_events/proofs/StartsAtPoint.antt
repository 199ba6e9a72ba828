-- The pieces that start at a point, among all by their lower ends.
use Rattle.std.proofs.Common.{◌≡◌, ℕ, ◌<◌, refl, ap, sym, ◌∙◌, subst, inl, inr, Bool, true, false, List, [], ◌∷◌, length, take, drop, map, Ordering, Less, Equal, Greater, nat_cmp}
use Rattle.std.specs.Prelude.{◌⊎◌}
use Rattle.std.specs.List.Sorted.{IsPartitionPoint, IsPartitionedBy}
use Rattle.std.specs.Ordering.{is_lt, is_le, ordering_then}
use Rattle.std.specs.Cmp.{tied_itself}
use Rattle.std.proofs.lemmas.List.{take-append-drop}
use Rattle.exact_plane.specs.Point.{Point}
use Rattle.exact_plane.specs.PointOrder.{point_cmp}
use Rattle.exact_plane.specs.PointOrderLaws.{point_cmp_total, same_point}
use Rattle.exact_plane.specs.Span.{Span}
use Rattle.plane_graphs.specs.Ascending.{Member, IsAscending}
use Rattle.plane_graphs.proofs.Ascending.{All-member}
use Rattle.plane_graphs.proofs.Lists.{ascends_left, ascends_right, in_left, in_right, in_either, in_map, of_map}
use Rattle.plane_graphs.proofs.Sorting.{parted, all_members}
use Rattle.sweep_events.specs.declared.places.Start.{Start}
use Rattle.sweep_events.specs.Places.{piece_at, IsPlacesOf}
use Rattle.sweep_events.specs.Starts.{start_cmp, AreStarts}
use Rattle.sweep_status.proofs.Parts.{within_take, within_drop}
use Rattle.integers.proofs.Tests.{first_less}

abbrev pub before : Point → Start → Bool
before q s = is_lt (point_cmp s.lower q)

abbrev pub upto : Point → Start → Bool
upto q s = is_le (point_cmp s.lower q)

neither : (o : Ordering) → is_lt o ≡ false → is_le o ≡ true → o ≡ Equal
neither Less h k = cc
neither Equal h k = refl
neither Greater h k = cc

carried_upto : (q x y : Point) → (point_cmp x y ≡ Less) ⊎ (point_cmp x y ≡ Equal) → is_le (point_cmp y q) ≡ true → is_le (point_cmp x q) ≡ true
carried_upto q x y (inl h) k = at (point_cmp y q) refl k
  where
    at : (o : Ordering) → point_cmp y q ≡ o → is_le o ≡ true → is_le (point_cmp x q) ≡ true
    at Less e k = ap is_le (point_cmp_total.trans x y q h e)
    at Equal e k = subst (λ (t : Point). is_le (point_cmp x t) ≡ true) (same_point y q e) (ap is_le h)
    at Greater e k = cc
carried_upto q x y (inr h) k = ap is_le (point_cmp_total.congr x y q h) ∙ k

module _ (pieces : List Span) (starts : List Start) (ok : AreStarts pieces starts) (q : Point) where
  pub parted_upto' : (n : ℕ) (rest : List Start) → IsAscending start_cmp rest → IsPartitionedBy (upto q) rest
  parted_upto' n rest a = parted start_cmp (upto q) rest a (λ x y m n h k. carried_upto q x.lower y.lower (first_less (point_cmp x.lower y.lower) (nat_cmp x.place y.place) h) k)

  dropped : (n : ℕ) (xs : List Start) → IsAscending start_cmp xs → IsAscending start_cmp (drop n xs)
  dropped n xs a = ascends_right start_cmp (take n xs) (drop n xs) (subst (λ (ys : List Start). IsAscending start_cmp ys) (sym (take-append-drop n xs)) a)

  pub parted_rest : (n : ℕ) → IsPartitionedBy (upto q) (drop n starts)
  parted_rest n = parted_upto' n (drop n starts) (dropped n starts ok.ascends)

  module _ (from count : ℕ) (first : IsPartitionPoint (λ s. before q s ≡ true) (λ s. before q s ≡ false) starts from) (second : IsPartitionPoint (λ s. upto q s ≡ true) (λ s. upto q s ≡ false) (drop from starts) count) where
    here : (s : Start) → Member s (take count (drop from starts)) → Member s starts × (s.lower ≡ q)
    here s m =
        let d : Member s (drop from starts) = subst (λ (zs : List Start). Member s zs) (take-append-drop count (drop from starts)) (in_left s (take count (drop from starts)) (drop count (drop from starts)) m) in (
          subst (λ (zs : List Start). Member s zs) (take-append-drop from starts) (in_right s (take from starts) (drop from starts) d),
          same_point s.lower q (neither (point_cmp s.lower q) (within_drop (λ (s : Start). before q s ≡ false) starts from (λ j d a b. first.1 j d a b) s d) (within_take (λ (s : Start). upto q s ≡ true) (drop from starts) count (λ j d a b. second.0 j d a b) s m)),
        )

    there : (s : Start) → Member s starts → s.lower ≡ q → Member s (take count (drop from starts))
    there s m e = elim (in_either s (take from starts) (drop from starts) (subst (λ (zs : List Start). Member s zs) (sym (take-append-drop from starts)) m)) [
      | inl a ↦ absurd (not_before (within_take (λ (s : Start). before q s ≡ true) starts from (λ j d a b. first.0 j d a b) s a))
      | inr b ↦ elim (in_either s (take count (drop from starts)) (drop count (drop from starts)) (subst (λ (zs : List Start). Member s zs) (sym (take-append-drop count (drop from starts))) b)) [
        | inl a ↦ a
        | inr a ↦ absurd (not_after (within_drop (λ (s : Start). upto q s ≡ false) (drop from starts) count (λ j d a b. second.1 j d a b) s a))
      ]
    ]
      where
        tied : point_cmp s.lower q ≡ Equal
        tied = subst (λ (t : Point). point_cmp s.lower t ≡ Equal) e (tied_itself point_cmp_total s.lower)

        not_before : is_lt (point_cmp s.lower q) ≡ true → ⊥
        not_before h = let t = ap is_lt tied in cc

        not_after : is_le (point_cmp s.lower q) ≡ false → ⊥
        not_after h = let t = ap is_le tied in cc

    abbrev run : List Start
    run = take count (drop from starts)

    by_place : (s t : Start) → s.lower ≡ t.lower → start_cmp s t ≡ Less → nat_cmp s.place t.place ≡ Less
    by_place s t e h = sym (ap (λ o. ordering_then o (nat_cmp s.place t.place)) (subst (λ p. point_cmp s.lower p ≡ Equal) e (tied_itself point_cmp_total s.lower))) ∙ h

    places_ascend : (ss : List Start) → ((s : Start) → Member s ss → s.lower ≡ q) → IsAscending start_cmp ss → IsAscending nat_cmp (map (λ (s : Start). s.place) ss)
    places_ascend [] f a = tt
    places_ascend (s ∷ ss) f a = (
      all_members (λ k. nat_cmp s.place k ≡ Less) (map (λ (s : Start). s.place) ss) (λ k m. let w = of_map (λ (s : Start). s.place) k ss m in subst (λ j. nat_cmp s.place j ≡ Less) (sym w.2) (by_place s w.0 (f s (inl refl) ∙ sym (f w.0 (inr w.1))) (All-member (λ t. start_cmp s t ≡ Less) w.0 ss a.0 w.1))),
      places_ascend ss (λ t m. f t (inr m)) a.1,
    )

    run_ascends : IsAscending start_cmp run
    run_ascends = ascends_left start_cmp run (drop count (drop from starts)) (subst (λ (ys : List Start). IsAscending start_cmp ys) (sym (take-append-drop count (drop from starts))) (dropped from starts ok.ascends))

    pub starting : IsPlacesOf pieces (λ s. s.lower ≡ q) (map (λ (s : Start). s.place) (take count (drop from starts)))
    starting = record {
      member = λ i. (
        (λ m. let w = of_map (λ (s : Start). s.place) i run m in
            let h = here w.0 w.1 in
            let s = ok.sound w.0 h.0 in
            (subst (λ k. k < length pieces) (sym w.2) s.0, ap (λ k. (piece_at pieces k).lower) w.2 ∙ sym s.1 ∙ h.1)),
        (λ h. in_map (λ (s : Start). s.place) (record { lower = (piece_at pieces i).lower; place = i }) run (there (record { lower = (piece_at pieces i).lower; place = i }) (ok.complete i h.0) h.1)),
      );
      ascends = places_ascend run (λ s m. (here s m).1) run_ascends;
    }

pub parted_read : (pieces : List Span) (starts : List Start) → AreStarts pieces starts → (q : Point) (from : ℕ) (rest : List Start) → rest ≡ drop from starts → IsPartitionedBy (upto q) rest
parted_read pieces starts ok q from rest e = subst (λ (zs : List Start). IsPartitionedBy (upto q) zs) (sym e) (parted_rest pieces starts ok q from)
