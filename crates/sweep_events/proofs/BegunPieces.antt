-- Which pieces have begun before the next event, and after it.
use Rattle.std.proofs.Common.{◌≡◌, ℕ, ◌≤◌, ◌+◌, refl, ap, sym, ◌∙◌, subst, arith, inl, inr, true, false, List, [], ◌∷◌, ◌++◌, length, map, take, drop, Ordering, Less, Equal, Greater}
use Rattle.std.specs.Prelude.{Option, None, Some}
use Rattle.std.specs.List.{prefix_len}
use Rattle.std.specs.List.Sorted.{IsPartitionPoint}
use Rattle.std.specs.Ordering.{is_lt, is_le}
use Rattle.std.proofs.lemmas.List.{take-append-drop, length-take, length-drop}
use Rattle.std.proofs.lemmas.List.Sums.{prefix_len-le-length}
use Rattle.exact_plane.specs.Point.{Point}
use Rattle.exact_plane.specs.PointOrder.{point_cmp}
use Rattle.exact_plane.specs.Span.{IsAtMost}
use Rattle.plane_graphs.specs.Ascending.{Member}
use Rattle.plane_graphs.proofs.Lists.{in_left, in_right, in_either, in_map, of_map}
use Rattle.sweep_events.specs.Begun.{queue_of, IsPassed, AreBegun, IsCutBefore}
use Rattle.sweep_events.specs.Events.{IsBeyond, IsEvent}
use Rattle.sweep_events.specs.Places.{piece_at}
use Rattle.sweep_events.specs.Seams.{IsGrown, AreThere}
use Rattle.sweep_events.specs.Starts.{AreStarts}
use Rattle.sweep_events.specs.Sweep.{Swept, IsSweep, IsNextOf}
use Rattle.sweep_events.specs.declared.places.Start.{Start}
use Rattle.sweep_events.proofs.EventSteps.{in_order, not_both, chain_less}
use Rattle.sweep_events.proofs.StartsAtPoint.{before, upto, parted_upto'}
use Rattle.sweep_events.proofs.StatusCuts.{parted_by, further}
use Rattle.sweep_status.proofs.Parts.{within_take, within_drop}

abbrev lowers : List Start → List Point
lowers ss = map (λ (s : Start). s.lower) ss

pub none_taken : (n : ℕ) (ss : List Start) (t : Start) → n ≡ 0 → Member t (take n ss) → ⊥
none_taken n [] t e m = absurd (subst (λ k. Member t (take k [])) e m)
none_taken n (s ∷ ss) t e m = absurd (subst (λ k. Member t (take k (s ∷ ss))) e m)

module _ (s : Swept) (starts : List Start) (ok : AreStarts s.pieces starts) (keys : List Point) (n : ℕ) (h : IsSweep s (queue_of keys starts n)) (begun : AreBegun s.last starts n) (q : Point) (next : IsNextOf s q) where
  later : (t : Start) → Member t (drop n starts) → IsAtMost q t.lower
  later t m =
      let e = h.queued.sound t.lower (in_right t.lower keys (lowers (drop n starts)) (in_map (λ (s : Start). s.lower) t (drop n starts) m)) in
      next.first t.lower e.0 e.1

  earlier : (t : Start) → Member t (take n starts) → point_cmp t.lower q ≡ Less
  earlier t m = at s.last begun next.beyond
    where
      at : (o : Option Point) → AreBegun o starts n → IsBeyond o q → point_cmp t.lower q ≡ Less
      at None e b = absurd (none_taken n starts t e m)
      at (Some p) e b = chain_less t.lower p q (e.1 t m) b

  pub few : n ≤ length starts
  few = at s.last begun
    where
      at : (o : Option Point) → AreBegun o starts n → n ≤ length starts
      at None e = omega (arith, e)
      at (Some p) e = e.0

  not_earlier : (t : Start) → Member t (drop n starts) → before q t ≡ false
  not_earlier t m = by (point_cmp t.lower q) refl
    where
      by : (o : Ordering) → point_cmp t.lower q ≡ o → is_lt (point_cmp t.lower q) ≡ false
      by Less e = absurd (not_both t.lower q e (later t m))
      by Equal e = ap is_lt e
      by Greater e = ap is_lt e

  -- those that have begun are those that start before the event
  pub cut_before : IsCutBefore starts q n
  cut_before = (
    few,
    subst (λ (xs : List Start). IsPartitionPoint (λ (t : Start). before q t ≡ true) (λ (t : Start). before q t ≡ false) xs n) (take-append-drop n starts)
        (subst (λ k. IsPartitionPoint (λ (t : Start). before q t ≡ true) (λ (t : Start). before q t ≡ false) (take n starts ++ drop n starts) k) count_is
        (parted_by (λ (t : Start). before q t ≡ true) (λ (t : Start). before q t ≡ false) (take n starts) (drop n starts) (λ t m. ap is_lt (earlier t m)) not_earlier)),
  )
    where
      count_is : length (take n starts) ≡ n
      count_is = let b = few in length-take n starts ∙ omega (arith, b)

  abbrev pub more : ℕ
  more = prefix_len (λ (t : Start). is_le (point_cmp t.lower q)) (drop n starts)

  upto_cut : IsPartitionPoint (λ (t : Start). upto q t ≡ true) (λ (t : Start). upto q t ≡ false) starts (n + more)
  upto_cut = further (before q) (upto q) (λ t e. weak (point_cmp t.lower q) e) starts (parted_upto' s.pieces starts ok q 0 starts ok.ascends) n more cut_before.1 (drop n starts) refl refl
    where
      weak : (o : Ordering) → is_lt o ≡ true → is_le o ≡ true
      weak Less e = refl
      weak Equal e = cc
      weak Greater e = cc

  -- after it those have begun that start there, too
  pub begun_after : (m : ℕ) → m ≡ n + more → AreBegun (Some q) starts m
  begun_after m e = subst (λ k. AreBegun (Some q) starts k) (sym e) (
    (let a = prefix_len-le-length (λ (t : Start). is_le (point_cmp t.lower q)) (drop n starts) in
        let b = length-drop n starts in
        let c = few in
        omega (arith, a, b, c)),
    λ t w. within_take (λ (t : Start). upto q t ≡ true) starts (n + more) (λ j d a b. upto_cut.0 j d a b) t w,
  )

  left_after : (t : Start) → Member t (drop (n + more) starts) → point_cmp q t.lower ≡ Less
  left_after t m = elim (in_order t.lower q) [
    | inl a ↦ absurd (clash (sym a ∙ within_drop (λ (t : Start). upto q t ≡ false) starts (n + more) (λ j d a b. upto_cut.1 j d a b) t m))
    | inr b ↦ b
  ]
    where
      clash : true ≡ false → ⊥
      clash e = cc

  lowers_kept : (r : Point) → Member r (lowers (drop n starts)) → point_cmp q r ≡ Less → Member r (lowers (drop (n + more) starts))
  lowers_kept r m b =
      let w = of_map (λ (s : Start). s.lower) r (drop n starts) m in
      let there : Member w.0 starts = subst (λ (xs : List Start). Member w.0 xs) (take-append-drop n starts) (in_right w.0 (take n starts) (drop n starts) w.1) in
      elim (in_either w.0 (take (n + more) starts) (drop (n + more) starts) (subst (λ (xs : List Start). Member w.0 xs) (sym (take-append-drop (n + more) starts)) there)) [
        | inl a ↦ absurd (not_both q r b (subst (λ (p : Point). IsAtMost p q) (sym w.2) (within_take (λ (t : Start). upto q t ≡ true) starts (n + more) (λ j d a b. upto_cut.0 j d a b) w.0 a)))
        | inr a ↦ subst (λ (p : Point). Member p (lowers (drop (n + more) starts))) (sym w.2) (in_map (λ (s : Start). s.lower) w.0 (drop (n + more) starts) a)
      ]

  lowers_new : (r : Point) → Member r (lowers (drop (n + more) starts)) → IsEvent (piece_at s.pieces) (length s.pieces) s.pins r × (point_cmp q r ≡ Less)
  lowers_new r m =
      let w = of_map (λ (s : Start). s.lower) r (drop (n + more) starts) m in
      let there : Member w.0 starts = subst (λ (xs : List Start). Member w.0 xs) (take-append-drop (n + more) starts) (in_right w.0 (take (n + more) starts) (drop (n + more) starts) w.1) in
      let k = ok.sound w.0 there in
      (inl (record { place = w.0.place; within = k.0; is_end = inl (w.2 ∙ k.1) }), subst (λ (p : Point). point_cmp q p ≡ Less) (sym w.2) (left_after w.0 w.1))

  -- what the queue gained, and what of it was passed
  module _ (M : Point → Type 0) (grown_keys passed_keys : List Point) (grown : IsGrown M q keys grown_keys) where
    pub none_before : (r : Point) → Member r grown_keys → IsAtMost q r
    none_before r m = elim (grown.comes r m) [
      | inl a ↦ (let e = h.queued.sound r (in_left r keys (lowers (drop n starts)) a) in next.first r e.0 e.1)
      | inr b ↦ ap is_le b.1
    ]

    pub grown_all : IsGrown M q (queue_of keys starts n) (queue_of grown_keys starts n)
    grown_all = record {
      stays = λ r m. elim (in_either r keys (lowers (drop n starts)) m) [
        | inl a ↦ in_left r grown_keys (lowers (drop n starts)) (grown.stays r a)
        | inr b ↦ in_right r grown_keys (lowers (drop n starts)) b
      ];
      comes = λ r m. elim (in_either r grown_keys (lowers (drop n starts)) m) [
        | inl a ↦ elim (grown.comes r a) [ inl c ↦ inl (in_left r keys (lowers (drop n starts)) c) | inr c ↦ inr c ]
        | inr b ↦ inl (in_right r keys (lowers (drop n starts)) b)
      ];
    }

    module _ (passed : IsPassed q grown_keys passed_keys) where
      pub kept_after : (r : Point) → Member r (queue_of keys starts n) → point_cmp q r ≡ Less → Member r (queue_of passed_keys starts (n + more))
      kept_after r m b = elim (in_either r keys (lowers (drop n starts)) m) [
        | inl a ↦ in_left r passed_keys (lowers (drop (n + more) starts)) (passed.kept r (grown.stays r a) b)
        | inr c ↦ in_right r passed_keys (lowers (drop (n + more) starts)) (lowers_kept r c b)
      ]

      pub there_after : (N : Point → Type 0) → AreThere N q grown_keys → (r : Point) → N r → point_cmp q r ≡ Less → Member r (queue_of passed_keys starts (n + more))
      there_after N f r k b = in_left r passed_keys (lowers (drop (n + more) starts)) (passed.kept r (f r k b) b)

      pub new_after : ((r : Point) → M r → IsEvent (piece_at s.pieces) (length s.pieces) s.pins r) → (r : Point) → Member r (queue_of passed_keys starts (n + more)) → IsEvent (piece_at s.pieces) (length s.pieces) s.pins r × (point_cmp q r ≡ Less)
      new_after events r m = elim (in_either r passed_keys (lowers (drop (n + more) starts)) m) [
        | inl a ↦ (let e = passed.comes r a in (elim (grown.comes r e.0) [ inl c ↦ (h.queued.sound r (in_left r keys (lowers (drop n starts)) c)).0 | inr c ↦ events r c.0 ], e.1))
        | inr b ↦ lowers_new r b
      ]
