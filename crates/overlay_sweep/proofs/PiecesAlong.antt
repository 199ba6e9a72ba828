-- The first stretch along an edge is found by the places of its ends.
use Rattle.std.proofs.Common.{◌≡◌, ◌⊎◌, ℕ, suc, ◌<◌, Bool, true, false, arith, sym, ap, ◌∙◌, subst, inl, inr, List, [], ◌∷◌, length, get_or, Less}
use Rattle.std.specs.List.Sorted.{IsPartitionedBy, IsPartitionPoint}
use Rattle.std.specs.Ordering.{is_lt, nat_cmp, ordering_then}
use Rattle.std.proofs.lemmas.Bool.{false≢true, cases_lt}
use Rattle.integers.proofs.Tests.{nat_exact, is_less}
use Rattle.plane_graphs.specs.Ascending.{IsAscending, Member}
use Rattle.plane_graphs.proofs.Sorting.{member_at, any_default, parted, rises}
use Rattle.sweep_graphs.specs.declared.edges.EdgeEnds.{EdgeEnds}
use Rattle.sweep_graphs.specs.declared.trace.Stretch.{Stretch}
use Rattle.sweep_graphs.specs.Edges.{ends_of, ends_cmp, stretch_cmp}
use Rattle.sweep_graphs.proofs.EdgeOrders.{ends_cmp_total, ends_never}
use Rattle.overlay_sweep.specs.PiecesAlong.{IsAlongSome, IsPieceAlong}
use Rattle.integers.proofs.Classes.{then_less}

-- what comes earlier among stretches has lesser ends or the same
pub ends_rise : (x y : Stretch) → stretch_cmp x y ≡ Less → (ends_cmp (ends_of x) (ends_of y) ≡ Less) ⊎ (ends_of x ≡ ends_of y)
ends_rise x y h =
    let rest = nat_cmp x.piece y.piece in
    elim (then_less (nat_cmp x.low y.low) (ordering_then (nat_cmp x.high y.high) rest) h) [
      | inl a ↦ inl (ap (λ o. ordering_then o (nat_cmp x.high y.high)) a)
      | inr b ↦ elim (then_less (nat_cmp x.high y.high) rest b.1) [
        | inl c ↦ inl (ap (λ o. ordering_then o (nat_cmp x.high y.high)) b.0 ∙ c)
        | inr d ↦ inr (let p = nat_exact x.low y.low b.0 in let q = nat_exact x.high y.high d.0 in λ i. record { low = p i; high = q i })
      ]
    ]

-- whether a stretch's ends come before
abbrev pub is_before : EdgeEnds → Stretch → Bool
is_before e s = is_lt (ends_cmp (ends_of s) e)

pub no_stretch : Stretch
no_stretch = record { low = 0; high = 0; piece = 0 }

-- a member stands at some place
stands : (s : Stretch) (xs : List Stretch) → Member s xs → (k : ℕ) × (k < length xs) × (get_or xs k no_stretch ≡ s)
stands s [] m = absurd m
stands s (x ∷ xs) (inl e) = (0, omega arith, sym e)
stands s (x ∷ xs) (inr m) = (let r = stands s xs m in let l = r.1 in (suc r.0, omega arith, r.2))

module _ (xs : List Stretch) (up : IsAscending stretch_cmp xs) (e : EdgeEnds) where
  carried : (x y : Stretch) → stretch_cmp x y ≡ Less → is_before e y ≡ true → is_before e x ≡ true
  carried x y h t = elim (ends_rise x y h) [
    | inl a ↦ ap is_lt (ends_cmp_total.trans (ends_of x) (ends_of y) e a (is_less (ends_cmp (ends_of y) e) t))
    | inr b ↦ subst (λ z. is_lt (ends_cmp z e) ≡ true) (sym b) t
  ]

  pub parted_stretches : IsPartitionedBy (is_before e) xs
  parted_stretches = parted stretch_cmp (is_before e) xs up (λ x y _ _ h t. carried x y h t)

  module _ (along : IsAlongSome xs e) (n : ℕ) (cut : IsPartitionPoint (λ s. is_before e s ≡ true) (λ s. is_before e s ≡ false) xs n) where
    first_there : (n < length xs) × (ends_of (get_or xs n no_stretch) ≡ e)
    first_there =
        let a = stands along.0 xs along.1 in
        let l = a.1 in
        let q : ends_of (get_or xs a.0 no_stretch) ≡ e = ap ends_of a.2 ∙ along.2 in
        elim (cases_lt a.0 n) [
          | inl k ↦ absurd (ends_never e (subst (λ f. ends_cmp f e ≡ Less) q (is_less (ends_cmp (ends_of (get_or xs a.0 no_stretch)) e) (cut.0 a.0 no_stretch (omega arith) k))))
          | inr k ↦
              let N : n < length xs = omega arith in
              elim (cases_lt n a.0) [
                | inl m ↦ elim (ends_rise (get_or xs n no_stretch) (get_or xs a.0 no_stretch) (rises stretch_cmp xs up n a.0 no_stretch m l)) [
                  | inl b ↦ absurd (false≢true (sym (cut.1 n no_stretch (omega arith) N) ∙ ap is_lt (subst (λ f. ends_cmp (ends_of (get_or xs n no_stretch)) f ≡ Less) q b)))
                  | inr b ↦ (N, b ∙ q)
                ]
                | inr m ↦ (let i : a.0 ≡ n = omega arith in (N, subst (λ j. ends_of (get_or xs j no_stretch) ≡ e) i q))
              ]
        ]

    pub first_within : n < length xs
    first_within = first_there.0

    pub first_piece : (d : Stretch) (i : ℕ) → i ≡ (get_or xs n d).piece → IsPieceAlong xs e i
    first_piece d i q = (get_or xs n no_stretch, member_at xs n no_stretch first_within, first_there.1, sym (q ∙ ap (λ (s : Stretch). s.piece) (any_default xs n d no_stretch first_within)))
