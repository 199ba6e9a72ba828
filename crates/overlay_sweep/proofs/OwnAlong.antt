-- Of the pieces from one place on the first that runs along an edge is found by the order of stretches.
use Rattle.std.proofs.Common.{◌≡◌, ◌⊎◌, ℕ, ◌<◌, ◌≤◌, ◌-◌, Bool, true, false, arith, sym, ap, ap₂, subst, ◌∙◌, inl, inr, nat_cmp, Less, List, length, get_or}
use Rattle.std.specs.Prelude.{Option, Some, None, nat_lt}
use Rattle.std.specs.Ordering.{is_lt, ordering_then}
use Rattle.std.specs.List.Sorted.{IsPartitionedBy, IsPartitionPoint}
use Rattle.std.proofs.lemmas.Bool.{false≢true, cases_lt, lt-ltb}
use Rattle.integers.proofs.Tests.{nat_exact, nat_tied, nat_less, less_nat, is_less}
use Rattle.plane_graphs.specs.Ascending.{Member, IsAscending}
use Rattle.plane_graphs.proofs.Ascending.{from_member}
use Rattle.plane_graphs.proofs.Sorting.{parted, rises, member_at, any_default}
use Rattle.sweep_graphs.specs.declared.edges.EdgeEnds.{EdgeEnds}
use Rattle.sweep_graphs.specs.declared.trace.Stretch.{Stretch}
use Rattle.sweep_graphs.specs.Edges.{ends_of, stretch_cmp}
use Rattle.sweep_graphs.proofs.EdgeOrders.{stretch_cmp_total}
use Rattle.overlay_sweep.specs.KnownEdges.{IsPlaceOfOwn, IsOwnAlong}
use Rattle.overlay_sweep.proofs.PiecesAlong.{no_stretch}
use Rattle.integers.proofs.Classes.{then_less}

-- the ends of x come before those of y, or are the same, and then its piece comes before
abbrev IsLesser : Stretch → Stretch → Type 0
IsLesser x y = (x.low < y.low) ⊎ ((x.low ≡ y.low) × ((x.high < y.high) ⊎ ((x.high ≡ y.high) × (x.piece < y.piece))))

less_in : (x y : Stretch) → IsLesser x y → stretch_cmp x y ≡ Less
less_in x y (inl a) = ap (λ o. ordering_then o (ordering_then (nat_cmp x.high y.high) (nat_cmp x.piece y.piece))) (nat_less x.low y.low a)
less_in x y (inr (e, inl b)) = ap₂ (λ o p. ordering_then o (ordering_then p (nat_cmp x.piece y.piece))) (nat_tied x.low y.low e) (nat_less x.high y.high b)
less_in x y (inr (e, inr (f, c))) =
    ap₂ (λ o p. ordering_then o (ordering_then p (nat_cmp x.piece y.piece))) (nat_tied x.low y.low e) (nat_tied x.high y.high f)
    ∙ nat_less x.piece y.piece c

less_out : (x y : Stretch) → stretch_cmp x y ≡ Less → IsLesser x y
less_out x y h = elim (then_less (nat_cmp x.low y.low) (ordering_then (nat_cmp x.high y.high) (nat_cmp x.piece y.piece)) h) [
  | inl a ↦ inl (less_nat x.low y.low a)
  | inr b ↦ inr (
    nat_exact x.low y.low b.0,
    elim (then_less (nat_cmp x.high y.high) (nat_cmp x.piece y.piece) b.1) [
      | inl c ↦ inl (less_nat x.high y.high c)
      | inr d ↦ inr (nat_exact x.high y.high d.0, less_nat x.piece y.piece d.1)
    ],
  )
]

-- the least stretch along the edge of a piece from `first` on
abbrev pub bar_at : EdgeEnds → ℕ → Stretch
bar_at e first = record { low = e.low; high = e.high; piece = first }

abbrev pub is_before : Stretch → Stretch → Bool
is_before w s = is_lt (stretch_cmp s w)

pub parted_by : (xs : List Stretch) (w : Stretch) → IsAscending stretch_cmp xs → IsPartitionedBy (is_before w) xs
parted_by xs w up = parted stretch_cmp (is_before w) xs up (λ x y _ _ h k. ap is_lt (stretch_cmp_total.trans x y w h (is_less (stretch_cmp y w) k)))

module _ (xs : List Stretch) (up : IsAscending stretch_cmp xs) (e : EdgeEnds) (first : ℕ) where
  -- what is not before, and no later than one along the edge, runs along it, too
  record IsFirst (x s : Stretch) : Type 0 where
    ends : ends_of x ≡ e
    from : first ≤ x.piece
    upto : x.piece ≤ s.piece

  earlier : (x s : Stretch) → is_before (bar_at e first) x ≡ false → stretch_cmp x s ≡ Less → ends_of s ≡ e → IsFirst x s
  earlier x s f h q =
      let low : s.low ≡ e.low = ap (λ (y : EdgeEnds). y.low) q in
      let high : s.high ≡ e.high = ap (λ (y : EdgeEnds). y.high) q in
      let no : IsLesser x (bar_at e first) → ⊥ = λ l. false≢true (sym f ∙ ap is_lt (less_in x (bar_at e first) l)) in
      elim (less_out x s h) [
        | inl a ↦ absurd (no (inl (omega arith)))
        | inr (p, inl b) ↦ absurd (no (inr (p ∙ low, inl (omega arith))))
        | inr (p, inr (r, c)) ↦
            let u = p ∙ low in
            let v = r ∙ high in
            record {
              ends = (λ i. record { low = u i; high = v i });
              from = elim (cases_lt x.piece first) [ inl d ↦ absurd (no (inr (u, inr (v, d)))) | inr d ↦ d ];
              upto = omega arith;
            }
      ]

  module _ (n : ℕ) (cut : IsPartitionPoint (λ s. is_before (bar_at e first) s ≡ true) (λ s. is_before (bar_at e first) s ≡ false) xs n) where
    hit : (s : Stretch) → Member s xs → ends_of s ≡ e → first ≤ s.piece → (n < length xs) × IsFirst (get_or xs n no_stretch) s
    hit s m q b =
        let a = from_member xs s m in
        let A = a.1 in
        let is : get_or xs a.0 no_stretch ≡ s = any_default xs a.0 no_stretch s a.1 ∙ a.2 in
        elim (cases_lt a.0 n) [
          | inl k ↦ absurd (not_before (subst (λ z. is_before (bar_at e first) z ≡ true) is (cut.0 a.0 no_stretch (omega arith) k)))
          | inr k ↦
              let N : n < length xs = omega arith in
              elim (cases_lt n a.0) [
                | inl l ↦ (N, earlier (get_or xs n no_stretch) s (cut.1 n no_stretch (omega arith) N) (subst (λ z. stretch_cmp (get_or xs n no_stretch) z ≡ Less) is (rises stretch_cmp xs up n a.0 no_stretch l A)) q)
                | inr l ↦
                    let i : a.0 ≡ n = omega arith in
                    let j : get_or xs n no_stretch ≡ s = ap (λ z. get_or xs z no_stretch) (sym i) ∙ is in
                    let p = ap (λ (z : Stretch). z.piece) j in
                    (N, record { ends = ap ends_of j ∙ q; from = omega arith; upto = omega arith })
              ]
        ]
      where
        not_before : is_before (bar_at e first) s ≡ true → ⊥
        not_before t =
            let low : s.low ≡ e.low = ap (λ (y : EdgeEnds). y.low) q in
            let high : s.high ≡ e.high = ap (λ (y : EdgeEnds). y.high) q in
            elim (less_out s (bar_at e first) (is_less (stretch_cmp s (bar_at e first)) t)) [
              | inl k ↦ absurd (omega arith)
              | inr (p, inl k) ↦ absurd (omega arith)
              | inr (p, inr (r, k)) ↦ absurd (omega arith)
            ]

    pub none_along : (count : ℕ) (r : Option ℕ) → false ≡ nat_lt n (length xs) → r ≡ None → IsOwnAlong first count xs e r
    none_along count r h q = subst (IsOwnAlong first count xs e) (sym q) (λ i I m. absurd (false≢true (h ∙ lt-ltb n (length xs) (hit m.0 m.1 m.2 (let p = m.3 in omega arith)).0)))

    pub read_along : (count : ℕ) (x : Stretch) (r : Option ℕ) → n < length xs → x ≡ get_or xs n x → IsPlaceOfOwn first count e x r → IsOwnAlong first count xs e r
    read_along count x None l is h = λ i I m.
        let b : first ≤ m.0.piece = (let p = m.3 in omega arith) in
        let k = subst (λ z. IsFirst z m.0) (sym (is ∙ any_default xs n x no_stretch l)) (hit m.0 m.1 m.2 b).1 in
        let p = m.3 in
        let u = k.upto in
        let f = k.from in
        h (x.piece - first) (omega arith) k.ends (omega arith)
    read_along count x (Some i) l is h = (h.0, (x, subst (λ z. Member z xs) (sym (is ∙ any_default xs n x no_stretch l)) (member_at xs n no_stretch l), h.1, h.2))
