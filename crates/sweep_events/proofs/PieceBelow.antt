-- The piece directly below the last event is the last of the status that passes below it.
use Rattle.std.proofs.Common.{◌≡◌, ℕ, ◌-◌, ◌<◌, ◌≤◌, true, false, refl, arith, sym, ap, ◌∙◌, subst, inl, inr, List, ◌++◌, length, length-append, get_or, ℤ, pos, ◌<ℤ◌, ◌≤ℤ◌, Less}
use Rattle.std.specs.Prelude.{slice_index_or, Option, None, Some}
use Rattle.std.proofs.lemmas.Int.{ints}
use Rattle.std.proofs.lemmas.Bool.{false≢true, cases_lt}
use Rattle.integers.proofs.Decisions.{lt_out, lt_in, ge_in}
use Rattle.exact_plane.specs.Line.{side_of, IsOn}
use Rattle.exact_plane.specs.Point.{Point}
use Rattle.exact_plane.specs.Span.{Span}
use Rattle.plane_graphs.specs.Ascending.{Member}
use Rattle.plane_graphs.proofs.Ascending.{from_member}
use Rattle.plane_graphs.proofs.Lists.{in_either}
use Rattle.plane_graphs.proofs.Sorting.{rises, member_at, any_default}
use Rattle.sweep_events.specs.Below.{PassesBelow, IsPieceBelow, IsPieceBelowAfter, IsBelowLast}
use Rattle.sweep_events.specs.Events.{IsStatusAfter}
use Rattle.sweep_events.specs.Exchange.{IsExchange}
use Rattle.sweep_events.specs.Places.{piece_at, is_below, IsCutBelow, AreSpans}
use Rattle.sweep_events.specs.Status.{IsStatus, status_cmp}
use Rattle.sweep_events.specs.Sweep.{Swept, HasStatus, IsCutAfter}
use Rattle.sweep_events.proofs.StatusCuts.{parted_by}

-- the pieces that pass below an event stand first in the status after it
pub cut_after : (pieces : List Span) → AreSpans pieces → (q : Point) (before after : List ℕ) (first second : ℕ) → IsExchange pieces q before after first second → (first ≤ length after) × IsCutBelow pieces q after first
cut_after pieces spans q before after first second t =
    subst (λ n. (n ≤ length after) × IsCutBelow pieces q after n) (sym t.first_is)
    (subst (λ (xs : List ℕ). (length t.low ≤ length xs) × IsCutBelow pieces q xs (length t.low)) (sym t.after_is) (
      let e = length-append t.low (t.mid ++ t.high) in omega (arith, e),
      parted_by (λ i. is_below pieces q i ≡ true) (λ i. is_below pieces q i ≡ false) t.low (t.mid ++ t.high) (λ i m. lt_in (pos 0) (side_of (piece_at pieces i).line q) (t.split.below i m)) others,
    ))
  where
    none : (z : ℤ) → z ≡ pos 0 → z ≤ℤ pos 0
    none z e = omega (arith, ints)

    weak : (z : ℤ) → z <ℤ pos 0 → z ≤ℤ pos 0
    weak z h = omega (arith, ints)

    on : (i : ℕ) → Member i t.mid → IsOn (piece_at pieces i).line q
    on i m = elim ((t.run i).0 m) [
      | inl a ↦ t.split.through i a.0
      | inr b ↦ subst (λ (p : Point). IsOn (piece_at pieces i).line p) b.1 (spans i b.0).way.lower_on
    ]

    others : (i : ℕ) → Member i (t.mid ++ t.high) → is_below pieces q i ≡ false
    others i m = elim (in_either i t.mid t.high m) [
      | inl a ↦ ge_in (pos 0) (side_of (piece_at pieces i).line q) (none (side_of (piece_at pieces i).line q) (on i a))
      | inr b ↦ ge_in (pos 0) (side_of (piece_at pieces i).line q) (weak (side_of (piece_at pieces i).line q) (t.split.above i b))
    ]

module _ (pieces : List Span) (q : Point) (status : List ℕ) (s : IsStatus (piece_at pieces) (length pieces) q status) where
  place_of : (i : ℕ) → Member i status → (k : ℕ) × (k < length status) × (get_or status k 0 ≡ i)
  place_of i m = let k = from_member status i m in (k.0, k.1, any_default status k.0 0 i k.1 ∙ k.2)

  passes_in : (i : ℕ) → PassesBelow (piece_at pieces) (length pieces) q i → Member i status × (is_below pieces q i ≡ true)
  passes_in i (h, m, k) = ((s.met i).1 (h, m), lt_in (pos 0) (side_of (piece_at pieces i).line q) k)

  passes_out : (i : ℕ) → Member i status → is_below pieces q i ≡ true → PassesBelow (piece_at pieces) (length pieces) q i
  passes_out i m k = let a = (s.met i).0 m in (a.0, a.1, lt_out (pos 0) (side_of (piece_at pieces i).line q) k)

  none_below : (n : ℕ) → IsCutBelow pieces q status n → n ≡ 0 → IsPieceBelow (piece_at pieces) (length pieces) q None
  none_below n cut z i h =
      let a = passes_in i h in
      let k = place_of i a.0 in
      let l = k.1 in
      false≢true (sym (cut.1 k.0 0 (omega arith) l) ∙ subst (λ x. is_below pieces q x ≡ true) (sym k.2) a.1)

  highest_below : (n : ℕ) → IsCutBelow pieces q status n → n ≤ length status → 0 < n → IsPieceBelow (piece_at pieces) (length pieces) q (Some (slice_index_or status (n - 1) 0))
  highest_below n cut b z = (
    passes_out (slice_index_or status (n - 1) 0) (member_at status (n - 1) 0 (omega arith)) (cut.0 (n - 1) 0 (omega arith) (omega arith)),
    λ i h.
        let a = passes_in i h in
        let k = place_of i a.0 in
        let l = k.1 in
        elim (cases_lt k.0 n) [
          | inl t ↦ elim (cases_lt k.0 (n - 1)) [
            | inl w ↦ inr (subst (λ x. status_cmp (piece_at pieces) q x (slice_index_or status (n - 1) 0) ≡ Less) k.2 (rises (status_cmp (piece_at pieces) q) status s.ascends k.0 (n - 1) 0 w (omega arith)))
            | inr w ↦ inl (sym k.2 ∙ ap (λ j. get_or status j 0) (omega arith))
          ]
          | inr t ↦ absurd (false≢true (sym (cut.1 k.0 0 t l) ∙ subst (λ x. is_below pieces q x ≡ true) (sym k.2) a.1))
        ],
  )

-- ---- of a sweep, by what is kept of it
module _ (s u : Swept) (same : s ≡ u) (has : HasStatus s) (n : ℕ) (cut : IsCutAfter s.pieces s.last s.status n) where
  told : (o : Option ℕ) → IsBelowLast s o → IsBelowLast u o
  told o h = subst (λ z. IsBelowLast z o) same h

  pub none_kept : n ≡ 0 → IsBelowLast u None
  none_kept z = told None (at s.last has cut)
    where
      at : (l : Option Point) → IsStatusAfter (piece_at s.pieces) (length s.pieces) l s.status → IsCutAfter s.pieces l s.status n → IsPieceBelowAfter (piece_at s.pieces) (length s.pieces) l None
      at None k c = refl
      at (Some q) k c = none_below s.pieces q s.status k n c.1 z

  pub highest_kept : (j : ℕ) → (n ≡ 0 → ⊥) → j ≡ slice_index_or s.status (n - 1) j → IsBelowLast u (Some j)
  highest_kept j z e = told (Some j) (at s.last has cut)
    where
      at : (l : Option Point) → IsStatusAfter (piece_at s.pieces) (length s.pieces) l s.status → IsCutAfter s.pieces l s.status n → IsPieceBelowAfter (piece_at s.pieces) (length s.pieces) l (Some j)
      at None k c = absurd (z c)
      at (Some q) k c =
          let l = c.0 in
          let i = any_default s.status (n - 1) j 0 (omega (arith, l, z)) in
          subst (λ o. IsPieceBelow (piece_at s.pieces) (length s.pieces) q (Some o)) (sym (e ∙ i)) (highest_below s.pieces q s.status k n c.1 l (omega (arith, z)))
