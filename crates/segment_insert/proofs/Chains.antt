-- Neighbours in a list of meetings that ascend.
use Rattle.std.proofs.Common.{◌≡◌, ℕ, zero, suc, ◌<◌, ◌≤◌, List, [], ◌∷◌, length, drop, get_or, refl, subst, inl, inr, arith}
use Rattle.exact_plane.specs.Point.{Point}
use Rattle.exact_plane.specs.PointOrder.{point_cmp}
use Rattle.plane_graphs.specs.Ascending.{Member, IsAscending}
use Rattle.plane_graphs.specs.Graph.{mark, chain, chain_from}
use Rattle.plane_graphs.proofs.Ascending.{All-member}
use Rattle.plane_graphs.proofs.Order.{Lt, lt_never, lt_both}
use Rattle.zone_walk.specs.declared.plan.Meeting.{Meeting}
use Rattle.zone_walk.specs.Zone.{points_of_meetings}

abbrev Ascend : List Meeting → Type 0
Ascend ms = IsAscending point_cmp (points_of_meetings ms)

later : (m : Meeting) (ms : List Meeting) (x : Point) → Ascend (m ∷ ms) → Member x (points_of_meetings ms) → Lt m.point x
later m ms x a k = record { is = All-member _ x (points_of_meetings ms) a.0 k }

-- the one at a place is among them
at_place : (ms : List Meeting) (k : ℕ) (d : Meeting) → k < length ms → Member (get_or ms k d).point (points_of_meetings ms)
at_place [] k d h = absurd (omega arith)
at_place (m ∷ ms) zero d h = inl refl
at_place (m ∷ ms) (suc k) d h = inr (at_place ms k d (omega arith))

pub next_later : (ms : List Meeting) (k : ℕ) (d e : Meeting) → Ascend ms → suc k < length ms → Lt (get_or ms k d).point (get_or ms (suc k) e).point
next_later [] k d e a h = absurd (omega arith)
next_later (m ∷ ms) zero d e a h = later m ms (get_or ms zero e).point a (at_place ms zero e (omega arith))
next_later (m ∷ ms) (suc k) d e a h = next_later ms k d e a.1 (omega arith)

not_before_first : (ms : List Meeting) (e : Meeting) (x : Point) → Ascend ms → Member x (points_of_meetings ms) → Lt x (get_or ms zero e).point → ⊥
not_before_first [] e x a k l = elim k [ ]
not_before_first (m ∷ ms) e x a (inl q) l = lt_never (subst (λ z. Lt z m.point) q l)
not_before_first (m ∷ ms) e x a (inr k) l = lt_both l (later m ms x a k)

pub none_amid : (ms : List Meeting) (k : ℕ) (d e : Meeting) (x : Point) → Ascend ms → suc k < length ms → Member x (points_of_meetings ms) → Lt (get_or ms k d).point x → Lt x (get_or ms (suc k) e).point → ⊥
none_amid [] k d e x a h m low high = m
none_amid (m ∷ ms) zero d e x a h (inl q) low high = lt_never (subst (λ z. Lt m.point z) q low)
none_amid (m ∷ ms) zero d e x a h (inr k) low high = not_before_first ms e x a.1 k high
none_amid (m ∷ ms) (suc k) d e x a h (inl q) low high = lt_both (later m ms (get_or ms k d).point a (at_place ms k d (omega arith))) (subst (λ z. Lt (get_or ms k d).point z) q low)
none_amid (m ∷ ms) (suc k) d e x a h (inr n) low high = none_amid ms k d e x a.1 (omega arith) n low high

-- ---- each point with the next one
pub chain_next : (c : ℕ) (ms : List Meeting) (k : ℕ) (d e : Meeting) → suc k < length ms →
    chain c (points_of_meetings (drop k ms)) ≡ mark (get_or ms k d).point (get_or ms (suc k) e).point c ∷ chain c (points_of_meetings (drop (suc k) ms))
unfolding chain chain_from
chain_next c [] k d e h = absurd (omega arith)
chain_next c (m ∷ []) zero d e h = absurd (omega arith)
chain_next c (m ∷ n ∷ ms) zero d e h = refl
chain_next c (m ∷ ms) (suc k) d e h = chain_next c ms k d e (omega arith)

pub chain_ends : (c : ℕ) (ms : List Meeting) (k : ℕ) → length ms ≤ suc k → chain c (points_of_meetings (drop k ms)) ≡ []
unfolding chain chain_from
chain_ends c [] zero h = refl
chain_ends c [] (suc k) h = refl
chain_ends c (m ∷ []) zero h = refl
chain_ends c (m ∷ n ∷ ms) zero h = absurd (omega arith)
chain_ends c (m ∷ ms) (suc k) h = chain_ends c ms k (omega arith)
