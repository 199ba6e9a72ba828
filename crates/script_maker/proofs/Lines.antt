-- The lines that are left, and those of the whole script.
use Rattle.std.proofs.Common.{◌≡◌, ℕ, zero, suc, ◌+◌, ◌-◌, ◌*◌, ◌/◌, ◌%◌, ◌<◌, ◌==◌, Bool, true, false, [], ◌∷◌, ◌++◌, codes, if◌then◌else◌, refl, sym, ap, ap₂, ◌∙◌, arith, add-zero, append_assoc}
use Rattle.std.specs.List.{flat_map, range_with_len}
use Rattle.script_maker.specs.Script.{draw, drop_line, drops_after, ends_at, ends_of, lines_at, next_state, script, segment_line, state_after}
use Rattle.script_maker.specs.Remaining.{ends_from, lines_from, remaining, stage_after}
use Rattle.script_maker.specs.declared.maker.Stage.TheVariants.{Segments, Drop}

pub lines_from-zero : (given state : ℕ) → lines_from 0 given state ≡ codes "count" ∷ []
unfolding lines_from
lines_from-zero given state = refl

lines_from-suc : (left given state : ℕ) → lines_from (suc left) given state
    ≡ segment_line (ends_from state) ∷ (drops_after (given + 1) ++ lines_from left (given + 1) (state_after state 4))
unfolding lines_from
lines_from-suc left given state = refl

-- what comes behind a segment, with what may stand before it
drops-remaining : (b : Bool) (left given state : ℕ)
    → (if b then drop_line (given / 2) ∷ [] else []) ++ lines_from left given state ≡ remaining (if b then Drop else Segments) left given state
drops-remaining true left given state = refl
drops-remaining false left given state = refl

pub lines_from-next : (left given state : ℕ) → 0 < left → lines_from left given state
    ≡ segment_line (ends_from state) ∷ remaining (stage_after (given + 1)) (left - 1) (given + 1) (state_after state 4)
lines_from-next zero given state h = absurd (omega arith)
lines_from-next (suc left) given state h =
    let e : suc left - 1 ≡ left = omega arith in
    lines_from-suc left given state ∙ ap (λ rest. segment_line (ends_from state) ∷ rest)
    (drops-remaining ((given + 1) % 8 == 0) left (given + 1) (state_after state 4) ∙ ap (λ n. remaining (stage_after (given + 1)) n (given + 1) (state_after state 4)) (sym e))

-- draws go on where others ended
state_after-add : (seed n k : ℕ) → state_after (state_after seed n) k ≡ state_after seed (n + k)
unfolding state_after
state_after-add seed n zero = ap (λ m. state_after seed m) (sym (add-zero n))
state_after-add seed n (suc k) =
    let e : n + suc k ≡ suc (n + k) = omega arith in
    ap next_state (state_after-add seed n k) ∙ sym (ap (λ m. state_after seed m) e)

draw-add : (seed n k m : ℕ) → n + k ≡ m → draw (state_after seed n) k ≡ draw seed m
draw-add seed n k m e = ap (λ s. s / 65536) (state_after-add seed n k ∙ ap (λ m. state_after seed m) e)

ends_from-at : (seed given : ℕ) → ends_from (state_after seed (4 * given)) ≡ ends_at seed (given + 1)
ends_from-at seed given =
    let n = 4 * given in
    let k = 4 * (given + 1) in
    let one = draw-add seed n 1 (k - 3) (omega arith) in
    let two = draw-add seed n 2 (k - 2) (omega arith) in
    let three = draw-add seed n 3 (k - 1) (omega arith) in
    let four = draw-add seed n 4 k (omega arith) in
    ap₂ (λ a b. ends_of a b (draw (state_after seed n) 3) (draw (state_after seed n) 4)) one two
    ∙ ap₂ (λ c d. ends_of (draw seed (k - 3)) (draw seed (k - 2)) c d) three four

lines_from-at : (left seed given : ℕ) → lines_from left given (state_after seed (4 * given))
    ≡ flat_map (lines_at seed) (range_with_len (given + 1) left) ++ codes "count" ∷ []
lines_from-at zero seed given = lines_from-zero given (state_after seed (4 * given))
lines_from-at (suc left) seed given =
    let e : 4 * given + 4 ≡ 4 * (given + 1) = omega arith in
    let rest = flat_map (lines_at seed) (range_with_len (given + 1 + 1) left) in
    let moved : state_after (state_after seed (4 * given)) 4 ≡ state_after seed (4 * (given + 1)) =
    state_after-add seed (4 * given) 4 ∙ ap (λ m. state_after seed m) e in
    lines_from-suc left given (state_after seed (4 * given))
    ∙ ap₂ (λ ends lines. segment_line ends ∷ (drops_after (given + 1) ++ lines)) (ends_from-at seed given)
    (ap (λ state. lines_from left (given + 1) state) moved ∙ lines_from-at left seed (given + 1))
    ∙ sym (append_assoc (lines_at seed (given + 1)) rest (codes "count" ∷ []))

-- what is left at the start is the whole script
pub lines_from-start : (segments seed : ℕ) → lines_from segments 0 seed ≡ script segments seed
unfolding state_after
lines_from-start segments seed = lines_from-at segments seed 0
