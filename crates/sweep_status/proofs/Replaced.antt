-- A run that takes the place of a part of a list, step by step.
use Rattle.std.proofs.Common.{◌≡◌, ℕ, ◌≤◌, ◌+◌, ◌-◌, sym, ap, ap₂, ◌∙◌, arith, List, ◌++◌, length, take, drop, length-append, length-take, length-drop, take-append-drop}
use Rattle.std.specs.List.{splice, copy_within}
use Rattle.std.proofs.lemmas.List.{drop-take, take-append-le, drop-append-le}
use lib.Seq.{take_at, drop_at, take-take, length-take-le}

module _ {X : Type 0} where
  -- what stands from `high` up to `end` is moved to `top`
  module _ (xs : List X) (high end top : ℕ) (in_turn : high ≤ end) (bound : end ≤ length xs) (room : top + (end - high) ≤ length xs) where
    part_long : length (take (end - high) (drop high xs)) ≡ end - high
    part_long = let a = length-take (end - high) (drop high xs) in let b = length-drop high xs in omega (arith, a, b, in_turn, bound)

    pub moved : take (top + (end - high)) (copy_within xs high end top) ≡ take top xs ++ take (end - high) (drop high xs)
    moved =
        let a = length-append (take top xs) (take (end - high) (drop high xs)) in
        let b = length-take-le top xs (omega (arith, room)) in
        let c = part_long in
        take_at (take top xs ++ take (end - high) (drop high xs)) (drop (top + (end - high)) xs) (top + (end - high)) (omega (arith, a, b, c))

    -- where it stands there, nothing has to be moved
    pub stays : top ≡ high → take (top + (end - high)) xs ≡ take top xs ++ take (end - high) (drop high xs)
    stays e =
        let n = top + (end - high) in
        sym (take-append-drop top (take n xs))
        ∙ ap₂ (λ us vs. us ++ vs) (take-take top n xs (omega arith)) (drop-take top (end - high) xs ∙ ap (λ k. take (end - high) (drop k xs)) e)

  -- a slice that has as many elements as the list, given back to it
  given_back : (us xs : List X) (n : ℕ) → length us ≡ length xs → n ≡ length xs → take n (us ++ drop (length us) xs) ≡ us
  given_back us xs n e f = take_at us (drop (length us) xs) n (e ∙ sym f)

  -- the second part of the run was put at the end, which gives room; then what stays above is moved, and the run is written
  module _ (xs run more : List X) (low high end : ℕ) (is_end : end ≡ length xs) (in_turn : low ≤ high) (bound : high ≤ length xs) (enough : length run ≤ high - low + length more)
      (room : List X) (held : room ≡ xs ++ more) where
    pub room_long : length room ≡ length xs + length more
    room_long = ap length held ∙ length-append xs more

    pub fits : low + length run + (end - high) ≤ length room
    fits = let a = room_long in omega (arith, a, is_end, in_turn, bound, enough)

    module _ (above : List X) (is_above : above ≡ take (low + length run) room ++ take (end - high) (drop high room)) where
      low_in : low ≤ length xs
      low_in = omega (arith, in_turn, bound)

      top_in : low + length run ≤ length room
      top_in = let a = fits in omega (arith, a)

      above_is : above ≡ take (low + length run) room ++ drop high xs
      above_is =
          let d = length-drop high xs in
          let q : length (drop high xs) ≡ end - high = omega (arith, d, is_end) in
          is_above ∙ ap (λ us. take (low + length run) room ++ us)
          (ap (λ us. take (end - high) (drop high us)) held ∙ ap (take (end - high)) (drop-append-le high xs more bound) ∙ take_at (drop high xs) more (end - high) q)

      pub above_fits : low + length run ≤ length above
      above_fits =
          let a = ap length above_is ∙ length-append (take (low + length run) room) (drop high xs) in
          let b = length-take-le (low + length run) room top_in in
          omega (arith, a, b)

      pub written : splice above low (low + length run) run ≡ splice xs low high run
      written =
          let n = length-take-le (low + length run) room top_in in
          let p : low ≤ length (take (low + length run) room) = omega (arith, n) in
          ap (λ us. splice us low (low + length run) run) above_is
          ∙ ap₂ (λ us vs. us ++ (run ++ vs))
          (take-append-le low (take (low + length run) room) (drop high xs) p ∙ take-take low (low + length run) room (omega arith) ∙ ap (take low) held ∙ take-append-le low xs more low_in)
          (drop_at (take (low + length run) room) (drop high xs) (low + length run) n)

      -- in the list that was lent as a slice
      pub at_end : (now new : List X) (n : ℕ) → n ≡ length above → now ≡ above → new ≡ splice now low (low + length run) run → take n (new ++ drop (length new) above) ≡ splice xs low high run
      at_end now new n whole lent is_new =
          let e = is_new ∙ ap (λ us. splice us low (low + length run) run) lent in
          let a = length-append (take low above) (run ++ drop (low + length run) above) in
          let b = length-append run (drop (low + length run) above) in
          let c = length-take low above in
          let d = length-drop (low + length run) above in
          let f = above_fits in
          given_back new above n (ap length e ∙ omega (arith, a, b, c, d, f)) whole ∙ e ∙ written
