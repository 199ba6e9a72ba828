-- What is promised stays within what a slab can hold, whatever is written.
use Rattle.std.proofs.Common.{◌≡◌, ℕ, ◌+◌, ◌-◌, ◌≤◌, [], count_by, is_some, ap, arith}
use Rattle.slab.specs.Slab.{Slab, slab_len, HasRoomFor}
use Rattle.dcel_records.specs.StoredRows.{IsRoom}

module _ {X : Type 0} (room : ℕ) (s t : Slab X) (k : IsRoom room s) where
  pub room_same : slab_len t ≡ slab_len s → t.capacity ≡ s.capacity → IsRoom room t
  room_same l c = let h = k.holds in let w = k.within in record { holds = omega arith; within = omega arith }

  pub room_more : 1 ≤ room - slab_len s → slab_len t ≡ slab_len s + 1 → t.capacity ≡ s.capacity → IsRoom room t
  room_more r l c = let h = k.holds in let w = k.within in record { holds = omega arith; within = omega arith }

  pub room_less : slab_len t + 1 ≡ slab_len s → t.capacity ≡ s.capacity → IsRoom room t
  room_less l c = let h = k.holds in let w = k.within in record { holds = omega arith; within = omega arith }

  -- an emptied slab has the room that it had
  pub room_after : t.slots ≡ [] → t.capacity ≡ s.capacity → IsRoom room t
  room_after e c = let n : slab_len t ≡ 0 = ap (λ os. count_by is_some os) e in let w = k.within in record { holds = omega arith; within = omega arith }

-- a new slab promises nothing
pub room_first : {X : Type 0} (s : Slab X) → s.slots ≡ [] → IsRoom 0 s
room_first s e = let n : slab_len s ≡ 0 = ap (λ os. count_by is_some os) e in record { holds = omega arith; within = omega arith }

-- what is spare of the promise fits
pub room_fits : {X : Type 0} (room spare : ℕ) (s : Slab X) → IsRoom room s → room - slab_len s ≡ spare → 1 ≤ spare → HasRoomFor s 1
room_fits room spare s k e r = let h = k.holds in let w = k.within in omega arith
