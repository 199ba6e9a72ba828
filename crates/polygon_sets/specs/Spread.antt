-- Sets that spread from the unbounded face across edges.
use Rattle.std.specs.Prelude.{◌≡◌, ◌<◌, ◌≤◌, ◌+◌, ℕ, Bool, true, false, List, [], ◌∷◌, ◌++◌, length, slice_index_or, slice_set, Option, None, Some}
use Rattle.std.specs.List.{count_by}
use Rattle.polygon_sets.specs.declared.crossings.Inside.{Inside}
use Rattle.polygon_sets.specs.declared.crossings.Crossing.{Crossing}
use Rattle.polygon_sets.specs.declared.spread.Spread.{Spread}
use Rattle.polygon_sets.specs.Crossings.{neither, crossing_at, crossed}

-- the sets that hold a face, where they are known
abbrev pub set_at : List (Option Inside) → ℕ → Option Inside
set_at sets f = slice_index_or sets f None

-- it is known which sets hold the face
abbrev pub IsKnown : List (Option Inside) → ℕ → Type 0
IsKnown sets f = (i : Inside) × (set_at sets f ≡ Some i)

-- what holds faces: nothing holds the unbounded one, and across each dart it changes as the dart says (this project)
pub record IsSetting (cs : List Crossing) (truth : ℕ → Inside) : Type 0 where
  pub outside : truth 0 ≡ neither
  pub across : (k : ℕ) → k < length cs → truth (crossing_at cs k).right ≡ crossed (crossing_at cs k) (truth (crossing_at cs k).left)

-- of each face that is reached from the unbounded one the sets that hold it, whichever are meant
pub record AreSpread (cs : List Crossing) (faces : ℕ) (sets : List (Option Inside)) : Type 0 where
  pub counted : length sets ≡ faces
  pub outside : IsKnown sets 0
  pub closed : (k : ℕ) → k < length cs → IsKnown sets (crossing_at cs k).left → IsKnown sets (crossing_at cs k).right
  pub told : (truth : ℕ → Inside) → IsSetting cs truth → (f : ℕ) (i : Inside) → set_at sets f ≡ Some i → i ≡ truth f

-- nothing, where nothing is known
abbrev pub held : Option Inside → Inside
held None = neither
held (Some i) = i

-- the face that was reached at a place
abbrev pub reached_at : Spread → ℕ → ℕ
reached_at s i = slice_index_or s.reached.items i 0

-- it isn't known yet which sets hold the face
abbrev pub is_unknown : Option Inside → Bool
is_unknown None = true
is_unknown (Some i) = false

-- the first `done` of the faces that were reached have been left across all their darts
pub record IsSpreading (cs : List Crossing) (faces done : ℕ) (s : Spread) : Type 0 where
  pub counted : length s.sets.items ≡ faces
  pub outside : IsKnown s.sets.items 0
  pub told : (truth : ℕ → Inside) → IsSetting cs truth → (f : ℕ) (i : Inside) → set_at s.sets.items f ≡ Some i → i ≡ truth f
  pub listed : (f : ℕ) → IsKnown s.sets.items f → (i : ℕ) × (i < length s.reached.items) × (reached_at s i ≡ f)
  pub known : (i : ℕ) → i < length s.reached.items → IsKnown s.sets.items (reached_at s i)
  pub left : (i : ℕ) → i < done → (k : ℕ) → k < length cs → (crossing_at cs k).left ≡ reached_at s i → IsKnown s.sets.items (crossing_at cs k).right
  pub rest : count_by is_unknown s.sets.items + length s.reached.items ≡ faces
  pub upto : done ≤ length s.reached.items

-- the face on the right is reached now, if it wasn't before
abbrev pub IsCrossedAt : Option Inside → Crossing → Inside → Spread → Spread → Type 0
IsCrossedAt (Some j) c i old new = new ≡ old
IsCrossedAt None c i old new = (new.sets.items ≡ slice_set old.sets.items c.right (Some (crossed c i))) × (new.reached.items ≡ old.reached.items ++ c.right ∷ [])

-- by what was known of the face on the right
abbrev pub IsCrossed : Crossing → Inside → Spread → Spread → Type 0
IsCrossed c i old new = IsCrossedAt (set_at old.sets.items c.right) c i old new
