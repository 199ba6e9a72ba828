-- What a slab holds, by its keys.
use Rattle.std.specs.Prelude.{◌≡◌, ℕ, List, map, cond, Option, option_map}
use Rattle.slab.specs.Slab.{Slab, get, entries, slab_len}
use Rattle.chain_laws.specs.Links.{is_at}

-- what a slab holds, by its keys, each as f says
unfoldable pub tabled : {X Y : Type 0} → (X → Y) → Slab X → List (ℕ × Y)
tabled f s = map (λ e. (e.0, f e.1)) (entries s)

-- the row that there may be is changed, and no other
pub record IsChanged {X : Type 0} (change : X → X) (at : Option ℕ) (old new : Slab X) : Type 0 where
  pub rows : (n : ℕ) → get new n ≡ cond (is_at at n) (option_map change (get old n)) (get old n)
  pub len : slab_len new ≡ slab_len old
  pub capacity : new.capacity ≡ old.capacity
