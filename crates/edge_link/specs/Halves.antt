-- The halves of a cycle that an edge has parted.
use Rattle.std.specs.Prelude.{◌≡◌, ◌⊎◌, Bool, true, false}
use Rattle.slab_laws.specs.declared.names.DartId.{DartId}
use Rattle.slab_laws.specs.Sound.{skeleton_of, dart_in}
use Rattle.slab_laws.specs.View.{View}
use Rattle.face_changes.specs.Kinds.{is_outer}
use Rattle.cycle_writers.specs.declared.moves.Which.{Which}
use Rattle.cycle_writers.specs.declared.moves.Which.TheVariants.{All, Inside}
use Rattle.cycle_writers.specs.Taken.{IsWhich}
use Rattle.edge_link.specs.declared.splitting.Halves.{Halves}

-- one half is asked: the fresh one, which is outer, or the other, which isn't; where both are outer neither need be (this project)
abbrev pub IsHalfAsked : View → Bool → DartId → DartId → Which → Type 0
IsHalfAsked w both fresh other All = ⊥
IsHalfAsked w both fresh other (Inside half extent) =
    ((half ≡ fresh) × ((both ≡ true) ⊎ (is_outer (skeleton_of w) (dart_in w fresh) ≡ true))) ⊎ ((half ≡ other) × (both ≡ false) × (is_outer (skeleton_of w) (dart_in w other) ≡ false))

-- d and m are the fresh half's dart and the other's, in either order, and one half is asked for what lies in the fresh face; both says that the cycle was outer (this project)
pub record AreHalves (w : View) (d m : DartId) (both : Bool) (h : Halves) : Type 0 where
  pub ends : ((h.fresh ≡ d) × (h.other ≡ m)) ⊎ ((h.fresh ≡ m) × (h.other ≡ d))
  pub which : IsWhich w h.which
  pub asked : IsHalfAsked w both h.fresh h.other h.which
