-- What a look at a dart told.
use Rattle.slab_laws.specs.declared.names.DartId.{DartId}
use Rattle.slab_laws.specs.View.{View, HasDart}
use Rattle.slab_laws.specs.Sound.{IsGraphSound}
use Rattle.counted_looks.specs.Looks.{IsLookOf}
use Rattle.counted_looks.specs.declared.glance.Looked.{Looked}
use Rattle.dcel_records.specs.declared.spot.Spot.TheVariants.{Edge}

-- what a look at a dart of a sound graph told (this project)
pub record IsDrawnLook (v : View) (d : DartId) (l : Looked) : Type 0 where
  pub sound : IsGraphSound v
  pub has : HasDart v d
  pub look : IsLookOf v (Edge d) l
