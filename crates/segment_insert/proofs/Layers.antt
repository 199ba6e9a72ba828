-- A history of the same sides of curves, and of the records of a layer.
use Rattle.std.proofs.Common.{◌≡◌, sym, subst}
use Rattle.arr_notes.specs.Curves.{Curves}
use Rattle.curve_history.specs.Past.{Past, strands_on, SameStrands}
use Rattle.slab_laws.specs.View.{View}
use Rattle.piece_location.specs.Layers.{IsPastOf}
use Rattle.told_steps.specs.RecordLayers.{IsLayer}

pub one_sides : (p q : Past) → SameStrands p q → strands_on q ≡ strands_on p
one_sides p q c = λ i d. c d i

-- what is said of the same sides, as of the room for them, stays
pub by_same_sides : (P : Curves → Type 0) (p q : Past) → SameStrands p q → P (strands_on p) → P (strands_on q)
by_same_sides P p q c h = subst P (sym (one_sides p q c)) h

-- ---- a layer's history is that of its records
pub past_of_layer : (v : View) (p : Past) → IsLayer v p → IsPastOf v p
past_of_layer v p l = record { sound = l.sound; curves = l.curves; fit = l.lawful.fit; strands = l.strands }
