-- A layer's present in memory, from the pieces of its history and the pins of its records.
use Rattle.std.proofs.Common.{◌≡◌, ◌∙◌, List, [], ◌∷◌, length, map, refl}
use Rattle.std.specs.List.{filter}
use Rattle.exact_plane.specs.Point.{Point}
use Rattle.slab_laws.specs.declared.present.Piece.{Piece as PieceInMemory}
use Rattle.slab_laws.specs.Pieces.{piece_of, present_of}
use Rattle.slab_laws.specs.Sound.{IsGraphSound}
use Rattle.slab_laws.specs.View.{View}
use Rattle.arr_notes.specs.RecordGraph.{drawn_graph}
use Rattle.curve_history.specs.Past.{Past, curves_on}
use Rattle.record_orders.specs.Keys.{vertex_keys}
use Rattle.told_steps.specs.RecordLayers.{IsLayer, layer_of}
use Rattle.subdivision_rows.specs.ByName.{points_at, pinned_among}
use Rattle.subdivision_rows.proofs.PinsByName.{pins_are}
use Rattle.pin_points.proofs.Counted.{pins_counted}

-- the pieces and the pins that were read are the layer's present
pub read : (v : View) (p : Past) → IsLayer v p → (ks : List PieceInMemory) (ps : List Point) → map piece_of ks ≡ p.pieces → ps ≡ points_at (pinned_among v (vertex_keys v)) → present_of (record { pieces = ks; pins = ps }) ≡ (layer_of v p).present
read v p l ks ps e f =
    let pins : ps ≡ (drawn_graph v (curves_on p)).pins = f ∙ pins_are v l.sound (curves_on p) in
    λ i. record { pieces = e i; pins = pins i }

empty : {X : Type 0} (xs : List X) → length xs ≡ 0 → xs ≡ []
empty [] h = refl
empty (x ∷ xs) h = absurd cc

-- where no row is pinned there is no pin to read
pub no_pins : (v : View) → IsGraphSound v → length (filter (λ r. r.1.pinned) v.vertices) ≡ 0 → points_at (pinned_among v (vertex_keys v)) ≡ []
no_pins v s e = pins_are v s (λ d. []) ∙ empty (drawn_graph v (λ d. [])).pins (pins_counted v (λ d. []) s ∙ e)
