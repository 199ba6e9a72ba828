-- The layer only moved: what stays where records and history draw what they drew.
use Rattle.std.proofs.Common.{◌≡◌, sym, ap, ◌∙◌, subst}
use Rattle.plane_graphs.specs.Graph.{graph}
use Rattle.plane_graphs.specs.Strands.{strands}
use Rattle.edit_steps.specs.Layer.{IsLawful}
use Rattle.slab_laws.specs.View.{View}
use Rattle.arr_notes.specs.Curves.{AreCurvesOf}
use Rattle.arr_notes.specs.RecordGraph.{drawn_graph}
use Rattle.curve_history.specs.Past.{Past, curves_on, SameCurves, SameLayer, SameStrands}
use Rattle.curve_history.proofs.Sides.{same_strands_curves}
use Rattle.told_steps.specs.RecordLayers.{IsLayer, layer_of}

pub one_curves : (p q : Past) → SameCurves p q → curves_on q ≡ curves_on p
one_curves p q e = λ i d. e d i

pub same_layers : (a b c : Past) → SameLayer a b → SameLayer b c → SameLayer a c
same_layers a b c x y = record { names = y.names ∙ x.names; pieces = y.pieces ∙ x.pieces; next = y.next ∙ x.next }

module _ (v : View) (p q : Past) (n : SameLayer p q) (s : SameStrands p q) where
  abbrev curves : SameCurves p q
  curves = same_strands_curves p q s

  pub one_layer : layer_of v q ≡ layer_of v p
  one_layer = λ i. record { present = record { pieces = n.pieces i; pins = (drawn_graph v (one_curves p q curves i)).pins }; names = n.names i; next = n.next i }

  pub layer_moves : IsLayer v p → IsLayer v q
  layer_moves l = record {
    sound = l.sound;
    curves = subst (AreCurvesOf v) (sym (one_curves p q curves)) l.curves;
    lawful = subst IsLawful (sym one_layer) l.lawful;
    stands = ap (drawn_graph v) (one_curves p q curves) ∙ l.stands ∙ ap (λ z. graph z.present) (sym one_layer);
    strands = ap (drawn_graph v) (λ i d. s d i) ∙ l.strands ∙ ap (λ z. graph (strands z.present)) (sym one_layer);
  }

-- nothing moved but memory
pub layer_stays : (v w : View) (p q : Past) → w ≡ v → SameLayer p q → SameStrands p q → IsLayer v p → IsLayer w q
layer_stays v w p q e n s l = subst (λ z. IsLayer z q) (sym e) (layer_moves v p q n s l)
