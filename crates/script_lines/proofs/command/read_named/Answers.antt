use Rattle.std.proofs.Common.{rules, [], ◌∷◌}
use Rattle.script_lines.specs.declared.command.Command.TheVariants.{Drop, Cut, Pin, Unpin, Split, Merge, Locate, Edge, Curve, Attach, Leave, Mirror}
use Rattle.script_lines.specs.Words.{words}
use Rattle.script_lines.specs.Command.{point_form, pair_form, triple_form, curve_form, observer_form, observer_when_forms}
use Rattle.script_lines.proofs.FormMaps.{forms_reading-map}
use Rattle.script_lines.proofs.command.read_named.Goals as goal

pub returns-in-Drop : goal.returns-in-Drop
returns-in-Drop c = rw c.in-Drop.is (forms_reading-map Drop _ (λ x y h. search rules) (curve_form ∷ []) (words c.args.rest.now) _ _ c.curve.ensures c.map.ensures.cases)

pub returns-in-Cut : goal.returns-in-Cut
returns-in-Cut c = rw c.in-Cut.is (forms_reading-map (λ points. Cut points.0 points.1) _ (λ x y h. search rules) (pair_form ∷ []) (words c.args.rest.now) _ _ c.pair.ensures c.map-in-Cut.ensures.cases)

pub returns-in-Pin : goal.returns-in-Pin
returns-in-Pin c = rw c.in-Pin.is (forms_reading-map Pin _ (λ x y h. search rules) (point_form ∷ []) (words c.args.rest.now) _ _ c.point.ensures c.map-in-Pin.ensures.cases)

pub returns-in-Unpin : goal.returns-in-Unpin
returns-in-Unpin c = rw c.in-Unpin.is (forms_reading-map Unpin _ (λ x y h. search rules) (point_form ∷ []) (words c.args.rest.now) _ _ c.point-in-Unpin.ensures c.map-in-Unpin.ensures.cases)

pub returns-in-Split : goal.returns-in-Split
returns-in-Split c = rw c.in-Split.is (forms_reading-map (λ points. Split points.0.0 points.0.1 points.1) _ (λ x y h. search rules) (triple_form ∷ []) (words c.args.rest.now) _ _ c.triple.ensures c.map-in-Split.ensures.cases)

pub returns-in-Merge : goal.returns-in-Merge
returns-in-Merge c = rw c.in-Merge.is (forms_reading-map Merge _ (λ x y h. search rules) (point_form ∷ []) (words c.args.rest.now) _ _ c.point-in-Merge.ensures c.map-in-Merge.ensures.cases)

pub returns-in-Locate : goal.returns-in-Locate
returns-in-Locate c = rw c.in-Locate.is (forms_reading-map Locate _ (λ x y h. search rules) (point_form ∷ []) (words c.args.rest.now) _ _ c.point-in-Locate.ensures c.map-in-Locate.ensures.cases)

pub returns-in-Edge : goal.returns-in-Edge
returns-in-Edge c = rw c.in-Edge.is (forms_reading-map (λ points. Edge points.0 points.1) _ (λ x y h. search rules) (pair_form ∷ []) (words c.args.rest.now) _ _ c.pair-in-Edge.ensures c.map-in-Edge.ensures.cases)

pub returns-in-Curve : goal.returns-in-Curve
returns-in-Curve c = rw c.in-Curve.is (forms_reading-map Curve _ (λ x y h. search rules) (curve_form ∷ []) (words c.args.rest.now) _ _ c.curve-in-Curve.ensures c.map-in-Curve.ensures.cases)

pub returns-in-Attach : goal.returns-in-Attach
returns-in-Attach c = rw c.in-Attach.is (forms_reading-map (λ entry. Attach entry.0 entry.1) _ (λ x y h. search rules) observer_when_forms (words c.args.rest.now) _ _ c.observer_when.ensures c.map-in-Attach.ensures.cases)

pub returns-in-Leave : goal.returns-in-Leave
returns-in-Leave c = rw c.in-Leave.is (forms_reading-map (λ entry. Leave entry.0 entry.1) _ (λ x y h. search rules) observer_when_forms (words c.args.rest.now) _ _ c.observer_when-in-Leave.ensures c.map-in-Leave.ensures.cases)

pub returns-in-Mirror : goal.returns-in-Mirror
returns-in-Mirror c = rw c.in-Mirror.is (forms_reading-map Mirror _ (λ x y h. search rules) (observer_form ∷ []) (words c.args.rest.now) _ _ c.observer.ensures c.map-in-Mirror.ensures.cases)
