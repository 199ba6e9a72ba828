use Rattle.std.proofs.Common.{◌≡◌, false, [], ◌∷◌, length, None, rules, sym, ◌∙◌}
use Rattle.std.proofs.lemmas.Bool.{ne_eqb}
use Rattle.script_lines.specs.Words.{words}
use Rattle.script_lines.specs.Form.{form_map, has_count}
use Rattle.script_lines.specs.Command.{observer_form, observer_at_form}
use Rattle.script_lines.proofs.FormAnswers.{forms_reading-without}
use Rattle.script_lines.proofs.FormMaps.{forms_reading-map}
use Rattle.script_lines.proofs.form.observer_when.Goals as goal

pub returns : goal.returns
returns c =
    let other : has_count (words c.args.line.now) observer_at_form ≡ false = ne_eqb (length (words c.args.line.now)) 3 (λ same. c.if-count_words-eq3.false (c.count_words.ensures ∙ same)) in
    forms_reading-map (λ i. (i, None)) _ (λ x y h. search rules) (observer_form ∷ []) (words c.args.line.now) _ _ c.observer.ensures c.map.ensures.cases
    ∙ sym (forms_reading-without (words c.args.line.now) observer_at_form other (form_map (λ i. (i, None)) observer_form ∷ []) [])
