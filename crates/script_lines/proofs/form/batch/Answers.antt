use Rattle.std.proofs.Common.{[], ◌∷◌, sym, refl, ◌∙◌}
use Rattle.script_lines.specs.Words.{words}
use Rattle.script_lines.specs.Command.{batch_made}
use Rattle.script_lines.proofs.FormNumbers.{forms_reading-chosen}
use Rattle.script_lines.proofs.form.batch.Goals as goal

pub returns-in-3 : goal.returns-in-3
returns-in-3 c =
    c.batch_of.ensures
    ∙ sym (forms_reading-chosen batch_made (words c.args.line.now) [] 3 (6 ∷ 9 ∷ 12 ∷ 15 ∷ 18 ∷ 21 ∷ 24 ∷ []) (sym c.count_words.ensures ∙ c.in-3.is) refl refl)

pub returns-in-6 : goal.returns-in-6
returns-in-6 c =
    c.batch_of-in-6.ensures
    ∙ sym (forms_reading-chosen batch_made (words c.args.line.now) (3 ∷ []) 6 (9 ∷ 12 ∷ 15 ∷ 18 ∷ 21 ∷ 24 ∷ []) (sym c.count_words.ensures ∙ c.in-6.is) refl refl)

pub returns-in-9 : goal.returns-in-9
returns-in-9 c =
    c.batch_of-in-9.ensures
    ∙ sym (forms_reading-chosen batch_made (words c.args.line.now) (3 ∷ 6 ∷ []) 9 (12 ∷ 15 ∷ 18 ∷ 21 ∷ 24 ∷ []) (sym c.count_words.ensures ∙ c.in-9.is) refl refl)

pub returns-in-12 : goal.returns-in-12
returns-in-12 c =
    c.batch_of-in-12.ensures
    ∙ sym (forms_reading-chosen batch_made (words c.args.line.now) (3 ∷ 6 ∷ 9 ∷ []) 12 (15 ∷ 18 ∷ 21 ∷ 24 ∷ []) (sym c.count_words.ensures ∙ c.in-12.is) refl refl)

pub returns-in-15 : goal.returns-in-15
returns-in-15 c =
    c.batch_of-in-15.ensures
    ∙ sym (forms_reading-chosen batch_made (words c.args.line.now) (3 ∷ 6 ∷ 9 ∷ 12 ∷ []) 15 (18 ∷ 21 ∷ 24 ∷ []) (sym c.count_words.ensures ∙ c.in-15.is) refl refl)

pub returns-in-18 : goal.returns-in-18
returns-in-18 c =
    c.batch_of-in-18.ensures
    ∙ sym (forms_reading-chosen batch_made (words c.args.line.now) (3 ∷ 6 ∷ 9 ∷ 12 ∷ 15 ∷ []) 18 (21 ∷ 24 ∷ []) (sym c.count_words.ensures ∙ c.in-18.is) refl refl)

pub returns-in-21 : goal.returns-in-21
returns-in-21 c =
    c.batch_of-in-21.ensures
    ∙ sym (forms_reading-chosen batch_made (words c.args.line.now) (3 ∷ 6 ∷ 9 ∷ 12 ∷ 15 ∷ 18 ∷ []) 21 (24 ∷ []) (sym c.count_words.ensures ∙ c.in-21.is) refl refl)

pub returns-in-24 : goal.returns-in-24
returns-in-24 c =
    c.batch_of-in-24.ensures
    ∙ sym (forms_reading-chosen batch_made (words c.args.line.now) (3 ∷ 6 ∷ 9 ∷ 12 ∷ 15 ∷ 18 ∷ 21 ∷ []) 24 [] (sym c.count_words.ensures ∙ c.in-24.is) refl refl)
