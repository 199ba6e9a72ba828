use Rattle.std.proofs.Common.{[], ◌∷◌, Ok, Err, refl, sym, ap, ◌∙◌, cond, arith}
use Rattle.std.proofs.lemmas.List.{length-replicate}
use Rattle.std.proofs.Math.Facts.{to_z-of_z}
use Rattle.std.specs.Int.{w128}
use Rattle.script_lines.specs.declared.error.LineError.TheVariants.{Number}
use Rattle.script_lines.specs.Words.{words}
use Rattle.script_lines.proofs.Numbers.{Took, Took-more, none_left, numbers_of-other, numbers_of-all}
use Rattle.script_lines.proofs.form.numbers.Goals as goal

pub loop-slot-init : goal.loop-slot-init
loop-slot-init g c = record { within = omega arith; room = length-replicate g.row.N _; read_is = refl; kept = λ t. refl; rest = refl }

pub returns-in_default : goal.returns-in_default
returns-in_default g c =
    let few = none_left (words c.args.line.now) c.loop-slot.slot-index (sym c.in_default.ensures ∙ c.loop-slot.invariant.rest) in
    sym (numbers_of-other (words c.args.line.now) g.row.N (λ e. omega arith))

pub loop-slot-preserved : goal.loop-slot-preserved
loop-slot-preserved g c =
    let took : Took (words c.args.line.now) g.row.N c.loop-slot.slot-index c.loop-slot.slot-items c.loop-slot.are_read (c.in-Some.word.now ∷ words c.in-Some.behind.now) = rw (← c.in-Some.ensures) c.loop-slot.invariant in
    Took-more (words c.args.line.now) g.row.N c.loop-slot.slot-index c.loop-slot.slot-items c.loop-slot.are_read c.in-Some.word.now (words c.in-Some.behind.now) c.read_number-number.result c.is_some-are_read.result _ c.loop-slot-test.true took
    c.read_number-number.ensures c.is_some-are_read.ensures (to_z-of_z {w = w128} (omega arith) ∙ c.unwrap_or.ensures)

pub returns-in-None : goal.returns-in-None
returns-in-None g c =
    let took : Took (words c.args.line.now) g.row.N c.loop-slot.slot-index c.loop-slot.slot-items c.loop-slot.are_read [] = rw (← c.in-None.ensures) c.loop-slot.invariant in
    sym (numbers_of-all (words c.args.line.now) g.row.N c.loop-slot.slot-index c.loop-slot.slot-items c.loop-slot.are_read took c.loop-slot-test.false c.loop-slot.auto.slot-index-end
    ∙ ap (λ b. cond b (Ok c.loop-slot.slot-items) (Err Number)) c.if-are_read.true)

pub returns-in-None-2 : goal.returns-in-None-2
returns-in-None-2 g c =
    let took : Took (words c.args.line.now) g.row.N c.loop-slot.slot-index c.loop-slot.slot-items c.loop-slot.are_read [] = rw (← c.in-None.ensures) c.loop-slot.invariant in
    sym (numbers_of-all (words c.args.line.now) g.row.N c.loop-slot.slot-index c.loop-slot.slot-items c.loop-slot.are_read took c.loop-slot-test.false c.loop-slot.auto.slot-index-end
    ∙ ap (λ b. cond b (Ok c.loop-slot.slot-items) (Err Number)) c.if-are_read.false)
