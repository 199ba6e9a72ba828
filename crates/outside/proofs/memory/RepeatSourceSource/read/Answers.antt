use Rattle.std.proofs.Common.{◌≡◌, ◌∙◌, ap, length, replicate, take, arith}
use Rattle.std.proofs.lemmas.List.{length-take}
use Rattle.outside.proofs.Gives.{GivesCount-replicate}
use Rattle.outside.proofs.memory.RepeatSourceSource.read.Goals as goal

pub returns-clause-bytes : goal.returns-clause-bytes
returns-clause-bytes c =
    let size : length (take c.min-count.result c.args.buf.now) ≡ c.min-count.result = omega (arith, length-take c.min-count.result c.args.buf.now) in
    let filled : c.fill.new.self ≡ replicate c.min-count.result c.self.inside.byte = c.fill.ensures.after (λ y same. same) ∙ ap (λ n. replicate n c.self.inside.byte) size in
    rw (← c.self.view_is) (GivesCount-replicate c.self.inside.n c.min-count.result c.self.inside.byte c.fill.new.self c.args.buf.now c.min-count.ensures filled)
