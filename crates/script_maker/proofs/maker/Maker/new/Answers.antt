use Rattle.script_maker.proofs.Lines.{lines_from-start}
use Rattle.script_maker.proofs.maker.Maker.new.Goals as goal

pub returns : goal.returns
returns c = lines_from-start c.args.segments c.args.seed
