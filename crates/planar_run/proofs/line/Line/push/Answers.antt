use Rattle.std.proofs.Common.{◌≡◌, ◌<◌, ◌∷◌, [], ◌++◌, length, rules, sym}
use Rattle.planar_run.specs.declared.line.TheConstants.{KEPT}
use Rattle.planar_run.proofs.Takes.{take_full, keeps_more}
use Rattle.planar_run.proofs.line.Line.push.Goals as goal

pub returns-then-len-lt-KEPT : goal.returns-then-len-lt-KEPT
returns-then-len-lt-KEPT c =
    let short : length c.args.self.now < KEPT = search rules in
    let longer : c.push.new.self.items ≡ c.args.self.now ++ c.args.byte ∷ [] = search rules in
    keeps_more KEPT c.args.self.now c.push.new.self.items c.args.byte short longer

pub returns-else-len-lt-KEPT : goal.returns-else-len-lt-KEPT
returns-else-len-lt-KEPT c =
    let full : length c.args.self.now ≡ KEPT = search rules in
    sym (take_full KEPT c.args.self.now (c.args.byte ∷ []) full)
