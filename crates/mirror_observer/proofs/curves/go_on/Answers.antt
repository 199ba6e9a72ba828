use Rattle.std.proofs.Common.{◌∙◌, sym}
use Rattle.mirror_observer.proofs.Placing.{gained_less, gained_equal, gained_greater}
use Rattle.mirror_observer.proofs.curves.go_on.Goals as goal

pub returns-in_ok-push-in-Less-2 : goal.returns-in_ok-push-in-Less-2
returns-in_ok-push-in-Less-2 c = λ rest. gained_less c.args.curve c.args.next c.args.come c.if-come.false rest c.args.more.now _ _ (sym c.cmp.ensures ∙ c.in-Less.is) c.in_ok-push-in-Less.ensures.added c.in_ok-push-in-Less-2.ensures.added

pub returns-in_ok-push-in-Equal : goal.returns-in_ok-push-in-Equal
returns-in_ok-push-in-Equal c = λ rest. gained_equal c.args.curve c.args.next c.args.come c.if-come.false rest c.args.more.now _ (sym c.cmp.ensures ∙ c.in-Equal.is) c.in_ok-push-in-Equal.ensures.added

pub returns-in_ok-push-in-Greater : goal.returns-in_ok-push-in-Greater
returns-in_ok-push-in-Greater c = λ rest. gained_greater c.args.curve c.args.next c.args.come c.if-come.false rest c.args.more.now _ (sym c.cmp.ensures ∙ c.in-Greater.is) c.in_ok-push-in-Greater.ensures.added
