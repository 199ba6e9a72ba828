use Rattle.std.proofs.Common.{◌∙◌, sym, ap, subst, map}
use Rattle.slab_laws.specs.View.{curve_id}
use Rattle.arr_notes.specs.CurvedView.{IsSoundView}
use Rattle.mirror_observer.specs.Reading.{curves_at_edge}
use Rattle.mirror_observer.proofs.GraphSeen.{names_again, list_ascends, twins_alike}
use Rattle.mirror_observer.proofs.seen.SeenCurved.curves.Goals as goal

pub returns-in_err-list-clause-ascend : goal.returns-in_err-list-clause-ascend
returns-in_err-list-clause-ascend c = list_ascends c.args.self.now (subst (λ w. IsSoundView w) c.self.view_is c.self.invariant.0) c.args.d

pub returns-in_err-list-clause-twins : goal.returns-in_err-list-clause-twins
returns-in_err-list-clause-twins c = twins_alike c.args.self.now (subst (λ w. IsSoundView w) c.self.view_is c.self.invariant.0) c.args.d c.requires

pub returns-clause-curves : goal.returns-clause-curves
returns-clause-curves c = c.into_vec.ensures ∙ sym (names_again c.in_ok-list.list) ∙ ap (map curve_id) (c.in_ok-list.ensures ∙ ap (λ w. curves_at_edge w c.args.d) c.self.view_is)

pub returns-clause-ascend : goal.returns-clause-ascend
returns-clause-ascend c = list_ascends c.args.self.now (subst (λ w. IsSoundView w) c.self.view_is c.self.invariant.0) c.args.d

pub returns-clause-twins : goal.returns-clause-twins
returns-clause-twins c = twins_alike c.args.self.now (subst (λ w. IsSoundView w) c.self.view_is c.self.invariant.0) c.args.d c.requires
