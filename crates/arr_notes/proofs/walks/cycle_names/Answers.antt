use Rattle.std.proofs.Common.{◌++◌, None, refl, sym, ap, subst, ◌∙◌}
use Rattle.std.specs.List.{AllByRecursion}
use Rattle.slab_laws.specs.declared.names.CycleId.{CycleId}
use Rattle.slab_laws.specs.Tables.{names}
use Rattle.slab_laws.specs.View.{HasCycle, cycle_id}
use Rattle.arr_notes.proofs.After.{all_left, pushed, fewer, ended, left}
use Rattle.arr_notes.proofs.NamedTables.{names_have, made_have}
use Rattle.arr_notes.proofs.walks.cycle_names.Goals as goal

pub loop-name-init : goal.loop-name-init
loop-name-init g c = all_left cycle_id (λ (u : CycleId). u.0) (λ n. refl) (names (g.R.Faced.faces c.args.records.now).cycles) ∙ ap (λ xs. xs ++ left cycle_id (λ (u : CycleId). u.0) (λ n. refl) (names (g.R.Faced.faces c.args.records.now).cycles) None) (sym c.new-found.ensures.items)

pub loop-name-smaller : goal.loop-name-smaller
loop-name-smaller g c = fewer cycle_id (λ (u : CycleId). u.0) (λ n. refl) (names (g.R.Faced.faces c.args.records.now).cycles) c.loop-name.last c.in-Some.name c.in-Some.ensures.ascend c.in-Some.ensures.after

pub loop-name-preserved : goal.loop-name-preserved
loop-name-preserved g c = pushed cycle_id (λ (u : CycleId). u.0) (λ n. refl) (names (g.R.Faced.faces c.args.records.now).cycles) c.loop-name.found.items c.push.new.self.items c.loop-name.last c.in-Some.name c.in-Some.ensures.ascend c.in-Some.ensures.after c.loop-name.invariant (c.in_ok-push.ensures.items)

pub returns-clause-names : goal.returns-clause-names
returns-clause-names g c = ended cycle_id (λ (u : CycleId). u.0) (λ n. refl) (names (g.R.Faced.faces c.args.records.now).cycles) c.loop-name.found.items c.loop-name.last (sym c.in_default.is ∙ c.cycle_after.ensures.after) c.loop-name.invariant

pub returns-clause-have : goal.returns-clause-have
returns-clause-have g c = subst (AllByRecursion (λ u. HasCycle (g.R.Faced.faces c.args.records.now) u)) (sym (returns-clause-names g c)) (made_have cycle_id (λ u. HasCycle (g.R.Faced.faces c.args.records.now) u) _ (names_have (g.R.Faced.faces c.args.records.now).cycles))
