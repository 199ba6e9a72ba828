use Rattle.std.proofs.Common.{◌≡◌, sym, ap, subst, ◌∙◌}
use Rattle.slab_laws.specs.declared.names.DartId.{DartId}
use Rattle.slab_laws.specs.View.{HasDart, dart_id, twin_in}
use Rattle.subdivision_rows.specs.Listed.{view_of}
use Rattle.subdivision_rows.proofs.DartLists.{twin_within, twin_reads, stands}
use Rattle.subdivision_rows.proofs.Items.{place}
use Rattle.subdivision_rows.proofs.records.RowsDarts.twin.Goals as goal

pub index-requires : goal.index-requires
index-requires c = place c.self.inside.lists.twins c.args.d.0 (twin_within c.self.inside.lists c.args.self.now c.self.invariant c.self.view_is c.args.d c.requires)

is_twin : (c : goal.After-row_known-1) → dart_id c.index.result.now ≡ twin_in (view_of c.args.self.now) c.args.d
is_twin c = twin_reads c.self.inside.lists c.args.self.now c.self.invariant c.self.view_is c.args.d c.index.result.now c.requires c.index.ensures

pub returns-clause-twin : goal.returns-clause-twin
returns-clause-twin c = is_twin c

pub returns-clause-has : goal.returns-clause-has
returns-clause-has c = subst (λ (h : DartId). HasDart (view_of c.args.self.now) h) (sym (is_twin c)) ((stands c.self.inside.lists c.args.self.now c.self.invariant c.self.view_is).graph.twinned.has c.args.d c.requires)

pub returns-clause-back : goal.returns-clause-back
returns-clause-back c = ap (twin_in (view_of c.args.self.now)) (is_twin c) ∙ (stands c.self.inside.lists c.args.self.now c.self.invariant c.self.view_is).graph.twinned.back c.args.d c.requires

pub returns-clause-other : goal.returns-clause-other
returns-clause-other c e = (stands c.self.inside.lists c.args.self.now c.self.invariant c.self.view_is).graph.twinned.other c.args.d c.requires (sym (is_twin c) ∙ e)
