use Rattle.std.proofs.Common.{◌≡◌, refl, sym, ap, subst}
use Rattle.std.specs.Prelude.{Result, Ok, Err}
use Rattle.plane_graphs.specs.Ascending.{Member}
use Rattle.plane_graphs.proofs.Ascending.{from_member, to_member}
use Rattle.curve_history.specs.declared.history.HistoryError.{HistoryError}
use Rattle.curve_history.specs.declared.history.HistoryError.TheVariants.{Unknown, NoMemory as OutOfMemory}
use Rattle.edit_steps.proofs.Refusals.{no_memory, drop_unknown, drop_allowed}
use Rattle.told_steps.specs.RecordLayers.{layer_of}
use Rattle.told_steps.proofs.LayerEdges.{all_forward}
use Rattle.segment_remove.specs.Refused.{drop_said}
use Rattle.segment_remove.specs.declared.drops.DropError.TheVariants.{NoMemory}
use Rattle.segment_remove.proofs.Refusals.{is_named, not_named, named_unless}
use Rattle.segment_remove.proofs.drops.edges_of_curve.Goals as goal

known : {A : Type 0} (a : A) (r : Result A HistoryError) → r ≡ Ok a → r ≡ Err Unknown → ⊥
known a r e f = cc

no_unknown : {A : Type 0} (x : HistoryError) (r : Result A HistoryError) → r ≡ Err x → x ≡ OutOfMemory → r ≡ Err Unknown → ⊥
no_unknown x r e i f = cc

pub returns-in-Err-Unknown-clause-refused : goal.returns-in-Err-Unknown-clause-refused
returns-in-Err-Unknown-clause-refused c = drop_unknown (layer_of c.args.records.now.graph c.args.history.now) c.args.curve.0 (not_named c.args.history.now.names c.args.curve.0 (c.in-Err-Unknown.ensures.unknown.0 (ap Err c.in-Err-Unknown.field-0-is)))

pub returns-in-Err-NoMemory-clause-refused : goal.returns-in-Err-NoMemory-clause-refused
returns-in-Err-NoMemory-clause-refused c = sym (drop_allowed (layer_of c.args.records.now.graph c.args.history.now) c.args.curve.0 (is_named c.args.history.now.names c.args.curve.0 (named_unless c.args.history.now.names c.args.curve.0 _ c.in-Err-NoMemory.ensures.unknown (no_unknown c.in-Err-NoMemory.field-0 (Err c.in-Err-NoMemory.field-0) refl c.in-Err-NoMemory.field-0-is))))

pub edges_in_order-requires-clause-forward : goal.edges_in_order-requires-clause-forward
edges_in_order-requires-clause-forward c =
    let ds = c.in-Ok.darts.items in
    rw c.deref.ensures.value (all_forward c.args.records.now.graph c.args.history.now c.requires c.args.curve.0 ds c.in-Ok.ensures.edges ds (λ d m. m))

pub returns-in_err-edges-clause-refused : goal.returns-in_err-edges-clause-refused
returns-in_err-edges-clause-refused c = no_memory drop_said NoMemory _ c.from_residual.result c.from_residual.ensures.1 refl (drop_allowed (layer_of c.args.records.now.graph c.args.history.now) c.args.curve.0 (is_named c.args.history.now.names c.args.curve.0 (named_unless c.args.history.now.names c.args.curve.0 _ c.in-Ok.ensures.unknown (known c.in-Ok.darts (Ok c.in-Ok.darts) refl))))

pub returns-clause-all : goal.returns-clause-all
returns-clause-all c =
    let ds = c.in-Ok.darts.items in
    λ d. (
      λ m. (c.in-Ok.ensures.edges d).0 (from_member ds d (subst (Member d) c.deref.ensures.value ((c.in_ok-edges.ensures.names d).0 m))),
      λ m. (c.in_ok-edges.ensures.names d).1 (rw c.deref.ensures.value (to_member ds d ((c.in-Ok.ensures.edges d).1 m))),
    )

pub returns-clause-named : goal.returns-clause-named
returns-clause-named c = named_unless c.args.history.now.names c.args.curve.0 _ c.in-Ok.ensures.unknown (known c.in-Ok.darts (Ok c.in-Ok.darts) refl)

pub returns-clause-refused : goal.returns-clause-refused
returns-clause-refused c = drop_allowed (layer_of c.args.records.now.graph c.args.history.now) c.args.curve.0 (is_named c.args.history.now.names c.args.curve.0 (named_unless c.args.history.now.names c.args.curve.0 _ c.in-Ok.ensures.unknown (known c.in-Ok.darts (Ok c.in-Ok.darts) refl)))
