use Rattle.std.proofs.Common.{◌<◌, ℕ, Vec, Global, length, ap, arith}
use Rattle.std.proofs.lemmas.List.{length-map}
use Rattle.std.proofs.lemmas.Result.{err_from_is_err_and}
use Rattle.record_orders.proofs.BodyTexts.{kept, appended}
use Rattle.record_orders.proofs.bodies.Bodies.append.Goals as goal

pub returns-in_err-extend_from_slice-clause-stays : goal.returns-in_err-extend_from_slice-clause-stays
returns-in_err-extend_from_slice-clause-stays c =
    let p = err_from_is_err_and c.from_residual.result c.from_residual.ensures.1 in
    rw (p.1) (kept (λ (t : Vec ℕ Global). t.items) c.self.inside.texts.items c.args.self.now c.self.view_is c.args.place c.index_mut.result.now c.extend_from_slice.new.self c.index_mut.ensures.value c.in_err-extend_from_slice.ensures.items)

pub returns-clause-appends : goal.returns-clause-appends
returns-clause-appends c =
    let below : c.args.place < length c.self.inside.texts.items = omega (arith, ap length c.self.view_is, length-map c.self.inside.texts.items (λ (t : Vec ℕ Global). t.items), c.requires) in
    appended (λ (t : Vec ℕ Global). t.items) c.self.inside.texts.items c.args.self.now c.self.view_is c.args.place c.index_mut.result.now c.extend_from_slice.new.self c.index_mut.ensures.value c.args.bytes.now below c.in_ok-extend_from_slice.ensures.items
