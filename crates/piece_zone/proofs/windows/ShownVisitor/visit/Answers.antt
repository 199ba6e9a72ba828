use Rattle.std.proofs.Common.{[], ◌∷◌, refl, sym, subst, inl}
use Rattle.plane_graphs.specs.Ascending.{Member}
use Rattle.plane_graphs.proofs.Lists.{in_left, in_right}
use Rattle.piece_zone.proofs.Shown.{more_shown, same_shown}
use Rattle.piece_zone.proofs.windows.ShownVisitor.visit.Goals as goal

pub returns-in-Ok-clause-ready : goal.returns-in-Ok-clause-ready
returns-in-Ok-clause-ready c =
    let (k, may, knows) = c.requires.ready in
    more_shown c.args.self.now _ c.args.entry.now.name k may knows refl c.in-Ok.ensures.items

pub returns-in-Err-clause-ready : goal.returns-in-Err-clause-ready
returns-in-Err-clause-ready c =
    let (k, may, knows) = c.requires.ready in
    same_shown c.args.self.now _ c.args.entry.now.name k may knows refl c.in-Err.ensures.items

pub returns-in-Ok-clause-seen : goal.returns-in-Ok-clause-seen
returns-in-Ok-clause-seen c = λ failed. subst (Member c.args.entry.now.name) (sym c.in-Ok.ensures.items) (in_right c.args.entry.now.name c.args.self.now.names.items (c.args.entry.now.name ∷ []) (inl (λ i. c.args.entry.now.name)))

pub returns-in-Ok-clause-still : goal.returns-in-Ok-clause-still
returns-in-Ok-clause-still c = λ e s failed. subst (Member e.name) (sym c.in-Ok.ensures.items) (in_left e.name c.args.self.now.names.items (c.args.entry.now.name ∷ []) (s failed))
