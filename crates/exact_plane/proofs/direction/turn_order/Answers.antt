use Rattle.std.proofs.Common.{rules, ◌≡◌, ◌↔◌, sym, subst, Ordering, Less, Equal}
use Rattle.exact_plane.specs.Direction.{turn_cmp, IsDirection, IsOneDirection, IsClockwise}
use Rattle.exact_plane.proofs.Clockwise.{clockwise}
use Rattle.exact_plane.proofs.Turns.{one_direction, first_before}
use Rattle.exact_plane.proofs.direction.turn_order.Goals as goal

pub returns-clause-clockwise : goal.returns-clause-clockwise
returns-clause-clockwise c = λ n.
    let f : IsDirection c.args.first = search rules in
    let a : IsDirection c.args.a = search rules in
    let b : IsDirection c.args.b = search rules in
    let e : c.then.result ≡ turn_cmp c.args.first c.args.a c.args.b = search rules in
    subst (λ (o : Ordering). (o ≡ Less) ↔ IsClockwise c.args.first c.args.a c.args.b) (sym e) (clockwise c.args.first c.args.a c.args.b f a b n)

pub returns-clause-one_direction : goal.returns-clause-one_direction
returns-clause-one_direction c =
    let f : IsDirection c.args.first = search rules in
    let a : IsDirection c.args.a = search rules in
    let b : IsDirection c.args.b = search rules in
    let e : c.then.result ≡ turn_cmp c.args.first c.args.a c.args.b = search rules in
    subst (λ (o : Ordering). (o ≡ Equal) ↔ IsOneDirection c.args.a c.args.b) (sym e) (one_direction c.args.first c.args.a c.args.b f a b)

pub returns-clause-first_before : goal.returns-clause-first_before
returns-clause-first_before c = λ h n.
    let e : c.then.result ≡ turn_cmp c.args.first c.args.a c.args.b = search rules in
    subst (λ (o : Ordering). o ≡ Less) (sym e) (first_before c.args.first c.args.a c.args.b h n)

pub returns-clause-value : goal.returns-clause-value
returns-clause-value c = search rules
