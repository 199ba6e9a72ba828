use Rattle.std.proofs.Common.{Some, sym, ap, ◌∙◌, subst, ⊎_elim, inl, inr}
use Rattle.std.specs.Prelude.{IfSome}
use Rattle.zone_walk.specs.Searches.{IsOnEdge, IsThere}
use Rattle.zone_walk.proofs.search.take_on.Goals as goal

pub returns-in-Some-clause-taken : goal.returns-in-Some-clause-taken
returns-in-Some-clause-taken g c = λ f. rw c.in-Some.is (c.take.ensures.taken f)

pub returns-in-Some-clause-only : goal.returns-in-Some-clause-only
returns-in-Some-clause-only g c = λ p at m.
    ⊎_elim (λ n. inl n)
    (λ w. inr (
      c.in-Some.is ∙ ap Some (sym w.0),
      subst (λ x. IsThere (g.T.NameCalls.graph c.args.sight.now) x at) (sym w.0) (subst (IsThere (g.T.NameCalls.graph c.args.sight.now) c.in-Some.point) (sym w.1) (c.spot_on-spot.ensures (subst (λ o. IfSome o (IsOnEdge (g.T.NameCalls.graph c.args.sight.now) c.args.dart)) c.in-Some.is c.requires.on))),
      w.2,
    )) (c.take.ensures.only p at m)
