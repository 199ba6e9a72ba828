use Rattle.std.proofs.Common.{◌∙◌, subst}
use Rattle.mirror_observer.specs.FaceParts.{AreJoinedAt, before_place}
use Rattle.mirror_observer.specs.FaceTables.{faces_in}
use Rattle.mirror_observer.specs.Tables.{darts_of}
use Rattle.mirror_observer.proofs.faces.FaceTables.link_first.Goals as goal

pub join-requires-clause-found : goal.join-requires-clause-found
join-requires-clause-found c =
    let ds = c.args.darts.now.entries in
    let g = darts_of ds in
    let found = subst (λ told. AreJoinedAt ds (faces_in c.args.self.now) (before_place g c.args.start.place) (before_place g c.args.finish.place) told) c.in-Joins.is c.requires.joined in
    λ first second k h e. found (λ d q. first d (c.before-first.ensures ∙ q)) (λ d q. second d (c.before-second.ensures ∙ q)) k h e
