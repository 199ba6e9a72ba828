use Rattle.std.proofs.Common.{◌∙◌, ap, sym}
use Rattle.slab_laws.specs.View.{bare_or}
use Rattle.mirror_observer.proofs.Entries.{found}
use Rattle.mirror_observer.proofs.faces.FaceTables.bare_at.Goals as goal

pub returns-in-Some : goal.returns-in-Some
returns-in-Some c = ap bare_or (sym c.in-Some.is ∙ c.copied.ensures ∙ c.get.ensures.value ∙ found c.args.self.now.bare.entries c.args.v.0)

pub returns-in-None : goal.returns-in-None
returns-in-None c = ap bare_or (sym c.in-None.is ∙ c.copied.ensures ∙ c.get.ensures.value ∙ found c.args.self.now.bare.entries c.args.v.0)
