use Rattle.std.proofs.Common.{◌∙◌, ap, sym}
use Rattle.slab_laws.specs.View.{cycle_or}
use Rattle.mirror_observer.proofs.Entries.{found}
use Rattle.mirror_observer.proofs.faces.FaceTables.cycle_at.Goals as goal

pub returns-in-Some : goal.returns-in-Some
returns-in-Some c = ap cycle_or (sym c.in-Some.is ∙ c.copied.ensures ∙ c.get.ensures.value ∙ found c.args.self.now.cycle_of.entries c.args.d.0)

pub returns-in-None : goal.returns-in-None
returns-in-None c = ap cycle_or (sym c.in-None.is ∙ c.copied.ensures ∙ c.get.ensures.value ∙ found c.args.self.now.cycle_of.entries c.args.d.0)
